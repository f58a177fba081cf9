use borrow.Author.Rules.{rules}
use Rattle.table.specs.Table.{attached_at, attached_to}
use Rattle.image.specs.Image.{read_desk}
use Rattle.image.proofs.all_attached.Goals as goal

pub returns : goal.returns
unfolding attached_to
returns c = c.all_below.ensures (attached_at (read_desk c.args.b.now).table) (λ i r h p. search rules)
