use borrow.Author.Rules.{rules}
use Rattle.table.specs.Table.{listed_at, listed_to}
use Rattle.image.specs.Image.{read_desk}
use Rattle.image.proofs.all_listed.Goals as goal

pub returns : goal.returns
unfolding listed_to
returns c = c.all_in_turn.ensures (listed_at (read_desk c.args.b.now).table) (λ i r h p. search rules)
