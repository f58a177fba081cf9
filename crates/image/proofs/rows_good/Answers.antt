use borrow.Author.Rules.{rules}
use Rattle.image.specs.Image.{row_at}
use Rattle.image.specs.Judged.{row_good, rows_good}
use Rattle.image.proofs.rows_good.Goals as goal

pub returns : goal.returns
unfolding rows_good
returns c = c.all_in_turn.ensures (λ g. row_good c.args.b.now c.args.m (row_at g)) (λ g r h p. search rules)
