use borrow.Author.Rules.{rules}
use lib.Dec.{ltb}
use Rattle.logic.specs.Logic.{either}
use Rattle.image.specs.Image.{slot_at}
use Rattle.image.specs.Judged.{below, rest_zero}
use Rattle.image.proofs.rest_zero.Goals as goal

pub returns : goal.returns
unfolding rest_zero
returns c = c.all_in_turn.ensures (λ i. either (ltb i c.args.n) (below 16 1 c.args.b.now (slot_at i))) (λ i r h p. search rules)
