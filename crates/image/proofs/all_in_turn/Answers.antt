use Rattle.logic.proofs.LogicLaws.{all_fails}
use native.Mathlib.Omega.{arith}
use Rattle.image.proofs.all_in_turn.Goals as goal

pub returns-then-not-test : goal.returns-then-not-test
returns-then-not-test g c = λ p h. all_fails c.args.n c.loop-i.i p (omega arith) (h c.loop-i.i _ (omega arith) c.test.ensures) c.if-not-test.true
