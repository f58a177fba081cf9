use Rattle.std.proofs.Common.{ℕ, Bool, true, ◌≡◌, ◌<◌}
use Rattle.logic.specs.Logic.{all_below}
use Rattle.image.proofs.all_in_turn.Given as goal

abbrev pub invariant-loop-i : goal.invariant-loop-i
invariant-loop-i g l = (p : ℕ → Bool) → ((i : ℕ) (r : Bool) → i < l.n → goal.F-post g l.fn.test i r → r ≡ p i) → all_below l.i p ≡ true
