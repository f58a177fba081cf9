use Rattle.image.proofs.Judged.{zero-given}
use Prim.Native.Nat.{ℕ}
use mathlib.Core.Path.{ap}
use mathlib.Core.Bool.{Bool}
use lib.Dec.{eqb}
use Rattle.image.proofs.zero_given.Goals as goal

pub returns : goal.returns
returns c =
    let a = c.args in
    let zero : ℕ → Bool = λ w. eqb w 0 in
    zero-given a.b.now a.at (ap zero c.get.ensures) (ap zero c.get-2.ensures) c.and.ensures
