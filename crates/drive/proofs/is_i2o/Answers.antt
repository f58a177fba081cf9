use mathlib.Core.Path.{refl}
use Prim.Native.Nat.{ℕ}
use mir.Val.{Fits}
use mir.Syntax.{w8}
use lib.ListN.{get_or}
use borrow.Author.Rules.{rules}
use Rattle.drive.specs.Drive.{is_i2o, i2o}
use Rattle.drive.proofs.DriveLaws.{named_word}
use Rattle.drive.proofs.is_i2o.Goals as goal

pub returns : goal.returns
unfolding is_i2o
returns c =
    let b = c.args.d.interface in
    let f : (i : ℕ) → Fits w8 (get_or b i 0) = λ i. search rules in
    rw c.from_le_bytes.ensures (named_word 7 b i2o c.from_le_bytes-v.ensures (search rules) (λ i. (f i).fits) refl refl)
