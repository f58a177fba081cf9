-- Laws of the turn's search.
-- Assumes nothing.
use mathlib.Core.Path.{◌≡◌}
use mathlib.Core.Bool.{true, false}
use mathlib.Core.List.{List}
use Prim.Native.Nat.{ℕ, zero, suc, ◌-◌, ◌<◌}
use native.Mathlib.Numerals.{sub-one}
use native.Mathlib.Omega.{arith}
use Rattle.desk.specs.declared.Row.{Row}
use Rattle.std.specs.Prelude.{Some, None}
use Rattle.desk.specs.Parts.{stage_in, is_waiting, next}
use Rattle.desk.specs.Calls.{first_waiting}

pub seek_here : (rows : List Row) (left g : ℕ) → 0 < left → is_waiting (stage_in rows g) ≡ true → Some g ≡ first_waiting rows left g
unfolding first_waiting
seek_here rows zero g l e = absurd (omega arith)
seek_here rows (suc k) g l e = rw e

pub seek_on : (rows : List Row) (left g : ℕ) → 0 < left → is_waiting (stage_in rows g) ≡ false → first_waiting rows (left - 1) (next g) ≡ first_waiting rows left g
unfolding first_waiting
seek_on rows zero g l e = absurd (omega arith)
seek_on rows (suc k) g l e = rw (e, sub-one)

pub seek-none : (rows : List Row) (left g : ℕ) → left ≡ 0 → None ≡ first_waiting rows left g
unfolding first_waiting
seek-none rows left g e = rw e
