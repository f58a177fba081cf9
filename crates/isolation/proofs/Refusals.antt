-- The number of a refused opening is a table's, at most 9, and no house number.
-- Assumes nothing.
use Prim.Native.Nat.{◌≤◌}
use native.Mathlib.Omega.{arith}
use Rattle.table.specs.declared.Refusal.{Refusal}
use Rattle.table.specs.declared.Refusal.TheVariants.{CutOff, WrongLength, UnknownKind, NinthDrive, BadField, PastStore, Overlapping, ByteFollows, NotLast}
use Rattle.table.specs.Table.{number}

pub number-low : (x : Refusal) → number x ≤ 9
number-low CutOff = omega arith
number-low WrongLength = omega arith
number-low UnknownKind = omega arith
number-low NinthDrive = omega arith
number-low BadField = omega arith
number-low PastStore = omega arith
number-low Overlapping = omega arith
number-low ByteFollows = omega arith
number-low NotLast = omega arith
