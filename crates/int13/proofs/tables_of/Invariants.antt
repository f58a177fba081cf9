use Prim.Native.Nat.{◌*◌}
use mathlib.Core.Path.{◌≡◌}
use lib.ListN.{length, replicate}
use lib.Seq.{sets}
use Rattle.table.specs.Table.{parameters_to}
use Rattle.int13.specs.Placement.{tables_to}
use Rattle.int13.proofs.tables_of.Given as goal

abbrev pub invariant-loop-i : goal.invariant-loop-i
invariant-loop-i l = (l.at ≡ 16 * parameters_to l.i l.b) × (length l.out ≡ 128) × (l.out ≡ sets (replicate 128 0) 0 (tables_to l.i l.b))
