use mathlib.Core.Path.{◌≡◌}
use lib.ListN.{length}
use lib.Seq.{sets}
use Rattle.table.specs.Table.{records_of}
use Rattle.table.proofs.put_records.Given as goal

abbrev pub invariant-loop-i : goal.invariant-loop-i
invariant-loop-i l = (length l.out ≡ length l.fn.out) × (l.out ≡ sets l.fn.out 0 (records_of l.i l.b)) × (l.at ≡ length (records_of l.i l.b))
