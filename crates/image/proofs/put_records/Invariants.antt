use mathlib.Core.Path.{◌≡◌}
use lib.ListN.{length}
use lib.Seq.{sets}
use Rattle.table.specs.Table.{records_of}
use Rattle.image.specs.Image.{read_desk}
use Rattle.image.proofs.put_records.Given as goal

abbrev pub invariant-loop-i : goal.invariant-loop-i
invariant-loop-i l = (length l.out ≡ length l.initial.out) × (l.out ≡ sets l.initial.out 0 (records_of l.i (read_desk l.b).table)) × (l.at ≡ length (records_of l.i (read_desk l.b).table))
