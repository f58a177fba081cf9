use Prim.Native.Nat.{◌≤◌}
use mathlib.Core.Path.{◌≡◌}
use Rattle.table.specs.Table.{parameters_to}
use Rattle.image.specs.Image.{read_desk}
use Rattle.image.proofs.tables_before.Given as goal

abbrev pub invariant-loop-i : goal.invariant-loop-i
invariant-loop-i l = (l.count ≤ l.i) × (l.count ≡ parameters_to l.i (read_desk l.b).table)
