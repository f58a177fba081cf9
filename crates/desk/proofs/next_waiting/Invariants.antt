use Prim.Native.Nat.{◌+◌, ◌-◌, ◌%◌}
use mathlib.Core.Path.{◌≡◌}
use Rattle.desk.specs.Calls.{first_waiting}
use Rattle.desk.proofs.next_waiting.Given as goal

abbrev pub invariant-loop-i : goal.invariant-loop-i
invariant-loop-i l = first_waiting l.rows (8 - l.i) ((l.pointer + l.i) % 8) ≡ first_waiting l.rows 8 l.pointer
