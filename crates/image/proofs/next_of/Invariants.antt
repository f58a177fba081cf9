use Rattle.image.specs.Image.{read_desk}
use Rattle.desk.specs.Calls.{first_waiting}
use Prim.Native.Nat.{◌<◌, ◌-◌}
use mathlib.Core.Path.{◌≡◌}
use Rattle.image.proofs.next_of.Given as goal

abbrev pub invariant-loop : goal.invariant-loop
invariant-loop l = (l.guest < 8) × (first_waiting (read_desk l.b).rows (8 - l.counter) l.guest ≡ first_waiting (read_desk l.b).rows 8 l.initial.guest)
