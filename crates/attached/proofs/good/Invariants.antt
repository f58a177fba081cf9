use mathlib.Core.Path.{◌≡◌}
use Rattle.attached.proofs.BadLaws.{good_to}
use Rattle.attached.proofs.good.Given as goal

abbrev pub invariant-loop-j : goal.invariant-loop-j
invariant-loop-j l = l.left ≡ good_to l.j l.l.list l.from l.k
