use Rattle.image.specs.Image.{each, flat}
use lib.Seq.{sets}
use lib.ListN.{take}
use mathlib.Core.Path.{◌≡◌}
use Rattle.image.proofs.put_each.Given as goal

abbrev pub invariant-loop-k : goal.invariant-loop-k
invariant-loop-k g l = l.out ≡ sets l.initial.out l.at (flat (each g.T.Words.words (take l.k l.items)))
