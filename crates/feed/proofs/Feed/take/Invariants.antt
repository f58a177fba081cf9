use mathlib.Core.Path.{◌≡◌}
use lib.ListN.{take}
use Rattle.feed.specs.Feed.{feed_all}
use Rattle.feed.proofs.Feed.take.Given as goal

abbrev pub invariant-loop-x : goal.invariant-loop-x
invariant-loop-x l = l.f ≡ feed_all l.initial.f (take l.x-index l.bytes)
