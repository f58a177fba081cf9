use mathlib.Core.Path.{sym}
use lib.Seq.{length-take-le}
use borrow.Author.Rules.{rules}
use Rattle.feed.proofs.FeedLaws.{begun-is}
use Rattle.feed.proofs.begun.Goals as goal

pub slice_bounds-advance-end : goal.slice_bounds-advance-end
slice_bounds-advance-end c = sym (length-take-le _ _ (search rules))

pub returns : goal.returns
returns c = let a = c.args in begun-is _ a.b a.store c.advance-next.ensures
