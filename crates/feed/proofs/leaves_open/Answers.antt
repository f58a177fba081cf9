use mathlib.Core.Path.{◌≡◌, sym}
use Prim.Native.Nat.{◌+◌, ◌≤◌}
use native.Mathlib.Omega.{arith}
use lib.ListN.{length, set, length-set}
use lib.Seq.{length-take-le}
use borrow.Author.Rules.{rules}
use Rattle.feed.proofs.FeedLaws.{open_found, open_full}
use Rattle.feed.proofs.leaves_open.Goals as goal

pub returns-then-n-ge-LONGEST_RECORD : goal.returns-then-n-ge-LONGEST_RECORD
returns-then-n-ge-LONGEST_RECORD c = let a = c.args in open_full a.held.now a.n a.x c.if-n-ge-LONGEST_RECORD.true

pub slice_bounds-is_unfinished-end : goal.slice_bounds-is_unfinished-end
slice_bounds-is_unfinished-end c =
    let a = c.args in
    -- there is room for the byte
    let room : length a.held.now ≡ 134 = search rules in
    let inside : a.n + 1 ≤ length (set a.held.now a.n a.x) = omega (arith, room, c.if-n-ge-LONGEST_RECORD.false, length-set a.held.now a.n a.x) in
    sym (length-take-le _ _ inside)

pub returns : goal.returns
returns c =
    let a = c.args in
    open_found a.held.now a.n a.x (omega (arith, c.if-n-ge-LONGEST_RECORD.false)) c.is_unfinished.ensures
