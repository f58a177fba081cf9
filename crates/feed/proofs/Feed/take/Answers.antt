use mathlib.Core.Path.{◌≡◌, sym, ◌∙◌}
use native.Mathlib.Omega.{arith}
use lib.ListN.{get_or}
use Rattle.feed.specs.Feed.{feed_byte}
use Rattle.feed.proofs.FeedLaws.{feed_none, feed_on, feed_whole, feed_over, open_is, byte-open}
use Rattle.feed.proofs.Feed.take.Goals as goal
use Rattle.feed.proofs.Feed.take.Goals.{then-stays_open, else-stays_open}

pub loop-x-init : goal.loop-x-init
loop-x-init c = feed_none _

pub bounds-f-n : goal.bounds-f-n
bounds-f-n c = (open_is _ _ _ _ (sym c.stays_open.ensures ∙ c.if-stays_open.true)).1

pub overflow_add-f : goal.overflow_add-f
overflow_add-f c = let l = (open_is _ _ _ _ (sym c.stays_open.ensures ∙ c.if-stays_open.true)).1 in omega (arith, l)

pub loop-x-preserved : goal.loop-x-preserved
loop-x-preserved c =
    let h = c.loop-x in
    let s = c.args.bytes.now in
    let byte : c.if-stays_open.f ≡ feed_byte h.f (get_or s h.x-index 0) =
    elim c.if-stays_open.branch [ then-stays_open w ↦ w.f-is ∙ byte-open h.f _ (sym c.stays_open.ensures ∙ w.if-stays_open.true) | else-stays_open w ↦ w.f-is ∙ w.byte-f.ensures ] in
    feed_on c.args.self s h.x-index (omega arith) h.invariant byte

pub returns-then-is_over : goal.returns-then-is_over
returns-then-is_over c = feed_over c.args.self c.args.bytes.now c.loop-x.x-index c.loop-x.invariant (sym c.is_over.ensures ∙ c.if-is_over.true)

pub returns : goal.returns
returns c = feed_whole c.args.self c.args.bytes.now c.loop-x.x-index (omega arith) c.loop-x.invariant
