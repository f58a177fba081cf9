use native.Mathlib.Omega.{arith}
use Rattle.feed.proofs.FeedLaws.{held_next, held-done, held_cut, held-refused}
use Rattle.feed.proofs.held_byte.Goals as goal

pub begun-r-requires : goal.begun-r-requires
begun-r-requires c = rw c.holding-more.ensures (omega (arith, c.requires))

pub returns-then-number-eq-CUT_OFF : goal.returns-then-number-eq-CUT_OFF
returns-then-number-eq-CUT_OFF c =
    held_cut c.args.f c.args.x c.holding-more.ensures c.begun-r.ensures c.in-Refused.is c.if-number-eq-CUT_OFF.true

pub returns-in-Next : goal.returns-in-Next
returns-in-Next c =
    held_next c.args.f c.args.x c.holding-more.ensures c.begun-r.ensures c.in-Next.is c.cleared.ensures

pub returns-in-Done : goal.returns-in-Done
returns-in-Done c =
    held-done c.args.f c.args.x c.holding-more.ensures c.begun-r.ensures c.in-Done.is c.cleared-in-Done.ensures

pub returns-else-number-eq-CUT_OFF : goal.returns-else-number-eq-CUT_OFF
returns-else-number-eq-CUT_OFF c =
    held-refused c.args.f c.args.x c.holding-more.ensures c.begun-r.ensures c.in-Refused.is c.if-number-eq-CUT_OFF.false c.cleared-in-Refused.ensures
