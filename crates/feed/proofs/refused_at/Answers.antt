use Rattle.feed.proofs.FeedLaws.{place-behind, place-record}
use Rattle.feed.proofs.refused_at.Goals as goal

pub returns-then-number-eq-BYTE_FOLLOWS : goal.returns-then-number-eq-BYTE_FOLLOWS
returns-then-number-eq-BYTE_FOLLOWS c = place-behind c.args.b c.next_place-next.ensures.0 c.if-number-eq-BYTE_FOLLOWS.true

pub returns : goal.returns
returns c = place-record c.args.b c.next_place-next.ensures.0 c.if-number-eq-BYTE_FOLLOWS.false
