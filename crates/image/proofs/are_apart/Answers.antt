use borrow.Author.Tests.{le-leb, lt-leb}
use Rattle.image.specs.Judged.{apart}
use Rattle.image.proofs.are_apart.Goals as goal

pub returns-then-first-other : goal.returns-then-first-other
unfolding apart
returns-then-first-other c = rw (le-leb _ _ c.if-first-other.true) c.ends_by.ensures

pub returns : goal.returns
unfolding apart
returns c = rw (lt-leb _ _ c.if-first-other.false) c.ends_by-2.ensures
