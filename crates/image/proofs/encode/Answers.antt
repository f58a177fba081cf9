use Rattle.image.specs.Image.{desk_size, laid}
use borrow.Author.Tests.{eq-eqb, ne_eqb}
use Rattle.image.proofs.encode.Goals as goal

pub returns-in-Some : goal.returns-in-Some
unfolding laid
returns-in-Some c = rw (eq-eqb _ desk_size c.in-Some.ensures.cases.long, c.lay.ensures)

pub returns-in_default : goal.returns-in_default
unfolding laid
returns-in_default c = rw (ne_eqb _ desk_size c.in_default.ensures.cases)
