use Rattle.desk.specs.Numbers.{open_numbers}
use Rattle.image.specs.Image.{desk_size}
use Rattle.exports.specs.Exports.{over, open_call}
use borrow.Author.Tests.{eq-eqb, ne_eqb}
use Rattle.exports.proofs.edd_open.Goals as goal

pub returns-then-desk-ne-SIZE : goal.returns-then-desk-ne-SIZE
unfolding open_call over open_numbers
returns-then-desk-ne-SIZE c = rw (ne_eqb _ desk_size c.if-desk-ne-SIZE.true, c.numbered.ensures)

pub returns-in-Ok : goal.returns-in-Ok
unfolding open_call over open_numbers
returns-in-Ok c = rw (eq-eqb _ desk_size c.if-desk-ne-SIZE.false, ← c.open-opening.ensures.0, c.in-Ok.is, c.encode.ensures)

pub returns-in-Err : goal.returns-in-Err
unfolding open_call over open_numbers
returns-in-Err c = rw (eq-eqb _ desk_size c.if-desk-ne-SIZE.false, ← c.open-opening.ensures.0, c.in-Err.is, c.number.ensures)
