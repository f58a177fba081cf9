use Rattle.reader.specs.Reader.{reader_size}
use Rattle.exports.specs.Exports.{reader_open_call}
use borrow.Author.Tests.{eq-eqb, ne_eqb}
use Rattle.exports.proofs.edd_reader_open.Goals as goal

pub returns-then-reader-ne-SIZE : goal.returns-then-reader-ne-SIZE
unfolding reader_open_call
returns-then-reader-ne-SIZE c = rw (ne_eqb _ reader_size c.if-reader-ne-SIZE.true, c.numbered.ensures)

pub returns : goal.returns
unfolding reader_open_call
returns c = rw (eq-eqb _ reader_size c.if-reader-ne-SIZE.false, c.encode.ensures, c.open-f.ensures)
