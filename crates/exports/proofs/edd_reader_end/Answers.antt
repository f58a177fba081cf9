use mathlib.Core.Path.{sym, ◌∙◌}
use Rattle.exports.proofs.Readers.{reader-size, none-ended, ended}
use Rattle.exports.proofs.edd_reader_end.Goals as goal

pub returns-then-not-acceptable : goal.returns-then-not-acceptable
returns-then-not-acceptable c = rw c.numbered.ensures (none-ended c.args.reader.now c.acceptable.ensures c.if-not-acceptable.true c.args.place.now)

pub decode-requires : goal.decode-requires
decode-requires c = reader-size c.args.reader.now (sym c.acceptable.ensures ∙ c.if-not-acceptable.false)

pub returns : goal.returns
returns c =
    ended c.args.reader.now c.acceptable.ensures c.if-not-acceptable.false c.decode.ensures c.args.place.now c.end-f.ensures c.encode.ensures c.say.ensures
