use mathlib.Core.Path.{sym, ◌∙◌}
use Rattle.exports.proofs.Readers.{reader-size, none_written, wrote, wrote_more, wrote_refused, wrote_table}
use Rattle.exports.proofs.edd_reader_write.Goals as goal

pub returns-then-not-acceptable : goal.returns-then-not-acceptable
returns-then-not-acceptable c =
    let a = c.args in
    rw c.numbered.ensures (none_written a.reader.now c.acceptable.ensures c.if-not-acceptable.true a.out.now a.written.now)

pub decode-f-requires : goal.decode-f-requires
decode-f-requires c = reader-size c.args.reader.now (sym c.acceptable.ensures ∙ c.if-not-acceptable.false)

pub returns-in-More : goal.returns-in-More
returns-in-More c =
    let a = c.args in
    wrote a.reader.now c.acceptable.ensures c.if-not-acceptable.false c.decode-f.ensures a.out.now a.written.now c.answer.ensures
    (wrote_more _ a.out.now a.written.now c.in-More.is)

pub returns-in-Refused : goal.returns-in-Refused
returns-in-Refused c =
    let a = c.args in
    wrote a.reader.now c.acceptable.ensures c.if-not-acceptable.false c.decode-f.ensures a.out.now a.written.now c.answer.ensures
    (wrote_refused _ a.out.now a.written.now c.in-Refused.is)

pub returns-in-Accepted : goal.returns-in-Accepted
returns-in-Accepted c =
    let a = c.args in
    wrote a.reader.now c.acceptable.ensures c.if-not-acceptable.false c.decode-f.ensures a.out.now a.written.now c.answer.ensures
    (wrote_table _ a.out.now a.written.now c.in-Accepted.is c.write_out.ensures.0 c.write_out.ensures.1)
