use Rattle.table.proofs.TableLaws.{bads_unlaid, bads_laid, length_bads_some}
use Rattle.table.proofs.put_bads.Goals as goal

pub returns-then-l-eq0 : goal.returns-then-l-eq0
returns-then-l-eq0 c =
    let a = c.args in
    bads_unlaid a.l a.i a.out.now a.at c.if-l-eq0.true

pub put_bads-requires : goal.put_bads-requires
put_bads-requires c =
    let w = length_bads_some c.args.i c.args.l c.if-l-eq0.false c.requires.0 in
    rw w at c.requires.2

pub returns : goal.returns
returns c =
    let a = c.args in
    bads_laid a.l a.i a.out.now a.at c.if-l-eq0.false c.requires.0 c.put_bads.ensures c.bad_length.ensures.0
