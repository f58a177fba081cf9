use borrow.Author.Rules.{rules}
use mathlib.Core.Path.{◌≡◌}
use lib.ListN.{length}
use Rattle.logic.proofs.LogicLaws.{length_mapped}
use Rattle.table.proofs.TableLaws.{write_short, write_done, write-numbers}
use Rattle.table.proofs.write_table.Goals as goal

pub returns-then-out-whole : goal.returns-then-out-whole
returns-then-out-whole c =
    let b = c.args.b in
    let eight : length b.drives ≡ 8 = search (rules, length_mapped) in
    let w = write_short b c.args.out.now _ _ eight c.min-n.ensures c.records_length-end.ensures.0 c.if-out-whole.true in
    (w.0, w.1, write-numbers _ _ w.0)

pub returns : goal.returns
returns c =
    let b = c.args.b in
    let eight : length b.drives ≡ 8 = search (rules, length_mapped) in
    let w = write_done b c.args.out.now _ _ eight c.min-n.ensures c.records_length-end.ensures.0 c.if-out-whole.false c.put_records.ensures c.put_end.ensures in
    (w.0, w.1, write-numbers _ _ w.0)
