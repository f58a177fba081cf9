use mathlib.Core.Path.{◌∙◌}
use Rattle.table.proofs.TableLaws.{length-drives, write_short, write_done}
use Rattle.image.specs.Image.{read_desk}
use Rattle.image.proofs.Written.{length_slots}
use Rattle.image.proofs.write_table.Goals as goal

pub returns-then-out-whole : goal.returns-then-out-whole
returns-then-out-whole c =
    let b = c.args.b.now in
    let eight = length_slots b in
    let held = c.count_of-n.ensures.0 ∙ length-drives (read_desk b).table eight in
    write_short (read_desk b).table c.args.out.now _ _ eight held c.records_length-end.ensures.0 c.if-out-whole.true

pub returns : goal.returns
returns c =
    let b = c.args.b.now in
    let eight = length_slots b in
    let held = c.count_of-n.ensures.0 ∙ length-drives (read_desk b).table eight in
    write_done (read_desk b).table c.args.out.now _ _ eight held c.records_length-end.ensures.0 c.if-out-whole.false
    c.put_records.ensures c.put_end.ensures
