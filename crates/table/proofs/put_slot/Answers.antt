use borrow.Author.Rules.{rules}
use native.Mathlib.Omega.{arith}
use mathlib.Core.Path.{◌≡◌, refl, ap, ◌∙◌}
use lib.ListN.{length}
use lib.Seq.{length-sets}
use Prim.Native.Nat.{◌+◌, ◌*◌}
use Rattle.words.specs.Words.{part}
use Rattle.drive.specs.Drive.{record_of}
use Rattle.attached.specs.Parameters.{parameters_record}
use Rattle.table.specs.Table.{bads_record}
use Rattle.table.proofs.TableLaws.{slot_room, slot_room_both, slot_laid, slot_laid_both}
use Rattle.table.proofs.put_slot.Goals as goal

pub put_record-requires : goal.put_record-requires
put_record-requires c =
    let a = c.args in
    -- room for the records of the drive and of its bad blocks
    let room = slot_room a.d a.l a.present a.i (part 14 a.bytes.now (14 * a.i)) a.at refl c.requires.3 in
    omega (arith, room)

pub put_bads-behind-requires : goal.put_bads-behind-requires
put_bads-behind-requires c =
    let a = c.args in
    let room = slot_room a.d a.l a.present a.i (part 14 a.bytes.now (14 * a.i)) a.at refl c.requires.3 in
    -- the buffer with the drive's record
    let stored = ap length c.put_record.ensures ∙ length-sets a.out.now a.at (record_of a.d) in
    (c.requires.0, c.requires.2, omega (arith, room, stored, c.record_length.ensures.0))

pub returns-then-not-present : goal.returns-then-not-present
returns-then-not-present c =
    let a = c.args in
    slot_laid a.d a.l a.present a.i (part 14 a.bytes.now (14 * a.i)) a.out.now a.at c.if-not-present.true refl c.record_length.ensures.0 c.put_record.ensures
    c.put_bads-behind.ensures.0 c.put_bads-behind.ensures.1

pub overflow_add-at : goal.overflow_add-at
overflow_add-at c =
    let a = c.args in
    let room = slot_room a.d a.l a.present a.i (part 14 a.bytes.now (14 * a.i)) a.at refl c.requires.3 in
    omega (arith, room, c.record_length.ensures.0)

pub store-requires : goal.store-requires
store-requires c =
    let a = c.args in
    -- the buffer with the drive's record, and with both
    let stored = ap length c.put_record.ensures ∙ length-sets a.out.now a.at (record_of a.d) in
    let listed = ap length c.put_bads-behind.ensures.0 ∙ length-sets c.put_record.new.out (a.at + c.record_length.result) (bads_record a.i a.l) in
    -- the record of the slot's parameters, and room for it
    let attached = c.encode-given.ensures ∙ ap (parameters_record a.i) c.bytes_at.ensures in
    let twenty : length c.encode-given.result ≡ 20 = search rules in
    let r = slot_room_both a.d a.l a.present a.i (part 14 a.bytes.now (14 * a.i)) a.at c.if-not-present.false attached c.requires.3 in
    omega (arith, stored, listed, r, twenty, c.record_length.ensures.0, c.put_bads-behind.ensures.1)

pub overflow_add-result : goal.overflow_add-result
overflow_add-result c =
    let a = c.args in
    let attached = c.encode-given.ensures ∙ ap (parameters_record a.i) c.bytes_at.ensures in
    let twenty : length c.encode-given.result ≡ 20 = search rules in
    let r = slot_room_both a.d a.l a.present a.i (part 14 a.bytes.now (14 * a.i)) a.at c.if-not-present.false attached c.requires.3 in
    omega (arith, r, twenty, c.record_length.ensures.0, c.put_bads-behind.ensures.1)

pub returns : goal.returns
returns c =
    let a = c.args in
    let attached = c.encode-given.ensures ∙ ap (parameters_record a.i) c.bytes_at.ensures in
    let twenty : length c.encode-given.result ≡ 20 = search rules in
    slot_laid_both a.d a.l a.present a.i (part 14 a.bytes.now (14 * a.i)) a.out.now a.at c.if-not-present.false refl c.record_length.ensures.0 c.put_record.ensures
    c.put_bads-behind.ensures.0 c.put_bads-behind.ensures.1 attached c.store.ensures twenty
