use native.Mathlib.Omega.{arith}
use Prim.Native.Nat.{◌<◌}
use mathlib.Core.Path.{refl, ap, ◌∙◌}
use lib.ListN.{length}
use Rattle.memory.proofs.Sets.{length_part}
use Rattle.attached.specs.declared.Bads.{Bads}
use Rattle.table.specs.Table.{records_of}
use Rattle.table.proofs.TableLaws.{length_more, length_up}
use Rattle.image.specs.Image.{read_desk}
use Rattle.image.proofs.Written.{length-numbers, slot_read, slot_more}
use Rattle.image.proofs.put_records.Goals as goal

pub loop-i-init : goal.loop-i-init
unfolding records_of
loop-i-init c = (refl, refl, refl)

pub put_slot-at-requires : goal.put_slot-at-requires
put_slot-at-requires c =
    let b = c.args.b.now in
    let i = c.loop-i.i in
    let most : i < 8 = omega arith in
    let m = length_more i (read_desk b).table in
    let l = length_up i c.args.n (read_desk b).table (omega arith) in
    let e = ap length (slot_read b i most c.drive_in-d.ensures c.bads_in-l.ensures c.is_present-present.ensures) in
    let numbers = ap (λ (x : Bads). length x.list) c.bads_in-l.ensures ∙ length-numbers b i c.told-b most in
    (numbers, length_part 112 b 2720 (omega (arith, c.told-b)), most, omega (arith, e, m, l, c.loop-i.invariant.0, c.loop-i.invariant.2, c.requires.1))

pub loop-i-preserved : goal.loop-i-preserved
loop-i-preserved c =
    let b = c.args.b.now in
    let i = c.loop-i.i in
    let most : i < 8 = omega arith in
    let n = slot_more c.args.out.now b i c.loop-i.at c.loop-i.out most c.drive_in-d.ensures c.bads_in-l.ensures c.is_present-present.ensures
    c.loop-i.invariant.0 c.loop-i.invariant.1 c.loop-i.invariant.2 c.put_slot-at.ensures.0 c.put_slot-at.ensures.1 in
    (n.0, n.1, n.2)
