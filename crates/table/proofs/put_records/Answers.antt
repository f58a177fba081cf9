use borrow.Author.Rules.{rules}
use native.Mathlib.Omega.{arith}
use mathlib.Core.Path.{◌≡◌, refl}
use lib.ListN.{length}
use Rattle.table.specs.Table.{records_of}
use Rattle.table.proofs.TableLaws.{length_more, length_up, length_list_part, slot_next}
use Rattle.table.proofs.put_records.Goals as goal

pub loop-i-init : goal.loop-i-init
unfolding records_of
loop-i-init c = (refl, refl, refl)

pub put_slot-at-requires : goal.put_slot-at-requires
put_slot-at-requires c =
    let b = c.args.b.now in
    let i = c.loop-i.i in
    let p : length b.parameters ≡ 112 = search rules in
    let q : length b.bad ≡ 1024 = search rules in
    let m = length_more i b in
    let u = length_up i c.args.n b c.loop-i-test.true in
    rw c.bads_in_slot.ensures (length_list_part b.bad i q (omega arith), p, omega arith, omega (arith, m, u, c.loop-i.invariant.0, c.loop-i.invariant.2, c.requires.1))

pub loop-i-preserved : goal.loop-i-preserved
loop-i-preserved c =
    let h = c.loop-i in
    let f = rw c.bads_in_slot.ensures at c.put_slot-at.ensures in
    slot_next c.args.out.now c.args.b.now h.i h.at h.out h.invariant.0 h.invariant.1 h.invariant.2 f.0 f.1
