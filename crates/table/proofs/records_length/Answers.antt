use borrow.Author.Rules.{rules}
use native.Mathlib.Omega.{arith}
use mathlib.Core.Path.{◌≡◌, refl}
use lib.ListN.{length}
use Rattle.table.specs.Table.{records_of}
use Rattle.table.proofs.TableLaws.{length_more, length_slot}
use Rattle.table.proofs.records_length.Goals as goal

pub loop-i-init : goal.loop-i-init
unfolding records_of
loop-i-init c = (refl, omega arith)

pub loop-i-preserved : goal.loop-i-preserved
loop-i-preserved c =
    let i = c.loop-i.i in
    let b = c.args.b.now in
    let p : length b.parameters ≡ 112 = search rules in
    let q : length b.bad ≡ 1024 = search rules in
    let m = length_more i b in
    let l = length_slot b i p q (omega arith) in (
      omega (arith, m, l, c.record_length.ensures.0, c.attached_length.ensures.0, c.loop-i.invariant.0),
      omega (arith, c.record_length.ensures.2, c.attached_length.ensures.1, c.loop-i.invariant.1),
    )
