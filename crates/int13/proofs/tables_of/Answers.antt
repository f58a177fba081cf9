use Prim.Native.Nat.{◌+◌}
use mathlib.Core.Path.{◌≡◌, refl, ap, ◌∙◌}
use mathlib.Core.Bool.{true, false}
use native.Mathlib.Omega.{arith}
use lib.ListN.{length, replicate}
use lib.Seq.{length-sets}
use Rattle.logic.proofs.LogicLaws.{length_mapped}
use Rattle.table.specs.Table.{parameters_to}
use Rattle.layout.specs.ParameterTable.{parameter_table}
use Rattle.int13.specs.Placement.{tables_to}
use Rattle.int13.proofs.PlacementLaws.{parameters_to-most, counted, length-tables, laid_none, laid_one}
use borrow.Author.Rules.{rules}
use Rattle.int13.proofs.tables_of.Goals as goal
use Rattle.int13.proofs.tables_of.Goals.{then-marks-i, else-marks-i}

pub loop-i-init : goal.loop-i-init
unfolding parameters_to tables_to
loop-i-init c = (refl, refl, refl)

pub store-requires : goal.store-requires
store-requires c =
    omega (arith, parameters_to-most c.loop-i.i c.args.b)

pub overflow_add-at : goal.overflow_add-at
overflow_add-at c =
    omega (arith, parameters_to-most c.loop-i.i c.args.b)

pub loop-i-preserved : goal.loop-i-preserved
loop-i-preserved c =
    let b = c.args.b in
    let i = c.loop-i.i in
    let l : length b.parameters ≡ 112 = search (rules, length_mapped) in
    elim c.if-marks-i.branch [
      | then-marks-i w ↦
          let table = w.parameter_table-r.ensures ∙ ap parameter_table w.parameters_at.ensures in
          let laid = w.out-is ∙ laid_one (replicate 128 0) b i l (omega arith) w.if-marks-i.true c.loop-i.invariant.2 c.loop-i.invariant.0 table w.store.ensures in
          (omega (arith, counted b i true w.if-marks-i.true), ap length laid ∙ length-sets (replicate 128 0) 0 (tables_to (i + 1) b), laid)
      | else-marks-i w ↦
          let laid = laid_none (replicate 128 0) b i w.if-marks-i.false (w.out-is ∙ c.loop-i.invariant.2) in
          (omega (arith, counted b i false w.if-marks-i.false), ap length laid ∙ length-sets (replicate 128 0) 0 (tables_to (i + 1) b), laid)
    ]

pub returns : goal.returns
returns c =
    let b = c.args.b in
    let e : c.loop-i.i ≡ 8 = omega arith in
    let l : length b.parameters ≡ 112 = search (rules, length_mapped) in
    (rw e at c.loop-i.invariant.2, length-tables b l)
