use native.Mathlib.Omega.{arith}
use borrow.Author.Rules.{rules}
use Prim.Native.Nat.{ℕ, ◌+◌, ◌<◌}
use native.Mathlib.Nat.{add-zero}
use mathlib.Core.Path.{refl, sym, ap, ◌∙◌}
use Rattle.table.specs.Table.{parameters_to}
use Rattle.image.proofs.Fields.{count-more}
use Rattle.image.proofs.tables_before.Goals as goal
use Rattle.image.proofs.tables_before.Goals.{then-is_present, else-is_present}

pub loop-i-init : goal.loop-i-init
unfolding parameters_to
loop-i-init c = (search rules, refl)

pub loop-i-preserved : goal.loop-i-preserved
loop-i-preserved c =
    let b = c.args.b.now in
    let k = c.loop-i.i in
    let most : k < 8 = omega arith in
    elim c.if-is_present.branch [
      | then-is_present w ↦ (
        omega (arith, w.count-is, c.loop-i.invariant.0),
        count-more b k most (w.count-is ∙ rw (sym c.is_present.ensures ∙ w.if-is_present.true) (ap (λ (x : ℕ). x + 1) c.loop-i.invariant.1)),
      )
      | else-is_present w ↦ (
        omega (arith, w.count-is, c.loop-i.invariant.0),
        count-more b k most (w.count-is ∙ rw (sym c.is_present.ensures ∙ w.if-is_present.false, add-zero) c.loop-i.invariant.1),
      )
    ]
