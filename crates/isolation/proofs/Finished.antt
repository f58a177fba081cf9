-- A finished row stays until its guest collects, and that hands out its registers.
-- Assumes nothing.
use Prim.Native.Nat.{ℕ}
use mathlib.Core.Path.{◌≡◌, refl, sym, ap, subst, ◌∙◌}
use mathlib.Core.List.{List, [], ◌∷◌}
use native.Mathlib.Omega.{arith}
use native.Mathlib.Decide.{ℕ_discrete}
use Rattle.std.specs.Prelude.{Ok, Err}
use Rattle.logic.proofs.LogicLaws.{impossible}
use Rattle.int13.specs.declared.Registers.{Registers}
use Rattle.desk.specs.declared.Request.{Request}
use Rattle.desk.specs.declared.Stage.TheVariants.{Vacant, Waiting, Finished}
use Rattle.desk.specs.declared.Desk.{Desk}
use Rattle.desk.specs.Parts.{stage_at}
use Rattle.desk.specs.Calls.{CollectAnswer, stage_after, collect_of}
use Rattle.isolation.specs.Lists.{Op, collect, Call, collected, Out, step_of, step, run, after}
use Rattle.isolation.specs.Words.{Marks, refused, opens, kind_of, NoneOpens, collect_in, collects}
use Rattle.isolation.proofs.Endings.{now}
use Rattle.isolation.proofs.Accept.{Inv}
use Rattle.isolation.proofs.View.{Did, same, idle, answer, accepting, serving, giving, withdrawing, placing, view, quiet_marks, collected_out}
use Rattle.isolation.proofs.Keep.{stage_other, inv_step, same-guest}
use Rattle.isolation.proofs.Fate.{other-guest}
use Rattle.isolation.proofs.Equal.{request}

-- ---- a finished row

data Holds (g : ℕ) (x : Registers) (o : Out) : Type 0 where
  keeps : stage_at o.desk g ≡ Finished x → collect_in g (kind_of o.answer) ≡ 0 → Holds g x o
  given : o.answer ≡ collected g (Ok x) → collect_in g (kind_of o.answer) ≡ 1 → Holds g x o

vacant≢finished : {x : Registers} → Vacant ≡ Finished x → ⊥
vacant≢finished e = impossible cc

waiting≢finished : {x : Registers} {q : Request} → Waiting q ≡ Finished x → ⊥
waiting≢finished e = impossible cc

same-finished : {x y : Registers} → Finished x ≡ Finished y → x ≡ y
same-finished e = cc

module _ (d : Desk) (inv : Inv d) (c : Call) (g : ℕ) (x : Registers) (e : stage_at d g ≡ Finished x) where
  collect_holds : (h : ℕ) (r : Registers) → stage_at d h ≡ Finished r → Dec (h ≡ g) → Holds g x (collected_out d c h r)
  collect_holds h r v (yes y) =
      let rx : r ≡ x = same-finished (sym v ∙ rw y e) in
      rw (y, rx) (given refl (same-guest g 1))
  collect_holds h r v (no y) = keeps (stage_other d h g Vacant (λ z. y (sym z)) ∙ e) (other-guest h g 1 y)

  holds : (o : Out) → Did d c o → Holds g x o
  holds o (same y p n) = keeps e (ap (λ (m : Marks). m.collect) (quiet_marks g p))
  holds o (idle t f) = keeps e refl
  holds o (answer h r y w t b l v ko kw k) = keeps e refl
  holds o (accepting h r j t b l v ko kw f) = keeps (stage_other d h g (Waiting (request j 0)) (λ y. vacant≢finished (sym v ∙ (rw y at e))) ∙ e) refl
  holds o (serving h q t b l v f) = keeps (stage_other d h g (stage_after q (now d.table q)) (λ y. waiting≢finished (sym v ∙ (rw y at e))) ∙ e) refl
  holds o (giving h r t b v) = collect_holds h r v (ℕ_discrete h g)
  holds o (placing h address t b l v k) = keeps e refl
  holds o (withdrawing h q t b l v) = keeps (stage_other d h g Vacant (λ y. waiting≢finished (sym v ∙ (rw y at e))) ∙ e) refl

pub still_finished : (cs : List Call) (d : Desk) → Inv d → NoneOpens (run d cs) → (g : ℕ) (x : Registers) → stage_at d g ≡ Finished x → collects g (run d cs) ≡ 0 → stage_at (after d cs) g ≡ Finished x
unfolding run after
still_finished [] d inv n g x e z = e
still_finished (c ∷ cs) d inv n g x e z =
    go (holds d inv c g x e (step d c) (view d inv c n.0)) (λ r. still_finished cs (step d c).desk (inv_step d c inv n.0) n.1 g x r (omega arith)) (omega arith)
  where
    go : Holds g x (step d c) → (stage_at (step d c).desk g ≡ Finished x → stage_at (after (step d c).desk cs) g ≡ Finished x)
        → collect_in g (kind_of (step d c).answer) ≡ 0 → stage_at (after (step d c).desk cs) g ≡ Finished x
    go (keeps r k) ih z = ih r
    go (given r k) ih z = absurd (omega arith)

-- a collect of g that is not refused is one
collect_one : (d : Desk) (c : Call) (g : ℕ) → c.op ≡ collect g → (kind_of (step d c).answer ≡ refused → ⊥) → collect_in g (kind_of (step d c).answer) ≡ 1
unfolding step
collect_one d c g t =
    subst (λ (o : Op). (kind_of (step_of d o c.arena c.store).answer ≡ refused → ⊥) → collect_in g (kind_of (step_of d o c.arena c.store).answer) ≡ 1) (sym t)
    (by_answer (collect_of d g c.arena c.store).answer)
  where
    by_answer : (x : CollectAnswer) → (kind_of (collected g x) ≡ refused → ⊥) → collect_in g (kind_of (collected g x)) ≡ 1
    by_answer (Ok r) n = same-guest g 1
    by_answer (Err e) n = absurd (n refl)

pub handed-over : (d : Desk) → Inv d → (c : Call) (g : ℕ) (x : Registers) → (kind_of (step d c).answer ≡ opens → ⊥) → stage_at d g ≡ Finished x
    → c.op ≡ collect g → (kind_of (step d c).answer ≡ refused → ⊥) → (step d c).answer ≡ collected g (Ok x)
handed-over d inv c g x n e t u = go (holds d inv c g x e (step d c) (view d inv c n)) (collect_one d c g t u)
  where
    go : Holds g x (step d c) → collect_in g (kind_of (step d c).answer) ≡ 1 → (step d c).answer ≡ collected g (Ok x)
    go (keeps r k) z = absurd (omega arith)
    go (given r k) z = r
