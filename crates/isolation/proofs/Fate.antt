-- What one call does to a waiting request, in the words of the demand.
-- Assumes nothing.
use Prim.Native.Nat.{ℕ, ◌+◌, ◌-◌, ◌≤◌, ◌<◌, min}
use mathlib.Core.Path.{◌≡◌, refl, sym, ap, ◌∙◌}
use mathlib.Core.Logic.{◌⊎◌, ◌≢◌}
use native.Mathlib.Omega.{arith}
use native.Mathlib.Decide.{ℕ_discrete}
use borrow.Author.Tests.{ne_eqb}
use Rattle.memory.specs.Window.{guests}
use Rattle.int13.specs.Answers.{ended}
use Rattle.desk.specs.declared.Request.{Request}
use Rattle.desk.specs.declared.Stage.TheVariants.{Vacant, Waiting, Finished}
use Rattle.desk.specs.declared.Desk.{Desk}
use Rattle.desk.specs.Parts.{stage_at, next}
use Rattle.desk.specs.Acceptable.{turn_blocks}
use Rattle.desk.specs.Calls.{quota, later, stage_after}
use Rattle.isolation.specs.Lists.{Call, Out, step}
use Rattle.isolation.specs.Words.{Marks, line, marks, Kind, withdraws, opens, kind_of, turn_in, withdrawal_in, moved_in, service_in, if_same}
use Rattle.isolation.proofs.Turn.{dist, dist_less, vacant≢waiting, finished≢waiting}
use Rattle.isolation.proofs.Endings.{now, goes_cases, stage_on, stage_over}
use Rattle.isolation.proofs.Accept.{Inv, ready}
use Rattle.isolation.proofs.View.{Did, same, idle, answer, accepting, serving, giving, withdrawing, placing, view, served_out, withdrawn_out, quiet_marks}
use Rattle.isolation.proofs.Keep.{stage_same, stage_other, waiting_below, same-guest}

-- the numbers of one call: turns, and withdrawals, blocks and services of g
pub record Counts (g : ℕ) (k : Kind) (t w m s : ℕ) : Type 0 where
  pub turn : turn_in k ≡ t
  pub withdrawal : withdrawal_in g k ≡ w
  pub moved : moved_in g k ≡ m
  pub service : service_in g k ≡ s

-- those of a line of zeros
counted : {g : ℕ} {k : Kind} → marks guests k ≡ line 0 0 0 0 0 0 0 → marks g k ≡ line 0 0 0 0 0 0 0 → Counts g k 0 0 0 0
counted e f =
    record {
      turn = ap (λ (m : Marks). m.turn) e;
      withdrawal = ap (λ (m : Marks). m.withdrawal) f;
      moved = ap (λ (m : Marks). m.moved) f;
      service = ap (λ (m : Marks). m.service) f;
    }

pub data Fate (g : ℕ) (q : Request) (d : Desk) (o : Out) : Type 0 where
  -- no turn of this desk
  stays : stage_at o.desk g ≡ Waiting q → o.desk.pointer ≡ d.pointer → Counts g (kind_of o.answer) 0 0 0 0 → Fate g q d o
  -- a turn that serves another guest
  passes : stage_at o.desk g ≡ Waiting q → dist o.desk.pointer g < dist d.pointer g → Counts g (kind_of o.answer) 1 0 0 0 → Fate g q d o
  -- a turn that serves it and leaves some
  parts : stage_at o.desk g ≡ Waiting (later q turn_blocks) → q.moved + turn_blocks < q.job.count → o.desk.pointer ≡ next g → Counts g (kind_of o.answer) 1 0 turn_blocks 1 → Fate g q d o
  -- the finishing turn: it moves the last blocks, or those before a bad one
  ends : stage_at o.desk g ≡ Finished (ended q.job.count (q.moved + now d.table q) q.job.registers)
      → (q.moved + now d.table q ≡ q.job.count) ⊎ (now d.table q < quota q) → Counts g (kind_of o.answer) 1 0 (now d.table q) 1 → Fate g q d o
  leaves : kind_of o.answer ≡ withdraws g → Fate g q d o

pub other-guest : (h g n : ℕ) → h ≢ g → if_same h g n ≡ 0
other-guest h g n ne = rw (ne_eqb h g ne)

pub same-request : {p q : Request} → Waiting p ≡ Waiting q → p ≡ q
same-request e = cc

-- sixteen where some are left
full : (n m : ℕ) → m + min turn_blocks (n - m) < n → min turn_blocks (n - m) ≡ turn_blocks
full n m h = omega arith

module _ (d : Desk) (inv : Inv d) (c : Call) (g : ℕ) (q : Request) (e : stage_at d g ≡ Waiting q) where
  below : g < guests
  below = waiting_below d g q inv e

  -- it is served itself
  own : Fate g q d (served_out d c g q)
  own =
      goes_cases (Fate g q d (served_out d c g q)) d.table q (ready d g q inv e).rest
      (λ t k h. let s : now d.table q ≡ turn_blocks = k ∙ full q.job.count q.moved h in
      parts (row ∙ stage_on q (now d.table q) t ∙ ap (λ (n : ℕ). Waiting (later q n)) s) (omega (arith, h, k, s)) refl
      (record { turn = refl; withdrawal = refl; moved = same-guest g (now d.table q) ∙ s; service = same-guest g 1 }))
      (λ t k. ends (row ∙ stage_over q (now d.table q) t) k
      (record { turn = refl; withdrawal = refl; moved = same-guest g (now d.table q); service = same-guest g 1 }))
    where
      row : stage_at (served_out d c g q).desk g ≡ stage_after q (now d.table q)
      row = stage_same d g (stage_after q (now d.table q)) inv below

  serve_fate : (h : ℕ) (p : Request) → h < guests → stage_at d h ≡ Waiting p
      → ((k : ℕ) (q' : Request) → k < guests → stage_at d k ≡ Waiting q' → dist d.pointer h ≤ dist d.pointer k)
      → Dec (h ≡ g) → Fate g q d (served_out d c h p)
  serve_fate h p b v f (yes y) =
      let pq : p ≡ q = same-request (sym v ∙ rw y e) in
      rw (y, pq) own
  serve_fate h p b v f (no y) =
      let gh : g ≢ h = λ z. y (sym z) in
      passes (stage_other d h g (stage_after p (now d.table p)) gh ∙ e) (dist_less d.pointer g h inv.pointer below b gh (f g q below e))
      (record { turn = refl; withdrawal = refl; moved = other-guest h g (now d.table p) y; service = other-guest h g 1 y })

  withdraw_fate : (h : ℕ) (p : Request) → Dec (h ≡ g) → Fate g q d (withdrawn_out d c h p)
  withdraw_fate h p (yes y) = leaves (ap withdraws y)
  withdraw_fate h p (no y) =
      stays (stage_other d h g Vacant (λ z. y (sym z)) ∙ e) refl (record { turn = refl; withdrawal = other-guest h g 1 y; moved = refl; service = refl })

  pub fate : (o : Out) → Did d c o → Fate g q d o
  fate o (same x p n) = stays e refl (counted (quiet_marks guests p) (quiet_marks g p))
  fate o (idle t f) = absurd (f g q below e)
  fate o (answer h r x w t b l v ko kw k) = stays e refl (record { turn = refl; withdrawal = refl; moved = refl; service = refl })
  fate o (accepting h r j t b l v ko kw f) =
      stays (stage_other d h g (Waiting (record { job = j; moved = 0 })) (λ y. vacant≢waiting (sym v ∙ (rw y at e))) ∙ e) refl
      (record { turn = refl; withdrawal = refl; moved = refl; service = refl })
  fate o (serving h p t b l v f) = serve_fate h p b v f (ℕ_discrete h g)
  fate o (giving h r t b v) =
      stays (stage_other d h g Vacant (λ y. finished≢waiting (sym v ∙ (rw y at e))) ∙ e) refl (record { turn = refl; withdrawal = refl; moved = refl; service = refl })
  fate o (withdrawing h p t b l v) = withdraw_fate h p (ℕ_discrete h g)
  fate o (placing h address t b l v k) = stays e refl (record { turn = refl; withdrawal = refl; moved = refl; service = refl })

  pub step_fate : (kind_of (step d c).answer ≡ opens → ⊥) → Fate g q d (step d c)
  step_fate n = fate (step d c) (view d inv c n)
