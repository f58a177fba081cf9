-- The blocks that a turn moves: its whole part, or those before a bad block; and what they come to in the whole request.
-- Assumes nothing.
use Prim.Native.Nat.{ℕ, ◌+◌, ◌-◌, ◌≤◌, ◌<◌, min}
use mathlib.Core.Path.{◌≡◌, refl, sym, ap, subst, ◌∙◌}
use mathlib.Core.Logic.{◌⊎◌, inl, inr, ⊎_elim}
use mathlib.Core.Bool.{Bool, true, false}
use native.Mathlib.Nat.{add-zero}
use native.Mathlib.Omega.{arith}
use lib.Dec.{leb, ltb}
use borrow.Author.Tests.{leb-true, le-leb, ltb-true, ltb-false}
use Rattle.logic.specs.Logic.{both}
use Rattle.logic.proofs.LogicLaws.{both_true, lt_or_le}
use Rattle.attached.specs.declared.Bads.{Bads}
use Rattle.attached.specs.Bad.{good}
use Rattle.attached.proofs.BadLaws.{good-most, good-add, good-add_worn}
use Rattle.table.specs.declared.Table.{Table}
use Rattle.int13.specs.declared.Job.{Job}
use Rattle.int13.specs.Answers.{ended}
use Rattle.int13.specs.Steps.{bads_of}
use Rattle.int13.specs.Alone.{good_of}
use Rattle.desk.specs.declared.Request.{Request}
use Rattle.desk.specs.declared.Stage.{Stage}
use Rattle.desk.specs.declared.Stage.TheVariants.{Vacant, Waiting, Finished}
use Rattle.desk.specs.Acceptable.{turn_blocks}
use Rattle.desk.specs.Calls.{quota, later, moves_now, goes_on, stage_after}

-- the first n blocks of a job are good
abbrev pub Clean : Table → Job → ℕ → Type 0
Clean b j n = good_of b j 0 n ≡ n

-- in a waiting row, those that are moved
abbrev pub CleanStage : Table → Stage → Type 0
CleanStage b Vacant = Unit
CleanStage b (Waiting q) = Clean b q.job q.moved
CleanStage b (Finished r) = Unit

-- what a turn moves for a request
abbrev pub now : Table → Request → ℕ
now b q = moves_now (bads_of b q.job.drive) q

pub clean_none : (b : Table) (j : Job) → Clean b j 0
clean_none b j = omega (arith, good-most (bads_of b j.drive) (j.start + 0) 0)

pub now_most : (b : Table) (q : Request) → now b q ≤ quota q
unfolding moves_now
now_most b q = good-most (bads_of b q.job.drive) (q.job.start + q.moved) (quota q)

-- ---- the test whether it goes on

-- it does with a whole part, and some remain; else all are moved, or fewer than the part
pub goes_cases : (P : Type 0) (b : Table) (q : Request) → q.moved < q.job.count
    → (goes_on q (now b q) ≡ true → now b q ≡ quota q → q.moved + quota q < q.job.count → P)
    → (goes_on q (now b q) ≡ false → (q.moved + now b q ≡ q.job.count) ⊎ (now b q < quota q) → P) → P
goes_cases P b q r f g = by (goes_on q (now b q)) refl
  where
    most : now b q ≤ quota q
    most = now_most b q

    second : (x y : Bool) → both x y ≡ false → x ≡ true → y ≡ false
    second x y e t = rw t at e

    all : (n m k : ℕ) → m < n → k ≤ min turn_blocks (n - m) → n ≤ m + k → m + k ≡ n
    all n m k l h u = omega arith

    short : goes_on q (now b q) ≡ false → (q.moved + now b q ≡ q.job.count) ⊎ (now b q < quota q)
    short e =
        ⊎_elim (λ x. inr x)
        (λ x. inl (all q.job.count q.moved (now b q) r most
        (ltb-false _ _ (second (leb (quota q) (now b q)) (ltb (q.moved + now b q) q.job.count) e (le-leb _ _ x)))))
        (lt_or_le (now b q) (quota q))

    whole : (n m k t : ℕ) → t ≤ k → k ≤ t → m + k < n → (k ≡ t) × (m + t < n)
    whole n m k t u v w = (omega arith, omega arith)

    by : (x : Bool) → goes_on q (now b q) ≡ x → P
    by true e =
        let t = both_true (leb (quota q) (now b q)) (ltb (q.moved + now b q) q.job.count) e in
        let w = whole q.job.count q.moved (now b q) (quota q) (leb-true _ _ t.0) most (ltb-true _ _ t.1) in
        f e w.0 w.1
    by false e = g e (short e)

-- ---- the stage of the row after it

pub stage_on : (q : Request) (k : ℕ) → goes_on q k ≡ true → stage_after q k ≡ Waiting (later q k)
unfolding stage_after
stage_on q k e = rw e

pub stage_over : (q : Request) (k : ℕ) → goes_on q k ≡ false → stage_after q k ≡ Finished (ended q.job.count (q.moved + k) q.job.registers)
unfolding stage_after
stage_over q k e = rw e

-- ---- what the parts come to

module _ (b : Table) (q : Request) (c : Clean b q.job q.moved) where
  abbrev l : Bads
  l = bads_of b q.job.drive

  abbrev from : ℕ
  from = q.job.start + q.moved

  -- from the first block on, a part and what is behind it
  on : (k : ℕ) → good_of b q.job 0 (q.moved + k) ≡ q.moved + good l from k
  on k =
      good-add l (q.job.start + 0) q.moved k c
      ∙ ap (λ (x : ℕ). q.moved + good l x k) (ap (λ (x : ℕ). x + q.moved) (add-zero q.job.start))

  -- a whole part
  clean_part : now b q ≡ quota q → Clean b q.job (q.moved + quota q)
  unfolding moves_now
  clean_part e = on (quota q) ∙ ap (λ (k : ℕ). q.moved + k) e

  -- so the row that it leaves has moved good blocks only
  pub clean_after : q.moved < q.job.count → CleanStage b (stage_after q (now b q))
  clean_after r =
      goes_cases (CleanStage b (stage_after q (now b q))) b q r
      (λ e k h. subst (CleanStage b) (sym (stage_on q (now b q) e ∙ ap (λ (n : ℕ). Waiting (later q n)) k)) (clean_part k))
      (λ e k. subst (CleanStage b) (sym (stage_over q (now b q) e)) tt)

  -- at the end: the blocks before the first bad one of all
  pub good-end : q.moved < q.job.count → (q.moved + now b q ≡ q.job.count) ⊎ (now b q < quota q) → good_of b q.job 0 q.job.count ≡ q.moved + now b q
  unfolding moves_now
  good-end r e =
      ap (good_of b q.job 0) (sym whole) ∙ on (q.job.count - q.moved) ∙ ap (λ (k : ℕ). q.moved + k) (⊎_elim last worn e)
    where
      whole : q.moved + (q.job.count - q.moved) ≡ q.job.count
      whole = omega (arith, r)

      left : (n m : ℕ) → min turn_blocks (n - m) + (n - m - min turn_blocks (n - m)) ≡ n - m
      left n m = omega arith

      parts : quota q + (q.job.count - q.moved - quota q) ≡ q.job.count - q.moved
      parts = left q.job.count q.moved

      most : good l from (quota q) ≤ quota q
      most = good-most l from (quota q)

      same : (n m k : ℕ) → m + k ≡ n → k ≤ min turn_blocks (n - m) → min turn_blocks (n - m) ≡ n - m
      same n m k h u = omega arith

      last : q.moved + good l from (quota q) ≡ q.job.count → good l from (q.job.count - q.moved) ≡ good l from (quota q)
      last h = ap (good l from) (sym (same q.job.count q.moved (good l from (quota q)) h most))

      worn : good l from (quota q) < quota q → good l from (q.job.count - q.moved) ≡ good l from (quota q)
      worn h = ap (good l from) (sym parts) ∙ good-add_worn l from (quota q) (q.job.count - q.moved - quota q) h
