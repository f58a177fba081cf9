-- A post, by its answer: accepted, the row waits with what was asked; answered at once, as served alone. And no call is answered 25.
-- Assumes nothing.
use Prim.Native.Nat.{ℕ, ◌/◌, ◌<◌}
use mathlib.Core.Path.{◌≡◌, refl, sym, ap, ap₂, ◌∙◌}
use mathlib.Core.List.{List}
use native.Mathlib.Omega.{arith}
use Rattle.std.specs.Prelude.{Ok, Some, None}
use Rattle.logic.proofs.LogicLaws.{impossible}
use Rattle.memory.specs.Window.{guests}
use Rattle.memory.specs.Blocks.{block_length}
use Rattle.memory.proofs.WindowLaws.{window_with_same, with_window-same}
use Rattle.table.specs.declared.Table.{Table}
use Rattle.table.specs.Table.{read_table}
use Rattle.int13.specs.declared.Registers.{Registers}
use Rattle.int13.specs.declared.Placement.{Placement}
use Rattle.int13.specs.declared.Job.{Job}
use Rattle.int13.specs.declared.Outcome.{Outcome}
use Rattle.int13.specs.declared.Outcome.TheVariants.{Answered, Waits as JobWaits}
use Rattle.int13.specs.Steps.{fed, begin}
use Rattle.int13.specs.Alone.{Memory, Served, finish, served_by, alone}
use Rattle.desk.specs.declared.Stage.TheVariants.{Waiting}
use Rattle.desk.specs.declared.Desk.{Desk}
use Rattle.desk.specs.Parts.{window_size, stage_at, placement_at}
use Rattle.isolation.specs.Lists.{post, Call, posted, Out}
use Rattle.isolation.specs.Words.{Kind, answers, accepts, kind_of, house_number}
use Rattle.isolation.specs.Demand.{SameAtOnce}
use Rattle.isolation.proofs.Check.{Fresh}
use Rattle.isolation.proofs.Accept.{Inv}
use Rattle.isolation.proofs.View.{Lent, Did, same, idle, answer, accepting, serving, giving, withdrawing, placing, Quiet, refusing, writing, window_in, span_lent}
use Rattle.isolation.proofs.Keep.{stage_same}
use Rattle.isolation.proofs.Equal.{memory, request}

-- ---- what served alone is fed: the bytes of the desk's table, and its guest's placement

pub record Feeds (d : Desk) (g : ℕ) (t : List ℕ) (p : Placement) : Type 0 where
  pub table : (read_table t (d.store / block_length)).table ≡ d.table
  pub placement : placement_at d g ≡ p

-- ---- an accepted post

pub record Took (d : Desk) (c : Call) (g : ℕ) (r : Registers) (o : Out) : Type 0 where
  pub job : Job
  pub row : stage_at o.desk g ≡ Waiting (request job 0)
  pub below : g < guests
  pub lent : Lent d c
  pub outcome : (begin (fed d.table (placement_at d g)) r (window_in d c g)).outcome ≡ JobWaits job
  pub fresh : Fresh d.table r (window_in d c g) job
  pub arena : o.arena ≡ c.arena
  pub store : o.store ≡ c.store

quiet_accepts : {k : Kind} {g : ℕ} → Quiet k → k ≡ accepts g → ⊥
quiet_accepts refusing e = impossible cc
quiet_accepts writing e = impossible cc

same-post-guest : {g h : ℕ} {r r' : Registers} → post g r ≡ post h r' → g ≡ h
same-post-guest e = cc

pub same-post-registers : {g h : ℕ} {r r' : Registers} → post g r ≡ post h r' → r ≡ r'
same-post-registers e = cc

pub took : (d : Desk) (c : Call) (g : ℕ) (r : Registers) (o : Out) → Inv d → c.op ≡ post g r → o.answer ≡ posted g (Ok None) → Did d c o → Took d c g r o
took d c g r o inv p a (same x k n) = absurd (quiet_accepts k (ap kind_of a))
took d c g r o inv p a (idle e f) = impossible cc
took d c g r o inv p a (answer h r₁ x w e b l v ko kw k) = impossible cc
took d c g r o inv p a (accepting h r' j e b l v ko kw f) =
    let gh : h ≡ g = same-post-guest (sym e ∙ p) in
    let rr : r' ≡ r = same-post-registers (sym e ∙ p) in
    rw (← gh, ← rr)
    (record {
      job = j;
      row = stage_same d h (Waiting (request j 0)) inv b;
      below = b;
      lent = l;
      outcome = ko;
      fresh = f;
      arena = with_window-same c.arena h (window_size d);
      store = refl;
    })
took d c g r o inv p a (serving h q e b l v f) = impossible cc
took d c g r o inv p a (giving h x e b v) = impossible cc
took d c g r o inv p a (withdrawing h q e b l v) = impossible cc
took d c g r o inv p a (placing h address e b l v k) = impossible cc

-- ---- a post answered at once

quiet_answers : {k : Kind} {g : ℕ} → Quiet k → k ≡ answers g → ⊥
quiet_answers refusing e = impossible cc
quiet_answers writing e = impossible cc

same-answer-guest : {g h : ℕ} {x y : Registers} → posted g (Ok (Some x)) ≡ posted h (Ok (Some y)) → g ≡ h
same-answer-guest e = cc

same_answer : {g h : ℕ} {x y : Registers} → posted g (Ok (Some x)) ≡ posted h (Ok (Some y)) → x ≡ y
same_answer e = cc

answered_alone : (t : List ℕ) (p : Placement) (d : Desk) (c : Call) (g : ℕ) (r x : Registers) (w : List ℕ) → Lent d c
    → Feeds d g t p
    → (begin (fed d.table (placement_at d g)) r (window_in d c g)).outcome ≡ Answered x → (begin (fed d.table (placement_at d g)) r (window_in d c g)).window ≡ w
    → alone (fed t p) r (memory (window_in d c g) c.store) ≡ record { registers = x; memory = memory w c.store }
unfolding alone
answered_alone t p d c g r x w l f ko kw =
    let m : Memory = memory (window_in d c g) c.store in
    ap (λ (s : ℕ). served_by (fed (read_table t (s / block_length)).table p) r m) l.store
    ∙ ap₂ (λ (b : Table) (y : Placement). served_by (fed b y) r m) f.table (sym f.placement)
    ∙ ap (λ (o : Outcome). finish d.table o (begin (fed d.table (placement_at d g)) r (window_in d c g)).window m) ko
    ∙ ap (λ (v : List ℕ). finish d.table (Answered x) v m) kw

pub at-once : (t : List ℕ) (p : Placement) (d : Desk) (c : Call) (g : ℕ) (r x : Registers) (o : Out)
    → Feeds d g t p
    → c.op ≡ post g r → o.answer ≡ posted g (Ok (Some x)) → Did d c o → SameAtOnce (window_size d) g o x (alone (fed t p) r (memory (window_in d c g) c.store))
at-once t p d c g r x o f q a (same y k n) = absurd (quiet_answers k (ap kind_of a))
at-once t p d c g r x o f q a (idle e i) = impossible cc
at-once t p d c g r x o f q a (answer h r' y w e b l v ko kw k) =
    let gh : h ≡ g = same-answer-guest a in
    let rr : r' ≡ r = same-post-registers (sym e ∙ q) in
    let yx : y ≡ x = same_answer a in
    let al = answered_alone t p d c h r' y w l (record { table = f.table; placement = ap (placement_at d) gh ∙ f.placement }) ko kw in
    rw (← gh, ← rr, ← yx)
    (record {
      registers = ap (λ (s : Served). s.registers) (sym al);
      window = window_with_same c.arena h (window_size d) w (k ∙ sym (span_lent d c h b l)) ∙ ap (λ (s : Served). s.memory.window) (sym al);
      store = ap (λ (s : Served). s.memory.store) (sym al);
    })
at-once t p d c g r x o f q a (accepting h r' j e b l v ko kw i) = impossible cc
at-once t p d c g r x o f q a (serving h k e b l v i) = impossible cc
at-once t p d c g r x o f q a (giving h y e b v) = impossible cc
at-once t p d c g r x o f q a (withdrawing h k e b l v) = impossible cc
at-once t p d c g r x o f q a (placing h address e b l v k) = impossible cc

-- ---- never 25

pub never : (d : Desk) (c : Call) (o : Out) → Did d c o → house_number o.answer ≡ 25 → ⊥
never d c o (same x k n) e = n e
never d c o (idle t f) e = omega arith
never d c o (answer h r x w t b l v ko kw k) e = omega arith
never d c o (accepting h r j t b l v ko kw f) e = omega arith
never d c o (serving h q t b l v f) e = omega arith
never d c o (giving h x t b v) e = omega arith
never d c o (withdrawing h q t b l v) e = omega arith
never d c o (placing h address t b l v k) e = omega arith
