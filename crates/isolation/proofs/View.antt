-- What one call does, by cases: each with the facts that hold there, and no test left.
-- Assumes nothing.
use Prim.Native.Nat.{ℕ, ◌/◌, ◌≤◌, ◌<◌}
use mathlib.Core.Path.{◌≡◌, refl, sym, ap, subst, ◌∙◌}
use mathlib.Core.Bool.{Bool, true, false}
use mathlib.Core.List.{List}
use native.Mathlib.Omega.{arith}
use lib.Dec.{ltb, eqb}
use borrow.Author.Tests.{ltb-true, eqb-true, eq-eqb}
use lib.ListN.{length}
use Rattle.std.specs.Prelude.{Result, Ok, Err, Option, Some, None}
use Rattle.logic.proofs.LogicLaws.{both_true, pick-cases, true≢false}
use Rattle.memory.specs.Window.{guests, window_length, span_length, window_of, with_window}
use Rattle.memory.proofs.WindowLaws.{span_in, length-window}
use Rattle.desk.specs.declared.HouseNumber.{HouseNumber}
use Rattle.desk.specs.declared.HouseNumber.TheVariants.{ShortBuffer as NoRoom, NoGuest, NotVacant, NotFinished, NotWaiting, OtherLength, BadPlace}
use Rattle.table.specs.declared.ShortBuffer.{ShortBuffer}
use Rattle.table.specs.Table.{write_answer, table_of}
use Rattle.int13.specs.declared.Registers.{Registers}
use Rattle.int13.specs.declared.Job.{Job}
use Rattle.int13.specs.declared.Outcome.{Outcome}
use Rattle.int13.specs.declared.Outcome.TheVariants.{Answered, Waits}
use Rattle.int13.specs.Placement.{table_count}
use Rattle.int13.specs.Steps.{fed, begin}
use Rattle.desk.specs.declared.Request.{Request}
use Rattle.desk.specs.declared.Stage.{Stage}
use Rattle.desk.specs.declared.Stage.TheVariants.{Vacant, Waiting, Finished}
use Rattle.desk.specs.declared.Desk.{Desk}
use Rattle.desk.specs.Parts.{window_size, stage_at, is_waiting, placement_at, with_placement}
use Rattle.desk.specs.Acceptable.{place_ok, accept}
use Rattle.desk.specs.Calls.{OpenAnswer, WriteAnswer, PostAnswer, TurnAnswer, CollectAnswer, WithdrawAnswer, PlaceAnswer, house_tests, is_lent, Done, done, open_of, table_written, written_of, written_out, post_checked, post_row, post_of, first_waiting, serve, serve_stage, turn_next, turn_of, collect_stage, collect_of, withdraw_stage, withdraw_of, tables_in, place_tables, place_stage, place_of}
use Rattle.isolation.specs.Lists.{Op, open_table, post, turn, collect, withdraw, write, place, Call, Answer, opening, posted, turned, collected, withdrawn, written, placed, Out, opened_desk, out_of, step_of, step}
use Rattle.isolation.specs.Words.{Kind, refused, plain, opens, kind_of, house_number, line, marks}
use Rattle.isolation.proofs.House.{house-cases}
use Rattle.isolation.proofs.Turn.{dist, dist_lt, Found, seek-guest, seek_nobody, vacant≢waiting, finished≢waiting}
use Rattle.isolation.proofs.Check.{Fresh, Says, check_says}
use Rattle.isolation.proofs.Accept.{Inv, inv_accept}

pub record Lent (d : Desk) (c : Call) : Type 0 where
  pub arena : length c.arena ≡ d.arena
  pub store : length c.store ≡ d.store

-- an answer that no number over the list takes notice of: a refusal, or a call that changes nothing
pub data Quiet : Kind → Type 0 where
  refusing : Quiet refused
  writing : Quiet plain

pub quiet_marks : {k : Kind} (g : ℕ) → Quiet k → marks g k ≡ line 0 0 0 0 0 0 0
quiet_marks g refusing = refl
quiet_marks g writing = refl

-- ---- the cases of a call

abbrev pub still : Desk → Call → Answer → Out
still d c x = record { desk = d; answer = x; arena = c.arena; store = c.store }

abbrev pub window_in : Desk → Call → ℕ → List ℕ
window_in d c g = window_of c.arena g (window_size d)

abbrev pub posted_out : Desk → Call → ℕ → Outcome → List ℕ → Out
posted_out d c g o w = out_of (posted g) (post_checked d g c.arena c.store o w)

abbrev pub served_out : Desk → Call → ℕ → Request → Out
served_out d c g q = out_of turned (serve d g q c.arena c.store)

abbrev pub collected_out : Desk → Call → ℕ → Registers → Out
collected_out d c g x = out_of (collected g) (collect_stage d g (Finished x) c.arena c.store)

abbrev pub withdrawn_out : Desk → Call → ℕ → Request → Out
withdrawn_out d c g q = out_of (withdrawn g) (withdraw_stage d g (Waiting q) c.arena c.store)

-- the tables stand in the window of g, and in no other
abbrev pub placed_out : Desk → Call → ℕ → ℕ → Out
placed_out d c g address =
    record {
      desk = with_placement d g address;
      answer = placed g address (Ok tt);
      arena = with_window c.arena g (window_size d) (tables_in d.table address (window_in d c g));
      store = c.store;
    }

pub data Did (d : Desk) (c : Call) : Out → Type 0 where
  same : (x : Answer) → Quiet (kind_of x) → (house_number x ≡ 25 → ⊥) → Did d c (still d c x)
  idle : c.op ≡ turn → ((h : ℕ) (q : Request) → h < guests → stage_at d h ≡ Waiting q → ⊥) → Did d c (still d c (turned (Ok None)))
  answer : (g : ℕ) (r x : Registers) (w : List ℕ) → c.op ≡ post g r → g < guests → Lent d c → stage_at d g ≡ Vacant
      → (begin (fed d.table (placement_at d g)) r (window_in d c g)).outcome ≡ Answered x → (begin (fed d.table (placement_at d g)) r (window_in d c g)).window ≡ w → length w ≡ window_size d
      → Did d c (posted_out d c g (Answered x) w)
  accepting : (g : ℕ) (r : Registers) (j : Job) → c.op ≡ post g r → g < guests → Lent d c → stage_at d g ≡ Vacant
      → (begin (fed d.table (placement_at d g)) r (window_in d c g)).outcome ≡ Waits j → (begin (fed d.table (placement_at d g)) r (window_in d c g)).window ≡ window_in d c g → Fresh d.table r (window_in d c g) j
      → Did d c (posted_out d c g (Waits j) (window_in d c g))
  serving : (g : ℕ) (q : Request) → c.op ≡ turn → g < guests → Lent d c → stage_at d g ≡ Waiting q
      → ((h : ℕ) (q' : Request) → h < guests → stage_at d h ≡ Waiting q' → dist d.pointer g ≤ dist d.pointer h) → Did d c (served_out d c g q)
  giving : (g : ℕ) (x : Registers) → c.op ≡ collect g → g < guests → stage_at d g ≡ Finished x → Did d c (collected_out d c g x)
  withdrawing : (g : ℕ) (q : Request) → c.op ≡ withdraw g → g < guests → Lent d c → stage_at d g ≡ Waiting q → Did d c (withdrawn_out d c g q)
  placing : (g address : ℕ) → c.op ≡ place g address → g < guests → Lent d c → is_waiting (stage_at d g) ≡ false
      → place_ok (table_count d.table) (window_size d) address ≡ true → Did d c (placed_out d c g address)

-- ---- the tests

lent_facts : (d : Desk) (c : Call) → is_lent d c.arena c.store ≡ true → Lent d c
lent_facts d c e =
    let p = both_true (eqb (length c.arena) d.arena) (eqb (length c.store) d.store) e in
    record { arena = eqb-true _ _ p.0; store = eqb-true _ _ p.1 }

-- the window of a guest has the windows' length
pub span_lent : (d : Desk) (c : Call) (g : ℕ) → g < guests → Lent d c → span_length (length c.arena) g (window_size d) ≡ window_size d
span_lent d c g b l =
    let e : window_size d ≤ window_length (length c.arena) = omega (arith, l.arena) in
    (span_in (length c.arena) g (window_size d) e b).1

pub window-length : (d : Desk) (c : Call) (g : ℕ) → g < guests → Lent d c → length (window_in d c g) ≡ window_size d
window-length d c g b l = length-window c.arena g (window_size d) ∙ span_lent d c g b l

module _ (d : Desk) (inv : Inv d) (c : Call) where
  -- its desk is acceptable: what is left are 24, 20 and the row
  house : {A : Type 0} (P : A → Type 0) (refused_by : HouseNumber → A) (passed : A) (lent guest : Bool) → P (refused_by OtherLength) → P (refused_by NoGuest)
      → (lent ≡ true → guest ≡ true → P passed) → P (house_tests (accept d) lent guest refused_by passed)
  house P f x l g = house-cases P f x (accept d) l g (λ e. true≢false (accept d) (inv_accept d inv) e)

  -- a refusal that is no 25 changes nothing
  refuse : (x : Answer) → kind_of x ≡ refused → eqb (house_number x) 25 ≡ false → Did d c (still d c x)
  refuse x k n = same x (subst Quiet (sym k) refusing) (λ e. true≢false (eqb (house_number x) 25) (eq-eqb (house_number x) 25 e) n)

  -- ---- open

  view_open : (new : Desk) (x : OpenAnswer) → (kind_of (opening x) ≡ opens → ⊥) → Did d c (record { desk = opened_desk d new x; answer = opening x; arena = c.arena; store = c.store })
  view_open new (Ok u) n = absurd (n refl)
  view_open new (Err x) k = refuse (opening (Err x)) refl refl

  -- ---- post

  abbrev Posts : ℕ → Done PostAnswer → Type 0
  Posts g o = Did d c (out_of (posted g) o)

  view_checked : (g : ℕ) (r : Registers) → c.op ≡ post g r → g < guests → Lent d c → stage_at d g ≡ Vacant → (o : Outcome) (w : List ℕ)
      → (begin (fed d.table (placement_at d g)) r (window_in d c g)).outcome ≡ o → (begin (fed d.table (placement_at d g)) r (window_in d c g)).window ≡ w → Says d.table r (window_in d c g) o w
      → Posts g (post_checked d g c.arena c.store o w)
  view_checked g r e b l v (Answered x) w ko kw s = answer g r x w e b l v ko kw (s ∙ window-length d c g b l)
  view_checked g r e b l v (Waits j) w ko kw s =
      rw s.1 (accepting g r j e b l v ko (kw ∙ s.1) s.0)

  view_vacant : (g : ℕ) (r : Registers) → c.op ≡ post g r → g < guests → Lent d c → (s : Stage) → stage_at d g ≡ s → Posts g (post_row d g r c.arena c.store s)
  view_vacant g r e b l Vacant v =
      view_checked g r e b l v (begin (fed d.table (placement_at d g)) r (window_in d c g)).outcome (begin (fed d.table (placement_at d g)) r (window_in d c g)).window refl refl
      (check_says d.table (d.store / 512) inv.table r (window_in d c g) (placement_at d g))
  view_vacant g r e b l (Waiting q) v = refuse (posted g (Err NotVacant)) refl refl
  view_vacant g r e b l (Finished x) v = refuse (posted g (Err NotVacant)) refl refl

  view_post : (g : ℕ) (r : Registers) → c.op ≡ post g r → Posts g (post_of d g r c.arena c.store)
  unfolding post_of
  view_post g r o =
      house (Posts g) (λ e. done d (Err e) c.arena c.store) _ (is_lent d c.arena c.store) (ltb g guests)
      (refuse (posted g (Err OtherLength)) refl refl) (refuse (posted g (Err NoGuest)) refl refl)
      (λ l b. view_vacant g r o (ltb-true g guests b) (lent_facts d c l) (stage_at d g) refl)

  -- ---- turn

  abbrev Turns : Done TurnAnswer → Type 0
  Turns o = Did d c (out_of turned o)

  view_serve : (g : ℕ) → c.op ≡ turn → Lent d c → Found d.rows d.pointer g → (s : Stage) → stage_at d g ≡ s → Turns (serve_stage d g s c.arena c.store)
  view_serve g e l f Vacant v = absurd (vacant≢waiting (sym v ∙ f.here))
  view_serve g e l f (Waiting q) v = serving g q e f.below l v f.nearest
  view_serve g e l f (Finished x) v = absurd (finished≢waiting (sym v ∙ f.here))

  view_next : c.op ≡ turn → Lent d c → (n : Option ℕ) → first_waiting d.rows guests d.pointer ≡ n → Turns (turn_next d n c.arena c.store)
  view_next e l None s = idle e (λ h q b x. seek_nobody d.rows guests d.pointer inv.pointer s h q b (dist_lt d.pointer h) x)
  view_next e l (Some g) s = view_serve g e l (seek-guest d.rows guests d.pointer g inv.pointer s) (stage_at d g) refl

  view_turn : c.op ≡ turn → Turns (turn_of d c.arena c.store)
  unfolding turn_of
  view_turn o =
      house Turns (λ e. done d (Err e) c.arena c.store) _ (is_lent d c.arena c.store) true
      (refuse (turned (Err OtherLength)) refl refl) (refuse (turned (Err NoGuest)) refl refl)
      (λ l b. view_next o (lent_facts d c l) (first_waiting d.rows guests d.pointer) refl)

  -- ---- collect

  abbrev Collects : ℕ → Done CollectAnswer → Type 0
  Collects g o = Did d c (out_of (collected g) o)

  view_finished : (g : ℕ) → c.op ≡ collect g → g < guests → (s : Stage) → stage_at d g ≡ s → Collects g (collect_stage d g s c.arena c.store)
  view_finished g e b Vacant v = refuse (collected g (Err NotFinished)) refl refl
  view_finished g e b (Waiting q) v = refuse (collected g (Err NotFinished)) refl refl
  view_finished g e b (Finished x) v = giving g x e b v

  view_collect : (g : ℕ) → c.op ≡ collect g → Collects g (collect_of d g c.arena c.store)
  unfolding collect_of
  view_collect g o =
      house (Collects g) (λ e. done d (Err e) c.arena c.store) _ true (ltb g guests)
      (refuse (collected g (Err OtherLength)) refl refl) (refuse (collected g (Err NoGuest)) refl refl)
      (λ l b. view_finished g o (ltb-true g guests b) (stage_at d g) refl)

  -- ---- withdraw

  abbrev Withdraws : ℕ → Done WithdrawAnswer → Type 0
  Withdraws g o = Did d c (out_of (withdrawn g) o)

  view_waiting : (g : ℕ) → c.op ≡ withdraw g → g < guests → Lent d c → (s : Stage) → stage_at d g ≡ s → Withdraws g (withdraw_stage d g s c.arena c.store)
  view_waiting g e b l Vacant v = refuse (withdrawn g (Err NotWaiting)) refl refl
  view_waiting g e b l (Waiting q) v = withdrawing g q e b l v
  view_waiting g e b l (Finished x) v = refuse (withdrawn g (Err NotWaiting)) refl refl

  view_withdraw : (g : ℕ) → c.op ≡ withdraw g → Withdraws g (withdraw_of d g c.arena c.store)
  unfolding withdraw_of
  view_withdraw g o =
      house (Withdraws g) (λ e. done d (Err e) c.arena c.store) _ (is_lent d c.arena c.store) (ltb g guests)
      (refuse (withdrawn g (Err OtherLength)) refl refl) (refuse (withdrawn g (Err NoGuest)) refl refl)
      (λ l b. view_waiting g o (ltb-true g guests b) (lent_facts d c l) (stage_at d g) refl)

  -- ---- place

  abbrev Places : ℕ → ℕ → Done PlaceAnswer → Type 0
  Places g address o = Did d c (out_of (placed g address) o)

  view_tables : (g address : ℕ) → c.op ≡ place g address → g < guests → Lent d c → is_waiting (stage_at d g) ≡ false → Places g address (place_tables d g address c.arena c.store)
  view_tables g address e b l v =
      pick-cases (Places g address) (place_ok (table_count d.table) (window_size d) address) _ _ (λ k. placing g address e b l v k)
      (λ k. refuse (placed g address (Err BadPlace)) refl refl)

  view_idle : (g address : ℕ) → c.op ≡ place g address → g < guests → Lent d c → (s : Stage) → stage_at d g ≡ s → Places g address (place_stage d g address s c.arena c.store)
  view_idle g address e b l Vacant v = view_tables g address e b l (ap is_waiting v)
  view_idle g address e b l (Waiting q) v = refuse (placed g address (Err NotVacant)) refl refl
  view_idle g address e b l (Finished x) v = view_tables g address e b l (ap is_waiting v)

  view_place : (g address : ℕ) → c.op ≡ place g address → Places g address (place_of d g address c.arena c.store)
  unfolding place_of
  view_place g address o =
      house (Places g address) (λ e. done d (Err e) c.arena c.store) _ (is_lent d c.arena c.store) (ltb g guests)
      (refuse (placed g address (Err OtherLength)) refl refl) (refuse (placed g address (Err NoGuest)) refl refl)
      (λ l b. view_idle g address o (ltb-true g guests b) (lent_facts d c l) (stage_at d g) refl)

  -- ---- write

  abbrev Writes : List ℕ → WriteAnswer → Type 0
  Writes out x = Did d c (still d c (written x out))

  view_write : (n : ℕ) (out : List ℕ) → Writes out (written_of d n)
  unfolding written_of write_answer
  view_write n out =
      house (Writes out) Err _ true true
      (refuse (written (Err OtherLength) out) refl refl) (refuse (written (Err NoGuest) out) refl refl)
      (λ l b. pick-cases (λ (x : Result ℕ ShortBuffer). Writes out (table_written x)) (ltb n (length (table_of d.table))) _ _
      (λ e. refuse (written (Err NoRoom) out) refl refl)
      (λ e. same (written (Ok (length (table_of d.table))) out) writing (λ e. absurd (omega arith))))

  -- ---- every call; an opening only where it is refused

  view_op : (o : Op) → c.op ≡ o → (kind_of (step_of d o c.arena c.store).answer ≡ opens → ⊥) → Did d c (step_of d o c.arena c.store)
  view_op (open_table t a s) e n = view_open (open_of t a s).desk (open_of t a s).answer n
  view_op (post g r) e n = view_post g r e
  view_op turn e n = view_turn e
  view_op (collect g) e n = view_collect g e
  view_op (withdraw g) e n = view_withdraw g e
  view_op (write out) e n = view_write (length out) (written_out d out)
  view_op (place g address) e n = view_place g address e

  pub view : (kind_of (step d c).answer ≡ opens → ⊥) → Did d c (step d c)
  unfolding step
  view n = view_op c.op refl n
