-- What each call's definition gives in each case, as the code meets them.
-- Assumes nothing.
use mathlib.Core.Path.{◌≡◌, refl, sym, ap, ◌∙◌}
use mathlib.Core.Logic.{inl, inr, ⊎_elim}
use mathlib.Core.Bool.{Bool, true, false}
use mathlib.Core.List.{List, [], ◌∷◌}
use types.Run.{OneOf}
use denote.Enum.Declared.{tag_of}
use Prim.Native.Nat.{ℕ, zero, suc, ◌+◌, ◌/◌, ◌^◌, ◌≤◌, ◌<◌}
use native.Mathlib.Omega.{arith}
use lib.ListN.{length}
use lib.Dec.{ltb, eqb}
use borrow.Author.Tests.{ltb-true, eqb-true}
use Rattle.logic.specs.Logic.{pick}
use Rattle.logic.proofs.LogicLaws.{both_true, impossible}
use Rattle.memory.specs.Window.{window_length, window_of, with_window}
use Rattle.memory.proofs.WindowLaws.{length-with_window}
use Rattle.attached.specs.declared.Bads.{Bads}
use Rattle.attached.proofs.BadLaws.{good-most}
use Rattle.std.specs.Prelude.{Result, Ok, Err, Option, Some, None}
use Rattle.table.specs.Table.{write_answer, write_out}
use Rattle.int13.specs.declared.Registers.{Registers}
use Rattle.int13.specs.declared.Outcome.{Outcome}
use Rattle.int13.specs.declared.Outcome.TheVariants.{Answered, Waits as OutcomeWaits}
use Rattle.int13.specs.Answers.{ah}
use Rattle.int13.specs.Placement.{table_count}
use Rattle.int13.specs.Steps.{Checked, drive_at, fed, begin}
use Rattle.int13.specs.Alone.{Memory, store_block, moves}
use Rattle.desk.specs.contracts.Stage as stage
use Rattle.desk.specs.declared.Request.{Request}
use Rattle.desk.specs.declared.Stage.{Stage}
use Rattle.desk.specs.declared.Stage.TheVariants.{Vacant, Waiting, Finished}
use Rattle.desk.specs.declared.Row.{Row}
use Rattle.desk.specs.declared.Desk.{Desk}
use Rattle.desk.specs.declared.Service.{Service}
use Rattle.desk.specs.declared.HouseNumber.{HouseNumber}
use Rattle.desk.specs.declared.HouseNumber.TheVariants.{NotVacant, NotFinished, NotWaiting, BadPlace}
use Rattle.desk.specs.Parts.{window_size, own_window, with_own, stage_in, stage_at, with_stage, is_waiting, next, with_pointer, placement_at, with_placement}
use Rattle.desk.specs.Acceptable.{packet_ok, place_ok, accept, Servable, InRange}
use Rattle.desk.specs.Calls.{number, PostAnswer, TurnAnswer, WithdrawAnswer, PlaceAnswer, house_tests, house_number, house_answer, is_lent, done, table_written, written_of, written_out, post_checked, post_row, post_of, first_waiting, quota, moves_now, service_of, beside, bads_for, moved_from, Transferred, serve_by, serve_stage, turn_next, turn_of, collect_stage, collect_of, withdrawn_window, withdraw_stage, withdraw_of, tables_in, place_tables, place_stage, place_of}
use Rattle.desk.proofs.AcceptableLaws.{accept_true, rows_ok_at, Waits, waits_facts, not-waiting, drive-obeys, waits_servable}
use Rattle.desk.proofs.Transfers.{length_moved, ending_laid}

-- ---- stages that a `let .. else` leaves, by their numbers

pub not_finished-tag : (s : Stage) → ((r : Registers) → s ≡ Finished r → ⊥) → OneOf (0 ∷ 1 ∷ []) (tag_of stage.the_type s)
not_finished-tag Vacant n = inl refl
not_finished-tag (Waiting q) n = inr refl
not_finished-tag (Finished r) n = absurd (n r refl)

pub not_vacant-tag : (s : Stage) → (s ≡ Vacant → ⊥) → OneOf (1 ∷ 2 ∷ []) (tag_of stage.the_type s)
not_vacant-tag Vacant n = absurd (n refl)
not_vacant-tag (Waiting q) n = inl refl
not_vacant-tag (Finished r) n = inr refl

collect-stage : (s : Stage) (d : Desk) (g : ℕ) (arena store : List ℕ) → OneOf (0 ∷ 1 ∷ []) (tag_of stage.the_type s) → done d (Err NotFinished) arena store ≡ collect_stage d g s arena store
collect-stage Vacant d g arena store k = refl
collect-stage (Waiting q) d g arena store k = refl
collect-stage (Finished r) d g arena store k = absurd (⊎_elim (λ w. omega arith) (λ w. omega arith) k)

post_stage : (s : Stage) (d : Desk) (g : ℕ) (r : Registers) (arena store : List ℕ) → OneOf (1 ∷ 2 ∷ []) (tag_of stage.the_type s) → done d (Err NotVacant) arena store ≡ post_row d g r arena store s
post_stage Vacant d g r arena store k = absurd (⊎_elim (λ w. omega arith) (λ w. omega arith) k)
post_stage (Waiting q) d g r arena store k = refl
post_stage (Finished x) d g r arena store k = refl

-- a place is looked at for every row but a waiting one
place-stage : (s : Stage) (d : Desk) (g address : ℕ) (arena store : List ℕ) → is_waiting s ≡ true → done d (Err NotVacant) arena store ≡ place_stage d g address s arena store
place-stage Vacant d g address arena store e = impossible (cc)
place-stage (Waiting q) d g address arena store e = refl
place-stage (Finished r) d g address arena store e = impossible (cc)

place_other : (s : Stage) (d : Desk) (g address : ℕ) (arena store : List ℕ) → is_waiting s ≡ false → place_tables d g address arena store ≡ place_stage d g address s arena store
place_other Vacant d g address arena store e = refl
place_other (Waiting q) d g address arena store e = impossible (cc)
place_other (Finished r) d g address arena store e = refl

-- a post that passed its tests, by its parts
post_parts : (d : Desk) (g : ℕ) (arena store : List ℕ) (o : Outcome) (w : List ℕ)
    → done (post_checked d g [] [] o []).desk (post_checked d g [] [] o []).answer (with_window arena g (window_size d) w) store ≡ post_checked d g arena store o w
post_parts d g arena store (Answered r) w = refl
post_parts d g arena store (OutcomeWaits j) w = refl

-- ---- the lengths that are lent

pub lent_arena : (d : Desk) (arena store : List ℕ) → is_lent d arena store ≡ true → length arena ≡ d.arena
lent_arena d arena store e = eqb-true (length arena) d.arena (both_true _ _ e).0

pub lent_store : (d : Desk) (arena store : List ℕ) → is_lent d arena store ≡ true → length store ≡ d.store
lent_store d arena store e = eqb-true (length store) d.store (both_true (eqb (length arena) d.arena) _ e).1

-- the windows that the arena's length cuts are the desk's
own-length : (d : Desk) (arena store : List ℕ) → is_lent d arena store ≡ true → window_length (length arena) ≡ window_size d
own-length d arena store e = ap window_length (lent_arena d arena store e)

-- ---- the tests before the row's

-- a number that is not 0 is the refusal
pub house-refused : {A : Type 0} {n : ℕ} (a l g : Bool) (f : ℕ → A) (x : A) → n ≡ house_number a l g → (n ≡ 0 → ⊥) → f n ≡ house_tests a l g (λ e. f (number e)) x
unfolding house_number
house-refused false l g f x e z = ap f e
house-refused true false g f x e z = ap f e
house-refused true true false f x e z = ap f e
house-refused true true true f x e z = absurd (z e)

-- the tests as the code has them
pub house-tests : {n : ℕ} {a l g a' l' g' : Bool} → n ≡ house_number a l g → a ≡ a' → l ≡ l' → g ≡ g' → n ≡ house_number a' l' g'
house-tests e ea el eg = rw (← ea, ← el, ← eg) e

-- a refusal of the tests is the call's
answer-refused : {A : Type 0} {e : HouseNumber} (a l g : Bool) (f : HouseNumber → A) (x : A) → house_answer a l g ≡ Err e → f e ≡ house_tests a l g f x
unfolding house_answer
answer-refused false l g f x q = ap f (cc)
answer-refused true false g f x q = ap f (cc)
answer-refused true true false f x q = ap f (cc)
answer-refused true true true f x q = impossible (cc)

-- as a `?` in the code hands it on
pub refused_by : {A X : Type 0} {h : Result (Unit {0}) HouseNumber} {e y : HouseNumber} {r : Result X HouseNumber} (a l g : Bool) (f : Result X HouseNumber → A) (x : A)
    → h ≡ house_answer a l g → h ≡ Err e → r ≡ Err y → y ≡ e → f r ≡ house_tests a l g (λ e. f (Err e)) x
refused_by a l g f x p q s t = rw (s, t) (answer-refused a l g (λ e. f (Err e)) x (sym p ∙ q))

pub record Passed (a l g : Bool) : Type 0 where
  pub acceptable : a ≡ true
  pub lent : l ≡ true
  pub guest : g ≡ true

-- at 0 all of them pass
pub house_passed : {n : ℕ} (a l g : Bool) → n ≡ house_number a l g → n ≡ 0 → Passed a l g
unfolding house_number
house_passed false l g e z = absurd (omega arith)
house_passed true false g e z = absurd (omega arith)
house_passed true true false e z = absurd (omega arith)
house_passed true true true e z = record { acceptable = refl; lent = refl; guest = refl }

-- where there is none all of them pass
answer_passed : {u : Unit {0}} (a l g : Bool) → house_answer a l g ≡ Ok u → Passed a l g
unfolding house_answer
answer_passed false l g q = impossible (cc)
answer_passed true false g q = impossible (cc)
answer_passed true true false q = impossible (cc)
answer_passed true true true q = record { acceptable = refl; lent = refl; guest = refl }

pub passed_by : {h : Result (Unit {0}) HouseNumber} {u : Unit {0}} (a l g : Bool) → h ≡ house_answer a l g → h ≡ Ok u → Passed a l g
passed_by a l g p q = answer_passed a l g (sym p ∙ q)

pub passed-below : {a l : Bool} (g : ℕ) → Passed a l (ltb g 8) → g < 8
passed-below g p = ltb-true g 8 p.guest

pub house_on : {A : Type 0} {a l g : Bool} (f : HouseNumber → A) (x : A) → Passed a l g → x ≡ house_tests a l g f x
house_on f x p = rw (p.acceptable, p.lent, p.guest)

-- ---- the calls that pass, by the row

pub write-table : (d : Desk) (out : List ℕ) → Passed (accept d) true true → (table_written (write_answer d.table (length out)) ≡ written_of d (length out)) × (write_out d.table out ≡ written_out d out)
unfolding written_of written_out
write-table d out p = (house_on Err _ p, house_on (λ e. out) _ p)

module _ (d : Desk) (g : ℕ) (arena store : List ℕ) (p : Passed (accept d) true (ltb g 8)) where
  collect_row : collect_stage d g (stage_at d g) arena store ≡ collect_of d g arena store
  unfolding collect_of
  collect_row = house_on (λ e. done d (Err e) arena store) _ p

  pub collect-other : OneOf (0 ∷ 1 ∷ []) (tag_of stage.the_type (stage_at d g)) → done d (Err NotFinished) arena store ≡ collect_of d g arena store
  collect-other k = collect-stage (stage_at d g) d g arena store k ∙ collect_row

  pub collect-finished : (r : Registers) → stage_at d g ≡ Finished r → done (with_stage d g Vacant) (Ok r) arena store ≡ collect_of d g arena store
  collect-finished r e = ap (λ (s : Stage). collect_stage d g s arena store) (sym e) ∙ collect_row

module _ (d : Desk) (arena store : List ℕ) (p : Passed (accept d) (is_lent d arena store) true) where
  turn-next : turn_next d (first_waiting d.rows 8 d.pointer) arena store ≡ turn_of d arena store
  unfolding turn_of
  turn-next = house_on (λ e. done d (Err e) arena store) _ p

  pub turn_nobody : first_waiting d.rows 8 d.pointer ≡ None → done d (Ok None) arena store ≡ turn_of d arena store
  turn_nobody e = ap (λ (n : Option ℕ). turn_next d n arena store) (sym e) ∙ turn-next

  pub turn-guest : (g : ℕ) → first_waiting d.rows 8 d.pointer ≡ Some g → serve_stage d g (stage_at d g) arena store ≡ turn_of d arena store
  turn-guest g e = ap (λ (n : Option ℕ). turn_next d n arena store) (sym e) ∙ turn-next

  pub turn-other : (g : ℕ) → first_waiting d.rows 8 d.pointer ≡ Some g → OneOf (0 ∷ 2 ∷ []) (tag_of stage.the_type (stage_at d g)) → done d (Ok None) arena store ≡ turn_of d arena store
  turn-other g e k = not-waiting (λ s. serve_stage d g s arena store) (stage_at d g) k refl (λ r. refl) ∙ turn-guest g e

  pub turn-served : {s : Service} {desk : Desk} {answer : TurnAnswer} {arena₁ arena' store' : List ℕ} (g : ℕ) (q : Request) → first_waiting d.rows 8 d.pointer ≡ Some g → stage_at d g ≡ Waiting q
      → s ≡ service_of (bads_for d q) q → desk ≡ with_pointer (with_stage d g s.stage) (next g) → answer ≡ Ok (Some (record { guest = g; moved = s.moved }))
      → Transferred (drive_at d.table q.job.drive).first q s.moved g arena store arena₁ store'
      → arena' ≡ with_own arena₁ g (beside q s.moved (own_window arena₁ g))
      → done desk answer arena' store' ≡ turn_of d arena store
  turn-served {s} {arena' = arena'} g q e w es e₁ e₂ t x =
      let first : ℕ = (drive_at d.table q.job.drive).first in
      let k : ℕ = moves_now (bads_for d q) q in
      let after : ℕ → Memory = λ m. moves q.job (store_block d.table q.job) q.moved k (record { window = window_of arena g m; store = store }) in
      let laid : arena' ≡ with_own arena g (beside q s.moved (moved_from first q s.moved g arena store).window)
      = ending_laid q s.moved g arena (moved_from first q s.moved g arena store).window (length_moved first q s.moved g arena store) t.0 x in
      rw (e₁, e₂, laid, t.1, es)
      (ap (λ (n : ℕ). done (serve_by d g q k [] []).desk (serve_by d g q k [] []).answer (with_window arena g n (beside q k (after n).window)) (after n).store) (own-length d arena store p.lent)
      ∙ ap (λ (s : Stage). serve_stage d g s arena store) (sym w) ∙ turn-guest g e)

module _ (d : Desk) (g : ℕ) (arena store : List ℕ) (p : Passed (accept d) (is_lent d arena store) (ltb g 8)) where
  post-row : (r : Registers) → post_row d g r arena store (stage_at d g) ≡ post_of d g r arena store
  unfolding post_of
  post-row r = house_on (λ e. done d (Err e) arena store) _ p

  pub post-other : (r : Registers) → OneOf (1 ∷ 2 ∷ []) (tag_of stage.the_type (stage_at d g)) → done d (Err NotVacant) arena store ≡ post_of d g r arena store
  post-other r k = post_stage (stage_at d g) d g r arena store k ∙ post-row r

  pub post-vacant : {desk : Desk} {answer : PostAnswer} {outcome : Outcome} {w : List ℕ} (r : Registers) → stage_at d g ≡ Vacant
      → outcome ≡ (begin (fed d.table (placement_at d g)) r (own_window arena g)).outcome → w ≡ (begin (fed d.table (placement_at d g)) r (own_window arena g)).window
      → desk ≡ (post_checked d g [] [] outcome []).desk → answer ≡ (post_checked d g [] [] outcome []).answer
      → done desk answer (with_own arena g w) store ≡ post_of d g r arena store
  post-vacant r v eo ew e₁ e₂ =
      let asked : ℕ → Checked = λ n. begin (fed d.table (placement_at d g)) r (window_of arena g n) in
      rw (e₁, e₂, eo, ew)
      (ap (λ (n : ℕ). done (post_checked d g [] [] (asked n).outcome []).desk (post_checked d g [] [] (asked n).outcome []).answer (with_window arena g n (asked n).window) store) (own-length d arena store p.lent)
      ∙ post_parts d g arena store (asked (window_size d)).outcome (asked (window_size d)).window
      ∙ ap (post_row d g r arena store) (sym v) ∙ post-row r)

  withdraw_row : withdraw_stage d g (stage_at d g) arena store ≡ withdraw_of d g arena store
  unfolding withdraw_of
  withdraw_row = house_on (λ e. done d (Err e) arena store) _ p

  pub withdraw-other : OneOf (0 ∷ 2 ∷ []) (tag_of stage.the_type (stage_at d g)) → done d (Err NotWaiting) arena store ≡ withdraw_of d g arena store
  withdraw-other k = not-waiting (λ s. withdraw_stage d g s arena store) (stage_at d g) k refl (λ r. refl) ∙ withdraw_row

  pub withdraw_waiting : {desk : Desk} {answer : WithdrawAnswer} {arena' : List ℕ} (q : Request) → stage_at d g ≡ Waiting q
      → desk ≡ (withdraw_stage d g (Waiting q) [] []).desk → answer ≡ (withdraw_stage d g (Waiting q) [] []).answer
      → arena' ≡ with_own arena g (withdrawn_window q (own_window arena g))
      → done desk answer arena' store ≡ withdraw_of d g arena store
  withdraw_waiting q w e₁ e₂ e₃ =
      rw (e₁, e₂, e₃)
      (ap (λ (n : ℕ). done (withdraw_stage d g (Waiting q) [] []).desk (withdraw_stage d g (Waiting q) [] []).answer (with_window arena g n (withdrawn_window q (window_of arena g n))) store) (own-length d arena store p.lent)
      ∙ ap (λ (s : Stage). withdraw_stage d g s arena store) (sym w) ∙ withdraw_row)

  place_row : (address : ℕ) → place_stage d g address (stage_at d g) arena store ≡ place_of d g address arena store
  unfolding place_of
  place_row address = house_on (λ e. done d (Err e) arena store) _ p

  pub place_waiting : (address : ℕ) → is_waiting (stage_at d g) ≡ true → done d (Err NotVacant) arena store ≡ place_of d g address arena store
  place_waiting address w = place-stage (stage_at d g) d g address arena store w ∙ place_row address

  pub place-bad : (address : ℕ) → is_waiting (stage_at d g) ≡ false → place_ok (table_count d.table) (window_size d) address ≡ false
      → done d (Err BadPlace) arena store ≡ place_of d g address arena store
  place-bad address w e =
      let t : done d (Err BadPlace) arena store ≡ place_tables d g address arena store = rw e in
      t ∙ place_other (stage_at d g) d g address arena store w ∙ place_row address

  pub place-done : {desk : Desk} {answer : PlaceAnswer} {arena' : List ℕ} (address : ℕ) → is_waiting (stage_at d g) ≡ false
      → place_ok (table_count d.table) (window_size d) address ≡ true → desk ≡ with_placement d g address → answer ≡ Ok tt
      → arena' ≡ with_own arena g (tables_in d.table address (own_window arena g))
      → done desk answer arena' store ≡ place_of d g address arena store
  place-done address w e e₁ e₂ e₃ =
      let laid : ℕ → List ℕ = λ n. with_window arena g n (tables_in d.table address (window_of arena g n)) in
      let t : done (with_placement d g address) (Ok tt) (laid (window_size d)) store ≡ place_tables d g address arena store = rw e in
      rw (e₁, e₂, e₃)
      (ap (λ (n : ℕ). done (with_placement d g address) (Ok tt) (laid n) store) (own-length d arena store p.lent)
      ∙ t ∙ place_other (stage_at d g) d g address arena store w ∙ place_row address)

-- ---- the guest that a search finds

pub seek-below : (rows : List Row) (k p g : ℕ) → p < 8 → first_waiting rows k p ≡ Some g → g < 8
unfolding first_waiting
seek-below rows zero p g h e = impossible (cc)
seek-below rows (suc k) p g h e = by_row (is_waiting (stage_in rows p)) e (λ q. seek-below rows k (next p) g (omega arith) q)
  where
    by_row : (t : Bool) → pick t (Some p) (first_waiting rows k (next p)) ≡ Some g → (first_waiting rows k (next p) ≡ Some g → g < 8) → g < 8
    by_row true q f = let s : p ≡ g = cc in omega arith
    by_row false q f = f q

-- what acceptance says of a waiting row
pub waiting_facts : (d : Desk) (g : ℕ) (q : Request) → accept d ≡ true → g < 8 → stage_at d g ≡ Waiting q → Waits d.table (window_size d) q
waiting_facts d g q a b e = waits_facts d.table (window_size d) q (rw e at (rows_ok_at 8 d.rows d.table (window_size d) g b (accept_true d a).rows))

-- no turn moves more than its blocks
pub moves-most : (l : Bads) (q : Request) → moves_now l q ≤ quota q
unfolding moves_now
moves-most l q = good-most l (q.job.start + q.moved) (quota q)

-- and of the row that a turn serves
module _ (d : Desk) (arena store : List ℕ) (g : ℕ) (q : Request) (p : Passed (accept d) (is_lent d arena store) true) (b : g < 8) (e : stage_at d g ≡ Waiting q) where
  pub servable : length store < 2 ^ 64 → Servable q
  servable fs =
      let ls = lent_store d arena store p.lent in
      waits_servable d.table (window_size d) (d.store / 512) q (accept_true d p.acceptable).sound (omega (arith, ls)) (waiting_facts d g q p.acceptable b e)

  pub in-range : {s : Service} → length arena < 2 ^ 64 → length store < 2 ^ 64 → s ≡ service_of (bads_for d q) q
      → InRange (drive_at d.table q.job.drive).first q s.moved g (length arena) (length store)
  in-range fa fs es =
      let A = accept_true d p.acceptable in
      let la = lent_arena d arena store p.lent in
      let ls = lent_store d arena store p.lent in
      let w = waiting_facts d g q p.acceptable b e in
      let o = drive-obeys d.table (d.store / 512) q.job.drive A.sound w.job.drive in
      let k = ap (λ (x : Service). x.moved) es in
      record {
        guest = b;
        part = omega (arith, k, moves-most (bads_for d q) q, w.moved);
        buffer = rw la w.job.buffer;
        blocks = omega (arith, o.inside, w.job.range, ls);
        arena = fa;
        store = fs;
      }

-- the row whose moved blocks are reported
pub record Report (q : Request) (g n : ℕ) : Type 0 where
  pub guest : g < 8
  pub packet : packet_ok (ah q.job.registers) q.job.packet (window_length n) ≡ true
  pub moved : q.moved < 128

pub report_facts : (d : Desk) (arena store : List ℕ) (g : ℕ) (q : Request) → accept d ≡ true → is_lent d arena store ≡ true → g < 8 → stage_at d g ≡ Waiting q → Report q g (length arena)
report_facts d arena store g q a l b e =
    let w = waiting_facts d g q a b e in
    record { guest = b; packet = ap (packet_ok (ah q.job.registers) q.job.packet) (own-length d arena store l) ∙ w.job.packet; moved = omega (arith, w.moved, w.job.count) }

-- what a turn's ending asks, of the arena that its blocks have moved in
pub ending_facts : {s : Service} {arena₁ store₁ : List ℕ} (d : Desk) (arena store : List ℕ) (first g : ℕ) (q : Request) → accept d ≡ true → is_lent d arena store ≡ true → g < 8
    → stage_at d g ≡ Waiting q → s ≡ service_of (bads_for d q) q → Transferred first q s.moved g arena store arena₁ store₁
    → (g < 8) × (packet_ok (ah q.job.registers) q.job.packet (window_length (length arena₁)) ≡ true) × (q.moved + s.moved ≤ 128)
ending_facts {s} d arena store first g q a l b e es t =
    let f = report_facts d arena store g q a l b e in
    let w = waiting_facts d g q a b e in
    let k = ap (λ (x : Service). x.moved) es in
    let n = ap length t.0 ∙ length-with_window arena g (window_length (length arena)) (moved_from first q s.moved g arena store).window in
    (b, ap (λ (m : ℕ). packet_ok (ah q.job.registers) q.job.packet (window_length m)) n ∙ f.packet, omega (arith, k, moves-most (bads_for d q) q, w.moved, w.job.count))
