-- Lists of calls by lines: a line is a call and what it comes to. From the facts that each line asks for, its list follows by number: the events, that
-- none opens, and the conditions of the demand. For the instances.
-- Assumes nothing.
use Prim.Native.Nat.{ℕ, ◌+◌, ◌≤◌, ◌<◌}
use mathlib.Core.Path.{◌≡◌, refl, sym, ap, subst, subst₂, ◌∙◌}
use mathlib.Core.Logic.{◌⊎◌, inl, inr, ⊎_elim}
use mathlib.Core.Bool.{Bool, true, false, not}
use mathlib.Core.List.{List, [], ◌∷◌, ◌++◌, append-nil}
use native.Mathlib.Omega.{arith}
use lib.ListN.{length}
use lib.Dec.{eqb, leb, ltb}
use borrow.Author.Tests.{eq-eqb, eqb-true, eqb-false, leb-true, not-true}
use Rattle.std.specs.Prelude.{Ok, Err, Option, Some, None}
use Rattle.logic.specs.Logic.{pick, both, either}
use Rattle.logic.proofs.LogicLaws.{impossible, both_true, both_intro, either_true, pick-cases, true≢false}
use Rattle.memory.specs.Window.{guests, window_length, window_of, with_window}
use Rattle.memory.proofs.WindowLaws.{span_in, length-window, length-with_window, with_window-same, window_with_other}
use Rattle.table.specs.declared.Table.{Table}
use Rattle.table.specs.Table.{header_of, header_at, step_of as table_step_of, step_at, read_from, read_table}
use Rattle.int13.specs.declared.Registers.{Registers}
use Rattle.int13.specs.declared.Placement.{Placement}
use Rattle.int13.specs.declared.Job.{Job}
use Rattle.int13.specs.declared.Outcome.TheVariants.{Answered, Waits}
use Rattle.int13.specs.Answers.{ah, is_sectors, is_write, withdraw as withdrawn_registers}
use Rattle.int13.specs.Placement.{no_placement, table_count}
use Rattle.int13.specs.Steps.{Checked, unchanged, fed, begin}
use Rattle.int13.specs.Alone.{Memory, store_block, moves, reported, alone}
use Rattle.desk.specs.declared.Request.{Request}
use Rattle.desk.specs.declared.Stage.{Stage}
use Rattle.desk.specs.declared.Stage.TheVariants.{Vacant, Waiting, Finished}
use Rattle.desk.specs.declared.Desk.{Desk}
use Rattle.desk.specs.declared.HouseNumber.TheVariants.{NotVacant, OtherLength, BadPlace}
use Rattle.table.specs.declared.Refusal.TheVariants.{CutOff}
use Rattle.desk.specs.Parts.{window_size, stage_at, is_waiting, with_stage, next, with_pointer, placement_at, with_placement}
use Rattle.desk.specs.Acceptable.{place_ok}
use Rattle.desk.specs.Calls.{PlaceAnswer, Done, done, is_lent, open_of, post_checked, post_row, post_of, first_waiting, goes_on, stage_after, beside, memory_of, moved_by, serve_by, serve, serve_stage, turn_next, turn_of, collect_stage, collect_of, withdrawn_window, withdraw_stage, withdraw_of, tables_in, place_tables, place_stage, place_of}
use Rattle.isolation.specs.Lists.{Op, open_table, post, turn, collect, withdraw, place as place_at, Call, Answer, opening, posted, turned, collected, withdrawn, placed, Out, out_of, step, Event, run, after}
use Rattle.isolation.specs.Words.{Kind, opens, serves, kind_of, kind_in, NoneOpens, service_in, moved_in, full_part, Full, Waits as WaitsOn, Stops, Finishes, moved, withdrawals, Named, Writes, Unwritten, Left, placement_in}
use Rattle.isolation.specs.Demand.{found_by, asked_by, first_by, good_by, Taken, Same, Claim}
use Rattle.isolation.proofs.Moves.{moves-size}
use Rattle.isolation.proofs.Endings.{now}
use Rattle.isolation.proofs.Accept.{Inv, inv_accept}
use Rattle.isolation.proofs.Keep.{inv_step, Fixed, fixed_step, tables-size}
use Rattle.isolation.proofs.Fate.{same-request}
use Rattle.isolation.proofs.Equal.{request}

abbrev pub call : Op → List ℕ → List ℕ → Call
call op arena store = record { op = op; arena = arena; store = store }

-- ---- where a list has come to, and its next line

-- the desk, and the arena and the store that the next call is lent
pub record Place : Type 0 where
  pub desk : Desk
  pub arena : List ℕ
  pub store : List ℕ

abbrev pub place : Desk → List ℕ → List ℕ → Place
place d a s = record { desk = d; arena = a; store = s }

abbrev pub window_at : Place → ℕ → List ℕ
window_at p g = window_of p.arena g (window_size p.desk)

pub data Line : Type 0 where
  -- a post that waits, with its job
  waiting : ℕ → Registers → Job → Line
  -- a post that is answered at once, and what becomes of its window
  answering : ℕ → Registers → Registers → (List ℕ → List ℕ) → Line
  -- a turn that serves a guest's request, the blocks that it moves, and the row's stage after it
  serving : ℕ → Request → ℕ → Stage → Line
  -- a turn while nobody waits; one that is lent nothing
  idling : Line
  unlent : Line
  -- a withdrawal of an 02h or 03h, which has its blocks in AL
  withdrawing : ℕ → Request → Line
  collecting : ℕ → Registers → Line
  -- an opening with no table
  misopening : Line
  -- a guest's tables placed from an address on; for a guest that waits, which is 21; at a bad place, which is 26
  placing : ℕ → ℕ → Line
  barred : ℕ → ℕ → Line
  misplacing : ℕ → ℕ → Line

abbrev op_of : Line → Op
op_of (waiting g r j) = post g r
op_of (answering g r x f) = post g r
op_of (serving g q k st) = turn
op_of idling = turn
op_of unlent = turn
op_of (withdrawing g q) = withdraw g
op_of (collecting g r) = collect g
op_of misopening = open_table [] 0 0
op_of (placing g address) = place_at g address
op_of (barred g address) = place_at g address
op_of (misplacing g address) = place_at g address

abbrev pub answer_to : Line → Answer
answer_to (waiting g r j) = posted g (Ok None)
answer_to (answering g r x f) = posted g (Ok (Some x))
answer_to (serving g q k st) = turned (Ok (Some (record { guest = g; moved = k })))
answer_to idling = turned (Ok None)
answer_to unlent = turned (Err OtherLength)
answer_to (withdrawing g q) = withdrawn g (Ok (withdrawn_registers q.moved q.job.registers))
answer_to (collecting g r) = collected g (Ok r)
answer_to misopening = opening (Err (record { refusal = CutOff; place = 0 }))
answer_to (placing g address) = placed g address (Ok tt)
answer_to (barred g address) = placed g address (Err NotVacant)
answer_to (misplacing g address) = placed g address (Err BadPlace)

-- whether it is lent arena and store
abbrev is_given : Line → Bool
is_given (waiting g r j) = true
is_given (answering g r x f) = true
is_given (serving g q k st) = true
is_given idling = true
is_given unlent = false
is_given (withdrawing g q) = true
is_given (collecting g r) = false
is_given misopening = false
is_given (placing g address) = true
is_given (barred g address) = true
is_given (misplacing g address) = true

abbrev is_writing : Request → Bool
is_writing q = is_write (ah q.job.registers)

-- the served guest's window after it
abbrev window_by : Place → ℕ → Request → ℕ → List ℕ
window_by p g q k = beside q k (moved_by p.desk g q k p.arena p.store).window

-- it writes nothing beside the data: it goes on, or all blocks are moved
abbrev is_whole : Request → ℕ → Bool
is_whole q k = either (goes_on q k) (not (ltb (q.moved + k) q.job.count))

-- a turn that writes leaves the arena, but for the count word at a bad block; one that reads leaves the store
abbrev arena_if : Bool → Place → ℕ → Request → ℕ → List ℕ
arena_if w p g q k = pick w p.arena (with_window p.arena g (window_size p.desk) (window_by p g q k))

abbrev store_if : Bool → Place → ℕ → Request → ℕ → List ℕ
store_if w p g q k = pick w (moved_by p.desk g q k p.arena p.store).store p.store

abbrev pub leaves : Place → Line → Place
leaves p (waiting g r j) = place (with_stage p.desk g (Waiting (request j 0))) p.arena p.store
leaves p (answering g r x f) = place p.desk (with_window p.arena g (window_size p.desk) (f (window_at p g))) p.store
leaves p (serving g q k st) =
    place (with_pointer (with_stage p.desk g st) (next g)) (arena_if (both (is_writing q) (is_whole q k)) p g q k) (store_if (is_writing q) p g q k)
leaves p idling = p
leaves p unlent = p
leaves p (withdrawing g q) = place (with_stage p.desk g Vacant) p.arena p.store
leaves p (collecting g r) = place (with_stage p.desk g Vacant) p.arena p.store
leaves p misopening = p
leaves p (placing g address) =
    place (with_placement p.desk g address) (with_window p.arena g (window_size p.desk) (tables_in p.desk.table address (window_at p g))) p.store
leaves p (barred g address) = p
leaves p (misplacing g address) = p

abbrev pub call_of : Place → Line → Call
call_of p l = call (op_of l) (pick (is_given l) p.arena []) (pick (is_given l) p.store [])

abbrev pub out_at : Place → Line → Out
out_at p l =
    record {
      desk = (leaves p l).desk;
      answer = answer_to l;
      arena = pick (is_given l) (leaves p l).arena [];
      store = pick (is_given l) (leaves p l).store [];
    }

-- what a line asks for
abbrev pub Holds : Place → Line → Type 0
Holds p (waiting g r j) =
    (ltb g guests ≡ true) × (stage_at p.desk g ≡ Vacant) × (begin (fed p.desk.table (placement_at p.desk g)) r (window_at p g) ≡ unchanged (window_at p g) (Waits j))
Holds p (answering g r x f) =
    (ltb g guests ≡ true) × (stage_at p.desk g ≡ Vacant) × (begin (fed p.desk.table (placement_at p.desk g)) r (window_at p g) ≡ record { outcome = Answered x; window = f (window_at p g) })
Holds p (serving g q k st) =
    (first_waiting p.desk.rows guests p.desk.pointer ≡ Some g) × (stage_at p.desk g ≡ Waiting q) × (now p.desk.table q ≡ k) × (stage_after q k ≡ st)
Holds p idling = first_waiting p.desk.rows guests p.desk.pointer ≡ None
Holds p unlent = is_lent p.desk [] [] ≡ false
Holds p (withdrawing g q) = (ltb g guests ≡ true) × (stage_at p.desk g ≡ Waiting q) × (is_sectors (ah q.job.registers) ≡ true)
Holds p (collecting g r) = (ltb g guests ≡ true) × (stage_at p.desk g ≡ Finished r)
Holds p misopening = Unit
Holds p (placing g address) =
    (ltb g guests ≡ true) × (is_waiting (stage_at p.desk g) ≡ false) × (place_ok (table_count p.desk.table) (window_size p.desk) address ≡ true)
Holds p (barred g address) = (ltb g guests ≡ true) × (is_waiting (stage_at p.desk g) ≡ true)
Holds p (misplacing g address) =
    (ltb g guests ≡ true) × (is_waiting (stage_at p.desk g) ≡ false) × (place_ok (table_count p.desk.table) (window_size p.desk) address ≡ false)

-- ---- a list of lines

abbrev pub place_after : Place → List Line → Place
place_after p [] = p
place_after p (l ∷ ls) = place_after (leaves p l) ls

abbrev pub calls_of : Place → List Line → List Call
calls_of p [] = []
calls_of p (l ∷ ls) = call_of p l ∷ calls_of (leaves p l) ls

abbrev pub entry : Place → Line → Event
entry p l = record { desk = p.desk; call = call_of p l; out = out_at p l }

abbrev pub events : Place → List Line → List Event
events p [] = []
events p (l ∷ ls) = entry p l ∷ events (leaves p l) ls

abbrev pub All : Place → List Line → Type 0
All p [] = Unit
All p (l ∷ ls) = Holds p l × All (leaves p l) ls

-- one line's facts, and those of the lines after it
infixr 5 ◌also◌
pub ◌also◌ : {A B : Type 0} → A → B → A × B
x also y = (x, y)

-- ---- each line by its result, at an acceptable desk and with the opening's lengths

pub record Sized (p : Place) : Type 0 where
  pub inv : Inv p.desk
  pub arena : length p.arena ≡ p.desk.arena
  pub store : length p.store ≡ p.desk.store

pub lent : (d : Desk) (a s : List ℕ) → length a ≡ d.arena → length s ≡ d.store → is_lent d a s ≡ true
lent d a s e f = both_intro (eqb (length a) d.arena) (eqb (length s) d.store) (eq-eqb _ _ e) (eq-eqb _ _ f)

pub window_lent : (d : Desk) (a : List ℕ) (g : ℕ) → length a ≡ d.arena → g < guests → length (window_of a g (window_size d)) ≡ window_size d
window_lent d a g e b =
    let l : window_size d ≤ window_length (length a) = omega (arith, e) in
    length-window a g (window_size d) ∙ (span_in (length a) g (window_size d) l b).1

module _ (d : Desk) (inv : Inv d) (a s : List ℕ) (l : is_lent d a s ≡ true) where
  pub post-checked : (g : ℕ) (r : Registers) → ltb g guests ≡ true → stage_at d g ≡ Vacant → (k : Checked)
      → begin (fed d.table (placement_at d g)) r (window_of a g (window_size d)) ≡ k → step d (call (post g r) a s) ≡ out_of (posted g) (post_checked d g a s k.outcome k.window)
  unfolding step post_of
  post-checked g r b v k e =
      rw (inv_accept d inv, l, b)
      (ap (λ (x : Stage). out_of (posted g) (post_row d g r a s x)) v ∙ ap (λ (x : Checked). out_of (posted g) (post_checked d g a s x.outcome x.window)) e)

  pub turn-serves : (g : ℕ) (q : Request) → first_waiting d.rows guests d.pointer ≡ Some g → stage_at d g ≡ Waiting q
      → step d (call turn a s) ≡ out_of turned (serve d g q a s)
  unfolding step turn_of
  turn-serves g q n v =
      rw (inv_accept d inv, l)
      (ap (λ (x : Option ℕ). out_of turned (turn_next d x a s)) n ∙ ap (λ (x : Stage). out_of turned (serve_stage d g x a s)) v)

module _ (p : Place) (z : Sized p) where
  given : is_lent p.desk p.arena p.store ≡ true
  given = lent p.desk p.arena p.store z.arena z.store

  -- a window that is written back as it was leaves the arena
  same-arena : (f : List ℕ → Out) (g : ℕ) (w : List ℕ) → w ≡ window_at p g → f (with_window p.arena g (window_size p.desk) w) ≡ f p.arena
  same-arena f g w e = rw e (ap f (with_window-same p.arena g (window_size p.desk)))

  serves-line : (g : ℕ) (q : Request) (k : ℕ) (st : Stage) → Holds p (serving g q k st) → step p.desk (call_of p (serving g q k st)) ≡ out_at p (serving g q k st)
  unfolding moves
  serves-line g q k st h =
      turn-serves p.desk z.inv p.arena p.store given g q h.0 h.1
      ∙ ap (λ (n : ℕ). out_of turned (serve_by p.desk g q n p.arena p.store)) h.2
      ∙ ap (λ (x : Stage). left x (with_window p.arena g (window_size p.desk) (window_by p g q k)) to.store) h.3
      ∙ ap (λ (s : List ℕ). left st (with_window p.arena g (window_size p.desk) (window_by p g q k)) s) (stores (is_writing q) refl)
      ∙ ap (λ (a : List ℕ). left st a (store_if (is_writing q) p g q k)) (arenas (is_writing q) refl (is_whole q k) refl)
    where
      to : Memory
      to = moved_by p.desk g q k p.arena p.store

      left : Stage → List ℕ → List ℕ → Out
      left x a s = record { desk = with_pointer (with_stage p.desk g x) (next g); answer = turned (Ok (Some (record { guest = g; moved = k }))); arena = a; store = s }

      stores : (w : Bool) → is_writing q ≡ w → to.store ≡ store_if w p g q k
      stores true e = refl
      stores false e = rw e

      kept : is_writing q ≡ true → to.window ≡ window_at p g
      kept e = rw e

      -- nothing beside the data
      none : (x y : Bool) (w v : List ℕ) → either x (not y) ≡ true → pick x w (pick y v w) ≡ w
      none true y w v e = refl
      none false true w v e = true≢false false e refl
      none false false w v e = refl

      arenas : (w : Bool) → is_writing q ≡ w → (x : Bool) → is_whole q k ≡ x
          → with_window p.arena g (window_size p.desk) (window_by p g q k) ≡ arena_if (both w x) p g q k
      arenas true e true f =
          ap (with_window p.arena g (window_size p.desk))
          (none (goes_on q k) (ltb (q.moved + k) q.job.count) to.window (reported q.job (q.moved + k) to.window) f ∙ kept e)
          ∙ with_window-same p.arena g (window_size p.desk)
      arenas true e false f = refl
      arenas false e x f = refl

  -- a placement, by whether its guest waits
  placed-by : (g address : ℕ) → ltb g guests ≡ true → (o : Done PlaceAnswer)
      → ((x : Stage) → is_waiting x ≡ is_waiting (stage_at p.desk g) → place_stage p.desk g address x p.arena p.store ≡ o)
      → step p.desk (call (place_at g address) p.arena p.store) ≡ out_of (placed g address) o
  unfolding step place_of
  placed-by g address b o f = rw (inv_accept p.desk z.inv, given, b) (ap (out_of (placed g address)) (f (stage_at p.desk g) refl))

  not-waiting : (g address : ℕ) (x : Stage) → is_waiting x ≡ false → place_stage p.desk g address x p.arena p.store ≡ place_tables p.desk g address p.arena p.store
  not-waiting g address Vacant e = refl
  not-waiting g address (Waiting q) e = true≢false true refl e
  not-waiting g address (Finished r) e = refl

  is-waiting : (g address : ℕ) (x : Stage) → is_waiting x ≡ true
      → place_stage p.desk g address x p.arena p.store ≡ done p.desk (Err NotVacant) p.arena p.store
  is-waiting g address Vacant e = true≢false false e refl
  is-waiting g address (Waiting q) e = refl
  is-waiting g address (Finished r) e = true≢false false e refl

  pub step_line : (l : Line) → Holds p l → step p.desk (call_of p l) ≡ out_at p l
  unfolding step turn_of collect_of withdraw_of reported open_of read_table read_from step_at table_step_of header_at header_of
  step_line (waiting g r j) h =
      post-checked p.desk z.inv p.arena p.store given g r h.0 h.1 (unchanged (window_at p g) (Waits j)) h.2
      ∙ same-arena (λ a. record { desk = with_stage p.desk g (Waiting (request j 0)); answer = posted g (Ok None); arena = a; store = p.store }) g (window_at p g) refl
  step_line (answering g r x f) h =
      post-checked p.desk z.inv p.arena p.store given g r h.0 h.1 (record { outcome = Answered x; window = f (window_at p g) }) h.2
  step_line (serving g q k st) h = serves-line g q k st h
  step_line idling h = rw (inv_accept p.desk z.inv, given) (ap (λ (x : Option ℕ). out_of turned (turn_next p.desk x p.arena p.store)) h)
  step_line unlent h = rw (inv_accept p.desk z.inv, h)
  step_line (withdrawing g q) h =
      rw (inv_accept p.desk z.inv, given, h.0)
      (ap (λ (x : Stage). out_of (withdrawn g) (withdraw_stage p.desk g x p.arena p.store)) h.1
      ∙ same-arena (λ a. record { desk = with_stage p.desk g Vacant; answer = answer_to (withdrawing g q); arena = a; store = p.store }) g
      (withdrawn_window q (window_at p g)) (rw h.2))
  step_line (collecting g r) h =
      rw (inv_accept p.desk z.inv, h.0) (ap (λ (x : Stage). out_of (collected g) (collect_stage p.desk g x [] [])) h.1)
  step_line misopening h = refl
  step_line (placing g address) h =
      placed-by g address h.0 (place_tables p.desk g address p.arena p.store) (λ x e. not-waiting g address x (e ∙ h.1)) ∙ rw h.2
  step_line (barred g address) h =
      placed-by g address h.0 (done p.desk (Err NotVacant) p.arena p.store) (λ x e. is-waiting g address x (e ∙ h.1))
  step_line (misplacing g address) h =
      placed-by g address h.0 (place_tables p.desk g address p.arena p.store) (λ x e. not-waiting g address x (e ∙ h.1)) ∙ rw h.2

pub no_opening : (l : Line) → kind_of (answer_to l) ≡ opens → ⊥
no_opening (waiting g r j) e = impossible cc
no_opening (answering g r x f) e = impossible cc
no_opening (serving g q k st) e = impossible cc
no_opening idling e = impossible cc
no_opening unlent e = impossible cc
no_opening (withdrawing g q) e = impossible cc
no_opening (collecting g r) e = impossible cc
no_opening misopening e = impossible cc
no_opening (placing g address) e = impossible cc
no_opening (barred g address) e = impossible cc
no_opening (misplacing g address) e = impossible cc

-- arena and store keep their lengths
lengths-line : (p : Place) (l : Line) → Sized p → (length (leaves p l).arena ≡ (leaves p l).desk.arena) × (length (leaves p l).store ≡ (leaves p l).desk.store)
lengths-line p (waiting g r j) z = (z.arena, z.store)
lengths-line p (answering g r x f) z = (length-with_window p.arena g (window_size p.desk) (f (window_at p g)) ∙ z.arena, z.store)
lengths-line p (serving g q k st) z = (
  pick-cases (λ (a : List ℕ). length a ≡ p.desk.arena) (both (is_writing q) (is_whole q k)) _ _ (λ e. z.arena)
      (λ e. length-with_window p.arena g (window_size p.desk) (window_by p g q k) ∙ z.arena),
  pick-cases (λ (s : List ℕ). length s ≡ p.desk.store) (is_writing q) _ _
      (λ e. (moves-size q.job (store_block p.desk.table q.job) q.moved k (memory_of p.desk g p.arena p.store)).store ∙ z.store) (λ e. z.store),
)
lengths-line p idling z = (z.arena, z.store)
lengths-line p unlent z = (z.arena, z.store)
lengths-line p (withdrawing g q) z = (z.arena, z.store)
lengths-line p (collecting g r) z = (z.arena, z.store)
lengths-line p misopening z = (z.arena, z.store)
lengths-line p (placing g address) z = (length-with_window p.arena g (window_size p.desk) (tables_in p.desk.table address (window_at p g)) ∙ z.arena, z.store)
lengths-line p (barred g address) z = (z.arena, z.store)
lengths-line p (misplacing g address) z = (z.arena, z.store)

pub sized_line : (p : Place) (l : Line) → Sized p → Holds p l → Sized (leaves p l)
sized_line p l z h =
    record {
      inv = subst (λ (x : Out). Inv x.desk) e (inv_step p.desk (call_of p l) z.inv (subst (λ (x : Out). kind_of x.answer ≡ opens → ⊥) (sym e) (no_opening l)));
      arena = (lengths-line p l z).0;
      store = (lengths-line p l z).1;
    }
  where
    e : step p.desk (call_of p l) ≡ out_at p l
    e = step_line p z l h

pub sized : (ls : List Line) (p : Place) → Sized p → All p ls → Sized (place_after p ls)
sized [] p z h = z
sized (l ∷ ls) p z h = sized ls (leaves p l) (sized_line p l z h.0) h.1

-- ---- the list by its result, and what follows it

pub follow : (ls : List Line) (p : Place) → Sized p → All p ls → (cs : List Call) (es : List Event) → run (place_after p ls).desk cs ≡ es
    → run p.desk (calls_of p ls ++ cs) ≡ events p ls ++ es
unfolding run
follow [] p z h cs es f = f
follow (l ∷ ls) p z h cs es f =
    ap (λ (x : Out). record { desk = p.desk; call = call_of p l; out = x } ∷ run x.desk (calls_of (leaves p l) ls ++ cs)) (step_line p z l h.0)
    ∙ ap (λ (x : List Event). entry p l ∷ x) (follow ls (leaves p l) (sized_line p l z h.0) h.1 cs es f)

pub followed : (ls : List Line) (p : Place) → Sized p → All p ls → run p.desk (calls_of p ls) ≡ events p ls
unfolding run
followed ls p z h =
    ap (run p.desk) (sym (append-nil (calls_of p ls))) ∙ follow ls p z h [] [] refl ∙ append-nil (events p ls)

pub reaches : (ls : List Line) (p : Place) → Sized p → All p ls → (cs : List Call) → after p.desk (calls_of p ls ++ cs) ≡ after (place_after p ls).desk cs
unfolding after
reaches [] p z h cs = refl
reaches (l ∷ ls) p z h cs =
    ap (λ (x : Out). after x.desk (calls_of (leaves p l) ls ++ cs)) (step_line p z l h.0) ∙ reaches ls (leaves p l) (sized_line p l z h.0) h.1 cs

pub arrives : (ls : List Line) (p : Place) → Sized p → All p ls → after p.desk (calls_of p ls) ≡ (place_after p ls).desk
unfolding after
arrives ls p z h = ap (after p.desk) (sym (append-nil (calls_of p ls))) ∙ reaches ls p z h []

pub none-opens : (ls : List Line) (p : Place) (es : List Event) → NoneOpens es → NoneOpens (events p ls ++ es)
none-opens [] p es n = n
none-opens (l ∷ ls) p es n = (no_opening l, none-opens ls (leaves p l) es n)

-- ---- the parts of a request, by number

-- each turn that serves g answers a full part, m blocks of n being moved before
abbrev pub are_full : ℕ → ℕ → ℕ → List Event → Bool
are_full g n m [] = true
are_full g n m (e ∷ es) =
    both (either (not (eqb (service_in g (kind_in e)) 1)) (eqb (moved_in g (kind_in e)) (full_part n m))) (are_full g n (m + moved_in g (kind_in e)) es)

pub full : (g n m : ℕ) (es : List Event) → are_full g n m es ≡ true → Full g n m es
full g n m [] t = tt
full g n m (e ∷ es) t =
    let b = both_true (either (not (eqb (service_in g (kind_in e)) 1)) (eqb (moved_in g (kind_in e)) (full_part n m))) (are_full g n (m + moved_in g (kind_in e)) es) t in (
      (λ s. ⊎_elim (λ x. absurd (eqb-false _ _ (not-true (eqb (service_in g (kind_in e)) 1) x) s)) (λ x. eqb-true _ _ x)
          (either_true (not (eqb (service_in g (kind_in e)) 1)) (eqb (moved_in g (kind_in e)) (full_part n m)) b.0)),
      full g n (m + moved_in g (kind_in e)) es b.1,
    )

-- ---- the conditions of `equal`

-- a turn of another guest that writes ends below the first of n blocks or begins past them, and a placement is another guest's
abbrev pub is_apart : ℕ → ℕ → ℕ → Table → Line → Bool
is_apart g first n b (waiting h r j) = true
is_apart g first n b (answering h r x f) = true
is_apart g first n b (serving h q k st) =
    either (eqb h g) (either (not (is_writing q))
    (either (leb (store_block b q.job + q.moved + k) first) (leb (first + n) (store_block b q.job + q.moved))))
is_apart g first n b idling = true
is_apart g first n b unlent = true
is_apart g first n b (withdrawing h q) = true
is_apart g first n b (collecting h r) = true
is_apart g first n b misopening = true
is_apart g first n b (placing h address) = not (eqb h g)
is_apart g first n b (barred h address) = true
is_apart g first n b (misplacing h address) = true

abbrev pub are_apart : ℕ → ℕ → ℕ → Table → List Line → Bool
are_apart g first n b [] = true
are_apart g first n b (l ∷ ls) = both (is_apart g first n b l) (are_apart g first n b ls)

-- each call of the list is lent what the one before left; another guest's placement leaves the window
module _ (m g first n : ℕ) (b : Table) where
  spared : (p : Place) (h address : ℕ) → window_size p.desk ≡ m → not (eqb h g) ≡ true → window_of (leaves p (placing h address)).arena g m ≡ window_of p.arena g m
  spared p h address e t =
      subst (λ (k : ℕ). window_of (leaves p (placing h address)).arena g k ≡ window_of p.arena g k) e
      (window_with_other p.arena h g (window_size p.desk) (tables_in p.desk.table address (window_at p h)) (eqb-false h g (not-true (eqb h g) t))
      (tables-size p.desk.table address (window_at p h) ∙ length-window p.arena h (window_size p.desk)))

  pub left : (ls : List Line) (p : Place) (es : List Event) → window_size p.desk ≡ m → are_apart g first n b ls ≡ true
      → Left m g (window_of (place_after p ls).arena g m) (place_after p ls).store es
      → Left m g (window_of p.arena g m) p.store (events p ls ++ es)
  left [] p es e t h = h
  left (waiting h r j ∷ ls) p es e t k = (refl, refl, left ls _ es e t k)
  left (answering h r x f ∷ ls) p es e t k = (refl, refl, left ls _ es e t k)
  left (serving h q i st ∷ ls) p es e t k = (refl, refl, left ls _ es e (both_true (is_apart g first n b (serving h q i st)) (are_apart g first n b ls) t).1 k)
  left (idling ∷ ls) p es e t k = (refl, refl, left ls p es e t k)
  left (unlent ∷ ls) p es e t k = left ls p es e t k
  left (withdrawing h q ∷ ls) p es e t k = (refl, refl, left ls _ es e t k)
  left (collecting h r ∷ ls) p es e t k = left ls _ es e t k
  left (misopening ∷ ls) p es e t k = left ls p es e t k
  left (placing h address ∷ ls) p es e t k =
      let f = both_true (not (eqb h g)) (are_apart g first n b ls) t in
      subst (λ (w : List ℕ). Left m g w p.store (events (leaves p (placing h address)) ls ++ es)) (spared p h address e f.0)
      (left ls (leaves p (placing h address)) es e f.1 k)
  left (barred h address ∷ ls) p es e t k = left ls p es e t k
  left (misplacing h address ∷ ls) p es e t k = left ls p es e t k

abbrev Spares : ℕ → ℕ → ℕ → Desk → Kind → Type 0
Spares g first n d kind = (h k b : ℕ) (q : Request) → kind ≡ serves h k → (h ≡ g → ⊥) → stage_at d h ≡ Waiting q → Writes d.table q k b → Named first n b → ⊥

serving_apart : (g first n : ℕ) (p : Place) (h : ℕ) (q : Request) (i : ℕ) → stage_at p.desk h ≡ Waiting q
    → either (eqb h g) (either (not (is_writing q))
    (either (leb (store_block p.desk.table q.job + q.moved + i) first) (leb (first + n) (store_block p.desk.table q.job + q.moved)))) ≡ true
    → Spares g first n p.desk (serves h i)
serving_apart g first n p h q i v t h' k b q' e ne v' w m =
    ⊎_elim (λ x. ne (sym hh ∙ eqb-true h g x))
    (λ x. ⊎_elim (λ y. true≢false (is_writing q) w'.0 (not-true (is_writing q) y))
    (λ y. ⊎_elim (λ u. let f : from + i ≤ first = leb-true _ _ u in omega (arith, w'.1.1, m.0)) (λ u. let f : first + n ≤ from = leb-true _ _ u in omega (arith, w'.1.0, m.1))
    (either_true (leb (store_block p.desk.table q.job + q.moved + i) first) _ y))
    (either_true (not (is_writing q)) _ x))
    (either_true (eqb h g) _ t)
  where
    from : ℕ
    from = store_block p.desk.table q.job + q.moved

    hh : h ≡ h'
    hh = cc

    kk : i ≡ k
    kk = cc

    qq : q ≡ q'
    qq = same-request (sym v ∙ subst (λ (x : ℕ). stage_at p.desk x ≡ Waiting q') (sym hh) v')

    w' : Writes p.desk.table q i b
    w' = subst₂ (λ (x : Request) (y : ℕ). Writes p.desk.table x y b) (sym qq) (sym kk) w

line-apart : (g first n : ℕ) (p : Place) (l : Line) → Holds p l → is_apart g first n p.desk.table l ≡ true → Spares g first n p.desk (kind_of (answer_to l))
line-apart g first n p (waiting h r j) a t h' k b q e = impossible cc
line-apart g first n p (answering h r x f) a t h' k b q e = impossible cc
line-apart g first n p (serving h q i st) a t h' k b q' e = serving_apart g first n p h q i a.1 t h' k b q' e
line-apart g first n p idling a t h' k b q e = impossible cc
line-apart g first n p unlent a t h' k b q e = impossible cc
line-apart g first n p (withdrawing h q) a t h' k b q' e = impossible cc
line-apart g first n p (collecting h r) a t h' k b q e = impossible cc
line-apart g first n p misopening a t h' k b q e = impossible cc
line-apart g first n p (placing h address) a t h' k b q e = impossible cc
line-apart g first n p (barred h address) a t h' k b q e = impossible cc
line-apart g first n p (misplacing h address) a t h' k b q e = impossible cc

same_fixed : (p : Place) (l : Line) → Sized p → Holds p l → Fixed p.desk (leaves p l).desk
same_fixed p l z h =
    let e = step_line p z l h in
    subst (λ (o : Out). Fixed p.desk o.desk) e
    (fixed_step p.desk (call_of p l) z.inv (subst (λ (o : Out). kind_of o.answer ≡ opens → ⊥) (sym e) (no_opening l)))

pub size-after : (ls : List Line) (p : Place) → Sized p → All p ls → window_size (place_after p ls).desk ≡ window_size p.desk
size-after [] p z h = refl
size-after (l ∷ ls) p z h = size-after ls (leaves p l) (sized_line p l z h.0) h.1 ∙ ap window_length (same_fixed p l z h.0).arena

pub unwritten : (ls : List Line) (p : Place) → Sized p → (g first n : ℕ) (es : List Event) → All p ls → are_apart g first n p.desk.table ls ≡ true
    → Unwritten g first n es → Unwritten g first n (events p ls ++ es)
unwritten [] p z g first n es h t u = u
unwritten (l ∷ ls) p z g first n es h t u =
    let b = both_true (is_apart g first n p.desk.table l) (are_apart g first n p.desk.table ls) t in
    (line-apart g first n p l h.0 b.0, unwritten ls (leaves p l) (sized_line p l z h.0) g first n es h.1 (rw (same_fixed p l z h.0).table b.1) u)

-- ---- a request of a list: the lines between its post and its finishing turn, that turn, and the lines after it

pub all_split : (xs ys : List Line) (p : Place) → All p (xs ++ ys) → All p xs × All (place_after p xs) ys
all_split [] ys p h = (tt, h)
all_split (x ∷ xs) ys p h = let t = all_split xs ys (leaves p x) h.1 in ((h.0, t.0), t.1)

pub record Story (p : Place) : Type 0 where
  pub guest : ℕ
  pub registers : Registers
  pub job : Job
  pub between : List Line
  pub last : Line
  pub rest : List Line
  pub lines : All p (waiting guest registers job ∷ (between ++ last ∷ rest))

module _ {p : Place} (y : Story p) where
  abbrev pub first : Line
  first = waiting y.guest y.registers y.job

  abbrev pub middle : Place
  middle = place_after (leaves p first) y.between

  abbrev pub posting : Call
  posting = call_of p first

  abbrev pub meanwhile : List Call
  meanwhile = calls_of (leaves p first) y.between

  abbrev pub finishing : Call
  finishing = call_of middle y.last

  abbrev pub afterwards : List Call
  afterwards = calls_of (leaves middle y.last) y.rest

  -- the last line is the finishing turn: the numbers reach n there, or it stops at a bad block
  abbrev pub Reached : ℕ → Type 0
  Reached n =
      (moved y.guest (events (leaves p first) y.between ++ entry middle y.last ∷ []) ≡ n)
      ⊎ Stops y.guest n (moved y.guest (events (leaves p first) y.between)) (kind_of (answer_to y.last))

  -- up to it the request waits, by number
  pub waiting_on : (n : ℕ) → withdrawals y.guest (events (leaves p first) y.between) ≡ 0 → moved y.guest (events (leaves p first) y.between) < n
      → are_full y.guest n 0 (events (leaves p first) y.between) ≡ true → WaitsOn y.guest n (events (leaves p first) y.between)
  waiting_on n w m f = (w, m, full y.guest n 0 (events (leaves p first) y.between) f)

  abbrev pub calls : List Call
  calls = posting ∷ (meanwhile ++ finishing ∷ afterwards)

  module _ (z : Sized p) where
    pub posts : step p.desk posting ≡ out_at p first
    posts = step_line p z first y.lines.0

    pub at_first : Sized (leaves p first)
    at_first = sized_line p first z y.lines.0

    pub split : All (leaves p first) y.between × All middle (y.last ∷ y.rest)
    split = all_split y.between (y.last ∷ y.rest) (leaves p first) y.lines.1

    pub at_middle : Sized middle
    at_middle = sized y.between (leaves p first) at_first split.0

    -- the calls since the post
    pub since : (cs : List Call) (es : List Event) → run middle.desk cs ≡ es
        → run (step p.desk posting).desk (meanwhile ++ cs) ≡ events (leaves p first) y.between ++ es
    since cs es f =
        ap (λ (o : Out). run o.desk (meanwhile ++ cs)) posts ∙ follow y.between (leaves p first) at_first split.0 cs es f

    pub since_at : (ls : List Line) → All middle ls → after (step p.desk posting).desk (meanwhile ++ calls_of middle ls) ≡ (place_after middle ls).desk
    since_at ls h =
        ap (λ (o : Out). after o.desk (meanwhile ++ calls_of middle ls)) posts
        ∙ reaches y.between (leaves p first) at_first split.0 (calls_of middle ls) ∙ arrives ls middle at_middle h

    -- up to the finishing turn, and with it
    pub before : run (step p.desk posting).desk meanwhile ≡ events (leaves p first) y.between
    before = ap (λ (o : Out). run o.desk meanwhile) posts ∙ followed y.between (leaves p first) at_first split.0

    pub ended : step (after (step p.desk posting).desk meanwhile) finishing ≡ out_at middle y.last
    ended =
        ap (λ (o : Out). step (after o.desk meanwhile) finishing) posts
        ∙ ap (λ (d : Desk). step d finishing) (arrives y.between (leaves p first) at_first split.0) ∙ step_line middle at_middle y.last split.1.0

    pub upto : run (step p.desk posting).desk (meanwhile ++ finishing ∷ []) ≡ events (leaves p first) y.between ++ entry middle y.last ∷ []
    upto = since (finishing ∷ []) _ (followed (y.last ∷ []) middle at_middle (split.1.0, tt))

    pub whole : run (step p.desk posting).desk (meanwhile ++ finishing ∷ afterwards)
        ≡ events (leaves p first) y.between ++ events middle (y.last ∷ y.rest)
    whole = since (finishing ∷ afterwards) _ (followed (y.last ∷ y.rest) middle at_middle split.1)

    pub closed : NoneOpens (run p.desk calls)
    closed = subst NoneOpens (sym (follow (first ∷ y.between) p z (y.lines.0, split.0) (finishing ∷ afterwards) _ (followed (y.last ∷ y.rest) middle at_middle split.1)))
        (none-opens (first ∷ y.between) p _ (subst NoneOpens (append-nil (events middle (y.last ∷ y.rest))) (none-opens (y.last ∷ y.rest) middle [] tt)))

    unfoldable pub taken : Taken p.desk calls
    unfolding after
    taken =
        record {
          before = [];
          call = posting;
          guest = y.guest;
          registers = y.registers;
          since = meanwhile ++ finishing ∷ afterwards;
          place = refl;
          accepted = record { posts = refl; waits = ap (λ (o : Out). o.answer) posts };
        }

    -- n and the first block by number, and what the events come to
    module _ (m n lo : ℕ) (count : asked_by m posting y.guest y.registers ≡ n) (start : first_by p.desk.table m posting y.guest y.registers ≡ lo)
        (waited : WaitsOn y.guest n (events (leaves p first) y.between)) (reached : Reached n) where
      pub waits : WaitsOn y.guest (asked_by m posting y.guest y.registers) (run (step p.desk posting).desk meanwhile)
      waits = subst₂ (WaitsOn y.guest) (sym count) (sym before) waited

      pub finishes : Finishes y.guest (asked_by m posting y.guest y.registers) (step p.desk posting).desk meanwhile finishing
      finishes =
          record {
            waited = waits;
            reached =
                ⊎_elim (λ x. inl (ap (moved y.guest) upto ∙ x ∙ sym count))
                (λ x. inr (subst (λ (o : Out). Stops y.guest (asked_by m posting y.guest y.registers)
                (moved y.guest (run (step p.desk posting).desk meanwhile)) (kind_of o.answer)) (sym ended)
                (subst₂ (λ (k : ℕ) (es : List Event). Stops y.guest k (moved y.guest es) (kind_of (answer_to y.last))) (sym count) (sym before) x))) reached;
          }

      -- the numbers answered
      pub counted : (bytes : List ℕ) → Claim bytes p.desk m calls
          → moved y.guest (run (step p.desk posting).desk (meanwhile ++ finishing ∷ [])) ≡ good_by p.desk.table m posting y.guest y.registers
      unfolding after taken
      counted bytes claim = claim.counted taken meanwhile afterwards finishing refl finishes

      -- the conditions of `equal`
      module _ (size : window_size p.desk ≡ m) (b : are_apart y.guest lo n (leaves p first).desk.table y.between ≡ true)
          (e : are_apart y.guest lo n middle.desk.table (y.last ∷ []) ≡ true) where
        pub is_left : Left m y.guest (window_of (step p.desk posting).arena y.guest m) (step p.desk posting).store
            (run (step p.desk posting).desk (meanwhile ++ finishing ∷ []))
        is_left =
            subst (λ (o : Out). Left m y.guest (window_of o.arena y.guest m) o.store (run (step p.desk posting).desk (meanwhile ++ finishing ∷ []))) (sym posts)
            (subst (Left m y.guest (window_of p.arena y.guest m) p.store) (sym upto)
            (left m y.guest lo n (leaves p first).desk.table y.between (leaves p first) _ size b
            (left m y.guest lo n middle.desk.table (y.last ∷ []) middle [] (size-after y.between (leaves p first) at_first split.0 ∙ size) e tt)))

        pub is-unwritten : Unwritten y.guest lo n (run (step p.desk posting).desk (meanwhile ++ finishing ∷ []))
        is-unwritten =
            subst (Unwritten y.guest lo n) (sym upto)
            (unwritten y.between (leaves p first) at_first y.guest lo n _ split.0 b (unwritten (y.last ∷ []) middle at_middle y.guest lo n [] (split.1.0, tt) e tt))

        pub equal : (bytes : List ℕ) → Claim bytes p.desk m calls
            → Same m y.guest (first_by p.desk.table m posting y.guest y.registers) (asked_by m posting y.guest y.registers)
            (step (after (step p.desk posting).desk meanwhile) finishing) (alone (fed bytes no_placement) y.registers (found_by m posting y.guest))
        unfolding after run taken
        equal bytes claim =
            claim.equal taken meanwhile afterwards finishing refl finishes is_left
            (subst₂ (λ (f k : ℕ). Unwritten y.guest f k (run (step p.desk posting).desk (meanwhile ++ finishing ∷ []))) (sym start) (sym count) is-unwritten)

-- ---- a request with lines before its post

module _ (q : Place) (ahead : List Line) (y : Story (place_after q ahead)) (zq : Sized q) (h : All q ahead) where
  abbrev pub p : Place
  p = place_after q ahead

  pub z : Sized p
  z = sized ahead q zq h

  abbrev pub calls_later : List Call
  calls_later = calls_of q ahead ++ calls y

  pub arrived : after q.desk (calls_of q ahead) ≡ p.desk
  arrived = arrives ahead q zq h

  pub closed-later : NoneOpens (run q.desk calls_later)
  closed-later = subst NoneOpens (sym (follow ahead q zq h (calls y) (run p.desk (calls y)) refl)) (none-opens ahead q (run p.desk (calls y)) (closed y z))

  unfoldable pub taken-later : Taken q.desk calls_later
  taken-later =
      record {
        before = calls_of q ahead;
        call = posting y;
        guest = y.guest;
        registers = y.registers;
        since = meanwhile y ++ finishing y ∷ afterwards y;
        place = refl;
        accepted = record { posts = refl; waits = ap (λ (d : Desk). (step d (posting y)).answer) arrived ∙ ap (λ (o : Out). o.answer) (posts y z) };
      }

  -- the placement that the lines tell
  pub told : (g : ℕ) → placement_in g (run q.desk (calls_of q ahead)) ≡ placement_in g (events q ahead)
  told g = ap (placement_in g) (followed ahead q zq h)

  module _ (m n lo : ℕ) (count : asked_by m (posting y) y.guest y.registers ≡ n) (start : first_by q.desk.table m (posting y) y.guest y.registers ≡ lo)
      (same : q.desk.table ≡ p.desk.table)
      (waited : WaitsOn y.guest n (events (leaves p (first y)) y.between)) (reached : Reached y n) where
    begins : first_by p.desk.table m (posting y) y.guest y.registers ≡ lo
    begins = ap (λ (b : Table). first_by b m (posting y) y.guest y.registers) (sym same) ∙ start

    finishes-later : Finishes y.guest (asked_by m (posting y) y.guest y.registers) (step (after q.desk (calls_of q ahead)) (posting y)).desk (meanwhile y) (finishing y)
    finishes-later =
        subst (λ (d : Desk). Finishes y.guest (asked_by m (posting y) y.guest y.registers) (step d (posting y)).desk (meanwhile y) (finishing y)) (sym arrived)
        (finishes y z m n lo count begins waited reached)

    pub counted-later : (bytes : List ℕ) → Claim bytes q.desk m calls_later
        → moved y.guest (run (step (after q.desk (calls_of q ahead)) (posting y)).desk (meanwhile y ++ finishing y ∷ []))
        ≡ good_by q.desk.table m (posting y) y.guest y.registers
    unfolding taken-later
    counted-later bytes claim = claim.counted taken-later (meanwhile y) (afterwards y) (finishing y) refl finishes-later

    pub equal-later : (bytes : List ℕ) → Claim bytes q.desk m calls_later → window_size p.desk ≡ m
        → are_apart y.guest lo n (leaves p (first y)).desk.table y.between ≡ true → are_apart y.guest lo n (middle y).desk.table (y.last ∷ []) ≡ true
        → Same m y.guest (first_by q.desk.table m (posting y) y.guest y.registers) (asked_by m (posting y) y.guest y.registers)
        (step (after (step (after q.desk (calls_of q ahead)) (posting y)).desk (meanwhile y)) (finishing y))
        (alone (fed bytes (placement_in y.guest (events q ahead))) y.registers (found_by m (posting y) y.guest))
    unfolding taken-later
    equal-later bytes claim size b e =
        subst (λ (x : Placement). Same m y.guest (first_by q.desk.table m (posting y) y.guest y.registers) (asked_by m (posting y) y.guest y.registers)
        (step (after (step (after q.desk (calls_of q ahead)) (posting y)).desk (meanwhile y)) (finishing y))
        (alone (fed bytes x) y.registers (found_by m (posting y) y.guest))) (told y.guest)
        (claim.equal taken-later (meanwhile y) (afterwards y) (finishing y) refl finishes-later
        (subst (λ (d : Desk). Left m y.guest (window_of (step d (posting y)).arena y.guest m) (step d (posting y)).store
        (run (step d (posting y)).desk (meanwhile y ++ finishing y ∷ []))) (sym arrived)
        (is_left y z m n lo count begins waited reached size b e))
        (subst (λ (d : Desk). Unwritten y.guest (first_by q.desk.table m (posting y) y.guest y.registers) (asked_by m (posting y) y.guest y.registers)
        (run (step d (posting y)).desk (meanwhile y ++ finishing y ∷ []))) (sym arrived)
        (subst₂ (λ (f k : ℕ). Unwritten y.guest f k (run (step p.desk (posting y)).desk (meanwhile y ++ finishing y ∷ []))) (sym start) (sym count)
        (is-unwritten y z m n lo count begins waited reached size b e))))
