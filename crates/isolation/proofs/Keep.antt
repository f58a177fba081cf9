-- The desk stays acceptable after every call; and what one call leaves alone.
-- Assumes nothing.
use Prim.Native.Nat.{ℕ, ◌+◌, ◌-◌, ◌/◌, ◌%◌, ◌<◌, min}
use mathlib.Core.Path.{◌≡◌, refl, sym, ap, ap₂, subst, ◌∙◌}
use mathlib.Core.Logic.{⊎_elim, ◌≢◌}
use mathlib.Core.Bool.{Bool, true, false}
use mathlib.Core.List.{List, [], ◌∷◌}
use native.Mathlib.Omega.{arith}
use native.Mathlib.Decide.{ℕ_discrete}
use borrow.Author.Tests.{lt-ltb, eq-eqb, ne_eqb}
use lib.Dec.{ltb, eqb}
use lib.ListN.{length, length-set, get_or-eq_default}
use lib.Seq.{get_or-set_same, get_or-set_other, length-sets}
use Rattle.std.specs.Prelude.{Ok}
use Rattle.words.specs.Words.{le_bytes}
use Rattle.memory.specs.Window.{guests, window_of, span_length}
use Rattle.memory.specs.Blocks.{block_length}
use Rattle.memory.proofs.WindowLaws.{window_with_other}
use Rattle.table.specs.declared.Table.{Table}
use Rattle.table.specs.Table.{read_table}
use Rattle.int13.specs.declared.Registers.{Registers}
use Rattle.int13.specs.declared.Placement.{Placement}
use Rattle.int13.specs.declared.Job.{Job}
use Rattle.int13.specs.Answers.{ah, is_sectors}
use Rattle.int13.specs.Placement.{placed_at, table_count, tables_of}
use Rattle.int13.specs.Alone.{store_block, reported, ended_window}
use Rattle.desk.specs.declared.Request.{Request}
use Rattle.desk.specs.declared.Stage.{Stage}
use Rattle.desk.specs.declared.Stage.TheVariants.{Vacant, Waiting}
use Rattle.desk.specs.declared.Row.{Row}
use Rattle.desk.specs.declared.Desk.{Desk}
use Rattle.desk.specs.Parts.{window_size, vacant_row, stage_at, is_waiting, with_stage, with_pointer, next, placement_at, with_placement}
use Rattle.desk.specs.Acceptable.{turn_blocks, job_ok, stage_ok, place_ok}
use Rattle.desk.specs.Calls.{open_of, quota, later, goes_on, stage_after, beside, memory_of, moved_by, withdrawn_window, tables_in}
use Rattle.isolation.specs.Lists.{post, turn, collect, withdraw, place, Call, Out, step, run, after}
use Rattle.isolation.specs.Words.{Kind, opens, places, kind_of, NoneOpens, service_in, if_same, placed_by, placement_after}
use Rattle.desk.proofs.AcceptableLaws.{waiting_ok}
use Rattle.isolation.proofs.Turn.{next_lt, vacant≢waiting}
use Rattle.isolation.proofs.Moves.{moves-size}
use Rattle.logic.proofs.LogicLaws.{pick-cases, both_intro, lt_or_le, true≢false, impossible}
use Rattle.isolation.proofs.Check.{Fresh}
use Rattle.isolation.proofs.Endings.{Clean, CleanStage, now, clean_none, goes_cases, stage_on, stage_over, clean_after}
use Rattle.isolation.proofs.Accept.{PlaceGood, Inv, all-vacant, opened-desk, Ready, ready, waiting_job}
use Rattle.isolation.proofs.View.{Lent, Did, same, idle, answer, accepting, serving, giving, withdrawing, placing, Quiet, refusing, writing, view, placed_out, window_in, window-length, span_lent}

-- ---- rows

pub stage_same : (d : Desk) (g : ℕ) (s : Stage) → Inv d → g < guests → stage_at (with_stage d g s) g ≡ s
stage_same d g s inv b = ap (λ (r : Row). r.stage) (get_or-set_same d.rows g (record { stage = s }) vacant_row (omega (arith, inv.rows)))

pub stage_other : (d : Desk) (g h : ℕ) (s : Stage) → h ≢ g → stage_at (with_stage d g s) h ≡ stage_at d h
stage_other d g h s ne = ap (λ (r : Row). r.stage) (get_or-set_other d.rows g h (record { stage = s }) vacant_row ne)

-- a waiting row is a guest's
pub waiting_below : (d : Desk) (g : ℕ) (q : Request) → Inv d → stage_at d g ≡ Waiting q → g < guests
waiting_below d g q inv e =
    ⊎_elim (λ x. x)
    (λ x. absurd (vacant≢waiting (sym (ap (λ (r : Row). r.stage) (get_or-eq_default d.rows vacant_row (omega (arith, inv.rows)))) ∙ e)))
    (lt_or_le g guests)

-- ---- every call leaves an acceptable desk

pub inv_set : (d : Desk) (g : ℕ) (s : Stage) (p : ℕ) → Inv d → g < guests → p < guests → stage_ok d.table (window_size d) s ≡ true → Inv (with_pointer (with_stage d g s) p)
inv_set d g s p inv b pb ok =
    record {
      rows = length-set d.rows g (record { stage = s }) ∙ inv.rows;
      table = inv.table;
      pointer = pb;
      stages = λ h. go h (ℕ_discrete h g);
      placed = inv.placed;
      addresses = inv.addresses;
      places = inv.places;
    }
  where
    go : (h : ℕ) → Dec (h ≡ g) → stage_ok d.table (window_size d) (stage_at (with_stage d g s) h) ≡ true
    go h (yes y) = rw y (ap (stage_ok d.table (window_size d)) (stage_same d g s inv b) ∙ ok)
    go h (no y) = ap (stage_ok d.table (window_size d)) (stage_other d g h s y) ∙ inv.stages h

-- ---- placements

abbrev placement_of : Bool → ℕ → Placement
placement_of m a = record { placed = m; address = a }

pub placement-same : (d : Desk) (g address : ℕ) → Inv d → g < guests → placement_at (with_placement d g address) g ≡ placed_at address
placement-same d g address inv b =
    ap₂ placement_of (get_or-set_same d.placed g true false (omega (arith, inv.placed))) (get_or-set_same d.addresses g address 0 (omega (arith, inv.addresses)))

pub placement-other : (d : Desk) (g h address : ℕ) → h ≢ g → placement_at (with_placement d g address) h ≡ placement_at d h
placement-other d g h address ne =
    ap₂ placement_of (get_or-set_other d.placed g h true false ne) (get_or-set_other d.addresses g h address 0 ne)

inv_place : (d : Desk) (g address : ℕ) → Inv d → g < guests → place_ok (table_count d.table) (window_size d) address ≡ true → Inv (with_placement d g address)
inv_place d g address inv b ok =
    record {
      rows = inv.rows;
      table = inv.table;
      pointer = inv.pointer;
      stages = inv.stages;
      placed = length-set d.placed g true ∙ inv.placed;
      addresses = length-set d.addresses g address ∙ inv.addresses;
      places = λ h. go h (ℕ_discrete h g);
    }
  where
    go : (h : ℕ) → Dec (h ≡ g) → PlaceGood d (placement_at (with_placement d g address) h)
    go h (yes y) = subst (λ (k : ℕ). PlaceGood d (placement_at (with_placement d g address) k)) (sym y) (subst (PlaceGood d) (sym (placement-same d g address inv b)) ok)
    go h (no y) = subst (PlaceGood d) (sym (placement-other d g h address y)) (inv.places h)

-- ---- each call

-- sixteen more leave a multiple of sixteen
next-whole : (n m : ℕ) → m % turn_blocks ≡ 0 → m + min turn_blocks (n - m) < n → (m + min turn_blocks (n - m)) % turn_blocks ≡ 0
next-whole n m e h = omega arith

after_ok : (b : Table) (M S : ℕ) (q : Request) → job_ok b M q.job ≡ true → Ready b M S q → stage_ok b M (stage_after q (now b q)) ≡ true
after_ok b M S q j a =
    goes_cases (stage_ok b M (stage_after q (now b q)) ≡ true) b q a.rest
    (λ e k h. ap (stage_ok b M) (stage_on q (now b q) e ∙ ap (λ (n : ℕ). Waiting (later q n)) k)
    ∙ waiting_ok b M (later q (quota q)) j
    (both_intro (eqb ((q.moved + quota q) % turn_blocks) 0) (ltb (q.moved + quota q) q.job.count)
    (eq-eqb _ _ (next-whole q.job.count q.moved a.whole h)) (lt-ltb _ _ h)))
    (λ e k. ap (stage_ok b M) (stage_over q (now b q) e))

fresh_ok : (b : Table) (M : ℕ) (r : Registers) (w : List ℕ) (q : Request) → q.moved ≡ 0 → length w ≡ M → Fresh b r w q.job → stage_ok b M (Waiting q) ≡ true
fresh_ok b M r w q z l f =
    waiting_ok b M q (ap (λ (m : ℕ). job_ok b m q.job) (sym l) ∙ f.ok)
    (rw z (both_intro (eqb 0 0) (ltb 0 q.job.count) refl (lt-ltb _ _ f.some)))

pub inv_did : (d : Desk) (c : Call) (o : Out) → Inv d → Did d c o → Inv o.desk
inv_did d c o inv (same x p n) = inv
inv_did d c o inv (idle e f) = inv
inv_did d c o inv (answer g r x w e b l v ko kw k) = inv
inv_did d c o inv (accepting g r j e b l v ko kw f) =
    inv_set d g (Waiting (record { job = j; moved = 0 })) d.pointer inv b inv.pointer
    (fresh_ok d.table (window_size d) r (window_in d c g) (record { job = j; moved = 0 }) refl (window-length d c g b l) f)
inv_did d c o inv (serving g q e b l v f) =
    inv_set d g (stage_after q (now d.table q)) (next g) inv b (next_lt g)
    (after_ok d.table (window_size d) d.store q (waiting_job d g q inv v) (ready d g q inv v))
inv_did d c o inv (giving g x e b v) = inv_set d g Vacant d.pointer inv b inv.pointer refl
inv_did d c o inv (withdrawing g q e b l v) = inv_set d g Vacant d.pointer inv b inv.pointer refl
inv_did d c o inv (placing g address e b l v k) = inv_place d g address inv b k

pub inv_step : (d : Desk) (c : Call) → Inv d → (kind_of (step d c).answer ≡ opens → ⊥) → Inv (step d c).desk
inv_step d c inv n = inv_did d c (step d c) inv (view d inv c n)

-- ---- the blocks that waiting rows have moved are good. This is no part of acceptable: a block whoever made it may say otherwise

abbrev pub Cleans : Desk → Type 0
Cleans d = (g : ℕ) → CleanStage d.table (stage_at d g)

pub clean_row : (d : Desk) (g : ℕ) (q : Request) → Cleans d → stage_at d g ≡ Waiting q → Clean d.table q.job q.moved
clean_row d g q cl e = subst (CleanStage d.table) e (cl g)

-- so it is after an opening
pub cleans_opened : (t : List ℕ) (arena store : ℕ) → (open_of t arena store).answer ≡ Ok tt → Cleans (open_of t arena store).desk
cleans_opened t arena store e =
    subst Cleans (sym (opened-desk t arena store e)) (λ g. subst (CleanStage (read_table t (store / block_length)).table) (sym (all-vacant g)) tt)

cleans_set : (d : Desk) (g : ℕ) (s : Stage) (p : ℕ) → Inv d → Cleans d → g < guests → CleanStage d.table s → Cleans (with_pointer (with_stage d g s) p)
cleans_set d g s p inv cl b k h = go (ℕ_discrete h g)
  where
    go : Dec (h ≡ g) → CleanStage d.table (stage_at (with_stage d g s) h)
    go (yes y) = subst (λ (i : ℕ). CleanStage d.table (stage_at (with_stage d g s) i)) (sym y) (subst (CleanStage d.table) (sym (stage_same d g s inv b)) k)
    go (no y) = subst (CleanStage d.table) (sym (stage_other d g h s y)) (cl h)

cleans_did : (d : Desk) (c : Call) (o : Out) → Inv d → Cleans d → Did d c o → Cleans o.desk
cleans_did d c o inv cl (same x p n) = cl
cleans_did d c o inv cl (idle e f) = cl
cleans_did d c o inv cl (answer g r x w e b l v ko kw k) = cl
cleans_did d c o inv cl (accepting g r j e b l v ko kw f) =
    cleans_set d g (Waiting (record { job = j; moved = 0 })) d.pointer inv cl b (clean_none d.table j)
cleans_did d c o inv cl (serving g q e b l v f) =
    cleans_set d g (stage_after q (now d.table q)) (next g) inv cl b (clean_after d.table q (clean_row d g q cl v) (ready d g q inv v).rest)
cleans_did d c o inv cl (giving g x e b v) = cleans_set d g Vacant d.pointer inv cl b tt
cleans_did d c o inv cl (withdrawing g q e b l v) = cleans_set d g Vacant d.pointer inv cl b tt
cleans_did d c o inv cl (placing g address e b l v k) = cl

pub cleans_step : (d : Desk) (c : Call) → Inv d → Cleans d → (kind_of (step d c).answer ≡ opens → ⊥) → Cleans (step d c).desk
cleans_step d c inv cl n = cleans_did d c (step d c) inv cl (view d inv c n)

-- along a list
pub cleans_after : (cs : List Call) (d : Desk) → Inv d → Cleans d → NoneOpens (run d cs) → Cleans (after d cs)
unfolding run after
cleans_after [] d inv cl n = cl
cleans_after (c ∷ cs) d inv cl n = cleans_after cs (step d c).desk (inv_step d c inv n.0) (cleans_step d c inv cl n.0) n.1

-- ---- what no call changes

pub record Fixed (d d' : Desk) : Type 0 where
  pub table : d'.table ≡ d.table
  pub arena : d'.arena ≡ d.arena
  pub store : d'.store ≡ d.store

fixed_did : (d : Desk) (c : Call) (o : Out) → Did d c o → Fixed d o.desk
fixed_did d c o (same x p n) = record { table = refl; arena = refl; store = refl }
fixed_did d c o (idle e f) = record { table = refl; arena = refl; store = refl }
fixed_did d c o (answer g r x w e b l v ko kw k) = record { table = refl; arena = refl; store = refl }
fixed_did d c o (accepting g r j e b l v ko kw f) = record { table = refl; arena = refl; store = refl }
fixed_did d c o (serving g q e b l v f) = record { table = refl; arena = refl; store = refl }
fixed_did d c o (giving g x e b v) = record { table = refl; arena = refl; store = refl }
fixed_did d c o (withdrawing g q e b l v) = record { table = refl; arena = refl; store = refl }
fixed_did d c o (placing g address e b l v k) = record { table = refl; arena = refl; store = refl }

pub fixed_step : (d : Desk) (c : Call) → Inv d → (kind_of (step d c).answer ≡ opens → ⊥) → Fixed d (step d c).desk
fixed_step d c inv n = fixed_did d c (step d c) (view d inv c n)

-- along a list
pub record Reached (d d' : Desk) : Type 0 where
  pub inv : Inv d'
  pub fixed : Fixed d d'

pub reached : (cs : List Call) (d : Desk) → Inv d → NoneOpens (run d cs) → Reached d (after d cs)
unfolding run after
reached [] d inv n = record { inv = inv; fixed = record { table = refl; arena = refl; store = refl } }
reached (c ∷ cs) d inv n =
    let f = fixed_step d c inv n.0 in
    let r = reached cs (step d c).desk (inv_step d c inv n.0) n.1 in
    record {
      inv = r.inv;
      fixed = record { table = r.fixed.table ∙ f.table; arena = r.fixed.arena ∙ f.arena; store = r.fixed.store ∙ f.store };
    }

-- ---- the desk's placement of a guest is the one that the answers tell

quiet_placed : {k : Kind} (g : ℕ) (p : Placement) → Quiet k → placed_by g k p ≡ p
quiet_placed g p refusing = refl
quiet_placed g p writing = refl

placed_did : (d : Desk) (c : Call) (o : Out) (g : ℕ) → Inv d → Did d c o → placement_at o.desk g ≡ placed_by g (kind_of o.answer) (placement_at d g)
placed_did d c o g inv (same x p n) = sym (quiet_placed g (placement_at d g) p)
placed_did d c o g inv (idle e f) = refl
placed_did d c o g inv (answer h r x w e b l v ko kw k) = refl
placed_did d c o g inv (accepting h r j e b l v ko kw f) = refl
placed_did d c o g inv (serving h q e b l v f) = refl
placed_did d c o g inv (giving h x e b v) = refl
placed_did d c o g inv (withdrawing h q e b l v) = refl
placed_did d c o g inv (placing h address e b l v k) = go (ℕ_discrete h g)
  where
    go : Dec (h ≡ g) → placement_at (with_placement d h address) g ≡ placed_by g (places h address) (placement_at d g)
    go (yes y) = rw (eq-eqb h g y) (rw (← y) (placement-same d h address inv b))
    go (no y) = rw (ne_eqb h g y) (placement-other d h g address (λ z. y (sym z)))

pub placed-after : (cs : List Call) (d : Desk) → Inv d → NoneOpens (run d cs) → (g : ℕ) → placement_at (after d cs) g ≡ placement_after g (placement_at d g) (run d cs)
unfolding run after
placed-after [] d inv n g = refl
placed-after (c ∷ cs) d inv n g =
    placed-after cs (step d c).desk (inv_step d c inv n.0) n.1 g
    ∙ ap (λ (p : Placement). placement_after g p (run (step d c).desk cs)) (placed_did d c (step d c) g inv (view d inv c n.0))

-- ---- lengths of the windows that calls leave

pub reported-size : (j : Job) (n : ℕ) (w : List ℕ) → length (reported j n w) ≡ length w
unfolding reported
reported-size j n w =
    pick-cases (λ (v : List ℕ). length v ≡ length w) (is_sectors (ah j.registers)) _ _ (λ e. refl) (λ e. length-sets w (j.packet + 2) (le_bytes 2 n))

pub ended-size : (j : Job) (n : ℕ) (w : List ℕ) → length (ended_window j n w) ≡ length w
ended-size j n w = pick-cases (λ (v : List ℕ). length v ≡ length w) (ltb n j.count) _ _ (λ e. reported-size j n w) (λ e. refl)

pub beside-size : (q : Request) (k : ℕ) (w : List ℕ) → length (beside q k w) ≡ length w
beside-size q k w = pick-cases (λ (v : List ℕ). length v ≡ length w) (goes_on q k) _ _ (λ e. refl) (λ e. ended-size q.job (q.moved + k) w)

pub served-size : (d : Desk) (c : Call) (g : ℕ) (q : Request) → Lent d c → g < guests
    → length (beside q (now d.table q) (moved_by d g q (now d.table q) c.arena c.store).window) ≡ span_length (length c.arena) g (window_size d)
served-size d c g q l b =
    beside-size q (now d.table q) (moved_by d g q (now d.table q) c.arena c.store).window
    ∙ (moves-size q.job (store_block d.table q.job) q.moved (now d.table q) (memory_of d g c.arena c.store)).window
    ∙ window-length d c g b l ∙ sym (span_lent d c g b l)

pub withdrawn-size : (q : Request) (w : List ℕ) → length (withdrawn_window q w) ≡ length w
withdrawn-size q w = reported-size q.job q.moved w

pub tables-size : (b : Table) (address : ℕ) (w : List ℕ) → length (tables_in b address w) ≡ length w
tables-size b address w = length-sets w address (tables_of b)

-- ---- a turn changes no other guest's row or window

pub record Spared (d : Desk) (c : Call) (o : Out) (h : ℕ) : Type 0 where
  pub row : stage_at o.desk h ≡ stage_at d h
  pub window : window_of o.arena h (window_size d) ≡ window_of c.arena h (window_size d)

turn≢post : {A : Type 0} {g : ℕ} {r : Registers} → turn ≡ post g r → A
turn≢post e = impossible (cc)

turn≢collect : {A : Type 0} {g : ℕ} → turn ≡ collect g → A
turn≢collect e = impossible (cc)

turn≢withdraw : {A : Type 0} {g : ℕ} → turn ≡ withdraw g → A
turn≢withdraw e = impossible (cc)

turn≢place : {A : Type 0} {g a : ℕ} → turn ≡ place g a → A
turn≢place e = impossible (cc)

pub same-guest : (g n : ℕ) → if_same g g n ≡ n
same-guest g n = rw (eq-eqb g g refl)

pub turn_spares : (d : Desk) (c : Call) (o : Out) → c.op ≡ turn → (h : ℕ) → service_in h (kind_of o.answer) ≡ 0 → Did d c o → Spared d c o h
turn_spares d c o t h z (same x p n) = record { row = refl; window = refl }
turn_spares d c o t h z (idle e f) = record { row = refl; window = refl }
turn_spares d c o t h z (answer g r x w e b l v ko kw k) = turn≢post (sym t ∙ e)
turn_spares d c o t h z (accepting g r j e b l v ko kw f) = turn≢post (sym t ∙ e)
turn_spares d c o t h z (serving g q e b l v f) =
    let ne : g ≢ h = λ y. let u : if_same g h 1 ≡ 1 = rw y (same-guest h 1) in absurd (omega arith) in
    record {
      row = stage_other d g h (stage_after q (now d.table q)) (λ y. ne (sym y));
      window = window_with_other c.arena g h (window_size d)
          (beside q (now d.table q) (moved_by d g q (now d.table q) c.arena c.store).window) ne (served-size d c g q l b);
    }
turn_spares d c o t h z (giving g x e b v) = turn≢collect (sym t ∙ e)
turn_spares d c o t h z (withdrawing g q e b l v) = turn≢withdraw (sym t ∙ e)
turn_spares d c o t h z (placing g address e b l v k) = turn≢place (sym t ∙ e)

-- ---- a placement changes no row, and no window but its guest's; that one only where the guest does not wait

pub record Kept (d : Desk) (c : Call) (o : Out) (g h : ℕ) : Type 0 where
  pub row : stage_at o.desk h ≡ stage_at d h
  pub other : h ≢ g → window_of o.arena h (window_size d) ≡ window_of c.arena h (window_size d)
  pub waiting : is_waiting (stage_at d h) ≡ true → window_of o.arena h (window_size d) ≡ window_of c.arena h (window_size d)

pub same_place : {g h a b : ℕ} → place g a ≡ place h b → g ≡ h
same_place e = cc

pub place_spares : (d : Desk) (c : Call) (o : Out) (g address h : ℕ) → c.op ≡ place g address → Did d c o → Kept d c o g h
place_spares d c o g address h t (same x p n) = record { row = refl; other = λ y. refl; waiting = λ y. refl }
place_spares d c o g address h t (idle e f) = turn≢place (sym e ∙ t)
place_spares d c o g address h t (answer k r x w e b l v ko kw s) = impossible cc
place_spares d c o g address h t (accepting k r j e b l v ko kw f) = impossible cc
place_spares d c o g address h t (serving k q e b l v f) = turn≢place (sym e ∙ t)
place_spares d c o g address h t (giving k x e b v) = impossible cc
place_spares d c o g address h t (withdrawing k q e b l v) = impossible cc
place_spares d c o g address h t (placing k a e b l v s) =
    record {
      row = refl;
      other = λ y. off (λ z. y (sym z ∙ same_place (sym e ∙ t)));
      waiting = λ y. off (λ z. true≢false (is_waiting (stage_at d h)) y (ap (λ (i : ℕ). is_waiting (stage_at d i)) (sym z) ∙ v));
    }
  where
    off : k ≢ h → window_of (placed_out d c k a).arena h (window_size d) ≡ window_of c.arena h (window_size d)
    off ne =
        window_with_other c.arena k h (window_size d) (tables_in d.table a (window_in d c k)) ne
        (tables-size d.table a (window_in d c k) ∙ window-length d c k b l ∙ sym (span_lent d c k b l))
