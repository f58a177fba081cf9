-- An acceptable desk, as facts, both ways; and what each waiting row of it has room for.
-- Assumes nothing.
use Prim.Native.Nat.{ℕ, zero, suc, ◌+◌, ◌*◌, ◌/◌, ◌%◌, ◌≤◌, ◌<◌}
use mathlib.Core.Path.{◌≡◌, refl, sym, ap, ap₂, subst, ◌∙◌}
use mathlib.Core.Logic.{⊎_elim, ◌↔◌}
use mathlib.Core.Bool.{Bool, true, false}
use mathlib.Core.List.{List}
use native.Mathlib.Omega.{arith}
use lib.ListN.{length, replicate, get_or-replicate, get_or-eq_default}
use lib.Dec.{ltb}
use borrow.Author.Tests.{lt-ltb}
use Rattle.std.specs.Prelude.{Ok}
use Rattle.logic.specs.Logic.{both}
use Rattle.logic.proofs.LogicLaws.{both_intro, all_intro, all_at, lt_or_le}
use Rattle.table.specs.declared.Table.{Table}
use Rattle.table.specs.Table.{is_sound, read_table}
use Rattle.memory.specs.Window.{guests}
use Rattle.memory.specs.Blocks.{block_length}
use Rattle.int13.specs.declared.Placement.{Placement}
use Rattle.int13.specs.Answers.{ah}
use Rattle.int13.specs.Placement.{no_placement, table_count}
use Rattle.int13.specs.Alone.{store_block}
use Rattle.desk.specs.declared.Request.{Request}
use Rattle.desk.specs.declared.Stage.TheVariants.{Vacant, Waiting}
use Rattle.desk.specs.declared.Row.{Row}
use Rattle.desk.specs.declared.Desk.{Desk}
use Rattle.desk.specs.Parts.{window_size, store_blocks, vacant_row, stage_in, stage_at, placement_at}
use Rattle.desk.specs.Acceptable.{turn_blocks, packet_ok, job_ok, stage_ok, rows_ok, placement_ok, placements_ok, accept}
use Rattle.desk.specs.Calls.{OpenAnswer, opened, open_desk, open_of}
use Rattle.table.proofs.Sound.{Good, accepted-good}
use Rattle.desk.proofs.AcceptableLaws.{accept_true, job_facts, rows_ok_at, Waits, waits_facts}
use Rattle.isolation.proofs.Check.{known}

-- ---- acceptable, as facts

-- the place of a guest's tables is good, for the desk's tables and windows
abbrev pub PlaceGood : Desk → Placement → Type 0
PlaceGood d p = placement_ok (table_count d.table) (window_size d) p ≡ true

pub record Facts (d : Desk) : Type 0 where
  pub sound : is_sound d.table (store_blocks d) ≡ true
  pub pointer : d.pointer < guests
  pub stages : (g : ℕ) → g < guests → stage_ok d.table (window_size d) (stage_at d g) ≡ true
  pub places : (g : ℕ) → g < guests → PlaceGood d (placement_at d g)

rows-ok : (n : ℕ) (rows : List Row) (b : Table) (M : ℕ) → ((g : ℕ) → g < n → stage_ok b M (stage_in rows g) ≡ true) → rows_ok n rows b M ≡ true
unfolding rows_ok
rows-ok zero rows b M f = refl
rows-ok (suc n) rows b M f = both_intro _ _ (f n (omega arith)) (rows-ok n rows b M (λ g h. f g (omega arith)))

-- the test of all placements is that of each
abbrev places_ok : Desk → Bool
places_ok d = placements_ok guests (table_count d.table) (window_size d) d

places-ok : (d : Desk) → (places_ok d ≡ true) ↔ ((g : ℕ) → g < guests → PlaceGood d (placement_at d g))
unfolding placements_ok
places-ok d = (
  (λ e g h. all_at guests g (λ g. placement_ok (table_count d.table) (window_size d) (placement_at d g)) e h),
  (λ f. all_intro guests (λ g. placement_ok (table_count d.table) (window_size d) (placement_at d g)) f),
)

pub accept_facts : (d : Desk) → (accept d ≡ true) ↔ Facts d
unfolding accept
accept_facts d = (there, back)
  where
    there : accept d ≡ true → Facts d
    there e =
        let p = accept_true d e in
        record {
          sound = p.sound;
          pointer = p.pointer;
          stages = λ g h. rows_ok_at guests d.rows d.table (window_size d) g h p.rows;
          places = (places-ok d).0 p.placements;
        }

    back : Facts d → both (is_sound d.table (store_blocks d)) (both (ltb d.pointer guests) (both (rows_ok guests d.rows d.table (window_size d)) (places_ok d))) ≡ true
    back f =
        both_intro _ _ f.sound
        (both_intro _ _ (lt-ltb _ _ f.pointer) (both_intro _ _ (rows-ok guests d.rows d.table (window_size d) f.stages) ((places-ok d).1 f.places)))

-- ---- what holds of every desk of a list: acceptable, with eight rows, eight slots for drives, names of their lengths, and a mark and an address
-- for each guest

pub record Inv (d : Desk) : Type 0 where
  pub rows : length d.rows ≡ guests
  pub table : Good d.table (store_blocks d)
  pub pointer : d.pointer < guests
  pub stages : (g : ℕ) → stage_ok d.table (window_size d) (stage_at d g) ≡ true
  pub placed : length d.placed ≡ guests
  pub addresses : length d.addresses ≡ guests
  pub places : (g : ℕ) → PlaceGood d (placement_at d g)

pub inv_accept : (d : Desk) → Inv d → accept d ≡ true
inv_accept d inv = (accept_facts d).1 (record { sound = inv.table.sound; pointer = inv.pointer; stages = λ g h. inv.stages g; places = λ g h. inv.places g })

pub all-vacant : (g : ℕ) → stage_in (replicate guests vacant_row) g ≡ Vacant
all-vacant g =
    ⊎_elim
    (λ x. ap (λ (r : Row). r.stage) (get_or-replicate guests g vacant_row vacant_row x))
    (λ x. ap (λ (r : Row). r.stage) (get_or-eq_default (replicate guests vacant_row) vacant_row x))
    (lt_or_le g guests)

-- no guest has a placement
pub none-placed : (b : Table) (arena store g : ℕ) → placement_at (opened b arena store) g ≡ no_placement
none-placed b arena store g =
    ⊎_elim
    (λ x. ap₂ placement (get_or-replicate guests g false false x) (get_or-replicate guests g 0 0 x))
    (λ x. ap₂ placement (get_or-eq_default (replicate guests false) false x) (get_or-eq_default (replicate guests 0) 0 x))
    (lt_or_le g guests)
  where
    placement : Bool → ℕ → Placement
    placement m a = record { placed = m; address = a }

-- an opening that passed gives such a desk
pub opened-desk : (t : List ℕ) (arena store : ℕ) → (open_of t arena store).answer ≡ Ok tt → (open_of t arena store).desk ≡ opened (read_table t (store / block_length)).table arena store
unfolding open_of
opened-desk t arena store e =
    ap (λ (x : OpenAnswer). open_desk x (read_table t (store / block_length)).table arena store) e

-- its table was accepted
pub opened-table : (t : List ℕ) (arena store : ℕ) → (open_of t arena store).answer ≡ Ok tt → (read_table t (store / block_length)).answer ≡ Ok tt
unfolding open_of
opened-table t arena store e = e

pub inv_opened : (t : List ℕ) (arena store : ℕ) → (open_of t arena store).answer ≡ Ok tt → Inv (open_of t arena store).desk
inv_opened t arena store e =
    subst Inv (sym (opened-desk t arena store e))
    (record {
      rows = refl;
      table = accepted-good t (store / block_length) (opened-table t arena store e);
      pointer = omega arith;
      stages = λ g. ap (stage_ok (read_table t (store / block_length)).table (arena / guests)) (all-vacant g);
      placed = refl;
      addresses = refl;
      places = λ g.
          subst (PlaceGood (opened (read_table t (store / block_length)).table arena store)) (sym (none-placed (read_table t (store / block_length)).table arena store g)) refl;
    })

-- ---- a waiting row

-- M is the window's length, S the store's
pub record Ready (b : Table) (M S : ℕ) (q : Request) : Type 0 where
  pub buffer : q.job.buffer + block_length * q.job.count ≤ M
  pub range : block_length * (store_block b q.job + q.job.count) ≤ S
  pub rest : q.moved < q.job.count
  pub whole : q.moved % turn_blocks ≡ 0
  pub packet : packet_ok (ah q.job.registers) q.job.packet M ≡ true

pub job_ready : (b : Table) (M S : ℕ) (q : Request) → Good b (S / block_length) → job_ok b M q.job ≡ true → q.moved < q.job.count → q.moved % turn_blocks ≡ 0 → Ready b M S q
job_ready b M S q g e m w =
    let f = job_facts b M q.job e in
    let k = known b (S / block_length) q.job.drive g f.drive in
    record { buffer = f.buffer; range = omega (arith, f.range, k.taken.inside); rest = m; whole = w; packet = f.packet }

pub waits : (d : Desk) (g : ℕ) (q : Request) → Inv d → stage_at d g ≡ Waiting q → Waits d.table (window_size d) q
waits d g q inv e = waits_facts d.table (window_size d) q (ap (stage_ok d.table (window_size d)) (sym e) ∙ inv.stages g)

pub ready : (d : Desk) (g : ℕ) (q : Request) → Inv d → stage_at d g ≡ Waiting q → Ready d.table (window_size d) d.store q
ready d g q inv e =
    let w = waits d g q inv e in
    job_ready d.table (window_size d) d.store q inv.table w.ok w.moved w.whole

pub waiting_job : (d : Desk) (g : ℕ) (q : Request) → Inv d → stage_at d g ≡ Waiting q → job_ok d.table (window_size d) q.job ≡ true
waiting_job d g q inv e = (waits d g q inv e).ok
