-- What an accepted desk says, as facts.
-- Assumes nothing.
use Rattle.std.specs.Prelude.{◌&&◌}
use Rattle.std.specs.List.{list_all}
use Rattle.std.proofs.lemmas.List.Folds.{list_all_more}
use mathlib.Core.Path.{◌≡◌, refl, sym, ap, ◌∙◌}
use mathlib.Core.Logic.{inl, inr, ⊎_elim}
use mathlib.Core.Bool.{Bool, true, false, not}
use mathlib.Core.List.{List, [], ◌∷◌}
use types.Run.{OneOf}
use denote.Enum.Declared.{tag_of}
use Rattle.desk.specs.contracts.Stage as stage
use native.Mathlib.Numerals.{add-one}
use Prim.Native.Nat.{ℕ, zero, suc, ◌+◌, ◌-◌, ◌*◌, ◌%◌, ◌^◌, ◌≤◌, ◌<◌}
use native.Mathlib.Decide.{ℕ_discrete}
use native.Mathlib.Omega.{arith}
use lib.ListN.{length, get_or, take, length-take}
use lib.Seq.{take_all}
use lib.Dec.{leb, eqb}
use borrow.Author.Tests.{leb-true, ltb-true, eqb-true}
use Rattle.logic.specs.Logic.{pick, both, either}
use Rattle.logic.proofs.LogicLaws.{both_true, both_intro, both_comm, all_more, and_both}
use Rattle.drive.specs.declared.Drive.{Drive}
use Rattle.chs.specs.Chs.{size}
use Rattle.drive.specs.Drive.{geometry_of, is_protected}
use Rattle.table.specs.declared.Table.{Table}
use Rattle.table.specs.Table.{is_sound, drives_of}
use Rattle.table.proofs.Sound.{Obeys, good-obeys}
use Rattle.int13.specs.declared.Registers.{Registers}
use Rattle.int13.specs.declared.Job.{Job}
use Rattle.int13.specs.declared.Placement.{Placement}
use Rattle.int13.specs.Answers.{ah, is_sectors, is_write}
use Rattle.int13.specs.Placement.{table_count}
use Rattle.int13.specs.Steps.{is_drive, drive_at}
use Rattle.desk.specs.declared.Request.{Request}
use Rattle.desk.specs.declared.Stage.{Stage}
use Rattle.desk.specs.declared.Stage.TheVariants.{Vacant, Waiting, Finished}
use Rattle.desk.specs.declared.Row.{Row}
use Rattle.desk.specs.declared.Desk.{Desk}
use Rattle.desk.specs.Parts.{window_size, store_blocks, vacant_row, stage_in, placement_at}
use Rattle.desk.specs.Acceptable.{is_transfer, packet_ok, job_rules, job_ok, moved_ok, request_ok, stage_ok, rows_ok, placement_ok, placements_ok, accept, Servable}
use Rattle.desk.specs.Calls.{closed}

-- ---- the parts of the test

pub record Accepted (d : Desk) : Type 0 where
  pub sound : is_sound d.table (store_blocks d) ≡ true
  pub pointer : d.pointer < 8
  pub rows : rows_ok 8 d.rows d.table (window_size d) ≡ true
  pub placements : placements_ok 8 (table_count d.table) (window_size d) d ≡ true

pub accept_true : (d : Desk) → accept d ≡ true → Accepted d
unfolding accept
accept_true d e =
    let p = both_true _ _ e in
    let q = both_true _ _ p.1 in
    let r = both_true _ _ q.1 in
    record { sound = p.0; pointer = ltb-true d.pointer 8 q.0; rows = r.0; placements = r.1 }

pub rows_ok_at : (n : ℕ) (rows : List Row) (b : Table) (M g : ℕ) → g < n → rows_ok n rows b M ≡ true → stage_ok b M (stage_in rows g) ≡ true
unfolding rows_ok
rows_ok_at zero rows b M g l e = absurd (omega arith)
rows_ok_at (suc n) rows b M g l e =
    let p = both_true _ _ e in
    by_guest (ℕ_discrete g n) p.0 (λ h. rows_ok_at n rows b M g h p.1)
  where
    by_guest : Dec (g ≡ n) → stage_ok b M (stage_in rows n) ≡ true → (g < n → stage_ok b M (stage_in rows g) ≡ true) → stage_ok b M (stage_in rows g) ≡ true
    by_guest (yes y) h f = rw y h
    by_guest (no y) h f = f (omega arith)

-- ---- a job

pub record JobFacts (b : Table) (M : ℕ) (j : Job) : Type 0 where
  pub drive : is_drive b j.drive ≡ true
  pub count : j.count ≤ 128
  pub range : j.start + j.count ≤ (drive_at b j.drive).blocks
  pub buffer : j.buffer + 512 * j.count ≤ M
  pub packet : packet_ok (ah j.registers) j.packet M ≡ true

pub count_most : (s : Bool) (n : ℕ) → leb n (pick s 128 127) ≡ true → n ≤ 128
count_most true n e = leb-true n 128 e
count_most false n e = let l : n ≤ 127 = leb-true n 127 e in omega arith

pub job_facts : (b : Table) (M : ℕ) (j : Job) → job_ok b M j ≡ true → JobFacts b M j
unfolding job_ok
job_facts b M j e =
    let f : ℕ = ah j.registers in
    let d : Drive = drive_at b j.drive in
    let p₁ = both_true _ _ e in
    let p₂ = both_true (is_transfer f) _ p₁.1 in
    let p₃ = both_true _ _ p₂.1 in
    let p₄ = both_true _ _ p₃.1 in
    let p₅ = both_true _ _ p₄.1 in
    let p₆ = both_true _ (not (both (is_write f) (is_protected d))) p₅.1 in
    let r = both_true _ (pick (is_sectors f) (leb (j.start + j.count) (size (geometry_of d))) true) p₄.0 in
    record {
      drive = p₁.0;
      count = count_most (is_sectors f) j.count p₃.0;
      range = leb-true (j.start + j.count) d.blocks r.0;
      buffer = leb-true (j.buffer + 512 * j.count) M p₅.0;
      packet = p₆.0;
    }

-- a waiting row's request
pub record Waits (b : Table) (M : ℕ) (q : Request) : Type 0 where
  pub ok : job_ok b M q.job ≡ true
  pub job : JobFacts b M q.job
  pub moved : q.moved < q.job.count
  pub whole : q.moved % 16 ≡ 0

pub waits_facts : (b : Table) (M : ℕ) (q : Request) → stage_ok b M (Waiting q) ≡ true → Waits b M q
unfolding request_ok job_ok
waits_facts b M q e =
    let k = both_true (is_drive b q.job.drive) _ e in
    let p = both_true (job_rules (drive_at b q.job.drive) M q.job) _ k.1 in
    let m = both_true _ _ p.1 in
    let o : job_ok b M q.job ≡ true = both_intro _ _ k.0 p.0 in
    record { ok = o; job = job_facts b M q.job o; moved = ltb-true q.moved q.job.count m.1; whole = eqb-true (q.moved % 16) 0 m.0 }

-- and back
pub waiting_ok : (b : Table) (M : ℕ) (q : Request) → job_ok b M q.job ≡ true → moved_ok q.moved q.job.count ≡ true → stage_ok b M (Waiting q) ≡ true
unfolding request_ok job_ok
waiting_ok b M q e m =
    let k = both_true (is_drive b q.job.drive) (job_rules (drive_at b q.job.drive) M q.job) e in
    rw (k.0, k.1, m)

-- ---- the drives of a sound table

-- a known drive of a sound table has good fields and lies in the store
pub drive-obeys : (b : Table) (store n : ℕ) → is_sound b store ≡ true → is_drive b n ≡ true → Obeys (drive_at b n) store
unfolding is_drive
drive-obeys b store n s k =
    let q = both_true _ _ k in
    let low : 128 ≤ n = leb-true 128 n q.0 in
    let high : n < 128 + length (drives_of b) = ltb-true n (128 + length (drives_of b)) q.1 in
    good-obeys b store (n - 128) s (omega (arith, length-take b.count b.drives))

-- the blocks of a waiting request on one, whose store has so many blocks
pub waits_servable : (b : Table) (M store : ℕ) (q : Request) → is_sound b store ≡ true → store < 2 ^ 64 → Waits b M q → Servable q
waits_servable b M store q s f w =
    let o = drive-obeys b store q.job.drive s w.job.drive in
    record { start = omega (arith, w.job.range, o.inside); count = w.job.count; moved = w.moved }

-- ---- the tests of the code, one by one

-- the number of the stage of a row that a `let .. else` finds not waiting
pub not_waiting-tag : (s : Stage) → ((q : Request) → s ≡ Waiting q → ⊥) → OneOf (0 ∷ 2 ∷ []) (tag_of stage.the_type s)
not_waiting-tag Vacant n = inl refl
not_waiting-tag (Waiting q) n = absurd (n q refl)
not_waiting-tag (Finished r) n = inr refl

-- what goes by the stage, of such a row
pub not-waiting : {A : Type 0} (f : Stage → A) {x : A} (s : Stage) → OneOf (0 ∷ 2 ∷ []) (tag_of stage.the_type s) → x ≡ f Vacant → ((r : Registers) → x ≡ f (Finished r)) → x ≡ f s
not-waiting f Vacant k v h = v
not-waiting f (Waiting q) k v h = absurd (⊎_elim (λ w. omega arith) (λ w. omega arith) k)
not-waiting f (Finished r) k v h = h r

pub rows_ok-more : {r a s : Bool} (i : ℕ) (rows : List Row) (b : Table) (M : ℕ) → s ≡ rows_ok i rows b M → r ≡ both a s → a ≡ stage_ok b M (stage_in rows i) → r ≡ rows_ok (i + 1) rows b M
unfolding rows_ok
rows_ok-more i rows b M p q e = rw (add-one, q, e, p)

pub placements_more : {r a s : Bool} {p : Placement} (g n M : ℕ) (d : Desk) → s ≡ placements_ok g n M d → r ≡ both a s → a ≡ placement_ok n M p → p ≡ placement_at d g
    → r ≡ placements_ok (g + 1) n M d
unfolding placements_ok
placements_more g n M d h e a p = all_more g (λ i. placement_ok n M (placement_at d i)) h e (a ∙ ap (placement_ok n M) p)

-- a count past its limit, whatever else
pub job_count : {f : ℕ} {sector count : Bool} (d : Drive) (M : ℕ) (j : Job) → f ≡ ah j.registers → sector ≡ is_sectors f → count ≡ leb j.count (pick sector 128 127) → count ≡ false
    → false ≡ job_rules d M j
job_count {f} {sector} d M j ef es ec e = rw (← ef, ← es, ← ec, e) (by_transfer (either sector (either (eqb f 0x42) (eqb f 0x43))))
  where
    by_transfer : (t : Bool) → false ≡ both t false
    by_transfer true = refl
    by_transfer false = refl

pub job_tests : {f : ℕ} {sector word transfer writes guarded protected buffer packet placed places range blocks count x : Bool} (d : Drive) (M : ℕ) (j : Job)
    → f ≡ ah j.registers → sector ≡ is_sectors f → count ≡ leb j.count (pick sector 128 127) → count ≡ true
    → word ≡ either (eqb f 0x42) (eqb f 0x43) → transfer ≡ either sector word → writes ≡ is_write f → guarded ≡ is_protected d → protected ≡ both writes guarded
    → buffer ≡ leb (j.buffer + 512 * j.count) M → packet ≡ pick sector (eqb j.packet 0) (leb (j.packet + 16) M) → placed ≡ both packet (not protected) → places ≡ both buffer placed
    → range ≡ both (leb (j.start + j.count) d.blocks) (pick sector (leb (j.start + j.count) (size (geometry_of d))) true) → blocks ≡ both range places
    → x ≡ both transfer blocks → x ≡ job_rules d M j
job_tests d M j ef es ec c ew et ei eg ep eb ek el en er eo ex =
    let k : leb j.count (pick (is_sectors (ah j.registers)) 128 127) ≡ true = rw (← ef, ← es, ← ec) c in
    rw (ex, eo, er, en, el, ek, eb, ep, eg, ei, et, ew, es, ef, k)

-- the rows in their order, as the library's `all` takes them
rows_to : (n : ℕ) (rows : List Row) (b : Table) (M : ℕ) → n ≤ length rows → list_all (λ (row : Row). stage_ok b M row.stage) (take n rows) ≡ rows_ok n rows b M
unfolding rows_ok
rows_to zero rows b M l = refl
rows_to (suc n) rows b M l =
    let test : Row → Bool = λ row. stage_ok b M row.stage in
    let more = list_all_more test rows n vacant_row (omega arith) in
    (rw add-one at more) ∙ ap (λ (t : Bool). t && test (get_or rows n vacant_row)) (rows_to n rows b M (omega arith))
    ∙ and_both (rows_ok n rows b M) (test (get_or rows n vacant_row)) ∙ both_comm (rows_ok n rows b M) (test (get_or rows n vacant_row))

pub rows_all : (rows : List Row) (b : Table) (M : ℕ) → length rows ≡ 8 → list_all (λ (row : Row). stage_ok b M row.stage) rows ≡ rows_ok 8 rows b M
rows_all rows b M l =
    ap (list_all (λ (row : Row). stage_ok b M row.stage)) (sym (take_all 8 rows (omega arith))) ∙ rows_to 8 rows b M (omega arith)

-- at a desk whose opening was refused every call is 25
pub closed-refused : (arena store : ℕ) → accept (closed arena store) ≡ false
unfolding accept
closed-refused arena store = by_table (is_sound (closed arena store).table (store_blocks (closed arena store)))
  where
    by_table : (t : Bool) → both t false ≡ false
    by_table true = refl
    by_table false = refl
