-- What the rules of the drive table say of each drive, and that a table which was accepted obeys them.
-- Assumes nothing.
use Rattle.std.specs.Prelude.{Ok}
use Prim.Native.Nat.{ℕ, ◌+◌, ◌*◌, ◌≤◌, ◌<◌}
use mathlib.Core.Path.{◌≡◌, refl, sym, ap, ◌∙◌}
use mathlib.Core.Logic.{⊎_elim, ◌≢◌}
use mathlib.Core.Bool.{Bool, true, false}
use mathlib.Core.List.{List}
use native.Mathlib.Omega.{arith}
use native.Mathlib.Numerals.{add-one}
use native.Mathlib.Decide.{ℕ_discrete}
use lib.ListN.{length, get_or, set, length-set, get_or-replicate}
use lib.Seq.{length-sets, get_or-set_same, get_or-set_other}
use lib.Dec.{leb, ltb, eqb}
use borrow.Author.Tests.{leb-true, lt-ltb, le-ltb, le-leb, eqb-true, eq-eqb}
use Rattle.logic.specs.Logic.{both}
use Rattle.logic.proofs.LogicLaws.{both_true, both_intro, either_left, either_right, lt_or_le, all_at, all_intro, all_ext, some_ext, true≢false}
use Rattle.words.specs.Words.{part}
use Rattle.drive.specs.declared.Drive.{Drive}
use Rattle.drive.specs.Drive.{drive_of, fields_ok, in_store, overlap, same, is_blank, blank_numbers, blank_names, zero_tail}
use Rattle.drive.proofs.DriveLaws.{Arrays, arrays_drive}
use Rattle.attached.specs.Parameters.{number_in, parameters_in}
use Rattle.attached.specs.declared.Bads.{Bads}
use Rattle.attached.specs.Bad.{bads_in, no_bads}
use Rattle.attached.proofs.AttachedLaws.{length-parameters_in}
use Rattle.attached.proofs.BadLaws.{bads_ok_intro, bads_ok-no_bads}
use Rattle.table.specs.declared.Table.{Table}
use Rattle.table.specs.Table.{no_drive, zero_drive, empty_table, overlaps_any, refusal, more, has_parameters, parameters_refusal, with_parameters, bads_at, bads_refusal, with_bads, most_records, read_table, taken_at, sound_to, blank_at, blank_to, attached_at, attached_to, listed_at, listed_to, is_sound}
use Rattle.table.proofs.TableLaws.{refusal-room, refusal-taken, parameters-room, bads_room, length_whole, bads_whole, read_keeps, drive-bytes}
use Rattle.table.proofs.Slots.{marked, marked_other, bytes-other, bads_same, bads_other, bads_empty, Listed, bads_in-listed, listed-none, attached_drive, attached_zero, attached_intro}

-- ---- a drive that is taken

pub record Obeys (d : Drive) (store : ℕ) : Type 0 where
  pub fields : fields_ok d ≡ true
  pub inside : d.first + d.blocks ≤ store

refusal-obeys : (n : ℕ) (l : List Drive) (d : Drive) (store : ℕ) → refusal n l d store ≡ 0 → Obeys d store
unfolding in_store
refusal-obeys n l d store h = let t = refusal-taken n l d store h in record { fields = t.0; inside = leb-true (d.first + d.blocks) store t.1 }

-- ---- a sound table

-- what soundness says, part by part
pub record Rules (b : Table) (store : ℕ) : Type 0 where
  pub most : b.count ≤ 8
  pub taken : (i : ℕ) → i < b.count → refusal i b.drives (get_or b.drives i no_drive) store ≡ 0
  pub blank : (i : ℕ) → b.count ≤ i → i < 8 → is_blank (get_or b.drives i no_drive) ≡ true
  pub attached : (i : ℕ) → i < 8 → attached_at b i ≡ true
  pub listed : (i : ℕ) → i < 8 → listed_at b i ≡ true

pub sound_rules : (b : Table) (store : ℕ) → is_sound b store ≡ true → Rules b store
unfolding is_sound sound_to blank_to attached_to listed_to
sound_rules b store e =
    let more : Bool = both (attached_to 8 b) (listed_to 8 b) in
    let rest : Bool = both (blank_to 8 b.drives b.count) more in
    let p = both_true (leb b.count 8) (both (sound_to b.count b.drives store) rest) e in
    let q = both_true (sound_to b.count b.drives store) rest p.1 in
    let r = both_true (blank_to 8 b.drives b.count) more q.1 in
    let s = both_true (attached_to 8 b) (listed_to 8 b) r.1 in
    record {
      most = leb-true b.count 8 p.0;
      taken = λ i h. eqb-true _ _ (all_at b.count i (taken_at b.drives store) q.0 h);
      blank = λ i l h. rw (le-ltb i b.count l) at (all_at 8 i (blank_at b.drives b.count) r.0 h);
      attached = λ i h. all_at 8 i (attached_at b) s.0 h;
      listed = λ i h. all_at 8 i (listed_at b) s.1 h;
    }

-- what a desk's table obeys: the rules, eight slots, and the lengths that the types of the names, of the parameters and of the bad blocks say
pub record Good (b : Table) (store : ℕ) : Type 0 where
  pub sound : is_sound b store ≡ true
  pub eight : length b.drives ≡ 8
  pub marks : length b.present ≡ 8
  pub bytes : length b.parameters ≡ 112
  pub counts : length b.counts ≡ 8
  pub lists : length b.bad ≡ 1024
  pub arrays : (i : ℕ) → i < b.count → Arrays (get_or b.drives i no_drive)

pub good-obeys : (b : Table) (store i : ℕ) → is_sound b store ≡ true → i < b.count → Obeys (get_or b.drives i no_drive) store
good-obeys b store i e h = refusal-obeys i b.drives (get_or b.drives i no_drive) store ((sound_rules b store e).taken i h)

-- ---- what was accepted is sound

overlaps_ext : (n : ℕ) (l l' : List Drive) (d : Drive) → ((i : ℕ) → i < n → get_or l i no_drive ≡ get_or l' i no_drive) → overlaps_any n l d ≡ overlaps_any n l' d
unfolding overlaps_any
overlaps_ext n l l' d f = some_ext n (λ (i : ℕ). overlap d (get_or l i no_drive)) (λ (i : ℕ). overlap d (get_or l' i no_drive)) (λ i h. ap (overlap d) (f i h))

pub refusal_ext : (n : ℕ) (l l' : List Drive) (d : Drive) (store : ℕ) → ((i : ℕ) → i < n → get_or l i no_drive ≡ get_or l' i no_drive)
    → refusal n l d store ≡ refusal n l' d store
unfolding refusal
refusal_ext n l l' d store f = rw (overlaps_ext n l l' d f)

sound_ext : (n : ℕ) (l l' : List Drive) (store : ℕ) → ((i : ℕ) → i < n → get_or l i no_drive ≡ get_or l' i no_drive) → sound_to n l store ≡ sound_to n l' store
unfolding sound_to
sound_ext n l l' store f =
    all_ext n (taken_at l store) (taken_at l' store) (λ i h. rw (f i h, refusal_ext i l l' (get_or l' i no_drive) store (λ j q. f j (omega arith))))

-- what holds of each drive and of one more
pub each_more : (P : Drive → Type 0) (b : Table) (d : Drive) → length b.drives ≡ 8 → b.count < 8
    → ((i : ℕ) → i < b.count → P (get_or b.drives i no_drive)) → P d → (i : ℕ) → i < b.count + 1 → P (get_or (set b.drives b.count d) i no_drive)
each_more P b d eight room f p i h = at (ℕ_discrete i b.count)
  where
    at : Dec (i ≡ b.count) → P (get_or (set b.drives b.count d) i no_drive)
    at (yes x) = rw (x, get_or-set_same b.drives b.count d no_drive (omega arith)) p
    at (no x) = rw (get_or-set_other b.drives b.count i d no_drive x) (f i (omega arith))

-- so far sound, and zero past the count
pub record So (store : ℕ) (b : Table) : Type 0 where
  pub most : b.count ≤ 8
  pub eight : length b.drives ≡ 8
  pub marks : length b.present ≡ 8
  pub bytes : length b.parameters ≡ 112
  pub counts : length b.counts ≡ 8
  pub lists : length b.bad ≡ 1024
  pub sound : sound_to b.count b.drives store ≡ true
  pub blank : (i : ℕ) → b.count ≤ i → i < 8 → get_or b.drives i no_drive ≡ zero_drive
  pub arrays : (i : ℕ) → i < b.count → Arrays (get_or b.drives i no_drive)
  pub attached : (i : ℕ) → i < 8 → attached_at b i ≡ true
  pub listed : (i : ℕ) → i < 8 → listed_at b i ≡ true

pub so_empty : (store : ℕ) → So store empty_table
unfolding sound_to
so_empty store =
    record {
      most = omega arith;
      eight = refl;
      marks = refl;
      bytes = refl;
      counts = refl;
      lists = refl;
      sound = refl;
      blank = λ i l h. get_or-replicate 8 i zero_drive no_drive h;
      arrays = λ i h. absurd (omega arith);
      attached = λ i h.
          attached_intro empty_table i (λ e. true≢false (has_parameters empty_table i) e (get_or-replicate 8 i false false h))
          (λ e j l. get_or-replicate 112 (14 * i + j) 0 0 (omega arith));
      listed = λ i h. rw (bads_empty i h) (bads_ok-no_bads (get_or empty_table.drives i no_drive).blocks);
    }

pub so_more : (store : ℕ) (b : Table) (d : Drive) → So store b → Arrays d → refusal b.count b.drives d store ≡ 0 → So store (more b d)
unfolding sound_to
so_more store b d s a z =
    let room : b.count < 8 = refusal-room b.count b.drives d store z in
    let here : get_or (set b.drives b.count d) b.count no_drive ≡ d = get_or-set_same b.drives b.count d no_drive (omega (arith, s.eight)) in
    let other : (i : ℕ) → i ≢ b.count → get_or (set b.drives b.count d) i no_drive ≡ get_or b.drives i no_drive
    = λ i. get_or-set_other b.drives b.count i d no_drive in
    record {
      most = omega arith;
      eight = length-set b.drives b.count d ∙ s.eight;
      marks = s.marks;
      bytes = s.bytes;
      counts = s.counts;
      lists = s.lists;
      sound = rw add-one (both_intro
          (eqb (refusal b.count (set b.drives b.count d) (get_or (set b.drives b.count d) b.count no_drive) store) 0)
          (sound_to b.count (set b.drives b.count d) store)
          (rw here (eq-eqb _ _ (refusal_ext b.count (set b.drives b.count d) b.drives d store (λ i h. other i (λ x. omega arith)) ∙ z)))
          (sound_ext b.count (set b.drives b.count d) b.drives store (λ i h. other i (λ x. omega arith)) ∙ s.sound));
      blank = λ i l h. other i (λ x. omega arith) ∙ s.blank i (omega arith) h;
      arrays = each_more Arrays b d s.eight room s.arrays a;
      attached = λ i h. attached_intro (more b d) i (λ e. omega (arith, attached_drive b i (s.attached i h) e)) (λ e. attached_zero b i (s.attached i h) e);
      listed = λ i h. at i h (ℕ_discrete i b.count);
    }
  where
    at : (i : ℕ) → i < 8 → Dec (i ≡ b.count) → listed_at (more b d) i ≡ true
    at i h (yes x) =
        let none : bads_at b i ≡ no_bads = listed-none b i s.lists h (ap (λ (e : Drive). e.blocks) (s.blank i (omega arith) h)) (s.listed i h) in
        rw none (bads_ok-no_bads (get_or (set b.drives b.count d) i no_drive).blocks)
    at i h (no x) = rw (get_or-set_other b.drives b.count i d no_drive x) (s.listed i h)

pub so_bads : (store : ℕ) (b : Table) (i : ℕ) (l : Bads) → So store b → Listed l → bads_refusal b i l ≡ 0 → So store (with_bads b i l)
so_bads store b i l s g z =
    record {
      most = s.most;
      eight = s.eight;
      marks = s.marks;
      bytes = s.bytes;
      counts = length-set b.counts i l.count ∙ s.counts;
      lists = length-sets b.bad (128 * i) l.list ∙ s.lists;
      sound = s.sound;
      blank = s.blank;
      arrays = s.arrays;
      attached = s.attached;
      listed = λ k h. at k h (ℕ_discrete k i);
    }
  where
    at : (k : ℕ) → k < 8 → Dec (k ≡ i) → listed_at (with_bads b i l) k ≡ true
    at k h (yes x) =
        let r = bads_room b i l z in
        rw (x, bads_same b i l g.long s.counts s.lists r.slot) (bads_ok_intro l (get_or b.drives i no_drive).blocks g.few r.good g.zeros)
    at k h (no x) = rw (bads_other b i l g.long k x) (s.listed k h)

pub so_attach : (store : ℕ) (b : Table) (i : ℕ) (p : List ℕ) → So store b → length p ≡ 14 → parameters_refusal b i ≡ 0 → So store (with_parameters b i p)
so_attach store b i p s n z =
    let r = parameters-room b i z in
    record {
      most = s.most;
      eight = s.eight;
      marks = length-set b.present i true ∙ s.marks;
      bytes = length-sets b.parameters (14 * i) p ∙ s.bytes;
      counts = s.counts;
      lists = s.lists;
      sound = s.sound;
      blank = s.blank;
      arrays = s.arrays;
      attached = λ k h. at k h (ℕ_discrete k i);
      listed = s.listed;
    }
  where
    at : (k : ℕ) → k < 8 → Dec (k ≡ i) → attached_at (with_parameters b i p) k ≡ true
    at k h (yes x) =
        let r = parameters-room b i z in
        attached_intro (with_parameters b i p) k (λ e. omega (arith, r.1, x))
        (λ e. true≢false (has_parameters (with_parameters b i p) k) (rw x (marked b i p n s.marks r.0)) e)
    at k h (no x) =
        let m = marked_other b i p n k x in
        attached_intro (with_parameters b i p) k (λ e. attached_drive b k (s.attached k h) (sym m ∙ e))
        (λ e j l. bytes-other b.parameters i p k j n x l ∙ attached_zero b k (s.attached k h) (sym m ∙ e) j l)

blank-zero : is_blank zero_drive ≡ true
unfolding is_blank blank_numbers blank_names same zero_tail
blank-zero = refl

pub so_good : (store : ℕ) (b : Table) → So store b → Good b store
unfolding is_sound blank_to attached_to listed_to
so_good store b s =
    record {
      sound = both_intro _ _ (le-leb _ _ s.most) (both_intro _ _ s.sound (both_intro _ _ (all_intro 8 (blank_at b.drives b.count) at)
          (both_intro _ _ (all_intro 8 (attached_at b) s.attached) (all_intro 8 (listed_at b) s.listed))));
      eight = s.eight;
      marks = s.marks;
      bytes = s.bytes;
      counts = s.counts;
      lists = s.lists;
      arrays = s.arrays;
    }
  where
    at : (i : ℕ) → i < 8 → blank_at b.drives b.count i ≡ true
    at i h =
        ⊎_elim
        (λ x. either_left (ltb i b.count) (is_blank (get_or b.drives i no_drive)) (lt-ltb i b.count x))
        (λ x. either_right (ltb i b.count) (is_blank (get_or b.drives i no_drive)) (ap is_blank (s.blank i x h) ∙ blank-zero))
        (lt_or_le i b.count)

-- the drives of any reading are sound, also of one that is refused
pub read_so : (t : List ℕ) (store : ℕ) → So store (read_table t store).table
unfolding read_table
read_so t store =
    let r = read_keeps (λ at. So store) t store
    (λ at n b s h z. so_more store b (drive_of (part n t at)) s (arrays_drive (part n t at) (drive-bytes h).whole) z)
    (λ at n b s h z.
    let w = bads_whole t at 3 n h refl in
    so_bads store b (number_in (part n t at)) (bads_in (part n t at)) s (bads_in-listed (part n t at) (rw w.0 w.4)) z)
    (λ at b s h z. so_attach store b (number_in (part 20 t at)) (parameters_in (part 20 t at)) s (length-parameters_in (part 20 t at) (omega (arith, length_whole t at 4 20 h))) z)
    most_records 0 empty_table (so_empty store) in
    r.1.0

-- an accepted table is good
pub accepted-good : (t : List ℕ) (store : ℕ) → (read_table t store).answer ≡ Ok tt → Good (read_table t store).table store
accepted-good t store e = so_good store (read_table t store).table (read_so t store)
