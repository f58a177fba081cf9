-- A table that obeys the rules, written and read, is that table.
-- Assumes nothing.
use Rattle.std.specs.Prelude.{Ok}
use mathlib.Core.Path.{◌≡◌, refl, sym, ap, ◌∙◌}
use mathlib.Core.Logic.{⊎_elim}
use mathlib.Core.Bool.{Bool, true, false, not}
use mathlib.Core.List.{List, [], ◌++◌, append_assoc, append-nil}
use Prim.Native.Nat.{ℕ, zero, suc, ◌+◌, ◌-◌, ◌*◌, ◌/◌, ◌%◌, ◌≤◌, ◌<◌}
use native.Mathlib.Nat.{zero-add, add-zero, add_assoc}
use native.Mathlib.Numerals.{add-one}
use native.Mathlib.Omega.{arith}
use lib.ListN.{length, take, drop, get_or, set, replicate, length-drop, length-set, length-append, get_or-replicate, get_or-append}
use lib.Seq.{sets, length-sets, take_at, drop_at, drop-drop, get_or-drop, get_or-take, get_or-set_same, get_or-set_other, ext_get_or}
use lib.Dec.{eqb}
use borrow.Author.Tests.{eqb-true, eqb-false, eq-eqb}
use Rattle.logic.specs.Logic.{pick}
use Rattle.logic.proofs.LogicLaws.{both_true, lt_or_le, pick-cases}
use Rattle.words.specs.Words.{le, le_bytes, part}
use Rattle.words.proofs.WordsLaws.{le_ext}
use Rattle.drive.specs.declared.Drive.{Drive}
use Rattle.drive.specs.Drive.{drive_of, record_of, is_blank, blank_numbers, blank_names, zero_tail, is_drive_kind, drive_length, fields_ok}
use Rattle.drive.proofs.DriveLaws.{drive-record, same_true, drive-kind, tailed_good, length-least}
use Rattle.drive.proofs.Demand2.{demand_2}
use Rattle.attached.specs.Parameters.{number_in, parameters_in, parameters_record}
use Rattle.attached.specs.declared.Bads.{Bads}
use Rattle.attached.specs.Bad.{no_bads, bad_length, held_of, bads_in, bad_record}
use Rattle.attached.proofs.AttachedLaws.{length-parameters_record, parameters-record}
use Rattle.attached.proofs.BadLaws.{held-few, bad_length_ok-bad_length, length-bad_record, bads_says, bads-record, bads_ok_true, no-bads}
use Rattle.table.specs.declared.Table.{Table}
use Rattle.table.specs.declared.Step.TheVariants.{Next, Done}
use Rattle.table.specs.declared.Reading.{Reading}
use Rattle.table.specs.Table.{most_drives, no_drive, zero_drive, header_at, refusal, more, has_parameters, parameters_at, with_parameters, bads_at, has_bads, with_bads, stepped, step_at, reading, most_records, read_from, read_table, bads_record, slot_records, records_of, end_record, bytes_of, drives_of, table_of, attached_at, listed_at, is_sound, is_kind, length_ok}
use Rattle.table.specs.Demand2.{Widths}
use Rattle.table.proofs.TableLaws.{header_of-whole, length_ok_three, step_at-end, end_step-done, parameters-taken, bads_none, drive-taken, attach_taken, bads_taken, length-parameters_at, length_list_part, length-drives, DriveAt, length_ok_one, kind_known, refusal-taken}
use Rattle.table.proofs.Slots.{byte_of, bytes_same, bytes-other, bads_same, bads_other, bads_empty, listed-none, attached_drive, attached_zero}
use Rattle.table.proofs.Sound.{Rules, sound_rules, refusal_ext}

-- ---- the headers of records that were written

-- a word of a record that follows a place
pub le_front : (k : ℕ) (t r s : List ℕ) (at i : ℕ) → drop at t ≡ r ++ s → i + k ≤ length r → le k t (at + i) ≡ le k r i
le_front k t r s at i e h =
    le_ext k t r (at + i) i (λ j l. rw (add_assoc at i j, ← get_or-drop at t (i + j) 0, e) (get_or-append r s 0 (i + j) (omega arith)))

-- its header, by its first two words and its length
written_header : (t : List ℕ) (at k n : ℕ) (r s : List ℕ) → drop at t ≡ r ++ s → length r ≡ n → le 2 r 0 ≡ n → le 2 r 2 ≡ k → is_kind k ≡ true → length_ok k n ≡ true → 4 ≤ n
    → header_at t at ≡ Ok (k, n)
unfolding header_at
written_header t at k n r s e m w q i l h =
    let left : length t - at ≡ n + length s = sym (length-drop at t) ∙ ap length e ∙ length-append r s ∙ ap (λ (x : ℕ). x + length s) m in
    let size : le 2 t at ≡ n = ap (le 2 t) (sym (add-zero at)) ∙ le_front 2 t r s at 0 e (omega arith) ∙ w in
    let kind : le 2 t (at + 2) ≡ k = le_front 2 t r s at 2 e (omega arith) ∙ q in
    rw (size, kind) (header_of-whole (length t - at) n k (omega arith) i l (omega arith))

-- the end record's, with nothing after it
end_header : (t : List ℕ) (at : ℕ) → drop at t ≡ end_record → (header_at t at ≡ Ok (0, 4)) × (length t ≤ at + 4)
unfolding le le_bytes
end_header t at e =
    let l : length t - at ≡ 4 = sym (length-drop at t) ∙ ap length e in
    (written_header t at 0 4 end_record [] e refl refl refl refl refl (omega arith), omega arith)

-- ---- the table of the first i slots

abbrev filled : ℕ → List Drive → List Drive
filled zero l = replicate most_drives zero_drive
filled (suc i) l = set (filled i l) i (get_or l i no_drive)

abbrev marks_to : ℕ → Table → List Bool
marks_to zero b = replicate most_drives false
marks_to (suc i) b = pick (has_parameters b i) (set (marks_to i b) i true) (marks_to i b)

abbrev bytes_to : ℕ → Table → List ℕ
bytes_to zero b = replicate 112 0
bytes_to (suc i) b = pick (has_parameters b i) (sets (bytes_to i b) (14 * i) (parameters_at b i)) (bytes_to i b)

abbrev counts_to : ℕ → Table → List ℕ
counts_to zero b = replicate most_drives 0
counts_to (suc i) b = pick (has_bads b i) (set (counts_to i b) i (get_or b.counts i 0)) (counts_to i b)

abbrev lists_to : ℕ → Table → List ℕ
lists_to zero b = replicate 1024 0
lists_to (suc i) b = pick (has_bads b i) (sets (lists_to i b) (128 * i) (bads_at b i).list) (lists_to i b)

abbrev up_to : Table → ℕ → Table
up_to b i = record { drives = filled i b.drives; count = i; present = marks_to i b; parameters = bytes_to i b; counts = counts_to i b; bad = lists_to i b }

length_filled : (i : ℕ) (l : List Drive) → length (filled i l) ≡ 8
length_filled zero l = refl
length_filled (suc i) l = length-set (filled i l) i (get_or l i no_drive) ∙ length_filled i l

filled_below : (i j : ℕ) (l : List Drive) → i ≤ 8 → j < i → get_or (filled i l) j no_drive ≡ get_or l j no_drive
filled_below zero j l m h = absurd (omega arith)
filled_below (suc i) j l m h =
    ⊎_elim
    (λ x. get_or-set_other (filled i l) i j (get_or l i no_drive) no_drive (λ y. omega arith) ∙ filled_below i j l (omega arith) x)
    (λ x. let y : j ≡ i = omega arith in rw y (get_or-set_same (filled i l) i (get_or l i no_drive) no_drive (omega (arith, length_filled i l))))
    (lt_or_le j i)

filled_past : (i j : ℕ) (l : List Drive) → i ≤ j → j < 8 → get_or (filled i l) j no_drive ≡ zero_drive
filled_past zero j l m h = get_or-replicate 8 j zero_drive no_drive h
filled_past (suc i) j l m h = get_or-set_other (filled i l) i j (get_or l i no_drive) no_drive (λ y. omega arith) ∙ filled_past i j l (omega arith) h

length-marks : (i : ℕ) (b : Table) → length (marks_to i b) ≡ 8
length-marks zero b = refl
length-marks (suc i) b =
    pick-cases (λ (l : List Bool). length l ≡ 8) (has_parameters b i) (set (marks_to i b) i true) (marks_to i b)
    (λ e. length-set (marks_to i b) i true ∙ length-marks i b) (λ e. length-marks i b)

marks-past : (i j : ℕ) (b : Table) → i ≤ j → j < 8 → get_or (marks_to i b) j false ≡ false
marks-past zero j b m h = get_or-replicate 8 j false false h
marks-past (suc i) j b m h =
    pick-cases (λ (l : List Bool). get_or l j false ≡ false) (has_parameters b i) (set (marks_to i b) i true) (marks_to i b)
    (λ e. get_or-set_other (marks_to i b) i j true false (λ y. omega arith) ∙ marks-past i j b (omega arith) h) (λ e. marks-past i j b (omega arith) h)

marks-below : (i j : ℕ) (b : Table) → i ≤ 8 → j < i → get_or (marks_to i b) j false ≡ has_parameters b j
marks-below zero j b m h = absurd (omega arith)
marks-below (suc i) j b m h =
    pick-cases (λ (l : List Bool). get_or l j false ≡ has_parameters b j) (has_parameters b i) (set (marks_to i b) i true) (marks_to i b)
    (λ e. ⊎_elim (λ (x : j < i). get_or-set_other (marks_to i b) i j true false (λ y. omega arith) ∙ marks-below i j b (omega arith) x)
    (λ (x : i ≤ j). let y : j ≡ i = omega arith in rw (y, e) (get_or-set_same (marks_to i b) i true false (omega (arith, m, length-marks i b)))) (lt_or_le j i))
    (λ e. ⊎_elim (λ (x : j < i). marks-below i j b (omega arith) x)
    (λ (x : i ≤ j). let y : j ≡ i = omega arith in rw (y, e) (marks-past i i b (omega arith) (omega arith))) (lt_or_le j i))

length-bytes : (i : ℕ) (b : Table) → length (bytes_to i b) ≡ 112
length-bytes zero b = refl
length-bytes (suc i) b =
    pick-cases (λ (l : List ℕ). length l ≡ 112) (has_parameters b i) (sets (bytes_to i b) (14 * i) (parameters_at b i)) (bytes_to i b)
    (λ e. length-sets (bytes_to i b) (14 * i) (parameters_at b i) ∙ length-bytes i b) (λ e. length-bytes i b)

module _ (b : Table) (all : length b.parameters ≡ 112) where
  bytes_past : (i k j : ℕ) → i ≤ k → k < 8 → j < 14 → get_or (bytes_to i b) (14 * k + j) 0 ≡ 0
  bytes_past zero k j m h l = get_or-replicate 112 (14 * k + j) 0 0 (omega arith)
  bytes_past (suc i) k j m h l =
      pick-cases (λ (s : List ℕ). get_or s (14 * k + j) 0 ≡ 0) (has_parameters b i) (sets (bytes_to i b) (14 * i) (parameters_at b i)) (bytes_to i b)
      (λ e. bytes-other (bytes_to i b) i (parameters_at b i) k j (length-parameters_at b i all (omega arith)) (λ y. omega arith) l ∙ bytes_past i k j (omega arith) h l)
      (λ e. bytes_past i k j (omega arith) h l)

  -- where slots without parameters have zeros
  bytes_below : ((i : ℕ) → i < 8 → attached_at b i ≡ true) → (i k j : ℕ) → i ≤ 8 → k < i → j < 14 → get_or (bytes_to i b) (14 * k + j) 0 ≡ get_or b.parameters (14 * k + j) 0
  bytes_below a zero k j m h l = absurd (omega arith)
  bytes_below a (suc i) k j m h l =
      let p : List ℕ = parameters_at b i in
      let given : length p ≡ 14 = length-parameters_at b i all (omega arith) in
      pick-cases (λ (s : List ℕ). get_or s (14 * k + j) 0 ≡ get_or b.parameters (14 * k + j) 0) (has_parameters b i) (sets (bytes_to i b) (14 * i) p) (bytes_to i b)
      (λ e. ⊎_elim (λ (x : k < i). bytes-other (bytes_to i b) i p k j given (λ y. omega arith) l ∙ bytes_below a i k j (omega arith) x l)
      (λ (x : i ≤ k). let y : k ≡ i = omega arith in rw y (bytes_same (bytes_to i b) i p j given (length-bytes i b) (omega arith) l ∙ byte_of b.parameters i j l)) (lt_or_le k i))
      (λ e. ⊎_elim (λ (x : k < i). bytes_below a i k j (omega arith) x l)
      (λ (x : i ≤ k). let y : k ≡ i = omega arith in rw y (bytes_past i i j (omega arith) (omega arith) l ∙ sym (attached_zero b i (a i (omega arith)) e j l))) (lt_or_le k i))

length-counts : (i : ℕ) (b : Table) → length (counts_to i b) ≡ 8
length-counts zero b = refl
length-counts (suc i) b =
    pick-cases (λ (l : List ℕ). length l ≡ 8) (has_bads b i) (set (counts_to i b) i (get_or b.counts i 0)) (counts_to i b)
    (λ e. length-set (counts_to i b) i (get_or b.counts i 0) ∙ length-counts i b) (λ e. length-counts i b)

length-lists : (i : ℕ) (b : Table) → length (lists_to i b) ≡ 1024
length-lists zero b = refl
length-lists (suc i) b =
    pick-cases (λ (l : List ℕ). length l ≡ 1024) (has_bads b i) (sets (lists_to i b) (128 * i) (bads_at b i).list) (lists_to i b)
    (λ e. length-sets (lists_to i b) (128 * i) (bads_at b i).list ∙ length-lists i b) (λ e. length-lists i b)

-- the bad blocks of a slot, after one slot more that has any or none
module _ (b : Table) (all : length b.bad ≡ 1024) where
  abbrev listed_by : Bool → ℕ → ℕ → Bads
  listed_by x i k =
      record {
        count = get_or (pick x (set (counts_to i b) i (get_or b.counts i 0)) (counts_to i b)) k 0;
        list = part 128 (pick x (sets (lists_to i b) (128 * i) (bads_at b i).list) (lists_to i b)) (128 * k);
      }

  listed-other : (x : Bool) (i k : ℕ) → i < 8 → (k ≡ i → ⊥) → listed_by x i k ≡ bads_at (up_to b i) k
  listed-other true i k h e = bads_other (up_to b i) i (bads_at b i) (length_list_part b.bad i all h) k e
  listed-other false i k h e = refl

  lists-past : (i k : ℕ) → i ≤ k → k < 8 → bads_at (up_to b i) k ≡ no_bads
  lists-past zero k m h = bads_empty k h
  lists-past (suc i) k m h = listed-other (has_bads b i) i k (omega arith) (λ e. omega arith) ∙ lists-past i k (omega arith) h

  -- where a slot without bad blocks has zeros
  lists-below : ((i : ℕ) → i < 8 → listed_at b i ≡ true) → (i k : ℕ) → i ≤ 8 → k < i → bads_at (up_to b i) k ≡ bads_at b k
  lists-below a zero k m h = absurd (omega arith)
  lists-below a (suc i) k m h =
      ⊎_elim (λ (x : k < i). listed-other (has_bads b i) i k (omega arith) (λ e. omega arith) ∙ lists-below a i k (omega arith) x)
      (λ (x : i ≤ k). let e : k ≡ i = omega arith in rw e (here (eqb (get_or b.counts i 0) 0) refl)) (lt_or_le k i)
    where
      long : length (bads_at b i).list ≡ 128
      long = length_list_part b.bad i all (omega arith)

      here : (x : Bool) → eqb (get_or b.counts i 0) 0 ≡ x → listed_by (not x) i i ≡ bads_at b i
      here true e =
          lists-past i i (omega arith) (omega arith)
          ∙ sym (no-bads (bads_at b i) (eqb-true (get_or b.counts i 0) 0 e) long (bads_ok_true (bads_at b i) (get_or b.drives i no_drive).blocks (a i (omega arith))).2)
      here false e = bads_same (up_to b i) i (bads_at b i) long (length-counts i b) (length-lists i b) (omega arith)

-- a blank slot is zero
blank-drive : (d : Drive) → is_blank d ≡ true → d ≡ zero_drive
unfolding is_blank blank_numbers blank_names zero_tail
blank-drive d e =
    let p = both_true _ _ e in
    let q = both_true _ _ p.0 in
    let physical = both_true _ _ q.0 in
    let physical₂ = both_true _ _ physical.1 in
    let q₂ = both_true _ _ q.1 in
    let run = both_true _ _ q₂.0 in
    let q₃ = both_true _ _ q₂.1 in
    let words = both_true _ _ q₃.0 in
    let words₂ = both_true _ _ words.1 in
    let bytes = both_true _ _ q₃.1 in
    let names = both_true _ _ p.1 in
    let names₂ = both_true _ _ names.1 in
    let names₃ = both_true _ _ names₂.1 in
    let names₄ = both_true _ _ names₃.1 in
    let bytes₂ = both_true _ _ bytes.1 in
    λ i. record {
      cylinders = eqb-true d.cylinders 0 physical.0 i;
      heads = eqb-true d.heads 0 physical₂.0 i;
      sectors = eqb-true d.sectors 0 physical₂.1 i;
      blocks = eqb-true d.blocks 0 run.0 i;
      first = eqb-true d.first 0 run.1 i;
      flags = eqb-true d.flags 0 words.0 i;
      c = eqb-true d.c 0 words₂.0 i;
      h = eqb-true d.h 0 words₂.1 i;
      s = eqb-true d.s 0 bytes.0 i;
      protection = eqb-true d.protection 0 bytes₂.0 i;
      bus = same_true d.bus (replicate 4 0) names.0 i;
      interface = same_true d.interface (replicate 8 0) names₂.0 i;
      path = same_true d.path (replicate 8 0) names₃.0 i;
      device = same_true d.device (replicate 8 0) names₄.0 i;
      kind = eqb-true d.kind 0 bytes₂.1 i;
      tail = same_true d.tail (replicate 8 0) names₄.1 i;
    }

-- all slots of a sound table are the table
filled_all : (b : Table) (store : ℕ) → Widths b → Rules b store → up_to b b.count ≡ b
filled_all b store w r =
    let n : ℕ = b.count in
    let drives : filled n b.drives ≡ b.drives = ext_get_or no_drive (filled n b.drives) b.drives (length_filled n b.drives ∙ sym w.eight) drive in
    let marks : marks_to n b ≡ b.present = ext_get_or false (marks_to n b) b.present (length-marks n b ∙ sym w.marks) mark in
    let bytes : bytes_to n b ≡ b.parameters = ext_get_or 0 (bytes_to n b) b.parameters (length-bytes n b ∙ sym w.bytes) byte in
    let counts : counts_to n b ≡ b.counts =
    ext_get_or 0 (counts_to n b) b.counts (length-counts n b ∙ sym w.counts) (λ j h. ap (λ (l : Bads). l.count) (slot j (omega (arith, h, length-counts n b)))) in
    let lists : lists_to n b ≡ b.bad = ext_get_or 0 (lists_to n b) b.bad (length-lists n b ∙ sym w.lists) number in
    λ i. record { drives = drives i; count = b.count; present = marks i; parameters = bytes i; counts = counts i; bad = lists i }
  where
    drive : (j : ℕ) → j < length (filled b.count b.drives) → get_or (filled b.count b.drives) j no_drive ≡ get_or b.drives j no_drive
    drive j h =
        let l : j < 8 = omega (arith, h, length_filled b.count b.drives) in
        ⊎_elim
        (λ x. filled_below b.count j b.drives r.most x)
        (λ x. filled_past b.count j b.drives x l ∙ sym (blank-drive (get_or b.drives j no_drive) (r.blank j x l)))
        (lt_or_le j b.count)

    unmarked : (j : ℕ) → b.count ≤ j → j < 8 → (x : Bool) → has_parameters b j ≡ x → has_parameters b j ≡ false
    unmarked j m l true e = absurd (omega (arith, m, attached_drive b j (r.attached j l) e))
    unmarked j m l false e = e

    mark : (j : ℕ) → j < length (marks_to b.count b) → get_or (marks_to b.count b) j false ≡ get_or b.present j false
    mark j h =
        let l : j < 8 = omega (arith, h, length-marks b.count b) in
        ⊎_elim
        (λ x. marks-below b.count j b r.most x)
        (λ x. marks-past b.count j b x l ∙ sym (unmarked j x l (has_parameters b j) refl))
        (lt_or_le j b.count)

    -- the byte of a slot, by the slot and its place there
    at : (k j : ℕ) → k < 8 → j < 14 → get_or (bytes_to b.count b) (14 * k + j) 0 ≡ get_or b.parameters (14 * k + j) 0
    at k j h l =
        ⊎_elim
        (λ x. bytes_below b w.bytes r.attached b.count k j r.most x l)
        (λ x. bytes_past b w.bytes b.count k j x h l ∙ sym (attached_zero b k (r.attached k h) (unmarked k x h (has_parameters b k) refl) j l))
        (lt_or_le k b.count)

    byte : (n : ℕ) → n < length (bytes_to b.count b) → get_or (bytes_to b.count b) n 0 ≡ get_or b.parameters n 0
    byte n h =
        let l : n < 112 = omega (arith, h, length-bytes b.count b) in
        let e : 14 * (n / 14) + n % 14 ≡ n = omega arith in
        rw e at (at (n / 14) (n % 14) (omega arith) (omega arith))

    -- the bad blocks of a slot
    slot : (k : ℕ) → k < 8 → bads_at (up_to b b.count) k ≡ bads_at b k
    slot k h =
        ⊎_elim
        (λ x. lists-below b w.lists r.listed b.count k r.most x)
        (λ x. lists-past b w.lists b.count k x h
        ∙ sym (listed-none b k w.lists h (ap (λ (d : Drive). d.blocks) (blank-drive (get_or b.drives k no_drive) (r.blank k x h))) (r.listed k h)))
        (lt_or_le k b.count)

    -- a byte of them
    byte_in : (l : List ℕ) (k j : ℕ) → j < 128 → get_or (part 128 l (128 * k)) j 0 ≡ get_or l (128 * k + j) 0
    byte_in l k j h = get_or-take 128 (drop (128 * k) l) j 0 h ∙ get_or-drop (128 * k) l j 0

    number : (n : ℕ) → n < length (lists_to b.count b) → get_or (lists_to b.count b) n 0 ≡ get_or b.bad n 0
    number n h =
        let l : n < 1024 = omega (arith, h, length-lists b.count b) in
        let e : 128 * (n / 128) + n % 128 ≡ n = omega arith in
        let j : n % 128 < 128 = omega arith in
        rw e at (sym (byte_in (lists_to b.count b) (n / 128) (n % 128) j)
        ∙ ap (λ (x : Bads). get_or x.list (n % 128) 0) (slot (n / 128) (omega arith)) ∙ byte_in b.bad (n / 128) (n % 128) j)

-- ---- written and read

-- the records of m slots from i on
abbrev between : Table → ℕ → ℕ → List ℕ
between b i zero = []
between b i (suc m) = slot_records b i ++ between b (suc i) m

records_between : (m i : ℕ) (b : Table) → records_of (i + m) b ≡ records_of i b ++ between b i m
unfolding records_of
records_between zero i b = rw add-zero (sym (append-nil (records_of i b)))
records_between (suc m) i b =
    let n : i + suc m ≡ suc i + m = omega arith in
    rw n (records_between m (suc i) b ∙ append_assoc (records_of i b) (slot_records b i) (between b (suc i) m))

-- the drive in a slot
abbrev drive_in : Table → ℕ → Drive
drive_in b i = get_or b.drives i no_drive

-- the first i slots with the drive of the next one, and with its bad blocks too
abbrev with_drive : Table → ℕ → Table
with_drive b i = more (up_to b i) (drive_in b i)

abbrev with_lists : Table → ℕ → Table
with_lists b i =
    record {
      drives = filled (suc i) b.drives;
      count = i + 1;
      present = marks_to i b;
      parameters = bytes_to i b;
      counts = counts_to (suc i) b;
      bad = lists_to (suc i) b;
    }

-- with more than so many records to read, what a table's bytes go on with is read to an end
abbrev ReadsOn : List ℕ → ℕ → ℕ → List ℕ → Table → Reading → Type 0
ReadsOn t store m rest b R = (k at : ℕ) → m < k → drop at t ≡ rest → read_from k t store at b ≡ R

-- a record of m bytes that is taken, before what is read to an end
record-read : (t : List ℕ) (store : ℕ) (b next : Table) (n m at k : ℕ) (rest : List ℕ) (R : Reading) → stepped (Next (at + m)) next ≡ step_at t at b store
    → drop (at + m) t ≡ rest → ReadsOn t store n rest next R → n + 1 < k → read_from k t store at b ≡ R
unfolding read_from
record-read t store b next n m at zero rest R s e f q = absurd (omega arith)
record-read t store b next n m at (suc k) rest R s e f q = rw (← s) (f k (at + m) (omega arith) e)

-- a slot's drive, its bad blocks and its parameters, where a table's bytes go on with their records
module _ (b : Table) (store : ℕ) (w : Widths b) (r : Rules b store) (t : List ℕ) (i : ℕ) (l : i < b.count) where
  slot : i < 8
  slot = omega (arith, l, r.most)

  behind : (x rest : List ℕ) (at m : ℕ) → drop at t ≡ x ++ rest → length x ≡ m → drop (at + m) t ≡ rest
  behind x rest at m e n = sym (drop-drop m at t) ∙ ap (drop m) e ∙ drop_at x rest m n

  -- one step to the drive
  drive-read : (R : Reading) (n : ℕ) (rest : List ℕ) → ReadsOn t store n rest (with_drive b i) R → ReadsOn t store (n + 1) (record_of (drive_in b i) ++ rest) (up_to b i) R
  drive-read R n rest f k at q e =
      let d : Drive = drive_in b i in
      let o = demand_2 d (w.each i l) in
      let m : ℕ = drive_length d.kind in
      let g : fields_ok d ≡ true = (refusal-taken i b.drives d store (r.taken i l)).0 in
      let kind : is_drive_kind d.kind ≡ true = drive-kind d g in
      let p : drive_of (part m t at) ≡ d = ap drive_of (ap (take m) e ∙ take_at (record_of d) rest m o.whole) ∙ drive-record d (w.each i l) (tailed_good d g) in
      let h : DriveAt t at m = record {
        kind = d.kind;
        header = written_header t at d.kind m (record_of d) rest e o.whole o.length_word o.kind (kind_known d.kind kind) (sym (length_ok_one d.kind m kind) ∙ eq-eqb m m refl) (omega (arith, length-least d.kind));
        drive = kind;
      } in
      let z : refusal i (filled i b.drives) d store ≡ 0
      = refusal_ext i (filled i b.drives) b.drives d store (λ j h. filled_below i j b.drives (omega (arith, slot)) h) ∙ r.taken i l in
      record-read t store (up_to b i) (with_drive b i) n m at k rest R (drive-taken t at m (up_to b i) store d h p z) (behind (record_of d) rest at m e o.whole) f q

  -- one to its bad blocks, if it has any
  bads_read : (R : Reading) (n : ℕ) (rest : List ℕ) → (get_or b.counts i 0 ≡ 0 → ⊥)
      → ReadsOn t store n rest (with_bads (with_drive b i) i (bads_at b i)) R
      → ReadsOn t store (n + 1) (bad_record i (bads_at b i) ++ rest) (with_drive b i) R
  bads_read R n rest some f k at q e =
      let c : Bads = bads_at b i in
      let m : ℕ = bad_length (held_of c.count) in
      let good = bads_ok_true c (drive_in b i).blocks (r.listed i slot) in
      let held : held_of c.count ≡ c.count = held-few c.count good.0 in
      let long : length c.list ≡ 128 = length_list_part b.bad i w.lists slot in
      let says = bads_says i c (omega (arith, slot)) in
      let whole : length (bad_record i c) ≡ m = length-bad_record i c long in
      let here : part m t at ≡ bad_record i c = ap (take m) e ∙ take_at (bad_record i c) rest m whole in
      let right : length_ok 3 m ≡ true
      = sym (length_ok_three m) ∙ bad_length_ok-bad_length (held_of c.count) (omega (arith, held, some)) (omega (arith, held, good.0)) in
      let h : header_at t at ≡ Ok (3, m) = written_header t at 3 m (bad_record i c) rest e whole says.length_word says.kind refl right (omega arith) in
      let same : get_or (set (filled i b.drives) i (drive_in b i)) i no_drive ≡ drive_in b i
      = get_or-set_same (filled i b.drives) i (drive_in b i) no_drive (omega (arith, slot, length_filled i b.drives)) in
      let z = bads_none (with_drive b i) i c record {
        slot = slot;
        last = refl;
        none = ap (λ (x : Bads). x.count) (lists-past b w.lists i i (omega arith) slot);
        bare = marks-past i i b (omega arith) slot;
        good = rw same good.1;
      } in
      record-read t store (with_drive b i) (with_bads (with_drive b i) i c) n m at k rest R
      (bads_taken t at m (with_drive b i) store i c h (ap number_in here ∙ says.number) (ap bads_in here ∙ bads-record i c good.0 long good.2) z)
      (behind (bad_record i c) rest at m e whole) f q

  lists-read : (R : Reading) (n : ℕ) (rest : List ℕ) → ReadsOn t store n rest (with_lists b i) R
      → ReadsOn t store (n + 1) (bads_record i (bads_at b i) ++ rest) (with_drive b i) R
  lists-read R n rest f = by_count (eqb (get_or b.counts i 0) 0) refl
    where
      by_count : (x : Bool) → eqb (get_or b.counts i 0) 0 ≡ x → ReadsOn t store (n + 1) (pick x [] (bad_record i (bads_at b i)) ++ rest) (with_drive b i) R
      by_count true e k at q on =
          let same : with_drive b i ≡ with_lists b i =
          λ j. record {
            drives = filled (suc i) b.drives;
            count = i + 1;
            present = marks_to i b;
            parameters = bytes_to i b;
            counts = pick (not (sym e j)) (set (counts_to i b) i (get_or b.counts i 0)) (counts_to i b);
            bad = pick (not (sym e j)) (sets (lists_to i b) (128 * i) (bads_at b i).list) (lists_to i b);
          } in
          ap (read_from k t store at) same ∙ f k at (omega arith) on
      by_count false e k at q on =
          let same : with_bads (with_drive b i) i (bads_at b i) ≡ with_lists b i =
          λ j. record {
            drives = filled (suc i) b.drives;
            count = i + 1;
            present = marks_to i b;
            parameters = bytes_to i b;
            counts = pick (not (sym e j)) (set (counts_to i b) i (get_or b.counts i 0)) (counts_to i b);
            bad = pick (not (sym e j)) (sets (lists_to i b) (128 * i) (bads_at b i).list) (lists_to i b);
          } in
          bads_read R n rest (eqb-false (get_or b.counts i 0) 0 e) (λ k at q on. ap (read_from k t store at) same ∙ f k at q on) k at q on

  -- and one to its parameters, if it has any
  parameters-read : (R : Reading) (n : ℕ) (rest : List ℕ) → ReadsOn t store n rest (with_parameters (with_lists b i) i (parameters_at b i)) R
      → ReadsOn t store (n + 1) (parameters_record i (parameters_at b i) ++ rest) (with_lists b i) R
  parameters-read R n rest f k at q e =
      let p : List ℕ = parameters_at b i in
      let given : length p ≡ 14 = length-parameters_at b i w.bytes slot in
      let says = parameters-record i p (omega (arith, slot)) given in
      let whole : length (parameters_record i p) ≡ 20 = length-parameters_record i p given in
      let here : part 20 t at ≡ parameters_record i p = ap (take 20) e ∙ take_at (parameters_record i p) rest 20 whole in
      let h : header_at t at ≡ Ok (4, 20) = written_header t at 4 20 (parameters_record i p) rest e whole says.length_word says.kind refl refl (omega arith) in
      let z = parameters-taken (with_lists b i) i slot refl (marks-past i i b (omega arith) slot) in
      record-read t store (with_lists b i) (with_parameters (with_lists b i) i p) n 20 at k rest R
      (attach_taken t at (with_lists b i) store i p h (ap number_in here ∙ says.number) (ap parameters_in here ∙ says.bytes) z)
      (behind (parameters_record i p) rest at 20 e whole) f q

  attached_read : (R : Reading) (n : ℕ) (rest : List ℕ) → ReadsOn t store n rest (up_to b (suc i)) R
      → ReadsOn t store (n + 1) (pick (has_parameters b i) (parameters_record i (parameters_at b i)) [] ++ rest) (with_lists b i) R
  attached_read R n rest f = by_mark (has_parameters b i) refl
    where
      by_mark : (x : Bool) → has_parameters b i ≡ x → ReadsOn t store (n + 1) (pick x (parameters_record i (parameters_at b i)) [] ++ rest) (with_lists b i) R
      by_mark true e k at q on =
          let same : with_parameters (with_lists b i) i (parameters_at b i) ≡ up_to b (suc i) =
          λ j. record {
            drives = filled (suc i) b.drives;
            count = add-one i j;
            present = pick (sym e j) (set (marks_to i b) i true) (marks_to i b);
            parameters = pick (sym e j) (sets (bytes_to i b) (14 * i) (parameters_at b i)) (bytes_to i b);
            counts = counts_to (suc i) b;
            bad = lists_to (suc i) b;
          } in
          parameters-read R n rest (λ k at q on. ap (read_from k t store at) same ∙ f k at q on) k at q on
      by_mark false e k at q on =
          let same : with_lists b i ≡ up_to b (suc i) =
          λ j. record {
            drives = filled (suc i) b.drives;
            count = add-one i j;
            present = pick (sym e j) (set (marks_to i b) i true) (marks_to i b);
            parameters = pick (sym e j) (sets (bytes_to i b) (14 * i) (parameters_at b i)) (bytes_to i b);
            counts = counts_to (suc i) b;
            bad = lists_to (suc i) b;
          } in
          ap (read_from k t store at) same ∙ f k at (omega arith) on

-- m slots that follow the first i are read from their records, at most three each
slots_read : (b : Table) (store : ℕ) → Widths b → Rules b store → (t : List ℕ) (m i : ℕ) → i + m ≡ b.count
    → ReadsOn t store (3 * m) (between b i m ++ end_record) (up_to b i) (reading (Ok tt) (up_to b b.count))
unfolding read_from
slots_read b store w r t zero i n zero at q e = absurd (omega arith)
slots_read b store w r t zero i n (suc k) at q e =
    let h = end_header t at e in
    let s : stepped Done (up_to b i) ≡ step_at t at (up_to b i) store
    = end_step-done t at (up_to b i) h.1 ∙ step_at-end t at 0 4 (up_to b i) store h.0 refl in
    let c : i ≡ b.count = omega arith in
    rw (← s) (ap (λ (x : ℕ). reading (Ok tt) (up_to b x)) c)
slots_read b store w r t (suc m) i n k at q e =
    let l : i < b.count = omega arith in
    let R : Reading = reading (Ok tt) (up_to b b.count) in
    let d : List ℕ = record_of (drive_in b i) in
    let c : List ℕ = bads_record i (bads_at b i) in
    let x : List ℕ = pick (has_parameters b i) (parameters_record i (parameters_at b i)) [] in
    let y : List ℕ = between b (suc i) m in
    let z : List ℕ = y ++ end_record in
    let e' : drop at t ≡ d ++ (c ++ (x ++ z)) =
    e ∙ append_assoc (d ++ (c ++ x)) y end_record ∙ append_assoc d (c ++ x) z ∙ ap (λ (u : List ℕ). d ++ u) (append_assoc c x z) in
    drive-read b store w r t i l R (3 * m + 1 + 1) (c ++ (x ++ z))
    (lists-read b store w r t i l R (3 * m + 1) (x ++ z)
    (attached_read b store w r t i l R (3 * m) z (slots_read b store w r t m (suc i) (omega arith)))) k at (omega arith) e'

-- demand 2: a table that obeys the rules, written and read, is that table
pub read-written : (b : Table) (store : ℕ) → Widths b → is_sound b store ≡ true → read_table (table_of b) store ≡ reading (Ok tt) b
unfolding read_table table_of bytes_of records_of
read-written b store w e =
    let r = sound_rules b store e in
    let c : length (drives_of b) ≡ b.count = omega (arith, length-drives b w.eight, r.most) in
    let t : table_of b ≡ between b 0 b.count ++ end_record
    = ap (λ (x : ℕ). records_of x b ++ end_record) (c ∙ sym (zero-add b.count)) ∙ ap (λ (x : List ℕ). x ++ end_record) (records_between b.count 0 b) in
    slots_read b store w r (table_of b) b.count 0 (zero-add b.count) most_records 0 (omega (arith, r.most)) t ∙ ap (reading (Ok tt)) (filled_all b store w r)
