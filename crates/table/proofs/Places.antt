-- Where the next record begins behind the drives so far, and what the first bytes of a record say of every table that has them at a place.
-- Assumes nothing.
use Rattle.std.specs.Prelude.{Result, Ok, Err}
use mathlib.Core.Path.{◌≡◌, refl, sym, ap, ◌∙◌, subst}
use mathlib.Core.Logic.{⊎_elim, ◌≢◌}
use mathlib.Core.Bool.{Bool, true, false, not}
use mathlib.Core.List.{List, [], ◌∷◌, ◌++◌, append-nil}
use Prim.Native.Nat.{ℕ, zero, suc, ◌+◌, ◌-◌, ◌*◌, ◌≤◌, ◌<◌}
use native.Mathlib.Nat.{add-zero, add_assoc}
use native.Mathlib.Omega.{arith}
use native.Mathlib.Decide.{ℕ_discrete}
use lib.ListN.{length, get_or, drop, length-append, length-drop}
use lib.Seq.{take_all, take_at, get_or-drop, get_or-set_same, get_or-set_other}
use lib.Dec.{ltb, leb, eqb}
use borrow.Author.Tests.{ltb-true, ltb-false, le-ltb}
use Rattle.logic.specs.Logic.{pick, both, either}
use Rattle.logic.proofs.LogicLaws.{impossible, lt_or_le, pick-cases}
use Rattle.words.specs.Words.{le, part}
use Rattle.words.proofs.WordsLaws.{le_ext}
use Rattle.drive.specs.declared.Drive.{Drive}
use Rattle.drive.specs.Drive.{drive_of, record_of, fields_ok, in_store, is_drive_kind, drive_length}
use Rattle.drive.proofs.DriveLaws.{Arrays, arrays_drive, length-record, length_most}
use Rattle.attached.specs.Parameters.{number_in, parameters_in, parameters_record}
use Rattle.attached.specs.declared.Bads.{Bads}
use Rattle.attached.specs.Bad.{bad_length, bad_count, bad_length_ok, held_of, bads_in, bad_record, list_ok}
use Rattle.attached.proofs.AttachedLaws.{length-parameters_in, length-parameters_record}
use Rattle.attached.proofs.BadLaws.{held-few, bad_length_ok_true, bads_in-count, length-bad_record}
use Rattle.table.specs.declared.Table.{Table}
use Rattle.table.specs.declared.Refusal.{Refusal}
use Rattle.table.specs.declared.Refusal.TheVariants.{CutOff, WrongLength, UnknownKind}
use Rattle.table.specs.declared.Step.TheVariants.{Next, Done, Refused}
use Rattle.table.specs.declared.Stepped.{Stepped}
use Rattle.table.specs.Table.{number, named, is_kind, length_ok, header_of, header_at, no_drive, overlaps_any, refusal, more, has_parameters, parameters_refusal, with_parameters, has_bads, bads_refusal, with_bads, stepped, record_refusal, with_record, record_step, step_at, empty_table, slot_records, records_of, drives_of, next_place}
use Rattle.table.proofs.TableLaws.{named-number, number-apart, record_numbered, whole_at, header_of-whole, length_ok-cases, length_ok-least, length_ok-most, length_ok-end, refusal-room, bads_room, parameters-room, step_at-bad, step_at-end, step_at-record, end_step-done, end_step-byte, record_step-next, record_step-refused, records_of-more, records_of_ext, slot_bare, length_slot, attached_most, length-drives, drive_with, drive-refusal}
use Rattle.table.proofs.Slots.{attached_drive, Listed, bads_in-listed, listed-none}
use Rattle.table.proofs.Sound.{So, so_more, so_bads, so_attach}
use Rattle.table.proofs.Enough.{records_left, left_some}
use Rattle.table.proofs.WriteRead.{attach_records, list_records}
use Rattle.table.proofs.ReadWrite.{le_front}

-- ---- where the next record begins

-- behind the records of the drives that are counted
place-count : (store : ℕ) (b : Table) → So store b → next_place b ≡ length (records_of b.count b)
unfolding next_place
place-count store b s = let c : length (drives_of b) ≡ b.count = omega (arith, length-drives b s.eight, s.most) in rw c

pub place_empty : next_place empty_table ≡ 0
unfolding next_place records_of
place_empty = refl

-- a slot past the drives has neither bad blocks nor parameters
fresh : (store : ℕ) (b : Table) → So store b → (i : ℕ) → b.count ≤ i → i < 8 → (get_or b.counts i 0 ≡ 0) × (has_parameters b i ≡ false)
fresh store b s i l h = (
  ap (λ (x : Bads). x.count) (listed-none b i s.lists h (ap (λ (d : Drive). d.blocks) (s.blank i l h)) (s.listed i h)),
  by_mark (has_parameters b i) refl,
)
  where
    by_mark : (x : Bool) → has_parameters b i ≡ x → x ≡ false
    by_mark true e = absurd (omega (arith, l, attached_drive b i (s.attached i h) e))
    by_mark false e = refl

-- a drive more
place-more : (store : ℕ) (b : Table) (d : Drive) → So store b → Arrays d → refusal b.count b.drives d store ≡ 0 → next_place (more b d) ≡ next_place b + drive_length d.kind
place-more store b d s a z =
    let room : b.count < 8 = refusal-room b.count b.drives d store z in
    let before : records_of b.count (more b d) ≡ records_of b.count b =
    records_of_ext b.count (more b d) b (λ j l. rw (get_or-set_other b.drives b.count j d no_drive (λ x. omega arith))) in
    let here : slot_records (more b d) b.count ≡ record_of d =
    let f = fresh store b s b.count (omega arith) room in
    slot_bare (more b d) b.count f.0 f.1 ∙ ap record_of (get_or-set_same b.drives b.count d no_drive (omega (arith, s.eight))) in
    rw (place-count store (more b d) (so_more store b d s a z), place-count store b s, records_of-more b.count (more b d), before, here, length-append (records_of b.count b) (record_of d), length-record d a)

-- a record of bad blocks more
place_bads : (store : ℕ) (b : Table) (i : ℕ) (l : Bads) → So store b → Listed l → bads_refusal b i l ≡ 0
    → next_place (with_bads b i l) ≡ next_place b + length (bad_record i l)
place_bads store b i l s g z =
    let room = bads_room b i l z in
    let records : records_of b.count (with_bads b i l) ≡ records_of b.count b ++ bad_record i l =
    subst (λ (n : ℕ). records_of n (with_bads b i l) ≡ records_of n b ++ bad_record i l) room.last
    (list_records b i l g s.counts s.lists room.slot room.none room.bare) in
    rw (place-count store (with_bads b i l) (so_bads store b i l s g z), place-count store b s, records, length-append (records_of b.count b) (bad_record i l))

-- a record of parameters more
place_attach : (store : ℕ) (b : Table) (i : ℕ) (p : List ℕ) → So store b → length p ≡ 14 → parameters_refusal b i ≡ 0 → next_place (with_parameters b i p) ≡ next_place b + 20
place_attach store b i p s given z =
    let room = parameters-room b i z in
    let records : records_of b.count (with_parameters b i p) ≡ records_of b.count b ++ parameters_record i p =
    subst (λ (n : ℕ). records_of n (with_parameters b i p) ≡ records_of n b ++ parameters_record i p) room.1 (attach_records b i p given s.marks s.bytes room.0 room.2) in
    rw (place-count store (with_parameters b i p) (so_attach store b i p s given z), place-count store b s, records, length-append (records_of b.count b) (parameters_record i p), length-parameters_record i p given)

-- eight drives with sixteen bad blocks and parameters each are 1840 bytes
records_most : (store : ℕ) (b : Table) → So store b → (n : ℕ) → n ≤ b.count → length (records_of n b) ≤ 230 * n
unfolding records_of
records_most store b s zero h = omega arith
records_most store b s (suc n) h =
    let m = records_most store b s n (omega arith) in
    let l = length_slot b n s.bytes s.lists (omega (arith, s.most)) in
    let d = length-record (get_or b.drives n no_drive) (s.arrays n (omega arith)) in
    rw (length-append (records_of n b) (slot_records b n), l, d) (omega (arith, m, length_most (get_or b.drives n no_drive).kind, attached_most (get_or b.counts n 0) (has_parameters b n)))

pub place-most : (store : ℕ) (b : Table) → So store b → next_place b ≤ 1840
place-most store b s = omega (arith, place-count store b s, records_most store b s b.count (omega arith), s.most)

-- a record that is taken
pub record Taken (store m : ℕ) (b next : Table) : Type 0 where
  pub so : So store next
  pub place : next_place next ≡ next_place b + m
  pub some : records_left next < 24

record-taken : (k m : ℕ) (r : List ℕ) (b : Table) (store : ℕ) → So store b → length_ok k m ≡ true → (k ≡ 0 → ⊥) → length r ≡ m → le 2 r 2 ≡ k → record_refusal k r b store ≡ 0
    → Taken store m b (with_record k r b)
unfolding record_refusal with_record drive_of
record-taken k m r b store s right other l kind z =
    ⊎_elim (λ x. absurd (other x.0))
    (λ y. ⊎_elim (λ x. rw (drive_with k r b x.0) (a_drive x.1 (sym (drive-refusal k r b store x.0) ∙ z)))
    (λ u. ⊎_elim (λ x. rw x.0 (bads x.1 (rw x.0 at z)))
    (λ x. subst (λ (n : ℕ). Taken store n b (with_record k r b)) (sym x.1) (rw x.0 (parameters (l ∙ x.1) (rw x.0 at z)))) u) y) (length_ok-cases k m right)
  where
    same_place : m ≡ drive_length k → next_place b + drive_length (drive_of r).kind ≡ next_place b + m
    same_place n = ap (λ (j : ℕ). next_place b + drive_length j) kind ∙ ap (λ (j : ℕ). next_place b + j) (sym n)

    a_drive : m ≡ drive_length k → refusal b.count b.drives (drive_of r) store ≡ 0 → Taken store m b (more b (drive_of r))
    a_drive n e =
        let a = arrays_drive r (l ∙ n ∙ ap drive_length (sym kind)) in
        record { so = so_more store b (drive_of r) s a e; place = place-more store b (drive_of r) s a e ∙ same_place n; some = left_some (more b (drive_of r)) (omega arith) }

    bads : bad_length_ok m ≡ true → bads_refusal b (number_in r) (bads_in r) ≡ 0 → Taken store m b (with_bads b (number_in r) (bads_in r))
    bads n e =
        let i : ℕ = number_in r in
        let c = bad_length_ok_true m n in
        let g : Listed (bads_in r) = bads_in-listed r (rw l n) in
        let room = bads_room b i (bads_in r) e in
        let held : held_of (bads_in r).count ≡ bad_count m = held-few (bads_in r).count g.few ∙ bads_in-count r (bad_count m) (l ∙ c.2) in
        let long : length (bad_record i (bads_in r)) ≡ m = length-bad_record i (bads_in r) g.long ∙ ap bad_length held ∙ sym c.2 in
        record {
          so = so_bads store b i (bads_in r) s g e;
          place = place_bads store b i (bads_in r) s g e ∙ ap (λ (n : ℕ). next_place b + n) long;
          some = left_some (with_bads b i (bads_in r)) (omega (arith, room.last));
        }

    parameters : length r ≡ 20 → parameters_refusal b (number_in r) ≡ 0 → Taken store 20 b (with_parameters b (number_in r) (parameters_in r))
    parameters n e =
        let given = length-parameters_in r (omega arith) in
        let room = parameters-room b (number_in r) e in
        record {
          so = so_attach store b (number_in r) (parameters_in r) s given e;
          place = place_attach store b (number_in r) (parameters_in r) s given e;
          some = left_some (with_parameters b (number_in r) (parameters_in r)) (omega (arith, room.1));
        }

-- ---- the numbers of the refusals

-- a header's are 1, 2 and 3
bad-most : (left size kind : ℕ) (e : Refusal) → header_of left size kind ≡ Err e → number e ≤ 3
unfolding header_of
bad-most left size kind e h = by_tests (ltb left 4) (is_kind kind) (length_ok kind size) (ltb left size) h
  where
    by_tests : (a b c d : Bool) → ◌≡◌ {A = Result (ℕ × ℕ) Refusal} (pick a (Err CutOff) (pick (not b) (Err UnknownKind) (pick (not c) (Err WrongLength) (pick d (Err CutOff) (Ok (kind, size)))))) (Err e) → number e ≤ 3
    by_tests true b c d q = let s : CutOff ≡ e = cc in rw (← s) (omega arith)
    by_tests false false c d q = let s : UnknownKind ≡ e = cc in rw (← s) (omega arith)
    by_tests false true false d q = let s : WrongLength ≡ e = cc in rw (← s) (omega arith)
    by_tests false true true true q = let s : CutOff ≡ e = cc in rw (← s) (omega arith)
    by_tests false true true false q = impossible (cc)

bad-at : (t : List ℕ) (at : ℕ) (e : Refusal) → header_at t at ≡ Err e → number e ≤ 3
unfolding header_at
bad-at t at e h = bad-most _ _ _ e h

bad-same : (d e : Refusal) → ◌≡◌ {A = Result (ℕ × ℕ) Refusal} (Err d) (Err e) → d ≡ e
bad-same d e h = cc

-- a record's are neither 1 nor 8
abbrev Other : ℕ → Type 0
Other n = (n ≢ 1) × (n ≢ 8)

record-other : (k : ℕ) (r : List ℕ) (b : Table) (store : ℕ) → Other (record_refusal k r b store)
unfolding record_refusal refusal bads_refusal parameters_refusal
record-other k r b store =
    let i : ℕ = number_in r in
    pick-cases Other (is_drive_kind k) (refusal b.count b.drives (drive_of r) store) (pick (eqb k 3) (bads_refusal b i (bads_in r)) (parameters_refusal b i))
    (λ e. by_tests (leb 8 b.count) (fields_ok (drive_of r)) (in_store (drive_of r) store) (overlaps_any b.count b.drives (drive_of r)))
    (λ e. pick-cases Other (eqb k 3) (bads_refusal b i (bads_in r)) (parameters_refusal b i)
    (λ f. by_list (both (ltb i 8) (both (eqb (i + 1) b.count) (not (either (has_bads b i) (has_parameters b i)))))
    (list_ok (bads_in r) (get_or b.drives i no_drive).blocks))
    (λ f. by_test (both (ltb i 8) (both (eqb (i + 1) b.count) (not (has_parameters b i))))))
  where
    by_tests : (a f i o : Bool) → Other (pick a 4 (pick (not f) 5 (pick (not i) 6 (pick o 7 0))))
    by_tests true f i o = (λ e. omega arith, λ e. omega arith)
    by_tests false false i o = (λ e. omega arith, λ e. omega arith)
    by_tests false true false o = (λ e. omega arith, λ e. omega arith)
    by_tests false true true true = (λ e. omega arith, λ e. omega arith)
    by_tests false true true false = (λ e. omega arith, λ e. omega arith)

    by_list : (a g : Bool) → Other (pick a (pick g 0 5) 9)
    by_list true true = (λ e. omega arith, λ e. omega arith)
    by_list true false = (λ e. omega arith, λ e. omega arith)
    by_list false g = (λ e. omega arith, λ e. omega arith)

    by_test : (a : Bool) → Other (pick a 0 9)
    by_test true = (λ e. omega arith, λ e. omega arith)
    by_test false = (λ e. omega arith, λ e. omega arith)

-- ---- the first bytes of a record

-- a header that the bytes settle is that of more bytes
header_grows : (left all size kind : ℕ) → left ≤ all → (header_of left size kind ≡ Err CutOff → ⊥) → (4 ≤ left) × (header_of all size kind ≡ header_of left size kind)
unfolding header_of
header_grows left all size kind l settled = by_tests (ltb left 4) (is_kind kind) (length_ok kind size) (ltb left size) refl refl refl refl settled
  where
    by_tests : (a b c d : Bool) → ltb left 4 ≡ a → is_kind kind ≡ b → length_ok kind size ≡ c → ltb left size ≡ d
        → (◌≡◌ {A = Result (ℕ × ℕ) Refusal} (pick a (Err CutOff) (pick (not b) (Err UnknownKind) (pick (not c) (Err WrongLength) (pick d (Err CutOff) (Ok (kind, size)))))) (Err CutOff) → ⊥)
        → (4 ≤ left) × (header_of all size kind ≡ pick a (Err CutOff) (pick (not b) (Err UnknownKind) (pick (not c) (Err WrongLength) (pick d (Err CutOff) (Ok (kind, size))))))
    by_tests true b c d e₁ e₂ e₃ e₄ q = absurd (q refl)
    by_tests false false c d e₁ e₂ e₃ e₄ q = let f = ltb-false left 4 e₁ in (f, rw (le-ltb all 4 (omega arith), e₂))
    by_tests false true false d e₁ e₂ e₃ e₄ q = let f = ltb-false left 4 e₁ in (f, rw (le-ltb all 4 (omega arith), e₂, e₃))
    by_tests false true true true e₁ e₂ e₃ e₄ q = absurd (q refl)
    by_tests false true true false e₁ e₂ e₃ e₄ q =
        let f = ltb-false left 4 e₁ in
        let w = ltb-false left size e₄ in
        (f, rw (le-ltb all 4 (omega arith), e₂, e₃, le-ltb all size (omega arith)))

-- bytes that may begin a record, and settle nothing
abbrev pub Begin : List ℕ → Type 0
Begin h = header_at h 0 ≡ Err CutOff

-- no byte does
pub begin-none : Begin []
unfolding header_at header_of le
begin-none = refl

-- they are fewer than the longest record's
pub begin-few : (h : List ℕ) → Begin h → length h < 134
unfolding header_at header_of
begin-few h e = by_tests (ltb (length h - 0) 4) (is_kind (le 2 h 2)) (length_ok (le 2 h 2) (le 2 h 0)) (ltb (length h - 0) (le 2 h 0)) refl refl refl e
  where
    by_tests : (a b c d : Bool) → ltb (length h - 0) 4 ≡ a → length_ok (le 2 h 2) (le 2 h 0) ≡ c → ltb (length h - 0) (le 2 h 0) ≡ d
        → ◌≡◌ {A = Result (ℕ × ℕ) Refusal} (pick a (Err CutOff) (pick (not b) (Err UnknownKind) (pick (not c) (Err WrongLength) (pick d (Err CutOff) (Ok (le 2 h 2, le 2 h 0)))))) (Err CutOff) → length h < 134
    by_tests true b c d e₁ e₃ e₄ q = omega (arith, ltb-true (length h - 0) 4 e₁)
    by_tests false false c d e₁ e₃ e₄ q = let s : ◌≡◌ {A = ℕ} 3 1 = cc in absurd (omega (arith, s))
    by_tests false true false d e₁ e₃ e₄ q = let s : ◌≡◌ {A = ℕ} 2 1 = cc in absurd (omega (arith, s))
    by_tests false true true true e₁ e₃ e₄ q = omega (arith, ltb-true (length h - 0) (le 2 h 0) e₄, length_ok-most (le 2 h 2) (le 2 h 0) e₃)
    by_tests false true true false e₁ e₃ e₄ q = impossible (cc)

module _ (t h q : List ℕ) (at : ℕ) (follows : drop at t ≡ h ++ q) where
  left_front : length t - at ≡ length h + length q
  left_front = sym (length-drop at t) ∙ ap length follows ∙ length-append h q

  size_front : 4 ≤ length h → le 2 t at ≡ le 2 h 0
  size_front l = ap (le 2 t) (sym (add-zero at)) ∙ le_front 2 t h q at 0 follows (omega arith)

  kind_front : 4 ≤ length h → le 2 t (at + 2) ≡ le 2 h 2
  kind_front l = le_front 2 t h q at 2 follows (omega arith)

  -- the header of a table that has them at a place
  header_front : (header_at h 0 ≡ Err CutOff → ⊥) → header_at t at ≡ header_at h 0
  unfolding header_at
  header_front settled =
      let g = header_grows (length h - 0) (length t - at) (le 2 h 0) (le 2 h 2) (omega (arith, left_front)) settled in
      rw (size_front (omega (arith, g.0)), kind_front (omega (arith, g.0))) g.1

  -- a header that is whole was not before, if it lacked a byte of the record
  header_shrinks : (k m : ℕ) → header_at t at ≡ Ok (k, m) → m ≤ length h → header_at h 0 ≡ Ok (k, m)
  unfolding header_at
  header_shrinks k m e l =
      let w = whole_at t at k m e in
      let f = length_ok-least k m w.right in
      let size : le 2 h 0 ≡ m = sym (size_front (omega (arith, f.0))) ∙ w.long in
      let kind : le 2 h 2 ≡ k = sym (kind_front (omega (arith, f.0))) ∙ w.same in
      rw (size, kind) (header_of-whole (length h - 0) m k (omega (arith, f.0)) f.1 w.right (omega arith))

  part_front : (m : ℕ) → length h ≡ m → part m t at ≡ h
  part_front m l = rw follows (take_at h q m l)

-- where nothing follows them it is theirs
header_last : (t h : List ℕ) (at : ℕ) → drop at t ≡ h → header_at t at ≡ header_at h 0
unfolding header_at
header_last t h at e =
    let word : (i : ℕ) → le 2 t (at + i) ≡ le 2 h i = λ i. le_ext 2 t h (at + i) i (λ j l. rw (add_assoc at i j, ← get_or-drop at t (i + j) 0, e)) in
    let size : le 2 t at ≡ le 2 h 0 = ap (le 2 t) (sym (add-zero at)) ∙ word 0 in
    let left : length t - at ≡ length h - 0 = sym (length-drop at t) ∙ ap length e ∙ omega arith in
    rw (size, word 2, left)

-- and where that settles nothing the table is cut off there
pub begin_last : (t h : List ℕ) (at : ℕ) (b : Table) (store : ℕ) → drop at t ≡ h → Begin h → step_at t at b store ≡ stepped (Refused 1 at) b
begin_last t h at b store e o = sym (step_at-bad t at CutOff b store (header_last t h at e ∙ o))

-- ---- a step over the first bytes of a record

-- what they say of every table that has them at a place
abbrev pub Steps : List ℕ → Table → ℕ → (ℕ → Stepped) → Type 0
Steps h b store s = (t q : List ℕ) (at : ℕ) → drop at t ≡ h ++ q → step_at t at b store ≡ s at

-- the byte that settles them, after bytes that settle nothing: they stay open; they are refused; they are the end record; or a record that is taken
pub begun-cases : (P : Stepped → Type 0) (h : List ℕ) (x : ℕ) (r : List ℕ) (b : Table) (store : ℕ) → r ≡ h ++ (x ∷ []) → So store b → Begin h
    → (Begin r → P (stepped (Refused 1 0) b))
    → ((n : ℕ) → number (named n) ≡ n → n ≢ 1 → n ≢ 8 → Steps r b store (λ at. stepped (Refused n at) b) → P (stepped (Refused n 0) b))
    → (length r ≡ 4
    → ((t : List ℕ) (at : ℕ) → drop at t ≡ r → step_at t at b store ≡ stepped Done b)
    → ((t : List ℕ) (at y : ℕ) (q : List ℕ) → drop at t ≡ r ++ (y ∷ q) → step_at t at b store ≡ stepped (Refused 8 (at + 4)) b) → P (stepped Done b))
    → ((m : ℕ) (next : Table) → length r ≡ m → Taken store m b next → Steps r b store (λ at. stepped (Next (at + m)) next) → P (stepped (Next (0 + m)) next))
    → P (step_at r 0 b store)
begun-cases P h x r b store whole s o stay refuse finish next = by_header (header_at r 0) refl
  where
    by_number : (d : Refusal) → header_at r 0 ≡ Err d → Dec (number d ≡ 1) → P (stepped (Refused (number d) 0) b)
    by_number d e (yes z) = subst (λ (y : ℕ). P (stepped (Refused y 0) b)) (sym z) (stay (e ∙ ap Err (number-apart d CutOff z)))
    by_number d e (no z) =
        refuse (number d) (ap number (named-number d)) z (λ y. omega (arith, y, bad-at r 0 d e))
        (λ t q at f. sym (step_at-bad t at d b store (header_front t r q at f (λ y. z (ap number (bad-same d CutOff (sym e ∙ y)))) ∙ e)))

    -- the same header at every place, and the same bytes
    whole_front : (k m : ℕ) → header_at r 0 ≡ Ok (k, m) → (t q : List ℕ) (at : ℕ) → drop at t ≡ r ++ q → header_at t at ≡ Ok (k, m)
    whole_front k m e t q at f = header_front t r q at f (λ y. impossible (cc)) ∙ e

    by_refusal : (k m : ℕ) → header_at r 0 ≡ Ok (k, m) → (k ≡ 0 → ⊥) → length r ≡ m → Dec (record_refusal k r b store ≡ 0) → P (record_step k m r b 0 store)
    by_refusal k m e z l (yes y) =
        rw (← record_step-next k m r b 0 store refl y)
        (next m (with_record k r b) l (record-taken k m r b store s (whole_at r 0 k m e).right z l (whole_at r 0 k m e).same y)
        (λ t q at f. rw (← step_at-record t at k m b store (whole_front k m e t q at f) z, part_front t r q at f m l) (sym (record_step-next k m r b at store refl y))))
    by_refusal k m e z l (no y) =
        let other = record-other k r b store in
        rw (← record_step-refused k m r b 0 store refl y)
        (refuse (record_refusal k r b store) ((record_numbered k r b store).named y) other.0 other.1
        (λ t q at f. rw (← step_at-record t at k m b store (whole_front k m e t q at f) z, part_front t r q at f m l) (sym (record_step-refused k m r b at store refl y))))

    by_kind : (k m : ℕ) → header_at r 0 ≡ Ok (k, m) → length r ≡ m → Dec (k ≡ 0) → P (step_at r 0 b store)
    by_kind k m e l (yes z) =
        let four : m ≡ 4 = length_ok-end k m (whole_at r 0 k m e).right z in
        rw (← step_at-end r 0 k m b store e z, ← end_step-done r 0 b (omega arith))
        (finish (l ∙ four)
        (λ t at f.
        let f' : drop at t ≡ r ++ [] = f ∙ sym (append-nil r) in
        rw (← step_at-end t at k m b store (whole_front k m e t [] at f') z) (sym (end_step-done t at b (omega (arith, l, four, left_front t r [] at f')))))
        (λ t at y q f. rw (← step_at-end t at k m b store (whole_front k m e t (y ∷ q) at f) z) (sym (end_step-byte t at b (omega (arith, l, four, left_front t r (y ∷ q) at f))))))
    by_kind k m e l (no z) =
        rw (← step_at-record r 0 k m b store e z, take_all m r (omega arith)) (by_refusal k m e z l (ℕ_discrete (record_refusal k r b store) 0))

    by_header : (y : Result (ℕ × ℕ) Refusal) → header_at r 0 ≡ y → P (step_at r 0 b store)
    by_header (Err d) e = rw (← step_at-bad r 0 d b store e) (by_number d e (ℕ_discrete (number d) 1))
    by_header (Ok (k, m)) e =
        let l : length r ≡ m =
        ⊎_elim (λ (y : length h < m). omega (arith, y, ap length whole, length-append h (x ∷ []), (whole_at r 0 k m e).whole))
        (λ (y : m ≤ length h). let w = header_shrinks r h (x ∷ []) 0 whole k m e y in impossible (cc)) (lt_or_le (length h) m) in
        by_kind k m e l (ℕ_discrete k 0)
