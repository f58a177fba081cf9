-- Laws of the table's definitions: a record's header, a step, the reading, the bytes written.
-- Assumes nothing.
use Rattle.std.specs.Prelude.{Result, Ok, Err}
use mathlib.Core.Path.{◌≡◌, refl, sym, ap, ◌∙◌}
use mathlib.Core.Logic.{◌⊎◌, inl, inr, ⊎_elim}
use mathlib.Core.Bool.{Bool, true, false, not}
use mathlib.Core.List.{List, [], ◌∷◌, ◌++◌, append-nil, append_assoc}
use Prim.Native.Nat.{ℕ, zero, suc, ◌+◌, ◌-◌, ◌*◌, ◌≤◌, ◌<◌, min}
use native.Mathlib.Nat.{zero-add, add-zero, add_assoc}
use native.Mathlib.Numerals.{add-one, sub-one}
use native.Mathlib.Omega.{arith}
use lib.ListN.{length, get_or, drop, length-append, length-take, length-drop}
use lib.Seq.{sets, length-sets, length-take-le, get_or-take, get_or-drop}
use lib.Dec.{ltb, leb, eqb}
use borrow.Author.Tests.{leb-false, lt-leb, ltb-true, ltb-false, lt-ltb, le-ltb, eq-eqb, ne_eqb, eqb-true, eqb-false}
use Rattle.logic.specs.Logic.{pick, both, either}
use Rattle.logic.proofs.LogicLaws.{impossible, true≢false, both_true, both_assoc, either_true, lt_or_le, pick-cases}
use Rattle.words.specs.Words.{le, le_bytes, part}
use Rattle.words.proofs.WordsLaws.{sets-append, sets_front, length-le_bytes, le_ext}
use Rattle.drive.specs.declared.Drive.{Drive}
use Rattle.drive.specs.Drive.{is_drive_kind, drive_length, drive_of, record_of, fields_ok, in_store}
use Rattle.drive.proofs.DriveLaws.{length-least, length_most}
use Rattle.attached.specs.Parameters.{number_in, parameters_in, parameters_record}
use Rattle.attached.specs.declared.Bads.{Bads}
use Rattle.attached.specs.Bad.{bad_length, bad_length_ok, bads_in, held_of, bad_record, list_ok}
use Rattle.attached.proofs.AttachedLaws.{length-parameters_record}
use Rattle.attached.proofs.BadLaws.{held-most, bad_length_ok-least, bad_length_ok-most, length-bad_record}
use Rattle.table.specs.declared.Table.{Table}
use Rattle.table.specs.declared.Refusal.{Refusal}
use Rattle.table.specs.declared.Refusal.TheVariants.{CutOff, WrongLength, UnknownKind, NinthDrive, BadField, PastStore, Overlapping, ByteFollows, NotLast}
use Rattle.table.specs.declared.Refused.{Refused as RefusedAt}
use Rattle.table.specs.declared.ShortBuffer.{ShortBuffer}
use Rattle.table.specs.declared.Step.{Step}
use Rattle.table.specs.declared.Step.TheVariants.{Next, Done, Refused}
use Rattle.table.specs.declared.Stepped.{Stepped}
use Rattle.table.specs.declared.Cursor.{Cursor}
use Rattle.table.specs.declared.Reading.{Reading}
use Rattle.table.specs.Table.{number, named, refused, empty_table, most_records, bad_field, past_store, overlapping, is_kind, length_ok, header_of, header_at, cut_header, is_unfinished, overlaps_any, refusal, no_drive, more, has_parameters, parameters_at, parameters_refusal, with_parameters, bads_at, has_bads, bads_refusal, with_bads, stepped, record_refusal, with_record, record_step, end_step, step_of, step_at, place_after, advanced, Advances, begun, reading, go_on, step_numbers, answer_numbers, written_numbers, taken_numbers, whole_numbers, record_numbers, onward, numbers_from, table_numbers, write_numbers, read_table, Reads, read_from, bads_record, slot_bytes, slot_records, records_of, end_record, bytes_of, drives_of, next_place, table_of, write_answer, write_out}

-- ---- refusals and their numbers

-- a refusal is the one that its number names
pub named-number : (e : Refusal) → named (number e) ≡ e
named-number CutOff = refl
named-number WrongLength = refl
named-number UnknownKind = refl
named-number NinthDrive = refl
named-number BadField = refl
named-number PastStore = refl
named-number Overlapping = refl
named-number ByteFollows = refl
named-number NotLast = refl

-- so no two have the same
pub number-apart : (d e : Refusal) → number d ≡ number e → d ≡ e
number-apart d e h = sym (named-number d) ∙ ap named h ∙ named-number e

-- and none has 0
pub number_some : (e : Refusal) → number e ≡ 0 → ⊥
number_some CutOff h = omega arith
number_some WrongLength h = omega arith
number_some UnknownKind h = omega arith
number_some NinthDrive h = omega arith
number_some BadField h = omega arith
number_some PastStore h = omega arith
number_some Overlapping h = omega arith
number_some ByteFollows h = omega arith
number_some NotLast h = omega arith

-- a number that is 0 or a refusal's
pub record Numbered (n : ℕ) : Type 0 where
  pub named : (n ≡ 0 → ⊥) → number (named n) ≡ n

none_numbered : Numbered 0
none_numbered = record { named = λ z. absurd (z refl) }

pub number_numbered : (e : Refusal) → Numbered (number e)
number_numbered e = record { named = λ z. ap number (named-number e) }

pick_numbered : (a : Bool) (m n : ℕ) → Numbered m → Numbered n → Numbered (pick a m n)
pick_numbered true m n x y = x
pick_numbered false m n x y = y

-- ---- the header

-- what a whole record's header says
pub record IsWhole (left size kind k n : ℕ) : Type 0 where
  pub same : kind ≡ k
  pub long : size ≡ n
  pub right : length_ok k n ≡ true
  pub whole : n ≤ left
  pub header : 4 ≤ left

pub header_whole : (left size kind k n : ℕ) → header_of left size kind ≡ Ok (k, n) → IsWhole left size kind k n
unfolding header_of
header_whole left size kind k n h = by_tests (ltb left 4) (is_kind kind) (length_ok kind size) (ltb left size) refl refl refl refl h
  where
    by_tests : (a b c d : Bool) → ltb left 4 ≡ a → is_kind kind ≡ b → length_ok kind size ≡ c → ltb left size ≡ d
        → ◌≡◌ {A = Result (ℕ × ℕ) Refusal} (pick a (Err CutOff) (pick (not b) (Err UnknownKind) (pick (not c) (Err WrongLength) (pick d (Err CutOff) (Ok (kind, size)))))) (Ok (k, n)) → IsWhole left size kind k n
    by_tests true b c d e₁ e₂ e₃ e₄ q = impossible (cc)
    by_tests false false c d e₁ e₂ e₃ e₄ q = impossible (cc)
    by_tests false true false d e₁ e₂ e₃ e₄ q = impossible (cc)
    by_tests false true true true e₁ e₂ e₃ e₄ q = impossible (cc)
    by_tests false true true false e₁ e₂ e₃ e₄ q =
        let w : ◌≡◌ {A = ℕ × ℕ} (kind, size) (k, n) = cc in
        let s : kind ≡ k = λ i. (w i).0 in
        let l : size ≡ n = λ i. (w i).1 in
        record { same = s; long = l; right = rw (s, l) at e₃; whole = rw l at (ltb-false left size e₄); header = ltb-false left 4 e₁ }

-- the header of a whole record at a place
pub whole_at : (t : List ℕ) (at k n : ℕ) → header_at t at ≡ Ok (k, n) → IsWhole (length t - at) (le 2 t at) (le 2 t (at + 2)) k n
unfolding header_at
whole_at t at k n h = header_whole _ _ _ k n h

-- and its bytes
pub length_whole : (t : List ℕ) (at k n : ℕ) → header_at t at ≡ Ok (k, n) → length (part n t at) ≡ n
length_whole t at k n h = length-take-le n (drop at t) (rw length-drop (whole_at t at k n h).whole)

-- a header is whole from four bytes, a kind with its length, and as many bytes
pub header_of-whole : (left size kind : ℕ) → 4 ≤ left → is_kind kind ≡ true → length_ok kind size ≡ true → size ≤ left → header_of left size kind ≡ Ok (kind, size)
unfolding header_of
header_of-whole left size kind f k l w = rw (le-ltb left 4 f, k, l, le-ltb left size w)

-- the header from what the code read and tested
pub header_is : {left size kind : ℕ} {k l : Bool} (t : List ℕ) (at : ℕ) → left ≡ length t - at → size ≡ le 2 t at → kind ≡ le 2 t (at + 2) → k ≡ is_kind kind → l ≡ length_ok kind size
    → header_at t at ≡ pick (ltb left 4) (Err CutOff) (pick (not k) (Err UnknownKind) (pick (not l) (Err WrongLength) (pick (ltb left size) (Err CutOff) (Ok (kind, size)))))
unfolding header_at header_of
header_is t at e s q k l = rw (k, l, e, s, q)

-- a word of a part is the word
pub le-part : (k n : ℕ) (s : List ℕ) (at i : ℕ) → i + k ≤ n → le k (part n s at) i ≡ le k s (at + i)
le-part k n s at i h = le_ext k (part n s at) s i (at + i) (λ j l.
    let q : i + j < n = omega arith in
    rw (get_or-take n (drop at s) (i + j) 0 q, get_or-drop at s (i + j) 0, ← add_assoc at i j))

-- the kinds of a drive are those up to 2 but the end's
pub drive-kind : (k : ℕ) → (k ≡ 0 → ⊥) → k ≤ 2 → is_drive_kind k ≡ true
drive-kind zero z l = absurd (z refl)
drive-kind (suc zero) z l = refl
drive-kind (suc (suc zero)) z l = refl
drive-kind (suc (suc (suc k))) z l = absurd (omega arith)

pub other-kind : (k : ℕ) → 2 < k → is_drive_kind k ≡ false
other-kind k l = rw (ne_eqb k 1 (λ e. omega arith), ne_eqb k 2 (λ e. omega arith))

pub kind-cases : (k : ℕ) → is_drive_kind k ≡ true → (k ≡ 1) ⊎ (k ≡ 2)
kind-cases k d = ⊎_elim (λ x. inl (eqb-true k 1 x)) (λ x. inr (eqb-true k 2 x)) (either_true (eqb k 1) (eqb k 2) d)

pub kind_known : (k : ℕ) → is_drive_kind k ≡ true → is_kind k ≡ true
kind_known k d = ⊎_elim (λ e. rw e) (λ e. rw e) (kind-cases k d)

-- no other kind is one of them
pub kind-apart : (k j : ℕ) → is_drive_kind k ≡ true → is_drive_kind j ≡ false → k ≡ j → ⊥
kind-apart k j d f e = impossible (cc)

-- the length of a kind that is known
pub length_ok_one : (k size : ℕ) → is_drive_kind k ≡ true → eqb size (drive_length k) ≡ length_ok k size
length_ok_one k size d = ⊎_elim (λ e. rw e (by_test (eqb size 68))) (λ e. rw e (by_test (eqb size 76))) (kind-cases k d)
  where
    by_test : (x : Bool) → x ≡ either x false
    by_test true = refl
    by_test false = refl

pub length_ok-zero : (size : ℕ) → eqb size 4 ≡ length_ok 0 size
length_ok-zero size = by_test (eqb size 4)
  where
    by_test : (x : Bool) → x ≡ either x false
    by_test true = refl
    by_test false = refl

pub length_ok_three : (size : ℕ) → bad_length_ok size ≡ length_ok 3 size
length_ok_three size = by_test (bad_length_ok size)
  where
    by_test : (x : Bool) → x ≡ either x false
    by_test true = refl
    by_test false = refl

-- the kinds with their lengths
pub length_ok-cases : (k n : ℕ) → length_ok k n ≡ true
    → ((k ≡ 0) × (n ≡ 4)) ⊎ (((is_drive_kind k ≡ true) × (n ≡ drive_length k)) ⊎ (((k ≡ 3) × (bad_length_ok n ≡ true)) ⊎ ((k ≡ 4) × (n ≡ 20))))
length_ok-cases k n h =
    let last : Bool = both (eqb k 4) (eqb n 20) in
    let third : Bool = either (both (eqb k 3) (bad_length_ok n)) last in
    ⊎_elim (λ x. inl (of 0 4 x))
    (λ y. inr (⊎_elim (λ x. inl (drive x))
    (λ z. inr (⊎_elim (λ x. inl (listed x)) (λ x. inr (of 4 20 x)) (either_true (both (eqb k 3) (bad_length_ok n)) last z)))
    (either_true (both (is_drive_kind k) (eqb n (drive_length k))) third y)))
    (either_true (both (eqb k 0) (eqb n 4)) (either (both (is_drive_kind k) (eqb n (drive_length k))) third) h)
  where
    of : (kind size : ℕ) → both (eqb k kind) (eqb n size) ≡ true → (k ≡ kind) × (n ≡ size)
    of kind size x = let p = both_true (eqb k kind) (eqb n size) x in (eqb-true k kind p.0, eqb-true n size p.1)

    drive : both (is_drive_kind k) (eqb n (drive_length k)) ≡ true → (is_drive_kind k ≡ true) × (n ≡ drive_length k)
    drive x = let p = both_true (is_drive_kind k) (eqb n (drive_length k)) x in (p.0, eqb-true n (drive_length k) p.1)

    listed : both (eqb k 3) (bad_length_ok n) ≡ true → (k ≡ 3) × (bad_length_ok n ≡ true)
    listed x = let p = both_true (eqb k 3) (bad_length_ok n) x in (eqb-true k 3 p.0, p.1)

pub length_ok-end : (k n : ℕ) → length_ok k n ≡ true → k ≡ 0 → n ≡ 4
length_ok-end k n h e = eqb-true n 4 (length_ok-zero n ∙ rw e at h)

pub length_ok-drive : (k n : ℕ) → length_ok k n ≡ true → is_drive_kind k ≡ true → n ≡ drive_length k
length_ok-drive k n h d = eqb-true n (drive_length k) (length_ok_one k n d ∙ h)

pub length_ok-bad : (k n : ℕ) → length_ok k n ≡ true → k ≡ 3 → bad_length_ok n ≡ true
length_ok-bad k n h e = length_ok_three n ∙ rw e at h

-- a kind that neither ends the table nor is a drive's or that of bad blocks is that of parameters
pub length_ok-parameters : (k n : ℕ) → length_ok k n ≡ true → (k ≡ 0 → ⊥) → is_drive_kind k ≡ false → (k ≡ 3 → ⊥) → (k ≡ 4) × (n ≡ 20)
length_ok-parameters k n h e f g =
    ⊎_elim (λ x. absurd (e x.0)) (λ y. ⊎_elim (λ x. true≢false (is_drive_kind k) x.0 f) (λ z. ⊎_elim (λ x. absurd (g x.0)) (λ x. x) z) y) (length_ok-cases k n h)

-- the bytes of a whole record of a length
size-whole : (t : List ℕ) (at k n m : ℕ) → header_at t at ≡ Ok (k, n) → n ≡ m → (length (part n t at) ≡ m) × (at + m ≤ length t)
size-whole t at k n m h e = let w = whole_at t at k n h in (length_whole t at k n h ∙ e, omega (arith, w.whole, w.header, e))

-- a whole record of a drive, of either kind
pub record DriveAt (t : List ℕ) (at n : ℕ) : Type 0 where
  pub kind : ℕ
  pub header : header_at t at ≡ Ok (kind, n)
  pub drive : is_drive_kind kind ≡ true

-- what its bytes have
pub record DriveBytes (t : List ℕ) (at k n : ℕ) : Type 0 where
  pub long : length (part n t at) ≡ n
  pub inside : at + n ≤ length t
  pub size : n ≡ drive_length k
  pub word : le 2 (part n t at) 0 ≡ n
  pub kind : le 2 (part n t at) 2 ≡ k
  pub whole : length (part n t at) ≡ drive_length (le 2 (part n t at) 2)

pub drive-whole : (t : List ℕ) (at k n : ℕ) → header_at t at ≡ Ok (k, n) → is_drive_kind k ≡ true → DriveBytes t at k n
drive-whole t at k n h d =
    let w = whole_at t at k n h in
    let s : n ≡ drive_length k = length_ok-drive k n w.right d in
    let l : length (part n t at) ≡ n = length_whole t at k n h in
    let four : 4 ≤ n = omega (arith, s, length-least k) in
    let q : le 2 (part n t at) 2 ≡ k = le-part 2 n t at 2 (omega (arith, four)) ∙ w.same in
    record {
      long = l;
      inside = omega (arith, w.whole, w.header);
      size = s;
      word = le-part 2 n t at 0 (omega (arith, four)) ∙ rw add-zero w.long;
      kind = q;
      whole = l ∙ s ∙ ap drive_length (sym q);
    }

pub drive-bytes : {t : List ℕ} {at n : ℕ} (h : DriveAt t at n) → DriveBytes t at h.kind n
drive-bytes {t} {at} {n} h = drive-whole t at h.kind n h.header h.drive

pub bads_whole : (t : List ℕ) (at k n : ℕ) → header_at t at ≡ Ok (k, n) → k ≡ 3
    → (length (part n t at) ≡ n) × (14 ≤ n) × (n ≤ 134) × (at + n ≤ length t) × (bad_length_ok n ≡ true)
bads_whole t at k n h e =
    let w = whole_at t at k n h in
    let g : bad_length_ok n ≡ true = length_ok-bad k n w.right e in
    (length_whole t at k n h, bad_length_ok-least n g, bad_length_ok-most n g, omega (arith, w.whole, w.header), g)

pub parameters-whole : (t : List ℕ) (at k n : ℕ) → header_at t at ≡ Ok (k, n) → (k ≡ 0 → ⊥) → is_drive_kind k ≡ false → (k ≡ 3 → ⊥)
    → (length (part n t at) ≡ 20) × (at + 20 ≤ length t)
parameters-whole t at k n h e f g = size-whole t at k n 20 h (length_ok-parameters k n (whole_at t at k n h).right e f g).1

-- a record that neither ends the table nor is a drive's has a number
pub attached_least : (t : List ℕ) (at k n : ℕ) → header_at t at ≡ Ok (k, n) → (k ≡ 0 → ⊥) → is_drive_kind k ≡ false → 6 ≤ n
attached_least t at k n h e f =
    ⊎_elim (λ x. absurd (e x.0))
    (λ y. ⊎_elim (λ x. true≢false (is_drive_kind k) x.0 f) (λ z. ⊎_elim (λ x. omega (arith, bad_length_ok-least n x.1)) (λ x. omega (arith, x.1)) z) y)
    (length_ok-cases k n (whole_at t at k n h).right)

-- the lengths that there are
pub length_ok-least : (k m : ℕ) → length_ok k m ≡ true → (4 ≤ m) × (is_kind k ≡ true)
length_ok-least k m h =
    ⊎_elim (λ x. (omega (arith, x.1), rw x.0))
    (λ y. ⊎_elim (λ x. (omega (arith, x.1, length-least k), kind_known k x.0))
    (λ z. ⊎_elim (λ x. (omega (arith, bad_length_ok-least m x.1), rw x.0)) (λ x. (omega (arith, x.1), rw x.0)) z) y) (length_ok-cases k m h)

-- no record is longer than one of sixteen bad blocks
pub length_ok-most : (k n : ℕ) → length_ok k n ≡ true → n ≤ 134
length_ok-most k n h =
    ⊎_elim (λ x. omega (arith, x.1))
    (λ y. ⊎_elim (λ x. omega (arith, x.1, length_most k)) (λ z. ⊎_elim (λ x. bad_length_ok-most n x.1) (λ x. omega (arith, x.1)) z) y) (length_ok-cases k n h)

-- ---- a drive among those before it

-- a drive that is taken has room
pub room : (n m : ℕ) → pick (leb 8 n) 4 m ≡ 0 → n < 8
room n m h = leb-false 8 n (by_test (leb 8 n) h)
  where
    by_test : (a : Bool) → pick a 4 m ≡ 0 → a ≡ false
    by_test true h = absurd (omega arith)
    by_test false h = refl

pub refusal-room : (n : ℕ) (l : List Drive) (d : Drive) (store : ℕ) → refusal n l d store ≡ 0 → n < 8
unfolding refusal
refusal-room n l d store h = room n _ h

-- and its fields and its blocks are good
pub refusal-taken : (n : ℕ) (l : List Drive) (d : Drive) (store : ℕ) → refusal n l d store ≡ 0 → (fields_ok d ≡ true) × (in_store d store ≡ true)
unfolding refusal
refusal-taken n l d store h = by_tests (leb 8 n) (fields_ok d) (in_store d store) refl refl h
  where
    by_tests : (a f i : Bool) → fields_ok d ≡ f → in_store d store ≡ i
        → ◌≡◌ {A = ℕ} (pick a 4 (pick (not f) 5 (pick (not i) 6 (pick (overlaps_any n l d) 7 0)))) 0 → (fields_ok d ≡ true) × (in_store d store ≡ true)
    by_tests true f i p q e = absurd (omega arith)
    by_tests false false i p q e = absurd (omega arith)
    by_tests false true false p q e = absurd (omega arith)
    by_tests false true true p q e = (p, q)

-- ---- a drive's parameters among the drives before them

-- those that are taken are of the last drive, which has none
pub parameters-room : (b : Table) (i : ℕ) → parameters_refusal b i ≡ 0 → (i < 8) × (i + 1 ≡ b.count) × (has_parameters b i ≡ false)
unfolding parameters_refusal
parameters-room b i h = by_tests (ltb i 8) (eqb (i + 1) b.count) (has_parameters b i) refl refl refl h
  where
    by_tests : (x y z : Bool) → ltb i 8 ≡ x → eqb (i + 1) b.count ≡ y → has_parameters b i ≡ z → ◌≡◌ {A = ℕ} (pick (both x (both y (not z))) 0 9) 0
        → (i < 8) × (i + 1 ≡ b.count) × (has_parameters b i ≡ false)
    by_tests false y z p q r e = absurd (omega arith)
    by_tests true false z p q r e = absurd (omega arith)
    by_tests true true true p q r e = absurd (omega arith)
    by_tests true true false p q r e = (ltb-true i 8 p, eqb-true (i + 1) b.count q, r)

pub parameters-taken : (b : Table) (i : ℕ) → i < 8 → i + 1 ≡ b.count → has_parameters b i ≡ false → parameters_refusal b i ≡ 0
unfolding parameters_refusal
parameters-taken b i h e m = rw (lt-ltb i 8 h, eq-eqb (i + 1) b.count e, m)

-- a slot that a record names, as the code tested it
pub slot_named : {a : Bool} (i : ℕ) (x : Bool) → a ≡ both (ltb i 8) x → a ≡ true → i < 8
slot_named i x e z = ltb-true i 8 (both_true (ltb i 8) x (sym e ∙ z)).0

-- the refusal from what the code tested
parameters-is : {a : Bool} (b : Table) (i : ℕ) → a ≡ both (ltb i 8) (both (eqb (i + 1) b.count) (not (has_parameters b i))) → pick a 0 9 ≡ parameters_refusal b i
unfolding parameters_refusal
parameters-is b i e = rw e

pub parameters-none : {a : Bool} (b : Table) (i : ℕ) → a ≡ both (ltb i 8) (both (eqb (i + 1) b.count) (not (has_parameters b i))) → a ≡ true → 0 ≡ parameters_refusal b i
parameters-none b i e z = rw z at (parameters-is b i e)

pub parameters_nine : {a : Bool} (b : Table) (i : ℕ) → a ≡ both (ltb i 8) (both (eqb (i + 1) b.count) (not (has_parameters b i))) → a ≡ false → 9 ≡ parameters_refusal b i
parameters_nine b i e z = rw z at (parameters-is b i e)

-- ---- a drive's bad blocks among the drives before them

-- what those that are taken are: of the last drive, which has neither bad blocks nor parameters, and a list of its blocks
pub record BadsRoom (b : Table) (i : ℕ) (l : Bads) : Type 0 where
  pub slot : i < 8
  pub last : i + 1 ≡ b.count
  pub none : get_or b.counts i 0 ≡ 0
  pub bare : has_parameters b i ≡ false
  pub good : list_ok l (get_or b.drives i no_drive).blocks ≡ true

pub bads_room : (b : Table) (i : ℕ) (l : Bads) → bads_refusal b i l ≡ 0 → BadsRoom b i l
unfolding bads_refusal
bads_room b i l h =
    by_tests (ltb i 8) (eqb (i + 1) b.count) (eqb (get_or b.counts i 0) 0) (has_parameters b i) (list_ok l (get_or b.drives i no_drive).blocks) refl refl refl refl refl h
  where
    by_tests : (x y u v g : Bool) → ltb i 8 ≡ x → eqb (i + 1) b.count ≡ y → eqb (get_or b.counts i 0) 0 ≡ u → has_parameters b i ≡ v
        → list_ok l (get_or b.drives i no_drive).blocks ≡ g → ◌≡◌ {A = ℕ} (pick (both x (both y (not (either (not u) v)))) (pick g 0 5) 9) 0 → BadsRoom b i l
    by_tests false y u v g p q r s o e = absurd (omega arith)
    by_tests true false u v g p q r s o e = absurd (omega arith)
    by_tests true true false v g p q r s o e = absurd (omega arith)
    by_tests true true true true g p q r s o e = absurd (omega arith)
    by_tests true true true false false p q r s o e = absurd (omega arith)
    by_tests true true true false true p q r s o e =
        record { slot = ltb-true i 8 p; last = eqb-true (i + 1) b.count q; none = eqb-true (get_or b.counts i 0) 0 r; bare = s; good = o }

pub bads_none : (b : Table) (i : ℕ) (l : Bads) → BadsRoom b i l → bads_refusal b i l ≡ 0
unfolding bads_refusal
bads_none b i l r = rw (lt-ltb i 8 r.slot, eq-eqb (i + 1) b.count r.last, r.none, r.bare, r.good)

-- the refusal from what the code tested: not the last drive or one with parameters, and else one with bad blocks or the list
pub bads_nine : {a : Bool} (b : Table) (i : ℕ) (l : Bads) → a ≡ both (ltb i 8) (both (eqb (i + 1) b.count) (not (has_parameters b i))) → a ≡ false → 9 ≡ bads_refusal b i l
unfolding bads_refusal
bads_nine b i l e z =
    let g : ℕ = pick (list_ok l (get_or b.drives i no_drive).blocks) 0 5 in
    by_tests (ltb i 8) (eqb (i + 1) b.count) (has_bads b i) (has_parameters b i) g (sym e ∙ z)
  where
    by_tests : (x y u v : Bool) (g : ℕ) → both x (both y (not v)) ≡ false → 9 ≡ pick (both x (both y (not (either u v)))) g 9
    by_tests false y u v g q = refl
    by_tests true false u v g q = refl
    by_tests true true true v g q = refl
    by_tests true true false true g q = refl
    by_tests true true false false g q = impossible (cc)

pub bads_named : {a : Bool} (b : Table) (i : ℕ) (l : Bads) → a ≡ both (ltb i 8) (both (eqb (i + 1) b.count) (not (has_parameters b i))) → a ≡ true
    → pick (eqb (get_or b.counts i 0) 0) (pick (list_ok l (get_or b.drives i no_drive).blocks) 0 5) 9 ≡ bads_refusal b i l
unfolding bads_refusal
bads_named b i l e z =
    let t = both_true (ltb i 8) (both (eqb (i + 1) b.count) (not (has_parameters b i))) (sym e ∙ z) in
    let u = both_true (eqb (i + 1) b.count) (not (has_parameters b i)) t.1 in
    rw (t.0, u.0) (by_tests (eqb (get_or b.counts i 0) 0) (has_parameters b i) (pick (list_ok l (get_or b.drives i no_drive).blocks) 0 5) u.1)
  where
    by_tests : (u v : Bool) (g : ℕ) → not v ≡ true → pick u g 9 ≡ pick (not (either (not u) v)) g 9
    by_tests true true g q = impossible (cc)
    by_tests true false g q = refl
    by_tests false v g q = refl

-- ---- a step, by cases

pub record_step-next : {n : ℕ} (kind size : ℕ) (r : List ℕ) (b : Table) (at store : ℕ) → n ≡ record_refusal kind r b store → n ≡ 0
    → stepped (Next (at + size)) (with_record kind r b) ≡ record_step kind size r b at store
unfolding record_step
record_step-next {n} kind size r b at store q z = rw (← q, eq-eqb n 0 z)

pub record_step-refused : {n : ℕ} (kind size : ℕ) (r : List ℕ) (b : Table) (at store : ℕ) → n ≡ record_refusal kind r b store → (n ≡ 0 → ⊥)
    → stepped (Refused n at) b ≡ record_step kind size r b at store
unfolding record_step
record_step-refused {n} kind size r b at store q z = rw (← q, ne_eqb n 0 z)

-- of a drive's record, of either kind
pub drive-refusal : (k : ℕ) (r : List ℕ) (b : Table) (store : ℕ) → is_drive_kind k ≡ true → record_refusal k r b store ≡ refusal b.count b.drives (drive_of r) store
unfolding record_refusal
drive-refusal k r b store w = rw w

pub drive_with : (k : ℕ) (r : List ℕ) (b : Table) → is_drive_kind k ≡ true → with_record k r b ≡ more b (drive_of r)
unfolding with_record
drive_with k r b w = rw w

-- the step over the bytes of a drive's record, from what its parts answered
pub drive-next : {d : Drive} {n : ℕ} {p : Table} (k : ℕ) (r : List ℕ) (at : ℕ) (b : Table) (store : ℕ) → is_drive_kind k ≡ true → d ≡ drive_of r → n ≡ refusal b.count b.drives d store → n ≡ 0
    → p ≡ more b d → stepped (Next (at + length r)) p ≡ record_step k (length r) r b at store
drive-next k r at b store w e q z p =
    rw (p, e, ← drive_with k r b w) (record_step-next k (length r) r b at store (rw (← e) q ∙ sym (drive-refusal k r b store w)) z)

pub drive-refused : {d : Drive} {n : ℕ} (k : ℕ) (r : List ℕ) (at : ℕ) (b : Table) (store : ℕ) → is_drive_kind k ≡ true → d ≡ drive_of r → n ≡ refusal b.count b.drives d store → (n ≡ 0 → ⊥)
    → stepped (Refused n at) b ≡ record_step k (length r) r b at store
drive-refused k r at b store w e q z = record_step-refused k (length r) r b at store (rw (← e) q ∙ sym (drive-refusal k r b store w)) z

-- and of a record of parameters
pub parameters-next : {i n : ℕ} {y : List ℕ} {p : Table} (r : List ℕ) (at : ℕ) (b : Table) (store : ℕ) → length r ≡ 20 → i ≡ number_in r → y ≡ parameters_in r → n ≡ parameters_refusal b i → n ≡ 0
    → p ≡ with_parameters b i y → stepped (Next (at + length r)) p ≡ record_step 4 20 r b at store
unfolding record_refusal with_record
parameters-next r at b store l e y q z p = rw (l, p, e, y) (record_step-next 4 20 r b at store (rw (← e) q) z)

pub parameters-refused : {i n : ℕ} (r : List ℕ) (at : ℕ) (b : Table) (store : ℕ) → i ≡ number_in r → n ≡ parameters_refusal b i → (n ≡ 0 → ⊥)
    → stepped (Refused n at) b ≡ record_step 4 20 r b at store
unfolding record_refusal
parameters-refused r at b store e q z = record_step-refused 4 20 r b at store (rw (← e) q) z

-- and of a record of bad blocks
pub bads_next : {i n : ℕ} {l : Bads} {p : Table} (r : List ℕ) (at : ℕ) (b : Table) (store : ℕ) → i ≡ number_in r → l ≡ bads_in r → n ≡ bads_refusal b i l → n ≡ 0
    → p ≡ with_bads b i l → stepped (Next (at + length r)) p ≡ record_step 3 (length r) r b at store
unfolding record_refusal with_record
bads_next r at b store e y q z p = rw (p, e, y) (record_step-next 3 (length r) r b at store (rw (← e, ← y) q) z)

pub bads_refused : {i n : ℕ} {l : Bads} (r : List ℕ) (at : ℕ) (b : Table) (store : ℕ) → i ≡ number_in r → l ≡ bads_in r → n ≡ bads_refusal b i l → (n ≡ 0 → ⊥)
    → stepped (Refused n at) b ≡ record_step 3 (length r) r b at store
unfolding record_refusal
bads_refused r at b store e y q z = record_step-refused 3 (length r) r b at store (rw (← e, ← y) q) z

pub end_step-byte : (t : List ℕ) (at : ℕ) (b : Table) → at + 4 < length t → stepped (Refused 8 (at + 4)) b ≡ end_step t at b
unfolding end_step
end_step-byte t at b h = rw (lt-ltb _ _ h)

pub end_step-done : (t : List ℕ) (at : ℕ) (b : Table) → length t ≤ at + 4 → stepped Done b ≡ end_step t at b
unfolding end_step
end_step-done t at b h = rw (le-ltb _ _ h)

pub step_at-bad : (t : List ℕ) (at : ℕ) (e : Refusal) (b : Table) (store : ℕ) → header_at t at ≡ Err e → stepped (Refused (number e) at) b ≡ step_at t at b store
unfolding step_at step_of
step_at-bad t at e b store h = rw h

-- an unfinished record is cut off
pub unfinished_step : (t : List ℕ) (b : Table) (store : ℕ) → is_unfinished t ≡ true → step_at t 0 b store ≡ stepped (Refused 1 0) b
unfolding is_unfinished
unfinished_step t b store = by_header (header_at t 0) refl
  where
    by_header : (h : Result (ℕ × ℕ) Refusal) → header_at t 0 ≡ h → cut_header h ≡ true → step_at t 0 b store ≡ stepped (Refused 1 0) b
    by_header (Ok (k, n)) e z = impossible (cc)
    by_header (Err n) e z = sym (step_at-bad t 0 CutOff b store (e ∙ ap Err (number-apart n CutOff (eqb-true (number n) 1 z))))

pub step_at-end : (t : List ℕ) (at k n : ℕ) (b : Table) (store : ℕ) → header_at t at ≡ Ok (k, n) → k ≡ 0 → end_step t at b ≡ step_at t at b store
unfolding step_at step_of
step_at-end t at k n b store h e = rw (h, eq-eqb k 0 e)

pub step_at-record : (t : List ℕ) (at k n : ℕ) (b : Table) (store : ℕ) → header_at t at ≡ Ok (k, n) → (k ≡ 0 → ⊥)
    → record_step k n (part n t at) b at store ≡ step_at t at b store
unfolding step_at step_of
step_at-record t at k n b store h e = rw (h, ne_eqb k 0 e)

pub step_at-drive : (t : List ℕ) (at k n : ℕ) (b : Table) (store : ℕ) → header_at t at ≡ Ok (k, n) → is_drive_kind k ≡ true
    → record_step k (length (part n t at)) (part n t at) b at store ≡ step_at t at b store
step_at-drive t at k n b store h d =
    ap (λ (m : ℕ). record_step k m (part n t at) b at store) (length_whole t at k n h) ∙ step_at-record t at k n b store h (kind-apart k 0 d refl)

pub step_at_bads : (t : List ℕ) (at k n : ℕ) (b : Table) (store : ℕ) → header_at t at ≡ Ok (k, n) → k ≡ 3
    → record_step 3 n (part n t at) b at store ≡ step_at t at b store
step_at_bads t at k n b store h e =
    (λ i. record_step (sym e i) n (part n t at) b at store) ∙ step_at-record t at k n b store h (λ z. omega arith)

pub step_at-parameters : (t : List ℕ) (at k n : ℕ) (b : Table) (store : ℕ) → header_at t at ≡ Ok (k, n) → (k ≡ 0 → ⊥) → is_drive_kind k ≡ false → (k ≡ 3 → ⊥)
    → record_step 4 20 (part n t at) b at store ≡ step_at t at b store
step_at-parameters t at k n b store h e f g =
    let l = length_ok-parameters k n (whole_at t at k n h).right e f g in
    (λ i. record_step (sym l.0 i) (sym l.1 i) (part n t at) b at store) ∙ step_at-record t at k n b store h e

-- a whole record that is taken, by what it says
pub drive-taken : (t : List ℕ) (at n : ℕ) (b : Table) (store : ℕ) (d : Drive) → DriveAt t at n → drive_of (part n t at) ≡ d → refusal b.count b.drives d store ≡ 0
    → stepped (Next (at + n)) (more b d) ≡ step_at t at b store
drive-taken t at n b store d h e z =
    let next = drive-next h.kind (part n t at) at b store h.drive (sym e) refl z refl ∙ step_at-drive t at h.kind n b store h.header h.drive in
    ap (λ (m : ℕ). stepped (Next (at + m)) (more b d)) (sym (length_whole t at h.kind n h.header)) ∙ next

pub attach_taken : (t : List ℕ) (at : ℕ) (b : Table) (store i : ℕ) (p : List ℕ) → header_at t at ≡ Ok (4, 20) → number_in (part 20 t at) ≡ i → parameters_in (part 20 t at) ≡ p
    → parameters_refusal b i ≡ 0 → stepped (Next (at + 20)) (with_parameters b i p) ≡ step_at t at b store
attach_taken t at b store i p h e q z =
    let l = length_whole t at 4 20 h in
    rw l at (parameters-next (part 20 t at) at b store l (sym e) (sym q) refl z refl)
    ∙ step_at-parameters t at 4 20 b store h (λ x. omega arith) refl (λ x. omega arith)

pub bads_taken : (t : List ℕ) (at n : ℕ) (b : Table) (store i : ℕ) (l : Bads) → header_at t at ≡ Ok (3, n) → number_in (part n t at) ≡ i → bads_in (part n t at) ≡ l
    → bads_refusal b i l ≡ 0 → stepped (Next (at + n)) (with_bads b i l) ≡ step_at t at b store
bads_taken t at n b store i l h e q z =
    let w = length_whole t at 3 n h in
    rw w at (bads_next (part n t at) at b store (sym e) (sym q) refl z refl) ∙ step_at_bads t at 3 n b store h refl

-- what the step of a record that is not the end record can be
record-cases : (P : Stepped → Type 0) (kind size : ℕ) (r : List ℕ) (b : Table) (at store : ℕ) → ((record_refusal kind r b store ≡ 0 → ⊥) → P (stepped (Refused (record_refusal kind r b store) at) b))
    → (record_refusal kind r b store ≡ 0 → P (stepped (Next (at + size)) (with_record kind r b))) → P (record_step kind size r b at store)
record-cases P kind size r b at store refuse next = by_refusal (eqb (record_refusal kind r b store) 0) refl
  where
    by_refusal : (x : Bool) → eqb (record_refusal kind r b store) 0 ≡ x → P (record_step kind size r b at store)
    by_refusal true e = let z = eqb-true _ _ e in rw (← record_step-next kind size r b at store refl z) (next z)
    by_refusal false e = let z = eqb-false _ _ e in rw (← record_step-refused kind size r b at store refl z) (refuse z)

-- each refusal is one of the nine
refusal_numbered : (n : ℕ) (l : List Drive) (d : Drive) (store : ℕ) → Numbered (refusal n l d store)
unfolding refusal
refusal_numbered n l d store =
    pick_numbered _ _ _ (number_numbered NinthDrive)
    (pick_numbered _ _ _ (number_numbered BadField)
    (pick_numbered _ _ _ (number_numbered PastStore)
    (pick_numbered _ _ _ (number_numbered Overlapping) none_numbered)))

parameters_numbered : (b : Table) (i : ℕ) → Numbered (parameters_refusal b i)
unfolding parameters_refusal
parameters_numbered b i = pick_numbered _ _ _ none_numbered (number_numbered NotLast)

bads_numbered : (b : Table) (i : ℕ) (l : Bads) → Numbered (bads_refusal b i l)
unfolding bads_refusal
bads_numbered b i l = pick_numbered _ _ _ (pick_numbered _ _ _ none_numbered (number_numbered BadField)) (number_numbered NotLast)

pub record_numbered : (kind : ℕ) (r : List ℕ) (b : Table) (store : ℕ) → Numbered (record_refusal kind r b store)
unfolding record_refusal
record_numbered kind r b store =
    pick_numbered _ _ _ (refusal_numbered b.count b.drives (drive_of r) store)
    (pick_numbered _ _ _ (bads_numbered b (number_in r) (bads_in r)) (parameters_numbered b (number_in r)))

-- what a step can be: one of the nine refusals, the end record with nothing after it, one more drive, or bad blocks or parameters for the last one
step_at-numbered : (P : Stepped → Type 0) (t : List ℕ) (at : ℕ) (b : Table) (store : ℕ)
    → ((n p : ℕ) → number (named n) ≡ n → P (stepped (Refused n p) b))
    → (header_at t at ≡ Ok (0, 4) → length t ≤ at + 4 → P (stepped Done b))
    → ((n : ℕ) → DriveAt t at n → refusal b.count b.drives (drive_of (part n t at)) store ≡ 0 → P (stepped (Next (at + n)) (more b (drive_of (part n t at)))))
    → ((n : ℕ) → header_at t at ≡ Ok (3, n) → bads_refusal b (number_in (part n t at)) (bads_in (part n t at)) ≡ 0
    → P (stepped (Next (at + n)) (with_bads b (number_in (part n t at)) (bads_in (part n t at)))))
    → (header_at t at ≡ Ok (4, 20) → parameters_refusal b (number_in (part 20 t at)) ≡ 0
    → P (stepped (Next (at + 20)) (with_parameters b (number_in (part 20 t at)) (parameters_in (part 20 t at)))))
    → P (step_at t at b store)
unfolding record_refusal with_record
step_at-numbered P t at b store refuse finish next list attach = by_header (header_at t at) refl
  where
    by_byte : header_at t at ≡ Ok (0, 4) → (x : Bool) → ltb (at + 4) (length t) ≡ x → P (end_step t at b)
    by_byte h true e = rw (← end_step-byte t at b (ltb-true (at + 4) (length t) e)) (refuse 8 (at + 4) refl)
    by_byte h false e = let l = ltb-false (at + 4) (length t) e in rw (← end_step-done t at b l) (finish h l)

    refuse_record : (k : ℕ) (r : List ℕ) → (record_refusal k r b store ≡ 0 → ⊥) → P (stepped (Refused (record_refusal k r b store) at) b)
    refuse_record k r z = refuse (record_refusal k r b store) at ((record_numbered k r b store).named z)

    by_kind : (k n : ℕ) → header_at t at ≡ Ok (k, n) → (x y z : Bool) → eqb k 0 ≡ x → is_drive_kind k ≡ y → eqb k 3 ≡ z → P (step_at t at b store)
    by_kind k n h true y u e f g =
        let z = eqb-true k 0 e in
        let l = length_ok-end k n (whole_at t at k n h).right z in
        rw (← step_at-end t at k n b store h z) (by_byte (rw (z, l) at h) (ltb (at + 4) (length t)) refl)
    by_kind k n h false true u e f g =
        rw (← step_at-record t at k n b store h (eqb-false k 0 e)) (record-cases P k n (part n t at) b at store (refuse_record k (part n t at))
        (λ z. rw (drive_with k (part n t at) b f) (next n record { kind = k; header = h; drive = f } (sym (drive-refusal k (part n t at) b store f) ∙ z))))
    by_kind k n h false false true e f g =
        let z = eqb-true k 3 g in
        rw (← step_at-record t at k n b store h (eqb-false k 0 e), z) (record-cases P 3 n (part n t at) b at store (refuse_record 3 (part n t at)) (list n (rw z at h)))
    by_kind k n h false false false e f g =
        let z = length_ok-parameters k n (whole_at t at k n h).right (eqb-false k 0 e) f (eqb-false k 3 g) in
        rw (← step_at-record t at k n b store h (eqb-false k 0 e), z.0, z.1) (record-cases P 4 20 (part 20 t at) b at store (refuse_record 4 (part 20 t at)) (attach (rw (z.0, z.1) at h)))

    by_header : (h : Result (ℕ × ℕ) Refusal) → header_at t at ≡ h → P (step_at t at b store)
    by_header (Err e) h = rw (← step_at-bad t at e b store h) (refuse (number e) at (ap number (named-number e)))
    by_header (Ok (k, n)) h = by_kind k n h (eqb k 0) (is_drive_kind k) (eqb k 3) refl refl refl

pub step_at-cases : (P : Stepped → Type 0) (t : List ℕ) (at : ℕ) (b : Table) (store : ℕ)
    → ((n p : ℕ) → P (stepped (Refused n p) b))
    → (header_at t at ≡ Ok (0, 4) → length t ≤ at + 4 → P (stepped Done b))
    → ((n : ℕ) → DriveAt t at n → refusal b.count b.drives (drive_of (part n t at)) store ≡ 0 → P (stepped (Next (at + n)) (more b (drive_of (part n t at)))))
    → ((n : ℕ) → header_at t at ≡ Ok (3, n) → bads_refusal b (number_in (part n t at)) (bads_in (part n t at)) ≡ 0
    → P (stepped (Next (at + n)) (with_bads b (number_in (part n t at)) (bads_in (part n t at)))))
    → (header_at t at ≡ Ok (4, 20) → parameters_refusal b (number_in (part 20 t at)) ≡ 0
    → P (stepped (Next (at + 20)) (with_parameters b (number_in (part 20 t at)) (parameters_in (part 20 t at)))))
    → P (step_at t at b store)
step_at-cases P t at b store refuse finish next list attach = step_at-numbered P t at b store (λ n p z. refuse n p) finish next list attach

-- a step that refuses, refuses with the number of one of the nine
pub step_at-named : (t : List ℕ) (at : ℕ) (b : Table) (store n p : ℕ) → (step_at t at b store).step ≡ Refused n p → number (named n) ≡ n
step_at-named t at b store n p =
    step_at-numbered (λ (s : Stepped). s.step ≡ Refused n p → number (named n) ≡ n) t at b store
    (λ m q z e. let x : m ≡ n = cc in rw x at z)
    (λ h l e. impossible (cc))
    (λ m h z e. impossible (cc))
    (λ m h z e. impossible (cc))
    (λ h z e. impossible (cc))

-- ---- a step in numbers

-- a record that is taken or refused
taken-numbers : {n : ℕ} (kind size : ℕ) (r : List ℕ) (b : Table) (at store : ℕ) → record_refusal kind r b store ≡ n → step_numbers (record_step kind size r b at store).step ≡ taken_numbers n at size
unfolding record_step step_numbers
taken-numbers {n} kind size r b at store e = by_test (eqb n 0) refl
  where
    by_test : (x : Bool) → eqb n 0 ≡ x → step_numbers (record_step kind size r b at store).step ≡ taken_numbers n at size
    by_test true q = rw (e, q)
    by_test false q = rw (e, q)

-- the refusals by word 4 of the record
parameters-number : (b : Table) (i : ℕ) → parameters_refusal b i ≡ pick (both (both (ltb i 8) (eqb (i + 1) b.count)) (not (has_parameters b i))) 0 9
unfolding parameters_refusal
parameters-number b i = rw (both_assoc (ltb i 8) (eqb (i + 1) b.count) (not (has_parameters b i)))

bads_number : (b : Table) (i : ℕ) (l : Bads)
    → bads_refusal b i l ≡ pick (both (both (ltb i 8) (eqb (i + 1) b.count)) (both (eqb (get_or b.counts i 0) 0) (not (has_parameters b i))))
    (pick (list_ok l (get_or b.drives i no_drive).blocks) 0 5) 9
unfolding bads_refusal
bads_number b i l =
    ap (λ (x : Bool). pick x (pick (list_ok l (get_or b.drives i no_drive).blocks) 0 5) 9)
    (by_tests (ltb i 8) (eqb (i + 1) b.count) (eqb (get_or b.counts i 0) 0) (has_parameters b i))
  where
    by_tests : (x y u v : Bool) → both x (both y (not (either (not u) v))) ≡ both (both x y) (both u (not v))
    by_tests false y u v = refl
    by_tests true false u v = refl
    by_tests true true true v = refl
    by_tests true true false v = refl

-- a whole record, by its kind
whole-numbers : (t : List ℕ) (at : ℕ) (b : Table) (store kind size : ℕ) → length_ok kind size ≡ true
    → step_numbers (step_of (Ok (kind, size)) t at b store).step ≡ whole_numbers t at b store kind size
unfolding step_numbers step_of end_step record_refusal
whole-numbers t at b store kind size right =
    ⊎_elim (λ x. rw x.0 (by_end (ltb (at + 4) (length t))))
    (λ y. ⊎_elim (λ x. rw (ne_eqb kind 0 (kind-apart kind 0 x.0 refl), x.0) (taken-numbers kind size (part size t at) b at store (drive-refusal kind (part size t at) b store x.0)))
    (λ z. ⊎_elim (λ x. rw x.0 (taken-numbers 3 size (part size t at) b at store
    (ap (λ (i : ℕ). bads_refusal b i (bads_in (part size t at))) (le-part 2 size t at 4 (omega (arith, bad_length_ok-least size x.1))) ∙ bads_number b (le 2 t (at + 4)) (bads_in (part size t at)))))
    (λ x. rw (x.0, x.1) (taken-numbers 4 20 (part 20 t at) b at store (ap (parameters_refusal b) (le-part 2 20 t at 4 (omega arith)) ∙ parameters-number b (le 2 t (at + 4))))) z) y)
    (length_ok-cases kind size right)
  where
    by_end : (x : Bool) → step_numbers (pick x (stepped (Refused 8 (at + 4)) b) (stepped Done b)).step ≡ pick x (8 ∷ (at + 4) ∷ []) (0 ∷ [])
    by_end true = refl
    by_end false = refl

-- no two answers have the same numbers
pub step-apart : (x y : Step) → step_numbers x ≡ step_numbers y → x ≡ y
unfolding step_numbers
step-apart (Next p) (Next q) e = cc
step-apart (Next p) Done e = impossible (cc)
step-apart (Next p) (Refused n q) e = impossible (cc)
step-apart Done (Next q) e = impossible (cc)
step-apart Done Done e = refl
step-apart Done (Refused n q) e = impossible (cc)
step-apart (Refused m p) (Next q) e = impossible (cc)
step-apart (Refused m p) Done e = impossible (cc)
step-apart (Refused m p) (Refused n q) e = cc

pub answer-apart : (x y : Result Unit RefusedAt) → answer_numbers x ≡ answer_numbers y → x ≡ y
unfolding answer_numbers
answer-apart (Ok x) (Ok y) e = refl
answer-apart (Ok x) (Err g) e = impossible (cc)
answer-apart (Err f) (Ok y) e = impossible (cc)
answer-apart (Err f) (Err g) e =
    let n : number f.refusal ≡ number g.refusal = cc in
    let r : f.refusal ≡ g.refusal = number-apart f.refusal g.refusal n in
    let p : f.place ≡ g.place = cc in
    λ i. Err (record { refusal = r i; place = p i })

pub written_apart : (x y : Result ℕ ShortBuffer) → written_numbers x ≡ written_numbers y → x ≡ y
unfolding written_numbers
written_apart (Ok m) (Ok n) e = cc
written_apart (Ok m) (Err f) e = impossible (cc)
written_apart (Err f) (Ok n) e = impossible (cc)
written_apart (Err f) (Err g) e = refl

pub step-numbers : (t : List ℕ) (at : ℕ) (b : Table) (store : ℕ) → step_numbers (step_at t at b store).step ≡ record_numbers t at b store
unfolding step_at header_at header_of record_numbers step_numbers step_of
step-numbers t at b store = by_tests (ltb (length t - at) 4) (is_kind (le 2 t (at + 2))) (length_ok (le 2 t (at + 2)) (le 2 t at)) (ltb (length t - at) (le 2 t at)) refl
  where
    by_tests : (a k l c : Bool) → length_ok (le 2 t (at + 2)) (le 2 t at) ≡ l
        → step_numbers (step_of (pick a (Err CutOff) (pick (not k) (Err UnknownKind) (pick (not l) (Err WrongLength) (pick c (Err CutOff) (Ok (le 2 t (at + 2), le 2 t at)))))) t at b store).step
        ≡ pick a (1 ∷ at ∷ []) (pick (not k) (3 ∷ at ∷ []) (pick (not l) (2 ∷ at ∷ []) (pick c (1 ∷ at ∷ []) (whole_numbers t at b store (le 2 t (at + 2)) (le 2 t at)))))
    by_tests true k l c e = refl
    by_tests false false l c e = refl
    by_tests false true false c e = refl
    by_tests false true true true e = refl
    by_tests false true true false e = whole-numbers t at b store (le 2 t (at + 2)) (le 2 t at) e

-- ---- where the reading stands

pub advanced-is : {r : Stepped} {p : ℕ} (t : List ℕ) (c : Cursor) (store : ℕ) → r ≡ step_at t c.at c.table store → p ≡ place_after r.step c.at
    → Advances t c store record { at = p; step = r.step; table = r.table }
unfolding advanced
advanced-is {r} t c store e q = record { cursor = rw (q, e); numbers = rw e (step-numbers t c.at c.table store) }

pub begun-is : {b : Table} → b ≡ empty_table → ◌≡◌ {A = Cursor} record { at = 0; step = Next 0; table = b } begun
begun-is e = rw e

-- ---- the reading

pub read_from_on : (left : ℕ) (t : List ℕ) (store at : ℕ) (b : Table) → 0 < left
    → go_on (step_at t at b store).step (step_at t at b store).table (read_from (left - 1) t store) ≡ read_from left t store at b
unfolding read_from
read_from_on zero t store at b l = absurd (omega arith)
read_from_on (suc k) t store at b l = rw sub-one

-- the reader's steps, one after another, are the reading
pub read_from-next : {d : Cursor} {n : ℕ} (left : ℕ) (t : List ℕ) (store : ℕ) (c : Cursor) → 0 < left → d ≡ advanced t c store → d.step ≡ Next n
    → read_from (left - 1) t store d.at d.table ≡ read_from left t store c.at c.table
unfolding advanced
read_from-next left t store c l e q = let s = rw e at q in rw (e, s) (rw s at (read_from_on left t store c.at c.table l))

pub read_from-zero : (k : ℕ) (t : List ℕ) (store at : ℕ) (b : Table) → k ≡ 0 → reading (Err (refused 4 at)) b ≡ read_from k t store at b
unfolding read_from
read_from-zero k t store at b e = rw e

-- what each record that is taken keeps holds at the end of a reading, which, where the table was accepted, is its end record
abbrev pub Kept : (ℕ → Table → Type 0) → List ℕ → Reading → Type 0
Kept I t r = (at : ℕ) × (I at r.table × (r.answer ≡ Ok tt → (header_at t at ≡ Ok (0, 4)) × (length t ≤ at + 4)))

pub read_keeps : (I : ℕ → Table → Type 0) (t : List ℕ) (store : ℕ)
    → ((at n : ℕ) (b : Table) → I at b → DriveAt t at n → refusal b.count b.drives (drive_of (part n t at)) store ≡ 0 → I (at + n) (more b (drive_of (part n t at))))
    → ((at n : ℕ) (b : Table) → I at b → header_at t at ≡ Ok (3, n) → bads_refusal b (number_in (part n t at)) (bads_in (part n t at)) ≡ 0
    → I (at + n) (with_bads b (number_in (part n t at)) (bads_in (part n t at))))
    → ((at : ℕ) (b : Table) → I at b → header_at t at ≡ Ok (4, 20) → parameters_refusal b (number_in (part 20 t at)) ≡ 0
    → I (at + 20) (with_parameters b (number_in (part 20 t at)) (parameters_in (part 20 t at))))
    → (k at : ℕ) (b : Table) → I at b → Kept I t (read_from k t store at b)
unfolding read_from
read_keeps I t store keep list attach zero at b i = (at, (i, λ q. impossible (cc)))
read_keeps I t store keep list attach (suc k) at b i =
    step_at-cases (λ (s : Stepped). Kept I t (go_on s.step s.table (read_from k t store))) t at b store
    (λ n p. (at, (i, λ q. impossible (cc))))
    (λ h l. (at, (i, λ q. (h, l))))
    (λ n h z. read_keeps I t store keep list attach k (at + n) (more b (drive_of (part n t at))) (keep at n b i h z))
    (λ n h z. read_keeps I t store keep list attach k (at + n) (with_bads b (number_in (part n t at)) (bads_in (part n t at))) (list at n b i h z))
    (λ h z. read_keeps I t store keep list attach k (at + 20) (with_parameters b (number_in (part 20 t at)) (parameters_in (part 20 t at))) (attach at b i h z))

-- ---- the reading in numbers

go_numbers : (s : Step) (b : Table) (f : ℕ → Table → Reading) → ((n at : ℕ) → s ≡ Refused n at → number (named n) ≡ n)
    → answer_numbers (go_on s b f).answer ≡ onward (step_numbers s) (λ (at : ℕ). answer_numbers (f at b).answer)
unfolding answer_numbers step_numbers
go_numbers (Next at) b f z = refl
go_numbers Done b f z = refl
go_numbers (Refused n at) b f z = ap (λ (m : ℕ). m ∷ at ∷ []) (z n at refl)

from_numbers : (k : ℕ) (t : List ℕ) (store at : ℕ) (b : Table) → answer_numbers (read_from k t store at b).answer ≡ numbers_from k t store at b
unfolding read_from numbers_from answer_numbers
from_numbers zero t store at b = refl
from_numbers (suc k) t store at b =
    go_numbers (step_at t at b store).step (step_at t at b store).table (read_from k t store) (step_at-named t at b store)
    ∙ ap (λ (l : List ℕ). onward l (λ (x : ℕ). answer_numbers (read_from k t store x (step_at t at b store).table).answer)) (step-numbers t at b store)
    ∙ (λ i. onward (record_numbers t at b store) (λ (x : ℕ). from_numbers k t store x (step_at t at b store).table i))

-- a reading promises its numbers too
pub reads-is : {r : Reading} (t : List ℕ) (store : ℕ) → r ≡ read_table t store → Reads t store r
unfolding read_table table_numbers
reads-is t store e = record { reading = e; numbers = ap (λ (x : Reading). answer_numbers x.answer) e ∙ from_numbers most_records t store 0 empty_table }

-- ---- the loop of a reading: what is left to read gives the whole reading

pub reads_first : {b : Table} (t : List ℕ) (store : ℕ) → b ≡ empty_table → read_from most_records t store 0 b ≡ read_table t store
unfolding read_table
reads_first t store e = rw e

module _ {r : Stepped} (left : ℕ) (t : List ℕ) (store at : ℕ) (b : Table) (l : 0 < left) (e : r ≡ step_at t at b store) where
  step_on : go_on r.step r.table (read_from (left - 1) t store) ≡ read_from left t store at b
  step_on = rw e (read_from_on left t store at b l)

  pub reads-next : {n : ℕ} → r.step ≡ Next n → read_from left t store at b ≡ read_table t store → read_from (left - 1) t store n r.table ≡ read_table t store
  reads-next q s = rw q at step_on ∙ s

  pub reads-done : r.step ≡ Done → read_from left t store at b ≡ read_table t store → Reads t store (reading (Ok tt) r.table)
  reads-done q s = reads-is t store (rw q at step_on ∙ s)

  pub reads-refused : {n place : ℕ} → r.step ≡ Refused n place → read_from left t store at b ≡ read_table t store → Reads t store (reading (Err (refused n place)) r.table)
  reads-refused q s = reads-is t store (rw q at step_on ∙ s)

pub reads_end : (left : ℕ) (t : List ℕ) (store at : ℕ) (b : Table) → left ≡ 0 → read_from left t store at b ≡ read_table t store → Reads t store (reading (Err (refused 4 at)) b)
reads_end left t store at b z s = reads-is t store (read_from-zero left t store at b z ∙ s)

-- ---- the numbers of a write

pub write-numbers : {r : Result ℕ ShortBuffer} (b : Table) (room : ℕ) → r ≡ write_answer b room → written_numbers r ≡ write_numbers b room
unfolding write_answer written_numbers write_numbers
write-numbers {r} b room e = ap written_numbers e ∙ by_test (ltb room (length (table_of b)))
  where
    by_test : (t : Bool) → written_numbers (pick t (Err (record {})) (Ok (length (table_of b)))) ≡ pick t (19 ∷ []) (0 ∷ length (table_of b) ∷ [])
    by_test true = refl
    by_test false = refl

-- ---- the bytes written

-- one slot more
pub records_of-more : (n : ℕ) (b : Table) → records_of (n + 1) b ≡ records_of n b ++ slot_records b n
unfolding records_of
records_of-more n b = rw add-one

pub length_more : (n : ℕ) (b : Table) → length (records_of (n + 1) b) ≡ length (records_of n b) + length (slot_records b n)
length_more n b = ap length (records_of-more n b) ∙ length-append (records_of n b) (slot_records b n)

-- the records of fewer slots are not longer
pub length_up : (i n : ℕ) (b : Table) → i < n → length (records_of (i + 1) b) ≤ length (records_of n b)
length_up i zero b h = absurd (omega arith)
length_up i (suc n) b h =
    let m : length (records_of (suc n) b) ≡ length (records_of n b) + length (slot_records b n) = rw add-one at (length_more n b) in
    ⊎_elim (λ x. omega (arith, m, length_up i n b x)) (λ (x : n ≤ i). let e : i + 1 ≡ suc n = omega arith in rw e (omega arith)) (lt_or_le i n)

-- one slot more in a buffer
pub sets_slot : (s : List ℕ) (b : Table) (i at : ℕ) → at ≡ length (records_of i b)
    → sets (sets s 0 (records_of i b)) at (slot_records b i) ≡ sets s 0 (records_of (i + 1) b)
sets_slot s b i at e = rw (records_of-more i b, sets-append s 0 (records_of i b) (slot_records b i), zero-add, e)

-- only the first n slots count
pub records_of_ext : (n : ℕ) (b c : Table) → ((i : ℕ) → i < n → slot_records b i ≡ slot_records c i) → records_of n b ≡ records_of n c
unfolding records_of
records_of_ext zero b c f = refl
records_of_ext (suc n) b c f = rw (f n (omega arith), records_of_ext n b c (λ i h. f i (omega arith)))

-- the record of bad blocks, by whether there are any
pub bads_record-none : (i : ℕ) (l : Bads) → l.count ≡ 0 → bads_record i l ≡ []
bads_record-none i l e = rw (eq-eqb l.count 0 e)

pub bads_record-some : (i : ℕ) (l : Bads) → (l.count ≡ 0 → ⊥) → bads_record i l ≡ bad_record i l
bads_record-some i l e = rw (ne_eqb l.count 0 e)

-- the records of a slot, by whether it has bad blocks and parameters
pub slot_bads : (b : Table) (i : ℕ) → has_parameters b i ≡ false → slot_records b i ≡ record_of (get_or b.drives i no_drive) ++ bads_record i (bads_at b i)
slot_bads b i e = rw e (ap (λ (x : List ℕ). record_of (get_or b.drives i no_drive) ++ x) (append-nil (bads_record i (bads_at b i))))

pub slot_bare : (b : Table) (i : ℕ) → get_or b.counts i 0 ≡ 0 → has_parameters b i ≡ false → slot_records b i ≡ record_of (get_or b.drives i no_drive)
slot_bare b i z e =
    slot_bads b i e ∙ ap (λ (x : List ℕ). record_of (get_or b.drives i no_drive) ++ x) (bads_record-none i (bads_at b i) z) ∙ append-nil (record_of (get_or b.drives i no_drive))

pub slot_parameters : (b : Table) (i : ℕ) → has_parameters b i ≡ true
    → slot_records b i ≡ (record_of (get_or b.drives i no_drive) ++ bads_record i (bads_at b i)) ++ parameters_record i (parameters_at b i)
slot_parameters b i e = rw e (sym (append_assoc (record_of (get_or b.drives i no_drive)) (bads_record i (bads_at b i)) (parameters_record i (parameters_at b i))))

pub length_slot_part : (l : List ℕ) (i : ℕ) → length l ≡ 112 → i < 8 → length (part 14 l (14 * i)) ≡ 14
length_slot_part l i e h = length-take-le 14 (drop (14 * i) l) (rw length-drop (omega arith))

pub length-parameters_at : (b : Table) (i : ℕ) → length b.parameters ≡ 112 → i < 8 → length (parameters_at b i) ≡ 14
length-parameters_at b i l h = length_slot_part b.parameters i l h

pub length_list_part : (l : List ℕ) (i : ℕ) → length l ≡ 1024 → i < 8 → length (part 128 l (128 * i)) ≡ 128
length_list_part l i e h = length-take-le 128 (drop (128 * i) l) (rw length-drop (omega arith))

-- the lengths of what follows a drive's record
pub length-bads_record : (i : ℕ) (l : Bads) → length l.list ≡ 128 → length (bads_record i l) ≡ pick (eqb l.count 0) 0 (bad_length (held_of l.count))
length-bads_record i l e = by_test (eqb l.count 0)
  where
    by_test : (x : Bool) → length (pick x [] (bad_record i l)) ≡ pick x 0 (bad_length (held_of l.count))
    by_test true = refl
    by_test false = length-bad_record i l e

pub length_bads_some : (i : ℕ) (l : Bads) → (l.count ≡ 0 → ⊥) → length l.list ≡ 128 → length (bads_record i l) ≡ bad_length (held_of l.count)
length_bads_some i l z e = ap length (bads_record-some i l z) ∙ length-bad_record i l e

pub length-parameters_of : (present : Bool) (i : ℕ) (p : List ℕ) → length p ≡ 14 → length (pick present (parameters_record i p) []) ≡ pick present 20 0
length-parameters_of true i p l = length-parameters_record i p l
length-parameters_of false i p l = refl

pub length-slot_bytes : (d : Drive) (l : Bads) (present : Bool) (i : ℕ) (p : List ℕ)
    → length (slot_bytes d l present i p) ≡ length (record_of d) + (length (bads_record i l) + length (pick present (parameters_record i p) []))
length-slot_bytes d l present i p = simp length-append

pub length_slot : (b : Table) (i : ℕ) → length b.parameters ≡ 112 → length b.bad ≡ 1024 → i < 8
    → length (slot_records b i)
    ≡ length (record_of (get_or b.drives i no_drive)) + (pick (eqb (get_or b.counts i 0) 0) 0 (bad_length (held_of (get_or b.counts i 0))) + pick (has_parameters b i) 20 0)
length_slot b i l m h =
    length-slot_bytes (get_or b.drives i no_drive) (bads_at b i) (has_parameters b i) i (parameters_at b i)
    ∙ rw (length-bads_record i (bads_at b i) (length_list_part b.bad i m h), length-parameters_of (has_parameters b i) i (parameters_at b i) (length-parameters_at b i l h))

-- which are not longer than those of sixteen bad blocks and parameters
pub attached_most : (n : ℕ) (present : Bool) → ◌≤◌ (pick (eqb n 0) 0 (bad_length (held_of n)) + pick present 20 0) 154
attached_most n present =
    pick-cases (λ (x : ℕ). x + pick present 20 0 ≤ 154) (eqb n 0) 0 (bad_length (held_of n))
    (λ e. pick-cases (λ (x : ℕ). 0 + x ≤ 154) present 20 0 (λ f. omega arith) (λ f. omega arith))
    (λ e. pick-cases (λ (x : ℕ). bad_length (held_of n) + x ≤ 154) present 20 0 (λ f. omega (arith, held-most n)) (λ f. omega (arith, held-most n)))

-- the record of bad blocks laid from a place on, as the code lays it
pub bads_unlaid : (l : Bads) (i : ℕ) (s : List ℕ) (at : ℕ) → l.count ≡ 0 → (s ≡ sets s at (bads_record i l)) × (at ≡ at + length (bads_record i l))
bads_unlaid l i s at z = rw (bads_record-none i l z) (refl, omega arith)

pub bads_laid : {o : List ℕ} {n : ℕ} (l : Bads) (i : ℕ) (s : List ℕ) (at : ℕ) → (l.count ≡ 0 → ⊥) → length l.list ≡ 128
    → o ≡ sets s at (bad_record i l) → n ≡ bad_length (held_of l.count) → (o ≡ sets s at (bads_record i l)) × (at + n ≡ at + length (bads_record i l))
bads_laid l i s at z w e n = (e ∙ ap (sets s at) (sym (bads_record-some i l z)), ap (λ (x : ℕ). at + x) (n ∙ sym (length_bads_some i l z w)))

-- room for the records of a slot is room for the first of them, and for all
pub slot_room : {r : List ℕ} {m : ℕ} (d : Drive) (l : Bads) (present : Bool) (i : ℕ) (p : List ℕ) (at : ℕ) → r ≡ record_of d
    → at + length (slot_bytes d l present i p) ≤ m → at + length r + length (bads_record i l) ≤ m
slot_room d l present i p at e h = omega (arith, length-slot_bytes d l present i p, ap length e)

pub slot_room_both : {r : List ℕ} {m : ℕ} (d : Drive) (l : Bads) (present : Bool) (i : ℕ) (p : List ℕ) (at : ℕ) → present ≡ true → r ≡ parameters_record i p
    → at + length (slot_bytes d l present i p) ≤ m → at + length (record_of d) + length (bads_record i l) + length r ≤ m
slot_room_both d l present i p at t e h =
    let x : length (pick present (parameters_record i p) []) ≡ length (parameters_record i p) = rw t in
    omega (arith, length-slot_bytes d l present i p, x, ap length e)

-- the records of a slot laid from a place on, as the code lays them
pub slot_laid : {o₁ o₂ r : List ℕ} {n m : ℕ} (d : Drive) (l : Bads) (present : Bool) (i : ℕ) (p s : List ℕ) (at : ℕ) → present ≡ false
    → r ≡ record_of d → n ≡ length (record_of d) → o₁ ≡ sets s at r → o₂ ≡ sets o₁ (at + n) (bads_record i l) → m ≡ at + n + length (bads_record i l)
    → (o₂ ≡ sets s at (slot_bytes d l present i p)) × (m ≡ at + length (slot_bytes d l present i p))
slot_laid d l present i p s at e q k w x y =
    let alone : slot_bytes d l present i p ≡ record_of d ++ bads_record i l = rw e (ap (λ (z : List ℕ). record_of d ++ z) (append-nil (bads_record i l))) in
    (rw (alone, x, w, q, k) (sym (sets-append s at (record_of d) (bads_record i l))), rw alone (omega (arith, length-append (record_of d) (bads_record i l), k, y)))

pub slot_laid_both : {o₁ o₂ o₃ r r₂ : List ℕ} {n m : ℕ} (d : Drive) (l : Bads) (present : Bool) (i : ℕ) (p s : List ℕ) (at : ℕ) → present ≡ true
    → r ≡ record_of d → n ≡ length (record_of d) → o₁ ≡ sets s at r → o₂ ≡ sets o₁ (at + n) (bads_record i l) → m ≡ at + n + length (bads_record i l)
    → r₂ ≡ parameters_record i p → o₃ ≡ sets o₂ m r₂ → length r₂ ≡ 20
    → (o₃ ≡ sets s at (slot_bytes d l present i p)) × (m + 20 ≡ at + length (slot_bytes d l present i p))
slot_laid_both {n = n} {m = m} d l present i p s at e q k w x y u v z =
    let c : List ℕ = bads_record i l in
    let g : List ℕ = parameters_record i p in
    let a : sets s at (record_of d ++ (c ++ g)) ≡ sets (sets (sets s at (record_of d)) (at + length (record_of d)) c) (at + length (record_of d) + length c) g =
    sets-append s at (record_of d) (c ++ g) ∙ sets-append (sets s at (record_of d)) (at + length (record_of d)) c g in (
      rw (e, v, x, w, q, u, y, k) (sym a),
      rw e (omega (arith, length-append (record_of d) (c ++ g), length-append c g, k, y, ap length u, z)),
    )

-- one slot more, as the code lays it
pub slot_next : {o : List ℕ} {r : ℕ} (s : List ℕ) (b : Table) (i at : ℕ) (o₀ : List ℕ) → length o₀ ≡ length s → o₀ ≡ sets s 0 (records_of i b) → at ≡ length (records_of i b)
    → o ≡ sets o₀ at (slot_records b i) → r ≡ at + length (slot_records b i)
    → (length o ≡ length s) × (o ≡ sets s 0 (records_of (i + 1) b)) × (r ≡ length (records_of (i + 1) b))
slot_next s b i at o₀ l w e x y = (
  ap length x ∙ length-sets o₀ at (slot_records b i) ∙ l,
  x ∙ rw w (sets_slot s b i at e),
  y ∙ omega (arith, length_more i b, e),
)

-- a table of eight slots holds as many drives as it counts, and at most eight
pub length-drives : (b : Table) → length b.drives ≡ 8 → length (drives_of b) ≡ min b.count 8
length-drives b l = rw (length-take b.count b.drives, l)

-- where the next record begins, as the code finds it, and the longest table
pub next-is : {m : ℕ} (b : Table) (n : ℕ) → length b.drives ≡ 8 → n ≡ min b.count 8 → m ≡ length (records_of n b) → m ≤ 230 * n → (m ≡ next_place b) × (m + 4 ≤ 1844)
unfolding next_place
next-is b n eight held all most = (all ∙ ap (λ (k : ℕ). length (records_of k b)) (held ∙ sym (length-drives b eight)), omega arith)

-- ---- the writer

-- the end record, as the code lays it
pub end-laid : {o₁ o₂ : List ℕ} (s : List ℕ) (at : ℕ) → o₁ ≡ sets s at (le_bytes 2 4) → o₂ ≡ sets o₁ (at + 2) (le_bytes 2 0) → o₂ ≡ sets s at end_record
end-laid s at e f = rw (f, e, sets-append s at (le_bytes 2 4) (le_bytes 2 0), length-le_bytes)

module _ (b : Table) (out : List ℕ) (n end : ℕ) (eight : length b.drives ≡ 8) (held : n ≡ min b.count 8) (all : end ≡ length (records_of n b)) where
  table-held : table_of b ≡ records_of n b ++ end_record
  unfolding table_of bytes_of
  table-held = rw (length-drives b eight, ← held)

  length-held : length (table_of b) ≡ end + 4
  length-held = rw table-held (simp (length-append, length-le_bytes) (omega arith))

  pub write_short : length out < end + 4 → (Err (record {}) ≡ write_answer b (length out)) × (out ≡ write_out b out)
  unfolding write_answer write_out
  write_short h =
      let t : ltb (length out) (length (table_of b)) ≡ true = lt-ltb (length out) (length (table_of b)) (rw length-held h) in
      (rw t, rw t)

  pub write_done : {o₁ o₂ : List ℕ} → end + 4 ≤ length out → o₁ ≡ sets out 0 (records_of n b) → o₂ ≡ sets o₁ end end_record
      → (Ok (end + 4) ≡ write_answer b (length out)) × (o₂ ≡ write_out b out)
  unfolding write_answer write_out
  write_done {o₁} {o₂} h e₁ e₂ =
      let t : ltb (length out) (length (table_of b)) ≡ false = le-ltb (length out) (length (table_of b)) (rw length-held h) in
      let whole : sets out 0 (table_of b) ≡ o₂ = rw (table-held, sets-append out 0 (records_of n b) end_record, zero-add, ← all, e₂, e₁) in
      (rw (t, length-held), rw t (sym whole ∙ sets_front out (table_of b) (rw length-held h)))

-- ---- a table that obeys the rules

-- a drive is taken where it obeys the rules and overlaps none of those before it
pub taken_is : (i : ℕ) (l : List Drive) (d : Drive) (store : ℕ) → i < 8
    → both (both (fields_ok d) (in_store d store)) (not (overlaps_any i l d)) ≡ eqb (refusal i l d store) 0
unfolding refusal
taken_is i l d store h = rw (lt-leb 8 i h) (go (fields_ok d) (in_store d store) (overlaps_any i l d))
  where
    go : (f s o : Bool) → both (both f s) (not o) ≡ eqb (pick (not f) bad_field (pick (not s) past_store (pick o overlapping 0))) 0
    go false s o = refl
    go true false o = refl
    go true true true = refl
    go true true false = refl
