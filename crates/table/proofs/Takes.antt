-- A record taken into a table in place, and the loop that takes all of them: what the code finds is the step of the record.
-- Assumes nothing.
use Rattle.std.specs.List.{list_any}
use Rattle.std.specs.Prelude.{Result, Ok, Err, Option, Some, None}
use mathlib.Core.Path.{◌≡◌, refl, sym, ap, ◌∙◌}
use mathlib.Core.Bool.{Bool, true, false, not}
use mathlib.Core.List.{List, [], ◌∷◌}
use mathlib.Core.Logic.{⊎_elim}
use Prim.Native.Nat.{ℕ, ◌+◌, ◌-◌, ◌*◌, ◌≤◌, ◌<◌}
use native.Mathlib.Decide.{ℕ_discrete}
use native.Mathlib.Omega.{arith}
use lib.ListN.{length, get_or, set, take, drop, replicate, length-drop}
use lib.Pointwise.{pointwise}
use lib.Seq.{sets, length-take-le, get_or-take, get_or-drop}
use lib.Dec.{ltb, eqb}
use borrow.Author.Tests.{ltb-true, ltb-false, ne_eqb}
use Rattle.logic.specs.Logic.{pick, both, all_below, some_below}
use Rattle.logic.proofs.LogicLaws.{impossible, both_assoc, all_ext, some_ext, all_front, some_front, and_both, or_either}
use Rattle.words.specs.Words.{part}
use Rattle.drive.specs.declared.Drive.{Drive}
use Rattle.drive.specs.Drive.{is_drive_kind, drive_of, overlap}
use Rattle.attached.specs.Parameters.{number_in, parameters_in}
use Rattle.attached.specs.declared.Bads.{Bads}
use Rattle.attached.specs.Bad.{bads_in, list_ok}
use Rattle.attached.proofs.BadLaws.{bad_length_ok-least, bad_length_ok-most}
use Rattle.table.specs.declared.Table.{Table}
use Rattle.table.specs.declared.Refusal.{Refusal}
use Rattle.table.specs.declared.Refusal.TheVariants.{ByteFollows, NotLast}
use Rattle.table.specs.declared.Refused.{Refused as RefusedAt}
use Rattle.table.specs.declared.Step.TheVariants.{Done}
use Rattle.table.specs.Table.{number, no_drive, taken_at, sound_to, header_at, overlaps_any, refusal, more, has_parameters, stepped, record_refusal, with_record, step_found, WholeRecord, Takes, step_at, reading, read_from, read_table, Reads, end_answer}
use Rattle.table.proofs.TableLaws.{kind-cases, number_some, named-number, length_ok-least, whole_at, length_whole, le-part, length_ok-end, length_ok-bad, step_at-bad, step_at-end, step_at-record, end_step-byte, end_step-done, record_step-next, record_step-refused, drive-refusal, drive_with, parameters-none, parameters_nine, bads_nine, bads_named, reads-next, reads-done, reads-refused}

-- ---- what the library says of `any` over a slice, and of `==` with an array of zeros

pub slice_any : {A : Type 0} (f : A → Bool) (d : A) (l : List A) → list_any f l ≡ some_below (length l) (λ i. f (get_or l i d))
slice_any f d [] = refl
slice_any f d (x ∷ l) = rw (slice_any f d l, or_either) (sym (some_front (length l) (λ i. f (get_or (x ∷ l) i d))))

zeros_test : (l : List ℕ) → pointwise eqb l (replicate (length l) 0) ≡ all_below (length l) (λ j. eqb (get_or l j 0) 0)
zeros_test [] = refl
zeros_test (x ∷ l) = rw (zeros_test l, and_both) (sym (all_front (length l) (λ j. eqb (get_or (x ∷ l) j 0) 0)))

-- fourteen zeros from a place
pub zeros_part : (l : List ℕ) (at : ℕ) → at + 14 ≤ length l → pointwise eqb (part 14 l at) (replicate 14 0) ≡ all_below 14 (λ j. eqb (get_or l (at + j) 0) 0)
zeros_part l at h =
    let e : length (part 14 l at) ≡ 14 = length-take-le 14 (drop at l) (rw length-drop (omega arith)) in
    rw e at (zeros_test (part 14 l at))
    ∙ all_ext 14 (λ j. eqb (get_or (part 14 l at) j 0) 0) (λ j. eqb (get_or l (at + j) 0) 0) (λ j q. rw (get_or-take 14 (drop at l) j 0 q, get_or-drop at l j 0))

-- ---- drives lent as a part of all

-- among the first n of a list
overlaps_front : (i n : ℕ) (l : List Drive) (d : Drive) → i ≤ n → overlaps_any i (take n l) d ≡ overlaps_any i l d
unfolding overlaps_any
overlaps_front i n l d h =
    some_ext i (λ j. overlap d (get_or (take n l) j no_drive)) (λ j. overlap d (get_or l j no_drive)) (λ j q. rw (get_or-take n l j no_drive (omega arith)))

pub overlaps_take : (n : ℕ) (l : List Drive) (d : Drive) → n ≤ length l → overlaps_any (length (take n l)) (take n l) d ≡ overlaps_any n l d
overlaps_take n l d h = rw (length-take-le n l h) (overlaps_front n n l d (omega arith))

-- all of the first n
pub sound_take : (n : ℕ) (l : List Drive) (store : ℕ) → n ≤ length l → sound_to (length (take n l)) (take n l) store ≡ sound_to n l store
unfolding sound_to refusal
sound_take n l store h =
    rw (length-take-le n l h) (all_ext n (taken_at (take n l) store) (taken_at l store)
    (λ i q. rw (get_or-take n l i no_drive q, overlaps_front i n l (get_or l i no_drive) (omega arith))))

-- the tests of a table, as `&&` joins them
pub sound_chain : {v w : Bool} (s b a l : Bool) → v ≡ both s b → w ≡ both v a → both w l ≡ both s (both b (both a l))
sound_chain s b a l p q = rw (q, p) (both_assoc (both s b) a l ∙ both_assoc s b (both a l))

-- ---- a record, by its kind

pub takes_refused : {e : Refusal} (kind : ℕ) (r : List ℕ) (b : Table) (store : ℕ) → number e ≡ record_refusal kind r b store → Takes kind r b store (Err e) b
takes_refused {e} kind r b store h = record { answers = h; drives = rw (← h, ne_eqb (number e) 0 (number_some e)) }

pub takes_next : {a : Table} (kind : ℕ) (r : List ℕ) (b : Table) (store : ℕ) → 0 ≡ record_refusal kind r b store → a ≡ with_record kind r b → Takes kind r b store (Ok tt) a
takes_next kind r b store h e = record { answers = h; drives = rw (← h) e }

module _ (r : List ℕ) (b : Table) (store : ℕ) where
  module _ {d : Drive} {n : ℕ} (k : ℕ) (w : is_drive_kind k ≡ true) (e : d ≡ drive_of r) (q : n ≡ refusal b.count b.drives d store) where
    drive_among : n ≡ record_refusal k r b store
    drive_among = rw e at q ∙ sym (drive-refusal k r b store w)

    pub drive_refused : {f : Refusal} → number f ≡ n → Takes k r b store (Err f) b
    drive_refused x = takes_refused k r b store (x ∙ drive_among)

    pub drive_takes : 0 ≡ n → Takes k r b store (Ok tt) (more b d)
    drive_takes x = takes_next k r b store (x ∙ drive_among) (rw e (sym (drive_with k r b w)))

  module _ {i : ℕ} {a : Bool} (e : i ≡ number_in r) (q : a ≡ both (ltb i 8) (both (eqb (i + 1) b.count) (not (has_parameters b i)))) where
    pub bads_other : a ≡ false → Takes 3 r b store (Err NotLast) b
    unfolding record_refusal
    bads_other x = takes_refused 3 r b store (rw (← e) (bads_nine b i (bads_in r) q x))

    module _ {l : Bads} {n : ℕ} (x : a ≡ true) (w : l ≡ bads_in r) (o : n ≡ pick (eqb (get_or b.counts i 0) 0) (pick (list_ok l (get_or b.drives i no_drive).blocks) 0 5) 9) where
      listed : n ≡ record_refusal 3 r b store
      unfolding record_refusal
      listed = rw (← e, ← w) (o ∙ bads_named b i l q x)

      pub bads_refused_in : {f : Refusal} → number f ≡ n → Takes 3 r b store (Err f) b
      bads_refused_in y = takes_refused 3 r b store (y ∙ listed)

      pub bads_takes : {p : List ℕ} → 0 ≡ n → p ≡ sets b.bad (128 * i) l.list
          → Takes 3 r b store (Ok tt) (record { drives = b.drives; count = b.count; present = b.present; parameters = b.parameters; counts = set b.counts i l.count; bad = p })
      unfolding with_record
      bads_takes y z = takes_next 3 r b store (y ∙ listed) (rw (z, ← e, ← w))

    pub parameters_other : a ≡ false → Takes 4 r b store (Err NotLast) b
    unfolding record_refusal
    parameters_other x = takes_refused 4 r b store (rw (← e) (parameters_nine b i q x))

    pub parameters_takes : {y p : List ℕ} → a ≡ true → y ≡ parameters_in r → p ≡ sets b.parameters (14 * i) y
        → Takes 4 r b store (Ok tt) (record { drives = b.drives; count = b.count; present = set b.present i true; parameters = p; counts = b.counts; bad = b.bad })
    unfolding record_refusal with_record
    parameters_takes x w z = takes_next 4 r b store (rw (← e) (parameters-none b i q x)) (rw (z, w, ← e))

-- a record of bad blocks has room for its numbers
pub whole_bads : (kind : ℕ) (r : List ℕ) → WholeRecord kind r → kind ≡ 3 → (6 ≤ length r) × (length r ≤ 134)
whole_bads kind r w e =
    let g = length_ok-bad kind (length r) w.right e in
    (omega (arith, bad_length_ok-least (length r) g), bad_length_ok-most (length r) g)

-- ---- a record at a place

module _ (t : List ℕ) (at : ℕ) (b : Table) (store : ℕ) where
  pub found_bad : {e : Refusal} → header_at t at ≡ Err e → stepped (step_found (Err (record { refusal = e; place = at }))) b ≡ step_at t at b store
  found_bad {e} h = step_at-bad t at e b store h

  module _ {k n : ℕ} (h : header_at t at ≡ Ok (k, n)) where
    pub found_inside : at + n ≤ length t
    found_inside = let w = whole_at t at k n h in omega (arith, w.whole, w.header)

    module _ (z : k ≡ 0) where
      four : n ≡ 4
      four = length_ok-end k n (whole_at t at k n h).right z

      pub found_byte : {f : RefusedAt} → Err f ≡ end_answer (at + n) (length t) → stepped (step_found (Err f)) b ≡ step_at t at b store
      unfolding end_answer
      found_byte {f} e = by_byte (ltb (at + 4) (length t)) refl (rw four at e)
        where
          by_byte : (x : Bool) → ltb (at + 4) (length t) ≡ x → ◌≡◌ {A = Result Unit RefusedAt} (Err f) (end_answer (at + 4) (length t)) → stepped (step_found (Err f)) b ≡ step_at t at b store
          by_byte true q y =
              let y' : ◌≡◌ {A = Result Unit RefusedAt} (Err f) (Err (record { refusal = ByteFollows; place = at + 4 })) = rw q at y in
              let p : f ≡ record { refusal = ByteFollows; place = at + 4 } = cc in
              rw p (end_step-byte t at b (ltb-true (at + 4) (length t) q) ∙ step_at-end t at k n b store h z)
          by_byte false q y = let y' : ◌≡◌ {A = Result Unit RefusedAt} (Err f) (Ok tt) = rw q at y in impossible (cc)

      pub found_end : Ok tt ≡ end_answer (at + n) (length t) → stepped (step_found (Ok None)) b ≡ step_at t at b store
      unfolding end_answer
      found_end e = by_byte (ltb (at + 4) (length t)) refl (rw four at e)
        where
          by_byte : (x : Bool) → ltb (at + 4) (length t) ≡ x → ◌≡◌ {A = Result Unit RefusedAt} (Ok tt) (end_answer (at + 4) (length t)) → stepped Done b ≡ step_at t at b store
          by_byte true q y = let y' : ◌≡◌ {A = Result Unit RefusedAt} (Ok tt) (Err (record { refusal = ByteFollows; place = at + 4 })) = rw q at y in impossible (cc)
          by_byte false q y = end_step-done t at b (ltb-false (at + 4) (length t) q) ∙ step_at-end t at k n b store h z

    module _ (z : k ≡ 0 → ⊥) where
      pub found_whole : WholeRecord k (part n t at)
      found_whole =
          let w = whole_at t at k n h in
          record { other = z; word = le-part 2 n t at 2 (omega (arith, (length_ok-least k n w.right).0)) ∙ w.same; right = rw (length_whole t at k n h) w.right }

      pub found_refused : {e : Refusal} {a : Table} → Takes k (part n t at) b store (Err e) a → stepped (step_found (Err (record { refusal = e; place = at }))) a ≡ step_at t at b store
      found_refused {e} s =
          rw (s.drives, ← s.answers, ne_eqb (number e) 0 (number_some e)) (record_step-refused k n (part n t at) b at store s.answers (number_some e)) ∙ step_at-record t at k n b store h z

      pub found_next : {u : Unit} {a : Table} → Takes k (part n t at) b store (Ok u) a → stepped (step_found (Ok (Some (at + n)))) a ≡ step_at t at b store
      found_next s = rw (s.drives, ← s.answers) (record_step-next k n (part n t at) b at store s.answers refl) ∙ step_at-record t at k n b store h z

-- ---- the loop of a reading: what is left to read gives the whole reading

module _ {found : Result (Option ℕ) RefusedAt} {a : Table} (left : ℕ) (t : List ℕ) (store at : ℕ) (b : Table) (l : 0 < left)
    (e : stepped (step_found found) a ≡ step_at t at b store) (s : read_from left t store at b ≡ read_table t store) where
  pub loop_next : {next : ℕ} → found ≡ Ok (Some next) → read_from (left - 1) t store next a ≡ read_table t store
  loop_next q = reads-next left t store at b l e (ap step_found q) s

  pub loop_done : found ≡ Ok None → Reads t store (reading (Ok tt) a)
  loop_done q = reads-done left t store at b l e (ap step_found q) s

  pub loop_refused : {f : RefusedAt} → found ≡ Err f → Reads t store (reading (Err f) a)
  loop_refused {f} q = rw named-number at (reads-refused left t store at b l e (ap step_found q) s)

-- a header that is not whole ends it with its refusal, and the end record with the answer there
module _ (left : ℕ) (t : List ℕ) (store at : ℕ) (b : Table) (l : 0 < left) (s : read_from left t store at b ≡ read_table t store) where
  pub header_reads : {e : Refusal} → header_at t at ≡ Err e → Reads t store (reading (Err (record { refusal = e; place = at })) b)
  header_reads {e} h = rw named-number at (reads-refused left t store at b l (step_at-bad t at e b store h) refl s)

  module _ {k n : ℕ} (h : header_at t at ≡ Ok (k, n)) where
    pub end_reads : {a : Result Unit RefusedAt} → k ≡ 0 → a ≡ end_answer (at + n) (length t) → Reads t store (reading a b)
    unfolding end_answer
    end_reads z e =
        let four : n ≡ 4 = length_ok-end k n (whole_at t at k n h).right z in
        rw (e, four) (by_byte (ltb (at + 4) (length t)) refl)
      where
        by_byte : (x : Bool) → ltb (at + 4) (length t) ≡ x → Reads t store (reading (end_answer (at + 4) (length t)) b)
        by_byte true q = rw q (reads-refused left t store at b l (end_step-byte t at b (ltb-true (at + 4) (length t) q) ∙ step_at-end t at k n b store h z) refl s)
        by_byte false q = rw q (reads-done left t store at b l (end_step-done t at b (ltb-false (at + 4) (length t) q) ∙ step_at-end t at k n b store h z) refl s)

    -- a drive's record ends it with its refusal, or what is left to read gives the whole reading from the drive on
    module _ {d : Drive} {m : ℕ} (z : is_drive_kind k ≡ true) (e : d ≡ drive_of (part n t at)) (q : m ≡ refusal b.count b.drives d store) where
      no_end : k ≡ 0 → ⊥
      no_end w = ⊎_elim (λ x. omega arith) (λ x. omega arith) (kind-cases k z)

      pub drive-reads : {f : Refusal} → number f ≡ m → Reads t store (reading (Err (record { refusal = f; place = at })) b)
      drive-reads x = loop_refused left t store at b l (found_refused t at b store h no_end (drive_refused (part n t at) b store k z e q x)) s refl

      pub drive_stands : m ≡ 0 → read_from (left - 1) t store (at + n) (more b d) ≡ read_table t store
      drive_stands x = loop_next left t store at b l (found_next t at b store h no_end (drive_takes (part n t at) b store k z e q (sym x))) s refl

    -- and a record that belongs to a drive, but not to the last one read, ends it with 9
    module _ {i : ℕ} {a : Bool} (e : i ≡ number_in (part n t at)) (q : a ≡ both (ltb i 8) (both (eqb (i + 1) b.count) (not (has_parameters b i)))) where
      pub attached_reads : (k ≡ 0 → ⊥) → is_drive_kind k ≡ false → a ≡ false → Reads t store (reading (Err (record { refusal = NotLast; place = at })) b)
      unfolding record_refusal
      attached_reads z z' x = loop_refused left t store at b l (found_refused t at b store h z {e = NotLast} (takes_refused k (part n t at) b store (by_kind (ℕ_discrete k 3)))) s refl
        where
          by_kind : Dec (k ≡ 3) → 9 ≡ record_refusal k (part n t at) b store
          by_kind (yes y) = rw (y, ← e) (bads_nine b i (bads_in (part n t at)) q x)
          by_kind (no y) = rw (z', ne_eqb k 3 y, ← e) (parameters_nine b i q x)
