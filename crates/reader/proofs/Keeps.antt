-- A reader that is accepted stays so: opened, fed any bytes, and told the end.
-- Assumes nothing.
use Prim.Native.Nat.{ℕ, zero, suc, ◌+◌, ◌-◌, ◌^◌, ◌≤◌, ◌<◌}
use native.Mathlib.Decide.{ℕ_discrete}
use native.Mathlib.Omega.{arith}
use mathlib.Core.Path.{◌≡◌, refl, sym, ap, ◌∙◌}
use mathlib.Core.Logic.{⊎_elim}
use mathlib.Core.Bool.{Bool, true, false, not}
use mathlib.Core.List.{List, [], ◌∷◌}
use lib.ListN.{length, get_or, set, take, replicate, length-set}
use lib.Seq.{length-take-le, get_or-set_same, get_or-set_other, set_out}
use lib.Dec.{leb, ltb, eqb}
use borrow.Author.Tests.{le-leb, lt-ltb, le-ltb, ltb-true, eqb-true}
use Rattle.logic.specs.Logic.{pick, both, either, in_range}
use Rattle.logic.proofs.LogicLaws.{both_intro, either_left, either_right, impossible, in_range_true, lt_or_le, pick-cases, all_at, all_intro}
use Rattle.words.specs.Words.{Bytes, le, part}
use Rattle.words.proofs.WordsLaws.{bytes-part}
use Rattle.drive.specs.declared.Drive.{Drive}
use Rattle.drive.specs.Drive.{drive_of, fields_ok, in_store, is_drive_kind}
use Rattle.attached.specs.Bad.{bads_in, list_ok}
use Rattle.table.specs.declared.Table.{Table}
use Rattle.table.specs.declared.Step.{Step}
use Rattle.table.specs.declared.Step.TheVariants.{Next, Done, Refused as StepRefused}
use Rattle.table.specs.declared.Stepped.{Stepped}
use Rattle.table.specs.Table.{is_kind, length_ok, header_of, header_at, no_drive, overlaps_any, refusal_by, refusal, step_of, step_at, empty_table, is_sound, step_numbers, taken_numbers, names_last, whole_numbers, record_numbers}
use Rattle.table.specs.Demand2.{Widths}
use Rattle.table.proofs.TableLaws.{length_ok-most, step-numbers}
use Rattle.feed.specs.declared.Course.{Course}
use Rattle.feed.specs.declared.Course.TheVariants.{Reading, Closed, Accepted, Refused}
use Rattle.feed.specs.declared.Feed.{Feed}
use Rattle.feed.specs.Feed.{nothing, opened, cleared, held_with, holding, after_step, held_byte, by_course, feed_byte, feed_all, end_by, end_feed}
use Rattle.reader.specs.Reader.{is_cut, rest_zero, course_ok, accept, FitsReader}
use Rattle.reader.proofs.Tables.{step_keeps, empty_keeps}
use Rattle.reader.proofs.Exact.{Rules, accept_rules, rules_accept}

-- ---- the refusals of a step: 1 to 9, and 1 only of fewer bytes than the longest record

-- what numbers say of it, if they are those of a refusal
abbrev Fine : ℕ → List ℕ → Type 0
Fine left l = (n at : ℕ) → l ≡ n ∷ at ∷ [] → (in_range n 1 9 ≡ true) × (n ≡ 1 → left < 134)

fine_refused : (left m p : ℕ) → 1 ≤ m → m ≤ 9 → (m ≡ 1 → left < 134) → Fine left (m ∷ p ∷ [])
fine_refused left m p l h f n at e =
    let x : m ≡ n = cc in
    (both_intro _ _ (le-leb 1 n (omega arith)) (le-leb n 9 (omega arith)), λ q. f (x ∙ q))

-- the refusal of a whole record is none, or 4 to 9
abbrev Late : ℕ → Type 0
Late n = either (eqb n 0) (in_range n 4 9) ≡ true

late_drive : (n : ℕ) (o : Bool) (d : Drive) (store : ℕ) → Late (refusal_by n o d store)
late_drive n o d store = by_tests (leb 8 n) (fields_ok d) (in_store d store) o
  where
    by_tests : (a f i o : Bool) → Late (pick a 4 (pick (not f) 5 (pick (not i) 6 (pick o 7 0))))
    by_tests true f i o = refl
    by_tests false false i o = refl
    by_tests false true false o = refl
    by_tests false true true true = refl
    by_tests false true true false = refl

late_fine : (left n at size : ℕ) → Late n → Fine left (taken_numbers n at size)
late_fine left n at size l = by_test (eqb n 0) refl
  where
    by_test : (x : Bool) → eqb n 0 ≡ x → Fine left (pick x (0 ∷ 1 ∷ (at + size) ∷ []) (n ∷ at ∷ []))
    by_test true z = λ m p e. impossible (cc)
    by_test false z =
        let r = in_range_true n 4 9 (rw z at l) in
        fine_refused left n at (omega (arith, r.0)) r.1 (λ e. absurd (omega (arith, r.0)))

module _ (t : List ℕ) (at : ℕ) (b : Table) (store : ℕ) where
  fine_whole : (left kind size : ℕ) → Fine left (whole_numbers t at b store kind size)
  unfolding refusal
  fine_whole left kind size =
      let d = drive_of (part size t at) in
      let number = le 2 t (at + 4) in
      let last : Bool = names_last t at b in
      let marked : Bool = get_or b.present number false in
      let free : Bool = both last (both (eqb (get_or b.counts number 0) 0) (not marked)) in
      let good : Bool = list_ok (bads_in (part size t at)) (get_or b.drives number no_drive).blocks in
      pick-cases (Fine left) (eqb kind 0) _ _
      (λ e. pick-cases (Fine left) (ltb (at + 4) (length t)) _ _
      (λ x. fine_refused left 8 (at + 4) (omega arith) (omega arith) (λ q. absurd (omega arith)))
      (λ x n p q. impossible (cc)))
      (λ e. pick-cases (Fine left) (is_drive_kind kind) _ _
      (λ x. late_fine left (refusal b.count b.drives d store) at size (late_drive b.count (overlaps_any b.count b.drives d) d store))
      (λ x. pick-cases (Fine left) (eqb kind 3) _ _
      (λ y. late_fine left (pick free (pick good 0 5) 9) at size
      (pick-cases Late free (pick good 0 5) 9 (λ z. pick-cases Late good 0 5 (λ w. refl) (λ w. refl)) (λ z. refl)))
      (λ y. late_fine left (pick (both last (not marked)) 0 9) at 20 (pick-cases Late (both last (not marked)) 0 9 (λ z. refl) (λ z. refl)))))

  fine_numbers : Fine (length t - at) (record_numbers t at b store)
  unfolding record_numbers
  fine_numbers = by_tests (ltb (length t - at) 4) (is_kind (le 2 t (at + 2))) (length_ok (le 2 t (at + 2)) (le 2 t at)) (ltb (length t - at) (le 2 t at)) refl refl refl
    where
      by_tests : (a k l c : Bool) → ltb (length t - at) 4 ≡ a → length_ok (le 2 t (at + 2)) (le 2 t at) ≡ l → ltb (length t - at) (le 2 t at) ≡ c
          → Fine (length t - at) (pick a (1 ∷ at ∷ []) (pick (not k) (3 ∷ at ∷ []) (pick (not l) (2 ∷ at ∷ []) (pick c (1 ∷ at ∷ []) (whole_numbers t at b store (le 2 t (at + 2)) (le 2 t at))))))
      by_tests true k l c e q r = fine_refused _ 1 at (omega arith) (omega arith) (λ x. omega (arith, ltb-true (length t - at) 4 e))
      by_tests false false l c e q r = fine_refused _ 3 at (omega arith) (omega arith) (λ x. absurd (omega arith))
      by_tests false true false c e q r = fine_refused _ 2 at (omega arith) (omega arith) (λ x. absurd (omega arith))
      by_tests false true true true e q r =
          fine_refused _ 1 at (omega arith) (omega arith) (λ x. omega (arith, ltb-true (length t - at) (le 2 t at) r, length_ok-most (le 2 t (at + 2)) (le 2 t at) q))
      by_tests false true true false e q r = fine_whole (length t - at) (le 2 t (at + 2)) (le 2 t at)

  step_fine : (n p : ℕ) → (step_at t at b store).step ≡ StepRefused n p → (in_range n 1 9 ≡ true) × (n ≡ 1 → length t - at < 134)
  unfolding step_numbers
  step_fine n p e = fine_numbers n p (sym (step-numbers t at b store) ∙ ap step_numbers e)

-- ---- a reader that holds nothing

-- what is kept
pub record Good (f : Feed) : Type 0 where
  pub fits : FitsReader f
  pub accepted : accept f ≡ true

bytes_zeros : (n : ℕ) → Bytes (replicate n 0)
bytes_zeros zero i = omega arith
bytes_zeros (suc n) zero = omega arith
bytes_zeros (suc n) (suc i) = bytes_zeros n i

zeros_rest : rest_zero nothing 0 ≡ true
unfolding rest_zero
zeros_rest = refl

abbrev fresh : ℕ → Table → Course → Feed
fresh store b c = record { table = b; store = store; held = nothing; filled = 0; course = c }

fresh_good : (store : ℕ) (b : Table) (c : Course) → store < 256 ^ 8 → Widths b → is_sound b store ≡ true → course_ok c (fresh store b c) ≡ true → Good (fresh store b c)
fresh_good store b c l w s k =
    record {
      fits = record { table = w; store = l; held = refl; bytes = bytes_zeros 134 };
      accepted = rules_accept (fresh store b c) (record { sound = s; rest = zeros_rest; course = k });
    }

-- no byte at all is a record that is cut off
fresh_reads : (store : ℕ) (b : Table) → course_ok Reading (fresh store b Reading) ≡ true
unfolding course_ok step_at header_at header_of step_of
fresh_reads store b = refl

fresh_refuses : (store : ℕ) (b : Table) (n : ℕ) → in_range n 1 9 ≡ true → course_ok (Refused n) (fresh store b (Refused n)) ≡ true
unfolding course_ok
fresh_refuses store b n e = e

fresh_closed : (store : ℕ) (b : Table) → course_ok Closed (fresh store b Closed) ≡ true
unfolding course_ok
fresh_closed store b = refl

fresh_accepted : (store : ℕ) (b : Table) → course_ok Accepted (fresh store b Accepted) ≡ true
unfolding course_ok
fresh_accepted store b = refl

-- ---- a reader that holds a byte more

bytes-set : (s : List ℕ) (i x : ℕ) → Bytes s → x < 256 → Bytes (set s i x)
bytes-set s i x h l j = by_place (ℕ_discrete j i)
  where
    inside : j ≡ i → get_or (set s i x) j 0 < 256
    inside e =
        ⊎_elim (λ m. rw (e, get_or-set_same s i x 0 m) l) (λ m. rw (set_out s i x m) (h j)) (lt_or_le i (length s))

    by_place : Dec (j ≡ i) → get_or (set s i x) j 0 < 256
    by_place (yes e) = inside e
    by_place (no e) = rw (get_or-set_other s i j x 0 e) (h j)

rest-set : (s : List ℕ) (n x : ℕ) → rest_zero s n ≡ true → rest_zero (set s n x) (n + 1) ≡ true
unfolding rest_zero
rest-set s n x e =
    all_intro 134 (λ j. either (ltb j (n + 1)) (eqb (get_or (set s n x) j 0) 0)) (λ j l.
    ⊎_elim
    (λ m. either_left (ltb j (n + 1)) (eqb (get_or (set s n x) j 0) 0) (lt-ltb j (n + 1) m))
    (λ m.
    let z : eqb (get_or s j 0) 0 ≡ true = rw (le-ltb j n (omega arith)) at (all_at 134 j (λ k. either (ltb k n) (eqb (get_or s k 0) 0)) e l) in
    either_right (ltb j (n + 1)) (eqb (get_or (set s n x) j 0) 0) (rw (get_or-set_other s n j x 0 (λ q. omega arith)) z))
    (lt_or_le j (n + 1)))

module _ (f : Feed) (x : ℕ) (l : x < 256) (g : Good f) where
  rules : Rules f
  rules = accept_rules f g.accepted

  -- the bytes of the record so far
  abbrev sofar : List ℕ
  sofar = take (f.filled + 1) (held_with f x)

  bytes_sofar : Bytes sofar
  bytes_sofar = bytes-part (f.filled + 1) (held_with f x) 0 (bytes-set f.held f.filled x g.fits.bytes l)

  abbrev next : Stepped
  next = step_at sofar 0 f.table f.store

  kept : Widths next.table × (is_sound next.table f.store ≡ true)
  kept = step_keeps sofar 0 f.table f.store bytes_sofar g.fits.table rules.sound

  -- still a beginning: the step says cut off, and so they are fewer than a record can have
  holding-good : (p : ℕ) → f.filled < 134 → next.step ≡ StepRefused 1 p → Good (holding f x)
  unfolding course_ok
  holding-good p m e =
      let n : length sofar ≡ f.filled + 1 = length-take-le (f.filled + 1) (held_with f x) (omega (arith, length-set f.held f.filled x, g.fits.held)) in
      let k = (step_fine sofar 0 f.table f.store 1 p e).1 refl in
      record {
        fits = record {
          table = g.fits.table;
          store = g.fits.store;
          held = length-set f.held f.filled x ∙ g.fits.held;
          bytes = bytes-set f.held f.filled x g.fits.bytes l;
        };
        accepted = rules_accept (holding f x) (record {
          sound = rules.sound;
          rest = rest-set f.held f.filled x rules.rest;
          course = both_intro _ _ (lt-ltb (f.filled + 1) 134 (omega arith)) (ap is_cut e);
        });
      }

  after : (s : Step) → f.filled < 134 → next.step ≡ s → Good (after_step f x s next.table)
  unfolding after_step
  after (Next p) m e = fresh_good f.store next.table Reading g.fits.store kept.0 kept.1 (fresh_reads f.store next.table)
  after Done m e = fresh_good f.store next.table Closed g.fits.store kept.0 kept.1 (fresh_closed f.store next.table)
  after (StepRefused n p) m e =
      pick-cases Good (eqb n 1) (holding f x) (cleared f next.table (Refused n))
      (λ q. holding-good p m (e ∙ ap (λ (k : ℕ). StepRefused k p) (eqb-true n 1 q)))
      (λ q.
      fresh_good f.store next.table (Refused n) g.fits.store kept.0 kept.1
      (fresh_refuses f.store next.table n (step_fine sofar 0 f.table f.store n p e).0))

  held-good : f.filled < 134 → Good (held_byte f x)
  unfolding held_byte
  held-good m = after next.step m refl

  byte-good : Good (feed_byte f x)
  unfolding feed_byte by_course
  byte-good = by-course f.course
    where
      by-course : (c : Course) → Good (by_course c f x)
      by-course Reading = pick-cases Good (ltb f.filled 134) (held_byte f x) f (λ q. held-good (ltb-true f.filled 134 q)) (λ q. g)
      by-course Closed = fresh_good f.store f.table (Refused 8) g.fits.store g.fits.table rules.sound (fresh_refuses f.store f.table 8 refl)
      by-course Accepted = g
      by-course (Refused n) = g

-- ---- opened, fed, told the end

fed-good : (l : List ℕ) (f : Feed) → Bytes l → Good f → Good (feed_all f l)
unfolding feed_all
fed-good [] f h g = g
fed-good (x ∷ l) f h g = fed-good l (feed_byte f x) (λ i. h (suc i)) (byte-good f x (h 0) g)

-- a fragment, of any length
pub fed-accepted : (f : Feed) (l : List ℕ) → FitsReader f → accept f ≡ true → Bytes l → FitsReader (feed_all f l) × (accept (feed_all f l) ≡ true)
fed-accepted f l w e h = let g = fed-good l f h (record { fits = w; accepted = e }) in (g.fits, g.accepted)

-- the end of input
pub end-accepted : (f : Feed) → FitsReader f → accept f ≡ true → FitsReader (end_feed f) × (accept (end_feed f) ≡ true)
unfolding end_feed end_by
end-accepted f w e = let g = by-course f.course in (g.fits, g.accepted)
  where
    by-course : (c : Course) → Good (end_by c f)
    by-course Reading = fresh_good f.store f.table (Refused 1) w.store w.table (accept_rules f e).sound (fresh_refuses f.store f.table 1 refl)
    by-course Closed = fresh_good f.store f.table Accepted w.store w.table (accept_rules f e).sound (fresh_accepted f.store f.table)
    by-course Accepted = record { fits = w; accepted = e }
    by-course (Refused n) = record { fits = w; accepted = e }

-- the opening
pub opened-accepted : (store : ℕ) → store < 256 ^ 8 → FitsReader (opened store) × (accept (opened store) ≡ true)
unfolding opened
opened-accepted store l =
    let k = empty_keeps store in
    let g = fresh_good store empty_table Reading l k.0 k.1 (fresh_reads store empty_table) in
    (g.fits, g.accepted)
