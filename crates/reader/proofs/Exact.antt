-- A block is accepted exactly when it is the image of a reader that obeys the rules, and then it says that reader.
-- Assumes nothing.
use Prim.Native.Nat.{ℕ, ◌-◌, ◌^◌, ◌≤◌, ◌<◌}
use native.Mathlib.Nat.{mod-eq_of_lt}
use native.Mathlib.Omega.{arith}
use mathlib.Core.Path.{◌≡◌, sym, ap, ◌∙◌}
use mathlib.Core.Bool.{true}
use mathlib.Core.List.{List}
use lib.ListN.{length, get_or, take, drop, replicate, length-drop}
use lib.Seq.{length-take-le, take_at, drop_at, take-append_seam}
use lib.Dec.{ltb, eqb}
use borrow.Author.Tests.{ltb-true, eqb-true, eq-eqb}
use Rattle.logic.specs.Logic.{pick, both, in_range}
use Rattle.logic.proofs.LogicLaws.{both_true, both_intro, in_range_true}
use Rattle.words.specs.Words.{Bytes, le, le_bytes, part}
use Rattle.words.proofs.WordsLaws.{le_lt, read-write, bytes-part}
use Rattle.drive.specs.Drive.{same}
use Rattle.drive.proofs.DriveLaws.{same_refl, same_true}
use Rattle.table.specs.Table.{step_at, read_table, table_of, is_sound}
use Rattle.table.proofs.ReadWrite.{read-written}
use Rattle.feed.specs.declared.Course.{Course}
use Rattle.feed.specs.declared.Course.TheVariants.{Reading, Closed, Accepted, Refused}
use Rattle.feed.specs.declared.Feed.{Feed}
use Rattle.reader.specs.Reader.{course_number, refusal_number, table_bytes, image, course_at, read_reader, is_cut, rest_zero, course_ok, accept, accepted, FitsReader, ImageOf, Exact}
use Rattle.reader.proofs.ReaderLaws.{length-image}
use Rattle.reader.proofs.Tables.{read_widths, table-most}

-- ---- what the rules of a reader say

pub record Rules (f : Feed) : Type 0 where
  pub sound : is_sound f.table f.store ≡ true
  pub rest : rest_zero f.held f.filled ≡ true
  pub course : course_ok f.course f ≡ true

pub accept_rules : (f : Feed) → accept f ≡ true → Rules f
unfolding accept
accept_rules f e =
    let p = both_true (is_sound f.table f.store) (both (rest_zero f.held f.filled) (course_ok f.course f)) e in
    let q = both_true (rest_zero f.held f.filled) (course_ok f.course f) p.1 in
    record { sound = p.0; rest = q.0; course = q.1 }

pub rules_accept : (f : Feed) → Rules f → accept f ≡ true
unfolding accept
rules_accept f r = both_intro _ _ r.sound (both_intro _ _ r.rest r.course)

-- at most 133 bytes are held, and a refusal is a byte
filled_most : (c : Course) (f : Feed) → course_ok c f ≡ true → f.filled < 134
unfolding course_ok
filled_most Reading f e = ltb-true f.filled 134 (both_true (ltb f.filled 134) (is_cut (step_at (take f.filled f.held) 0 f.table f.store).step) e).0
filled_most Closed f e = omega (arith, eqb-true f.filled 0 e)
filled_most Accepted f e = omega (arith, eqb-true f.filled 0 e)
filled_most (Refused n) f e = omega (arith, eqb-true f.filled 0 (both_true (eqb f.filled 0) (in_range n 1 9) e).0)

refusal-most : (c : Course) (f : Feed) → course_ok c f ≡ true → refusal_number c < 256
unfolding course_ok
refusal-most Reading f e = omega arith
refusal-most Closed f e = omega arith
refusal-most Accepted f e = omega arith
refusal-most (Refused n) f e = omega (arith, (in_range_true n 1 9 (both_true (eqb f.filled 0) (in_range n 1 9) e).1).1)

number-most : (c : Course) → course_number c < 256 ^ 8
number-most Reading = omega arith
number-most Closed = omega arith
number-most Accepted = omega arith
number-most (Refused n) = omega arith

-- ---- the image read back

course_read : (c : Course) (x y : ℕ) → x ≡ course_number c → y ≡ refusal_number c → pick (eqb x 0) Reading (pick (eqb x 1) Closed (pick (eqb x 2) Accepted (Refused y))) ≡ c
course_read Reading x y e q = rw e
course_read Closed x y e q = rw e
course_read Accepted x y e q = rw e
course_read (Refused n) x y e q = rw (e, q)

module _ (f : Feed) (fit : FitsReader f) (r : Rules f) where
  room : length (table_of f.table) ≤ 1844
  room = table-most f.table f.store fit.table r.sound

  number : le 8 (image f) 0 ≡ course_number f.course
  unfolding image le le_bytes
  number = read-write 8 (course_number f.course) (number-most f.course)

  refusal : get_or (image f) 8 0 ≡ refusal_number f.course
  unfolding image le_bytes
  refusal = mod-eq_of_lt (refusal-most f.course f r.course)

  store : le 8 (image f) 16 ≡ f.store
  unfolding image le le_bytes
  store = read-write 8 f.store fit.store

  filled : le 8 (image f) 24 ≡ f.filled
  unfolding image le le_bytes
  filled = read-write 8 f.filled (omega (arith, filled_most f.course f r.course))

  long : le 8 (image f) 32 ≡ length (table_of f.table)
  unfolding image le le_bytes
  long = read-write 8 (length (table_of f.table)) (omega (arith, room))

  held : part 134 (image f) 40 ≡ f.held
  unfolding image le_bytes
  held = take_at f.held (table_bytes f) 134 fit.held

  table : part (length (table_of f.table)) (image f) 174 ≡ table_of f.table
  unfolding image le_bytes
  table =
      ap (take (length (table_of f.table))) (drop_at f.held (table_bytes f) 134 fit.held)
      ∙ take-append_seam (table_of f.table) (replicate (1844 - length (table_of f.table)) 0)

  drives : (read_table (part (le 8 (image f) 32) (image f) 174) (le 8 (image f) 16)).table ≡ f.table
  drives = rw (long, table, store, read-written f.table f.store fit.table r.sound)

  course : course_at (image f) ≡ f.course
  course = course_read f.course (le 8 (image f) 0) (get_or (image f) 8 0) number refusal

  pub reader_image : read_reader (image f) ≡ f
  unfolding read_reader
  reader_image = λ i. record { table = drives i; store = store i; held = held i; filled = filled i; course = course i }

  pub image-accepted : accepted (image f) ≡ true
  unfolding accepted
  image-accepted =
      both_intro _ _ (eq-eqb _ _ (length-image f fit.held room))
      (both_intro _ _ (ap accept reader_image ∙ rules_accept f r) (ap (λ (x : Feed). same (image f) (image x)) reader_image ∙ same_refl (image f)))

-- ---- both ways

-- what is read from bytes fits
read_fits : (b : List ℕ) → Bytes b → length b ≡ 2018 → FitsReader (read_reader b)
unfolding read_reader
read_fits b h l =
    record {
      table = read_widths (part (le 8 b 32) b 174) (le 8 b 16) (bytes-part (le 8 b 32) b 174 h);
      store = le_lt 8 b 16 h;
      held = length-take-le 134 (drop 40 b) (rw length-drop (omega arith));
      bytes = bytes-part 134 b 40 h;
    }

only : (b : List ℕ) → Bytes b → accepted b ≡ true → ImageOf b (read_reader b)
unfolding accepted
only b h e =
    let p = both_true (eqb (length b) 2018) (both (accept (read_reader b)) (same b (image (read_reader b)))) e in
    let q = both_true (accept (read_reader b)) (same b (image (read_reader b))) p.1 in
    record {
      fits = read_fits b h (eqb-true (length b) 2018 p.0);
      acceptable = q.0;
      image = sym (same_true b (image (read_reader b)) q.1);
    }

every : (b : List ℕ) (f : Feed) → ImageOf b f → (accepted b ≡ true) × (read_reader b ≡ f)
every b f i =
    let r = accept_rules f i.acceptable in
    (rw i.image at (image-accepted f i.fits r), rw i.image at (reader_image f i.fits r))

-- both ways round
pub exact : Exact
exact = record { only = only; every = every }
