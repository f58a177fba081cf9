-- Laws of the converters.
-- Assumes nothing.
use mathlib.Core.Path.{◌≡◌, refl, sym, ap, ◌∙◌}
use mathlib.Core.Bool.{Bool, true, false, not}
use mathlib.Core.List.{List, [], ◌++◌, append-nil}
use Prim.Native.Nat.{ℕ, ◌+◌, ◌-◌, ◌^◌, ◌≤◌, ◌<◌}
use native.Mathlib.Nat.{le_refl, add_assoc}
use native.Mathlib.Omega.{arith}
use lib.Dec.{eqb}
use lib.ListN.{drop_of_length-le, length, get_or, take, drop, replicate, length-append, length-drop, get_or-append}
use lib.Seq.{sets, length-sets, drop_at, take_at, take_all, take-add, drop-drop, get_or-take, get_or-drop, ext_get_or, length-take-le}
use borrow.Author.Tests.{eq-eqb, eqb-true}
use Rattle.logic.specs.Logic.{both, either}
use Rattle.logic.proofs.LogicLaws.{both_true, both_intro, either_left, true≢false}
use Rattle.words.specs.Words.{Bytes, le, le_bytes, part}
use Rattle.words.proofs.WordsLaws.{le_ext, length-le_bytes, read-write, write_read, sets-append, sets_front, sets-whole}
use Rattle.drive.specs.declared.Drive.{Drive}
use Rattle.drive.specs.Drive.{drive_length, tail_of, drive_of, same, i2o, interface_ok, is_i2o, zero_tail, kind_ok, geometry_fits, fields_ok}
use Rattle.drive.proofs.DriveLaws.{length-least, length_most, kind-good, same_true}
use Rattle.layout.proofs.ResultBufferLaws.{of_kind}
use Rattle.convert.specs.Convert.{is_record, sound_record, shared, converts, converted_bytes, up_bytes, up_ok, down_bytes, down_ok}

-- ---- a record of its kind

-- what the tests of its bytes say
pub record Header (k : ℕ) (r : List ℕ) : Type 0 where
  pub size : length r ≡ drive_length k
  pub length_word : le 2 r 0 ≡ drive_length k
  pub kind_word : le 2 r 2 ≡ k

pub header : (k : ℕ) (r : List ℕ) → is_record k r ≡ true → Header k r
unfolding is_record
header k r e =
    let p = both_true (eqb (length r) (drive_length k)) (both (eqb (le 2 r 0) (drive_length k)) (eqb (le 2 r 2) k)) e in
    let q = both_true (eqb (le 2 r 0) (drive_length k)) (eqb (le 2 r 2) k) p.1 in
    record { size = eqb-true _ _ p.0; length_word = eqb-true _ _ q.0; kind_word = eqb-true _ _ q.1 }

pub is-record : (k : ℕ) (r : List ℕ) → Header k r → is_record k r ≡ true
unfolding is_record
is-record k r h = rw (eq-eqb _ _ h.size, eq-eqb _ _ h.length_word, eq-eqb _ _ h.kind_word)

pub least : (k : ℕ) → 68 ≤ drive_length k
least k = length-least k

pub record_long : (k : ℕ) (r : List ℕ) → Header k r → 68 ≤ length r
record_long k r h = rw h.size (length-least k)

-- so that it can be decoded
pub decodable : (k : ℕ) (r : List ℕ) → is_record k r ≡ true → (68 ≤ length r) × (drive_length (le 2 r 2) ≤ length r)
decodable k r e = let h = header k r e in (record_long k r h, rw (h.kind_word, h.size) (le_refl (drive_length k)))

pub sound_header : (k : ℕ) (r : List ℕ) → sound_record k r ≡ true → Header k r
unfolding sound_record
sound_header k r e = header k r (both_true (is_record k r) (fields_ok (drive_of r)) e).0

pub sound_fields : (k : ℕ) (r : List ℕ) → sound_record k r ≡ true → fields_ok (drive_of r) ≡ true
unfolding sound_record
sound_fields k r e = (both_true (is_record k r) (fields_ok (drive_of r)) e).1

-- ---- what a conversion that is not refused has

pub up_room : (r : List ℕ) (room : ℕ) → up_ok r room ≡ true → room ≡ 76
unfolding up_ok
up_room r room e = eqb-true room 76 (both_true (eqb room 76) (sound_record 1 r) e).0

pub up_sound : (r : List ℕ) (room : ℕ) → up_ok r room ≡ true → sound_record 1 r ≡ true
unfolding up_ok
up_sound r room e = (both_true (eqb room 76) (sound_record 1 r) e).1

pub up_long : (r : List ℕ) (room : ℕ) → up_ok r room ≡ true → 68 ≤ length r
up_long r room e = record_long 1 r (sound_header 1 r (up_sound r room e))

-- a record of kind 1 can say this drive too
abbrev pub narrow : Drive → Bool
narrow d = both (zero_tail d) (not (is_i2o d))

pub down-room : (r : List ℕ) (room : ℕ) → down_ok r room ≡ true → room ≡ 68
unfolding down_ok
down-room r room e = eqb-true room 68 (both_true (eqb room 68) (both (sound_record 2 r) (narrow (drive_of r))) e).0

pub down_sound : (r : List ℕ) (room : ℕ) → down_ok r room ≡ true → sound_record 2 r ≡ true
unfolding down_ok
down_sound r room e = (both_true (sound_record 2 r) (narrow (drive_of r)) (both_true (eqb room 68) (both (sound_record 2 r) (narrow (drive_of r))) e).1).0

pub down-narrow : (r : List ℕ) (room : ℕ) → down_ok r room ≡ true → narrow (drive_of r) ≡ true
unfolding down_ok
down-narrow r room e = (both_true (sound_record 2 r) (narrow (drive_of r)) (both_true (eqb room 68) (both (sound_record 2 r) (narrow (drive_of r))) e).1).1

pub down_long : (r : List ℕ) (room : ℕ) → down_ok r room ≡ true → 68 ≤ length r
down_long r room e = record_long 2 r (sound_header 2 r (down_sound r room e))

-- ---- what the code stores

pub shared_stores : (s : List ℕ) (k : ℕ) (r : List ℕ) → sets s 0 (shared k r) ≡ sets (sets (sets s 0 (le_bytes 2 (drive_length k))) 2 (le_bytes 2 k)) 4 (part 64 r 4)
unfolding shared
shared_stores s k r = simp (sets-append, length-le_bytes)

module _ (r : List ℕ) (long : 68 ≤ length r) where
  length_middle : length (part 64 r 4) ≡ 64
  length_middle = length-take-le 64 (drop 4 r) (simp length-drop (omega arith))

  pub length-shared : (k : ℕ) → length (shared k r) ≡ 68
  unfolding shared
  length-shared k = simp (length-append, length-le_bytes, length_middle)

  pub length_up : length (up_bytes r) ≡ 76
  unfolding up_bytes
  length_up = simp (length-append, length-shared)

  pub up_stores : {o₁ o₂ : List ℕ} (s : List ℕ) → length s ≡ 76 → o₁ ≡ sets s 0 (shared 2 r) → o₂ ≡ sets o₁ 68 (replicate 8 0) → o₂ ≡ up_bytes r
  unfolding up_bytes
  up_stores s l e₁ e₂ =
      let a : sets s 0 (up_bytes r) ≡ sets (sets s 0 (shared 2 r)) 68 (replicate 8 0) = simp (sets-append, length-shared) in
      rw (e₂, e₁) (sym a ∙ sets-whole s (up_bytes r) (l ∙ sym length_up))

  pub down_stores : {o : List ℕ} (s : List ℕ) → length s ≡ 68 → o ≡ sets s 0 (shared 1 r) → o ≡ down_bytes r
  unfolding down_bytes
  down_stores s l e = e ∙ sets-whole s (shared 1 r) (l ∙ sym (length-shared 1))

  -- the bytes shared, and zeros over what is left
  pub converted_stores : {o₁ o₂ o₃ z : List ℕ} (s : List ℕ) (k : ℕ) → length s ≡ drive_length k
      → o₁ ≡ sets s 0 (le_bytes 2 (drive_length k)) → o₂ ≡ sets o₁ 2 (le_bytes 2 k) → o₃ ≡ sets o₂ 4 (part 64 r 4)
      → z ≡ replicate (length (part (length o₃ - 68) o₃ 68)) 0 → take 68 o₃ ++ (z ++ drop (length o₃ - 68) (drop 68 o₃)) ≡ converted_bytes k r
  unfolding converted_bytes
  converted_stores {o₃ = o₃} s k l e₁ e₂ e₃ ez =
      let n = length-shared k in
      let o : o₃ ≡ shared k r ++ drop 68 s = rw (e₃, e₂, e₁, ← shared_stores s k r) (rw n at (sets_front s (shared k r) (omega (arith, length-least k)))) in
      let m : length o₃ ≡ drive_length k = rw (e₃, e₂, e₁) (simp length-sets l) in
      let rest : length (part (length o₃ - 68) o₃ 68) ≡ drive_length k - 68 = rw (length-take-le (length o₃ - 68) (drop 68 o₃) (simp length-drop (omega arith)), m) refl in
      let none : drop (length o₃ - 68) (drop 68 o₃) ≡ [] = drop_of_length-le (drop 68 o₃) (simp length-drop (omega arith)) in
      rw (none, append-nil, ez, rest, o, take_at (shared k r) (drop 68 s) 68 n) refl

  -- ---- the bytes behind length and kind are those that were there

  module _ (k : ℕ) (x : List ℕ) where
    middle : drop 4 (shared k r ++ x) ≡ part 64 r 4 ++ x
    unfolding shared le_bytes
    middle = refl

    byte : (i : ℕ) → i < 64 → get_or (shared k r ++ x) (4 + i) 0 ≡ get_or r (4 + i) 0
    byte i h =
        sym (get_or-drop 4 (shared k r ++ x) i 0) ∙ ap (λ (l : List ℕ). get_or l i 0) middle
        ∙ get_or-append (part 64 r 4) x 0 i (rw length_middle h) ∙ get_or-take 64 (drop 4 r) i 0 h ∙ get_or-drop 4 r i 0

    word : (n m : ℕ) → m + n ≤ 64 → le n (shared k r ++ x) (4 + m) ≡ le n r (4 + m)
    word n m h = le_ext n (shared k r ++ x) r (4 + m) (4 + m) (λ i l. rw add_assoc (byte (m + i) (omega arith)))

    run : (n m : ℕ) → m + n ≤ 64 → part n (shared k r ++ x) (4 + m) ≡ part n r (4 + m)
    run n m h =
        let p : length (part n (shared k r ++ x) (4 + m)) ≡ n = length-take-le n (drop (4 + m) (shared k r ++ x)) (simp (length-drop, length-append, length-shared) (omega arith)) in
        let q : length (part n r (4 + m)) ≡ n = length-take-le n (drop (4 + m) r) (simp length-drop (omega arith)) in
        ext_get_or 0 (part n (shared k r ++ x) (4 + m)) (part n r (4 + m)) (p ∙ sym q) (λ i l.
        let t : i < n = omega arith in
        rw (get_or-take n (drop (4 + m) (shared k r ++ x)) i 0 t, get_or-take n (drop (4 + m) r) i 0 t, get_or-drop (4 + m) (shared k r ++ x) i 0, get_or-drop (4 + m) r i 0, add_assoc) (byte (m + i) (omega arith)))

    -- so they may be converted again
    pub shared-shared : (j : ℕ) → shared j (shared k r ++ x) ≡ shared j r
    unfolding shared
    shared-shared j = ap (λ (l : List ℕ). le_bytes 2 (drive_length j) ++ (le_bytes 2 j ++ l)) (run 64 0 (omega arith))

    length_word_shared : le 2 (shared k r ++ x) 0 ≡ drive_length k
    unfolding shared le le_bytes
    length_word_shared = read-write 2 (drive_length k) (omega (arith, length_most k))

    kind-shared : k < 256 ^ 2 → le 2 (shared k r ++ x) 2 ≡ k
    unfolding shared le le_bytes
    kind-shared h = read-write 2 k h

    past-shared : drop 68 (shared k r ++ x) ≡ x
    past-shared = drop_at (shared k r) x 68 (length-shared k)

-- ---- a record, put together

-- adjoining parts are one
glue : (r : List ℕ) (k n at : ℕ) {x y : List ℕ} → x ≡ part k r at → y ≡ part n r (at + k) → x ++ y ≡ part (k + n) r at
glue r k n at p q = rw (p, q, take-add k n (drop at r), drop-drop k at r)

-- the length and the kind of a record are those that it has
pub shared_itself : (k : ℕ) (r : List ℕ) → Bytes r → Header k r → shared k r ≡ part 68 r 0
unfolding shared
shared_itself k r b h =
    let l = record_long k r h in
    glue r 2 66 0 (ap (le_bytes 2) (sym h.length_word) ∙ write_read 2 r 0 b (omega (arith, l)))
    (glue r 2 64 2 (ap (le_bytes 2) (sym h.kind_word) ∙ write_read 2 r 2 b (omega (arith, l))) refl)

-- ---- the drive of a converted record

-- a drive as one of another kind, with nothing behind the first eight bytes of its device path
abbrev pub converted : ℕ → Drive → Drive
converted k d = record {
  cylinders = d.cylinders;
  heads = d.heads;
  sectors = d.sectors;
  blocks = d.blocks;
  first = d.first;
  flags = d.flags;
  c = d.c;
  h = d.h;
  s = d.s;
  protection = d.protection;
  bus = d.bus;
  interface = d.interface;
  path = d.path;
  device = d.device;
  kind = k;
  tail = replicate 8 0;
}

drive-shared : (k : ℕ) (r x : List ℕ) → 68 ≤ length r → k < 256 ^ 2 → tail_of (shared k r ++ x) ≡ replicate 8 0 → drive_of (shared k r ++ x) ≡ converted k (drive_of r)
unfolding drive_of
drive-shared k r x l b t =
    let w : (n m : ℕ) → m + n ≤ 64 → le n (shared k r ++ x) (4 + m) ≡ le n r (4 + m) = word r l k x in
    let p : (n m : ℕ) → m + n ≤ 64 → part n (shared k r ++ x) (4 + m) ≡ part n r (4 + m) = run r l k x in
    λ i. record {
      cylinders = w 4 0 (omega arith) i;
      heads = w 4 4 (omega arith) i;
      sectors = w 4 8 (omega arith) i;
      blocks = w 8 12 (omega arith) i;
      first = w 8 20 (omega arith) i;
      flags = w 2 28 (omega arith) i;
      c = w 2 30 (omega arith) i;
      h = w 2 32 (omega arith) i;
      s = byte r l k x 34 (omega arith) i;
      protection = byte r l k x 35 (omega arith) i;
      bus = p 4 36 (omega arith) i;
      interface = p 8 40 (omega arith) i;
      path = p 8 48 (omega arith) i;
      device = p 8 56 (omega arith) i;
      kind = kind-shared r l k x b i;
      tail = t i;
    }

-- the tail of kind 2 is eight zeros, and kind 1 has none
tail-up : (r : List ℕ) → 68 ≤ length r → tail_of (shared 2 r ++ replicate 8 0) ≡ replicate 8 0
unfolding tail_of
tail-up r l = rw (kind-shared r l 2 (replicate 8 0) (omega arith), past-shared r l 2 (replicate 8 0))

tail-down : (r : List ℕ) → 68 ≤ length r → tail_of (shared 1 r ++ []) ≡ replicate 8 0
unfolding tail_of
tail-down r l = rw (kind-shared r l 1 [] (omega arith))

-- kind 1 appends nothing
down-nothing : (r : List ℕ) → down_bytes r ≡ shared 1 r ++ []
unfolding down_bytes
down-nothing r = sym (append-nil (shared 1 r))

pub drive-up : (r : List ℕ) → 68 ≤ length r → drive_of (up_bytes r) ≡ converted 2 (drive_of r)
unfolding up_bytes
drive-up r l = drive-shared 2 r (replicate 8 0) l (omega arith) (tail-up r l)

-- a record of kind 1 has no tail, so that of its drive only the kind is another
tail-narrow : (r : List ℕ) → Header 1 r → tail_of r ≡ replicate 8 0
unfolding tail_of
tail-narrow r h = rw h.kind_word

pub kind-up : (r : List ℕ) → Header 1 r → drive_of (up_bytes r) ≡ of_kind 2 (drive_of r)
unfolding drive_of
kind-up r h = drive-up r (record_long 1 r h) ∙ rw (tail-narrow r h) refl

-- ---- its fields

-- of a drive's fields, only those that its kind allows are in question
good_converted : (k : ℕ) (d : Drive) → fields_ok d ≡ true → kind_ok (converted k d) ≡ true → fields_ok (converted k d) ≡ true
unfolding fields_ok geometry_fits
good_converted k d h e = rw e (rw (kind-good d h) at h)

-- in kind 1 the six interface types
six_narrow : (d : Drive) → d.kind ≡ 1 → fields_ok d ≡ true → interface_ok d.interface ≡ true
unfolding kind_ok zero_tail
six_narrow d k h =
    let n : both (interface_ok d.interface) (zero_tail d) ≡ true = rw k at (kind-good d h) in
    (both_true (interface_ok d.interface) (zero_tail d) n).0

-- which kind 2 allows
good-up : (d : Drive) → d.kind ≡ 1 → fields_ok d ≡ true → fields_ok (converted 2 d) ≡ true
unfolding kind_ok
good-up d k h = good_converted 2 d h (either_left (interface_ok d.interface) (is_i2o (converted 2 d)) (six_narrow d k h))

-- in kind 2 I2O besides
good-down : (d : Drive) → d.kind ≡ 2 → is_i2o d ≡ false → fields_ok d ≡ true → fields_ok (converted 1 d) ≡ true
unfolding kind_ok zero_tail same is_i2o
good-down d k z h =
    let n : either (interface_ok d.interface) (is_i2o d) ≡ true = rw k at (kind-good d h) in
    let six : interface_ok d.interface ≡ true = only (interface_ok d.interface) (is_i2o d) n z in
    good_converted 1 d h (rw six)
  where
    only : (a b : Bool) → either a b ≡ true → b ≡ false → a ≡ true
    only true b e z = refl
    only false b e z = true≢false b e z

-- none of the six is I2O
six_i2o : (b : List ℕ) → interface_ok b ≡ true → same b i2o ≡ false
unfolding interface_ok same
six_i2o b h = by_test (same b i2o) refl
  where
    by_test : (t : Bool) → same b i2o ≡ t → t ≡ false
    by_test true q = true≢false (interface_ok b) h (ap interface_ok (same_true b i2o q))
    by_test false q = refl

-- ---- a converted record is a sound one

sound_shared : (k : ℕ) (r x : List ℕ) → 68 ≤ length r → k < 256 ^ 2 → length (shared k r ++ x) ≡ drive_length k
    → tail_of (shared k r ++ x) ≡ replicate 8 0 → fields_ok (converted k (drive_of r)) ≡ true → sound_record k (shared k r ++ x) ≡ true
unfolding sound_record
sound_shared k r x l b n t f =
    both_intro (is_record k (shared k r ++ x)) (fields_ok (drive_of (shared k r ++ x)))
    (is-record k (shared k r ++ x) record { size = n; length_word = length_word_shared r l k x; kind_word = kind-shared r l k x b })
    (rw (drive-shared k r x l b t) f)

pub sound_up : (r : List ℕ) → sound_record 1 r ≡ true → sound_record 2 (up_bytes r) ≡ true
unfolding up_bytes drive_of
sound_up r e =
    let h = sound_header 1 r e in
    let l = record_long 1 r h in
    sound_shared 2 r (replicate 8 0) l (omega arith) (length_up r l) (tail-up r l) (good-up (drive_of r) h.kind_word (sound_fields 1 r e))

pub sound_down : (r : List ℕ) → sound_record 2 r ≡ true → is_i2o (drive_of r) ≡ false → sound_record 1 (down_bytes r) ≡ true
unfolding drive_of
sound_down r e z =
    let h = sound_header 2 r e in
    let l = record_long 2 r h in
    let n : length (shared 1 r ++ []) ≡ 68 = rw append-nil (length-shared r l 1) in
    rw (down-nothing r) (sound_shared 1 r [] l (omega arith) n (tail-down r l) (good-down (drive_of r) h.kind_word z (sound_fields 2 r e)))

-- ---- both ways in one

-- a sound record of kind 1 has nothing that kind 1 cannot say
narrow_sound : (r : List ℕ) → sound_record 1 r ≡ true → narrow (drive_of r) ≡ true
unfolding drive_of is_i2o zero_tail same
narrow_sound r e =
    let h = sound_header 1 r e in
    let f = sound_fields 1 r e in
    rw (tail-narrow r h, six_i2o (drive_of r).interface (six_narrow (drive_of r) h.kind_word f))

pub up_converts : (r : List ℕ) (room : ℕ) → converts 1 2 r room ≡ up_ok r room
unfolding converts up_ok
up_converts r room = by_test (eqb room 76) (sound_record 1 r) refl
  where
    by_test : (t u : Bool) → sound_record 1 r ≡ u → both t (both u (narrow (drive_of r))) ≡ both t u
    by_test t true e = rw (narrow_sound r e)
    by_test t false e = refl

pub down_converts : (r : List ℕ) (room : ℕ) → converts 2 1 r room ≡ down_ok r room
unfolding converts down_ok
down_converts r room = refl

pub up_converted : (r : List ℕ) → converted_bytes 2 r ≡ up_bytes r
unfolding converted_bytes up_bytes
up_converted r = refl

pub down_converted : (r : List ℕ) → converted_bytes 1 r ≡ down_bytes r
unfolding converted_bytes down_bytes
down_converted r = append-nil (shared 1 r)

-- ---- up and down, down and up

-- what went up has nothing that kind 1 cannot say
narrow_converted : (d : Drive) → d.kind ≡ 1 → fields_ok d ≡ true → narrow (converted 2 d) ≡ true
unfolding is_i2o zero_tail same
narrow_converted d k h = rw (six_i2o d.interface (six_narrow d k h))

pub narrow-up : (r : List ℕ) → sound_record 1 r ≡ true → narrow (drive_of (up_bytes r)) ≡ true
unfolding drive_of
narrow-up r e =
    let h = sound_header 1 r e in
    ap narrow (drive-up r (record_long 1 r h)) ∙ narrow_converted (drive_of r) h.kind_word (sound_fields 1 r e)

pub up-down : (r : List ℕ) → Bytes r → Header 1 r → down_bytes (up_bytes r) ≡ r
unfolding down_bytes up_bytes
up-down r b h = shared-shared r (record_long 1 r h) 2 (replicate 8 0) 1 ∙ shared_itself 1 r b h ∙ take_all 68 r (omega (arith, h.size))

-- a record of kind 2 has its tail at 68
pub tail-wide : (r : List ℕ) → Header 2 r → tail_of r ≡ part 8 r 68
unfolding tail_of
tail-wide r h = rw h.kind_word

pub down-up : (r : List ℕ) → Bytes r → Header 2 r → zero_tail (drive_of r) ≡ true → up_bytes (down_bytes r) ≡ r
unfolding up_bytes drive_of zero_tail
down-up r b h z =
    rw (down-nothing r, shared-shared r (record_long 2 r h) 1 [] 2)
    (glue r 68 8 0 (shared_itself 2 r b h) (sym (same_true (tail_of r) (replicate 8 0) z) ∙ tail-wide r h) ∙ take_all 76 r (omega (arith, h.size)))
