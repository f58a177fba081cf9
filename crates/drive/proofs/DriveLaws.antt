-- Laws of a drive's record.
-- Assumes nothing.
use mathlib.Core.Path.{◌≡◌, refl, sym, ap, ◌∙◌}
use mathlib.Core.Logic.{◌↔◌}
use mathlib.Core.List.{List, [], ◌∷◌, ◌++◌, append_assoc, append-nil}
use Prim.Native.Nat.{ℕ, zero, suc, ◌+◌, ◌-◌, ◌≤◌, ◌<◌}
use native.Mathlib.Omega.{arith}
use mathlib.Core.Bool.{Bool, true, false}
use lib.Pointwise.{pointwise, bytes_decides}
use lib.Dec.{leb, ltb, eqb}
use borrow.Author.Tests.{eq-eqb, eqb-true, eqb-false, le-leb, lt-leb, leb-true, leb-false, lt-ltb, ltb-true}
use Rattle.logic.specs.Logic.{pick, both, either}
use Rattle.logic.proofs.LogicLaws.{impossible, both_true, both_assoc, both_false, pick-cases, true_iff, leb_iff}
use lib.ListN.{length, set, take, drop, replicate, length-append, length-drop}
use lib.Seq.{sets, ext_get_or, take_at, drop-append-add, take_all, length-take-le}
use Rattle.std.specs.Prelude.{slice_index}
use Rattle.std.specs.Int.{byte_worth, sum_through}
use Rattle.std.specs.Array.{AllOfLen}
use Rattle.std.proofs.lemmas.List.{get_or-replicate, length-replicate}
use Rattle.chs.specs.Chs.{in_limits, size}
use Rattle.words.specs.Words.{Bytes, le, le_bytes, part}
use Rattle.words.proofs.WordsLaws.{sum_bytes, same_bytes, glue, glue_one, sets-append, sets-whole, length-le_bytes, read-write, write_read, le_lt}
use Rattle.drive.specs.declared.Drive.{Drive}
use Rattle.drive.specs.Drive.{is_drive_kind, drive_length, tail_of, drive_of, record_of, geometry_bytes, size_bytes, name_bytes, tail_bytes, Fits, Holds, same, bus_ok, interface_ok, is_i2o, zero_tail, kind_ok, zero_drive, blank_numbers, blank_names, is_blank, geometry_of, geometry_fits, fields_ok, overlap}

-- ---- the lengths of a record

pub length-least : (kind : ℕ) → 68 ≤ drive_length kind
length-least kind = pick-cases (λ (n : ℕ). 68 ≤ n) (eqb kind 2) 76 68 (λ e. omega arith) (λ e. omega arith)

pub length_most : (kind : ℕ) → drive_length kind ≤ 76
length_most kind = pick-cases (λ (n : ℕ). n ≤ 76) (eqb kind 2) 76 68 (λ e. omega arith) (λ e. omega arith)

-- ---- what the code stores

-- the lengths of a drive's arrays
pub record Arrays (d : Drive) : Type 0 where
  pub bus : length d.bus ≡ 4
  pub interface : length d.interface ≡ 8
  pub path : length d.path ≡ 8
  pub device : length d.device ≡ 8
  pub tail : length d.tail ≡ 8

pub geometry_stores : (s : List ℕ) (d : Drive) → sets s 0 (geometry_bytes d)
    ≡ sets (sets (sets (sets (sets s 0 (le_bytes 2 (drive_length d.kind))) 2 (le_bytes 2 d.kind)) 4 (le_bytes 4 d.cylinders)) 8 (le_bytes 4 d.heads)) 12 (le_bytes 4 d.sectors)
unfolding geometry_bytes
geometry_stores s d = simp (sets-append, length-le_bytes)

pub size_stores : (s : List ℕ) (d : Drive) → sets s 16 (size_bytes d)
    ≡ sets (sets (sets (sets (sets s 16 (le_bytes 8 d.blocks)) 24 (le_bytes 8 d.first)) 32 (le_bytes 2 d.flags)) 34 (le_bytes 2 d.c)) 36 (le_bytes 2 d.h)
unfolding size_bytes
size_stores s d = simp (sets-append, length-le_bytes)

pub name_stores : (s : List ℕ) (d : Drive) → Arrays d → sets s 38 (name_bytes d)
    ≡ sets (sets (sets (sets (set (set s 38 d.s) 39 d.protection) 40 d.bus) 44 d.interface) 52 d.path) 60 d.device
unfolding name_bytes
name_stores s d f = simp (sets-append, f.bus, f.interface, f.path)

length_geometry : (d : Drive) → length (geometry_bytes d) ≡ 16
unfolding geometry_bytes
length_geometry d = simp (length-append, length-le_bytes)

length-sizes : (d : Drive) → length (size_bytes d) ≡ 22
unfolding size_bytes
length-sizes d = simp (length-append, length-le_bytes)

length-names : (d : Drive) → Arrays d → length (name_bytes d) ≡ 30
unfolding name_bytes
length-names d f = simp (length-append, f.bus, f.interface, f.path, f.device)

-- the record of kind 1 ends where that of kind 2 has its tail
length-tail : (d : Drive) → Arrays d → 68 + length (tail_bytes d) ≡ drive_length d.kind
unfolding tail_bytes
length-tail d f = by_kind (eqb d.kind 2) refl
  where
    by_kind : (t : Bool) → eqb d.kind 2 ≡ t → 68 + length (pick t d.tail []) ≡ pick t 76 68
    by_kind true e = omega (arith, f.tail)
    by_kind false e = refl

pub length-record : (d : Drive) → Arrays d → length (record_of d) ≡ drive_length d.kind
unfolding record_of
length-record d f =
    let n : length (record_of d) ≡ 16 + (22 + (30 + length (tail_bytes d))) = simp (length-append, length_geometry, length-sizes, length-names d f) in
    n ∙ omega arith ∙ length-tail d f

-- the record with its tail, whatever its kind
abbrev pub tailed : Drive → List ℕ
tailed d = geometry_bytes d ++ (size_bytes d ++ (name_bytes d ++ d.tail))

pub record_stores : {o₁ o₂ o₃ o₄ : List ℕ} (s : List ℕ) (d : Drive) → Arrays d → length s ≡ 76
    → o₁ ≡ sets s 0 (geometry_bytes d) → o₂ ≡ sets o₁ 16 (size_bytes d) → o₃ ≡ sets o₂ 38 (name_bytes d) → o₄ ≡ sets o₃ 68 d.tail → o₄ ≡ tailed d
record_stores s d f l e₁ e₂ e₃ e₄ =
    let n : length (tailed d) ≡ 76 = simp (length-append, length_geometry, length-sizes, length-names d f, f.tail) in
    let w : sets s 0 (tailed d) ≡ tailed d = sets-whole s (tailed d) (l ∙ sym n) in
    let a : sets s 0 (tailed d) ≡ sets (sets (sets (sets s 0 (geometry_bytes d)) 16 (size_bytes d)) 38 (name_bytes d)) 68 d.tail =
    simp (sets-append, length_geometry, length-sizes, length-names d f) in
    rw (e₄, e₃, e₂, e₁) (sym a ∙ w)

-- what `encode` lays, offset by offset
abbrev laid : List ℕ → Drive → List ℕ
laid s d =
    let words : List ℕ = sets (sets (sets (sets (sets s 0 (le_bytes 2 (drive_length d.kind))) 2 (le_bytes 2 d.kind)) 4 (le_bytes 4 d.cylinders)) 8 (le_bytes 4 d.heads)) 12 (le_bytes 4 d.sectors) in
    let sizes : List ℕ = sets (sets (sets (sets (sets words 16 (le_bytes 8 d.blocks)) 24 (le_bytes 8 d.first)) 32 (le_bytes 2 d.flags)) 34 (le_bytes 2 d.c)) 36 (le_bytes 2 d.h) in
    sets (sets (sets (sets (sets (set (set sizes 38 d.s) 39 d.protection) 40 d.bus) 44 d.interface) 52 d.path) 60 d.device) 68 d.tail

pub record_laid : (s : List ℕ) (d : Drive) → length s ≡ 76 → length d.bus ≡ 4 → length d.interface ≡ 8 → length d.path ≡ 8 → length d.device ≡ 8 → length d.tail ≡ 8 → laid s d ≡ tailed d
unfolding geometry_bytes size_bytes name_bytes
record_laid s d l bus interface path device tail =
    let n : length (tailed d) ≡ 76 = simp (length-append, length-le_bytes, bus, interface, path, device, tail) in
    let w : sets s 0 (tailed d) ≡ tailed d = sets-whole s (tailed d) (l ∙ sym n) in
    let a : sets s 0 (tailed d) ≡ laid s d = simp (sets-append, length-append, length-le_bytes, bus, interface, path, device) in
    sym a ∙ w

-- of which the record is as much as its length says
pub record-taken : (d : Drive) → Arrays d → take (drive_length d.kind) (tailed d) ≡ record_of d
unfolding record_of tail_bytes
record-taken d f = by_kind (eqb d.kind 2) refl
  where
    front : List ℕ
    front = geometry_bytes d ++ (size_bytes d ++ name_bytes d)

    split : (x : List ℕ) → geometry_bytes d ++ (size_bytes d ++ (name_bytes d ++ x)) ≡ front ++ x
    split x = simp append_assoc

    long : length front ≡ 68
    long = simp (length-append, length_geometry, length-sizes, length-names d f)

    by_kind : (t : Bool) → eqb d.kind 2 ≡ t → take (pick t 76 68) (tailed d) ≡ geometry_bytes d ++ (size_bytes d ++ (name_bytes d ++ pick t d.tail []))
    by_kind true e = take_all 76 (tailed d) (simp (length-append, length_geometry, length-sizes, length-names d f, f.tail) (omega arith))
    by_kind false e = ap (take 68) (split d.tail) ∙ take_at front d.tail 68 long ∙ sym (append-nil front) ∙ sym (split [])

-- ---- from bytes to a drive and back

-- the bytes of a record are those of its drive
pub record-drive : (r : List ℕ) → Bytes r → length r ≡ drive_length (le 2 r 2) → le 2 r 0 ≡ drive_length (le 2 r 2) → record_of (drive_of r) ≡ r
unfolding drive_of record_of geometry_bytes size_bytes name_bytes tail_bytes tail_of
record-drive r b l e₀ = by_kind (eqb (le 2 r 2) 2) refl
  where
    w : (k at : ℕ) → at + k ≤ length r → le_bytes k (le k r at) ≡ part k r at
    w k at h = write_read k r at b h

    most : 68 ≤ length r
    most = rw l (length-least (le 2 r 2))

    g : geometry_bytes (drive_of r) ≡ part 16 r 0
    g = glue r 2 14 0 (ap (le_bytes 2) (sym e₀) ∙ w 2 0 (omega (arith, most))) (glue r 2 12 2 (w 2 2 (omega (arith, most)))
        (glue r 4 8 4 (w 4 4 (omega (arith, most))) (glue r 4 4 8 (w 4 8 (omega (arith, most))) (w 4 12 (omega (arith, most))))))

    s : size_bytes (drive_of r) ≡ part 22 r 16
    s = glue r 8 14 16 (w 8 16 (omega (arith, most))) (glue r 8 6 24 (w 8 24 (omega (arith, most))) (glue r 2 4 32 (w 2 32 (omega (arith, most))) (glue r 2 2 34 (w 2 34 (omega (arith, most))) (w 2 36 (omega (arith, most))))))

    n : name_bytes (drive_of r) ≡ part 30 r 38
    n = glue_one r 29 38 (omega (arith, most)) (glue_one r 28 39 (omega (arith, most)) (glue r 4 24 40 refl (glue r 8 16 44 refl (glue r 8 8 52 refl refl))))

    by_kind : (t : Bool) → eqb (le 2 r 2) 2 ≡ t
        → geometry_bytes (drive_of r) ++ (size_bytes (drive_of r) ++ (name_bytes (drive_of r) ++ pick t (pick t (part 8 r 68) (replicate 8 0)) [])) ≡ r
    by_kind true e = glue r 16 60 0 g (glue r 22 38 16 s (glue r 30 8 38 n refl)) ∙ take_all 76 r (rw (l, e) (omega arith))
    by_kind false e = glue r 16 52 0 g (glue r 22 30 16 s (append-nil (name_bytes (drive_of r)) ∙ n)) ∙ take_all 68 r (rw (l, e) (omega arith))

-- a part past the first of two lists
part-past : (k m : ℕ) {n : ℕ} (a b : List ℕ) → length a ≡ n → part k (a ++ b) (n + m) ≡ part k b m
part-past k m a b e = rw (← e, drop-append-add)

-- what a record has room for: of a drive of kind 1 no tail
abbrev pub shortened : Drive → Drive
shortened d = record {
  cylinders = d.cylinders;
  heads = d.heads;
  sectors = d.sectors;
  blocks = d.blocks;
  first = d.first;
  flags = d.flags;
  c = d.c;
  h = d.h;
  s = d.s;
  protection = d.protection;
  bus = d.bus;
  interface = d.interface;
  path = d.path;
  device = d.device;
  kind = d.kind;
  tail = pick (eqb d.kind 2) d.tail (replicate 8 0);
}

-- its bytes with the fields of its end one by one
abbrev joined : Drive → List ℕ
joined d = geometry_bytes d ++ (size_bytes d ++ (d.s ∷ d.protection ∷ (d.bus ++ (d.interface ++ (d.path ++ (d.device ++ tail_bytes d))))))

record-joined : (d : Drive) → record_of d ≡ joined d
unfolding record_of name_bytes
record-joined d = simp append_assoc

kind-record : (d : Drive) → Fits d → le 2 (record_of d) 2 ≡ d.kind
unfolding record_of geometry_bytes le le_bytes
kind-record d f = read-write 2 d.kind f.kind

pub length_word_record : (d : Drive) → le 2 (record_of d) 0 ≡ drive_length d.kind
unfolding record_of geometry_bytes le le_bytes
length_word_record d = read-write 2 (drive_length d.kind) (omega (arith, length_most d.kind))

tail-joined : (d : Drive) → Fits d → eqb d.kind 2 ≡ true → part 8 (joined d) 68 ≡ d.tail
unfolding geometry_bytes size_bytes tail_bytes le_bytes
tail-joined d f e =
    let end : List ℕ = tail_bytes d in
    let devices : List ℕ = d.device ++ end in
    let paths : List ℕ = d.path ++ devices in
    let names : List ℕ = d.interface ++ paths in
    part-past 8 24 d.bus names f.bus ∙ part-past 8 16 d.interface paths f.interface ∙ part-past 8 8 d.path devices f.path ∙ part-past 8 0 d.device end f.device
    ∙ ap (λ (t : Bool). take 8 (pick t d.tail [])) e ∙ take_all 8 d.tail (omega (arith, f.tail))

pub tail-record : (d : Drive) → Fits d → eqb d.kind 2 ≡ true → part 8 (record_of d) 68 ≡ d.tail
tail-record d f e = ap (λ (r : List ℕ). part 8 r 68) (record-joined d) ∙ tail-joined d f e

tails : (d : Drive) → Fits d → tail_of (joined d) ≡ pick (eqb d.kind 2) d.tail (replicate 8 0)
unfolding tail_of
tails d f =
    ap (λ (k : ℕ). pick (eqb k 2) (part 8 (joined d) 68) (replicate 8 0)) (ap (λ (r : List ℕ). le 2 r 2) (sym (record-joined d)) ∙ kind-record d f)
    ∙ pick_same (eqb d.kind 2) (part 8 (joined d) 68) d.tail (tail-joined d f)
  where
    pick_same : (t : Bool) (x y : List ℕ) → (t ≡ true → x ≡ y) → pick t x (replicate 8 0) ≡ pick t y (replicate 8 0)
    pick_same true x y h = h refl
    pick_same false x y h = refl

drive-joined : (d : Drive) → Fits d → drive_of (joined d) ≡ shortened d
unfolding drive_of geometry_bytes size_bytes le le_bytes
drive-joined d f =
    let devices : List ℕ = d.device ++ tail_bytes d in
    let paths : List ℕ = d.path ++ devices in
    let names : List ℕ = d.interface ++ paths in
    λ i. record {
      cylinders = read-write 4 d.cylinders f.cylinders i;
      heads = read-write 4 d.heads f.heads i;
      sectors = read-write 4 d.sectors f.sectors i;
      blocks = read-write 8 d.blocks f.blocks i;
      first = read-write 8 d.first f.first i;
      flags = read-write 2 d.flags f.flags i;
      c = read-write 2 d.c f.c i;
      h = read-write 2 d.h f.h i;
      s = d.s;
      protection = d.protection;
      bus = take_at d.bus names 4 f.bus i;
      interface = (part-past 8 0 d.bus names f.bus ∙ take_at d.interface paths 8 f.interface) i;
      path = (part-past 8 8 d.bus names f.bus ∙ part-past 8 0 d.interface paths f.interface ∙ take_at d.path devices 8 f.path) i;
      device = (part-past 8 16 d.bus names f.bus ∙ part-past 8 8 d.interface paths f.interface ∙ part-past 8 0 d.path devices f.path ∙ take_at d.device (tail_bytes d) 8 f.device) i;
      kind = read-write 2 d.kind f.kind i;
      tail = tails d f i;
    }

-- the record of a drive says that drive, as far as there is room
pub drive_shortened : (d : Drive) → Fits d → drive_of (record_of d) ≡ shortened d
drive_shortened d f = ap drive_of (record-joined d) ∙ drive-joined d f

-- a drive whose kind has no tail has none
abbrev pub Tailed : Drive → Type 0
Tailed d = eqb d.kind 2 ≡ false → d.tail ≡ replicate 8 0

pub shortened_is : (d : Drive) → Tailed d → shortened d ≡ d
shortened_is d t = by_kind (eqb d.kind 2) refl
  where
    by_kind : (k : Bool) → eqb d.kind 2 ≡ k → shortened d ≡ d
    by_kind true e = rw e refl
    by_kind false e = rw (e, ← t e) refl

-- the record of a drive says that drive
pub drive-record : (d : Drive) → Fits d → Tailed d → drive_of (record_of d) ≡ d
drive-record d f t = drive_shortened d f ∙ shortened_is d t

pub arrays_drive : (r : List ℕ) → length r ≡ drive_length (le 2 r 2) → Arrays (drive_of r)
unfolding drive_of tail_of
arrays_drive r l =
    record { bus = n 4 40 (omega arith); interface = n 8 44 (omega arith); path = n 8 52 (omega arith); device = n 8 60 (omega arith); tail = by_kind (eqb (le 2 r 2) 2) refl }
  where
    long : (k at m : ℕ) → at + k ≤ m → length r ≡ m → length (part k r at) ≡ k
    long k at m h e = length-take-le k (drop at r) (simp length-drop (omega arith))

    n : (k at : ℕ) → at + k ≤ 68 → length (part k r at) ≡ k
    n k at h = long k at (drive_length (le 2 r 2)) (omega (arith, h, length-least (le 2 r 2))) l

    by_kind : (t : Bool) → eqb (le 2 r 2) 2 ≡ t → length (pick t (part 8 r 68) (replicate 8 0)) ≡ 8
    by_kind true e = long 8 68 76 (omega arith) (rw e at l)
    by_kind false e = refl

-- C x H x S of good fields is at most the blocks
pub geometry_inside : (d : Drive) → fields_ok d ≡ true → size (geometry_of d) ≤ d.blocks
unfolding fields_ok geometry_fits
geometry_inside d h =
    let names : Bool = both (bus_ok d.bus) (kind_ok d) in
    let fits : Bool = both (in_limits (geometry_of d)) (leb (size (geometry_of d)) d.blocks) in
    let p = both_true (leb 1 d.blocks) (both (ltb d.flags 128) (both fits (both (leb d.protection 1) names))) h in
    let q = both_true (ltb d.flags 128) (both fits (both (leb d.protection 1) names)) p.1 in
    let r = both_true fits (both (leb d.protection 1) names) q.1 in
    leb-true (size (geometry_of d)) d.blocks (both_true (in_limits (geometry_of d)) (leb (size (geometry_of d)) d.blocks) r.0).1

-- the drive of a record fits its fields
pub fits-drive : (r : List ℕ) → Bytes r → length r ≡ drive_length (le 2 r 2) → Fits (drive_of r)
unfolding drive_of
fits-drive r b l =
    let a = arrays_drive r l in
    record {
      cylinders = le_lt 4 r 4 b;
      heads = le_lt 4 r 8 b;
      sectors = le_lt 4 r 12 b;
      blocks = le_lt 8 r 16 b;
      first = le_lt 8 r 24 b;
      flags = le_lt 2 r 32 b;
      c = le_lt 2 r 34 b;
      h = le_lt 2 r 36 b;
      bus = a.bus;
      interface = a.interface;
      path = a.path;
      device = a.device;
      kind = le_lt 2 r 2 b;
      tail = a.tail;
    }

-- ---- names

pub same_refl : (a : List ℕ) → same a a ≡ true
unfolding same
same_refl [] = refl
same_refl (x ∷ a) = rw (eq-eqb x x refl) (same_refl a)

pub same_true : (a b : List ℕ) → same a b ≡ true → a ≡ b
unfolding same
same_true [] [] e = refl
same_true [] (y ∷ b) e = impossible (cc)
same_true (x ∷ a) [] e = impossible (cc)
same_true (x ∷ a) (y ∷ b) e =
    let p = both_true (eqb x y) (same a b) e in
    let q : x ≡ y = eqb-true x y p.0 in
    let r : a ≡ b = same_true a b p.1 in
    cc

-- good fields are those that the kind allows
pub kind-good : (d : Drive) → fields_ok d ≡ true → kind_ok d ≡ true
unfolding fields_ok
kind-good d h =
    let p = (both_true (leb 1 d.blocks) _ h).1 in
    let q = (both_true (ltb d.flags 128) _ p).1 in
    let r = (both_true (geometry_fits d) _ q).1 in
    (both_true (bus_ok d.bus) (kind_ok d) (both_true (leb d.protection 1) _ r).1).1

pub tailed_kind : (d : Drive) → kind_ok d ≡ true → Tailed d
unfolding kind_ok zero_tail
tailed_kind d h e =
    let narrow : both (eqb d.kind 1) (both (interface_ok d.interface) (same d.tail (replicate 8 0))) ≡ true = rw e at h in
    same_true d.tail (replicate 8 0) (both_true (interface_ok d.interface) _ (both_true (eqb d.kind 1) _ narrow).1).1

pub tailed_good : (d : Drive) → fields_ok d ≡ true → Tailed d
tailed_good d h = tailed_kind d (kind-good d h)

-- and the kind is one of a drive
pub drive-kind : (d : Drive) → fields_ok d ≡ true → is_drive_kind d.kind ≡ true
unfolding kind_ok
drive-kind d h = by_kind (eqb d.kind 2) refl (kind-good d h)
  where
    either_true_right : (a : Bool) → either a true ≡ true
    either_true_right true = refl
    either_true_right false = refl

    by_kind : (t : Bool) → eqb d.kind 2 ≡ t
        → pick t (either (interface_ok d.interface) (is_i2o d)) (both (eqb d.kind 1) (both (interface_ok d.interface) (zero_tail d))) ≡ true
        → either (eqb d.kind 1) t ≡ true
    by_kind true e g = either_true_right (eqb d.kind 1)
    by_kind false e g = rw (both_true (eqb d.kind 1) _ g).0 refl

-- the test that `==` of arrays makes
pub pointwise_same : (a b : List ℕ) → pointwise eqb a b ≡ same a b
pointwise_same a b =
    true_iff (pointwise eqb a b) (same a b) (λ e. rw ((bytes_decides a b).0 e) (same_refl b)) (λ e. (bytes_decides a b).1 (same_true a b e))

-- equal words are the same bytes
pub same_value : (k : ℕ) (a b : List ℕ) → length a ≡ k → length b ≡ k → Bytes a → Bytes b → eqb (le k a 0) (le k b 0) ≡ same a b
same_value k a b la lb ha hb = by_value (eqb (le k a 0) (le k b 0)) refl
  where
    by_value : (t : Bool) → eqb (le k a 0) (le k b 0) ≡ t → eqb (le k a 0) (le k b 0) ≡ same a b
    by_value true e = e ∙ sym (rw (same_bytes k a b la lb ha hb (eqb-true _ _ e)) (same_refl b))
    by_value false e = e ∙ sym (differ (same a b) refl)
      where
        differ : (t : Bool) → same a b ≡ t → t ≡ false
        differ true q = absurd (eqb-false _ _ e (ap (λ (l : List ℕ). le k l 0) (same_true a b q)))
        differ false q = refl

-- a test, computed over a whole name, that its elements are bytes
abbrev pub all_bytes : List ℕ → Bool
all_bytes [] = true
all_bytes (x ∷ l) = both (ltb x 256) (all_bytes l)

all_bytes_true : (l : List ℕ) → all_bytes l ≡ true → Bytes l
all_bytes_true [] e i = omega arith
all_bytes_true (x ∷ l) e zero = ltb-true x 256 (both_true (ltb x 256) (all_bytes l) e).0
all_bytes_true (x ∷ l) e (suc i) = all_bytes_true l (both_true (ltb x 256) (all_bytes l) e).1 i

-- bytes that are compared with a name by their words
pub named : (k : ℕ) (b name : List ℕ) → length b ≡ k → length name ≡ k → Bytes b → all_bytes name ≡ true → eqb (le k b 0) (le k name 0) ≡ same b name
named k b name lb ln hb t = same_value k b name lb ln hb (all_bytes_true name t)

-- and as the code reads the words
pub named_word : {v : ℕ} (k : ℕ) (b name : List ℕ) → v ≡ sum_through (λ i. byte_worth i (slice_index b i)) k → length b ≡ suc k → Bytes b → length name ≡ suc k
    → all_bytes name ≡ true → eqb (sum_through (λ i. byte_worth i (slice_index name i)) k) v ≡ same b name
named_word {v = v} k b name e lb hb ln t =
    true_iff (eqb (sum_through (λ i. byte_worth i (slice_index name i)) k) v) (same b name)
    (λ q.
    let p : le (suc k) b 0 ≡ le (suc k) name 0 = sym (sum_bytes k b) ∙ sym e ∙ sym (eqb-true _ _ q) ∙ sum_bytes k name in
    rw (same_bytes (suc k) b name lb ln hb (all_bytes_true name t) p) (same_refl name))
    (λ q. eq-eqb _ _ (ap (λ (l : List ℕ). sum_through (λ i. byte_worth i (slice_index l i)) k) (sym (same_true b name q)) ∙ sym e))

-- ---- every field zero

-- each byte of an array is zero
abbrev Zeros : List ℕ → ℕ → Type 0
Zeros l n = AllOfLen (λ (x : ℕ). x ≡ 0) l n

zeros : (l : List ℕ) (n : ℕ) → Zeros l n → l ≡ replicate n 0
zeros l n z =
    ext_get_or 0 l (replicate n 0) (z.long ∙ sym (length-replicate n 0)) (λ i h.
    let k : i < n = rw z.long at h in
    z.at i 0 k ∙ sym (get_or-replicate n i 0 0 k))

-- what `Drive::default` says of each field
pub zero_fields : (d : Drive)
    → (d.cylinders ≡ 0) × ((d.heads ≡ 0) × ((d.sectors ≡ 0) × ((d.blocks ≡ 0) × ((d.first ≡ 0) × ((d.flags ≡ 0) × ((d.c ≡ 0) × ((d.h ≡ 0) × ((d.s ≡ 0) × (
    (d.protection ≡ 0) × (Zeros d.bus 4 × (Zeros d.interface 8 × (Zeros d.path 8 × (Zeros d.device 8 × ((d.kind ≡ 0) × (Zeros d.tail 8))))))))))))))) → d ≡ zero_drive
zero_fields d (cylinders, (heads, (sectors, (blocks, (first, (flags, (c, (h, (s, (protection, (bus, (interface, (path, (device, (kind, tail))))))))))))))) = λ i. record {
  cylinders = cylinders i;
  heads = heads i;
  sectors = sectors i;
  blocks = blocks i;
  first = first i;
  flags = flags i;
  c = c i;
  h = h i;
  s = s i;
  protection = protection i;
  bus = zeros d.bus 4 bus i;
  interface = zeros d.interface 8 interface i;
  path = zeros d.path 8 path i;
  device = zeros d.device 8 device i;
  kind = kind i;
  tail = zeros d.tail 8 tail i;
}

-- the tests of `is_blank` in the order of the fields
pub blank_fields : (d : Drive) → is_blank d
    ≡ both (eqb d.cylinders 0) (both (eqb d.heads 0) (both (eqb d.sectors 0) (both (eqb d.blocks 0) (both (eqb d.first 0) (both (eqb d.flags 0) (both (eqb d.c 0) (both (eqb d.h 0)
    (both (eqb d.s 0) (both (eqb d.protection 0) (both (same d.bus (replicate 4 0)) (both (same d.interface (replicate 8 0)) (both (same d.path (replicate 8 0))
    (both (same d.device (replicate 8 0)) (both (eqb d.kind 0) (same d.tail (replicate 8 0))))))))))))))))
unfolding is_blank blank_numbers blank_names zero_tail
blank_fields d =
    simp (both_assoc, kind_last (eqb d.kind 0) (same d.bus (replicate 4 0)) (same d.interface (replicate 8 0)) (same d.path (replicate 8 0)) (same d.device (replicate 8 0)) (same d.tail (replicate 8 0)))
  where
    kind_last : (k b i p v t : Bool) → both k (both b (both i (both p (both v t)))) ≡ both b (both i (both p (both v (both k t))))
    kind_last true b i p v t = refl
    kind_last false b i p v t = rw (both_false v, both_false p, both_false i, both_false b)

-- ---- two drives, by differences

-- the one run of blocks begins first, or the other does
module _ (first blocks other others : ℕ) where
  pub overlap_before : first ≤ other → ltb (other - first) blocks ≡ pick (leb first other) (ltb other (first + blocks)) (ltb first (other + others))
  overlap_before h = rw (le-leb first other h) (leb_iff (suc (other - first)) blocks (suc other) (first + blocks) (λ q. omega arith) (λ q. omega arith))

  pub overlap_after : other < first → ltb (first - other) others ≡ pick (leb first other) (ltb other (first + blocks)) (ltb first (other + others))
  overlap_after h = rw (lt-leb first other h) (leb_iff (suc (first - other)) others (suc first) (other + others) (λ q. omega arith) (λ q. omega arith))

-- drives of at least one block overlap exactly where some store block is in both
pub overlap_common : (a b : Drive) → 1 ≤ a.blocks → 1 ≤ b.blocks → (overlap a b ≡ true) ↔ ((n : ℕ) × (Holds a n × Holds b n))
unfolding overlap
overlap_common a b p q = (to (leb a.first b.first) refl, from (leb a.first b.first) refl)
  where
    to : (t : Bool) → leb a.first b.first ≡ t
        → pick t (ltb b.first (a.first + a.blocks)) (ltb a.first (b.first + b.blocks)) ≡ true → (n : ℕ) × (Holds a n × Holds b n)
    to true e h = let l = leb-true a.first b.first e in let r = ltb-true b.first (a.first + a.blocks) h in (b.first, ((l, r), (omega arith, omega arith)))
    to false e h = let l = leb-false a.first b.first e in let r = ltb-true a.first (b.first + b.blocks) h in (a.first, ((omega arith, omega arith), (omega arith, r)))

    from : (t : Bool) → leb a.first b.first ≡ t
        → (n : ℕ) × (Holds a n × Holds b n) → pick t (ltb b.first (a.first + a.blocks)) (ltb a.first (b.first + b.blocks)) ≡ true
    from true e (n, (ha, hb)) = lt-ltb b.first (a.first + a.blocks) (omega (arith, ha.1, hb.0))
    from false e (n, (ha, hb)) = lt-ltb a.first (b.first + b.blocks) (omega (arith, ha.0, hb.1))
