-- Laws of little-endian words and of runs of stores, over the width.
-- Assumes nothing.
use mathlib.Core.Path.{◌≡◌, refl, sym, ap, ◌∙◌}
use mathlib.Core.List.{List, [], ◌∷◌, ◌++◌, append-nil, append_assoc}
use Prim.Native.Nat.{ℕ, zero, suc, ◌+◌, ◌-◌, ◌*◌, ◌/◌, ◌%◌, ◌^◌, ◌≤◌, ◌<◌}
use native.Mathlib.Nat.{add-zero, add-suc, suc-add, zero-add, add_assoc, mul-add, mul_assoc, mul_comm, pow-suc, mul-zero, one-mul, mod-one, mul-le-mul_left, add-mul-div_left, add-mul-mod_self_left, div-eq_of_lt, mod-eq_of_lt, one-le-pow, mod-lt, div-one, div-div-eq-div-mul, pow-succ'}
use native.Mathlib.Numerals.{one-add, add-one}
use native.Mathlib.Omega.{arith}
use mathlib.Core.Bool.{Bool, true, false}
use lib.Dec.{ltb}
use borrow.Author.Tests.{ltb-true, ltb-false}
use lib.ListN.{length, get_or, set, take, drop, length-drop, length-take, drop_of_length-le, get_or-eq_default}
use lib.Seq.{take-add, drop-cons, sets-eq, take-suc, length-take-le, sets, drop-drop, ext_get_or, get_or-take, get_or-drop}
use borrow.Rule.Slice.PartMut.{put_mid}
use lib.Pow.{pow-add}
use lib.Arith.{mod-mul, digits_div, digits_mod}
use Rattle.std.specs.Prelude.{slice_index}
use Rattle.std.specs.Int.{bytes_low_first, byte_at, byte_worth, sum_through}
use Rattle.words.specs.Words.{Bytes, le, le_bytes, part}

pos : (k : ℕ) → 0 < 256 ^ k
pos k = one-le-pow k 256 (omega arith)

-- ---- the number of k bytes

-- the first j bytes and the k that follow
pub le_split : (j k : ℕ) (s : List ℕ) (at : ℕ) → le (j + k) s at ≡ le j s at + 256 ^ j * le k s (at + j)
unfolding le
le_split j zero s at = rw (add-zero, mul-zero, add-zero)
le_split j (suc k) s at =
    rw (add-suc, le_split j k, pow-add, ← add_assoc at j k)
    (omega (arith, mul-add (256 ^ j) (le k s (at + j)) (256 ^ k * get_or s (at + j + k) 0), mul_assoc (256 ^ j) (256 ^ k) (get_or s (at + j + k) 0)))

-- a word fits its width
pub le_lt : (k : ℕ) (s : List ℕ) (at : ℕ) → Bytes s → le k s at < 256 ^ k
unfolding le
le_lt zero s at h = omega arith
le_lt (suc k) s at h =
    let b : get_or s (at + k) 0 ≤ 255 = omega (arith, h (at + k)) in
    rw pow-suc (omega (arith, le_lt k s at h, mul-le-mul_left (256 ^ k) b))

-- only the k bytes count
pub le_ext : (k : ℕ) (s t : List ℕ) (a b : ℕ) → ((i : ℕ) → i < k → get_or s (a + i) 0 ≡ get_or t (b + i) 0) → le k s a ≡ le k t b
unfolding le
le_ext zero s t a b h = refl
le_ext (suc k) s t a b h = rw (le_ext k s t a b (λ i l. h i (omega arith)), h k (omega arith))

le-zero : (s : List ℕ) (at : ℕ) → le 0 s at ≡ 0
unfolding le
le-zero s at = refl

le_one : (s : List ℕ) (at : ℕ) → le 1 s at ≡ get_or s at 0
unfolding le
le_one s at = rw add-zero (omega arith)

le_low : (m : ℕ) (s : List ℕ) (at : ℕ) → Bytes s → le (suc m) s at % 256 ≡ get_or s at 0
unfolding le
le_low m s at h =
    let e : le (suc m) s at ≡ get_or s at 0 + 256 * le m s (at + 1) = rw (one-add, add-zero, zero-add, one-mul) at (le_split 1 m s at) in
    rw (e, add-mul-mod_self_left, mod-eq_of_lt (h at))

-- byte i of a word that was read
le_digit : (i m : ℕ) (s : List ℕ) (at : ℕ) → Bytes s → le (i + suc m) s at / 256 ^ i % 256 ≡ get_or s (at + i) 0
le_digit i m s at h =
    rw (le_split i (suc m) s at, add-mul-div_left (le i s at) (le (suc m) s (at + i)) (pos i), div-eq_of_lt (le_lt i s at h), zero-add)
    (le_low m s (at + i) h)

digit : (k i : ℕ) (a : List ℕ) (at : ℕ) → Bytes a → i < k → le k a at / 256 ^ i % 256 ≡ get_or a (at + i) 0
digit k i a at h l =
    let e : i + suc (k - suc i) ≡ k = omega arith in
    rw e at (le_digit i (k - suc i) a at h)

-- equal words are equal bytes
pub same_bytes : (k : ℕ) (a b : List ℕ) → length a ≡ k → length b ≡ k → Bytes a → Bytes b → le k a 0 ≡ le k b 0 → a ≡ b
same_bytes k a b la lb ha hb e =
    ext_get_or 0 a b (la ∙ sym lb) (λ i l.
    let q : i < k = omega arith in
    rw zero-add at (sym (digit k i a 0 ha q) ∙ ap (λ (n : ℕ). n / 256 ^ i % 256) e ∙ digit k i b 0 hb q))

-- ---- the bytes of a number

pub length-le_bytes : (k v : ℕ) → length (le_bytes k v) ≡ k
unfolding le_bytes
length-le_bytes zero v = refl
length-le_bytes (suc k) v = ap suc (length-le_bytes k (v / 256))

le_bytes-low : (k v : ℕ) → le_bytes k (v % 256 ^ k) ≡ le_bytes k v
unfolding le_bytes
le_bytes-low zero v = refl
le_bytes-low (suc k) v =
    let m : 0 < 256 = omega arith in
    rw (pow-suc 256 k, mod-mul v {m = 256 ^ k} {c = 256} (pos k) m, digits_mod (v / 256 % 256 ^ k) (mod-lt v m), digits_div (v / 256 % 256 ^ k) (mod-lt v m), le_bytes-low k (v / 256))

pub le_bytes-append : (j k v : ℕ) → le_bytes (j + k) v ≡ le_bytes j v ++ le_bytes k (v / 256 ^ j)
unfolding le_bytes
le_bytes-append zero k v = rw (zero-add, div-one)
le_bytes-append (suc j) k v =
    rw (suc-add, le_bytes-append j k (v / 256), div-div-eq-div-mul v 256 (256 ^ j), ← pow-succ' 256 j)

le_bytes-split : (j k v : ℕ) → le_bytes (j + k) v ≡ le_bytes j (v % 256 ^ j) ++ le_bytes k (v / 256 ^ j)
le_bytes-split j k v = rw le_bytes-low (le_bytes-append j k v)

-- read of what was written
le-le_bytes : (k v : ℕ) → le k (le_bytes k v) 0 ≡ v % 256 ^ k
unfolding le_bytes
le-le_bytes zero v = le-zero (le_bytes 0 v) 0 ∙ sym (mod-one v)
le-le_bytes (suc k) v =
    let m : 0 < 256 = omega arith in
    let x : List ℕ = v % 256 ∷ le_bytes k (v / 256) in
    let e : le (suc k) x 0 ≡ le 1 x 0 + 256 ^ 1 * le k x 1 = rw one-add at (le_split 1 k x 0) in
    let f : le k x 1 ≡ le k (le_bytes k (v / 256)) 0 = le_ext k x (le_bytes k (v / 256)) 1 0 (λ i h. rw (one-add, zero-add)) in
    let g : le 1 x 0 ≡ v % 256 = le_one x 0 in
    rw (e, f, g, le-le_bytes k (v / 256), pow-suc 256 k, mod-mul v {m = 256 ^ k} {c = 256} (pos k) m) (omega arith)

pub read-write : (k v : ℕ) → v < 256 ^ k → le k (le_bytes k v) 0 ≡ v
read-write k v h = le-le_bytes k v ∙ mod-eq_of_lt h

-- the bytes of a number are bytes
pub bytes-le_bytes : (k v : ℕ) → Bytes (le_bytes k v)
unfolding le_bytes
bytes-le_bytes zero v i = omega arith
bytes-le_bytes (suc k) v zero = mod-lt v (omega arith)
bytes-le_bytes (suc k) v (suc i) = bytes-le_bytes k (v / 256) i

pub bytes-part : (k : ℕ) (s : List ℕ) (at : ℕ) → Bytes s → Bytes (part k s at)
bytes-part k s at h i = by_place (ltb i k) refl
  where
    by_place : (t : Bool) → ltb i k ≡ t → get_or (part k s at) i 0 < 256
    by_place true e =
        let l : i < k = ltb-true i k e in
        rw (get_or-take k (drop at s) i 0 l, get_or-drop) (h (at + i))
    by_place false e =
        let l : length (part k s at) ≤ i = rw length-take (omega (arith, ltb-false i k e)) in
        rw (get_or-eq_default (part k s at) 0 l) (omega arith)

-- write of what was read
pub write_read : (k : ℕ) (s : List ℕ) (at : ℕ) → Bytes s → at + k ≤ length s → le_bytes k (le k s at) ≡ part k s at
write_read k s at h l =
    let p : k ≤ length (drop at s) = simp length-drop (omega arith) in
    let byte : (i : ℕ) → i < k → get_or (part k s at) i 0 ≡ get_or s (at + i) 0 = λ i q. rw (get_or-take, get_or-drop) in
    same_bytes k (le_bytes k (le k s at)) (part k s at) (length-le_bytes k (le k s at)) (length-take-le k (drop at s) p)
    (bytes-le_bytes k (le k s at)) (bytes-part k s at h)
    (read-write k (le k s at) (le_lt k s at h) ∙ le_ext k s (part k s at) at 0 (λ i q. rw zero-add (sym (byte i q))))

-- ---- the library's words

-- bytes from i upward
bytes_low : (k i v : ℕ) → bytes_low_first i k v ≡ le_bytes k (v / 256 ^ i)
unfolding le_bytes
bytes_low zero i v = refl
bytes_low (suc k) i v =
    let next : v / 256 ^ i / 256 ≡ v / 256 ^ suc i = rw (div-div-eq-div-mul v (256 ^ i) 256, pow-suc 256 i) in
    rw (byte i, bytes_low k (suc i) v, next)
  where
    byte : (i : ℕ) → byte_at i v ≡ v / 256 ^ i % 256
    byte zero = rw div-one
    byte (suc i) = refl

-- the number that they say
pub sum_bytes : (k : ℕ) (b : List ℕ) → sum_through (λ i. byte_worth i (slice_index b i)) k ≡ le (suc k) b 0
unfolding le
sum_bytes zero b = sym (le_one b 0)
sum_bytes (suc k) b =
    let last : get_or b (suc k) 0 * 256 ^ suc k ≡ 256 ^ suc k * get_or b (0 + suc k) 0 =
    mul_comm (get_or b (suc k) 0) (256 ^ suc k) ∙ ap (λ (j : ℕ). 256 ^ suc k * get_or b j 0) (sym (zero-add (suc k))) in
    rw last (ap (λ (n : ℕ). n + 256 ^ suc k * get_or b (0 + suc k) 0) (sum_bytes k b))

-- what `from_le_bytes` makes of a part, and `to_le_bytes` of a number
pub word_read : {n : ℕ} {b : List ℕ} (k : ℕ) (s : List ℕ) (at : ℕ) → b ≡ part (suc k) s at → n ≡ sum_through (λ i. byte_worth i (slice_index b i)) k → n ≡ le (suc k) s at
word_read {b = b} k s at p e =
    e ∙ sum_bytes k b ∙ ap (λ (l : List ℕ). le (suc k) l 0) p
    ∙ le_ext (suc k) (part (suc k) s at) s 0 at (λ i q. rw (zero-add, get_or-take (suc k) (drop at s) i 0 q, get_or-drop))

pub word_bytes : (k v : ℕ) → bytes_low_first 0 k v ≡ le_bytes k v
word_bytes k v = bytes_low k 0 v ∙ ap (le_bytes k) (div-one v)

-- ---- runs of stores

-- a run of stores is two runs
pub sets-append : (s : List ℕ) (at : ℕ) (a b : List ℕ) → sets s at (a ++ b) ≡ sets (sets s at a) (at + length a) b
sets-append s at [] b = rw add-zero
sets-append s at (x ∷ a) b = rw (sets-append (set s at x) (suc at) a b, suc-add, ← add-suc)

-- the stores of a word's halves are the store of the word
pub sets_two : {o₁ o₂ : List ℕ} (j k : ℕ) (s : List ℕ) (at v : ℕ)
    → o₁ ≡ sets s at (le_bytes j (v % 256 ^ j)) → o₂ ≡ sets o₁ (at + j) (le_bytes k (v / 256 ^ j)) → o₂ ≡ sets s at (le_bytes (j + k) v)
sets_two j k s at v e₁ e₂ = rw (e₂, e₁, le_bytes-split, sets-append, length-le_bytes)

-- one store more
pub sets_more : (s : List ℕ) (at : ℕ) (a : List ℕ) (i : ℕ) → i < length a → set (sets s at (take i a)) (at + i) (get_or a i 0) ≡ sets s at (take (i + 1) a)
sets_more s at a i h =
    let l : length (take i a) ≡ i = length-take-le i a (omega arith) in
    rw (add-one, take-suc a i 0 h, sets-append, l)

-- a part of a slice that is written over is a run of stores
pub put_mid-sets : (s a : List ℕ) (at k : ℕ) → k ≡ length a → at + length a ≤ length s → put_mid at k s a ≡ sets s at a
put_mid-sets s a at k e h = rw (e, sets-eq a s at h, drop-drop (length a) at s) (sym (append_assoc (take at s) a (drop (at + length a) s)))

-- stores from the start leave what was stored, and then the rest
pub sets_front : (s a : List ℕ) → length a ≤ length s → sets s 0 a ≡ a ++ drop (length a) s
sets_front s a h = rw (sets-eq a s 0 (omega arith), zero-add)

pub sets-whole : (s a : List ℕ) → length s ≡ length a → sets s 0 a ≡ a
sets-whole s a h =
    let l : length s ≤ length a = omega arith in
    rw (sets_front s a (omega arith), drop_of_length-le s l) (append-nil a)

-- ---- parts

-- adjoining parts are one
pub glue : (s : List ℕ) (k n at : ℕ) {x y : List ℕ} → x ≡ part k s at → y ≡ part n s (at + k) → x ++ y ≡ part (k + n) s at
glue s k n at p q = rw (p, q, take-add k n (drop at s), drop-drop k at s)

pub glue_one : (s : List ℕ) (n at : ℕ) {y : List ℕ} → at < length s → y ≡ part n s (suc at) → get_or s at 0 ∷ y ≡ part (suc n) s at
glue_one s n at l q = rw (q, drop-cons s at 0 l)
