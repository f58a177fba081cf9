-- Laws of the guests' windows (specs/Window.antt).
-- Assumes nothing.
use mathlib.Core.Path.{◌≡◌, refl, sym, ◌∙◌}
use mathlib.Core.Logic.{◌≢◌, ◌⊎◌, inl, inr}
use mathlib.Core.Bool.{Bool, true, false}
use mathlib.Core.List.{List, ◌++◌}
use Prim.Native.Nat.{ℕ, suc, ◌+◌, ◌*◌, ◌-◌, ◌≤◌, ◌<◌}
use native.Mathlib.Nat.{mul-le-mul_right}
use native.Mathlib.Omega.{arith}
use lib.Dec.{ltb, leb}
use borrow.Rule.Slice.PartMut.{put_mid}
use lib.ListN.{length, take, drop}
use lib.Seq.{sets, length-sets}
use Rattle.words.specs.Words.{part}
use borrow.Author.Tests.{le-ltb, lt-ltb, le-leb, lt-leb, ltb-true, ltb-false, leb-true, leb-false}
use Rattle.memory.specs.Window.{guests, window_length, span_start, span_length, window_of, with_window}
use Rattle.memory.proofs.Sets.{length_part, part-sets-before, part-sets-after, part-sets-same, sets-part, sets_twice, sets_lent, drop-sets}

-- ---- where a window lies

-- eight windows of M bytes lie in the arena
pub window-fits : (n g m : ℕ) → m ≤ window_length n → g < guests → g * m + m ≤ guests * window_length n
window-fits n g m hm hg =
    let h7 : g ≤ 7 = omega arith in
    omega (arith, mul-le-mul_right m h7)

pub span_in : (n g m : ℕ) → m ≤ window_length n → g < guests → (span_start n g m ≡ g * m) × (span_length n g m ≡ m)
unfolding span_start span_length
span_in n g m hm hg = (simp (le-leb _ _ hm, lt-ltb _ _ hg), simp (le-leb _ _ hm, lt-ltb _ _ hg))

pub span_wide : (n g m : ℕ) → window_length n < m → (span_start n g m ≡ 0) × (span_length n g m ≡ 0)
unfolding span_start span_length
span_wide n g m h = (simp (lt-leb _ _ h), simp (lt-leb _ _ h))

pub span_stranger : (n g m : ℕ) → m ≤ window_length n → guests ≤ g → (span_start n g m ≡ 0) × (span_length n g m ≡ 0)
unfolding span_start span_length
span_stranger n g m hm hg = (simp (le-leb _ _ hm, le-ltb _ _ hg), simp (le-leb _ _ hm, le-ltb _ _ hg))

-- a length and a guest have a window inside, or none
by_span : (n g m : ℕ) (P : Type 0)
    → (m ≤ window_length n → g < guests → P) → ((span_start n g m ≡ 0) × (span_length n g m ≡ 0) → P) → P
by_span n g m P inside none = by_length (leb m (window_length n)) refl
  where
    by_guest : m ≤ window_length n → (t : Bool) → ltb g guests ≡ t → P
    by_guest h true e = inside h (ltb-true _ _ e)
    by_guest h false e = none (span_stranger n g m h (ltb-false _ _ e))

    by_length : (t : Bool) → leb m (window_length n) ≡ t → P
    by_length true e = by_guest (leb-true _ _ e) (ltb g guests) refl
    by_length false e = none (span_wide n g m (leb-false _ _ e))

-- the odd bytes at the arena's end belong to no window
pub span_within : (n g m : ℕ) → span_start n g m + span_length n g m ≤ guests * window_length n
span_within n g m =
    by_span n g m (span_start n g m + span_length n g m ≤ guests * window_length n)
    (λ hm hg. let s = span_in n g m hm hg in omega (arith, window-fits n g m hm hg))
    (λ s. omega arith)

-- one window ends before the other starts
abbrev pub Apart : ℕ → ℕ → ℕ → ℕ → Type 0
Apart n g h m = (span_start n g m + span_length n g m ≤ span_start n h m) ⊎ (span_start n h m + span_length n h m ≤ span_start n g m)

span_below : (n g h m : ℕ) → g < h → Apart n g h m
span_below n g h m l =
    by_span n h m (Apart n g h m)
    (λ hm hh.
    let hg : g < guests = omega arith in
    let s = span_in n g m hm hg in
    let t = span_in n h m hm hh in
    let q : suc g ≤ h = omega arith in
    inl (omega (arith, mul-le-mul_right m q)))
    (λ s. inr (omega arith))

swap : {A B : Type 0} → A ⊎ B → B ⊎ A
swap (inl x) = inr x
swap (inr y) = inl y

-- two guests share no byte
pub span_apart : (n g h m : ℕ) → g ≢ h → Apart n g h m
span_apart n g h m d = by_order (ltb g h) refl
  where
    by_order : (t : Bool) → ltb g h ≡ t → Apart n g h m
    by_order true t = span_below n g h m (ltb-true g h t)
    by_order false t = swap (span_below n h g m (omega (arith, d, ltb-false g h t)))

-- ---- the bytes of a window

pub length-window : (a : List ℕ) (g m : ℕ) → length (window_of a g m) ≡ span_length (length a) g m
length-window a g m =
    length_part (span_length (length a) g m) a (span_start (length a) g m) (omega (arith, span_within (length a) g m))

pub length-with_window : (a : List ℕ) (g m : ℕ) (w : List ℕ) → length (with_window a g m w) ≡ length a
length-with_window a g m w = length-sets a (span_start (length a) g m) w

pub window_with_same : (a : List ℕ) (g m : ℕ) (w : List ℕ) → length w ≡ span_length (length a) g m → window_of (with_window a g m w) g m ≡ w
window_with_same a g m w e =
    let h : span_start (length a) g m + length w ≤ length a = omega (arith, span_within (length a) g m) in
    rw (length-with_window a g m w, ← e) (part-sets-same a (span_start (length a) g m) w h)

pub window_with_other : (a : List ℕ) (g h m : ℕ) (w : List ℕ) → g ≢ h → length w ≡ span_length (length a) g m →
    window_of (with_window a g m w) h m ≡ window_of a h m
window_with_other a g h m w d e = rw (length-with_window a g m w) (by_place (span_apart (length a) g h m d))
  where
    n : ℕ
    n = length a

    by_place : Apart n g h m → part (span_length n h m) (sets a (span_start n g m) w) (span_start n h m) ≡ window_of a h m
    by_place (inl l) = part-sets-after (span_length n h m) a (span_start n h m) (span_start n g m) w (omega arith)
    by_place (inr l) = part-sets-before (span_length n h m) a (span_start n h m) (span_start n g m) w l

-- writing back what a window holds changes nothing
pub with_window-same : (a : List ℕ) (g m : ℕ) → with_window a g m (window_of a g m) ≡ a
with_window-same a g m =
    sets-part (span_length (length a) g m) a (span_start (length a) g m) (omega (arith, span_within (length a) g m))

-- of two writes of one window the second stays
pub with_window_twice : (a : List ℕ) (g m : ℕ) (v w : List ℕ) → length v ≡ span_length (length a) g m → length w ≡ span_length (length a) g m →
    with_window (with_window a g m v) g m w ≡ with_window a g m w
with_window_twice a g m v w e f =
    let h : span_start (length a) g m + length w ≤ length a = omega (arith, span_within (length a) g m) in
    rw (length-with_window a g m v) (sets_twice a (span_start (length a) g m) v w (e ∙ sym f) h)

-- the odd bytes past the eight windows never change
pub tail-with_window : (a : List ℕ) (g m : ℕ) (w : List ℕ) → length w ≡ span_length (length a) g m →
    drop (guests * window_length (length a)) (with_window a g m w) ≡ drop (guests * window_length (length a)) a
tail-with_window a g m w e =
    drop-sets (guests * window_length (length a)) a (span_start (length a) g m) w (omega (arith, span_within (length a) g m))

-- a window's part that was lent comes back
pub with_window_lent : (a : List ℕ) (g m : ℕ) (w : List ℕ) → length w ≡ span_length (length a) g m →
    take (span_start (length a) g m) a ++ (w ++ drop (span_length (length a) g m) (drop (span_start (length a) g m) a)) ≡ with_window a g m w
with_window_lent a g m w e =
    sets_lent a (span_start (length a) g m) (span_length (length a) g m) w e (omega (arith, span_within (length a) g m))

-- and so does one between two places that were found
pub window_back : {start end : ℕ} {v w : List ℕ} (a : List ℕ) (g m : ℕ) → start ≡ span_start (length a) g m
    → end ≡ span_start (length a) g m + span_length (length a) g m → v ≡ w → length w ≡ length (window_of a g m)
    → put_mid start (end - start) a v ≡ with_window a g m w
window_back {w = w} a g m s e q l =
    let k : span_start (length a) g m + span_length (length a) g m - span_start (length a) g m ≡ span_length (length a) g m = omega arith in
    rw (s, e, q, k) (with_window_lent a g m w (l ∙ length-window a g m))
