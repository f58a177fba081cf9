-- What the tests say.
-- Assumes nothing.
use mathlib.Core.Path.{◌≡◌, refl, sym, ap, ◌∙◌}
use mathlib.Core.Bool.{Bool, true, false, not, ◌&&◌, ◌||◌}
use mathlib.Core.List.{List, map}
use lib.ListN.{length, length-map}
use Prim.Native.Nat.{ℕ, zero, suc, ◌+◌, ◌-◌, ◌≤◌, ◌<◌}
use mathlib.Core.Logic.{◌⊎◌, inl, inr, ⊎_elim}
use lib.Dec.{leb, ltb}
use native.Mathlib.Nat.{add-zero, add-suc}
use native.Mathlib.Numerals.{add-one}
use native.Mathlib.Omega.{arith}
use borrow.Author.Tests.{leb-true, leb-false, le-leb, lt-leb, lt-ltb, le-ltb, ltb-true, ltb-false}
use Rattle.std.specs.List.{list_all, list_any, range_with_len}
use Rattle.logic.specs.Logic.{pick, both, either, in_range, all_below, some_below}

-- anything, where the equations in scope make two constructors equal: `impossible (cc)`
pub impossible : {A : Type 0} → ◌≡◌ {A = ℕ} 0 1 → A
impossible e = absurd (omega arith)

pub both_true : (a b : Bool) → both a b ≡ true → (a ≡ true) × (b ≡ true)
both_true true b e = (refl, e)
both_true false b e = impossible (cc)

pub both_intro : (a b : Bool) → a ≡ true → b ≡ true → both a b ≡ true
both_intro a b e f = rw (e, f)

pub both_assoc : (a b c : Bool) → both (both a b) c ≡ both a (both b c)
both_assoc true b c = refl
both_assoc false b c = refl

pub both_comm : (a b : Bool) → both a b ≡ both b a
both_comm true true = refl
both_comm true false = refl
both_comm false true = refl
both_comm false false = refl

pub both_left : (a b c : Bool) → both a (both b c) ≡ both b (both a c)
both_left true b c = refl
both_left false true c = refl
both_left false false c = refl

pub both_false : (a : Bool) → both a false ≡ false
both_false true = refl
both_false false = refl

pub both_itself : (a : Bool) → both a true ≡ a
both_itself true = refl
both_itself false = refl

pub pick-both : (t x : Bool) → pick t x false ≡ both t x
pick-both true x = refl
pick-both false x = refl

pub either-both : (t x y : Bool) → both (either t x) (either t y) ≡ either t (both x y)
either-both true x y = refl
either-both false x y = refl

pub not-either : (a b : Bool) → not (either a b) ≡ both (not a) (not b)
not-either true b = refl
not-either false b = refl

pub either_true : (a b : Bool) → either a b ≡ true → (a ≡ true) ⊎ (b ≡ true)
either_true true b e = inl refl
either_true false b e = inr e

pub either_false : (a b : Bool) → either a b ≡ false → (a ≡ false) × (b ≡ false)
either_false true b e = impossible (cc)
either_false false b e = (refl, e)

pub either_left : (a b : Bool) → a ≡ true → either a b ≡ true
either_left a b e = rw e

pub either_right : (a b : Bool) → b ≡ true → either a b ≡ true
either_right true b e = refl
either_right false b e = e

pub either_swap : (a b c : Bool) → either a (either b c) ≡ either b (either a c)
either_swap true true c = refl
either_swap true false c = refl
either_swap false b c = refl

-- a test passed, by what it picks
pub pick-cases : {A : Type 0} (P : A → Type 0) (t : Bool) (x y : A) → (t ≡ true → P x) → (t ≡ false → P y) → P (pick t x y)
pick-cases P true x y f g = f refl
pick-cases P false x y f g = g refl

pub true≢false : {A : Type 0} (t : Bool) → t ≡ true → t ≡ false → A
true≢false t e f = impossible (cc)

pub in_range_true : (x low high : ℕ) → in_range x low high ≡ true → (low ≤ x) × (x ≤ high)
in_range_true x low high e = let p = both_true _ _ e in (leb-true low x p.0, leb-true x high p.1)

-- two tests are the same where each says the other
pub true_iff : (x y : Bool) → (x ≡ true → y ≡ true) → (y ≡ true → x ≡ true) → x ≡ y
true_iff true y f g = sym (f refl)
true_iff false true f g = g refl
true_iff false false f g = refl

pub leb_iff : (a b m n : ℕ) → (a ≤ b → m ≤ n) → (m ≤ n → a ≤ b) → leb a b ≡ leb m n
leb_iff a b m n f g = by_test (leb a b) refl
  where
    by_test : (t : Bool) → leb a b ≡ t → leb a b ≡ leb m n
    by_test true e = e ∙ sym (le-leb m n (f (leb-true a b e)))
    by_test false e = e ∙ sym (lt-leb m n (not-le (leb m n) refl))
      where
        not-le : (t : Bool) → leb m n ≡ t → n < m
        not-le true q = absurd (omega (arith, leb-false a b e, g (leb-true m n q)))
        not-le false q = leb-false m n q

pub lt_or_le : (m n : ℕ) → (m < n) ⊎ (n ≤ m)
lt_or_le m n = by_test (ltb m n) refl
  where
    by_test : (t : Bool) → ltb m n ≡ t → (m < n) ⊎ (n ≤ m)
    by_test true e = inl (ltb-true m n e)
    by_test false e = inr (ltb-false m n e)

-- ---- a sum that does not wrap, by differences

pub ends-past : (place n end : ℕ) → end < place → false ≡ leb (place + n) end
ends-past place n end h = sym (lt-leb (place + n) end (omega arith))

pub ends_rest : (place n end : ℕ) → place ≤ end → leb n (end - place) ≡ leb (place + n) end
ends_rest place n end h = leb_iff n (end - place) (place + n) end (λ q. omega arith) (λ q. omega arith)

-- ---- every number below n, and some number below n

-- one more, as a loop finds it
pub all_more : {r a s : Bool} (n : ℕ) (f : ℕ → Bool) → s ≡ all_below n f → r ≡ both a s → a ≡ f n → r ≡ all_below (n + 1) f
all_more n f p q e = rw (add-one, q, e, p)

pub some_more : {r a s : Bool} (n : ℕ) (f : ℕ → Bool) → s ≡ some_below n f → r ≡ either a s → a ≡ f n → r ≡ some_below (n + 1) f
some_more n f p q e = rw (add-one, q, e, p)

pub all_intro : (n : ℕ) (f : ℕ → Bool) → ((i : ℕ) → i < n → f i ≡ true) → all_below n f ≡ true
all_intro zero f h = refl
all_intro (suc n) f h = both_intro (f n) (all_below n f) (h n (omega arith)) (all_intro n f (λ i l. h i (omega arith)))

pub all_at : (n i : ℕ) (f : ℕ → Bool) → all_below n f ≡ true → i < n → f i ≡ true
all_at zero i f e l = absurd (omega arith)
all_at (suc n) i f e l =
    let p = both_true (f n) (all_below n f) e in
    ⊎_elim (λ x. all_at n i f p.1 x) (λ x. let y : i ≡ n = omega arith in rw y p.0) (lt_or_le i n)

-- one that fails, and one more that holds, as a loop with an early exit finds them
pub all_fails : {a : Bool} (n i : ℕ) (f : ℕ → Bool) → i < n → a ≡ f i → a ≡ false → false ≡ all_below n f
all_fails n i f l e z = by_test (all_below n f) refl
  where
    by_test : (t : Bool) → all_below n f ≡ t → false ≡ all_below n f
    by_test true q = true≢false (f i) (all_at n i f q l) (sym e ∙ z)
    by_test false q = sym q

pub all-next : {a : Bool} (n : ℕ) (f : ℕ → Bool) → true ≡ all_below n f → a ≡ f n → a ≡ true → true ≡ all_below (n + 1) f
all-next n f p e z = rw (add-one, ← e, z) p

pub some_intro : (n i : ℕ) (f : ℕ → Bool) → i < n → f i ≡ true → some_below n f ≡ true
some_intro zero i f l e = absurd (omega arith)
some_intro (suc n) i f l e =
    ⊎_elim (λ x. either_right (f n) (some_below n f) (some_intro n i f x e))
    (λ x. let y : i ≡ n = omega arith in either_left (f n) (some_below n f) (rw y at e)) (lt_or_le i n)

pub some_at : (n : ℕ) (f : ℕ → Bool) → some_below n f ≡ true → (i : ℕ) × ((i < n) × (f i ≡ true))
some_at zero f e = impossible (cc)
some_at (suc n) f e =
    ⊎_elim (λ x. (n, (omega arith, x))) (λ x. let r = some_at n f x in (r.0, (omega (arith, r.1.0), r.1.1)))
    (either_true (f n) (some_below n f) e)

-- no number below n
pub some-none : (n i : ℕ) (f : ℕ → Bool) → some_below n f ≡ false → i < n → f i ≡ false
some-none zero i f e l = absurd (omega arith)
some-none (suc n) i f e l =
    let p = either_false (f n) (some_below n f) e in
    ⊎_elim (λ x. some-none n i f p.1 x) (λ x. let y : i ≡ n = omega arith in rw y p.0) (lt_or_le i n)

-- tests that agree below n
pub all_ext : (n : ℕ) (f g : ℕ → Bool) → ((i : ℕ) → i < n → f i ≡ g i) → all_below n f ≡ all_below n g
all_ext zero f g h = refl
all_ext (suc n) f g h = rw (h n (omega arith), all_ext n f g (λ i l. h i (omega arith)))

pub some_ext : (n : ℕ) (f g : ℕ → Bool) → ((i : ℕ) → i < n → f i ≡ g i) → some_below n f ≡ some_below n g
some_ext zero f g h = refl
some_ext (suc n) f g h = rw (h n (omega arith), some_ext n f g (λ i l. h i (omega arith)))

-- the first of the tests apart
pub all_front : (n : ℕ) (f : ℕ → Bool) → all_below (suc n) f ≡ both (f 0) (all_below n (λ k. f (suc k)))
all_front zero f = refl
all_front (suc n) f = rw (all_front n f) (both_left (f (suc n)) (f 0) (all_below n (λ k. f (suc k))))

pub some_front : (n : ℕ) (f : ℕ → Bool) → some_below (suc n) f ≡ either (f 0) (some_below n (λ k. f (suc k)))
some_front zero f = refl
some_front (suc n) f = rw (some_front n f) (either_swap (f (suc n)) (f 0) (some_below n (λ k. f (suc k))))

pub all-add : (m n : ℕ) (f : ℕ → Bool) → all_below (m + n) f ≡ both (all_below m f) (all_below n (λ k. f (m + k)))
all-add m zero f = rw add-zero (sym (both_itself (all_below m f)))
all-add m (suc n) f = rw (add-suc, all-add m n f) (both_left (f (m + n)) (all_below m f) (all_below n (λ k. f (m + k))))

pub all_both : (n : ℕ) (f g : ℕ → Bool) → both (all_below n f) (all_below n g) ≡ all_below n (λ i. both (f i) (g i))
all_both zero f g = refl
all_both (suc n) f g = rw (← all_both n f g) (simp (both_assoc, both_left))

-- those below c, and the others
pub all_split : (n c : ℕ) (f : ℕ → Bool) → c ≤ n → all_below n f ≡ both (all_below c f) (all_below n (λ i. either (ltb i c) (f i)))
all_split n c f l =
    let past : ℕ → Bool = λ i. either (ltb i c) (f i) in
    true_iff (all_below n f) (both (all_below c f) (all_below n past))
    (λ e. both_intro (all_below c f) (all_below n past)
    (all_intro c f (λ i h. all_at n i f e (omega arith)))
    (all_intro n past (λ i h. either_right (ltb i c) (f i) (all_at n i f e h))))
    (λ e.
    let p = both_true (all_below c f) (all_below n past) e in
    all_intro n f (λ i h. ⊎_elim (λ x. all_at c i f p.0 x) (λ x. let z = le-ltb i c x in rw z at (all_at n i past p.1 h)) (lt_or_le i c)))

-- those from c on
pub all_past : (n c : ℕ) (f : ℕ → Bool) → c ≤ n → all_below (n - c) (λ k. f (c + k)) ≡ all_below n (λ i. either (ltb i c) (f i))
all_past n c f l =
    true_iff (all_below (n - c) (λ k. f (c + k))) (all_below n (λ i. either (ltb i c) (f i)))
    (λ e. all_intro n (λ i. either (ltb i c) (f i)) (λ i h. ⊎_elim
    (λ x. either_left (ltb i c) (f i) (lt-ltb i c x))
    (λ x. let y : c + (i - c) ≡ i = omega arith in either_right (ltb i c) (f i) (rw y at (all_at (n - c) (i - c) (λ k. f (c + k)) e (omega arith)))) (lt_or_le i c)))
    (λ e. all_intro (n - c) (λ k. f (c + k)) (λ k h.
    let z : ltb (c + k) c ≡ false = le-ltb (c + k) c (omega arith) in
    rw z at (all_at n (c + k) (λ i. either (ltb i c) (f i)) e (omega arith))))

-- ---- what the library says of `&&`, `||`, and of `all` and `any` over a range

pub and_both : (a b : Bool) → a && b ≡ both a b
and_both true b = refl
and_both false b = refl

pub or_either : (a b : Bool) → a || b ≡ either a b
or_either true b = refl
or_either false b = refl

pub range_all : (a n : ℕ) (f : ℕ → Bool) → list_all f (range_with_len a n) ≡ all_below n (λ k. f (a + k))
range_all a zero f = refl
range_all a (suc n) f =
    rw (range_all (a + 1) n f, and_both, all_front n (λ k. f (a + k)), add-zero)
    (ap (both (f a)) (all_ext n (λ k. f (a + 1 + k)) (λ k. f (a + suc k)) (λ k h. ap f (omega arith))))

pub range_any : (a n : ℕ) (f : ℕ → Bool) → list_any f (range_with_len a n) ≡ some_below n (λ k. f (a + k))
range_any a zero f = refl
range_any a (suc n) f =
    rw (range_any (a + 1) n f, or_either, some_front n (λ k. f (a + k)), add-zero)
    (ap (either (f a)) (some_ext n (λ k. f (a + 1 + k)) (λ k. f (a + suc k)) (λ k h. ap f (omega arith))))

-- the length of a list by that of what it is mapped to, which is how the types say it of an array of structs: `search (needs, length_mapped)`
pub length_mapped : (X Y : Type 0) (f : X → Y) (l : List X) (n : ℕ) → length (map f l) ≡ n → length l ≡ n
length_mapped X Y f l n p = simp length-map at p
