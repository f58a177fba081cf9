-- Laws of the definitions: what the tests say, the bounds of the arithmetic, the cases of the answers.
-- Assumes nothing.
use mathlib.Core.Path.{◌≡◌, refl, ap, ◌∙◌}
use mathlib.Core.Bool.{Bool, true, false}
use mathlib.Core.List.{[], ◌∷◌}
use Prim.Native.Nat.{ℕ, ◌+◌, ◌-◌, ◌*◌, ◌/◌, ◌%◌, ◌≤◌, ◌<◌}
use native.Mathlib.Nat.{mul-le-mul, mod-lt}
use native.Mathlib.Omega.{arith}
use borrow.Author.Tests.{ltb-true, lt-ltb, le-leb}
use lib.Arith.{digits_lt}
use lib.Dec.{ltb}
use Rattle.std.specs.Prelude.{Result, Ok, Err}
use Rattle.logic.specs.Logic.{pick, both}
use Rattle.logic.proofs.LogicLaws.{both_true, in_range_true, impossible}
use Rattle.chs.specs.declared.Geometry.{Geometry}
use Rattle.chs.specs.declared.Address.{Address}
use Rattle.chs.specs.declared.Outside.{Outside}
use Rattle.chs.specs.Demand2.{Limits, Valid}
use Rattle.chs.specs.Chs.{most_cylinders, most_heads, most_sectors, in_limits, is_valid, number, size, split, block_of, address_of, block_numbers, address_numbers, block_given, address_given}

-- ---- in_limits and is_valid, as facts

pub in_limits_true : (g : Geometry) → in_limits g ≡ true → Limits g
unfolding in_limits
in_limits_true g e =
    let p = both_true _ _ e in
    let q = both_true _ _ p.1 in
    let c = in_range_true g.c 1 most_cylinders p.0 in
    let h = in_range_true g.h 1 most_heads q.0 in
    let s = in_range_true g.s 1 most_sectors q.1 in
    record { c-low = c.0; c-high = c.1; h-low = h.0; h-high = h.1; s-low = s.0; s-high = s.1 }

pub is_valid_true : (g : Geometry) (a : Address) → is_valid g a ≡ true → Valid g a
unfolding is_valid
is_valid_true g a e =
    let p = both_true _ _ e in
    let q = both_true _ _ p.1 in
    let s = in_range_true a.sector 1 g.s q.1 in
    record { cylinder_low = ltb-true _ _ p.0; head_low = ltb-true _ _ q.0; sector_pos = s.0; sector_high = s.1 }

-- and back
pub limits-in_limits : (g : Geometry) → Limits g → in_limits g ≡ true
unfolding in_limits
limits-in_limits g l =
    rw (le-leb _ _ l.c-low, le-leb _ _ l.c-high, le-leb _ _ l.h-low, le-leb _ _ l.h-high, le-leb _ _ l.s-low, le-leb _ _ l.s-high)

pub valid_is_valid : (g : Geometry) (a : Address) → Valid g a → is_valid g a ≡ true
unfolding is_valid
valid_is_valid g a v = rw (lt-ltb _ _ v.cylinder_low, lt-ltb _ _ v.head_low, le-leb _ _ v.sector_pos, le-leb _ _ v.sector_high)

-- ---- the bounds of the arithmetic

-- what `split` divides by, and the sector that the last remainder leaves
pub heads_pos : (g : Geometry) → in_limits g ≡ true → 0 < g.h
heads_pos g l = (in_limits_true g l).h-low

pub sectors_pos : (g : Geometry) → in_limits g ≡ true → 0 < g.s
sectors_pos g l = (in_limits_true g l).s-low

pub sector_most : (g : Geometry) (n : ℕ) → in_limits g ≡ true → n % g.s + 1 ≤ most_sectors
sector_most g n l = omega (arith, mod-lt n (sectors_pos g l), (in_limits_true g l).s-high)

pub tracks_high : (g : Geometry) → in_limits g ≡ true → g.c * g.h ≤ most_cylinders * most_heads
tracks_high g l = let limits = in_limits_true g l in mul-le-mul limits.c-high limits.h-high

-- 1024 x 255 x 63
pub size_high : (g : Geometry) → in_limits g ≡ true → size g ≤ 16450560
size_high g l = mul-le-mul {n₂ = most_cylinders * most_heads} {m₂ = most_sectors} (tracks_high g l) (in_limits_true g l).s-high

pub track_below : (g : Geometry) (a : Address) → Valid g a → a.cylinder * g.h + a.head < g.c * g.h
track_below g a v = digits_lt v.cylinder_low v.head_low

-- a valid address's block by its digits: the track, and the sector from 0
pub number_digits : (g : Geometry) (a : Address) → Valid g a → number g a ≡ (a.cylinder * g.h + a.head) * g.s + (a.sector - 1)
number_digits g a v = omega (arith, v.sector_pos)

pub sector_below : (g : Geometry) (a : Address) → Valid g a → a.sector - 1 < g.s
sector_below g a v = omega (arith, v.sector_high, v.sector_pos)

pub number-below : (g : Geometry) (a : Address) → Valid g a → number g a < size g
number-below g a v = rw (number_digits g a v) (digits_lt (track_below g a v) (sector_below g a v))

-- the steps of `number` for a valid address
pub sector_least : (g : Geometry) (a : Address) → is_valid g a ≡ true → 1 ≤ a.sector
sector_least g a e = (is_valid_true g a e).sector_pos

pub track_fits : (g : Geometry) (a : Address) → in_limits g ≡ true → is_valid g a ≡ true → a.cylinder * g.h + a.head < most_cylinders * most_heads
track_fits g a l e = omega (arith, track_below g a (is_valid_true g a e), tracks_high g l)

pub number_fits : (g : Geometry) (a : Address) → in_limits g ≡ true → is_valid g a ≡ true → (a.cylinder * g.h + a.head) * g.s + a.sector ≤ 16450560
number_fits g a l e = let v = is_valid_true g a e in omega (arith, v.sector_pos, number-below g a v, size_high g l)

-- ---- the cases of block_of

pub block_of-limits : (g : Geometry) (a : Address) → in_limits g ≡ false → block_of g a ≡ Err (record {})
unfolding block_of
block_of-limits g a e = rw e

pub block_of_invalid : (g : Geometry) (a : Address) → in_limits g ≡ true → is_valid g a ≡ false → block_of g a ≡ Err (record {})
unfolding block_of
block_of_invalid g a e f = rw (e, f)

pub block_of_valid : (g : Geometry) (a : Address) → in_limits g ≡ true → is_valid g a ≡ true → block_of g a ≡ Ok (number g a)
unfolding block_of
block_of_valid g a e f = rw (e, f)

-- ---- the cases of address_of

pub address_of-limits : (g : Geometry) (n : ℕ) → in_limits g ≡ false → address_of g n ≡ Err (record {})
unfolding address_of
address_of-limits g n e = rw e

pub address_of_above : (g : Geometry) (n : ℕ) → in_limits g ≡ true → ltb n (size g) ≡ false → address_of g n ≡ Err (record {})
unfolding address_of
address_of_above g n e f = rw (e, f)

pub address_of-below : (g : Geometry) (n : ℕ) → in_limits g ≡ true → ltb n (size g) ≡ true → address_of g n ≡ Ok (split g n)
unfolding address_of
address_of-below g n e f = rw (e, f)

-- ---- the answers by their numbers

-- whoever answers with the definition answers with the paper's numbers
pub block_answered : {r : Result ℕ Outside} (g : Geometry) (a : Address) → r ≡ block_of g a → (r ≡ block_of g a) × (block_numbers r ≡ block_given g a)
unfolding block_of block_numbers block_given
block_answered g a e = (e, ap block_numbers e ∙ by_test (both (in_limits g) (is_valid g a)))
  where
    by_test : (t : Bool) → block_numbers (pick t (Ok (number g a)) (Err (record {}))) ≡ pick t (0 ∷ number g a ∷ []) (0x04 ∷ [])
    by_test true = refl
    by_test false = refl

pub address_answered : {r : Result Address Outside} (g : Geometry) (n : ℕ) → r ≡ address_of g n → (r ≡ address_of g n) × (address_numbers r ≡ address_given g n)
unfolding address_of address_numbers address_given
address_answered g n e = (e, ap address_numbers e ∙ by_test (both (in_limits g) (ltb n (size g))))
  where
    by_test : (t : Bool) → address_numbers (pick t (Ok (split g n)) (Err (record {})))
        ≡ pick t (0 ∷ (n / g.s / g.h) ∷ (n / g.s % g.h) ∷ (n % g.s + 1) ∷ []) (0x04 ∷ [])
    by_test true = refl
    by_test false = refl

-- no two answers have the same numbers
pub block_apart : (x y : Result ℕ Outside) → block_numbers x ≡ block_numbers y → x ≡ y
unfolding block_numbers
block_apart (Ok m) (Ok n) e = cc
block_apart (Ok m) (Err d) e = impossible (cc)
block_apart (Err c) (Ok n) e = impossible (cc)
block_apart (Err c) (Err d) e = refl

pub address-apart : (x y : Result Address Outside) → address_numbers x ≡ address_numbers y → x ≡ y
unfolding address_numbers
address-apart (Ok a) (Ok b) e =
    let c : a.cylinder ≡ b.cylinder = cc in
    let h : a.head ≡ b.head = cc in
    let s : a.sector ≡ b.sector = cc in
    λ i. Ok (record { cylinder = c i; head = h i; sector = s i })
address-apart (Ok a) (Err d) e = impossible (cc)
address-apart (Err c) (Ok b) e = impossible (cc)
address-apart (Err c) (Err d) e = refl
