-- Addresses and blocks match one to one, and so do the registers and what they say.
-- Assumes nothing.
use mathlib.Core.Path.{◌≡◌, refl, ap, ◌∙◌}
use mathlib.Core.Logic.{◌↔◌}
use mathlib.Core.List.{[], ◌∷◌}
use mathlib.Core.Bool.{Bool, true, false}
use Prim.Native.Nat.{ℕ, ◌+◌, ◌-◌, ◌*◌, ◌/◌, ◌%◌, ◌≤◌, ◌<◌}
use native.Mathlib.Nat.{mod-lt, div-add-mod', div-lt_iff_lt-mul}
use native.Mathlib.Omega.{arith}
use borrow.Author.Tests.{lt-ltb, le-leb, ltb-true}
use lib.Arith.{digits_div, digits_mod}
use lib.Dec.{ltb}
use Rattle.std.specs.Prelude.{Ok, Err}
use Rattle.logic.proofs.LogicLaws.{impossible}
use Rattle.chs.specs.declared.Geometry.{Geometry}
use Rattle.chs.specs.declared.Address.{Address}
use Rattle.chs.specs.Chs.{unpack, is_valid, number, size, split, in_limits, outside, block_of, address_of, block_numbers, address_numbers, pack}
use Rattle.chs.specs.Demand2.{Valid, Demand2}
use Rattle.chs.proofs.ChsLaws.{in_limits_true, is_valid_true, limits-in_limits, valid_is_valid, number_digits, sector_below, number-below, block_of-limits, block_of_invalid, block_of_valid, address_of-limits, address_of_above, address_of-below}

-- ---- the arithmetic

pub split-number : (g : Geometry) (a : Address) → Valid g a → split g (number g a) ≡ a
split-number g a v =
    let k = sector_below g a v in
    let e = number_digits g a v in
    let track = a.cylinder * g.h + a.head in
    let d : number g a / g.s ≡ track = ap (λ (n : ℕ). n / g.s) e ∙ digits_div track k in
    let r : number g a % g.s ≡ a.sector - 1 = ap (λ (n : ℕ). n % g.s) e ∙ digits_mod track k in
    let y : number g a / g.s / g.h ≡ a.cylinder = ap (λ (n : ℕ). n / g.h) d ∙ digits_div a.cylinder v.head_low in
    let h : number g a / g.s % g.h ≡ a.head = ap (λ (n : ℕ). n % g.h) d ∙ digits_mod a.cylinder v.head_low in
    let s : number g a % g.s + 1 ≡ a.sector = omega (arith, r, v.sector_pos) in
    λ i. record { cylinder = y i; head = h i; sector = s i }

pub number-split : (g : Geometry) (n : ℕ) → number g (split g n) ≡ n
number-split g n = rw (div-add-mod' (n / g.s) g.h) (omega (arith, div-add-mod' n g.s))

pub split_valid : (g : Geometry) (n : ℕ) → in_limits g ≡ true → n < size g → is_valid g (split g n) ≡ true
unfolding is_valid
split_valid g n l h =
    let limits = in_limits_true g l in
    let q : n / g.s < g.c * g.h = (div-lt_iff_lt-mul limits.s-low).1 h in
    let y : n / g.s / g.h < g.c = (div-lt_iff_lt-mul limits.h-low).1 q in
    let m : n % g.s < g.s = mod-lt n limits.s-low in
    let s : n % g.s + 1 ≤ g.s = omega arith in
    let o : 1 ≤ n % g.s + 1 = omega arith in
    rw (lt-ltb _ _ y, lt-ltb _ _ (mod-lt (n / g.s) limits.h-low), le-leb _ _ o, le-leb _ _ s)

-- ---- one to one, by the cases of the two tests

to_address : (g : Geometry) (a : Address) (n : ℕ) (l v : Bool) →
    in_limits g ≡ l → is_valid g a ≡ v → block_of g a ≡ Ok n → address_of g n ≡ Ok a
to_address g a n true true l v e =
    let w = is_valid_true g a v in
    let same : number g a ≡ n = cc (block_of_valid g a l v) in
    rw (← same) (address_of-below g (number g a) l (lt-ltb _ _ (number-below g a w)) ∙ ap Ok (split-number g a w))
to_address g a n true false l v e = impossible (cc (block_of_invalid g a l v))
to_address g a n false v l f e = impossible (cc (block_of-limits g a l))

to_block : (g : Geometry) (a : Address) (n : ℕ) (l v : Bool) →
    in_limits g ≡ l → ltb n (size g) ≡ v → address_of g n ≡ Ok a → block_of g a ≡ Ok n
to_block g a n true true l v e =
    let same : split g n ≡ a = cc (address_of-below g n l v) in
    rw (← same) (block_of_valid g (split g n) l (split_valid g n l (ltb-true _ _ v)) ∙ ap Ok (number-split g n))
to_block g a n true false l v e = impossible (cc (address_of_above g n l v))
to_block g a n false v l f e = impossible (cc (address_of-limits g n l))

-- an address has the block n exactly when the block n has that address
pub one_to_one : (g : Geometry) (a : Address) (n : ℕ) → (block_of g a ≡ Ok n) ↔ (address_of g n ≡ Ok a)
one_to_one g a n = (to_address g a n (in_limits g) (is_valid g a) refl refl, to_block g a n (in_limits g) (ltb n (size g)) refl refl)

-- ---- demand 2

-- an address with a block is valid
block_valid : (g : Geometry) (a : Address) (n : ℕ) (v : Bool) → in_limits g ≡ true → is_valid g a ≡ v → block_of g a ≡ Ok n → Valid g a
block_valid g a n true l v e = is_valid_true g a v
block_valid g a n false l v e = impossible (cc (block_of_invalid g a l v))

-- a block with an address is below the size
address_below : (g : Geometry) (a : Address) (n : ℕ) (v : Bool) → in_limits g ≡ true → ltb n (size g) ≡ v → address_of g n ≡ Ok a → n < size g
address_below g a n true l v e = ltb-true _ _ v
address_below g a n false l v e = impossible (cc (address_of_above g n l v))

pub demand2 : Demand2
demand2 g limits =
    let l : in_limits g ≡ true = limits-in_limits g limits in
    record {
      has_block = λ a v. (number g a, block_of_valid g a l (valid_is_valid g a v), number-below g a v);
      has_address = λ n h. (split g n, address_of-below g n l (lt-ltb _ _ h), is_valid_true g (split g n) (split_valid g n l h));
      same = λ a n. one_to_one g a n;
      only_valid = λ a n e. block_valid g a n (is_valid g a) l refl e;
      only_below = λ a n e. address_below g a n (ltb n (size g)) l refl e;
    }

no_block : block_numbers (Err (record {})) ≡ outside ∷ []
unfolding block_numbers
no_block = refl

no_address : address_numbers (Err (record {})) ≡ outside ∷ []
unfolding address_numbers
no_address = refl

-- a geometry outside the limits refuses both ways, whatever the argument
pub outside-limits : (g : Geometry) → in_limits g ≡ false →
    ((a : Address) → block_numbers (block_of g a) ≡ outside ∷ []) × ((n : ℕ) → address_numbers (address_of g n) ≡ outside ∷ [])
outside-limits g l = (λ a. ap block_numbers (block_of-limits g a l) ∙ no_block, λ n. ap address_numbers (address_of-limits g n l) ∙ no_address)

-- ---- the registers

-- what stands in CX when CH is low, and CL is high above sector
fields : (low high sector : ℕ) → low < 256 → high < 4 → sector < 64 →
    ((256 * low + (64 * high + sector)) / 256 ≡ low)
    × (((256 * low + (64 * high + sector)) % 256 / 64 ≡ high) × ((256 * low + (64 * high + sector)) % 64 ≡ sector))
fields low high sector l h s = (omega arith, (omega arith, omega arith))

pub unpack-pack : (cylinder sector : ℕ) → cylinder < 1024 → sector < 64 →
    unpack (pack cylinder sector) ≡ record { cylinder = cylinder; sector = sector }
unpack-pack cylinder sector c s =
    let low : cylinder % 256 < 256 = omega arith in
    let high : cylinder / 256 % 4 < 4 = omega arith in
    let f = fields (cylinder % 256) (cylinder / 256 % 4) (sector % 64) low high (omega arith) in
    let whole : cylinder % 256 + 256 * (cylinder / 256 % 4) ≡ cylinder = omega arith in
    let rest : sector % 64 ≡ sector = omega arith in
    λ i. record { cylinder = ((λ j. f.0 j + 256 * f.1.0 j) ∙ whole) i; sector = (f.1.1 ∙ rest) i }

-- what the cylinder has, its low 8 bits and the two above
cylinder_fields : (low high : ℕ) → low < 256 → high < 4 → ((low + 256 * high) % 256 ≡ low) × ((low + 256 * high) / 256 % 4 ≡ high)
cylinder_fields low high l h = (omega arith, omega arith)

pub pack-unpack : (cx : ℕ) → cx < 65536 → pack (unpack cx).cylinder (unpack cx).sector ≡ cx
pack-unpack cx h =
    let f = cylinder_fields (cx / 256) (cx % 256 / 64) (omega arith) (omega arith) in
    let twice : cx % 64 % 64 ≡ cx % 64 = omega arith in
    let whole : 256 * (cx / 256) + (64 * (cx % 256 / 64) + cx % 64) ≡ cx = omega arith in
    (λ i. 256 * f.0 i + (64 * f.1 i + twice i)) ∙ whole
