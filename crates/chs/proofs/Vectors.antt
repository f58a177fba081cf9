-- Addresses and registers by number, each field with a value of its own: a definition in which two of them change places, one is not read
-- or a number of the paper is another, gives other numbers here.
-- Assumes nothing.
use mathlib.Core.Path.{◌≡◌, refl}
use mathlib.Core.Bool.{true, false}
use mathlib.Core.List.{[], ◌∷◌, map}
use Prim.Native.Nat.{ℕ}
use Rattle.chs.specs.declared.Geometry.{Geometry}
use Rattle.chs.specs.declared.Address.{Address}
use Rattle.chs.specs.Chs.{unpack, address_in, is_valid, in_limits, size, block_of, address_of, block_numbers, address_numbers, block_given, address_given, pack}

abbrev chs : ℕ → ℕ → ℕ → Geometry
chs c h s = record { c = c; h = h; s = s }

abbrev at : ℕ → ℕ → ℕ → Address
at cylinder head sector = record { cylinder = cylinder; head = head; sector = sector }

-- C 5, H 7, S 11
abbrev g : Geometry
g = chs 5 7 11

-- ---- the registers

-- CH 12h, CL C5h: the cylinder is 12h plus 256 times 3, the sector 5
pub unpacked : unpack 0x12C5 ≡ record { cylinder = 0x312; sector = 5 }
unpacked = refl

-- CH 34h, CL BEh: all six bits of the sector, 3Eh
pub unpacked_low : unpack 0x34BE ≡ record { cylinder = 0x234; sector = 0x3E }
unpacked_low = refl

-- CH 12h, CL 85h, DH 34h, DL 81h: the head is DH, and DL is not looked at
pub registers-say : address_in 0x1285 0x3481 ∷ address_in 0x1285 0x34FF ∷ [] ≡ at 0x212 0x34 5 ∷ at 0x212 0x34 5 ∷ []
registers-say = refl

-- CX of cylinder 312h and sector 5; bits above ten and six are dropped
pub packed : pack 0x312 5 ∷ pack 0x712 0x45 ∷ [] ≡ 0x12C5 ∷ 0x12C5 ∷ []
packed = refl

-- ---- the limits, each reached and each passed by one, at both ends

pub limits : map in_limits
    (chs 1024 255 63 ∷ chs 1025 255 63 ∷ chs 1024 256 63 ∷ chs 1024 255 64 ∷ chs 1 1 1 ∷ chs 0 1 1 ∷ chs 1 0 1 ∷ chs 1 1 0 ∷ [])
    ≡ true ∷ false ∷ false ∷ false ∷ true ∷ false ∷ false ∷ false ∷ []
unfolding in_limits
limits = refl

-- ---- the address, each field at its last value and past it

pub valid : map (is_valid g) (at 4 6 11 ∷ at 5 6 11 ∷ at 4 7 11 ∷ at 4 6 12 ∷ at 0 0 1 ∷ at 4 6 0 ∷ [])
    ≡ true ∷ false ∷ false ∷ false ∷ true ∷ false ∷ []
unfolding is_valid
valid = refl

-- ---- both ways round: (3 x 7 + 2) x 11 + 5 - 1 is 257; the last block is 5 x 7 x 11 - 1, 384

pub blocks : map (λ a. block_numbers (block_of g a)) (at 3 2 5 ∷ at 4 6 11 ∷ at 5 6 11 ∷ [])
    ≡ (0 ∷ 257 ∷ []) ∷ (0 ∷ 384 ∷ []) ∷ (4 ∷ []) ∷ []
unfolding block_numbers block_of in_limits is_valid
blocks = refl

pub addresses : map (λ n. address_numbers (address_of g n)) (257 ∷ 384 ∷ 385 ∷ [])
    ≡ (0 ∷ 3 ∷ 2 ∷ 5 ∷ []) ∷ (0 ∷ 4 ∷ 6 ∷ 11 ∷ []) ∷ (4 ∷ []) ∷ []
unfolding address_numbers address_of in_limits
addresses = refl

-- the same by the second promise of each function
pub blocks-given : map (block_given g) (at 3 2 5 ∷ at 5 6 11 ∷ []) ≡ (0 ∷ 257 ∷ []) ∷ (4 ∷ []) ∷ []
unfolding block_given in_limits is_valid
blocks-given = refl

pub addresses-given : map (address_given g) (257 ∷ 385 ∷ []) ≡ (0 ∷ 3 ∷ 2 ∷ 5 ∷ []) ∷ (4 ∷ []) ∷ []
unfolding address_given in_limits
addresses-given = refl

pub sized : size g ≡ 385
sized = refl
