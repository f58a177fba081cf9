-- Cylinder, head and sector addresses, block numbers, and their registers (document 01).
-- Assumes nothing.
use Rattle.std.specs.Prelude.{ℕ, ◌+◌, ◌-◌, ◌*◌, ◌/◌, ◌%◌, Bool, List, [], ◌∷◌, ltb, Result, Ok, Err}
use Rattle.logic.specs.Logic.{pick, both, in_range}
use Rattle.chs.specs.declared.Geometry.{Geometry}
use Rattle.chs.specs.declared.Address.{Address}
use Rattle.chs.specs.declared.CylinderSector.{CylinderSector}
use Rattle.chs.specs.declared.Outside.{Outside}

-- ---- "Numbers given back"

-- AH 04h: blocks outside the drive or geometry
abbrev pub outside : ℕ
outside = 0x04

-- ---- "Steps of each function", 02h and 03h: the registers

-- cylinder is CH plus 256 times CL's top two bits, sector is CL's low six; CX is 256 times CH plus CL
abbrev pub unpack : ℕ → CylinderSector
unpack cx = record { cylinder = cx / 256 + 256 * (cx % 256 / 64); sector = cx % 64 }

-- head is DH
abbrev pub address_in : ℕ → ℕ → Address
address_in cx dx = record { cylinder = (unpack cx).cylinder; head = dx / 256; sector = (unpack cx).sector }

-- ---- "Steps of each function", 02h and 03h: the address

-- cylinder < C, head < H, sector 1 to S
unfoldable pub is_valid : Geometry → Address → Bool
is_valid g a = both (ltb a.cylinder g.c) (both (ltb a.head g.h) (in_range a.sector 1 g.s))

-- (cylinder x H + head) x S + sector - 1
abbrev pub number : Geometry → Address → ℕ
number g a = (a.cylinder * g.h + a.head) * g.s + a.sector - 1

-- ---- "Steps of each function", 02h and 03h: the reverse, for a block below C x H x S

-- C x H x S
abbrev pub size : Geometry → ℕ
size g = g.c * g.h * g.s

-- the cylinder, head and sector of a block: what its division by S and by H leaves, the sector from 1
abbrev pub split : Geometry → ℕ → Address
split g n = record { cylinder = n / g.s / g.h; head = n / g.s % g.h; sector = n % g.s + 1 }

-- ---- "Steps of each function", 02h and 03h: either way round, C, H or S outside the table's limits is 04h ("The drive table")

-- C, 1 to 1024
abbrev pub most_cylinders : ℕ
most_cylinders = 1024

-- H, 1 to 255
abbrev pub most_heads : ℕ
most_heads = 255

-- S, 1 to 63
abbrev pub most_sectors : ℕ
most_sectors = 63

-- each of C, H and S from 1 to its limit
unfoldable pub in_limits : Geometry → Bool
in_limits g = both (in_range g.c 1 most_cylinders) (both (in_range g.h 1 most_heads) (in_range g.s 1 most_sectors))

-- the block of an address; none outside the limits or the geometry, and then the answer is 04h
unfoldable pub block_of : Geometry → Address → Result ℕ Outside
block_of g a = pick (both (in_limits g) (is_valid g a)) (Ok (number g a)) (Err (record {}))

-- for a block below C x H x S, the one valid address that gives it; any other block has none, 04h
unfoldable pub address_of : Geometry → ℕ → Result Address Outside
address_of g n = pick (both (in_limits g) (ltb n (size g))) (Ok (split g n)) (Err (record {}))

-- ---- "Forms we want to see": the answers as numbers, 0 and the values, or the code

-- of an address: its block
unfoldable pub block_numbers : Result ℕ Outside → List ℕ
block_numbers (Ok n) = 0 ∷ n ∷ []
block_numbers (Err e) = outside ∷ []

-- of a block: its cylinder, head and sector
unfoldable pub address_numbers : Result Address Outside → List ℕ
address_numbers (Ok a) = 0 ∷ a.cylinder ∷ a.head ∷ a.sector ∷ []
address_numbers (Err e) = outside ∷ []

-- the numbers for an address, by the paper's formula
unfoldable pub block_given : Geometry → Address → List ℕ
block_given g a =
    pick (both (in_limits g) (is_valid g a)) (0 ∷ ((a.cylinder * g.h + a.head) * g.s + a.sector - 1) ∷ []) (0x04 ∷ [])

-- the numbers for a block
unfoldable pub address_given : Geometry → ℕ → List ℕ
address_given g n =
    pick (both (in_limits g) (ltb n (g.c * g.h * g.s))) (0 ∷ (n / g.s / g.h) ∷ (n / g.s % g.h) ∷ (n % g.s + 1) ∷ []) (0x04 ∷ [])

-- ---- "Steps of each function", 08h: CH and CL hold a cylinder and a sector

-- CX has room for ten bits of the cylinder and six of the sector
abbrev pub pack : ℕ → ℕ → ℕ
pack cylinder sector = 256 * (cylinder % 256) + (64 * (cylinder / 256 % 4) + sector % 64)
