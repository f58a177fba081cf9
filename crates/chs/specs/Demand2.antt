-- Demand 2, addresses: cylinder, head and sector and block numbers match one to one, for every geometry in the table's limits.
-- Assumes nothing.
use Rattle.std.specs.Prelude.{ℕ, ◌*◌, ◌≤◌, ◌<◌, ◌≡◌, ◌↔◌, Ok}
use Rattle.chs.specs.declared.Geometry.{Geometry}
use Rattle.chs.specs.declared.Address.{Address}
use Rattle.chs.specs.Chs.{block_of, address_of}

-- ---- "The drive table" and "Steps of each function", 02h and 03h: the paper's words as facts, with its numbers

-- C 1 to 1024, H 1 to 255, S 1 to 63
pub record Limits (g : Geometry) : Type 0 where
  pub c-low : 1 ≤ g.c
  pub c-high : g.c ≤ 1024
  pub h-low : 1 ≤ g.h
  pub h-high : g.h ≤ 255
  pub s-low : 1 ≤ g.s
  pub s-high : g.s ≤ 63

-- a valid address: cylinder < C, head < H, sector 1 to S
pub record Valid (g : Geometry) (a : Address) : Type 0 where
  pub cylinder_low : a.cylinder < g.c
  pub head_low : a.head < g.h
  pub sector_pos : 1 ≤ a.sector
  pub sector_high : a.sector ≤ g.s

-- ---- "Steps of each function", 02h and 03h: the address and its reverse, as demand 2

-- the valid addresses and the blocks below C x H x S of one geometry, each with one of the other
pub record OneToOne (g : Geometry) : Type 0 where
  -- every valid address has a block below C x H x S
  pub has_block : (a : Address) → Valid g a → (n : ℕ) × (block_of g a ≡ Ok n) × (n < g.c * g.h * g.s)
  -- every block below C x H x S has a valid address
  pub has_address : (n : ℕ) → n < g.c * g.h * g.s → (a : Address) × (address_of g n ≡ Ok a) × Valid g a
  -- an address has the block n exactly when the block n has that address: so each undoes the other, and no two addresses share a block
  pub same : (a : Address) (n : ℕ) → (block_of g a ≡ Ok n) ↔ (address_of g n ≡ Ok a)
  -- nothing else has one: an address with a block is valid, a block with an address is below C x H x S
  pub only_valid : (a : Address) (n : ℕ) → block_of g a ≡ Ok n → Valid g a
  pub only_below : (a : Address) (n : ℕ) → address_of g n ≡ Ok a → n < g.c * g.h * g.s

-- DEMAND 2, of addresses: every geometry in its limits
abbrev pub Demand2 : Type 0
Demand2 = (g : Geometry) → Limits g → OneToOne g
