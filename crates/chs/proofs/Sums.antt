-- The sums of document 01, "Sums to prove together", that speak of addresses and their registers.
-- Assumes nothing.
use mathlib.Core.Path.{◌≡◌, refl}
use mathlib.Core.List.{[], ◌∷◌, map}
use Prim.Native.Nat.{ℕ}
use Rattle.chs.specs.declared.Geometry.{Geometry}
use Rattle.chs.specs.declared.Address.{Address}
use Rattle.chs.specs.Chs.{is_valid, in_limits, block_of, address_of, block_numbers, address_numbers, pack}

abbrev g : Geometry
g = record { c = 1024; h = 16; s = 63 }

abbrev at : ℕ → ℕ → ℕ → Address
at cylinder head sector = record { cylinder = cylinder; head = head; sector = sector }

-- P1 to P5
pub sums : map (λ a. block_numbers (block_of g a)) (at 0 0 1 ∷ at 0 1 1 ∷ at 1 0 1 ∷ at 1023 15 63 ∷ at 0 0 0 ∷ [])
    ≡ (0 ∷ 0 ∷ []) ∷ (0 ∷ 63 ∷ []) ∷ (0 ∷ 1008 ∷ []) ∷ (0 ∷ 1032191 ∷ []) ∷ (4 ∷ []) ∷ []
unfolding block_numbers block_of in_limits is_valid
sums = refl

-- the reverse of P1 to P4, the end of the geometry, and the block that 32 bits would take for block 0
pub reverse : map (λ n. address_numbers (address_of g n)) (0 ∷ 63 ∷ 1008 ∷ 1032191 ∷ 1032192 ∷ 4294967296 ∷ [])
    ≡ (0 ∷ 0 ∷ 0 ∷ 1 ∷ []) ∷ (0 ∷ 0 ∷ 1 ∷ 1 ∷ []) ∷ (0 ∷ 1 ∷ 0 ∷ 1 ∷ [])
    ∷ (0 ∷ 1023 ∷ 15 ∷ 63 ∷ []) ∷ (4 ∷ []) ∷ (4 ∷ []) ∷ []
unfolding address_numbers address_of in_limits
reverse = refl

-- CX of P6, FFFFh, and of P7, 013Fh
pub registers : pack 1023 63 ∷ pack 1 63 ∷ [] ≡ 65535 ∷ 319 ∷ []
registers = refl
