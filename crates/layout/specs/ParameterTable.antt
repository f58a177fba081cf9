-- Document 02, 2026-01: the device parameter table of document 002 (Table 00278), sixteen bytes that a guest finds in its memory.
-- Assumes nothing.
use Rattle.std.specs.Prelude.{ℕ, ◌+◌, ◌*◌, ◌/◌, ◌%◌, ◌<◌, ◌≡◌, ◌≢◌, List, [], ◌∷◌, ◌++◌, length, get_or, take}
use Rattle.words.specs.Words.{part}
use Rattle.layout.specs.ResultBuffer.{sum, checksum}

-- ---- "2026-01", the sixteen bytes

-- the fourteen bytes that a drive's record gives, with the revision and the checksum behind them
abbrev pub parameter_size : ℕ
parameter_size = 16

-- byte 4: bits 7 and 5 set, bits 0 to 4 and bit 6 as given
abbrev pub drive_flags : ℕ → ℕ
drive_flags x = x % 32 + 32 + x / 64 % 2 * 64 + 128

-- byte 14: extension revision 1.1
abbrev pub revision : ℕ
revision = 0x11

-- bytes 0 to 14, over which byte 15 is made
unfoldable pub placed_bytes : List ℕ → List ℕ
placed_bytes p = take 4 p ++ (drive_flags (get_or p 4 0) ∷ (part 9 p 5 ++ (revision ∷ [])))

-- all sixteen, of the bytes that a record gives
unfoldable pub parameter_table : List ℕ → List ℕ
parameter_table p = placed_bytes p ++ (checksum (placed_bytes p) ∷ [])

-- ---- "2026-01", as demand 2: what stands at each offset

-- of the fourteen bytes p of a record
pub record TableBytes (p r : List ℕ) : Type 0 where
  pub size : length r ≡ 16
  -- bytes 0 to 13 as given, but for byte 4
  pub given : (i : ℕ) → i < 14 → i ≢ 4 → get_or r i 0 ≡ get_or p i 0
  -- byte 4: bits 7 and 5 are set, the others as given
  pub bit_7 : get_or r 4 0 / 128 % 2 ≡ 1
  pub bit_6 : get_or r 4 0 / 64 % 2 ≡ get_or p 4 0 / 64 % 2
  pub bit_5 : get_or r 4 0 / 32 % 2 ≡ 1
  pub bits_0_to_4 : get_or r 4 0 % 32 ≡ get_or p 4 0 % 32
  pub byte : get_or r 4 0 < 256
  pub revision : get_or r 14 0 ≡ 0x11
  -- "the service works out its checksum": all sixteen bytes sum to zero modulo 256
  pub sum : sum r % 256 ≡ 0

-- of every fourteen bytes
abbrev pub ParameterTables : Type 0
ParameterTables = (p : List ℕ) → length p ≡ 14 → TableBytes p (parameter_table p)
