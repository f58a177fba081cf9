-- Demand 2, the 48h result: what stands at each of the paper's offsets, for every drive and pointer whose fields fit their words.
-- Assumes nothing.
use Rattle.std.specs.Prelude.{ℕ, ◌+◌, ◌-◌, ◌/◌, ◌%◌, ◌^◌, ◌≤◌, ◌<◌, ◌≡◌, true, false, List, [], ◌∷◌, length, get_or, drop, Ok}
use Rattle.words.specs.Words.{le, part}
use Rattle.drive.specs.declared.Drive.{Drive}
use Rattle.drive.specs.Drive.{Fits, is_i2o}
use Rattle.layout.specs.declared.Pointer.{Pointer}
use Rattle.layout.specs.ResultBuffer.{sum, result_answer, result_numbers, result_out, returned_size}

-- ---- "2026-02": the information flags that 48h returns, of those that the table has

-- bit by bit: "48h returns bits 4 to 6 as zero when bit 2 is clear"; where it is set they are the table's, and the others are in either case
pub record FlagBits (table returned : ℕ) : Type 0 where
  pub bits_0_to_3 : returned % 16 ≡ table % 16
  pub bits_4_to_6_fixed : table / 4 % 2 ≡ 0 → returned / 16 % 8 ≡ 0
  pub bits_4_to_6_removable : table / 4 % 2 ≡ 1 → returned / 16 % 8 ≡ table / 16 % 8
  pub bits_7_to_15 : returned / 128 ≡ table / 128

-- ---- "Steps of each function", 48h: the layout; r is the window from DS:SI on

-- offsets 0 to 24, of every result: returned size, information flags, physical cylinders, heads, sectors, blocks, the word 512
pub record Parameters (d : Drive) (n : ℕ) (r : List ℕ) : Type 0 where
  pub at_0 : le 2 r 0 ≡ n
  pub at_2 : FlagBits d.flags (le 2 r 2)
  pub at_4 : le 4 r 4 ≡ d.cylinders
  pub at_8 : le 4 r 8 ≡ d.heads
  pub at_12 : le 4 r 12 ≡ d.sectors
  pub at_16 : le 8 r 16 ≡ d.blocks
  pub at_24 : le 2 r 24 ≡ 512

-- offsets 26 and 28, from 30 bytes on: offset and segment of the pointer
pub record Pointing (p : Pointer) (r : List ℕ) : Type 0 where
  pub at_26 : le 2 r 26 ≡ p.offset
  pub at_28 : le 2 r 28 ≡ p.segment

-- what n bytes show of a byte of a name: the byte, and in 74 bytes 20h where it is NUL
pub record Shown (n byte shown : ℕ) : Type 0 where
  pub narrow : n ≡ 66 → shown ≡ byte
  pub wide : n ≡ 74 → 1 ≤ byte → shown ≡ byte
  pub blank : n ≡ 74 → byte ≡ 0 → shown ≡ 0x20

-- offsets 30 on, of n bytes, 66 or 74: the word BEDDh; the length of what stands from there on (24h or 2Ch); three zeros; host bus and interface
-- type, in 74 bytes padded with 20h; interface path; device path, of eight bytes or of sixteen; zero; and the last byte makes the sum of the bytes
-- from 30 on zero modulo 256
pub record Paths (d : Drive) (n : ℕ) (r : List ℕ) : Type 0 where
  pub at_30 : le 2 r 30 ≡ 0xBEDD
  pub at_32 : get_or r 32 0 ≡ n - 30
  pub at_33 : part 3 r 33 ≡ 0 ∷ 0 ∷ 0 ∷ []
  pub at_36 : (i : ℕ) → i < 4 → Shown n (get_or d.bus i 0) (get_or r (36 + i) 0)
  pub at_40 : (i : ℕ) → i < 8 → Shown n (get_or d.interface i 0) (get_or r (40 + i) 0)
  pub at_48 : part 8 r 48 ≡ d.path
  pub at_56 : part 8 r 56 ≡ d.device
  pub at_64 : n ≡ 74 → part 8 r 64 ≡ d.tail
  pub zero : get_or r (n - 2) 0 ≡ 0
  pub sums : sum (part (n - 30) r 30) % 256 ≡ 0

-- ---- "Steps of each function", 48h, and "2026-06": the sizes and the layout, as demand 2

-- an answer of n bytes to the size asked; before is the window from DS:SI on as it was, r as the answer left it
pub record Result (d : Drive) (p : Pointer) (asked n : ℕ) (before r : List ℕ) : Type 0 where
  -- "Below 26: 01h; 26 to 29 returns 26; 30 to 65 returns 30", "66 to 73 still return 66", and one of type I2O "is answered as if the size were 30";
  -- "Sizes of 74 and more shall return 74"; all inside the window
  pub least : 26 ≤ asked
  pub from_26 : asked ≤ 29 → n ≡ 26
  pub from_30 : 30 ≤ asked → asked ≤ 65 → n ≡ 30
  pub from_66 : 66 ≤ asked → asked ≤ 73 → is_i2o d ≡ false → n ≡ 66
  pub from_66_I2O : 66 ≤ asked → asked ≤ 73 → is_i2o d ≡ true → n ≡ 30
  pub from_74 : 74 ≤ asked → n ≡ 74
  pub inside : n ≤ length before
  -- as many bytes as before
  pub lengths : length r ≡ length before
  -- the layout
  pub parameters : Parameters d n r
  pub pointing : 30 ≤ n → Pointing p r
  pub paths : 66 ≤ n → Paths d n r
  -- "Bytes past the returned size stay"
  pub past : drop n r ≡ drop n before

-- the two words of a pointer fit
pub record FitsPointer (p : Pointer) : Type 0 where
  pub offset : p.offset < 256 ^ 2
  pub segment : p.segment < 256 ^ 2

-- which answers write: all from 26 on for which there is room; and "one of type I2O is answered as if the size were 30", refusals included
pub record Answers (d : Drive) (p : Pointer) (asked : ℕ) (before : List ℕ) : Type 0 where
  pub small : asked < 26 → result_numbers (result_answer d asked (length before)) ≡ 0x01 ∷ []
  pub room : 26 ≤ asked → returned_size d asked ≤ length before → result_answer d asked (length before) ≡ Ok (returned_size d asked)
  pub no_room : length before < returned_size d asked → result_numbers (result_answer d asked (length before)) ≡ 0x01 ∷ []
  pub as_30 : is_i2o d ≡ true → 66 ≤ asked → asked ≤ 73
      → (result_answer d asked (length before) ≡ result_answer d 30 (length before)) × (result_out d p asked before ≡ result_out d p 30 before)

-- of every drive, size and window
abbrev pub EveryAnswer : Type 0
EveryAnswer = (d : Drive) (p : Pointer) (asked : ℕ) (before : List ℕ) → Answers d p asked before

-- DEMAND 2, of the 48h result: every answer that writes
abbrev pub Demand2 : Type 0
Demand2 = (d : Drive) (p : Pointer) (asked n : ℕ) (before : List ℕ) → Fits d → FitsPointer p
    → result_answer d asked (length before) ≡ Ok n
    → Result d p asked n before (result_out d p asked before)
