-- Document 01, "Numbers given back", and document 02, 2026-04: the codes in AH, and what an answer does to the registers.
-- Assumes nothing.
use Rattle.std.specs.Prelude.{ℕ, ◌+◌, ◌*◌, ◌/◌, ◌%◌, Bool, true, false, List, [], ◌∷◌, ltb, eqb}
use Rattle.logic.specs.Logic.{pick, either}
use Rattle.int13.specs.declared.Registers.{Registers}
use Rattle.int13.specs.declared.Outcome.{Outcome}
use Rattle.int13.specs.declared.Outcome.TheVariants.{Answered, Waits}

-- ---- "Numbers given back", the codes in AH; 01h is layout's `bad_parameter`, 04h chs's `outside`

-- 03h: write to a protected drive
abbrev pub write_protected : ℕ
write_protected = 0x03

-- 07h: 08h on an unknown drive
abbrev pub no_parameters : ℕ
no_parameters = 0x07

-- 09h: transfer buffer outside the window, or AL above 128
abbrev pub bad_buffer : ℕ
bad_buffer = 0x09

-- 80h: withdrawn
abbrev pub withdrawn_code : ℕ
withdrawn_code = 0x80

-- 10h: a bad block, of a read and of 44h (document 02, 2026-04)
abbrev pub bad_read : ℕ
bad_read = 0x10

-- CCh: a bad block, of a write (document 02, 2026-04)
abbrev pub bad_write : ℕ
bad_write = 0xCC

-- ---- "Numbers given back", halves of the registers

-- the function
abbrev pub ah : Registers → ℕ
ah r = r.ax / 256

-- the sectors of 02h and 03h, the verify flag of 43h
abbrev pub al : Registers → ℕ
al r = r.ax % 256

-- the drive's number
abbrev pub dl : Registers → ℕ
dl r = r.dx % 256

-- ---- "Steps of each function", the functions by their numbers

-- 02h and 03h, which say a run of sectors in AL
abbrev pub is_sectors : ℕ → Bool
is_sectors f = either (eqb f 0x02) (eqb f 0x03)

-- 03h and 43h, which write the drive
abbrev pub is_write : ℕ → Bool
is_write f = either (eqb f 0x03) (eqb f 0x43)

-- ---- "Numbers given back", what an answer does to the registers

-- Carry, AH and AL; registers not named stay as given. Every refusal, every success of 42h to 48h and every request that ends goes
-- through it; the successes of 08h and 41h name further registers, and stand with their steps.
abbrev pub answer : Bool → ℕ → ℕ → Registers → Registers
answer carry code low r = record { ax = 256 * code + low; bx = r.bx; cx = r.cx; dx = r.dx; ds = r.ds; si = r.si; es = r.es; carry = carry }

-- success clears carry and sets AH = 0
abbrev pub succeed : Registers → Registers
succeed r = answer false 0 (al r) r

-- a request that ends with a code after some blocks: AL gives them for 02h and 03h, and stays for the others
abbrev pub stop : ℕ → ℕ → Registers → Registers
stop code moved r = answer true code (pick (is_sectors (ah r)) moved (al r)) r

-- a refusal moved none: "A refused 02h or 03h sets AL = 0"
abbrev pub refuse : ℕ → Registers → Registers
refuse code r = stop code 0 r

-- a withdrawal: carry set, AH = 80h
abbrev pub withdraw : ℕ → Registers → Registers
withdraw moved r = stop withdrawn_code moved r

-- "AH = 10h for a read, CCh for a write" (document 02, 2026-04)
abbrev pub bad_code : Registers → ℕ
bad_code r = pick (is_write (ah r)) bad_write bad_read

-- a request of n blocks that ends after some of them: all, and it succeeds; or those before a bad block
unfoldable pub ended : ℕ → ℕ → Registers → Registers
ended n moved r = pick (ltb moved n) (stop (bad_code r) moved r) (succeed r)

-- the registers that a waiting row keeps: every answer names carry, so that what the guest gave there is dropped
abbrev pub posted : Registers → Registers
posted r = record { ax = r.ax; bx = r.bx; cx = r.cx; dx = r.dx; ds = r.ds; si = r.si; es = r.es; carry = false }

-- ---- "Numbers given back", the answers as numbers

-- the registers in the order of the post, carry last
abbrev pub register_numbers : Registers → List ℕ
register_numbers r = r.ax ∷ r.bx ∷ r.cx ∷ r.dx ∷ r.ds ∷ r.si ∷ r.es ∷ pick r.carry 1 0 ∷ []

-- 256: a call or a row waits, or a turn is idle; document 01 gives none of them a number, and has no number 256
abbrev pub nothing_yet : ℕ
nothing_yet = 256

-- 0 and the registers; or 256, what the request asks, and the registers that its row keeps
unfoldable pub outcome_numbers : Outcome → List ℕ
outcome_numbers (Answered r) = 0 ∷ register_numbers r
outcome_numbers (Waits j) = nothing_yet ∷ j.drive ∷ j.start ∷ j.count ∷ j.buffer ∷ j.packet ∷ register_numbers j.registers
