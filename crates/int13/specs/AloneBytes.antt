-- Document 01, "The words of demand 3", Served alone, and document 02, 2026-04, byte by byte and from outside: what a request that waits comes to,
-- and a 44h.
-- The numbers of the papers stand here as they are there, so that nothing below is proved against itself.
-- Assumes nothing.
use Rattle.std.specs.Prelude.{ℕ, ◌+◌, ◌-◌, ◌*◌, ◌/◌, ◌%◌, ◌≤◌, ◌<◌, ◌≡◌, ◌⊎◌, Bool, true, false, List, length, get_or, eqb, Ok}
use Rattle.logic.specs.Logic.{pick, some_below}
use Rattle.words.specs.Words.{le}
use Rattle.table.specs.declared.Table.{Table}
use Rattle.table.specs.Table.{read_table}
use Rattle.int13.specs.declared.Registers.{Registers}
use Rattle.int13.specs.declared.Job.{Job}
use Rattle.int13.specs.declared.Placement.{Placement}
use Rattle.int13.specs.declared.Outcome.TheVariants.{Answered, Waits}
use Rattle.int13.specs.Answers.{ah, is_sectors}
use Rattle.int13.specs.Steps.{fed, drive_named, begin}
use Rattle.int13.specs.Alone.{Memory, Served, asked, asked_start, named_from, alone}

-- ---- "The words of demand 3", Served alone: what moves, byte by byte

-- the buffer address, 16 x segment + offset: of ES:BX for 02h and 03h, else of words 6 and 4 of the packet at DS:SI
abbrev pub asked_buffer : Registers → List ℕ → ℕ
asked_buffer r w =
    pick (is_sectors (ah r)) (16 * r.es + r.bx)
    (16 * le 2 w (16 * r.ds + r.si + 6) + le 2 w (16 * r.ds + r.si + 4))

-- 02h and 42h copy named block i to the 512 window bytes at buffer address + 512 x i; no other byte changes
pub record ReadBytes (n first buffer : ℕ) (m m' : Memory) : Type 0 where
  pub window : (i k : ℕ) → i < n → k < 512 → get_or m'.window (buffer + 512 * i + k) 0 ≡ get_or m.store (512 * (first + i) + k) 0
  pub other : (x : ℕ) → (x < buffer) ⊎ (buffer + 512 * n ≤ x) → get_or m'.window x 0 ≡ get_or m.window x 0
  pub size : length m'.window ≡ length m.window
  pub store : m'.store ≡ m.store

-- 03h and 43h copy the other way
pub record WrittenBytes (n first buffer : ℕ) (m m' : Memory) : Type 0 where
  pub store : (i k : ℕ) → i < n → k < 512 → get_or m'.store (512 * (first + i) + k) 0 ≡ get_or m.window (buffer + 512 * i + k) 0
  pub other : (x : ℕ) → (x < 512 * first) ⊎ (512 * (first + n) ≤ x) → get_or m'.store x 0 ≡ get_or m.store x 0
  pub size : length m'.store ≡ length m.store
  pub window : m'.window ≡ m.window

-- the posted registers with carry clear and AH = 0
pub record PostedWell (r x : Registers) : Type 0 where
  pub ax : x.ax ≡ r.ax % 256
  pub bx : x.bx ≡ r.bx
  pub cx : x.cx ≡ r.cx
  pub dx : x.dx ≡ r.dx
  pub ds : x.ds ≡ r.ds
  pub si : x.si ≡ r.si
  pub es : x.es ≡ r.es
  pub carry : x.carry ≡ false

-- ---- document 02, 2026-04: the end at a bad block

-- block x of the drive that DL names is one of its bad ones, or is not: drive 80h + i of the table that was read has counts[i] of them, eight bytes
-- each from byte 128 x i of `bad`
abbrev pub worn_block : Table → Registers → ℕ → Bool
worn_block b r x = some_below (get_or b.counts (r.dx % 256 - 0x80) 0) (λ j. eqb (le 8 b.bad (128 * (r.dx % 256 - 0x80) + 8 * j)) x)

-- "carry set, AH = 10h for a read, CCh for a write", AL giving the n good blocks moved for 02h and 03h
pub record PostedBad (n : ℕ) (r x : Registers) : Type 0 where
  pub read : (ah r ≡ 0x02) ⊎ (ah r ≡ 0x42) → x.ax / 256 ≡ 0x10
  pub write : (ah r ≡ 0x03) ⊎ (ah r ≡ 0x43) → x.ax / 256 ≡ 0xCC
  pub al : x.ax % 256 ≡ pick (is_sectors (ah r)) n (r.ax % 256)
  pub bx : x.bx ≡ r.bx
  pub cx : x.cx ≡ r.cx
  pub dx : x.dx ≡ r.dx
  pub ds : x.ds ≡ r.ds
  pub si : x.si ≡ r.si
  pub es : x.es ≡ r.es
  pub carry : x.carry ≡ true

-- "the packet's count word [...] giving the good blocks moved", the packet at DS:SI; no other byte changes
pub record CountBytes (n : ℕ) (r : Registers) (m m' : Memory) : Type 0 where
  pub low : get_or m'.window (16 * r.ds + r.si + 2) 0 ≡ n
  pub high : get_or m'.window (16 * r.ds + r.si + 3) 0 ≡ 0
  pub other : (x : ℕ) → (x < 16 * r.ds + r.si + 2) ⊎ (16 * r.ds + r.si + 4 ≤ x) → get_or m'.window x 0 ≡ get_or m.window x 0
  pub size : length m'.window ≡ length m.window
  pub store : m'.store ≡ m.store

-- what is written after the data: nothing where all n blocks moved, and nothing for 02h and 03h, which have no packet
pub record AfterData (n k : ℕ) (r : Registers) (m m' : Memory) : Type 0 where
  pub all : k ≡ n → m' ≡ m
  pub sectors : (ah r ≡ 0x02) ⊎ (ah r ≡ 0x03) → m' ≡ m
  pub packet : (ah r ≡ 0x42) ⊎ (ah r ≡ 0x43) → k < n → CountBytes k r m m'

-- ---- "The words of demand 3", Served alone: the request that waits

-- n, the first named block and the buffer by the registers, the packet and the table that was read; both runs lie inside the memory. k blocks
-- move, those before the first bad one, or all n; `between` is the memory then
pub record AloneBytes (b : Table) (r : Registers) (m : Memory) (s : Served) : Type 0 where
  pub some : 0 < asked r m.window
  pub room : asked_buffer r m.window + 512 * asked r m.window ≤ length m.window
  -- the sixteen bytes of the packet at DS:SI lie inside the window, and so the count word does
  pub packet_room : (ah r ≡ 0x42) ⊎ (ah r ≡ 0x43) → 16 * r.ds + r.si + 16 ≤ length m.window
  pub inside : 512 * (named_from b r m.window + asked r m.window) ≤ length m.store
  pub function : ((ah r ≡ 0x02) ⊎ (ah r ≡ 0x42)) ⊎ ((ah r ≡ 0x03) ⊎ (ah r ≡ 0x43))
  pub k : ℕ
  pub most : k ≤ asked r m.window
  pub good : (i : ℕ) → i < k → worn_block b r (asked_start b r m.window + i) ≡ false
  pub bad : k < asked r m.window → worn_block b r (asked_start b r m.window + k) ≡ true
  pub between : Memory
  pub reads : (ah r ≡ 0x02) ⊎ (ah r ≡ 0x42) → ReadBytes k (named_from b r m.window) (asked_buffer r m.window) m between
  pub writes : (ah r ≡ 0x03) ⊎ (ah r ≡ 0x43) → WrittenBytes k (named_from b r m.window) (asked_buffer r m.window) m between
  pub after : AfterData (asked r m.window) k r between s.memory
  pub whole : k ≡ asked r m.window → PostedWell r s.registers
  pub stopped : k < asked r m.window → PostedBad k r s.registers

-- for every table that an opening accepts, placement, registers, window and store: where the steps let the call wait, served alone moves those bytes
abbrev pub AloneMoves : Type 0
AloneMoves =
    (t : List ℕ) (p : Placement) (r : Registers) (m : Memory) (j : Job)
    → (read_table t (length m.store / 512)).answer ≡ Ok tt
    → (begin (fed (read_table t (length m.store / 512)).table p) r m.window).outcome ≡ Waits j
    → AloneBytes (read_table t (length m.store / 512)).table r m (alone (fed t p) r m)

-- ---- document 02, 2026-04: 44h

-- "44h reports the first bad block of its range at once with 10h, after the 04h check, the count word giving the good blocks before it": of the
-- blocks that the packet at DS:SI names, from qword 8 on as many as word 2 says, k are good and the next one is bad; nothing moves
pub record VerifiedTo (b : Table) (r : Registers) (m : Memory) (s : Served) : Type 0 where
  pub packet_room : 16 * r.ds + r.si + 16 ≤ length m.window
  pub inside : le 8 m.window (16 * r.ds + r.si + 8) + le 2 m.window (16 * r.ds + r.si + 2) ≤ (drive_named b r).blocks
  pub k : ℕ
  pub fewer : k < le 2 m.window (16 * r.ds + r.si + 2)
  pub good : (i : ℕ) → i < k → worn_block b r (le 8 m.window (16 * r.ds + r.si + 8) + i) ≡ false
  pub bad : worn_block b r (le 8 m.window (16 * r.ds + r.si + 8) + k) ≡ true
  pub registers : PostedBad k r s.registers
  pub count : CountBytes k r m s.memory

-- a success: none of them is bad, and no byte changes
pub record VerifiedWhole (b : Table) (r : Registers) (m : Memory) (s : Served) : Type 0 where
  pub packet_room : 16 * r.ds + r.si + 16 ≤ length m.window
  pub inside : le 8 m.window (16 * r.ds + r.si + 8) + le 2 m.window (16 * r.ds + r.si + 2) ≤ (drive_named b r).blocks
  pub good : (i : ℕ) → i < le 2 m.window (16 * r.ds + r.si + 2) → worn_block b r (le 8 m.window (16 * r.ds + r.si + 8) + i) ≡ false
  pub registers : PostedWell r s.registers
  pub memory : s.memory ≡ m

-- what a 44h comes to, which the steps always answer at once: refused with 01h or 04h, which of them and when being the promise of the steps; with 10h
-- only at a bad block; a success only where none is bad
pub record VerifyBytes (b : Table) (p : Placement) (r : Registers) (m : Memory) (s : Served) : Type 0 where
  pub at_once : (begin (fed b p) r m.window).outcome ≡ Answered s.registers
  pub refused :
      s.registers.carry ≡ true → (s.registers.ax / 256 ≡ 0x01) ⊎ (s.registers.ax / 256 ≡ 0x04) ⊎ (s.registers.ax / 256 ≡ 0x10)
  pub stopped : s.registers.ax / 256 ≡ 0x10 → VerifiedTo b r m s
  pub whole : s.registers.carry ≡ false → VerifiedWhole b r m s

-- for every table that an opening accepts, placement, registers of a 44h, window and store
abbrev pub AloneVerifies : Type 0
AloneVerifies =
    (t : List ℕ) (p : Placement) (r : Registers) (m : Memory)
    → (read_table t (length m.store / 512)).answer ≡ Ok tt
    → ah r ≡ 0x44
    → VerifyBytes (read_table t (length m.store / 512)).table p r m (alone (fed t p) r m)
