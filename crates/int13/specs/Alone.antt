-- Document 01, "The words of demand 3", and document 02, 2026-04: a request's own words, and served alone, a plain machine of registers, window
-- and store.
-- Assumes nothing.
use Rattle.std.specs.Prelude.{ℕ, ◌+◌, ◌*◌, ◌/◌, List, length, ltb, Result, Ok, Err}
use Rattle.logic.specs.Logic.{pick}
use Rattle.words.specs.Words.{le}
use Rattle.chs.specs.declared.Outside.{Outside}
use Rattle.chs.specs.Chs.{block_of, address_in}
use Rattle.drive.specs.Drive.{geometry_of}
use Rattle.attached.specs.Bad.{good}
use Rattle.table.specs.declared.Table.{Table}
use Rattle.table.specs.Table.{read_table}
use Rattle.memory.specs.Blocks.{block_length, blocks}
use Rattle.int13.specs.declared.Registers.{Registers}
use Rattle.int13.specs.declared.Job.{Job}
use Rattle.int13.specs.declared.Outcome.{Outcome}
use Rattle.int13.specs.declared.Outcome.TheVariants.{Answered, Waits}
use Rattle.int13.specs.Answers.{ah, al, is_sectors, is_write, ended}
use Rattle.int13.specs.Steps.{Feeds, fed, drive_at, drive_named, bads_of, packet_place, with_count, begin}

-- ---- "The words of demand 3", a request from outside: the registers and the window that the post found

-- n: its AL or packet count
abbrev pub asked : Registers → List ℕ → ℕ
asked r w = pick (is_sectors (ah r)) (al r) (le 2 w (packet_place r + 2))

-- the block of an address that is valid
abbrev pub block_number : Result ℕ Outside → ℕ
block_number (Ok n) = n
block_number (Err e) = 0

-- the first of its blocks, of the drive: from start, for 02h and 03h from its address's block
abbrev pub asked_start : Table → Registers → List ℕ → ℕ
asked_start b r w =
    pick (is_sectors (ah r)) (block_number (block_of (geometry_of (drive_named b r)) (address_in r.cx r.dx))) (le 8 w (packet_place r + 8))

-- the store block that it names first
abbrev pub named_from : Table → Registers → List ℕ → ℕ
named_from b r w = (drive_named b r).first + asked_start b r w

-- ---- "The words of demand 3", Served alone: the blocks of a request move between the window and the store

-- the guest's window and the store, which are its state
pub record Memory : Type 0 where
  pub window : List ℕ
  pub store : List ℕ

-- the store block of a job's first block
abbrev pub store_block : Table → Job → ℕ
store_block b j = (drive_at b j.drive).first + j.start

-- k blocks from block i on: 02h and 42h copy store block to window, 03h and 43h the other way; `first` is the store block of block 0
unfoldable pub moves : Job → ℕ → ℕ → ℕ → Memory → Memory
moves j first i k m =
    pick (is_write (ah j.registers))
    (record { window = m.window; store = blocks m.store (block_length * (first + i)) m.window (j.buffer + block_length * i) k })
    (record { window = blocks m.window (j.buffer + block_length * i) m.store (block_length * (first + i)) k; store = m.store })

-- ---- "2026-04", a request that meets a bad block

-- of k blocks of a job from block i on, how many come before the first bad one
abbrev pub good_of : Table → Job → ℕ → ℕ → ℕ
good_of b j i k = good (bads_of b j.drive) (j.start + i) k

-- a number of blocks moved in the packet's count word; 02h and 03h have no packet
unfoldable pub reported : Job → ℕ → List ℕ → List ℕ
reported j n w = pick (is_sectors (ah j.registers)) w (with_count w j.packet n)

-- the window of a request that ends after so many blocks: where they are not all, "The count word is written after the data, also where the buffer
-- covers the packet"
abbrev pub ended_window : Job → ℕ → List ℕ → List ℕ
ended_window j moved w = pick (ltb moved j.count) (reported j moved w) w

-- window and store of a request that ends so
abbrev pub ended_memory : Job → ℕ → Memory → Memory
ended_memory j moved m = record { window = ended_window j moved m.window; store = m.store }

-- ---- "The words of demand 3", Served alone: what it gives

-- registers, and the window and store afterwards
pub record Served : Type 0 where
  pub registers : Registers
  pub memory : Memory

-- all n blocks move, or those before the first bad one; then the posted registers come back, as the end is
abbrev pub served_to : Table → Job → ℕ → Memory → Served
served_to b j k m = record { registers = ended j.count k j.registers; memory = ended_memory j k (moves j (store_block b j) 0 k m) }

-- what the steps answer at once is answered and written as they say; else the request is served
abbrev pub finish : Table → Outcome → List ℕ → Memory → Served
finish b (Answered r) w m = record { registers = r; memory = record { window = w; store = m.store } }
finish b (Waits j) w m = served_to b j (good_of b j 0 j.count) m

-- by the steps, with the table that the opening read
abbrev pub served_by : Feeds Table → Registers → Memory → Served
served_by f r m = finish f.table (begin f r m.window).outcome (begin f r m.window).window m

-- fed the opening's table bytes, the guest's placement at the post, the post's registers, and the guest's window and the store as the post found
-- them
unfoldable pub alone : Feeds (List ℕ) → Registers → Memory → Served
alone f r m = served_by (fed (read_table f.table (length m.store / block_length)).table f.placement) r m
