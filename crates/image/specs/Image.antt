-- Document 01, "Calls the host makes": the desk block. It is the image of a desk, a word of eight bytes for each field, and is accepted
-- exactly when it is the image of a desk that is acceptable.
-- Assumes nothing.
use Rattle.std.specs.Prelude.{ℕ, zero, suc, ◌+◌, ◌*◌, ◌^◌, ◌<◌, ◌≡◌, Bool, true, List, [], ◌∷◌, ◌++◌, length, get_or, replicate, eqb}
use Rattle.std.proofs.lemmas.List.Edits.{sets}
use Rattle.logic.specs.Logic.{pick, both}
use Rattle.words.specs.Words.{Bytes, le, le_bytes, part}
use Rattle.drive.specs.declared.Drive.{Drive}
use Rattle.drive.specs.Drive.{Fits, same}
use Rattle.table.specs.declared.Table.{Table}
use Rattle.table.specs.Table.{no_drive}
use Rattle.int13.specs.declared.Registers.{Registers}
use Rattle.desk.specs.declared.Request.{Request}
use Rattle.desk.specs.declared.Stage.{Stage}
use Rattle.desk.specs.declared.Stage.TheVariants.{Vacant, Waiting, Finished}
use Rattle.desk.specs.declared.Row.{Row}
use Rattle.desk.specs.declared.Desk.{Desk}
use Rattle.desk.specs.Parts.{stage_at}
use Rattle.int13.specs.Answers.{register_numbers}
use Rattle.desk.specs.Acceptable.{accept}
use Rattle.desk.specs.Calls.{closed}

-- ---- "Calls the host makes", the desk block: words of eight bytes

-- what the members of a list give, one after the other
unfoldable pub each : {A : Type 0} → (A → List ℕ) → List A → List ℕ
each f [] = []
each f (x ∷ xs) = f x ++ each f xs

-- the bytes of words
abbrev pub flat : List ℕ → List ℕ
flat words = each (le_bytes 8) words

-- what f gives for n numbers from i on
abbrev pub listed : {A : Type 0} → (ℕ → A) → ℕ → ℕ → List A
listed f i zero = []
listed f i (suc n) = f i ∷ listed f (suc i) n

-- ---- "Calls the host makes", the desk block: the words of a desk

-- what the job asks, and the blocks moved
abbrev pub request_words : Request → List ℕ
request_words q =
    register_numbers q.job.registers
    ++ (q.job.drive ∷ q.job.start ∷ q.job.count ∷ q.job.buffer ∷ q.job.packet ∷ q.moved ∷ [])

-- 23 words whatever the stage: its number, those of a request, those of the finished registers; zero where the stage has none
abbrev pub stage_words : Stage → List ℕ
stage_words Vacant = 0 ∷ (replicate 14 0 ++ replicate 8 0)
stage_words (Waiting q) = 1 ∷ (request_words q ++ replicate 8 0)
stage_words (Finished r) = 2 ∷ (replicate 14 0 ++ register_numbers r)

-- a row has the words of its stage
abbrev pub row_words : Row → List ℕ
row_words r = stage_words r.stage

-- the section of the rows
abbrev pub rows_words : List Row → List ℕ
rows_words rows = each row_words rows

-- 16 words; of a name its bytes in their order; the last two, the kind and the device path's last eight bytes, are those of document 02, 2026-06
abbrev pub drive_words : Drive → List ℕ
drive_words d =
    d.cylinders ∷ d.heads ∷ d.sectors ∷ d.blocks ∷ d.first ∷ d.flags ∷ d.c ∷ d.h ∷ d.s ∷ d.protection
    ∷ le 4 d.bus 0 ∷ le 8 d.interface 0 ∷ le 8 d.path 0 ∷ le 8 d.device 0 ∷ d.kind ∷ le 8 d.tail 0 ∷ []

-- the section of the slots of the table
abbrev pub slots_words : List Drive → List ℕ
slots_words drives = each drive_words drives

-- the section of the last words: the number of drives, the turn pointer, the lengths of the opening
abbrev pub tail_words : Desk → List ℕ
tail_words d = d.table.count ∷ d.pointer ∷ d.arena ∷ d.store ∷ []

-- marks, a word each: 1 where it holds, else 0
abbrev pub marks_words : List Bool → List ℕ
marks_words marks = each (λ x. pick x 1 0 ∷ []) marks

-- the section of the placements (document 02, 2026-01): which guests' tables are placed, and the addresses
abbrev pub places_words : Desk → List ℕ
places_words d = marks_words d.placed ++ d.addresses

-- the bytes of all slots' parameters, eight a word in their order
abbrev pub given_words : List ℕ → List ℕ
given_words bytes = listed (λ j. le 8 bytes (8 * j)) 0 14

-- the section of the drives' parameters (document 02, 2026-01): which slots have a record, and the fourteen bytes of each, one slot's behind the
-- other's
abbrev pub parameters_words : Table → List ℕ
parameters_words b = marks_words b.present ++ given_words b.parameters

-- the bytes of all slots' bad blocks, eight a word in their order
abbrev pub list_words : List ℕ → List ℕ
list_words bytes = listed (λ j. le 8 bytes (8 * j)) 0 128

-- the section of the bad blocks (document 02, 2026-04): how many each slot has, and the sixteen numbers of each, one slot's behind the other's, in
-- the bytes of their words
abbrev pub bads_words : Table → List ℕ
bads_words b = b.counts ++ list_words b.bad

-- the sections one after the other; one that is added later goes behind them, as a word that is added to a slot goes to its end
unfoldable pub desk_words : Desk → List ℕ
desk_words d =
    rows_words d.rows ++ (slots_words d.table.drives ++ (tail_words d ++ (places_words d ++ (parameters_words d.table ++ bads_words d.table))))

-- the image of a desk
unfoldable pub image : Desk → List ℕ
image d = flat (desk_words d)

-- ---- "Calls the host makes", the desk block: where its words stand

-- a row of 23 words, in bytes
abbrev pub row_size : ℕ
row_size = 8 * 23

-- a slot of the table, of 16
abbrev pub slot_size : ℕ
slot_size = 8 * 16

-- guest g's row: the eight rows come first
abbrev pub row_at : ℕ → ℕ
row_at g = row_size * g

-- slot i of the table, behind them; drive 80h + i stands there
abbrev pub slot_at : ℕ → ℕ
slot_at i = row_at 8 + slot_size * i

-- last word j, behind the eight slots
abbrev pub tail_at : ℕ → ℕ
tail_at j = slot_at 8 + 8 * j

-- guest g's mark of placement, behind them
abbrev pub mark_at : ℕ → ℕ
mark_at g = tail_at 4 + 8 * g

-- and the address, behind the eight marks
abbrev pub address_at : ℕ → ℕ
address_at g = mark_at 8 + 8 * g

-- the mark of slot i's parameters, behind the eight addresses
abbrev pub present_at : ℕ → ℕ
present_at i = address_at 8 + 8 * i

-- slot i's fourteen bytes, behind the eight marks
abbrev pub bytes_at : ℕ → ℕ
bytes_at i = present_at 8 + 14 * i

-- how many bad blocks slot i has, behind the bytes of all slots
abbrev pub bads_count_at : ℕ → ℕ
bads_count_at i = bytes_at 8 + 8 * i

-- slot i's sixteen numbers, behind the eight counts
abbrev pub bads_list_at : ℕ → ℕ
bads_list_at i = bads_count_at 8 + 128 * i

-- the whole block, 3920 bytes
abbrev pub desk_size : ℕ
desk_size = bads_list_at 8

-- the number of drives
abbrev pub count_at : ℕ
count_at = tail_at 0

-- the turn pointer
abbrev pub pointer_at : ℕ
pointer_at = tail_at 1

-- the arena's length at the opening
abbrev pub arena_at : ℕ
arena_at = tail_at 2

-- the store's length at the opening
abbrev pub store_at : ℕ
store_at = tail_at 3

-- in a row that begins at i, the words of a request
abbrev pub request_place : ℕ → ℕ
request_place i = i + 8

-- and those of the finished registers, behind them
abbrev pub finished_place : ℕ → ℕ
finished_place i = i + 8 * 15

-- ---- "Calls the host makes", the desk block: the desk that it says, each field by its own width, whatever the rest of its word is

-- the registers that eight words say
abbrev pub registers_at : List ℕ → ℕ → Registers
registers_at b i = record {
  ax = le 2 b i;
  bx = le 2 b (i + 8);
  cx = le 2 b (i + 16);
  dx = le 2 b (i + 24);
  ds = le 2 b (i + 32);
  si = le 2 b (i + 40);
  es = le 2 b (i + 48);
  carry = eqb (get_or b (i + 56) 0) 1;
}

-- the request that fourteen words say
abbrev pub request_at : List ℕ → ℕ → Request
request_at b i = record {
  job = record {
    registers = registers_at b i;
    drive = get_or b (i + 64) 0;
    start = le 8 b (i + 72);
    count = le 8 b (i + 80);
    buffer = le 8 b (i + 88);
    packet = le 8 b (i + 96);
  };
  moved = le 8 b (i + 104);
}

-- by the number of the stage; any but 1 and 2 says vacant
unfoldable pub read_stage : List ℕ → ℕ → Stage
read_stage b i =
    pick (eqb (get_or b i 0) 1) (Waiting (request_at b (request_place i))) (pick (eqb (get_or b i 0) 2) (Finished (registers_at b (finished_place i))) Vacant)

-- the row that 23 words say
abbrev pub read_row : List ℕ → ℕ → Row
read_row b i = record { stage = read_stage b i }

-- the drive that a slot says
unfoldable pub read_drive : List ℕ → ℕ → Drive
read_drive b i = record {
  cylinders = le 4 b i;
  heads = le 4 b (i + 8);
  sectors = le 4 b (i + 16);
  blocks = le 8 b (i + 24);
  first = le 8 b (i + 32);
  flags = le 2 b (i + 40);
  c = le 2 b (i + 48);
  h = le 2 b (i + 56);
  s = get_or b (i + 64) 0;
  protection = get_or b (i + 72) 0;
  bus = part 4 b (i + 80);
  interface = part 8 b (i + 88);
  path = part 8 b (i + 96);
  device = part 8 b (i + 104);
  kind = le 2 b (i + 112);
  tail = part 8 b (i + 120);
}

-- the section of the rows, read
abbrev pub read_rows : List ℕ → List Row
read_rows b = listed (λ g. read_row b (row_at g)) 0 8

-- the section of the slots, read
abbrev pub read_slots : List ℕ → List Drive
read_slots b = listed (λ i. read_drive b (slot_at i)) 0 8

-- eight marks, a word each, from a place on; any word but 1 says no
abbrev pub read_marks : List ℕ → ℕ → List Bool
read_marks b at = listed (λ i. eqb (get_or b (at + 8 * i) 0) 1) 0 8

-- the eight addresses
abbrev pub read_addresses : List ℕ → List ℕ
read_addresses b = listed (λ g. le 8 b (address_at g)) 0 8

-- the eight counts of bad blocks
abbrev pub read_counts : List ℕ → List ℕ
read_counts b = listed (λ i. get_or b (bads_count_at i) 0) 0 8

-- the table: its slots, the number of drives among the last words, the drives' parameters, and their bad blocks
abbrev pub block_table : List ℕ → Table
block_table b =
    record {
      drives = read_slots b;
      count = le 8 b count_at;
      present = read_marks b (present_at 0);
      parameters = part 112 b (bytes_at 0);
      counts = read_counts b;
      bad = part 1024 b (bads_list_at 0);
    }

-- the desk that the sections say
unfoldable pub read_desk : List ℕ → Desk
read_desk b =
    record {
      rows = read_rows b;
      pointer = le 8 b pointer_at;
      table = block_table b;
      arena = le 8 b arena_at;
      store = le 8 b store_at;
      placed = read_marks b (mark_at 0);
      addresses = read_addresses b;
    }

-- ---- "Calls the host makes", the desk block: which blocks are accepted

-- it has the size, and what it says makes the same bytes again: so no byte of it says anything else
unfoldable pub is_image : List ℕ → Bool
is_image b = both (eqb (length b) desk_size) (same b (image (read_desk b)))

-- the desk whose image it is; of any other block a desk at which every call is 25
unfoldable pub desk_of : List ℕ → Desk
desk_of b = pick (is_image b) (read_desk b) (closed 0 0)

-- "It is accepted exactly when it is the image of a desk" that is acceptable
unfoldable pub accepted : List ℕ → Bool
accepted b = accept (desk_of b)

-- a desk laid out in a block; a block of another size stays
unfoldable pub laid : List ℕ → Desk → List ℕ
laid b d = pick (eqb (length b) desk_size) (image d) b

-- ---- "Calls the host makes", the desk block: what a call changes in it

-- the words of one row
unfoldable pub put_stage : List ℕ → ℕ → Stage → List ℕ
put_stage b g s = sets b (row_at g) (flat (stage_words s))

-- the pointer's word
unfoldable pub put_pointer : List ℕ → ℕ → List ℕ
put_pointer b pointer = sets b pointer_at (le_bytes 8 pointer)

-- a guest's mark of placement, and its address
unfoldable pub put_placement : List ℕ → ℕ → ℕ → List ℕ
put_placement b g address = sets (sets b (mark_at g) (le_bytes 8 1)) (address_at g) (le_bytes 8 address)

-- ---- "Calls the host makes", the desk block: each number of a desk fits its width, each array has its length, as the types say

-- registers of two bytes
pub record FitsRegisters (r : Registers) : Type 0 where
  pub ax : r.ax < 256 ^ 2
  pub bx : r.bx < 256 ^ 2
  pub cx : r.cx < 256 ^ 2
  pub dx : r.dx < 256 ^ 2
  pub ds : r.ds < 256 ^ 2
  pub si : r.si < 256 ^ 2
  pub es : r.es < 256 ^ 2

-- a request's registers, its drive's number of one byte, and five numbers of eight
pub record FitsRequest (q : Request) : Type 0 where
  pub registers : FitsRegisters q.job.registers
  pub drive : q.job.drive < 256
  pub start : q.job.start < 256 ^ 8
  pub count : q.job.count < 256 ^ 8
  pub buffer : q.job.buffer < 256 ^ 8
  pub packet : q.job.packet < 256 ^ 8
  pub moved : q.moved < 256 ^ 8

-- what a stage holds
unfoldable pub FitsStage : Stage → Type 0
FitsStage Vacant = Unit {0}
FitsStage (Waiting q) = FitsRequest q
FitsStage (Finished r) = FitsRegisters r

-- a drive's numbers and the bytes of its names
pub record FitsDrive (d : Drive) : Type 0 where
  pub numbers : Fits d
  pub s : d.s < 256
  pub protection : d.protection < 256
  pub bus : Bytes d.bus
  pub interface : Bytes d.interface
  pub path : Bytes d.path
  pub device : Bytes d.device
  pub tail : Bytes d.tail

-- eight slots, a number of drives, a mark of parameters for each slot, and fourteen bytes for each; a count of bad blocks of one byte for each, and
-- the bytes of sixteen numbers for each
pub record FitsTable (b : Table) : Type 0 where
  pub eight : length b.drives ≡ 8
  pub each : (i : ℕ) → i < 8 → FitsDrive (get_or b.drives i no_drive)
  pub count : b.count < 256 ^ 8
  pub present : length b.present ≡ 8
  pub parameters : length b.parameters ≡ 112
  pub bytes : Bytes b.parameters
  pub counts : length b.counts ≡ 8
  pub few_bads : Bytes b.counts
  pub bad : length b.bad ≡ 1024
  pub lists : Bytes b.bad

-- eight rows, the other numbers, and a mark and an address for each guest
pub record FitsDesk (d : Desk) : Type 0 where
  pub eight : length d.rows ≡ 8
  pub each : (g : ℕ) → g < 8 → FitsStage (stage_at d g)
  pub table : FitsTable d.table
  pub pointer : d.pointer < 256 ^ 8
  pub arena : d.arena < 256 ^ 8
  pub store : d.store < 256 ^ 8
  pub placed : length d.placed ≡ 8
  pub addresses : length d.addresses ≡ 8
  pub address : (g : ℕ) → get_or d.addresses g 0 < 256 ^ 8

-- ---- "Calls the host makes", the desk block: the two ways round, of which one is about every block and the other about every desk

-- a block is accepted exactly when it is the image of an acceptable desk, which is then the desk that it is read as; its length and bytes
-- are those that it is written back with
pub record ImageOf (b : List ℕ) (d : Desk) : Type 0 where
  pub fits : FitsDesk d
  pub acceptable : accept d ≡ true
  pub image : image d ≡ b

-- both ways
pub record Exact : Type 0 where
  pub only : (b : List ℕ) → Bytes b → accepted b ≡ true → ImageOf b (desk_of b)
  pub every : (b : List ℕ) (d : Desk) → ImageOf b d → (accepted b ≡ true) × (desk_of b ≡ d)
