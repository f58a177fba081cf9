-- Document 01, "Calls the host makes": a desk block judged on its words, with no desk made of it. Each part is the rule of one section, and
-- `judged` of all of them says the same as `accepted`.
-- Assumes nothing.
use Rattle.std.specs.Prelude.{ℕ, ◌+◌, ◌-◌, ◌*◌, ◌/◌, ◌^◌, Bool, false, List, length, get_or, leb, ltb, eqb}
use Rattle.logic.specs.Logic.{pick, both, either, all_below}
use Rattle.words.specs.Words.{le}
use Rattle.drive.specs.Drive.{fields_ok, in_store}
use Rattle.memory.specs.Window.{guests, window_length}
use Rattle.memory.specs.Blocks.{block_length}
use Rattle.table.specs.Table.{most_drives, attached_to, listed_to}
use Rattle.int13.specs.Placement.{table_count}
use Rattle.desk.specs.declared.Stage.TheVariants.{Waiting}
use Rattle.desk.specs.Acceptable.{stage_ok, placements_ok}
use Rattle.image.specs.Image.{row_at, slot_at, desk_size, count_at, pointer_at, arena_at, store_at, mark_at, present_at, bads_count_at, request_place, finished_place, request_at, read_drive, read_desk}

-- ---- "Calls the host makes", the desk block: words within the width of their fields

-- n words from a place are below end; below 1 they are zero
unfoldable pub below : ℕ → ℕ → List ℕ → ℕ → Bool
below n end b at = all_below n (λ j. ltb (le 8 b (at + 8 * j)) end)

-- eight words are registers: seven of two bytes, and the carry bit
unfoldable pub are_registers : List ℕ → ℕ → Bool
are_registers b i = both (ltb (le 8 b (i + 56)) 2) (below 7 (256 ^ 2) b i)

-- fourteen words are a request: registers, a drive's number of one byte, and words that fill theirs
unfoldable pub is_request : List ℕ → ℕ → Bool
is_request b i = both (ltb (le 8 b (i + 64)) 256) (are_registers b i)

-- sixteen words are a drive: three of four bytes, two that fill theirs, three of two bytes, two of one, the names and paths, of which the host bus
-- has four bytes and the others fill theirs, and among these the kind, of two
unfoldable pub is_slot : List ℕ → ℕ → Bool
is_slot b i =
    both (ltb (le 8 b (i + 112)) (256 ^ 2))
    (both (ltb (le 8 b (i + 80)) (256 ^ 4)) (both (below 2 256 b (i + 64)) (both (below 3 (256 ^ 2) b (i + 40)) (below 3 (256 ^ 4) b i))))

-- ---- "The drive table", the slots of a block

-- a drive of good fields inside the store
unfoldable pub drive_good : List ℕ → ℕ → ℕ → Bool
drive_good b store i = both (is_slot b i) (both (fields_ok (read_drive b i)) (in_store (read_drive b i) store))

-- the first n slots hold such drives
unfoldable pub drives_good : ℕ → List ℕ → ℕ → Bool
drives_good n b store = all_below n (λ i. drive_good b store (slot_at i))

-- of the first n slots, those past the count are zero
unfoldable pub rest_zero : ℕ → ℕ → List ℕ → Bool
rest_zero n count b = all_below n (λ i. either (ltb i count) (below 16 1 b (slot_at i)))

-- where the drive of a slot begins in the store
abbrev pub first_in : List ℕ → ℕ → ℕ
first_in b i = le 8 b (slot_at i + 32)

-- the blocks of the drive of a slot
abbrev pub blocks_in : List ℕ → ℕ → ℕ
blocks_in b i = le 8 b (slot_at i + 24)

-- of two runs of blocks, the one that begins first ends where the other begins, or before
unfoldable pub apart : ℕ → ℕ → ℕ → ℕ → Bool
apart first blocks other others = pick (leb first other) (leb (first + blocks) other) (leb (other + others) first)

-- a drive shares no block with one of the first n
unfoldable pub alone_to : ℕ → List ℕ → ℕ → Bool
alone_to n b i = all_below n (λ j. apart (first_in b i) (blocks_in b i) (first_in b j) (blocks_in b j))

-- each of the first n drives shares none with those before it
unfoldable pub drives_apart : ℕ → List ℕ → Bool
drives_apart n b = all_below n (λ i. alone_to i b i)

-- the drive of the next slot begins past this one's first block, and where it ends or past that
unfoldable pub follows : List ℕ → ℕ → Bool
follows b i = both (ltb (first_in b i) (first_in b (i + 1))) (leb (first_in b i + blocks_in b i) (first_in b (i + 1)))

-- each of the first n drives but the last does so: then they share none
unfoldable pub ascending : ℕ → List ℕ → Bool
ascending n b = all_below (n - 1) (λ i. follows b i)

-- ---- "Parts of the desk", the rows of a block

-- a request on a known drive that keeps the rules, and zeros where the finished registers would stand
unfoldable pub waiting_good : List ℕ → ℕ → ℕ → Bool
waiting_good b M i =
    both (both (is_request b (request_place i)) (below 8 1 b (finished_place i))) (stage_ok (read_desk b).table M (Waiting (request_at b (request_place i))))

-- finished registers, and zeros where a request would stand
unfoldable pub finished_good : List ℕ → ℕ → Bool
finished_good b i = both (below 14 1 b (request_place i)) (are_registers b (finished_place i))

-- by the number of the stage: vacant, with zeros behind it; waiting; finished; there is no other
unfoldable pub row_good : List ℕ → ℕ → ℕ → Bool
row_good b M i =
    pick (eqb (le 8 b i) 0) (below 22 1 b (request_place i))
    (pick (eqb (le 8 b i) 1) (waiting_good b M i)
    (pick (eqb (le 8 b i) 2) (finished_good b i)
    false))

-- the first n rows are good
unfoldable pub rows_good : ℕ → List ℕ → ℕ → Bool
rows_good n b M = all_below n (λ g. row_good b M (row_at g))

-- ---- document 02, 2026-01: parameters and placements in a block

-- n bytes from a place are zero
unfoldable pub zero_bytes : ℕ → List ℕ → ℕ → Bool
zero_bytes n b at = all_below n (λ j. eqb (get_or b (at + j) 0) 0)

-- the marks of parameters are 0 or 1; only slots with a drive have parameters, and a slot without has zeros for them
unfoldable pub parameters_good : List ℕ → Bool
parameters_good b = both (below most_drives 2 b (present_at 0)) (attached_to most_drives (read_desk b).table)

-- the marks of placement are 0 or 1, and every place is good
unfoldable pub places_good : List ℕ → ℕ → Bool
places_good b M = both (below guests 2 b (mark_at 0)) (placements_ok guests (table_count (read_desk b).table) M (read_desk b))

-- ---- document 02, 2026-04: bad blocks in a block

-- the counts have one byte, and every slot has bad blocks of its drive only
unfoldable pub bads_good : List ℕ → Bool
bads_good b = both (below most_drives 256 b (bads_count_at 0)) (listed_to most_drives (read_desk b).table)

-- what stands behind the last words
unfoldable pub more_good : List ℕ → ℕ → Bool
more_good b M = both (parameters_good b) (both (places_good b M) (bads_good b))

-- ---- "Calls the host makes", the desk block: which are accepted

-- at most eight drives that obey the rules, zeros past them, no two with a common block
unfoldable pub table_good : List ℕ → Bool
table_good b =
    both (leb (le 8 b count_at) most_drives)
    (both (drives_good (le 8 b count_at) b (le 8 b store_at / block_length))
    (both (rest_zero most_drives (le 8 b count_at) b)
    (drives_apart (le 8 b count_at) b)))

-- a block of the size whose table, pointer and rows are good, and the parameters, placements and bad blocks behind them
unfoldable pub judged : List ℕ → Bool
judged b =
    both (eqb (length b) desk_size)
    (both (table_good b)
    (both (ltb (le 8 b pointer_at) guests)
    (both (rows_good guests b (window_length (le 8 b arena_at))) (more_good b (window_length (le 8 b arena_at))))))
