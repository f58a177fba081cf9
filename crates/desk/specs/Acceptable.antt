-- Document 01, "Calls the host makes": which desks are accepted; any other is 25.
-- Assumes nothing.
use Rattle.std.specs.Prelude.{ℕ, zero, suc, ◌+◌, ◌*◌, ◌/◌, ◌%◌, ◌^◌, ◌≤◌, ◌<◌, Bool, true, not, List, leb, ltb, eqb}
use Rattle.logic.specs.Logic.{pick, both, either, all_below}
use Rattle.chs.specs.Chs.{size}
use Rattle.drive.specs.declared.Drive.{Drive}
use Rattle.drive.specs.Drive.{geometry_of, is_protected}
use Rattle.table.specs.declared.Table.{Table}
use Rattle.table.specs.Table.{is_sound}
use Rattle.layout.specs.Packet.{packet_length}
use Rattle.layout.specs.ParameterTable.{parameter_size}
use Rattle.memory.specs.Window.{guests, window_length}
use Rattle.memory.specs.Blocks.{block_length}
use Rattle.int13.specs.declared.Job.{Job}
use Rattle.int13.specs.declared.Placement.{Placement}
use Rattle.int13.specs.Answers.{ah, is_sectors, is_write}
use Rattle.int13.specs.Placement.{table_count}
use Rattle.int13.specs.Steps.{is_drive, drive_at, most_blocks, most_run}
use Rattle.desk.specs.declared.Request.{Request}
use Rattle.desk.specs.declared.Stage.{Stage}
use Rattle.desk.specs.declared.Stage.TheVariants.{Vacant, Waiting, Finished}
use Rattle.desk.specs.declared.Row.{Row}
use Rattle.desk.specs.declared.Desk.{Desk}
use Rattle.desk.specs.Parts.{window_size, store_blocks, stage_in, placement_at}

-- the blocks that a turn moves at most
abbrev pub turn_blocks : ℕ
turn_blocks = 16

-- the functions that wait
abbrev pub is_transfer : ℕ → Bool
is_transfer f = either (is_sectors f) (either (eqb f 0x42) (eqb f 0x43))

-- a count within its function's limit
abbrev pub count_ok : ℕ → ℕ → Bool
count_ok f n = leb n (pick (is_sectors f) most_run most_blocks)

-- a block range inside that drive, and the geometry for 02h and 03h
abbrev pub range_ok : Drive → ℕ → Job → Bool
range_ok d f j = both (leb (j.start + j.count) d.blocks) (pick (is_sectors f) (leb (j.start + j.count) (size (geometry_of d))) true)

-- any packet inside the window; 02h and 03h have none, and keep 0 in its place
abbrev pub packet_ok : ℕ → ℕ → ℕ → Bool
packet_ok f place M = pick (is_sectors f) (eqb place 0) (leb (place + packet_length) M)

-- what is asked of a job on its drive; a write needs one that is not protected
abbrev pub job_rules : Drive → ℕ → Job → Bool
job_rules d M j =
    both (is_transfer (ah j.registers))
    (both (count_ok (ah j.registers) j.count)
    (both (range_ok d (ah j.registers) j)
    (both (leb (j.buffer + block_length * j.count) M)
    (both (packet_ok (ah j.registers) j.packet M)
    (not (both (is_write (ah j.registers)) (is_protected d)))))))

-- the same of a job that names its drive by number
unfoldable pub job_ok : Table → ℕ → Job → Bool
job_ok b M j = both (is_drive b j.drive) (job_rules (drive_at b j.drive) M j)

-- a moved number that is a multiple of 16 below the count
abbrev pub moved_ok : ℕ → ℕ → Bool
moved_ok moved count = both (eqb (moved % turn_blocks) 0) (ltb moved count)

-- all that is asked of a waiting request on its drive, in windows of M bytes
unfoldable pub request_ok : Drive → ℕ → Request → Bool
request_ok d M q = both (job_rules d M q.job) (moved_ok q.moved q.job.count)

-- a waiting row has a known drive, and a request as above; the other stages hold nothing to ask about
abbrev pub stage_ok : Table → ℕ → Stage → Bool
stage_ok b M Vacant = true
stage_ok b M (Waiting q) = both (is_drive b q.job.drive) (request_ok (drive_at b q.job.drive) M q)
stage_ok b M (Finished r) = true

-- the first n rows
unfoldable pub rows_ok : ℕ → List Row → Table → ℕ → Bool
rows_ok zero rows b M = true
rows_ok (suc n) rows b M = both (stage_ok b M (stage_in rows n)) (rows_ok n rows b M)

-- ---- document 02, 2026-01: a good place for parameter tables

-- the segments of a guest's memory: 0 to FFFFh
abbrev pub segments : ℕ
segments = 0x10000

-- n tables from an address on, in windows of M bytes: a multiple of 16; the tables end inside the window, with none the address does; and the
-- segment of the last is at most FFFFh, with none there is none to test
unfoldable pub place_ok : ℕ → ℕ → ℕ → Bool
place_ok n M address =
    both (eqb (address % 16) 0) (both (leb (address + parameter_size * n) M) (either (eqb n 0) (leb (address / 16 + n) segments)))

-- a guest with placement has a good place; one without has 0 for it
abbrev pub placement_ok : ℕ → ℕ → Placement → Bool
placement_ok n M p = pick p.placed (place_ok n M p.address) (eqb p.address 0)

-- the placements of the first k guests, for n tables in windows of M bytes
unfoldable pub placements_ok : ℕ → ℕ → ℕ → Desk → Bool
placements_ok k n M d = all_below k (λ g. placement_ok n M (placement_at d g))

-- ---- "It is accepted exactly when it is the image of a desk" of which all this holds

-- a table that obeys the rules, a pointer below 8, every waiting row as above, and good places
unfoldable pub accept : Desk → Bool
accept d =
    both (is_sound d.table (store_blocks d))
    (both (ltb d.pointer guests)
    (both (rows_ok guests d.rows d.table (window_size d)) (placements_ok guests (table_count d.table) (window_size d) d)))

-- what acceptance says of the blocks of a waiting request: their numbers fit a word, and they are few
pub record Servable (q : Request) : Type 0 where
  pub start : q.job.start + q.job.count < 2 ^ 64
  pub count : q.job.count ≤ most_run
  pub moved : q.moved < q.job.count

-- what acceptance says of the row that a turn serves, for k blocks of it, its drive's first store block, an arena of a bytes and a store of s
pub record InRange (first : ℕ) (q : Request) (k g a s : ℕ) : Type 0 where
  pub guest : g < guests
  pub part : q.moved + k ≤ q.job.count
  pub buffer : q.job.buffer + block_length * q.job.count ≤ window_length a
  pub blocks : block_length * (first + q.job.start + q.job.count) ≤ s
  pub arena : a < 2 ^ 64
  pub store : s < 2 ^ 64
