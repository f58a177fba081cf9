-- Calls at small desks, by number: the order of the house numbers, both stages that refuse a post, what a collect leaves, and the pointer.
-- Assumes nothing.
use mathlib.Core.Path.{◌≡◌, refl}
use mathlib.Core.Bool.{true, false}
use mathlib.Core.List.{List, [], ◌∷◌, ◌++◌, map}
use Prim.Native.Nat.{ℕ, ◌/◌}
use lib.ListN.{length, replicate, set, take}
use Rattle.words.specs.Words.{le_bytes}
use Rattle.chs.specs.Chs.{in_limits, is_valid, block_of}
use Rattle.memory.specs.Window.{span_start, span_length}
use Rattle.layout.specs.Packet.{read_packet}
use Rattle.layout.specs.ResultBuffer.{returned_size, parameter_bytes, block_bytes, interface_bytes, path_bytes, sum, whole_result, result_bytes, result_answer, padded, wide_interface_bytes, wide_path_bytes, summed_bytes}
use Rattle.drive.specs.Drive.{drive_of, is_blank, blank_numbers, blank_names, same, bus_ok, interface_ok, geometry_fits, fields_ok, in_store, overlap, is_i2o, kind_ok, tail_of, zero_tail}
use Rattle.attached.specs.Bad.{held_of, ascends, are_blocks, list_ok, zero_past, bads_ok, is_bad, good}
use Rattle.table.specs.Table.{empty_table, header_of, header_at, overlaps_any, refusal, record_refusal, with_record, record_step, end_step, step_of, step_at, read_from, read_table, records_of, bytes_of, table_of, write_answer, write_out, write_numbers, sound_to, blank_to, attached_to, listed_to, is_sound}
use Rattle.words.specs.Words.{le}
use Rattle.int13.specs.declared.Registers.{Registers}
use Rattle.int13.specs.declared.Outcome.{Outcome}
use Rattle.int13.specs.declared.Outcome.TheVariants.{Answered, Waits}
use Rattle.int13.specs.Placement.{no_placement}
use Rattle.int13.specs.Numbers.{check_given, buffer_given, steps_given, begin_given}
use Rattle.int13.specs.Alone.{reported}
use Rattle.int13.specs.Steps.{is_drive, bads_of, fed, parameters, extensions, packet_plan, seek as seek_steps, sectors, result_into, steps, begin}
use Rattle.desk.specs.declared.Row.{Row}
use Rattle.desk.specs.declared.Stage.{Stage}
use Rattle.desk.specs.declared.Stage.TheVariants.{Vacant, Waiting, Finished}
use Rattle.desk.specs.declared.Desk.{Desk}
use Rattle.std.specs.Prelude.{Ok, Some, None}
use Rattle.desk.specs.Parts.{vacant_row}
use Rattle.desk.specs.Acceptable.{rows_ok, placements_ok, accept}
use Rattle.desk.specs.Calls.{open_of, written_of, written_out, post_vacant, post_row, post_of, first_waiting, turn_of, collect_stage, collect_of, withdraw_stage, withdraw_of}
use Rattle.desk.specs.Numbers.{open_numbers, written_numbers, post_numbers, turn_numbers, collect_numbers, withdraw_numbers, write_given, post_row_given, post_given, turn_row_given, turn_given, collect_row_given, collect_given, withdraw_row_given, withdraw_given}

-- 41h of drive 80h
abbrev registers : Registers
registers = record { ax = 0x4107; bx = 0x55AA; cx = 3; dx = 0x80; ds = 4; si = 5; es = 6; carry = true }

abbrev row : Stage → Row
row s = record { stage = s }

-- a desk with no drives, for an arena of 8 bytes and a store of none, with a stage at guest 3
abbrev desk : Stage → ℕ → Desk
desk s pointer = record { rows = set (replicate 8 vacant_row) 3 (row s); pointer = pointer; table = empty_table; arena = 8; store = 0; placed = replicate 8 false; addresses = replicate 8 0 }

abbrev arena : List ℕ
arena = replicate 8 7

-- its table is sound: said once for all the calls
sound : is_sound empty_table (0 / 512) ≡ true
unfolding is_sound sound_to blank_to attached_to listed_to bads_ok list_ok ascends are_blocks held_of zero_past le is_blank blank_numbers blank_names same zero_tail
sound = refl

-- the house numbers of post, turn, collect, withdraw and write at a desk, for a guest, an arena, a store and a buffer; then the same by the
-- second promise of each call
abbrev houses : Desk → ℕ → List ℕ → List ℕ → List ℕ → List (List ℕ)
houses d g a s out =
    post_numbers (post_of d g registers a s).answer ∷ turn_numbers (turn_of d a s).answer ∷ collect_numbers (collect_of d g a s).answer
    ∷ withdraw_numbers (withdraw_of d g a s).answer ∷ written_numbers (written_of d (length out))
    ∷ post_given d g registers a s ∷ turn_given d a s ∷ collect_given d g ∷ withdraw_given d g a s ∷ write_given d (length out) ∷ []

abbrev twice : List (List ℕ) → List (List ℕ)
twice l = l ++ l

-- a bad pointer, wrong lengths, no guest and a short buffer: 25. An acceptable desk with wrong lengths (24, where they are lent; a turn's
-- also with no row waiting), then with right ones and no guest (20), then by its row: vacant
pub order : houses (desk Vacant 8) 8 [] arena []
    ∷ houses (desk Vacant 0) 8 [] [] []
    ∷ houses (desk Vacant 0) 8 arena (1 ∷ []) []
    ∷ houses (desk Vacant 0) 8 arena [] []
    ∷ houses (desk Vacant 0) 3 arena [] (replicate 4 0)
    ∷ []
    ≡ map twice
    (((25 ∷ []) ∷ (25 ∷ []) ∷ (25 ∷ []) ∷ (25 ∷ []) ∷ (25 ∷ []) ∷ [])
    ∷ ((24 ∷ []) ∷ (24 ∷ []) ∷ (20 ∷ []) ∷ (24 ∷ []) ∷ (19 ∷ []) ∷ [])
    ∷ ((24 ∷ []) ∷ (24 ∷ []) ∷ (20 ∷ []) ∷ (24 ∷ []) ∷ (19 ∷ []) ∷ [])
    ∷ ((20 ∷ []) ∷ (256 ∷ []) ∷ (20 ∷ []) ∷ (20 ∷ []) ∷ (19 ∷ []) ∷ [])
    ∷ ((0 ∷ 0x0107 ∷ 0x55AA ∷ 3 ∷ 0x80 ∷ 4 ∷ 5 ∷ 6 ∷ 1 ∷ []) ∷ (256 ∷ []) ∷ (22 ∷ []) ∷ (23 ∷ []) ∷ (0 ∷ 4 ∷ []) ∷ [])
    ∷ [])
unfolding post_of turn_of collect_of withdraw_of written_of post_numbers turn_numbers collect_numbers withdraw_numbers written_numbers write_answer table_of bytes_of records_of le_bytes accept rows_ok placements_ok first_waiting begin steps is_drive parameters extensions write_numbers begin_given steps_given check_given write_given post_given turn_given collect_given withdraw_given
order = rw sound

-- a finished row refuses a post (21) and a withdrawal (23), and is collected once; any registers may stand in it
abbrev finished : Desk
finished = desk (Finished registers) 0

pub finished_row : post_numbers (post_of finished 3 registers arena []).answer
    ∷ withdraw_numbers (withdraw_of finished 3 arena []).answer
    ∷ collect_numbers (collect_of finished 3 [] []).answer
    ∷ collect_numbers (collect_of (collect_of finished 3 [] []).desk 3 [] []).answer
    ∷ post_given finished 3 registers arena []
    ∷ withdraw_given finished 3 arena []
    ∷ collect_given finished 3
    ∷ []
    ≡ (21 ∷ []) ∷ (23 ∷ []) ∷ (0 ∷ 0x4107 ∷ 0x55AA ∷ 3 ∷ 0x80 ∷ 4 ∷ 5 ∷ 6 ∷ 1 ∷ []) ∷ (22 ∷ [])
    ∷ (21 ∷ []) ∷ (23 ∷ []) ∷ (0 ∷ 0x4107 ∷ 0x55AA ∷ 3 ∷ 0x80 ∷ 4 ∷ 5 ∷ 6 ∷ 1 ∷ []) ∷ []
unfolding post_of collect_of withdraw_of post_numbers collect_numbers withdraw_numbers post_given collect_given withdraw_given accept rows_ok placements_ok
finished_row = rw (sound, sound)

-- a request that waits, whatever it asks
abbrev waiting : Row
waiting = row (Waiting (record { job = record { registers = registers; drive = 0x80; start = 0; count = 1; buffer = 0; packet = 0 }; moved = 0 }))

-- the search begins at the pointer, that row included, and goes round; a finished row is passed over
pub searches : map (first_waiting (set (set (set (replicate 8 vacant_row) 0 waiting) 7 waiting) 3 (row (Finished registers))) 8) (7 ∷ 0 ∷ 1 ∷ 3 ∷ [])
    ≡ Some 7 ∷ Some 0 ∷ Some 7 ∷ Some 7 ∷ []
unfolding first_waiting
searches = refl

-- openings: a table of no drives with the largest lengths; a table that is refused, whose place counts from its first byte
pub openings : open_numbers (open_of (4 ∷ 0 ∷ 0 ∷ 0 ∷ []) 18446744073709551615 18446744073709551615).answer
    ∷ open_numbers (open_of (4 ∷ 0 ∷ 0 ∷ 0 ∷ 0 ∷ []) 0 0).answer
    ∷ open_numbers (open_of [] 0 0).answer
    ∷ []
    ≡ (0 ∷ []) ∷ (8 ∷ 4 ∷ []) ∷ (1 ∷ 0 ∷ []) ∷ []
unfolding open_of open_numbers le header_of header_at end_step step_of step_at read_from read_table
openings = refl

-- a table write lays four bytes and leaves the rest of the buffer; a short buffer stays
pub writes : written_out (desk Vacant 0) (9 ∷ 9 ∷ 9 ∷ 9 ∷ 9 ∷ 9 ∷ []) ∷ written_out (desk Vacant 0) (9 ∷ 9 ∷ 9 ∷ []) ∷ written_out (desk Vacant 8) (9 ∷ 9 ∷ 9 ∷ 9 ∷ []) ∷ []
    ≡ (4 ∷ 0 ∷ 0 ∷ 0 ∷ 9 ∷ 9 ∷ []) ∷ (9 ∷ 9 ∷ 9 ∷ []) ∷ (9 ∷ 9 ∷ 9 ∷ 9 ∷ []) ∷ []
unfolding written_out write_out table_of bytes_of records_of le_bytes accept rows_ok placements_ok
writes = rw sound

-- ---- a waiting row, in calls that have passed their tests; windows of 16 bytes, with the packet at place 0

-- the drive's record: blocks, C, H and S 17, 1, 1 and 17
abbrev table_bytes : List ℕ
table_bytes =
    68 ∷ 0 ∷ 1 ∷ 0 ∷ 2 ∷ 0 ∷ 0 ∷ 0 ∷ 16 ∷ 0 ∷ 0 ∷ 0 ∷ 63 ∷ 0 ∷ 0 ∷ 0 ∷ 17 ∷ 0 ∷ 0 ∷ 0 ∷ 0 ∷ 0 ∷ 0 ∷ 0
    ∷ 0 ∷ 0 ∷ 0 ∷ 0 ∷ 0 ∷ 0 ∷ 0 ∷ 0
    ∷ 2 ∷ 0 ∷ 1 ∷ 0 ∷ 1 ∷ 0 ∷ 17 ∷ 0 ∷ 80 ∷ 67 ∷ 73 ∷ 0 ∷ 65 ∷ 84 ∷ 65 ∷ 0 ∷ 0 ∷ 0 ∷ 0 ∷ 0 ∷ 0 ∷ 31 ∷ 1 ∷ 0 ∷ 0 ∷ 0 ∷ 0 ∷ 0
    ∷ 0 ∷ 0 ∷ 0 ∷ 0 ∷ 0 ∷ 0 ∷ 0 ∷ 0
    ∷ 4 ∷ 0 ∷ 0 ∷ 0 ∷ []

-- 42h, and 02h of 17 sectors
abbrev packet_call : Registers
packet_call = record { ax = 0x4205; bx = 0; cx = 3; dx = 0x80; ds = 0; si = 8; es = 6; carry = false }

abbrev sector_call : Registers
sector_call = record { ax = 0x0211; bx = 0; cx = 1; dx = 0x80; ds = 4; si = 5; es = 0; carry = false }

abbrev partly : Registers → ℕ → Stage
partly r packet = Waiting (record { job = record { registers = r; drive = 0x80; start = 0; count = 17; buffer = 0; packet = packet }; moved = 16 })

abbrev small : Desk
small = record { rows = replicate 8 vacant_row; pointer = 0; table = empty_table; arena = 128; store = 0; placed = replicate 8 false; addresses = replicate 8 0 }

-- a post is refused (21) and a collect (22); a withdrawal after 16 of 17 blocks gives them in AL for 02h, and leaves the window; for 42h AL
-- stays and the packet's count word gives them, over whatever lies there. The guest is 1
pub waiting_row : post_numbers (post_row small 1 registers (replicate 128 7) [] (partly packet_call 0)).answer
    ∷ collect_numbers (collect_stage small 1 (partly packet_call 0) [] []).answer
    ∷ withdraw_numbers (withdraw_stage small 1 (partly sector_call 0) (replicate 128 7) []).answer
    ∷ take 24 (withdraw_stage small 1 (partly sector_call 0) (replicate 128 7) []).arena
    ∷ withdraw_numbers (withdraw_stage small 1 (partly packet_call 0) (replicate 128 7) []).answer
    ∷ take 24 (withdraw_stage small 1 (partly packet_call 0) (replicate 128 7) []).arena
    ∷ []
    ≡ (21 ∷ [])
    ∷ (22 ∷ [])
    ∷ (0 ∷ 0x8010 ∷ 0 ∷ 1 ∷ 0x80 ∷ 4 ∷ 5 ∷ 0 ∷ 1 ∷ [])
    ∷ replicate 24 7
    ∷ (0 ∷ 0x8005 ∷ 0 ∷ 3 ∷ 0x80 ∷ 0 ∷ 8 ∷ 6 ∷ 1 ∷ [])
    ∷ (7 ∷ 7 ∷ 7 ∷ 7 ∷ 7 ∷ 7 ∷ 7 ∷ 7 ∷ 7 ∷ 7 ∷ 7 ∷ 7 ∷ 7 ∷ 7 ∷ 7 ∷ 7 ∷ 7 ∷ 7 ∷ 16 ∷ 0 ∷ 7 ∷ 7 ∷ 7 ∷ 7 ∷ [])
    ∷ []
unfolding post_numbers collect_numbers withdraw_numbers reported le_bytes span_start span_length
waiting_row = refl

-- the same by the second promises, and the numbers of a turn that serves and of a post that waits
pub waiting_given : post_row_given small 1 registers (replicate 128 7) (partly packet_call 0)
    ∷ collect_row_given (partly packet_call 0)
    ∷ withdraw_row_given (partly sector_call 0)
    ∷ withdraw_row_given (partly packet_call 0)
    ∷ turn_row_given empty_table 3 (partly packet_call 0)
    ∷ turn_numbers (Ok (Some (record { guest = 3; moved = 16 })))
    ∷ post_numbers (Ok None)
    ∷ []
    ≡ (21 ∷ [])
    ∷ (22 ∷ [])
    ∷ (0 ∷ 0x8010 ∷ 0 ∷ 1 ∷ 0x80 ∷ 4 ∷ 5 ∷ 0 ∷ 1 ∷ [])
    ∷ (0 ∷ 0x8005 ∷ 0 ∷ 3 ∷ 0x80 ∷ 0 ∷ 8 ∷ 6 ∷ 1 ∷ [])
    ∷ (0 ∷ 3 ∷ 1 ∷ [])
    ∷ (0 ∷ 3 ∷ 16 ∷ [])
    ∷ (256 ∷ [])
    ∷ []
unfolding turn_numbers post_numbers bads_of is_drive good is_bad held_of
waiting_given = refl

-- ---- a post that is answered at once and writes the guest's window: 48h of guest 3, whose window is bytes 99 to 131, with the size 26 at place 4

abbrev lending : Desk
lending =
    record { rows = replicate 8 vacant_row; pointer = 0; table = (read_table table_bytes 17).table; arena = 270; store = 0; placed = replicate 8 false; addresses = replicate 8 0 }

abbrev result_call : Registers
result_call = record { ax = 0x4855; bx = 1; cx = 2; dx = 0x80; ds = 0; si = 4; es = 3; carry = true }

abbrev around : List ℕ → List ℕ
around bytes = replicate 99 9 ++ (7 ∷ 7 ∷ 7 ∷ 7 ∷ (bytes ++ (7 ∷ 7 ∷ 7 ∷ replicate 138 9)))

pub post-writes : post_numbers (post_vacant lending 3 result_call (around (26 ∷ 0 ∷ replicate 24 7)) []).answer
    ∷ (post_vacant lending 3 result_call (around (26 ∷ 0 ∷ replicate 24 7)) []).arena
    ∷ post_row_given lending 3 result_call (around (26 ∷ 0 ∷ replicate 24 7)) Vacant
    ∷ []
    ≡ (0 ∷ 0x0055 ∷ 1 ∷ 2 ∷ 0x80 ∷ 0 ∷ 4 ∷ 3 ∷ 0 ∷ [])
    ∷ around (26 ∷ 0 ∷ 2 ∷ 0 ∷ 2 ∷ 0 ∷ 0 ∷ 0 ∷ 16 ∷ 0 ∷ 0 ∷ 0 ∷ 63 ∷ 0 ∷ 0 ∷ 0 ∷ 17 ∷ 0 ∷ 0 ∷ 0 ∷ 0 ∷ 0 ∷ 0 ∷ 0 ∷ 0 ∷ 2 ∷ [])
    ∷ (0 ∷ 0x0055 ∷ 1 ∷ 2 ∷ 0x80 ∷ 0 ∷ 4 ∷ 3 ∷ 0 ∷ [])
    ∷ []
unfolding post_numbers span_start span_length begin steps result_into is_drive returned_size parameter_bytes block_bytes interface_bytes path_bytes sum whole_result result_bytes result_answer begin_given steps_given buffer_given le le_bytes in_limits drive_of same bus_ok interface_ok geometry_fits fields_ok in_store overlap header_of header_at overlaps_any refusal record_refusal with_record record_step end_step step_of step_at read_from read_table tail_of is_i2o zero_tail kind_ok padded wide_interface_bytes wide_path_bytes summed_bytes
post-writes = refl

-- with no window 02h is 09h, 42h and 48h are 01h, and 08h and 41h still succeed
abbrev call : ℕ → Registers
call ax = record { ax = ax; bx = 0x55AA; cx = 1; dx = 0x80; ds = 0; si = 0; es = 0; carry = false }

abbrev first_number : Outcome → ℕ
first_number (Answered r) = r.ax
first_number (Waits j) = 0xFFFF

pub no_window : map (λ (ax : ℕ). first_number (begin (fed (read_table table_bytes 17).table no_placement) (call ax) []).outcome) (0x0201 ∷ 0x4200 ∷ 0x4700 ∷ 0x4800 ∷ 0x0800 ∷ 0x4100 ∷ [])
    ≡ 0x0900 ∷ 0x0100 ∷ 0x0100 ∷ 0x0100 ∷ 0x0000 ∷ 0x3000 ∷ []
unfolding begin steps sectors packet_plan seek_steps result_into parameters extensions is_drive block_of is_valid read_packet le le_bytes in_limits drive_of same bus_ok interface_ok geometry_fits fields_ok in_store overlap header_of header_at overlaps_any refusal record_refusal with_record record_step end_step step_of step_at read_from read_table tail_of is_i2o zero_tail kind_ok
no_window = refl
