-- Acceptance and the calls at a desk by number ("Calls the host makes"): one accepted desk in which every field has a value of its own and
-- every limit is reached, one refused desk for each condition, which differs from it in one thing, and what the calls do at it.
-- Assumes nothing.
use mathlib.Core.Path.{◌≡◌, refl, ◌∙◌}
use mathlib.Core.Bool.{Bool, true, false}
use mathlib.Core.List.{List, [], ◌∷◌, ◌++◌, map}
use Prim.Native.Nat.{ℕ, ◌/◌}
use lib.ListN.{length, replicate, set, take}
use lib.Seq.{sets}
use Rattle.words.specs.Words.{le, le_bytes}
use Rattle.chs.specs.Chs.{in_limits, is_valid, block_of}
use Rattle.drive.specs.declared.Drive.{Drive}
use Rattle.drive.specs.Drive.{drive_of, record_of, geometry_bytes, size_bytes, name_bytes, is_blank, blank_numbers, blank_names, same, bus_ok, interface_ok, geometry_fits, fields_ok, in_store, overlap, isa, pci, ata, scsi, is_i2o, kind_ok, tail_bytes, tail_of, zero_tail}
use Rattle.attached.specs.Parameters.{parameters_record}
use Rattle.attached.specs.Bad.{bad_count, bad_length_ok, bads_in, held_of, bad_record, ascends, are_blocks, list_ok, zero_past, bads_ok, is_bad, good as good_blocks}
use Rattle.table.specs.declared.Table.{Table}
use Rattle.table.specs.Table.{empty_table, zero_drive, header_of, header_at, overlaps_any, refusal, record_refusal, parameters_refusal, bads_refusal, with_record, record_step, end_step, step_of, step_at, read_from, read_table, record_numbers, numbers_from, table_numbers, records_of, bytes_of, table_of, write_answer, write_out, sound_to, blank_to, attached_to, listed_to, is_sound, parameters_to}
use Rattle.memory.specs.Window.{span_length, window_of, with_window}
use Rattle.memory.proofs.WindowLaws.{length-window, with_window-same}
use Rattle.memory.specs.Blocks.{blocks}
use Rattle.int13.specs.declared.Registers.{Registers}
use Rattle.int13.specs.declared.Job.{Job}
use Rattle.int13.specs.Answers.{ended}
use Rattle.int13.specs.Steps.{is_drive, bads_of, sectors, steps, begin}
use Rattle.int13.specs.Alone.{moves, reported}
use Rattle.desk.specs.declared.Row.{Row}
use Rattle.desk.specs.declared.Stage.{Stage}
use Rattle.desk.specs.declared.Stage.TheVariants.{Vacant, Waiting, Finished}
use Rattle.desk.specs.declared.Desk.{Desk}
use Rattle.std.specs.Prelude.{Ok, Err, Some, None}
use Rattle.table.specs.declared.Refusal.TheVariants.{PastStore}
use Rattle.desk.specs.Calls.{TurnAnswer}
use Rattle.desk.specs.Parts.{vacant_row}
use Rattle.desk.specs.Acceptable.{request_ok, rows_ok, place_ok, placements_ok, accept}
use Rattle.desk.specs.Calls.{done, open_of, written_of, written_out, post_of, first_waiting, moves_now, stage_after, turn_of, collect_of, withdraw_of}
use Rattle.desk.specs.Numbers.{written_numbers, open_given, turn_given}

-- a turn that served a guest
abbrev served : ℕ → ℕ → TurnAnswer
served guest moved = Ok (Some (record { guest = guest; moved = moved }))

-- ---- the table: two drives, of 4000 blocks from store block 5 and of 300 from 4010; C x H x S 459 and 280; the second is protected

abbrev readable : Drive
readable = record {
  cylinders = 1011;
  heads = 1012;
  sectors = 1013;
  blocks = 4000;
  first = 5;
  flags = 0x0A;
  c = 17;
  h = 3;
  s = 9;
  protection = 0;
  bus = pci;
  interface = ata;
  path = 11 ∷ 12 ∷ 13 ∷ 14 ∷ 15 ∷ 16 ∷ 17 ∷ 18 ∷ [];
  device = 21 ∷ 22 ∷ 23 ∷ 24 ∷ 25 ∷ 26 ∷ 27 ∷ 28 ∷ [];
  kind = 1;
  tail = replicate 8 0;
}

-- the second, with a first store block, flags, C and a protection byte
abbrev other : ℕ → ℕ → ℕ → ℕ → Drive
other first flags c protection = record {
  cylinders = 2011;
  heads = 2012;
  sectors = 2013;
  blocks = 300;
  first = first;
  flags = flags;
  c = c;
  h = 7;
  s = 8;
  protection = protection;
  bus = isa;
  interface = scsi;
  path = 31 ∷ 32 ∷ 33 ∷ 34 ∷ 35 ∷ 36 ∷ 37 ∷ 38 ∷ [];
  device = 41 ∷ 42 ∷ 43 ∷ 44 ∷ 45 ∷ 46 ∷ 47 ∷ 48 ∷ [];
  kind = 1;
  tail = replicate 8 0;
}

abbrev second_drive : Drive
second_drive = other 4010 0x48 5 1

-- a table's eight places, with the second drive and what stands after it
abbrev places : Drive → Drive → List Drive
places second third = readable ∷ second ∷ third ∷ replicate 5 zero_drive

-- ---- the rows: windows of 70,000 bytes. The registers agree with nothing in their rows but AH, and carry is set: neither is asked for

abbrev registers : ℕ → Registers
registers ax = record { ax = ax; bx = 0xB1B2; cx = 0xC1C2; dx = 0xD1D2; ds = 0xE1E2; si = 0xF1F2; es = 0xA1A2; carry = true }

-- as a turn leaves them: carry clear
abbrev success : ℕ → Registers
success ax = record { ax = ax; bx = 0xB1B2; cx = 0xC1C2; dx = 0xD1D2; ds = 0xE1E2; si = 0xF1F2; es = 0xA1A2; carry = false }

abbrev row : Stage → Row
row s = record { stage = s }

--            AX    drive  start  count  buffer packet moved
abbrev waits : ℕ → ℕ → ℕ → ℕ → ℕ → ℕ → ℕ → Row
waits ax drive start count buffer packet moved =
    row (Waiting (record { job = record { registers = registers ax; drive = drive; start = start; count = count; buffer = buffer; packet = packet }; moved = moved }))

-- 02h and 03h on the first drive, 42h on the protected one, 43h on the first past its geometry, finished, vacant, 02h on the protected one, 42h
abbrev rows : List Row
rows =
    waits 0x0205 0x80 330 128 3952 0 112
    ∷ waits 0x0306 0x80 442 17 7 0 16
    ∷ waits 0x4207 0x81 172 127 4464 69984 96
    ∷ waits 0x4308 0x80 3967 33 9 21 32
    ∷ row (Finished (registers 0x4809))
    ∷ vacant_row
    ∷ waits 0x020A 0x81 41 2 68976 0 0
    ∷ waits 0x420B 0x80 5 3 68464 33 0
    ∷ []

-- the parameters of both drives, fourteen bytes each
abbrev parameters : List ℕ
parameters = 51 ∷ 52 ∷ 53 ∷ 54 ∷ 55 ∷ 56 ∷ 57 ∷ 58 ∷ 59 ∷ 60 ∷ 61 ∷ 62 ∷ 63 ∷ 64 ∷ 71 ∷ 72 ∷ 73 ∷ 74 ∷ 75 ∷ 76 ∷ 77 ∷ 78 ∷ 79 ∷ 80 ∷ 81 ∷ 82 ∷ 83 ∷ 84 ∷ replicate 84 0

-- a block's number by its two low bytes, and what stands behind it
abbrev block : ℕ → ℕ → List ℕ → List ℕ
block low high behind = low ∷ high ∷ 0 ∷ 0 ∷ 0 ∷ 0 ∷ 0 ∷ 0 ∷ behind

-- the bad blocks of the first drive, 30 and 3970, and sixteen of the second: 40, 43, 267, 284 to 295, and 299, its last block
abbrev first_bad : List ℕ → List ℕ
first_bad behind = block 30 0 (block 130 15 behind)

abbrev second_bad : List ℕ → List ℕ
second_bad behind =
    block 40 0 (block 43 0 (block 11 1 (block 28 1 (block 29 1 (block 30 1 (block 31 1 (block 32 1
    (block 33 1 (block 34 1 (block 35 1 (block 36 1 (block 37 1 (block 38 1 (block 39 1 (block 43 1 behind)))))))))))))))

abbrev bad : List ℕ
bad = first_bad (replicate 112 0 ++ second_bad (replicate 768 0))

abbrev table : List Drive → ℕ → Table
table drives count =
    record {
      drives = drives;
      count = count;
      present = true ∷ true ∷ replicate 6 false;
      parameters = parameters;
      counts = 2 ∷ 16 ∷ replicate 6 0;
      bad = bad;
    }

-- their tables are placed for all guests but 3 and 6; guest 0's at address 0, guest 1's to the window's last byte
abbrev placed : List Bool
placed = true ∷ true ∷ true ∷ false ∷ true ∷ true ∷ false ∷ true ∷ []

abbrev addresses : List ℕ
addresses = 0 ∷ 69968 ∷ 16 ∷ 0 ∷ 32 ∷ 48 ∷ 0 ∷ 64 ∷ []

abbrev desk : List Drive → ℕ → ℕ → ℕ → ℕ → List Row → Desk
desk drives count pointer arena store rows =
    record { rows = rows; pointer = pointer; table = table drives count; arena = arena; store = store; placed = placed; addresses = addresses }

-- an arena of 8 x 70,000 + 5 bytes, a store of 4311 x 512 + 3
abbrev good : ℕ → Desk
good pointer = desk (places second_drive zero_drive) 2 pointer 560005 2207235 rows

-- the same with another row, another second drive, another store length
abbrev with_row : ℕ → Row → Desk
with_row g r = desk (places second_drive zero_drive) 2 7 560005 2207235 (set rows g r)

abbrev with_drive : Drive → Desk
with_drive d = desk (places d zero_drive) 2 7 560005 2207235 rows

abbrev with_store : ℕ → Desk
with_store store = desk (places second_drive zero_drive) 2 7 560005 store rows

-- the same with other marks and addresses of the guests' placements
abbrev with_places : List Bool → List ℕ → Desk
with_places marks at =
    record { rows = rows; pointer = 7; table = table (places second_drive zero_drive) 2; arena = 560005; store = 2207235; placed = marks; addresses = at }

-- and with other marks and bytes of parameters
abbrev with_parts : List Bool → List ℕ → Desk
with_parts present bytes =
    record {
      rows = rows;
      pointer = 7;
      table =
          record {
            drives = places second_drive zero_drive;
            count = 2;
            present = present;
            parameters = bytes;
            counts = 2 ∷ 16 ∷ replicate 6 0;
            bad = bad;
          };
      arena = 560005;
      store = 2207235;
      placed = placed;
      addresses = addresses;
    }

-- and with other counts and numbers of bad blocks
abbrev with_bad : List ℕ → List ℕ → Desk
with_bad counts bad =
    record {
      rows = rows;
      pointer = 7;
      table =
          record {
            drives = places second_drive zero_drive;
            count = 2;
            present = true ∷ true ∷ replicate 6 false;
            parameters = parameters;
            counts = counts;
            bad = bad;
          };
      arena = 560005;
      store = 2207235;
      placed = placed;
      addresses = addresses;
    }

-- ---- the conditions of acceptance, one after the other: desks on the right side of each, then desks on its wrong side

-- the pointer is below 8
abbrev pointers : List Desk
pointers = map good (0 ∷ 1 ∷ 2 ∷ 3 ∷ 4 ∷ 5 ∷ 6 ∷ 7 ∷ [])

abbrev bad_pointers : List Desk
bad_pointers = map good (8 ∷ 18446744073709551615 ∷ [])

-- the table obeys the rules: drives apart (7), inside the store (6), a field of each kind (5), at most 8 (4), unused places zero, parameters of
-- drives only
abbrev tables : List Desk
tables = with_drive (other 4005 0x48 5 1) ∷ with_store 2206720 ∷ with_drive (other 4010 0x7F 5 1) ∷ with_drive (other 4010 0x48 4 1) ∷ []

abbrev bad_tables : List Desk
bad_tables =
    with_drive (other 4004 0x48 5 1)
    ∷ with_store 2206719
    ∷ with_drive (other 4010 0x80 5 1)
    ∷ with_drive (other 4010 0x48 6 1)
    ∷ with_drive (other 4010 0x48 5 2)
    ∷ desk (places second_drive zero_drive) 3 7 560005 2207235 rows
    ∷ desk (places second_drive zero_drive) 9 7 560005 2207235 rows
    ∷ desk (places second_drive (other 4310 0x48 5 1)) 2 7 560005 2207235 rows
    ∷ with_parts (true ∷ true ∷ true ∷ replicate 5 false) parameters
    ∷ with_parts (true ∷ false ∷ replicate 6 false) parameters
    ∷ with_parts (true ∷ true ∷ replicate 6 false) (set parameters 111 1)
    ∷ []

-- at most sixteen bad blocks, ascending, of the drive, and zeros behind them. Refused are 17 of them, an unsorted list, a repeated number, the number
-- after the drive's last block, a number behind the last of a list, a count in a slot without a drive, and a byte there
abbrev lists : List Desk
lists = with_bad (replicate 8 0) (replicate 1024 0) ∷ with_bad (2 ∷ 0 ∷ replicate 6 0) (block 0 0 (block 159 15 (replicate 1008 0))) ∷ []

abbrev bad_lists : List Desk
bad_lists =
    with_bad (2 ∷ 17 ∷ replicate 6 0) bad
    ∷ with_bad (2 ∷ 0 ∷ replicate 6 0) (block 130 15 (block 30 0 (replicate 1008 0)))
    ∷ with_bad (2 ∷ 0 ∷ replicate 6 0) (block 30 0 (block 30 0 (replicate 1008 0)))
    ∷ with_bad (1 ∷ 0 ∷ replicate 6 0) (block 160 15 (replicate 1016 0))
    ∷ with_bad (1 ∷ 16 ∷ replicate 6 0) bad
    ∷ with_bad (0 ∷ 0 ∷ 1 ∷ replicate 5 0) (replicate 1024 0)
    ∷ with_bad (replicate 8 0) (replicate 1023 0 ++ (1 ∷ []))
    ∷ []

pub table_acceptance : map (map accept) (tables ∷ lists ∷ bad_tables ∷ bad_lists ∷ []) ≡ replicate 4 true ∷ replicate 2 true ∷ replicate 11 false ∷ replicate 7 false ∷ []
unfolding accept rows_ok request_ok placements_ok place_ok parameters_to is_drive is_sound sound_to blank_to attached_to listed_to bads_ok list_ok ascends are_blocks held_of zero_past le refusal overlaps_any overlap in_store fields_ok geometry_fits in_limits bus_ok interface_ok is_blank blank_numbers blank_names same is_i2o zero_tail kind_ok
table_acceptance = refl

-- the desk's own table is sound: said once for all that follows
sound : is_sound (table (places second_drive zero_drive) 2) (2207235 / 512) ≡ true
unfolding is_sound sound_to blank_to attached_to listed_to bads_ok list_ok ascends are_blocks held_of zero_past le refusal overlaps_any overlap in_store fields_ok geometry_fits in_limits bus_ok interface_ok is_blank blank_numbers blank_names same is_i2o zero_tail kind_ok
sound = refl

-- the row names a drive; its function is one that waits
abbrev bad_drives : List Desk
bad_drives = with_row 7 (waits 0x420B 0x82 5 3 68464 33 0) ∷ with_row 7 (waits 0x420B 0x7F 5 3 68464 33 0) ∷ with_row 7 (waits 0x420B 0x00 5 3 68464 33 0) ∷ []

abbrev bad_functions : List Desk
bad_functions = with_row 7 (waits 0x440B 0x80 5 3 68464 33 0) ∷ with_row 7 (waits 0x470B 0x80 5 3 68464 33 0) ∷ with_row 7 (waits 0x000B 0x80 5 3 68464 33 0) ∷ []

-- a count within its function's limit: 128 for 02h and 03h, 127 for 42h and 43h
abbrev counts : List Desk
counts = with_row 0 (waits 0x0305 0x80 330 128 3952 0 112) ∷ with_row 2 (waits 0x4307 0x80 172 127 4464 69984 96) ∷ []

abbrev bad_counts : List Desk
bad_counts =
    with_row 0 (waits 0x0205 0x80 330 129 3952 0 112)
    ∷ with_row 0 (waits 0x0305 0x80 330 129 3952 0 112)
    ∷ with_row 2 (waits 0x4207 0x81 172 128 4464 69984 96)
    ∷ with_row 2 (waits 0x4307 0x80 172 128 4464 69984 96)
    ∷ []

-- a range inside the drive, and for 02h and 03h inside the geometry; a start near 2 to the 64 is past both
abbrev bad_ranges : List Desk
bad_ranges =
    with_row 3 (waits 0x4308 0x80 3968 33 9 21 32)
    ∷ with_row 2 (waits 0x4207 0x81 174 127 4464 69984 96)
    ∷ with_row 1 (waits 0x0306 0x80 443 17 7 0 16)
    ∷ with_row 6 (waits 0x020A 0x81 279 2 68976 0 0)
    ∷ with_row 7 (waits 0x420B 0x80 18446744073709551615 3 68464 33 0)
    ∷ []

abbrev ranges : List Desk
ranges = with_row 2 (waits 0x4207 0x81 173 127 4464 69984 96) ∷ with_row 6 (waits 0x020A 0x81 278 2 68976 0 0) ∷ []

-- a buffer inside the window, to its last byte
abbrev bad_buffers : List Desk
bad_buffers =
    with_row 7 (waits 0x420B 0x80 5 3 68465 33 0)
    ∷ with_row 6 (waits 0x020A 0x81 41 2 68977 0 0)
    ∷ with_row 7 (waits 0x420B 0x80 5 3 18446744073709551615 33 0)
    ∷ []

-- any packet inside the window, to its last byte; 02h and 03h have none
abbrev bad_packets : List Desk
bad_packets =
    with_row 2 (waits 0x4207 0x81 172 127 4464 69985 96)
    ∷ with_row 3 (waits 0x4308 0x80 3967 33 9 18446744073709551615 32)
    ∷ with_row 0 (waits 0x0205 0x80 330 128 3952 1 112)
    ∷ with_row 1 (waits 0x0306 0x80 442 17 7 1 16)
    ∷ []

-- no write to a protected drive
abbrev bad_writes : List Desk
bad_writes = with_row 2 (waits 0x4307 0x81 172 127 4464 69984 96) ∷ with_row 6 (waits 0x030A 0x81 41 2 68976 0 0) ∷ []

-- a moved number that is a multiple of 16 below the count; a count of 0 is below nothing. Where bad blocks stand does not matter: guests 2 and 3
-- have one among those that they have moved, and here one is the next to move, and the one after it
abbrev moveds : List Desk
moveds =
    with_row 2 (waits 0x4207 0x81 172 127 4464 69984 112)
    ∷ with_row 3 (waits 0x4308 0x80 3967 33 9 21 0)
    ∷ with_row 7 (waits 0x420B 0x80 3970 3 68464 33 0)
    ∷ with_row 7 (waits 0x420B 0x80 3969 3 68464 33 0)
    ∷ []

abbrev bad_moveds : List Desk
bad_moveds =
    with_row 2 (waits 0x4207 0x81 172 127 4464 69984 104)
    ∷ with_row 2 (waits 0x4207 0x81 172 127 4464 69984 120)
    ∷ with_row 2 (waits 0x4207 0x81 172 127 4464 69984 97)
    ∷ with_row 3 (waits 0x4308 0x80 3967 33 9 21 48)
    ∷ with_row 3 (waits 0x4308 0x80 3967 32 9 21 32)
    ∷ with_row 7 (waits 0x420B 0x80 5 0 68464 33 0)
    ∷ []

-- a guest with placement has a good place, for two tables: a multiple of 16 from which they end inside the window; one without has 0
abbrev placements : List Desk
placements = with_places placed (set addresses 7 69968) ∷ with_places (set placed 3 true) addresses ∷ with_places (replicate 8 false) (replicate 8 0) ∷ []

abbrev bad_placements : List Desk
bad_placements =
    with_places placed (set addresses 7 72)
    ∷ with_places placed (set addresses 0 8)
    ∷ with_places placed (set addresses 7 69984)
    ∷ with_places placed (set addresses 7 18446744073709551600)
    ∷ with_places placed (set addresses 3 16)
    ∷ with_places (set placed 7 false) addresses
    ∷ []

pub acceptance : map (map accept) (pointers ∷ counts ∷ ranges ∷ moveds ∷ placements ∷ [])
    ∷ map (map accept) (bad_pointers ∷ bad_drives ∷ bad_functions ∷ bad_counts ∷ bad_ranges ∷ bad_buffers ∷ bad_packets ∷ bad_writes ∷ bad_moveds ∷ bad_placements ∷ [])
    ∷ []
    ≡ map (λ (n : ℕ). replicate n true) (8 ∷ 2 ∷ 2 ∷ 4 ∷ 3 ∷ [])
    ∷ map (λ (n : ℕ). replicate n false) (2 ∷ 3 ∷ 3 ∷ 4 ∷ 5 ∷ 3 ∷ 4 ∷ 2 ∷ 6 ∷ 6 ∷ [])
    ∷ []
unfolding accept rows_ok request_ok placements_ok place_ok parameters_to is_drive
acceptance = rw sound

-- ---- open: all rows vacant, the pointer 0, the table's drives in order with their parameters, the two lengths each in its place, nothing placed

abbrev table_bytes : List ℕ
table_bytes =
    68 ∷ 0 ∷ 1 ∷ 0 ∷ 243 ∷ 3 ∷ 0 ∷ 0 ∷ 244 ∷ 3 ∷ 0 ∷ 0 ∷ 245 ∷ 3 ∷ 0 ∷ 0 ∷ 160 ∷ 15 ∷ 0 ∷ 0 ∷ 0 ∷ 0 ∷ 0 ∷ 0
    ∷ 5 ∷ 0 ∷ 0 ∷ 0 ∷ 0 ∷ 0 ∷ 0 ∷ 0 ∷ 10 ∷ 0 ∷ 17 ∷ 0 ∷ 3 ∷ 0 ∷ 9 ∷ 0 ∷ 80 ∷ 67 ∷ 73 ∷ 0 ∷ 65 ∷ 84 ∷ 65 ∷ 0
    ∷ 0 ∷ 0 ∷ 0 ∷ 0 ∷ 11 ∷ 12 ∷ 13 ∷ 14 ∷ 15 ∷ 16 ∷ 17 ∷ 18 ∷ 21 ∷ 22 ∷ 23 ∷ 24 ∷ 25 ∷ 26 ∷ 27 ∷ 28
    ∷ 22 ∷ 0 ∷ 3 ∷ 0 ∷ 0 ∷ 0 ∷ first_bad (20 ∷ 0 ∷ 4 ∷ 0 ∷ 0 ∷ 0 ∷ 51 ∷ 52 ∷ 53 ∷ 54 ∷ 55 ∷ 56 ∷ 57 ∷ 58 ∷ 59 ∷ 60 ∷ 61 ∷ 62 ∷ 63 ∷ 64 ∷ 68 ∷ 0 ∷ 1 ∷ 0
    ∷ 219 ∷ 7 ∷ 0 ∷ 0 ∷ 220 ∷ 7 ∷ 0 ∷ 0 ∷ 221 ∷ 7 ∷ 0 ∷ 0 ∷ 44 ∷ 1 ∷ 0 ∷ 0 ∷ 0 ∷ 0 ∷ 0 ∷ 0 ∷ 170 ∷ 15 ∷ 0 ∷ 0
    ∷ 0 ∷ 0 ∷ 0 ∷ 0 ∷ 72 ∷ 0 ∷ 5 ∷ 0 ∷ 7 ∷ 0 ∷ 8 ∷ 1 ∷ 73 ∷ 83 ∷ 65 ∷ 0 ∷ 83 ∷ 67 ∷ 83 ∷ 73 ∷ 0 ∷ 0 ∷ 0 ∷ 0
    ∷ 31 ∷ 32 ∷ 33 ∷ 34 ∷ 35 ∷ 36 ∷ 37 ∷ 38 ∷ 41 ∷ 42 ∷ 43 ∷ 44 ∷ 45 ∷ 46 ∷ 47 ∷ 48
    ∷ 134 ∷ 0 ∷ 3 ∷ 0 ∷ 1 ∷ 0 ∷ second_bad (20 ∷ 0 ∷ 4 ∷ 0 ∷ 1 ∷ 0 ∷ 71 ∷ 72 ∷ 73 ∷ 74 ∷ 75 ∷ 76 ∷ 77 ∷ 78 ∷ 79 ∷ 80 ∷ 81 ∷ 82 ∷ 83 ∷ 84 ∷ 4 ∷ 0 ∷ 0 ∷ 0 ∷ []))

-- a desk with vacant rows and nothing placed: its table, its pointer, its store's length
abbrev fresh : Table → ℕ → ℕ → Desk
fresh b pointer store =
    record { rows = replicate 8 vacant_row; pointer = pointer; table = b; arena = 560005; store = store; placed = replicate 8 false; addresses = replicate 8 0 }

pub opening : open_of table_bytes 560005 2207235 ≡ record { desk = fresh (table (places second_drive zero_drive) 2) 0 2207235; answer = Ok tt }
unfolding open_of le drive_of read_table read_from step_at step_of end_step record_step with_record record_refusal parameters_refusal bads_refusal bads_in bad_count bad_length_ok list_ok ascends are_blocks held_of header_at header_of refusal overlaps_any overlap in_store fields_ok geometry_fits in_limits bus_ok interface_ok same tail_of is_i2o zero_tail kind_ok
opening = refl

-- a store of one byte less than its 4310 blocks: refused at the second drive's record, and the desk is of no use. By the second promise too
pub opening_short : open_of table_bytes 560005 2206719
    ≡ record { desk = fresh empty_table 8 2206719; answer = Err (record { refusal = PastStore; place = 110 }) }
unfolding open_of le drive_of read_table read_from step_at step_of end_step record_step with_record record_refusal parameters_refusal bads_refusal bads_in bad_count bad_length_ok list_ok ascends are_blocks held_of header_at header_of refusal overlaps_any overlap in_store fields_ok geometry_fits in_limits bus_ok interface_ok same tail_of is_i2o zero_tail kind_ok
opening_short = refl

pub openings-given : map (open_given table_bytes) (2207235 ∷ 2206719 ∷ []) ≡ (0 ∷ []) ∷ (6 ∷ 110 ∷ []) ∷ []
unfolding open_given le drive_of table_numbers numbers_from record_numbers step_at step_of end_step record_step with_record record_refusal parameters_refusal bads_refusal bads_in bad_count bad_length_ok list_ok ascends are_blocks held_of header_at header_of refusal overlaps_any overlap in_store fields_ok geometry_fits in_limits bus_ok interface_ok same tail_of is_i2o zero_tail kind_ok
openings-given = refl

-- ---- write: the bytes of the opening again, in a buffer that has room; bytes past them stay

pub table-written : map (λ (room : ℕ). written_numbers (written_of (good 7) room)) (335 ∷ 336 ∷ 338 ∷ []) ≡ (19 ∷ []) ∷ (0 ∷ 336 ∷ []) ∷ (0 ∷ 336 ∷ []) ∷ []
unfolding written_of written_numbers write_answer table_of bytes_of records_of record_of bad_record parameters_record geometry_bytes size_bytes name_bytes le_bytes accept rows_ok request_ok placements_ok place_ok parameters_to is_drive held_of tail_bytes
table-written = rw sound

pub table-bytes : written_out (good 7) (replicate 338 9) ≡ table_bytes ++ (9 ∷ 9 ∷ [])
unfolding written_out write_out table_of bytes_of records_of record_of bad_record parameters_record geometry_bytes size_bytes name_bytes le_bytes accept rows_ok request_ok placements_ok place_ok parameters_to is_drive held_of tail_bytes
table-bytes = rw sound

-- ---- the calls, for every arena and store of those lengths

-- 02h of three sectors of 81h, and the request that it makes
abbrev call : Registers
call = record { ax = 0x0203; bx = 0x0123; cx = 0x0305; dx = 0x0281; ds = 0xE1E2; si = 0xF1F2; es = 0x1001; carry = true }

abbrev asked : Job
asked = record {
  registers = record { ax = 0x0203; bx = 0x0123; cx = 0x0305; dx = 0x0281; ds = 0xE1E2; si = 0xF1F2; es = 0x1001; carry = false };
  drive = 0x81;
  start = 188;
  count = 3;
  buffer = 0x10133;
  packet = 0;
}

-- the desk after a call: its pointer, and another row
abbrev after : ℕ → ℕ → Stage → Desk
after pointer g stage = desk (places second_drive zero_drive) 2 pointer 560005 2207235 (set rows g (row stage))

module _ (arena store : List ℕ) (la : length arena ≡ 560005) (ls : length store ≡ 2207235) where
  -- the turn at the pointer, and the number of blocks; the pointer goes to the guest after, from 7 to 0; all moved, the row is finished
  pub turns : map (λ (p : ℕ). (turn_of (good p) arena store).answer) (0 ∷ 1 ∷ 2 ∷ 3 ∷ 4 ∷ 5 ∷ 6 ∷ 7 ∷ [])
      ≡ served 0 16 ∷ served 1 1 ∷ served 2 16 ∷ served 3 1 ∷ served 6 2 ∷ served 6 2 ∷ served 6 2 ∷ served 7 3 ∷ []
  unfolding turn_of first_waiting moves_now bads_of good_blocks is_bad held_of le accept rows_ok request_ok placements_ok place_ok parameters_to is_drive
  turns = rw (sound, la, ls)

  -- the only waiting row is the last that the search comes to; and the turns by the second promise
  abbrev lone : Desk
  lone = desk (places second_drive zero_drive) 2 5 560005 2207235 (set (replicate 8 vacant_row) 4 (waits 0x420B 0x80 5 3 68464 33 0))

  pub turn_round : (turn_of lone arena store).answer ≡ served 4 3
  unfolding turn_of first_waiting moves_now bads_of good_blocks is_bad held_of le accept rows_ok request_ok placements_ok place_ok parameters_to is_drive
  turn_round = rw (sound, la, ls)

  pub turns-given : map (λ (d : Desk). turn_given d arena store) (lone ∷ map good (0 ∷ 1 ∷ 4 ∷ 7 ∷ []))
      ≡ (0 ∷ 4 ∷ 3 ∷ []) ∷ (0 ∷ 0 ∷ 16 ∷ []) ∷ (0 ∷ 1 ∷ 1 ∷ []) ∷ (0 ∷ 6 ∷ 2 ∷ []) ∷ (0 ∷ 7 ∷ 3 ∷ []) ∷ []
  unfolding turn_given first_waiting bads_of good_blocks is_bad held_of le accept rows_ok request_ok placements_ok place_ok parameters_to is_drive
  turns-given = rw (sound, la, ls)

  pub turn_desks : map (λ (p : ℕ). (turn_of (good p) arena store).desk) (0 ∷ 1 ∷ 2 ∷ 3 ∷ 4 ∷ 7 ∷ [])
      ≡ after 1 0 (Finished (success 0x0005))
      ∷ after 2 1 (Finished (success 0x0006))
      ∷ after 3 2 (waits 0x4207 0x81 172 127 4464 69984 112).stage
      ∷ after 4 3 (Finished (success 0x0008))
      ∷ after 7 6 (Finished (success 0x000A))
      ∷ after 0 7 (Finished (success 0x000B))
      ∷ []
  unfolding turn_of first_waiting moves_now bads_of good_blocks is_bad held_of le stage_after ended accept rows_ok request_ok placements_ok place_ok parameters_to is_drive
  turn_desks = rw (sound, la, ls)

  -- reads: to buffer + 512 x moved, from 512 x (first + start + moved)
  pub reads : map (λ (p : ℕ). (turn_of (good p) arena store).arena) (0 ∷ 2 ∷ 4 ∷ 7 ∷ [])
      ≡ with_window arena 0 70000 (blocks (window_of arena 0 70000) 61296 store 228864 16)
      ∷ with_window arena 2 70000 (blocks (window_of arena 2 70000) 53616 store 2190336 16)
      ∷ with_window arena 6 70000 (blocks (window_of arena 6 70000) 68976 store 2074112 2)
      ∷ with_window arena 7 70000 (blocks (window_of arena 7 70000) 68464 store 5120 3)
      ∷ []
  unfolding turn_of first_waiting moves_now bads_of good_blocks is_bad held_of le moves accept rows_ok request_ok placements_ok place_ok parameters_to is_drive
  reads = rw (sound, la, ls)

  -- writes: to 512 x (first + start + moved), from buffer + 512 x moved
  pub writes : map (λ (p : ℕ). (turn_of (good p) arena store).store) (1 ∷ 3 ∷ 7 ∷ [])
      ≡ blocks store 237056 (window_of arena 1 70000) 8199 1
      ∷ blocks store 2050048 (window_of arena 3 70000) 16393 1
      ∷ store
      ∷ []
  unfolding turn_of first_waiting moves_now bads_of good_blocks is_bad held_of le moves accept rows_ok request_ok placements_ok place_ok parameters_to is_drive
  writes = rw (sound, la, ls)

  -- withdrawals: AH 80h and carry set; 02h and 03h have the blocks moved in AL, 42h and 43h in the word at packet + 2
  pub withdrawals : map (λ (g : ℕ). (withdraw_of (good 7) g arena store).answer) (0 ∷ 1 ∷ 2 ∷ 3 ∷ [])
      ≡ map (λ (ax : ℕ). Ok (registers ax)) (0x8070 ∷ 0x8010 ∷ 0x8007 ∷ 0x8008 ∷ [])
  unfolding withdraw_of accept rows_ok request_ok placements_ok place_ok parameters_to is_drive
  withdrawals = rw (sound, la, ls)

  pub withdrawn_desks : map (λ (g : ℕ). (withdraw_of (good 7) g arena store).desk) (1 ∷ 2 ∷ []) ≡ after 7 1 Vacant ∷ after 7 2 Vacant ∷ []
  unfolding withdraw_of accept rows_ok request_ok placements_ok place_ok parameters_to is_drive
  withdrawn_desks = rw (sound, la, ls)

  pub count_words : map (λ (g : ℕ). (withdraw_of (good 7) g arena store).arena) (2 ∷ 3 ∷ [])
      ≡ with_window arena 2 70000 (sets (window_of arena 2 70000) 69986 (96 ∷ 0 ∷ []))
      ∷ with_window arena 3 70000 (sets (window_of arena 3 70000) 23 (32 ∷ 0 ∷ []))
      ∷ []
  unfolding withdraw_of reported le_bytes accept rows_ok request_ok placements_ok place_ok parameters_to is_drive
  count_words = rw (sound, la, ls)

  -- ---- turns that reach a bad block (document 02, 2026-04); block 3970 of the first drive is bad, and block 30, and of the second 43

  -- 42h of 20 blocks of guest 7, into a buffer at 9 that covers the packet at 21
  abbrev reading : ℕ → ℕ → Row
  reading start moved = waits 0x420B 0x80 start 20 9 21 moved

  -- the desk with that row, at which the next turn serves it
  abbrev worn : ℕ → Row → Desk
  worn g r = desk (places second_drive zero_drive) 2 g 560005 2207235 (set rows g r)

  -- the bad block is number 17 of them, 15, 16, 0, 19, and the one behind the last; then 18 of 02h and of 03h, 17 of 43h, and 2 on the second drive
  abbrev reached : List Desk
  reached =
      map (worn 7) (reading 3953 0 ∷ reading 3953 16 ∷ reading 3955 0 ∷ reading 3954 0 ∷ reading 3954 16 ∷ reading 3970 0 ∷ reading 3951 16 ∷ reading 3950 16 ∷ [])
      ++ (worn 0 (waits 0x0214 0x80 12 20 7 0 16) ∷ worn 1 (waits 0x0314 0x80 12 20 7 0 16) ∷ worn 3 (waits 0x4308 0x80 3953 20 9 21 16)
      ∷ worn 2 (waits 0x4207 0x81 41 20 4464 69984 0) ∷ [])

  pub worn_turns : map (λ (d : Desk). (turn_of d arena store).answer) reached
      ≡ served 7 16 ∷ served 7 1 ∷ served 7 15 ∷ served 7 16 ∷ served 7 0 ∷ served 7 0 ∷ served 7 3 ∷ served 7 4 ∷ served 0 2 ∷ served 1 2 ∷ served 3 1 ∷ served 2 2 ∷ []
  unfolding turn_of first_waiting moves_now bads_of good_blocks is_bad held_of le accept rows_ok request_ok placements_ok place_ok parameters_to is_drive
  worn_turns = rw (sound, la, ls)

  pub worn_given : map (λ (d : Desk). turn_given d arena store) reached
      ≡ map (λ (k : ℕ). 0 ∷ 7 ∷ k ∷ []) (16 ∷ 1 ∷ 15 ∷ 16 ∷ 0 ∷ 0 ∷ 3 ∷ 4 ∷ []) ++ ((0 ∷ 0 ∷ 2 ∷ []) ∷ (0 ∷ 1 ∷ 2 ∷ []) ∷ (0 ∷ 3 ∷ 1 ∷ []) ∷ (0 ∷ 2 ∷ 2 ∷ []) ∷ [])
  unfolding turn_given first_waiting bads_of good_blocks is_bad held_of le accept rows_ok request_ok placements_ok place_ok parameters_to is_drive
  worn_given = rw (sound, la, ls)

  -- at it the row is finished with carry set and AH 10h, CCh of a write; AL is as posted, of 02h and 03h the blocks of the whole request; and the
  -- pointer goes on, also where none has moved
  pub worn_desks : map (λ (d : Desk). (turn_of d arena store).desk) reached
      ≡ after 0 7 (reading 3953 16).stage
      ∷ after 0 7 (Finished (registers 0x100B))
      ∷ after 0 7 (Finished (registers 0x100B))
      ∷ after 0 7 (reading 3954 16).stage
      ∷ after 0 7 (Finished (registers 0x100B))
      ∷ after 0 7 (Finished (registers 0x100B))
      ∷ after 0 7 (Finished (registers 0x100B))
      ∷ after 0 7 (Finished (success 0x000B))
      ∷ after 1 0 (Finished (registers 0x1012))
      ∷ after 2 1 (Finished (registers 0xCC12))
      ∷ after 4 3 (Finished (registers 0xCC08))
      ∷ after 3 2 (Finished (registers 0x1007))
      ∷ []
  unfolding turn_of first_waiting moves_now bads_of good_blocks is_bad held_of le stage_after ended accept rows_ok request_ok placements_ok place_ok parameters_to is_drive
  worn_desks = rw (sound, la, ls)

  -- the count word gives the blocks of the whole request, and stands on top of the data; a turn that goes on, one that moves all, and 02h write none
  pub worn_reads : map (λ (d : Desk). (turn_of d arena store).arena) (take 9 reached)
      ≡ with_window arena 7 70000 (blocks (window_of arena 7 70000) 9 store 2026496 16)
      ∷ with_window arena 7 70000 (sets (blocks (window_of arena 7 70000) 8201 store 2034688 1) 23 (17 ∷ 0 ∷ []))
      ∷ with_window arena 7 70000 (sets (blocks (window_of arena 7 70000) 9 store 2027520 15) 23 (15 ∷ 0 ∷ []))
      ∷ with_window arena 7 70000 (blocks (window_of arena 7 70000) 9 store 2027008 16)
      ∷ with_window arena 7 70000 (sets (blocks (window_of arena 7 70000) 8201 store 2035200 0) 23 (16 ∷ 0 ∷ []))
      ∷ with_window arena 7 70000 (sets (blocks (window_of arena 7 70000) 9 store 2035200 0) 23 (0 ∷ 0 ∷ []))
      ∷ with_window arena 7 70000 (sets (blocks (window_of arena 7 70000) 8201 store 2033664 3) 23 (19 ∷ 0 ∷ []))
      ∷ with_window arena 7 70000 (blocks (window_of arena 7 70000) 8201 store 2033152 4)
      ∷ with_window arena 0 70000 (blocks (window_of arena 0 70000) 8199 store 16896 2)
      ∷ []
  unfolding turn_of first_waiting moves_now bads_of good_blocks is_bad held_of le moves reported le_bytes accept rows_ok request_ok placements_ok place_ok parameters_to is_drive
  worn_reads = rw (sound, la, ls)

  -- writes: 03h leaves the window, of 43h two bytes of it change, those of the count word
  pub worn_writes : ((turn_of (worn 1 (waits 0x0314 0x80 12 20 7 0 16)) arena store).store ≡ blocks store 16896 (window_of arena 1 70000) 8199 2)
      × ((turn_of (worn 1 (waits 0x0314 0x80 12 20 7 0 16)) arena store).arena ≡ arena)
      × ((turn_of (worn 3 (waits 0x4308 0x80 3953 20 9 21 16)) arena store).store ≡ blocks store 2034688 (window_of arena 3 70000) 8201 1)
      × ((turn_of (worn 3 (waits 0x4308 0x80 3953 20 9 21 16)) arena store).arena ≡ with_window arena 3 70000 (sets (window_of arena 3 70000) 23 (17 ∷ 0 ∷ [])))
  unfolding turn_of first_waiting moves_now bads_of good_blocks is_bad held_of le moves reported le_bytes accept rows_ok request_ok placements_ok place_ok parameters_to is_drive
  worn_writes = (rw (sound, la, ls), rw (sound, la, ls) (rw la at (with_window-same arena 1 70000)), rw (sound, la, ls), rw (sound, la, ls))

  -- 43h from a buffer that covers the packet: the store gets the window's bytes as they were, and the count word comes after them
  pub worn_covered : ((turn_of (worn 3 (waits 0x4308 0x80 3955 20 9 21 0)) arena store).store ≡ blocks store 2027520 (window_of arena 3 70000) 9 15)
      × ((turn_of (worn 3 (waits 0x4308 0x80 3955 20 9 21 0)) arena store).arena ≡ with_window arena 3 70000 (sets (window_of arena 3 70000) 23 (15 ∷ 0 ∷ [])))
  unfolding turn_of first_waiting moves_now bads_of good_blocks is_bad held_of le moves reported le_bytes accept rows_ok request_ok placements_ok place_ok parameters_to is_drive
  worn_covered = (rw (sound, la, ls), rw (sound, la, ls))

  -- a withdrawal before it is reached is as ever: 80h, and the blocks moved
  pub worn_withdrawn : withdraw_of (worn 7 (reading 3953 16)) 7 arena store
      ≡ done (after 7 7 Vacant) (Ok (registers 0x800B)) (with_window arena 7 70000 (sets (window_of arena 7 70000) 23 (16 ∷ 0 ∷ []))) store
  unfolding withdraw_of reported le_bytes accept rows_ok request_ok placements_ok place_ok parameters_to is_drive
  worn_withdrawn = rw (sound, la, ls)

  -- ---- a post

  -- a post of 02h: the block of 3/2/5 in 5/7/8, the buffer at ES:BX, 10010h + 123h; it waits with nothing moved, and carry is dropped
  window_5 : length (window_of arena 5 70000) ≡ 70000
  unfolding span_length
  window_5 = length-window arena 5 70000 ∙ rw la

  pub post-waits : ((post_of (good 7) 5 call arena store).answer ≡ Ok None)
      × ((post_of (good 7) 5 call arena store).desk ≡ after 7 5 (Waiting (record { job = asked; moved = 0 })))
  unfolding post_of begin steps sectors block_of is_valid in_limits accept rows_ok request_ok placements_ok place_ok parameters_to is_drive
  post-waits = (rw (window_5, sound, la, ls), rw (window_5, sound, la, ls))

-- collect: the finished registers as they stand, and the row is vacant
pub collected : collect_of (good 7) 4 [] [] ≡ done (after 7 4 Vacant) (Ok (registers 0x4809)) [] []
unfolding collect_of accept rows_ok request_ok placements_ok place_ok parameters_to is_drive
collected = rw sound
