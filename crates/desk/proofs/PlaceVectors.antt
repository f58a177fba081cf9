-- Placing by number (document 02, 2026-01): the order of its refusals, its limits, what it writes, and what posts are given after it.
-- Assumes nothing.
use mathlib.Core.Path.{◌≡◌, refl}
use mathlib.Core.Bool.{Bool, true, false}
use mathlib.Core.List.{List, [], ◌∷◌, ◌++◌, map}
use Prim.Native.Nat.{ℕ, zero, suc, ◌+◌, ◌*◌, ◌/◌}
use lib.ListN.{length, replicate, set}
use Rattle.words.specs.Words.{le, le_bytes}
use Rattle.chs.specs.Chs.{in_limits}
use Rattle.memory.specs.Window.{span_start, span_length, window_of}
use Rattle.drive.specs.declared.Drive.{Drive}
use Rattle.drive.specs.Drive.{is_blank, blank_numbers, blank_names, same, bus_ok, interface_ok, geometry_fits, fields_ok, in_store, overlap, pci, ata, is_i2o, kind_ok, zero_tail}
use Rattle.attached.specs.Bad.{held_of, ascends, are_blocks, list_ok, zero_past, bads_ok}
use Rattle.table.specs.declared.Table.{Table}
use Rattle.table.specs.Table.{zero_drive, overlaps_any, refusal, sound_to, blank_to, attached_to, listed_to, is_sound, parameters_to}
use Rattle.layout.specs.ParameterTable.{placed_bytes, parameter_table}
use Rattle.layout.specs.ResultBuffer.{returned_size, parameter_bytes, block_bytes, interface_bytes, path_bytes, sum, whole_result, result_bytes, result_answer, padded, wide_interface_bytes, wide_path_bytes, summed_bytes}
use Rattle.int13.specs.declared.Registers.{Registers}
use Rattle.int13.specs.Placement.{tables_to}
use Rattle.int13.specs.Numbers.{check_given, steps_given, begin_given}
use Rattle.int13.specs.Steps.{is_drive, shown_of, extensions, result_into, steps, begin}
use Rattle.desk.specs.declared.Row.{Row}
use Rattle.desk.specs.declared.Stage.TheVariants.{Vacant, Waiting, Finished}
use Rattle.desk.specs.declared.Desk.{Desk}
use Rattle.std.specs.Prelude.{Ok, Err}
use Rattle.desk.specs.declared.HouseNumber.TheVariants.{NotVacant, BadPlace}
use Rattle.desk.specs.Parts.{vacant_row}
use Rattle.desk.specs.Acceptable.{request_ok, rows_ok, place_ok, placements_ok, accept}
use Rattle.desk.specs.Calls.{done, post_of, place_tables, place_of}
use Rattle.desk.specs.Numbers.{post_numbers, place_numbers, post_given, place_row_given, place_given}
use Rattle.desk.specs.Placed.{Leads}
use Rattle.desk.proofs.Placed.{leads}

-- ---- three drives of a block each; the first and the last have a record of parameters

abbrev drive : ℕ → Drive
drive first = record {
  cylinders = 2;
  heads = 16;
  sectors = 63;
  blocks = 1;
  first = first;
  flags = 2;
  c = 1;
  h = 1;
  s = 1;
  protection = 0;
  bus = pci;
  interface = ata;
  path = replicate 8 0;
  device = replicate 8 0;
  kind = 1;
  tail = replicate 8 0;
}

-- a table of drives without bad blocks
abbrev unworn : List Drive → ℕ → List Bool → List ℕ → Table
unworn drives count present parameters =
    record { drives = drives; count = count; present = present; parameters = parameters; counts = replicate 8 0; bad = replicate 1024 0 }

abbrev table : Table
table =
    unworn (drive 0 ∷ drive 1 ∷ drive 2 ∷ replicate 5 zero_drive) 3 (true ∷ false ∷ true ∷ replicate 5 false)
    (1 ∷ 2 ∷ 3 ∷ 4 ∷ 74 ∷ 6 ∷ 7 ∷ 8 ∷ 9 ∷ 10 ∷ 11 ∷ 12 ∷ 13 ∷ 14 ∷ 0 ∷ 0 ∷ 0 ∷ 0 ∷ 0 ∷ 0 ∷ 0 ∷ 0 ∷ 0 ∷ 0 ∷ 0 ∷ 0 ∷ 0 ∷ 0
    ∷ 101 ∷ 102 ∷ 103 ∷ 104 ∷ 159 ∷ 106 ∷ 107 ∷ 108 ∷ 109 ∷ 110 ∷ 111 ∷ 112 ∷ 113 ∷ 114 ∷ replicate 70 0)

-- it is sound: said once for all the calls below
sound : is_sound table (1536 / 512) ≡ true
unfolding is_sound sound_to blank_to attached_to listed_to bads_ok list_ok ascends are_blocks held_of zero_past le refusal overlaps_any overlap in_store fields_ok geometry_fits in_limits bus_ok interface_ok is_blank blank_numbers blank_names same is_i2o zero_tail kind_ok
sound = refl

-- their tables: bits 7 and 5 of byte 4 set, revision 11h, the checksum
abbrev first_table : List ℕ
first_table = 1 ∷ 2 ∷ 3 ∷ 4 ∷ 234 ∷ 6 ∷ 7 ∷ 8 ∷ 9 ∷ 10 ∷ 11 ∷ 12 ∷ 13 ∷ 14 ∷ 17 ∷ 161 ∷ []

abbrev last_table : List ℕ
last_table = 101 ∷ 102 ∷ 103 ∷ 104 ∷ 191 ∷ 106 ∷ 107 ∷ 108 ∷ 109 ∷ 110 ∷ 111 ∷ 112 ∷ 113 ∷ 114 ∷ 17 ∷ 184 ∷ []

abbrev registers : ℕ → ℕ → Registers
registers ax dx = record { ax = ax; bx = 0x55AA; cx = 3; dx = dx; ds = 0; si = 34; es = 6; carry = true }

abbrev waiting : Row
waiting =
    record { stage = Waiting (record { job = record { registers = registers 0x4205 0x80; drive = 0x80; start = 0; count = 1; buffer = 0; packet = 7 }; moved = 0 }) }

abbrev finished : Row
finished = record { stage = Finished (registers 0x0005 0x80) }

-- rows, pointer, the arena's length, and the placements
abbrev desk : List Row → ℕ → ℕ → List Bool → List ℕ → Desk
desk rows pointer arena placed addresses =
    record { rows = rows; pointer = pointer; table = table; arena = arena; store = 1536; placed = placed; addresses = addresses }

-- guest 5 alone has placement, at address 32
abbrev marks : List Bool
marks = false ∷ false ∷ false ∷ false ∷ false ∷ true ∷ false ∷ false ∷ []

abbrev places : List ℕ
places = 0 ∷ 0 ∷ 0 ∷ 0 ∷ 0 ∷ 32 ∷ 0 ∷ 0 ∷ []

-- ---- the order of the refusals; windows of 544 bytes

abbrev at : List Row → ℕ → Desk
at rows pointer = desk rows pointer 4355 marks places

-- the numbers by both promises
abbrev numbers : Desk → ℕ → ℕ → List ℕ → List ℕ → List ℕ
numbers d g address a s = place_numbers (place_of d g address a s).answer ++ place_given d g address a s

module _ (arena store : List ℕ) (la : length arena ≡ 4355) (ls : length store ≡ 1536) where
  -- each with the next fault beside its own: a bad pointer and wrong lengths (25); wrong lengths and guest 8 (24); guest 8 where all rows wait
  -- (20); a row that waits and an address that is no multiple of 16 (21); that address alone (26); neither
  pub place_order : numbers (at (replicate 8 waiting) 8) 8 8 [] []
      ∷ numbers (at (replicate 8 waiting) 0) 8 8 [] store
      ∷ numbers (at (replicate 8 waiting) 0) 8 8 arena []
      ∷ numbers (at (replicate 8 waiting) 0) 8 8 arena store
      ∷ numbers (at (replicate 8 waiting) 0) 3 8 arena store
      ∷ numbers (at (replicate 8 vacant_row) 0) 3 8 arena store
      ∷ numbers (at (replicate 8 vacant_row) 0) 3 16 arena store
      ∷ []
      ≡ (25 ∷ 25 ∷ []) ∷ (24 ∷ 24 ∷ []) ∷ (24 ∷ 24 ∷ []) ∷ (20 ∷ 20 ∷ []) ∷ (21 ∷ 21 ∷ []) ∷ (26 ∷ 26 ∷ []) ∷ (0 ∷ 0 ∷ []) ∷ []
  unfolding place_of place_given place_numbers accept rows_ok request_ok placements_ok place_ok parameters_to is_drive
  place_order = rw (sound, la, ls)

  -- a waiting row refuses, a finished one and a vacant one do not; of the others the rows do not matter
  abbrev mixed : List Row
  mixed = waiting ∷ waiting ∷ waiting ∷ waiting ∷ finished ∷ vacant_row ∷ waiting ∷ waiting ∷ []

  pub place_stages : map (λ (g : ℕ). numbers (at mixed 7) g 32 arena store) (3 ∷ 4 ∷ 5 ∷ 7 ∷ []) ≡ (21 ∷ 21 ∷ []) ∷ (0 ∷ 0 ∷ []) ∷ (0 ∷ 0 ∷ []) ∷ (21 ∷ 21 ∷ []) ∷ []
  unfolding place_of place_given place_numbers accept rows_ok request_ok placements_ok place_ok parameters_to is_drive
  place_stages = rw (sound, la, ls)

  -- a refusal changes nothing
  pub place-refused : place_of (at mixed 7) 3 32 arena store ∷ place_of (at mixed 7) 5 40 arena store ∷ place_of (at mixed 7) 5 528 arena store ∷ []
      ≡ done (at mixed 7) (Err NotVacant) arena store ∷ done (at mixed 7) (Err BadPlace) arena store ∷ done (at mixed 7) (Err BadPlace) arena store ∷ []
  unfolding place_of accept rows_ok request_ok placements_ok place_ok parameters_to is_drive
  place-refused = rw (sound, la, ls)

  -- so there are placements at which the pointer leads to the table: for a finished row, by an arena whose last three bytes are nobody's
  placed_there : (place_of (at mixed 7) 4 32 arena store).answer ≡ Ok tt
  unfolding place_of accept rows_ok request_ok placements_ok place_ok parameters_to is_drive
  placed_there = rw (sound, la, ls)

  pub found_there : Leads table 4 544 32 (window_of arena 4 544) (place_of (at mixed 7) 4 32 arena store)
  found_there = leads (at mixed 7) 4 32 arena store (record { drives = refl; parameters = refl; placed = refl; addresses = refl }) placed_there

-- ---- the limits of a place, by how many tables there are and the arena's length

-- a table of drives that have the records marked
abbrev marked : List Bool → Table
marked present = unworn (replicate 8 zero_drive) 8 present (replicate 112 0)

abbrev bare : List Bool → ℕ → Desk
bare present arena =
    record { rows = replicate 8 vacant_row; pointer = 0; table = marked present; arena = arena; store = 0; placed = replicate 8 false; addresses = replicate 8 0 }

-- the number for each address, by both promises
abbrev answers : List Bool → ℕ → List ℕ → List (List ℕ)
answers present arena = map (λ (address : ℕ). place_numbers (place_tables (bare present arena) 0 address [] []).answer ++ place_row_given (bare present arena) address Vacant)

abbrev none : List Bool
none = replicate 8 false

abbrev one : List Bool
one = set none 6 true

abbrev two : List Bool
two = set one 1 true

abbrev good : List ℕ
good = 0 ∷ 0 ∷ []

abbrev bad : List ℕ
bad = 26 ∷ 26 ∷ []

-- windows of 64 bytes, two tables: misaligned by 8 and by 1; to the last byte; one place past it; near 2 to the 64. With none: to the window's end, where
-- the address is no longer in it, and past it; misaligned; in windows of 70 bytes
pub place_ends : answers two 512 (0 ∷ 8 ∷ 17 ∷ 31 ∷ 32 ∷ 48 ∷ 18446744073709551600 ∷ [])
    ∷ answers none 512 (0 ∷ 8 ∷ 64 ∷ 80 ∷ 18446744073709551600 ∷ [])
    ∷ answers none 565 (64 ∷ 80 ∷ [])
    ∷ answers two 565 (32 ∷ 48 ∷ [])
    ∷ []
    ≡ (good ∷ bad ∷ bad ∷ bad ∷ good ∷ bad ∷ bad ∷ [])
    ∷ (good ∷ bad ∷ good ∷ bad ∷ bad ∷ [])
    ∷ (good ∷ bad ∷ [])
    ∷ (good ∷ bad ∷ [])
    ∷ []
unfolding place_numbers place_ok parameters_to
place_ends = refl

-- windows of 200000h bytes: the segment of the last table is at most FFFFh; with none there is none to test
pub place-segments : answers one 0x1000000 (0xFFFF0 ∷ 0x100000 ∷ [])
    ∷ answers two 0x1000000 (0xFFFE0 ∷ 0xFFFF0 ∷ 0x100000 ∷ [])
    ∷ answers (replicate 8 true) 0x1000000 (0xFFF80 ∷ 0xFFF90 ∷ [])
    ∷ answers none 0x1000000 (0x100000 ∷ 0x200000 ∷ 0x200010 ∷ [])
    ∷ []
    ≡ (good ∷ bad ∷ [])
    ∷ (good ∷ bad ∷ bad ∷ [])
    ∷ (good ∷ bad ∷ [])
    ∷ (good ∷ good ∷ bad ∷ [])
    ∷ []
unfolding place_numbers place_ok parameters_to
place-segments = refl

-- the same of the places that a desk block has, in windows of 200000h bytes with two tables
pub accepted-segments : map (λ (address : ℕ). accept (desk (replicate 8 vacant_row) 0 0x1000000 (set marks 2 true) (set places 2 address))) (0 ∷ 0xFFFE0 ∷ 0xFFFE8 ∷ 0xFFFF0 ∷ 0x100000 ∷ [])
    ≡ true ∷ true ∷ false ∷ false ∷ false ∷ []
unfolding accept rows_ok request_ok placements_ok place_ok parameters_to is_drive
accepted-segments = rw sound

-- ---- what is written: windows of 64 bytes, guest 2's from byte 128 on

-- the arena around guest 2's window
abbrev around : List ℕ → List ℕ
around w = replicate 128 3 ++ (w ++ replicate 323 4)

abbrev before : List ℕ
before = around (replicate 16 5 ++ (replicate 32 6 ++ replicate 16 7))

abbrev zeros : List ℕ
zeros = replicate 1536 0

abbrev small : List Bool → List ℕ → Desk
small placed addresses = desk (replicate 8 vacant_row) 7 515 placed addresses

-- guest 2's tables stand one after another from address 16 on, and nothing else changes; guest 5's placement stays
pub tables-written : place_of (small marks places) 2 16 before zeros
    ≡ done (small (set marks 2 true) (set places 2 16)) (Ok tt) (around (replicate 16 5 ++ (first_table ++ (last_table ++ replicate 16 7)))) zeros
unfolding place_of tables_to parameter_table placed_bytes sum span_start span_length accept rows_ok request_ok placements_ok place_ok parameters_to is_drive
tables-written = rw sound

-- placed anew, at address 0: the new address stands for the old one, and the bytes of the old tables stay where no new ones are laid
pub placed_anew : place_of (small (set marks 2 true) (set places 2 16)) 2 0 (around (replicate 16 5 ++ (first_table ++ (last_table ++ replicate 16 7)))) zeros
    ≡ done (small (set marks 2 true) places) (Ok tt) (around (first_table ++ (last_table ++ (last_table ++ replicate 16 7)))) zeros
unfolding place_of tables_to parameter_table placed_bytes sum span_start span_length accept rows_ok request_ok placements_ok place_ok parameters_to is_drive
placed_anew = rw sound

-- with no record nothing is written, and the placement is kept: at the window's end
pub none_written : place_tables (bare none 515) 2 64 before []
    ≡ done
    (record { rows = replicate 8 vacant_row; pointer = 0; table = marked none; arena = 515; store = 0; placed = set none 2 true; addresses = set (replicate 8 0) 2 64 })
    (Ok tt) before []
unfolding tables_to span_start span_length place_ok parameters_to
none_written = refl

-- ---- what posts are given after it: guest 2 has its tables at address 16, guest 5 at 32, guest 3 has none

abbrev after : Desk
after = small (set marks 2 true) (set places 2 16)

-- 41h: CX of the answer, by both promises; for the drives 80h to 82h of each guest
abbrev support : ℕ → List (List ℕ)
support g =
    map (λ (dx : ℕ). post_numbers (post_of after g (registers 0x4107 dx) before zeros).answer) (0x80 ∷ 0x81 ∷ 0x82 ∷ [])
    ++ map (λ (dx : ℕ). post_given after g (registers 0x4107 dx) before zeros) (0x80 ∷ 0x82 ∷ [])

abbrev given : ℕ → ℕ → List ℕ
given cx dx = 0 ∷ 0x3000 ∷ 0xAA55 ∷ cx ∷ dx ∷ 0 ∷ 34 ∷ 6 ∷ 0 ∷ []

pub table_supported : map support (2 ∷ 3 ∷ 5 ∷ [])
    ≡ (given 5 0x80 ∷ given 1 0x81 ∷ given 5 0x82 ∷ given 5 0x80 ∷ given 5 0x82 ∷ [])
    ∷ (given 1 0x80 ∷ given 1 0x81 ∷ given 1 0x82 ∷ given 1 0x80 ∷ given 1 0x82 ∷ [])
    ∷ (given 5 0x80 ∷ given 1 0x81 ∷ given 5 0x82 ∷ given 5 0x80 ∷ given 5 0x82 ∷ [])
    ∷ []
unfolding post_of post_given post_numbers begin steps extensions shown_of begin_given steps_given check_given span_start span_length accept rows_ok request_ok placements_ok place_ok parameters_to is_drive
table_supported = rw sound

-- 48h: offset and segment of the pointer, at offset 26 of the result, which stands at place 34 of the guest's window
-- so many words of 30: every window asks for 30 bytes there
abbrev words : ℕ → List ℕ
words zero = []
words (suc n) = 30 ∷ 0 ∷ words n

abbrev asking : List ℕ
asking = words 257 ++ (9 ∷ [])

abbrev pointer : ℕ → ℕ → List ℕ
pointer g dx = let a : List ℕ = (post_of after g (registers 0x4800 dx) asking zeros).arena in le 2 a (64 * g + 60) ∷ le 2 a (64 * g + 62) ∷ []

pub pointers : map (λ (g : ℕ). map (pointer g) (0x80 ∷ 0x81 ∷ 0x82 ∷ [])) (2 ∷ 3 ∷ 5 ∷ [])
    ≡ ((0 ∷ 1 ∷ []) ∷ (0xFFFF ∷ 0xFFFF ∷ []) ∷ (0 ∷ 2 ∷ []) ∷ [])
    ∷ ((0xFFFF ∷ 0xFFFF ∷ []) ∷ (0xFFFF ∷ 0xFFFF ∷ []) ∷ (0xFFFF ∷ 0xFFFF ∷ []) ∷ [])
    ∷ ((0 ∷ 2 ∷ []) ∷ (0xFFFF ∷ 0xFFFF ∷ []) ∷ (0 ∷ 3 ∷ []) ∷ [])
    ∷ []
unfolding post_of begin steps result_into shown_of returned_size parameter_bytes block_bytes interface_bytes path_bytes sum whole_result result_bytes result_answer le le_bytes span_start span_length accept rows_ok request_ok placements_ok place_ok parameters_to is_drive is_i2o same padded wide_interface_bytes wide_path_bytes summed_bytes
pointers = rw sound
