-- Calls by number: document 01's drive of 2048 blocks and C/H/S 2/16/63, each function's success and refusals, and cases with two
-- faults that show the order of the tests; then three drives that differ in everything, of them two with parameter tables, two of
-- kind 2, and all with bad blocks.
-- Assumes nothing.
use Rattle.std.specs.Prelude.{is_some, unwrap_or}
use mathlib.Core.Path.{◌≡◌, refl, ap}
use mathlib.Core.Bool.{Bool, true, false}
use mathlib.Core.List.{List, [], ◌∷◌, ◌++◌, map}
use Prim.Native.Nat.{ℕ, ◌+◌, ◌-◌, ◌*◌, ◌/◌}
use lib.ListN.{length, get_or, take, drop, replicate}
use lib.Seq.{sets}
use lib.Dec.{eqb}
use Rattle.logic.specs.Logic.{pick}
use Rattle.words.specs.Words.{le, le_bytes, part}
use Rattle.chs.specs.Chs.{in_limits, is_valid, block_of}
use Rattle.drive.specs.declared.Drive.{Drive}
use Rattle.drive.specs.Drive.{drive_of as drive_read, same, bus_ok, interface_ok, geometry_fits, fields_ok, in_store, overlap, is_i2o, kind_ok, zero_tail, tail_of}
use Rattle.attached.specs.declared.Bads.{Bads}
use Rattle.attached.specs.Bad.{bad_count, bad_length_ok, bads_in, held_of, no_bads, bad_at, ascends, are_blocks, list_ok, is_bad, good}
use Rattle.table.specs.declared.Table.{Table}
use Rattle.table.specs.Table.{header_of, header_at, overlaps_any, refusal, parameters_refusal, bads_refusal, record_refusal, with_record, record_step, end_step, step_of, step_at, zero_drive, empty_table, read_from, read_table, parameters_to}
use Rattle.layout.specs.Packet.{packet_at, read_packet}
use Rattle.layout.specs.ParameterTable.{placed_bytes, parameter_table}
use Rattle.layout.specs.ResultBuffer.{returned_size, parameter_bytes, block_bytes, interface_bytes, path_bytes, sum, whole_result, result_bytes, result_answer, padded, wide_interface_bytes, wide_path_bytes, summed_bytes}
use Rattle.memory.specs.Blocks.{blocks}
use Rattle.int13.specs.declared.Registers.{Registers}
use Rattle.int13.specs.declared.Job.{Job}
use Rattle.int13.specs.declared.Placement.{Placement}
use Rattle.int13.specs.declared.Outcome.{Outcome}
use Rattle.int13.specs.declared.Outcome.TheVariants.{Answered, Waits}
use Rattle.int13.specs.declared.Plan.{Plan}
use Rattle.int13.specs.declared.Plan.TheVariants.{Refuse, Clear, Finish, Wait}
use Rattle.int13.specs.Answers.{dl, succeed, withdraw, ended, posted, outcome_numbers}
use Rattle.int13.specs.Placement.{no_placement, placed_at, tables_to, tables_of, table_count, table_address, not_shown}
use Rattle.int13.specs.Steps.{Checked, fed, is_drive, bads_of, shown_of, drive_at, drive_in, drive_named, verify_ok, verified, packet_tests, packet_plan, seek, sectors, parameters, extensions, result_into, steps, begin}
use Rattle.int13.specs.Numbers.{sectors_given, parameters_given, check_given, packet_tests_given, packet_numbers_at, extended_given, seek_given, buffer_given, steps_given, begin_given}
use Rattle.int13.specs.Alone.{asked, named_from, Memory, store_block, moves, good_of, reported, Served, served_by, alone}
use Rattle.int13.specs.AloneBytes.{asked_buffer, worn_block}

-- ---- tables

-- document 01's drive, at a store block, with information flags and protection
abbrev drive : ℕ → ℕ → ℕ → Drive
drive first flags protection = record {
  cylinders = 2;
  heads = 16;
  sectors = 63;
  blocks = 2048;
  first = first;
  flags = flags;
  c = 2;
  h = 16;
  s = 63;
  protection = protection;
  bus = 80 ∷ 67 ∷ 73 ∷ 0 ∷ [];
  interface = 65 ∷ 84 ∷ 65 ∷ 0 ∷ 0 ∷ 0 ∷ 0 ∷ 0 ∷ [];
  path = 0 ∷ 31 ∷ 1 ∷ 0 ∷ 0 ∷ 0 ∷ 0 ∷ 0 ∷ [];
  device = replicate 8 0;
  kind = 1;
  tail = replicate 8 0;
}

-- so many of eight drives, none with parameters or bad blocks
abbrev table : List Drive → ℕ → Table
table drives count =
    record {
      drives = drives;
      count = count;
      present = empty_table.present;
      parameters = empty_table.parameters;
      counts = empty_table.counts;
      bad = empty_table.bad;
    }

abbrev one : Drive → Table
one d = table (d ∷ replicate 7 zero_drive) 1

abbrev plain : Table
plain = one (drive 0 2 0)

abbrev guarded : Table
guarded = one (drive 0 2 1)

-- information flag bit 3: the drive can verify what it writes
abbrev verifying : Table
verifying = one (drive 0 10 0)

abbrev three : Table
three = table (drive 0 2 0 ∷ drive 2048 2 0 ∷ drive 4096 2 0 ∷ replicate 5 zero_drive) 3

abbrev eight : Table
eight =
    table (drive 0 2 0 ∷ drive 2048 2 0 ∷ drive 4096 2 0 ∷ drive 6144 2 0 ∷ drive 8192 2 0 ∷ drive 10240 2 0 ∷ drive 12288 2 0 ∷ drive 14336 2 0 ∷ []) 8

-- the largest geometry
abbrev largest : Table
largest =
    one
    (record {
      cylinders = 0;
      heads = 0;
      sectors = 0;
      blocks = 16450560;
      first = 0;
      flags = 0;
      c = 1024;
      h = 255;
      s = 63;
      protection = 0;
      bus = replicate 4 0;
      interface = replicate 8 0;
      path = replicate 8 0;
      device = replicate 8 0;
      kind = 1;
      tail = replicate 8 0;
    })

-- the 72 bytes of document 01's table
abbrev bytes : List ℕ
bytes = 68 ∷ 0 ∷ 1 ∷ 0 ∷ 2 ∷ 0 ∷ 0 ∷ 0 ∷ 16 ∷ 0 ∷ 0 ∷ 0 ∷ 63 ∷ 0 ∷ 0 ∷ 0 ∷ 0 ∷ 8 ∷ 0 ∷ 0 ∷ 0 ∷ 0 ∷ 0 ∷ 0 ∷ 0 ∷ 0 ∷ 0 ∷ 0 ∷ 0 ∷ 0 ∷ 0 ∷ 0 ∷ 2 ∷ 0 ∷ 2 ∷ 0 ∷ 16 ∷ 0 ∷ 63 ∷ 0 ∷ 80 ∷ 67 ∷ 73 ∷ 0 ∷ 65 ∷ 84 ∷ 65 ∷ 0 ∷ 0 ∷ 0 ∷ 0 ∷ 0 ∷ 0 ∷ 31 ∷ 1 ∷ 0 ∷ 0 ∷ 0 ∷ 0 ∷ 0 ∷ 0 ∷ 0 ∷ 0 ∷ 0 ∷ 0 ∷ 0 ∷ 0 ∷ 0 ∷ 4 ∷ 0 ∷ 0 ∷ 0 ∷ []

-- they are read as the drive above
pub worked_table : (read_table bytes 4294967296).table ≡ plain
unfolding le le_bytes in_limits drive_read same bus_ok interface_ok geometry_fits fields_ok in_store overlap header_of header_at overlaps_any refusal record_refusal with_record record_step end_step step_of step_at read_from read_table is_i2o zero_tail kind_ok tail_of
worked_table = refl

-- ---- calls

-- AX and DX; the others have values of their own, so that it shows which of them stay; DS:SI is the window's start
abbrev call : ℕ → ℕ → Registers
call ax dx = record { ax = ax; bx = 0x1111; cx = 0x2222; dx = dx; ds = 0; si = 0; es = 0x3333; carry = true }

-- AX, CX and DX, with the buffer ES:BX at the window's start
abbrev run : ℕ → ℕ → ℕ → Registers
run ax cx dx = record { ax = ax; bx = 0; cx = cx; dx = dx; ds = 0; si = 0; es = 0; carry = true }

-- 41h with BX and DX
abbrev asks41 : ℕ → ℕ → Registers
asks41 bx dx = record { ax = 0x4155; bx = bx; cx = 0x2222; dx = dx; ds = 0; si = 0; es = 0x3333; carry = true }

-- 48h with the result at place 4
abbrev result4 : Registers
result4 = record { ax = 0x4800; bx = 0; cx = 0; dx = 0x80; ds = 0; si = 4; es = 0; carry = true }

-- what came of a call, and the numbers that its second promise gives, straight from the registers, the drive and the window's bytes
pub record Called (A : Type 0) : Type 0 where
  pub made : A
  pub numbers : List ℕ

-- a call at a table, of a guest without placement and of one with it; and over one drive
abbrev by : Placement → Table → Registers → List ℕ → Called Checked
by p b r w = record { made = begin (fed b p) r w; numbers = begin_given b p.placed r w }

abbrev at : Table → Registers → List ℕ → Called Checked
at b r w = by no_placement b r w

abbrev over : Bool → ℕ → Drive → Bads → Registers → List ℕ → Called Checked
over known n d l r w = record { made = steps known n d l not_shown r w; numbers = steps_given known n d l false r w }

-- 02h and 03h at a table, in a window of that many bytes
abbrev sectors_of : Table → Registers → ℕ → Called Outcome
sectors_of b r M = record {
  made = sectors (is_drive b (dl r)) (drive_named b r) r M;
  numbers = sectors_given (is_drive b (dl r)) (drive_named b r) r M;
}

-- size byte, count, offset and segment of the buffer, start; byte 1 is A5h, which nobody reads
abbrev packet : ℕ → ℕ → ℕ → ℕ → ℕ → List ℕ
packet size count offset segment start = size ∷ 0xA5 ∷ (le_bytes 2 count ++ (le_bytes 2 offset ++ (le_bytes 2 segment ++ le_bytes 8 start)))

-- a window of 528 bytes: a packet, then one block
abbrev roomy : List ℕ → List ℕ
roomy p = p ++ replicate 512 0

-- ---- answers as numbers

abbrev bit : Bool → ℕ
bit true = 1
bit false = 0

-- all registers
abbrev registers : Registers → List ℕ
registers r = r.ax ∷ r.bx ∷ r.cx ∷ r.dx ∷ r.ds ∷ r.si ∷ r.es ∷ bit r.carry ∷ []

-- answered: AX and carry; waiting: start, count, buffer and packet
abbrev short : Outcome → List ℕ
short (Answered r) = r.ax ∷ bit r.carry ∷ []
short (Waits j) = j.start ∷ j.count ∷ j.buffer ∷ j.packet ∷ []

-- answered: every register; waiting: the drive's number, then the registers kept
abbrev whole : Outcome → List ℕ
whole (Answered r) = registers r
whole (Waits j) = j.drive ∷ registers j.registers

-- the same of the second promise's numbers, 0 and the registers, or 256, drive, start, count, buffer, packet and the registers kept
abbrev shortly : List ℕ → List ℕ
shortly l = pick (eqb (get_or l 0 0) 256) (part 4 l 2) (get_or l 1 0 ∷ get_or l 8 0 ∷ [])

abbrev wholly : List ℕ → List ℕ
wholly l = pick (eqb (get_or l 0 0) 256) (get_or l 1 0 ∷ drop 6 l) (drop 1 l)

-- a plan: refused 0, refused with the count word set 1, at once 2, waiting 3
abbrev planned : Plan → List ℕ
planned (Refuse code) = 0 ∷ code ∷ []
planned (Clear code n) = 1 ∷ code ∷ n ∷ []
planned Finish = 2 ∷ []
planned (Wait j) = 3 ∷ j.start ∷ j.count ∷ j.buffer ∷ j.packet ∷ []

-- the registers of `call` after an answer that changes AX and carry only
abbrev kept : ℕ → ℕ → ℕ → List ℕ
kept ax dx carry = ax ∷ 0x1111 ∷ 0x2222 ∷ dx ∷ 0 ∷ 0 ∷ 0x3333 ∷ carry ∷ []

-- ---- cases: what came of a call, and what must come

pub record Case : Type 0 where
  pub made : List (List ℕ)
  pub given : List (List ℕ)

abbrev Hold : List Case → Type 0
Hold cases = map (λ (c : Case). c.made) cases ≡ map (λ (c : Case). c.given) cases

-- its answer in short; an outcome in short; its answer whole; its answer in short and the window after it; all by both promises
abbrev gives : Called Checked → List ℕ → Case
gives c l = record { made = short c.made.outcome ∷ shortly c.numbers ∷ []; given = l ∷ l ∷ [] }

abbrev comes : Called Outcome → List ℕ → Case
comes o l = record { made = short o.made ∷ shortly o.numbers ∷ []; given = l ∷ l ∷ [] }

abbrev gives_all : Called Checked → List ℕ → Case
gives_all c l = record { made = whole c.made.outcome ∷ wholly c.numbers ∷ []; given = l ∷ l ∷ [] }

abbrev leaves : Called Checked → List ℕ → List ℕ → Case
leaves c l w = record { made = short c.made.outcome ∷ shortly c.numbers ∷ c.made.window ∷ []; given = l ∷ l ∷ w ∷ [] }

abbrev plans : Plan → List ℕ → Case
plans p l = record { made = planned p ∷ []; given = l ∷ [] }

abbrev holds : Registers → List ℕ → Case
holds r l = record { made = registers r ∷ []; given = l ∷ [] }

-- ---- one drive: each function's success and refusals, and the order of its tests

pub record Vectors : Type 0 where
  -- ---- "Numbers given back": which registers an answer changes; BX 1111h, CX 2222h, ES 3333h and carry were given

  -- 02h and 03h: AL stays on success, which is given at the end; a refusal sets AL to 0, for an unknown drive too
  --   02h finished: AX 0005h
  --   03h finished: AX 0005h
  --   02h withdrawn after 16 blocks: AX 8010h
  --   03h withdrawn after none: AX 8000h
  --   42h withdrawn after 16 blocks: AX 8055h
  --   43h withdrawn after none: AX 8001h
  pub registers-sectors : Hold
      ((holds (succeed (posted (call 0x0205 0x80))) (kept 0x0005 0x80 0))
      ∷ (holds (succeed (posted (call 0x0305 0x80))) (kept 0x0005 0x80 0))
      ∷ (holds (withdraw 16 (posted (call 0x0220 0x80))) (kept 0x8010 0x80 1))
      ∷ (holds (withdraw 0 (posted (call 0x0320 0x80))) (kept 0x8000 0x80 1))
      ∷ (holds (withdraw 16 (posted (call 0x4255 0x80))) (kept 0x8055 0x80 1))
      ∷ (holds (withdraw 0 (posted (call 0x4301 0x80))) (kept 0x8001 0x80 1))
      ∷ [])
  -- every function: success changes what the paper names, a refusal AH and carry, and AL for 02h and 03h
  --   02h, drive 81h of one: AX 0100h
  --   03h, drive 81h of one: AX 0100h
  --   03h, protected: AX 0300h
  --   08h: AX 0, CX 013Fh, DX 0F01h
  --   08h, drive 81h of one: AX 0755h
  --   42h, count 0: AX 0055h
  --   42h, start 2049: AX 0455h
  --   43h, AL 1, count 0: AX 0001h
  --   43h, AL 1, protected: AX 0301h
  --   44h: AX 0055h
  --   44h, start 2049: AX 0455h
  --   47h: AX 0055h
  --   47h, start 2048: AX 0455h
  --   48h, size 26: AX 0055h
  --   48h, size 25: AX 0155h
  pub registers_answered : Hold
      ((gives_all (at plain (call 0x0205 0x81) []) (kept 0x0100 0x81 1))
      ∷ (gives_all (at plain (call 0x0305 0x81) []) (kept 0x0100 0x81 1))
      ∷ (gives_all (at guarded (call 0x0305 0x80) []) (kept 0x0300 0x80 1))
      ∷ (gives_all (at plain (call 0x0855 0x80) []) (0x0000 ∷ 0x1111 ∷ 0x013F ∷ 0x0F01 ∷ 0 ∷ 0 ∷ 0x3333 ∷ 0 ∷ []))
      ∷ (gives_all (at plain (call 0x0855 0x81) []) (kept 0x0755 0x81 1))
      ∷ (gives_all (at plain (call 0x4255 0x80) (packet 16 0 16 0 0)) (kept 0x0055 0x80 0))
      ∷ (gives_all (at plain (call 0x4255 0x80) (packet 16 0 16 0 2049)) (kept 0x0455 0x80 1))
      ∷ (gives_all (at plain (call 0x4301 0x80) (packet 16 0 16 0 0)) (kept 0x0001 0x80 0))
      ∷ (gives_all (at guarded (call 0x4301 0x80) (packet 16 0 16 0 0)) (kept 0x0301 0x80 1))
      ∷ (gives_all (at plain (call 0x4455 0x80) (packet 16 1 16 0 0)) (kept 0x0055 0x80 0))
      ∷ (gives_all (at plain (call 0x4455 0x80) (packet 16 0 16 0 2049)) (kept 0x0455 0x80 1))
      ∷ (gives_all (at plain (call 0x4755 0x80) (packet 16 0 16 0 0)) (kept 0x0055 0x80 0))
      ∷ (gives_all (at plain (call 0x4755 0x80) (packet 16 0 16 0 2048)) (kept 0x0455 0x80 1))
      ∷ (gives_all (at plain (call 0x4855 0x80) (26 ∷ replicate 25 0)) (kept 0x0055 0x80 0))
      ∷ (gives_all (at plain (call 0x4855 0x80) (25 ∷ replicate 25 0)) (kept 0x0155 0x80 1))
      ∷ [])
  -- 41h: AL becomes 0 on success and stays on refusal, DH is not set
  --   drive known, BX 55AAh: AX 3000h, BX AA55h, CX 0001h
  --   drive known, BX AA55h: AX 0155h
  --   drive unknown, BX 55AAh: AX 0155h
  pub registers-extensions : Hold
      ((gives_all (at plain (asks41 0x55AA 0x7780) []) (0x3000 ∷ 0xAA55 ∷ 0x0001 ∷ 0x7780 ∷ 0 ∷ 0 ∷ 0x3333 ∷ 0 ∷ []))
      ∷ (gives_all (at plain (asks41 0xAA55 0x7780) []) (0x0155 ∷ 0xAA55 ∷ 0x2222 ∷ 0x7780 ∷ 0 ∷ 0 ∷ 0x3333 ∷ 1 ∷ []))
      ∷ (gives_all (at plain (asks41 0x55AA 0x7781) []) (0x0155 ∷ 0x55AA ∷ 0x2222 ∷ 0x7781 ∷ 0 ∷ 0 ∷ 0x3333 ∷ 1 ∷ []))
      ∷ [])
  -- a request that waits keeps its registers, with carry clear: drive 80h, then the registers
  --   42h, one block
  pub registers_waiting : Hold
      ((gives_all (at plain (call 0x4255 0x80) (roomy (packet 16 1 16 0 0))) (0x80 ∷ kept 0x4255 0x80 0))
      ∷ [])
  -- an unknown function is 01h whatever DL, AL stays
  --   00h, drive 80h: AX 0155h
  --   01h, drive 80h: AX 0155h
  --   04h, drive 00h: AX 0155h
  --   15h, drive 81h: AX 0155h
  --   45h, drive 80h: AX 0155h
  --   FFh, drive 80h: AX 0155h
  pub unknown_functions : Hold
      ((gives_all (at plain (call 0x0055 0x80) []) (kept 0x0155 0x80 1))
      ∷ (gives_all (at plain (call 0x0155 0x80) []) (kept 0x0155 0x80 1))
      ∷ (gives_all (at plain (call 0x0455 0x00) []) (kept 0x0155 0x00 1))
      ∷ (gives_all (at plain (call 0x1555 0x81) []) (kept 0x0155 0x81 1))
      ∷ (gives_all (at plain (call 0x4555 0x80) []) (kept 0x0155 0x80 1))
      ∷ (gives_all (at plain (call 0xFF55 0x80) []) (kept 0x0155 0x80 1))
      ∷ [])
  -- drive numbers 00h, 7Fh, 80h, 80h + n - 1, 80h + n and FFh of n = 0, 1 and 8 drives; DL - 80h is never taken in eight bits
  --   no drive: none is one
  --   one drive: 80h is one
  --   eight drives: 80h, 81h and 87h are
  pub drive-numbers :
      map (λ (b : Table). map (λ (n : ℕ). bit (is_drive b n)) (0x00 ∷ 0x7F ∷ 0x80 ∷ 0x81 ∷ 0x87 ∷ 0x88 ∷ 0xFF ∷ [])) (empty_table ∷ plain ∷ eight ∷ [])
      ≡ (0 ∷ 0 ∷ 0 ∷ 0 ∷ 0 ∷ 0 ∷ 0 ∷ []) ∷ (0 ∷ 0 ∷ 1 ∷ 0 ∷ 0 ∷ 0 ∷ 0 ∷ []) ∷ (0 ∷ 0 ∷ 1 ∷ 1 ∷ 1 ∷ 0 ∷ 0 ∷ []) ∷ []
  -- a drive function of an unknown drive is 01h, 08h is 07h
  --   02h, 00h: AX 0100h
  --   03h, 7Fh: AX 0100h
  --   08h, 80h of none: AX 0755h
  --   08h, 88h of eight: AX 0755h
  --   41h, FFh: AX 0155h
  --   42h, 81h: AX 0155h
  --   47h, 81h: AX 0155h
  --   48h, 7Fh: AX 0155h
  pub unknown_drives : Hold
      ((gives (at plain (call 0x0201 0x00) []) (0x0100 ∷ 1 ∷ []))
      ∷ (gives (at plain (call 0x0301 0x7F) []) (0x0100 ∷ 1 ∷ []))
      ∷ (gives (at empty_table (call 0x0855 0x80) []) (0x0755 ∷ 1 ∷ []))
      ∷ (gives (at eight (call 0x0855 0x88) []) (0x0755 ∷ 1 ∷ []))
      ∷ (gives (at plain (call 0x4155 0xFF) []) (0x0155 ∷ 1 ∷ []))
      ∷ (gives (at plain (call 0x4255 0x81) (packet 16 0 16 0 0)) (0x0155 ∷ 1 ∷ []))
      ∷ (gives (at plain (call 0x4755 0x81) (packet 16 0 16 0 0)) (0x0155 ∷ 1 ∷ []))
      ∷ (gives (at plain (call 0x4855 0x7F) (26 ∷ replicate 25 0)) (0x0155 ∷ 1 ∷ []))
      ∷ [])
  -- ---- "Run by program": start and count against 2048 blocks, the limits of AL and of the packet's count

  -- 42h, 43h and 44h by start and count, in a window of 528 bytes
  --   42h, start 2047 count 1: waits
  --   42h, start 2048 count 0: success
  --   42h, start 2048 count 1: 04h
  --   43h, protected and out of range: 03h
  --   44h, count 127: success
  --   44h, count 128: 01h
  pub run_by_program : Hold
      ((gives (at plain (call 0x4200 0x80) (roomy (packet 16 1 16 0 2047))) (2047 ∷ 1 ∷ 16 ∷ 0 ∷ []))
      ∷ (gives (at plain (call 0x4200 0x80) (roomy (packet 16 0 16 0 2048))) (0x0000 ∷ 0 ∷ []))
      ∷ (gives (at plain (call 0x4200 0x80) (roomy (packet 16 1 16 0 2048))) (0x0400 ∷ 1 ∷ []))
      ∷ (gives (at guarded (call 0x4300 0x80) (roomy (packet 16 1 16 0 2048))) (0x0300 ∷ 1 ∷ []))
      ∷ (gives (at plain (call 0x4400 0x80) (roomy (packet 16 127 16 0 0))) (0x0000 ∷ 0 ∷ []))
      ∷ (gives (at plain (call 0x4400 0x80) (roomy (packet 16 128 16 0 0))) (0x0100 ∷ 1 ∷ []))
      ∷ [])
  -- 02h and 03h by AL, in a window of 65536 bytes
  --   02h, AL 128 at 0/0/1: waits
  --   02h, AL 129: 09h
  --   03h, protected and out of range: 03h
  pub run_by_program_sectors : Hold
      ((comes (sectors_of plain (run 0x0280 0x0001 0x0080) 65536) (0 ∷ 128 ∷ 0 ∷ 0 ∷ []))
      ∷ (comes (sectors_of plain (run 0x0281 0x0001 0x0080) 65536) (0x0900 ∷ 1 ∷ []))
      ∷ (comes (sectors_of guarded (run 0x0301 0x0201 0x0080) 65536) (0x0300 ∷ 1 ∷ []))
      ∷ [])
  -- 42h by count, in a window of 65040 bytes
  --   count 127: waits
  --   count 128: 01h
  pub run_by_program_packets : Hold
      ((plans (packet_tests (drive 0 2 0) no_bads (call 0x4200 0x80) 65040 (record { size = 16; count = 127; buffer = 16; start = 0 })) (3 ∷ 0 ∷ 127 ∷ 16 ∷ 0 ∷ []))
      ∷ (plans (packet_tests (drive 0 2 0) no_bads (call 0x4200 0x80) 65040 (record { size = 16; count = 128; buffer = 16; start = 0 })) (1 ∷ 1 ∷ 0 ∷ []))
      ∷ [])
  -- ---- 42h, 43h, 44h: each pair of adjoining tests with both faults, and the window after it

  -- 42h: the count word is set to 0 once the size byte is found good
  --   unknown drive and 15 bytes left: 01h, nothing written
  --   15 bytes left and size 15: 01h, nothing written
  --   size 15 and count 128: 01h, nothing written
  --   count 128 and out of range: 01h, count word 0
  --   out of range and buffer outside: 04h, count word 0
  --   buffer outside: 09h, count word 0
  pub order_read : Hold
      ((leaves (at plain (call 0x4200 0x81) (take 15 (packet 16 1 16 0 0))) (0x0100 ∷ 1 ∷ []) (take 15 (packet 16 1 16 0 0)))
      ∷ (leaves (at plain (call 0x4200 0x80) (take 15 (packet 15 1 16 0 0))) (0x0100 ∷ 1 ∷ []) (take 15 (packet 15 1 16 0 0)))
      ∷ (leaves (at plain (call 0x4200 0x80) (packet 15 128 16 0 0)) (0x0100 ∷ 1 ∷ []) (packet 15 128 16 0 0))
      ∷ (leaves (at plain (call 0x4200 0x80) (packet 16 128 16 0 2048)) (0x0100 ∷ 1 ∷ []) (packet 16 0 16 0 2048))
      ∷ (leaves (at plain (call 0x4200 0x80) (packet 16 1 16 0 2048)) (0x0400 ∷ 1 ∷ []) (packet 16 0 16 0 2048))
      ∷ (leaves (at plain (call 0x4200 0x80) (packet 16 1 16 0 0)) (0x0900 ∷ 1 ∷ []) (packet 16 0 16 0 0))
      ∷ [])
  -- 43h: AL and protection too
  --   unknown drive and AL 3: 01h, nothing written
  --   AL 3 and 15 bytes left: 01h, nothing written
  --   15 bytes left and size 15: 01h, nothing written
  --   size 15 and count 128: 01h, nothing written
  --   count 128 and protected: 01h, count word 0
  --   protected and out of range: 03h, count word 0
  --   out of range and buffer outside: 04h, count word 0
  --   buffer outside: 09h, count word 0
  pub order_write : Hold
      ((leaves (at plain (call 0x4303 0x81) (packet 16 1 16 0 0)) (0x0103 ∷ 1 ∷ []) (packet 16 1 16 0 0))
      ∷ (leaves (at plain (call 0x4303 0x80) (take 15 (packet 16 1 16 0 0))) (0x0103 ∷ 1 ∷ []) (take 15 (packet 16 1 16 0 0)))
      ∷ (leaves (at plain (call 0x4300 0x80) (take 15 (packet 15 1 16 0 0))) (0x0100 ∷ 1 ∷ []) (take 15 (packet 15 1 16 0 0)))
      ∷ (leaves (at plain (call 0x4300 0x80) (packet 15 128 16 0 0)) (0x0100 ∷ 1 ∷ []) (packet 15 128 16 0 0))
      ∷ (leaves (at guarded (call 0x4300 0x80) (packet 16 128 16 0 0)) (0x0100 ∷ 1 ∷ []) (packet 16 0 16 0 0))
      ∷ (leaves (at guarded (call 0x4300 0x80) (packet 16 1 16 0 2048)) (0x0300 ∷ 1 ∷ []) (packet 16 0 16 0 2048))
      ∷ (leaves (at plain (call 0x4300 0x80) (packet 16 1 16 0 2048)) (0x0400 ∷ 1 ∷ []) (packet 16 0 16 0 2048))
      ∷ (leaves (at plain (call 0x4300 0x80) (packet 16 1 16 0 0)) (0x0900 ∷ 1 ∷ []) (packet 16 0 16 0 0))
      ∷ [])
  -- 44h: neither AL, nor protection, nor the buffer
  --   unknown drive and 15 bytes left: 01h, nothing written
  --   15 bytes left and size 15: 01h, nothing written
  --   size 15 and count 128: 01h, nothing written
  --   count 128 and out of range: 01h, count word 0
  --   out of range: 04h, count word 0
  --   protected, AL FFh, count 127, buffer FFFFh:FFFFh: success, nothing written
  pub order_verify : Hold
      ((leaves (at plain (call 0x4403 0x81) (take 15 (packet 16 1 16 0 0))) (0x0103 ∷ 1 ∷ []) (take 15 (packet 16 1 16 0 0)))
      ∷ (leaves (at plain (call 0x4403 0x80) (take 15 (packet 15 1 16 0 0))) (0x0103 ∷ 1 ∷ []) (take 15 (packet 15 1 16 0 0)))
      ∷ (leaves (at plain (call 0x4403 0x80) (packet 15 128 16 0 0)) (0x0103 ∷ 1 ∷ []) (packet 15 128 16 0 0))
      ∷ (leaves (at plain (call 0x4403 0x80) (packet 16 128 16 0 2048)) (0x0103 ∷ 1 ∷ []) (packet 16 0 16 0 2048))
      ∷ (leaves (at plain (call 0x4403 0x80) (packet 16 1 16 0 2048)) (0x0403 ∷ 1 ∷ []) (packet 16 0 16 0 2048))
      ∷ (leaves (at guarded (call 0x44FF 0x80) (packet 16 127 0xFFFF 0xFFFF 0)) (0x00FF ∷ 0 ∷ []) (packet 16 127 0xFFFF 0xFFFF 0))
      ∷ [])
  -- a count of 0 passes every test before it is answered at once, and success leaves the packet
  --   43h, protected: 03h
  --   42h, start 2049: 04h
  --   42h, start 2048: success
  --   42h, buffer 17 of 16 bytes: 09h
  --   42h, buffer 16 of 16 bytes: success
  --   43h, buffer 17 of 16 bytes: 09h
  pub count-zero : Hold
      ((leaves (at guarded (call 0x4300 0x80) (packet 16 0 16 0 0)) (0x0300 ∷ 1 ∷ []) (packet 16 0 16 0 0))
      ∷ (leaves (at plain (call 0x4200 0x80) (packet 16 0 16 0 2049)) (0x0400 ∷ 1 ∷ []) (packet 16 0 16 0 2049))
      ∷ (leaves (at plain (call 0x4200 0x80) (packet 16 0 16 0 2048)) (0x0000 ∷ 0 ∷ []) (packet 16 0 16 0 2048))
      ∷ (leaves (at plain (call 0x4200 0x80) (packet 16 0 17 0 0)) (0x0900 ∷ 1 ∷ []) (packet 16 0 17 0 0))
      ∷ (leaves (at plain (call 0x4200 0x80) (packet 16 0 16 0 0)) (0x0000 ∷ 0 ∷ []) (packet 16 0 16 0 0))
      ∷ (leaves (at plain (call 0x4300 0x80) (packet 16 0 17 0 0)) (0x0900 ∷ 1 ∷ []) (packet 16 0 17 0 0))
      ∷ [])
  -- the packet is always 16 bytes, its count a whole word, its buffer an address that is never wrapped
  --   44h, size 24: success
  --   44h, size 255: success
  --   44h, count 0100h: 01h, both bytes 0
  --   44h, count FFh: 01h
  --   42h, count FFFFh: 01h, both bytes 0
  --   42h, count 0, buffer FFFFh:FFFFh: 09h
  pub packet_forms : Hold
      ((leaves (at plain (call 0x4400 0x80) (packet 24 1 16 0 0)) (0x0000 ∷ 0 ∷ []) (packet 24 1 16 0 0))
      ∷ (leaves (at plain (call 0x4400 0x80) (packet 255 1 16 0 0)) (0x0000 ∷ 0 ∷ []) (packet 255 1 16 0 0))
      ∷ (leaves (at plain (call 0x4400 0x80) (packet 16 0x0100 16 0 0)) (0x0100 ∷ 1 ∷ []) (packet 16 0 16 0 0))
      ∷ (leaves (at plain (call 0x4400 0x80) (packet 16 0xFF 16 0 0)) (0x0100 ∷ 1 ∷ []) (packet 16 0 16 0 0))
      ∷ (leaves (at plain (call 0x4200 0x80) (packet 16 0xFFFF 16 0 0)) (0x0100 ∷ 1 ∷ []) (packet 16 0 16 0 0))
      ∷ (leaves (at plain (call 0x4200 0x80) (packet 16 0 0xFFFF 0xFFFF 0)) (0x0900 ∷ 1 ∷ []) (packet 16 0 0xFFFF 0xFFFF 0))
      ∷ [])
  -- buffers above 1 MiB and across 64 KiB: 42h, one block at FFFFh:FFFFh and eight at 65000
  --   10FFEFh in a window of 10FFEFh + 512: waits
  --   10FFEFh in a window one byte shorter: 09h
  --   65000 in a window of 69096: waits
  --   65000 in a window of 69095: 09h
  pub buffers : Hold
      ((plans (packet_tests (drive 0 2 0) no_bads (call 0x4200 0x80) (0x10FFEF + 512) (record { size = 16; count = 1; buffer = 0x10FFEF; start = 0 })) (3 ∷ 0 ∷ 1 ∷ 0x10FFEF ∷ 0 ∷ []))
      ∷ (plans (packet_tests (drive 0 2 0) no_bads (call 0x4200 0x80) (0x10FFEF + 511) (record { size = 16; count = 1; buffer = 0x10FFEF; start = 0 })) (1 ∷ 9 ∷ 0 ∷ []))
      ∷ (plans (packet_tests (drive 0 2 0) no_bads (call 0x4200 0x80) 69096 (record { size = 16; count = 8; buffer = 65000; start = 0 })) (3 ∷ 0 ∷ 8 ∷ 65000 ∷ 0 ∷ []))
      ∷ (plans (packet_tests (drive 0 2 0) no_bads (call 0x4200 0x80) 69095 (record { size = 16; count = 8; buffer = 65000; start = 0 })) (1 ∷ 9 ∷ 0 ∷ []))
      ∷ [])
  -- start + count never wraps: every one is 04h
  --   42h, start 2^64 - 1 count 0
  --   42h, start 2^64 - 1 count 1
  --   42h, start 2^64 - 1 count 2
  --   44h, start 2^64 - 127 count 127
  --   47h, start 2^64 - 1
  pub no_wrap : Hold
      ((gives (at plain (call 0x4200 0x80) (roomy (packet 16 0 16 0 18446744073709551615))) (0x0400 ∷ 1 ∷ []))
      ∷ (gives (at plain (call 0x4200 0x80) (roomy (packet 16 1 16 0 18446744073709551615))) (0x0400 ∷ 1 ∷ []))
      ∷ (gives (at plain (call 0x4200 0x80) (roomy (packet 16 2 16 0 18446744073709551615))) (0x0400 ∷ 1 ∷ []))
      ∷ (gives (at plain (call 0x4400 0x80) (roomy (packet 16 127 16 0 18446744073709551489))) (0x0400 ∷ 1 ∷ []))
      ∷ (gives (at plain (call 0x4700 0x80) (roomy (packet 16 1 16 0 18446744073709551615))) (0x0400 ∷ 1 ∷ []))
      ∷ [])
  -- 43h: AL 0 and 1, and 2 where information flag bit 3 is set; a bad AL is refused before the packet is looked at
  --   AL 0: success
  --   AL 1: success
  --   AL 2, bit set: success
  --   AL 2, bit clear, count 128: 01h, nothing written
  --   AL 3, bit set, count 128: 01h, nothing written
  --   AL FFh, bit set, count 128: 01h, nothing written
  pub verify_flag : Hold
      ((leaves (at plain (call 0x4300 0x80) (packet 16 0 16 0 0)) (0x0000 ∷ 0 ∷ []) (packet 16 0 16 0 0))
      ∷ (leaves (at plain (call 0x4301 0x80) (packet 16 0 16 0 0)) (0x0001 ∷ 0 ∷ []) (packet 16 0 16 0 0))
      ∷ (leaves (at verifying (call 0x4302 0x80) (packet 16 0 16 0 0)) (0x0002 ∷ 0 ∷ []) (packet 16 0 16 0 0))
      ∷ (leaves (at plain (call 0x4302 0x80) (packet 16 128 16 0 0)) (0x0102 ∷ 1 ∷ []) (packet 16 128 16 0 0))
      ∷ (leaves (at verifying (call 0x4303 0x80) (packet 16 128 16 0 0)) (0x0103 ∷ 1 ∷ []) (packet 16 128 16 0 0))
      ∷ (leaves (at verifying (call 0x43FF 0x80) (packet 16 128 16 0 0)) (0x01FF ∷ 1 ∷ []) (packet 16 128 16 0 0))
      ∷ [])
  -- ---- 47h, 02h and 03h, 08h, 48h

  -- 47h: start below the blocks, count ignored, no refusal writes
  --   start 2047: success
  --   start 2048: 04h
  --   count 65535: success
  --   size 15 and start 2048: 01h
  --   15 bytes left: 01h
  pub seeks : Hold
      ((leaves (at plain (call 0x4700 0x80) (packet 16 1 16 0 2047)) (0x0000 ∷ 0 ∷ []) (packet 16 1 16 0 2047))
      ∷ (leaves (at plain (call 0x4700 0x80) (packet 16 1 16 0 2048)) (0x0400 ∷ 1 ∷ []) (packet 16 1 16 0 2048))
      ∷ (leaves (at plain (call 0x4700 0x80) (packet 16 65535 16 0 0)) (0x0000 ∷ 0 ∷ []) (packet 16 65535 16 0 0))
      ∷ (leaves (at plain (call 0x4700 0x80) (packet 15 1 16 0 2048)) (0x0100 ∷ 1 ∷ []) (packet 15 1 16 0 2048))
      ∷ (leaves (at plain (call 0x4700 0x80) (take 15 (packet 16 1 16 0 0))) (0x0100 ∷ 1 ∷ []) (take 15 (packet 16 1 16 0 0)))
      ∷ [])
  -- 02h and 03h: drive, AL, protection, address, buffer
  --   unknown drive and AL 129: 01h
  --   03h, AL 0 and protected: 01h
  --   03h, AL 129 and protected: 09h
  --   03h, protected and cylinder 2: 03h
  --   02h, protected: waits
  --   cylinder 2 and buffer outside: 04h
  --   buffer outside: 09h
  --   buffer at the end: waits
  pub order_sectors : Hold
      ((comes (sectors_of plain (run 0x0281 0x0001 0x0081) 65536) (0x0100 ∷ 1 ∷ []))
      ∷ (comes (sectors_of guarded (run 0x0300 0x0001 0x0080) 65536) (0x0100 ∷ 1 ∷ []))
      ∷ (comes (sectors_of guarded (run 0x0381 0x0001 0x0080) 65536) (0x0900 ∷ 1 ∷ []))
      ∷ (comes (sectors_of guarded (run 0x0301 0x0201 0x0080) 65536) (0x0300 ∷ 1 ∷ []))
      ∷ (comes (sectors_of guarded (run 0x0201 0x0001 0x0080) 65536) (0 ∷ 1 ∷ 0 ∷ 0 ∷ []))
      ∷ (comes (sectors_of plain (run 0x0201 0x0201 0x0080) 511) (0x0400 ∷ 1 ∷ []))
      ∷ (comes (sectors_of plain (run 0x0201 0x0001 0x0080) 511) (0x0900 ∷ 1 ∷ []))
      ∷ (comes (sectors_of plain (run 0x0201 0x0001 0x0080) 512) (0 ∷ 1 ∷ 0 ∷ 0 ∷ []))
      ∷ [])
  -- 02h: the address and its run in the geometry of 2016 blocks, of a drive of 2048
  --   cylinder 1, head 15, sector 63, AL 1: waits at block 2015
  --   the same, AL 2, which fits the drive but not the geometry: 04h
  --   head 16: 04h
  --   sector 0: 04h
  --   cylinder 256, in the top bits of CL: 04h
  --   a run across tracks, 128 blocks from 0/0/63: waits at block 62
  pub addresses : Hold
      ((comes (sectors_of plain (run 0x0201 0x013F 0x0F80) 65536) (2015 ∷ 1 ∷ 0 ∷ 0 ∷ []))
      ∷ (comes (sectors_of plain (run 0x0202 0x013F 0x0F80) 65536) (0x0400 ∷ 1 ∷ []))
      ∷ (comes (sectors_of plain (run 0x0201 0x0001 0x1080) 65536) (0x0400 ∷ 1 ∷ []))
      ∷ (comes (sectors_of plain (run 0x0201 0x0000 0x0080) 65536) (0x0400 ∷ 1 ∷ []))
      ∷ (comes (sectors_of plain (run 0x0201 0x0041 0x0080) 65536) (0x0400 ∷ 1 ∷ []))
      ∷ (comes (sectors_of plain (run 0x0280 0x003F 0x0080) 65536) (62 ∷ 128 ∷ 0 ∷ 0 ∷ []))
      ∷ [])
  -- 08h: the number of drives whichever was asked, and the largest geometry
  --   82h of three: CX 013Fh, DX 0F03h
  --   80h of three: CX 013Fh, DX 0F03h
  --   C 1024, H 255, S 63: CX FFFFh, DX FE01h
  pub parameters-given : Hold
      ((gives_all (at three (call 0x0855 0x82) []) (0x0000 ∷ 0x1111 ∷ 0x013F ∷ 0x0F03 ∷ 0 ∷ 0 ∷ 0x3333 ∷ 0 ∷ []))
      ∷ (gives_all (at three (call 0x0855 0x80) []) (0x0000 ∷ 0x1111 ∷ 0x013F ∷ 0x0F03 ∷ 0 ∷ 0 ∷ 0x3333 ∷ 0 ∷ []))
      ∷ (gives_all (at largest (call 0x0855 0x80) []) (0x0000 ∷ 0x1111 ∷ 0xFFFF ∷ 0xFE01 ∷ 0 ∷ 0 ∷ 0x3333 ∷ 0 ∷ []))
      ∷ [])
  -- 48h at place 4 of the window: bytes before it and past the returned size stay, and a refusal writes none
  --   size 29, 29 bytes left: 26 returned
  --   size 30, 29 bytes left: 01h, no smaller size is tried
  --   size 25: 01h
  --   one byte left: 01h
  pub results : Hold
      ((leaves (at plain result4 (9 ∷ 9 ∷ 9 ∷ 9 ∷ 29 ∷ 0 ∷ replicate 27 7)) (0x0000 ∷ 0 ∷ []) (9 ∷ 9 ∷ 9 ∷ 9 ∷ 26 ∷ 0 ∷ 2 ∷ 0 ∷ 2 ∷ 0 ∷ 0 ∷ 0 ∷ 16 ∷ 0 ∷ 0 ∷ 0 ∷ 63 ∷ 0 ∷ 0 ∷ 0 ∷ 0 ∷ 8 ∷ 0 ∷ 0 ∷ 0 ∷ 0 ∷ 0 ∷ 0 ∷ 0 ∷ 2 ∷ replicate 3 7))
      ∷ (leaves (at plain result4 (9 ∷ 9 ∷ 9 ∷ 9 ∷ 30 ∷ 0 ∷ replicate 27 7)) (0x0100 ∷ 1 ∷ []) (9 ∷ 9 ∷ 9 ∷ 9 ∷ 30 ∷ 0 ∷ replicate 27 7))
      ∷ (leaves (at plain result4 (9 ∷ 9 ∷ 9 ∷ 9 ∷ 25 ∷ 0 ∷ replicate 27 7)) (0x0100 ∷ 1 ∷ []) (9 ∷ 9 ∷ 9 ∷ 9 ∷ 25 ∷ 0 ∷ replicate 27 7))
      ∷ (leaves (at plain result4 (9 ∷ 9 ∷ 9 ∷ 9 ∷ 26 ∷ [])) (0x0100 ∷ 1 ∷ []) (9 ∷ 9 ∷ 9 ∷ 9 ∷ 26 ∷ []))
      ∷ [])

pub vectors : Vectors
unfolding le le_bytes in_limits is_valid block_of read_packet packet_at returned_size parameter_bytes block_bytes interface_bytes path_bytes sum whole_result result_bytes result_answer held_of is_bad good is_drive bads_of shown_of verify_ok verified packet_tests packet_plan seek sectors parameters extensions result_into steps begin outcome_numbers sectors_given parameters_given check_given packet_tests_given packet_numbers_at extended_given seek_given buffer_given steps_given begin_given is_i2o same padded wide_interface_bytes wide_path_bytes summed_bytes
vectors =
    record {
      registers-sectors = refl;
      registers_answered = refl;
      registers-extensions = refl;
      registers_waiting = refl;
      unknown_functions = refl;
      drive-numbers = refl;
      unknown_drives = refl;
      run_by_program = refl;
      run_by_program_sectors = refl;
      run_by_program_packets = refl;
      order_read = refl;
      order_write = refl;
      order_verify = refl;
      count-zero = refl;
      packet_forms = refl;
      buffers = refl;
      no_wrap = refl;
      verify_flag = refl;
      seeks = refl;
      order_sectors = refl;
      addresses = refl;
      parameters-given = refl;
      results = refl;
    }

-- ---- three drives, and calls in which every register, offset, segment, drive and geometry that enters has a value of its own: nothing
-- that is exchanged, ignored or taken from another drive gives the same numbers

-- 80h: 385 of 5000 blocks from store block 700; information flag bits 1 and 4 to 6, of which bit 1 alone shows
abbrev drive80 : Drive
drive80 = record {
  cylinders = 6;
  heads = 8;
  sectors = 12;
  blocks = 5000;
  first = 700;
  flags = 0x72;
  c = 5;
  h = 7;
  s = 11;
  protection = 0;
  bus = 80 ∷ 67 ∷ 73 ∷ 0 ∷ [];
  interface = 65 ∷ 84 ∷ 65 ∷ 0 ∷ 0 ∷ 0 ∷ 0 ∷ 0 ∷ [];
  path = 0 ∷ 31 ∷ 1 ∷ 0 ∷ 0 ∷ 0 ∷ 0 ∷ 0 ∷ [];
  device = replicate 8 0;
  kind = 1;
  tail = replicate 8 0;
}

-- 81h: 1800 of 3000 blocks from store block 6000; information flag bits 3 to 6
abbrev drive81 : Drive
drive81 = record {
  cylinders = 301;
  heads = 9;
  sectors = 13;
  blocks = 3000;
  first = 6000;
  flags = 0x78;
  c = 300;
  h = 3;
  s = 2;
  protection = 0;
  bus = 73 ∷ 83 ∷ 65 ∷ 0 ∷ [];
  interface = 83 ∷ 67 ∷ 83 ∷ 73 ∷ 0 ∷ 0 ∷ 0 ∷ 0 ∷ [];
  path = 1 ∷ 2 ∷ 3 ∷ 4 ∷ 5 ∷ 6 ∷ 7 ∷ 8 ∷ [];
  device = 9 ∷ 10 ∷ 11 ∷ 12 ∷ 13 ∷ 14 ∷ 15 ∷ 16 ∷ [];
  kind = 1;
  tail = replicate 8 0;
}

-- 82h: 40 of 41 blocks from store block 9001, protected; information flag bits 2 and 4 to 6, which all show
abbrev drive82 : Drive
drive82 = record {
  cylinders = 1031;
  heads = 10;
  sectors = 14;
  blocks = 41;
  first = 9001;
  flags = 0x74;
  c = 2;
  h = 4;
  s = 5;
  protection = 1;
  bus = 80 ∷ 67 ∷ 73 ∷ 0 ∷ [];
  interface = 85 ∷ 83 ∷ 66 ∷ 0 ∷ 0 ∷ 0 ∷ 0 ∷ 0 ∷ [];
  path = 21 ∷ 22 ∷ 23 ∷ 24 ∷ 25 ∷ 26 ∷ 27 ∷ 28 ∷ [];
  device = replicate 8 33;
  kind = 1;
  tail = replicate 8 0;
}

abbrev apart : Table
apart = table (drive80 ∷ drive81 ∷ drive82 ∷ replicate 5 zero_drive) 3

-- AX, BX, CX and DX; DS:SI is place 19, ES:0005h place 37, and carry was given
abbrev own : ℕ → ℕ → ℕ → ℕ → Registers
own ax bx cx dx = record { ax = ax; bx = bx; cx = cx; dx = dx; ds = 1; si = 3; es = 2; carry = true }

-- the registers of `own`, after AX, BX, CX, DX and carry
abbrev kept19 : ℕ → ℕ → ℕ → ℕ → ℕ → List ℕ
kept19 ax bx cx dx carry = ax ∷ bx ∷ cx ∷ dx ∷ 1 ∷ 3 ∷ 2 ∷ carry ∷ []

-- bytes at place 19, behind bytes that are no packet and no size of a result, and 7s behind them
abbrev placed : List ℕ → ℕ → List ℕ
placed p rest = replicate 19 15 ++ (p ++ replicate rest 7)

-- a packet of one block whose buffer, segment 3 and offset 9, is place 57; the window ends with the buffer
abbrev one57 : ℕ → ℕ → List ℕ
one57 count start = placed (packet 16 count 9 3 start) 534

-- an outcome as numbers, by both promises: 0 and the registers; or 256, drive, start, count, buffer, packet and the registers kept
abbrev numbers : Called Checked → List ℕ → Case
numbers c l = record { made = outcome_numbers c.made.outcome ∷ c.numbers ∷ []; given = l ∷ l ∷ [] }

-- the same, and the window after it
abbrev both_ways : Called Checked → List ℕ → List ℕ → Case
both_ways c l w = record { made = outcome_numbers c.made.outcome ∷ c.numbers ∷ c.made.window ∷ []; given = l ∷ l ∷ w ∷ [] }

abbrev asks82 : Job
asks82 = record { registers = own 0x4277 5 0x0242 0x0182; drive = 0x82; start = 4; count = 1; buffer = 57; packet = 19 }

pub record Apart : Type 0 where
  -- drives by their numbers: 80h, 81h and 82h have their first blocks, and every number has a place
  pub drive-places : map (λ (n : ℕ). (drive_at apart n).first) (0x80 ∷ 0x81 ∷ 0x82 ∷ []) ++ map (λ (n : ℕ). (drive_in apart n).first) (0x80 ∷ 0x81 ∷ 0x82 ∷ 0x01 ∷ 0x8A ∷ [])
      ≡ 700 ∷ 6000 ∷ 9001 ∷ 700 ∷ 6000 ∷ 9001 ∷ 6000 ∷ 9001 ∷ []
  -- 02h and 03h: buffer at ES:BX, address from CX and DH, geometry and protection of DL's drive
  --   02h, 81h, 258/1/2 of 300/3/2, two blocks in a window that ends with them: block 1551, buffer 37
  --   the same in a window one byte shorter: 09h
  --   03h, 80h, 4/5/9 of 5/7/11: block 371
  --   02h, 82h, 1/2/4 of 2/4/5: block 33
  --   03h, 82h, which is protected: 03h
  --   02h, 82h, eight blocks from 33, inside its 41 but not its 40: 04h
  pub own-sectors : Hold
      ((numbers (at apart (own 0x0202 5 0x0242 0x0181) (replicate 1061 7)) (256 ∷ 0x81 ∷ 1551 ∷ 2 ∷ 37 ∷ 0 ∷ kept19 0x0202 5 0x0242 0x0181 0))
      ∷ (numbers (at apart (own 0x0202 5 0x0242 0x0181) (replicate 1060 7)) (0 ∷ kept19 0x0900 5 0x0242 0x0181 1))
      ∷ (numbers (at apart (own 0x0301 5 0x0409 0x0580) (replicate 549 7)) (256 ∷ 0x80 ∷ 371 ∷ 1 ∷ 37 ∷ 0 ∷ kept19 0x0301 5 0x0409 0x0580 0))
      ∷ (numbers (at apart (own 0x0202 5 0x0104 0x0282) (replicate 1061 7)) (256 ∷ 0x82 ∷ 33 ∷ 2 ∷ 37 ∷ 0 ∷ kept19 0x0202 5 0x0104 0x0282 0))
      ∷ (numbers (at apart (own 0x0302 5 0x0104 0x0282) (replicate 1061 7)) (0 ∷ kept19 0x0300 5 0x0104 0x0282 1))
      ∷ (numbers (at apart (own 0x0208 5 0x0104 0x0282) (replicate 1061 7)) (0 ∷ kept19 0x0400 5 0x0104 0x0282 1))
      ∷ [])
  -- 42h, 43h: packet at DS:SI, buffer from its words 6 and 4, blocks, flags and protection of DL's drive; what a refusal writes
  --   42h, 81h, start 2999 of 3000: waits with buffer 57 and packet 19
  --   43h, 81h, AL 2: waits
  --   43h, 80h, AL 2, which has no bit 3: 01h, nothing written
  --   42h, 81h, start 3000: 04h, the count word at 21 set to 0
  --   42h, 80h, start 3000 of 5000: waits
  --   43h, 82h, which is protected: 03h, count word 0
  --   42h, 82h, a window one byte shorter than the buffer: 09h, count word 0
  pub own-packets : Hold
      ((both_ways (at apart (own 0x4277 5 0x0242 0x0181) (one57 1 2999)) (256 ∷ 0x81 ∷ 2999 ∷ 1 ∷ 57 ∷ 19 ∷ kept19 0x4277 5 0x0242 0x0181 0) (one57 1 2999))
      ∷ (both_ways (at apart (own 0x4302 5 0x0242 0x0181) (one57 1 2999)) (256 ∷ 0x81 ∷ 2999 ∷ 1 ∷ 57 ∷ 19 ∷ kept19 0x4302 5 0x0242 0x0181 0) (one57 1 2999))
      ∷ (both_ways (at apart (own 0x4302 5 0x0242 0x0180) (one57 1 2999)) (0 ∷ kept19 0x0102 5 0x0242 0x0180 1) (one57 1 2999))
      ∷ (both_ways (at apart (own 0x4277 5 0x0242 0x0181) (one57 1 3000)) (0 ∷ kept19 0x0477 5 0x0242 0x0181 1) (one57 0 3000))
      ∷ (both_ways (at apart (own 0x4277 5 0x0242 0x0180) (one57 1 3000)) (256 ∷ 0x80 ∷ 3000 ∷ 1 ∷ 57 ∷ 19 ∷ kept19 0x4277 5 0x0242 0x0180 0) (one57 1 3000))
      ∷ (both_ways (at apart (own 0x4301 5 0x0242 0x0182) (one57 1 40)) (0 ∷ kept19 0x0301 5 0x0242 0x0182 1) (one57 0 40))
      ∷ (both_ways (at apart (own 0x4277 5 0x0242 0x0182) (placed (packet 16 1 9 3 40) 533)) (0 ∷ kept19 0x0977 5 0x0242 0x0182 1) (placed (packet 16 0 9 3 40) 533))
      ∷ [])
  -- 44h and 47h: the same packet, blocks of DL's drive
  --   44h, 82h, start 40 of 41: success
  --   44h, 82h, start 41: 04h, count word 0
  --   47h, 82h, start 40: success
  --   47h, 82h, start 41: 04h, nothing written
  --   47h, 80h, start 41: success
  pub own_verify_seek : Hold
      ((both_ways (at apart (own 0x4477 5 0x0242 0x0182) (one57 1 40)) (0 ∷ kept19 0x0077 5 0x0242 0x0182 0) (one57 1 40))
      ∷ (both_ways (at apart (own 0x4477 5 0x0242 0x0182) (one57 1 41)) (0 ∷ kept19 0x0477 5 0x0242 0x0182 1) (one57 0 41))
      ∷ (both_ways (at apart (own 0x4777 5 0x0242 0x0182) (one57 1 40)) (0 ∷ kept19 0x0077 5 0x0242 0x0182 0) (one57 1 40))
      ∷ (both_ways (at apart (own 0x4777 5 0x0242 0x0182) (one57 1 41)) (0 ∷ kept19 0x0477 5 0x0242 0x0182 1) (one57 1 41))
      ∷ (both_ways (at apart (own 0x4777 5 0x0242 0x0180) (one57 1 41)) (0 ∷ kept19 0x0077 5 0x0242 0x0180 0) (one57 1 41))
      ∷ [])
  -- 08h: the geometry of DL's drive and the number of drives; 81h has C above 256. Over one drive the number is the one that is given
  pub own-parameters : Hold
      ((numbers (at apart (own 0x0877 5 0x0242 0x0180) []) (0 ∷ kept19 0 5 0x040B 0x0603 0))
      ∷ (numbers (at apart (own 0x0877 5 0x0242 0x0181) []) (0 ∷ kept19 0 5 0x2B42 0x0203 0))
      ∷ (numbers (at apart (own 0x0877 5 0x0242 0x0182) []) (0 ∷ kept19 0 5 0x0105 0x0303 0))
      ∷ (numbers (at apart (own 0x0877 5 0x0242 0x0183) []) (0 ∷ kept19 0x0777 5 0x0242 0x0183 1))
      ∷ (numbers (over true 6 drive81 no_bads (own 0x0877 5 0x0242 0x0180) []) (0 ∷ kept19 0 5 0x2B42 0x0206 0))
      ∷ (numbers (over false 6 drive81 no_bads (own 0x0877 5 0x0242 0x0180) []) (0 ∷ kept19 0x0777 5 0x0242 0x0180 1))
      ∷ [])
  -- 41h: 82h is known and 83h is not; the registers that are not named stay
  pub own-extensions : Hold
      ((numbers (at apart (own 0x4177 0x55AA 0x0242 0x0182) []) (0 ∷ kept19 0x3000 0xAA55 0x0001 0x0182 0))
      ∷ (numbers (at apart (own 0x4177 0x55AA 0x0242 0x0183) []) (0 ∷ kept19 0x0177 0x55AA 0x0242 0x0183 1))
      ∷ [])
  -- 48h: the result of DL's drive, laid at DS:SI
  --   82h: flags 74h, physical geometry 1031/10/14, 41 blocks
  --   80h: flags 2 of 72h, physical geometry 6/8/12, 5000 blocks
  --   82h, the word at DS:SI cut off: 01h
  pub own_results : Hold
      ((both_ways (at apart (own 0x4877 5 0x0242 0x0182) (placed (26 ∷ 0 ∷ []) 26)) (0 ∷ kept19 0x0077 5 0x0242 0x0182 0)
      (placed (26 ∷ 0 ∷ 0x74 ∷ 0 ∷ 7 ∷ 4 ∷ 0 ∷ 0 ∷ 10 ∷ 0 ∷ 0 ∷ 0 ∷ 14 ∷ 0 ∷ 0 ∷ 0 ∷ 41 ∷ 0 ∷ 0 ∷ 0 ∷ 0 ∷ 0 ∷ 0 ∷ 0 ∷ 0 ∷ 2 ∷ []) 2))
      ∷ (both_ways (at apart (own 0x4877 5 0x0242 0x0180) (placed (26 ∷ 0 ∷ []) 26)) (0 ∷ kept19 0x0077 5 0x0242 0x0180 0)
      (placed (26 ∷ 0 ∷ 2 ∷ 0 ∷ 6 ∷ 0 ∷ 0 ∷ 0 ∷ 8 ∷ 0 ∷ 0 ∷ 0 ∷ 12 ∷ 0 ∷ 0 ∷ 0 ∷ 0x88 ∷ 0x13 ∷ 0 ∷ 0 ∷ 0 ∷ 0 ∷ 0 ∷ 0 ∷ 0 ∷ 2 ∷ []) 2))
      ∷ (both_ways (at apart (own 0x4877 5 0x0242 0x0182) (placed (26 ∷ []) 0)) (0 ∷ kept19 0x0177 5 0x0242 0x0182 1) (placed (26 ∷ []) 0))
      ∷ [])
  -- unknown functions, and answers given later: AH, AL and carry change, nothing else
  pub own-answers : Hold
      ((numbers (at apart (own 0x0577 5 0x0242 0x0181) []) (0 ∷ kept19 0x0177 5 0x0242 0x0181 1))
      ∷ (numbers (at apart (own 0x4977 5 0x0242 0x0181) []) (0 ∷ kept19 0x0177 5 0x0242 0x0181 1))
      ∷ (holds (succeed (posted (own 0x0205 5 0x0242 0x0181))) (kept19 0x0005 5 0x0242 0x0181 0))
      ∷ (holds (succeed (posted (own 0x4301 5 0x0242 0x0181))) (kept19 0x0001 5 0x0242 0x0181 0))
      ∷ (holds (withdraw 48 (posted (own 0x0350 5 0x0242 0x0181))) (kept19 0x8030 5 0x0242 0x0181 1))
      ∷ (holds (withdraw 48 (posted (own 0x4277 5 0x0242 0x0181))) (kept19 0x8077 5 0x0242 0x0181 1))
      ∷ [])
  -- a request's own words: n, buffer and the store block named first, of 02h on 81h and of 42h on 82h; the store block of a job on 82h
  pub own_words :
      asked (own 0x0202 5 0x0242 0x0181) [] ∷ asked_buffer (own 0x0202 5 0x0242 0x0181) [] ∷ named_from apart (own 0x0202 5 0x0242 0x0181) []
      ∷ asked (own 0x4277 5 0x0242 0x0182) (one57 1 40) ∷ asked_buffer (own 0x4277 5 0x0242 0x0182) (one57 1 40) ∷ named_from apart (own 0x4277 5 0x0242 0x0182) (one57 1 40)
      ∷ store_block apart asks82 ∷ []
      ≡ 2 ∷ 37 ∷ 7551 ∷ 1 ∷ 57 ∷ 9041 ∷ 9005 ∷ []

pub apart_vectors : Apart
unfolding le le_bytes in_limits is_valid block_of read_packet packet_at returned_size parameter_bytes block_bytes interface_bytes path_bytes sum whole_result result_bytes result_answer held_of is_bad good is_drive bads_of shown_of verify_ok verified packet_tests packet_plan seek sectors parameters extensions result_into steps begin outcome_numbers sectors_given parameters_given check_given packet_tests_given packet_numbers_at extended_given seek_given buffer_given steps_given begin_given is_i2o same padded wide_interface_bytes wide_path_bytes summed_bytes
apart_vectors =
    record {
      drive-places = refl;
      own-sectors = refl;
      own-packets = refl;
      own_verify_seek = refl;
      own-parameters = refl;
      own-extensions = refl;
      own_results = refl;
      own-answers = refl;
      own_words = refl;
    }

-- ---- three drives of which 80h and 82h have parameters

-- every byte another value; in byte 4 bits 6 and 4 of the one, and bit 7 alone of the upper three of the other
abbrev given80 : List ℕ
given80 = 0xD1 ∷ 0xD2 ∷ 0xD3 ∷ 0xD4 ∷ 0x53 ∷ 0xD6 ∷ 0xD7 ∷ 0xD8 ∷ 0xD9 ∷ 0xDA ∷ 0xDB ∷ 0xDC ∷ 0xDD ∷ 0xDE ∷ []

abbrev given82 : List ℕ
given82 = 0x31 ∷ 0x32 ∷ 0x33 ∷ 0x34 ∷ 0x8A ∷ 0x36 ∷ 0x37 ∷ 0x38 ∷ 0x39 ∷ 0x3A ∷ 0x3B ∷ 0x3C ∷ 0x3D ∷ 0x3E ∷ []

abbrev tabled : Table
tabled = record {
  drives = apart.drives;
  count = 3;
  present = true ∷ false ∷ true ∷ replicate 5 false;
  parameters = given80 ++ (replicate 14 0 ++ (given82 ++ replicate 70 0));
  counts = apart.counts;
  bad = apart.bad;
}

-- placed from 7B40h on; 80h's table has the segment 07B4h and 82h's, right behind it, 07B5h
abbrev here : Placement
here = placed_at 0x7B40

-- a size of a result at place 19, with room for n bytes
abbrev sized : ℕ → List ℕ
sized n = placed (n ∷ 0 ∷ []) (n - 2)

-- bytes 0 to 25 of the results of 80h, 81h and 82h, of n bytes
abbrev front80 : ℕ → List ℕ
front80 n = n ∷ 0 ∷ 2 ∷ 0 ∷ 6 ∷ 0 ∷ 0 ∷ 0 ∷ 8 ∷ 0 ∷ 0 ∷ 0 ∷ 12 ∷ 0 ∷ 0 ∷ 0 ∷ 0x88 ∷ 0x13 ∷ 0 ∷ 0 ∷ 0 ∷ 0 ∷ 0 ∷ 0 ∷ 0 ∷ 2 ∷ []

abbrev front81 : ℕ → List ℕ
front81 n = n ∷ 0 ∷ 8 ∷ 0 ∷ 0x2D ∷ 1 ∷ 0 ∷ 0 ∷ 9 ∷ 0 ∷ 0 ∷ 0 ∷ 13 ∷ 0 ∷ 0 ∷ 0 ∷ 0xB8 ∷ 0x0B ∷ 0 ∷ 0 ∷ 0 ∷ 0 ∷ 0 ∷ 0 ∷ 0 ∷ 2 ∷ []

abbrev front82 : ℕ → List ℕ
front82 n = n ∷ 0 ∷ 0x74 ∷ 0 ∷ 7 ∷ 4 ∷ 0 ∷ 0 ∷ 10 ∷ 0 ∷ 0 ∷ 0 ∷ 14 ∷ 0 ∷ 0 ∷ 0 ∷ 41 ∷ 0 ∷ 0 ∷ 0 ∷ 0 ∷ 0 ∷ 0 ∷ 0 ∷ 0 ∷ 2 ∷ []

-- bytes 30 to 65 of 80h's
abbrev paths80 : List ℕ
paths80 = 0xDD ∷ 0xBE ∷ 0x24 ∷ 0 ∷ 0 ∷ 0 ∷ 80 ∷ 67 ∷ 73 ∷ 0 ∷ 65 ∷ 84 ∷ 65 ∷ 0 ∷ 0 ∷ 0 ∷ 0 ∷ 0 ∷ 0 ∷ 31 ∷ 1 ∷ 0 ∷ 0 ∷ 0 ∷ 0 ∷ 0 ∷ (replicate 9 0 ++ (0x6F ∷ []))

-- what a guest is shown, as numbers
abbrev shown : Table → Placement → ℕ → List ℕ
shown b p n = bit (is_some (shown_of b p n)) ∷ unwrap_or (shown_of b p n) 0 ∷ []

-- 48h of a drive for a result of n bytes, which must be l
abbrev result19 : Placement → ℕ → ℕ → List ℕ → Case
result19 p dx n l = both_ways (by p tabled (own 0x4877 5 0x0242 dx) (sized n)) (0 ∷ kept19 0x0077 5 0x0242 dx 0) (placed l 0)

-- 41h of a drive, with the CX that must come
abbrev support : Placement → ℕ → ℕ → Case
support p dx cx = numbers (by p tabled (own 0x4177 0x55AA 0x0242 dx) []) (0 ∷ kept19 0x3000 0xAA55 cx dx 0)

pub record Tabled : Type 0 where
  -- the tables one after another in drive order, each with its flags, 11h and its checksum; of drives without records there is none
  --   80h: 53h becomes F3h; the fifteen bytes sum to 3064
  --   82h: 8Ah becomes AAh; the fifteen bytes sum to 911
  pub tables : tables_of tabled
      ≡ 0xD1 ∷ 0xD2 ∷ 0xD3 ∷ 0xD4 ∷ 0xF3 ∷ 0xD6 ∷ 0xD7 ∷ 0xD8 ∷ 0xD9 ∷ 0xDA ∷ 0xDB ∷ 0xDC ∷ 0xDD ∷ 0xDE ∷ 0x11 ∷ 0x08
      ∷ 0x31 ∷ 0x32 ∷ 0x33 ∷ 0x34 ∷ 0xAA ∷ 0x36 ∷ 0x37 ∷ 0x38 ∷ 0x39 ∷ 0x3A ∷ 0x3B ∷ 0x3C ∷ 0x3D ∷ 0x3E ∷ 0x11 ∷ 0x71 ∷ []
  pub no_tables : tables_of apart ≡ []
  -- how many there are, in all and before each slot, and where the two stand
  pub counts : table_count tabled ∷ table_count apart ∷ map (λ (n : ℕ). parameters_to n tabled) (0 ∷ 1 ∷ 2 ∷ 3 ∷ []) ≡ 2 ∷ 0 ∷ 0 ∷ 1 ∷ 1 ∷ 2 ∷ []
  pub table-addresses : map (table_address tabled 0x7B40) (0 ∷ 2 ∷ []) ≡ 0x7B40 ∷ 0x7B50 ∷ []
  -- of the drives 80h, 81h, 82h, and of numbers that are no drive's
  pub shown_here : map (shown tabled here) (0x80 ∷ 0x81 ∷ 0x82 ∷ 0x83 ∷ 0x00 ∷ []) ≡ (1 ∷ 0x7B4 ∷ []) ∷ (0 ∷ 0 ∷ []) ∷ (1 ∷ 0x7B5 ∷ []) ∷ (0 ∷ 0 ∷ []) ∷ (0 ∷ 0 ∷ []) ∷ []
  -- 80h, 82h: without placement; placed at 0; in a place whose segments have more than sixteen bits; and 80h of a table without records
  pub shown_elsewhere : map (shown tabled no_placement) (0x80 ∷ 0x82 ∷ []) ++ (map (shown tabled (placed_at 0)) (0x80 ∷ 0x82 ∷ [])
      ++ (map (shown tabled (placed_at 0x1234560)) (0x80 ∷ 0x82 ∷ []) ++ (shown apart here 0x80 ∷ [])))
      ≡ (0 ∷ 0 ∷ []) ∷ (0 ∷ 0 ∷ []) ∷ (1 ∷ 0 ∷ []) ∷ (1 ∷ 1 ∷ []) ∷ (1 ∷ 0x3456 ∷ []) ∷ (1 ∷ 0x3457 ∷ []) ∷ (0 ∷ 0 ∷ []) ∷ []
  -- 41h
  --   80h and 82h, placed: CX 0005h
  --   81h, placed: CX 0001h
  --   80h, placed at 0: CX 0005h
  --   80h, without placement: CX 0001h
  --   83h, placed: 01h
  --   00h, placed, whose number less 80h is none: 01h
  pub support-given : Hold
      ((support here 0x0180 0x0005)
      ∷ (support here 0x0182 0x0005)
      ∷ (support here 0x0181 0x0001)
      ∷ (support (placed_at 0) 0x0180 0x0005)
      ∷ (support no_placement 0x0180 0x0001)
      ∷ (numbers (by here tabled (own 0x4177 0x55AA 0x0242 0x0183) []) (0 ∷ kept19 0x0177 0x55AA 0x0242 0x0183 1))
      ∷ (numbers (by here tabled (own 0x4177 0x55AA 0x0242 0x0100) []) (0 ∷ kept19 0x0177 0x55AA 0x0242 0x0100 1))
      ∷ [])
  -- 48h, bytes 26 to 29
  --   80h, 26 bytes: none
  --   80h, 30 and 66 bytes: 0000h, 07B4h
  --   81h: FFFFh, FFFFh
  --   82h: 0000h, 07B5h
  --   placed at 0: 80h 0000h, 0000h; 82h 0000h, 0001h
  --   without placement: FFFFh, FFFFh
  pub pointers : Hold
      ((result19 here 0x0180 26 (front80 26))
      ∷ (result19 here 0x0180 30 (front80 30 ++ (0 ∷ 0 ∷ 0xB4 ∷ 0x07 ∷ [])))
      ∷ (result19 here 0x0180 66 (front80 66 ++ (0 ∷ 0 ∷ 0xB4 ∷ 0x07 ∷ paths80)))
      ∷ (result19 here 0x0181 30 (front81 30 ++ (0xFF ∷ 0xFF ∷ 0xFF ∷ 0xFF ∷ [])))
      ∷ (result19 here 0x0182 30 (front82 30 ++ (0 ∷ 0 ∷ 0xB5 ∷ 0x07 ∷ [])))
      ∷ (result19 (placed_at 0) 0x0180 30 (front80 30 ++ (0 ∷ 0 ∷ 0 ∷ 0 ∷ [])))
      ∷ (result19 (placed_at 0) 0x0182 30 (front82 30 ++ (0 ∷ 0 ∷ 1 ∷ 0 ∷ [])))
      ∷ (result19 no_placement 0x0180 30 (front80 30 ++ (0xFF ∷ 0xFF ∷ 0xFF ∷ 0xFF ∷ [])))
      ∷ (result19 no_placement 0x0182 30 (front82 30 ++ (0xFF ∷ 0xFF ∷ 0xFF ∷ 0xFF ∷ [])))
      ∷ [])

pub tabled_vectors : Tabled
unfolding le le_bytes placed_bytes parameter_table parameters_to tables_to returned_size parameter_bytes block_bytes interface_bytes path_bytes sum whole_result result_bytes result_answer is_drive shown_of extensions result_into steps begin outcome_numbers check_given buffer_given steps_given begin_given is_i2o same padded wide_interface_bytes wide_path_bytes summed_bytes
tabled_vectors =
    record {
      tables = refl;
      no_tables = refl;
      counts = refl;
      table-addresses = refl;
      shown_here = refl;
      shown_elsewhere = refl;
      support-given = refl;
      pointers = refl;
    }

-- ---- three drives, of which 80h is of kind 1, and 81h and 82h are of kind 2 (document 02, 2026-06)

-- 81h, but of kind 2: its device path goes on with 201 to 208
abbrev wide81 : Drive
wide81 = record {
  cylinders = 301;
  heads = 9;
  sectors = 13;
  blocks = 3000;
  first = 6000;
  flags = 0x78;
  c = 300;
  h = 3;
  s = 2;
  protection = 0;
  bus = 73 ∷ 83 ∷ 65 ∷ 0 ∷ [];
  interface = 83 ∷ 67 ∷ 83 ∷ 73 ∷ 0 ∷ 0 ∷ 0 ∷ 0 ∷ [];
  path = 1 ∷ 2 ∷ 3 ∷ 4 ∷ 5 ∷ 6 ∷ 7 ∷ 8 ∷ [];
  device = 9 ∷ 10 ∷ 11 ∷ 12 ∷ 13 ∷ 14 ∷ 15 ∷ 16 ∷ [];
  kind = 2;
  tail = 201 ∷ 202 ∷ 203 ∷ 204 ∷ 205 ∷ 206 ∷ 207 ∷ 208 ∷ [];
}

-- 82h, but of kind 2 and of type I2O: its device path is 41 to 48 and 51 to 58
abbrev wide82 : Drive
wide82 = record {
  cylinders = 1031;
  heads = 10;
  sectors = 14;
  blocks = 41;
  first = 9001;
  flags = 0x74;
  c = 2;
  h = 4;
  s = 5;
  protection = 1;
  bus = 80 ∷ 67 ∷ 73 ∷ 0 ∷ [];
  interface = 73 ∷ 50 ∷ 79 ∷ 0 ∷ 0 ∷ 0 ∷ 0 ∷ 0 ∷ [];
  path = 21 ∷ 22 ∷ 23 ∷ 24 ∷ 25 ∷ 26 ∷ 27 ∷ 28 ∷ [];
  device = 41 ∷ 42 ∷ 43 ∷ 44 ∷ 45 ∷ 46 ∷ 47 ∷ 48 ∷ [];
  kind = 2;
  tail = 51 ∷ 52 ∷ 53 ∷ 54 ∷ 55 ∷ 56 ∷ 57 ∷ 58 ∷ [];
}

-- 80h and 82h have parameters
abbrev wide : Table
wide = record {
  drives = drive80 ∷ wide81 ∷ wide82 ∷ replicate 5 zero_drive;
  count = 3;
  present = tabled.present;
  parameters = tabled.parameters;
  counts = apart.counts;
  bad = apart.bad;
}

-- 48h of a drive, placed, for a result of n bytes with room for m, which must be l and the bytes behind it as they were
abbrev wide19 : ℕ → ℕ → ℕ → List ℕ → Case
wide19 dx n m l = both_ways (by here wide (own 0x4877 5 0x0242 dx) (placed (le_bytes 2 n) (m - 2))) (0 ∷ kept19 0x0077 5 0x0242 dx 0) (placed l (m - length l))

-- the same, refused: nothing is written
abbrev narrow19 : ℕ → ℕ → ℕ → Case
narrow19 dx n m = both_ways (by here wide (own 0x4877 5 0x0242 dx) (placed (le_bytes 2 n) (m - 2))) (0 ∷ kept19 0x0177 5 0x0242 dx 1) (placed (le_bytes 2 n) (m - 2))

-- 81h's 66 bytes: names padded with NUL, eight bytes of device path
abbrev result81 : List ℕ
result81 = front81 66 ++ (0xFF ∷ 0xFF ∷ 0xFF ∷ 0xFF ∷ 0xDD ∷ 0xBE ∷ 36 ∷ 0 ∷ 0 ∷ 0 ∷ 73 ∷ 83 ∷ 65 ∷ 0 ∷ 83 ∷ 67 ∷ 83 ∷ 73 ∷ 0 ∷ 0 ∷ 0 ∷ 0 ∷ 1 ∷ 2 ∷ 3 ∷ 4 ∷ 5 ∷ 6 ∷ 7 ∷ 8 ∷ 9 ∷ 10 ∷ 11 ∷ 12 ∷ 13 ∷ 14 ∷ 15 ∷ 16 ∷ 0 ∷ 0xAA ∷ [])

-- and its 74
abbrev wide_result81 : List ℕ
wide_result81 = front81 74 ++ (0xFF ∷ 0xFF ∷ 0xFF ∷ 0xFF ∷ 0xDD ∷ 0xBE ∷ 44 ∷ 0 ∷ 0 ∷ 0 ∷ 73 ∷ 83 ∷ 65 ∷ 32 ∷ 83 ∷ 67 ∷ 83 ∷ 73 ∷ 32 ∷ 32 ∷ 32 ∷ 32 ∷ 1 ∷ 2 ∷ 3 ∷ 4 ∷ 5 ∷ 6 ∷ 7 ∷ 8 ∷ 9 ∷ 10 ∷ 11 ∷ 12 ∷ 13 ∷ 14 ∷ 15 ∷ 16 ∷ 0xC9 ∷ 0xCA ∷ 0xCB ∷ 0xCC ∷ 0xCD ∷ 0xCE ∷ 0xCF ∷ 0xD0 ∷ 0 ∷ 0x9E ∷ [])

-- 82h's 30: the pointer is that of its table
abbrev result82 : List ℕ
result82 = front82 30 ++ (0 ∷ 0 ∷ 0xB5 ∷ 0x07 ∷ [])

pub record Wide : Type 0 where
  -- 48h
  --   81h, 66 and 73 bytes: 66
  --   81h, 74 bytes: names padded with 20h, sixteen bytes of device path
  --   80h, of kind 1, 74 bytes: the device path goes on with zeros
  --   81h, 300 bytes: 74
  --   81h, 74 bytes with room for 73: 01h
  pub results : Hold
      ((wide19 0x0181 66 66 result81)
      ∷ (wide19 0x0181 73 73 result81)
      ∷ (wide19 0x0181 74 74 wide_result81)
      ∷ (wide19 0x0180 74 74 (front80 74 ++ (0 ∷ 0 ∷ 0xB4 ∷ 0x07 ∷ 0xDD ∷ 0xBE ∷ 44 ∷ 0 ∷ 0 ∷ 0 ∷ 80 ∷ 67 ∷ 73 ∷ 32 ∷ 65 ∷ 84 ∷ 65 ∷ 32 ∷ 32 ∷ 32 ∷ 32 ∷ 32 ∷ 0 ∷ 31 ∷ 1 ∷ 0 ∷ 0 ∷ 0 ∷ 0 ∷ 0 ∷ 0 ∷ 0 ∷ 0 ∷ 0 ∷ 0 ∷ 0 ∷ 0 ∷ 0 ∷ 0 ∷ 0 ∷ 0 ∷ 0 ∷ 0 ∷ 0 ∷ 0 ∷ 0 ∷ 0 ∷ 0xA7 ∷ [])))
      ∷ (wide19 0x0181 300 300 wide_result81)
      ∷ (narrow19 0x0181 74 73)
      ∷ [])
  -- 48h of a drive of type I2O
  --   66 and 73 bytes: 30, and the bytes behind them stay
  --   66 bytes with room for 30: 30
  --   66 bytes with room for 29: 01h
  --   74 bytes: 74
  --   74 bytes with room for 73: 01h
  pub results_I2O : Hold
      ((wide19 0x0182 66 66 result82)
      ∷ (wide19 0x0182 73 73 result82)
      ∷ (wide19 0x0182 66 30 result82)
      ∷ (narrow19 0x0182 66 29)
      ∷ (wide19 0x0182 74 74 (front82 74 ++ (0 ∷ 0 ∷ 0xB5 ∷ 0x07 ∷ 0xDD ∷ 0xBE ∷ 44 ∷ 0 ∷ 0 ∷ 0 ∷ 80 ∷ 67 ∷ 73 ∷ 32 ∷ 73 ∷ 50 ∷ 79 ∷ 32 ∷ 32 ∷ 32 ∷ 32 ∷ 32 ∷ 21 ∷ 22 ∷ 23 ∷ 24 ∷ 25 ∷ 26 ∷ 27 ∷ 28 ∷ 41 ∷ 42 ∷ 43 ∷ 44 ∷ 45 ∷ 46 ∷ 47 ∷ 48 ∷ 51 ∷ 52 ∷ 53 ∷ 54 ∷ 55 ∷ 56 ∷ 57 ∷ 58 ∷ 0 ∷ 0xF7 ∷ [])))
      ∷ (narrow19 0x0182 74 73)
      ∷ [])

pub wide_vectors : Wide
unfolding le le_bytes placed_bytes parameter_table parameters_to tables_to returned_size parameter_bytes block_bytes interface_bytes path_bytes sum whole_result result_bytes result_answer is_drive shown_of extensions result_into steps begin outcome_numbers check_given buffer_given steps_given begin_given is_i2o same padded wide_interface_bytes wide_path_bytes summed_bytes
wide_vectors = record { results = refl; results_I2O = refl }

-- ---- the three drives with bad blocks, each with its own (document 02, 2026-04)

-- numbers of eight bytes
abbrev bytes8 : List ℕ → List ℕ
bytes8 [] = []
bytes8 (x ∷ l) = le_bytes 8 x ++ bytes8 l

-- the bytes of a list of sixteen, and zeros behind its numbers
abbrev listed : List ℕ → List ℕ
listed l = bytes8 l ++ replicate (128 - 8 * length l) 0

-- 80h has 6 and 261, whose low byte is 81h's first; 81h has 5, 7 and its last block, 2999; 82h has 4
abbrev worn : Table
worn = record {
  drives = apart.drives;
  count = 3;
  present = apart.present;
  parameters = apart.parameters;
  counts = 2 ∷ 3 ∷ 1 ∷ replicate 5 0;
  bad = listed (6 ∷ 261 ∷ []) ++ (listed (5 ∷ 7 ∷ 2999 ∷ []) ++ (listed (4 ∷ []) ++ replicate 640 0));
}

-- how many bad blocks a number's drive has, and the first three places of its list
abbrev bads : ℕ → List ℕ
bads n = (bads_of worn n).count ∷ map (bad_at (bads_of worn n)) (0 ∷ 1 ∷ 2 ∷ [])

-- 44h of a drive by start and count, with the AX, the carry and the count word that must come
abbrev verifies : ℕ → ℕ → ℕ → ℕ → ℕ → ℕ → Case
verifies dx start count ax carry n = both_ways (at worn (own 0x4477 5 0x0242 dx) (one57 count start)) (0 ∷ kept19 ax 5 0x0242 dx carry) (one57 n start)

-- a request of eleven blocks from block 1 of a drive
abbrev asks_eleven : ℕ → Job
asks_eleven n = record { registers = own 0x4277 5 0x0242 n; drive = n; start = 1; count = 11; buffer = 57; packet = 19 }

-- a request of 81h that ends after some of n blocks, with the AX and the carry that must come
abbrev ends : ℕ → ℕ → ℕ → ℕ → ℕ → Case
ends ax n k after carry = holds (ended n k (posted (own ax 5 0x0242 0x0181))) (kept19 after 5 0x0242 0x0181 carry)

pub record Worn : Type 0 where
  -- of the drives 80h, 81h, 82h, and of numbers that are no drive's
  pub lists : map bads (0x80 ∷ 0x81 ∷ 0x82 ∷ 0x83 ∷ 0x00 ∷ []) ≡ (2 ∷ 6 ∷ 261 ∷ 0 ∷ []) ∷ (3 ∷ 5 ∷ 7 ∷ 2999 ∷ []) ∷ (1 ∷ 4 ∷ 0 ∷ 0 ∷ []) ∷ replicate 2 (0 ∷ 0 ∷ 0 ∷ 0 ∷ [])
  -- whether a block is bad, straight from the table's bytes: 5, 6, 261 and 0 of 80h, 5, 6, 7, 2999, 183 (B7h, the low byte of 2999) and 0 of 81h, 4, 5
  -- and 0 of 82h
  pub worn_blocks : map (worn_block worn (own 0x4277 5 0x0242 0x0180)) (5 ∷ 6 ∷ 261 ∷ 0 ∷ [])
      ++ (map (worn_block worn (own 0x4277 5 0x0242 0x0181)) (5 ∷ 6 ∷ 7 ∷ 2999 ∷ 183 ∷ 0 ∷ []) ++ map (worn_block worn (own 0x4277 5 0x0242 0x0182)) (4 ∷ 5 ∷ 0 ∷ []))
      ≡ false ∷ true ∷ true ∷ false ∷ true ∷ false ∷ true ∷ true ∷ false ∷ false ∷ true ∷ false ∷ false ∷ []
  -- 44h, by DL, start and count: 10h gives the good blocks before the first bad one in the count word, and AL stays; success leaves the packet
  --   81h, 3 and 4: 10h, count word 2
  --   81h, 5 and 1: 10h, count word 0
  --   81h, 6 and 1, between two bad blocks: success
  --   81h, 6 and 2: 10h, count word 1
  --   81h, 8 and 127, behind them: success
  --   81h, 0 and 5, before them: success
  --   81h, 5 and 0: success
  --   81h, 2998 and 2: 10h, count word 1
  --   81h, 2998 and 3, a bad block and past the drive: 04h, count word 0
  --   81h, 2873 and 127: 10h, count word 126
  --   81h, 3 and 128: 01h, count word 0
  --   80h, 3 and 4: 10h, count word 3
  --   80h, 5 and 1: success
  --   80h, 260 and 3: 10h, count word 1
  --   82h, protected, 0 and 41: 10h, count word 4
  --   82h, protected, 5 and 36: success
  --   83h, 3 and 4: 01h, nothing written
  pub worn_verify : Hold
      ((verifies 0x0181 3 4 0x1077 1 2)
      ∷ (verifies 0x0181 5 1 0x1077 1 0)
      ∷ (verifies 0x0181 6 1 0x0077 0 1)
      ∷ (verifies 0x0181 6 2 0x1077 1 1)
      ∷ (verifies 0x0181 8 127 0x0077 0 127)
      ∷ (verifies 0x0181 0 5 0x0077 0 5)
      ∷ (verifies 0x0181 5 0 0x0077 0 0)
      ∷ (verifies 0x0181 2998 2 0x1077 1 1)
      ∷ (verifies 0x0181 2998 3 0x0477 1 0)
      ∷ (verifies 0x0181 2873 127 0x1077 1 126)
      ∷ (verifies 0x0181 3 128 0x0177 1 0)
      ∷ (verifies 0x0180 3 4 0x1077 1 3)
      ∷ (verifies 0x0180 5 1 0x0077 0 1)
      ∷ (verifies 0x0180 260 3 0x1077 1 1)
      ∷ (verifies 0x0182 0 41 0x1077 1 4)
      ∷ (verifies 0x0182 5 36 0x0077 0 36)
      ∷ (verifies 0x0183 3 4 0x0177 1 4)
      ∷ [])
  -- 44h over one drive: the bad blocks are those that are given, here 82h's; where the drive is not known they are not looked at
  pub worn_over : Hold
      ((both_ways (over true 3 drive81 (bads_of worn 0x82) (own 0x4477 5 0x0242 0x0181) (one57 4 3)) (0 ∷ kept19 0x1077 5 0x0242 0x0181 1) (one57 1 3))
      ∷ (both_ways (over false 3 drive81 (bads_of worn 0x82) (own 0x4477 5 0x0242 0x0181) (one57 4 3)) (0 ∷ kept19 0x0177 5 0x0242 0x0181 1) (one57 4 3))
      ∷ [])
  -- the others do not look at bad blocks when they are called: block 5 of 81h, and the window is not written
  --   42h: waits
  --   43h: waits
  --   02h, 0/2/2 of 300/3/2: waits
  --   03h, the same: waits
  --   47h: success
  pub worn_calls : Hold
      ((both_ways (at worn (own 0x4277 5 0x0242 0x0181) (one57 1 5)) (256 ∷ 0x81 ∷ 5 ∷ 1 ∷ 57 ∷ 19 ∷ kept19 0x4277 5 0x0242 0x0181 0) (one57 1 5))
      ∷ (both_ways (at worn (own 0x4302 5 0x0242 0x0181) (one57 1 5)) (256 ∷ 0x81 ∷ 5 ∷ 1 ∷ 57 ∷ 19 ∷ kept19 0x4302 5 0x0242 0x0181 0) (one57 1 5))
      ∷ (both_ways (at worn (own 0x0201 5 0x0002 0x0281) (one57 1 5)) (256 ∷ 0x81 ∷ 5 ∷ 1 ∷ 37 ∷ 0 ∷ kept19 0x0201 5 0x0002 0x0281 0) (one57 1 5))
      ∷ (both_ways (at worn (own 0x0301 5 0x0002 0x0281) (one57 1 5)) (256 ∷ 0x81 ∷ 5 ∷ 1 ∷ 37 ∷ 0 ∷ kept19 0x0301 5 0x0002 0x0281 0) (one57 1 5))
      ∷ (both_ways (at worn (own 0x4777 5 0x0242 0x0181) (one57 1 5)) (0 ∷ kept19 0x0077 5 0x0242 0x0181 0) (one57 1 5))
      ∷ [])
  -- of nine blocks of a request those before the first bad one of its own drive: from its block 2 on of 80h, 81h and 82h, from 0 and 7 on of 81h
  pub worn_good : map (λ (n : ℕ). good_of worn (asks_eleven n) 2 9) (0x80 ∷ 0x81 ∷ 0x82 ∷ []) ++ map (λ (i : ℕ). good_of worn (asks_eleven 0x81) i 9) (0 ∷ 7 ∷ [])
      ≡ 3 ∷ 2 ∷ 1 ∷ 4 ∷ 9 ∷ []
  -- a request's end: 10h for a read, CCh for a write; AL gives the blocks for 02h and 03h, and stays for the others
  --   02h of 4, after 2: AX 1002h
  --   03h of 4, after 2: AX CC02h
  --   42h of 4, after 2: AX 1077h
  --   43h of 4, after 2: AX CC01h
  --   02h of 4, after none: AX 1000h
  --   03h of 128, after 127: AX CC7Fh
  --   each of 4, after all: AX 0004h, 0004h, 0077h and 0001h
  pub worn_ends : Hold
      ((ends 0x0204 4 2 0x1002 1)
      ∷ (ends 0x0304 4 2 0xCC02 1)
      ∷ (ends 0x4277 4 2 0x1077 1)
      ∷ (ends 0x4301 4 2 0xCC01 1)
      ∷ (ends 0x0204 4 0 0x1000 1)
      ∷ (ends 0x0380 128 127 0xCC7F 1)
      ∷ (ends 0x0204 4 4 0x0004 0)
      ∷ (ends 0x0304 4 4 0x0004 0)
      ∷ (ends 0x4277 4 4 0x0077 0)
      ∷ (ends 0x4301 4 4 0x0001 0)
      ∷ [])

pub worn_vectors : Worn
unfolding ended le le_bytes in_limits is_valid block_of read_packet packet_at held_of is_bad good is_drive bads_of shown_of verify_ok verified packet_tests packet_plan seek sectors parameters extensions result_into steps begin outcome_numbers sectors_given parameters_given check_given packet_tests_given packet_numbers_at extended_given seek_given buffer_given steps_given begin_given
worn_vectors =
    record {
      lists = refl;
      worn_blocks = refl;
      worn_verify = refl;
      worn_over = refl;
      worn_calls = refl;
      worn_good = refl;
      worn_ends = refl;
    }

-- functions that there are not, on a drive and with an address and a packet that would do: 04h, 07h, 15h, 40h, 45h, 46h and 49h
pub no_functions : map (λ (ax : ℕ). outcome_numbers (begin (fed apart no_placement) (own ax 5 0x0242 0x0181) (one57 1 2999)).outcome) (0x0401 ∷ 0x0701 ∷ 0x1501 ∷ 0x4001 ∷ 0x4501 ∷ 0x4601 ∷ 0x4901 ∷ [])
    ≡ replicate 7 (0 ∷ kept19 0x0101 5 0x0242 0x0181 1)
unfolding le le_bytes in_limits is_valid block_of read_packet packet_at held_of is_bad good is_drive bads_of shown_of verify_ok verified packet_tests packet_plan seek sectors parameters extensions result_into steps begin outcome_numbers
no_functions = refl

-- each of eight drives at its place, and a number below 80h
pub places_of_eight : map (λ (n : ℕ). (drive_in eight n).first) (0x80 ∷ 0x84 ∷ 0x87 ∷ 0x0F ∷ []) ≡ 0 ∷ 8192 ∷ 14336 ∷ 14336 ∷ []
places_of_eight = refl

-- ---- the blocks that move, in any window and store: the buffer is 7 and block 0 of the job is store block 5

abbrev moved : ℕ → ℕ → ℕ → Memory → Memory
moved ax = moves (record { registers = own ax 5 0x0242 0x0181; drive = 0x81; start = 3; count = 4; buffer = 7; packet = 19 }) 5

-- three blocks from block 2 on: 02h and 42h from the store, 03h and 43h to it
pub blocks-moved : (m : Memory) → moved 0x0202 2 3 m ∷ moved 0x4277 2 3 m ∷ moved 0x0302 2 3 m ∷ moved 0x4302 2 3 m ∷ []
    ≡ record { window = blocks m.window 1031 m.store 3584 3; store = m.store }
    ∷ record { window = blocks m.window 1031 m.store 3584 3; store = m.store }
    ∷ record { window = m.window; store = blocks m.store 3584 m.window 1031 3 }
    ∷ record { window = m.window; store = blocks m.store 3584 m.window 1031 3 }
    ∷ []
unfolding moves
blocks-moved m = refl

-- ---- served alone, on a drive of 3 blocks from store block 1, with C, H and S 1, 1 and 3

abbrev small : List ℕ
small = sets bytes 16 (le_bytes 8 3 ++ le_bytes 8 1 ++ le_bytes 2 2 ++ le_bytes 2 1 ++ le_bytes 2 1 ++ (3 ∷ []))

-- the same with a record of parameters behind the drive's: length 20, kind 4, drive 0
abbrev small_tabled : List ℕ
small_tabled = take 68 small ++ (20 ∷ 0 ∷ 4 ∷ 0 ∷ 0 ∷ 0 ∷ (given80 ++ drop 68 small))

-- by AX; CX is 0/0/2, the buffer at ES:BX place 37, the packet at DS:SI place 19
abbrev served : ℕ → List ℕ → List ℕ → Served
served ax window store = alone (fed small no_placement) (own ax 5 2 0x80) (record { window = window; store = store })

abbrev leaving : ℕ → Bool → List ℕ → List ℕ → Served
leaving ax carry window store = record {
  registers = record { ax = ax; bx = 5; cx = 2; dx = 0x80; ds = 1; si = 3; es = 2; carry = carry };
  memory = record { window = window; store = store };
}

-- 02h and 03h of two sectors, blocks 2 and 3 of a store of four; 44h with count 128, which is answered at once and writes the window; 02h with
-- a store of one byte less than four blocks, for which the table is refused
module _ (window store : List ℕ) (lw : length window ≡ 1061) where
  pub served-alone : length store ≡ 2048
      → served 0x0202 window store ∷ served 0x0302 window store ∷ served 0x4477 (placed (packet 16 128 9 3 1) 0) store ∷ []
      ≡ leaving 0x0002 false (blocks window 37 store 1024 2) store
      ∷ leaving 0x0002 false window (blocks store 1024 window 37 2)
      ∷ leaving 0x0177 true (placed (packet 16 0 9 3 1) 0) store
      ∷ []
  unfolding alone moves reported ended le le_bytes in_limits is_valid block_of drive_read same bus_ok interface_ok geometry_fits fields_ok in_store overlap header_of header_at overlaps_any refusal record_refusal with_record record_step end_step step_of step_at read_from read_table read_packet packet_at held_of is_bad good is_drive bads_of shown_of verified packet_tests packet_plan sectors steps begin is_i2o zero_tail kind_ok tail_of
  served-alone ls = rw (lw, ls)

  pub served_short : length store ≡ 2047 → served 0x0202 window store ≡ leaving 0x0100 true window store
  unfolding alone moves reported ended le le_bytes in_limits is_valid block_of drive_read same bus_ok interface_ok geometry_fits fields_ok in_store overlap header_of header_at overlaps_any refusal record_refusal with_record record_step end_step step_of step_at read_from read_table held_of is_bad good is_drive bads_of shown_of sectors steps begin is_i2o zero_tail kind_ok tail_of
  served_short ls = rw (lw, ls)

-- 41h, with the table's bytes and the placement; it changes neither window nor store
module _ (window store : List ℕ) where
  abbrev served41 : List ℕ → Placement → Served
  served41 t p = alone (fed t p) (own 0x4177 0x55AA 2 0x80) (record { window = window; store = store })

  abbrev leaving41 : ℕ → Served
  leaving41 cx = record {
    registers = record { ax = 0x3000; bx = 0xAA55; cx = cx; dx = 0x80; ds = 1; si = 3; es = 2; carry = false };
    memory = record { window = window; store = store };
  }

  -- the drive with a record of parameters, with placement and without it; and without the record
  pub served-placed : length store ≡ 2048 → served41 small_tabled here ∷ served41 small_tabled no_placement ∷ served41 small here ∷ []
      ≡ leaving41 0x0005 ∷ leaving41 0x0001 ∷ leaving41 0x0001 ∷ []
  unfolding alone le le_bytes in_limits drive_read same bus_ok interface_ok geometry_fits fields_ok in_store overlap header_of header_at overlaps_any refusal parameters_refusal record_refusal with_record record_step end_step step_of step_at read_from read_table is_drive shown_of extensions steps begin is_i2o zero_tail kind_ok tail_of
  served-placed ls = rw ls

-- ---- served alone at bad blocks: a drive of 9 blocks from store block 1, with C, H and S 1, 1 and 9, of which 5 and 7 are bad

-- behind the drive's record that of kind 3: length 22, drive 0
abbrev small_worn : List ℕ
small_worn =
    take 68 (sets bytes 16 (le_bytes 8 9 ++ le_bytes 8 1 ++ le_bytes 2 2 ++ le_bytes 2 1 ++ le_bytes 2 1 ++ (9 ∷ [])))
    ++ (22 ∷ 0 ∷ 3 ∷ 0 ∷ 0 ∷ 0 ∷ (bytes8 (5 ∷ 7 ∷ []) ++ drop 68 bytes))

-- by AX; CX is 0/0/4, block 3, the buffer at ES:BX place 37, the packet at DS:SI place 19
abbrev wears : ℕ → List ℕ → List ℕ → Served
wears ax window store = alone (fed small_worn no_placement) (own ax 5 4 0x80) (record { window = window; store = store })

abbrev ending : ℕ → Bool → List ℕ → List ℕ → Served
ending ax carry window store = record {
  registers = record { ax = ax; bx = 5; cx = 4; dx = 0x80; ds = 1; si = 3; es = 2; carry = carry };
  memory = record { window = window; store = store };
}

-- 02h and 03h of four sectors from block 3, of which two come before the first bad one and move, and there is no count word; 02h of these two
pub worn_sectors : (window store : List ℕ) → length window ≡ 2085 → length store ≡ 5120
    → wears 0x0204 window store ∷ wears 0x0304 window store ∷ wears 0x0202 window store ∷ []
    ≡ ending 0x1002 true (blocks window 37 store 2048 2) store
    ∷ ending 0xCC02 true window (blocks store 2048 window 37 2)
    ∷ ending 0x0002 false (blocks window 37 store 2048 2) store
    ∷ []
unfolding alone moves reported ended le le_bytes in_limits is_valid block_of drive_read same bus_ok interface_ok geometry_fits fields_ok in_store overlap bad_count bad_length_ok bads_in held_of ascends are_blocks list_ok header_of header_at overlaps_any refusal bads_refusal record_refusal with_record record_step end_step step_of step_at read_from read_table is_bad good is_drive bads_of shown_of sectors steps begin is_i2o zero_tail kind_ok tail_of
worn_sectors window store lw ls = rw (lw, ls)

-- 44h of four blocks from 3 moves none, and the count word is 2
pub worn_reported : (store : List ℕ) → length store ≡ 5120
    → wears 0x4477 (placed (packet 16 4 9 3 3) 0) store ≡ ending 0x1077 true (placed (packet 16 2 9 3 3) 0) store
unfolding alone le le_bytes in_limits drive_read same bus_ok interface_ok geometry_fits fields_ok in_store overlap bad_count bad_length_ok bads_in held_of ascends are_blocks list_ok header_of header_at overlaps_any refusal bads_refusal record_refusal with_record record_step end_step step_of step_at read_from read_table read_packet packet_at is_bad good is_drive bads_of shown_of verified packet_tests packet_plan steps begin is_i2o zero_tail kind_ok tail_of
worn_reported store ls =
    let m : Memory = record { window = placed (packet 16 4 9 3 3) 0; store = store } in
    ap (λ (n : ℕ). served_by (fed (read_table small_worn (n / 512)).table no_placement) (own 0x4477 5 4 0x80) m) ls

-- with a packet of that buffer, count and start, in a window of 2105 bytes
module _ (rest store : List ℕ) (lr : length rest ≡ 2070) (ls : length store ≡ 5120) where
  abbrev asking : ℕ → ℕ → ℕ → ℕ → List ℕ
  asking offset segment count start = replicate 19 15 ++ (packet 16 count offset segment start ++ rest)

  -- four blocks from 3, of which two move, and the count word is 2: 42h to place 57, and 43h from there
  pub worn_packets : wears 0x4277 (asking 9 3 4 3) store ∷ wears 0x4301 (asking 9 3 4 3) store ∷ []
      ≡ ending 0x1077 true (sets (blocks (asking 9 3 4 3) 57 store 2048 2) 21 (2 ∷ 0 ∷ [])) store
      ∷ ending 0xCC01 true (asking 9 3 2 3) (blocks store 2048 (asking 9 3 4 3) 57 2)
      ∷ []
  unfolding alone moves reported ended le le_bytes in_limits is_valid block_of drive_read same bus_ok interface_ok geometry_fits fields_ok in_store overlap bad_count bad_length_ok bads_in held_of ascends are_blocks list_ok header_of header_at overlaps_any refusal bads_refusal record_refusal with_record record_step end_step step_of step_at read_from read_table read_packet packet_at is_bad good is_drive bads_of shown_of verify_ok verified packet_tests packet_plan steps begin is_i2o zero_tail kind_ok tail_of
  worn_packets = rw (lr, ls)

  -- 42h to place 9, over its packet: the count word lies on the data. 42h of block 8 succeeds, and the packet stays, or is the data that covers it
  pub worn_covered : wears 0x4277 (asking 9 0 4 3) store ∷ wears 0x4277 (asking 9 3 1 8) store ∷ wears 0x4277 (asking 9 0 1 8) store ∷ []
      ≡ ending 0x1077 true (sets (blocks (asking 9 0 4 3) 9 store 2048 2) 21 (2 ∷ 0 ∷ [])) store
      ∷ ending 0x0077 false (blocks (asking 9 3 1 8) 57 store 4608 1) store
      ∷ ending 0x0077 false (blocks (asking 9 0 1 8) 9 store 4608 1) store
      ∷ []
  unfolding alone moves reported ended le le_bytes in_limits is_valid block_of drive_read same bus_ok interface_ok geometry_fits fields_ok in_store overlap bad_count bad_length_ok bads_in held_of ascends are_blocks list_ok header_of header_at overlaps_any refusal bads_refusal record_refusal with_record record_step end_step step_of step_at read_from read_table read_packet packet_at is_bad good is_drive bads_of shown_of verify_ok verified packet_tests packet_plan steps begin is_i2o zero_tail kind_ok tail_of
  worn_covered = rw (lr, ls)

  -- a bad block first, 5 of two: none moves, and the count word is 0
  pub worn_first : wears 0x4277 (asking 9 3 2 5) store ∷ wears 0x4301 (asking 9 3 2 5) store ∷ []
      ≡ ending 0x1077 true (asking 9 3 0 5) store ∷ ending 0xCC01 true (asking 9 3 0 5) store ∷ []
  unfolding blocks alone moves reported ended le le_bytes in_limits is_valid block_of drive_read same bus_ok interface_ok geometry_fits fields_ok in_store overlap bad_count bad_length_ok bads_in held_of ascends are_blocks list_ok header_of header_at overlaps_any refusal bads_refusal record_refusal with_record record_step end_step step_of step_at read_from read_table read_packet packet_at is_bad good is_drive bads_of shown_of verify_ok verified packet_tests packet_plan steps begin is_i2o zero_tail kind_ok tail_of
  worn_first = rw (lr, ls)
