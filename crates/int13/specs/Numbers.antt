-- Document 01, "Steps of each function", and document 02, 2026-04: the numbers of every call's answer, straight from the registers, the drive, its
-- bad blocks and the window's bytes.
-- The tests stand in the paper's order with the codes printed there, and no answer is named: what the steps promise goes through this list.
-- Assumes nothing.
use Rattle.std.specs.Prelude.{ℕ, ◌+◌, ◌-◌, ◌*◌, ◌/◌, ◌%◌, Bool, false, not, List, [], ◌∷◌, length, get_or, drop, leb, ltb, eqb}
use Rattle.logic.specs.Logic.{pick, both, either}
use Rattle.words.specs.Words.{le}
use Rattle.chs.specs.Chs.{in_limits, is_valid, number, address_in}
use Rattle.drive.specs.declared.Drive.{Drive}
use Rattle.drive.specs.Drive.{geometry_of, is_protected}
use Rattle.attached.specs.declared.Bads.{Bads}
use Rattle.attached.specs.Bad.{good}
use Rattle.table.specs.declared.Table.{Table}
use Rattle.layout.specs.ResultBuffer.{returned_size}
use Rattle.int13.specs.declared.Registers.{Registers}
use Rattle.int13.specs.Answers.{ah, al, is_sectors, is_write}
use Rattle.int13.specs.Steps.{drive_count, is_drive, drive_at, bads_of, verify_ok}

-- ---- "Numbers given back", what an answer does to the registers

-- refused: 0, the code in AH, AL = 0 for 02h and 03h, the other registers as given, carry set
abbrev pub refused_numbers : ℕ → Registers → List ℕ
refused_numbers code r = 0 ∷ (256 * code + pick (is_sectors (ah r)) 0 (al r)) ∷ r.bx ∷ r.cx ∷ r.dx ∷ r.ds ∷ r.si ∷ r.es ∷ 1 ∷ []

-- done: 0, AH = 0, the other registers as given, carry clear
abbrev pub done_numbers : Registers → List ℕ
done_numbers r = 0 ∷ (256 * 0 + al r) ∷ r.bx ∷ r.cx ∷ r.dx ∷ r.ds ∷ r.si ∷ r.es ∷ 0 ∷ []

-- it waits: 256, DL, the first block, how many, the places of buffer and packet, and the registers as given, carry clear
abbrev pub waits_numbers : ℕ → ℕ → ℕ → ℕ → Registers → List ℕ
waits_numbers start count buffer packet r =
    256 ∷ (r.dx % 256) ∷ start ∷ count ∷ buffer ∷ packet ∷ r.ax ∷ r.bx ∷ r.cx ∷ r.dx ∷ r.ds ∷ r.si ∷ r.es ∷ 0 ∷ []

-- ---- "Steps of each function", 02h, 03h

-- the run of AL blocks from a block n: past C x H x S is 04h, a buffer at ES:BX that is not inside the window 09h
abbrev pub run_given : Drive → Registers → ℕ → ℕ → List ℕ
run_given d r M n =
    pick (ltb (d.c * d.h * d.s) (n + al r)) (refused_numbers 0x04 r)
    (pick (ltb M (16 * r.es + r.bx + 512 * al r)) (refused_numbers 0x09 r)
    (waits_numbers n (al r) (16 * r.es + r.bx) 0 r))

-- no drive 01h, AL 0 01h, AL above 128 09h, 03h on a protected drive 03h, no such address 04h, then the run
unfoldable pub sectors_given : Bool → Drive → Registers → ℕ → List ℕ
sectors_given known d r M =
    pick (not known) (refused_numbers 0x01 r)
    (pick (eqb (al r) 0) (refused_numbers 0x01 r)
    (pick (ltb 128 (al r)) (refused_numbers 0x09 r)
    (pick (both (is_write (ah r)) (is_protected d)) (refused_numbers 0x03 r)
    (pick (both (in_limits (geometry_of d)) (is_valid (geometry_of d) (address_in r.cx r.dx)))
    (run_given d r M (number (geometry_of d) (address_in r.cx r.dx))) (refused_numbers 0x04 r)))))

-- ---- "Steps of each function", 08h

-- AX = 0, CH and CL hold C - 1 and S, DH = H - 1, DL = the number of drives, carry clear; no drive is 07h
unfoldable pub parameters_given : Bool → ℕ → Drive → Registers → List ℕ
parameters_given known count d r =
    pick known
    (0 ∷ 0 ∷ r.bx ∷ (256 * ((d.c - 1) % 256) + (64 * ((d.c - 1) / 256 % 4) + d.s % 64)) ∷ (256 * ((d.h - 1) % 256) + count)
    ∷ r.ds ∷ r.si ∷ r.es ∷ 0 ∷ [])
    (refused_numbers 0x07 r)

-- ---- "Steps of each function", 41h

-- drive known and BX = 55AAh: AX = 3000h, BX = AA55h, CX = 0001h, carry clear; else 01h. CX = 0005h where the guest finds a table of the drive
unfoldable pub check_given : Bool → Bool → Registers → List ℕ
check_given known table r =
    pick (both known (eqb r.bx 0x55AA))
    (0 ∷ 0x3000 ∷ 0xAA55 ∷ pick table 0x0005 0x0001 ∷ r.dx ∷ r.ds ∷ r.si ∷ r.es ∷ 0 ∷ [])
    (refused_numbers 0x01 r)

-- ---- "Steps of each function", 42h, 43h, 44h

-- a packet of 16 bytes at least: count above 127 01h, a protected drive 03h, blocks outside the drive 04h; 44h is 10h where one of them is bad,
-- else done; a buffer that is not inside the window 09h; a count of 0 is done
unfoldable pub packet_tests_given : Drive → Bads → Registers → ℕ → ℕ → ℕ → ℕ → List ℕ
packet_tests_given d l r M count buffer start =
    pick (ltb 127 count) (refused_numbers 0x01 r)
    (pick (both (is_write (ah r)) (is_protected d)) (refused_numbers 0x03 r)
    (pick (ltb d.blocks (start + count)) (refused_numbers 0x04 r)
    (pick (eqb (ah r) 0x44) (pick (ltb (good l start count) count) (refused_numbers 0x10 r) (done_numbers r))
    (pick (ltb M (buffer + 512 * count)) (refused_numbers 0x09 r)
    (pick (eqb count 0) (done_numbers r)
    (waits_numbers start count buffer (16 * r.ds + r.si) r))))))

-- the packet at a place: 16 bytes inside the window and a size byte of 16 at least, else 01h; count at 2, offset and segment at 4 and 6,
-- start at 8
unfoldable pub packet_numbers_at : Drive → Bads → Registers → List ℕ → ℕ → List ℕ
packet_numbers_at d l r w place =
    pick (leb (place + 16) (length w))
    (pick (ltb (get_or w place 0) 16) (refused_numbers 0x01 r)
    (packet_tests_given d l r (length w) (le 2 w (place + 2)) (16 * le 2 w (place + 6) + le 2 w (place + 4)) (le 8 w (place + 8))))
    (refused_numbers 0x01 r)

-- no drive 01h, AL of 43h 01h, then the packet at DS:SI
unfoldable pub extended_given : Bool → Drive → Bads → Registers → List ℕ → List ℕ
extended_given known d l r w =
    pick (not known) (refused_numbers 0x01 r)
    (pick (both (is_write (ah r)) (not (verify_ok (al r) d.flags))) (refused_numbers 0x01 r)
    (packet_numbers_at d l r w (16 * r.ds + r.si)))

-- ---- "Steps of each function", 47h

-- no drive 01h; the packet at DS:SI as above; a start that is no block of the drive 04h
unfoldable pub seek_given : Bool → Drive → Registers → List ℕ → List ℕ
seek_given known d r w =
    pick (not known) (refused_numbers 0x01 r)
    (pick (leb (16 * r.ds + r.si + 16) (length w))
    (pick (ltb (get_or w (16 * r.ds + r.si) 0) 16) (refused_numbers 0x01 r)
    (pick (leb d.blocks (le 8 w (16 * r.ds + r.si + 8))) (refused_numbers 0x04 r)
    (done_numbers r)))
    (refused_numbers 0x01 r))

-- ---- "Steps of each function", 48h

-- no drive 01h; no word at DS:SI inside the window 01h; a size below 26, or one whose result is not inside the window, 01h
unfoldable pub buffer_given : Bool → Drive → Registers → List ℕ → List ℕ
buffer_given known d r w =
    pick (not known) (refused_numbers 0x01 r)
    (pick (ltb (length w) (16 * r.ds + r.si + 2)) (refused_numbers 0x01 r)
    (pick (both (leb 26 (le 2 w (16 * r.ds + r.si))) (leb (returned_size d (le 2 w (16 * r.ds + r.si))) (length (drop (16 * r.ds + r.si) w))))
    (done_numbers r) (refused_numbers 0x01 r)))

-- ---- "Steps of each function", every function by AH

-- a function that is not named is 01h
unfoldable pub steps_given : Bool → ℕ → Drive → Bads → Bool → Registers → List ℕ → List ℕ
steps_given known count d l table r w =
    pick (either (eqb (ah r) 0x02) (eqb (ah r) 0x03)) (sectors_given known d r (length w))
    (pick (eqb (ah r) 0x08) (parameters_given known count d r)
    (pick (eqb (ah r) 0x41) (check_given known table r)
    (pick (either (eqb (ah r) 0x42) (either (eqb (ah r) 0x43) (eqb (ah r) 0x44))) (extended_given known d l r w)
    (pick (eqb (ah r) 0x47) (seek_given known d r w)
    (pick (eqb (ah r) 0x48) (buffer_given known d r w)
    (refused_numbers 0x01 r))))))

-- at a table, for a guest with placement or without: over the drive that DL names. The guest finds a table of a drive that has a record of
-- parameters
unfoldable pub begin_given : Table → Bool → Registers → List ℕ → List ℕ
begin_given b placed r w =
    steps_given (is_drive b (r.dx % 256)) (drive_count b) (drive_at b (r.dx % 256)) (bads_of b (r.dx % 256))
    (both (is_drive b (r.dx % 256)) (both placed (get_or b.present (r.dx % 256 - 0x80) false))) r w
