-- Document 01, "Steps of each function": the tests of each function in the paper's order, over the one drive that DL names. M is the length
-- of the guest's window; `known`: whether the table has the drive; d: that drive, any one where it is not known; s: what the guest is shown of
-- the drive's parameter table (document 02, 2026-01); l: the drive's bad blocks (document 02, 2026-04).
-- Assumes nothing.
use Rattle.std.specs.Prelude.{ℕ, ◌+◌, ◌-◌, ◌*◌, ◌/◌, ◌%◌, Bool, false, not, List, ◌++◌, length, get_or, take, drop, leb, ltb, eqb, Result, Ok, Err, Option, Some, None, is_some, unwrap_or}
use Rattle.std.proofs.lemmas.List.Edits.{sets}
use Rattle.logic.specs.Logic.{pick, both, either}
use Rattle.words.specs.Words.{le, le_bytes}
use Rattle.chs.specs.declared.Outside.{Outside}
use Rattle.chs.specs.Chs.{outside, size, block_of, address_in, pack}
use Rattle.drive.specs.declared.Drive.{Drive}
use Rattle.drive.specs.Drive.{geometry_of, is_protected}
use Rattle.attached.specs.declared.Bads.{Bads}
use Rattle.attached.specs.Bad.{no_bads, good}
use Rattle.table.specs.declared.Table.{Table}
use Rattle.table.specs.Table.{most_drives, drives_of, no_drive, bads_at}
use Rattle.layout.specs.declared.Packet.{Packet}
use Rattle.layout.specs.declared.BadParameter.{BadParameter}
use Rattle.layout.specs.Packet.{linear, bad_parameter, packet_length, read_packet}
use Rattle.layout.specs.ResultBuffer.{result_answer, result_out}
use Rattle.memory.specs.Blocks.{block_length}
use Rattle.int13.specs.declared.Registers.{Registers}
use Rattle.int13.specs.declared.Job.{Job}
use Rattle.int13.specs.declared.Placement.{Placement}
use Rattle.int13.specs.declared.Outcome.{Outcome}
use Rattle.int13.specs.declared.Outcome.TheVariants.{Answered, Waits}
use Rattle.int13.specs.declared.Plan.{Plan}
use Rattle.int13.specs.declared.Plan.TheVariants.{Refuse, Clear, Finish, Wait}
use Rattle.int13.specs.Placement.{not_shown, shown_in, pointer_of}
use Rattle.int13.specs.Answers.{write_protected, no_parameters, bad_buffer, bad_read, ah, al, dl, is_write, succeed, refuse, posted}

-- ---- "Steps of each function", what they are fed and what they make of a call

-- What a call is fed beside its registers and its guest's memory: the drive table, T its form (the opening's bytes, or the table read from
-- them), and the guest's placement at the post (document 02, 2026-01). A feed that a later paper adds is a field more.
pub record Feeds (T : Type 0) : Type 0 where
  pub table : T
  pub placement : Placement

-- fed that table and that placement
abbrev pub fed : {T : Type 0} → T → Placement → Feeds T
fed t p = record { table = t; placement = p }

-- what the steps make of a call: answered at once or waiting, and the guest's window afterwards
pub record Checked : Type 0 where
  pub outcome : Outcome
  pub window : List ℕ

-- an outcome that writes nothing
abbrev pub unchanged : List ℕ → Outcome → Checked
unchanged w o = record { outcome = o; window = w }

-- ---- "Parts of the desk", drives: numbered 80h upward in table order

-- the number of the first drive
abbrev pub first_drive : ℕ
first_drive = 0x80

-- how many drives the table has
abbrev pub drive_count : Table → ℕ
drive_count b = length (drives_of b)

-- whether a number is one of the table's drives; one below 80h never is
unfoldable pub is_drive : Table → ℕ → Bool
is_drive b n = both (leb first_drive n) (ltb n (first_drive + drive_count b))

-- the drive of a number
abbrev pub drive_at : Table → ℕ → Drive
drive_at b n = get_or b.drives (n - first_drive) no_drive

-- the drive in the place of a number, for every number: 80h is a multiple of eight, so that drive 80h + i stands in place i
abbrev pub drive_in : Table → ℕ → Drive
drive_in b n = get_or b.drives (n % most_drives) no_drive

-- which drive it is, where there is one; else any one, which is not looked at
abbrev pub named : Option Drive → Drive
named d = unwrap_or d no_drive

-- the drive that DL names
abbrev pub drive_named : Table → Registers → Drive
drive_named b r = drive_at b (dl r)

-- the bad blocks of the drive of a number; a number that is no drive's has none
unfoldable pub bads_of : Table → ℕ → Bads
bads_of b n = pick (is_drive b n) (bads_at b (n - first_drive)) no_bads

-- what a guest with that placement is shown of the drive of a number; of a number that is no drive's, nothing
unfoldable pub shown_of : Table → Placement → ℕ → Option ℕ
shown_of b p n = pick (is_drive b n) (shown_in b p (n - first_drive)) not_shown

-- ---- "Steps of each function", 42h, 43h, 44h

-- the packet stands at DS:SI
abbrev pub packet_place : Registers → ℕ
packet_place r = linear r.ds r.si

-- for 43h AL in 0 to 2, and 2 only if information flag bit 3 is set
unfoldable pub verify_ok : ℕ → ℕ → Bool
verify_ok low flags = either (ltb low 2) (both (eqb low 2) (eqb (flags / 8 % 2) 1))

-- count at most 127
abbrev pub most_blocks : ℕ
most_blocks = 127

-- what a packet that passed its tests asks
abbrev pub packet_job : Registers → Packet → Job
packet_job r p = record { registers = posted r; drive = dl r; start = p.start; count = p.count; buffer = p.buffer; packet = packet_place r }

-- 44h moves nothing: it reports the first bad block of its range with 10h, the count word giving the good blocks before it (document 02, 2026-04)
unfoldable pub verified : ℕ → ℕ → Plan
verified k count = pick (ltb k count) (Clear bad_read k) Finish

-- the packet's own tests, once its size byte is found good; from here a refusal sets the count word, to 0 but for a bad block
unfoldable pub packet_tests : Drive → Bads → Registers → ℕ → Packet → Plan
packet_tests d l r M p =
    pick (ltb most_blocks p.count) (Clear bad_parameter 0)
    (pick (both (is_write (ah r)) (is_protected d)) (Clear write_protected 0)
    (pick (ltb d.blocks (p.start + p.count)) (Clear outside 0)
    (pick (eqb (ah r) 0x44) (verified (good l p.start p.count) p.count)
    (pick (ltb M (p.buffer + block_length * p.count)) (Clear bad_buffer 0)
    (pick (eqb p.count 0) Finish
    (Wait (packet_job r p)))))))

-- 16 packet bytes inside the window, size byte at least 16
abbrev pub packet_read : Drive → Bads → Registers → ℕ → Result Packet BadParameter → Plan
packet_read d l r M (Err e) = Refuse bad_parameter
packet_read d l r M (Ok p) = pick (ltb p.size packet_length) (Refuse bad_parameter) (packet_tests d l r M p)

-- drive, then AL for 43h, then the packet, which is read once
unfoldable pub packet_plan : Bool → Drive → Bads → Registers → List ℕ → Plan
packet_plan known d l r w =
    pick (not known) (Refuse bad_parameter)
    (pick (both (is_write (ah r)) (not (verify_ok (al r) d.flags))) (Refuse bad_parameter)
    (packet_read d l r (length w) (read_packet w (packet_place r))))

-- the count word of the packet at a place, set to a number
abbrev pub with_count : List ℕ → ℕ → ℕ → List ℕ
with_count w place n = sets w (place + 2) (le_bytes 2 n)

-- what a plan comes to; success never writes the packet
abbrev pub carry_out : Plan → Registers → List ℕ → Checked
carry_out (Refuse code) r w = unchanged w (Answered (refuse code r))
carry_out (Clear code n) r w = record { outcome = Answered (refuse code r); window = with_count w (packet_place r) n }
carry_out Finish r w = unchanged w (Answered (succeed r))
carry_out (Wait j) r w = unchanged w (Waits j)

-- 42h, 43h and 44h
abbrev pub extended : Bool → Drive → Bads → Registers → List ℕ → Checked
extended known d l r w = carry_out (packet_plan known d l r w) r w

-- ---- "Steps of each function", 47h

-- packet and size as above; start below the drive's blocks; count ignored
abbrev pub seek_read : Drive → Registers → Result Packet BadParameter → Outcome
seek_read d r (Err e) = Answered (refuse bad_parameter r)
seek_read d r (Ok p) =
    pick (ltb p.size packet_length) (Answered (refuse bad_parameter r))
    (pick (leb d.blocks p.start) (Answered (refuse outside r))
    (Answered (succeed r)))

-- 47h: drive, then the packet
unfoldable pub seek : Bool → Drive → Registers → List ℕ → Outcome
seek known d r w =
    pick (not known) (Answered (refuse bad_parameter r))
    (seek_read d r (read_packet w (packet_place r)))

-- ---- "Steps of each function", 02h, 03h

-- AL at most 128
abbrev pub most_run : ℕ
most_run = 128

-- the buffer stands at ES:BX
abbrev pub sector_buffer : Registers → ℕ
sector_buffer r = linear r.es r.bx

-- what a run that passed its tests asks: AL blocks from the address's block; 02h and 03h have no packet
abbrev pub sector_job : Registers → ℕ → Job
sector_job r n = record { registers = posted r; drive = dl r; start = n; count = al r; buffer = sector_buffer r; packet = 0 }

-- the run from the address's block may cross tracks, but block + AL is at most C x H x S; then the buffer
abbrev pub sector_run : Drive → Registers → ℕ → Result ℕ Outside → Outcome
sector_run d r M (Err e) = Answered (refuse outside r)
sector_run d r M (Ok n) =
    pick (ltb (size (geometry_of d)) (n + al r)) (Answered (refuse outside r))
    (pick (ltb M (sector_buffer r + block_length * al r)) (Answered (refuse bad_buffer r))
    (Waits (sector_job r n)))

-- 02h and 03h: drive, AL, protection, address, buffer
unfoldable pub sectors : Bool → Drive → Registers → ℕ → Outcome
sectors known d r M =
    pick (not known) (Answered (refuse bad_parameter r))
    (pick (eqb (al r) 0) (Answered (refuse bad_parameter r))
    (pick (ltb most_run (al r)) (Answered (refuse bad_buffer r))
    (pick (both (is_write (ah r)) (is_protected d)) (Answered (refuse write_protected r))
    (sector_run d r M (block_of (geometry_of d) (address_in r.cx r.dx))))))

-- ---- "Steps of each function", 08h

-- AL = 0; CH and CL hold C - 1 and S; DH = H - 1, of which DX has room for eight bits; DL = number of drives
abbrev pub geometry_given : Drive → ℕ → Registers → Registers
geometry_given d n r = record { ax = 0; bx = r.bx; cx = pack (d.c - 1) d.s; dx = 256 * ((d.h - 1) % 256) + n; ds = r.ds; si = r.si; es = r.es; carry = false }

-- 08h: an unknown drive is 07h
unfoldable pub parameters : Bool → ℕ → Drive → Registers → Outcome
parameters known count d r = pick known (Answered (geometry_given d count r)) (Answered (refuse no_parameters r))

-- ---- "Steps of each function", 41h

-- AX = 3000h, BX = AA55h, CX = 0001h, with bit 2 too where the guest finds the drive's parameter table (document 02, 2026-01)
abbrev pub extensions_given : Option ℕ → Registers → Registers
extensions_given s r = record { ax = 0x3000; bx = 0xAA55; cx = pick (is_some s) 0x0005 0x0001; dx = r.dx; ds = r.ds; si = r.si; es = r.es; carry = false }

-- 41h: drive known and BX = 55AAh, else 01h
unfoldable pub extensions : Bool → Option ℕ → Registers → Outcome
extensions known s r = pick (both known (eqb r.bx 0x55AA)) (Answered (extensions_given s r)) (Answered (refuse bad_parameter r))

-- ---- "Steps of each function", 48h

-- the result was written, or refused
abbrev pub result_given : Result ℕ BadParameter → Registers → Outcome
result_given (Err e) r = Answered (refuse bad_parameter r)
result_given (Ok n) r = Answered (succeed r)

-- the word at a place is the buffer's size; the result goes there, and what stands before and behind it stays
abbrev pub result_steps : Drive → Option ℕ → Registers → List ℕ → ℕ → Checked
result_steps d s r w place =
    record {
      outcome = result_given (result_answer d (le 2 w place) (length (drop place w))) r;
      window = take place w ++ result_out d (pointer_of s) (le 2 w place) (drop place w);
    }

-- 48h: drive; the word at DS:SI inside the window; then the result
unfoldable pub result_into : Bool → Drive → Option ℕ → Registers → List ℕ → Checked
result_into known d s r w =
    pick (not known) (unchanged w (Answered (refuse bad_parameter r)))
    (pick (ltb (length w) (packet_place r + 2)) (unchanged w (Answered (refuse bad_parameter r)))
    (result_steps d s r w (packet_place r)))

-- ---- "Steps of each function", every function by AH

-- the steps of a call over one drive: whether DL names it, of how many, which it is, its bad blocks, and what the guest is shown of its parameter
-- table; an unknown function is 01h
unfoldable pub steps : Bool → ℕ → Drive → Bads → Option ℕ → Registers → List ℕ → Checked
steps known count d l s r w =
    pick (either (eqb (ah r) 0x02) (eqb (ah r) 0x03)) (unchanged w (sectors known d r (length w)))
    (pick (eqb (ah r) 0x08) (unchanged w (parameters known count d r))
    (pick (eqb (ah r) 0x41) (unchanged w (extensions known s r))
    (pick (either (eqb (ah r) 0x42) (either (eqb (ah r) 0x43) (eqb (ah r) 0x44))) (extended known d l r w)
    (pick (eqb (ah r) 0x47) (unchanged w (seek known d r w))
    (pick (eqb (ah r) 0x48) (result_into known d s r w)
    (unchanged w (Answered (refuse bad_parameter r))))))))

-- a call begun, with all that it is fed: answered at once with what that writes, or made a request that waits
unfoldable pub begin : Feeds Table → Registers → List ℕ → Checked
begin f r w =
    steps (is_drive f.table (dl r)) (drive_count f.table) (drive_named f.table r) (bads_of f.table (dl r))
    (shown_of f.table f.placement (dl r)) r w
