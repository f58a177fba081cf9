-- Document 01, "Steps of each function", 48h: the sizes, the bytes and the answer of the result buffer; the flags as document 02 corrects them, and
-- its longer result (2026-06).
-- Assumes nothing.
use Rattle.std.specs.Prelude.{ℕ, ◌+◌, ◌-◌, ◌*◌, ◌/◌, ◌%◌, List, [], ◌∷◌, ◌++◌, length, take, drop, eqb, leb, ltb, map, Result, Ok, Err}
use Rattle.logic.specs.Logic.{pick, both}
use Rattle.words.specs.Words.{le_bytes}
use Rattle.drive.specs.declared.Drive.{Drive}
use Rattle.drive.specs.Drive.{is_i2o}
use Rattle.memory.specs.Blocks.{block_length}
use Rattle.layout.specs.Packet.{bad_parameter}
use Rattle.layout.specs.declared.Pointer.{Pointer}
use Rattle.layout.specs.declared.BadParameter.{BadParameter}

-- ---- "Steps of each function", 48h: the sizes

-- up to the bytes in a block
abbrev pub least_size : ℕ
least_size = 26

-- with the pointer after them
abbrev pub pointer_size : ℕ
pointer_size = 30

-- with the device path after that, of eight bytes
abbrev pub path_size : ℕ
path_size = 66

-- or of sixteen (document 02, 2026-06)
abbrev pub wide_size : ℕ
wide_size = 74

-- 26 to 29 returns 26, 30 to 65 returns 30, 66 to 73 returns 66, from 74, 74; but a drive of type I2O, which 66 bytes cannot name, is answered for
-- 66 to 73 as if the size were 30
unfoldable pub returned_size : Drive → ℕ → ℕ
returned_size d asked =
    pick (ltb asked pointer_size) least_size
    (pick (ltb asked path_size) pointer_size
    (pick (ltb asked wide_size) (pick (is_i2o d) pointer_size path_size)
    wide_size))

-- ---- "Steps of each function", 48h: the bytes, by the paper's offsets

-- information flags (document 02, 2026-02): the table's where bit 2, removable, is set; where it is clear, the table's with bits 4 to 6, which
-- then mean nothing, as zero
abbrev pub flags_shown : Drive → ℕ
flags_shown d = pick (eqb (d.flags / 4 % 2) 1) d.flags (d.flags % 16 + d.flags / 128 * 128)

-- FFFFh:FFFFh, which is no pointer: of a drive without a parameter table, and for a guest without placement
abbrev pub no_pointer : Pointer
no_pointer = record { offset = 0xFFFF; segment = 0xFFFF }

-- the word that begins the device path
abbrev pub path_key : ℕ
path_key = 0xBEDD

-- the length from byte 30 on
abbrev pub path_length : ℕ
path_length = 0x24

-- and in the longer result
abbrev pub wide_path_length : ℕ
wide_path_length = 0x2C

-- offsets 0, 2, 4, 8, 12: returned size, flags, physical cylinders, heads, sectors
unfoldable pub parameter_bytes : Drive → ℕ → List ℕ
parameter_bytes d n = le_bytes 2 n ++ (le_bytes 2 (flags_shown d) ++ (le_bytes 4 d.cylinders ++ (le_bytes 4 d.heads ++ le_bytes 4 d.sectors)))

-- offsets 16, 24, 26, 28: blocks, bytes in a block, offset and segment of the pointer
unfoldable pub block_bytes : Drive → Pointer → List ℕ
block_bytes d p = le_bytes 8 d.blocks ++ (le_bytes 2 block_length ++ (le_bytes 2 p.offset ++ le_bytes 2 p.segment))

-- 20h for NUL, as document 000 pads a name, and every other byte as it is
abbrev pub padded_byte : ℕ → ℕ
padded_byte x = pick (eqb x 0) 0x20 x

-- a name so padded
unfoldable pub padded : List ℕ → List ℕ
padded name = map padded_byte name

-- offsets 30, 32, 33, 36, 40: BEDDh, the length from byte 30 on, three zeros, host bus, interface type
abbrev pub interface_of : ℕ → List ℕ → List ℕ → List ℕ
interface_of length bus interface = le_bytes 2 path_key ++ (length ∷ 0 ∷ 0 ∷ 0 ∷ (bus ++ interface))

-- of 66 bytes, with 24h
unfoldable pub interface_bytes : Drive → List ℕ
interface_bytes d = interface_of path_length d.bus d.interface

-- offsets 48, 56, 64: interface path, device path, which a tail makes longer, and zero behind it
abbrev pub paths_of : Drive → List ℕ → List ℕ
paths_of d tail = d.path ++ (d.device ++ (tail ++ (0 ∷ [])))

-- of 66 bytes, which have no tail
unfoldable pub path_bytes : Drive → List ℕ
path_bytes d = paths_of d []

-- of the longer result, with 2Ch, host bus and interface type padded
unfoldable pub wide_interface_bytes : Drive → List ℕ
wide_interface_bytes d = interface_of wide_path_length (padded d.bus) (padded d.interface)

-- of the longer result, all sixteen bytes of the device path
unfoldable pub wide_path_bytes : Drive → List ℕ
wide_path_bytes d = paths_of d d.tail

-- the sum of bytes
unfoldable pub sum : List ℕ → ℕ
sum [] = 0
sum (x ∷ l) = x + sum l

-- the byte that makes a sum zero modulo 256
abbrev pub checksum : List ℕ → ℕ
checksum l = (256 - sum l % 256) % 256

-- bytes with the one behind them that makes their sum zero
abbrev pub checked : List ℕ → List ℕ
checked l = l ++ (checksum l ∷ [])

-- the bytes from 30 on over which the last one is made: 30 to 64, and in the longer result 30 to 72
unfoldable pub summed_bytes : Drive → ℕ → List ℕ
summed_bytes d n = pick (eqb n wide_size) (wide_interface_bytes d ++ wide_path_bytes d) (interface_bytes d ++ path_bytes d)

-- all bytes of the result with the returned size n: 74 of the longer one, else 66, of which those are returned that the size says
unfoldable pub whole_result : Drive → Pointer → ℕ → List ℕ
whole_result d p n = parameter_bytes d n ++ (block_bytes d p ++ checked (summed_bytes d n))

-- the returned bytes
unfoldable pub result_bytes : Drive → Pointer → ℕ → List ℕ
result_bytes d p n = take n (whole_result d p n)

-- ---- "Steps of each function", 48h: the answer

-- asked: the word at DS:SI; room: the bytes from DS:SI to the window's end. All returned bytes must be inside, no smaller size is tried
unfoldable pub result_answer : Drive → ℕ → ℕ → Result ℕ BadParameter
result_answer d asked room =
    pick (both (leb least_size asked) (leb (returned_size d asked) room)) (Ok (returned_size d asked)) (Err (record {}))

-- the bytes from DS:SI after an answer: those past the returned size stay, and a refusal writes none
abbrev pub written : Drive → Pointer → Result ℕ BadParameter → List ℕ → List ℕ
written d p (Ok n) out = result_bytes d p n ++ drop n out
written d p (Err e) out = out

-- the bytes from DS:SI after the answer to a size asked
abbrev pub result_out : Drive → Pointer → ℕ → List ℕ → List ℕ
result_out d p asked out = written d p (result_answer d asked (length out)) out

-- ---- "Forms we want to see": the answer as numbers, 0 and the returned size, or the code

-- of an answer
unfoldable pub result_numbers : Result ℕ BadParameter → List ℕ
result_numbers (Ok n) = 0 ∷ n ∷ []
result_numbers (Err e) = bad_parameter ∷ []

-- the numbers for a drive, a size asked and the room
unfoldable pub size_given : Drive → ℕ → ℕ → List ℕ
size_given d asked room = pick (both (leb 26 asked) (leb (returned_size d asked) room)) (0 ∷ returned_size d asked ∷ []) (0x01 ∷ [])
