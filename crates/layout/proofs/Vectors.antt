-- The packet, the 48h result and the parameter table by number, each field with a value of its own: a definition in which two of them change places, one is not
-- read, or a number of the paper is another, gives other numbers here.
-- Assumes nothing.
use mathlib.Core.Path.{◌≡◌, refl, sym, ap, ◌∙◌}
use mathlib.Core.List.{List, [], ◌∷◌, ◌++◌, map}
use Prim.Native.Nat.{ℕ, zero, suc, ◌+◌, ◌<◌}
use native.Mathlib.Nat.{zero-add}
use native.Mathlib.Omega.{arith}
use lib.ListN.{length, get_or, replicate}
use Rattle.words.specs.Words.{le, le_bytes, part}
use Rattle.drive.specs.declared.Drive.{Drive}
use Rattle.drive.specs.Drive.{isa, pci, ata, atapi, scsi, usb, ieee1394, fibre, i2o, is_i2o, same}
use Rattle.layout.specs.declared.Pointer.{Pointer}
use Rattle.layout.specs.Packet.{linear, packet_at, read_packet, packet_numbers, packet_given}
use Rattle.layout.specs.ParameterTable.{parameter_size, drive_flags, placed_bytes, parameter_table}
use Rattle.layout.specs.ResultBuffer.{no_pointer, returned_size, flags_shown, parameter_bytes, block_bytes, interface_bytes, path_bytes, padded, wide_interface_bytes, wide_path_bytes, sum, summed_bytes, whole_result, result_bytes, result_answer, result_out, size_given}

-- ---- addresses: 16 times 1234h plus 5678h

pub addresses : linear 0x1234 0x5678 ≡ 0x179B8
addresses = refl

-- ---- the packet

-- three bytes, then size 24, an ignored byte, count 2221h, offset 4443h, segment 6665h, start 8887868584838281h
abbrev window : List ℕ
window =
    0xF1 ∷ 0xF2 ∷ 0xF3 ∷ 24 ∷ 0x19 ∷ 0x21 ∷ 0x22 ∷ 0x43 ∷ 0x44 ∷ 0x65 ∷ 0x66
    ∷ 0x81 ∷ 0x82 ∷ 0x83 ∷ 0x84 ∷ 0x85 ∷ 0x86 ∷ 0x87 ∷ 0x88 ∷ []

-- the buffer is 66650h + 4443h; one byte further on the packet is cut off
pub packets : map (λ at. packet_numbers (read_packet window at)) (3 ∷ 4 ∷ []) ≡ (0 ∷ 24 ∷ 0x2221 ∷ 0x6AA93 ∷ 0x8887868584838281 ∷ []) ∷ (1 ∷ []) ∷ []
unfolding packet_numbers read_packet packet_at le
packets = refl

-- the same by the second promise
pub packets-given : map (packet_given window) (3 ∷ 4 ∷ []) ≡ (0 ∷ 24 ∷ 0x2221 ∷ 0x6AA93 ∷ 0x8887868584838281 ∷ []) ∷ (1 ∷ []) ∷ []
unfolding packet_given le
packets-given = refl

-- ---- the result

-- every field another value; the geometry, the first block and the protection do not show
abbrev own : ℕ → ℕ → List ℕ → List ℕ → List ℕ → Drive
own kind flags bus interface tail = record {
  cylinders = 0x44434241;
  heads = 0x48474645;
  sectors = 0x4C4B4A49;
  blocks = 0x5857565554535251;
  first = 0xE8E7E6E5E4E3E2E1;
  flags = flags;
  c = 0xC2C1;
  h = 0xC4C3;
  s = 0xC5;
  protection = 0xC6;
  bus = bus;
  interface = interface;
  path = 0xA1 ∷ 0xA2 ∷ 0xA3 ∷ 0xA4 ∷ 0xA5 ∷ 0xA6 ∷ 0xA7 ∷ 0xA8 ∷ [];
  device = 0xB1 ∷ 0xB2 ∷ 0xB3 ∷ 0xB4 ∷ 0xB5 ∷ 0xB6 ∷ 0xB7 ∷ 0xB8 ∷ [];
  kind = kind;
  tail = tail;
}

abbrev own_bus : List ℕ
own_bus = 0x81 ∷ 0x82 ∷ 0x83 ∷ 0x84 ∷ []

abbrev own_interface : List ℕ
own_interface = 0x91 ∷ 0x92 ∷ 0x93 ∷ 0x94 ∷ 0x95 ∷ 0x96 ∷ 0x97 ∷ 0x98 ∷ []

-- of kind 1
abbrev flagged : ℕ → Drive
flagged flags = own 1 flags own_bus own_interface (replicate 8 0)

-- of its flags bits 5 and 6 do not show, since bit 2 is clear
abbrev drive : Drive
drive = flagged 0x6261

-- of kind 2, with sixteen bytes of device path
abbrev own_tail : List ℕ
own_tail = 0xD1 ∷ 0xD2 ∷ 0xD3 ∷ 0xD4 ∷ 0xD5 ∷ 0xD6 ∷ 0xD7 ∷ 0xD8 ∷ []

abbrev wide : ℕ → Drive
wide flags = own 2 flags own_bus own_interface own_tail

abbrev pointer : Pointer
pointer = record { offset = 0x7271; segment = 0x7473 }

-- offsets 2 to 25, 26 to 29, 30 to 65
abbrev from2 : List ℕ
from2 =
    0x01 ∷ 0x62
    ∷ 0x41 ∷ 0x42 ∷ 0x43 ∷ 0x44 ∷ 0x45 ∷ 0x46 ∷ 0x47 ∷ 0x48 ∷ 0x49 ∷ 0x4A ∷ 0x4B ∷ 0x4C
    ∷ 0x51 ∷ 0x52 ∷ 0x53 ∷ 0x54 ∷ 0x55 ∷ 0x56 ∷ 0x57 ∷ 0x58 ∷ 0x00 ∷ 0x02 ∷ []

abbrev from26 : List ℕ
from26 = 0x71 ∷ 0x72 ∷ 0x73 ∷ 0x74 ∷ []

abbrev from30 : List ℕ
from30 =
    0xDD ∷ 0xBE ∷ 0x24 ∷ 0 ∷ 0 ∷ 0 ∷ 0x81 ∷ 0x82 ∷ 0x83 ∷ 0x84
    ∷ 0x91 ∷ 0x92 ∷ 0x93 ∷ 0x94 ∷ 0x95 ∷ 0x96 ∷ 0x97 ∷ 0x98
    ∷ 0xA1 ∷ 0xA2 ∷ 0xA3 ∷ 0xA4 ∷ 0xA5 ∷ 0xA6 ∷ 0xA7 ∷ 0xA8
    ∷ 0xB1 ∷ 0xB2 ∷ 0xB3 ∷ 0xB4 ∷ 0xB5 ∷ 0xB6 ∷ 0xB7 ∷ 0xB8 ∷ 0 ∷ 0xCB ∷ []

-- a room of 68 bytes for each of the sizes asked: too small, the three results, each with the bytes past it as they were, and one without room
pub results : map (λ asked. result_out drive pointer asked (replicate 68 9)) (25 ∷ 29 ∷ 65 ∷ 73 ∷ 0x4242 ∷ [])
    ≡ replicate 68 9
    ∷ (26 ∷ 0 ∷ (from2 ++ replicate 42 9))
    ∷ (30 ∷ 0 ∷ (from2 ++ (from26 ++ replicate 38 9)))
    ∷ (66 ∷ 0 ∷ (from2 ++ (from26 ++ (from30 ++ replicate 2 9))))
    ∷ replicate 68 9
    ∷ []
unfolding le_bytes returned_size is_i2o same parameter_bytes block_bytes interface_bytes path_bytes sum summed_bytes whole_result result_bytes result_answer
results = refl

-- a room of 29 bytes: enough for 26, and where 30 are asked for all of it stays
pub results_short : map (λ asked. result_out drive pointer asked (replicate 29 9)) (29 ∷ 30 ∷ []) ≡ (26 ∷ 0 ∷ (from2 ++ replicate 3 9)) ∷ replicate 29 9 ∷ []
unfolding le_bytes returned_size parameter_bytes block_bytes interface_bytes path_bytes sum summed_bytes whole_result result_bytes result_answer
results_short = refl

-- no pointer: FFFFh:FFFFh
pub none : le_bytes 2 no_pointer.offset ++ le_bytes 2 no_pointer.segment ≡ 0xFF ∷ 0xFF ∷ 0xFF ∷ 0xFF ∷ []
unfolding le_bytes
none = refl

-- the numbers of the answer, by the size asked and the room
pub sizes-given : map (size_given drive 65) (29 ∷ 30 ∷ []) ∷ map (λ asked. size_given drive asked 66) (25 ∷ 26 ∷ 29 ∷ 30 ∷ 65 ∷ 66 ∷ []) ∷ []
    ≡ ((1 ∷ []) ∷ (0 ∷ 30 ∷ []) ∷ [])
    ∷ ((1 ∷ []) ∷ (0 ∷ 26 ∷ []) ∷ (0 ∷ 26 ∷ []) ∷ (0 ∷ 30 ∷ []) ∷ (0 ∷ 30 ∷ []) ∷ (0 ∷ 66 ∷ []) ∷ [])
    ∷ []
unfolding size_given returned_size is_i2o same
sizes-given = refl

-- ---- the longer result, "2026-06"

-- the names that 20h pads as document 000 prints them: the two host buses, and the seven interface types
pub names-padded : map padded (isa ∷ pci ∷ ata ∷ atapi ∷ scsi ∷ usb ∷ ieee1394 ∷ fibre ∷ i2o ∷ [])
    ≡ (0x49 ∷ 0x53 ∷ 0x41 ∷ 0x20 ∷ [])
    ∷ (0x50 ∷ 0x43 ∷ 0x49 ∷ 0x20 ∷ [])
    ∷ (0x41 ∷ 0x54 ∷ 0x41 ∷ 0x20 ∷ 0x20 ∷ 0x20 ∷ 0x20 ∷ 0x20 ∷ [])
    ∷ (0x41 ∷ 0x54 ∷ 0x41 ∷ 0x50 ∷ 0x49 ∷ 0x20 ∷ 0x20 ∷ 0x20 ∷ [])
    ∷ (0x53 ∷ 0x43 ∷ 0x53 ∷ 0x49 ∷ 0x20 ∷ 0x20 ∷ 0x20 ∷ 0x20 ∷ [])
    ∷ (0x55 ∷ 0x53 ∷ 0x42 ∷ 0x20 ∷ 0x20 ∷ 0x20 ∷ 0x20 ∷ 0x20 ∷ [])
    ∷ (0x31 ∷ 0x33 ∷ 0x39 ∷ 0x34 ∷ 0x20 ∷ 0x20 ∷ 0x20 ∷ 0x20 ∷ [])
    ∷ (0x46 ∷ 0x49 ∷ 0x42 ∷ 0x52 ∷ 0x45 ∷ 0x20 ∷ 0x20 ∷ 0x20 ∷ [])
    ∷ (0x49 ∷ 0x32 ∷ 0x4F ∷ 0x20 ∷ 0x20 ∷ 0x20 ∷ 0x20 ∷ 0x20 ∷ [])
    ∷ []
unfolding padded
names-padded = refl

-- of type I2O, on PCI
abbrev intelligent : Drive
intelligent = own 2 0x6261 pci i2o own_tail

-- the sizes asked at each edge, of a drive of kind 1, of one of kind 2, and of one of type I2O
abbrev edges : List ℕ
edges = 25 ∷ 26 ∷ 29 ∷ 30 ∷ 65 ∷ 66 ∷ 73 ∷ 74 ∷ 75 ∷ 0xFFFF ∷ []

abbrev size : ℕ → List ℕ
size n = 0 ∷ n ∷ []

abbrev no : List ℕ
no = 1 ∷ []

pub sizes_of_kinds : map (λ d. map (λ asked. size_given d asked 74) edges) (drive ∷ wide 0x6261 ∷ intelligent ∷ [])
    ≡ (no ∷ size 26 ∷ size 26 ∷ size 30 ∷ size 30 ∷ size 66 ∷ size 66 ∷ size 74 ∷ size 74 ∷ size 74 ∷ [])
    ∷ (no ∷ size 26 ∷ size 26 ∷ size 30 ∷ size 30 ∷ size 66 ∷ size 66 ∷ size 74 ∷ size 74 ∷ size 74 ∷ [])
    ∷ (no ∷ size 26 ∷ size 26 ∷ size 30 ∷ size 30 ∷ size 30 ∷ size 30 ∷ size 74 ∷ size 74 ∷ size 74 ∷ [])
    ∷ []
unfolding size_given returned_size is_i2o same
sizes_of_kinds = refl

-- the rooms at each edge, asked for 66, 73 and 74: 66 bytes of type I2O are 30
pub rooms_of_kinds : map (λ d. map (λ room. map (λ asked. size_given d asked room) (66 ∷ 73 ∷ 74 ∷ [])) (29 ∷ 30 ∷ 65 ∷ 66 ∷ 73 ∷ [])) (wide 0x6261 ∷ intelligent ∷ [])
    ≡ ((no ∷ no ∷ no ∷ []) ∷ (no ∷ no ∷ no ∷ []) ∷ (no ∷ no ∷ no ∷ []) ∷ (size 66 ∷ size 66 ∷ no ∷ []) ∷ (size 66 ∷ size 66 ∷ no ∷ []) ∷ [])
    ∷ ((no ∷ no ∷ no ∷ []) ∷ (size 30 ∷ size 30 ∷ no ∷ []) ∷ (size 30 ∷ size 30 ∷ no ∷ []) ∷ (size 30 ∷ size 30 ∷ no ∷ []) ∷ (size 30 ∷ size 30 ∷ no ∷ []) ∷ [])
    ∷ []
unfolding size_given returned_size is_i2o same
rooms_of_kinds = refl

-- offsets 30 to 73: of kind 2; of kind 1, with eight zeros behind the device path; and of type I2O, whose names are padded
abbrev wide30 : List ℕ
wide30 =
    0xDD ∷ 0xBE ∷ 0x2C ∷ 0 ∷ 0 ∷ 0 ∷ 0x81 ∷ 0x82 ∷ 0x83 ∷ 0x84 ∷ 0x91 ∷ 0x92 ∷ 0x93 ∷ 0x94 ∷ 0x95 ∷ 0x96 ∷ 0x97 ∷ 0x98
    ∷ 0xA1 ∷ 0xA2 ∷ 0xA3 ∷ 0xA4 ∷ 0xA5 ∷ 0xA6 ∷ 0xA7 ∷ 0xA8
    ∷ 0xB1 ∷ 0xB2 ∷ 0xB3 ∷ 0xB4 ∷ 0xB5 ∷ 0xB6 ∷ 0xB7 ∷ 0xB8
    ∷ 0xD1 ∷ 0xD2 ∷ 0xD3 ∷ 0xD4 ∷ 0xD5 ∷ 0xD6 ∷ 0xD7 ∷ 0xD8 ∷ 0 ∷ 0x1F ∷ []

abbrev zeros30 : List ℕ
zeros30 =
    0xDD ∷ 0xBE ∷ 0x2C ∷ 0 ∷ 0 ∷ 0 ∷ 0x81 ∷ 0x82 ∷ 0x83 ∷ 0x84 ∷ 0x91 ∷ 0x92 ∷ 0x93 ∷ 0x94 ∷ 0x95 ∷ 0x96 ∷ 0x97 ∷ 0x98
    ∷ 0xA1 ∷ 0xA2 ∷ 0xA3 ∷ 0xA4 ∷ 0xA5 ∷ 0xA6 ∷ 0xA7 ∷ 0xA8
    ∷ 0xB1 ∷ 0xB2 ∷ 0xB3 ∷ 0xB4 ∷ 0xB5 ∷ 0xB6 ∷ 0xB7 ∷ 0xB8
    ∷ 0 ∷ 0 ∷ 0 ∷ 0 ∷ 0 ∷ 0 ∷ 0 ∷ 0 ∷ 0 ∷ 0xC3 ∷ []

abbrev i2o30 : List ℕ
i2o30 =
    0xDD ∷ 0xBE ∷ 0x2C ∷ 0 ∷ 0 ∷ 0 ∷ 0x50 ∷ 0x43 ∷ 0x49 ∷ 0x20 ∷ 0x49 ∷ 0x32 ∷ 0x4F ∷ 0x20 ∷ 0x20 ∷ 0x20 ∷ 0x20 ∷ 0x20
    ∷ 0xA1 ∷ 0xA2 ∷ 0xA3 ∷ 0xA4 ∷ 0xA5 ∷ 0xA6 ∷ 0xA7 ∷ 0xA8
    ∷ 0xB1 ∷ 0xB2 ∷ 0xB3 ∷ 0xB4 ∷ 0xB5 ∷ 0xB6 ∷ 0xB7 ∷ 0xB8
    ∷ 0xD1 ∷ 0xD2 ∷ 0xD3 ∷ 0xD4 ∷ 0xD5 ∷ 0xD6 ∷ 0xD7 ∷ 0xD8 ∷ 0 ∷ 0x67 ∷ []

-- a room of 76 bytes for a drive of kind 2: 66 bytes, which are those of the drive of kind 1, and 74; and one of 73, which is too short for 74
pub wide_results : map (λ asked. result_out (wide 0x6261) pointer asked (replicate 76 9)) (66 ∷ 73 ∷ 74 ∷ 0xFFFF ∷ [])
    ≡ (66 ∷ 0 ∷ (from2 ++ (from26 ++ (from30 ++ replicate 10 9))))
    ∷ (66 ∷ 0 ∷ (from2 ++ (from26 ++ (from30 ++ replicate 10 9))))
    ∷ (74 ∷ 0 ∷ (from2 ++ (from26 ++ (wide30 ++ replicate 2 9))))
    ∷ (74 ∷ 0 ∷ (from2 ++ (from26 ++ (wide30 ++ replicate 2 9))))
    ∷ []
unfolding le_bytes returned_size is_i2o same parameter_bytes block_bytes interface_bytes path_bytes padded wide_interface_bytes wide_path_bytes sum summed_bytes whole_result result_bytes result_answer
wide_results = refl

pub wide_short : result_out (wide 0x6261) pointer 74 (replicate 73 9) ≡ replicate 73 9
unfolding returned_size result_answer
wide_short = refl

-- the 74 bytes of the drive of kind 1
pub narrow-drive : result_out drive pointer 74 (replicate 75 9) ≡ 74 ∷ 0 ∷ (from2 ++ (from26 ++ (zeros30 ++ (9 ∷ []))))
unfolding le_bytes returned_size parameter_bytes block_bytes padded wide_interface_bytes wide_path_bytes sum summed_bytes whole_result result_bytes result_answer
narrow-drive = refl

-- a drive of type I2O: asked for 66 and for 73 it is answered as for 30
pub i2o_results : map (λ asked. result_out intelligent pointer asked (replicate 75 9)) (65 ∷ 66 ∷ 73 ∷ 74 ∷ [])
    ≡ (30 ∷ 0 ∷ (from2 ++ (from26 ++ replicate 45 9)))
    ∷ (30 ∷ 0 ∷ (from2 ++ (from26 ++ replicate 45 9)))
    ∷ (30 ∷ 0 ∷ (from2 ++ (from26 ++ replicate 45 9)))
    ∷ (74 ∷ 0 ∷ (from2 ++ (from26 ++ (i2o30 ++ (9 ∷ [])))))
    ∷ []
unfolding le_bytes returned_size is_i2o same parameter_bytes block_bytes padded wide_interface_bytes wide_path_bytes sum summed_bytes whole_result result_bytes result_answer
i2o_results = refl

-- the flags of 74 bytes: bits 4 to 6 do not show, and where bit 2 is set they do
pub wide-flags : map (λ flags. part 2 (result_out (wide flags) pointer 74 (replicate 74 9)) 2) (0x6271 ∷ 0x6275 ∷ []) ≡ (0x01 ∷ 0x62 ∷ []) ∷ (0x75 ∷ 0x62 ∷ []) ∷ []
unfolding le_bytes returned_size parameter_bytes block_bytes padded wide_interface_bytes wide_path_bytes sum summed_bytes whole_result result_bytes result_answer
wide-flags = refl

-- every NUL of a name is padded, wherever it stands, and no other byte; the paths, which may hold NUL, are not: bytes 36 to 47 and 64 to 73
abbrev gaps : Drive
gaps = own 2 0x6261 (0 ∷ 0x01 ∷ 0 ∷ 0x20 ∷ []) (0x02 ∷ 0 ∷ 0 ∷ 0x1F ∷ 0x21 ∷ 0 ∷ 0xFF ∷ 0 ∷ []) (0xD1 ∷ 0 ∷ 0xD3 ∷ 0 ∷ 0 ∷ 0xD6 ∷ 0xD7 ∷ 0 ∷ [])

pub gaps_padded : map (λ at. part 12 (result_out gaps pointer 74 (replicate 74 9)) at) (36 ∷ 62 ∷ [])
    ≡ (0x20 ∷ 0x01 ∷ 0x20 ∷ 0x20 ∷ 0x02 ∷ 0x20 ∷ 0x20 ∷ 0x1F ∷ 0x21 ∷ 0x20 ∷ 0xFF ∷ 0x20 ∷ [])
    ∷ (0xB7 ∷ 0xB8 ∷ 0xD1 ∷ 0 ∷ 0xD3 ∷ 0 ∷ 0 ∷ 0xD6 ∷ 0xD7 ∷ 0 ∷ 0 ∷ 0xFE ∷ [])
    ∷ []
unfolding le_bytes returned_size parameter_bytes block_bytes padded wide_interface_bytes wide_path_bytes sum summed_bytes whole_result result_bytes result_answer
gaps_padded = refl

-- and none of 66 bytes is: bytes 36 to 47
pub gaps_narrow : part 12 (result_out gaps pointer 66 (replicate 66 9)) 36
    ≡ 0 ∷ 0x01 ∷ 0 ∷ 0x20 ∷ 0x02 ∷ 0 ∷ 0 ∷ 0x1F ∷ 0x21 ∷ 0 ∷ 0xFF ∷ 0 ∷ []
unfolding le_bytes returned_size is_i2o same parameter_bytes block_bytes interface_bytes path_bytes sum summed_bytes whole_result result_bytes result_answer
gaps_narrow = refl

-- ---- the information flags, "2026-02"

-- the 128 words that a table may hold, sixteen in a row, as 48h shows them
abbrev shown : List ℕ
shown =
    0x00 ∷ 0x01 ∷ 0x02 ∷ 0x03 ∷ 0x04 ∷ 0x05 ∷ 0x06 ∷ 0x07 ∷ 0x08 ∷ 0x09 ∷ 0x0A ∷ 0x0B ∷ 0x0C ∷ 0x0D ∷ 0x0E ∷ 0x0F
    ∷ 0x00 ∷ 0x01 ∷ 0x02 ∷ 0x03 ∷ 0x14 ∷ 0x15 ∷ 0x16 ∷ 0x17 ∷ 0x08 ∷ 0x09 ∷ 0x0A ∷ 0x0B ∷ 0x1C ∷ 0x1D ∷ 0x1E ∷ 0x1F
    ∷ 0x00 ∷ 0x01 ∷ 0x02 ∷ 0x03 ∷ 0x24 ∷ 0x25 ∷ 0x26 ∷ 0x27 ∷ 0x08 ∷ 0x09 ∷ 0x0A ∷ 0x0B ∷ 0x2C ∷ 0x2D ∷ 0x2E ∷ 0x2F
    ∷ 0x00 ∷ 0x01 ∷ 0x02 ∷ 0x03 ∷ 0x34 ∷ 0x35 ∷ 0x36 ∷ 0x37 ∷ 0x08 ∷ 0x09 ∷ 0x0A ∷ 0x0B ∷ 0x3C ∷ 0x3D ∷ 0x3E ∷ 0x3F
    ∷ 0x00 ∷ 0x01 ∷ 0x02 ∷ 0x03 ∷ 0x44 ∷ 0x45 ∷ 0x46 ∷ 0x47 ∷ 0x08 ∷ 0x09 ∷ 0x0A ∷ 0x0B ∷ 0x4C ∷ 0x4D ∷ 0x4E ∷ 0x4F
    ∷ 0x00 ∷ 0x01 ∷ 0x02 ∷ 0x03 ∷ 0x54 ∷ 0x55 ∷ 0x56 ∷ 0x57 ∷ 0x08 ∷ 0x09 ∷ 0x0A ∷ 0x0B ∷ 0x5C ∷ 0x5D ∷ 0x5E ∷ 0x5F
    ∷ 0x00 ∷ 0x01 ∷ 0x02 ∷ 0x03 ∷ 0x64 ∷ 0x65 ∷ 0x66 ∷ 0x67 ∷ 0x08 ∷ 0x09 ∷ 0x0A ∷ 0x0B ∷ 0x6C ∷ 0x6D ∷ 0x6E ∷ 0x6F
    ∷ 0x00 ∷ 0x01 ∷ 0x02 ∷ 0x03 ∷ 0x74 ∷ 0x75 ∷ 0x76 ∷ 0x77 ∷ 0x08 ∷ 0x09 ∷ 0x0A ∷ 0x0B ∷ 0x7C ∷ 0x7D ∷ 0x7E ∷ 0x7F ∷ []

-- so many numbers, from one on
abbrev upward : ℕ → ℕ → List ℕ
upward from zero = []
upward from (suc n) = from ∷ upward (suc from) n

pub flags-shown : map (λ flags. flags_shown (flagged flags)) (upward 0 128) ≡ shown
flags-shown = refl

-- a place of such a list
at_place : (f : ℕ → ℕ) (from n i : ℕ) → i < n → get_or (map f (upward from n)) i 0 ≡ f (from + i)
at_place f from zero i h = absurd (omega arith)
at_place f from (suc n) zero h = ap f (omega arith)
at_place f from (suc n) (suc i) h = at_place f (suc from) n i (omega arith) ∙ ap f (omega arith)

-- the same of every drive that a table may hold: its flags have bits 7 to 15 zero
pub flags_of_table : (d : Drive) → d.flags < 128 → flags_shown d ≡ get_or shown d.flags 0
flags_of_table d h =
    let place = at_place (λ flags. flags_shown (flagged flags)) 0 128 d.flags h in
    rw zero-add at (sym place) ∙ ap (λ l. get_or l d.flags 0) flags-shown

-- words that no table holds: bits 7 to 15 stay in either case
pub flags_above : map (λ flags. flags_shown (flagged flags)) (0xFFFF ∷ 0xFFFB ∷ 0xA5F2 ∷ 0xA576 ∷ []) ≡ 0xFFFF ∷ 0xFF8B ∷ 0xA582 ∷ 0xA576 ∷ []
flags_above = refl

-- ---- the parameter table

-- byte 4: bits 6, 4, 1 and 0; none; all; those alone that are set in any case; all but those
pub drive-flags : map drive_flags (0x53 ∷ 0 ∷ 0xFF ∷ 0xA0 ∷ 0x5F ∷ []) ≡ 0xF3 ∷ 0xA0 ∷ 0xFF ∷ 0xA0 ∷ 0xFF ∷ []
drive-flags = refl

-- every byte another value
abbrev given : List ℕ
given = 0xD1 ∷ 0xD2 ∷ 0xD3 ∷ 0xD4 ∷ 0x53 ∷ 0xD6 ∷ 0xD7 ∷ 0xD8 ∷ 0xD9 ∷ 0xDA ∷ 0xDB ∷ 0xDC ∷ 0xDD ∷ 0xDE ∷ []

-- 4 D0h + 10 and 9 D0h + 90 are 2804; with F3h and 11h 3064, 8 short of 12 times 256
pub table : parameter_table given
    ≡ 0xD1 ∷ 0xD2 ∷ 0xD3 ∷ 0xD4 ∷ 0xF3 ∷ 0xD6 ∷ 0xD7 ∷ 0xD8 ∷ 0xD9 ∷ 0xDA ∷ 0xDB ∷ 0xDC ∷ 0xDD ∷ 0xDE ∷ 0x11 ∷ 0x08 ∷ []
unfolding parameter_table placed_bytes sum
table = refl

pub table-size : length (parameter_table given) ≡ parameter_size
unfolding parameter_table placed_bytes sum
table-size = refl

-- all bytes zero, all FFh, and the sum 256, to which the checksum adds nothing: A0h + 11h, 14 FFh + 11h, 4Fh + A0h + 11h
pub tables : map parameter_table (replicate 14 0 ∷ replicate 14 0xFF ∷ (0x4F ∷ replicate 13 0) ∷ [])
    ≡ (0 ∷ 0 ∷ 0 ∷ 0 ∷ 0xA0 ∷ (replicate 9 0 ++ (0x11 ∷ 0x4F ∷ [])))
    ∷ (replicate 14 0xFF ++ (0x11 ∷ 0xFD ∷ []))
    ∷ (0x4F ∷ 0 ∷ 0 ∷ 0 ∷ 0xA0 ∷ (replicate 9 0 ++ (0x11 ∷ 0 ∷ [])))
    ∷ []
unfolding parameter_table placed_bytes sum
tables = refl
