-- The desk block by number: a desk in which every field has a value of its own, and its 490 words as docs/BLOCK.md has them.
-- Assumes nothing.
use mathlib.Core.Path.{◌≡◌, refl}
use mathlib.Core.Bool.{Bool, true, false}
use mathlib.Core.List.{List, [], ◌∷◌, ◌++◌}
use Prim.Native.Nat.{ℕ, zero, suc, ◌+◌}
use lib.ListN.{length, drop, replicate}
use Rattle.words.specs.Words.{le, le_bytes}
use Rattle.drive.specs.declared.Drive.{Drive}
use Rattle.table.specs.Table.{zero_drive}
use Rattle.int13.specs.declared.Registers.{Registers}
use Rattle.desk.specs.declared.Stage.TheVariants.{Waiting, Finished}
use Rattle.desk.specs.declared.Row.{Row}
use Rattle.desk.specs.declared.Desk.{Desk}
use Rattle.desk.specs.Parts.{vacant_row}
use Rattle.image.specs.Image.{each, flat, listed, desk_words, image, mark_at, address_at, present_at, bytes_at, bads_count_at, bads_list_at, desk_size, read_stage, read_drive, read_desk, put_placement}

-- the first n words of a block: word w begins at byte 8 w, lowest byte first
abbrev words : ℕ → List ℕ → List ℕ
words zero b = []
words (suc n) b = le 8 b 0 ∷ words n (drop 8 b)

abbrev registers : ℕ → Bool → Registers
registers n carry = record { ax = n + 1; bx = n + 2; cx = n + 3; dx = n + 4; ds = n + 5; si = n + 6; es = n + 7; carry = carry }

abbrev waiting : Registers → ℕ → ℕ → ℕ → ℕ → ℕ → ℕ → Row
waiting r drive start count buffer packet moved = record {
  stage = Waiting (record { job = record { registers = r; drive = drive; start = start; count = count; buffer = buffer; packet = packet }; moved = moved });
}

abbrev finished : Registers → Row
finished r = record { stage = Finished r }

abbrev first : Drive
first = record {
  cylinders = 0x51000001;
  heads = 0x51000002;
  sectors = 0x51000003;
  blocks = 0x5100000000000004;
  first = 0x5100000000000005;
  flags = 0x5172;
  c = 0x5107;
  h = 0x5108;
  s = 0x51;
  protection = 0x52;
  bus = 0x62 ∷ 0x63 ∷ 0x64 ∷ 0x65 ∷ [];
  interface = 0x72 ∷ 0x73 ∷ 0x74 ∷ 0x75 ∷ 0x76 ∷ 0x77 ∷ 0x78 ∷ 0x79 ∷ [];
  path = 0x82 ∷ 0x83 ∷ 0x84 ∷ 0x85 ∷ 0x86 ∷ 0x87 ∷ 0x88 ∷ 0x89 ∷ [];
  device = 0x92 ∷ 0x93 ∷ 0x94 ∷ 0x95 ∷ 0x96 ∷ 0x97 ∷ 0x98 ∷ 0x99 ∷ [];
  kind = 0x5109;
  tail = 0xA2 ∷ 0xA3 ∷ 0xA4 ∷ 0xA5 ∷ 0xA6 ∷ 0xA7 ∷ 0xA8 ∷ 0xA9 ∷ [];
}

abbrev last : Drive
last = record {
  cylinders = 0xB1000001;
  heads = 0xB1000002;
  sectors = 0xB1000003;
  blocks = 0xB100000000000004;
  first = 0xB100000000000005;
  flags = 0xB106;
  c = 0xB107;
  h = 0xB108;
  s = 0xB1;
  protection = 0xB2;
  bus = 0xC2 ∷ 0xC3 ∷ 0xC4 ∷ 0xC5 ∷ [];
  interface = 0xD2 ∷ 0xD3 ∷ 0xD4 ∷ 0xD5 ∷ 0xD6 ∷ 0xD7 ∷ 0xD8 ∷ 0xD9 ∷ [];
  path = 0xE2 ∷ 0xE3 ∷ 0xE4 ∷ 0xE5 ∷ 0xE6 ∷ 0xE7 ∷ 0xE8 ∷ 0xE9 ∷ [];
  device = 0xF2 ∷ 0xF3 ∷ 0xF4 ∷ 0xF5 ∷ 0xF6 ∷ 0xF7 ∷ 0xF8 ∷ 0xF9 ∷ [];
  kind = 0xB109;
  tail = 0x12 ∷ 0x13 ∷ 0x14 ∷ 0x15 ∷ 0x16 ∷ 0x17 ∷ 0x18 ∷ 0x19 ∷ [];
}

-- waiting, finished and vacant rows with carry set and clear; drives in the first slot and the last; marks of placement and of parameters that
-- are no mirror of each other, an address for every guest, and a value of its own for each of the 112 bytes, 10h to 7Fh; and a count of bad blocks for
-- every slot and a value of its own for each of the 128 numbers
abbrev desk : Desk
desk = record {
  rows =
      waiting (registers 0x1000 true) 0x80 0x10000001 0x10000002 0x10000003 0x10000004 0x10000005
      ∷ finished (registers 0x1100 true)
      ∷ vacant_row
      ∷ waiting (registers 0x1300 false) 0x83 0x13000001 0x13000002 0x13000003 0x13000004 0x13000005
      ∷ vacant_row
      ∷ finished (registers 0x1500 false)
      ∷ waiting (registers 0x1600 true) 0x86 0x16000001 0x16000002 0x16000003 0x16000004 0x16000005
      ∷ finished (registers 0x1700 true) ∷ [];
  pointer = 5;
  table = record {
    drives = first ∷ (replicate 6 zero_drive ++ (last ∷ []));
    count = 7;
    present = false ∷ true ∷ true ∷ false ∷ false ∷ false ∷ true ∷ true ∷ [];
    parameters = listed (λ k. 0x10 + k) 0 112;
    counts = 0xA1 ∷ 0xA2 ∷ 0xA3 ∷ 0xA4 ∷ 0xA5 ∷ 0xA6 ∷ 0xA7 ∷ 0xA8 ∷ [];
    bad = flat (listed (λ k. 0x3000000000000000 + k) 0 128);
  };
  arena = 0x7172737475767778;
  store = 0x8182838485868788;
  placed = true ∷ false ∷ false ∷ true ∷ false ∷ true ∷ true ∷ true ∷ [];
  addresses =
      0x2000000000000001 ∷ 0x2000000000000002 ∷ 0x2000000000000003 ∷ 0x2000000000000004
      ∷ 0x2000000000000005 ∷ 0x2000000000000006 ∷ 0x2000000000000007 ∷ 0x2000000000000008 ∷ [];
}

-- a row: word 0 the stage; 1 to 8 AX, BX, CX, DX, DS, SI, ES and carry as posted; 9 to 14 drive, first block, number of blocks, buffer,
-- packet, blocks moved; 15 to 22 the registers to collect
abbrev row_words : List ℕ
row_words =
    (1 ∷ 0x1001 ∷ 0x1002 ∷ 0x1003 ∷ 0x1004 ∷ 0x1005 ∷ 0x1006 ∷ 0x1007 ∷ 1
    ∷ 0x80 ∷ 0x10000001 ∷ 0x10000002 ∷ 0x10000003 ∷ 0x10000004 ∷ 0x10000005 ∷ replicate 8 0)
    ++ ((2 ∷ (replicate 14 0 ++ (0x1101 ∷ 0x1102 ∷ 0x1103 ∷ 0x1104 ∷ 0x1105 ∷ 0x1106 ∷ 0x1107 ∷ 1 ∷ [])))
    ++ ((replicate 23 0)
    ++ ((1 ∷ 0x1301 ∷ 0x1302 ∷ 0x1303 ∷ 0x1304 ∷ 0x1305 ∷ 0x1306 ∷ 0x1307 ∷ 0
    ∷ 0x83 ∷ 0x13000001 ∷ 0x13000002 ∷ 0x13000003 ∷ 0x13000004 ∷ 0x13000005 ∷ replicate 8 0)
    ++ ((replicate 23 0)
    ++ ((2 ∷ (replicate 14 0 ++ (0x1501 ∷ 0x1502 ∷ 0x1503 ∷ 0x1504 ∷ 0x1505 ∷ 0x1506 ∷ 0x1507 ∷ 0 ∷ [])))
    ++ ((1 ∷ 0x1601 ∷ 0x1602 ∷ 0x1603 ∷ 0x1604 ∷ 0x1605 ∷ 0x1606 ∷ 0x1607 ∷ 1
    ∷ 0x86 ∷ 0x16000001 ∷ 0x16000002 ∷ 0x16000003 ∷ 0x16000004 ∷ 0x16000005 ∷ replicate 8 0)
    ++ (2 ∷ (replicate 14 0 ++ (0x1701 ∷ 0x1702 ∷ 0x1703 ∷ 0x1704 ∷ 0x1705 ∷ 0x1706 ∷ 0x1707 ∷ 1 ∷ [])))))))))

-- a slot: physical cylinders, heads, sectors, blocks, first store block; flags, C, H, S, protection; host bus, interface type, the two paths; kind and the device
-- path's last eight bytes
abbrev slot_words : List ℕ
slot_words =
    0x51000001 ∷ 0x51000002 ∷ 0x51000003 ∷ 0x5100000000000004 ∷ 0x5100000000000005
    ∷ 0x5172 ∷ 0x5107 ∷ 0x5108 ∷ 0x51 ∷ 0x52
    ∷ 0x65646362 ∷ 0x7978777675747372 ∷ 0x8988878685848382 ∷ 0x9998979695949392 ∷ 0x5109 ∷ 0xA9A8A7A6A5A4A3A2
    ∷ (replicate 96 0 ++ (
    0xB1000001 ∷ 0xB1000002 ∷ 0xB1000003 ∷ 0xB100000000000004 ∷ 0xB100000000000005
    ∷ 0xB106 ∷ 0xB107 ∷ 0xB108 ∷ 0xB1 ∷ 0xB2
    ∷ 0xC5C4C3C2 ∷ 0xD9D8D7D6D5D4D3D2 ∷ 0xE9E8E7E6E5E4E3E2 ∷ 0xF9F8F7F6F5F4F3F2 ∷ 0xB109 ∷ 0x1918171615141312 ∷ []))

-- the guests' marks of placement and their addresses
abbrev place_words : List ℕ
place_words =
    1 ∷ 0 ∷ 0 ∷ 1 ∷ 0 ∷ 1 ∷ 1 ∷ 1
    ∷ 0x2000000000000001 ∷ 0x2000000000000002 ∷ 0x2000000000000003 ∷ 0x2000000000000004
    ∷ 0x2000000000000005 ∷ 0x2000000000000006 ∷ 0x2000000000000007 ∷ 0x2000000000000008 ∷ []

-- the slots' marks of parameters, and their bytes
abbrev parameter_words : List ℕ
parameter_words =
    0 ∷ 1 ∷ 1 ∷ 0 ∷ 0 ∷ 0 ∷ 1 ∷ 1
    ∷ 0x1716151413121110 ∷ 0x1F1E1D1C1B1A1918 ∷ 0x2726252423222120 ∷ 0x2F2E2D2C2B2A2928 ∷ 0x3736353433323130 ∷ 0x3F3E3D3C3B3A3938 ∷ 0x4746454443424140
    ∷ 0x4F4E4D4C4B4A4948 ∷ 0x5756555453525150 ∷ 0x5F5E5D5C5B5A5958 ∷ 0x6766656463626160 ∷ 0x6F6E6D6C6B6A6968 ∷ 0x7776757473727170 ∷ 0x7F7E7D7C7B7A7978 ∷ []

-- the slots' counts of bad blocks, and sixteen numbers for each
abbrev bad_words : List ℕ
bad_words = 0xA1 ∷ 0xA2 ∷ 0xA3 ∷ 0xA4 ∷ 0xA5 ∷ 0xA6 ∷ 0xA7 ∷ 0xA8 ∷ listed (λ k. 0x3000000000000000 + k) 0 128

-- number of drives, turn pointer, arena length, store length; then those
pub block : words 490 (image desk)
    ≡ row_words ++ (slot_words ++ ((7 ∷ 5 ∷ 0x7172737475767778 ∷ 0x8182838485868788 ∷ []) ++ (place_words ++ (parameter_words ++ bad_words))))
unfolding image desk_words each le_bytes le
block = refl

pub block-length : length (image desk) ≡ 3920
unfolding image desk_words each le_bytes
block-length = refl

-- the places as docs/BLOCK.md has them: a guest's mark and address, a slot's mark, fourteen bytes for each slot, a slot's count of bad blocks, sixteen
-- numbers for each slot, the size
pub places :
    mark_at 0 ∷ mark_at 7 ∷ address_at 0 ∷ address_at 7 ∷ present_at 0 ∷ present_at 7 ∷ bytes_at 0 ∷ bytes_at 1 ∷ bytes_at 7
    ∷ bads_count_at 0 ∷ bads_count_at 7 ∷ bads_list_at 0 ∷ bads_list_at 1 ∷ bads_list_at 7 ∷ desk_size ∷ []
    ≡ 2528 ∷ 2584 ∷ 2592 ∷ 2648 ∷ 2656 ∷ 2712 ∷ 2720 ∷ 2734 ∷ 2818
    ∷ 2832 ∷ 2888 ∷ 2896 ∷ 3024 ∷ 3792 ∷ 3920 ∷ []
places = refl

-- read back: each field from its own words
pub read_back : read_desk (image desk) ≡ desk
unfolding image desk_words each le_bytes le read_desk read_stage read_drive
read_back = refl

-- guest 4 placed: its mark and its address, and no other's
pub placed : words 24 (drop 2528 (put_placement (image desk) 4 0x2122232425262728))
    ≡ 1 ∷ 0 ∷ 0 ∷ 1 ∷ 1 ∷ 1 ∷ 1 ∷ 1
    ∷ 0x2000000000000001 ∷ 0x2000000000000002 ∷ 0x2000000000000003 ∷ 0x2000000000000004
    ∷ 0x2122232425262728 ∷ 0x2000000000000006 ∷ 0x2000000000000007 ∷ 0x2000000000000008
    ∷ 0 ∷ 1 ∷ 1 ∷ 0 ∷ 0 ∷ 0 ∷ 1 ∷ 1 ∷ []
unfolding put_placement image desk_words each le_bytes le
placed = refl
