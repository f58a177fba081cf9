-- Document 01, "The drive table": the record of a drive, of kind 1, and the rules that one drive obeys; and document 02, 2026-06: the record of kind 2,
-- of a drive whose device path has sixteen bytes.
-- Assumes nothing.
use Rattle.std.specs.Prelude.{ℕ, ◌+◌, ◌^◌, ◌≤◌, ◌<◌, ◌≡◌, Bool, true, false, List, [], ◌∷◌, ◌++◌, length, get_or, replicate, leb, ltb, eqb}
use Rattle.logic.specs.Logic.{pick, both, either}
use Rattle.words.specs.Words.{le, le_bytes, part}
use Rattle.chs.specs.declared.Geometry.{Geometry}
use Rattle.chs.specs.Chs.{in_limits, size}
use Rattle.drive.specs.declared.Drive.{Drive}

-- ---- "The drive table", the record of a drive by its offsets

-- a drive is kind 1
abbrev pub drive_kind : ℕ
drive_kind = 1

-- or kind 2, with sixteen bytes of device path (document 02, 2026-06)
abbrev pub wide_kind : ℕ
wide_kind = 2

-- the kinds of a drive
abbrev pub is_drive_kind : ℕ → Bool
is_drive_kind kind = either (eqb kind drive_kind) (eqb kind wide_kind)

-- the record of kind 1 is 68 bytes, that of kind 2 is 76; it is asked of drives only
abbrev pub drive_length : ℕ → ℕ
drive_length kind = pick (eqb kind wide_kind) 76 68

-- the last eight bytes of a device path of sixteen, from offset 68 on; a record of kind 1 ends there, and its path goes on with zeros
unfoldable pub tail_of : List ℕ → List ℕ
tail_of r = pick (eqb (le 2 r 2) wide_kind) (part 8 r 68) (replicate 8 0)

-- the drive that a record's bytes say
unfoldable pub drive_of : List ℕ → Drive
drive_of r = record {
  cylinders = le 4 r 4;
  heads = le 4 r 8;
  sectors = le 4 r 12;
  blocks = le 8 r 16;
  first = le 8 r 24;
  flags = le 2 r 32;
  c = le 2 r 34;
  h = le 2 r 36;
  s = get_or r 38 0;
  protection = get_or r 39 0;
  bus = part 4 r 40;
  interface = part 8 r 44;
  path = part 8 r 52;
  device = part 8 r 60;
  kind = le 2 r 2;
  tail = tail_of r;
}

-- offsets 0, 2, 4, 8, 12: length, kind, physical geometry
unfoldable pub geometry_bytes : Drive → List ℕ
geometry_bytes d =
    le_bytes 2 (drive_length d.kind) ++ (le_bytes 2 d.kind ++ (le_bytes 4 d.cylinders ++ (le_bytes 4 d.heads ++ le_bytes 4 d.sectors)))

-- offsets 16, 24, 32, 34, 36: blocks, first store block, flags, C, H
unfoldable pub size_bytes : Drive → List ℕ
size_bytes d = le_bytes 8 d.blocks ++ (le_bytes 8 d.first ++ (le_bytes 2 d.flags ++ (le_bytes 2 d.c ++ le_bytes 2 d.h)))

-- offsets 38, 39, 40, 44, 52, 60: S, protection, host bus, interface type, interface path, device path's first eight bytes
unfoldable pub name_bytes : Drive → List ℕ
name_bytes d = d.s ∷ d.protection ∷ (d.bus ++ (d.interface ++ (d.path ++ d.device)))

-- offset 68, in a record of kind 2 only: device path's last eight bytes
unfoldable pub tail_bytes : Drive → List ℕ
tail_bytes d = pick (eqb d.kind wide_kind) d.tail []

-- the record's bytes of a drive
unfoldable pub record_of : Drive → List ℕ
record_of d = geometry_bytes d ++ (size_bytes d ++ (name_bytes d ++ tail_bytes d))

-- what the types of its fields say of a drive: each number fits its word, each array has its length
pub record Fits (d : Drive) : Type 0 where
  pub cylinders : d.cylinders < 256 ^ 4
  pub heads : d.heads < 256 ^ 4
  pub sectors : d.sectors < 256 ^ 4
  pub blocks : d.blocks < 256 ^ 8
  pub first : d.first < 256 ^ 8
  pub flags : d.flags < 256 ^ 2
  pub c : d.c < 256 ^ 2
  pub h : d.h < 256 ^ 2
  pub bus : length d.bus ≡ 4
  pub interface : length d.interface ≡ 8
  pub path : length d.path ≡ 8
  pub device : length d.device ≡ 8
  pub kind : d.kind < 256 ^ 2
  pub tail : length d.tail ≡ 8

-- ---- "The drive table", the rules of the fields (refusal 5)

-- two lists are the same
unfoldable pub same : List ℕ → List ℕ → Bool
same [] [] = true
same [] (y ∷ ys) = false
same (x ∷ xs) [] = false
same (x ∷ xs) (y ∷ ys) = both (eqb x y) (same xs ys)

-- host bus ISA, four bytes padded with NUL
abbrev pub isa : List ℕ
isa = 73 ∷ 83 ∷ 65 ∷ 0 ∷ []

-- host bus PCI
abbrev pub pci : List ℕ
pci = 80 ∷ 67 ∷ 73 ∷ 0 ∷ []

-- the host bus is ISA or PCI
unfoldable pub bus_ok : List ℕ → Bool
bus_ok b = either (same b isa) (same b pci)

-- interface type ATA, eight bytes padded with NUL
abbrev pub ata : List ℕ
ata = 65 ∷ 84 ∷ 65 ∷ 0 ∷ 0 ∷ 0 ∷ 0 ∷ 0 ∷ []

-- interface type ATAPI
abbrev pub atapi : List ℕ
atapi = 65 ∷ 84 ∷ 65 ∷ 80 ∷ 73 ∷ 0 ∷ 0 ∷ 0 ∷ []

-- interface type SCSI
abbrev pub scsi : List ℕ
scsi = 83 ∷ 67 ∷ 83 ∷ 73 ∷ 0 ∷ 0 ∷ 0 ∷ 0 ∷ []

-- interface type USB
abbrev pub usb : List ℕ
usb = 85 ∷ 83 ∷ 66 ∷ 0 ∷ 0 ∷ 0 ∷ 0 ∷ 0 ∷ []

-- interface type 1394
abbrev pub ieee1394 : List ℕ
ieee1394 = 49 ∷ 51 ∷ 57 ∷ 52 ∷ 0 ∷ 0 ∷ 0 ∷ 0 ∷ []

-- interface type FIBRE
abbrev pub fibre : List ℕ
fibre = 70 ∷ 73 ∷ 66 ∷ 82 ∷ 69 ∷ 0 ∷ 0 ∷ 0 ∷ []

-- interface type I2O, of kind 2 only
abbrev pub i2o : List ℕ
i2o = 73 ∷ 50 ∷ 79 ∷ 0 ∷ 0 ∷ 0 ∷ 0 ∷ 0 ∷ []

-- the interface type is one of the six
unfoldable pub interface_ok : List ℕ → Bool
interface_ok b =
    either (same b ata) (either (same b atapi) (either (same b scsi) (either (same b usb) (either (same b ieee1394) (same b fibre)))))

-- the drive's interface type is I2O
unfoldable pub is_i2o : Drive → Bool
is_i2o d = same d.interface i2o

-- the last eight bytes of the device path are zero
unfoldable pub zero_tail : Drive → Bool
zero_tail d = same d.tail (replicate 8 0)

-- what the kind allows (document 02, 2026-06): in kind 1 the six interface types, and a device path of eight bytes, behind which there is nothing;
-- in kind 2 I2O too, and any device path of sixteen
unfoldable pub kind_ok : Drive → Bool
kind_ok d =
    pick (eqb d.kind wide_kind) (either (interface_ok d.interface) (is_i2o d))
    (both (eqb d.kind drive_kind) (both (interface_ok d.interface) (zero_tail d)))

-- C, H and S of the record
abbrev pub geometry_of : Drive → Geometry
geometry_of d = record { c = d.c; h = d.h; s = d.s }

-- the geometry is inside the limits, and C x H x S is at most the blocks
unfoldable pub geometry_fits : Drive → Bool
geometry_fits d = both (in_limits (geometry_of d)) (leb (size (geometry_of d)) d.blocks)

-- every field of the record: blocks at least 1, flag bits 7 to 15 zero, the geometry, protection 0 or 1, the host bus, and what its kind allows
unfoldable pub fields_ok : Drive → Bool
fields_ok d =
    both (leb 1 d.blocks)
    (both (ltb d.flags 128)
    (both (geometry_fits d)
    (both (leb d.protection 1)
    (both (bus_ok d.bus) (kind_ok d)))))

-- ---- "The drive table", the rules of the store (refusals 6 and 7)

-- first + blocks is at most the store's blocks, a sum that never wraps
unfoldable pub in_store : Drive → ℕ → Bool
in_store d store = leb (d.first + d.blocks) store

-- store block n is one of the drive's
abbrev pub Holds : Drive → ℕ → Type 0
Holds d n = (d.first ≤ n) × (n < d.first + d.blocks)

-- two drives overlap: the one that begins first ends past the first block of the other
unfoldable pub overlap : Drive → Drive → Bool
overlap a b = pick (leb a.first b.first) (ltb b.first (a.first + a.blocks)) (ltb a.first (b.first + b.blocks))

-- ---- "Steps of each function" and "Calls the host makes", what other layers ask of a drive

-- byte 39 says that the drive is protected
abbrev pub is_protected : Drive → Bool
is_protected d = eqb d.protection 1

-- a slot of the table that holds no drive
abbrev pub zero_drive : Drive
zero_drive = record {
  cylinders = 0;
  heads = 0;
  sectors = 0;
  blocks = 0;
  first = 0;
  flags = 0;
  c = 0;
  h = 0;
  s = 0;
  protection = 0;
  bus = replicate 4 0;
  interface = replicate 8 0;
  path = replicate 8 0;
  device = replicate 8 0;
  kind = 0;
  tail = replicate 8 0;
}

-- every number is zero, as in a slot of the table that holds no drive
unfoldable pub blank_numbers : Drive → Bool
blank_numbers d =
    both (both (eqb d.cylinders 0) (both (eqb d.heads 0) (eqb d.sectors 0)))
    (both (both (eqb d.blocks 0) (eqb d.first 0))
    (both (both (eqb d.flags 0) (both (eqb d.c 0) (eqb d.h 0)))
    (both (eqb d.s 0) (both (eqb d.protection 0) (eqb d.kind 0)))))

-- every byte of the names and paths is zero
unfoldable pub blank_names : Drive → Bool
blank_names d =
    both (same d.bus (replicate 4 0))
    (both (same d.interface (replicate 8 0))
    (both (same d.path (replicate 8 0)) (both (same d.device (replicate 8 0)) (zero_tail d))))

-- every field is zero: a slot that holds no drive
unfoldable pub is_blank : Drive → Bool
is_blank d = both (blank_numbers d) (blank_names d)
