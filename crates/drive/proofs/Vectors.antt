-- A drive by number: every field with a value of its own, so that no two can be exchanged and none ignored.
-- Assumes nothing.
use mathlib.Core.Path.{◌≡◌, refl}
use mathlib.Core.Bool.{true, false}
use mathlib.Core.List.{List, [], ◌∷◌, ◌++◌, map}
use Prim.Native.Nat.{ℕ}
use lib.ListN.{set, replicate}
use lib.Seq.{sets}
use Rattle.words.specs.Words.{le, le_bytes}
use Rattle.chs.specs.Chs.{in_limits}
use Rattle.drive.specs.declared.Drive.{Drive}
use Rattle.drive.specs.Drive.{drive_of, record_of, geometry_bytes, size_bytes, name_bytes, same, bus_ok, interface_ok, geometry_of, geometry_fits, fields_ok, in_store, overlap, is_protected, blank_numbers, blank_names, is_blank, tail_of, tail_bytes, is_i2o, zero_tail, kind_ok, ata, i2o, is_drive_kind, drive_length}

-- ---- the record

-- length 68, kind 1, and then the bytes 1 to 64
abbrev counted : List ℕ
counted = 68 ∷ 0 ∷ 1 ∷ 0 ∷ 1 ∷ 2 ∷ 3 ∷ 4 ∷ 5 ∷ 6 ∷ 7 ∷ 8 ∷ 9 ∷ 10 ∷ 11 ∷ 12 ∷ 13 ∷ 14 ∷ 15 ∷ 16 ∷ 17 ∷ 18 ∷ 19 ∷ 20 ∷ 21 ∷ 22 ∷ 23 ∷ 24 ∷ 25 ∷ 26 ∷ 27 ∷ 28 ∷ 29 ∷ 30 ∷ 31 ∷ 32 ∷ 33 ∷ 34 ∷ 35 ∷ 36 ∷ 37 ∷ 38 ∷ 39 ∷ 40 ∷ 41 ∷ 42 ∷ 43 ∷ 44 ∷ 45 ∷ 46 ∷ 47 ∷ 48 ∷ 49 ∷ 50 ∷ 51 ∷ 52 ∷ 53 ∷ 54 ∷ 55 ∷ 56 ∷ 57 ∷ 58 ∷ 59 ∷ 60 ∷ 61 ∷ 62 ∷ 63 ∷ 64 ∷ []

-- the drive that they say
abbrev drive : Drive
drive = record { cylinders = 67305985; heads = 134678021; sectors = 202050057; blocks = 1446519769809227277; first = 2025241152513840661; flags = 7709; c = 8223; h = 8737; s = 35; protection = 36; bus = 37 ∷ 38 ∷ 39 ∷ 40 ∷ []; interface = 41 ∷ 42 ∷ 43 ∷ 44 ∷ 45 ∷ 46 ∷ 47 ∷ 48 ∷ []; path = 49 ∷ 50 ∷ 51 ∷ 52 ∷ 53 ∷ 54 ∷ 55 ∷ 56 ∷ []; device = 57 ∷ 58 ∷ 59 ∷ 60 ∷ 61 ∷ 62 ∷ 63 ∷ 64 ∷ []; kind = 1; tail = replicate 8 0 }

-- read, and written
pub counted-read : drive_of counted ≡ drive
unfolding drive_of tail_of le
counted-read = refl

pub counted-written : record_of drive ≡ counted
unfolding record_of geometry_bytes size_bytes name_bytes tail_bytes le_bytes
counted-written = refl

-- length 76, kind 2, and then the bytes 1 to 72 (document 02, 2026-06)
abbrev counted-wide : List ℕ
counted-wide = 76 ∷ 0 ∷ 2 ∷ 0 ∷ 1 ∷ 2 ∷ 3 ∷ 4 ∷ 5 ∷ 6 ∷ 7 ∷ 8 ∷ 9 ∷ 10 ∷ 11 ∷ 12 ∷ 13 ∷ 14 ∷ 15 ∷ 16 ∷ 17 ∷ 18 ∷ 19 ∷ 20 ∷ 21 ∷ 22 ∷ 23 ∷ 24 ∷ 25 ∷ 26 ∷ 27 ∷ 28 ∷ 29 ∷ 30 ∷ 31 ∷ 32 ∷ 33 ∷ 34 ∷ 35 ∷ 36 ∷ 37 ∷ 38 ∷ 39 ∷ 40 ∷ 41 ∷ 42 ∷ 43 ∷ 44 ∷ 45 ∷ 46 ∷ 47 ∷ 48 ∷ 49 ∷ 50 ∷ 51 ∷ 52 ∷ 53 ∷ 54 ∷ 55 ∷ 56 ∷ 57 ∷ 58 ∷ 59 ∷ 60 ∷ 61 ∷ 62 ∷ 63 ∷ 64 ∷ 65 ∷ 66 ∷ 67 ∷ 68 ∷ 69 ∷ 70 ∷ 71 ∷ 72 ∷ []

-- a drive of the same fields, of a kind and a tail
abbrev told : ℕ → List ℕ → Drive
told k t = record { cylinders = 67305985; heads = 134678021; sectors = 202050057; blocks = 1446519769809227277; first = 2025241152513840661; flags = 7709; c = 8223; h = 8737; s = 35; protection = 36; bus = 37 ∷ 38 ∷ 39 ∷ 40 ∷ []; interface = 41 ∷ 42 ∷ 43 ∷ 44 ∷ 45 ∷ 46 ∷ 47 ∷ 48 ∷ []; path = 49 ∷ 50 ∷ 51 ∷ 52 ∷ 53 ∷ 54 ∷ 55 ∷ 56 ∷ []; device = 57 ∷ 58 ∷ 59 ∷ 60 ∷ 61 ∷ 62 ∷ 63 ∷ 64 ∷ []; kind = k; tail = t }

pub counted-wide-read : drive_of counted-wide ≡ told 2 (65 ∷ 66 ∷ 67 ∷ 68 ∷ 69 ∷ 70 ∷ 71 ∷ 72 ∷ [])
unfolding drive_of tail_of le
counted-wide-read = refl

-- written: of kind 2 with its tail, and so where the tail is zero; of kind 1 the 68 bytes alone, whatever the tail is
pub counted-wide-written : map record_of (told 2 (65 ∷ 66 ∷ 67 ∷ 68 ∷ 69 ∷ 70 ∷ 71 ∷ 72 ∷ []) ∷ told 2 (replicate 8 0) ∷ told 1 (65 ∷ 66 ∷ 67 ∷ 68 ∷ 69 ∷ 70 ∷ 71 ∷ 72 ∷ []) ∷ [])
    ≡ counted-wide ∷ sets counted-wide 68 (replicate 8 0) ∷ counted ∷ []
unfolding record_of geometry_bytes size_bytes name_bytes tail_bytes le_bytes
counted-wide-written = refl

-- the bytes behind a record of kind 1 are none of its, and of its kind the high byte counts
pub counted-more : drive_of (sets counted-wide 2 (1 ∷ [])) ∷ drive_of (sets counted-wide 3 (1 ∷ [])) ∷ [] ≡ told 1 (replicate 8 0) ∷ told 258 (replicate 8 0) ∷ []
unfolding drive_of tail_of le
counted-more = refl

-- how long the records of kinds 0 to 4 and 258 would be, and which of these kinds are a drive's
pub kinds : (map drive_length (0 ∷ 1 ∷ 2 ∷ 3 ∷ 4 ∷ 258 ∷ []) ≡ 68 ∷ 68 ∷ 76 ∷ 68 ∷ 68 ∷ 68 ∷ []) × (map is_drive_kind (0 ∷ 1 ∷ 2 ∷ 3 ∷ 4 ∷ 258 ∷ []) ≡ false ∷ true ∷ true ∷ false ∷ false ∷ false ∷ [])
kinds = (refl, refl)

-- and its geometry
pub counted_geometry : geometry_of drive ≡ record { c = 8223; h = 8737; s = 35 }
counted_geometry = refl

-- ---- the rules of the fields

-- a drive that obeys them: physical 1001, 17, 62; 5,000,000,000 blocks from 123,456,789,012; flags 5Ah; C 1000, H 200, S 25;
-- protected; PCI, SCSI; paths 1 to 8 and 11 to 18
abbrev own : List ℕ
own = 68 ∷ 0 ∷ 1 ∷ 0 ∷ 233 ∷ 3 ∷ 0 ∷ 0 ∷ 17 ∷ 0 ∷ 0 ∷ 0 ∷ 62 ∷ 0 ∷ 0 ∷ 0 ∷ 0 ∷ 242 ∷ 5 ∷ 42 ∷ 1 ∷ 0 ∷ 0 ∷ 0 ∷ 20 ∷ 26 ∷ 153 ∷ 190 ∷ 28 ∷ 0 ∷ 0 ∷ 0 ∷ 90 ∷ 0 ∷ 232 ∷ 3 ∷ 200 ∷ 0 ∷ 25 ∷ 1 ∷ 80 ∷ 67 ∷ 73 ∷ 0 ∷ 83 ∷ 67 ∷ 83 ∷ 73 ∷ 0 ∷ 0 ∷ 0 ∷ 0 ∷ 1 ∷ 2 ∷ 3 ∷ 4 ∷ 5 ∷ 6 ∷ 7 ∷ 8 ∷ 11 ∷ 12 ∷ 13 ∷ 14 ∷ 15 ∷ 16 ∷ 17 ∷ 18 ∷ []

-- it, with the bytes from a place replaced
abbrev but : ℕ → List ℕ → List ℕ
but at bytes = sets own at bytes

-- each rule at its edge, and each field that has none
--   as it is: true
--   blocks 5000000 = C x H x S: true
--   blocks 4999999: false
--   blocks 0, C, H and S 1: false
--   blocks 1, C, H and S 1: true
--   first store block 0: true
--   physical geometry 0: true
--   physical geometry FFFFFFFFh: true
--   flags 127: true
--   flags 128: false
--   flags 256: false
--   C 1024, H 1: true
--   C 1025, H 1: false
--   C 0: false
--   C 1, H 255: true
--   C 1, H 256: false
--   H 0: false
--   S 63: true
--   S 64: false
--   S 0: false
--   protection 0: true
--   protection 2: false
--   host bus ISA: true
--   host bus zero: false
--   host bus SCSI: false
--   interface type ATA: true
--   interface type ATAPI: true
--   interface type USB: true
--   interface type 1394: true
--   interface type FIBRE: true
--   interface type PCI: false
--   interface type zero: false
--   interface path zero: true
--   device path FFh: true
pub rules : map (λ (r : List ℕ). fields_ok (drive_of r)) (own ∷ (but 16 (le_bytes 8 5000000)) ∷ (but 16 (le_bytes 8 4999999)) ∷ (but 16 (le_bytes 8 0 ++ le_bytes 8 9 ++ le_bytes 2 90 ++ le_bytes 2 1 ++ le_bytes 2 1 ++ (1 ∷ []))) ∷ (but 16 (le_bytes 8 1 ++ le_bytes 8 9 ++ le_bytes 2 90 ++ le_bytes 2 1 ++ le_bytes 2 1 ++ (1 ∷ []))) ∷ (but 24 (le_bytes 8 0)) ∷ (but 4 (replicate 12 0)) ∷ (but 4 (replicate 12 255)) ∷ (but 32 (le_bytes 2 127)) ∷ (but 32 (le_bytes 2 128)) ∷ (but 32 (le_bytes 2 256)) ∷ (but 34 (le_bytes 2 1024 ++ le_bytes 2 1)) ∷ (but 34 (le_bytes 2 1025 ++ le_bytes 2 1)) ∷ (but 34 (le_bytes 2 0)) ∷ (but 34 (le_bytes 2 1 ++ le_bytes 2 255)) ∷ (but 34 (le_bytes 2 1 ++ le_bytes 2 256)) ∷ (but 36 (le_bytes 2 0)) ∷ (but 38 (63 ∷ [])) ∷ (but 38 (64 ∷ [])) ∷ (but 38 (0 ∷ [])) ∷ (but 39 (0 ∷ [])) ∷ (but 39 (2 ∷ [])) ∷ (but 40 (73 ∷ 83 ∷ 65 ∷ 0 ∷ [])) ∷ (but 40 (replicate 4 0)) ∷ (but 40 (83 ∷ 67 ∷ 83 ∷ 73 ∷ [])) ∷ (but 44 (65 ∷ 84 ∷ 65 ∷ 0 ∷ 0 ∷ 0 ∷ 0 ∷ 0 ∷ [])) ∷ (but 44 (65 ∷ 84 ∷ 65 ∷ 80 ∷ 73 ∷ 0 ∷ 0 ∷ 0 ∷ [])) ∷ (but 44 (85 ∷ 83 ∷ 66 ∷ 0 ∷ 0 ∷ 0 ∷ 0 ∷ 0 ∷ [])) ∷ (but 44 (49 ∷ 51 ∷ 57 ∷ 52 ∷ 0 ∷ 0 ∷ 0 ∷ 0 ∷ [])) ∷ (but 44 (70 ∷ 73 ∷ 66 ∷ 82 ∷ 69 ∷ 0 ∷ 0 ∷ 0 ∷ [])) ∷ (but 44 (80 ∷ 67 ∷ 73 ∷ 0 ∷ 0 ∷ 0 ∷ 0 ∷ 0 ∷ [])) ∷ (but 44 (replicate 8 0)) ∷ (but 52 (replicate 8 0)) ∷ (but 60 (replicate 8 255)) ∷ [])
    ≡ true ∷ true ∷ false ∷ false ∷ true ∷ true ∷ true ∷ true ∷ true ∷ false ∷ false ∷ true ∷ false ∷ false ∷ true ∷ false ∷ false ∷ true ∷ false ∷ false ∷ true ∷ false ∷ true ∷ false ∷ false ∷ true ∷ true ∷ true ∷ true ∷ true ∷ false ∷ false ∷ true ∷ true ∷ []
unfolding le le_bytes in_limits drive_of tail_of same bus_ok interface_ok zero_tail kind_ok geometry_fits fields_ok
rules = refl

-- the same drive in a record of kind 2: its device path goes on with 21 to 28 (document 02, 2026-06)
abbrev own-wide : List ℕ
own-wide = 76 ∷ 0 ∷ 2 ∷ 0 ∷ 233 ∷ 3 ∷ 0 ∷ 0 ∷ 17 ∷ 0 ∷ 0 ∷ 0 ∷ 62 ∷ 0 ∷ 0 ∷ 0 ∷ 0 ∷ 242 ∷ 5 ∷ 42 ∷ 1 ∷ 0 ∷ 0 ∷ 0 ∷ 20 ∷ 26 ∷ 153 ∷ 190 ∷ 28 ∷ 0 ∷ 0 ∷ 0 ∷ 90 ∷ 0 ∷ 232 ∷ 3 ∷ 200 ∷ 0 ∷ 25 ∷ 1 ∷ 80 ∷ 67 ∷ 73 ∷ 0 ∷ 83 ∷ 67 ∷ 83 ∷ 73 ∷ 0 ∷ 0 ∷ 0 ∷ 0 ∷ 1 ∷ 2 ∷ 3 ∷ 4 ∷ 5 ∷ 6 ∷ 7 ∷ 8 ∷ 11 ∷ 12 ∷ 13 ∷ 14 ∷ 15 ∷ 16 ∷ 17 ∷ 18 ∷ 21 ∷ 22 ∷ 23 ∷ 24 ∷ 25 ∷ 26 ∷ 27 ∷ 28 ∷ []

abbrev with : ℕ → List ℕ → List ℕ
with at bytes = sets own-wide at bytes

-- what the kind allows
--   as it is: true
--   interface type ATA: true
--   interface type ATAPI: true
--   interface type USB: true
--   interface type 1394: true
--   interface type FIBRE: true
--   interface type I2O: true
--   I2O padded with 20h: false
--   I2O and a last byte: false
--   interface type PCI: false
--   interface type zero: false
--   device path FFh, all sixteen bytes: true
--   device path zero: true
--   blocks 0: false
--   flags 128: false
--   C 0: false
--   protection 2: false
--   host bus zero: false
--   kind 1: true
--   kind 1, I2O: false
--   kind 0: false
--   kind 3: false
--   kind 258: false
pub wide_rules : map (λ (r : List ℕ). fields_ok (drive_of r)) (own-wide ∷ (with 44 (65 ∷ 84 ∷ 65 ∷ 0 ∷ [])) ∷ (with 44 (65 ∷ 84 ∷ 65 ∷ 80 ∷ 73 ∷ [])) ∷ (with 44 (85 ∷ 83 ∷ 66 ∷ 0 ∷ [])) ∷ (with 44 (49 ∷ 51 ∷ 57 ∷ 52 ∷ [])) ∷ (with 44 (70 ∷ 73 ∷ 66 ∷ 82 ∷ 69 ∷ [])) ∷ (with 44 (73 ∷ 50 ∷ 79 ∷ 0 ∷ [])) ∷ (with 44 (73 ∷ 50 ∷ 79 ∷ replicate 5 32)) ∷ (with 44 (73 ∷ 50 ∷ 79 ∷ 0 ∷ 0 ∷ 0 ∷ 0 ∷ 1 ∷ [])) ∷ (with 44 (80 ∷ 67 ∷ 73 ∷ 0 ∷ [])) ∷ (with 44 (replicate 8 0)) ∷ (with 60 (replicate 16 255)) ∷ (with 60 (replicate 16 0)) ∷ (with 16 (replicate 8 0)) ∷ (with 32 (128 ∷ [])) ∷ (with 34 (0 ∷ 0 ∷ [])) ∷ (with 39 (2 ∷ [])) ∷ (with 40 (replicate 4 0)) ∷ (with 2 (1 ∷ [])) ∷ (sets (with 2 (1 ∷ [])) 44 (73 ∷ 50 ∷ 79 ∷ 0 ∷ [])) ∷ (with 2 (0 ∷ [])) ∷ (with 2 (3 ∷ [])) ∷ (with 3 (1 ∷ [])) ∷ [])
    ≡ true ∷ true ∷ true ∷ true ∷ true ∷ true ∷ true ∷ false ∷ false ∷ false ∷ false ∷ true ∷ true ∷ false ∷ false ∷ false ∷ false ∷ false ∷ true ∷ false ∷ false ∷ false ∷ false ∷ []
unfolding le in_limits drive_of tail_of same bus_ok interface_ok is_i2o zero_tail kind_ok geometry_fits fields_ok
wide_rules = refl

-- a drive that no record says: one block, ISA, of a kind, an interface type and a tail
abbrev literal : ℕ → List ℕ → List ℕ → Drive
literal k i t = record { cylinders = 0; heads = 0; sectors = 0; blocks = 1; first = 0; flags = 0; c = 1; h = 1; s = 1; protection = 0; bus = 73 ∷ 83 ∷ 65 ∷ 0 ∷ []; interface = i; path = replicate 8 0; device = replicate 8 0; kind = k; tail = t }

-- the kind and the tail
--   kind 1, no tail: true
--   kind 1, first byte of the tail: false
--   kind 1, last byte of the tail: false
--   kind 2, last byte of the tail: true
--   kind 2, I2O, last byte of the tail: true
--   kind 1, I2O, no tail: false
--   kind 0, no tail: false
--   kind 3, no tail: false
--   kind 65537, no tail: false
pub tails : map fields_ok (literal 1 ata (replicate 8 0) ∷ literal 1 ata (set (replicate 8 0) 0 1) ∷ literal 1 ata (set (replicate 8 0) 7 1) ∷ literal 2 ata (set (replicate 8 0) 7 1) ∷ literal 2 i2o (set (replicate 8 0) 7 1) ∷ literal 1 i2o (replicate 8 0) ∷ literal 0 ata (replicate 8 0) ∷ literal 3 ata (replicate 8 0) ∷ literal 65537 ata (replicate 8 0) ∷ [])
    ≡ true ∷ false ∷ false ∷ true ∷ true ∷ false ∷ false ∷ false ∷ false ∷ []
unfolding in_limits same bus_ok interface_ok is_i2o zero_tail kind_ok geometry_fits fields_ok
tails = refl

-- I2O is its three letters and five NUL, of either kind
pub i2os : map is_i2o (literal 1 (73 ∷ 50 ∷ 79 ∷ 0 ∷ 0 ∷ 0 ∷ 0 ∷ 0 ∷ []) (replicate 8 0) ∷ literal 2 (73 ∷ 50 ∷ 79 ∷ 0 ∷ 0 ∷ 0 ∷ 0 ∷ 0 ∷ []) (replicate 8 0) ∷ literal 2 (73 ∷ 50 ∷ 79 ∷ replicate 5 32) (replicate 8 0) ∷ literal 2 ata (73 ∷ 50 ∷ 79 ∷ 0 ∷ 0 ∷ 0 ∷ 0 ∷ 0 ∷ []) ∷ []) ≡ true ∷ true ∷ false ∷ false ∷ []
unfolding is_i2o same
i2os = refl

-- protected is byte 39, and only 1
pub protected : map (λ (x : ℕ). is_protected (drive_of (but 38 (1 ∷ x ∷ [])))) (0 ∷ 1 ∷ 2 ∷ []) ≡ false ∷ true ∷ false ∷ []
unfolding drive_of le
protected = refl

-- ---- the rules of the store

-- a drive of n blocks from a store block
abbrev at : ℕ → ℕ → Drive
at first n = drive_of (but 16 (le_bytes 8 n ++ le_bytes 8 first))

-- the end of the store
--   7 to 10 in 11: true
--   7 to 10 in 10: false
--   4 to 10 in 11: true
--   all of 2^64 - 1 from 0: true
--   a sum of 2^64, which would wrap to 0: false
--   a sum of 2^64 + 1, which would wrap to 1: false
pub ends : in_store (at 7 4) 11 ∷ in_store (at 7 4) 10 ∷ in_store (at 4 7) 11 ∷ in_store (at 0 18446744073709551615) 18446744073709551615 ∷ in_store (at 18446744073709551615 1) 18446744073709551615 ∷ in_store (at 18446744073709551615 2) 1 ∷ [] ≡ true ∷ false ∷ true ∷ true ∷ false ∷ false ∷ []
unfolding drive_of le le_bytes in_store
ends = refl

-- two drives
--   10 to 19, and 20 to 119: false
--   20 to 119, and 10 to 19: false
--   10 to 19, and 19 to 118: true
--   19 to 118, and 10 to 19: true
--   5 to 104, and 10 to 19 inside it: true
--   10 to 19, and 5 to 104 around it: true
--   10 to 19, and 10: true
--   the last blocks that there are, and the first: false
pub overlaps : overlap (at 10 10) (at 20 100) ∷ overlap (at 20 100) (at 10 10) ∷ overlap (at 10 10) (at 19 100) ∷ overlap (at 19 100) (at 10 10) ∷ overlap (at 5 100) (at 10 10) ∷ overlap (at 10 10) (at 5 100) ∷ overlap (at 10 10) (at 10 1) ∷ overlap (at 18446744073709551614 1) (at 0 18446744073709551614) ∷ [] ≡ false ∷ false ∷ true ∷ true ∷ true ∷ true ∷ true ∷ false ∷ []
unfolding drive_of le le_bytes overlap
overlaps = refl

-- ---- a blank slot

-- no field is ignored: the first and the last byte of each, set alone
abbrev edges : List ℕ
edges = 4 ∷ 7 ∷ 8 ∷ 11 ∷ 12 ∷ 15 ∷ 16 ∷ 23 ∷ 24 ∷ 31 ∷ 32 ∷ 33 ∷ 34 ∷ 35 ∷ 36 ∷ 37 ∷ 38 ∷ 39 ∷ 40 ∷ 43 ∷ 44 ∷ 51 ∷ 52 ∷ 59 ∷ 60 ∷ 67 ∷ []

pub blanks : is_blank (drive_of (replicate 68 0)) ∷ map (λ (i : ℕ). is_blank (drive_of (set (replicate 68 0) i 1))) edges ≡ true ∷ replicate 26 false
unfolding drive_of tail_of le same zero_tail blank_numbers blank_names is_blank
blanks = refl

-- nor are the kind and the tail, set alone
abbrev only : ℕ → List ℕ → Drive
only k t = record { cylinders = 0; heads = 0; sectors = 0; blocks = 0; first = 0; flags = 0; c = 0; h = 0; s = 0; protection = 0; bus = replicate 4 0; interface = replicate 8 0; path = replicate 8 0; device = replicate 8 0; kind = k; tail = t }

-- neither, or one
--   neither: true
--   kind 1: false
--   kind 2: false
--   kind 256: false
--   first byte of the tail: false
--   last byte of the tail: false
pub wide_blanks : map is_blank (only 0 (replicate 8 0) ∷ only 1 (replicate 8 0) ∷ only 2 (replicate 8 0) ∷ only 256 (replicate 8 0) ∷ only 0 (set (replicate 8 0) 0 1) ∷ only 0 (set (replicate 8 0) 7 1) ∷ []) ≡ true ∷ replicate 5 false
unfolding same zero_tail blank_numbers blank_names is_blank
wide_blanks = refl
