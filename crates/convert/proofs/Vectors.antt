-- The converters by number: a record with a value of its own in every field, both ways, and every refusal with what is then in the buffer.
-- Assumes nothing.
use mathlib.Core.Path.{◌≡◌, refl}
use mathlib.Core.Bool.{true, false}
use mathlib.Core.List.{List, [], ◌∷◌, ◌++◌, map}
use Prim.Native.Nat.{ℕ}
use lib.ListN.{take, replicate}
use lib.Seq.{sets}
use Rattle.words.specs.Words.{le, le_bytes}
use Rattle.chs.specs.Chs.{in_limits}
use Rattle.drive.specs.Drive.{drive_of, tail_of, same, i2o, bus_ok, interface_ok, is_i2o, zero_tail, kind_ok, geometry_fits, fields_ok, in_store, overlap}
use Rattle.convert.specs.Convert.{conversion_number, is_record, sound_record, shared, up_bytes, up_ok, up_answer, up_out, down_bytes, down_ok, down_answer, down_out}

-- ---- both ways

-- kind 1: physical geometry of the bytes 1 to 12, blocks 13 to 20, first store block 21 to 28; flags 5Ah; C 1000, H 200, S 25; protected; PCI, SCSI;
-- paths 101 to 108 and 111 to 118
abbrev own : List ℕ
own = 68 ∷ 0 ∷ 1 ∷ 0 ∷ 1 ∷ 2 ∷ 3 ∷ 4 ∷ 5 ∷ 6 ∷ 7 ∷ 8 ∷ 9 ∷ 10 ∷ 11 ∷ 12 ∷ 13 ∷ 14 ∷ 15 ∷ 16 ∷ 17 ∷ 18 ∷ 19 ∷ 20 ∷ 21 ∷ 22 ∷ 23 ∷ 24 ∷ 25 ∷ 26 ∷ 27 ∷ 28 ∷ 90 ∷ 0 ∷ 232 ∷ 3 ∷ 200 ∷ 0 ∷ 25 ∷ 1 ∷ 80 ∷ 67 ∷ 73 ∷ 0 ∷ 83 ∷ 67 ∷ 83 ∷ 73 ∷ 0 ∷ 0 ∷ 0 ∷ 0 ∷ 101 ∷ 102 ∷ 103 ∷ 104 ∷ 105 ∷ 106 ∷ 107 ∷ 108 ∷ 111 ∷ 112 ∷ 113 ∷ 114 ∷ 115 ∷ 116 ∷ 117 ∷ 118 ∷ []

-- and kind 2
abbrev wide : List ℕ
wide = 76 ∷ 0 ∷ 2 ∷ 0 ∷ 1 ∷ 2 ∷ 3 ∷ 4 ∷ 5 ∷ 6 ∷ 7 ∷ 8 ∷ 9 ∷ 10 ∷ 11 ∷ 12 ∷ 13 ∷ 14 ∷ 15 ∷ 16 ∷ 17 ∷ 18 ∷ 19 ∷ 20 ∷ 21 ∷ 22 ∷ 23 ∷ 24 ∷ 25 ∷ 26 ∷ 27 ∷ 28 ∷ 90 ∷ 0 ∷ 232 ∷ 3 ∷ 200 ∷ 0 ∷ 25 ∷ 1 ∷ 80 ∷ 67 ∷ 73 ∷ 0 ∷ 83 ∷ 67 ∷ 83 ∷ 73 ∷ 0 ∷ 0 ∷ 0 ∷ 0 ∷ 101 ∷ 102 ∷ 103 ∷ 104 ∷ 105 ∷ 106 ∷ 107 ∷ 108 ∷ 111 ∷ 112 ∷ 113 ∷ 114 ∷ 115 ∷ 116 ∷ 117 ∷ 118 ∷ 0 ∷ 0 ∷ 0 ∷ 0 ∷ 0 ∷ 0 ∷ 0 ∷ 0 ∷ []

-- a buffer of so many bytes, before the call
abbrev blank : ℕ → List ℕ
blank n = replicate n 255

pub up-own : (conversion_number (up_answer own 76) ≡ 0) × (up_out own (blank 76) ≡ wide)
unfolding le le_bytes in_limits drive_of tail_of same bus_ok interface_ok is_i2o zero_tail kind_ok geometry_fits fields_ok is_record sound_record shared up_bytes conversion_number up_ok up_answer up_out
up-own = (refl, refl)

pub down-wide : (conversion_number (down_answer wide 68) ≡ 0) × (down_out wide (blank 68) ≡ own)
unfolding le le_bytes in_limits drive_of tail_of same bus_ok interface_ok is_i2o zero_tail kind_ok geometry_fits fields_ok is_record sound_record shared down_bytes conversion_number down_ok down_answer down_out
down-wide = (refl, refl)

-- ---- refusals

-- a record, with the bytes from a place replaced
abbrev with : ℕ → List ℕ → List ℕ → List ℕ
with at bytes r = sets r at bytes

-- the answer, and what is then in the buffer
abbrev up_told : List ℕ × ℕ → ℕ × List ℕ
up_told (r, room) = (conversion_number (up_answer r room), up_out r (blank room))

abbrev down_told : List ℕ × ℕ → ℕ × List ℕ
down_told (r, room) = (conversion_number (down_answer r room), down_out r (blank room))

abbrev refused : List ℕ × ℕ → ℕ × List ℕ
refused (r, room) = (10, blank room)

-- of what does not go up
--   67 bytes
--   69 bytes
--   room 75
--   room 77
--   room 68
--   76 bytes and room 68: the sizes of down
--   a record of kind 2
--   67 bytes that say so
--   length word 76
--   length word 67
--   length word 324, whose low byte is 68
--   kind word 0
--   kind word 2
--   kind word 257, whose low byte is 1
--   I2O
--   interface type padded with 20h
--   blocks 0
--   flags 128
--   C 0
--   C x H x S is 5000000, and the blocks one less
--   protection 2
--   host bus zero
--   nothing
abbrev ups : List (List ℕ × ℕ)
ups = (take 67 own, 76) ∷ (own ++ (0 ∷ []), 76) ∷ (own, 75) ∷ (own, 77) ∷ (own, 68) ∷ (wide, 68) ∷ (wide, 76) ∷ (take 67 (with 0 (67 ∷ []) own), 76) ∷ (with 0 (76 ∷ []) own, 76) ∷ (with 0 (67 ∷ []) own, 76) ∷ (with 1 (1 ∷ []) own, 76) ∷ (with 2 (0 ∷ []) own, 76) ∷ (with 2 (2 ∷ []) own, 76) ∷ (with 3 (1 ∷ []) own, 76) ∷ (with 44 i2o own, 76) ∷ (with 44 (83 ∷ 67 ∷ 83 ∷ 73 ∷ 32 ∷ 32 ∷ 32 ∷ 32 ∷ []) own, 76) ∷ (with 16 (replicate 8 0) own, 76) ∷ (with 32 (128 ∷ []) own, 76) ∷ (with 34 (replicate 2 0) own, 76) ∷ (with 16 (le_bytes 8 4999999) own, 76) ∷ (with 39 (2 ∷ []) own, 76) ∷ (with 40 (replicate 4 0) own, 76) ∷ ([], 76) ∷ []

pub ups_refused : map up_told ups ≡ map refused ups
unfolding le le_bytes in_limits drive_of tail_of same bus_ok interface_ok is_i2o zero_tail kind_ok geometry_fits fields_ok is_record sound_record shared up_bytes conversion_number up_ok up_answer up_out
ups_refused = refl

-- of what does not go down
--   75 bytes
--   77 bytes
--   room 67
--   room 69
--   room 76
--   68 bytes and room 76: the sizes of up
--   a record of kind 1
--   75 bytes that say so
--   77 bytes that say so
--   length word 68
--   length word 332, whose low byte is 76
--   kind word 1
--   kind word 3
--   kind word 258, whose low byte is 2
--   blocks 0
--   protection 2
--   interface type zero
--   I2O padded with 20h
--   nothing
abbrev downs : List (List ℕ × ℕ)
downs = (take 75 wide, 68) ∷ (wide ++ (0 ∷ []), 68) ∷ (wide, 67) ∷ (wide, 69) ∷ (wide, 76) ∷ (own, 76) ∷ (own, 68) ∷ (take 75 (with 0 (75 ∷ []) wide), 68) ∷ (with 0 (77 ∷ []) wide ++ (0 ∷ []), 68) ∷ (with 0 (68 ∷ []) wide, 68) ∷ (with 1 (1 ∷ []) wide, 68) ∷ (with 2 (1 ∷ []) wide, 68) ∷ (with 2 (3 ∷ []) wide, 68) ∷ (with 3 (1 ∷ []) wide, 68) ∷ (with 16 (replicate 8 0) wide, 68) ∷ (with 39 (2 ∷ []) wide, 68) ∷ (with 44 (replicate 8 0) wide, 68) ∷ (with 44 (73 ∷ 50 ∷ 79 ∷ 32 ∷ 32 ∷ 32 ∷ 32 ∷ 32 ∷ []) wide, 68) ∷ ([], 68) ∷ []

pub downs_refused : map down_told downs ≡ map refused downs
unfolding le le_bytes in_limits drive_of tail_of same bus_ok interface_ok is_i2o zero_tail kind_ok geometry_fits fields_ok is_record sound_record shared down_bytes conversion_number down_ok down_answer down_out
downs_refused = refl

-- and of what is sound, but kind 1 cannot say it
--   I2O
--   first byte of the tail
--   last byte of the tail
--   both
abbrev wides : List (List ℕ × ℕ)
wides = (with 44 i2o wide, 68) ∷ (with 68 (1 ∷ []) wide, 68) ∷ (with 75 (1 ∷ []) wide, 68) ∷ (with 75 (1 ∷ []) (with 44 i2o wide), 68) ∷ []

pub wides_sound : map (λ (x : List ℕ × ℕ). sound_record 2 x.0) wides ≡ true ∷ true ∷ true ∷ true ∷ []
unfolding le le_bytes in_limits drive_of tail_of same bus_ok interface_ok is_i2o zero_tail kind_ok geometry_fits fields_ok is_record sound_record shared down_bytes conversion_number down_ok down_answer down_out
wides_sound = refl

pub wides_refused : map down_told wides ≡ map refused wides
unfolding le le_bytes in_limits drive_of tail_of same bus_ok interface_ok is_i2o zero_tail kind_ok geometry_fits fields_ok is_record sound_record shared down_bytes conversion_number down_ok down_answer down_out
wides_refused = refl

-- ---- where its blocks lie is no matter

-- a drive that ends past every store, and that a table cannot have twice
abbrev far : List ℕ
far = with 24 (replicate 8 255) own

pub far_outside : (in_store (drive_of far) 18446744073709551615 ≡ false) × (overlap (drive_of far) (drive_of far) ≡ true)
unfolding drive_of le in_store overlap
far_outside = (refl, refl)

pub far_converted : (conversion_number (up_answer far 76) ≡ 0) × ((up_out far (blank 76) ≡ with 24 (replicate 8 255) wide) × (conversion_number (down_answer (up_bytes far) 68) ≡ 0))
unfolding le le_bytes in_limits drive_of tail_of same bus_ok interface_ok is_i2o zero_tail kind_ok geometry_fits fields_ok is_record sound_record shared up_bytes up_ok up_answer up_out down_bytes conversion_number down_ok down_answer down_out
far_converted = (refl, (refl, refl))
