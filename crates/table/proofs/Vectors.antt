-- Tables by number: document 01's 72 bytes, tables that fail one check or two adjoining ones, tables with parameters, with bad blocks, and with
-- drives of kind 2.
-- Assumes nothing.
use mathlib.Core.Path.{◌≡◌, refl}
use mathlib.Core.Bool.{Bool, true, false}
use mathlib.Core.List.{List, [], ◌∷◌, ◌++◌, map}
use Prim.Native.Nat.{ℕ, zero, suc, ◌+◌, ◌*◌}
use lib.ListN.{length, take, drop, replicate}
use lib.Seq.{sets}
use Rattle.words.specs.Words.{le, le_bytes}
use Rattle.chs.specs.Chs.{in_limits}
use Rattle.drive.specs.declared.Drive.{Drive}
use Rattle.drive.specs.Drive.{drive_of, record_of, geometry_bytes, size_bytes, name_bytes, same, bus_ok, interface_ok, geometry_fits, fields_ok, in_store, overlap, blank_numbers, blank_names, is_blank, is_i2o, kind_ok, tail_bytes, tail_of, zero_tail, usb, i2o}
use Rattle.attached.specs.Parameters.{parameters_record}
use Rattle.attached.specs.Bad.{bad_count, bad_length_ok, bads_in, held_of, bad_record, bad_at, ascends, are_blocks, list_ok, zero_past, bads_ok}
use Rattle.table.specs.declared.Table.{Table}
use Rattle.table.specs.Table.{header_of, header_at, overlaps_any, refusal, parameters_refusal, bads_at, bads_refusal, record_refusal, with_record, record_step, end_step, step_of, step_at, zero_drive, empty_table, read_from, read_table, records_of, bytes_of, table_of, next_place, is_unfinished, longest_record, longest_table, write_answer, write_out, sound_to, blank_to, attached_to, listed_to, is_sound, parameters_to, step_numbers, answer_numbers, written_numbers, record_numbers, numbers_from, table_numbers, write_numbers}

-- the drive record of document 01's table, and the end record
abbrev pub record₁ : List ℕ
record₁ = 68 ∷ 0 ∷ 1 ∷ 0 ∷ 2 ∷ 0 ∷ 0 ∷ 0 ∷ 16 ∷ 0 ∷ 0 ∷ 0 ∷ 63 ∷ 0 ∷ 0 ∷ 0 ∷ 0 ∷ 8 ∷ 0 ∷ 0 ∷ 0 ∷ 0 ∷ 0 ∷ 0 ∷ 0 ∷ 0 ∷ 0 ∷ 0 ∷ 0 ∷ 0 ∷ 0 ∷ 0 ∷ 2 ∷ 0 ∷ 2 ∷ 0 ∷ 16 ∷ 0 ∷ 63 ∷ 0 ∷ 80 ∷ 67 ∷ 73 ∷ 0 ∷ 65 ∷ 84 ∷ 65 ∷ 0 ∷ 0 ∷ 0 ∷ 0 ∷ 0 ∷ 0 ∷ 31 ∷ 1 ∷ 0 ∷ 0 ∷ 0 ∷ 0 ∷ 0 ∷ 0 ∷ 0 ∷ 0 ∷ 0 ∷ 0 ∷ 0 ∷ 0 ∷ 0 ∷ []

abbrev pub end : List ℕ
end = 4 ∷ 0 ∷ 0 ∷ 0 ∷ []

-- its store
abbrev pub store : ℕ
store = 4294967296

-- the record with the bytes from a place replaced
abbrev pub but : ℕ → List ℕ → List ℕ
but at bytes = sets record₁ at bytes

-- a drive of 2048 blocks from a store block
abbrev pub from : ℕ → List ℕ
from n = but 24 (le_bytes 8 n)

-- k drives, each after the other
abbrev pub drives : ℕ → List ℕ
drives zero = []
drives (suc k) = drives k ++ from (2048 * k)

-- the same drive in a record of kind 2, with sixteen bytes of device path, 151 to 166 (document 02, 2026-06)
abbrev pub record₂ : List ℕ
record₂ = 76 ∷ 0 ∷ 2 ∷ 0 ∷ 2 ∷ 0 ∷ 0 ∷ 0 ∷ 16 ∷ 0 ∷ 0 ∷ 0 ∷ 63 ∷ 0 ∷ 0 ∷ 0 ∷ 0 ∷ 8 ∷ 0 ∷ 0 ∷ 0 ∷ 0 ∷ 0 ∷ 0 ∷ 0 ∷ 0 ∷ 0 ∷ 0 ∷ 0 ∷ 0 ∷ 0 ∷ 0 ∷ 2 ∷ 0 ∷ 2 ∷ 0 ∷ 16 ∷ 0 ∷ 63 ∷ 0 ∷ 80 ∷ 67 ∷ 73 ∷ 0 ∷ 65 ∷ 84 ∷ 65 ∷ 0 ∷ 0 ∷ 0 ∷ 0 ∷ 0 ∷ 0 ∷ 31 ∷ 1 ∷ 0 ∷ 0 ∷ 0 ∷ 0 ∷ 0 ∷ 151 ∷ 152 ∷ 153 ∷ 154 ∷ 155 ∷ 156 ∷ 157 ∷ 158 ∷ 159 ∷ 160 ∷ 161 ∷ 162 ∷ 163 ∷ 164 ∷ 165 ∷ 166 ∷ []

-- it, with the bytes from a place replaced
abbrev with : ℕ → List ℕ → List ℕ
with at bytes = sets record₂ at bytes

-- the same drive from a store block
abbrev pub wide : ℕ → List ℕ
wide n = with 24 (le_bytes 8 n)

abbrev answers : List (List ℕ) → List (List ℕ)
answers = map (λ (t : List ℕ). answer_numbers (read_table t store).answer)

-- tables that pass: document 01's 72 bytes, no drives, eight drives
--   72 bytes: 0
--   no drives: 0
--   eight drives: 0
pub passing : answers ((record₁ ++ end) ∷ end ∷ (drives 8 ++ end) ∷ [])
    ≡ (0 ∷ []) ∷ (0 ∷ []) ∷ (0 ∷ []) ∷ []
unfolding le le_bytes in_limits drive_of same bus_ok interface_ok geometry_fits fields_ok in_store overlap header_of header_at overlaps_any refusal parameters_refusal record_refusal with_record record_step end_step step_of step_at read_from read_table answer_numbers tail_of is_i2o zero_tail kind_ok
passing = refl

-- the order of the checks, each adjoining pair with both faults
--   no byte: 1 at 0
--   three bytes, of an unknown kind: 1 at 0
--   unknown kind and wrong length: 3 at 0
--   wrong length and cut off: 2 at 0
--   an end record of length 5: 2 at 0
--   cut off, with a bad field: 1 at 0
--   a ninth drive, cut off: 1 at 544
--   a ninth drive with a bad field: 4 at 544
--   a bad field, past the store: 5 at 0
--   past the store, and overlapping: 6 at 68
--   overlapping, with a byte after the end: 7 at 68
pub order : answers ([] ∷ (4 ∷ 0 ∷ 9 ∷ []) ∷ (5 ∷ 0 ∷ 9 ∷ 0 ∷ []) ∷ (67 ∷ 0 ∷ 1 ∷ 0 ∷ []) ∷ (5 ∷ 0 ∷ 0 ∷ 0 ∷ 0 ∷ []) ∷ (take 67 (but 39 (2 ∷ []))) ∷ (drives 8 ++ take 67 record₁) ∷ (drives 8 ++ but 39 (2 ∷ []) ++ end) ∷ (but 24 (le_bytes 8 store ++ le_bytes 2 128) ++ end) ∷ (from 4294965248 ++ from 4294967295 ++ end) ∷ (record₁ ++ record₁ ++ end ++ end) ∷ [])
    ≡ (1 ∷ 0 ∷ []) ∷ (1 ∷ 0 ∷ []) ∷ (3 ∷ 0 ∷ []) ∷ (2 ∷ 0 ∷ []) ∷ (2 ∷ 0 ∷ []) ∷ (1 ∷ 0 ∷ []) ∷ (1 ∷ 544 ∷ []) ∷ (4 ∷ 544 ∷ []) ∷ (5 ∷ 0 ∷ []) ∷ (6 ∷ 68 ∷ []) ∷ (7 ∷ 68 ∷ []) ∷ []
unfolding le le_bytes in_limits drive_of same bus_ok interface_ok geometry_fits fields_ok in_store overlap header_of header_at overlaps_any refusal parameters_refusal record_refusal with_record record_step end_step step_of step_at read_from read_table answer_numbers tail_of is_i2o zero_tail kind_ok
order = refl

-- the places of refusals
--   a table with no end record: 1 at 68
--   a byte after the end record: 8 at 4
--   a byte after the end record of a table: 8 at 72
--   an unknown kind after a drive: 3 at 68
pub places : answers (record₁ ∷ (end ++ (0 ∷ [])) ∷ (record₁ ++ end ++ (0 ∷ [])) ∷ (record₁ ++ (4 ∷ 0 ∷ 5 ∷ 0 ∷ [])) ∷ [])
    ≡ (1 ∷ 68 ∷ []) ∷ (8 ∷ 4 ∷ []) ∷ (8 ∷ 72 ∷ []) ∷ (3 ∷ 68 ∷ []) ∷ []
unfolding le le_bytes in_limits drive_of same bus_ok interface_ok geometry_fits fields_ok in_store overlap header_of header_at overlaps_any refusal parameters_refusal record_refusal with_record record_step end_step step_of step_at read_from read_table answer_numbers tail_of is_i2o zero_tail kind_ok
places = refl

-- one damaged byte in every field that has a rule
--   blocks 0: 5 at 0
--   blocks 2015, below C x H x S: 5 at 0
--   flag bit 7: 5 at 0
--   flag bit 15: 5 at 0
--   C 0: 5 at 0
--   C 1025: 5 at 0
--   H 0: 5 at 0
--   H 256: 5 at 0
--   S 0: 5 at 0
--   S 64: 5 at 0
--   protection 2: 5 at 0
--   host bus padded with a space: 5 at 0
--   host bus PCX: 5 at 0
--   interface type ATA and a byte: 5 at 0
--   interface type I2O: 5 at 0
pub fields : answers ((but 16 (le_bytes 8 0) ++ end) ∷ (but 16 (le_bytes 8 2015) ++ end) ∷ (but 32 (128 ∷ []) ++ end) ∷ (but 33 (128 ∷ []) ++ end) ∷ (but 34 (le_bytes 2 0) ++ end) ∷ (but 16 (le_bytes 8 2000000 ++ le_bytes 8 0 ++ le_bytes 2 2 ++ le_bytes 2 1025) ++ end) ∷ (but 36 (le_bytes 2 0) ++ end) ∷ (but 36 (le_bytes 2 256) ++ end) ∷ (but 38 (0 ∷ []) ++ end) ∷ (but 38 (64 ∷ []) ++ end) ∷ (but 39 (2 ∷ []) ++ end) ∷ (but 43 (32 ∷ []) ++ end) ∷ (but 42 (88 ∷ []) ++ end) ∷ (but 51 (1 ∷ []) ++ end) ∷ (but 44 (73 ∷ 50 ∷ 79 ∷ []) ++ end) ∷ [])
    ≡ (5 ∷ 0 ∷ []) ∷ (5 ∷ 0 ∷ []) ∷ (5 ∷ 0 ∷ []) ∷ (5 ∷ 0 ∷ []) ∷ (5 ∷ 0 ∷ []) ∷ (5 ∷ 0 ∷ []) ∷ (5 ∷ 0 ∷ []) ∷ (5 ∷ 0 ∷ []) ∷ (5 ∷ 0 ∷ []) ∷ (5 ∷ 0 ∷ []) ∷ (5 ∷ 0 ∷ []) ∷ (5 ∷ 0 ∷ []) ∷ (5 ∷ 0 ∷ []) ∷ (5 ∷ 0 ∷ []) ∷ (5 ∷ 0 ∷ []) ∷ []
unfolding le le_bytes in_limits drive_of same bus_ok interface_ok geometry_fits fields_ok in_store overlap header_of header_at overlaps_any refusal parameters_refusal record_refusal with_record record_step end_step step_of step_at read_from read_table answer_numbers tail_of is_i2o zero_tail kind_ok
fields = refl

-- every permitted value at the edge of its rule
--   blocks 2016: 0
--   flags 7Fh: 0
--   C 1024, H 255, S 63: 0
--   C, H and S 1: 0
--   protection 1: 0
--   ISA: 0
--   ATAPI: 0
--   SCSI: 0
--   USB: 0
--   1394: 0
--   FIBRE: 0
--   paths of any bytes: 0
pub good : answers ((but 16 (le_bytes 8 2016) ++ end) ∷ (but 32 (127 ∷ []) ++ end) ∷ (but 16 (le_bytes 8 16450560 ++ le_bytes 8 0 ++ le_bytes 2 2 ++ le_bytes 2 1024 ++ le_bytes 2 255) ++ end) ∷ (but 34 (le_bytes 2 1 ++ le_bytes 2 1 ++ (1 ∷ [])) ++ end) ∷ (but 39 (1 ∷ []) ++ end) ∷ (but 40 (73 ∷ 83 ∷ 65 ∷ 0 ∷ []) ++ end) ∷ (but 44 (65 ∷ 84 ∷ 65 ∷ 80 ∷ 73 ∷ []) ++ end) ∷ (but 44 (83 ∷ 67 ∷ 83 ∷ 73 ∷ []) ++ end) ∷ (but 44 (85 ∷ 83 ∷ 66 ∷ []) ++ end) ∷ (but 44 (49 ∷ 51 ∷ 57 ∷ 52 ∷ []) ++ end) ∷ (but 44 (70 ∷ 73 ∷ 66 ∷ 82 ∷ 69 ∷ []) ++ end) ∷ (but 52 (replicate 16 255) ++ end) ∷ [])
    ≡ (0 ∷ []) ∷ (0 ∷ []) ∷ (0 ∷ []) ∷ (0 ∷ []) ∷ (0 ∷ []) ∷ (0 ∷ []) ∷ (0 ∷ []) ∷ (0 ∷ []) ∷ (0 ∷ []) ∷ (0 ∷ []) ∷ (0 ∷ []) ∷ (0 ∷ []) ∷ []
unfolding le le_bytes in_limits drive_of same bus_ok interface_ok geometry_fits fields_ok in_store overlap header_of header_at overlaps_any refusal parameters_refusal record_refusal with_record record_step end_step step_of step_at read_from read_table answer_numbers tail_of is_i2o zero_tail kind_ok
good = refl

-- the store's end, with no sum that wraps
--   first + blocks = 2^32: 0
--   first + blocks = 2^32 + 1: 6 at 0
--   first 2^64 - 1: 6 at 0
--   first 2^64 - 2048: 6 at 0
pub store-end : answers ((from 4294965248 ++ end) ∷ (from 4294965249 ++ end) ∷ (from 18446744073709551615 ++ end) ∷ (from 18446744073709549568 ++ end) ∷ [])
    ≡ (0 ∷ []) ∷ (6 ∷ 0 ∷ []) ∷ (6 ∷ 0 ∷ []) ∷ (6 ∷ 0 ∷ []) ∷ []
unfolding le le_bytes in_limits drive_of same bus_ok interface_ok geometry_fits fields_ok in_store overlap header_of header_at overlaps_any refusal parameters_refusal record_refusal with_record record_step end_step step_of step_at read_from read_table answer_numbers tail_of is_i2o zero_tail kind_ok
store-end = refl

-- touching is allowed, one shared block is not
--   touching on both sides: 0
--   one block shared below: 7 at 68
--   one block shared above: 7 at 68
--   the same drive again: 7 at 68
--   inside an earlier one: 7 at 68
--   around an earlier one: 7 at 68
--   the first of two earlier ones: 7 at 136
pub overlaps : answers ((from 0 ++ from 4096 ++ from 2048 ++ end) ∷ (from 2048 ++ from 1 ++ end) ∷ (from 2048 ++ from 4095 ++ end) ∷ (from 2048 ++ from 2048 ++ end) ∷ (from 2048 ++ but 16 (le_bytes 8 2016 ++ le_bytes 8 2058) ++ end) ∷ (but 16 (le_bytes 8 2016 ++ le_bytes 8 2058) ++ from 2048 ++ end) ∷ (from 0 ++ from 4096 ++ from 2047 ++ end) ∷ [])
    ≡ (0 ∷ []) ∷ (7 ∷ 68 ∷ []) ∷ (7 ∷ 68 ∷ []) ∷ (7 ∷ 68 ∷ []) ∷ (7 ∷ 68 ∷ []) ∷ (7 ∷ 68 ∷ []) ∷ (7 ∷ 136 ∷ []) ∷ []
unfolding le le_bytes in_limits drive_of same bus_ok interface_ok geometry_fits fields_ok in_store overlap header_of header_at overlaps_any refusal parameters_refusal record_refusal with_record record_step end_step step_of step_at read_from read_table answer_numbers tail_of is_i2o zero_tail kind_ok
overlaps = refl

-- the second of two earlier ones: 7 at 136
pub overlaps_second : answers ((from 0 ++ from 4096 ++ from 4097 ++ end) ∷ []) ≡ (7 ∷ 136 ∷ []) ∷ []
unfolding le le_bytes in_limits drive_of same bus_ok interface_ok geometry_fits fields_ok in_store overlap header_of header_at overlaps_any refusal parameters_refusal record_refusal with_record record_step end_step step_of step_at read_from read_table answer_numbers tail_of is_i2o zero_tail kind_ok
overlaps_second = refl

-- a store of no blocks: every drive is past it, and the table with none passes
pub no_store : map (λ (t : List ℕ). answer_numbers (read_table t 0).answer) ((record₁ ++ end) ∷ end ∷ []) ≡ (6 ∷ 0 ∷ []) ∷ (0 ∷ []) ∷ []
unfolding le le_bytes in_limits drive_of same bus_ok interface_ok geometry_fits fields_ok in_store overlap header_of header_at overlaps_any refusal parameters_refusal record_refusal with_record record_step end_step step_of step_at read_from read_table answer_numbers tail_of is_i2o zero_tail kind_ok
no_store = refl

-- ---- records of parameters

-- fourteen bytes, each of its own value, and the record that gives them to a drive
abbrev pub given-bytes : List ℕ
given-bytes = 101 ∷ 102 ∷ 103 ∷ 104 ∷ 105 ∷ 106 ∷ 107 ∷ 108 ∷ 109 ∷ 110 ∷ 111 ∷ 112 ∷ 113 ∷ 114 ∷ []

abbrev pub attach : ℕ → List ℕ
attach n = 20 ∷ 0 ∷ 4 ∷ 0 ∷ (le_bytes 2 n ++ given-bytes)

-- the same under another kind and another length, for number 1
abbrev kind : ℕ → ℕ → List ℕ
kind k size = size ∷ 0 ∷ k ∷ 0 ∷ 1 ∷ 0 ∷ given-bytes

-- k drives with a record of parameters each
abbrev pub attached : ℕ → List ℕ
attached zero = []
attached (suc k) = attached k ++ from (2048 * k) ++ attach k

-- which drive a record of parameters names
--   no drive read: 9 at 0
--   for the one drive: 0
--   for an earlier drive: 9 at 136
--   for an earlier drive, the last one having its own: 9 at 156
--   for a later number: 9 at 68
--   number 8 after eight drives: 9 at 544
--   number 7 after eight drives: 0
--   number 256: 9 at 68
--   repeated: 9 at 88
--   one each: 0
--   eight drives with one each: 0
--   a ninth drive after them: 4 at 704
pub attach_last : answers ((attach 0 ++ end) ∷ (record₁ ++ attach 0 ++ end) ∷ (from 0 ++ from 2048 ++ attach 0 ++ end) ∷ (from 0 ++ from 2048 ++ attach 1 ++ attach 0 ++ end) ∷ (record₁ ++ attach 1 ++ end) ∷ (drives 8 ++ attach 8 ++ end) ∷ (drives 8 ++ attach 7 ++ end) ∷ (record₁ ++ attach 256 ++ end) ∷ (record₁ ++ attach 0 ++ attach 0 ++ end) ∷ (from 0 ++ attach 0 ++ from 2048 ++ attach 1 ++ end) ∷ (attached 8 ++ end) ∷ (attached 8 ++ record₁ ++ end) ∷ [])
    ≡ (9 ∷ 0 ∷ []) ∷ (0 ∷ []) ∷ (9 ∷ 136 ∷ []) ∷ (9 ∷ 156 ∷ []) ∷ (9 ∷ 68 ∷ []) ∷ (9 ∷ 544 ∷ []) ∷ (0 ∷ []) ∷ (9 ∷ 68 ∷ []) ∷ (9 ∷ 88 ∷ []) ∷ (0 ∷ []) ∷ (0 ∷ []) ∷ (4 ∷ 704 ∷ []) ∷ []
unfolding le le_bytes in_limits drive_of same bus_ok interface_ok geometry_fits fields_ok in_store overlap header_of header_at overlaps_any refusal parameters_refusal record_refusal with_record record_step end_step step_of step_at read_from read_table answer_numbers tail_of is_i2o zero_tail kind_ok
attach_last = refl

-- 9 comes after 1, 3, 2 and 1, and before 8
--   three bytes of it, for a later number: 1 at 68
--   kind 2 of its length: 2 at 68
--   kind 3 of its length: 2 at 68
--   kind 5 of its length: 3 at 68
--   length 19, for a later number: 2 at 68
--   length 21, for a later number: 2 at 68
--   length 68, which is a drive's: 2 at 68
--   a drive of length 20: 2 at 68
--   an end record of length 20: 2 at 68
--   length 19, cut off: 2 at 68
--   cut off, for a later number: 1 at 68
--   for a later number, with a byte after the end: 9 at 68
--   a byte after the end record behind it: 8 at 92
pub attach_order : answers ((record₁ ++ take 3 (attach 1)) ∷ (record₁ ++ kind 2 20 ++ end) ∷ (record₁ ++ kind 3 20 ++ end) ∷ (record₁ ++ kind 5 20 ++ end) ∷ (record₁ ++ kind 4 19 ++ end) ∷ (record₁ ++ kind 4 21 ++ end) ∷ (record₁ ++ kind 4 68 ++ end) ∷ (record₁ ++ kind 1 20 ++ end) ∷ (record₁ ++ kind 0 20 ++ end) ∷ (record₁ ++ take 6 (kind 4 19)) ∷ (record₁ ++ take 19 (attach 1)) ∷ (record₁ ++ attach 1 ++ end ++ end) ∷ (record₁ ++ attach 0 ++ end ++ (0 ∷ [])) ∷ [])
    ≡ (1 ∷ 68 ∷ []) ∷ (2 ∷ 68 ∷ []) ∷ (2 ∷ 68 ∷ []) ∷ (3 ∷ 68 ∷ []) ∷ (2 ∷ 68 ∷ []) ∷ (2 ∷ 68 ∷ []) ∷ (2 ∷ 68 ∷ []) ∷ (2 ∷ 68 ∷ []) ∷ (2 ∷ 68 ∷ []) ∷ (2 ∷ 68 ∷ []) ∷ (1 ∷ 68 ∷ []) ∷ (9 ∷ 68 ∷ []) ∷ (8 ∷ 92 ∷ []) ∷ []
unfolding le le_bytes in_limits drive_of same bus_ok interface_ok geometry_fits fields_ok in_store overlap header_of header_at overlaps_any refusal parameters_refusal record_refusal with_record record_step end_step step_of step_at read_from read_table answer_numbers bad_count bad_length_ok tail_of is_i2o zero_tail kind_ok
attach_order = refl

-- ---- records of bad blocks

-- numbers of eight bytes each, and the record that gives them to a drive
abbrev numbers : List ℕ → List ℕ
numbers [] = []
numbers (x ∷ l) = le_bytes 8 x ++ numbers l

abbrev pub bads : ℕ → List ℕ → List ℕ
bads n l = le_bytes 2 (6 + 8 * length l) ++ (3 ∷ 0 ∷ (le_bytes 2 n ++ numbers l))

-- sixteen of them
abbrev pub sixteen : List ℕ
sixteen = 100 ∷ 101 ∷ 102 ∷ 103 ∷ 104 ∷ 105 ∷ 106 ∷ 107 ∷ 108 ∷ 109 ∷ 110 ∷ 111 ∷ 112 ∷ 113 ∷ 114 ∷ 2047 ∷ []

-- a record of kind 3 of a length, all zeros, for the first drive
abbrev long : ℕ → List ℕ
long n = le_bytes 2 n ++ (3 ∷ 0 ∷ replicate 140 0)

-- k drives of kind 2, the longest, with a record of sixteen bad blocks and one of parameters each
abbrev pub full : ℕ → List ℕ
full zero = []
full (suc k) = full k ++ wide (2048 * k) ++ bads k sixteen ++ attach k

-- which drive a record of bad blocks names, and what it follows
--   no drive read: 9 at 0
--   for the one drive: 0
--   for the one drive, and parameters behind it: 0
--   behind the drive's parameters: 9 at 88
--   repeated: 9 at 90
--   repeated behind the parameters: 9 at 110
--   for a later number: 9 at 68
--   for an earlier drive: 9 at 136
--   number 8 after eight drives: 9 at 544
--   number 7 after eight drives: 0
--   number 256: 9 at 68
--   one each: 0
--   parameters twice behind it: 9 at 110
pub bads_last : answers ((bads 0 (5 ∷ 7 ∷ []) ++ end) ∷ (record₁ ++ bads 0 (5 ∷ 7 ∷ []) ++ end) ∷ (record₁ ++ bads 0 (5 ∷ 7 ∷ []) ++ attach 0 ++ end) ∷ (record₁ ++ attach 0 ++ bads 0 (5 ∷ 7 ∷ []) ++ end) ∷ (record₁ ++ bads 0 (5 ∷ 7 ∷ []) ++ bads 0 (9 ∷ []) ++ end) ∷ (record₁ ++ bads 0 (5 ∷ 7 ∷ []) ++ attach 0 ++ bads 0 (9 ∷ []) ++ end) ∷ (record₁ ++ bads 1 (5 ∷ 7 ∷ []) ++ end) ∷ (from 0 ++ from 2048 ++ bads 0 (5 ∷ 7 ∷ []) ++ end) ∷ (drives 8 ++ bads 8 (5 ∷ 7 ∷ []) ++ end) ∷ (drives 8 ++ bads 7 (5 ∷ 7 ∷ []) ++ end) ∷ (record₁ ++ bads 256 (5 ∷ 7 ∷ []) ++ end) ∷ (from 0 ++ bads 0 (5 ∷ 7 ∷ []) ++ from 2048 ++ bads 1 (5 ∷ 7 ∷ []) ++ end) ∷ (record₁ ++ bads 0 (5 ∷ 7 ∷ []) ++ attach 0 ++ attach 0 ++ end) ∷ [])
    ≡ (9 ∷ 0 ∷ []) ∷ (0 ∷ []) ∷ (0 ∷ []) ∷ (9 ∷ 88 ∷ []) ∷ (9 ∷ 90 ∷ []) ∷ (9 ∷ 110 ∷ []) ∷ (9 ∷ 68 ∷ []) ∷ (9 ∷ 136 ∷ []) ∷ (9 ∷ 544 ∷ []) ∷ (0 ∷ []) ∷ (9 ∷ 68 ∷ []) ∷ (0 ∷ []) ∷ (9 ∷ 110 ∷ []) ∷ []
unfolding le le_bytes in_limits drive_of same bus_ok interface_ok geometry_fits fields_ok in_store overlap header_of header_at overlaps_any refusal parameters_refusal record_refusal with_record record_step end_step step_of step_at read_from read_table answer_numbers bad_count bad_length_ok bads_in held_of ascends are_blocks list_ok bads_refusal tail_of is_i2o zero_tail kind_ok
bads_last = refl

-- the numbers of the blocks, which count from the drive's first, and 9 before 5
--   one number: 0
--   the last block: 0
--   one past it: 5 at 68
--   one past it, behind another: 5 at 68
--   the number 2^64 - 1: 5 at 68
--   not in order: 5 at 68
--   repeated: 5 at 68
--   sixteen: 0
--   sixteen, the last two the same: 5 at 68
--   a block of the store, not of the second drive: 5 at 136
--   not in order, and for a later number: 9 at 68
--   not in order, and behind the drive's parameters: 9 at 88
--   not in order, with a byte after the end: 5 at 68
pub bads_list : answers ((record₁ ++ bads 0 (0 ∷ []) ++ end) ∷ (record₁ ++ bads 0 (2047 ∷ []) ++ end) ∷ (record₁ ++ bads 0 (2048 ∷ []) ++ end) ∷ (record₁ ++ bads 0 (5 ∷ 2048 ∷ []) ++ end) ∷ (record₁ ++ bads 0 (18446744073709551615 ∷ []) ++ end) ∷ (record₁ ++ bads 0 (7 ∷ 5 ∷ []) ++ end) ∷ (record₁ ++ bads 0 (5 ∷ 5 ∷ []) ++ end) ∷ (record₁ ++ bads 0 sixteen ++ end) ∷ (record₁ ++ sets (bads 0 sixteen) 126 (le_bytes 8 114) ++ end) ∷ (from 0 ++ from 2048 ++ bads 1 (2048 ∷ []) ++ end) ∷ (record₁ ++ bads 1 (7 ∷ 5 ∷ []) ++ end) ∷ (record₁ ++ attach 0 ++ bads 0 (7 ∷ 5 ∷ []) ++ end) ∷ (record₁ ++ bads 0 (7 ∷ 5 ∷ []) ++ end ++ end) ∷ [])
    ≡ (0 ∷ []) ∷ (0 ∷ []) ∷ (5 ∷ 68 ∷ []) ∷ (5 ∷ 68 ∷ []) ∷ (5 ∷ 68 ∷ []) ∷ (5 ∷ 68 ∷ []) ∷ (5 ∷ 68 ∷ []) ∷ (0 ∷ []) ∷ (5 ∷ 68 ∷ []) ∷ (5 ∷ 136 ∷ []) ∷ (9 ∷ 68 ∷ []) ∷ (9 ∷ 88 ∷ []) ∷ (5 ∷ 68 ∷ []) ∷ []
unfolding le le_bytes in_limits drive_of same bus_ok interface_ok geometry_fits fields_ok in_store overlap header_of header_at overlaps_any refusal parameters_refusal record_refusal with_record record_step end_step step_of step_at read_from read_table answer_numbers bad_count bad_length_ok bads_in held_of ascends are_blocks list_ok bads_refusal tail_of is_i2o zero_tail kind_ok
bads_list = refl

-- the lengths: 14 and 8 more up to 134
--   length 6, of no number: 2 at 68
--   length 13: 2 at 68
--   length 15: 2 at 68
--   length 142, of seventeen numbers: 2 at 68
--   length 15, for a later number, cut off: 2 at 68
--   sixteen, cut off by one byte: 1 at 68
--   cut off, not in order: 1 at 68
--   kind 1 of length 14: 2 at 68
--   kind 4 of length 22: 2 at 68
pub bads_size : answers ((record₁ ++ long 6 ++ end) ∷ (record₁ ++ long 13 ++ end) ∷ (record₁ ++ long 15 ++ end) ∷ (record₁ ++ long 142 ++ end) ∷ (record₁ ++ (15 ∷ 0 ∷ 3 ∷ 0 ∷ 1 ∷ 0 ∷ [])) ∷ (record₁ ++ take 133 (bads 0 sixteen)) ∷ (record₁ ++ take 21 (bads 0 (7 ∷ 5 ∷ []))) ∷ (record₁ ++ (14 ∷ 0 ∷ 1 ∷ 0 ∷ replicate 10 0) ++ end) ∷ (record₁ ++ sets (bads 0 (5 ∷ 7 ∷ [])) 2 (4 ∷ []) ++ end) ∷ [])
    ≡ (2 ∷ 68 ∷ []) ∷ (2 ∷ 68 ∷ []) ∷ (2 ∷ 68 ∷ []) ∷ (2 ∷ 68 ∷ []) ∷ (2 ∷ 68 ∷ []) ∷ (1 ∷ 68 ∷ []) ∷ (1 ∷ 68 ∷ []) ∷ (2 ∷ 68 ∷ []) ∷ (2 ∷ 68 ∷ []) ∷ []
unfolding le le_bytes in_limits drive_of same bus_ok interface_ok geometry_fits fields_ok in_store overlap header_of header_at overlaps_any refusal parameters_refusal record_refusal with_record record_step end_step step_of step_at read_from read_table answer_numbers bad_count bad_length_ok bads_in held_of ascends are_blocks list_ok bads_refusal tail_of is_i2o zero_tail kind_ok
bads_size = refl

-- eight drives with both each, and a ninth after them
--   the longest table: 0
--   a ninth drive: 4 at 1840
pub bads_full : answers ((full 8 ++ end) ∷ (full 8 ++ record₁ ++ end) ∷ []) ≡ (0 ∷ []) ∷ (4 ∷ 1840 ∷ []) ∷ []
unfolding le le_bytes in_limits drive_of same bus_ok interface_ok geometry_fits fields_ok in_store overlap header_of header_at overlaps_any refusal parameters_refusal record_refusal with_record record_step end_step step_of step_at read_from read_table answer_numbers bad_count bad_length_ok bads_in held_of ascends are_blocks list_ok bads_refusal tail_of is_i2o zero_tail kind_ok
bads_full = refl

-- ---- the same by the second promise of each call: the numbers straight from the bytes

abbrev given : List (List ℕ) → List (List ℕ)
given = map (λ (t : List ℕ). table_numbers t store)

pub order_given : given ([] ∷ (4 ∷ 0 ∷ 9 ∷ []) ∷ (5 ∷ 0 ∷ 9 ∷ 0 ∷ []) ∷ (67 ∷ 0 ∷ 1 ∷ 0 ∷ []) ∷ (5 ∷ 0 ∷ 0 ∷ 0 ∷ 0 ∷ []) ∷ (take 67 (but 39 (2 ∷ []))) ∷ (drives 8 ++ take 67 record₁) ∷ (drives 8 ++ but 39 (2 ∷ []) ++ end) ∷ (but 24 (le_bytes 8 store ++ le_bytes 2 128) ++ end) ∷ (from 4294965248 ++ from 4294967295 ++ end) ∷ (record₁ ++ record₁ ++ end ++ end) ∷ [])
    ≡ (1 ∷ 0 ∷ []) ∷ (1 ∷ 0 ∷ []) ∷ (3 ∷ 0 ∷ []) ∷ (2 ∷ 0 ∷ []) ∷ (2 ∷ 0 ∷ []) ∷ (1 ∷ 0 ∷ []) ∷ (1 ∷ 544 ∷ []) ∷ (4 ∷ 544 ∷ []) ∷ (5 ∷ 0 ∷ []) ∷ (6 ∷ 68 ∷ []) ∷ (7 ∷ 68 ∷ []) ∷ []
unfolding le le_bytes in_limits drive_of same bus_ok interface_ok geometry_fits fields_ok in_store overlap header_of header_at overlaps_any refusal parameters_refusal record_refusal with_record record_step end_step step_of step_at record_numbers numbers_from table_numbers tail_of is_i2o zero_tail kind_ok
order_given = refl

pub places-given : given ((record₁ ++ end) ∷ record₁ ∷ (end ++ (0 ∷ [])) ∷ (record₁ ++ end ++ (0 ∷ [])) ∷ (record₁ ++ (4 ∷ 0 ∷ 5 ∷ 0 ∷ [])) ∷ [])
    ≡ (0 ∷ []) ∷ (1 ∷ 68 ∷ []) ∷ (8 ∷ 4 ∷ []) ∷ (8 ∷ 72 ∷ []) ∷ (3 ∷ 68 ∷ []) ∷ []
unfolding le le_bytes in_limits drive_of same bus_ok interface_ok geometry_fits fields_ok in_store overlap header_of header_at overlaps_any refusal parameters_refusal record_refusal with_record record_step end_step step_of step_at record_numbers numbers_from table_numbers tail_of is_i2o zero_tail kind_ok
places-given = refl

pub attach_last_given : given ((attach 0 ++ end) ∷ (record₁ ++ attach 0 ++ end) ∷ (from 0 ++ from 2048 ++ attach 0 ++ end) ∷ (from 0 ++ from 2048 ++ attach 1 ++ attach 0 ++ end) ∷ (record₁ ++ attach 1 ++ end) ∷ (drives 8 ++ attach 8 ++ end) ∷ (drives 8 ++ attach 7 ++ end) ∷ (record₁ ++ attach 256 ++ end) ∷ (record₁ ++ attach 0 ++ attach 0 ++ end) ∷ (from 0 ++ attach 0 ++ from 2048 ++ attach 1 ++ end) ∷ (attached 8 ++ end) ∷ (attached 8 ++ record₁ ++ end) ∷ [])
    ≡ (9 ∷ 0 ∷ []) ∷ (0 ∷ []) ∷ (9 ∷ 136 ∷ []) ∷ (9 ∷ 156 ∷ []) ∷ (9 ∷ 68 ∷ []) ∷ (9 ∷ 544 ∷ []) ∷ (0 ∷ []) ∷ (9 ∷ 68 ∷ []) ∷ (9 ∷ 88 ∷ []) ∷ (0 ∷ []) ∷ (0 ∷ []) ∷ (4 ∷ 704 ∷ []) ∷ []
unfolding le le_bytes in_limits drive_of same bus_ok interface_ok geometry_fits fields_ok in_store overlap header_of header_at overlaps_any refusal parameters_refusal record_refusal with_record record_step end_step step_of step_at record_numbers numbers_from table_numbers tail_of is_i2o zero_tail kind_ok
attach_last_given = refl

pub attach_order_given : given ((record₁ ++ take 3 (attach 1)) ∷ (record₁ ++ kind 2 20 ++ end) ∷ (record₁ ++ kind 3 20 ++ end) ∷ (record₁ ++ kind 5 20 ++ end) ∷ (record₁ ++ kind 4 19 ++ end) ∷ (record₁ ++ kind 4 21 ++ end) ∷ (record₁ ++ kind 4 68 ++ end) ∷ (record₁ ++ kind 1 20 ++ end) ∷ (record₁ ++ kind 0 20 ++ end) ∷ (record₁ ++ take 6 (kind 4 19)) ∷ (record₁ ++ take 19 (attach 1)) ∷ (record₁ ++ attach 1 ++ end ++ end) ∷ (record₁ ++ attach 0 ++ end ++ (0 ∷ [])) ∷ [])
    ≡ (1 ∷ 68 ∷ []) ∷ (2 ∷ 68 ∷ []) ∷ (2 ∷ 68 ∷ []) ∷ (3 ∷ 68 ∷ []) ∷ (2 ∷ 68 ∷ []) ∷ (2 ∷ 68 ∷ []) ∷ (2 ∷ 68 ∷ []) ∷ (2 ∷ 68 ∷ []) ∷ (2 ∷ 68 ∷ []) ∷ (2 ∷ 68 ∷ []) ∷ (1 ∷ 68 ∷ []) ∷ (9 ∷ 68 ∷ []) ∷ (8 ∷ 92 ∷ []) ∷ []
unfolding le le_bytes in_limits drive_of same bus_ok interface_ok geometry_fits fields_ok in_store overlap header_of header_at overlaps_any refusal parameters_refusal record_refusal with_record record_step end_step step_of step_at record_numbers numbers_from table_numbers bad_count bad_length_ok tail_of is_i2o zero_tail kind_ok
attach_order_given = refl

pub bads_last_given : given ((bads 0 (5 ∷ 7 ∷ []) ++ end) ∷ (record₁ ++ bads 0 (5 ∷ 7 ∷ []) ++ end) ∷ (record₁ ++ bads 0 (5 ∷ 7 ∷ []) ++ attach 0 ++ end) ∷ (record₁ ++ attach 0 ++ bads 0 (5 ∷ 7 ∷ []) ++ end) ∷ (record₁ ++ bads 0 (5 ∷ 7 ∷ []) ++ bads 0 (9 ∷ []) ++ end) ∷ (record₁ ++ bads 0 (5 ∷ 7 ∷ []) ++ attach 0 ++ bads 0 (9 ∷ []) ++ end) ∷ (record₁ ++ bads 1 (5 ∷ 7 ∷ []) ++ end) ∷ (from 0 ++ from 2048 ++ bads 0 (5 ∷ 7 ∷ []) ++ end) ∷ (drives 8 ++ bads 8 (5 ∷ 7 ∷ []) ++ end) ∷ (drives 8 ++ bads 7 (5 ∷ 7 ∷ []) ++ end) ∷ (record₁ ++ bads 256 (5 ∷ 7 ∷ []) ++ end) ∷ (from 0 ++ bads 0 (5 ∷ 7 ∷ []) ++ from 2048 ++ bads 1 (5 ∷ 7 ∷ []) ++ end) ∷ (record₁ ++ bads 0 (5 ∷ 7 ∷ []) ++ attach 0 ++ attach 0 ++ end) ∷ [])
    ≡ (9 ∷ 0 ∷ []) ∷ (0 ∷ []) ∷ (0 ∷ []) ∷ (9 ∷ 88 ∷ []) ∷ (9 ∷ 90 ∷ []) ∷ (9 ∷ 110 ∷ []) ∷ (9 ∷ 68 ∷ []) ∷ (9 ∷ 136 ∷ []) ∷ (9 ∷ 544 ∷ []) ∷ (0 ∷ []) ∷ (9 ∷ 68 ∷ []) ∷ (0 ∷ []) ∷ (9 ∷ 110 ∷ []) ∷ []
unfolding le le_bytes in_limits drive_of same bus_ok interface_ok geometry_fits fields_ok in_store overlap header_of header_at overlaps_any refusal parameters_refusal record_refusal with_record record_step end_step step_of step_at record_numbers numbers_from table_numbers bad_count bad_length_ok bads_in held_of ascends are_blocks list_ok bads_refusal tail_of is_i2o zero_tail kind_ok
bads_last_given = refl

pub bads_list_given : given ((record₁ ++ bads 0 (0 ∷ []) ++ end) ∷ (record₁ ++ bads 0 (2047 ∷ []) ++ end) ∷ (record₁ ++ bads 0 (2048 ∷ []) ++ end) ∷ (record₁ ++ bads 0 (5 ∷ 2048 ∷ []) ++ end) ∷ (record₁ ++ bads 0 (18446744073709551615 ∷ []) ++ end) ∷ (record₁ ++ bads 0 (7 ∷ 5 ∷ []) ++ end) ∷ (record₁ ++ bads 0 (5 ∷ 5 ∷ []) ++ end) ∷ (record₁ ++ bads 0 sixteen ++ end) ∷ (record₁ ++ sets (bads 0 sixteen) 126 (le_bytes 8 114) ++ end) ∷ (from 0 ++ from 2048 ++ bads 1 (2048 ∷ []) ++ end) ∷ (record₁ ++ bads 1 (7 ∷ 5 ∷ []) ++ end) ∷ (record₁ ++ attach 0 ++ bads 0 (7 ∷ 5 ∷ []) ++ end) ∷ (record₁ ++ bads 0 (7 ∷ 5 ∷ []) ++ end ++ end) ∷ [])
    ≡ (0 ∷ []) ∷ (0 ∷ []) ∷ (5 ∷ 68 ∷ []) ∷ (5 ∷ 68 ∷ []) ∷ (5 ∷ 68 ∷ []) ∷ (5 ∷ 68 ∷ []) ∷ (5 ∷ 68 ∷ []) ∷ (0 ∷ []) ∷ (5 ∷ 68 ∷ []) ∷ (5 ∷ 136 ∷ []) ∷ (9 ∷ 68 ∷ []) ∷ (9 ∷ 88 ∷ []) ∷ (5 ∷ 68 ∷ []) ∷ []
unfolding le le_bytes in_limits drive_of same bus_ok interface_ok geometry_fits fields_ok in_store overlap header_of header_at overlaps_any refusal parameters_refusal record_refusal with_record record_step end_step step_of step_at record_numbers numbers_from table_numbers bad_count bad_length_ok bads_in held_of ascends are_blocks list_ok bads_refusal tail_of is_i2o zero_tail kind_ok
bads_list_given = refl

pub bads_size_given : given ((record₁ ++ long 6 ++ end) ∷ (record₁ ++ long 13 ++ end) ∷ (record₁ ++ long 15 ++ end) ∷ (record₁ ++ long 142 ++ end) ∷ (record₁ ++ (15 ∷ 0 ∷ 3 ∷ 0 ∷ 1 ∷ 0 ∷ [])) ∷ (record₁ ++ take 133 (bads 0 sixteen)) ∷ (record₁ ++ take 21 (bads 0 (7 ∷ 5 ∷ []))) ∷ (record₁ ++ (14 ∷ 0 ∷ 1 ∷ 0 ∷ replicate 10 0) ++ end) ∷ (record₁ ++ sets (bads 0 (5 ∷ 7 ∷ [])) 2 (4 ∷ []) ++ end) ∷ [])
    ≡ (2 ∷ 68 ∷ []) ∷ (2 ∷ 68 ∷ []) ∷ (2 ∷ 68 ∷ []) ∷ (2 ∷ 68 ∷ []) ∷ (2 ∷ 68 ∷ []) ∷ (1 ∷ 68 ∷ []) ∷ (1 ∷ 68 ∷ []) ∷ (2 ∷ 68 ∷ []) ∷ (2 ∷ 68 ∷ []) ∷ []
unfolding le le_bytes in_limits drive_of same bus_ok interface_ok geometry_fits fields_ok in_store overlap header_of header_at overlaps_any refusal parameters_refusal record_refusal with_record record_step end_step step_of step_at record_numbers numbers_from table_numbers bad_count bad_length_ok bads_in held_of ascends are_blocks list_ok bads_refusal tail_of is_i2o zero_tail kind_ok
bads_size_given = refl

pub bads_full_given : given ((full 8 ++ end) ∷ (full 8 ++ record₁ ++ end) ∷ []) ≡ (0 ∷ []) ∷ (4 ∷ 1840 ∷ []) ∷ []
unfolding le le_bytes in_limits drive_of same bus_ok interface_ok geometry_fits fields_ok in_store overlap header_of header_at overlaps_any refusal parameters_refusal record_refusal with_record record_step end_step step_of step_at record_numbers numbers_from table_numbers bad_count bad_length_ok bads_in held_of ascends are_blocks list_ok bads_refusal tail_of is_i2o zero_tail kind_ok
bads_full_given = refl

-- one record: a drive with the next place, the end, and fewer than 4 bytes left
pub steps-given : map (λ (at : ℕ). step_numbers (step_at (record₁ ++ end) at empty_table store).step) (0 ∷ 68 ∷ 69 ∷ [])
    ++ map (λ (at : ℕ). record_numbers (record₁ ++ end) at empty_table store) (0 ∷ 68 ∷ 69 ∷ [])
    ≡ (0 ∷ 1 ∷ 68 ∷ []) ∷ (0 ∷ []) ∷ (1 ∷ 69 ∷ []) ∷ (0 ∷ 1 ∷ 68 ∷ []) ∷ (0 ∷ []) ∷ (1 ∷ 69 ∷ []) ∷ []
unfolding le le_bytes in_limits drive_of same bus_ok interface_ok geometry_fits fields_ok in_store overlap header_of header_at overlaps_any refusal parameters_refusal record_refusal with_record record_step end_step step_of step_at record_numbers step_numbers tail_of is_i2o zero_tail kind_ok
steps-given = refl

-- ---- records of kind 2 (document 02, 2026-06)

-- k pairs of drives of kind 1 and kind 2
abbrev mixed : ℕ → List ℕ
mixed zero = []
mixed (suc k) = mixed k ++ from (4096 * k) ++ wide (4096 * k + 2048)

-- its length, what follows it, and the places behind it
--   as it is: 0
--   length 68: 2 at 0
--   length 75: 2 at 0
--   length 77: 2 at 0
--   length 332, whose low byte is 76: 2 at 0
--   kind 1 of length 76: 2 at 0
--   kind 4 of length 76: 2 at 0
--   kind 258 of length 76: 3 at 0
--   length 68, cut off: 2 at 0
--   75 bytes, with a bad field: 1 at 0
--   no end record: 1 at 76
--   an unknown kind behind it: 3 at 76
--   kind 2 of length 68 behind it: 2 at 76
--   cut off behind it: 1 at 76
--   a byte after the end: 8 at 80
abbrev wide-heads : List (List ℕ)
wide-heads = (record₂ ++ end) ∷ (with 0 (68 ∷ []) ++ end) ∷ (with 0 (75 ∷ []) ++ end) ∷ (with 0 (77 ∷ []) ++ end) ∷ (with 1 (1 ∷ []) ++ end) ∷ (with 2 (1 ∷ []) ++ end) ∷ (with 2 (4 ∷ []) ++ end) ∷ (with 3 (1 ∷ []) ++ end) ∷ (68 ∷ 0 ∷ 2 ∷ 0 ∷ []) ∷ (take 75 (with 39 (2 ∷ []))) ∷ record₂ ∷ (record₂ ++ (4 ∷ 0 ∷ 5 ∷ 0 ∷ [])) ∷ (record₂ ++ (68 ∷ 0 ∷ 2 ∷ 0 ∷ [])) ∷ (record₂ ++ take 75 (wide 2048)) ∷ (record₂ ++ end ++ (0 ∷ [])) ∷ []

pub wide-heads-answers : answers wide-heads
    ≡ (0 ∷ []) ∷ (2 ∷ 0 ∷ []) ∷ (2 ∷ 0 ∷ []) ∷ (2 ∷ 0 ∷ []) ∷ (2 ∷ 0 ∷ []) ∷ (2 ∷ 0 ∷ []) ∷ (2 ∷ 0 ∷ []) ∷ (3 ∷ 0 ∷ []) ∷ (2 ∷ 0 ∷ []) ∷ (1 ∷ 0 ∷ []) ∷ (1 ∷ 76 ∷ []) ∷ (3 ∷ 76 ∷ []) ∷ (2 ∷ 76 ∷ []) ∷ (1 ∷ 76 ∷ []) ∷ (8 ∷ 80 ∷ []) ∷ []
unfolding le le_bytes in_limits drive_of same bus_ok interface_ok geometry_fits fields_ok in_store overlap header_of header_at overlaps_any refusal parameters_refusal record_refusal with_record record_step end_step step_of step_at read_from read_table answer_numbers bad_count bad_length_ok bads_in held_of ascends are_blocks list_ok bads_refusal tail_of is_i2o zero_tail kind_ok
wide-heads-answers = refl

pub wide-heads-given : given wide-heads
    ≡ (0 ∷ []) ∷ (2 ∷ 0 ∷ []) ∷ (2 ∷ 0 ∷ []) ∷ (2 ∷ 0 ∷ []) ∷ (2 ∷ 0 ∷ []) ∷ (2 ∷ 0 ∷ []) ∷ (2 ∷ 0 ∷ []) ∷ (3 ∷ 0 ∷ []) ∷ (2 ∷ 0 ∷ []) ∷ (1 ∷ 0 ∷ []) ∷ (1 ∷ 76 ∷ []) ∷ (3 ∷ 76 ∷ []) ∷ (2 ∷ 76 ∷ []) ∷ (1 ∷ 76 ∷ []) ∷ (8 ∷ 80 ∷ []) ∷ []
unfolding le le_bytes in_limits drive_of same bus_ok interface_ok geometry_fits fields_ok in_store overlap header_of header_at overlaps_any refusal parameters_refusal record_refusal with_record record_step end_step step_of step_at record_numbers numbers_from table_numbers bad_count bad_length_ok bads_in held_of ascends are_blocks list_ok bads_refusal tail_of is_i2o zero_tail kind_ok
wide-heads-given = refl

-- its fields, the store, the other drives, and what is attached to it
--   I2O: 0
--   I2O padded with 20h: 5 at 0
--   I2O in kind 1, behind it: 5 at 76
--   device path zero, all sixteen bytes: 0
--   device path FFh, all sixteen bytes: 0
--   protection 2, past the store: 5 at 0
--   first + blocks = 2^32: 0
--   first + blocks = 2^32 + 1, and overlapping: 6 at 76
--   kinds 1, 2, 1 and 2, touching: 0
--   kind 2, overlapping a drive of kind 2: 7 at 76
--   kind 2, overlapping one of kind 1: 7 at 68
--   kind 1, overlapping one of kind 2: 7 at 76
--   bad blocks and parameters behind it: 0
--   a bad block past its blocks: 5 at 76
--   bad blocks behind its parameters: 9 at 96
--   bad blocks twice: 9 at 90
--   parameters of the drive of kind 1 before it: 9 at 144
--   parameters of the second drive: 0
abbrev wide_bodies : List (List ℕ)
wide_bodies = (with 44 (73 ∷ 50 ∷ 79 ∷ 0 ∷ []) ++ end) ∷ (with 44 (73 ∷ 50 ∷ 79 ∷ replicate 5 32) ++ end) ∷ (record₂ ++ sets (from 2048) 44 (73 ∷ 50 ∷ 79 ∷ 0 ∷ []) ++ end) ∷ (with 60 (replicate 16 0) ++ end) ∷ (with 60 (replicate 16 255) ++ end) ∷ (with 24 (replicate 8 255 ++ (2 ∷ 0 ∷ 2 ∷ 0 ∷ 16 ∷ 0 ∷ 63 ∷ 2 ∷ [])) ++ end) ∷ (wide 4294965248 ++ end) ∷ (wide 4294965248 ++ wide 4294965249 ++ end) ∷ (from 0 ++ wide 4096 ++ from 2048 ++ wide 6144 ++ end) ∷ (wide 0 ++ wide 2047 ++ end) ∷ (from 0 ++ wide 2047 ++ end) ∷ (wide 0 ++ from 2047 ++ end) ∷ (record₂ ++ bads 0 (5 ∷ 2047 ∷ []) ++ attach 0 ++ end) ∷ (record₂ ++ bads 0 (2048 ∷ []) ++ end) ∷ (record₂ ++ attach 0 ++ bads 0 (5 ∷ []) ++ end) ∷ (record₂ ++ bads 0 (5 ∷ []) ++ bads 0 (7 ∷ []) ++ end) ∷ (from 0 ++ wide 2048 ++ attach 0 ++ end) ∷ (from 0 ++ wide 2048 ++ attach 1 ++ end) ∷ []

pub wide_bodies_answers : answers wide_bodies
    ≡ (0 ∷ []) ∷ (5 ∷ 0 ∷ []) ∷ (5 ∷ 76 ∷ []) ∷ (0 ∷ []) ∷ (0 ∷ []) ∷ (5 ∷ 0 ∷ []) ∷ (0 ∷ []) ∷ (6 ∷ 76 ∷ []) ∷ (0 ∷ []) ∷ (7 ∷ 76 ∷ []) ∷ (7 ∷ 68 ∷ []) ∷ (7 ∷ 76 ∷ []) ∷ (0 ∷ []) ∷ (5 ∷ 76 ∷ []) ∷ (9 ∷ 96 ∷ []) ∷ (9 ∷ 90 ∷ []) ∷ (9 ∷ 144 ∷ []) ∷ (0 ∷ []) ∷ []
unfolding le le_bytes in_limits drive_of same bus_ok interface_ok geometry_fits fields_ok in_store overlap header_of header_at overlaps_any refusal parameters_refusal record_refusal with_record record_step end_step step_of step_at read_from read_table answer_numbers bad_count bad_length_ok bads_in held_of ascends are_blocks list_ok bads_refusal tail_of is_i2o zero_tail kind_ok
wide_bodies_answers = refl

pub wide_bodies_given : given wide_bodies
    ≡ (0 ∷ []) ∷ (5 ∷ 0 ∷ []) ∷ (5 ∷ 76 ∷ []) ∷ (0 ∷ []) ∷ (0 ∷ []) ∷ (5 ∷ 0 ∷ []) ∷ (0 ∷ []) ∷ (6 ∷ 76 ∷ []) ∷ (0 ∷ []) ∷ (7 ∷ 76 ∷ []) ∷ (7 ∷ 68 ∷ []) ∷ (7 ∷ 76 ∷ []) ∷ (0 ∷ []) ∷ (5 ∷ 76 ∷ []) ∷ (9 ∷ 96 ∷ []) ∷ (9 ∷ 90 ∷ []) ∷ (9 ∷ 144 ∷ []) ∷ (0 ∷ []) ∷ []
unfolding le le_bytes in_limits drive_of same bus_ok interface_ok geometry_fits fields_ok in_store overlap header_of header_at overlaps_any refusal parameters_refusal record_refusal with_record record_step end_step step_of step_at record_numbers numbers_from table_numbers bad_count bad_length_ok bads_in held_of ascends are_blocks list_ok bads_refusal tail_of is_i2o zero_tail kind_ok
wide_bodies_given = refl

-- a ninth drive, where the eight are of both kinds
--   eight: 0
--   a ninth of kind 1: 4 at 576
--   a ninth of kind 2, with a bad field: 4 at 576
--   a ninth of kind 2, cut off: 1 at 576
abbrev wide_ninth : List (List ℕ)
wide_ninth = (mixed 4 ++ end) ∷ (mixed 4 ++ from 16384 ++ end) ∷ (mixed 4 ++ with 39 (2 ∷ []) ++ end) ∷ (mixed 4 ++ take 75 record₂) ∷ []

pub wide_ninth_answers : answers wide_ninth
    ≡ (0 ∷ []) ∷ (4 ∷ 576 ∷ []) ∷ (4 ∷ 576 ∷ []) ∷ (1 ∷ 576 ∷ []) ∷ []
unfolding le le_bytes in_limits drive_of same bus_ok interface_ok geometry_fits fields_ok in_store overlap header_of header_at overlaps_any refusal parameters_refusal record_refusal with_record record_step end_step step_of step_at read_from read_table answer_numbers bad_count bad_length_ok bads_in held_of ascends are_blocks list_ok bads_refusal tail_of is_i2o zero_tail kind_ok
wide_ninth_answers = refl

pub wide_ninth_given : given wide_ninth
    ≡ (0 ∷ []) ∷ (4 ∷ 576 ∷ []) ∷ (4 ∷ 576 ∷ []) ∷ (1 ∷ 576 ∷ []) ∷ []
unfolding le le_bytes in_limits drive_of same bus_ok interface_ok geometry_fits fields_ok in_store overlap header_of header_at overlaps_any refusal parameters_refusal record_refusal with_record record_step end_step step_of step_at record_numbers numbers_from table_numbers bad_count bad_length_ok bads_in held_of ascends are_blocks list_ok bads_refusal tail_of is_i2o zero_tail kind_ok
wide_ninth_given = refl

-- one record: the next place is 76 bytes on
pub wide-steps : map (λ (at : ℕ). step_numbers (step_at (from 2048 ++ record₂ ++ end) at empty_table store).step) (0 ∷ 68 ∷ 144 ∷ [])
    ++ map (λ (at : ℕ). record_numbers (from 2048 ++ record₂ ++ end) at empty_table store) (0 ∷ 68 ∷ 144 ∷ [])
    ≡ (0 ∷ 1 ∷ 68 ∷ []) ∷ (0 ∷ 1 ∷ 144 ∷ []) ∷ (0 ∷ []) ∷ (0 ∷ 1 ∷ 68 ∷ []) ∷ (0 ∷ 1 ∷ 144 ∷ []) ∷ (0 ∷ []) ∷ []
unfolding le le_bytes in_limits drive_of same bus_ok interface_ok geometry_fits fields_ok in_store overlap header_of header_at overlaps_any refusal parameters_refusal record_refusal with_record record_step end_step step_of step_at record_numbers step_numbers tail_of is_i2o zero_tail kind_ok
wide-steps = refl

-- ---- what is read and written, by value

-- two drives of different fields, in an order that is not that of their blocks: 80h has 5000 blocks from 9000, 81h 4000 from 100
abbrev first-drive : Drive
first-drive = record { cylinders = 11; heads = 12; sectors = 13; blocks = 5000; first = 9000; flags = 21; c = 7; h = 8; s = 9; protection = 1; bus = 73 ∷ 83 ∷ 65 ∷ 0 ∷ []; interface = 85 ∷ 83 ∷ 66 ∷ 0 ∷ 0 ∷ 0 ∷ 0 ∷ 0 ∷ []; path = 1 ∷ 2 ∷ 3 ∷ 4 ∷ 5 ∷ 6 ∷ 7 ∷ 8 ∷ []; device = 9 ∷ 10 ∷ 11 ∷ 12 ∷ 13 ∷ 14 ∷ 15 ∷ 16 ∷ []; kind = 1; tail = replicate 8 0 }

abbrev second-drive : Drive
second-drive = record { cylinders = 31; heads = 32; sectors = 33; blocks = 4000; first = 100; flags = 34; c = 10; h = 11; s = 12; protection = 0; bus = 80 ∷ 67 ∷ 73 ∷ 0 ∷ []; interface = 65 ∷ 84 ∷ 65 ∷ 80 ∷ 73 ∷ 0 ∷ 0 ∷ 0 ∷ []; path = 17 ∷ 18 ∷ 19 ∷ 20 ∷ 21 ∷ 22 ∷ 23 ∷ 24 ∷ []; device = 25 ∷ 26 ∷ 27 ∷ 28 ∷ 29 ∷ 30 ∷ 31 ∷ 32 ∷ []; kind = 1; tail = replicate 8 0 }

abbrev first-bytes : List ℕ
first-bytes = 68 ∷ 0 ∷ 1 ∷ 0 ∷ 11 ∷ 0 ∷ 0 ∷ 0 ∷ 12 ∷ 0 ∷ 0 ∷ 0 ∷ 13 ∷ 0 ∷ 0 ∷ 0 ∷ 136 ∷ 19 ∷ 0 ∷ 0 ∷ 0 ∷ 0 ∷ 0 ∷ 0 ∷ 40 ∷ 35 ∷ 0 ∷ 0 ∷ 0 ∷ 0 ∷ 0 ∷ 0 ∷ 21 ∷ 0 ∷ 7 ∷ 0 ∷ 8 ∷ 0 ∷ 9 ∷ 1 ∷ 73 ∷ 83 ∷ 65 ∷ 0 ∷ 85 ∷ 83 ∷ 66 ∷ 0 ∷ 0 ∷ 0 ∷ 0 ∷ 0 ∷ 1 ∷ 2 ∷ 3 ∷ 4 ∷ 5 ∷ 6 ∷ 7 ∷ 8 ∷ 9 ∷ 10 ∷ 11 ∷ 12 ∷ 13 ∷ 14 ∷ 15 ∷ 16 ∷ []

abbrev second_bytes : List ℕ
second_bytes = 68 ∷ 0 ∷ 1 ∷ 0 ∷ 31 ∷ 0 ∷ 0 ∷ 0 ∷ 32 ∷ 0 ∷ 0 ∷ 0 ∷ 33 ∷ 0 ∷ 0 ∷ 0 ∷ 160 ∷ 15 ∷ 0 ∷ 0 ∷ 0 ∷ 0 ∷ 0 ∷ 0 ∷ 100 ∷ 0 ∷ 0 ∷ 0 ∷ 0 ∷ 0 ∷ 0 ∷ 0 ∷ 34 ∷ 0 ∷ 10 ∷ 0 ∷ 11 ∷ 0 ∷ 12 ∷ 0 ∷ 80 ∷ 67 ∷ 73 ∷ 0 ∷ 65 ∷ 84 ∷ 65 ∷ 80 ∷ 73 ∷ 0 ∷ 0 ∷ 0 ∷ 17 ∷ 18 ∷ 19 ∷ 20 ∷ 21 ∷ 22 ∷ 23 ∷ 24 ∷ 25 ∷ 26 ∷ 27 ∷ 28 ∷ 29 ∷ 30 ∷ 31 ∷ 32 ∷ []

-- a table by its drives and its count, with neither parameters nor bad blocks
abbrev table : List Drive → ℕ → Table
table ds n = record { drives = ds; count = n; present = replicate 8 false; parameters = replicate 112 0; counts = replicate 8 0; bad = replicate 1024 0 }

abbrev two : Table
two = table (first-drive ∷ second-drive ∷ replicate 6 zero_drive) 2

-- read: each drive in its slot, with its own fields
pub two_read : (read_table (first-bytes ++ second_bytes ++ end) 14000).table ≡ two
unfolding le le_bytes in_limits drive_of same bus_ok interface_ok geometry_fits fields_ok in_store overlap header_of header_at overlaps_any refusal parameters_refusal record_refusal with_record record_step end_step step_of step_at read_from read_table tail_of is_i2o zero_tail kind_ok
two_read = refl

-- refused at the second record, the table has the drive before it
pub one_read : (read_table (first-bytes ++ second_bytes ++ end) 4099).table.count ∷ (read_table (second_bytes ++ first-bytes ++ end) 4100).table.count ∷ [] ≡ 0 ∷ 1 ∷ []
unfolding le le_bytes in_limits drive_of same bus_ok interface_ok geometry_fits fields_ok in_store overlap header_of header_at overlaps_any refusal parameters_refusal record_refusal with_record record_step end_step step_of step_at read_from read_table tail_of is_i2o zero_tail kind_ok
one_read = refl

-- written: the records in the order of the slots, then the end record
pub two_written : table_of two ≡ first-bytes ++ second_bytes ++ end
unfolding le_bytes record_of geometry_bytes size_bytes name_bytes records_of bytes_of table_of tail_bytes
two_written = refl

-- into a buffer: 139 bytes are too few and stay, 140 are enough, and of 142 the last two stay
pub buffers : map (λ (n : ℕ). written_numbers (write_answer two n)) (0 ∷ 139 ∷ 140 ∷ 142 ∷ []) ≡ (19 ∷ []) ∷ (19 ∷ []) ∷ (0 ∷ 140 ∷ []) ∷ (0 ∷ 140 ∷ []) ∷ []
unfolding le_bytes record_of geometry_bytes size_bytes name_bytes records_of bytes_of table_of write_answer written_numbers tail_bytes
buffers = refl

pub buffers_given : map (write_numbers two) (0 ∷ 139 ∷ 140 ∷ 142 ∷ []) ≡ (19 ∷ []) ∷ (19 ∷ []) ∷ (0 ∷ 140 ∷ []) ∷ (0 ∷ 140 ∷ []) ∷ []
unfolding le_bytes record_of geometry_bytes size_bytes name_bytes records_of bytes_of table_of write_numbers tail_bytes
buffers_given = refl

pub laid : map (write_out two) (replicate 139 7 ∷ replicate 140 7 ∷ replicate 142 7 ∷ [])
    ≡ replicate 139 7 ∷ (first-bytes ++ second_bytes ++ end) ∷ (first-bytes ++ second_bytes ++ end ++ (7 ∷ 7 ∷ [])) ∷ []
unfolding le_bytes record_of geometry_bytes size_bytes name_bytes records_of bytes_of table_of write_out tail_bytes
laid = refl

-- parameters: only the second drive has them
abbrev two_attached : Table
two_attached = record {
  drives = first-drive ∷ second-drive ∷ replicate 6 zero_drive;
  count = 2;
  present = false ∷ true ∷ replicate 6 false;
  parameters = replicate 14 0 ++ (given-bytes ++ replicate 84 0);
  counts = replicate 8 0;
  bad = replicate 1024 0;
}

-- both have them, each its own
abbrev both_attached : Table
both_attached = record {
  drives = first-drive ∷ second-drive ∷ replicate 6 zero_drive;
  count = 2;
  present = true ∷ true ∷ replicate 6 false;
  parameters = given-bytes ++ (replicate 14 7 ++ replicate 84 0);
  counts = replicate 8 0;
  bad = replicate 1024 0;
}

abbrev both_bytes : List ℕ
both_bytes = first-bytes ++ attach 0 ++ second_bytes ++ (20 ∷ 0 ∷ 4 ∷ 0 ∷ 1 ∷ 0 ∷ replicate 14 7) ++ end

-- read: mark and bytes in the slot of their drive, in the record's order
pub attached_read : (read_table (first-bytes ++ second_bytes ++ attach 1 ++ end) 14000).table ≡ two_attached
unfolding le le_bytes in_limits drive_of same bus_ok interface_ok geometry_fits fields_ok in_store overlap header_of header_at overlaps_any refusal parameters_refusal record_refusal with_record record_step end_step step_of step_at read_from read_table tail_of is_i2o zero_tail kind_ok
attached_read = refl

pub both_read : (read_table both_bytes 14000).table ≡ both_attached
unfolding le le_bytes in_limits drive_of same bus_ok interface_ok geometry_fits fields_ok in_store overlap header_of header_at overlaps_any refusal parameters_refusal record_refusal with_record record_step end_step step_of step_at read_from read_table tail_of is_i2o zero_tail kind_ok
both_read = refl

-- refused, the table has the drives and parameters before it
pub attached_before : (read_table (first-bytes ++ second_bytes ++ attach 1 ++ attach 0) 14000).table ≡ two_attached
unfolding le le_bytes in_limits drive_of same bus_ok interface_ok geometry_fits fields_ok in_store overlap header_of header_at overlaps_any refusal parameters_refusal record_refusal with_record record_step end_step step_of step_at read_from read_table tail_of is_i2o zero_tail kind_ok
attached_before = refl

-- written: a drive's record and then its parameters', before the next drive
pub attached_written : table_of two_attached ≡ first-bytes ++ second_bytes ++ attach 1 ++ end
unfolding le_bytes record_of geometry_bytes size_bytes name_bytes parameters_record records_of bytes_of table_of tail_bytes
attached_written = refl

pub both-written : table_of both_attached ≡ both_bytes
unfolding le_bytes record_of geometry_bytes size_bytes name_bytes parameters_record records_of bytes_of table_of tail_bytes
both-written = refl

-- into a buffer: 159 bytes are too few, 160 are enough
pub attached_buffers : map (λ (n : ℕ). written_numbers (write_answer two_attached n)) (159 ∷ 160 ∷ []) ≡ (19 ∷ []) ∷ (0 ∷ 160 ∷ []) ∷ []
unfolding le_bytes record_of geometry_bytes size_bytes name_bytes parameters_record records_of bytes_of table_of write_answer written_numbers tail_bytes
attached_buffers = refl

-- bad blocks: the first drive has 5 and 7, the second 3999, its last, and parameters
abbrev two_listed : Table
two_listed = record {
  drives = first-drive ∷ second-drive ∷ replicate 6 zero_drive;
  count = 2;
  present = false ∷ true ∷ replicate 6 false;
  parameters = replicate 14 0 ++ (given-bytes ++ replicate 84 0);
  counts = 2 ∷ 1 ∷ replicate 6 0;
  bad = numbers (5 ∷ 7 ∷ []) ++ (replicate 112 0 ++ (numbers (3999 ∷ []) ++ replicate 888 0));
}

abbrev listed-bytes : List ℕ
listed-bytes = first-bytes ++ bads 0 (5 ∷ 7 ∷ []) ++ second_bytes ++ bads 1 (3999 ∷ []) ++ attach 1 ++ end

-- read: how many and their bytes in the slot of their drive, and zeros behind them
pub listed-read : (read_table listed-bytes 14000).table ≡ two_listed
unfolding le le_bytes in_limits drive_of same bus_ok interface_ok geometry_fits fields_ok in_store overlap header_of header_at overlaps_any refusal parameters_refusal record_refusal with_record record_step end_step step_of step_at read_from read_table bad_count bad_length_ok bads_in held_of ascends are_blocks list_ok bads_refusal tail_of is_i2o zero_tail kind_ok
listed-read = refl

-- the slot of one drive with both: how many, and the numbers
pub listed_slot : (bads_at (read_table (record₁ ++ bads 0 (5 ∷ 7 ∷ []) ++ attach 0 ++ end) store).table 0).count
    ∷ map (bad_at (bads_at (read_table (record₁ ++ bads 0 (5 ∷ 7 ∷ []) ++ attach 0 ++ end) store).table 0)) (0 ∷ 1 ∷ 2 ∷ 15 ∷ [])
    ≡ 2 ∷ 5 ∷ 7 ∷ 0 ∷ 0 ∷ []
unfolding le le_bytes in_limits drive_of same bus_ok interface_ok geometry_fits fields_ok in_store overlap header_of header_at overlaps_any refusal parameters_refusal record_refusal with_record record_step end_step step_of step_at read_from read_table bad_count bad_length_ok bads_in held_of ascends are_blocks list_ok bads_refusal tail_of is_i2o zero_tail kind_ok
listed_slot = refl

-- and back byte for byte
pub listed_back : table_of (read_table (record₁ ++ bads 0 (5 ∷ 7 ∷ []) ++ attach 0 ++ end) store).table ≡ record₁ ++ bads 0 (5 ∷ 7 ∷ []) ++ attach 0 ++ end
unfolding le le_bytes in_limits drive_of same bus_ok interface_ok geometry_fits fields_ok in_store overlap header_of header_at overlaps_any refusal parameters_refusal record_refusal with_record record_step end_step step_of step_at read_from read_table bad_count bad_length_ok bads_in held_of ascends are_blocks list_ok bads_refusal record_of geometry_bytes size_bytes name_bytes parameters_record bad_record records_of bytes_of table_of tail_of is_i2o zero_tail kind_ok tail_bytes
listed_back = refl

-- refused, the table has what came before it
pub listed-before : (read_table (first-bytes ++ bads 0 (5 ∷ 7 ∷ []) ++ second_bytes ++ bads 1 (3999 ∷ []) ++ attach 1 ++ bads 1 (9 ∷ [])) 14000).table ≡ two_listed
unfolding le le_bytes in_limits drive_of same bus_ok interface_ok geometry_fits fields_ok in_store overlap header_of header_at overlaps_any refusal parameters_refusal record_refusal with_record record_step end_step step_of step_at read_from read_table bad_count bad_length_ok bads_in held_of ascends are_blocks list_ok bads_refusal tail_of is_i2o zero_tail kind_ok
listed-before = refl

-- written: a drive's record, then that of its bad blocks, then its parameters'
pub listed-written : table_of two_listed ≡ listed-bytes
unfolding le_bytes record_of geometry_bytes size_bytes name_bytes parameters_record held_of bad_record records_of bytes_of table_of tail_bytes
listed-written = refl

-- kind 2 (document 02, 2026-06): 80h is the first drive above, of kind 1; 81h of kind 2 with a tail of zeros, 3000 blocks from 5000; 82h of kind 2,
-- I2O, with a tail, 900 blocks from 4100
abbrev third_drive : Drive
third_drive = record { cylinders = 41; heads = 42; sectors = 43; blocks = 3000; first = 5000; flags = 45; c = 14; h = 15; s = 12; protection = 1; bus = 80 ∷ 67 ∷ 73 ∷ 0 ∷ []; interface = 70 ∷ 73 ∷ 66 ∷ 82 ∷ 69 ∷ 0 ∷ 0 ∷ 0 ∷ []; path = 33 ∷ 34 ∷ 35 ∷ 36 ∷ 37 ∷ 38 ∷ 39 ∷ 40 ∷ []; device = 41 ∷ 42 ∷ 43 ∷ 44 ∷ 45 ∷ 46 ∷ 47 ∷ 48 ∷ []; kind = 2; tail = replicate 8 0 }

abbrev fourth_drive : Drive
fourth_drive = record { cylinders = 51; heads = 52; sectors = 53; blocks = 900; first = 4100; flags = 67; c = 6; h = 7; s = 8; protection = 0; bus = 73 ∷ 83 ∷ 65 ∷ 0 ∷ []; interface = 73 ∷ 50 ∷ 79 ∷ 0 ∷ 0 ∷ 0 ∷ 0 ∷ 0 ∷ []; path = 49 ∷ 50 ∷ 51 ∷ 52 ∷ 53 ∷ 54 ∷ 55 ∷ 56 ∷ []; device = 57 ∷ 58 ∷ 59 ∷ 60 ∷ 61 ∷ 62 ∷ 63 ∷ 64 ∷ []; kind = 2; tail = 65 ∷ 66 ∷ 67 ∷ 68 ∷ 69 ∷ 70 ∷ 71 ∷ 72 ∷ [] }

abbrev three : Table
three = table (first-drive ∷ third_drive ∷ fourth_drive ∷ replicate 5 zero_drive) 3

abbrev three_bytes : List ℕ
three_bytes = first-bytes ++ (76 ∷ 0 ∷ 2 ∷ 0 ∷ 41 ∷ 0 ∷ 0 ∷ 0 ∷ 42 ∷ 0 ∷ 0 ∷ 0 ∷ 43 ∷ 0 ∷ 0 ∷ 0 ∷ 184 ∷ 11 ∷ 0 ∷ 0 ∷ 0 ∷ 0 ∷ 0 ∷ 0 ∷ 136 ∷ 19 ∷ 0 ∷ 0 ∷ 0 ∷ 0 ∷ 0 ∷ 0 ∷ 45 ∷ 0 ∷ 14 ∷ 0 ∷ 15 ∷ 0 ∷ 12 ∷ 1 ∷ 80 ∷ 67 ∷ 73 ∷ 0 ∷ 70 ∷ 73 ∷ 66 ∷ 82 ∷ 69 ∷ 0 ∷ 0 ∷ 0 ∷ 33 ∷ 34 ∷ 35 ∷ 36 ∷ 37 ∷ 38 ∷ 39 ∷ 40 ∷ 41 ∷ 42 ∷ 43 ∷ 44 ∷ 45 ∷ 46 ∷ 47 ∷ 48 ∷ 0 ∷ 0 ∷ 0 ∷ 0 ∷ 0 ∷ 0 ∷ 0 ∷ 0 ∷ []) ++ (76 ∷ 0 ∷ 2 ∷ 0 ∷ 51 ∷ 0 ∷ 0 ∷ 0 ∷ 52 ∷ 0 ∷ 0 ∷ 0 ∷ 53 ∷ 0 ∷ 0 ∷ 0 ∷ 132 ∷ 3 ∷ 0 ∷ 0 ∷ 0 ∷ 0 ∷ 0 ∷ 0 ∷ 4 ∷ 16 ∷ 0 ∷ 0 ∷ 0 ∷ 0 ∷ 0 ∷ 0 ∷ 67 ∷ 0 ∷ 6 ∷ 0 ∷ 7 ∷ 0 ∷ 8 ∷ 0 ∷ 73 ∷ 83 ∷ 65 ∷ 0 ∷ 73 ∷ 50 ∷ 79 ∷ 0 ∷ 0 ∷ 0 ∷ 0 ∷ 0 ∷ 49 ∷ 50 ∷ 51 ∷ 52 ∷ 53 ∷ 54 ∷ 55 ∷ 56 ∷ 57 ∷ 58 ∷ 59 ∷ 60 ∷ 61 ∷ 62 ∷ 63 ∷ 64 ∷ 65 ∷ 66 ∷ 67 ∷ 68 ∷ 69 ∷ 70 ∷ 71 ∷ 72 ∷ []) ++ end

pub three_read : (read_table three_bytes 14000).table ≡ three
unfolding le le_bytes in_limits drive_of same bus_ok interface_ok geometry_fits fields_ok in_store overlap header_of header_at overlaps_any refusal parameters_refusal record_refusal with_record record_step end_step step_of step_at read_from read_table tail_of is_i2o zero_tail kind_ok
three_read = refl

-- written: each of the kind that it was read with
pub three_written : table_of three ≡ three_bytes
unfolding le_bytes record_of geometry_bytes size_bytes name_bytes records_of bytes_of table_of tail_bytes
three_written = refl

-- into a buffer: 223 bytes are too few, 224 are enough
pub three_buffers : map (λ (n : ℕ). written_numbers (write_answer three n)) (223 ∷ 224 ∷ []) ++ map (write_numbers three) (223 ∷ 224 ∷ []) ≡ (19 ∷ []) ∷ (0 ∷ 224 ∷ []) ∷ (19 ∷ []) ∷ (0 ∷ 224 ∷ []) ∷ []
unfolding le_bytes record_of geometry_bytes size_bytes name_bytes records_of bytes_of table_of write_answer written_numbers write_numbers tail_bytes
three_buffers = refl

-- with bad blocks of 81h and parameters of 82h
abbrev three_full : Table
three_full = record {
  drives = first-drive ∷ third_drive ∷ fourth_drive ∷ replicate 5 zero_drive;
  count = 3;
  present = false ∷ false ∷ true ∷ replicate 5 false;
  parameters = replicate 28 0 ++ (given-bytes ++ replicate 70 0);
  counts = 0 ∷ 2 ∷ replicate 6 0;
  bad = replicate 128 0 ++ (numbers (5 ∷ 2999 ∷ []) ++ replicate 880 0);
}

abbrev three_full_bytes : List ℕ
three_full_bytes = take 144 three_bytes ++ bads 1 (5 ∷ 2999 ∷ []) ++ take 76 (drop 144 three_bytes) ++ attach 2 ++ end

pub three_full_read : (read_table three_full_bytes 14000).table ≡ three_full
unfolding le le_bytes in_limits drive_of same bus_ok interface_ok geometry_fits fields_ok in_store overlap header_of header_at overlaps_any refusal parameters_refusal record_refusal with_record record_step end_step step_of step_at read_from read_table bad_count bad_length_ok bads_in held_of ascends are_blocks list_ok bads_refusal tail_of is_i2o zero_tail kind_ok
three_full_read = refl

pub three_full_written : table_of three_full ≡ three_full_bytes
unfolding le_bytes record_of geometry_bytes size_bytes name_bytes parameters_record held_of bad_record records_of bytes_of table_of tail_bytes
three_full_written = refl

-- a list for a drive behind one with parameters, which stay
abbrev kept-listed : Table
kept-listed = record {
  drives = first-drive ∷ second-drive ∷ replicate 6 zero_drive;
  count = 2;
  present = true ∷ replicate 7 false;
  parameters = given-bytes ++ replicate 98 0;
  counts = 0 ∷ 3 ∷ replicate 6 0;
  bad = replicate 128 0 ++ (numbers (5 ∷ 7 ∷ 3999 ∷ []) ++ replicate 872 0);
}

pub listed_kept : (read_table (first-bytes ++ attach 0 ++ second_bytes ++ bads 1 (5 ∷ 7 ∷ 3999 ∷ []) ++ end) 14000).table ≡ kept-listed
unfolding le le_bytes in_limits drive_of same bus_ok interface_ok geometry_fits fields_ok in_store overlap header_of header_at overlaps_any refusal parameters_refusal record_refusal with_record record_step end_step step_of step_at read_from read_table bad_count bad_length_ok bads_in held_of ascends are_blocks list_ok bads_refusal tail_of is_i2o zero_tail kind_ok
listed_kept = refl

-- the drive whose list it is, and whether that one has another: the first has 5000 blocks, the second 4000
--   the last block of the first: 0
--   the last block of the second: 0
--   one past it: 5 at 136
--   the same drives in the other order, block 4500 of the second: 0
--   a list of one, and another: 9 at 82
--   a list of one each: 0
--   a list for the second, the first having parameters, and a byte after the end: 8 at 194
pub bads_own : answers ((first-bytes ++ bads 0 (4999 ∷ []) ++ end) ∷ (first-bytes ++ second_bytes ++ bads 1 (3999 ∷ []) ++ end) ∷ (first-bytes ++ second_bytes ++ bads 1 (4000 ∷ []) ++ end) ∷ (second_bytes ++ first-bytes ++ bads 1 (4500 ∷ []) ++ end) ∷ (first-bytes ++ bads 0 (5 ∷ []) ++ bads 0 (9 ∷ []) ++ end) ∷ (first-bytes ++ bads 0 (5 ∷ []) ++ second_bytes ++ bads 1 (9 ∷ []) ++ end) ∷ (first-bytes ++ attach 0 ++ second_bytes ++ bads 1 (9 ∷ []) ++ attach 1 ++ end ++ end) ∷ [])
    ≡ (0 ∷ []) ∷ (0 ∷ []) ∷ (5 ∷ 136 ∷ []) ∷ (0 ∷ []) ∷ (9 ∷ 82 ∷ []) ∷ (0 ∷ []) ∷ (8 ∷ 194 ∷ []) ∷ []
unfolding le le_bytes in_limits drive_of same bus_ok interface_ok geometry_fits fields_ok in_store overlap header_of header_at overlaps_any refusal parameters_refusal record_refusal with_record record_step end_step step_of step_at read_from read_table answer_numbers bad_count bad_length_ok bads_in held_of ascends are_blocks list_ok bads_refusal tail_of is_i2o zero_tail kind_ok
bads_own = refl

pub bads_own_given : given ((first-bytes ++ bads 0 (4999 ∷ []) ++ end) ∷ (first-bytes ++ second_bytes ++ bads 1 (3999 ∷ []) ++ end) ∷ (first-bytes ++ second_bytes ++ bads 1 (4000 ∷ []) ++ end) ∷ (second_bytes ++ first-bytes ++ bads 1 (4500 ∷ []) ++ end) ∷ (first-bytes ++ bads 0 (5 ∷ []) ++ bads 0 (9 ∷ []) ++ end) ∷ (first-bytes ++ bads 0 (5 ∷ []) ++ second_bytes ++ bads 1 (9 ∷ []) ++ end) ∷ (first-bytes ++ attach 0 ++ second_bytes ++ bads 1 (9 ∷ []) ++ attach 1 ++ end ++ end) ∷ [])
    ≡ (0 ∷ []) ∷ (0 ∷ []) ∷ (5 ∷ 136 ∷ []) ∷ (0 ∷ []) ∷ (9 ∷ 82 ∷ []) ∷ (0 ∷ []) ∷ (8 ∷ 194 ∷ []) ∷ []
unfolding le le_bytes in_limits drive_of same bus_ok interface_ok geometry_fits fields_ok in_store overlap header_of header_at overlaps_any refusal parameters_refusal record_refusal with_record record_step end_step step_of step_at record_numbers numbers_from table_numbers bad_count bad_length_ok bads_in held_of ascends are_blocks list_ok bads_refusal tail_of is_i2o zero_tail kind_ok
bads_own_given = refl

-- what the steps are handed for a slot: how many, and 128 bytes
pub listed_slots : bads_at two_listed 0 ∷ bads_at two_listed 1 ∷ bads_at two_listed 7 ∷ []
    ≡ record { count = 2; list = numbers (5 ∷ 7 ∷ []) ++ replicate 112 0 }
    ∷ record { count = 1; list = numbers (3999 ∷ []) ++ replicate 120 0 }
    ∷ record { count = 0; list = replicate 128 0 }
    ∷ []
unfolding le_bytes
listed_slots = refl

-- the records of parameters of the first 1, 2 and 8 slots
pub counted : map (λ (n : ℕ). parameters_to n two_attached) (1 ∷ 2 ∷ 8 ∷ []) ++ map (λ (n : ℕ). parameters_to n both_attached) (1 ∷ 2 ∷ 8 ∷ []) ≡ 0 ∷ 1 ∷ 1 ∷ 1 ∷ 2 ∷ 2 ∷ []
unfolding parameters_to
counted = refl

-- ---- where the next record begins (document 02, 2026-03)

-- behind no drive, two drives, two of which the second has parameters, both, and with three bad blocks: 0, 136, 156, 176, 192; the bytes of a table
-- with no end record; behind a drive of kind 1 and two of kind 2, and with two bad blocks and parameters: 220, 262
pub next-places : map next_place (empty_table ∷ two ∷ two_attached ∷ both_attached ∷ two_listed ∷ three ∷ three_full ∷ []) ≡ 0 ∷ 136 ∷ 156 ∷ 176 ∷ 192 ∷ 220 ∷ 262 ∷ []
unfolding le_bytes record_of geometry_bytes size_bytes name_bytes records_of next_place parameters_record held_of bad_record tail_bytes
next-places = refl

-- a record that is cut off: no byte, three, a drive's but one, of sixteen bad blocks but one; not so an unknown kind, a wrong length, a drive's
-- record, a byte more, nor the record of sixteen bad blocks
pub cut : map is_unfinished ([] ∷ (4 ∷ 0 ∷ 9 ∷ []) ∷ take 67 record₁ ∷ take 133 (bads 0 sixteen) ∷ (5 ∷ 0 ∷ 9 ∷ 0 ∷ []) ∷ (67 ∷ 0 ∷ 1 ∷ 0 ∷ []) ∷ record₁ ∷ (record₁ ++ (4 ∷ [])) ∷ bads 0 sixteen ∷ [])
    ≡ true ∷ true ∷ true ∷ true ∷ false ∷ false ∷ false ∷ false ∷ false ∷ []
unfolding is_unfinished header_at header_of le le_bytes bad_count bad_length_ok
cut = refl

-- of kind 2
--   its header: true
--   75 of its bytes: true
--   all 76: false
--   the header of kind 2 with length 68: false
--   that of kind 1 with length 76: false
pub wide_cut : map is_unfinished (take 4 record₂ ∷ take 75 record₂ ∷ record₂ ∷ (68 ∷ 0 ∷ 2 ∷ 0 ∷ []) ∷ (76 ∷ 0 ∷ 1 ∷ 0 ∷ []) ∷ [])
    ≡ true ∷ true ∷ false ∷ false ∷ false ∷ []
unfolding is_unfinished header_at header_of le
wide_cut = refl

-- the longest record is one of sixteen bad blocks, the longest table has eight drives of kind 2 with such a record and parameters each
pub longest : longest_record ∷ longest_table ∷ [] ≡ 134 ∷ 1844 ∷ []
longest = refl

-- ---- a table that obeys the rules

-- in a store of 14000 blocks
--   two drives: true
--   the other way round: true
--   only the first counted, the second not blank: false
--   three counted, the third blank: false
--   none counted, all blank: true
--   the same drive twice: false
--   nine counted: false
pub sound : map (λ (b : Table). is_sound b 14000)
    (two
    ∷ table (second-drive ∷ first-drive ∷ replicate 6 zero_drive) 2
    ∷ table (first-drive ∷ second-drive ∷ replicate 6 zero_drive) 1
    ∷ table (first-drive ∷ second-drive ∷ replicate 6 zero_drive) 3
    ∷ table (replicate 8 zero_drive) 0
    ∷ table (first-drive ∷ first-drive ∷ replicate 6 zero_drive) 2
    ∷ table (first-drive ∷ second-drive ∷ replicate 6 zero_drive) 9
    ∷ [])
    ≡ true ∷ true ∷ false ∷ false ∷ true ∷ false ∷ false ∷ []
unfolding in_limits same bus_ok interface_ok geometry_fits fields_ok in_store overlap overlaps_any refusal blank_numbers blank_names is_blank sound_to blank_to attached_to listed_to is_sound held_of ascends are_blocks list_ok zero_past bads_ok le is_i2o zero_tail kind_ok
sound = refl

-- the first drive of a kind, an interface type and a tail
abbrev first_of : ℕ → List ℕ → List ℕ → Drive
first_of k i t = record { cylinders = 11; heads = 12; sectors = 13; blocks = 5000; first = 9000; flags = 21; c = 7; h = 8; s = 9; protection = 1; bus = 73 ∷ 83 ∷ 65 ∷ 0 ∷ []; interface = i; path = 1 ∷ 2 ∷ 3 ∷ 4 ∷ 5 ∷ 6 ∷ 7 ∷ 8 ∷ []; device = 9 ∷ 10 ∷ 11 ∷ 12 ∷ 13 ∷ 14 ∷ 15 ∷ 16 ∷ []; kind = k; tail = t }

-- a slot that is blank but for its kind and its tail
abbrev zero_of : ℕ → List ℕ → Drive
zero_of k t = record { cylinders = 0; heads = 0; sectors = 0; blocks = 0; first = 0; flags = 0; c = 0; h = 0; s = 0; protection = 0; bus = replicate 4 0; interface = replicate 8 0; path = replicate 8 0; device = replicate 8 0; kind = k; tail = t }

-- the kind and the tail, in a store of 14000 blocks
--   a drive of kind 1 and two of kind 2, with bad blocks and parameters: true
--   kind 1: true
--   kind 1 with a last byte of tail: false
--   kind 1, I2O: false
--   kind 2: true
--   kind 2, I2O, with a last byte of tail: true
--   kind 0: false
--   kind 3: false
--   kind 65538: false
--   past the count, nothing: true
--   past the count, kind 1: false
--   past the count, kind 2: false
--   past the count, a last byte of tail: false
pub sound_wide : map (λ (b : Table). is_sound b 14000)
    (three_full
    ∷ table (first_of 1 usb (replicate 8 0) ∷ replicate 7 zero_drive) 1
    ∷ table (first_of 1 usb (replicate 7 0 ++ (1 ∷ [])) ∷ replicate 7 zero_drive) 1
    ∷ table (first_of 1 i2o (replicate 8 0) ∷ replicate 7 zero_drive) 1
    ∷ table (first_of 2 usb (replicate 8 0) ∷ replicate 7 zero_drive) 1
    ∷ table (first_of 2 i2o (replicate 7 0 ++ (1 ∷ [])) ∷ replicate 7 zero_drive) 1
    ∷ table (first_of 0 usb (replicate 8 0) ∷ replicate 7 zero_drive) 1
    ∷ table (first_of 3 usb (replicate 8 0) ∷ replicate 7 zero_drive) 1
    ∷ table (first_of 65538 usb (replicate 8 0) ∷ replicate 7 zero_drive) 1
    ∷ table (first-drive ∷ zero_of 0 (replicate 8 0) ∷ replicate 6 zero_drive) 1
    ∷ table (first-drive ∷ zero_of 1 (replicate 8 0) ∷ replicate 6 zero_drive) 1
    ∷ table (first-drive ∷ zero_of 2 (replicate 8 0) ∷ replicate 6 zero_drive) 1
    ∷ table (first-drive ∷ zero_of 0 (replicate 7 0 ++ (1 ∷ [])) ∷ replicate 6 zero_drive) 1
    ∷ [])
    ≡ true ∷ true ∷ false ∷ false ∷ true ∷ true ∷ false ∷ false ∷ false ∷ true ∷ false ∷ false ∷ false ∷ []
unfolding le_bytes in_limits same bus_ok interface_ok geometry_fits fields_ok in_store overlap overlaps_any refusal blank_numbers blank_names is_blank sound_to blank_to attached_to listed_to is_sound held_of ascends are_blocks list_ok zero_past bads_ok le is_i2o zero_tail kind_ok
sound_wide = refl

-- and in one of 13999: the drive from 9000 ends past it
pub sound_short : is_sound two 13999 ∷ is_sound two 14000 ∷ [] ≡ false ∷ true ∷ []
unfolding in_limits same bus_ok interface_ok geometry_fits fields_ok in_store overlap overlaps_any refusal blank_numbers blank_names is_blank sound_to blank_to attached_to listed_to is_sound held_of ascends are_blocks list_ok zero_past bads_ok le is_i2o zero_tail kind_ok
sound_short = refl

-- the two drives with other marks and bytes
abbrev marks : List Bool → List ℕ → Table
marks m p =
    record {
      drives = first-drive ∷ second-drive ∷ replicate 6 zero_drive;
      count = 2;
      present = m;
      parameters = p;
      counts = replicate 8 0;
      bad = replicate 1024 0;
    }

-- parameters, in a store of 14000 blocks
--   of the second drive: true
--   of both: true
--   zeros for both: true
--   of a slot past the count: false
--   of the last slot: false
--   bytes in the first slot, which has none: false
--   a last byte in the first slot: false
--   a byte in the last slot, which has none: false
pub sound_attached : map (λ (b : Table). is_sound b 14000)
    (two_attached
    ∷ both_attached
    ∷ marks (true ∷ true ∷ replicate 6 false) (replicate 112 0)
    ∷ marks (false ∷ true ∷ true ∷ replicate 5 false) (replicate 112 0)
    ∷ marks (replicate 7 false ++ (true ∷ [])) (replicate 112 0)
    ∷ marks (replicate 8 false) (given-bytes ++ replicate 98 0)
    ∷ marks (false ∷ true ∷ replicate 6 false) (replicate 13 0 ++ (1 ∷ replicate 98 0))
    ∷ marks (replicate 8 false) (replicate 111 0 ++ (1 ∷ []))
    ∷ [])
    ≡ true ∷ true ∷ true ∷ false ∷ false ∷ false ∷ false ∷ false ∷ []
unfolding in_limits same bus_ok interface_ok geometry_fits fields_ok in_store overlap overlaps_any refusal blank_numbers blank_names is_blank sound_to blank_to attached_to listed_to is_sound held_of ascends are_blocks list_ok zero_past bads_ok le is_i2o zero_tail kind_ok
sound_attached = refl

-- the two drives with other counts and lists
abbrev listed : List ℕ → List ℕ → Table
listed n l =
    record {
      drives = first-drive ∷ second-drive ∷ replicate 6 zero_drive;
      count = 2;
      present = replicate 8 false;
      parameters = replicate 112 0;
      counts = n;
      bad = l;
    }

-- bad blocks, in a store of 14000 blocks
--   of both drives, and parameters of the second: true
--   of the first, one: true
--   one that is past its blocks: false
--   not in order: false
--   a number behind them: false
--   a last byte behind them: false
--   bytes in a slot that has none: false
--   seventeen: false
--   of a slot past the count: false
pub sound_listed : map (λ (b : Table). is_sound b 14000)
    (two_listed
    ∷ listed (1 ∷ replicate 7 0) (numbers (4999 ∷ []) ++ replicate 1016 0)
    ∷ listed (1 ∷ replicate 7 0) (numbers (5000 ∷ []) ++ replicate 1016 0)
    ∷ listed (2 ∷ replicate 7 0) (numbers (7 ∷ 5 ∷ []) ++ replicate 1008 0)
    ∷ listed (1 ∷ replicate 7 0) (numbers (5 ∷ 7 ∷ []) ++ replicate 1008 0)
    ∷ listed (1 ∷ replicate 7 0) (numbers (5 ∷ []) ++ (replicate 119 0 ++ (1 ∷ replicate 896 0)))
    ∷ listed (replicate 8 0) (numbers (5 ∷ []) ++ replicate 1016 0)
    ∷ listed (17 ∷ replicate 7 0) (numbers sixteen ++ replicate 896 0)
    ∷ listed (0 ∷ 0 ∷ 1 ∷ replicate 5 0) (replicate 1024 0)
    ∷ [])
    ≡ true ∷ true ∷ false ∷ false ∷ false ∷ false ∷ false ∷ false ∷ false ∷ []
unfolding le_bytes in_limits same bus_ok interface_ok geometry_fits fields_ok in_store overlap overlaps_any refusal blank_numbers blank_names is_blank sound_to blank_to attached_to listed_to is_sound held_of ascends are_blocks list_ok zero_past bads_ok le is_i2o zero_tail kind_ok
sound_listed = refl

-- the second drive has 4000 blocks, the first 5000; the other slots have no drive
--   the last block of the second: true
--   one past it: false
--   no number, a byte in the last slot: false
--   one number in the last slot: false
pub sound_own : map (λ (b : Table). is_sound b 14000)
    (listed (0 ∷ 1 ∷ replicate 6 0) (replicate 128 0 ++ (numbers (3999 ∷ []) ++ replicate 888 0))
    ∷ listed (0 ∷ 1 ∷ replicate 6 0) (replicate 128 0 ++ (numbers (4000 ∷ []) ++ replicate 888 0))
    ∷ listed (replicate 8 0) (replicate 1023 0 ++ (1 ∷ []))
    ∷ listed (replicate 7 0 ++ (1 ∷ [])) (replicate 1024 0)
    ∷ [])
    ≡ true ∷ false ∷ false ∷ false ∷ []
unfolding le_bytes in_limits same bus_ok interface_ok geometry_fits fields_ok in_store overlap overlaps_any refusal blank_numbers blank_names is_blank sound_to blank_to attached_to listed_to is_sound held_of ascends are_blocks list_ok zero_past bads_ok le is_i2o zero_tail kind_ok
sound_own = refl
