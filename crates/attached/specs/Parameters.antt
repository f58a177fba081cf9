-- Document 02, 2026-01: the record of kind 4, 20 bytes, which follows its drive's: the drive's number, and bytes 0 to 13 of the sixteen of its
-- device parameter table (document 002, Table 00278).
-- Assumes nothing.
use Rattle.std.specs.Prelude.{ℕ, List, ◌++◌}
use Rattle.words.specs.Words.{le, le_bytes, part}

-- ---- "2026-01", the record by its offsets

-- a drive's parameters are kind 4
abbrev pub parameters_kind : ℕ
parameters_kind = 4

-- and their record is 20 bytes
abbrev pub parameters_length : ℕ
parameters_length = 20

-- the bytes of the table that the record gives: 0 to 13 of the sixteen
abbrev pub given_length : ℕ
given_length = 14

-- offset 4: the number of the drive, counted from 0; of kind 3 too (2026-04)
abbrev pub number_in : List ℕ → ℕ
number_in r = le 2 r 4

-- offset 6: the bytes, any
abbrev pub parameters_in : List ℕ → List ℕ
parameters_in r = part given_length r 6

-- offsets 0, 2, 4, 6: length, kind, number, bytes
unfoldable pub parameters_record : ℕ → List ℕ → List ℕ
parameters_record i p = le_bytes 2 parameters_length ++ (le_bytes 2 parameters_kind ++ (le_bytes 2 i ++ p))
