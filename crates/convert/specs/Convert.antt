-- Document 02, 2026-06: the converter from a drive's record of kind 1 to one of kind 2, and back.
-- Assumes nothing.
use Rattle.std.specs.Prelude.{ℕ, ◌-◌, Bool, not, List, ◌++◌, length, replicate, eqb, Result, Ok, Err}
use Rattle.logic.specs.Logic.{pick, both}
use Rattle.words.specs.Words.{le, le_bytes, part}
use Rattle.convert.specs.declared.Unconvertible.{Unconvertible}
use Rattle.drive.specs.Drive.{drive_kind, wide_kind, drive_length, drive_of, fields_ok, zero_tail, is_i2o}

-- ---- "2026-06", the number of a refusal

-- 10: the record cannot be converted, or a buffer has another size
abbrev pub conversion : ℕ
conversion = 10

-- the number of an answer: 0, or 10
unfoldable pub conversion_number : Result Unit Unconvertible → ℕ
conversion_number (Ok done) = 0
conversion_number (Err e) = conversion

-- an answer: done, or refused
abbrev pub answer : Bool → Result Unit Unconvertible
answer t = pick t (Ok tt) (Err (record {}))

-- ---- "2026-06", "a sound record (length, kind, fields)"

-- so many bytes as its kind has, and the length and the kind in its first two words
unfoldable pub is_record : ℕ → List ℕ → Bool
is_record kind r = both (eqb (length r) (drive_length kind)) (both (eqb (le 2 r 0) (drive_length kind)) (eqb (le 2 r 2) kind))

-- and fields that keep their rules (refusal 5); where its blocks lie in a store (refusals 6 and 7) is no matter of the record
unfoldable pub sound_record : ℕ → List ℕ → Bool
sound_record kind r = both (is_record kind r) (fields_ok (drive_of r))

-- what a record of either kind has, behind a length and a kind that say so: its 64 bytes from offset 4 on
unfoldable pub shared : ℕ → List ℕ → List ℕ
shared kind r = le_bytes 2 (drive_length kind) ++ (le_bytes 2 kind ++ part 64 r 4)

-- ---- "2026-06", both ways in one

-- a sound record of one kind, with nothing in it that only kind 2 can say, and a buffer of the size of the other
unfoldable pub converts : ℕ → ℕ → List ℕ → ℕ → Bool
converts from to r room =
    both (eqb room (drive_length to)) (both (sound_record from r) (both (zero_tail (drive_of r)) (not (is_i2o (drive_of r)))))

-- what they share, and zeros up to the size of the other
unfoldable pub converted_bytes : ℕ → List ℕ → List ℕ
converted_bytes to r = shared to r ++ replicate (drive_length to - 68) 0

-- ---- "2026-06", up: from kind 1 to kind 2

-- "eight zero bytes appended"
unfoldable pub up_bytes : List ℕ → List ℕ
up_bytes r = shared wide_kind r ++ replicate 8 0

-- a sound record of kind 1, and a buffer of the size of kind 2
unfoldable pub up_ok : List ℕ → ℕ → Bool
up_ok r room = both (eqb room (drive_length wide_kind)) (sound_record drive_kind r)

-- the answer
unfoldable pub up_answer : List ℕ → ℕ → Result Unit Unconvertible
up_answer r room = answer (up_ok r room)

-- what is then in the buffer; refused, what was there
unfoldable pub up_out : List ℕ → List ℕ → List ℕ
up_out r out = pick (up_ok r (length out)) (up_bytes r) out

-- ---- "2026-06", down: from kind 2 to kind 1

-- the same bytes without the last eight
unfoldable pub down_bytes : List ℕ → List ℕ
down_bytes r = shared drive_kind r

-- a sound record of kind 2 whose last eight bytes are zero and whose type is not I2O, and a buffer of the size of kind 1
unfoldable pub down_ok : List ℕ → ℕ → Bool
down_ok r room =
    both (eqb room (drive_length drive_kind)) (both (sound_record wide_kind r) (both (zero_tail (drive_of r)) (not (is_i2o (drive_of r)))))

-- the answer
unfoldable pub down_answer : List ℕ → ℕ → Result Unit Unconvertible
down_answer r room = answer (down_ok r room)

-- what is then in the buffer; refused, what was there
unfoldable pub down_out : List ℕ → List ℕ → List ℕ
down_out r out = pick (down_ok r (length out)) (down_bytes r) out
