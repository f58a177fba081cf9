-- Document 01, "The drive table", and document 02, 2026-01, 2026-04 and 2026-06: little-endian records, read record by record in the paper's order of checks, and
-- written back.
-- Assumes nothing.
use Rattle.std.specs.Prelude.{ℕ, zero, suc, ◌+◌, ◌-◌, ◌*◌, ◌≡◌, Bool, true, false, not, Result, Ok, Err, Option, Some, None, List, [], ◌∷◌, ◌++◌, length, get_or, set, take, drop, replicate, leb, ltb, eqb}
use Rattle.std.proofs.lemmas.List.Edits.{sets}
use Rattle.logic.specs.Logic.{pick, both, either, all_below, some_below}
use Rattle.words.specs.Words.{le, le_bytes, part}
use Rattle.drive.specs.declared.Drive.{Drive}
use Rattle.drive.specs.Drive.{wide_kind, is_drive_kind, drive_length, drive_of, record_of, fields_ok, in_store, overlap, is_blank, zero_drive as drive_of_zeros}
use Rattle.attached.specs.Parameters.{parameters_kind, parameters_length, given_length, number_in, parameters_in, parameters_record}
use Rattle.attached.specs.declared.Bads.{Bads}
use Rattle.attached.specs.Bad.{bad_kind, most_bad, list_length, bad_length, bad_length_ok, bads_in, bad_record, list_ok, bads_ok}
use Rattle.table.specs.declared.Table.{Table}
use Rattle.table.specs.declared.Refusal.{Refusal}
use Rattle.table.specs.declared.Refusal.TheVariants.{CutOff, WrongLength, UnknownKind, NinthDrive, BadField, PastStore, Overlapping, ByteFollows, NotLast}
use Rattle.table.specs.declared.Refused.{Refused as RefusedAt}
use Rattle.table.specs.declared.ShortBuffer.{ShortBuffer}
use Rattle.table.specs.declared.Step.{Step}
use Rattle.table.specs.declared.Step.TheVariants.{Next, Done, Refused}
use Rattle.table.specs.declared.Stepped.{Stepped}
use Rattle.table.specs.declared.Cursor.{Cursor}
use Rattle.table.specs.declared.Reading.{Reading}

-- ---- "The drive table", the numbers of the refusals, in the order of the checks; for bad blocks 9 comes before 5

-- 1 fewer than 4 bytes left, or the record is cut off
abbrev pub cut_off : ℕ
cut_off = 1

-- 3 unknown kind
abbrev pub unknown_kind : ℕ
unknown_kind = 3

-- 2 wrong length for the kind
abbrev pub wrong_length : ℕ
wrong_length = 2

-- 4 ninth drive
abbrev pub ninth_drive : ℕ
ninth_drive = 4

-- 5 a field breaks its rule; a list of bad blocks is unsorted, repeated or outside the drive (document 02, 2026-04)
abbrev pub bad_field : ℕ
bad_field = 5

-- 6 first + blocks is above the store
abbrev pub past_store : ℕ
past_store = 6

-- 7 it overlaps an earlier drive
abbrev pub overlapping : ℕ
overlapping = 7

-- 9 a record of kind 3 or 4 names any but the last drive read, or repeats one; or one of kind 3 follows its drive's of kind 4 (document 02, 2026-01
-- and 2026-04)
abbrev pub not_last : ℕ
not_last = 9

-- 8 a byte follows the end record
abbrev pub byte_follows : ℕ
byte_follows = 8

-- a refusal's number
abbrev pub number : Refusal → ℕ
number CutOff = cut_off
number WrongLength = wrong_length
number UnknownKind = unknown_kind
number NinthDrive = ninth_drive
number BadField = bad_field
number PastStore = past_store
number Overlapping = overlapping
number ByteFollows = byte_follows
number NotLast = not_last

-- and the refusal of a number, which is one of the nine
abbrev pub named : ℕ → Refusal
named n =
    pick (eqb n cut_off) CutOff
    (pick (eqb n wrong_length) WrongLength
    (pick (eqb n unknown_kind) UnknownKind
    (pick (eqb n ninth_drive) NinthDrive
    (pick (eqb n bad_field) BadField
    (pick (eqb n past_store) PastStore
    (pick (eqb n overlapping) Overlapping
    (pick (eqb n byte_follows) ByteFollows
    NotLast)))))))

-- 0 where something is taken, or the refusal's number
abbrev pub verdict : Result Unit Refusal → ℕ
verdict (Ok x) = 0
verdict (Err e) = number e

-- refused with a number, at a place
abbrev pub refused : ℕ → ℕ → RefusedAt
refused n at = record { refusal = named n; place = at }

-- house number 19: write, buffer shorter than the table
abbrev pub short_buffer : ℕ
short_buffer = 19

-- ---- "The drive table", a record: length first (word, whole record), then a two-byte kind

-- kind 0 ends the table
abbrev pub end_kind : ℕ
end_kind = 0

-- and its record is 4 bytes
abbrev pub end_length : ℕ
end_length = 4

-- the kinds that there are: 0, 1 and 2, 3 and 4
abbrev pub is_kind : ℕ → Bool
is_kind kind = either (eqb kind end_kind) (either (is_drive_kind kind) (either (eqb kind bad_kind) (eqb kind parameters_kind)))

-- the length for the kind: 4 for kind 0, 68 for kind 1, 76 for kind 2, one to sixteen numbers for kind 3, 20 for kind 4
abbrev pub length_ok : ℕ → ℕ → Bool
length_ok kind size =
    either (both (eqb kind end_kind) (eqb size end_length))
    (either (both (is_drive_kind kind) (eqb size (drive_length kind)))
    (either (both (eqb kind bad_kind) (bad_length_ok size)) (both (eqb kind parameters_kind) (eqb size parameters_length))))

-- the length word and the kind
abbrev pub header_length : ℕ
header_length = 4

-- the longest record that there is, of sixteen bad blocks
abbrev pub longest_record : ℕ
longest_record = bad_length most_bad

-- checks 1, 3, 2, 1 of a record, from the bytes left, its length word and its kind: its refusal, or a whole record of a kind and a length
unfoldable pub header_of : ℕ → ℕ → ℕ → Result (ℕ × ℕ) Refusal
header_of left size kind =
    pick (ltb left header_length) (Err CutOff)
    (pick (not (is_kind kind)) (Err UnknownKind)
    (pick (not (length_ok kind size)) (Err WrongLength)
    (pick (ltb left size) (Err CutOff)
    (Ok (kind, size)))))

-- the header at a place: the length word first, the kind two bytes on
unfoldable pub header_at : List ℕ → ℕ → Result (ℕ × ℕ) Refusal
header_at t at = header_of (length t - at) (le 2 t at) (le 2 t (at + 2))

-- the header is that of a record that is cut off
abbrev pub cut_header : Result (ℕ × ℕ) Refusal → Bool
cut_header (Ok w) = false
cut_header (Err e) = eqb (number e) cut_off

-- the bytes are an unfinished record (document 02, 2026-03): cut off, and nothing else is wrong with it so far
unfoldable pub is_unfinished : List ℕ → Bool
is_unfinished t = cut_header (header_at t 0)

-- ---- "The drive table", a drive among those before it: checks 4, 5, 6, 7

-- "Drives: 0 to 8"
abbrev pub most_drives : ℕ
most_drives = 8

-- the value of a slot that holds no drive
abbrev pub no_drive : Drive
no_drive = record { cylinders = 0; heads = 0; sectors = 0; blocks = 0; first = 0; flags = 0; c = 0; h = 0; s = 0; protection = 0; bus = []; interface = []; path = []; device = []; kind = 0; tail = [] }

-- d overlaps one of the first n
unfoldable pub overlaps_any : ℕ → List Drive → Drive → Bool
overlaps_any n l d = some_below n (λ i. overlap d (get_or l i no_drive))

-- the refusal of a drive after n others, which it overlaps or not; or 0 where it is taken
abbrev pub refusal_by : ℕ → Bool → Drive → ℕ → ℕ
refusal_by n overlaps d store =
    pick (leb most_drives n) ninth_drive
    (pick (not (fields_ok d)) bad_field
    (pick (not (in_store d store)) past_store
    (pick overlaps overlapping
    0)))

-- the refusal of a drive after the first n of a list
unfoldable pub refusal : ℕ → List Drive → Drive → ℕ → ℕ
refusal n l d store = refusal_by n (overlaps_any n l d) d store

-- the drives so far with one more
abbrev pub more : Table → Drive → Table
more b d =
    record {
      drives = set b.drives b.count d;
      count = b.count + 1;
      present = b.present;
      parameters = b.parameters;
      counts = b.counts;
      bad = b.bad;
    }

-- ---- "2026-01", a drive's parameters among the drives before them: check 9

-- slot i has a record of parameters
abbrev pub has_parameters : Table → ℕ → Bool
has_parameters b i = get_or b.present i false

-- and its bytes, as the record has them
abbrev pub parameters_at : Table → ℕ → List ℕ
parameters_at b i = part given_length b.parameters (given_length * i)

-- 9 unless the record names the last drive read, and that one has none yet; or 0 where it is taken. With no drive read there is no last one
unfoldable pub parameters_refusal : Table → ℕ → ℕ
parameters_refusal b i = pick (both (ltb i most_drives) (both (eqb (i + 1) b.count) (not (has_parameters b i)))) 0 not_last

-- the drives so far with parameters for the one in slot i
abbrev pub with_parameters : Table → ℕ → List ℕ → Table
with_parameters b i p =
    record {
      drives = b.drives;
      count = b.count;
      present = set b.present i true;
      parameters = sets b.parameters (given_length * i) p;
      counts = b.counts;
      bad = b.bad;
    }

-- ---- "2026-04", a drive's bad blocks among the drives before them: checks 9 and 5

-- the bad blocks of slot i: how many, 0 where there is no record of them, and the bytes of sixteen numbers
abbrev pub bads_at : Table → ℕ → Bads
bads_at b i = record { count = get_or b.counts i 0; list = part list_length b.bad (list_length * i) }

-- slot i has a record of bad blocks
abbrev pub has_bads : Table → ℕ → Bool
has_bads b i = not (eqb (get_or b.counts i 0) 0)

-- 9 unless the record names the last drive read, and that one has none yet, nor parameters, which come behind them; then 5 unless the list is
-- one of blocks of that drive; or 0 where it is taken
unfoldable pub bads_refusal : Table → ℕ → Bads → ℕ
bads_refusal b i l =
    pick (both (ltb i most_drives) (both (eqb (i + 1) b.count) (not (either (has_bads b i) (has_parameters b i)))))
    (pick (list_ok l (get_or b.drives i no_drive).blocks) 0 bad_field)
    not_last

-- the drives so far with bad blocks for the one in slot i
abbrev pub with_bads : Table → ℕ → Bads → Table
with_bads b i l =
    record {
      drives = b.drives;
      count = b.count;
      present = b.present;
      parameters = b.parameters;
      counts = set b.counts i l.count;
      bad = sets b.bad (list_length * i) l.list;
    }

-- ---- "The drive table", one step of the reader; a refusal names the record's start

-- what a record was, and the drives after it
abbrev pub stepped : Step → Table → Stepped
stepped s b = record { step = s; table = b }

-- the refusal of a whole record that is not the end record, by its kind and its bytes; or 0 where it is taken
unfoldable pub record_refusal : ℕ → List ℕ → Table → ℕ → ℕ
record_refusal kind r b store =
    pick (is_drive_kind kind) (refusal b.count b.drives (drive_of r) store)
    (pick (eqb kind bad_kind) (bads_refusal b (number_in r) (bads_in r))
    (parameters_refusal b (number_in r)))

-- the drives after it, where it is taken
unfoldable pub with_record : ℕ → List ℕ → Table → Table
with_record kind r b =
    pick (is_drive_kind kind) (more b (drive_of r))
    (pick (eqb kind bad_kind) (with_bads b (number_in r) (bads_in r))
    (with_parameters b (number_in r) (parameters_in r)))

-- refused at its start, or taken, and on behind it
unfoldable pub record_step : ℕ → ℕ → List ℕ → Table → ℕ → ℕ → Stepped
record_step kind size r b at store =
    pick (eqb (record_refusal kind r b store) 0) (stepped (Next (at + size)) (with_record kind r b)) (stepped (Refused (record_refusal kind r b store) at) b)

-- after the end record, 8 if a byte follows, at that byte
unfoldable pub end_step : List ℕ → ℕ → Table → Stepped
end_step t at b = pick (ltb (at + end_length) (length t)) (stepped (Refused byte_follows (at + end_length)) b) (stepped Done b)

-- by the header: its refusal at the record's start, or the step of the record's kind over exactly its bytes
unfoldable pub step_of : Result (ℕ × ℕ) Refusal → List ℕ → ℕ → Table → ℕ → Stepped
step_of (Err e) t at b store = stepped (Refused (number e) at) b
step_of (Ok (kind, size)) t at b store = pick (eqb kind end_kind) (end_step t at b) (record_step kind size (part size t at) b at store)

-- what the reader's loop finds as a step: the place of the next record, or none at the end; or a refusal, by its number
abbrev pub step_found : Result (Option ℕ) RefusedAt → Step
step_found (Ok (Some next)) = Next next
step_found (Ok None) = Done
step_found (Err e) = Refused (number e.refusal) e.place

-- the bytes of a whole record of a kind, as its header says: of a drive, of one to sixteen bad blocks, or of parameters
pub record WholeRecord (kind : ℕ) (r : List ℕ) : Type 0 where
  pub other : kind ≡ end_kind → ⊥
  pub word : le 2 r 2 ≡ kind
  pub right : length_ok kind (length r) ≡ true

-- a record that is not the end record is taken, and the drives are those after it; or it is refused, and they stay
pub record Takes (kind : ℕ) (r : List ℕ) (b : Table) (store : ℕ) (answer : Result Unit Refusal) (after : Table) : Type 0 where
  pub answers : verdict answer ≡ record_refusal kind r b store
  pub drives : after ≡ pick (eqb (record_refusal kind r b store) 0) (with_record kind r b) b

-- the record at a place, among the drives before it
unfoldable pub step_at : List ℕ → ℕ → Table → ℕ → Stepped
step_at t at b store = step_of (header_at t at) t at b store

-- the place after a record that began at `at`: behind it, or where it was, at the end of the table and at a refusal
abbrev pub place_after : Step → ℕ → ℕ
place_after (Next next) at = next
place_after Done at = at
place_after (Refused n place) at = at

-- where the reading stands after a record that began at `at`
abbrev pub cursor_after : ℕ → Stepped → Cursor
cursor_after at r = record { at = place_after r.step at; step = r.step; table = r.table }

-- a step from where the reading stands: what the record was, the drives after it, and the next place, which the reader remembers
unfoldable pub advanced : List ℕ → Cursor → ℕ → Cursor
advanced t c store = cursor_after c.at (step_at t c.at c.table store)

-- ---- "The drive table", the whole table

-- a slot that no drive was read into
abbrev pub zero_drive : Drive
zero_drive = drive_of_zeros

-- the table with no drive
abbrev pub empty_table : Table
empty_table =
    record {
      drives = replicate most_drives zero_drive;
      count = 0;
      present = replicate most_drives false;
      parameters = replicate (given_length * most_drives) 0;
      counts = replicate most_drives 0;
      bad = replicate (list_length * most_drives) 0;
    }

-- before the first record
abbrev pub begun : Cursor
begun = record { at = 0; step = Next 0; table = empty_table }

-- what a table was, and the drives that were taken
abbrev pub reading : Result Unit RefusedAt → Table → Reading
reading a b = record { answer = a; table = b }

-- on with f from a step's answer, unless it ends the reading
abbrev pub go_on : Step → Table → (ℕ → Table → Reading) → Reading
go_on (Next at) b f = f at b
go_on Done b f = reading (Ok tt) b
go_on (Refused n at) b f = reading (Err (refused n at)) b

-- at most k records from a place; where k are enough the first clause is never met
unfoldable pub read_from : ℕ → List ℕ → ℕ → ℕ → Table → Reading
read_from zero t store at b = reading (Err (record { refusal = NinthDrive; place = at })) b
read_from (suc k) t store at b = go_on (step_at t at b store).step (step_at t at b store).table (read_from k t store)

-- enough records: eight drives with a record of bad blocks and one of parameters each, and the end record or one more, which is refused
abbrev pub most_records : ℕ
most_records = 25

-- the drives of a table's bytes, or the refusal with its place and the drives before it
unfoldable pub read_table : List ℕ → ℕ → Reading
read_table t store = read_from most_records t store 0 empty_table

-- ---- "The drive table", what the reader's loop finds at the end record

-- at the end record, whose bytes end at a place of n: 8 if a byte follows, at that byte
unfoldable pub end_answer : ℕ → ℕ → Result Unit RefusedAt
end_answer next n = pick (ltb next n) (Err (record { refusal = ByteFollows; place = next })) (Ok tt)

-- ---- "Calls the host makes", write: the table written back

-- the end record
abbrev pub end_record : List ℕ
end_record = le_bytes 2 end_length ++ le_bytes 2 end_kind

-- the record of the bad blocks of slot i, where it has any
abbrev pub bads_record : ℕ → Bads → List ℕ
bads_record i l = pick (eqb l.count 0) [] (bad_record i l)

-- the records of slot i: its drive's, then that of its bad blocks and that of its parameters, where it has them, with the slot's number and the
-- bytes as they were read
abbrev pub slot_bytes : Drive → Bads → Bool → ℕ → List ℕ → List ℕ
slot_bytes d l present i p = record_of d ++ (bads_record i l ++ pick present (parameters_record i p) [])

-- of a table
abbrev pub slot_records : Table → ℕ → List ℕ
slot_records b i = slot_bytes (get_or b.drives i no_drive) (bads_at b i) (has_parameters b i) i (parameters_at b i)

-- the records of the first n slots
unfoldable pub records_of : ℕ → Table → List ℕ
records_of zero b = []
records_of (suc n) b = records_of n b ++ slot_records b n

-- the bytes of the first n slots as a table
unfoldable pub bytes_of : ℕ → Table → List ℕ
bytes_of n b = records_of n b ++ end_record

-- the drives that a table holds
abbrev pub drives_of : Table → List Drive
drives_of b = take b.count b.drives

-- where the next record begins, behind those of its drives' slots
unfoldable pub next_place : Table → ℕ
next_place b = length (records_of (length (drives_of b)) b)

-- the longest table: eight drives of kind 2 with sixteen bad blocks and parameters each, and the end record
abbrev pub longest_table : ℕ
longest_table = most_drives * (drive_length wide_kind + bad_length most_bad + parameters_length) + end_length

-- the table's bytes: the records of its drives' slots, and the end record
unfoldable pub table_of : Table → List ℕ
table_of b = bytes_of (length (drives_of b)) b

-- write: refused, 19, if the buffer is shorter, which then stays; else the bytes past the table stay
unfoldable pub write_answer : Table → ℕ → Result ℕ ShortBuffer
write_answer b room = pick (ltb room (length (table_of b))) (Err (record {})) (Ok (length (table_of b)))

-- what is then in the buffer
unfoldable pub write_out : Table → List ℕ → List ℕ
write_out b out = pick (ltb (length out) (length (table_of b))) out (table_of b ++ drop (length (table_of b)) out)

-- ---- "The drive table", the answers as numbers: 0 and the values, or the refusal's number and its place; no two answers have the same

-- 0, 1 for a record that was taken, and the next place; 0 alone at the end; or the number and the place
unfoldable pub step_numbers : Step → List ℕ
step_numbers (Next at) = 0 ∷ 1 ∷ at ∷ []
step_numbers Done = 0 ∷ []
step_numbers (Refused n at) = n ∷ at ∷ []

-- 0, or the number and the place
unfoldable pub answer_numbers : Result Unit RefusedAt → List ℕ
answer_numbers (Ok x) = 0 ∷ []
answer_numbers (Err e) = number e.refusal ∷ e.place ∷ []

-- 0 and how many bytes, or the house number
unfoldable pub written_numbers : Result ℕ ShortBuffer → List ℕ
written_numbers (Ok n) = 0 ∷ n ∷ []
written_numbers (Err e) = short_buffer ∷ []

-- the numbers of a refusal of a record at a place, or of one that is taken, and on behind its bytes
abbrev pub taken_numbers : ℕ → ℕ → ℕ → List ℕ
taken_numbers n at size = pick (eqb n 0) (0 ∷ 1 ∷ (at + size) ∷ []) (n ∷ at ∷ [])

-- word 4 of a record at a place is the number of the last drive read
abbrev pub names_last : List ℕ → ℕ → Table → Bool
names_last t at b = both (ltb (le 2 t (at + 4)) 8) (eqb (le 2 t (at + 4) + 1) b.count)

-- the numbers of a whole record of a kind: the end record's; a drive's, of kind 1 or 2, with its refusal; those of a drive's bad blocks, which are 9 unless
-- word 4 names the last drive read and that one has neither bad blocks nor parameters yet, then 5 unless they are good; or those of a drive's
-- parameters, of 20 bytes, which are 9 unless word 4 names the last drive read and that one has none yet
abbrev pub whole_numbers : List ℕ → ℕ → Table → ℕ → ℕ → ℕ → List ℕ
whole_numbers t at b store kind size =
    pick (eqb kind 0) (pick (ltb (at + 4) (length t)) (8 ∷ (at + 4) ∷ []) (0 ∷ []))
    (pick (either (eqb kind 1) (eqb kind 2)) (taken_numbers (refusal b.count b.drives (drive_of (part size t at)) store) at size)
    (pick (eqb kind 3) (taken_numbers (pick (both (names_last t at b) (both (eqb (get_or b.counts (le 2 t (at + 4)) 0) 0) (not (get_or b.present (le 2 t (at + 4)) false))))
    (pick (list_ok (bads_in (part size t at)) (get_or b.drives (le 2 t (at + 4)) no_drive).blocks) 0 5) 9) at size)
    (taken_numbers (pick (both (names_last t at b) (not (get_or b.present (le 2 t (at + 4)) false))) 0 9) at 20)))

-- the numbers of a record at a place, straight from its length word, its kind and its bytes: the checks in the paper's order
unfoldable pub record_numbers : List ℕ → ℕ → Table → ℕ → List ℕ
record_numbers t at b store =
    pick (ltb (length t - at) 4) (1 ∷ at ∷ [])
    (pick (not (is_kind (le 2 t (at + 2)))) (3 ∷ at ∷ [])
    (pick (not (length_ok (le 2 t (at + 2)) (le 2 t at))) (2 ∷ at ∷ [])
    (pick (ltb (length t - at) (le 2 t at)) (1 ∷ at ∷ [])
    (whole_numbers t at b store (le 2 t (at + 2)) (le 2 t at)))))

-- on from a record's numbers, where they name a next place
abbrev pub onward : List ℕ → (ℕ → List ℕ) → List ℕ
onward [] f = []
onward (n ∷ []) f = n ∷ []
onward (n ∷ at ∷ []) f = n ∷ at ∷ []
onward (n ∷ kind ∷ next ∷ l) f = f next

-- the numbers of a table's bytes: those of its first record that does not name a next one
unfoldable pub numbers_from : ℕ → List ℕ → ℕ → ℕ → Table → List ℕ
numbers_from zero t store at b = 4 ∷ at ∷ []
numbers_from (suc k) t store at b = onward (record_numbers t at b store) (λ next. numbers_from k t store next (step_at t at b store).table)

-- from the first record on
unfoldable pub table_numbers : List ℕ → ℕ → List ℕ
table_numbers t store = numbers_from most_records t store 0 empty_table

-- the numbers of a write into room for so many bytes
unfoldable pub write_numbers : Table → ℕ → List ℕ
write_numbers b room = pick (ltb room (length (table_of b))) (19 ∷ []) (0 ∷ length (table_of b) ∷ [])

-- ---- "The drive table", what the calls promise: the answer, and its numbers

-- one record on
pub record Advances (t : List ℕ) (c : Cursor) (store : ℕ) (r : Cursor) : Type 0 where
  pub cursor : r ≡ advanced t c store
  pub numbers : step_numbers r.step ≡ record_numbers t c.at c.table store

-- the whole table
pub record Reads (t : List ℕ) (store : ℕ) (r : Reading) : Type 0 where
  pub reading : r ≡ read_table t store
  pub numbers : answer_numbers r.answer ≡ table_numbers t store

-- ---- "The drive table", a table that obeys the rules, as a desk holds it

-- the drive in slot i is taken after those before it
abbrev pub taken_at : List Drive → ℕ → ℕ → Bool
taken_at l store i = eqb (refusal i l (get_or l i no_drive) store) 0

-- each of the first n drives is taken after those before it
unfoldable pub sound_to : ℕ → List Drive → ℕ → Bool
sound_to n l store = all_below n (taken_at l store)

-- slot i is blank, if it is past the count
abbrev pub blank_at : List Drive → ℕ → ℕ → Bool
blank_at l count i = either (ltb i count) (is_blank (get_or l i no_drive))

-- of the first n slots, those past the count are blank
unfoldable pub blank_to : ℕ → List Drive → ℕ → Bool
blank_to n l count = all_below n (blank_at l count)

-- slot i has parameters only if it has a drive, and zeros for them if it has none
abbrev pub attached_at : Table → ℕ → Bool
attached_at b i = pick (has_parameters b i) (ltb i b.count) (all_below given_length (λ j. eqb (get_or b.parameters (given_length * i + j) 0) 0))

-- of the first n slots
unfoldable pub attached_to : ℕ → Table → Bool
attached_to n b = all_below n (attached_at b)

-- slot i has bad blocks of its drive only, in ascending order, and zeros behind them
abbrev pub listed_at : Table → ℕ → Bool
listed_at b i = bads_ok (bads_at b i) (get_or b.drives i no_drive).blocks

-- of the first n slots
unfoldable pub listed_to : ℕ → Table → Bool
listed_to n b = all_below n (listed_at b)

-- at most eight drives, each of which the reader would take, blank slots past them, and parameters and bad blocks of drives only
unfoldable pub is_sound : Table → ℕ → Bool
is_sound b store =
    both (leb b.count most_drives)
    (both (sound_to b.count b.drives store)
    (both (blank_to most_drives b.drives b.count) (both (attached_to most_drives b) (listed_to most_drives b))))

-- ---- "2026-01", how many records of parameters there are

-- in the first n slots
unfoldable pub parameters_to : ℕ → Table → ℕ
parameters_to zero b = 0
parameters_to (suc n) b = parameters_to n b + pick (has_parameters b n) 1 0
