-- Document 02, 2026-03: the reader block. Between the calls for C a reader of fragments is kept in a lent block of its own, as a desk is: the block
-- is the image of a reader, and is accepted exactly when it is the image of a reader that obeys the rules.
-- Assumes nothing.
use Rattle.std.specs.Prelude.{ℕ, ◌+◌, ◌-◌, ◌*◌, ◌^◌, ◌<◌, ◌≡◌, Bool, true, false, List, ◌++◌, length, get_or, take, replicate, ltb, eqb}
use Rattle.logic.specs.Logic.{pick, both, either, in_range, all_below}
use Rattle.words.specs.Words.{Bytes, le, le_bytes, part}
use Rattle.drive.specs.Drive.{same}
use Rattle.table.specs.declared.Step.{Step}
use Rattle.table.specs.declared.Step.TheVariants.{Next, Done, Refused as StepRefused}
use Rattle.table.specs.Table.{cut_off, longest_record, longest_table, step_at, read_table, table_of, is_sound}
use Rattle.table.specs.Demand2.{Widths}
use Rattle.feed.specs.declared.Course.{Course}
use Rattle.feed.specs.declared.Course.TheVariants.{Reading, Closed, Accepted, Refused}
use Rattle.feed.specs.declared.Feed.{Feed}

-- ---- "2026-03", the reader block: five words of eight bytes, the bytes held, and the drives so far as a table

-- the course's number
abbrev pub course_number : Course → ℕ
course_number Reading = 0
course_number Closed = 1
course_number Accepted = 2
course_number (Refused n) = 3

-- the refusal's number; zero where there is none
abbrev pub refusal_number : Course → ℕ
refusal_number Reading = 0
refusal_number Closed = 0
refusal_number Accepted = 0
refusal_number (Refused n) = n

-- course, refusal, the store's number of blocks, how many bytes are held, and the length of the table
abbrev pub head_bytes : Feed → List ℕ
head_bytes f =
    le_bytes 8 (course_number f.course) ++ (le_bytes 8 (refusal_number f.course) ++ (le_bytes 8 f.store
    ++ (le_bytes 8 f.filled ++ le_bytes 8 (length (table_of f.table)))))

-- the table, and zeros behind it
abbrev pub table_bytes : Feed → List ℕ
table_bytes f = table_of f.table ++ replicate (longest_table - length (table_of f.table)) 0

-- the image of a reader
unfoldable pub image : Feed → List ℕ
image f = head_bytes f ++ (f.held ++ table_bytes f)

-- ---- "2026-03", the reader block: where its parts stand

-- the bytes held, behind the five words
abbrev pub held_at : ℕ
held_at = 8 * 5

-- the table, behind them
abbrev pub table_at : ℕ
table_at = held_at + longest_record

-- the whole block, 2018 bytes
abbrev pub reader_size : ℕ
reader_size = table_at + longest_table

-- ---- "2026-03", the reader block: the reader that it says

-- by the course's number; any but 0, 1 and 2 says refused
abbrev pub course_at : List ℕ → Course
course_at b = pick (eqb (le 8 b 0) 0) Reading (pick (eqb (le 8 b 0) 1) Closed (pick (eqb (le 8 b 0) 2) Accepted (Refused (get_or b 8 0))))

-- the drives are those that document 01's reader takes from the table
unfoldable pub read_reader : List ℕ → Feed
read_reader b =
    record {
      table = (read_table (part (le 8 b 32) b table_at) (le 8 b 16)).table;
      store = le 8 b 16;
      held = part longest_record b held_at;
      filled = le 8 b 24;
      course = course_at b;
    }

-- ---- "2026-03", the reader block: which readers obey the rules

-- the record is cut off
abbrev pub is_cut : Step → Bool
is_cut (Next at) = false
is_cut Done = false
is_cut (StepRefused n at) = eqb n cut_off

-- the bytes past those held are zero
unfoldable pub rest_zero : List ℕ → ℕ → Bool
rest_zero held filled = all_below longest_record (λ j. either (ltb j filled) (eqb (get_or held j 0) 0))

-- what is held is a proper beginning of a record; nothing is held but by a reader that reads; a refusal is one of a table's, 1 to 9
unfoldable pub course_ok : Course → Feed → Bool
course_ok Reading f = both (ltb f.filled longest_record) (is_cut (step_at (take f.filled f.held) 0 f.table f.store).step)
course_ok Closed f = eqb f.filled 0
course_ok Accepted f = eqb f.filled 0
course_ok (Refused n) f = both (eqb f.filled 0) (in_range n 1 9)

-- the drives obey the table's rules, and the rest these
unfoldable pub accept : Feed → Bool
accept f = both (is_sound f.table f.store) (both (rest_zero f.held f.filled) (course_ok f.course f))

-- ---- "2026-03", the reader block: which blocks are accepted

-- it has the size, what it says makes the same bytes again, so that no byte of it says anything else, and that obeys the rules
unfoldable pub accepted : List ℕ → Bool
accepted b = both (eqb (length b) reader_size) (both (accept (read_reader b)) (same b (image (read_reader b))))

-- a reader laid out in a block; a block of another size stays
unfoldable pub laid : List ℕ → Feed → List ℕ
laid b f = pick (eqb (length b) reader_size) (image f) b

-- ---- "2026-03", the reader block: the two ways round, of which one is about every block and the other about every reader

-- each number of a reader fits its width, each array has its length, as the types say
pub record FitsReader (f : Feed) : Type 0 where
  pub table : Widths f.table
  pub store : f.store < 256 ^ 8
  pub held : length f.held ≡ longest_record
  pub bytes : Bytes f.held

-- a block that is the image of a reader that obeys the rules
pub record ImageOf (b : List ℕ) (f : Feed) : Type 0 where
  pub fits : FitsReader f
  pub acceptable : accept f ≡ true
  pub image : image f ≡ b

-- both ways
pub record Exact : Type 0 where
  pub only : (b : List ℕ) → Bytes b → accepted b ≡ true → ImageOf b (read_reader b)
  pub every : (b : List ℕ) (f : Feed) → ImageOf b f → (accepted b ≡ true) × (read_reader b ≡ f)
