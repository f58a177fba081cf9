-- Document 02, 2026-03, "read the table as it arrives": a reader that is fed bytes, keeps at most one unfinished record between them, and is told
-- when the input ends.
-- Assumes nothing.
use Rattle.std.specs.Prelude.{ℕ, ◌+◌, Bool, true, false, List, [], ◌∷◌, take, set, replicate, ltb, eqb}
use Rattle.logic.specs.Logic.{pick, both}
use Rattle.table.specs.declared.Table.{Table}
use Rattle.table.specs.declared.Step.{Step}
use Rattle.table.specs.declared.Step.TheVariants.{Next, Done, Refused as StepRefused}
use Rattle.table.specs.Table.{cut_off, byte_follows, end_length, longest_record, is_unfinished, empty_table, step_at, next_place}
use Rattle.feed.specs.declared.Course.{Course}
use Rattle.feed.specs.declared.Course.TheVariants.{Reading, Closed, Accepted, Refused}
use Rattle.feed.specs.declared.Feed.{Feed}
use Rattle.feed.specs.declared.Fed.{Fed}
use Rattle.feed.specs.declared.Fed.TheVariants.{More, Accepted as FedAccepted, Refused as FedRefused}

-- ---- "2026-03", the reader: the drives so far, the store's number of blocks, the bytes of an unfinished record and how many there are, and
-- its course: it reads; or it has read the end record; or the end was told and the table is accepted; or it is refused with a number

-- no byte is held
abbrev pub nothing : List ℕ
nothing = replicate longest_record 0

-- opened: no drive, no byte
unfoldable pub opened : ℕ → Feed
opened store = record { table = empty_table; store = store; held = nothing; filled = 0; course = Reading }

-- with those drives on that course, and no byte held
abbrev pub cleared : Feed → Table → Course → Feed
cleared f b c = record { table = b; store = f.store; held = nothing; filled = 0; course = c }

-- ---- "2026-03", one byte: any refusal but 1 is made by the byte that settles it

-- the bytes held and one more
abbrev pub held_with : Feed → ℕ → List ℕ
held_with f x = set f.held f.filled x

-- they stay held
abbrev pub holding : Feed → ℕ → Feed
holding f x = record { table = f.table; store = f.store; held = held_with f x; filled = f.filled + 1; course = Reading }

-- by what the record is that they begin: taken; the end record; cut off, which is settled at the end of input only, so that they stay held; or
-- refused
unfoldable pub after_step : Feed → ℕ → Step → Table → Feed
after_step f x (Next at) b = cleared f b Reading
after_step f x Done b = cleared f b Closed
after_step f x (StepRefused n at) b = pick (eqb n cut_off) (holding f x) (cleared f b (Refused n))

-- the record that the bytes held begin, by the step of document 01's reader on them alone
unfoldable pub held_byte : Feed → ℕ → Feed
held_byte f x =
    after_step f x
    (step_at (take (f.filled + 1) (held_with f x)) 0 f.table f.store).step
    (step_at (take (f.filled + 1) (held_with f x)) 0 f.table f.store).table

-- a byte that leaves a record unfinished, which most do: then it is held, and nothing else changes
unfoldable pub stays_open : Course → List ℕ → ℕ → ℕ → Bool
stays_open Reading held filled x = both (ltb filled longest_record) (is_unfinished (take (filled + 1) (set held filled x)))
stays_open Closed held filled x = false
stays_open Accepted held filled x = false
stays_open (Refused n) held filled x = false

-- a byte after the end record is refused with 8; once refused, or once the end was told, bytes are ignored. A reader that
-- holds as many bytes as the longest record has is one that no bytes lead to; it stays
unfoldable pub by_course : Course → Feed → ℕ → Feed
by_course Reading f x = pick (ltb f.filled longest_record) (held_byte f x) f
by_course Closed f x = cleared f f.table (Refused byte_follows)
by_course Accepted f x = f
by_course (Refused n) f x = f

-- a byte more
unfoldable pub feed_byte : Feed → ℕ → Feed
feed_byte f x = by_course f.course f x

-- ---- "2026-03", a fragment, and the end of input

-- a fragment, of any length, byte by byte
unfoldable pub feed_all : Feed → List ℕ → Feed
feed_all f [] = f
feed_all f (x ∷ l) = feed_all (feed_byte f x) l

-- fragments, one after the other
unfoldable pub feeds : Feed → List (List ℕ) → Feed
feeds f [] = f
feeds f (l ∷ ls) = feeds (feed_all f l) ls

-- nothing that follows changes anything: the end was told, or it is refused
unfoldable pub is_over : Course → Bool
is_over Reading = false
is_over Closed = false
is_over Accepted = true
is_over (Refused n) = true

-- the end of input: 1 unless the end record was read
unfoldable pub end_by : Course → Feed → Feed
end_by Reading f = cleared f f.table (Refused cut_off)
end_by Closed f = cleared f f.table Accepted
end_by Accepted f = f
end_by (Refused n) f = f

-- told
unfoldable pub end_feed : Feed → Feed
end_feed f = end_by f.course f

-- ---- "2026-03", the answer: nothing is settled, accepted, or the number and the place, which counts from the first byte of all

-- the place of a refusal: where the record begins that follows those of the drives so far; of 8 the byte behind the end record
unfoldable pub refused_at : ℕ → Table → ℕ
refused_at n b = pick (eqb n byte_follows) (next_place b + end_length) (next_place b)

-- by the course
unfoldable pub answer_by : Course → Table → Fed
answer_by Reading b = More
answer_by Closed b = More
answer_by Accepted b = FedAccepted
answer_by (Refused n) b = FedRefused n (refused_at n b)

-- of a reader
unfoldable pub answer_of : Feed → Fed
answer_of f = answer_by f.course f.table

-- ---- "2026-03", the answers as numbers; no two have the same

-- 256 where nothing is settled yet, 0, or the refusal's number and its place
unfoldable pub fed_numbers : Fed → List ℕ
fed_numbers More = 256 ∷ []
fed_numbers FedAccepted = 0 ∷ []
fed_numbers (FedRefused n at) = n ∷ at ∷ []
