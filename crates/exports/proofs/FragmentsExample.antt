-- Document 01's 72 bytes in five fragments, of which one is empty and two cut a record, at a block that held sevens: the theorem's conditions can be
-- met, and its answers are these numbers.
-- Assumes nothing.
use mathlib.Core.Path.{◌≡◌, refl}
use mathlib.Core.Bool.{Bool, true}
use mathlib.Core.List.{List, [], ◌∷◌, ◌++◌}
use Prim.Native.Nat.{ℕ, zero, suc, ◌-◌}
use native.Mathlib.Omega.{arith}
use lib.ListN.{length, take, drop, replicate}
use lib.Dec.{ltb}
use borrow.Author.Tests.{ltb-true}
use Rattle.logic.specs.Logic.{both}
use Rattle.logic.proofs.LogicLaws.{both_true}
use Rattle.chs.specs.Chs.{in_limits}
use Rattle.words.specs.Words.{Bytes, le, le_bytes}
use Rattle.drive.specs.Drive.{drive_of, record_of, geometry_bytes, size_bytes, name_bytes, same, bus_ok, interface_ok, geometry_fits, fields_ok, in_store, overlap, blank_numbers, blank_names, is_blank, is_i2o, kind_ok, tail_bytes, tail_of, zero_tail}
use Rattle.attached.specs.Bad.{held_of, ascends, are_blocks, list_ok, zero_past, bads_ok}
use Rattle.table.specs.Table.{header_of, header_at, overlaps_any, refusal, parameters_refusal, record_refusal, with_record, record_step, end_step, step_of, step_at, read_from, read_table, answer_numbers, records_of, bytes_of, table_of, next_place, write_answer, write_out, written_numbers, sound_to, blank_to, attached_to, listed_to, is_sound}
use Rattle.table.proofs.Vectors.{record₁, end}
use Rattle.feed.specs.Feed.{opened, after_step, held_byte, by_course, feed_byte, feed_all, end_by, end_feed, refused_at, answer_by, answer_of, fed_numbers}
use Rattle.feed.specs.Arrives.{joined}
use Rattle.reader.specs.Reader.{reader_size, image, read_reader, rest_zero, course_ok, accept, accepted, laid}
use Rattle.exports.specs.Exports.{effect, over, reader_open_call, reader_feed_call, reader_end_call, reader_write_effect, reader_write_call}
use Rattle.exports.specs.Fragments.{arrived, ended_block, EachBytes, Fragments}
use Rattle.exports.proofs.Fragments.{fragments}

-- ---- a list of bytes by number

small : List ℕ → Bool
small [] = true
small (x ∷ l) = both (ltb x 256) (small l)

bytes_small : (l : List ℕ) → small l ≡ true → Bytes l
unfolding small
bytes_small [] e i = omega arith
bytes_small (x ∷ l) e zero = ltb-true x 256 (both_true (ltb x 256) (small l) e).0
bytes_small (x ∷ l) e (suc i) = bytes_small l (both_true (ltb x 256) (small l) e).1 i

all_small : List (List ℕ) → Bool
all_small [] = true
all_small (l ∷ ls) = both (small l) (all_small ls)

each-small : (fs : List (List ℕ)) → all_small fs ≡ true → EachBytes fs
unfolding all_small
each-small [] e = tt
each-small (l ∷ ls) e = let p = both_true (small l) (all_small ls) e in (bytes_small l p.0, each-small ls p.1)

-- ---- the fragments

abbrev sevens : List ℕ
sevens = replicate reader_size 7

abbrev before : List (List ℕ)
before = take 3 record₁ ∷ [] ∷ drop 3 (take 67 record₁) ∷ (drop 67 record₁ ++ take 1 end) ∷ []

abbrev pieces : List (List ℕ)
pieces = before ++ (drop 1 end ∷ [])

small-end : small (drop 1 end) ≡ true
unfolding small
small-end = refl

-- 2048 blocks are exactly enough, 2047 are too few
enough : Fragments sevens 1048576 pieces
unfolding small all_small
enough = fragments sevens 1048576 pieces refl (omega arith) (each-small pieces refl)

short : Fragments sevens 1048575 before
unfolding small all_small
short = fragments sevens 1048575 before refl (omega arith) (each-small before refl)

-- ---- the answers

-- the end: 0, and what stood behind `place` stays
pub ended : (reader_end_call (arrived sevens 1048576 pieces) 9).numbers ≡ 0 ∷ 9 ∷ []
unfolding joined read_table read_from step_at step_of header_at header_of record_step record_refusal refusal overlaps_any fields_ok geometry_fits in_limits bus_ok interface_ok same in_store drive_of with_record end_step le answer_numbers over tail_of is_i2o zero_tail kind_ok
ended = enough.end 9

-- written: its 72 bytes at the start of 74, of which the last two stay; 71 are too few
pub written : reader_write_call (ended_block sevens 1048576 pieces) (replicate 74 5) 9 ≡ effect (0 ∷ 72 ∷ []) ((record₁ ++ end ++ (5 ∷ 5 ∷ [])) ∷ [])
unfolding joined read_table read_from step_at step_of header_at header_of record_step record_refusal refusal overlaps_any fields_ok geometry_fits in_limits bus_ok interface_ok same in_store drive_of with_record end_step le tail_of is_i2o zero_tail kind_ok
written = enough.written refl (replicate 74 5) 9

pub too_short : reader_write_call (ended_block sevens 1048576 pieces) (replicate 71 5) 9 ≡ effect (19 ∷ 9 ∷ []) (replicate 71 5 ∷ [])
unfolding joined read_table read_from step_at step_of header_at header_of record_step record_refusal refusal overlaps_any fields_ok geometry_fits in_limits bus_ok interface_ok same in_store drive_of with_record end_step le tail_of is_i2o zero_tail kind_ok
too_short = enough.written refl (replicate 71 5) 9

-- with 2047 blocks the fragment that has the record's last byte settled it: 6 at 0, whatever is fed then
pub past-store : (reader_feed_call (arrived sevens 1048575 before) (drop 1 end) 9).numbers ≡ 6 ∷ 0 ∷ []
unfolding joined read_table read_from step_at step_of header_at header_of record_step record_refusal refusal overlaps_any fields_ok geometry_fits in_limits bus_ok interface_ok same in_store drive_of with_record end_step le fed_numbers over tail_of is_i2o zero_tail kind_ok
past-store = short.fed (drop 1 end) (bytes_small (drop 1 end) small-end) 9

-- ---- each call by itself, at blocks by number

-- a word whose value is a byte
abbrev word : ℕ → List ℕ
word n = n ∷ replicate 7 0

-- bytes, and zeros behind them up to n
abbrev padded : ℕ → List ℕ → List ℕ
padded n l = l ++ replicate (n - length l) 0

-- a block: course, refusal, a store of 2048 blocks, how many bytes are held, the length of the table; the bytes held; the table
abbrev block : ℕ → ℕ → List ℕ → List ℕ → List ℕ
block course refusal held t = word course ++ word refusal ++ (0 ∷ 8 ∷ replicate 6 0) ++ word (length held) ++ word (length t) ++ padded 134 held ++ padded 1844 t

-- open, with a store of 2048 blocks and 511 bytes: 0, and the block of a reader that reads
pub open-call : reader_open_call sevens 1049087 ≡ effect (0 ∷ []) (block 0 0 [] end ∷ [])
unfolding le_bytes records_of bytes_of table_of image opened laid reader_open_call
open-call = refl

-- a block that is a byte short, and one that is a byte longer: 25, and it stays
pub open-refused : (reader_open_call (replicate 2017 7) 1049087 ≡ effect (25 ∷ []) (replicate 2017 7 ∷ [])) × (reader_open_call (replicate 1955 7) 1049087 ≡ effect (25 ∷ []) (replicate 1955 7 ∷ []))
unfolding reader_open_call
open-refused = (refl, refl)

-- feed: 256, and what stood behind `place` stays
pub feed_call : reader_feed_call (block 0 0 (4 ∷ 0 ∷ []) (record₁ ++ end)) (0 ∷ []) 9 ≡ effect (256 ∷ 9 ∷ []) (block 0 0 (4 ∷ 0 ∷ 0 ∷ []) (record₁ ++ end) ∷ [])
unfolding le le_bytes in_limits drive_of same bus_ok interface_ok geometry_fits fields_ok in_store overlap header_of header_at overlaps_any refusal parameters_refusal record_refusal with_record record_step end_step step_of step_at record_of geometry_bytes size_bytes name_bytes records_of bytes_of table_of image blank_numbers blank_names is_blank sound_to blank_to attached_to listed_to held_of ascends are_blocks list_ok zero_past bads_ok is_sound read_from read_table read_reader rest_zero course_ok accept accepted next_place refused_at after_step held_byte by_course feed_byte feed_all answer_by answer_of fed_numbers laid over reader_feed_call tail_of is_i2o zero_tail kind_ok tail_bytes
feed_call = refl

-- a wrong length: 2 at 68, which the block keeps; and the bytes behind it, and those of the next call, are ignored
pub feed_refused : (reader_feed_call (block 0 0 [] (record₁ ++ end)) (67 ∷ 0 ∷ 1 ∷ 0 ∷ 7 ∷ []) 9 ≡ effect (2 ∷ 68 ∷ []) (block 3 2 [] (record₁ ++ end) ∷ []))
    × (reader_feed_call (block 3 2 [] (record₁ ++ end)) (7 ∷ []) 9 ≡ effect (2 ∷ 68 ∷ []) (block 3 2 [] (record₁ ++ end) ∷ []))
unfolding le le_bytes in_limits drive_of same bus_ok interface_ok geometry_fits fields_ok in_store overlap header_of header_at overlaps_any refusal parameters_refusal record_refusal with_record record_step end_step step_of step_at record_of geometry_bytes size_bytes name_bytes records_of bytes_of table_of image blank_numbers blank_names is_blank sound_to blank_to attached_to listed_to held_of ascends are_blocks list_ok zero_past bads_ok is_sound read_from read_table read_reader rest_zero course_ok accept accepted next_place refused_at after_step held_byte by_course feed_byte feed_all answer_by answer_of fed_numbers laid over reader_feed_call tail_of is_i2o zero_tail kind_ok tail_bytes
feed_refused = (refl, refl)

-- a block of a reader that breaks a rule, refused with no number, and one that is no image, of course 4: 25, and it stays, as does what stood behind
-- `place`
pub feed_no_reader : (reader_feed_call (block 3 0 [] end) end 9 ≡ effect (25 ∷ 9 ∷ []) (block 3 0 [] end ∷ []))
    × (reader_feed_call (block 4 1 [] end) end 9 ≡ effect (25 ∷ 9 ∷ []) (block 4 1 [] end ∷ []))
unfolding le le_bytes in_limits drive_of same bus_ok interface_ok geometry_fits fields_ok in_store overlap header_of header_at overlaps_any refusal parameters_refusal record_refusal with_record record_step end_step step_of step_at record_of geometry_bytes size_bytes name_bytes records_of bytes_of table_of image blank_numbers blank_names is_blank sound_to blank_to attached_to listed_to held_of ascends are_blocks list_ok zero_past bads_ok is_sound read_from read_table read_reader rest_zero course_ok accept accepted next_place refused_at after_step held_byte by_course feed_byte feed_all answer_by answer_of fed_numbers laid over reader_feed_call tail_of is_i2o zero_tail kind_ok tail_bytes
feed_no_reader = (refl, refl)

-- end: after the end record 0, and what stood behind `place` stays
pub end-call : reader_end_call (block 1 0 [] (record₁ ++ end)) 9 ≡ effect (0 ∷ 9 ∷ []) (block 2 0 [] (record₁ ++ end) ∷ [])
unfolding le le_bytes in_limits drive_of same bus_ok interface_ok geometry_fits fields_ok in_store overlap header_of header_at overlaps_any refusal parameters_refusal record_refusal with_record record_step end_step step_of step_at record_of geometry_bytes size_bytes name_bytes records_of bytes_of table_of image blank_numbers blank_names is_blank sound_to blank_to attached_to listed_to held_of ascends are_blocks list_ok zero_past bads_ok is_sound read_from read_table read_reader rest_zero course_ok accept accepted next_place refused_at end_by end_feed answer_by answer_of fed_numbers laid over reader_end_call tail_of is_i2o zero_tail kind_ok tail_bytes
end-call = refl

-- before it, with three bytes held: 1 at 68, which the block keeps
pub end_refused : reader_end_call (block 0 0 (4 ∷ 0 ∷ 0 ∷ []) (record₁ ++ end)) 9 ≡ effect (1 ∷ 68 ∷ []) (block 3 1 [] (record₁ ++ end) ∷ [])
unfolding le le_bytes in_limits drive_of same bus_ok interface_ok geometry_fits fields_ok in_store overlap header_of header_at overlaps_any refusal parameters_refusal record_refusal with_record record_step end_step step_of step_at record_of geometry_bytes size_bytes name_bytes records_of bytes_of table_of image blank_numbers blank_names is_blank sound_to blank_to attached_to listed_to held_of ascends are_blocks list_ok zero_past bads_ok is_sound read_from read_table read_reader rest_zero course_ok accept accepted next_place refused_at end_by end_feed answer_by answer_of fed_numbers laid over reader_end_call tail_of is_i2o zero_tail kind_ok tail_bytes
end_refused = refl

-- the same two blocks: 25
pub end_no_reader : (reader_end_call (block 3 0 [] end) 9 ≡ effect (25 ∷ 9 ∷ []) (block 3 0 [] end ∷ []))
    × (reader_end_call (block 4 1 [] end) 9 ≡ effect (25 ∷ 9 ∷ []) (block 4 1 [] end ∷ []))
unfolding le le_bytes in_limits drive_of same bus_ok interface_ok geometry_fits fields_ok in_store overlap header_of header_at overlaps_any refusal parameters_refusal record_refusal with_record record_step end_step step_of step_at record_of geometry_bytes size_bytes name_bytes records_of bytes_of table_of image blank_numbers blank_names is_blank sound_to blank_to attached_to listed_to held_of ascends are_blocks list_ok zero_past bads_ok is_sound read_from read_table read_reader rest_zero course_ok accept accepted next_place refused_at end_by end_feed answer_by answer_of fed_numbers laid over reader_end_call tail_of is_i2o zero_tail kind_ok tail_bytes
end_no_reader = (refl, refl)

-- write: the 72 bytes of an accepted table at the start of 74; 71 are too few: 19
pub write-call : (reader_write_call (block 2 0 [] (record₁ ++ end)) (replicate 74 5) 9 ≡ effect (0 ∷ 72 ∷ []) ((record₁ ++ end ++ (5 ∷ 5 ∷ [])) ∷ []))
    × (reader_write_call (block 2 0 [] (record₁ ++ end)) (replicate 71 5) 9 ≡ effect (19 ∷ 9 ∷ []) (replicate 71 5 ∷ []))
unfolding le le_bytes in_limits drive_of same bus_ok interface_ok geometry_fits fields_ok in_store overlap header_of header_at overlaps_any refusal parameters_refusal record_refusal with_record record_step end_step step_of step_at record_of geometry_bytes size_bytes name_bytes records_of bytes_of table_of image blank_numbers blank_names is_blank sound_to blank_to attached_to listed_to held_of ascends are_blocks list_ok zero_past bads_ok is_sound read_from read_table read_reader rest_zero course_ok accept accepted next_place refused_at answer_by answer_of write_answer write_out written_numbers over reader_write_effect reader_write_call tail_of is_i2o zero_tail kind_ok tail_bytes
write-call = (refl, refl)

-- before the end was told, closed or not: 256
pub write-early : (reader_write_call (block 0 0 [] (record₁ ++ end)) (replicate 74 5) 9 ≡ effect (256 ∷ 9 ∷ []) (replicate 74 5 ∷ []))
    × (reader_write_call (block 1 0 [] (record₁ ++ end)) (replicate 74 5) 9 ≡ effect (256 ∷ 9 ∷ []) (replicate 74 5 ∷ []))
unfolding le le_bytes in_limits drive_of same bus_ok interface_ok geometry_fits fields_ok in_store overlap header_of header_at overlaps_any refusal parameters_refusal record_refusal with_record record_step end_step step_of step_at record_of geometry_bytes size_bytes name_bytes records_of bytes_of table_of image blank_numbers blank_names is_blank sound_to blank_to attached_to listed_to held_of ascends are_blocks list_ok zero_past bads_ok is_sound read_from read_table read_reader rest_zero course_ok accept accepted next_place refused_at answer_by answer_of write_answer write_out written_numbers over reader_write_effect reader_write_call tail_of is_i2o zero_tail kind_ok tail_bytes
write-early = (refl, refl)

-- refused with 2: 2; of a block that is no reader's: 25
pub write-refused : (reader_write_call (block 3 2 [] (record₁ ++ end)) (replicate 74 5) 9 ≡ effect (2 ∷ 9 ∷ []) (replicate 74 5 ∷ []))
    × (reader_write_call (block 3 0 [] (record₁ ++ end)) (replicate 74 5) 9 ≡ effect (25 ∷ 9 ∷ []) (replicate 74 5 ∷ []))
unfolding le le_bytes in_limits drive_of same bus_ok interface_ok geometry_fits fields_ok in_store overlap header_of header_at overlaps_any refusal parameters_refusal record_refusal with_record record_step end_step step_of step_at record_of geometry_bytes size_bytes name_bytes records_of bytes_of table_of image blank_numbers blank_names is_blank sound_to blank_to attached_to listed_to held_of ascends are_blocks list_ok zero_past bads_ok is_sound read_from read_table read_reader rest_zero course_ok accept accepted next_place refused_at answer_by answer_of write_answer write_out written_numbers over reader_write_effect reader_write_call tail_of is_i2o zero_tail kind_ok tail_bytes
write-refused = (refl, refl)
