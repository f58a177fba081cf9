-- The reader that is fed by number: document 01's 72 bytes however they are cut, each refusal at the byte that settles it, records of bad blocks and
-- of kind 2, and what is said once the end is told.
-- Assumes nothing.
use Rattle.std.specs.Prelude.{Ok, Err}
use mathlib.Core.Path.{◌≡◌, refl}
use mathlib.Core.Bool.{true, false}
use mathlib.Core.List.{List, [], ◌∷◌, ◌++◌, map}
use Prim.Native.Nat.{ℕ}
use lib.ListN.{take, drop, replicate}
use lib.Seq.{sets}
use Rattle.words.specs.Words.{le, le_bytes}
use Rattle.chs.specs.Chs.{in_limits}
use Rattle.drive.specs.declared.Drive.{Drive}
use Rattle.drive.specs.Drive.{drive_of, record_of, geometry_bytes, size_bytes, name_bytes, same, bus_ok, interface_ok, geometry_fits, fields_ok, in_store, overlap, is_i2o, kind_ok, tail_bytes, tail_of, zero_tail}
use Rattle.attached.specs.Parameters.{parameters_record}
use Rattle.attached.specs.Bad.{bad_count, bad_length_ok, bads_in, held_of, bad_record, ascends, are_blocks, list_ok}
use Rattle.table.specs.declared.Table.{Table}
use Rattle.table.specs.Table.{refused, empty_table, header_of, header_at, is_unfinished, overlaps_any, refusal, parameters_refusal, bads_refusal, record_refusal, with_record, record_step, end_step, step_of, step_at, read_from, read_table, records_of, next_place}
use Rattle.table.proofs.Vectors.{record₁, record₂, end, store, but, from, wide, drives, given-bytes, attach, bads, sixteen, full as most}
use Rattle.feed.specs.declared.Course.TheVariants.{Reading, Closed, Accepted, Refused}
use Rattle.feed.specs.declared.Feed.{Feed}
use Rattle.feed.specs.Feed.{nothing, opened, stays_open, is_over, after_step, held_byte, by_course, feed_byte, feed_all, feeds, end_by, end_feed, refused_at, answer_by, answer_of, fed_numbers}
use Rattle.feed.specs.Arrives.{joined, told as answer_told, so_far}

-- what a reader says: 256 where nothing is settled, 0, or number and place
abbrev said : Feed → List ℕ
said f = fed_numbers (answer_of f)

-- what it says after each byte
abbrev along : Feed → List ℕ → List (List ℕ)
along f [] = []
along f (x ∷ l) = said (feed_byte f x) ∷ along (feed_byte f x) l

-- n times that nothing is settled
abbrev unsettled : ℕ → List (List ℕ)
unsettled n = replicate n (256 ∷ [])

-- a reader that was fed those bytes, and one that was told the end after them
abbrev after : List ℕ → Feed
after l = feed_all (opened store) l

abbrev told : List ℕ → Feed
told l = end_feed (after l)

-- bytes in two fragments, cut behind n, and in fragments of one byte
abbrev cut : List ℕ → ℕ → List (List ℕ)
cut l n = take n l ∷ drop n l ∷ []

abbrev single : List ℕ → List (List ℕ)
single l = map (λ (x : ℕ). x ∷ []) l

-- ---- document 01's 72 bytes

-- byte by byte nothing is settled, and then the end is told: 0
pub bytewise : along (opened store) (record₁ ++ end) ++ (said (end_feed (feeds (opened store) (single (record₁ ++ end)))) ∷ [])
    ≡ unsettled 72 ++ ((0 ∷ []) ∷ [])
unfolding le le_bytes in_limits drive_of same bus_ok interface_ok geometry_fits fields_ok in_store overlap header_of header_at overlaps_any refusal parameters_refusal record_refusal with_record record_step end_step step_of step_at record_of geometry_bytes size_bytes name_bytes parameters_record records_of next_place refused_at opened after_step held_byte by_course feed_byte feed_all answer_by answer_of fed_numbers feeds end_by end_feed tail_of is_i2o zero_tail kind_ok tail_bytes
bytewise = refl

-- cut in two, behind 0, 1, 3, 4, 5, 67, 68, 69, 71 and 72 bytes: nothing is settled
pub in_two : map (λ (n : ℕ). said (feeds (opened store) (cut (record₁ ++ end) n))) (0 ∷ 1 ∷ 3 ∷ 4 ∷ 5 ∷ 67 ∷ 68 ∷ 69 ∷ 71 ∷ 72 ∷ [])
    ≡ unsettled 10
unfolding le le_bytes in_limits drive_of same bus_ok interface_ok geometry_fits fields_ok in_store overlap header_of header_at overlaps_any refusal parameters_refusal record_refusal with_record record_step end_step step_of step_at record_of geometry_bytes size_bytes name_bytes parameters_record records_of next_place refused_at opened after_step held_byte by_course feed_byte feed_all answer_by answer_of fed_numbers feeds tail_of is_i2o zero_tail kind_ok tail_bytes
in_two = refl

-- and then the end is told: 0
pub in_two_told : map (λ (n : ℕ). said (end_feed (feeds (opened store) (cut (record₁ ++ end) n)))) (0 ∷ 1 ∷ 3 ∷ 4 ∷ 5 ∷ 67 ∷ 68 ∷ 69 ∷ 71 ∷ 72 ∷ [])
    ≡ replicate 10 (0 ∷ [])
unfolding le le_bytes in_limits drive_of same bus_ok interface_ok geometry_fits fields_ok in_store overlap header_of header_at overlaps_any refusal parameters_refusal record_refusal with_record record_step end_step step_of step_at record_of geometry_bytes size_bytes name_bytes parameters_record records_of next_place refused_at opened after_step held_byte by_course feed_byte feed_all answer_by answer_of fed_numbers feeds end_by end_feed tail_of is_i2o zero_tail kind_ok tail_bytes
in_two_told = refl

-- with the drives of the whole
pub in_two_drives : map (λ (n : ℕ). (end_feed (feeds (opened store) (cut (record₁ ++ end) n))).table) (0 ∷ 1 ∷ 3 ∷ 4 ∷ 5 ∷ 67 ∷ 68 ∷ 69 ∷ 71 ∷ 72 ∷ [])
    ≡ replicate 10 (read_table (record₁ ++ end) store).table
unfolding le le_bytes in_limits drive_of same bus_ok interface_ok geometry_fits fields_ok in_store overlap header_of header_at overlaps_any refusal parameters_refusal record_refusal with_record record_step end_step step_of step_at read_from read_table opened after_step held_byte by_course feed_byte feed_all feeds end_by end_feed tail_of is_i2o zero_tail kind_ok
in_two_drives = refl

-- the end told early: after 0, 1, 3, 4, 5 and 67 bytes 1 at 0; after 68, which are a drive and no end record, 69 and 71 bytes 1 at 68; after 72 bytes 0
pub ends : map (λ (n : ℕ). said (told (take n (record₁ ++ end)))) (0 ∷ 1 ∷ 3 ∷ 4 ∷ 5 ∷ 67 ∷ 68 ∷ 69 ∷ 71 ∷ 72 ∷ [])
    ≡ replicate 6 (1 ∷ 0 ∷ []) ++ replicate 3 (1 ∷ 68 ∷ []) ++ ((0 ∷ []) ∷ [])
unfolding le le_bytes in_limits drive_of same bus_ok interface_ok geometry_fits fields_ok in_store overlap header_of header_at overlaps_any refusal parameters_refusal record_refusal with_record record_step end_step step_of step_at record_of geometry_bytes size_bytes name_bytes parameters_record records_of next_place refused_at opened after_step held_byte by_course feed_byte feed_all answer_by answer_of fed_numbers end_by end_feed tail_of is_i2o zero_tail kind_ok tail_bytes
ends = refl

-- the bytes held after as many: of an unfinished record only
pub keeps : map (λ (n : ℕ). (after (take n (record₁ ++ end))).filled) (0 ∷ 1 ∷ 3 ∷ 4 ∷ 5 ∷ 67 ∷ 68 ∷ 69 ∷ 71 ∷ 72 ∷ [])
    ≡ 0 ∷ 1 ∷ 3 ∷ 4 ∷ 5 ∷ 67 ∷ 0 ∷ 1 ∷ 3 ∷ 0 ∷ []
unfolding le le_bytes in_limits drive_of same bus_ok interface_ok geometry_fits fields_ok in_store overlap header_of header_at overlaps_any refusal parameters_refusal record_refusal with_record record_step end_step step_of step_at opened after_step held_byte by_course feed_byte feed_all tail_of is_i2o zero_tail kind_ok
keeps = refl

-- ---- each refusal at the byte that settles it, after a drive of 68 bytes

-- 3 at the header's fourth byte, and not at the third, though that says a kind that there is not
--   kind 5: 3 at 68
--   kind 9, of a wrong length too: 3 at 68
--   kind 257: 3 at 68
pub header_three : along (after record₁) (4 ∷ 0 ∷ 5 ∷ 0 ∷ []) ++ along (after record₁) (5 ∷ 0 ∷ 9 ∷ 0 ∷ []) ++ along (after record₁) (68 ∷ 0 ∷ 1 ∷ 1 ∷ [])
    ≡ unsettled 3 ++ ((3 ∷ 68 ∷ []) ∷ []) ++ (unsettled 3 ++ ((3 ∷ 68 ∷ []) ∷ [])) ++ (unsettled 3 ++ ((3 ∷ 68 ∷ []) ∷ []))
unfolding le le_bytes in_limits drive_of same bus_ok interface_ok geometry_fits fields_ok in_store overlap header_of header_at overlaps_any refusal parameters_refusal record_refusal with_record record_step end_step step_of step_at record_of geometry_bytes size_bytes name_bytes parameters_record records_of next_place refused_at opened after_step held_byte by_course feed_byte feed_all answer_by answer_of fed_numbers tail_of is_i2o zero_tail kind_ok tail_bytes
header_three = refl

-- 2 there as well: it waits for no byte of the record
--   a drive of length 67: 2 at 68
--   an end record of length 5: 2 at 68
--   parameters of length 276: 2 at 68
pub header_two : along (after record₁) (67 ∷ 0 ∷ 1 ∷ 0 ∷ []) ++ along (after record₁) (5 ∷ 0 ∷ 0 ∷ 0 ∷ []) ++ along (after record₁) (20 ∷ 1 ∷ 4 ∷ 0 ∷ [])
    ≡ unsettled 3 ++ ((2 ∷ 68 ∷ []) ∷ []) ++ (unsettled 3 ++ ((2 ∷ 68 ∷ []) ∷ [])) ++ (unsettled 3 ++ ((2 ∷ 68 ∷ []) ∷ []))
unfolding le le_bytes in_limits drive_of same bus_ok interface_ok geometry_fits fields_ok in_store overlap header_of header_at overlaps_any refusal parameters_refusal record_refusal with_record record_step end_step step_of step_at record_of geometry_bytes size_bytes name_bytes parameters_record records_of next_place refused_at opened after_step held_byte by_course feed_byte feed_all answer_by answer_of fed_numbers tail_of is_i2o zero_tail kind_ok tail_bytes
header_two = refl

-- 4 at the last byte of a ninth drive, though no ninth one is good: 4 at 544
pub ninth : along (after (drives 8)) record₁
    ≡ unsettled 67 ++ ((4 ∷ 544 ∷ []) ∷ [])
unfolding le le_bytes in_limits drive_of same bus_ok interface_ok geometry_fits fields_ok in_store overlap header_of header_at overlaps_any refusal parameters_refusal record_refusal with_record record_step end_step step_of step_at record_of geometry_bytes size_bytes name_bytes parameters_record records_of next_place refused_at opened after_step held_byte by_course feed_byte feed_all answer_by answer_of fed_numbers tail_of is_i2o zero_tail kind_ok tail_bytes
ninth = refl

-- 5 at the record's last byte, though protection 2 is its byte 39: 5 at 68
pub field : along (after record₁) (but 39 (2 ∷ []))
    ≡ unsettled 67 ++ ((5 ∷ 68 ∷ []) ∷ [])
unfolding le le_bytes in_limits drive_of same bus_ok interface_ok geometry_fits fields_ok in_store overlap header_of header_at overlaps_any refusal parameters_refusal record_refusal with_record record_step end_step step_of step_at record_of geometry_bytes size_bytes name_bytes parameters_record records_of next_place refused_at opened after_step held_byte by_course feed_byte feed_all answer_by answer_of fed_numbers tail_of is_i2o zero_tail kind_ok tail_bytes
field = refl

-- 6 at the last byte, past the store by one block: 6 at 68
pub past : along (after record₁) (from 4294965249)
    ≡ unsettled 67 ++ ((6 ∷ 68 ∷ []) ∷ [])
unfolding le le_bytes in_limits drive_of same bus_ok interface_ok geometry_fits fields_ok in_store overlap header_of header_at overlaps_any refusal parameters_refusal record_refusal with_record record_step end_step step_of step_at record_of geometry_bytes size_bytes name_bytes parameters_record records_of next_place refused_at opened after_step held_byte by_course feed_byte feed_all answer_by answer_of fed_numbers tail_of is_i2o zero_tail kind_ok tail_bytes
past = refl

-- 7 at the last byte, the same drive again: 7 at 68
pub overlaps : along (after record₁) record₁
    ≡ unsettled 67 ++ ((7 ∷ 68 ∷ []) ∷ [])
unfolding le le_bytes in_limits drive_of same bus_ok interface_ok geometry_fits fields_ok in_store overlap header_of header_at overlaps_any refusal parameters_refusal record_refusal with_record record_step end_step step_of step_at record_of geometry_bytes size_bytes name_bytes parameters_record records_of next_place refused_at opened after_step held_byte by_course feed_byte feed_all answer_by answer_of fed_numbers tail_of is_i2o zero_tail kind_ok tail_bytes
overlaps = refl

-- 9 at the last byte of a record of parameters
--   for a later drive: 9 at 68
--   repeated: 9 at 88
pub names : along (after record₁) (attach 1) ++ along (after record₁) (attach 0 ++ attach 0)
    ≡ unsettled 19 ++ ((9 ∷ 68 ∷ []) ∷ []) ++ (unsettled 39 ++ ((9 ∷ 88 ∷ []) ∷ []))
unfolding le le_bytes in_limits drive_of same bus_ok interface_ok geometry_fits fields_ok in_store overlap header_of header_at overlaps_any refusal parameters_refusal record_refusal with_record record_step end_step step_of step_at record_of geometry_bytes size_bytes name_bytes parameters_record records_of next_place refused_at opened after_step held_byte by_course feed_byte feed_all answer_by answer_of fed_numbers tail_of is_i2o zero_tail kind_ok tail_bytes
names = refl

-- 8 at the first byte behind the end record, and not at the end record
--   after a drive: 8 at 72
--   after no drive: 8 at 4
pub byte-follows : along (after record₁) (end ++ (0 ∷ [])) ++ along (opened store) (end ++ (4 ∷ []))
    ≡ unsettled 4 ++ ((8 ∷ 72 ∷ []) ∷ []) ++ (unsettled 4 ++ ((8 ∷ 4 ∷ []) ∷ []))
unfolding le le_bytes in_limits drive_of same bus_ok interface_ok geometry_fits fields_ok in_store overlap header_of header_at overlaps_any refusal parameters_refusal record_refusal with_record record_step end_step step_of step_at record_of geometry_bytes size_bytes name_bytes parameters_record records_of next_place refused_at opened after_step held_byte by_course feed_byte feed_all answer_by answer_of fed_numbers tail_of is_i2o zero_tail kind_ok tail_bytes
byte-follows = refl

-- 1 once the end is told, and not before
--   no byte: 1 at 0
--   three bytes: 1 at 0
--   a drive and no end record: 1 at 68
--   three bytes after it, and 67: 1 at 68
--   parameters after it and no end record: 1 at 88
pub cut-off : map (λ (l : List ℕ). said (after l)) ([] ∷ take 3 record₁ ∷ record₁ ∷ (record₁ ++ (4 ∷ 0 ∷ 9 ∷ [])) ∷ (record₁ ++ take 67 record₁) ∷ (record₁ ++ attach 0) ∷ [])
    ++ map (λ (l : List ℕ). said (told l)) ([] ∷ take 3 record₁ ∷ record₁ ∷ (record₁ ++ (4 ∷ 0 ∷ 9 ∷ [])) ∷ (record₁ ++ take 67 record₁) ∷ (record₁ ++ attach 0) ∷ [])
    ≡ unsettled 6 ++ ((1 ∷ 0 ∷ []) ∷ (1 ∷ 0 ∷ []) ∷ (1 ∷ 68 ∷ []) ∷ (1 ∷ 68 ∷ []) ∷ (1 ∷ 68 ∷ []) ∷ (1 ∷ 88 ∷ []) ∷ [])
unfolding le le_bytes in_limits drive_of same bus_ok interface_ok geometry_fits fields_ok in_store overlap header_of header_at overlaps_any refusal parameters_refusal record_refusal with_record record_step end_step step_of step_at record_of geometry_bytes size_bytes name_bytes parameters_record records_of next_place refused_at opened after_step held_byte by_course feed_byte feed_all answer_by answer_of fed_numbers end_by end_feed tail_of is_i2o zero_tail kind_ok tail_bytes
cut-off = refl

-- ---- records of bad blocks, after a drive of 68 bytes

-- a drive with bad blocks 5 and 7 and with parameters: its bytes, 114 with the end record
abbrev listed : List ℕ
listed = record₁ ++ bads 0 (5 ∷ 7 ∷ []) ++ attach 0 ++ end

-- cut in two within the record, 68 to 90: in its header, behind it, in its drive's number, in the list, and behind the last number; nothing is
-- settled, and 0 once the end is told
pub bads_in_two : map (λ (n : ℕ). said (feeds (opened store) (cut listed n))) (68 ∷ 69 ∷ 72 ∷ 73 ∷ 75 ∷ 82 ∷ 85 ∷ 89 ∷ 90 ∷ [])
    ++ map (λ (n : ℕ). said (end_feed (feeds (opened store) (cut listed n)))) (68 ∷ 69 ∷ 72 ∷ 73 ∷ 75 ∷ 82 ∷ 85 ∷ 89 ∷ 90 ∷ [])
    ≡ unsettled 9 ++ replicate 9 (0 ∷ [])
unfolding le le_bytes in_limits drive_of same bus_ok interface_ok geometry_fits fields_ok in_store overlap header_of header_at overlaps_any refusal parameters_refusal record_refusal with_record record_step end_step step_of step_at bad_count bad_length_ok bads_in held_of ascends are_blocks list_ok bads_refusal record_of geometry_bytes size_bytes name_bytes parameters_record bad_record records_of next_place refused_at opened after_step held_byte by_course feed_byte feed_all answer_by answer_of fed_numbers feeds end_by end_feed tail_of is_i2o zero_tail kind_ok tail_bytes
bads_in_two = refl

-- with the bad blocks and the parameters of the whole: read whole, cut in the list, cut between the numbers, and in fragments of one byte
abbrev listings : List Table
listings = (read_table listed store).table ∷ (end_feed (feeds (opened store) (cut listed 75))).table ∷ (end_feed (feeds (opened store) (cut listed 82))).table ∷ (end_feed (feeds (opened store) (single listed))).table ∷ []

pub bads_in_two_counts : map (λ (b : Table). b.counts) listings ≡ replicate 4 (2 ∷ replicate 7 0)
unfolding le le_bytes in_limits drive_of same bus_ok interface_ok geometry_fits fields_ok in_store overlap header_of header_at overlaps_any refusal parameters_refusal record_refusal with_record record_step end_step step_of step_at bad_count bad_length_ok bads_in held_of ascends are_blocks list_ok bads_refusal read_from read_table opened after_step held_byte by_course feed_byte feed_all feeds end_by end_feed tail_of is_i2o zero_tail kind_ok
bads_in_two_counts = refl

pub bads_in_two_lists : map (λ (b : Table). take 24 b.bad) listings ≡ replicate 4 (5 ∷ replicate 7 0 ++ (7 ∷ replicate 15 0))
unfolding le le_bytes in_limits drive_of same bus_ok interface_ok geometry_fits fields_ok in_store overlap header_of header_at overlaps_any refusal parameters_refusal record_refusal with_record record_step end_step step_of step_at bad_count bad_length_ok bads_in held_of ascends are_blocks list_ok bads_refusal read_from read_table opened after_step held_byte by_course feed_byte feed_all feeds end_by end_feed tail_of is_i2o zero_tail kind_ok
bads_in_two_lists = refl

pub bads_in_two_parameters : map (λ (b : Table). take 14 b.parameters) listings ≡ replicate 4 given-bytes
unfolding le le_bytes in_limits drive_of same bus_ok interface_ok geometry_fits fields_ok in_store overlap header_of header_at overlaps_any refusal parameters_refusal record_refusal with_record record_step end_step step_of step_at bad_count bad_length_ok bads_in held_of ascends are_blocks list_ok bads_refusal read_from read_table opened after_step held_byte by_course feed_byte feed_all feeds end_by end_feed tail_of is_i2o zero_tail kind_ok
bads_in_two_parameters = refl

-- 2 by the fourth byte
--   of no number, length 6: 2 at 68
--   length 15: 2 at 68
--   of seventeen numbers, length 142: 2 at 68
pub bads_two : along (after record₁) (6 ∷ 0 ∷ 3 ∷ 0 ∷ []) ++ along (after record₁) (15 ∷ 0 ∷ 3 ∷ 0 ∷ []) ++ along (after record₁) (142 ∷ 0 ∷ 3 ∷ 0 ∷ [])
    ≡ unsettled 3 ++ ((2 ∷ 68 ∷ []) ∷ []) ++ (unsettled 3 ++ ((2 ∷ 68 ∷ []) ∷ [])) ++ (unsettled 3 ++ ((2 ∷ 68 ∷ []) ∷ []))
unfolding le le_bytes in_limits drive_of same bus_ok interface_ok geometry_fits fields_ok in_store overlap header_of header_at overlaps_any refusal parameters_refusal record_refusal with_record record_step end_step step_of step_at bad_count bad_length_ok bads_in held_of ascends are_blocks list_ok bads_refusal record_of geometry_bytes size_bytes name_bytes parameters_record bad_record records_of next_place refused_at opened after_step held_byte by_course feed_byte feed_all answer_by answer_of fed_numbers tail_of is_i2o zero_tail kind_ok tail_bytes
bads_two = refl

-- 9 by the last byte only
--   for a later drive: 9 at 68
--   repeated: 9 at 90
--   behind the drive's parameters: 9 at 88
pub bads_nine : along (after record₁) (bads 1 (5 ∷ 7 ∷ [])) ++ along (after record₁) (bads 0 (5 ∷ 7 ∷ []) ++ bads 0 (9 ∷ [])) ++ along (after record₁) (attach 0 ++ bads 0 (9 ∷ []))
    ≡ unsettled 21 ++ ((9 ∷ 68 ∷ []) ∷ []) ++ (unsettled 35 ++ ((9 ∷ 90 ∷ []) ∷ [])) ++ (unsettled 33 ++ ((9 ∷ 88 ∷ []) ∷ []))
unfolding le le_bytes in_limits drive_of same bus_ok interface_ok geometry_fits fields_ok in_store overlap header_of header_at overlaps_any refusal parameters_refusal record_refusal with_record record_step end_step step_of step_at bad_count bad_length_ok bads_in held_of ascends are_blocks list_ok bads_refusal record_of geometry_bytes size_bytes name_bytes parameters_record bad_record records_of next_place refused_at opened after_step held_byte by_course feed_byte feed_all answer_by answer_of fed_numbers tail_of is_i2o zero_tail kind_ok tail_bytes
bads_nine = refl

-- 5 by the last byte only
--   not in order: 5 at 68
--   repeated: 5 at 68
--   the first of two past the drive's blocks: 5 at 68
pub bads_five : along (after record₁) (bads 0 (7 ∷ 5 ∷ [])) ++ along (after record₁) (bads 0 (5 ∷ 5 ∷ [])) ++ along (after record₁) (bads 0 (2048 ∷ 2049 ∷ []))
    ≡ unsettled 21 ++ ((5 ∷ 68 ∷ []) ∷ []) ++ (unsettled 21 ++ ((5 ∷ 68 ∷ []) ∷ [])) ++ (unsettled 21 ++ ((5 ∷ 68 ∷ []) ∷ []))
unfolding le le_bytes in_limits drive_of same bus_ok interface_ok geometry_fits fields_ok in_store overlap header_of header_at overlaps_any refusal parameters_refusal record_refusal with_record record_step end_step step_of step_at bad_count bad_length_ok bads_in held_of ascends are_blocks list_ok bads_refusal record_of geometry_bytes size_bytes name_bytes parameters_record bad_record records_of next_place refused_at opened after_step held_byte by_course feed_byte feed_all answer_by answer_of fed_numbers tail_of is_i2o zero_tail kind_ok tail_bytes
bads_five = refl

-- the longest record, of sixteen: held to its 133rd byte, and then none of it
--   the bytes held after 132, 133 and 134 of it
pub bads_kept : map (λ (n : ℕ). (after (record₁ ++ take n (bads 0 sixteen))).filled) (132 ∷ 133 ∷ 134 ∷ []) ≡ 132 ∷ 133 ∷ 0 ∷ []
unfolding le le_bytes in_limits drive_of same bus_ok interface_ok geometry_fits fields_ok in_store overlap header_of header_at overlaps_any refusal parameters_refusal record_refusal with_record record_step end_step step_of step_at bad_count bad_length_ok bads_in held_of ascends are_blocks list_ok bads_refusal opened after_step held_byte by_course feed_byte feed_all tail_of is_i2o zero_tail kind_ok
bads_kept = refl

--   which, after 133: 1 at 68 once the end is told there; after 134 its numbers are the drive's, and 1 is at 202
pub bads_held : (after (record₁ ++ take 133 (bads 0 sixteen))).held ∷ take 128 (after (record₁ ++ bads 0 sixteen)).table.bad
    ∷ said (told (record₁ ++ take 133 (bads 0 sixteen))) ∷ said (told (record₁ ++ bads 0 sixteen)) ∷ []
    ≡ (take 133 (bads 0 sixteen) ++ (0 ∷ [])) ∷ drop 6 (bads 0 sixteen) ∷ (1 ∷ 68 ∷ []) ∷ (1 ∷ 202 ∷ []) ∷ []
unfolding le le_bytes in_limits drive_of same bus_ok interface_ok geometry_fits fields_ok in_store overlap header_of header_at overlaps_any refusal parameters_refusal record_refusal with_record record_step end_step step_of step_at bad_count bad_length_ok bads_in held_of ascends are_blocks list_ok bads_refusal record_of geometry_bytes size_bytes name_bytes parameters_record bad_record records_of next_place refused_at opened after_step held_byte by_course feed_byte feed_all answer_by answer_of fed_numbers end_by end_feed tail_of is_i2o zero_tail kind_ok tail_bytes
bads_held = refl

-- the longest table, eight drives of kind 2 with sixteen bad blocks and parameters each, 1840 bytes, and 133 more: nothing is settled; with the next
-- byte, the 1974th: 9 at 1840
pub longest : along (after (most 8)) (bads 8 sixteen)
    ≡ unsettled 133 ++ ((9 ∷ 1840 ∷ []) ∷ [])
unfolding le le_bytes in_limits drive_of same bus_ok interface_ok geometry_fits fields_ok in_store overlap header_of header_at overlaps_any refusal parameters_refusal record_refusal with_record record_step end_step step_of step_at bad_count bad_length_ok bads_in held_of ascends are_blocks list_ok bads_refusal record_of geometry_bytes size_bytes name_bytes parameters_record bad_record records_of next_place refused_at opened after_step held_byte by_course feed_byte feed_all answer_by answer_of fed_numbers tail_of is_i2o zero_tail kind_ok tail_bytes
longest = refl

-- ---- records of kind 2 (document 02, 2026-06)

-- byte by byte nothing is settled; the end told behind 75 bytes of it: 1 at 0, behind 76: 1 at 76, behind the end record: 0; a byte more: 8 at 80
pub wide_bytewise : along (opened store) (record₂ ++ end) ++ map said (told (take 75 record₂) ∷ told record₂ ∷ told (record₂ ++ end) ∷ after (record₂ ++ end ++ (0 ∷ [])) ∷ [])
    ≡ unsettled 80 ++ ((1 ∷ 0 ∷ []) ∷ (1 ∷ 76 ∷ []) ∷ (0 ∷ []) ∷ (8 ∷ 80 ∷ []) ∷ [])
unfolding le le_bytes in_limits drive_of same bus_ok interface_ok geometry_fits fields_ok in_store overlap header_of header_at overlaps_any refusal parameters_refusal record_refusal with_record record_step end_step step_of step_at record_of geometry_bytes size_bytes name_bytes parameters_record records_of next_place refused_at opened after_step held_byte by_course feed_byte feed_all answer_by answer_of fed_numbers end_by end_feed tail_of is_i2o zero_tail kind_ok tail_bytes
wide_bytewise = refl

-- the bytes held after 68, 75 and 76, and the drives so far
pub wide-kept : map (λ (n : ℕ). (after (take n record₂)).filled ∷ (after (take n record₂)).table.count ∷ []) (68 ∷ 75 ∷ 76 ∷ []) ≡ (68 ∷ 0 ∷ []) ∷ (75 ∷ 0 ∷ []) ∷ (0 ∷ 1 ∷ []) ∷ []
unfolding le le_bytes in_limits drive_of same bus_ok interface_ok geometry_fits fields_ok in_store overlap header_of header_at overlaps_any refusal parameters_refusal record_refusal with_record record_step end_step step_of step_at opened after_step held_byte by_course feed_byte feed_all tail_of is_i2o zero_tail kind_ok
wide-kept = refl

-- a drive of either kind, in fragments of one byte: the kinds and the last eight bytes of the device paths
abbrev wide-drives : List Drive
wide-drives = (feeds (opened store) (single (record₁ ++ wide 2048))).table.drives

pub wide-taken : (map (λ (d : Drive). d.kind) wide-drives ≡ 1 ∷ 2 ∷ replicate 6 0) × (map (λ (d : Drive). d.tail) wide-drives ≡ replicate 8 0 ∷ (159 ∷ 160 ∷ 161 ∷ 162 ∷ 163 ∷ 164 ∷ 165 ∷ 166 ∷ []) ∷ replicate 6 (replicate 8 0))
unfolding le le_bytes in_limits drive_of same bus_ok interface_ok geometry_fits fields_ok in_store overlap header_of header_at overlaps_any refusal parameters_refusal record_refusal with_record record_step end_step step_of step_at opened after_step held_byte by_course feed_byte feed_all feeds tail_of is_i2o zero_tail kind_ok
wide-taken = (refl, refl)

-- 2 at the header's fourth byte
--   kind 2 of length 68: 2 at 76
--   kind 1 of length 76: 2 at 76
pub wide_two : along (after record₂) (68 ∷ 0 ∷ 2 ∷ 0 ∷ []) ++ along (after record₂) (76 ∷ 0 ∷ 1 ∷ 0 ∷ [])
    ≡ unsettled 3 ++ ((2 ∷ 76 ∷ []) ∷ []) ++ (unsettled 3 ++ ((2 ∷ 76 ∷ []) ∷ []))
unfolding le le_bytes in_limits drive_of same bus_ok interface_ok geometry_fits fields_ok in_store overlap header_of header_at overlaps_any refusal parameters_refusal record_refusal with_record record_step end_step step_of step_at record_of geometry_bytes size_bytes name_bytes parameters_record records_of next_place refused_at opened after_step held_byte by_course feed_byte feed_all answer_by answer_of fed_numbers tail_of is_i2o zero_tail kind_ok tail_bytes
wide_two = refl

-- 5 and 7 at the 76th byte, and at the 68th of a record of kind 1
--   kind 2, protection 2: 5 at 76
--   kind 1, I2O: 5 at 76
--   kind 2, the same drive again: 7 at 76
pub wide_five : along (after record₂) (sets (wide 2048) 39 (2 ∷ [])) ++ along (after record₂) (sets (from 2048) 44 (73 ∷ 50 ∷ 79 ∷ 0 ∷ [])) ++ along (after record₂) record₂
    ≡ unsettled 75 ++ ((5 ∷ 76 ∷ []) ∷ []) ++ (unsettled 67 ++ ((5 ∷ 76 ∷ []) ∷ [])) ++ (unsettled 75 ++ ((7 ∷ 76 ∷ []) ∷ []))
unfolding le le_bytes in_limits drive_of same bus_ok interface_ok geometry_fits fields_ok in_store overlap header_of header_at overlaps_any refusal parameters_refusal record_refusal with_record record_step end_step step_of step_at record_of geometry_bytes size_bytes name_bytes parameters_record records_of next_place refused_at opened after_step held_byte by_course feed_byte feed_all answer_by answer_of fed_numbers tail_of is_i2o zero_tail kind_ok tail_bytes
wide_five = refl

-- ---- fragments

-- empty ones change nothing
--   none, and only empty ones: 1 at 0 once the end is told
--   between the others: 0 once the end is told
--   behind the end record: no byte follows
pub empty : map (λ (fs : List (List ℕ)). said (feeds (opened store) fs)) ([] ∷ ([] ∷ [] ∷ []) ∷ ([] ∷ record₁ ∷ [] ∷ [] ∷ take 2 end ∷ [] ∷ drop 2 end ∷ []) ∷ (record₁ ∷ end ∷ [] ∷ []) ∷ [])
    ++ map (λ (fs : List (List ℕ)). said (end_feed (feeds (opened store) fs))) ([] ∷ ([] ∷ [] ∷ []) ∷ ([] ∷ record₁ ∷ [] ∷ [] ∷ take 2 end ∷ [] ∷ drop 2 end ∷ []) ∷ (record₁ ∷ end ∷ [] ∷ []) ∷ [])
    ≡ unsettled 4 ++ ((1 ∷ 0 ∷ []) ∷ (1 ∷ 0 ∷ []) ∷ (0 ∷ []) ∷ (0 ∷ []) ∷ [])
unfolding le le_bytes in_limits drive_of same bus_ok interface_ok geometry_fits fields_ok in_store overlap header_of header_at overlaps_any refusal parameters_refusal record_refusal with_record record_step end_step step_of step_at record_of geometry_bytes size_bytes name_bytes parameters_record records_of next_place refused_at opened after_step held_byte by_course feed_byte feed_all answer_by answer_of fed_numbers feeds end_by end_feed tail_of is_i2o zero_tail kind_ok tail_bytes
empty = refl

-- the end of a drive's record, its parameters, a drive with parameters and half an end record in one fragment
abbrev several : List (List ℕ)
several = take 10 record₁ ∷ (drop 10 record₁ ++ attach 0 ++ from 2048 ++ attach 1 ++ take 2 end) ∷ drop 2 end ∷ []

-- nothing is settled; 0 once the end is told; 8 at 180 with a byte more
pub several_said : said (feeds (opened store) several) ∷ said (end_feed (feeds (opened store) several)) ∷ said (feed_all (feeds (opened store) several) (0 ∷ [])) ∷ []
    ≡ (256 ∷ []) ∷ (0 ∷ []) ∷ (8 ∷ 180 ∷ []) ∷ []
unfolding le le_bytes in_limits drive_of same bus_ok interface_ok geometry_fits fields_ok in_store overlap header_of header_at overlaps_any refusal parameters_refusal record_refusal with_record record_step end_step step_of step_at record_of geometry_bytes size_bytes name_bytes parameters_record records_of next_place refused_at opened after_step held_byte by_course feed_byte feed_all answer_by answer_of fed_numbers feeds end_by end_feed tail_of is_i2o zero_tail kind_ok tail_bytes
several_said = refl

-- two drives, the second from block 2048 on, each with its parameters
pub several_drives : map (λ (d : Drive). d.first) (feeds (opened store) several).table.drives
    ≡ 0 ∷ 2048 ∷ replicate 6 0
unfolding le le_bytes in_limits drive_of same bus_ok interface_ok geometry_fits fields_ok in_store overlap header_of header_at overlaps_any refusal parameters_refusal record_refusal with_record record_step end_step step_of step_at opened after_step held_byte by_course feed_byte feed_all feeds tail_of is_i2o zero_tail kind_ok
several_drives = refl

pub several_marks : (feeds (opened store) several).table.present
    ≡ true ∷ true ∷ replicate 6 false
unfolding le le_bytes in_limits drive_of same bus_ok interface_ok geometry_fits fields_ok in_store overlap header_of header_at overlaps_any refusal parameters_refusal record_refusal with_record record_step end_step step_of step_at opened after_step held_byte by_course feed_byte feed_all feeds tail_of is_i2o zero_tail kind_ok
several_marks = refl

pub several_parameters : (feeds (opened store) several).table.parameters
    ≡ given-bytes ++ given-bytes ++ replicate 84 0
unfolding le le_bytes in_limits drive_of same bus_ok interface_ok geometry_fits fields_ok in_store overlap header_of header_at overlaps_any refusal parameters_refusal record_refusal with_record record_step end_step step_of step_at opened after_step held_byte by_course feed_byte feed_all feeds tail_of is_i2o zero_tail kind_ok
several_parameters = refl

-- ---- what stays

-- after a refusal: bytes, whole records and the end are ignored
--   2 at 68, each byte behind it: 2 at 68
--   and the end: 2 at 68
--   8 at 72, a byte more and the end: 8 at 72
--   7 at 68, and the end record: 7 at 68
pub refused-stays : along (after (record₁ ++ (67 ∷ 0 ∷ 1 ∷ 0 ∷ []))) (end ++ take 4 record₁) ++ map said (told (record₁ ++ (67 ∷ 0 ∷ 1 ∷ 0 ∷ [])) ∷ after (record₁ ++ end ++ (0 ∷ 1 ∷ [])) ∷ told (record₁ ++ end ++ (0 ∷ 1 ∷ [])) ∷ told (record₁ ++ record₁ ++ end) ∷ [])
    ≡ replicate 8 (2 ∷ 68 ∷ []) ++ ((2 ∷ 68 ∷ []) ∷ (8 ∷ 72 ∷ []) ∷ (8 ∷ 72 ∷ []) ∷ (7 ∷ 68 ∷ []) ∷ [])
unfolding le le_bytes in_limits drive_of same bus_ok interface_ok geometry_fits fields_ok in_store overlap header_of header_at overlaps_any refusal parameters_refusal record_refusal with_record record_step end_step step_of step_at record_of geometry_bytes size_bytes name_bytes parameters_record records_of next_place refused_at opened after_step held_byte by_course feed_byte feed_all answer_by answer_of fed_numbers end_by end_feed tail_of is_i2o zero_tail kind_ok tail_bytes
refused-stays = refl

-- after the end was told
--   accepted, and a byte: 0
--   accepted, and the end again: 0
--   1 at 0, and an end record: 1 at 0
--   1 at 68, and the end record that was missing: 1 at 68
--   1 at 68, and the end again: 1 at 68
pub told-stays : map said (feed_all (told (record₁ ++ end)) (0 ∷ []) ∷ end_feed (told (record₁ ++ end)) ∷ feed_all (told []) end ∷ feed_all (told record₁) end ∷ end_feed (told record₁) ∷ [])
    ≡ (0 ∷ []) ∷ (0 ∷ []) ∷ (1 ∷ 0 ∷ []) ∷ (1 ∷ 68 ∷ []) ∷ (1 ∷ 68 ∷ []) ∷ []
unfolding le le_bytes in_limits drive_of same bus_ok interface_ok geometry_fits fields_ok in_store overlap header_of header_at overlaps_any refusal parameters_refusal record_refusal with_record record_step end_step step_of step_at record_of geometry_bytes size_bytes name_bytes parameters_record records_of next_place refused_at opened after_step held_byte by_course feed_byte feed_all answer_by answer_of fed_numbers end_by end_feed tail_of is_i2o zero_tail kind_ok tail_bytes
told-stays = refl

-- the drives so far: none after 67 bytes, one after 68, one at a refusal of the second, two
pub counted : map (λ (l : List ℕ). (after l).table.count) (take 67 record₁ ∷ record₁ ∷ (record₁ ++ record₁) ∷ (record₁ ++ from 2048) ∷ [])
    ≡ 0 ∷ 1 ∷ 1 ∷ 2 ∷ []
unfolding le le_bytes in_limits drive_of same bus_ok interface_ok geometry_fits fields_ok in_store overlap header_of header_at overlaps_any refusal parameters_refusal record_refusal with_record record_step end_step step_of step_at opened after_step held_byte by_course feed_byte feed_all tail_of is_i2o zero_tail kind_ok
counted = refl

-- ---- what a reader keeps

-- opened; five bytes; a drive; a drive and three bytes; cut in two within the second record; closed; refused with 3, and bytes after it; refused
-- with 8; accepted, and bytes after it; refused with 1
abbrev points : List Feed
points = opened store ∷ after (take 5 record₁) ∷ after record₁ ∷ after (record₁ ++ take 3 end) ∷ feeds (opened store) (cut (record₁ ++ take 3 end) 70) ∷ after (record₁ ++ end) ∷ after (record₁ ++ (4 ∷ 0 ∷ 5 ∷ 0 ∷ 7 ∷ 7 ∷ [])) ∷ after (record₁ ++ end ++ (7 ∷ [])) ∷ feed_all (told (record₁ ++ end)) (7 ∷ 7 ∷ []) ∷ told (record₁ ++ take 3 end) ∷ []

-- how many bytes are held: those of an unfinished record, while nothing is settled
pub points_filled : map (λ (f : Feed). f.filled) points
    ≡ 0 ∷ 5 ∷ 0 ∷ 3 ∷ 3 ∷ 0 ∷ 0 ∷ 0 ∷ 0 ∷ 0 ∷ []
unfolding le le_bytes in_limits drive_of same bus_ok interface_ok geometry_fits fields_ok in_store overlap header_of header_at overlaps_any refusal parameters_refusal record_refusal with_record record_step end_step step_of step_at opened after_step held_byte by_course feed_byte feed_all feeds end_by end_feed tail_of is_i2o zero_tail kind_ok
points_filled = refl

-- and which: zeros behind them, and of a record that was taken no byte
pub points_held : map (λ (f : Feed). f.held) points
    ≡ replicate 134 0 ∷ (68 ∷ 0 ∷ 1 ∷ 0 ∷ 2 ∷ replicate 129 0) ∷ replicate 134 0 ∷ (4 ∷ replicate 133 0) ∷ (4 ∷ replicate 133 0) ∷ replicate 5 (replicate 134 0)
unfolding le le_bytes in_limits drive_of same bus_ok interface_ok geometry_fits fields_ok in_store overlap header_of header_at overlaps_any refusal parameters_refusal record_refusal with_record record_step end_step step_of step_at opened after_step held_byte by_course feed_byte feed_all feeds end_by end_feed tail_of is_i2o zero_tail kind_ok
points_held = refl

-- the store's number of blocks stays
pub points_store : map (λ (f : Feed). f.store) points
    ≡ replicate 10 4294967296
unfolding le le_bytes in_limits drive_of same bus_ok interface_ok geometry_fits fields_ok in_store overlap header_of header_at overlaps_any refusal parameters_refusal record_refusal with_record record_step end_step step_of step_at opened after_step held_byte by_course feed_byte feed_all feeds end_by end_feed tail_of is_i2o zero_tail kind_ok
points_store = refl

-- a reader that no bytes lead to, whose record is whole and not taken
abbrev full : Feed
full = record { table = empty_table; store = store; held = replicate 134 7; filled = 134; course = Reading }

-- a byte more: it stays, and nothing is said
pub full_stays : said (feed_byte full 9) ∷ ((feed_byte full 9).filled ∷ []) ∷ (feed_byte full 9).held ∷ []
    ≡ (256 ∷ []) ∷ (134 ∷ []) ∷ replicate 134 7 ∷ []
unfolding le le_bytes in_limits drive_of same bus_ok interface_ok geometry_fits fields_ok in_store overlap header_of header_at overlaps_any refusal parameters_refusal record_refusal with_record record_step end_step step_of step_at record_of geometry_bytes size_bytes name_bytes parameters_record records_of next_place refused_at opened after_step held_byte by_course feed_byte feed_all answer_by answer_of fed_numbers tail_of is_i2o zero_tail kind_ok tail_bytes
full_stays = refl

-- ---- the answers of the whole, as the theorem says them

-- the bytes of fragments, in their order
pub joins : joined ((1 ∷ 2 ∷ []) ∷ [] ∷ (3 ∷ []) ∷ (4 ∷ 5 ∷ []) ∷ []) ≡ 1 ∷ 2 ∷ 3 ∷ 4 ∷ 5 ∷ []
unfolding joined
joins = refl

-- accepted, 1 at 68, 2 at 68, 8 at 72: once the end was told, and before it, where 1 and acceptance are not said
pub answers : map (λ a. fed_numbers (answer_told a)) (Ok tt ∷ Err (refused 1 68) ∷ Err (refused 2 68) ∷ Err (refused 8 72) ∷ [])
    ++ map (λ a. fed_numbers (so_far a)) (Ok tt ∷ Err (refused 1 68) ∷ Err (refused 2 68) ∷ Err (refused 8 72) ∷ [])
    ≡ (0 ∷ []) ∷ (1 ∷ 68 ∷ []) ∷ (2 ∷ 68 ∷ []) ∷ (8 ∷ 72 ∷ []) ∷ (256 ∷ []) ∷ (256 ∷ []) ∷ (2 ∷ 68 ∷ []) ∷ (8 ∷ 72 ∷ []) ∷ []
unfolding fed_numbers
answers = refl

-- ---- bytes that settle nothing, and bytes that are ignored

-- a byte leaves the record unfinished
--   the first: true
--   the fourth of a drive's header: true
--   the fourth of a header with kind 9, with kind 257 and with length 67: false
--   the 67th of a drive: true
--   the 68th: false
--   the fourth of a header of sixteen bad blocks: true
--   of one of length 135: false
--   the 133rd byte of sixteen bad blocks: true
--   the 134th: false
--   past the longest record: false
--   behind the end record, once accepted, once refused: false
pub opens : stays_open Reading nothing 0 68 ∷ stays_open Reading (68 ∷ 0 ∷ 1 ∷ replicate 131 0) 3 0 ∷ stays_open Reading (68 ∷ 0 ∷ 9 ∷ replicate 131 0) 3 0
    ∷ stays_open Reading (68 ∷ 0 ∷ 1 ∷ replicate 131 0) 3 1 ∷ stays_open Reading (67 ∷ 0 ∷ 1 ∷ replicate 131 0) 3 0
    ∷ stays_open Reading (take 66 record₁ ++ replicate 68 0) 66 0 ∷ stays_open Reading (take 67 record₁ ++ replicate 67 0) 67 0
    ∷ stays_open Reading (134 ∷ 0 ∷ 3 ∷ replicate 131 0) 3 0 ∷ stays_open Reading (135 ∷ 0 ∷ 3 ∷ replicate 131 0) 3 0
    ∷ stays_open Reading (take 132 (bads 0 sixteen) ++ (0 ∷ 0 ∷ [])) 132 0 ∷ stays_open Reading (take 133 (bads 0 sixteen) ++ (0 ∷ [])) 133 0
    ∷ stays_open Reading (bads 0 sixteen) 134 0 ∷ stays_open Closed nothing 0 68 ∷ stays_open Accepted nothing 0 68 ∷ stays_open (Refused 3) nothing 0 68 ∷ []
    ≡ true ∷ true ∷ false ∷ false ∷ false ∷ true ∷ false ∷ true ∷ false ∷ true ∷ false ∷ false ∷ false ∷ false ∷ false ∷ []
unfolding stays_open is_unfinished header_at header_of le le_bytes bad_count bad_length_ok
opens = refl

-- bytes are ignored once the end was told or it is refused, and not before
pub over : map is_over (Reading ∷ Closed ∷ Accepted ∷ Refused 3 ∷ []) ≡ false ∷ false ∷ true ∷ true ∷ []
unfolding is_over
over = refl
