-- The reader block by number: its 2018 bytes at each point of a reading, and blocks that are refused.
-- Assumes nothing.
use mathlib.Core.Path.{◌≡◌, refl, ap, ◌∙◌}
use mathlib.Core.Bool.{Bool, true, false}
use mathlib.Core.List.{List, [], ◌∷◌, ◌++◌, map}
use Prim.Native.Nat.{ℕ, zero, suc, ◌-◌}
use native.Mathlib.Omega.{arith}
use lib.ListN.{length, get_or, take, drop, set, replicate}
use lib.Dec.{ltb}
use borrow.Author.Tests.{ltb-true}
use Rattle.logic.proofs.LogicLaws.{both_true}
use Rattle.words.specs.Words.{Bytes, le, le_bytes}
use Rattle.drive.specs.declared.Drive.{Drive}
use Rattle.drive.specs.Drive.{drive_of, record_of, geometry_bytes, size_bytes, name_bytes, same, fields_ok, in_store, overlap, blank_numbers, blank_names, is_blank, tail_bytes, tail_of, zero_tail}
use Rattle.drive.proofs.DriveLaws.{all_bytes}
use Rattle.drive.proofs.Vectors.{rules, wide_rules}
use Rattle.attached.specs.Parameters.{parameters_record}
use Rattle.attached.specs.Bad.{bad_count, bad_length_ok, bads_in, held_of, bad_record, ascends, are_blocks, list_ok, zero_past, bads_ok}
use Rattle.table.specs.declared.Step.TheVariants.{Next}
use Rattle.table.specs.Table.{header_of, header_at, overlaps_any, refusal, parameters_refusal, bads_refusal, with_bads, record_refusal, with_record, record_step, end_step, step_of, step_at, stepped, empty_table, more, read_from, read_table, records_of, bytes_of, table_of, sound_to, blank_to, attached_to, listed_to, is_sound}
use Rattle.table.proofs.TableLaws.{drive-taken}
use Rattle.table.proofs.Vectors.{attach, bads, sixteen}
use Rattle.feed.specs.declared.Course.TheVariants.{Reading}
use Rattle.feed.specs.declared.Feed.{Feed}
use Rattle.feed.specs.Feed.{opened, after_step, held_byte, by_course, feed_byte, feed_all, end_by, end_feed}
use Rattle.reader.specs.Reader.{course_number, refusal_number, image, read_reader, rest_zero, course_ok, accept, accepted, laid}
use Rattle.reader.proofs.Exact.{exact}
use Rattle.reader.proofs.Keeps.{opened-accepted, fed-accepted}

-- a drive of 5,000,000,000 blocks from 123,456,789,012, and the end record
abbrev drive : List ℕ
drive = 68 ∷ 0 ∷ 1 ∷ 0 ∷ 233 ∷ 3 ∷ 0 ∷ 0 ∷ 17 ∷ 0 ∷ 0 ∷ 0 ∷ 62 ∷ 0 ∷ 0 ∷ 0 ∷ 0 ∷ 242 ∷ 5 ∷ 42 ∷ 1 ∷ 0 ∷ 0 ∷ 0 ∷ 20 ∷ 26 ∷ 153 ∷ 190 ∷ 28 ∷ 0 ∷ 0 ∷ 0 ∷ 90 ∷ 0 ∷ 232 ∷ 3 ∷ 200 ∷ 0 ∷ 25 ∷ 1 ∷ 80 ∷ 67 ∷ 73 ∷ 0 ∷ 83 ∷ 67 ∷ 83 ∷ 73 ∷ 0 ∷ 0 ∷ 0 ∷ 0 ∷ 1 ∷ 2 ∷ 3 ∷ 4 ∷ 5 ∷ 6 ∷ 7 ∷ 8 ∷ 11 ∷ 12 ∷ 13 ∷ 14 ∷ 15 ∷ 16 ∷ 17 ∷ 18 ∷ []

abbrev end : List ℕ
end = 4 ∷ 0 ∷ 0 ∷ 0 ∷ []

-- its fields obey their rules: the drive's own cases begin with it
drive-good : fields_ok (drive_of drive) ≡ true
drive-good = ap (λ (l : List Bool). get_or l 0 false) rules

-- a word whose value is a byte
abbrev word : ℕ → List ℕ
word n = n ∷ replicate 7 0

-- bytes, and zeros behind them up to n
abbrev padded : ℕ → List ℕ → List ℕ
padded n l = l ++ replicate (n - length l) 0

-- a block: course, refusal, a store of 128,456,789,012 blocks, how many bytes are held, the length of the table; the bytes held; the table
abbrev block : ℕ → ℕ → List ℕ → List ℕ → List ℕ
block course refusal held t =
    word course ++ word refusal ++ (20 ∷ 12 ∷ 159 ∷ 232 ∷ 29 ∷ 0 ∷ 0 ∷ 0 ∷ []) ++ word (length held) ++ word (length t) ++ padded 134 held ++ padded 1844 t

abbrev start : Feed
start = opened 128456789012

-- ---- readings without a drive

-- the image at each point of a reading
--   opened: reading, nothing held, a table of no drives
--   fed a drive's record but its last byte: 67 bytes held
--   fed the end record: closed
--   and told the end: accepted
--   fed three bytes and told the end: refused with 1
--   fed the end record and a byte: refused with 8
--   fed an end record of length 5: refused with 2
pub images : map image (start ∷ feed_all start (take 67 drive) ∷ feed_all start end ∷ end_feed (feed_all start end) ∷ end_feed (feed_all start (68 ∷ 0 ∷ 1 ∷ [])) ∷ feed_all start (end ++ (0 ∷ [])) ∷ feed_all start (5 ∷ 0 ∷ 0 ∷ 0 ∷ []) ∷ [])
    ≡ block 0 0 [] end ∷ block 0 0 (take 67 drive) end ∷ block 1 0 [] end ∷ block 2 0 [] end ∷ block 3 1 [] end ∷ block 3 8 [] end ∷ block 3 2 [] end ∷ []
unfolding le le_bytes in_store drive_of overlap header_of header_at overlaps_any refusal parameters_refusal record_refusal with_record record_step end_step step_of step_at record_of geometry_bytes size_bytes name_bytes records_of bytes_of table_of image opened after_step held_byte by_course feed_byte feed_all end_by end_feed tail_of tail_bytes
images = refl

-- accepted: such blocks, with the first refusal and with the last, 1 and 9
pub passing : map accepted (block 0 0 [] end ∷ block 0 0 (take 67 drive) end ∷ block 1 0 [] end ∷ block 2 0 [] end ∷ block 3 1 [] end ∷ block 3 9 [] end ∷ [])
    ≡ true ∷ true ∷ true ∷ true ∷ true ∷ true ∷ []
unfolding le le_bytes in_store drive_of overlap header_of header_at overlaps_any refusal parameters_refusal record_refusal with_record record_step end_step step_of step_at record_of geometry_bytes size_bytes name_bytes records_of bytes_of table_of image same blank_numbers blank_names is_blank sound_to blank_to attached_to listed_to held_of ascends are_blocks list_ok zero_past bads_ok is_sound read_from read_table read_reader rest_zero course_ok accept accepted tail_of tail_bytes zero_tail
passing = refl

-- refused, by the rules of a reader
--   refused with no number, and with 10
--   closed with a byte held
--   the whole end record held, and a record of an unknown kind
pub ruled : map accepted (block 3 0 [] end ∷ block 3 10 [] end ∷ block 1 0 (68 ∷ []) end ∷ block 0 0 end end ∷ block 0 0 (4 ∷ 0 ∷ 9 ∷ 0 ∷ []) end ∷ [])
    ≡ false ∷ false ∷ false ∷ false ∷ false ∷ []
unfolding le le_bytes in_store drive_of overlap header_of header_at overlaps_any refusal parameters_refusal record_refusal with_record record_step end_step step_of step_at record_of geometry_bytes size_bytes name_bytes records_of bytes_of table_of image same blank_numbers blank_names is_blank sound_to blank_to attached_to listed_to held_of ascends are_blocks list_ok zero_past bads_ok is_sound read_from read_table read_reader rest_zero course_ok accept accepted tail_of tail_bytes zero_tail
ruled = refl

-- refused, since it is no image
--   no byte, a byte fewer, a byte more
--   course 4, whose reader is laid out as 3
--   a refusal's number where there is no refusal, and one of 257
--   a byte past those held
--   a byte behind the table
--   a length that there is no room for
pub bare : map accepted ([] ∷ take 2017 (block 0 0 [] end) ∷ (block 0 0 [] end ++ (0 ∷ [])) ∷ block 4 1 [] end ∷ block 0 1 [] end ∷ set (block 3 1 [] end) 9 1 ∷ set (block 0 0 (68 ∷ []) end) 41 1 ∷ set (block 0 0 [] end) 178 1 ∷ set (block 0 0 [] end) 39 1 ∷ [])
    ≡ false ∷ false ∷ false ∷ false ∷ false ∷ false ∷ false ∷ false ∷ false ∷ []
unfolding le le_bytes in_store drive_of overlap header_of header_at overlaps_any refusal parameters_refusal record_refusal with_record record_step end_step step_of step_at record_of geometry_bytes size_bytes name_bytes records_of bytes_of table_of image same blank_numbers blank_names is_blank sound_to blank_to attached_to listed_to held_of ascends are_blocks list_ok zero_past bads_ok is_sound read_from read_table read_reader rest_zero course_ok accept accepted tail_of tail_bytes zero_tail
bare = refl

-- laid out in a block of its size, and in one that is a byte short, which stays
pub laying : (laid (replicate 2018 7) start ≡ block 0 0 [] end) × (laid (replicate 2017 7) start ≡ replicate 2017 7)
unfolding le_bytes records_of bytes_of table_of opened image laid
laying = (refl, refl)

-- and in one that is a byte longer, which stays too
pub laying_long : laid (replicate 2019 7) start ≡ replicate 2019 7
unfolding le_bytes records_of bytes_of table_of opened image laid
laying_long = refl

-- ---- a reading with a drive

-- the reader that has taken it
abbrev taken : Feed
taken = record { table = more empty_table (drive_of drive); store = 128456789012; held = replicate 134 0; filled = 0; course = Reading }

-- its table in the block
pub drive-image : image taken ≡ block 0 0 [] (drive ++ end)
unfolding le le_bytes in_store drive_of overlap header_of header_at overlaps_any refusal parameters_refusal record_refusal with_record record_step end_step step_of step_at record_of geometry_bytes size_bytes name_bytes records_of bytes_of table_of image tail_of tail_bytes
drive-image = refl

drive-refusal : refusal 0 empty_table.drives (drive_of drive) 128456789012 ≡ 0
unfolding le drive_of in_store overlaps_any refusal tail_of
drive-refusal = rw drive-good

drive-step : stepped (Next 68) (more empty_table (drive_of drive)) ≡ step_at drive 0 empty_table 128456789012
unfolding le header_of header_at
drive-step = drive-taken drive 0 68 empty_table 128456789012 (drive_of drive) record { kind = 1; header = refl; drive = refl } refl drive-refusal

-- the record's last byte takes it
abbrev waiting : Feed
waiting = record { table = empty_table; store = 128456789012; held = take 67 drive ++ replicate 67 0; filled = 67; course = Reading }

fed-most : feed_all start (take 67 drive) ≡ waiting
unfolding le le_bytes in_store drive_of overlap header_of header_at overlaps_any refusal parameters_refusal record_refusal with_record record_step end_step step_of step_at opened after_step held_byte by_course feed_byte feed_all end_by end_feed tail_of
fed-most = refl

fed_last : feed_byte waiting 18 ≡ taken
unfolding after_step held_byte by_course feed_byte
fed_last = rw (← drive-step)

fed-append : (f : Feed) (a b : List ℕ) → feed_all f (a ++ b) ≡ feed_all (feed_all f a) b
unfolding feed_all
fed-append f [] b = refl
fed-append f (x ∷ a) b = fed-append (feed_byte f x) a b

fed-drive : feed_all start drive ≡ taken
unfolding feed_all
fed-drive = fed-append start (take 67 drive) (18 ∷ []) ∙ ap (λ (f : Feed). feed_byte f 18) fed-most ∙ fed_last

-- fed its 68 bytes: the drive is in the table, and nothing is held
pub drive-fed : image (feed_all start drive) ≡ block 0 0 [] (drive ++ end)
drive-fed = ap image fed-drive ∙ drive-image

bytes-of : (l : List ℕ) → all_bytes l ≡ true → Bytes l
bytes-of [] e i = omega arith
bytes-of (x ∷ l) e zero = ltb-true x 256 (both_true (ltb x 256) (all_bytes l) e).0
bytes-of (x ∷ l) e (suc i) = bytes-of l (both_true (ltb x 256) (all_bytes l) e).1 i

-- and its block is accepted, by the laws
pub drive_passing : accepted (block 0 0 [] (drive ++ end)) ≡ true
drive_passing =
    let o = opened-accepted 128456789012 (omega arith) in
    let k = fed-accepted start drive o.0 o.1 (bytes-of drive refl) in
    (exact.every (block 0 0 [] (drive ++ end)) (feed_all start drive) (record { fits = k.0; acceptable = k.1; image = drive-fed })).0

-- ---- a reading with a drive of kind 2 (document 02, 2026-06)

-- the same drive in a record of kind 2: its device path goes on with 21 to 28
abbrev wide : List ℕ
wide = 76 ∷ 0 ∷ 2 ∷ 0 ∷ 233 ∷ 3 ∷ 0 ∷ 0 ∷ 17 ∷ 0 ∷ 0 ∷ 0 ∷ 62 ∷ 0 ∷ 0 ∷ 0 ∷ 0 ∷ 242 ∷ 5 ∷ 42 ∷ 1 ∷ 0 ∷ 0 ∷ 0 ∷ 20 ∷ 26 ∷ 153 ∷ 190 ∷ 28 ∷ 0 ∷ 0 ∷ 0 ∷ 90 ∷ 0 ∷ 232 ∷ 3 ∷ 200 ∷ 0 ∷ 25 ∷ 1 ∷ 80 ∷ 67 ∷ 73 ∷ 0 ∷ 83 ∷ 67 ∷ 83 ∷ 73 ∷ 0 ∷ 0 ∷ 0 ∷ 0 ∷ 1 ∷ 2 ∷ 3 ∷ 4 ∷ 5 ∷ 6 ∷ 7 ∷ 8 ∷ 11 ∷ 12 ∷ 13 ∷ 14 ∷ 15 ∷ 16 ∷ 17 ∷ 18 ∷ 21 ∷ 22 ∷ 23 ∷ 24 ∷ 25 ∷ 26 ∷ 27 ∷ 28 ∷ []

wide_good : fields_ok (drive_of wide) ≡ true
wide_good = ap (λ (l : List Bool). get_or l 0 false) wide_rules

-- the reader that has taken it
abbrev wide-taken : Feed
wide-taken = record { table = more empty_table (drive_of wide); store = 128456789012; held = replicate 134 0; filled = 0; course = Reading }

-- its table in the block: 80 bytes
pub wide-image : image wide-taken ≡ block 0 0 [] (wide ++ end)
unfolding le le_bytes drive_of record_of geometry_bytes size_bytes name_bytes records_of bytes_of table_of image tail_of tail_bytes
wide-image = refl

wide-refusal : refusal 0 empty_table.drives (drive_of wide) 128456789012 ≡ 0
unfolding le drive_of in_store overlaps_any refusal tail_of
wide-refusal = rw wide_good

wide_step : stepped (Next 76) (more empty_table (drive_of wide)) ≡ step_at wide 0 empty_table 128456789012
unfolding le header_of header_at
wide_step = drive-taken wide 0 76 empty_table 128456789012 (drive_of wide) record { kind = 2; header = refl; drive = refl } refl wide-refusal

-- the record's last byte takes it: 75 are held
abbrev wide_waiting : Feed
wide_waiting = record { table = empty_table; store = 128456789012; held = take 75 wide ++ replicate 59 0; filled = 75; course = Reading }

fed-wide-most : feed_all start (take 75 wide) ≡ wide_waiting
unfolding le le_bytes in_store drive_of overlap header_of header_at overlaps_any refusal parameters_refusal record_refusal with_record record_step end_step step_of step_at opened after_step held_byte by_course feed_byte feed_all end_by end_feed tail_of
fed-wide-most = refl

fed-wide_last : feed_byte wide_waiting 28 ≡ wide-taken
unfolding after_step held_byte by_course feed_byte
fed-wide_last = rw (← wide_step)

fed-wide : feed_all start wide ≡ wide-taken
unfolding feed_all
fed-wide = fed-append start (take 75 wide) (28 ∷ []) ∙ ap (λ (f : Feed). feed_byte f 28) fed-wide-most ∙ fed-wide_last

-- fed its 76 bytes: the drive is in the table, and nothing is held
pub wide-fed : image (feed_all start wide) ≡ block 0 0 [] (wide ++ end)
wide-fed = ap image fed-wide ∙ wide-image

-- and its block is accepted, by the laws
pub wide_passing : accepted (block 0 0 [] (wide ++ end)) ≡ true
wide_passing =
    let o = opened-accepted 128456789012 (omega arith) in
    let k = fed-accepted start wide o.0 o.1 (bytes-of wide refl) in
    (exact.every (block 0 0 [] (wide ++ end)) (feed_all start wide) (record { fits = k.0; acceptable = k.1; image = wide-fed })).0

-- what it says: the drive's kind and the last eight bytes of its device path; kind 1 and length 68 in that record leave eight bytes that are none
pub wide_read : map (λ (b : List ℕ). map (λ (d : Drive). d.kind ∷ d.tail) (read_reader b).table.drives) (block 0 0 [] (wide ++ end) ∷ block 0 0 [] (68 ∷ 0 ∷ 1 ∷ drop 3 wide ++ end) ∷ [])
    ≡ ((2 ∷ 21 ∷ 22 ∷ 23 ∷ 24 ∷ 25 ∷ 26 ∷ 27 ∷ 28 ∷ []) ∷ replicate 7 (replicate 9 0)) ∷ ((1 ∷ replicate 8 0) ∷ replicate 7 (replicate 9 0)) ∷ []
unfolding le le_bytes drive_of in_store overlap header_of header_at overlaps_any refusal parameters_refusal record_refusal with_record record_step end_step step_of step_at read_from read_table read_reader tail_of
wide_read = rw (wide_good, drive-good)

-- ---- a reading with a drive and its bad blocks

-- the reader that has taken them too: blocks 5 and 4,999,999,999, the last
abbrev list : List ℕ
list = bads 0 (5 ∷ 4999999999 ∷ [])

abbrev listed : Feed
listed = record { table = with_bads (more empty_table (drive_of drive)) 0 (bads_in list); store = 128456789012; held = replicate 134 0; filled = 0; course = Reading }

-- its table in the block: their record stands behind the drive's
pub list_image : image listed ≡ block 0 0 [] (drive ++ list ++ end)
unfolding le le_bytes drive_of record_of geometry_bytes size_bytes name_bytes bad_count bads_in held_of bad_record records_of bytes_of table_of image tail_of tail_bytes
list_image = refl

fed_list : feed_all taken list ≡ listed
unfolding le le_bytes drive_of in_store overlap header_of header_at overlaps_any refusal parameters_refusal bads_refusal record_refusal with_record record_step end_step step_of step_at bad_count bad_length_ok bads_in held_of ascends are_blocks list_ok after_step held_byte by_course feed_byte feed_all tail_of
fed_list = refl

-- fed the record's 22 bytes: they are in the table, and nothing is held
pub list_fed : image (feed_all start (drive ++ list)) ≡ block 0 0 [] (drive ++ list ++ end)
list_fed = ap image (fed-append start drive list ∙ ap (λ (f : Feed). feed_all f list) fed-drive ∙ fed_list) ∙ list_image

-- and its block is accepted, by the laws
pub list_passing : accepted (block 0 0 [] (drive ++ list ++ end)) ≡ true
unfolding le_bytes
list_passing =
    let o = opened-accepted 128456789012 (omega arith) in
    let k = fed-accepted start (drive ++ list) o.0 o.1 (bytes-of (drive ++ list) refl) in
    (exact.every (block 0 0 [] (drive ++ list ++ end)) (feed_all start (drive ++ list)) (record { fits = k.0; acceptable = k.1; image = list_fed })).0

-- ---- the reader that a block says, accepted or not

-- its course, its refusal, its store, how many bytes are held, and how many drives there are
abbrev says : List ℕ → List ℕ
says b = course_number (read_reader b).course ∷ refusal_number (read_reader b).course ∷ (read_reader b).store ∷ (read_reader b).filled ∷ (read_reader b).table.count ∷ []

--   each course; 4, and a course whose eighth byte is not 0, say refused
--   only the first byte of the refusal's number is read
--   how many bytes are held, to the word's eighth byte
pub read_back : map says (block 0 7 (68 ∷ 0 ∷ 1 ∷ []) end ∷ block 1 7 [] end ∷ block 2 7 [] end ∷ block 3 7 [] end ∷ block 4 7 [] end ∷ set (block 0 7 [] end) 7 1 ∷ set (block 3 7 [] end) 9 1 ∷ set (block 0 0 [] end) 31 1 ∷ [])
    ≡ (0 ∷ 0 ∷ 128456789012 ∷ 3 ∷ 0 ∷ []) ∷ (1 ∷ 0 ∷ 128456789012 ∷ 0 ∷ 0 ∷ []) ∷ (2 ∷ 0 ∷ 128456789012 ∷ 0 ∷ 0 ∷ []) ∷ (3 ∷ 7 ∷ 128456789012 ∷ 0 ∷ 0 ∷ []) ∷ (3 ∷ 7 ∷ 128456789012 ∷ 0 ∷ 0 ∷ []) ∷ (3 ∷ 7 ∷ 128456789012 ∷ 0 ∷ 0 ∷ []) ∷ (3 ∷ 7 ∷ 128456789012 ∷ 0 ∷ 0 ∷ []) ∷ (0 ∷ 0 ∷ 128456789012 ∷ 72057594037927936 ∷ 0 ∷ []) ∷ []
unfolding le le_bytes drive_of in_store overlap header_of header_at overlaps_any refusal parameters_refusal record_refusal with_record record_step end_step step_of step_at read_from read_table read_reader tail_of
read_back = refl

-- the bytes held, all 134
pub read_held : map (λ (b : List ℕ). (read_reader b).held) (block 0 0 (68 ∷ 0 ∷ 1 ∷ []) (drive ++ end) ∷ block 0 0 (take 67 drive) end ∷ set (set (block 0 0 [] end) 40 5) 173 6 ∷ [])
    ≡ (68 ∷ 0 ∷ 1 ∷ replicate 131 0) ∷ (take 67 drive ++ replicate 67 0) ∷ ((5 ∷ replicate 132 0) ++ (6 ∷ [])) ∷ []
unfolding read_reader
read_held = refl

-- the drives, by their number of blocks: those of the table's length, and those that the store has room for
--   with its parameters
--   a table's length of 68: the drive, and no end record
--   a table's length of 67: no drive
--   a store of one block less: no drive
pub read-drives : map (λ (b : List ℕ). map (λ (d : Drive). d.blocks) (read_reader b).table.drives) (block 0 0 [] (drive ++ attach 0 ++ end) ∷ set (block 0 0 [] (drive ++ end)) 32 68 ∷ set (block 0 0 [] (drive ++ end)) 32 67 ∷ set (block 0 0 [] (drive ++ end)) 16 19 ∷ [])
    ≡ (5000000000 ∷ replicate 7 0) ∷ (5000000000 ∷ replicate 7 0) ∷ replicate 8 0 ∷ replicate 8 0 ∷ []
unfolding le le_bytes drive_of in_store overlap header_of header_at overlaps_any refusal parameters_refusal record_refusal with_record record_step end_step step_of step_at read_from read_table read_reader tail_of
read-drives = rw drive-good

-- how many bad blocks there are
--   two
--   past the drive's last: none
--   not in order: none
--   behind the drive's parameters: none
pub read-lists : map (λ (b : List ℕ). (read_reader b).table.counts) (block 0 0 [] (drive ++ list ++ end) ∷ block 0 0 [] (drive ++ bads 0 (5000000000 ∷ []) ++ end) ∷ block 0 0 [] (drive ++ bads 0 (7 ∷ 5 ∷ []) ++ end) ∷ block 0 0 [] (drive ++ attach 0 ++ list ++ end) ∷ [])
    ≡ (2 ∷ replicate 7 0) ∷ replicate 3 (replicate 8 0)
unfolding le le_bytes drive_of in_store overlap header_of header_at overlaps_any refusal parameters_refusal bads_refusal record_refusal with_record record_step end_step step_of step_at bad_count bad_length_ok bads_in held_of ascends are_blocks list_ok read_from read_table read_reader tail_of
read-lists = rw drive-good

-- ---- which readers obey the rules

-- refused
--   accepted with a byte held, and refused with a byte held
--   a byte in the last place of those held
pub ruled_more : map accepted (block 2 0 (68 ∷ []) end ∷ block 3 1 (68 ∷ []) end ∷ set (block 0 0 [] end) 173 1 ∷ [])
    ≡ false ∷ false ∷ false ∷ []
unfolding le le_bytes drive_of same in_store overlap header_of header_at overlaps_any refusal parameters_refusal record_refusal with_record record_step end_step step_of step_at record_of geometry_bytes size_bytes name_bytes parameters_record records_of bytes_of table_of image blank_numbers blank_names is_blank sound_to blank_to attached_to listed_to held_of ascends are_blocks list_ok zero_past bads_ok is_sound read_from read_table read_reader rest_zero course_ok accept accepted tail_of tail_bytes zero_tail
ruled_more = refl

-- a reader with a drive, by its store, and by the bytes held and how many they are
abbrev holder : ℕ → List ℕ → ℕ → Feed
holder store held filled = record { table = more empty_table (drive_of drive); store = store; held = held; filled = filled; course = Reading }

--   a store that ends with the drive: true
--   one block less: false
--   three bytes held: true
--   two of them counted: false
--   the whole record of parameters held: false
--   all but its last byte: true
--   a whole record of a bad block held: false
--   all but its last byte: true
--   of sixteen, the longest record: false
--   all but its last byte: true
pub obeying : map accept (holder 128456789012 (replicate 134 0) 0 ∷ holder 128456789011 (replicate 134 0) 0 ∷ holder 128456789012 (padded 134 (68 ∷ 0 ∷ 1 ∷ [])) 3 ∷ holder 128456789012 (padded 134 (68 ∷ 0 ∷ 1 ∷ [])) 2 ∷ holder 128456789012 (padded 134 (attach 0)) 20 ∷ holder 128456789012 (padded 134 (take 19 (attach 0))) 19
    ∷ holder 128456789012 (padded 134 (bads 0 (5 ∷ []))) 14 ∷ holder 128456789012 (padded 134 (take 13 (bads 0 (5 ∷ [])))) 13 ∷ holder 128456789012 (bads 0 sixteen) 134 ∷ holder 128456789012 (padded 134 (take 133 (bads 0 sixteen))) 133 ∷ [])
    ≡ true ∷ false ∷ true ∷ false ∷ false ∷ true ∷ false ∷ true ∷ false ∷ true ∷ []
unfolding le le_bytes drive_of same in_store overlap header_of header_at overlaps_any refusal parameters_refusal bads_refusal bad_count bad_length_ok bads_in record_refusal with_record record_step end_step step_of step_at record_of geometry_bytes size_bytes name_bytes parameters_record records_of bytes_of table_of image blank_numbers blank_names is_blank sound_to blank_to attached_to listed_to held_of ascends are_blocks list_ok zero_past bads_ok is_sound read_from read_table read_reader rest_zero course_ok accept accepted tail_of tail_bytes zero_tail
obeying = rw drive-good
