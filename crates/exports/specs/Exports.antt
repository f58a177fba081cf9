-- Document 01, "Forms we want to see": the calls for C over desk block, arena and store slices, of which each call is lent those that it
-- needs. Each is document 01's call at the desk whose image the block is; those of the reader of fragments (document 02, 2026-03) are over a
-- reader block, and the converters (2026-06) over records. What stands behind a pointer afterwards is a value of the answer, or what stood there.
-- Assumes nothing.
use Rattle.std.specs.Prelude.{ℕ, ◌/◌, false, Ok, Err, Some, None, List, [], ◌∷◌, length, get_or, eqb}
use Rattle.logic.specs.Logic.{pick}
use Rattle.chs.specs.declared.Geometry.{Geometry}
use Rattle.chs.specs.declared.Address.{Address}
use Rattle.chs.specs.Chs.{block_of, address_of, block_numbers, address_numbers}
use Rattle.memory.specs.Window.{window_length, span_start, span_length}
use Rattle.memory.specs.Blocks.{block_length}
use Rattle.table.specs.Table.{written_numbers, write_answer, write_out}
use Rattle.int13.specs.declared.Registers.{Registers}
use Rattle.int13.specs.Answers.{nothing_yet}
use Rattle.desk.specs.declared.Desk.{Desk}
use Rattle.desk.specs.Calls.{Done, OpenAnswer, PostAnswer, TurnAnswer, CollectAnswer, WithdrawAnswer, PlaceAnswer, not_acceptable, open_of, written_of, written_out, post_of, turn_of, collect_of, withdraw_of, place_of}
use Rattle.desk.specs.Numbers.{open_numbers, written_numbers as house_written_numbers, post_numbers, turn_numbers, collect_numbers, withdraw_numbers, place_numbers}
use Rattle.image.specs.Image.{desk_size, desk_of, laid}
use Rattle.feed.specs.declared.Feed.{Feed}
use Rattle.feed.specs.declared.Fed.{Fed}
use Rattle.feed.specs.declared.Fed.TheVariants.{More, Accepted as FedAccepted, Refused as FedRefused}
use Rattle.feed.specs.Feed.{opened, feed_all, end_feed, answer_of, fed_numbers}
use Rattle.convert.specs.Convert.{up_answer, up_out, down_answer, down_out, conversion_number}
use Rattle.reader.specs.Reader.{reader_size, read_reader, accepted as reader_accepted, laid as reader_laid}

-- ---- the version, ours and in no paper: a block is for the library of its version, since a change request may give it another form

-- 1 is the base; each change request that a program can see adds 1: 2 has 2026-01, 3 has 2026-02, 4 has 2026-03, 5 has 2026-04, 6 has
-- 2026-06
abbrev pub version : ℕ
version = 6

-- what a call leaves: the number that it returns and the values behind its pointers, in the order of its parameters; and the bytes of each
-- slice that was lent for change, in that order
pub record Effect : Type 0 where
  pub numbers : List ℕ
  pub slices : List (List ℕ)

-- the two lists of an effect
abbrev pub effect : List ℕ → List (List ℕ) → Effect
effect numbers slices = record { numbers = numbers; slices = slices }

-- an answer's numbers over those that stood there, which stay where the answer has none
unfoldable pub over : List ℕ → List ℕ → List ℕ
over ns [] = []
over [] (x ∷ xs) = x ∷ xs
over (n ∷ ns) (x ∷ xs) = n ∷ over ns xs

-- ---- open: "a desk block of another size is 25, first"; "Refused, it changes nothing", and only a table's refusal has a place

-- an opening that passed lays its desk out in the block; refused, it changes nothing
abbrev pub open_block : List ℕ → Desk → OpenAnswer → List ℕ
open_block b d (Ok x) = laid b d
open_block b d (Err e) = b

-- open: 25 for a block of another size, before the table is looked at; the place is written only where the table is refused
unfoldable pub open_call : List ℕ → List ℕ → ℕ → ℕ → ℕ → Effect
open_call b t arena store place =
    pick (eqb (length b) desk_size)
    (effect
    (over (open_numbers (open_of t arena store).answer) (0 ∷ place ∷ []))
    (open_block b (open_of t arena store).desk (open_of t arena store).answer ∷ []))
    (effect (not_acceptable ∷ place ∷ []) (b ∷ []))

-- ---- write

-- write at the desk of the block: the length written where it was done, and the buffer
unfoldable pub write_call : List ℕ → List ℕ → ℕ → Effect
write_call b out written =
    effect (over (house_written_numbers (written_of (desk_of b) (length out))) (0 ∷ written ∷ [])) (written_out (desk_of b) out ∷ [])

-- ---- post: the block changes only where the row waits

-- the block after a post: only a row that waits changes it
abbrev pub post_block : List ℕ → Done PostAnswer → PostAnswer → List ℕ
post_block b o (Ok (Some r)) = b
post_block b o (Ok None) = laid b o.desk
post_block b o (Err e) = b

-- registers as they come from C: carry's value is never read
abbrev pub given : ℕ → ℕ → ℕ → ℕ → ℕ → ℕ → ℕ → Registers
given ax bx cx dx ds si es = record { ax = ax; bx = bx; cx = cx; dx = dx; ds = ds; si = si; es = es; carry = false }

-- AX, BX, CX, DX and carry of an answer's numbers; DS, SI and ES are passed by value
abbrev pub changed : List ℕ → ℕ → ℕ → ℕ → ℕ → ℕ → List ℕ
changed ns ax bx cx dx carry = get_or ns 0 0 ∷ get_or ns 1 ax ∷ get_or ns 2 bx ∷ get_or ns 3 cx ∷ get_or ns 4 dx ∷ get_or ns 8 carry ∷ []

-- a post leaves the answer's registers where there is an answer, the block and the arena
abbrev pub post_effect : List ℕ → Done PostAnswer → ℕ → ℕ → ℕ → ℕ → ℕ → Effect
post_effect b o ax bx cx dx carry = effect (changed (post_numbers o.answer) ax bx cx dx carry) (post_block b o o.answer ∷ o.arena ∷ [])

-- post at the desk of the block, with the registers as C gives them
unfoldable pub post_call : List ℕ → List ℕ → List ℕ → ℕ → ℕ → ℕ → ℕ → ℕ → ℕ → ℕ → ℕ → ℕ → Effect
post_call b arena store guest ax bx cx dx ds si es carry =
    post_effect b (post_of (desk_of b) guest (given ax bx cx dx ds si es) arena store) ax bx cx dx carry

-- ---- turn: the block changes only where a row is served

-- the block after a turn: only a served row changes it
abbrev pub turn_block : List ℕ → Done TurnAnswer → TurnAnswer → List ℕ
turn_block b o (Ok (Some s)) = laid b o.desk
turn_block b o (Ok None) = b
turn_block b o (Err e) = b

-- a turn leaves the guest and the number moved where a row was served, the block, the arena and the store
abbrev pub turn_effect : List ℕ → Done TurnAnswer → ℕ → ℕ → Effect
turn_effect b o guest moved = effect (over (turn_numbers o.answer) (0 ∷ guest ∷ moved ∷ [])) (turn_block b o o.answer ∷ o.arena ∷ o.store ∷ [])

-- turn at the desk of the block
unfoldable pub turn_call : List ℕ → List ℕ → List ℕ → ℕ → ℕ → Effect
turn_call b arena store guest moved = turn_effect b (turn_of (desk_of b) arena store) guest moved

-- ---- collect: lent no arena and no store

-- the block after a collect: only registers handed out change it
abbrev pub collect_block : List ℕ → Done CollectAnswer → CollectAnswer → List ℕ
collect_block b o (Ok r) = laid b o.desk
collect_block b o (Err e) = b

-- a collect leaves the eight registers where they were handed out, and the block
abbrev pub collect_effect : List ℕ → Done CollectAnswer → List ℕ → Effect
collect_effect b o stood = effect (over (collect_numbers o.answer) (0 ∷ stood)) (collect_block b o o.answer ∷ [])

-- collect at the desk of the block; it is lent no arena and no store
unfoldable pub collect_call : List ℕ → ℕ → List ℕ → Effect
collect_call b guest stood = collect_effect b (collect_of (desk_of b) guest [] []) stood

-- ---- withdraw

-- the block after a withdrawal: only one that was done changes it
abbrev pub withdraw_block : List ℕ → Done WithdrawAnswer → WithdrawAnswer → List ℕ
withdraw_block b o (Ok r) = laid b o.desk
withdraw_block b o (Err e) = b

-- a withdrawal leaves the eight registers where it was done, the block and the arena
abbrev pub withdraw_effect : List ℕ → Done WithdrawAnswer → List ℕ → Effect
withdraw_effect b o stood = effect (over (withdraw_numbers o.answer) (0 ∷ stood)) (withdraw_block b o o.answer ∷ o.arena ∷ [])

-- withdraw at the desk of the block
unfoldable pub withdraw_call : List ℕ → List ℕ → List ℕ → ℕ → List ℕ → Effect
withdraw_call b arena store guest stood = withdraw_effect b (withdraw_of (desk_of b) guest arena store) stood

-- ---- place (document 02, 2026-01)

-- the block after a placement: only one that was done changes it
abbrev pub place_block : List ℕ → Done PlaceAnswer → PlaceAnswer → List ℕ
place_block b o (Ok x) = laid b o.desk
place_block b o (Err e) = b

-- a placement leaves its number, the block and the arena
abbrev pub place_effect : List ℕ → Done PlaceAnswer → Effect
place_effect b o = effect (place_numbers o.answer) (place_block b o o.answer ∷ o.arena ∷ [])

-- place at the desk of the block
unfoldable pub place_call : List ℕ → List ℕ → List ℕ → ℕ → ℕ → Effect
place_call b arena store guest address = place_effect b (place_of (desk_of b) guest address arena store)

-- ---- the reader of fragments (document 02, 2026-03): each call is that of the reader whose image the block is; of any other block 25, which
-- changes nothing. A table's refusal is kept in the block

-- open: 25 for a block of another size; the store has its length in bytes divided by 512, whole blocks
unfoldable pub reader_open_call : List ℕ → ℕ → Effect
reader_open_call b store =
    pick (eqb (length b) reader_size) (effect (0 ∷ []) (reader_laid b (opened (store / block_length)) ∷ [])) (effect (not_acceptable ∷ []) (b ∷ []))

-- what is left of a reader that went on: its answer, whose place is written where it is refused, and the block
abbrev pub reader_effect : List ℕ → Feed → ℕ → Effect
reader_effect b f place = effect (over (fed_numbers (answer_of f)) (0 ∷ place ∷ [])) (reader_laid b f ∷ [])

-- feed: a fragment
unfoldable pub reader_feed_call : List ℕ → List ℕ → ℕ → Effect
reader_feed_call b bytes place =
    pick (reader_accepted b) (reader_effect b (feed_all (read_reader b) bytes) place) (effect (not_acceptable ∷ place ∷ []) (b ∷ []))

-- end: the end of input
unfoldable pub reader_end_call : List ℕ → ℕ → Effect
reader_end_call b place =
    pick (reader_accepted b) (reader_effect b (end_feed (read_reader b)) place) (effect (not_acceptable ∷ place ∷ []) (b ∷ []))

-- write: 256 before the end was told, or the number of the refusal; else as a desk's table is written, 19 if the buffer is shorter
unfoldable pub reader_write_effect : Fed → Feed → List ℕ → ℕ → Effect
reader_write_effect More f out written = effect (nothing_yet ∷ written ∷ []) (out ∷ [])
reader_write_effect FedAccepted f out written = effect (over (written_numbers (write_answer f.table (length out))) (0 ∷ written ∷ [])) (write_out f.table out ∷ [])
reader_write_effect (FedRefused n at) f out written = effect (n ∷ written ∷ []) (out ∷ [])

-- of the reader of the block
unfoldable pub reader_write_call : List ℕ → List ℕ → ℕ → Effect
reader_write_call b out written =
    pick (reader_accepted b) (reader_write_effect (answer_of (read_reader b)) (read_reader b) out written) (effect (not_acceptable ∷ written ∷ []) (out ∷ []))

-- ---- the window of a guest in an arena of that length, and CHS addresses

-- start and length of a guest's window in an arena of that length; always 0
unfoldable pub window_call : ℕ → ℕ → Effect
window_call arena guest = effect (0 ∷ span_start arena guest (window_length arena) ∷ span_length arena guest (window_length arena) ∷ []) []

-- 0 and the block of an address, or 4, which is 04h
unfoldable pub block_call : Geometry → Address → ℕ → Effect
block_call g a block = effect (over (block_numbers (block_of g a)) (0 ∷ block ∷ [])) []

-- 0 and the address of a block, or 4, which is 04h
unfoldable pub address_call : Geometry → ℕ → ℕ → ℕ → ℕ → Effect
address_call g block cylinder head sector = effect (over (address_numbers (address_of g block)) (0 ∷ cylinder ∷ head ∷ sector ∷ [])) []

-- ---- document 02, 2026-06: the converters, over the bytes of a record and a buffer

-- to kind 2
unfoldable pub up_call : List ℕ → List ℕ → Effect
up_call bytes out = effect (conversion_number (up_answer bytes (length out)) ∷ []) (up_out bytes out ∷ [])

-- and back
unfoldable pub down_call : List ℕ → List ℕ → Effect
down_call bytes out = effect (conversion_number (down_answer bytes (length out)) ∷ []) (down_out bytes out ∷ [])
