-- Document 01, "Calls the host makes" and "Numbers given back", and document 02, 2026-01 and 2026-04: what each call answers, and the desk, arena
-- and store it leaves.
-- Assumes nothing.
use Rattle.std.specs.Prelude.{ℕ, zero, suc, ◌+◌, ◌-◌, ◌/◌, min, ◌≡◌, Bool, true, false, not, List, length, replicate, leb, ltb, eqb, Result, Ok, Err, Option, Some, None}
use Rattle.std.proofs.lemmas.List.Edits.{sets}
use Rattle.logic.specs.Logic.{pick, both}
use Rattle.memory.specs.Window.{guests, window_of, with_window}
use Rattle.memory.specs.Blocks.{block_length, blocks}
use Rattle.attached.specs.declared.Bads.{Bads}
use Rattle.attached.specs.Bad.{good}
use Rattle.table.specs.declared.Table.{Table}
use Rattle.table.specs.declared.Refused.{Refused}
use Rattle.table.specs.declared.ShortBuffer.{ShortBuffer}
use Rattle.table.specs.Table.{empty_table, read_table, write_answer, write_out, short_buffer as too_short}
use Rattle.int13.specs.declared.Registers.{Registers}
use Rattle.int13.specs.declared.Outcome.{Outcome}
use Rattle.int13.specs.declared.Outcome.TheVariants.{Answered, Waits}
use Rattle.int13.specs.Answers.{ended, withdraw}
use Rattle.int13.specs.Placement.{tables_of, table_count}
use Rattle.int13.specs.Steps.{fed, bads_of, begin}
use Rattle.int13.specs.Alone.{Memory, store_block, moves, reported, ended_window}
use Rattle.desk.specs.declared.Request.{Request}
use Rattle.desk.specs.declared.Stage.{Stage}
use Rattle.desk.specs.declared.Stage.TheVariants.{Vacant, Waiting, Finished}
use Rattle.desk.specs.declared.Row.{Row}
use Rattle.desk.specs.declared.Desk.{Desk}
use Rattle.desk.specs.declared.Service.{Service}
use Rattle.desk.specs.declared.Served.{Served}
use Rattle.desk.specs.declared.After.{After}
use Rattle.desk.specs.declared.HouseNumber.{HouseNumber}
use Rattle.desk.specs.declared.HouseNumber.TheVariants.{NoGuest, NotVacant, NotFinished, NotWaiting, OtherLength, NotAcceptable, BadPlace, ShortBuffer as NoRoom}
use Rattle.desk.specs.Parts.{window_size, own_window, with_own, vacant_row, stage_in, stage_at, with_stage, is_waiting, next, with_pointer, placement_at, with_placement}
use Rattle.desk.specs.Acceptable.{turn_blocks, place_ok, accept}

-- ---- "Numbers given back": the house numbers, and the tests that come before the row's in every call

-- house number 25: desk block not acceptable
abbrev pub not_acceptable : ℕ
not_acceptable = 25

-- house number 24: arena or store length differs from the opening
abbrev pub other_length : ℕ
other_length = 24

-- house number 20: guest is 8 or more
abbrev pub no_guest : ℕ
no_guest = 20

-- house number 21: post to a row that is not vacant; placing for a row that waits
abbrev pub not_vacant : ℕ
not_vacant = 21

-- house number 22: collect, row not finished
abbrev pub not_finished : ℕ
not_finished = 22

-- house number 23: withdraw, row not waiting
abbrev pub not_waiting : ℕ
not_waiting = 23

-- house number 26: a bad place for parameter tables (document 02, 2026-01)
abbrev pub bad_place : ℕ
bad_place = 26

-- 19: the buffer is shorter than the table that write lays out
abbrev pub short_buffer : ℕ
short_buffer = too_short

-- the number of a refusal
abbrev pub number : HouseNumber → ℕ
number NoGuest = no_guest
number NotVacant = not_vacant
number NotFinished = not_finished
number NotWaiting = not_waiting
number OtherLength = other_length
number NotAcceptable = not_acceptable
number BadPlace = bad_place
number NoRoom = short_buffer

-- ---- what each call answers

-- an opening: nothing, or the table's refusal
abbrev pub OpenAnswer : Type 0
OpenAnswer = Result Unit Refused

-- a write: the table's length
abbrev pub WriteAnswer : Type 0
WriteAnswer = Result ℕ HouseNumber

-- a post: the registers of a call that is answered at once, or none: it waits
abbrev pub PostAnswer : Type 0
PostAnswer = Result (Option Registers) HouseNumber

-- a turn: the guest that is served and the blocks moved, or nobody: it is idle
abbrev pub TurnAnswer : Type 0
TurnAnswer = Result (Option Served) HouseNumber

-- a collect: the finished registers
abbrev pub CollectAnswer : Type 0
CollectAnswer = Result Registers HouseNumber

-- a withdrawal: the registers given back
abbrev pub WithdrawAnswer : Type 0
WithdrawAnswer = Result Registers HouseNumber

-- a placing: nothing
abbrev pub PlaceAnswer : Type 0
PlaceAnswer = Result Unit HouseNumber

-- ---- the tests that come before the row's

-- 25, then 24, then 20: the first test that fails is the answer. A call that is lent no arena and store, or names no guest, passes that test
abbrev pub house_tests : {A : Type 0} → Bool → Bool → Bool → (HouseNumber → A) → A → A
house_tests acceptable lent guest refused passed =
    pick (not acceptable) (refused NotAcceptable)
    (pick (not lent) (refused OtherLength)
    (pick (not guest) (refused NoGuest)
    passed))

-- the number that they give, 0 where all pass
unfoldable pub house_number : Bool → Bool → Bool → ℕ
house_number acceptable lent guest = house_tests acceptable lent guest number 0

-- their answer, where nothing follows
unfoldable pub house_answer : Bool → Bool → Bool → Result Unit HouseNumber
house_answer acceptable lent guest = house_tests acceptable lent guest Err (Ok tt)

-- the number of an answer, 0 where it is no refusal
abbrev pub number_of : {A : Type 0} → Result A HouseNumber → ℕ
number_of (Ok x) = 0
number_of (Err e) = number e

-- arena and store have the lengths of the opening
abbrev pub is_lent : Desk → List ℕ → List ℕ → Bool
is_lent d arena store = both (eqb (length arena) d.arena) (eqb (length store) d.store)

-- what a call leaves: the desk, its answer, and the arena and store that were lent
pub record Done (A : Type 0) : Type 0 where
  pub desk : Desk
  pub answer : A
  pub arena : List ℕ
  pub store : List ℕ

-- a refusal is done with the desk, the arena and the store that it was given
abbrev pub done : {A : Type 0} → Desk → A → List ℕ → List ℕ → Done A
done d x arena store = record { desk = d; answer = x; arena = arena; store = store }

-- ---- open

-- all rows start vacant, the pointer at 0, no guest with placement
abbrev pub opened : Table → ℕ → ℕ → Desk
opened b arena store =
    record {
      rows = replicate guests vacant_row;
      pointer = 0;
      table = b;
      arena = arena;
      store = store;
      placed = replicate guests false;
      addresses = replicate guests 0;
    }

-- no desk to go on with: its pointer is no guest's, so that every call at it is 25
abbrev pub closed : ℕ → ℕ → Desk
closed arena store = with_pointer (opened empty_table arena store) guests

-- a table that is accepted gives an opened desk; a refused one gives a desk that is of no use
abbrev pub open_desk : OpenAnswer → Table → ℕ → ℕ → Desk
open_desk (Ok x) b arena store = opened b arena store
open_desk (Err e) b arena store = closed arena store

-- open takes table bytes, arena length and store length; the table is read for a store of floor(length / 512) blocks.
-- It answers as the table does: nothing, or the table's refusal with the place of the record
unfoldable pub open_of : List ℕ → ℕ → ℕ → After OpenAnswer
open_of t arena store =
    record {
      desk = open_desk (read_table t (store / block_length)).answer (read_table t (store / block_length)).table arena store;
      answer = (read_table t (store / block_length)).answer;
    }

-- ---- write

-- a table's answer as the desk's
abbrev pub table_written : Result ℕ ShortBuffer → WriteAnswer
table_written (Ok n) = Ok n
table_written (Err e) = Err NoRoom

-- write: 25, then the table's own answer, which is its length or 19
unfoldable pub written_of : Desk → ℕ → WriteAnswer
written_of d room = house_tests (accept d) true true Err (table_written (write_answer d.table room))

-- the buffer after a write; a refusal leaves it as it was
unfoldable pub written_out : Desk → List ℕ → List ℕ
written_out d out = house_tests (accept d) true true (λ e. out) (write_out d.table out)

-- ---- post

-- by what the steps make of it: answered at once the row stays vacant, else it waits with no block moved
abbrev pub post_checked : Desk → ℕ → List ℕ → List ℕ → Outcome → List ℕ → Done PostAnswer
post_checked d g arena store (Answered r) w = record { desk = d; answer = Ok (Some r); arena = with_window arena g (window_size d) w; store = store }
post_checked d g arena store (Waits j) w =
    record { desk = with_stage d g (Waiting (record { job = j; moved = 0 })); answer = Ok None; arena = with_window arena g (window_size d) w; store = store }

-- a post to a vacant row goes through the steps, on the table, the guest's placement and its own window
abbrev pub post_vacant : Desk → ℕ → Registers → List ℕ → List ℕ → Done PostAnswer
post_vacant d g r arena store =
    post_checked d g arena store
    (begin (fed d.table (placement_at d g)) r (window_of arena g (window_size d))).outcome
    (begin (fed d.table (placement_at d g)) r (window_of arena g (window_size d))).window

-- 21 for a row that is not vacant, whatever the function
abbrev pub post_row : Desk → ℕ → Registers → List ℕ → List ℕ → Stage → Done PostAnswer
post_row d g r arena store Vacant = post_vacant d g r arena store
post_row d g r arena store (Waiting q) = done d (Err NotVacant) arena store
post_row d g r arena store (Finished x) = done d (Err NotVacant) arena store

-- post, in the order of the house numbers: 25, 24, 20, then the row
unfoldable pub post_of : Desk → ℕ → Registers → List ℕ → List ℕ → Done PostAnswer
post_of d g r arena store = house_tests (accept d) (is_lent d arena store) (ltb g guests) (λ e. done d (Err e) arena store)
    (post_row d g r arena store (stage_at d g))

-- ---- turn

-- the first waiting row among k, from guest g on
unfoldable pub first_waiting : List Row → ℕ → ℕ → Option ℕ
first_waiting rows zero g = None
first_waiting rows (suc k) g = pick (is_waiting (stage_in rows g)) (Some g) (first_waiting rows k (next g))

-- ---- what a turn does to a request

-- the next 16 blocks, or what remains if fewer
abbrev pub quota : Request → ℕ
quota q = min turn_blocks (q.job.count - q.moved)

-- the request with k more blocks moved
abbrev pub later : Request → ℕ → Request
later q k = record { job = q.job; moved = q.moved + k }

-- the blocks that it moves now: all of those, or where it reaches a bad block "the good ones before it" (document 02, 2026-04); l are the bad blocks
-- of its drive
unfoldable pub moves_now : Bads → Request → ℕ
moves_now l q = good l (q.job.start + q.moved) (quota q)

-- k moved, it goes on waiting: it met no bad block, and more remain
abbrev pub goes_on : Request → ℕ → Bool
goes_on q k = both (leb (quota q) k) (ltb (q.moved + k) q.job.count)

-- the stage of the row after k blocks: finished when all are moved, or at a bad block, with the blocks moved in the whole request
unfoldable pub stage_after : Request → ℕ → Stage
stage_after q k = pick (goes_on q k) (Waiting (later q k)) (Finished (ended q.job.count (q.moved + k) q.job.registers))

-- the blocks that it moves now, and the stage of the row after it
abbrev pub service_of : Bads → Request → Service
service_of l q = record { moved = moves_now l q; stage = stage_after q (moves_now l q) }

-- what it writes in the window after the data: at a bad block the count word, else nothing
abbrev pub beside : Request → ℕ → List ℕ → List ℕ
beside q k w = pick (goes_on q k) w (ended_window q.job (q.moved + k) w)

-- what a turn works on: the served guest's window and the store
abbrev pub memory_of : Desk → ℕ → List ℕ → List ℕ → Memory
memory_of d g arena store = record { window = window_of arena g (window_size d); store = store }

-- the bad blocks of a request's drive
abbrev pub bads_for : Desk → Request → Bads
bads_for d q = bads_of d.table q.job.drive

-- window and store after the turn has moved k blocks
abbrev pub moved_by : Desk → ℕ → Request → ℕ → List ℕ → List ℕ → Memory
moved_by d g q k arena store = moves q.job (store_block d.table q.job) q.moved k (memory_of d g arena store)

-- k blocks between a place of guest g's window and a place of the store: what arena and store hold then
abbrev pub Copied : Bool → ℕ → ℕ → ℕ → ℕ → List ℕ → List ℕ → List ℕ → List ℕ → Type 0
Copied write g at place k arena store arena' store' =
    (arena' ≡ pick write arena (with_own arena g (blocks (own_window arena g) at store place k)))
    × (store' ≡ pick write (blocks store place (own_window arena g) at k) store)

-- the next k blocks of a request on a drive whose first store block is `first`: what arena and store hold then
abbrev pub moved_from : ℕ → Request → ℕ → ℕ → List ℕ → List ℕ → Memory
moved_from first q k g arena store = moves q.job (first + q.job.start) q.moved k (record { window = own_window arena g; store = store })

-- what a transfer leaves: the guest's window in the arena, and the store, after k blocks have moved
abbrev pub Transferred : ℕ → Request → ℕ → ℕ → List ℕ → List ℕ → List ℕ → List ℕ → Type 0
Transferred first q k g arena store arena' store' =
    (arena' ≡ with_own arena g (moved_from first q k g arena store).window) × (store' ≡ (moved_from first q k g arena store).store)

-- a turn that moves k blocks for guest g: it answers the guest and their number, and the pointer becomes g plus 1, modulo 8
abbrev pub serve_by : Desk → ℕ → Request → ℕ → List ℕ → List ℕ → Done TurnAnswer
serve_by d g q k arena store =
    record {
      desk = with_pointer (with_stage d g (stage_after q k)) (next g);
      answer = Ok (Some (record { guest = g; moved = k }));
      arena = with_window arena g (window_size d) (beside q k (moved_by d g q k arena store).window);
      store = (moved_by d g q k arena store).store;
    }

-- a turn that serves guest g
abbrev pub serve : Desk → ℕ → Request → List ℕ → List ℕ → Done TurnAnswer
serve d g q arena store = serve_by d g q (moves_now (bads_for d q) q) arena store

-- only a waiting row is served; the search finds no other, so the other two clauses are never met
abbrev pub serve_stage : Desk → ℕ → Stage → List ℕ → List ℕ → Done TurnAnswer
serve_stage d g Vacant arena store = done d (Ok None) arena store
serve_stage d g (Waiting q) arena store = serve d g q arena store
serve_stage d g (Finished r) arena store = done d (Ok None) arena store

-- with no row waiting a turn answers idle, and nothing changes
abbrev pub turn_next : Desk → Option ℕ → List ℕ → List ℕ → Done TurnAnswer
turn_next d None arena store = done d (Ok None) arena store
turn_next d (Some g) arena store = serve_stage d g (stage_at d g) arena store

-- turn: 25, 24, then the first waiting row at or after the pointer
unfoldable pub turn_of : Desk → List ℕ → List ℕ → Done TurnAnswer
turn_of d arena store =
    house_tests (accept d) (is_lent d arena store) true (λ e. done d (Err e) arena store)
    (turn_next d (first_waiting d.rows guests d.pointer) arena store)

-- ---- collect

-- a finished row hands out its registers and becomes vacant; any other row is 22
abbrev pub collect_stage : Desk → ℕ → Stage → List ℕ → List ℕ → Done CollectAnswer
collect_stage d g Vacant arena store = done d (Err NotFinished) arena store
collect_stage d g (Waiting q) arena store = done d (Err NotFinished) arena store
collect_stage d g (Finished r) arena store = done (with_stage d g Vacant) (Ok r) arena store

-- it is lent no arena and no store, which stay whatever they are
unfoldable pub collect_of : Desk → ℕ → List ℕ → List ℕ → Done CollectAnswer
collect_of d g arena store =
    house_tests (accept d) true (ltb g guests) (λ e. done d (Err e) arena store)
    (collect_stage d g (stage_at d g) arena store)

-- ---- withdraw

-- blocks moved are written to the packet's count word; for 02h and 03h they are in AL
abbrev pub withdrawn_window : Request → List ℕ → List ℕ
withdrawn_window q w = reported q.job q.moved w

-- a waiting request ends with carry set and AH = 80h, and its row becomes vacant; any other row is 23
abbrev pub withdraw_stage : Desk → ℕ → Stage → List ℕ → List ℕ → Done WithdrawAnswer
withdraw_stage d g Vacant arena store = done d (Err NotWaiting) arena store
withdraw_stage d g (Waiting q) arena store =
    record {
      desk = with_stage d g Vacant;
      answer = Ok (withdraw q.moved q.job.registers);
      arena = with_window arena g (window_size d) (withdrawn_window q (window_of arena g (window_size d)));
      store = store;
    }
withdraw_stage d g (Finished r) arena store = done d (Err NotWaiting) arena store

-- withdraw: 25, 24, 20, then the row
unfoldable pub withdraw_of : Desk → ℕ → List ℕ → List ℕ → Done WithdrawAnswer
withdraw_of d g arena store = house_tests (accept d) (is_lent d arena store) (ltb g guests) (λ e. done d (Err e) arena store)
    (withdraw_stage d g (stage_at d g) arena store)

-- ---- place (document 02, 2026-01)

-- all tables laid in a window from an address on
abbrev pub tables_in : Table → ℕ → List ℕ → List ℕ
tables_in b address w = sets w address (tables_of b)

-- 26 for a bad place; else all tables stand in the guest's window, in place of any placement before, whose bytes stay
abbrev pub place_tables : Desk → ℕ → ℕ → List ℕ → List ℕ → Done PlaceAnswer
place_tables d g address arena store =
    pick (place_ok (table_count d.table) (window_size d) address)
    (record {
      desk = with_placement d g address;
      answer = Ok tt;
      arena = with_window arena g (window_size d) (tables_in d.table address (window_of arena g (window_size d)));
      store = store;
    })
    (done d (Err BadPlace) arena store)

-- "A waiting row refuses placement": 21, before the place is looked at; a finished row does not
abbrev pub place_stage : Desk → ℕ → ℕ → Stage → List ℕ → List ℕ → Done PlaceAnswer
place_stage d g address Vacant arena store = place_tables d g address arena store
place_stage d g address (Waiting q) arena store = done d (Err NotVacant) arena store
place_stage d g address (Finished r) arena store = place_tables d g address arena store

-- place: 25, 24, 20, then the row, then the place
unfoldable pub place_of : Desk → ℕ → ℕ → List ℕ → List ℕ → Done PlaceAnswer
place_of d g address arena store = house_tests (accept d) (is_lent d arena store) (ltb g guests) (λ e. done d (Err e) arena store)
    (place_stage d g address (stage_at d g) arena store)
