-- Document 01, "Forms we want to see": for every case of an answer, the paper's number and values. 0 stands before the values of a call
-- that was done, a refusal's number stands for itself, and 256 says that there is nothing to hand out yet.
-- Assumes nothing.
use Rattle.std.specs.Prelude.{ℕ, ◌+◌, ◌-◌, ◌*◌, ◌/◌, ◌%◌, min, Bool, true, false, not, List, [], ◌∷◌, get_or, leb, ltb, eqb, Ok, Err, Option, Some, None}
use Rattle.logic.specs.Logic.{pick, both, either}
use Rattle.memory.specs.Window.{window_of}
use Rattle.attached.specs.Bad.{good}
use Rattle.table.specs.declared.Table.{Table}
use Rattle.table.specs.Table.{parameters_to, table_numbers, write_numbers, number as table_number}
use Rattle.int13.specs.declared.Registers.{Registers}
use Rattle.int13.specs.Answers.{ah, al, is_sectors, nothing_yet, register_numbers}
use Rattle.int13.specs.Steps.{bads_of}
use Rattle.int13.specs.Numbers.{begin_given}
use Rattle.desk.specs.declared.Stage.{Stage}
use Rattle.desk.specs.declared.Stage.TheVariants.{Vacant, Waiting, Finished}
use Rattle.desk.specs.declared.Desk.{Desk}
use Rattle.desk.specs.Parts.{stage_at}
use Rattle.desk.specs.Acceptable.{accept}
use Rattle.desk.specs.Calls.{OpenAnswer, WriteAnswer, PostAnswer, TurnAnswer, CollectAnswer, WithdrawAnswer, PlaceAnswer, number, is_lent, first_waiting}

-- ---- "Forms we want to see": the answers as numbers

-- open as numbers: 0, or the table's number and the place
unfoldable pub open_numbers : OpenAnswer → List ℕ
open_numbers (Ok x) = 0 ∷ []
open_numbers (Err e) = table_number e.refusal ∷ e.place ∷ []

-- write as numbers: 0 and how many bytes, or the house number
unfoldable pub written_numbers : WriteAnswer → List ℕ
written_numbers (Ok n) = 0 ∷ n ∷ []
written_numbers (Err e) = number e ∷ []

-- post as numbers: 0 and the registers, 256 where the row waits, or the house number
unfoldable pub post_numbers : PostAnswer → List ℕ
post_numbers (Ok (Some r)) = 0 ∷ register_numbers r
post_numbers (Ok None) = nothing_yet ∷ []
post_numbers (Err e) = number e ∷ []

-- turn as numbers: 0, the guest and the number moved, 256 where idle, or the house number
unfoldable pub turn_numbers : TurnAnswer → List ℕ
turn_numbers (Ok (Some s)) = 0 ∷ s.guest ∷ s.moved ∷ []
turn_numbers (Ok None) = nothing_yet ∷ []
turn_numbers (Err e) = number e ∷ []

-- collect as numbers: 0 and the registers, or the house number
unfoldable pub collect_numbers : CollectAnswer → List ℕ
collect_numbers (Ok r) = 0 ∷ register_numbers r
collect_numbers (Err e) = number e ∷ []

-- withdraw as numbers: 0 and the registers, or the house number
unfoldable pub withdraw_numbers : WithdrawAnswer → List ℕ
withdraw_numbers (Ok r) = 0 ∷ register_numbers r
withdraw_numbers (Err e) = number e ∷ []

-- place as numbers: 0, or the house number
unfoldable pub place_numbers : PlaceAnswer → List ℕ
place_numbers (Ok x) = 0 ∷ []
place_numbers (Err e) = number e ∷ []

-- ---- "Calls the host makes", the numbers that each call gives, in the paper's order and as they are printed there

-- 25 for a desk block that is not acceptable, 24 for other lengths than the opening's, 20 for guest 8 or more; then the call's own
abbrev pub house_first : Bool → Bool → Bool → List ℕ → List ℕ
house_first acceptable lent guest own = pick (not acceptable) (25 ∷ []) (pick (not lent) (24 ∷ []) (pick (not guest) (20 ∷ []) own))

-- open: 0, or the table's number and place, read for a store of floor(length / 512) blocks
unfoldable pub open_given : List ℕ → ℕ → List ℕ
open_given t store = table_numbers t (store / 512)

-- write: 25; then 19 for a buffer that is shorter than the table, or 0 and its length
unfoldable pub write_given : Desk → ℕ → List ℕ
write_given d room = house_first (accept d) true true (write_numbers d.table room)

-- the numbers of a post by those of its steps: a call that waits says no more than that
abbrev pub post_steps_given : List ℕ → List ℕ
post_steps_given [] = []
post_steps_given (n ∷ values) = pick (eqb n 256) (256 ∷ []) (n ∷ values)

-- a vacant row goes through the steps, in the guest's own window of floor(arena / 8) bytes; any other is 21
abbrev pub post_row_given : Desk → ℕ → Registers → List ℕ → Stage → List ℕ
post_row_given d g r arena Vacant = post_steps_given (begin_given d.table (get_or d.placed g false) r (window_of arena g (d.arena / 8)))
post_row_given d g r arena (Waiting q) = 21 ∷ []
post_row_given d g r arena (Finished x) = 21 ∷ []

-- post: 25, 24, 20, then the row
unfoldable pub post_given : Desk → ℕ → Registers → List ℕ → List ℕ → List ℕ
post_given d g r arena store = house_first (accept d) (is_lent d arena store) (ltb g 8) (post_row_given d g r arena (stage_at d g))

-- 0, the guest and the next 16 blocks, or what remains if fewer, or of those the ones before the first bad block of the drive
abbrev pub turn_row_given : Table → ℕ → Stage → List ℕ
turn_row_given b g Vacant = 256 ∷ []
turn_row_given b g (Waiting q) = 0 ∷ g ∷ good (bads_of b q.job.drive) (q.job.start + q.moved) (min 16 (q.job.count - q.moved)) ∷ []
turn_row_given b g (Finished r) = 256 ∷ []

-- of the first waiting row at or after the pointer; 256 where no row waits
abbrev pub turn_next_given : Desk → Option ℕ → List ℕ
turn_next_given d None = 256 ∷ []
turn_next_given d (Some g) = turn_row_given d.table g (stage_at d g)

-- turn: 25, 24, then the row
unfoldable pub turn_given : Desk → List ℕ → List ℕ → List ℕ
turn_given d arena store = house_first (accept d) (is_lent d arena store) true (turn_next_given d (first_waiting d.rows 8 d.pointer))

-- 0 and the finished registers; any other row is 22
abbrev pub collect_row_given : Stage → List ℕ
collect_row_given Vacant = 22 ∷ []
collect_row_given (Waiting q) = 22 ∷ []
collect_row_given (Finished r) = 0 ∷ r.ax ∷ r.bx ∷ r.cx ∷ r.dx ∷ r.ds ∷ r.si ∷ r.es ∷ pick r.carry 1 0 ∷ []

-- collect: 25, 20, then the row
unfoldable pub collect_given : Desk → ℕ → List ℕ
collect_given d g = house_first (accept d) true (ltb g 8) (collect_row_given (stage_at d g))

-- 80h in AH, the blocks moved in AL for 02h and 03h, the other registers as posted, carry set
abbrev pub withdrawn_numbers : ℕ → Registers → List ℕ
withdrawn_numbers moved r = 0 ∷ (256 * 0x80 + pick (is_sectors (ah r)) moved (al r)) ∷ r.bx ∷ r.cx ∷ r.dx ∷ r.ds ∷ r.si ∷ r.es ∷ 1 ∷ []

-- of a waiting row; any other is 23
abbrev pub withdraw_row_given : Stage → List ℕ
withdraw_row_given Vacant = 23 ∷ []
withdraw_row_given (Waiting q) = withdrawn_numbers q.moved q.job.registers
withdraw_row_given (Finished r) = 23 ∷ []

-- withdraw: 25, 24, 20, then the row
unfoldable pub withdraw_given : Desk → ℕ → List ℕ → List ℕ → List ℕ
withdraw_given d g arena store = house_first (accept d) (is_lent d arena store) (ltb g 8) (withdraw_row_given (stage_at d g))

-- 26 where the address is no multiple of 16, its n tables of 16 bytes end past a window of M bytes (with none, the address is past it), or the
-- segment of the last is above FFFFh; else 0
abbrev pub place_tests_given : ℕ → ℕ → ℕ → List ℕ
place_tests_given n M address =
    pick (both (eqb (address % 16) 0) (both (leb (address + 16 * n) M) (either (eqb n 0) (leb (address / 16 + n) 0x10000)))) (0 ∷ []) (26 ∷ [])

-- 21 for a row that waits; then the place
abbrev pub place_row_given : Desk → ℕ → Stage → List ℕ
place_row_given d address Vacant = place_tests_given (parameters_to 8 d.table) (d.arena / 8) address
place_row_given d address (Waiting q) = 21 ∷ []
place_row_given d address (Finished r) = place_tests_given (parameters_to 8 d.table) (d.arena / 8) address

-- place: 25, 24, 20, then the row, then the place
unfoldable pub place_given : Desk → ℕ → ℕ → List ℕ → List ℕ → List ℕ
place_given d g address arena store = house_first (accept d) (is_lent d arena store) (ltb g 8) (place_row_given d address (stage_at d g))
