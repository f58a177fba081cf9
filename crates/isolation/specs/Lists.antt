-- Document 01, "The words of demand 3": a list of calls at one desk. "Each gets the desk as the one before left it; nobody else writes it meanwhile."
-- Assumes nothing.
use Rattle.std.specs.Prelude.{ℕ, List, [], ◌∷◌, length, Ok, Err}
use Rattle.int13.specs.declared.Registers.{Registers}
use Rattle.desk.specs.declared.Desk.{Desk}
use Rattle.desk.specs.Calls.{OpenAnswer, WriteAnswer, PostAnswer, TurnAnswer, CollectAnswer, WithdrawAnswer, PlaceAnswer, Done, open_of, written_of, written_out, post_of, turn_of, collect_of, withdraw_of, place_of}

-- ---- "The words of demand 3", one call of the list

-- "Posts, turns, collects, withdrawals, table writes, refused openings and any call at the desk that a change request adds [...], with any
-- arguments": an opening takes table bytes, arena length and store length; a table write its buffer; placing (2026-01) a guest and an address
pub data Op : Type 0 where
  open_table : List ℕ → ℕ → ℕ → Op
  post : ℕ → Registers → Op
  turn : Op
  collect : ℕ → Op
  withdraw : ℕ → Op
  write : List ℕ → Op
  place : ℕ → ℕ → Op

-- a call, with the arena and the store as it finds them: anybody may have written them since the call before. Calls that are lent neither
-- leave them
pub record Call : Type 0 where
  pub op : Op
  pub arena : List ℕ
  pub store : List ℕ

-- what was asked of which guest, and its answer; a table write's with the buffer afterwards, a placement's with its
-- address. An opening that does not come to its table is `unopened`: 25, which only a desk block of another size gives
pub data Answer : Type 0 where
  opening : OpenAnswer → Answer
  unopened : Answer
  posted : ℕ → PostAnswer → Answer
  turned : TurnAnswer → Answer
  collected : ℕ → CollectAnswer → Answer
  withdrawn : ℕ → WithdrawAnswer → Answer
  written : WriteAnswer → List ℕ → Answer
  placed : ℕ → ℕ → PlaceAnswer → Answer

-- what a call leaves
pub record Out : Type 0 where
  pub desk : Desk
  pub answer : Answer
  pub arena : List ℕ
  pub store : List ℕ

-- an opening that passed leaves its own desk; "Refused, it changes nothing"
abbrev pub opened_desk : Desk → Desk → OpenAnswer → Desk
opened_desk d new (Ok u) = new
opened_desk d new (Err e) = d

-- a desk call's result, its answer among those of the list
abbrev pub out_of : {A : Type 0} → (A → Answer) → Done A → Out
out_of f o = record { desk = o.desk; answer = f o.answer; arena = o.arena; store = o.store }

-- each call is the desk's own; an opening and a table write leave arena and store, and a table write the desk too
abbrev pub step_of : Desk → Op → List ℕ → List ℕ → Out
step_of d (open_table t a s) arena store =
    record { desk = opened_desk d (open_of t a s).desk (open_of t a s).answer; answer = opening (open_of t a s).answer; arena = arena; store = store }
step_of d (post g r) arena store = out_of (posted g) (post_of d g r arena store)
step_of d turn arena store = out_of turned (turn_of d arena store)
step_of d (collect g) arena store = out_of (collected g) (collect_of d g arena store)
step_of d (withdraw g) arena store = out_of (withdrawn g) (withdraw_of d g arena store)
step_of d (write out) arena store = record { desk = d; answer = written (written_of d (length out)) (written_out d out); arena = arena; store = store }
step_of d (place g address) arena store = out_of (placed g address) (place_of d g address arena store)

-- what a call leaves at a desk
unfoldable pub step : Desk → Call → Out
step d c = step_of d c.op c.arena c.store

-- ---- "The words of demand 3", the list of calls

-- one call of the list: the desk that it got, and what it left
pub record Event : Type 0 where
  pub desk : Desk
  pub call : Call
  pub out : Out

-- the call c at the desk d
abbrev pub event : Desk → Call → Event
event d c = record { desk = d; call = c; out = step d c }

-- the calls of a list at a desk, one after the other
unfoldable pub run : Desk → List Call → List Event
run d [] = []
run d (c ∷ cs) = event d c ∷ run (step d c).desk cs

-- the desk after them
unfoldable pub after : Desk → List Call → Desk
after d [] = d
after d (c ∷ cs) = after (step d c).desk cs
