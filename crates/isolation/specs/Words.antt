-- Document 01, "The words of demand 3", one by one, in its order; document 02, 2026-04, for the endings at a bad block.
-- Assumes nothing.
use Rattle.std.specs.Prelude.{ℕ, zero, suc, ◌+◌, ◌-◌, ◌*◌, ◌/◌, ◌≤◌, ◌<◌, min, ◌≡◌, ◌⊎◌, true, List, [], ◌∷◌, ◌++◌, eqb, Ok, Err, Some, None}
use Rattle.logic.specs.Logic.{pick}
use Rattle.memory.specs.Window.{guests, window_of}
use Rattle.table.specs.declared.Table.{Table}
use Rattle.int13.specs.declared.Registers.{Registers}
use Rattle.int13.specs.Answers.{ah, is_write}
use Rattle.int13.specs.declared.Placement.{Placement}
use Rattle.int13.specs.Placement.{no_placement, placed_at}
use Rattle.int13.specs.Alone.{store_block}
use Rattle.desk.specs.declared.Request.{Request}
use Rattle.desk.specs.declared.Stage.TheVariants.{Waiting}
use Rattle.desk.specs.declared.Desk.{Desk}
use Rattle.desk.specs.Parts.{stage_at}
use Rattle.desk.specs.Acceptable.{turn_blocks as part_length}
use Rattle.desk.specs.Calls.{not_acceptable, number_of}
use Rattle.isolation.specs.Lists.{post, Call, Answer, opening, unopened, posted, turned, collected, withdrawn, written, placed, step, Event, run, after}

-- ---- "The words of demand 3", the answers; each later word is a clause for each of these

-- what an answer says of its call
pub data Kind : Type 0 where
  -- a house number, or a table's number
  refused : Kind
  -- not refused, and none of the others: a table write
  plain : Kind
  -- an opening that passed
  opens : Kind
  -- a post of a guest: answered at once, or accepted
  answers : ℕ → Kind
  accepts : ℕ → Kind
  -- a turn: the guest served and the number moved, or idle
  serves : ℕ → ℕ → Kind
  idles : Kind
  -- a collect of a guest
  hands : ℕ → Registers → Kind
  -- a withdrawal of a guest
  withdraws : ℕ → Kind
  -- a guest's tables placed from an address on
  places : ℕ → ℕ → Kind

-- a house number or a table's number is a refusal; the others by what was asked
abbrev pub kind_of : Answer → Kind
kind_of (opening (Ok u)) = opens
kind_of (opening (Err e)) = refused
kind_of unopened = refused
kind_of (posted g (Ok (Some r))) = answers g
kind_of (posted g (Ok None)) = accepts g
kind_of (posted g (Err e)) = refused
kind_of (turned (Ok (Some s))) = serves s.guest s.moved
kind_of (turned (Ok None)) = idles
kind_of (turned (Err e)) = refused
kind_of (collected g (Ok r)) = hands g r
kind_of (collected g (Err e)) = refused
kind_of (withdrawn g (Ok r)) = withdraws g
kind_of (withdrawn g (Err e)) = refused
kind_of (written (Ok n) out) = plain
kind_of (written (Err e) out) = refused
kind_of (placed g address (Ok u)) = places g address
kind_of (placed g address (Err e)) = refused

-- of one call of the list
abbrev pub kind_in : Event → Kind
kind_in e = kind_of e.out.answer

-- the house number of a refusal, else 0; a refused opening's is a table's number
abbrev pub house_number : Answer → ℕ
house_number (opening x) = 0
house_number unopened = not_acceptable
house_number (posted g x) = number_of x
house_number (turned x) = number_of x
house_number (collected g x) = number_of x
house_number (withdrawn g x) = number_of x
house_number (written x out) = number_of x
house_number (placed g address x) = number_of x

-- "The list begins at an opening that passed, and the next one that passes ends it": each opening in the list is refused
abbrev pub NoneOpens : List Event → Type 0
NoneOpens [] = Unit
NoneOpens (e ∷ es) = (kind_in e ≡ opens → ⊥) × NoneOpens es

-- ---- "The words of demand 3", numbers over a list of calls

-- the sum over the list of what each answer counts for
abbrev pub total : (Kind → ℕ) → List Event → ℕ
total f [] = 0
total f (e ∷ es) = f (kind_in e) + total f es

-- k where the guests are the same
abbrev pub if_same : ℕ → ℕ → ℕ → ℕ
if_same h g k = pick (eqb h g) k 0

-- what one answer counts for: a turn not refused; a post, turn or withdrawal without a house number; of one guest a service, the blocks
-- moved, a withdrawal and a collect; and a desk that is another afterwards
pub record Marks : Type 0 where
  pub turn : ℕ
  pub touch : ℕ
  pub service : ℕ
  pub moved : ℕ
  pub withdrawal : ℕ
  pub collect : ℕ
  pub desk : ℕ

-- such a line
abbrev pub line : ℕ → ℕ → ℕ → ℕ → ℕ → ℕ → ℕ → Marks
line turn touch service moved withdrawal collect desk =
    record { turn = turn; touch = touch; service = service; moved = moved; withdrawal = withdrawal; collect = collect; desk = desk }

-- a line for each kind of answer, in that order, for guest g. "A turn serves it by answering that guest", whatever the number. A placement is no
-- post, turn or withdrawal
abbrev pub marks : ℕ → Kind → Marks
marks g refused = line 0 0 0 0 0 0 0
marks g plain = line 0 0 0 0 0 0 0
marks g opens = line 0 0 0 0 0 0 1
marks g (answers h) = line 0 1 0 0 0 0 0
marks g (accepts h) = line 0 1 0 0 0 0 1
marks g (serves h k) = line 1 1 (if_same h g 1) (if_same h g k) 0 0 1
marks g idles = line 1 1 0 0 0 0 0
marks g (hands h r) = line 0 0 0 0 0 (if_same h g 1) 1
marks g (withdraws h) = line 0 1 0 0 (if_same h g 1) 0 1
marks g (places h address) = line 0 0 0 0 0 0 1

-- turns not refused, of whatever guest: 8 is none
abbrev pub turn_in : Kind → ℕ
turn_in k = (marks guests k).turn

-- posts, turns and withdrawals without a house number
abbrev pub touch_in : Kind → ℕ
touch_in k = (marks guests k).touch

-- turns that serve g
abbrev pub service_in : ℕ → Kind → ℕ
service_in g k = (marks g k).service

-- the number that a turn answers for g
abbrev pub moved_in : ℕ → Kind → ℕ
moved_in g k = (marks g k).moved

-- withdrawals of g not refused
abbrev pub withdrawal_in : ℕ → Kind → ℕ
withdrawal_in g k = (marks g k).withdrawal

-- collects of g not refused
abbrev pub collect_in : ℕ → Kind → ℕ
collect_in g k = (marks g k).collect

-- answers after which the desk is another
abbrev pub desk_in : Kind → ℕ
desk_in k = (marks guests k).desk

-- how many turns of the list were not refused
abbrev pub turns : List Event → ℕ
turns = total turn_in

-- how many served g
abbrev pub services : ℕ → List Event → ℕ
services g = total (service_in g)

-- "the numbers so answered"
abbrev pub moved : ℕ → List Event → ℕ
moved g = total (moved_in g)

-- how many withdrawals of g were not refused
abbrev pub withdrawals : ℕ → List Event → ℕ
withdrawals g = total (withdrawal_in g)

-- how many collects of g were not refused
abbrev pub collects : ℕ → List Event → ℕ
collects g = total (collect_in g)

-- ---- document 02, 2026-01: a guest's placement, told from the calls and not from the desk

-- after an answer, where it was p before
abbrev pub placed_by : ℕ → Kind → Placement → Placement
placed_by g refused p = p
placed_by g plain p = p
placed_by g opens p = no_placement
placed_by g (answers h) p = p
placed_by g (accepts h) p = p
placed_by g (serves h k) p = p
placed_by g idles p = p
placed_by g (hands h r) p = p
placed_by g (withdraws h) p = p
placed_by g (places h address) p = pick (eqb h g) (placed_at address) p

-- after the answers of a list
abbrev pub placement_after : ℕ → Placement → List Event → Placement
placement_after g p [] = p
placement_after g p (e ∷ es) = placement_after g (placed_by g (kind_in e) p) es

-- "until opened or placed anew": the last placement of g that was not refused in a list that begins at an opening, if there is one
abbrev pub placement_in : ℕ → List Event → Placement
placement_in g es = placement_after g no_placement es

-- ---- "The words of demand 3", a request, by the calls since its acceptance

-- "A request is accepted by the post answered that the row waits."
pub record Accepted (d : Desk) (c : Call) (g : ℕ) (r : Registers) : Type 0 where
  pub posts : c.op ≡ post g r
  pub waits : (step d c).answer ≡ posted g (Ok None)

-- the number that a turn answers where it meets no bad block, m of n blocks being moved: sixteen, or what remains if fewer
abbrev pub full_part : ℕ → ℕ → ℕ
full_part n m = min part_length (n - m)

-- each turn that served g answered that number, from m blocks moved on: none of them met a bad block
abbrev pub Full : ℕ → ℕ → ℕ → List Event → Type 0
Full g n m [] = Unit
Full g n m (e ∷ es) = (service_in g (kind_in e) ≡ 1 → moved_in g (kind_in e) ≡ full_part n m) × Full g n (m + moved_in g (kind_in e)) es

-- "It finishes at the turn where the numbers so answered reach n, [...] or is withdrawn by a withdrawal not refused; until then it waits." It
-- finishes at a bad block too ("now include these endings", 2026-04): the turn there answers fewer than it would
abbrev pub Waits : ℕ → ℕ → List Event → Type 0
Waits g n es = (withdrawals g es ≡ 0) × (moved g es < n) × Full g n 0 es

-- a turn that serves g and answers fewer: it met a bad block, m blocks of n being moved before
abbrev pub Stops : ℕ → ℕ → ℕ → Kind → Type 0
Stops g n m k = (service_in g k ≡ 1) × (moved_in g k < full_part n m)

-- t is the finishing turn: the request waits up to it, and there the numbers answered reach n, or it stops at a bad block
pub record Finishes (g n : ℕ) (d : Desk) (front : List Call) (t : Call) : Type 0 where
  pub waited : Waits g n (run d front)
  pub reached : (moved g (run d (front ++ t ∷ [])) ≡ n) ⊎ Stops g n (moved g (run d front)) (kind_of (step (after d front) t).answer)

-- t withdraws it: the request waits up to it, and t is a withdrawal of its guest not refused
pub record Withdraws (g n : ℕ) (d : Desk) (front : List Call) (t : Call) : Type 0 where
  pub waited : Waits g n (run d front)
  pub gone : kind_of (step (after d front) t).answer ≡ withdraws g

-- "any eight successive turns", and the eight for each part
abbrev pub turns_each : ℕ
turns_each = 8

-- 8 x ceil(n / 16)
abbrev pub turns_for : ℕ → ℕ
turns_for n = turns_each * ((n + 15) / part_length)

-- ---- "The words of demand 3", the blocks, the arena and the store

-- "A request names the n blocks of its drive from start": store block b is one of n from first
abbrev pub Named : ℕ → ℕ → ℕ → Type 0
Named first n b = (first ≤ b) × (b < first + n)

-- a turn that serves the waiting request q and answers k moves data to store block b
abbrev pub Writes : Table → Request → ℕ → ℕ → Type 0
Writes table q k b = (is_write (ah q.job.registers) ≡ true) × Named (store_block table q.job + q.moved) k b

-- "Another guest writes one when a turn serving that guest moves data to it while the request waits": none does
abbrev pub Unwritten : ℕ → ℕ → ℕ → List Event → Type 0
Unwritten g first n [] = Unit
Unwritten g first n (e ∷ es) =
    ((h k b : ℕ) (q : Request) → kind_in e ≡ serves h k → (h ≡ g → ⊥) → stage_at e.desk h ≡ Waiting q → Writes e.desk.table q k b → Named first n b → ⊥)
    × Unwritten g first n es

-- by whether the call counts
abbrev pub LeftIf : ℕ → ℕ → ℕ → List ℕ → List ℕ → Event → Type 0 → Type 0 → Type 0
LeftIf zero m g w s e skip go = skip
LeftIf (suc k) m g w s e skip go = (window_of e.call.arena g m ≡ w) × (e.call.store ≡ s) × go

-- "each post, turn and withdrawal without a house number finds the window of the request's guest and the store as the one before left them",
-- w and s at first; m is the windows' length
abbrev pub Left : ℕ → ℕ → List ℕ → List ℕ → List Event → Type 0
Left m g w s [] = Unit
Left m g w s (e ∷ es) = LeftIf (touch_in (kind_in e)) m g w s e (Left m g w s es) (Left m g (window_of e.out.arena g m) e.out.store es)
