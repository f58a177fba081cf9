-- Demand 3, as one claim about a list of calls at a desk after an opening.
-- Assumes nothing.
use Rattle.std.specs.Prelude.{ℕ, ◌*◌, ◌≤◌, ◌<◌, ◌≡◌, true, List, [], ◌∷◌, ◌++◌, Ok, Some}
use Rattle.words.specs.Words.{part}
use Rattle.memory.specs.Window.{window_length, window_of}
use Rattle.memory.specs.Blocks.{block_length}
use Rattle.attached.specs.Bad.{good}
use Rattle.table.specs.declared.Table.{Table}
use Rattle.int13.specs.declared.Registers.{Registers}
use Rattle.int13.specs.Answers.{dl}
use Rattle.int13.specs.Alone.{Memory, Served, asked, asked_start, named_from, alone}
use Rattle.int13.specs.Steps.{fed, bads_of}
use Rattle.desk.specs.declared.Stage.TheVariants.{Finished}
use Rattle.desk.specs.declared.Desk.{Desk}
use Rattle.desk.specs.Parts.{stage_at, is_waiting}
use Rattle.desk.specs.Acceptable.{accept}
use Rattle.desk.specs.Calls.{not_acceptable, open_of}
use Rattle.isolation.specs.Lists.{post, turn, collect, place, Call, posted, collected, Out, step, Event, run, after}
use Rattle.isolation.specs.Words.{refused, kind_of, house_number, NoneOpens, turns, service_in, services, moved, collects, Accepted, Waits, Finishes, Withdraws, turns_each, turns_for, Named, Unwritten, Left, placement_in}

-- ---- "The words of demand 3", the calls of a list after those of a prefix

-- what the call c leaves, after the calls pre
abbrev pub out_after : Desk → List Call → Call → Out
out_after d pre c = step (after d pre) c

-- the calls cs, after the calls pre
abbrev pub run_after : Desk → List Call → List Call → List Event
run_after d pre cs = run (after d pre) cs

-- ---- "The words of demand 3", one request

-- a post's guest's window and the store, as the post found them; m is the windows' length
abbrev pub found_by : ℕ → Call → ℕ → Memory
found_by m c g = record { window = window_of c.arena g m; store = c.store }

-- n
abbrev pub asked_by : ℕ → Call → ℕ → Registers → ℕ
asked_by m c g r = asked r (window_of c.arena g m)

-- the store block that it names first
abbrev pub first_by : Table → ℕ → Call → ℕ → Registers → ℕ
first_by table m c g r = named_from table r (window_of c.arena g m)

-- how many of its blocks come before the first bad one; all n where none is bad
abbrev pub good_by : Table → ℕ → Call → ℕ → Registers → ℕ
good_by table m c g r = good (bads_of table (dl r)) (asked_start table r (window_of c.arena g m)) (asked_by m c g r)

-- a request of the list: the calls before its post, the post with its guest and registers, and the calls since. It was accepted
pub record Taken (d₀ : Desk) (calls : List Call) : Type 0 where
  pub before : List Call
  pub call : Call
  pub guest : ℕ
  pub registers : Registers
  pub since : List Call
  pub place : calls ≡ before ++ call ∷ since
  pub accepted : Accepted (after d₀ before) call guest registers

module _ {d₀ : Desk} {calls : List Call} (q : Taken d₀ calls) where
  -- what its post left
  abbrev pub out_on : Out
  out_on = out_after d₀ q.before q.call

  -- its n
  abbrev pub count_of : ℕ → ℕ
  count_of m = asked_by m q.call q.guest q.registers

  -- its first store block
  abbrev pub first_of : ℕ → ℕ
  first_of m = first_by d₀.table m q.call q.guest q.registers

  -- the same request served alone when accepted, fed the opening's table bytes and its guest's placement at the post
  abbrev pub alone_of : List ℕ → ℕ → Served
  alone_of t m = alone (fed t (placement_in q.guest (run d₀ q.before))) q.registers (found_by m q.call q.guest)

-- ---- demand 3, what it compares

-- within so many turns not refused, the request of g with n blocks, accepted just before the calls cs, finishes or is withdrawn
pub data Ends (g n most : ℕ) (d : Desk) (cs : List Call) : Type 0 where
  finishing : (front : List Call) (t : Call) (rest : List Call) → cs ≡ front ++ t ∷ rest → Finishes g n d front t
      → turns (run d (front ++ t ∷ [])) ≤ most → Ends g n most d cs
  withdrawing : (front : List Call) (t : Call) (rest : List Call) → cs ≡ front ++ t ∷ rest → Withdraws g n d front t
      → turns (run d (front ++ t ∷ [])) ≤ most → Ends g n most d cs

-- "Compared are that window and the named blocks after the finishing turn, and the finished row's registers"
pub record Same (m g first n : ℕ) (o : Out) (s : Served) : Type 0 where
  pub registers : stage_at o.desk g ≡ Finished s.registers
  pub window : window_of o.arena g m ≡ s.memory.window
  pub named : (b : ℕ) → Named first n b → part block_length o.store (block_length * b) ≡ part block_length s.memory.store (block_length * b)

-- a post answered x at once: registers, window and the whole store
pub record SameAtOnce (m g : ℕ) (o : Out) (x : Registers) (s : Served) : Type 0 where
  pub registers : x ≡ s.registers
  pub window : window_of o.arena g m ≡ s.memory.window
  pub store : o.store ≡ s.memory.store

-- ---- demand 3

-- the claim, of the calls after an opening of the table bytes t; d₀ is the desk it gave, m the length of its windows
pub record Claim (t : List ℕ) (d₀ : Desk) (m : ℕ) (calls : List Call) : Type 0 where
  -- "A waiting request is served in at least one of any eight successive turns not refused while it waits": in a stretch of calls that
  -- holds eight, the last call one of them, before which it waits
  pub within : (q : Taken d₀ calls) (mid stretch rest : List Call) (last : Call) → q.since ≡ mid ++ (stretch ++ last ∷ rest)
      → Waits q.guest (count_of q m) (run (out_on q).desk (mid ++ stretch))
      → turns (run_after (out_on q).desk (mid ++ stretch) (last ∷ [])) ≡ 1
      → turns_each ≤ turns (run_after (out_on q).desk mid (stretch ++ last ∷ []))
      → 0 < services q.guest (run_after (out_on q).desk mid (stretch ++ last ∷ []))
  -- "While it waits, fewer than 8 x ceil(n / 16) turns not refused have followed its acceptance"
  pub bounded : (q : Taken d₀ calls) (mid rest : List Call) → q.since ≡ mid ++ rest
      → Waits q.guest (count_of q m) (run (out_on q).desk mid)
      → turns (run (out_on q).desk mid) < turns_for (count_of q m)
  -- "So, unless withdrawn, it finishes within eight such turns for each of its sixteen-block parts, a shorter last one included."
  pub finishes : (q : Taken d₀ calls) (mid rest : List Call) → q.since ≡ mid ++ rest
      → turns_for (count_of q m) ≤ turns (run (out_on q).desk mid)
      → Ends q.guest (count_of q m) (turns_for (count_of q m)) (out_on q).desk mid
  -- "A turn changes no other guest's row or memory."
  pub spared : (pre rest : List Call) (c : Call) (h : ℕ) → calls ≡ pre ++ c ∷ rest
      → c.op ≡ turn
      → service_in h (kind_of (out_after d₀ pre c).answer) ≡ 0
      → (stage_at (out_after d₀ pre c).desk h ≡ stage_at (after d₀ pre) h) × (window_of (out_after d₀ pre c).arena h m ≡ window_of c.arena h m)
  -- "Take a request that finishes, and let meanwhile the same arena and store be lent, only posts, turns and withdrawals at this desk change
  -- that guest's memory and the store, and no other guest write a block it names. Then, whatever the other guests posted, its registers, that
  -- memory and those blocks equal those of the same request served alone when accepted."
  pub equal : (q : Taken d₀ calls) (mid rest : List Call) (last : Call) → q.since ≡ mid ++ last ∷ rest
      → Finishes q.guest (count_of q m) (out_on q).desk mid last
      → Left m q.guest (window_of (out_on q).arena q.guest m) (out_on q).store (run (out_on q).desk (mid ++ last ∷ []))
      → Unwritten q.guest (first_of q m) (count_of q m) (run (out_on q).desk (mid ++ last ∷ []))
      → Same m q.guest (first_of q m) (count_of q m) (out_after (out_on q).desk mid last) (alone_of q t m)
  -- "the finished row's registers, which the guest's next collect not refused hands out", however much later; they need no condition
  pub handed : (q : Taken d₀ calls) (mid more rest : List Call) (last x : Call) → q.since ≡ mid ++ last ∷ (more ++ x ∷ rest)
      → Finishes q.guest (count_of q m) (out_on q).desk mid last
      → collects q.guest (run_after (out_on q).desk (mid ++ last ∷ []) more) ≡ 0
      → x.op ≡ collect q.guest
      → (kind_of (out_after (out_on q).desk (mid ++ last ∷ more) x).answer ≡ refused → ⊥)
      → (out_after (out_on q).desk (mid ++ last ∷ more) x).answer ≡ collected q.guest (Ok (alone_of q t m).registers)
  -- ---- here demand 3 ends; what follows is claimed beyond it
  -- the finishing turn leaves the row finished with served alone's registers, whatever happened to the arena and the store
  pub finished : (q : Taken d₀ calls) (mid rest : List Call) (last : Call) → q.since ≡ mid ++ last ∷ rest
      → Finishes q.guest (count_of q m) (out_on q).desk mid last
      → stage_at (out_after (out_on q).desk mid last).desk q.guest ≡ Finished (alone_of q t m).registers
  -- the numbers answered up to the finishing turn add up to the good blocks before the first bad one (document 02, 2026-04): n where none is bad
  pub counted : (q : Taken d₀ calls) (mid rest : List Call) (last : Call) → q.since ≡ mid ++ last ∷ rest
      → Finishes q.guest (count_of q m) (out_on q).desk mid last
      → moved q.guest (run (out_on q).desk (mid ++ last ∷ [])) ≡ good_by d₀.table m q.call q.guest q.registers
  -- "What they answer at once, refusals included, it answers and writes as they say": so does the desk
  pub at_once : (pre rest : List Call) (c : Call) (g : ℕ) (r x : Registers) → calls ≡ pre ++ c ∷ rest
      → c.op ≡ post g r
      → (out_after d₀ pre c).answer ≡ posted g (Ok (Some x))
      → SameAtOnce m g (out_after d₀ pre c) x (alone (fed t (placement_in g (run d₀ pre))) r (found_by m c g))
  -- a placement changes no row, and no window but its guest's; a guest that waits keeps its window
  pub placing : (pre rest : List Call) (c : Call) (g address h : ℕ) → calls ≡ pre ++ c ∷ rest
      → c.op ≡ place g address
      → (stage_at (out_after d₀ pre c).desk h ≡ stage_at (after d₀ pre) h)
      × ((h ≡ g → ⊥) → window_of (out_after d₀ pre c).arena h m ≡ window_of c.arena h m)
      × (is_waiting (stage_at (after d₀ pre) h) ≡ true → window_of (out_after d₀ pre c).arena h m ≡ window_of c.arena h m)
  -- every call gets an acceptable desk and leaves one: none is answered 25
  pub acceptable : (pre rest : List Call) → calls ≡ pre ++ rest → accept (after d₀ pre) ≡ true
  pub never25 : (pre rest : List Call) (c : Call) → calls ≡ pre ++ c ∷ rest
      → house_number (out_after d₀ pre c).answer ≡ not_acceptable → ⊥

-- DEMAND 3: for table bytes, arena length and store length with which an opening passes, and every list of calls after it in which no other
-- opening passes
abbrev pub Demand : Type 0
Demand = (t : List ℕ) (arena store : ℕ) (calls : List Call)
    → (open_of t arena store).answer ≡ Ok tt
    → NoneOpens (run (open_of t arena store).desk calls)
    → Claim t (open_of t arena store).desk (window_length arena) calls
