-- Demand 3 at a desk block: a call at a block of bytes, a list of calls, and the demand over them.
-- Assumes nothing.
use Rattle.std.specs.Prelude.{ℕ, ◌^◌, ◌<◌, ◌≡◌, true, false, List, [], ◌∷◌, ◌++◌, map, eqb, length, Ok, Err}
use Rattle.logic.specs.Logic.{pick}
use Rattle.words.specs.Words.{Bytes}
use Rattle.memory.specs.Window.{window_length}
use Rattle.desk.specs.declared.HouseNumber.TheVariants.{NotAcceptable}
use Rattle.table.specs.Table.{number as table_number}
use Rattle.desk.specs.declared.Desk.{Desk}
use Rattle.desk.specs.Calls.{not_acceptable, open_of}
use Rattle.image.specs.Image.{image, desk_size, desk_of, accepted, laid, FitsRegisters}
use Rattle.isolation.specs.Lists.{Op, open_table, post, turn, collect, withdraw, write, place, Call, Answer, opening, unopened, posted, turned, collected, withdrawn, written, placed, Out, step_of, Event, run}
use Rattle.isolation.specs.Words.{Kind, opens, kind_of, house_number, desk_in}
use Rattle.isolation.specs.Demand.{Claim}

-- ---- "Calls the host makes", the calls for C over a desk block

-- what the types of its arguments say of a call
abbrev pub FitsOp : Op → Type 0
FitsOp (open_table t a s) = Bytes t × (a < 256 ^ 8) × (s < 256 ^ 8)
FitsOp (post g r) = FitsRegisters r
FitsOp turn = Unit
FitsOp (collect g) = Unit
FitsOp (withdraw g) = Unit
FitsOp (write out) = Unit
FitsOp (place g address) = address < 256 ^ 8

-- and of each call of a list
abbrev pub FitsCalls : List Call → Type 0
FitsCalls [] = Unit
FitsCalls (c ∷ cs) = FitsOp c.op × FitsCalls cs

-- ---- "Calls the host makes", one call at a desk block

-- what a call at a block leaves
pub record OutBlock : Type 0 where
  pub block : List ℕ
  pub answer : Answer
  pub arena : List ℕ
  pub store : List ℕ

-- a desk that is another is laid out in the block; else the block stays
abbrev pub block_after : List ℕ → Desk → Kind → List ℕ
block_after b d k = pick (eqb (desk_in k) 1) (laid b d) b

-- the block that is left, with the rest as at the desk
abbrev pub out_block : List ℕ → Out → OutBlock
out_block b o = record { block = block_after b o.desk (kind_of o.answer); answer = o.answer; arena = o.arena; store = o.store }

-- 25, which changes nothing, not even a table write's buffer; an opening's has no place in the table
abbrev pub answer25 : Op → Answer
answer25 (open_table t a s) = unopened
answer25 (post g r) = posted g (Err NotAcceptable)
answer25 turn = turned (Err NotAcceptable)
answer25 (collect g) = collected g (Err NotAcceptable)
answer25 (withdraw g) = withdrawn g (Err NotAcceptable)
answer25 (write out) = written (Err NotAcceptable) out
answer25 (place g address) = placed g address (Err NotAcceptable)

-- the number of a refusal, else 0; a refused opening's is a table's number, or 25
abbrev pub number_of : Answer → ℕ
number_of (opening (Ok u)) = 0
number_of (opening (Err e)) = table_number e.refusal
number_of unopened = house_number unopened
number_of (posted g x) = house_number (posted g x)
number_of (turned x) = house_number (turned x)
number_of (collected g x) = house_number (collected g x)
number_of (withdrawn g x) = house_number (withdrawn g x)
number_of (written x out) = house_number (written x out)
number_of (placed g address x) = house_number (placed g address x)

-- a call that is answered 25 leaves everything
abbrev pub left25 : List ℕ → Op → List ℕ → List ℕ → OutBlock
left25 b o arena store = record { block = b; answer = answer25 o; arena = arena; store = store }

-- the call at the desk that the block is the image of: of a block that is none, a desk at which every call is 25. An opening needs no desk,
-- and looks at the size alone
abbrev pub step_block_of : List ℕ → Op → List ℕ → List ℕ → OutBlock
step_block_of b (open_table t a s) arena store = pick (eqb (length b) desk_size) (out_block b (step_of (desk_of b) (open_table t a s) arena store)) (left25 b (open_table t a s) arena store)
step_block_of b (post g r) arena store = out_block b (step_of (desk_of b) (post g r) arena store)
step_block_of b turn arena store = out_block b (step_of (desk_of b) turn arena store)
step_block_of b (collect g) arena store = out_block b (step_of (desk_of b) (collect g) arena store)
step_block_of b (withdraw g) arena store = out_block b (step_of (desk_of b) (withdraw g) arena store)
step_block_of b (write out) arena store = out_block b (step_of (desk_of b) (write out) arena store)
step_block_of b (place g address) arena store = out_block b (step_of (desk_of b) (place g address) arena store)

-- what a call leaves at a block
unfoldable pub step_block : List ℕ → Call → OutBlock
step_block b c = step_block_of b c.op c.arena c.store

-- ---- "The words of demand 3", the list of calls at a desk block

-- one call of the list: the block that it got, and what it left
pub record EventBlock : Type 0 where
  pub block : List ℕ
  pub call : Call
  pub out : OutBlock

-- the call c at the block b
abbrev pub event_block : List ℕ → Call → EventBlock
event_block b c = record { block = b; call = c; out = step_block b c }

-- the calls one after the other, each at the block that the one before left
unfoldable pub run_block : List ℕ → List Call → List EventBlock
run_block b [] = []
run_block b (c ∷ cs) = event_block b c ∷ run_block (step_block b c).block cs

-- the block after them
unfoldable pub after_block : List ℕ → List Call → List ℕ
after_block b [] = b
after_block b (c ∷ cs) = after_block (step_block b c).block cs

-- each opening in the list is refused
abbrev pub NoneOpensBlock : List EventBlock → Type 0
NoneOpensBlock [] = Unit
NoneOpensBlock (e ∷ es) = (kind_of e.out.answer ≡ opens → ⊥) × NoneOpensBlock es

-- ---- demand 3 at a desk block

-- what a call leaves at a desk, with the desk as its image
abbrev pub image_out : Out → OutBlock
image_out o = record { block = image o.desk; answer = o.answer; arena = o.arena; store = o.store }

-- a call of the list, with each desk as its image
abbrev pub image_event : Event → EventBlock
image_event e = record { block = image e.desk; call = e.call; out = image_out e.out }

-- the claim, of the calls after an opening of the table bytes t that left the block b₀; d₀ is the desk it gave
pub record ClaimBlock (t : List ℕ) (d₀ : Desk) (m : ℕ) (b₀ : List ℕ) (calls : List Call) : Type 0 where
  -- the calls at the block are those at the desk, one by one: the block is its image, answer, arena and store are the same
  pub begins : b₀ ≡ image d₀
  pub same : run_block b₀ calls ≡ map image_event (run d₀ calls)
  -- every call gets a block that is accepted and leaves one: none is answered 25, openings included
  pub acceptable : (pre rest : List Call) → calls ≡ pre ++ rest → accepted (after_block b₀ pre) ≡ true
  pub never25 : (pre rest : List Call) (c : Call) → calls ≡ pre ++ c ∷ rest
      → number_of (step_block (after_block b₀ pre) c).answer ≡ not_acceptable → ⊥
  -- and demand 3 holds of them
  pub demand : Claim t d₀ m calls

-- DEMAND 3 on blocks of bytes: for any block with which an opening passes, and every list of calls after it in which no other opening passes
abbrev pub DemandBlock : Type 0
DemandBlock = (b t : List ℕ) (arena store : ℕ) (first : Call) (calls : List Call)
    → first.op ≡ open_table t arena store → FitsOp first.op
    → (step_block b first).answer ≡ opening (Ok tt)
    → FitsCalls calls
    → NoneOpensBlock (run_block (step_block b first).block calls)
    → ClaimBlock t (open_of t arena store).desk (window_length arena) (step_block b first).block calls

-- ---- "Calls the host makes", any block, whoever made it

-- 25 exactly where the block is not accepted, but for an opening, for which the size alone counts; 25 changes nothing, so that such a call
-- may be struck from a list. An accepted block stays one, whatever is called
pub record AtBlocks : Type 0 where
  pub not_accepted : (b : List ℕ) (c : Call) → accepted b ≡ false → ((t : List ℕ) (a s : ℕ) → c.op ≡ open_table t a s → ⊥)
      → step_block b c ≡ left25 b c.op c.arena c.store
  pub other_size : (b : List ℕ) (c : Call) → (length b ≡ desk_size → ⊥) → step_block b c ≡ left25 b c.op c.arena c.store
  pub never : (b : List ℕ) (c : Call) → Bytes b → accepted b ≡ true → number_of (step_block b c).answer ≡ not_acceptable → ⊥
  -- "a desk block of another size is 25, first": an opening of a block of the size has a table's number, or none
  pub openings : (b : List ℕ) (c : Call) (t : List ℕ) (a s : ℕ) → c.op ≡ open_table t a s → length b ≡ desk_size
      → number_of (step_block b c).answer ≡ not_acceptable → ⊥
  pub kept : (b : List ℕ) (c : Call) → Bytes b → FitsOp c.op → accepted b ≡ true → accepted (step_block b c).block ≡ true
