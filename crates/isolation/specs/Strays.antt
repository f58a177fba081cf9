-- Calls at a desk block among which some are lent another slice of bytes in its place.
-- Assumes nothing.
use Rattle.std.specs.Prelude.{ℕ, ◌≡◌, List, [], ◌∷◌, length}
use Rattle.image.specs.Image.{desk_size}
use Rattle.isolation.specs.Lists.{Call}
use Rattle.isolation.specs.DeskBlocks.{left25, step_block, EventBlock, event_block, run_block}

-- ---- "Calls the host makes", a desk block of another size

-- a call that is lent the desk's block, or another slice
pub data Lends : Type 0 where
  own : Call → Lends
  other : List ℕ → Call → Lends

-- the calls one after the other; one that is lent another slice leaves its own slice, and the desk's block as it was
unfoldable pub run_lent : List ℕ → List Lends → List EventBlock
run_lent b [] = []
run_lent b (own c ∷ cs) = event_block b c ∷ run_lent (step_block b c).block cs
run_lent b (other x c ∷ cs) = event_block x c ∷ run_lent b cs

-- each slice that is not the desk's block has another length
abbrev pub OtherSizes : List Lends → Type 0
OtherSizes [] = Unit
OtherSizes (own c ∷ cs) = OtherSizes cs
OtherSizes (other x c ∷ cs) = (length x ≡ desk_size → ⊥) × OtherSizes cs

-- the list with those calls struck
abbrev pub struck : List Lends → List Call
struck [] = []
struck (own c ∷ cs) = c ∷ struck cs
struck (other x c ∷ cs) = struck cs

-- a call that is answered 25 and changes nothing
abbrev pub event25 : List ℕ → Call → EventBlock
event25 x c = record { block = x; call = c; out = left25 x c.op c.arena c.store }

-- the events of the struck list, with a 25 where each of those calls stood
abbrev pub among : List Lends → List EventBlock → List EventBlock
among [] es = []
among (own c ∷ cs) [] = []
among (own c ∷ cs) (e ∷ es) = e ∷ among cs es
among (other x c ∷ cs) es = event25 x c ∷ among cs es

-- Calls that are lent a slice of another length may stand in a list: each is 25 and changes nothing, and the others go as if it had not been
-- made. So demand 3 of the struck list is demand 3 of the list.
abbrev pub Strays : Type 0
Strays = (b : List ℕ) (cs : List Lends) → OtherSizes cs → run_lent b cs ≡ among cs (run_block b (struck cs))
