-- One call: the registers that no answer changes, and the turn that serves.
-- Assumes nothing.
use Rattle.std.specs.Prelude.{ℕ, ◌<◌, ◌≡◌, true, List, Ok, Some}
use Rattle.memory.specs.Window.{guests}
use Rattle.table.specs.declared.Table.{Table}
use Rattle.int13.specs.declared.Placement.{Placement}
use Rattle.int13.specs.declared.Registers.{Registers}
use Rattle.int13.specs.declared.Outcome.{Outcome}
use Rattle.int13.specs.declared.Outcome.TheVariants.{Answered, Waits}
use Rattle.int13.specs.Answers.{ended, withdraw}
use Rattle.int13.specs.Steps.{fed, begin}
use Rattle.desk.specs.declared.Request.{Request}
use Rattle.desk.specs.declared.Stage.TheVariants.{Waiting}
use Rattle.desk.specs.declared.Desk.{Desk}
use Rattle.desk.specs.Parts.{stage_at}
use Rattle.desk.specs.Acceptable.{accept}
use Rattle.desk.specs.Calls.{TurnAnswer, is_lent, turn_of}

-- ---- "Numbers given back", registers not named; "Calls the host makes", turn

-- "registers not named stay as given": no step of any function names DS, SI or ES
pub record SameSegments (r x : Registers) : Type 0 where
  pub ds : x.ds ≡ r.ds
  pub si : x.si ≡ r.si
  pub es : x.es ≡ r.es

-- in an answer at once, and in the registers that a waiting row keeps
abbrev pub KeepsSegments : Registers → Outcome → Type 0
KeepsSegments r (Answered x) = SameSegments r x
KeepsSegments r (Waits j) = SameSegments r j.registers

-- a turn that serves a guest
pub record Serves (x : TurnAnswer) : Type 0 where
  pub guest : ℕ
  pub moved : ℕ
  pub is : x ≡ Ok (Some (record { guest = guest; moved = moved }))

-- of every answer at once, every finish and every withdrawal, and of every turn
pub record Single : Type 0 where
  pub posted : (b : Table) (p : Placement) (r : Registers) (w : List ℕ) → KeepsSegments r (begin (fed b p) r w).outcome
  pub finished : (n moved : ℕ) (r : Registers) → SameSegments r (ended n moved r)
  pub withdrawn : (n : ℕ) (r : Registers) → SameSegments r (withdraw n r)
  -- idle cannot occur while a request waits: a turn that is not refused then serves one
  pub served : (d : Desk) (arena store : List ℕ) (g : ℕ) (q : Request) → accept d ≡ true → is_lent d arena store ≡ true → g < guests
      → stage_at d g ≡ Waiting q → Serves (turn_of d arena store).answer
