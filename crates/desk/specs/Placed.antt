-- Demand 2, of placing (document 02, 2026-01): what a guest finds in its window once its tables are placed.
-- Assumes nothing.
use Rattle.std.specs.Prelude.{ℕ, ◌+◌, ◌-◌, ◌*◌, ◌≤◌, ◌<◌, ◌≡◌, ◌⊎◌, true, false, List, length, get_or, Ok}
use Rattle.words.specs.Words.{part}
use Rattle.memory.specs.Window.{window_of}
use Rattle.table.specs.declared.Table.{Table}
use Rattle.table.specs.Table.{has_parameters, parameters_at}
use Rattle.layout.specs.declared.Pointer.{Pointer}
use Rattle.layout.specs.Packet.{linear}
use Rattle.layout.specs.ResultBuffer.{no_pointer}
use Rattle.layout.specs.ParameterTable.{parameter_table}
use Rattle.int13.specs.Placement.{table_count, pointer_of}
use Rattle.int13.specs.Steps.{is_drive, shown_of}
use Rattle.desk.specs.declared.Desk.{Desk}
use Rattle.desk.specs.Parts.{window_size, placement_at}
use Rattle.desk.specs.Calls.{PlaceAnswer, Done, place_of}

-- ---- "2026-01", the pointer leads to the table

-- the pointer that 48h gives guest g for the drive of a number
abbrev pub pointer_for : Desk → ℕ → ℕ → Pointer
pointer_for d g n = pointer_of (shown_of d.table (placement_at d g) n)

-- the sixteen bytes of a window that a pointer leads to
abbrev pub behind : Pointer → List ℕ → List ℕ
behind p w = part 16 w (linear p.segment p.offset)

-- after the placement o of guest g's tables from an address on, at a desk with the drive table b; M is the windows' length, w the window before
pub record Leads (b : Table) (g M address : ℕ) (w : List ℕ) (o : Done PlaceAnswer) : Type 0 where
  -- for a drive with a record the pointer has offset 0, and leads to the table of its bytes
  pub offset : (n : ℕ) → is_drive b n ≡ true → has_parameters b (n - 0x80) ≡ true → (pointer_for o.desk g n).offset ≡ 0
  pub table : (n : ℕ) → is_drive b n ≡ true → has_parameters b (n - 0x80) ≡ true
      → behind (pointer_for o.desk g n) (window_of o.arena g M) ≡ parameter_table (parameters_at b (n - 0x80))
  -- "Drives without one [...] keep FFFFh:FFFFh"
  pub none : (n : ℕ) → is_drive b n ≡ true → has_parameters b (n - 0x80) ≡ false → pointer_for o.desk g n ≡ no_pointer
  -- no byte before the tables or behind them changes
  pub rest : (x : ℕ) → (x < address) ⊎ (address + 16 * table_count b ≤ x) → get_or (window_of o.arena g M) x 0 ≡ get_or w x 0

-- what the types say of a desk's lists
pub record Lists (d : Desk) : Type 0 where
  pub drives : length d.table.drives ≡ 8
  pub parameters : length d.table.parameters ≡ 112
  pub placed : length d.placed ≡ 8
  pub addresses : length d.addresses ≡ 8

-- of every placement that is done
abbrev pub Demand2 : Type 0
Demand2 = (d : Desk) (g address : ℕ) (arena store : List ℕ) → Lists d → (place_of d g address arena store).answer ≡ Ok tt
    → Leads d.table g (window_size d) address (window_of arena g (window_size d)) (place_of d g address arena store)
