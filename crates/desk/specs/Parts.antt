-- Document 01, "Parts of the desk": rows, windows, the turn pointer; document 02, 2026-01: placements.
-- Assumes nothing.
use Rattle.std.specs.Prelude.{ℕ, ◌+◌, ◌/◌, ◌%◌, Bool, true, false, List, length, get_or, set}
use Rattle.memory.specs.Window.{guests, window_length, window_of, with_window}
use Rattle.memory.specs.Blocks.{block_length}
use Rattle.int13.specs.declared.Placement.{Placement}
use Rattle.desk.specs.declared.Stage.{Stage}
use Rattle.desk.specs.declared.Stage.TheVariants.{Vacant, Waiting, Finished}
use Rattle.desk.specs.declared.Row.{Row}
use Rattle.desk.specs.declared.Desk.{Desk}

-- M, the length of each guest's window
abbrev pub window_size : Desk → ℕ
window_size d = window_length d.arena

-- a guest's window of an arena, which the arena's length alone cuts, and the arena with other bytes there
abbrev pub own_window : List ℕ → ℕ → List ℕ
own_window arena g = window_of arena g (window_length (length arena))

-- the arena with other bytes in guest g's window
abbrev pub with_own : List ℕ → ℕ → List ℕ → List ℕ
with_own arena g w = with_window arena g (window_length (length arena)) w

-- the store's blocks
abbrev pub store_blocks : Desk → ℕ
store_blocks d = d.store / block_length

-- ---- rows

-- a row without a request
abbrev pub vacant_row : Row
vacant_row = record { stage = Vacant }

-- the stage of guest g's row; past the rows there is nobody
abbrev pub stage_in : List Row → ℕ → Stage
stage_in rows g = (get_or rows g vacant_row).stage

-- the stage of guest g's row at a desk
abbrev pub stage_at : Desk → ℕ → Stage
stage_at d g = stage_in d.rows g

-- the desk with another stage in guest g's row
abbrev pub with_stage : Desk → ℕ → Stage → Desk
with_stage d g s =
    record {
      rows = set d.rows g (record { stage = s });
      pointer = d.pointer;
      table = d.table;
      arena = d.arena;
      store = d.store;
      placed = d.placed;
      addresses = d.addresses;
    }

-- the row waits with its request
abbrev pub is_waiting : Stage → Bool
is_waiting Vacant = false
is_waiting (Waiting q) = true
is_waiting (Finished r) = false

-- ---- the turn pointer, which counts cyclically

-- the guest after g: g plus 1, modulo 8
abbrev pub next : ℕ → ℕ
next g = (g + 1) % guests

-- the desk with another turn pointer
abbrev pub with_pointer : Desk → ℕ → Desk
with_pointer d p =
    record { rows = d.rows; pointer = p; table = d.table; arena = d.arena; store = d.store; placed = d.placed; addresses = d.addresses }

-- ---- document 02, 2026-01: where each guest's parameter tables are placed

-- guest g's placement; past the guests there is none
abbrev pub placement_at : Desk → ℕ → Placement
placement_at d g = record { placed = get_or d.placed g false; address = get_or d.addresses g 0 }

-- the desk with guest g's tables placed from an address on
abbrev pub with_placement : Desk → ℕ → ℕ → Desk
with_placement d g address =
    record {
      rows = d.rows;
      pointer = d.pointer;
      table = d.table;
      arena = d.arena;
      store = d.store;
      placed = set d.placed g true;
      addresses = set d.addresses g address;
    }
