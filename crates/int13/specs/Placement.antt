-- Document 02, 2026-01: the device parameter tables in a guest's window, and the pointer that 48h gives for them.
-- Assumes nothing.
use Rattle.std.specs.Prelude.{ℕ, zero, suc, ◌+◌, ◌*◌, ◌/◌, ◌%◌, true, false, List, [], ◌++◌, Option, Some, None}
use Rattle.logic.specs.Logic.{pick, both}
use Rattle.table.specs.declared.Table.{Table}
use Rattle.table.specs.Table.{most_drives, has_parameters, parameters_at, parameters_to}
use Rattle.layout.specs.declared.Pointer.{Pointer}
use Rattle.layout.specs.ResultBuffer.{no_pointer}
use Rattle.layout.specs.ParameterTable.{parameter_size, parameter_table}
use Rattle.int13.specs.declared.Placement.{Placement}

-- ---- "2026-01", a guest's placement

-- nothing is placed, as after an opening; address 0 is a place, so that the mark says which
abbrev pub no_placement : Placement
no_placement = record { placed = false; address = 0 }

-- the tables are placed from an address of the window on
abbrev pub placed_at : ℕ → Placement
placed_at address = record { placed = true; address = address }

-- ---- "2026-01", "all tables [...] one after another in drive order"

-- the tables of the first n slots; a drive without a record takes no room
unfoldable pub tables_to : ℕ → Table → List ℕ
tables_to zero b = []
tables_to (suc n) b = tables_to n b ++ pick (has_parameters b n) (parameter_table (parameters_at b n)) []

-- those of all drives
abbrev pub tables_of : Table → List ℕ
tables_of b = tables_to most_drives b

-- how many they are
abbrev pub table_count : Table → ℕ
table_count b = parameters_to most_drives b

-- where the table of slot i stands among those placed from an address on
abbrev pub table_address : Table → ℕ → ℕ → ℕ
table_address b address i = address + parameter_size * parameters_to i b

-- ---- "2026-01", "a pointer of offset 0 and segment its table's address / 16"

-- no table, or none placed
abbrev pub not_shown : Option ℕ
not_shown = None

-- what a guest with that placement is shown of slot i: the segment of its table, if it finds one there, of which a word
-- has room for sixteen bits
abbrev pub shown_in : Table → Placement → ℕ → Option ℕ
shown_in b p i = pick (both p.placed (has_parameters b i)) (Some (table_address b p.address i / 16 % 65536)) not_shown

-- "Drives without one, and guests without placement, keep FFFFh:FFFFh"
abbrev pub pointer_of : Option ℕ → Pointer
pointer_of None = no_pointer
pointer_of (Some segment) = record { offset = 0; segment = segment }
