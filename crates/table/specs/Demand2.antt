-- Demand 2 for the drive table: the two ways round between a table and its bytes. `proofs/Demand2.antt` proves it.
-- Assumes nothing.
use Rattle.std.specs.Prelude.{ℕ, ◌*◌, ◌<◌, ◌≡◌, true, Ok, List, length, get_or}
use Rattle.words.specs.Words.{Bytes}
use Rattle.drive.specs.Drive.{Fits}
use Rattle.attached.specs.Parameters.{given_length}
use Rattle.attached.specs.Bad.{list_length}
use Rattle.table.specs.declared.Table.{Table}
use Rattle.table.specs.Table.{most_drives, no_drive, reading, read_table, table_of, is_sound}

-- ---- "The drive table", read and written

-- what the types say of a table: eight slots, in those in use each number fits its word and each array has its length; as many marks of
-- parameters, and fourteen bytes for each; and as many numbers of bad blocks, and the bytes of sixteen for each
pub record Widths (b : Table) : Type 0 where
  pub eight : length b.drives ≡ most_drives
  pub marks : length b.present ≡ most_drives
  pub bytes : length b.parameters ≡ given_length * most_drives
  pub counts : length b.counts ≡ most_drives
  pub lists : length b.bad ≡ list_length * most_drives
  pub each : (i : ℕ) → i < b.count → Fits (get_or b.drives i no_drive)

-- for every store
pub record Demand2 (store : ℕ) : Type 0 where
  -- whatever bytes are accepted, what is read from them and written gives those bytes
  pub written : (t : List ℕ) → Bytes t → (read_table t store).answer ≡ Ok tt → table_of (read_table t store).table ≡ t
  -- whatever table obeys the rules, in its widths, what is written of it and read gives that table; no reading need have made it
  pub read : (b : Table) → Widths b → is_sound b store ≡ true → read_table (table_of b) store ≡ reading (Ok tt) b
