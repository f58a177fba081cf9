-- Demand 2 at a desk block: a table that stands in an accepted block, though no opening put it there, is written and opened again as the same.
-- Assumes nothing.
use Rattle.std.specs.Prelude.{ℕ, ◌≤◌, ◌≡◌, true, List, ◌++◌, length, drop, Ok}
use Rattle.words.specs.Words.{Bytes}
use Rattle.table.specs.Table.{table_of}
use Rattle.desk.specs.Calls.{opened, open_of, written_of, written_out}
use Rattle.image.specs.Image.{desk_of, accepted}

-- ---- "Calls the host makes", write and open, at a block that is accepted, whoever made it

-- a buffer with room gets the table's bytes, and past them stays; an opening of those bytes with the block's store length passes for every
-- arena length, and its desk has the block's table
pub record Reopened (b : List ℕ) : Type 0 where
  pub written : (out : List ℕ) → length (table_of (desk_of b).table) ≤ length out
      → (written_of (desk_of b) (length out) ≡ Ok (length (table_of (desk_of b).table)))
      × (written_out (desk_of b) out ≡ table_of (desk_of b).table ++ drop (length (table_of (desk_of b).table)) out)
  pub again : (arena : ℕ) → open_of (table_of (desk_of b).table) arena (desk_of b).store
      ≡ record { desk = opened (desk_of b).table arena (desk_of b).store; answer = Ok tt }

-- for every such block
abbrev pub ReopenedAll : Type 0
ReopenedAll = (b : List ℕ) → Bytes b → accepted b ≡ true → Reopened b
