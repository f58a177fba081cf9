-- Demand 2, at the desk: a table that an opening took is written back as the same bytes.
-- Assumes nothing.
use Prim.Native.Nat.{ℕ, ◌/◌, ◌≤◌}
use mathlib.Core.Path.{◌≡◌, ap, ◌∙◌}
use mathlib.Core.List.{List, ◌++◌}
use lib.ListN.{length, drop}
use borrow.Author.Tests.{le-ltb}
use Rattle.std.specs.Prelude.{Ok}
use Rattle.words.specs.Words.{Bytes}
use Rattle.table.specs.Table.{table_of, write_answer, write_out}
use Rattle.table.proofs.WriteRead.{write-read-table}
use Rattle.memory.specs.Blocks.{block_length}
use Rattle.desk.specs.declared.Desk.{Desk}
use Rattle.desk.specs.Calls.{open_of, written_of, written_out}
use Rattle.isolation.proofs.Accept.{opened-desk, opened-table, inv_opened, inv_accept}

-- open, then write: the bytes of the table, and past them the buffer as it was
pub written_back : (t : List ℕ) (arena store : ℕ) (out : List ℕ) → Bytes t → (open_of t arena store).answer ≡ Ok tt → length t ≤ length out
    → (written_of (open_of t arena store).desk (length out) ≡ Ok (length t)) × (written_out (open_of t arena store).desk out ≡ t ++ drop (length t) out)
unfolding written_of written_out write_answer write_out
written_back t arena store out b e h =
    let d : Desk = (open_of t arena store).desk in
    let good = inv_accept d (inv_opened t arena store e) in
    let bytes : table_of d.table ≡ t = ap (λ (x : Desk). table_of x.table) (opened-desk t arena store e) ∙ write-read-table t (store / block_length) b (opened-table t arena store e) in
    (rw (good, bytes, le-ltb (length out) (length t) h), rw (good, bytes, le-ltb (length out) (length t) h))
