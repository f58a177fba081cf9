-- Demand 2 for the drive table, whole.
-- Assumes nothing.
use Prim.Native.Nat.{ℕ}
use Rattle.table.specs.Demand2.{Demand2}
use Rattle.table.proofs.WriteRead.{write-read-table}
use Rattle.table.proofs.ReadWrite.{read-written}

pub demand_2 : (store : ℕ) → Demand2 store
demand_2 store = record { written = λ t. write-read-table t store; read = λ b. read-written b store }
