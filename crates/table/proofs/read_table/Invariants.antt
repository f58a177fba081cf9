use mathlib.Core.Path.{◌≡◌}
use Prim.Native.Nat.{◌-◌}
use Rattle.table.specs.Table.{read_from, read_table}
use Rattle.table.proofs.read_table.Given as goal

abbrev pub invariant-loop : goal.invariant-loop
invariant-loop l = read_from (25 - l.counter) l.t l.store l.at l.table ≡ read_table l.t l.store
