use native.Mathlib.Omega.{arith}
use mathlib.Core.Path.{◌≡◌}
use Rattle.std.proofs.Common.{Ok, Some, None}
use Prim.Native.Nat.{◌+◌, ◌-◌}
use Rattle.table.proofs.TableLaws.{reads_first, reads_end}
use Rattle.table.proofs.Takes.{loop_next, loop_done, loop_refused}
use Rattle.table.proofs.read_table.Goals as goal

pub loop-init : goal.loop-init
loop-init c = reads_first c.args.t.now c.args.store c.empty_table-table.ensures

pub returns-in-Ok-None : goal.returns-in-Ok-None
returns-in-Ok-None c = let q : c.read_record.result ≡ Ok None = cc in loop_done (25 - c.loop.counter) _ _ _ _ (omega arith) c.read_record.ensures c.loop.invariant q

pub returns-in-Err : goal.returns-in-Err
returns-in-Err c = loop_refused (25 - c.loop.counter) _ _ _ _ (omega arith) c.read_record.ensures c.loop.invariant c.in-Err.is

pub loop-preserved : goal.loop-preserved
loop-preserved c =
    let one : 25 - (c.loop.counter + 1) ≡ 25 - c.loop.counter - 1 = omega arith in
    let q : c.read_record.result ≡ Ok (Some c.in-Ok-Some.next) = cc in
    rw one (loop_next (25 - c.loop.counter) _ _ _ _ (omega arith) c.read_record.ensures c.loop.invariant q)

pub returns : goal.returns
returns c = reads_end (25 - c.loop.counter) _ _ _ _ (omega arith) c.loop.invariant
