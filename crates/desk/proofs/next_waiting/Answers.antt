use native.Mathlib.Omega.{arith}
use Prim.Native.Nat.{◌+◌, ◌-◌, ◌%◌}
use mathlib.Core.Path.{◌≡◌, sym, ◌∙◌}
use Rattle.desk.proofs.Searches.{seek_here, seek_on, seek-none}
use Rattle.desk.proofs.next_waiting.Goals as goal

pub loop-i-init : goal.loop-i-init
loop-i-init c =
    let start : (c.args.pointer + 0) % 8 ≡ c.args.pointer = omega arith in
    rw start

pub returns-then-waits : goal.returns-then-waits
returns-then-waits c =
    let waits = rw c.stage_in.ensures at (sym c.waits.ensures ∙ c.if-waits.true) in
    seek_here c.args.rows (8 - c.loop-i.i) ((c.args.pointer + c.loop-i.i) % 8) (omega arith) waits ∙ c.loop-i.invariant

pub loop-i-preserved : goal.loop-i-preserved
loop-i-preserved c =
    let left : 8 - (c.loop-i.i + 1) ≡ 8 - c.loop-i.i - 1 = omega arith in
    let next : (c.args.pointer + (c.loop-i.i + 1)) % 8 ≡ ((c.args.pointer + c.loop-i.i) % 8 + 1) % 8 = omega arith in
    let waits = rw c.stage_in.ensures at (sym c.waits.ensures ∙ c.if-waits.false) in
    rw (left, next) (seek_on c.args.rows (8 - c.loop-i.i) ((c.args.pointer + c.loop-i.i) % 8) (omega arith) waits ∙ c.loop-i.invariant)

pub returns : goal.returns
returns c = seek-none c.args.rows (8 - c.loop-i.i) ((c.args.pointer + c.loop-i.i) % 8) (omega arith) ∙ c.loop-i.invariant
