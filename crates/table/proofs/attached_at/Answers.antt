use native.Mathlib.Omega.{arith}
use mathlib.Core.Path.{◌≡◌}
use borrow.Author.Rules.{rules}
use Prim.Native.Nat.{◌*◌}
use lib.ListN.{length}
use Rattle.table.proofs.Takes.{zeros_part}
use Rattle.table.proofs.attached_at.Goals as goal

pub returns-else-b-i : goal.returns-else-b-i
returns-else-b-i c =
    let b = c.args.b.now in
    let l : length b.parameters ≡ 112 = search rules in
    let e = rw c.bytes_at.ensures at c.eq.ensures in
    rw (e, c.if-b-i.false) (zeros_part b.parameters (14 * c.args.i) (omega arith))
