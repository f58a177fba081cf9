use Rattle.image.proofs.Fill.{part-more}
use Rattle.image.specs.Image.{each}
use native.Mathlib.Omega.{arith}
use Prim.Native.Nat.{◌+◌, ◌*◌}
use mathlib.Core.Path.{refl}
use Rattle.image.proofs.put_each.Goals as goal

pub loop-k-init : goal.loop-k-init
unfolding each
loop-k-init g c = refl

pub loop-k-preserved : goal.loop-k-preserved
loop-k-preserved g c =
    let a = c.args in
    let k = c.loop-k.k in
    rw (c.put_words.ensures, c.loop-k.invariant, c.words.ensures)
    (part-more g.T.Words.words g.row.N g.met.T.Words.wide a.out.now a.at (a.at + 8 * (g.row.N * k)) a.items.now k c.index-items-k.result (omega arith) refl)
