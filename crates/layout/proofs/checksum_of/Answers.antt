use borrow.Author.Rules.{rules}
use mathlib.Core.Path.{◌≡◌}
use Prim.Native.Nat.{◌+◌, ◌%◌}
use native.Mathlib.Omega.{arith}
use Rattle.std.specs.Prelude.{fold}
use Rattle.layout.proofs.ResultBufferLaws.{fold_sum}
use Rattle.layout.proofs.checksum_of.Goals as goal

pub returns : goal.returns
returns c =
    let s = c.args.s.now in
    let e : c.fold.result ≡ fold (λ t x. (t + x) % 256) 0 s = search rules in
    omega (arith, e, fold_sum s, c.wrapping_neg.ensures)
