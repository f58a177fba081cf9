use Rattle.image.proofs.Fill.{each_same, bads_laid}
use Rattle.image.specs.Image.{flat}
use Rattle.words.specs.Words.{Bytes}
use Prim.Native.Nat.{ℕ}
use native.Mathlib.Omega.{arith}
use mathlib.Core.Path.{ap, ◌∙◌}
use mathlib.Core.List.{List}
use lib.Seq.{sets}
use Rattle.image.proofs.put_bads.Goals as goal

pub returns : goal.returns
returns c =
    let a = c.args in
    let bytes : Bytes a.bad.now = λ i. omega (arith, c.fits-bad i) in
    bads_laid a.out.now 2832 a.counts.now a.bad.now c.told-counts bytes c.told-bad
    (c.put_each.ensures ∙ ap (λ (x : List ℕ). sets a.out.now 2832 (flat x)) (each_same a.counts.now)) c.store.ensures
