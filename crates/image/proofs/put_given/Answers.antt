use Rattle.image.proofs.Fill.{flat_words}
use Rattle.words.specs.Words.{Bytes}
use native.Mathlib.Omega.{arith}
use mathlib.Core.Path.{sym, ap, ◌∙◌}
use lib.Seq.{sets}
use Rattle.image.proofs.put_given.Goals as goal

pub returns : goal.returns
returns c =
    let bytes : Bytes c.args.bytes.now = λ i. omega (arith, c.fits-bytes i) in
    c.store.ensures ∙ ap (sets c.args.out.now 2720) (sym (flat_words c.args.bytes.now 14 bytes c.told-bytes))
