use Rattle.image.proofs.Fill.{word_more}
use Rattle.image.specs.Image.{each}
use mathlib.Core.Path.{refl, ◌∙◌}
use Rattle.image.proofs.put_words.Goals as goal

pub loop-j-init : goal.loop-j-init
unfolding each
loop-j-init c = refl

pub loop-j-preserved : goal.loop-j-preserved
loop-j-preserved c = let a = c.args in c.put.ensures ∙ rw c.loop-j.invariant (word_more a.out.now a.at a.w.now c.loop-j.j c.loop-j-test.true)
