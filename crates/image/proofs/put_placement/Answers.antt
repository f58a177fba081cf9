use Rattle.image.specs.Image.{put_placement}
use mathlib.Core.Path.{◌∙◌}
use Rattle.image.proofs.put_placement.Goals as goal

pub returns : goal.returns
unfolding put_placement
returns c = c.put-2.ensures ∙ rw c.put.ensures
