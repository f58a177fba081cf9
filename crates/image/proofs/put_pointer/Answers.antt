use Rattle.image.specs.Image.{put_pointer}
use Rattle.image.proofs.put_pointer.Goals as goal

pub returns : goal.returns
unfolding put_pointer
returns c = c.put.ensures
