use Rattle.image.specs.Image.{put_stage}
use Rattle.image.proofs.put_stage.Goals as goal

pub returns : goal.returns
unfolding put_stage
returns c = rw (← c.stage_words-w.ensures) c.put_words.ensures
