use Rattle.image.specs.Judged.{parameters_good}
use Rattle.image.proofs.parameters_good.Goals as goal

pub returns : goal.returns
unfolding parameters_good
returns c = rw (c.and.ensures, c.all_attached.ensures, c.below.ensures)
