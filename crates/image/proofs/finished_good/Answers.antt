use Rattle.image.specs.Judged.{finished_good}
use Rattle.image.proofs.finished_good.Goals as goal

pub returns : goal.returns
unfolding finished_good
returns c = rw (c.and.ensures, c.are_registers.ensures, c.below.ensures)
