use Rattle.image.specs.Judged.{are_registers}
use Rattle.image.proofs.are_registers.Goals as goal

pub returns : goal.returns
unfolding are_registers
returns c = rw (c.and.ensures, c.below.ensures, c.get.ensures)
