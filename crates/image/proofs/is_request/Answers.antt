use Rattle.image.specs.Judged.{is_request}
use Rattle.image.proofs.is_request.Goals as goal

pub returns : goal.returns
unfolding is_request
returns c = rw (c.and.ensures, c.are_registers.ensures, c.get.ensures)
