use Rattle.image.specs.Judged.{drive_good}
use Rattle.image.proofs.drive_good.Goals as goal

pub returns : goal.returns
unfolding drive_good
returns c = rw (c.and.ensures, c.obeys.ensures, c.drive_at.ensures, c.is_slot.ensures)
