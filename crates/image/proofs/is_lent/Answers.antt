use Rattle.image.specs.Image.{read_desk}
use Rattle.image.proofs.is_lent.Goals as goal

pub returns : goal.returns
unfolding read_desk
returns c = rw (c.and.ensures, c.get-2.ensures, c.get.ensures)
