use Rattle.image.specs.Judged.{follows}
use Rattle.image.proofs.next_follows.Goals as goal

pub returns : goal.returns
unfolding follows
returns c = rw (c.and.ensures, c.ends_by.ensures, c.blocks_in.ensures, c.first_in-next.ensures, c.first_in-first.ensures)
