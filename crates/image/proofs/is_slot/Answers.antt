use Rattle.image.specs.Judged.{is_slot}
use Rattle.image.proofs.is_slot.Goals as goal

pub returns : goal.returns
unfolding is_slot
returns c =
    rw (c.and.ensures, c.get-2.ensures, c.and-names.ensures, c.get.ensures, c.and-bytes.ensures, c.below-3.ensures, c.and-numbers.ensures, c.below-2.ensures, c.below.ensures)
