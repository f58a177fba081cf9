use Rattle.image.specs.Judged.{places_good}
use Rattle.image.proofs.places_good.Goals as goal

pub returns : goal.returns
unfolding places_good
returns c =
    rw (c.and.ensures, c.placements_ok.ensures, c.table_count.ensures, c.below.ensures)
