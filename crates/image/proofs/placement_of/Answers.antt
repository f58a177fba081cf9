use Rattle.image.proofs.Fields.{placement-at}
use Rattle.image.proofs.placement_of.Goals as goal

pub returns : goal.returns
returns c =
    placement-at c.args.b.now c.args.guest c.requires c.mark_at.ensures c.get.ensures
