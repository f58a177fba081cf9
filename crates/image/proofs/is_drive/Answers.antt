use Rattle.image.proofs.Fields.{known}
use Rattle.image.proofs.is_drive.Goals as goal

pub returns : goal.returns
returns c = known c.args.b.now c.args.n _ _ c.count_of-end.ensures.0 c.and.ensures
