use Rattle.image.proofs.Fields.{bads-at}
use mathlib.Core.Path.{refl}
use Rattle.image.proofs.bads_in.Goals as goal

pub returns : goal.returns
returns c = bads-at c.args.b.now c.args.i c.requires refl c.load.ensures
