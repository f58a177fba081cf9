use Rattle.image.proofs.Fields.{waiting_of}
use mathlib.Core.Path.{sym}
use Rattle.image.proofs.is_waiting.Goals as goal

pub returns : goal.returns
returns c = sym (waiting_of c.args.b.now c.args.guest c.requires)
