use Rattle.attached.proofs.BadLaws.{bads_stored}
use Rattle.attached.proofs.bads_in.Goals as goal

pub returns : goal.returns
returns c = bads_stored c.args.r.now c.requires.1 c.bad_count.ensures c.store.ensures
