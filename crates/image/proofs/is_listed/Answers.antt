use Rattle.image.proofs.Fields.{listed_of}
use Rattle.image.proofs.is_listed.Goals as goal

pub returns : goal.returns
returns c =
    listed_of c.args.b.now c.args.i c.requires c.bads_in.ensures c.blocks_in.ensures c.bads_ok.ensures
