use Rattle.table.proofs.Takes.{whole_bads}
use Rattle.table.proofs.take_record.Goals as goal

pub take_bads-requires : goal.take_bads-requires
take_bads-requires c = whole_bads _ _ c.requires c.in-3.is
