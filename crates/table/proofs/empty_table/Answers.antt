use Rattle.drive.proofs.DriveLaws.{zero_fields}
use Rattle.table.proofs.empty_table.Goals as goal

pub returns : goal.returns
returns c = rw (zero_fields c.default.result c.default.ensures)
