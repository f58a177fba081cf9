use Rattle.table.specs.Table.{written_numbers}
use Rattle.exports.specs.Exports.{over}
use Rattle.exports.proofs.write_out.Goals as goal

pub returns-in-Ok : goal.returns-in-Ok
unfolding over written_numbers
returns-in-Ok c = let w = c.write_table.ensures in (rw (← w.0, c.in-Ok.is), w.1)

pub returns-in-Err : goal.returns-in-Err
unfolding over written_numbers
returns-in-Err c = let w = c.write_table.ensures in (rw (← w.0, c.in-Err.is), w.1)
