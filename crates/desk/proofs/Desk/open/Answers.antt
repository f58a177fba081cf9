use Rattle.desk.specs.Calls.{open_of}
use Rattle.desk.proofs.NumbersLaws.{open_answered}
use Rattle.desk.proofs.Desk.open.Goals as goal

pub returns-in-Ok : goal.returns-in-Ok
unfolding open_of
returns-in-Ok c = open_answered _ _ _ (rw (c.vacant-desk.ensures, ← c.read_table-reading.ensures.reading, c.in-Ok.is))

pub returns-in-Err : goal.returns-in-Err
unfolding open_of
returns-in-Err c = open_answered _ _ _ (rw (c.vacant-desk-in-Err.ensures, c.empty_table.ensures, ← c.read_table-reading.ensures.reading, c.in-Err.is))
