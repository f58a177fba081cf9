use Rattle.convert.specs.Convert.{conversion_number}
use Rattle.exports.specs.Exports.{down_call}
use Rattle.exports.proofs.edd_convert_down.Goals as goal

pub returns-in-Ok : goal.returns-in-Ok
unfolding down_call conversion_number
returns-in-Ok c = rw (← c.down.ensures.0, c.in-Ok.is, c.down.ensures.1)

pub returns-in-Err : goal.returns-in-Err
unfolding down_call conversion_number
returns-in-Err c = rw (← c.down.ensures.0, c.in-Err.is, c.down.ensures.1)
