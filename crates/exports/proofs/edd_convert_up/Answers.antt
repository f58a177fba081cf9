use Rattle.convert.specs.Convert.{conversion_number}
use Rattle.exports.specs.Exports.{up_call}
use Rattle.exports.proofs.edd_convert_up.Goals as goal

pub returns-in-Ok : goal.returns-in-Ok
unfolding up_call conversion_number
returns-in-Ok c = rw (← c.up.ensures.0, c.in-Ok.is, c.up.ensures.1)

pub returns-in-Err : goal.returns-in-Err
unfolding up_call conversion_number
returns-in-Err c = rw (← c.up.ensures.0, c.in-Err.is, c.up.ensures.1)
