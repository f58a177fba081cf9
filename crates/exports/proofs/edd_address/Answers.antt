use Rattle.chs.specs.Chs.{address_numbers}
use Rattle.exports.specs.Exports.{over, address_call}
use Rattle.exports.proofs.edd_address.Goals as goal

pub returns-in-Ok : goal.returns-in-Ok
unfolding address_call over address_numbers
returns-in-Ok c = rw (← c.address_of.ensures.0, c.in-Ok.is)

pub returns-in-Err : goal.returns-in-Err
unfolding address_call over address_numbers
returns-in-Err c = rw (← c.address_of.ensures.0, c.in-Err.is)
