use Rattle.chs.specs.Chs.{block_numbers}
use Rattle.exports.specs.Exports.{over, block_call}
use Rattle.exports.proofs.edd_block.Goals as goal

pub returns-in-Ok : goal.returns-in-Ok
unfolding block_call over block_numbers
returns-in-Ok c = rw (← c.block_of.ensures.0, c.in-Ok.is)

pub returns-in-Err : goal.returns-in-Err
unfolding block_call over block_numbers
returns-in-Err c = rw (← c.block_of.ensures.0, c.in-Err.is)
