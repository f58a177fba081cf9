use Rattle.feed.specs.Feed.{fed_numbers}
use Rattle.exports.specs.Exports.{over}
use Rattle.exports.proofs.say.Goals as goal

pub returns-in-More : goal.returns-in-More
unfolding over fed_numbers
returns-in-More c = rw (← c.answer.ensures, c.in-More.is)

pub returns-in-Accepted : goal.returns-in-Accepted
unfolding over fed_numbers
returns-in-Accepted c = rw (← c.answer.ensures, c.in-Accepted.is)

pub returns-in-Refused : goal.returns-in-Refused
unfolding over fed_numbers
returns-in-Refused c = rw (← c.answer.ensures, c.in-Refused.is)
