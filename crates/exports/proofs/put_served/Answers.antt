use Rattle.exports.proofs.put_served.Goals as goal

pub returns : goal.returns
returns c = rw (c.put_pointer.ensures, c.put_stage.ensures)
