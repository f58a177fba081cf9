use Rattle.table.proofs.TableLaws.{advanced-is}
use Rattle.table.proofs.advance.Goals as goal

pub returns : goal.returns
returns c =
    let a = c.args in
    advanced-is a.t.now a.c a.store c.step_at-step.ensures c.place_after.ensures
