use Rattle.table.proofs.Takes.{parameters_other, parameters_takes}
use Rattle.table.proofs.take_parameters.Goals as goal

pub returns-then-not-names_last : goal.returns-then-not-names_last
returns-then-not-names_last c = parameters_other c.args.r.now c.args.b.now c.args.store c.number_in-number.ensures c.names_last.ensures c.if-not-names_last.true

pub returns : goal.returns
returns c = parameters_takes c.args.r.now c.args.b.now c.args.store c.number_in-number.ensures c.names_last.ensures c.if-not-names_last.false c.parameters_in.ensures c.store.ensures
