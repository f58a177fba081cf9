use Rattle.image.proofs.Judged.{table_many, table-bad, table_tests}
use Rattle.image.proofs.table_good.Goals as goal

pub returns-then-count-gt8 : goal.returns-then-count-gt8
returns-then-count-gt8 c = table_many c.args.b.now c.get-count.ensures c.if-count-gt8.true

pub returns-then-not-drives_good : goal.returns-then-not-drives_good
returns-then-not-drives_good c =
    table-bad c.args.b.now c.get-count.ensures c.if-count-gt8.false
    c.get.ensures c.drives_good.ensures c.if-not-drives_good.true

pub returns : goal.returns
returns c =
    table_tests c.args.b.now c.get-count.ensures c.if-count-gt8.false c.get.ensures c.drives_good.ensures
    c.if-not-drives_good.false c.rest_zero.ensures c.drives_apart.ensures c.and.ensures
