use Rattle.table.proofs.TableLaws.{end-laid}
use Rattle.table.proofs.put_end.Goals as goal

pub returns : goal.returns
returns c =
    end-laid c.args.out.now c.args.at c.put.ensures c.put-2.ensures
