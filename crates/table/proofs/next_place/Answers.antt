use borrow.Author.Rules.{rules}
use mathlib.Core.Path.{◌≡◌}
use lib.ListN.{length}
use Rattle.logic.proofs.LogicLaws.{length_mapped}
use Rattle.table.proofs.TableLaws.{next-is}
use Rattle.table.proofs.next_place.Goals as goal

pub returns : goal.returns
returns c =
    let eight : length c.args.b.drives ≡ 8 = search (rules, length_mapped) in
    next-is c.args.b _ eight c.min.ensures c.records_length.ensures.0 c.records_length.ensures.1
