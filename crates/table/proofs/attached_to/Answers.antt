use mathlib.Core.Path.{refl, ◌∙◌}
use borrow.Author.Rules.{rules}
use borrow.Author.Tests.{tests}
use Rattle.std.proofs.lemmas.Iterator.{YieldsList-from_range}
use Rattle.std.proofs.lemmas.Iterator.Search.{all_from_yields_List}
use Rattle.logic.proofs.LogicLaws.{range_all}
use Rattle.table.specs.Table.{attached_at, attached_to}
use Rattle.table.proofs.attached_to.Goals as goal

pub returns : goal.returns
unfolding attached_to
returns c =
    all_from_yields_List (attached_at c.args.b.now) _ _ _ c.all.ensures.ran (YieldsList-from_range 0 8 _ refl refl) (λ x b q k. search (rules, tests)) ∙ range_all 0 8 (attached_at c.args.b.now)
