use mathlib.Core.Path.{refl, ◌∙◌}
use borrow.Author.Rules.{rules}
use borrow.Author.Tests.{tests}
use Rattle.std.proofs.lemmas.Iterator.{YieldsList-from_range}
use Rattle.std.proofs.lemmas.Iterator.Search.{all_from_yields_List}
use Rattle.logic.proofs.LogicLaws.{range_all}
use Rattle.table.specs.Table.{listed_at, listed_to}
use Rattle.table.proofs.listed_to.Goals as goal

pub returns : goal.returns
unfolding listed_to
returns c =
    all_from_yields_List (listed_at c.args.b.now) _ _ _ c.all.ensures.ran (YieldsList-from_range 0 8 _ refl refl) (λ x b q k. search (rules, tests)) ∙ range_all 0 8 (listed_at c.args.b.now)
