use native.Mathlib.Omega.{arith}
use native.Mathlib.Nat.{zero-add}
use mathlib.Core.Path.{refl, ◌∙◌}
use borrow.Author.Rules.{rules}
use borrow.Author.Tests.{tests}
use Rattle.std.proofs.lemmas.Iterator.{YieldsList-from_range}
use Rattle.std.proofs.lemmas.Iterator.Search.{all_from_yields_List}
use lib.ListN.{length}
use Rattle.logic.proofs.LogicLaws.{range_all}
use Rattle.table.specs.Table.{taken_at, sound_to}
use Rattle.table.proofs.sound_to.Goals as goal

pub returns : goal.returns
unfolding sound_to
returns c =
    all_from_yields_List (taken_at c.args.drives.now c.args.store) _ _ _ c.all.ensures.ran (YieldsList-from_range 0 (length c.args.drives.now) (length c.args.drives.now) refl (omega arith)) (λ x b q k. search (rules, tests)) ∙ simp zero-add at (range_all 0 (length c.args.drives.now) (taken_at c.args.drives.now c.args.store))
