use mathlib.Core.Path.{refl, ◌∙◌}
use lib.Dec.{eqb}
use Prim.Native.Nat.{ℕ}
use borrow.Author.Rules.{rules}
use borrow.Author.Tests.{tests}
use Rattle.std.proofs.lemmas.Iterator.{YieldsList-from_range}
use Rattle.std.proofs.lemmas.Iterator.Search.{all_from_yields_List}
use Rattle.attached.specs.Bad.{bad_at}
use Rattle.attached.proofs.BadLaws.{past_listed}
use Rattle.attached.proofs.zero_past.Goals as goal

pub returns : goal.returns
returns c =
    let l = c.args.l in
    all_from_yields_List (λ (j : ℕ). eqb (bad_at l j) 0) _ _ _ c.all.ensures.ran (YieldsList-from_range c.held.result 16 _ refl refl) (λ x b q k. search (rules, tests))
    ∙ past_listed l c.held.ensures.0
