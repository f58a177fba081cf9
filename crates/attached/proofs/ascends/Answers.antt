use mathlib.Core.Path.{refl, ◌∙◌}
use lib.Dec.{ltb}
use Prim.Native.Nat.{ℕ, ◌-◌}
use borrow.Author.Rules.{rules}
use borrow.Author.Tests.{tests}
use Rattle.std.proofs.lemmas.Iterator.{YieldsList-from_range}
use Rattle.std.proofs.lemmas.Iterator.Search.{all_from_yields_List}
use Rattle.attached.specs.Bad.{bad_at}
use Rattle.attached.proofs.BadLaws.{neighbours}
use Rattle.attached.proofs.ascends.Goals as goal

pub returns : goal.returns
returns c =
    let l = c.args.l in
    all_from_yields_List (λ (j : ℕ). ltb (bad_at l (j - 1)) (bad_at l j)) _ _ _ c.all.ensures.ran (YieldsList-from_range 1 c.held.result _ refl refl) (λ x b q k. search (rules, tests))
    ∙ neighbours l c.held.ensures.0
