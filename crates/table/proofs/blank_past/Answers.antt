use mathlib.Core.Path.{refl, ◌∙◌}
use Prim.Native.Nat.{ℕ, ◌-◌}
use borrow.Author.Rules.{rules}
use borrow.Author.Tests.{tests}
use lib.ListN.{get_or}
use Rattle.std.proofs.lemmas.Iterator.{YieldsList-from_range}
use Rattle.std.proofs.lemmas.Iterator.Search.{all_from_yields_List}
use Rattle.logic.proofs.LogicLaws.{range_all, all_past}
use Rattle.drive.specs.Drive.{is_blank}
use Rattle.table.specs.Table.{no_drive, blank_to}
use Rattle.table.proofs.blank_past.Goals as goal

pub returns : goal.returns
unfolding blank_to
returns c =
    let b = c.args.b.now in
    all_from_yields_List (λ (i : ℕ). is_blank (get_or b.drives i no_drive)) _ _ _ c.all.ensures.ran (YieldsList-from_range b.count 8 _ refl refl) (λ x r q k. search (rules, tests))
    ∙ range_all b.count (8 - b.count) (λ (i : ℕ). is_blank (get_or b.drives i no_drive)) ∙ all_past 8 b.count (λ (i : ℕ). is_blank (get_or b.drives i no_drive)) c.requires
