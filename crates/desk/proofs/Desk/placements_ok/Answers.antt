use Rattle.std.proofs.Common.{rules, tests, ℕ, ◌/◌, Bool, refl, ap, ◌∙◌}
use Rattle.std.proofs.lemmas.Iterator.{YieldsList-from_range}
use Rattle.std.proofs.lemmas.Iterator.Search.{all_from_yields_List}
use Rattle.desk.specs.Parts.{placement_at}
use Rattle.desk.specs.Acceptable.{placement_ok, placements_ok}
use Rattle.logic.proofs.LogicLaws.{range_all}
use Rattle.desk.proofs.Desk.placements_ok.Goals as goal

pub returns : goal.returns
unfolding placements_ok
returns c =
    let d = c.args.self in
    let test : ℕ → Bool = λ g. placement_ok c.table_count-tables.result (d.arena / 8) (placement_at d g) in
    all_from_yields_List test _ _ _ c.all.ensures.ran (YieldsList-from_range 0 8 8 (cc) refl) (λ x b q k. search (rules, tests))
    ∙ range_all 0 8 test ∙ ap (λ (n : ℕ). placements_ok 8 n (d.arena / 8) d) c.table_count-tables.ensures.0
