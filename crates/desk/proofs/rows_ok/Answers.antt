use Rattle.std.proofs.Common.{rules, tests, ◌≡◌, length, ◌∙◌}
use Rattle.std.proofs.lemmas.Iterator.{YieldsList-from_slice}
use Rattle.std.proofs.lemmas.Iterator.Search.{all_from_yields_List}
use Rattle.logic.proofs.LogicLaws.{length_mapped}
use Rattle.desk.specs.declared.Row.{Row}
use Rattle.desk.specs.Acceptable.{stage_ok}
use Rattle.desk.proofs.AcceptableLaws.{rows_all}
use Rattle.desk.proofs.rows_ok.Goals as goal

pub returns : goal.returns
returns c =
    let a = c.args in
    let l : length a.rows ≡ 8 = search (rules, length_mapped) in
    all_from_yields_List (λ (row : Row). stage_ok a.b a.m row.stage) _ _ _ c.all.ensures.ran (YieldsList-from_slice a.rows cc) (λ x b q k. search (rules, tests)) ∙ rows_all a.rows a.b a.m l
