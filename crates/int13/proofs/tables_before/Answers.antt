use Rattle.std.proofs.Common.{rules, tests, arith, ◌≡◌, Bool, take, length, ◌∙◌}
use Rattle.std.specs.List.{filter}
use Rattle.std.proofs.lemmas.List.Sums.{length-filter}
use Rattle.std.proofs.lemmas.Iterator.{YieldsList-from_slice}
use Rattle.std.proofs.lemmas.Iterator.Consumers.{count_from_yields_List, YieldsList-at, YieldsList-from_filter}
use Rattle.logic.proofs.LogicLaws.{length_mapped}
use Rattle.int13.proofs.PlacementLaws.{parameters_to-most, counted_to}
use Rattle.int13.proofs.tables_before.Goals as goal

pub returns : goal.returns
returns c =
    let a = c.args in
    let l : length a.b.present ≡ 8 = search (rules, length_mapped) in
    let kept : c.count.result ≡ length (filter (λ (t : Bool). t) (take a.n a.b.present)) =
    count_from_yields_List c.filter.result c.count.result c.count.ensures.ran
    (YieldsList-from_filter _ (λ (t : Bool). t) (YieldsList-at c.filter.ensures.source (YieldsList-from_slice (take a.n a.b.present) cc)) c.filter.ensures.closure (λ x r q k. search (rules, tests))) in
    let e = kept ∙ length-filter (λ (t : Bool). t) (take a.n a.b.present) ∙ counted_to a.n a.b (omega arith) in
    (e, omega (arith, parameters_to-most a.n a.b))
