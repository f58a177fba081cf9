use Rattle.std.proofs.lemmas.Result.{err_from_is_err_and}
use mathlib.Core.Path.{sym, ◌∙◌}
use Rattle.desk.specs.Parts.{stage_at}
use Rattle.desk.specs.Calls.{CollectAnswer, done, collect_stage, collect_of}
use Rattle.desk.proofs.CallsLaws.{not_finished-tag, refused_by, passed_by, passed-below, collect-other, collect-finished}
use Rattle.desk.proofs.NumbersLaws.{collect_answered}
use Rattle.desk.proofs.Desk.collect_lent.Goals as goal

pub returns-in_err-house_tests : goal.returns-in_err-house_tests
unfolding collect_of
returns-in_err-house_tests c =
    let a = c.args in
    let d = a.self.now in
    let p = err_from_is_err_and c.from_residual.result c.from_residual.ensures.1 in
    let tests = rw c.accept.ensures at c.house_tests.ensures.0 in
    collect_answered d a.guest
    (λ arena store. refused_by _ _ _ (λ (x : CollectAnswer). done d x arena store) (collect_stage d a.guest (stage_at d a.guest) arena store) tests c.in_err-house_tests.was p.1 p.2)

pub stage_in-requires : goal.stage_in-requires
stage_in-requires c = passed-below c.args.guest (passed_by _ _ _ c.house_tests.ensures.0 c.in_ok-house_tests.was)

pub returns-in_default : goal.returns-in_default
returns-in_default c =
    let a = c.args in
    let d = a.self.now in
    let p = passed_by _ _ _ (rw c.accept.ensures at c.house_tests.ensures.0) c.in_ok-house_tests.was in
    collect_answered d a.guest
    (λ arena store. collect-other d a.guest arena store p (not_finished-tag (stage_at d a.guest) (rw c.stage_in.ensures at c.in_default.not-Finished)))

pub returns : goal.returns
returns c =
    let a = c.args in
    let d = a.self.now in
    let p = passed_by _ _ _ (rw c.accept.ensures at c.house_tests.ensures.0) c.in_ok-house_tests.was in
    collect_answered d a.guest
    (λ arena store. rw c.set_stage.ensures (collect-finished d a.guest arena store p c.in-Finished.registers (sym c.stage_in.ensures ∙ c.in-Finished.is)))
