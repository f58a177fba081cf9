use Rattle.std.proofs.lemmas.Result.{err_from_is_err_and}
use Rattle.std.specs.Prelude.{Ok}
use mathlib.Core.Path.{sym, ap, ◌∙◌}
use native.Mathlib.Omega.{arith}
use Rattle.desk.specs.Parts.{stage_at}
use Rattle.desk.specs.Calls.{WithdrawAnswer, done, withdraw_stage, withdraw_of}
use Rattle.desk.proofs.AcceptableLaws.{not_waiting-tag}
use Rattle.desk.proofs.CallsLaws.{refused_by, passed_by, passed-below, withdraw-other, withdraw_waiting, report_facts}
use Rattle.desk.proofs.NumbersLaws.{withdraw_answered}
use Rattle.desk.proofs.Desk.withdraw_lent.Goals as goal

pub returns-in_err-house : goal.returns-in_err-house
unfolding withdraw_of
returns-in_err-house c =
    let a = c.args in
    let d = a.self.now in
    let p = err_from_is_err_and c.from_residual.result c.from_residual.ensures.1 in
    withdraw_answered d a.guest a.arena.now a.store.now
    (refused_by _ _ _ (λ (x : WithdrawAnswer). done d x a.arena.now a.store.now) (withdraw_stage d a.guest (stage_at d a.guest) a.arena.now a.store.now) c.house.ensures c.in_err-house.was p.1 p.2)

pub stage_in-requires : goal.stage_in-requires
stage_in-requires c = passed-below c.args.guest (passed_by _ _ _ c.house.ensures c.in_ok-house.was)

pub returns-in_default : goal.returns-in_default
returns-in_default c =
    let a = c.args in
    let d = a.self.now in
    withdraw_answered d a.guest a.arena.now a.store.now
    (withdraw-other d a.guest a.arena.now a.store.now (passed_by _ _ _ c.house.ensures c.in_ok-house.was) (not_waiting-tag (stage_at d a.guest) (rw c.stage_in.ensures at c.in_default.not-Waiting)))

pub report_moved-requires : goal.report_moved-requires
report_moved-requires c =
    let a = c.args in
    let p = passed_by _ _ _ c.house.ensures c.in_ok-house.was in
    let f = report_facts a.self.now a.arena.now a.store.now a.guest c.in-Waiting.q p.acceptable p.lent (passed-below a.guest p) (sym c.stage_in.ensures ∙ c.in-Waiting.is) in
    (f.guest, f.packet, omega (arith, f.moved))

pub given_back-requires : goal.given_back-requires
given_back-requires c =
    let a = c.args in
    let p = passed_by _ _ _ c.house.ensures c.in_ok-house.was in
    (report_facts a.self.now a.arena.now a.store.now a.guest c.in-Waiting.q p.acceptable p.lent (passed-below a.guest p) (sym c.stage_in.ensures ∙ c.in-Waiting.is)).moved

pub returns : goal.returns
returns c =
    let a = c.args in
    let d = a.self.now in
    withdraw_answered d a.guest a.arena.now a.store.now
    (withdraw_waiting d a.guest a.arena.now a.store.now (passed_by _ _ _ c.house.ensures c.in_ok-house.was) c.in-Waiting.q (sym c.stage_in.ensures ∙ c.in-Waiting.is) c.set_stage.ensures (ap Ok c.given_back.ensures) c.report_moved.ensures)
