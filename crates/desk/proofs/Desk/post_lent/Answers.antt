use Rattle.std.proofs.lemmas.Result.{err_from_is_err_and}
use mathlib.Core.Path.{refl, sym, ◌∙◌}
use Rattle.desk.specs.Parts.{stage_at}
use Rattle.desk.specs.Calls.{PostAnswer, done, post_row, post_of}
use Rattle.desk.proofs.CallsLaws.{not_vacant-tag, refused_by, passed_by, passed-below, post-other, post-vacant}
use Rattle.desk.proofs.NumbersLaws.{post_answered}
use Rattle.desk.proofs.Desk.post_lent.Goals as goal

pub returns-in_err-house : goal.returns-in_err-house
unfolding post_of
returns-in_err-house c =
    let a = c.args in
    let d = a.self.now in
    let p = err_from_is_err_and c.from_residual.result c.from_residual.ensures.1 in
    post_answered d a.guest a.registers a.arena.now a.store.now
    (refused_by _ _ _ (λ (x : PostAnswer). done d x a.arena.now a.store.now) (post_row d a.guest a.registers a.arena.now a.store.now (stage_at d a.guest)) c.house.ensures c.in_err-house.was p.1 p.2)

pub stage_in-requires : goal.stage_in-requires
stage_in-requires c = passed-below c.args.guest (passed_by _ _ _ c.house.ensures c.in_ok-house.was)

pub returns-in_default : goal.returns-in_default
returns-in_default c =
    let a = c.args in
    let d = a.self.now in
    post_answered d a.guest a.registers a.arena.now a.store.now
    (post-other d a.guest a.arena.now a.store.now (passed_by _ _ _ c.house.ensures c.in_ok-house.was) a.registers (not_vacant-tag (stage_at d a.guest) (rw c.stage_in.ensures at c.in_default.not-Vacant)))

pub placement-requires : goal.placement-requires
placement-requires c = passed-below c.args.guest (passed_by _ _ _ c.house.ensures c.in_ok-house.was)

pub posted-answer-requires : goal.posted-answer-requires
posted-answer-requires c = passed-below c.args.guest (passed_by _ _ _ c.house.ensures c.in_ok-house.was)

pub returns : goal.returns
returns c =
    let a = c.args in
    let d = a.self.now in
    let k = c.begin_own-outcome.ensures in
    let own = c.placement.ensures in
    post_answered d a.guest a.registers a.arena.now a.store.now
    (rw (k.1, own) (post-vacant d a.guest a.arena.now a.store.now (passed_by _ _ _ c.house.ensures c.in_ok-house.was) a.registers (sym c.stage_in.ensures ∙ c.in-Vacant.is) (rw own at k.0) refl c.posted-answer.ensures.0 c.posted-answer.ensures.1))
