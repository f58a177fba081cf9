use Rattle.std.proofs.lemmas.Result.{err_from_is_err_and}
use Rattle.std.specs.Prelude.{Ok, Some}
use mathlib.Core.Path.{◌≡◌, sym, ap, ◌∙◌}
use mathlib.Core.Bool.{true}
use mathlib.Core.List.{List}
use Prim.Native.Nat.{ℕ, ◌<◌}
use native.Mathlib.Omega.{arith}
use Rattle.attached.specs.declared.Bads.{Bads}
use Rattle.int13.specs.Steps.{is_drive, bads_of, drive_at}
use Rattle.desk.specs.declared.Request.{Request}
use Rattle.desk.specs.declared.Service.{Service}
use Rattle.desk.specs.declared.Served.{Served}
use Rattle.desk.specs.declared.Stage.TheVariants.{Waiting}
use Rattle.desk.specs.declared.Desk.{Desk}
use Rattle.desk.specs.Parts.{stage_at}
use Rattle.desk.specs.Acceptable.{accept}
use Rattle.desk.specs.Calls.{TurnAnswer, is_lent, done, first_waiting, service_of, bads_for, Transferred, turn_next, turn_of}
use Rattle.desk.proofs.AcceptableLaws.{not_waiting-tag, accept_true}
use Rattle.desk.proofs.CallsLaws.{refused_by, Passed, passed_by, turn_nobody, turn-other, turn-served, seek-below, waiting_facts, servable, in-range, ending_facts}
use Rattle.desk.proofs.NumbersLaws.{turn_answered}
use Rattle.desk.proofs.Desk.serve_next.Goals as goal

-- the guest that the search has found
below : (d : Desk) (arena store : List ℕ) (g : ℕ) → Passed (accept d) (is_lent d arena store) true → first_waiting d.rows 8 d.pointer ≡ Some g → g < 8
below d arena store g p f = seek-below d.rows 8 d.pointer g (accept_true d p.acceptable).pointer f

-- acceptance knows the drive of the request that its row waits with
drive : (d : Desk) (arena store : List ℕ) (g : ℕ) (q : Request) → Passed (accept d) (is_lent d arena store) true → g < 8 → stage_at d g ≡ Waiting q → is_drive d.table q.job.drive ≡ true
drive d arena store g q p b row = (waiting_facts d g q p.acceptable b row).job.drive

-- what the turn does to it
service : {s : Service} {l : Bads} (d : Desk) (q : Request) → s ≡ service_of l q → l ≡ bads_of d.table q.job.drive → s ≡ service_of (bads_for d q) q
service d q e l = e ∙ ap (λ (x : Bads). service_of x q) l

pub returns-in_err-house : goal.returns-in_err-house
unfolding turn_of
returns-in_err-house c =
    let d = c.args.self.now in
    let arena = c.args.arena.now in
    let store = c.args.store.now in
    let p = err_from_is_err_and c.from_residual.result c.from_residual.ensures.1 in
    turn_answered d arena store
    (refused_by _ _ _ (λ (x : TurnAnswer). done d x arena store) (turn_next d (first_waiting d.rows 8 d.pointer) arena store) c.house.ensures c.in_err-house.was p.1 p.2)

pub next_waiting-requires : goal.next_waiting-requires
next_waiting-requires c =
    let p = passed_by _ _ _ c.house.ensures c.in_ok-house.was in
    (accept_true c.args.self.now p.acceptable).pointer

pub returns-in_default : goal.returns-in_default
returns-in_default c =
    let d = c.args.self.now in
    let arena = c.args.arena.now in
    let store = c.args.store.now in
    turn_answered d arena store (turn_nobody d arena store (passed_by _ _ _ c.house.ensures c.in_ok-house.was) (sym c.next_waiting.ensures ∙ c.in_default.is))

pub stage_in-requires : goal.stage_in-requires
stage_in-requires c =
    let a = c.args in
    below a.self.now a.arena.now a.store.now c.in-Some.guest (passed_by _ _ _ c.house.ensures c.in_ok-house.was) (sym c.next_waiting.ensures ∙ c.in-Some.is)

pub returns-in_default-stage_in : goal.returns-in_default-stage_in
returns-in_default-stage_in c =
    let d = c.args.self.now in
    let arena = c.args.arena.now in
    let store = c.args.store.now in
    let g = c.in-Some.guest in
    turn_answered d arena store
    (turn-other d arena store (passed_by _ _ _ c.house.ensures c.in_ok-house.was) g (sym c.next_waiting.ensures ∙ c.in-Some.is) (not_waiting-tag (stage_at d g) (rw c.stage_in.ensures at c.in_default-stage_in.not-Waiting)))

pub service_of-service-requires : goal.service_of-service-requires
service_of-service-requires c =
    let d = c.args.self.now in
    let arena = c.args.arena.now in
    let store = c.args.store.now in
    let g = c.in-Some.guest in
    let p = passed_by _ _ _ c.house.ensures c.in_ok-house.was in
    let b = below d arena store g p (sym c.next_waiting.ensures ∙ c.in-Some.is) in
    let row = sym c.stage_in.ensures ∙ c.in-Waiting.is in
    servable d arena store g c.in-Waiting.q p b row (omega arith)

pub transfer-requires : goal.transfer-requires
transfer-requires c =
    let d = c.args.self.now in
    let arena = c.args.arena.now in
    let store = c.args.store.now in
    let g = c.in-Some.guest in
    let q = c.in-Waiting.q in
    let p = passed_by _ _ _ c.house.ensures c.in_ok-house.was in
    let b = below d arena store g p (sym c.next_waiting.ensures ∙ c.in-Some.is) in
    let row = sym c.stage_in.ensures ∙ c.in-Waiting.is in
    rw (c.drive_at-d.ensures.1 (drive d arena store g q p b row))
    (in-range d arena store g q p b row (omega arith) (omega arith) (service d q c.service_of-service.ensures c.bads_of.ensures))

pub report_ending-requires : goal.report_ending-requires
report_ending-requires c =
    let d = c.args.self.now in
    let arena = c.args.arena.now in
    let store = c.args.store.now in
    let g = c.in-Some.guest in
    let q = c.in-Waiting.q in
    let p = passed_by _ _ _ c.house.ensures c.in_ok-house.was in
    let b = below d arena store g p (sym c.next_waiting.ensures ∙ c.in-Some.is) in
    let row = sym c.stage_in.ensures ∙ c.in-Waiting.is in
    ending_facts d arena store c.drive_at-d.result.first g q p.acceptable p.lent b row (service d q c.service_of-service.ensures c.bads_of.ensures) c.transfer.ensures

pub returns : goal.returns
returns c =
    let d = c.args.self.now in
    let arena = c.args.arena.now in
    let store = c.args.store.now in
    let g = c.in-Some.guest in
    let q = c.in-Waiting.q in
    let p = passed_by _ _ _ c.house.ensures c.in_ok-house.was in
    let found = sym c.next_waiting.ensures ∙ c.in-Some.is in
    let b = below d arena store g p found in
    let row = sym c.stage_in.ensures ∙ c.in-Waiting.is in
    let moved : Transferred (drive_at d.table q.job.drive).first q c.service_of-service.result.moved g arena store _ _ = rw (c.drive_at-d.ensures.1 (drive d arena store g q p b row)) at c.transfer.ensures in
    turn_answered d arena store
    (turn-served d arena store p g q found row (service d q c.service_of-service.ensures c.bads_of.ensures) c.served.ensures.0 (ap (λ (x : Served). Ok (Some x)) c.served.ensures.1) moved c.report_ending.ensures)
