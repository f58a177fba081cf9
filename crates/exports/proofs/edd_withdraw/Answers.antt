use mathlib.Core.Path.{◌≡◌, refl, sym, ◌∙◌}
use mathlib.Core.List.{List}
use Prim.Native.Nat.{ℕ, ◌<◌}
use native.Mathlib.Omega.{arith}
use lib.ListN.{length}
use lib.Dec.{ltb}
use Rattle.std.specs.Prelude.{Result, Err}
use Rattle.words.specs.Words.{Bytes}
use borrow.Author.Tests.{ltb-true}
use Rattle.desk.specs.declared.Request.{Request}
use Rattle.desk.specs.declared.Stage.{Stage}
use Rattle.desk.specs.declared.Stage.TheVariants.{Vacant, Waiting}
use Rattle.desk.specs.Parts.{stage_at}
use Rattle.desk.specs.Acceptable.{accept}
use Rattle.desk.specs.declared.HouseNumber.{HouseNumber}
use Rattle.desk.specs.Calls.{house_answer, is_lent, done, withdraw_stage, withdraw_of}
use Rattle.desk.specs.Numbers.{withdraw_numbers}
use Rattle.desk.proofs.AcceptableLaws.{not_waiting-tag}
use Rattle.desk.proofs.CallsLaws.{refused_by, Passed, passed_by, passed-below, withdraw-other, withdraw_waiting, Report, report_facts}
use Rattle.image.specs.Image.{read_desk, desk_of}
use Rattle.exports.specs.Exports.{over, withdraw_call}
use Rattle.exports.proofs.Exports.{no_block, stage_read, put_row}
use Rattle.exports.proofs.edd_withdraw.Goals as goal

refused : {h : Result (Unit {0}) HouseNumber} {e : HouseNumber} (b arena store : List ℕ) (g : ℕ) → h ≡ house_answer (accept (desk_of b)) (is_lent (desk_of b) arena store) (ltb g 8) → h ≡ Err e
    → done (desk_of b) (Err e) arena store ≡ withdraw_of (desk_of b) g arena store
unfolding withdraw_of
refused b arena store g p q =
    let d = desk_of b in
    refused_by _ _ _ (λ r. done d r arena store) (withdraw_stage d g (stage_at d g) arena store) p q refl refl

-- the request that the row holds once the tests have passed, and what acceptance says of it
holds : {s : Stage} (b arena store : List ℕ) (g : ℕ) (q : Request) → Passed (accept (desk_of b)) (is_lent (desk_of b) arena store) (ltb g 8) → s ≡ stage_at (read_desk b) g → s ≡ Waiting q
    → stage_at (desk_of b) g ≡ Waiting q
holds b arena store g q p e w = sym (stage_read b p.acceptable g e) ∙ w

facts : (b arena store : List ℕ) (g : ℕ) (q : Request) → Passed (accept (desk_of b)) (is_lent (desk_of b) arena store) (ltb g 8) → stage_at (desk_of b) g ≡ Waiting q → Report q g (length arena)
facts b arena store g q p h = report_facts (desk_of b) arena store g q p.acceptable p.lent (ltb-true g 8 p.guest) h

pub returns-in_default : goal.returns-in_default
unfolding withdraw_call over withdraw_numbers
returns-in_default c =
    let a = c.args in
    let b : List ℕ = a.desk.now in
    let bytes : Bytes b = λ i. omega (arith, c.type_inv.desk i) in
    rw (c.numbered.ensures, ← refused b a.arena.now a.store.now a.guest (no_block b _ _ bytes c.in_default.ensures.cases) refl)

pub returns-in-Err : goal.returns-in-Err
unfolding withdraw_call over withdraw_numbers
returns-in-Err c =
    let a = c.args in
    rw (← c.in-Some.ensures.cases.same, c.numbered-in-Err.ensures, ← refused c.in-Some.block.now a.arena.now a.store.now a.guest c.tests_at.ensures c.in-Err.is)

pub stage_of-requires : goal.stage_of-requires
stage_of-requires c = passed-below c.args.guest (passed_by _ _ _ c.tests_at.ensures c.in_default-tests_at.is)

pub returns-in_default-stage_of : goal.returns-in_default-stage_of
unfolding withdraw_call over withdraw_numbers
returns-in_default-stage_of c =
    let b : List ℕ = c.in-Some.block.now in
    let arena : List ℕ = c.args.arena.now in
    let store : List ℕ = c.args.store.now in
    let g : ℕ = c.args.guest in
    let p = passed_by _ _ _ c.tests_at.ensures c.in_default-tests_at.is in
    let s = stage_read b p.acceptable g c.stage_of.ensures in
    rw (← c.in-Some.ensures.cases.same, c.numbered-in_default-stage_of.ensures, ← withdraw-other (desk_of b) g arena store p (not_waiting-tag (stage_at (desk_of b) g) (rw s at c.in_default-stage_of.not-Waiting)))

pub report_moved-requires : goal.report_moved-requires
report_moved-requires c =
    let b : List ℕ = c.in-Some.block.now in
    let arena : List ℕ = c.args.arena.now in
    let store : List ℕ = c.args.store.now in
    let g : ℕ = c.args.guest in
    let q = c.in-Waiting.q in
    let p = passed_by _ _ _ c.tests_at.ensures c.in_default-tests_at.is in
    let f = facts b arena store g q p (holds b arena store g q p c.stage_of.ensures c.in-Waiting.is) in
    (f.guest, f.packet, omega (arith, f.moved))

pub put_stage-requires : goal.put_stage-requires
put_stage-requires c = passed-below c.args.guest (passed_by _ _ _ c.tests_at.ensures c.in_default-tests_at.is)

pub given_back-requires : goal.given_back-requires
given_back-requires c =
    let b : List ℕ = c.in-Some.block.now in
    let arena : List ℕ = c.args.arena.now in
    let store : List ℕ = c.args.store.now in
    let g : ℕ = c.args.guest in
    let q = c.in-Waiting.q in
    let p = passed_by _ _ _ c.tests_at.ensures c.in_default-tests_at.is in
    (facts b arena store g q p (holds b arena store g q p c.stage_of.ensures c.in-Waiting.is)).moved

pub returns : goal.returns
unfolding withdraw_call over withdraw_numbers
returns c =
    let b : List ℕ = c.in-Some.block.now in
    let arena : List ℕ = c.args.arena.now in
    let store : List ℕ = c.args.store.now in
    let g : ℕ = c.args.guest in
    let q = c.in-Waiting.q in
    let p = passed_by _ _ _ c.tests_at.ensures c.in_default-tests_at.is in
    let h = holds b arena store g q p c.stage_of.ensures c.in-Waiting.is in
    let k = put_row b p.acceptable g Vacant (passed-below g p) c.put_stage.ensures in
    rw (← c.in-Some.ensures.cases.same, ← withdraw_waiting (desk_of b) g arena store p q h refl refl c.report_moved.ensures, k, c.hand.ensures, c.given_back.ensures)
