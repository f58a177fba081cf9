use lib.ListN.{length}
use mathlib.Core.Path.{◌≡◌, refl, sym, ap, ◌∙◌}
use mathlib.Core.List.{List, []}
use Prim.Native.Nat.{ℕ, ◌<◌}
use lib.Dec.{ltb}
use borrow.Author.Rules.{rules}
use native.Mathlib.Omega.{arith}
use Rattle.std.specs.Prelude.{Result, Err}
use Rattle.words.specs.Words.{Bytes}
use Rattle.desk.specs.declared.Stage.{Stage}
use Rattle.desk.specs.declared.Stage.TheVariants.{Vacant, Waiting}
use Rattle.desk.specs.Acceptable.{accept}
use Rattle.int13.specs.declared.Registers.{Registers}
use Rattle.int13.specs.declared.Outcome.{Outcome}
use Rattle.int13.specs.declared.Outcome.TheVariants.{Answered, Waits as OutcomeWaits}
use Rattle.int13.specs.Steps.{Checked, fed, begin}
use Rattle.desk.specs.declared.Desk.{Desk}
use Rattle.desk.specs.declared.HouseNumber.{HouseNumber}
use Rattle.desk.specs.Parts.{stage_at, own_window, with_own, placement_at}
use Rattle.desk.specs.Calls.{house_answer, is_lent, done, post_checked, post_row, post_of}
use Rattle.desk.specs.Numbers.{post_numbers}
use Rattle.desk.proofs.CallsLaws.{not_vacant-tag, refused_by, Passed, passed_by, passed-below, post-other, post-vacant}
use Rattle.image.specs.Image.{read_desk, desk_of}
use Rattle.exports.specs.Exports.{given, post_call}
use Rattle.exports.proofs.Exports.{no_block, block, stage_read, put_row}
use Rattle.exports.proofs.edd_post.Goals as goal

refused : {h : Result (Unit {0}) HouseNumber} {e : HouseNumber} (b arena store : List ℕ) (g : ℕ) (r : Registers) → h ≡ house_answer (accept (desk_of b)) (is_lent (desk_of b) arena store) (ltb g 8) → h ≡ Err e
    → done (desk_of b) (Err e) arena store ≡ post_of (desk_of b) g r arena store
unfolding post_of
refused b arena store g r p q =
    let d = desk_of b in
    refused_by _ _ _ (λ r. done d r arena store) (post_row d g r arena store (stage_at d g)) p q refl refl

-- what the steps over one drive made of it is what the call makes of it
made : {s : Stage} {x : Outcome} {w : List ℕ} (b arena store : List ℕ) (g : ℕ) (r : Registers) (o : Outcome) → Passed (accept (desk_of b)) (is_lent (desk_of b) arena store) (ltb g 8)
    → s ≡ stage_at (read_desk b) g → s ≡ Vacant
    → x ≡ (begin (fed (read_desk b).table (placement_at (read_desk b) g)) r (own_window arena g)).outcome
    → w ≡ with_own arena g (begin (fed (read_desk b).table (placement_at (read_desk b) g)) r (own_window arena g)).window
    → x ≡ o
    → done (post_checked (desk_of b) g [] [] o []).desk (post_checked (desk_of b) g [] [] o []).answer w store ≡ post_of (desk_of b) g r arena store
made b arena store g r o p es v eo ew e =
    let t = ap (λ (x : Desk). begin (fed x.table (placement_at x g)) r (own_window arena g)) (sym (block b p.acceptable).desk) in
    let vacant = sym (stage_read b p.acceptable g es) ∙ v in
    let laid = ew ∙ ap (λ (x : Checked). with_own arena g x.window) t in
    rw laid (post-vacant (desk_of b) g arena store p r vacant (sym e ∙ eo ∙ ap (λ (x : Checked). x.outcome) t) refl refl refl)

pub returns-in_default : goal.returns-in_default
unfolding post_call post_numbers
returns-in_default c =
    let a = c.args in
    let b : List ℕ = a.desk.now in
    let bytes : Bytes b = λ i. omega (arith, c.type_inv.desk i) in
    let r = given a.ax.now a.bx.now a.cx.now a.dx.now a.ds a.si a.es in
    rw (c.numbered.ensures, ← refused b a.arena.now a.store.now a.guest r (no_block b _ _ bytes c.in_default.ensures.cases) refl)

pub returns-in-Err : goal.returns-in-Err
unfolding post_call post_numbers
returns-in-Err c =
    let a = c.args in
    let r = given a.ax.now a.bx.now a.cx.now a.dx.now a.ds a.si a.es in
    rw (← c.in-Some.ensures.cases.same, c.numbered-in-Err.ensures, ← refused c.in-Some.block.now a.arena.now a.store.now a.guest r c.tests_at.ensures c.in-Err.is)

pub stage_of-requires : goal.stage_of-requires
stage_of-requires c = passed-below c.args.guest (passed_by _ _ _ c.tests_at.ensures c.in_default-tests_at.is)

pub returns-in_default-stage_of : goal.returns-in_default-stage_of
unfolding post_call post_numbers
returns-in_default-stage_of c =
    let a = c.args in
    let b : List ℕ = c.in-Some.block.now in
    let arena : List ℕ = a.arena.now in
    let store : List ℕ = a.store.now in
    let g : ℕ = a.guest in
    let r = given a.ax.now a.bx.now a.cx.now a.dx.now a.ds a.si a.es in
    let p = passed_by _ _ _ c.tests_at.ensures c.in_default-tests_at.is in
    let s = stage_read b p.acceptable g c.stage_of.ensures in
    rw (← c.in-Some.ensures.cases.same, c.numbered-in_default-stage_of.ensures, ← post-other (desk_of b) g arena store p r (not_vacant-tag (stage_at (desk_of b) g) (rw s at c.in_default-stage_of.not-Vacant)))

pub begun-requires : goal.begun-requires
begun-requires c = passed-below c.args.guest (passed_by _ _ _ c.tests_at.ensures c.in_default-tests_at.is)

pub put_stage-requires : goal.put_stage-requires
put_stage-requires c = passed-below c.args.guest (passed_by _ _ _ c.tests_at.ensures c.in_default-tests_at.is)

pub returns-in-Answered : goal.returns-in-Answered
unfolding post_call post_numbers
returns-in-Answered c =
    let a = c.args in
    let b : List ℕ = c.in-Some.block.now in
    let arena : List ℕ = a.arena.now in
    let store : List ℕ = a.store.now in
    let g : ℕ = a.guest in
    let r = given a.ax.now a.bx.now a.cx.now a.dx.now a.ds a.si a.es in
    let p = passed_by _ _ _ c.tests_at.ensures c.in_default-tests_at.is in
    let m = made b arena store g r (Answered c.in-Answered.r) p c.stage_of.ensures c.in-Vacant.is c.begun.ensures.0 c.begun.ensures.1 c.in-Answered.is in
    rw (← c.in-Some.ensures.cases.same, ← m) (search rules)

pub returns-in-Waits : goal.returns-in-Waits
unfolding post_call post_numbers
returns-in-Waits c =
    let a = c.args in
    let b : List ℕ = c.in-Some.block.now in
    let arena : List ℕ = a.arena.now in
    let store : List ℕ = a.store.now in
    let g : ℕ = a.guest in
    let j = c.in-Waits.job in
    let r = given a.ax.now a.bx.now a.cx.now a.dx.now a.ds a.si a.es in
    let p = passed_by _ _ _ c.tests_at.ensures c.in_default-tests_at.is in
    let m = made b arena store g r (OutcomeWaits j) p c.stage_of.ensures c.in-Vacant.is c.begun.ensures.0 c.begun.ensures.1 c.in-Waits.is in
    let k = put_row b p.acceptable g (Waiting (record { job = j; moved = 0 })) (passed-below g p) c.put_stage.ensures in
    rw (← c.in-Some.ensures.cases.same, ← m, k)
