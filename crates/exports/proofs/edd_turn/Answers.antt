use mathlib.Core.Path.{◌≡◌, refl, sym, ap, ◌∙◌}
use mathlib.Core.Bool.{true}
use mathlib.Core.List.{List}
use Prim.Native.Nat.{ℕ, ◌<◌}
use native.Mathlib.Omega.{arith}
use Rattle.logic.specs.Logic.{pick}
use Rattle.drive.specs.declared.Drive.{Drive}
use Rattle.attached.specs.declared.Bads.{Bads}
use Rattle.int13.specs.Steps.{first_drive, is_drive, drive_at, bads_of}
use lib.ListN.{length}
use Rattle.desk.specs.declared.Request.{Request}
use Rattle.desk.specs.declared.Service.{Service}
use Rattle.desk.specs.declared.Stage.{Stage}
use Rattle.desk.specs.declared.Stage.TheVariants.{Waiting}
use Rattle.std.specs.Prelude.{Result, Err, Option, Some}
use Rattle.words.specs.Words.{Bytes}
use Rattle.desk.specs.declared.HouseNumber.{HouseNumber}
use Rattle.desk.specs.Parts.{stage_at}
use Rattle.desk.specs.Acceptable.{accept}
use Rattle.desk.specs.Calls.{house_answer, is_lent, done, first_waiting, service_of, bads_for, Transferred, turn_next, turn_of}
use Rattle.desk.specs.Numbers.{turn_numbers}
use Rattle.desk.proofs.AcceptableLaws.{not_waiting-tag, accept_true}
use Rattle.desk.proofs.CallsLaws.{refused_by, Passed, passed_by, turn_nobody, turn-other, turn-served, seek-below, waiting_facts, servable, in-range, ending_facts}
use Rattle.image.specs.Image.{read_desk, desk_of}
use Rattle.exports.specs.Exports.{over, turn_call}
use Rattle.exports.proofs.Exports.{no_block, pointer_read, next-read, stage_read, drive-read, bads_read, put_turn}
use Rattle.exports.proofs.edd_turn.Goals as goal

refused : {h : Result (Unit {0}) HouseNumber} {e : HouseNumber} (b arena store : List ℕ) → h ≡ house_answer (accept (desk_of b)) (is_lent (desk_of b) arena store) true → h ≡ Err e
    → done (desk_of b) (Err e) arena store ≡ turn_of (desk_of b) arena store
unfolding turn_of
refused b arena store p q =
    let d = desk_of b in
    refused_by _ _ _ (λ r. done d r arena store) (turn_next d (first_waiting d.rows 8 d.pointer) arena store) p q refl refl

module _ (b arena store : List ℕ) (p : Passed (accept (desk_of b)) (is_lent (desk_of b) arena store) true) where
  -- what the search found
  found : {n : Option ℕ} {x : Option ℕ} → n ≡ first_waiting (read_desk b).rows 8 (read_desk b).pointer → n ≡ x → first_waiting (desk_of b).rows 8 (desk_of b).pointer ≡ x
  found en e = sym (next-read b p.acceptable en) ∙ e

  below : {n : Option ℕ} (g : ℕ) → n ≡ first_waiting (read_desk b).rows 8 (read_desk b).pointer → n ≡ Some g → g < 8
  below g en e = let d = desk_of b in seek-below d.rows 8 d.pointer g (accept_true d p.acceptable).pointer (found en e)

  -- the found guest's request
  holds : {s : Stage} (g : ℕ) (q : Request) → s ≡ stage_at (read_desk b) g → s ≡ Waiting q → stage_at (desk_of b) g ≡ Waiting q
  holds g q es e = sym (stage_read b p.acceptable g es) ∙ e

  -- its drive, which acceptance knows
  named : {x : Drive} (g : ℕ) (q : Request) → g < 8 → stage_at (desk_of b) g ≡ Waiting q
      → x ≡ drive_at (read_desk b).table (pick (is_drive (read_desk b).table q.job.drive) q.job.drive first_drive) → x ≡ drive_at (desk_of b).table q.job.drive
  named g q l h e = drive-read b p.acceptable q.job.drive e (waiting_facts (desk_of b) g q p.acceptable l h).job.drive

  -- what the turn does to it
  service : {s : Service} {l : Bads} (q : Request) → s ≡ service_of l q → l ≡ bads_of (read_desk b).table q.job.drive → s ≡ service_of (bads_for (desk_of b) q) q
  service q es el = es ∙ ap (λ (x : Bads). service_of x q) (bads_read b p.acceptable q.job.drive el)

pub returns-in_default : goal.returns-in_default
unfolding turn_call over turn_numbers
returns-in_default c =
    let a = c.args in
    let b : List ℕ = a.desk.now in
    let bytes : Bytes b = λ i. omega (arith, c.type_inv.desk i) in
    rw (c.numbered.ensures, ← refused b a.arena.now a.store.now (no_block b _ _ bytes c.in_default.ensures.cases) refl)

pub returns-in-Err : goal.returns-in-Err
unfolding turn_call over turn_numbers
returns-in-Err c =
    let a = c.args in
    rw (← c.in-Some.ensures.cases.same, c.numbered-in-Err.ensures, ← refused c.in-Some.block.now a.arena.now a.store.now c.tests_at.ensures c.in-Err.is)

pub next_of-requires : goal.next_of-requires
next_of-requires c = let p = passed_by _ _ _ c.tests_at.ensures c.in_default-tests_at.is in pointer_read c.in-Some.block.now p.acceptable

pub returns-in_default-next_of : goal.returns-in_default-next_of
unfolding turn_call over turn_numbers
returns-in_default-next_of c =
    let b : List ℕ = c.in-Some.block.now in
    let arena : List ℕ = c.args.arena.now in
    let store : List ℕ = c.args.store.now in
    let p = passed_by _ _ _ c.tests_at.ensures c.in_default-tests_at.is in
    rw (← c.in-Some.ensures.cases.same, ← turn_nobody (desk_of b) arena store p (found b arena store p c.next_of.ensures c.in_default-next_of.is))

pub stage_of-requires : goal.stage_of-requires
stage_of-requires c =
    let b : List ℕ = c.in-Some.block.now in
    let arena : List ℕ = c.args.arena.now in
    let store : List ℕ = c.args.store.now in
    let p = passed_by _ _ _ c.tests_at.ensures c.in_default-tests_at.is in
    (below b arena store p c.in-Some-next_of.g c.next_of.ensures c.in-Some-next_of.is)

pub returns-in_default-stage_of : goal.returns-in_default-stage_of
unfolding turn_call over turn_numbers
returns-in_default-stage_of c =
    let b : List ℕ = c.in-Some.block.now in
    let arena : List ℕ = c.args.arena.now in
    let store : List ℕ = c.args.store.now in
    let g = c.in-Some-next_of.g in
    let p = passed_by _ _ _ c.tests_at.ensures c.in_default-tests_at.is in
    let f = found b arena store p c.next_of.ensures c.in-Some-next_of.is in
    let s = stage_read b p.acceptable g c.stage_of.ensures in
    rw (← c.in-Some.ensures.cases.same, ← turn-other (desk_of b) arena store p g f (not_waiting-tag (stage_at (desk_of b) g) (rw s at c.in_default-stage_of.not-Waiting)))

pub service_of-service-requires : goal.service_of-service-requires
service_of-service-requires c =
    let b : List ℕ = c.in-Some.block.now in
    let arena : List ℕ = c.args.arena.now in
    let store : List ℕ = c.args.store.now in
    let g = c.in-Some-next_of.g in
    let q = c.in-Waiting.q in
    let p = passed_by _ _ _ c.tests_at.ensures c.in_default-tests_at.is in
    let l = below b arena store p g c.next_of.ensures c.in-Some-next_of.is in
    let h = holds b arena store p g q c.stage_of.ensures c.in-Waiting.is in
    servable (desk_of b) arena store g q p l h (omega arith)

pub transfer-requires : goal.transfer-requires
transfer-requires c =
    let b : List ℕ = c.in-Some.block.now in
    let arena : List ℕ = c.args.arena.now in
    let store : List ℕ = c.args.store.now in
    let g = c.in-Some-next_of.g in
    let q = c.in-Waiting.q in
    let p = passed_by _ _ _ c.tests_at.ensures c.in_default-tests_at.is in
    let l = below b arena store p g c.next_of.ensures c.in-Some-next_of.is in
    let h = holds b arena store p g q c.stage_of.ensures c.in-Waiting.is in
    rw (named b arena store p g q l h c.drive_named-d.ensures)
    (in-range (desk_of b) arena store g q p l h (omega arith) (omega arith) (service b arena store p q c.service_of-service.ensures c.bads_of.ensures))

pub report_ending-requires : goal.report_ending-requires
report_ending-requires c =
    let b : List ℕ = c.in-Some.block.now in
    let arena : List ℕ = c.args.arena.now in
    let store : List ℕ = c.args.store.now in
    let g = c.in-Some-next_of.g in
    let q = c.in-Waiting.q in
    let p = passed_by _ _ _ c.tests_at.ensures c.in_default-tests_at.is in
    let l = below b arena store p g c.next_of.ensures c.in-Some-next_of.is in
    let h = holds b arena store p g q c.stage_of.ensures c.in-Waiting.is in
    ending_facts (desk_of b) arena store c.drive_named-d.result.first g q p.acceptable p.lent l h (service b arena store p q c.service_of-service.ensures c.bads_of.ensures) c.transfer.ensures

pub put_served-requires : goal.put_served-requires
put_served-requires c =
    let b : List ℕ = c.in-Some.block.now in
    let arena : List ℕ = c.args.arena.now in
    let store : List ℕ = c.args.store.now in
    let p = passed_by _ _ _ c.tests_at.ensures c.in_default-tests_at.is in
    (below b arena store p c.in-Some-next_of.g c.next_of.ensures c.in-Some-next_of.is)

pub returns : goal.returns
unfolding turn_call over turn_numbers
returns c =
    let b : List ℕ = c.in-Some.block.now in
    let arena : List ℕ = c.args.arena.now in
    let store : List ℕ = c.args.store.now in
    let g = c.in-Some-next_of.g in
    let q = c.in-Waiting.q in
    let p = passed_by _ _ _ c.tests_at.ensures c.in_default-tests_at.is in
    let f = found b arena store p c.next_of.ensures c.in-Some-next_of.is in
    let l = below b arena store p g c.next_of.ensures c.in-Some-next_of.is in
    let h = holds b arena store p g q c.stage_of.ensures c.in-Waiting.is in
    let e : Transferred (drive_at (desk_of b).table q.job.drive).first q c.service_of-service.result.moved g arena store _ _
    = rw (named b arena store p g q l h c.drive_named-d.ensures) at c.transfer.ensures in
    let k = put_turn b p.acceptable g c.service_of-service.result.stage l c.put_served.ensures in
    rw (← c.in-Some.ensures.cases.same, ← turn-served (desk_of b) arena store p g q f h (service b arena store p q c.service_of-service.ensures c.bads_of.ensures) refl refl e c.report_ending.ensures, k)
