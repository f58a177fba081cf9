use borrow.Author.Rules.{rules}
use native.Mathlib.Omega.{arith}
use mathlib.Core.Path.{◌≡◌, refl, sym}
use Rattle.std.proofs.Common.{Err}
use Rattle.words.specs.Words.{le}
use Rattle.table.proofs.TableLaws.{refusal-room}
use Rattle.table.proofs.Takes.{drive_refused, drive_takes}
use Rattle.table.proofs.take_drive.Goals as goal

pub returns-in_err-refusal_of : goal.returns-in_err-refusal_of
returns-in_err-refusal_of c =
    let h : c.from_residual.result ≡ Err c.in_err-refusal_of.field-0.0 = search rules in
    rw h (drive_refused c.args.r.now c.args.b.now c.args.store (le 2 c.args.r.now 2) c.requires.1 c.decode-d.ensures refl c.in_err-refusal_of.ensures)

-- a drive that is taken has a slot
pub offset_bounds-b-b : goal.offset_bounds-b-b
offset_bounds-b-b c = omega (arith, refusal-room _ _ _ _ (sym c.in_ok-refusal_of.ensures))

pub bounds-b-b : goal.bounds-b-b
bounds-b-b c = refusal-room _ _ _ _ (sym c.in_ok-refusal_of.ensures)

pub overflow_add-b : goal.overflow_add-b
overflow_add-b c = omega (arith, refusal-room _ _ _ _ (sym c.in_ok-refusal_of.ensures))

pub returns : goal.returns
returns c = drive_takes c.args.r.now c.args.b.now c.args.store (le 2 c.args.r.now 2) c.requires.1 c.decode-d.ensures refl c.in_ok-refusal_of.ensures
