use Rattle.image.proofs.Judged.{waiting_unknown, waiting_tests}
use mathlib.Core.Path.{sym, ◌∙◌}
use Rattle.image.proofs.waiting_good.Goals as goal

pub returns-then-not-is_drive : goal.returns-then-not-is_drive
returns-then-not-is_drive c =
    let s = c.args in
    waiting_unknown s.b.now s.m s.i _ c.request_at-q.ensures (sym c.is_drive.ensures ∙ c.if-not-is_drive.true)

pub returns : goal.returns
returns c =
    let s = c.args in
    waiting_tests s.b.now s.m s.i _ c.request_at-q.ensures (sym c.is_drive.ensures ∙ c.if-not-is_drive.false)
    c.drive_named.ensures c.request_ok.ensures c.is_request.ensures
    c.below.ensures c.and-fits.ensures c.and.ensures
