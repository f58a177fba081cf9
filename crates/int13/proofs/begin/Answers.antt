use mathlib.Core.Path.{◌≡◌, ap, ◌∙◌}
use mathlib.Core.Bool.{true}
use Rattle.int13.specs.Answers.{dl}
use Rattle.int13.specs.Steps.{Checked, named, is_drive, drive_named, bads_of, shown_of}
use Rattle.int13.proofs.StepsLaws.{begin-steps}
use Rattle.int13.proofs.Numbers.{begin_answered}
use Rattle.int13.proofs.begin.Goals as goal

pub returns : goal.returns
returns c =
    let a = c.args in
    let number = c.dl-n.ensures in
    let found = c.drive_of-drive.ensures.0 ∙ ap (is_drive a.b) number in
    let drive : is_drive a.b (dl a.r) ≡ true → named c.drive_of-drive.result ≡ drive_named a.b a.r
    = λ e. rw number at (c.drive_of-drive.ensures.1 (ap (is_drive a.b) number ∙ e)) in
    let bads = c.bads_of-bads.ensures ∙ ap (bads_of a.b) number in
    let shown = c.shown_of-shown.ensures ∙ ap (shown_of a.b a.placement) number in
    let same = begin-steps a.b a.placement a.r a.window.now found c.drive_count.ensures.0 drive bads shown in
    begin_answered a.b a.placement a.r a.window.now (c.steps.ensures.0 ∙ ap (λ (k : Checked). k.outcome) same) (c.steps.ensures.1 ∙ ap (λ (k : Checked). k.window) same)
