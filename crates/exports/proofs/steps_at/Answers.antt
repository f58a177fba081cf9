use mathlib.Core.Path.{◌≡◌, ap, ◌∙◌}
use mathlib.Core.Bool.{true}
use Rattle.table.specs.declared.Table.{Table}
use Rattle.int13.specs.declared.Placement.{Placement}
use Rattle.int13.specs.Answers.{dl}
use Rattle.int13.specs.Steps.{Checked, is_drive, named, drive_named, bads_of, shown_of}
use Rattle.int13.proofs.StepsLaws.{begin-steps}
use Rattle.desk.specs.Parts.{placement_at}
use Rattle.image.specs.Image.{read_desk}
use Rattle.exports.proofs.steps_at.Goals as goal

pub returns : goal.returns
returns c =
    let a = c.args in
    let t : Table = (read_desk a.block.now).table in
    let p : Placement = placement_at (read_desk a.block.now) a.guest in
    let n = c.dl-n.ensures in
    let found = c.drive_of-drive.ensures.0 ∙ ap (is_drive t) n in
    let drive : is_drive t (dl a.r) ≡ true → named c.drive_of-drive.result ≡ drive_named t a.r
    = λ e. rw n at (c.drive_of-drive.ensures.1 (ap (is_drive t) n ∙ e)) in
    let s = begin-steps t p a.r a.window.now found c.count_of-count.ensures.0 drive (c.bads_of-bads.ensures ∙ ap (bads_of t) n) (c.shown_of-shown.ensures ∙ ap (shown_of t p) n) in
    (c.steps.ensures.0 ∙ ap (λ (x : Checked). x.outcome) s, c.steps.ensures.1 ∙ ap (λ (x : Checked). x.window) s)
