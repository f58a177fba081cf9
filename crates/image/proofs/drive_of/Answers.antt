use mathlib.Core.Path.{refl, sym, ◌∙◌}
use Rattle.logic.proofs.LogicLaws.{impossible}
use Rattle.image.proofs.drive_of.Goals as goal

pub returns-then-is_drive : goal.returns-then-is_drive
returns-then-is_drive c =
    let k = sym c.is_drive.ensures ∙ c.if-is_drive.true in
    (sym k, λ e. rw k at c.drive_named.ensures)

pub returns : goal.returns
returns c =
    let k = sym c.is_drive.ensures ∙ c.if-is_drive.false in
    (sym k, λ e. impossible (cc))
