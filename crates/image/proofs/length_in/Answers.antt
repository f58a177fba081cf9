use Prim.Native.Nat.{◌+◌}
use mathlib.Core.Path.{ap, ◌∙◌}
use Rattle.words.specs.Words.{le}
use Rattle.drive.specs.Drive.{drive_length}
use Rattle.drive.proofs.DriveLaws.{length_most}
use Rattle.image.specs.Image.{slot_at, read_drive}
use Rattle.image.proofs.length_in.Goals as goal

pub returns : goal.returns
unfolding read_drive
returns c =
    let e = c.length_of.ensures ∙ ap drive_length c.get.ensures in
    (e, rw e (length_most (le 2 c.args.b.now (slot_at c.args.i + 112))))
