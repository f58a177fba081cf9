use mathlib.Core.Path.{ap, ◌∙◌}
use Rattle.drive.specs.Drive.{same}
use Rattle.drive.proofs.DriveLaws.{pointwise_same}
use Rattle.reader.proofs.is_image.Goals as goal

pub returns : goal.returns
returns c = c.eq.ensures ∙ pointwise_same _ _ ∙ ap (same c.args.b.now) c.lay.ensures
