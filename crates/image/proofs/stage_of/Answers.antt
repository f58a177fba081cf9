use Rattle.image.proofs.Fields.{row_of}
use mathlib.Core.Path.{sym, ◌∙◌}
use Rattle.image.proofs.stage_of.Goals as goal

pub returns : goal.returns
returns c =
    c.stage_at.ensures ∙ sym (row_of c.args.b.now c.args.guest c.requires)
