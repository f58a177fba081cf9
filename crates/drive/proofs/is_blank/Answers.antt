use mathlib.Core.Path.{sym, ◌∙◌}
use Rattle.logic.proofs.LogicLaws.{and_both}
use Rattle.drive.proofs.DriveLaws.{pointwise_same, zero_fields, blank_fields}
use Rattle.drive.proofs.is_blank.Goals as goal

pub returns : goal.returns
returns c =
    let e = rw (zero_fields c.default.result c.default.ensures) at c.eq.ensures in
    e ∙ simp (and_both, pointwise_same) (sym (blank_fields c.args.d))
