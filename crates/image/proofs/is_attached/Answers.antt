use Rattle.image.proofs.Fields.{attached_of}
use mathlib.Core.Path.{sym, ap, ◌∙◌}
use lib.Dec.{ltb}
use Rattle.image.proofs.is_attached.Goals as goal

pub returns-then-is_present : goal.returns-then-is_present
returns-then-is_present c =
    rw (attached_of c.args.b.now c.args.i c.requires, sym c.is_present.ensures ∙ c.if-is_present.true) (ap (ltb c.args.i) c.get.ensures)

pub returns : goal.returns
returns c =
    rw (attached_of c.args.b.now c.args.i c.requires, sym c.is_present.ensures ∙ c.if-is_present.false) c.zero_given.ensures
