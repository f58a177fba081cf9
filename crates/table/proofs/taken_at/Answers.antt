use native.Mathlib.Omega.{arith}
use mathlib.Core.Path.{sym, ◌∙◌}
use lib.ListN.{get_or}
use Rattle.table.specs.Table.{no_drive}
use Rattle.table.proofs.TableLaws.{taken_is}
use Rattle.table.proofs.Takes.{overlaps_take}
use Rattle.table.proofs.taken_at.Goals as goal

pub returns-then-obeys : goal.returns-then-obeys
returns-then-obeys c =
    let i = c.args.i in
    let l = c.args.drives.now in
    rw (c.overlaps_any.ensures, overlaps_take i l (get_or l i no_drive) (omega arith))
    (rw (sym c.obeys.ensures ∙ c.if-obeys.true) at (taken_is i l (get_or l i no_drive) c.args.store (omega arith)))

pub returns-else-obeys : goal.returns-else-obeys
returns-else-obeys c =
    let i = c.args.i in
    let l = c.args.drives.now in
    c.if-obeys.false ∙ (rw (sym c.obeys.ensures ∙ c.if-obeys.false) at (taken_is i l (get_or l i no_drive) c.args.store (omega arith)))
