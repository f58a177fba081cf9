use native.Mathlib.Omega.{arith}
use mathlib.Core.Path.{sym, ◌∙◌}
use borrow.Author.Tests.{lt-leb}
use Rattle.table.specs.Table.{refusal}
use Rattle.table.proofs.Takes.{overlaps_take}
use Rattle.table.proofs.refusal_of.Goals as goal

pub returns-then-overlaps_any : goal.returns-then-overlaps_any
unfolding refusal
returns-then-overlaps_any c =
    let o = sym (overlaps_take c.args.b.now.count c.args.b.now.drives c.args.d (omega arith)) ∙ sym c.overlaps_any.ensures ∙ c.if-overlaps_any.true in
    rw (lt-leb _ _ c.if-b-ge-MOST_DRIVES.false, sym c.fields_ok.ensures ∙ c.if-not-fields_ok.false, sym c.in_store.ensures ∙ c.if-not-in_store.false, o)

pub returns : goal.returns
unfolding refusal
returns c =
    let o = sym (overlaps_take c.args.b.now.count c.args.b.now.drives c.args.d (omega arith)) ∙ sym c.overlaps_any.ensures ∙ c.if-overlaps_any.false in
    rw (lt-leb _ _ c.if-b-ge-MOST_DRIVES.false, sym c.fields_ok.ensures ∙ c.if-not-fields_ok.false, sym c.in_store.ensures ∙ c.if-not-in_store.false, o)
