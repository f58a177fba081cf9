use Rattle.image.proofs.Judged.{bare-good, unplaced_good, more-listed, more_unlisted}
use Rattle.logic.proofs.LogicLaws.{both_itself}
use mathlib.Core.Path.{sym, ◌∙◌}
use Rattle.image.proofs.more_good.Goals as goal

pub returns-then-not-bads_good : goal.returns-then-not-bads_good
returns-then-not-bads_good c =
    let s = c.args in
    more_unlisted s.b.now s.m c.bads_good.ensures c.if-not-bads_good.true

pub returns-then-bare : goal.returns-then-bare
returns-then-bare c =
    let s = c.args in
    let b = s.b.now in
    rw (← more-listed b s.m c.bads_good.ensures c.if-not-bads_good.false, bare-good b (sym c.below-bare.ensures ∙ c.if-bare.true), unplaced_good b s.m (sym c.below.ensures ∙ c.if-below.true))

pub returns-then-below : goal.returns-then-below
returns-then-below c =
    let s = c.args in
    let b = s.b.now in
    rw (← more-listed b s.m c.bads_good.ensures c.if-not-bads_good.false, unplaced_good b s.m (sym c.below.ensures ∙ c.if-below.true), both_itself) c.parameters_good.ensures

pub returns-then-bare-2 : goal.returns-then-bare-2
returns-then-bare-2 c =
    let s = c.args in
    let b = s.b.now in
    rw (← more-listed b s.m c.bads_good.ensures c.if-not-bads_good.false, bare-good b (sym c.below-bare.ensures ∙ c.if-bare-2.true)) c.places_good.ensures

pub returns : goal.returns
returns c =
    let s = c.args in
    rw (← more-listed s.b.now s.m c.bads_good.ensures c.if-not-bads_good.false, c.and.ensures, c.places_good-2.ensures, c.parameters_good-2.ensures)
