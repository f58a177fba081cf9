use Rattle.image.proofs.Fields.{slot_known, present-of, shown-none, shown-bare, shown-table}
use Rattle.image.specs.Image.{read_desk}
use Rattle.logic.proofs.LogicLaws.{both_true}
use Prim.Native.Nat.{◌-◌}
use native.Mathlib.Omega.{arith}
use mathlib.Core.Path.{sym, ◌∙◌}
use Rattle.image.proofs.shown_of.Goals as goal

pub returns-then-not-and : goal.returns-then-not-and
returns-then-not-and c =
    let s = c.args in
    shown-none (read_desk s.b.now).table s.n c.placement_of-p.ensures c.is_drive.ensures c.and.ensures c.if-not-and.true

-- a known number is that of one of the slots
pub overflow_sub-i : goal.overflow_sub-i
overflow_sub-i c =
    let s = c.args in
    let w = both_true c.placement_of-p.result.placed c.is_drive.result (sym c.and.ensures ∙ c.if-not-and.false) in
    let h = slot_known s.b.now s.n (sym c.is_drive.ensures ∙ w.1) in
    omega (arith, h)

pub is_present-requires : goal.is_present-requires
is_present-requires c =
    let s = c.args in
    let w = both_true c.placement_of-p.result.placed c.is_drive.result (sym c.and.ensures ∙ c.if-not-and.false) in
    let h = slot_known s.b.now s.n (sym c.is_drive.ensures ∙ w.1) in
    omega (arith, h)

pub returns-then-not-is_present : goal.returns-then-not-is_present
returns-then-not-is_present c =
    let s = c.args in
    let b = (read_desk s.b.now).table in
    let w = both_true c.placement_of-p.result.placed c.is_drive.result (sym c.and.ensures ∙ c.if-not-and.false) in
    let h = slot_known s.b.now s.n (sym c.is_drive.ensures ∙ w.1) in
    shown-bare b s.n c.placement_of-p.ensures c.is_drive.ensures c.and.ensures c.if-not-and.false
    (c.is_present.ensures ∙ sym (present-of s.b.now (s.n - 128) (omega (arith, h)))) c.if-not-is_present.true

pub tables_before-requires : goal.tables_before-requires
tables_before-requires c =
    let s = c.args in
    let w = both_true c.placement_of-p.result.placed c.is_drive.result (sym c.and.ensures ∙ c.if-not-and.false) in
    let h = slot_known s.b.now s.n (sym c.is_drive.ensures ∙ w.1) in
    omega (arith, h)

pub returns : goal.returns
returns c =
    let s = c.args in
    let b = (read_desk s.b.now).table in
    let w = both_true c.placement_of-p.result.placed c.is_drive.result (sym c.and.ensures ∙ c.if-not-and.false) in
    let h = slot_known s.b.now s.n (sym c.is_drive.ensures ∙ w.1) in
    shown-table b s.n c.placement_of-p.ensures c.is_drive.ensures c.and.ensures c.if-not-and.false
    (c.is_present.ensures ∙ sym (present-of s.b.now (s.n - 128) (omega (arith, h)))) c.if-not-is_present.false
    c.tables_before.ensures.0 c.shown_at.ensures
