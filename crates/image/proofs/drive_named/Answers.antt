use Prim.Native.Nat.{◌-◌}
use Rattle.image.proofs.Fields.{slot_of, slot_known}
use native.Mathlib.Omega.{arith}
use mathlib.Core.Path.{sym, ◌∙◌}
use borrow.Author.Rules.{rules}
use Rattle.image.proofs.drive_named.Goals as goal

-- a known number is that of one of the slots
pub overflow_sub-n : goal.overflow_sub-n
overflow_sub-n c =
    let h = slot_known c.args.b.now c.args.n (sym c.is_drive.ensures ∙ c.if-is_drive.true) in
    omega (arith, h)

pub drive_in-requires : goal.drive_in-requires
drive_in-requires c =
    let h = slot_known c.args.b.now c.args.n (sym c.is_drive.ensures ∙ c.if-is_drive.true) in
    omega (arith, h)

pub returns-then-is_drive : goal.returns-then-is_drive
returns-then-is_drive c =
    let s = c.args in
    let known = sym c.is_drive.ensures ∙ c.if-is_drive.true in
    let h = slot_known s.b.now s.n known in
    rw known (c.drive_in.ensures ∙ sym (slot_of s.b.now (s.n - 128) (omega (arith, h))))

pub returns : goal.returns
returns c =
    let s = c.args in
    rw (sym c.is_drive.ensures ∙ c.if-is_drive.false) (c.drive_in-2.ensures ∙ sym (slot_of s.b.now 0 (omega arith)))
