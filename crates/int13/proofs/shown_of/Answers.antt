use mathlib.Core.Path.{◌≡◌, sym, ◌∙◌}
use mathlib.Core.Bool.{true}
use Prim.Native.Nat.{◌-◌, ◌<◌, ◌≤◌}
use lib.ListN.{length}
use Rattle.logic.proofs.LogicLaws.{length_mapped}
use Rattle.int13.specs.Steps.{is_drive}
use Rattle.int13.proofs.StepsLaws.{drive_slot}
use borrow.Author.Rules.{rules}
use Rattle.int13.proofs.shown_of.Goals as goal
use Rattle.int13.proofs.shown_of.Goals.{Else-not-is_drive}

-- past the first test the number is a drive's
known : (c : Else-not-is_drive) → is_drive c.args.b c.args.n ≡ true
known c = sym c.is_drive.ensures ∙ c.if-not-is_drive.false

-- so that it is 128 and one of the eight slots
slot : (c : Else-not-is_drive) → (128 ≤ c.args.n) × (c.args.n - 128 < 8)
slot c =
    let a = c.args in
    let l : length a.b.drives ≡ 8 = search (rules, length_mapped) in
    drive_slot a.b a.n l (known c)

pub overflow_sub-slot : goal.overflow_sub-slot
overflow_sub-slot c = (slot c).0

pub bounds-present-i : goal.bounds-present-i
bounds-present-i c = (slot c.before.before).1
