use mathlib.Core.Path.{◌≡◌, sym, ◌∙◌}
use mathlib.Core.Bool.{true}
use Prim.Native.Nat.{◌-◌, ◌≤◌, ◌<◌}
use lib.ListN.{length}
use Rattle.logic.proofs.LogicLaws.{length_mapped}
use Rattle.int13.specs.Steps.{is_drive}
use Rattle.int13.proofs.StepsLaws.{drive_slot}
use borrow.Author.Rules.{rules}
use Rattle.int13.proofs.bads_of.Goals as goal
use Rattle.int13.proofs.bads_of.Goals.{Else-not-is_drive}

-- past the test the number is a drive's
known : (c : Else-not-is_drive) → is_drive c.args.b c.args.n ≡ true
known c = sym c.is_drive.ensures ∙ c.if-not-is_drive.false

-- so that it is 128 and one of the eight slots
slot : (c : Else-not-is_drive) → (128 ≤ c.args.n) × (c.args.n - 128 < 8)
slot c =
    let l : length c.args.b.drives ≡ 8 = search (rules, length_mapped) in
    drive_slot c.args.b c.args.n l (known c)

pub overflow_sub-n : goal.overflow_sub-n
overflow_sub-n c = (slot c).0

pub bads_at-requires : goal.bads_at-requires
bads_at-requires c = (slot c).1
