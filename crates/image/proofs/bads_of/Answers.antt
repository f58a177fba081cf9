use Prim.Native.Nat.{◌+◌, ◌≤◌, ◌<◌}
use Rattle.int13.specs.Steps.{first_drive, bads_of}
use Rattle.image.proofs.Fields.{slot_known}
use native.Mathlib.Omega.{arith}
use mathlib.Core.Path.{sym, ◌∙◌}
use borrow.Author.Rules.{rules}
use Rattle.image.proofs.bads_of.Goals as goal
use Rattle.image.proofs.bads_of.Goals.{Else-not-is_drive}

pub returns-then-not-is_drive : goal.returns-then-not-is_drive
unfolding bads_of
returns-then-not-is_drive c = rw (sym c.is_drive.ensures ∙ c.if-not-is_drive.true) c.no_bads.ensures

-- a known number is that of one of the slots
within : (c : Else-not-is_drive) → let n = c.args.n in (first_drive ≤ n) × (n < first_drive + 8)
within c = let s = c.args in slot_known s.b.now s.n (sym c.is_drive.ensures ∙ c.if-not-is_drive.false)

pub overflow_sub-n : goal.overflow_sub-n
overflow_sub-n c = omega (arith, (within c).0)

pub bads_in-requires : goal.bads_in-requires
bads_in-requires c = omega (arith, (within c).1)

pub returns : goal.returns
unfolding bads_of
returns c = rw (sym c.is_drive.ensures ∙ c.if-not-is_drive.false) c.bads_in.ensures
