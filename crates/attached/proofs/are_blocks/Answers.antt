use native.Mathlib.Omega.{arith}
use Prim.Native.Nat.{ℕ, ◌+◌, ◌-◌}
use mathlib.Core.Path.{◌≡◌, sym, ap, ◌∙◌}
use lib.Dec.{ltb}
use Rattle.attached.specs.Bad.{held_of, are_blocks}
use Rattle.attached.proofs.BadLaws.{ascends_last}
use Rattle.attached.proofs.are_blocks.Goals as goal

pub returns-in-0 : goal.returns-in-0
unfolding are_blocks
returns-in-0 c = rw (sym c.held.ensures.0 ∙ c.in-0.is)

pub returns-in_default : goal.returns-in_default
returns-in_default c =
    let n : ℕ = c.held.result in
    let e : held_of c.args.l.count ≡ n - 1 + 1 = omega (arith, c.held.ensures.0) in
    ap (λ x. ltb x c.args.blocks) c.bad_at.ensures ∙ ascends_last c.args.l c.args.blocks (n - 1) c.requires e
