use Rattle.image.proofs.Fields.{waiting_of}
use Rattle.image.specs.Image.{read_desk}
use Rattle.desk.specs.Calls.{first_waiting}
use Rattle.desk.specs.Parts.{next}
use Rattle.desk.proofs.Searches.{seek_here, seek_on, seek-none}
use borrow.Author.Tests.{eq-eqb, ne_eqb}
use native.Mathlib.Omega.{arith}
use Prim.Native.Nat.{ℕ, ◌-◌}
use mathlib.Core.Path.{refl, ap, ◌∙◌}
use Rattle.image.proofs.next_of.Goals as goal

pub loop-init : goal.loop-init
unfolding read_desk
loop-init c = (omega (arith, c.get-guest.ensures, c.requires), refl)

pub returns-then-b-guest-eq1 : goal.returns-then-b-guest-eq1
unfolding read_desk
returns-then-b-guest-eq1 c =
    let b = c.args.b.now in
    let g = c.loop.guest in
    seek_here (read_desk b).rows (8 - c.loop.counter) g (omega arith) (waiting_of b g c.loop.invariant.0 ∙ eq-eqb _ 1 c.if-b-guest-eq1.true)
    ∙ c.loop.invariant.1
    ∙ ap (λ (p : ℕ). first_waiting (read_desk b).rows 8 p) c.get-guest.ensures

pub loop-preserved : goal.loop-preserved
loop-preserved c =
    let b = c.args.b.now in
    let g = c.loop.guest in (
      omega arith,
      ap (λ (k : ℕ). first_waiting (read_desk b).rows k (next g)) (omega arith)
          ∙ seek_on (read_desk b).rows (8 - c.loop.counter) g (omega arith) (waiting_of b g c.loop.invariant.0 ∙ ne_eqb _ 1 c.if-b-guest-eq1.false)
          ∙ c.loop.invariant.1,
    )

pub returns : goal.returns
unfolding read_desk
returns c =
    let b = c.args.b.now in
    seek-none (read_desk b).rows (8 - c.loop.counter) c.loop.guest (omega arith)
    ∙ c.loop.invariant.1
    ∙ ap (λ (p : ℕ). first_waiting (read_desk b).rows 8 p) c.get-guest.ensures
