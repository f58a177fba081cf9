use native.Mathlib.Omega.{arith}
use mathlib.Core.Path.{◌≡◌, ap, ◌∙◌}
use Rattle.attached.specs.Bad.{good}
use Rattle.attached.proofs.BadLaws.{good-most, good_to, good_to_all}
use Rattle.attached.proofs.good.Goals as goal

pub returns : goal.returns
returns c =
    let a = c.args in
    let e : c.loop-j.j ≡ c.held-j-end.result = omega arith in
    let g : c.loop-j.left ≡ good a.l a.from a.k =
    c.loop-j.invariant ∙ ap (λ n. good_to n a.l.list a.from a.k) (e ∙ c.held-j-end.ensures.0) ∙ good_to_all a.l a.from a.k in
    (g, omega (arith, g, good-most a.l a.from a.k))
