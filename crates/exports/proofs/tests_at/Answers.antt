use mathlib.Core.Path.{◌≡◌, refl, sym, ap, ◌∙◌}
use mathlib.Core.Bool.{Bool, true}
use lib.Dec.{ltb}
use Rattle.desk.specs.Acceptable.{accept}
use Rattle.desk.specs.Calls.{house_answer}
use Rattle.image.specs.Image.{desk_of, accepted}
use Rattle.exports.proofs.Exports.{no_desk, lent_read}
use Rattle.exports.proofs.tests_at.Goals as goal

pub returns-then-not-acceptable : goal.returns-then-not-acceptable
unfolding accepted
returns-then-not-acceptable c = no_desk c.args.block.now _ _ c.house_tests.ensures.0 (sym c.acceptable.ensures ∙ c.if-not-acceptable.true)

pub returns : goal.returns
unfolding accepted
returns c =
    let a = c.args in
    let good : accept (desk_of a.block.now) ≡ true = sym c.acceptable.ensures ∙ c.if-not-acceptable.false in
    rw (good, ← lent_read a.block.now good a.arena a.store c.is_lent.ensures) c.house_tests-2.ensures.0
