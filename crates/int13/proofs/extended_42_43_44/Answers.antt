use mathlib.Core.Path.{◌≡◌, sym, ◌∙◌}
use native.Mathlib.Omega.{arith}
use Rattle.int13.specs.declared.Plan.TheVariants.{Clear}
use Rattle.std.specs.Prelude.{is_some}
use Rattle.int13.specs.Steps.{named, packet_plan}
use Rattle.int13.proofs.StepsLaws.{plan_clear}
use Rattle.int13.proofs.extended_42_43_44.Goals as goal

pub put-requires : goal.put-requires
put-requires c =
    let a = c.args in
    let plan : packet_plan (is_some a.drive) (named a.drive) a.bads a.r a.window.now ≡ Clear c.in-Clear.code c.in-Clear.n = sym c.packet_plan-plan.ensures ∙ c.in-Clear.is in
    omega (arith, plan_clear (is_some a.drive) (named a.drive) a.bads a.r a.window.now c.in-Clear.code c.in-Clear.n plan)
