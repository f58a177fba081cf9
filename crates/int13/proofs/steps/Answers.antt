use Rattle.std.specs.Prelude.{is_some}
use Rattle.int13.specs.Steps.{named}
use mathlib.Core.Path.{refl, ap}
use native.Mathlib.Omega.{arith}
use Rattle.int13.specs.declared.Outcome.TheVariants.{Answered}
use Rattle.int13.proofs.StepsLaws.{sectors_named, extended_named, Unnamed, steps_02_03, steps_08, steps_41, steps_42_43_44, steps_47, steps_48, steps-unnamed}
use Rattle.int13.proofs.Numbers.{steps_answered}
use Rattle.int13.proofs.steps.Goals as goal
use Rattle.int13.proofs.steps.Goals.{in_default-via-then-this-lt2, in_default-via-else-this-lt2+else-this-lt4+then-this-lt65, in_default-via-else-this-lt2+else-this-lt4+else-this-lt65+else-this-lt69}

pub returns-in-2 : goal.returns-in-2
returns-in-2 c =
    let a = c.args in
    let run = sectors_named c.function_of.result (omega arith) (omega arith) in
    steps_answered (is_some a.drive) a.count (named a.drive) a.bads a.shown a.r a.window.now
    (steps_02_03 (is_some a.drive) a.count (named a.drive) a.bads a.shown a.r a.window.now c.function_of.ensures run) c.sectors_02_03.ensures refl

pub returns-in-8 : goal.returns-in-8
returns-in-8 c =
    let a = c.args in
    steps_answered (is_some a.drive) a.count (named a.drive) a.bads a.shown a.r a.window.now
    (steps_08 (is_some a.drive) a.count (named a.drive) a.bads a.shown a.r a.window.now c.function_of.ensures c.in-8.is) c.parameters_08.ensures refl

pub returns-in-65 : goal.returns-in-65
returns-in-65 c =
    let a = c.args in
    steps_answered (is_some a.drive) a.count (named a.drive) a.bads a.shown a.r a.window.now
    (steps_41 (is_some a.drive) a.count (named a.drive) a.bads a.shown a.r a.window.now c.function_of.ensures c.in-65.is) (rw c.is_some.ensures at c.extensions_41.ensures) refl

pub returns-in-66 : goal.returns-in-66
returns-in-66 c =
    let a = c.args in
    let packet = extended_named c.function_of.result (omega arith) (omega arith) in
    steps_answered (is_some a.drive) a.count (named a.drive) a.bads a.shown a.r a.window.now
    (steps_42_43_44 (is_some a.drive) a.count (named a.drive) a.bads a.shown a.r a.window.now c.function_of.ensures packet) c.extended_42_43_44.ensures.0 c.extended_42_43_44.ensures.1

pub returns-in-71 : goal.returns-in-71
returns-in-71 c =
    let a = c.args in
    steps_answered (is_some a.drive) a.count (named a.drive) a.bads a.shown a.r a.window.now
    (steps_47 (is_some a.drive) a.count (named a.drive) a.bads a.shown a.r a.window.now c.function_of.ensures c.in-71.is) c.seek_47.ensures refl

pub returns-in-72 : goal.returns-in-72
returns-in-72 c =
    let a = c.args in
    steps_answered (is_some a.drive) a.count (named a.drive) a.bads a.shown a.r a.window.now
    (steps_48 (is_some a.drive) a.count (named a.drive) a.bads a.shown a.r a.window.now c.function_of.ensures c.in-72.is) c.result_48.ensures.0 c.result_48.ensures.1

pub returns-in_default : goal.returns-in_default
returns-in_default c =
    let a = c.args in
    let unnamed : Unnamed c.function_of.result = elim c.in_default.branch [
      | in_default-via-then-this-lt2 w ↦ record { sectors = λ h. omega arith; n08 = omega arith; n41 = omega arith; packet = λ h. omega arith; n47 = omega arith; n48 = omega arith }
      | in_default-via-else-this-lt2+else-this-lt4+then-this-lt65 w ↦ record { sectors = λ h. omega arith; n08 = omega arith; n41 = omega arith; packet = λ h. omega arith; n47 = omega arith; n48 = omega arith }
      | in_default-via-else-this-lt2+else-this-lt4+else-this-lt65+else-this-lt69 w ↦ record { sectors = λ h. omega arith; n08 = omega arith; n41 = omega arith; packet = λ h. omega arith; n47 = omega arith; n48 = omega arith }
    ] in
    steps_answered (is_some a.drive) a.count (named a.drive) a.bads a.shown a.r a.window.now
    (steps-unnamed (is_some a.drive) a.count (named a.drive) a.bads a.shown a.r a.window.now c.function_of.ensures unnamed) (ap Answered c.refuse.ensures) refl
