use native.Mathlib.Omega.{arith}
use mathlib.Core.Path.{◌≡◌}
use Prim.Native.Nat.{ℕ, ◌+◌, ◌-◌}
use Rattle.exports.specs.Exports.{window_call}
use Rattle.exports.proofs.edd_window.Goals as goal

rest : (a b : ℕ) → a + b - a ≡ b
rest a b = omega arith

pub returns : goal.returns
unfolding window_call
returns c = rw (c.span_of-span.ensures.0, c.span_of-span.ensures.1, c.window_length.ensures, rest)
