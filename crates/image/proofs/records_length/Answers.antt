use native.Mathlib.Omega.{arith}
use borrow.Author.Rules.{rules}
use mathlib.Core.Path.{refl}
use Rattle.table.specs.Table.{records_of}
use Rattle.image.proofs.Written.{length-next}
use Rattle.image.proofs.records_length.Goals as goal

pub loop-i-init : goal.loop-i-init
unfolding records_of
loop-i-init c = (refl, search rules)

-- no sum wraps: eight slots have at most 1840 bytes
pub overflow_add-total : goal.overflow_add-total
overflow_add-total c = omega (arith, c.attached_length-more.ensures.1, c.length_in.ensures.1)

pub overflow_add-total-in-loop-i : goal.overflow_add-total-in-loop-i
overflow_add-total-in-loop-i c = omega (arith, c.attached_length-more.ensures.1, c.length_in.ensures.1, c.loop-i.invariant.1)

pub loop-i-preserved : goal.loop-i-preserved
loop-i-preserved c = (
  length-next c.args.b.now c.loop-i.i c.told-b (omega arith) refl c.is_present-present.ensures c.attached_length-more.ensures.0 c.length_in.ensures.0 c.loop-i.invariant.0,
  omega (arith, c.attached_length-more.ensures.1, c.length_in.ensures.1, c.loop-i.invariant.1),
)
