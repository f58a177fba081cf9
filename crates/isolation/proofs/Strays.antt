-- A call that is lent a slice of another length is 25, and may be struck from the list.
-- Assumes nothing.
use mathlib.Core.Path.{refl, ap, ap₂}
use mathlib.Core.List.{List, [], ◌∷◌}
use Rattle.isolation.specs.DeskBlocks.{OutBlock, step_block, EventBlock, event_block, run_block}
use Rattle.isolation.specs.Strays.{own, other, run_lent, Strays}
use Rattle.isolation.proofs.DeskBlocks.{other-size}

pub strays : Strays
unfolding run_lent run_block
strays b [] n = refl
strays b (own c ∷ cs) n = ap (λ (es : List EventBlock). event_block b c ∷ es) (strays (step_block b c).block cs n)
strays b (other x c ∷ cs) n =
    ap₂ (λ (o : OutBlock) (es : List EventBlock). record { block = x; call = c; out = o } ∷ es) (other-size x c n.0) (strays b cs n.1)
