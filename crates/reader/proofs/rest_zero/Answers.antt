use borrow.Author.Rules.{rules}
use Prim.Native.Nat.{ℕ}
use lib.ListN.{get_or}
use lib.Dec.{eqb, ltb}
use Rattle.logic.specs.Logic.{either}
use Rattle.reader.specs.Reader.{rest_zero}
use Rattle.reader.proofs.rest_zero.Goals as goal

pub returns : goal.returns
unfolding rest_zero
returns c =
    let a = c.args in
    c.all_below.ensures (λ (j : ℕ). either (ltb j a.n) (eqb (get_or a.held.now j 0) 0)) (λ i r h k. search (rules, k))
