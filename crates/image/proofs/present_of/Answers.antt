use borrow.Author.Rules.{rules}
use mathlib.Core.Bool.{false}
use lib.Dec.{eqb}
use lib.ListN.{get_or}
use Rattle.image.specs.Image.{present_at}
use Rattle.image.proofs.Fields.{made-is}
use Rattle.image.proofs.present_of.Goals as goal

pub returns : goal.returns
returns c = made-is (λ i. eqb (get_or c.args.b.now (present_at i) 0) 1) false (λ i x q h a. search rules) c.from_fn.ensures.items
