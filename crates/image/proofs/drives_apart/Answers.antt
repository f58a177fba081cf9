use borrow.Author.Rules.{rules}
use mathlib.Core.Path.{sym, ◌∙◌}
use Rattle.image.specs.Judged.{alone_to, drives_apart}
use Rattle.image.proofs.Judged.{ascending-apart}
use Rattle.image.proofs.drives_apart.Goals as goal

pub returns-then-is_ascending : goal.returns-then-is_ascending
returns-then-is_ascending c = let s = c.args in sym (ascending-apart s.b.now s.n (sym c.is_ascending.ensures ∙ c.if-is_ascending.true))

pub returns : goal.returns
unfolding drives_apart
returns c = c.all_below.ensures (λ i. alone_to i c.args.b.now i) (λ i r h p. search rules)
