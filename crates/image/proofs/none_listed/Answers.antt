use borrow.Author.Rules.{rules}
use mathlib.Core.Path.{◌∙◌}
use Rattle.image.specs.Image.{bads_count_at, bads_list_at}
use Rattle.image.specs.Judged.{below}
use Rattle.image.proofs.Judged.{below_more, below_slots}
use Rattle.image.proofs.none_listed.Goals as goal

pub returns : goal.returns
returns c =
    let b = c.args.b.now in
    let lists = c.all_below-lists.ensures (λ i. below 16 1 b (bads_list_at i)) (λ i r h p. search rules) in
    below_more 8 128 1 b (bads_count_at 0) c.below.ensures (lists ∙ below_slots 8 b (bads_list_at 0)) c.and.ensures
