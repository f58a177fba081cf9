use Rattle.image.specs.Judged.{bads_good}
use Rattle.image.proofs.Judged.{unlisted_good}
use mathlib.Core.Path.{sym, ◌∙◌}
use Rattle.image.proofs.bads_good.Goals as goal

pub returns-then-none_listed : goal.returns-then-none_listed
returns-then-none_listed c =
    sym (unlisted_good c.args.b.now c.told-b (sym c.none_listed.ensures ∙ c.if-none_listed.true))

pub returns : goal.returns
unfolding bads_good
returns c = rw (c.and.ensures, c.all_listed.ensures, c.below.ensures)
