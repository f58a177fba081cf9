use borrow.Author.Rules.{rules}
use Rattle.desk.specs.Parts.{placement_at}
use Rattle.desk.specs.Acceptable.{placement_ok, placements_ok}
use Rattle.image.specs.Image.{read_desk}
use Rattle.image.proofs.placements_ok.Goals as goal

pub returns : goal.returns
unfolding placements_ok
returns c = c.all_below.ensures (λ g. placement_ok c.args.tables c.args.m (placement_at (read_desk c.args.b.now) g)) (λ g r h p. search rules)
