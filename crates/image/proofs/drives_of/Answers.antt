use borrow.Author.Rules.{rules}
use Rattle.table.specs.Table.{no_drive}
use Rattle.image.specs.Image.{slot_at, read_drive}
use Rattle.image.proofs.Fields.{made-is}
use Rattle.image.proofs.drives_of.Goals as goal

pub returns : goal.returns
returns c = made-is (λ i. read_drive c.args.b.now (slot_at i)) no_drive (λ i x q h a. search rules) c.from_fn.ensures.items
