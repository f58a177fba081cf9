use borrow.Author.Rules.{rules}
use Rattle.layout.proofs.ResultBufferLaws.{padded_is}
use Rattle.layout.proofs.padded.Goals as goal

pub returns : goal.returns
returns g c =
    padded_is c.args.name c.map.result g.row.N (search rules) (search rules)
    (λ i h. let k = c.map.ensures.items.at i 0 0 h in search (rules, k))
