use Rattle.image.proofs.Fill.{laid_out}
use lib.ListN.{length}
use Rattle.logic.proofs.LogicLaws.{length_mapped}
use mathlib.Core.Path.{◌≡◌, ◌∙◌}
use borrow.Author.Rules.{rules}
use Rattle.image.proofs.lay.Goals as goal

pub returns : goal.returns
returns c =
    let d = c.args.d in
    let r : length d.rows ≡ 8 = search (rules, length_mapped) in
    let t : length d.table.drives ≡ 8 = search (rules, length_mapped) in
    let p : length d.placed ≡ 8 = search (rules, length_mapped) in
    let l : length d.addresses ≡ 8 = search (rules, length_mapped) in
    let q : length d.table.present ≡ 8 = search (rules, length_mapped) in
    let n : length d.table.counts ≡ 8 = search (rules, length_mapped) in
    c.put_more.ensures
    ∙ rw (c.put_words.ensures, c.put_each-2.ensures, c.put_each.ensures)
    (laid_out c.args.out.now d c.told-out r t p l q n)
