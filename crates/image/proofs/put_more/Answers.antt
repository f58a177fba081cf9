use Rattle.image.proofs.Fill.{more-laid}
use lib.ListN.{length}
use mathlib.Core.Path.{◌≡◌, ◌∙◌}
use borrow.Author.Rules.{rules}
use Rattle.image.proofs.put_more.Goals as goal

pub returns : goal.returns
returns c =
    let d = c.args.d in
    let l : length d.placed ≡ 8 = search rules in
    let m : length d.addresses ≡ 8 = search rules in
    let n : length d.table.present ≡ 8 = search rules in
    c.put_bads.ensures
    ∙ rw (c.put_given.ensures, c.put_each-2.ensures, c.put_words.ensures, c.put_each.ensures)
    (more-laid c.args.out.now 2528 d l m n)
