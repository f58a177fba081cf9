use mathlib.Core.Path.{◌≡◌, refl}
use lib.ListN.{length}
use Rattle.logic.proofs.LogicLaws.{length_mapped}
use Rattle.int13.proofs.StepsLaws.{drive-in}
use borrow.Author.Rules.{rules}
use Rattle.int13.proofs.drive_at.Goals as goal

pub returns : goal.returns
returns c =
    let l : length c.args.b.drives ≡ 8 = search (rules, length_mapped) in
    let same = drive-in c.args.b c.args.n l in
    (refl, same)
