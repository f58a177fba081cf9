use mathlib.Core.Path.{◌∙◌}
use borrow.Author.Rules.{rules}
use borrow.Author.Tests.{tests}
use Rattle.std.proofs.lemmas.Iterator.{YieldsList-from_slice}
use Rattle.std.proofs.lemmas.Iterator.Search.{any_from_yields_List}
use Rattle.drive.specs.declared.Drive.{Drive}
use Rattle.drive.specs.Drive.{overlap}
use Rattle.table.specs.Table.{no_drive, overlaps_any}
use Rattle.table.proofs.Takes.{slice_any}
use Rattle.table.proofs.overlaps_any.Goals as goal

pub returns : goal.returns
unfolding overlaps_any
returns c =
    let d = c.args.d.now in
    any_from_yields_List (λ (e : Drive). overlap d e) _ _ _ c.any.ensures.ran (YieldsList-from_slice c.args.drives.now cc) (λ x b q k. search (rules, tests))
    ∙ slice_any (λ (e : Drive). overlap d e) no_drive c.args.drives.now
