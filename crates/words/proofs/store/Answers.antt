use mathlib.Core.Path.{ap, ◌∙◌}
use borrow.Rule.Slice.PartMut.{put_mid}
use native.Mathlib.Omega.{arith}
use Rattle.words.proofs.WordsLaws.{put_mid-sets}
use Rattle.words.proofs.store.Goals as goal

pub returns : goal.returns
returns c =
    let a = c.args in
    let e = c.copy_from_slice.ensures.after in
    ap (put_mid a.at _ a.out.now) e ∙ put_mid-sets a.out.now a.a.now a.at _ (omega arith) c.requires
