use mathlib.Core.Path.{refl}
use lib.ListN.{replicate}
use Rattle.attached.proofs.AttachedLaws.{record_stores}
use borrow.Author.Rules.{rules}
use Rattle.attached.proofs.encode.Goals as goal

pub returns : goal.returns
returns c =
    record_stores (replicate 20 0) _ _ refl (search rules)
    c.put.ensures c.put-2.ensures c.put-3.ensures c.store.ensures
