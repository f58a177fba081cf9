use Rattle.attached.proofs.BadLaws.{bad_stores}
use Rattle.attached.proofs.put_bads.Goals as goal

pub returns : goal.returns
returns c =
    let a = c.args in
    bad_stores a.out.now a.at a.number a.l c.held-size.ensures.0 c.put.ensures c.put-2.ensures c.put-3.ensures c.store.ensures
