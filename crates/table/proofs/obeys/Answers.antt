use Rattle.table.proofs.obeys.Goals as goal

pub returns : goal.returns
returns c = rw (c.and.ensures, c.fields_ok.ensures, c.in_store.ensures)
