use borrow.Author.Rules.{rules}
use mathlib.Core.Path.{◌≡◌, refl}
use Rattle.std.proofs.Common.{Err}
use Rattle.table.proofs.Takes.{bads_other, bads_refused_in, bads_takes}
use Rattle.table.proofs.take_bads.Goals as goal

pub returns-then-not-names_last : goal.returns-then-not-names_last
returns-then-not-names_last c = bads_other c.args.r.now c.args.b.now c.args.store c.number_in-number.ensures c.names_last.ensures c.if-not-names_last.true

pub returns-in_err-list_refusal : goal.returns-in_err-list_refusal
returns-in_err-list_refusal c =
    let h : c.from_residual.result ≡ Err c.in_err-list_refusal.field-0.0 = search rules in
    rw h
    (bads_refused_in c.args.r.now c.args.b.now c.args.store c.number_in-number.ensures c.names_last.ensures c.if-not-names_last.false c.bads_in-l.ensures refl c.in_err-list_refusal.ensures)

pub returns : goal.returns
returns c =
    bads_takes c.args.r.now c.args.b.now c.args.store c.number_in-number.ensures c.names_last.ensures c.if-not-names_last.false c.bads_in-l.ensures refl c.in_ok-list_refusal.ensures c.store.ensures
