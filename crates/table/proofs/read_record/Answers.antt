use borrow.Author.Rules.{rules}
use native.Mathlib.Omega.{arith}
use native.Mathlib.Nat.{add-sub_cancel_left}
use mathlib.Core.Path.{◌≡◌, sym, ◌∙◌}
use Rattle.std.proofs.Common.{Ok, Err}
use Rattle.table.proofs.Takes.{found_bad, found_inside, found_byte, found_end, found_whole, found_refused, found_next}
use Rattle.table.proofs.read_record.Goals as goal

pub returns-in_err-kind : goal.returns-in_err-kind
returns-in_err-kind c =
    let x : c.from_residual.result ≡ Err c.in_err-kind.field-0.0 = search rules in
    let y : c.in_err-kind.field-0.0.place ≡ c.args.at = search rules in
    let z : c.header_at.result ≡ Err c.in_err-kind.field-0.0.refusal = search rules in
    rw (x, y) (found_bad c.args.t.now c.args.at c.args.b.now c.args.store (sym c.header_at.ensures ∙ z))

pub overflow_add-next : goal.overflow_add-next
overflow_add-next c =
    let h : c.header_at.result ≡ Ok (c.in_ok-kind.kind, c.in_ok-kind.size) = search rules in
    omega (arith, found_inside c.args.t.now c.args.at c.args.b.now c.args.store (sym c.header_at.ensures ∙ h))

pub returns-in_err-end_answer : goal.returns-in_err-end_answer
returns-in_err-end_answer c =
    let h : c.header_at.result ≡ Ok (c.in_ok-kind.kind, c.in_ok-kind.size) = search rules in
    let x : c.from_residual-in_err-end_answer.result ≡ Err c.in_err-end_answer.field-0.0 = search rules in
    rw x (found_byte c.args.t.now c.args.at c.args.b.now c.args.store (sym c.header_at.ensures ∙ h) c.if-kind-eq-END_KIND.true (sym c.in_err-end_answer.was ∙ c.end_answer.ensures))

pub returns-then-kind-eq-END_KIND : goal.returns-then-kind-eq-END_KIND
returns-then-kind-eq-END_KIND c =
    let h : c.header_at.result ≡ Ok (c.in_ok-kind.kind, c.in_ok-kind.size) = search rules in
    found_end c.args.t.now c.args.at c.args.b.now c.args.store (sym c.header_at.ensures ∙ h) c.if-kind-eq-END_KIND.true (sym c.in_ok-end_answer.was ∙ c.end_answer.ensures)

pub slice_bounds-take_record-end : goal.slice_bounds-take_record-end
slice_bounds-take_record-end c =
    let h : c.header_at.result ≡ Ok (c.in_ok-kind.kind, c.in_ok-kind.size) = search rules in
    omega (arith, found_inside c.args.t.now c.args.at c.args.b.now c.args.store (sym c.header_at.ensures ∙ h))

pub take_record-requires : goal.take_record-requires
take_record-requires c =
    let h : c.header_at.result ≡ Ok (c.in_ok-kind.kind, c.in_ok-kind.size) = search rules in
    rw add-sub_cancel_left (found_whole c.args.t.now c.args.at c.args.b.now c.args.store (sym c.header_at.ensures ∙ h) c.if-kind-eq-END_KIND.false)

pub returns-in_err-map_err : goal.returns-in_err-map_err
returns-in_err-map_err c =
    let h : c.header_at.result ≡ Ok (c.in_ok-kind.kind, c.in_ok-kind.size) = search rules in
    let x : c.from_residual-in_err-map_err.result ≡ Err c.in_err-map_err.field-0.0 = search rules in
    let y : c.in_err-map_err.field-0.0.place ≡ c.args.at = search rules in
    let z : c.take_record.result ≡ Err c.in_err-map_err.field-0.0.refusal = search rules in
    rw (x, y) (found_refused c.args.t.now c.args.at c.args.b.now c.args.store (sym c.header_at.ensures ∙ h) c.if-kind-eq-END_KIND.false (rw (add-sub_cancel_left, z) at c.take_record.ensures))

pub returns : goal.returns
returns c =
    let h : c.header_at.result ≡ Ok (c.in_ok-kind.kind, c.in_ok-kind.size) = search rules in
    let x : c.take_record.result ≡ Ok tt = search rules in
    found_next c.args.t.now c.args.at c.args.b.now c.args.store (sym c.header_at.ensures ∙ h) c.if-kind-eq-END_KIND.false (rw (add-sub_cancel_left, x) at c.take_record.ensures)
