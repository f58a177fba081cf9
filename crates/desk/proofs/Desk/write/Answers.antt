use Rattle.std.proofs.lemmas.Result.{err_from_is_err_and}
use mathlib.Core.Path.{sym, ap, ◌∙◌}
use lib.ListN.{length}
use Rattle.table.specs.Table.{write_answer, write_out}
use Rattle.desk.specs.Calls.{WriteAnswer, table_written, written_of, written_out}
use Rattle.desk.proofs.CallsLaws.{refused_by, passed_by, write-table}
use Rattle.desk.proofs.NumbersLaws.{write_answered}
use Rattle.desk.proofs.Desk.write.Goals as goal

pub returns-in_err-house_tests : goal.returns-in_err-house_tests
unfolding written_of written_out
returns-in_err-house_tests c =
    let d = c.args.self in
    let out = c.args.out.now in
    let p = err_from_is_err_and c.from_residual.result c.from_residual.ensures.1 in
    let tests = rw c.accept.ensures at c.house_tests.ensures.0 in
    write_answered d out
    (refused_by _ _ _ (λ (x : WriteAnswer). x) (table_written (write_answer d.table (length out))) tests c.in_err-house_tests.was p.1 p.2)
    (refused_by _ _ _ (λ (x : WriteAnswer). out) (write_out d.table out) tests c.in_err-house_tests.was p.1 p.2)

pub returns-in_err-written : goal.returns-in_err-written
returns-in_err-written c =
    let d = c.args.self in
    let out = c.args.out.now in
    let p = err_from_is_err_and c.from_residual-in_err-written.result c.from_residual-in_err-written.ensures.1 in
    let w = write-table d out (passed_by _ _ _ (rw c.accept.ensures at c.house_tests.ensures.0) c.in_ok-house_tests.was) in
    let answer = ap table_written (sym c.in_err-written.was ∙ c.write_table.ensures.0) in
    write_answered d out (rw (p.1, p.2) (answer ∙ w.0)) (c.write_table.ensures.1 ∙ w.1)

pub returns : goal.returns
returns c =
    let d = c.args.self in
    let out = c.args.out.now in
    let w = write-table d out (passed_by _ _ _ (rw c.accept.ensures at c.house_tests.ensures.0) c.in_ok-house_tests.was) in
    let answer = ap table_written (sym c.in_ok-written.was ∙ c.write_table.ensures.0) in
    write_answered d out (answer ∙ w.0) (c.write_table.ensures.1 ∙ w.1)
