use native.Mathlib.Omega.{arith}
use Rattle.image.proofs.Judged.{judged-size, judged-pointer, judged-table, judged_rows, judged-more}
use Rattle.words.specs.Words.{Bytes}
use Rattle.image.proofs.acceptable.Goals as goal

pub returns-in_default : goal.returns-in_default
returns-in_default c =
    let bytes : Bytes c.args.b.now = λ i. omega (arith, c.type_inv.b i) in
    judged-size _ bytes c.in_default.ensures.cases

pub returns-then-get-ge8 : goal.returns-then-get-ge8
returns-then-get-ge8 c =
    let bytes : Bytes c.args.b.now = λ i. omega (arith, c.type_inv.b i) in
    let w = c.in-Some.ensures.cases in
    judged-pointer _ bytes w.long (rw w.same at c.get.ensures) c.if-get-ge8.true

pub returns-then-not-table_good : goal.returns-then-not-table_good
returns-then-not-table_good c =
    let bytes : Bytes c.args.b.now = λ i. omega (arith, c.type_inv.b i) in
    let w = c.in-Some.ensures.cases in
    judged-table _ bytes w.long (rw w.same at c.table_good.ensures) c.if-not-table_good.true

pub returns-then-not-rows_good : goal.returns-then-not-rows_good
returns-then-not-rows_good c =
    let bytes : Bytes c.args.b.now = λ i. omega (arith, c.type_inv.b i) in
    let w = c.in-Some.ensures.cases in
    judged_rows _ bytes w.long (rw w.same at c.get.ensures) c.if-get-ge8.false
    (rw w.same at c.table_good.ensures) c.if-not-table_good.false (rw w.same at c.get-m.ensures) (rw w.same at c.rows_good.ensures) c.if-not-rows_good.true

pub returns : goal.returns
returns c =
    let bytes : Bytes c.args.b.now = λ i. omega (arith, c.type_inv.b i) in
    let w = c.in-Some.ensures.cases in
    judged-more _ bytes w.long (rw w.same at c.get.ensures) c.if-get-ge8.false
    (rw w.same at c.table_good.ensures) c.if-not-table_good.false (rw w.same at c.get-m.ensures) (rw w.same at c.rows_good.ensures) c.if-not-rows_good.false (rw w.same at c.more_good.ensures)
