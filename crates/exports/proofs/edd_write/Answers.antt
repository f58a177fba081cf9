use mathlib.Core.Path.{◌≡◌, refl, ap, ◌∙◌}
use mathlib.Core.Bool.{true}
use mathlib.Core.List.{List}
use Prim.Native.Nat.{ℕ}
use lib.ListN.{length}
use native.Mathlib.Omega.{arith}
use Rattle.std.specs.Prelude.{Result, Err}
use Rattle.words.specs.Words.{Bytes}
use Rattle.table.specs.declared.ShortBuffer.{ShortBuffer}
use Rattle.table.specs.declared.Table.{Table}
use Rattle.table.specs.Table.{write_answer, write_out}
use Rattle.desk.specs.declared.HouseNumber.{HouseNumber}
use Rattle.desk.specs.Acceptable.{accept}
use Rattle.desk.specs.Calls.{house_answer, table_written, written_of, written_out}
use Rattle.desk.specs.Numbers.{written_numbers}
use Rattle.desk.proofs.CallsLaws.{refused_by, Passed, passed_by, write-table}
use Rattle.image.specs.Image.{read_desk, desk_of}
use Rattle.exports.specs.Exports.{over, write_call}
use Rattle.exports.proofs.Exports.{tested, no_block, table-read}
use Rattle.exports.proofs.edd_write.Goals as goal

refused : {h : Result (Unit {0}) HouseNumber} {e : HouseNumber} (b out : List ℕ) → h ≡ house_answer (accept (desk_of b)) true true → h ≡ Err e
    → (◌≡◌ {A = Result ℕ HouseNumber} (Err e) (written_of (desk_of b) (length out))) × (out ≡ written_out (desk_of b) out)
unfolding written_of written_out
refused b out p q =
    let t : Table = (desk_of b).table in (
      refused_by {X = ℕ} _ _ _ (λ r. r) (table_written (write_answer t (length out))) p q refl refl,
      refused_by {X = ℕ} _ _ _ (λ r. out) (write_out t out) p q refl refl,
    )

-- what the table's writer did is what the call does
wrote : {w : Result ℕ ShortBuffer} {out' : List ℕ} (b out : List ℕ) → Passed (accept (desk_of b)) true true → w ≡ write_answer (read_desk b).table (length out) → out' ≡ write_out (read_desk b).table out
    → (table_written w ≡ written_of (desk_of b) (length out)) × (out' ≡ written_out (desk_of b) out)
wrote b out p ew eo =
    let t = table-read b p.acceptable refl in
    let w = write-table (desk_of b) out p in
    (ap table_written (ew ∙ ap (λ (x : Table). write_answer x (length out)) t) ∙ w.0, eo ∙ ap (λ (x : Table). write_out x out) t ∙ w.1)

pub returns-in_default : goal.returns-in_default
unfolding write_call over written_numbers
returns-in_default c =
    let b : List ℕ = c.args.desk.now in
    let bytes : Bytes b = λ i. omega (arith, c.type_inv.desk i) in
    let r = refused b c.args.out.now (no_block b true true bytes c.in_default.ensures.cases) refl in
    rw (c.numbered.ensures, ← r.0, ← r.1)

pub returns-in-Err : goal.returns-in-Err
unfolding write_call over written_numbers
returns-in-Err c =
    let b : List ℕ = c.in-Some.block.now in
    let r = refused b c.args.out.now (tested b true true c.house_tests.ensures.0 c.acceptable.ensures) c.in-Err.is in
    rw (← c.in-Some.ensures.cases.same, c.numbered-in-Err.ensures, ← r.0, ← r.1)

pub returns-in-Ok : goal.returns-in-Ok
unfolding write_call over written_numbers
returns-in-Ok c =
    let b : List ℕ = c.in-Some.block.now in
    let p = passed_by _ _ _ (tested b true true c.house_tests.ensures.0 c.acceptable.ensures) c.in_default-house_tests.is in
    let w = wrote b c.args.out.now p c.write_table.ensures.0 c.write_table.ensures.1 in
    rw (← c.in-Some.ensures.cases.same, ← w.0, c.in-Ok.is, ← w.1)

pub returns-in-Err-write_table : goal.returns-in-Err-write_table
unfolding write_call over written_numbers
returns-in-Err-write_table c =
    let b : List ℕ = c.in-Some.block.now in
    let p = passed_by _ _ _ (tested b true true c.house_tests.ensures.0 c.acceptable.ensures) c.in_default-house_tests.is in
    let w = wrote b c.args.out.now p c.write_table.ensures.0 c.write_table.ensures.1 in
    rw (← c.in-Some.ensures.cases.same, ← w.0, c.in-Err-write_table.is, ← w.1)
