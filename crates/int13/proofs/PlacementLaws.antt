-- Laws of the device parameter tables in a guest's window, and of what a guest is shown of them.
-- Assumes nothing.
use Prim.Native.Nat.{ℕ, zero, suc, ◌+◌, ◌-◌, ◌*◌, ◌/◌, ◌%◌, ◌≤◌, ◌<◌}
use Rattle.std.specs.Prelude.{Some, is_some}
use Rattle.std.specs.List.{count_by}
use Rattle.std.proofs.lemmas.List.Sums.{count_by_more_yes, count_by_more_no}
use mathlib.Core.Path.{◌≡◌, refl, sym, ap, ◌∙◌}
use mathlib.Core.Bool.{Bool, true, false}
use mathlib.Core.List.{List, [], append-nil}
use native.Mathlib.Numerals.{add-one}
use native.Mathlib.Omega.{arith}
use lib.ListN.{length, take, drop, length-append, length-drop}
use lib.Seq.{sets, length-take-le}
use Rattle.logic.specs.Logic.{pick, both}
use Rattle.words.proofs.WordsLaws.{sets-append}
use Rattle.table.specs.declared.Table.{Table}
use Rattle.table.specs.Table.{has_parameters, parameters_at, parameters_to}
use Rattle.layout.specs.ParameterTable.{parameter_table}
use Rattle.layout.proofs.ParameterTableLaws.{length-parameters}
use Rattle.int13.specs.declared.Placement.{Placement}
use Rattle.int13.specs.Placement.{tables_to, tables_of, table_count, table_address, not_shown}
use Rattle.int13.specs.Steps.{first_drive, is_drive, shown_of}

-- ---- how many tables

-- at most one for each slot
pub parameters_to-most : (n : ℕ) (b : Table) → parameters_to n b ≤ n
unfolding parameters_to
parameters_to-most zero b = omega arith
parameters_to-most (suc n) b = by_test (has_parameters b n) (parameters_to-most n b)
  where
    by_test : (t : Bool) → parameters_to n b ≤ n → parameters_to n b + pick t 1 0 ≤ suc n
    by_test true h = omega arith
    by_test false h = omega arith

-- one slot more, with a table or without
pub counted : (b : Table) (i : ℕ) (t : Bool) → has_parameters b i ≡ t → parameters_to (i + 1) b ≡ parameters_to i b + pick t 1 0
unfolding parameters_to
counted b i t e = rw (add-one, e)

-- the marks that are set among the first n
pub counted_to : (n : ℕ) (b : Table) → n ≤ length b.present → count_by (λ (t : Bool). t) (take n b.present) ≡ parameters_to n b
unfolding parameters_to
counted_to zero b h = refl
counted_to (suc n) b h = by_test (has_parameters b n) refl (counted_to n b (omega arith))
  where
    by_test : (t : Bool) → has_parameters b n ≡ t → count_by (λ (t : Bool). t) (take n b.present) ≡ parameters_to n b
        → count_by (λ (t : Bool). t) (take (suc n) b.present) ≡ parameters_to n b + pick (has_parameters b n) 1 0
    by_test true e k =
        let more = count_by_more_yes (λ (t : Bool). t) b.present n false (omega arith) e in
        rw e ((rw add-one at more) ∙ ap (λ (k : ℕ). k + 1) k)
    by_test false e k =
        let more = count_by_more_no (λ (t : Bool). t) b.present n false (omega arith) e in
        rw e ((rw add-one at more) ∙ omega (arith, k))

-- ---- their bytes

-- fourteen bytes a slot
pub length_at : (b : Table) (i : ℕ) → length b.parameters ≡ 112 → i < 8 → length (parameters_at b i) ≡ 14
length_at b i l h = length-take-le 14 (drop (14 * i) b.parameters) (rw length-drop (omega arith))

-- sixteen bytes a table
pub length-tables_to : (n : ℕ) (b : Table) → length b.parameters ≡ 112 → n ≤ 8 → length (tables_to n b) ≡ 16 * parameters_to n b
unfolding tables_to parameters_to
length-tables_to zero b l h = refl
length-tables_to (suc n) b l h = rw length-append (by_test (has_parameters b n) (length-tables_to n b l (omega arith)))
  where
    by_test : (t : Bool) → length (tables_to n b) ≡ 16 * parameters_to n b
        → length (tables_to n b) + length (pick t (parameter_table (parameters_at b n)) []) ≡ 16 * (parameters_to n b + pick t 1 0)
    by_test true e = omega (arith, length-parameters (parameters_at b n) (length_at b n l (omega arith)))
    by_test false e = omega arith

-- where the slots have fourteen bytes each
pub length-tables : (b : Table) → length b.parameters ≡ 112 → length (tables_of b) ≡ 16 * table_count b
length-tables b l = length-tables_to 8 b l (omega arith)

-- one slot more in a buffer: without a table nothing, with one its bytes behind those before
pub laid_none : {out : List ℕ} (s : List ℕ) (b : Table) (i : ℕ) → has_parameters b i ≡ false → out ≡ sets s 0 (tables_to i b) → out ≡ sets s 0 (tables_to (i + 1) b)
unfolding tables_to
laid_none s b i e o = o ∙ rw (add-one, e, append-nil)

pub laid_one : {out next r : List ℕ} {at : ℕ} (s : List ℕ) (b : Table) (i : ℕ) → length b.parameters ≡ 112 → i < 8 → has_parameters b i ≡ true
    → out ≡ sets s 0 (tables_to i b) → at ≡ 16 * parameters_to i b → r ≡ parameter_table (parameters_at b i) → next ≡ sets out at r
    → next ≡ sets s 0 (tables_to (i + 1) b)
unfolding tables_to
laid_one {at = at} s b i l h e o a p q =
    let k : at ≡ 0 + length (tables_to i b) = omega (arith, length-tables_to i b l (omega arith)) in
    rw (q, o, k, p, add-one, e) (sym (sets-append s 0 (tables_to i b) (parameter_table (parameters_at b i))))

-- ---- what a guest is shown

-- it finds a table of a drive that has a record, where it has a placement
pub shown-table : (b : Table) (p : Placement) (n : ℕ) → is_some (shown_of b p n) ≡ both (is_drive b n) (both p.placed (has_parameters b (n - first_drive)))
unfolding shown_of
shown-table b p n = by_tests (is_drive b n) (both p.placed (has_parameters b (n - first_drive))) (table_address b p.address (n - first_drive) / 16 % 65536)
  where
    by_tests : (known found : Bool) (x : ℕ) → is_some (pick known (pick found (Some x) not_shown) not_shown) ≡ both known found
    by_tests true true x = refl
    by_tests true false x = refl
    by_tests false found x = refl
