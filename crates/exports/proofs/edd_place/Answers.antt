use mathlib.Core.Path.{◌≡◌, refl, sym, ap, ◌∙◌}
use mathlib.Core.Bool.{Bool}
use mathlib.Core.List.{List}
use Prim.Native.Nat.{ℕ, ◌<◌}
use lib.ListN.{length}
use lib.Dec.{ltb}
use native.Mathlib.Omega.{arith}
use Rattle.std.specs.Prelude.{Result, Err}
use Rattle.words.specs.Words.{Bytes}
use Rattle.memory.specs.Window.{window_length}
use Rattle.table.specs.declared.Table.{Table}
use Rattle.int13.specs.Placement.{table_count}
use Rattle.desk.specs.declared.HouseNumber.{HouseNumber}
use Rattle.desk.specs.Parts.{window_size, own_window, with_own, stage_at, is_waiting}
use Rattle.desk.specs.Acceptable.{place_ok, accept}
use Rattle.desk.specs.Calls.{house_answer, is_lent, done, tables_in, place_stage, place_of}
use Rattle.desk.specs.Numbers.{place_numbers}
use Rattle.desk.proofs.CallsLaws.{lent_arena, refused_by, Passed, passed_by, passed-below, place_waiting, place-bad, place-done}
use Rattle.image.specs.Image.{read_desk, desk_of}
use Rattle.exports.specs.Exports.{place_call}
use Rattle.exports.proofs.Exports.{no_block, waiting_read, tables-read, table-read, put_place}
use Rattle.exports.proofs.edd_place.Goals as goal

refused : {h : Result (Unit {0}) HouseNumber} {e : HouseNumber} (b arena store : List ℕ) (g address : ℕ) → h ≡ house_answer (accept (desk_of b)) (is_lent (desk_of b) arena store) (ltb g 8) → h ≡ Err e
    → done (desk_of b) (Err e) arena store ≡ place_of (desk_of b) g address arena store
unfolding place_of
refused b arena store g address p q =
    let d = desk_of b in
    refused_by _ _ _ (λ r. done d r arena store) (place_stage d g address (stage_at d g) arena store) p q refl refl

module _ (b arena store : List ℕ) (g : ℕ) (p : Passed (accept (desk_of b)) (is_lent (desk_of b) arena store) (ltb g 8)) where
  -- whether the row waits
  waits : {t x : Bool} → t ≡ is_waiting (stage_at (read_desk b) g) → t ≡ x → is_waiting (stage_at (desk_of b) g) ≡ x
  waits et e = sym (waiting_read b p.acceptable g et) ∙ e

  -- the windows of the arena are the desk's
  wide : window_length (length arena) ≡ window_size (desk_of b)
  wide = ap window_length (lent_arena (desk_of b) arena store p.lent)

  -- whether the place is good
  good : {n m : ℕ} {t x : Bool} (address : ℕ) → n ≡ table_count (read_desk b).table → m ≡ window_length (length arena) → t ≡ place_ok n m address → t ≡ x
      → place_ok (table_count (desk_of b).table) (window_size (desk_of b)) address ≡ x
  good {n} {m} address en em et e =
      sym (et
      ∙ ap (λ (k : ℕ). place_ok k m address) (tables-read b p.acceptable en)
      ∙ ap (λ (k : ℕ). place_ok (table_count (desk_of b).table) k address) (em ∙ wide))
      ∙ e

pub returns-in_default : goal.returns-in_default
unfolding place_call place_numbers
returns-in_default c =
    let a = c.args in
    let b : List ℕ = a.desk.now in
    let bytes : Bytes b = λ i. omega (arith, c.type_inv.desk i) in
    rw (c.numbered.ensures, ← refused b a.arena.now a.store.now a.guest a.address (no_block b _ _ bytes c.in_default.ensures.cases) refl)

pub returns-in-Err : goal.returns-in-Err
unfolding place_call place_numbers
returns-in-Err c =
    let a = c.args in
    rw (← c.in-Some.ensures.cases.same, c.numbered-in-Err.ensures, ← refused c.in-Some.block.now a.arena.now a.store.now a.guest a.address c.tests_at.ensures c.in-Err.is)

pub is_waiting-requires : goal.is_waiting-requires
is_waiting-requires c = passed-below c.args.guest (passed_by _ _ _ c.tests_at.ensures c.in_default-tests_at.is)

pub returns-then-is_waiting : goal.returns-then-is_waiting
unfolding place_call place_numbers
returns-then-is_waiting c =
    let b : List ℕ = c.in-Some.block.now in
    let arena : List ℕ = c.args.arena.now in
    let store : List ℕ = c.args.store.now in
    let g : ℕ = c.args.guest in
    let p = passed_by _ _ _ c.tests_at.ensures c.in_default-tests_at.is in
    rw (← c.in-Some.ensures.cases.same, c.numbered-then-is_waiting.ensures, ← place_waiting (desk_of b) g arena store p c.args.address (waits b arena store g p c.is_waiting.ensures c.if-is_waiting.true))

pub returns-then-not-place_ok : goal.returns-then-not-place_ok
unfolding place_call place_numbers
returns-then-not-place_ok c =
    let b : List ℕ = c.in-Some.block.now in
    let arena : List ℕ = c.args.arena.now in
    let store : List ℕ = c.args.store.now in
    let g : ℕ = c.args.guest in
    let p = passed_by _ _ _ c.tests_at.ensures c.in_default-tests_at.is in
    let w = waits b arena store g p c.is_waiting.ensures c.if-is_waiting.false in
    let bad = good b arena store g p c.args.address c.table_count.ensures c.window_length-m.ensures c.place_ok.ensures c.if-not-place_ok.true in
    rw (← c.in-Some.ensures.cases.same, c.numbered-then-not-place_ok.ensures, ← place-bad (desk_of b) g arena store p c.args.address w bad)

pub lay_tables-requires : goal.lay_tables-requires
lay_tables-requires c =
    let b : List ℕ = c.in-Some.block.now in
    let arena : List ℕ = c.args.arena.now in
    let store : List ℕ = c.args.store.now in
    let g : ℕ = c.args.guest in
    let address : ℕ = c.args.address in
    let p = passed_by _ _ _ c.tests_at.ensures c.in_default-tests_at.is in (
      (passed-below g p),
      ap (λ (t : Table). place_ok (table_count t) (window_length (length arena)) address) (table-read b p.acceptable c.table_of.ensures)
          ∙ ap (λ (m : ℕ). place_ok (table_count (desk_of b).table) m address) (wide b arena store g p)
          ∙ good b arena store g p address c.table_count.ensures c.window_length-m.ensures c.place_ok.ensures c.if-not-place_ok.false,
    )

pub put_placement-requires : goal.put_placement-requires
put_placement-requires c = passed-below c.args.guest (passed_by _ _ _ c.tests_at.ensures c.in_default-tests_at.is)

pub returns : goal.returns
unfolding place_call place_numbers
returns c =
    let b : List ℕ = c.in-Some.block.now in
    let arena : List ℕ = c.args.arena.now in
    let store : List ℕ = c.args.store.now in
    let g : ℕ = c.args.guest in
    let address : ℕ = c.args.address in
    let p = passed_by _ _ _ c.tests_at.ensures c.in_default-tests_at.is in
    let w = waits b arena store g p c.is_waiting.ensures c.if-is_waiting.false in
    let fine = good b arena store g p address c.table_count.ensures c.window_length-m.ensures c.place_ok.ensures c.if-not-place_ok.false in
    let laid = c.lay_tables.ensures ∙ ap (λ (t : Table). with_own arena g (tables_in t address (own_window arena g))) (table-read b p.acceptable c.table_of.ensures) in
    let k = put_place b p.acceptable g address (passed-below g p) c.put_placement.ensures in
    rw (← c.in-Some.ensures.cases.same, ← place-done (desk_of b) g arena store p address w fine refl refl laid, k)
