use Rattle.std.proofs.lemmas.Result.{err_from_is_err_and}
use mathlib.Core.Path.{◌≡◌, refl, sym, ap, ◌∙◌}
use mathlib.Core.Bool.{Bool}
use Prim.Native.Nat.{ℕ}
use Rattle.memory.specs.Window.{window_length}
use Rattle.int13.specs.Placement.{table_count}
use Rattle.desk.specs.declared.Stage.{Stage}
use Rattle.desk.specs.declared.Desk.{Desk}
use Rattle.desk.specs.Parts.{window_size, stage_at, is_waiting}
use Rattle.desk.specs.Acceptable.{place_ok}
use Rattle.desk.specs.Calls.{PlaceAnswer, done, place_stage, place_of}
use Rattle.desk.proofs.CallsLaws.{lent_arena, refused_by, passed_by, passed-below, place_waiting, place-bad, place-done}
use Rattle.desk.proofs.NumbersLaws.{place_answered}
use Rattle.desk.proofs.Desk.place_lent.Goals as goal

-- whether the row waits, and whether the place is good, as the code found it
waits : (d : Desk) (g : ℕ) {s : Stage} {t x : Bool} → s ≡ stage_at d g → t ≡ is_waiting s → t ≡ x → is_waiting (stage_at d g) ≡ x
waits d g es et e = sym (et ∙ ap is_waiting es) ∙ e

good : (d : Desk) (address : ℕ) {n : ℕ} {t x : Bool} → n ≡ table_count d.table → t ≡ place_ok n (window_size d) address → t ≡ x
    → place_ok (table_count d.table) (window_size d) address ≡ x
good d address en et e = sym (et ∙ ap (λ (n : ℕ). place_ok n (window_size d) address) en) ∙ e

pub returns-in_err-house : goal.returns-in_err-house
unfolding place_of
returns-in_err-house c =
    let a = c.args in
    let d = a.self.now in
    let p = err_from_is_err_and c.from_residual.result c.from_residual.ensures.1 in
    place_answered d a.guest a.address a.arena.now a.store.now
    (refused_by _ _ _ (λ (x : PlaceAnswer). done d x a.arena.now a.store.now) (place_stage d a.guest a.address (stage_at d a.guest) a.arena.now a.store.now) c.house.ensures c.in_err-house.was p.1 p.2)

pub stage_in-requires : goal.stage_in-requires
stage_in-requires c = passed-below c.args.guest (passed_by _ _ _ c.house.ensures c.in_ok-house.was)

pub returns-then-waits : goal.returns-then-waits
returns-then-waits c =
    let a = c.args in
    let d = a.self.now in
    place_answered d a.guest a.address a.arena.now a.store.now
    (place_waiting d a.guest a.arena.now a.store.now (passed_by _ _ _ c.house.ensures c.in_ok-house.was) a.address (waits d a.guest c.stage_in.ensures c.waits.ensures c.if-waits.true))

pub returns-then-not-place_ok : goal.returns-then-not-place_ok
returns-then-not-place_ok c =
    let a = c.args in
    let d = a.self.now in
    place_answered d a.guest a.address a.arena.now a.store.now
    (place-bad d a.guest a.arena.now a.store.now (passed_by _ _ _ c.house.ensures c.in_ok-house.was) a.address (waits d a.guest c.stage_in.ensures c.waits.ensures c.if-waits.false) (good d a.address c.table_count.ensures.0 c.place_ok.ensures c.if-not-place_ok.true))

pub lay_tables-requires : goal.lay_tables-requires
lay_tables-requires c =
    let a = c.args in
    let d = a.self.now in
    let p = passed_by _ _ _ c.house.ensures c.in_ok-house.was in
    (passed-below a.guest p, ap (λ (n : ℕ). place_ok (table_count d.table) (window_length n) a.address) (lent_arena d a.arena.now a.store.now p.lent) ∙ good d a.address c.table_count.ensures.0 c.place_ok.ensures c.if-not-place_ok.false)

pub set_placement-requires : goal.set_placement-requires
set_placement-requires c = passed-below c.args.guest (passed_by _ _ _ c.house.ensures c.in_ok-house.was)

pub returns : goal.returns
returns c =
    let a = c.args in
    let d = a.self.now in
    place_answered d a.guest a.address a.arena.now a.store.now
    (place-done d a.guest a.arena.now a.store.now (passed_by _ _ _ c.house.ensures c.in_ok-house.was) a.address (waits d a.guest c.stage_in.ensures c.waits.ensures c.if-waits.false) (good d a.address c.table_count.ensures.0 c.place_ok.ensures c.if-not-place_ok.false) c.set_placement.ensures refl c.lay_tables.ensures)
