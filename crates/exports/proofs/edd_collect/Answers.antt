use lib.ListN.{length}
use mathlib.Core.Path.{◌≡◌, refl, sym, ◌∙◌}
use mathlib.Core.Bool.{true}
use mathlib.Core.List.{List, []}
use Prim.Native.Nat.{ℕ}
use lib.Dec.{ltb}
use native.Mathlib.Omega.{arith}
use Rattle.std.specs.Prelude.{Result, Err}
use Rattle.words.specs.Words.{Bytes}
use Rattle.desk.specs.declared.HouseNumber.{HouseNumber}
use Rattle.desk.specs.declared.Stage.TheVariants.{Vacant}
use Rattle.desk.specs.Parts.{stage_at}
use Rattle.desk.specs.Acceptable.{accept}
use Rattle.desk.specs.Calls.{house_answer, done, collect_stage, collect_of}
use Rattle.desk.specs.Numbers.{collect_numbers}
use Rattle.desk.proofs.CallsLaws.{not_finished-tag, refused_by, passed_by, passed-below, collect-other, collect-finished}
use Rattle.image.specs.Image.{desk_of}
use Rattle.exports.specs.Exports.{over, collect_call}
use Rattle.exports.proofs.Exports.{tested, no_block, stage_read, put_row}
use Rattle.exports.proofs.edd_collect.Goals as goal

refused : {h : Result (Unit {0}) HouseNumber} {e : HouseNumber} (b : List ℕ) (g : ℕ) → h ≡ house_answer (accept (desk_of b)) true (ltb g 8) → h ≡ Err e
    → done (desk_of b) (Err e) [] [] ≡ collect_of (desk_of b) g [] []
unfolding collect_of
refused b g p q = let d = desk_of b in refused_by _ _ _ (λ r. done d r [] []) (collect_stage d g (stage_at d g) [] []) p q refl refl

pub returns-in_default : goal.returns-in_default
unfolding collect_call over collect_numbers
returns-in_default c =
    let b : List ℕ = c.args.desk.now in
    let g : ℕ = c.args.guest in
    let bytes : Bytes b = λ i. omega (arith, c.type_inv.desk i) in
    rw (c.numbered.ensures, ← refused b g (no_block b true (ltb g 8) bytes c.in_default.ensures.cases) refl)

pub returns-in-Err : goal.returns-in-Err
unfolding collect_call over collect_numbers
returns-in-Err c =
    let b : List ℕ = c.in-Some.block.now in
    let g : ℕ = c.args.guest in
    rw (← c.in-Some.ensures.cases.same, c.numbered-in-Err.ensures, ← refused b g (tested b true (ltb g 8) c.house_tests.ensures.0 c.acceptable.ensures) c.in-Err.is)

pub stage_of-requires : goal.stage_of-requires
stage_of-requires c = passed-below c.args.guest (passed_by _ _ _ c.house_tests.ensures.0 c.in_default-house_tests.is)

pub returns-in_default-stage_of : goal.returns-in_default-stage_of
unfolding collect_call over collect_numbers
returns-in_default-stage_of c =
    let b : List ℕ = c.in-Some.block.now in
    let g : ℕ = c.args.guest in
    let p = passed_by _ _ _ (tested b true (ltb g 8) c.house_tests.ensures.0 c.acceptable.ensures) c.in_default-house_tests.is in
    let s = stage_read b p.acceptable g c.stage_of.ensures in
    rw (
      ← c.in-Some.ensures.cases.same,
      c.numbered-in_default-stage_of.ensures,
      ← collect-other (desk_of b) g [] [] p (not_finished-tag (stage_at (desk_of b) g) (rw s at c.in_default-stage_of.not-Finished)),
    )

pub put_stage-requires : goal.put_stage-requires
put_stage-requires c = passed-below c.args.guest (passed_by _ _ _ c.house_tests.ensures.0 c.in_default-house_tests.is)

pub returns : goal.returns
unfolding collect_call over collect_numbers
returns c =
    let b : List ℕ = c.in-Some.block.now in
    let g : ℕ = c.args.guest in
    let p = passed_by _ _ _ (tested b true (ltb g 8) c.house_tests.ensures.0 c.acceptable.ensures) c.in_default-house_tests.is in
    let s = stage_read b p.acceptable g c.stage_of.ensures in
    let k = put_row b p.acceptable g Vacant (passed-below g p) c.put_stage.ensures in
    rw (← c.in-Some.ensures.cases.same, ← collect-finished (desk_of b) g [] [] p c.in-Finished.r (sym s ∙ c.in-Finished.is), k, c.hand.ensures)
