-- What the request says of the two converters.
-- Assumes nothing.
use mathlib.Core.Path.{◌≡◌, refl, sym}
use mathlib.Core.Logic.{◌↔◌, ◌⊎◌, inl, inr}
use mathlib.Core.Bool.{Bool, true, false, not}
use mathlib.Core.List.{List}
use Prim.Native.Nat.{ℕ}
use lib.ListN.{length, replicate}
use lib.Dec.{eqb}
use borrow.Author.Tests.{not-true, eq-eqb, eqb-true}
use Rattle.logic.specs.Logic.{pick, both, either}
use Rattle.logic.proofs.LogicLaws.{impossible, both_true, both_intro}
use Rattle.words.specs.Words.{part}
use Rattle.drive.specs.Drive.{drive_length, drive_of, same, i2o, is_i2o, zero_tail}
use Rattle.layout.specs.declared.Pointer.{Pointer}
use Rattle.layout.specs.ResultBuffer.{result_answer, result_out}
use Rattle.layout.proofs.ResultBufferLaws.{kind-answer, kind-out}
use Rattle.convert.specs.Convert.{conversion_number, answer, is_record, sound_record, up_bytes, up_ok, up_answer, up_out, down_bytes, down_ok, down_answer, down_out}
use Rattle.convert.specs.Demand2.{Demand2}
use Rattle.convert.proofs.ConvertLaws.{narrow, down_sound, down-narrow, sound_header, kind-up, sound_up, sound_down, narrow-up, up-down, tail-wide, down-up}

-- an answer of 0 is one that was not refused
passed : (t : Bool) → conversion_number (answer t) ≡ 0 → t ≡ true
unfolding conversion_number
passed true e = refl
passed false e = impossible (cc)

-- and 10 one that was
refused : (z i : Bool) → (conversion_number (answer (both z (not i))) ≡ 10) ↔ (either (not z) i ≡ true)
unfolding conversion_number
refused true true = (λ e. refl, λ e. refl)
refused true false = (λ e. impossible (cc), λ e. impossible (cc))
refused false i = (λ e. refl, λ e. refl)

refusals : (r : List ℕ) → sound_record 2 r ≡ true
    → (conversion_number (down_answer r 68) ≡ 10) ↔ (either (not (same (part 8 r 68) (replicate 8 0))) (same (part 8 r 44) i2o) ≡ true)
unfolding down_answer down_ok drive_of zero_tail is_i2o
refusals r e = rw (e, tail-wide r (sound_header 2 r e)) (refused (same (part 8 r 68) (replicate 8 0)) (same (part 8 r 44) i2o))

-- the drive of what went up is of another kind, which does not show
answers : (r : List ℕ) → sound_record 1 r ≡ true → (p : Pointer) (asked : ℕ) (window : List ℕ)
    → (result_answer (drive_of r) asked (length window) ≡ result_answer (drive_of (up_bytes r)) asked (length window))
    × (result_out (drive_of r) p asked window ≡ result_out (drive_of (up_bytes r)) p asked window)
answers r e p asked window =
    let q = kind-up r (sound_header 1 r e) in
    (rw q (sym (kind-answer 2 (drive_of r) asked (length window))), rw q (sym (kind-out 2 (drive_of r) p asked window)))

-- the length of a sound record
long : (kind : ℕ) (r : List ℕ) → sound_record kind r ≡ true → length r ≡ drive_length kind
unfolding sound_record is_record
long kind r e = eqb-true (length r) (drive_length kind) (both_true _ _ (both_true _ _ e).0).0

-- what is left of a buffer by an answer
leaves : (t : Bool) (x out : List ℕ) → ((conversion_number (answer t) ≡ 0) × (pick t x out ≡ x)) ⊎ ((conversion_number (answer t) ≡ 10) × (pick t x out ≡ out))
unfolding conversion_number
leaves true x out = inl (refl, refl)
leaves false x out = inr (refl, refl)

pub demand_2 : Demand2
unfolding conversion_number up_answer up_ok up_out down_answer down_ok down_out
demand_2 r b =
    record {
      up = ups;
      up-down = returned;
      down-up = again;
      down-refused = refusals r;
      up_passes = λ out. (up-only out, λ p. rw (eq-eqb (length out) 76 p.1, p.2));
      down_passes = down-only;
      up-leaves = λ out. leaves (up_ok r (length out)) (up_bytes r) out;
      down-leaves = λ out. leaves (down_ok r (length out)) (down_bytes r) out;
      answers = answers r;
    }
  where
    up-only : (out : List ℕ) → conversion_number (up_answer r (length out)) ≡ 0 → (length r ≡ 68) × (length out ≡ 76) × (sound_record 1 r ≡ true)
    up-only out e =
        let p = both_true (eqb (length out) 76) (sound_record 1 r) (passed (up_ok r (length out)) e) in
        (long 1 r p.1, eqb-true (length out) 76 p.0, p.1)

    down-only : (out : List ℕ) → conversion_number (down_answer r (length out)) ≡ 0 → (length r ≡ 76) × (length out ≡ 68) × (sound_record 2 r ≡ true)
    down-only out e =
        let p = both_true (eqb (length out) 68) _ (passed (down_ok r (length out)) e) in
        let s = (both_true (sound_record 2 r) _ p.1).0 in
        (long 2 r s, eqb-true (length out) 68 p.0, s)

    ups : sound_record 1 r ≡ true → (conversion_number (up_answer r 76) ≡ 0) × (sound_record 2 (up_bytes r) ≡ true)
    ups e = (rw e, sound_up r e)

    returned : sound_record 1 r ≡ true → (conversion_number (down_answer (up_bytes r) 68) ≡ 0) × (down_bytes (up_bytes r) ≡ r)
    returned e = (rw (both_intro (sound_record 2 (up_bytes r)) (narrow (drive_of (up_bytes r))) (sound_up r e) (narrow-up r e)), up-down r b (sound_header 1 r e))

    again : conversion_number (down_answer r 68) ≡ 0 → (sound_record 1 (down_bytes r) ≡ true) × (up_bytes (down_bytes r) ≡ r)
    again e =
        let o : down_ok r 68 ≡ true = passed (down_ok r 68) e in
        let s = down_sound r 68 o in
        let n = both_true (zero_tail (drive_of r)) (not (is_i2o (drive_of r))) (down-narrow r 68 o) in
        (sound_down r s (not-true _ n.1), down-up r b (sound_header 2 r s) n.0)
