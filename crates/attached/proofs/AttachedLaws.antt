-- Laws of the record of a drive's parameters.
-- Assumes nothing.
use mathlib.Core.Path.{◌≡◌, refl, sym, ap, ◌∙◌}
use mathlib.Core.List.{List}
use Prim.Native.Nat.{ℕ, ◌≤◌, ◌<◌, ◌^◌}
use native.Mathlib.Omega.{arith}
use lib.ListN.{length, drop, length-append, length-drop}
use lib.Seq.{sets, take_all, length-take-le}
use Rattle.words.specs.Words.{Bytes, le, le_bytes}
use Rattle.words.proofs.WordsLaws.{glue, sets-append, sets-whole, length-le_bytes, read-write, write_read}
use Rattle.attached.specs.Parameters.{number_in, parameters_in, parameters_record}

-- ---- what the code reads and stores

pub length-parameters_in : (r : List ℕ) → 20 ≤ length r → length (parameters_in r) ≡ 14
length-parameters_in r h = length-take-le 14 (drop 6 r) (rw length-drop (omega arith))

pub length-parameters_record : (i : ℕ) (p : List ℕ) → length p ≡ 14 → length (parameters_record i p) ≡ 20
unfolding parameters_record
length-parameters_record i p l = simp (length-append, length-le_bytes, l)

pub record_stores : {o₁ o₂ o₃ o₄ : List ℕ} (s : List ℕ) (i : ℕ) (p : List ℕ) → length s ≡ 20 → length p ≡ 14
    → o₁ ≡ sets s 0 (le_bytes 2 20) → o₂ ≡ sets o₁ 2 (le_bytes 2 4) → o₃ ≡ sets o₂ 4 (le_bytes 2 i) → o₄ ≡ sets o₃ 6 p → o₄ ≡ parameters_record i p
unfolding parameters_record
record_stores s i p l m e₁ e₂ e₃ e₄ =
    let w : sets s 0 (parameters_record i p) ≡ parameters_record i p = sets-whole s (parameters_record i p) (l ∙ sym (length-parameters_record i p m)) in
    let a : sets s 0 (parameters_record i p) ≡ sets (sets (sets (sets s 0 (le_bytes 2 20)) 2 (le_bytes 2 4)) 4 (le_bytes 2 i)) 6 p = simp (sets-append, length-le_bytes) in
    rw (e₄, e₃, e₂, e₁) (sym a ∙ w)

-- ---- from bytes to number and parameters and back

-- the bytes of a record are those of its number and its parameters
pub record-parameters : (r : List ℕ) → Bytes r → length r ≡ 20 → le 2 r 0 ≡ 20 → le 2 r 2 ≡ 4 → parameters_record (number_in r) (parameters_in r) ≡ r
unfolding parameters_record
record-parameters r b l e₀ e₂ =
    glue r 2 18 0 (ap (le_bytes 2) (sym e₀) ∙ write_read 2 r 0 b (omega arith))
    (glue r 2 16 2 (ap (le_bytes 2) (sym e₂) ∙ write_read 2 r 2 b (omega arith)) (glue r 2 14 4 (write_read 2 r 4 b (omega arith)) refl))
    ∙ take_all 20 r (omega arith)

-- the record of a number and parameters says its length, its kind, that number and those parameters
pub record Says (i : ℕ) (p : List ℕ) : Type 0 where
  pub length_word : le 2 (parameters_record i p) 0 ≡ 20
  pub kind : le 2 (parameters_record i p) 2 ≡ 4
  pub number : number_in (parameters_record i p) ≡ i
  pub bytes : parameters_in (parameters_record i p) ≡ p

pub parameters-record : (i : ℕ) (p : List ℕ) → i < 256 ^ 2 → length p ≡ 14 → Says i p
unfolding parameters_record le le_bytes
parameters-record i p h l = record { length_word = refl; kind = refl; number = read-write 2 i h; bytes = take_all 14 p (omega arith) }
