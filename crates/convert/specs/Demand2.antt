-- Document 02, 2026-06: what the request says of the two converters, over every record. `proofs/Demand2.antt` proves it.
-- Assumes nothing.
use Rattle.std.specs.Prelude.{ℕ, ◌≡◌, ◌↔◌, ◌⊎◌, true, not, List, length, replicate}
use Rattle.logic.specs.Logic.{either}
use Rattle.words.specs.Words.{Bytes, part}
use Rattle.drive.specs.Drive.{drive_of, same, i2o}
use Rattle.layout.specs.declared.Pointer.{Pointer}
use Rattle.layout.specs.ResultBuffer.{result_answer, result_out}
use Rattle.convert.specs.Convert.{conversion_number, sound_record, up_bytes, up_answer, up_out, down_bytes, down_answer, down_out}

-- ---- "2026-06", the converters

-- of every list of bytes
pub record Converts (r : List ℕ) : Type 0 where
  -- a sound record of kind 1 goes up, and what it gives is a sound record of kind 2
  pub up : sound_record 1 r ≡ true → (conversion_number (up_answer r 76) ≡ 0) × (sound_record 2 (up_bytes r) ≡ true)
  -- "Up, then down, gives the original bytes"
  pub up-down : sound_record 1 r ≡ true → (conversion_number (down_answer (up_bytes r) 68) ≡ 0) × (down_bytes (up_bytes r) ≡ r)
  -- and down, then up, where down is not refused
  pub down-up : conversion_number (down_answer r 68) ≡ 0 → (sound_record 1 (down_bytes r) ≡ true) × (up_bytes (down_bytes r) ≡ r)
  -- "down, a sound record (length, kind, fields) is refused exactly when the last eight bytes aren't zero or the type is I2O"
  pub down-refused : sound_record 2 r ≡ true → (conversion_number (down_answer r 68) ≡ 10) ↔ (either (not (same (part 8 r 68) (replicate 8 0))) (same (part 8 r 44) i2o) ≡ true)
  -- "conversion 10, also for buffers not of 68 and 76 bytes and for input that isn't a sound record of its kind": a conversion passes only with these
  pub up_passes : (out : List ℕ) → (conversion_number (up_answer r (length out)) ≡ 0) ↔ ((length r ≡ 68) × (length out ≡ 76) × (sound_record 1 r ≡ true))
  pub down_passes : (out : List ℕ) → conversion_number (down_answer r (length out)) ≡ 0 → (length r ≡ 76) × (length out ≡ 68) × (sound_record 2 r ≡ true)
  -- and else the answer is 10, "with the output buffer unchanged"; passed, the buffer has the other kind's bytes
  pub up-leaves : (out : List ℕ) → ((conversion_number (up_answer r (length out)) ≡ 0) × (up_out r out ≡ up_bytes r)) ⊎ ((conversion_number (up_answer r (length out)) ≡ 10) × (up_out r out ≡ out))
  pub down-leaves : (out : List ℕ) → ((conversion_number (down_answer r (length out)) ≡ 0) × (down_out r out ≡ down_bytes r)) ⊎ ((conversion_number (down_answer r (length out)) ≡ 10) × (down_out r out ≡ out))
  -- "A kind 1 drive answers 74 as its conversion": for every pointer and window, and in each of the four sizes
  pub answers : sound_record 1 r ≡ true → (p : Pointer) (asked : ℕ) (window : List ℕ)
      → (result_answer (drive_of r) asked (length window) ≡ result_answer (drive_of (up_bytes r)) asked (length window))
      × (result_out (drive_of r) p asked window ≡ result_out (drive_of (up_bytes r)) p asked window)

-- DEMAND 2, of the converters
abbrev pub Demand2 : Type 0
Demand2 = (r : List ℕ) → Bytes r → Converts r
