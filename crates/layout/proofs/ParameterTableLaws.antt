-- Laws of the device parameter table, and its bytes by offset.
-- Assumes nothing.
use mathlib.Core.Path.{◌≡◌, sym, ◌∙◌}
use mathlib.Core.List.{List, [], ◌∷◌, ◌++◌, append_assoc}
use Prim.Native.Nat.{ℕ, zero, suc, ◌+◌, ◌*◌, ◌/◌, ◌%◌, ◌<◌}
use native.Mathlib.Nat.{mod-lt}
use native.Mathlib.Omega.{arith}
use lib.ListN.{length, get_or, set, take, drop, replicate, length-append, length-drop, get_or-append}
use lib.Seq.{sets, take_all, take_at, set_at, set_split, set-append_left, get_or_at, get_or-set_same, get_or-set_other, length-take-le}
use Rattle.words.specs.Words.{part}
use Rattle.words.proofs.WordsLaws.{sets_front}
use Rattle.layout.specs.ResultBuffer.{sum, checksum}
use Rattle.layout.specs.ParameterTable.{drive_flags, revision, placed_bytes, parameter_table, ParameterTables}
use Rattle.layout.proofs.ResultBufferLaws.{sum-checked}

-- ---- the parts, of fourteen bytes

-- bytes 0 to 13
abbrev body : List ℕ → List ℕ
body p = take 4 p ++ (drive_flags (get_or p 4 0) ∷ part 9 p 5)

module _ (p : List ℕ) (l : length p ≡ 14) where
  length_front : length (take 4 p) ≡ 4
  length_front = length-take-le 4 p (omega arith)

  length_rest : length (part 9 p 5) ≡ 9
  length_rest = length-take-le 9 (drop 5 p) (rw length-drop (omega arith))

  length_body : length (body p) ≡ 14
  length_body = simp (length-append, length_front, length_rest)

  pub length-placed : length (placed_bytes p) ≡ 15
  unfolding placed_bytes
  length-placed = simp (length-append, length_front, length_rest)

  pub length-parameters : length (parameter_table p) ≡ 16
  unfolding parameter_table
  length-parameters = simp (length-append, length-placed)

  -- they are the given bytes with the flags stored at 4
  flagged : set p 4 (drive_flags (get_or p 4 0)) ≡ body p
  flagged =
      let rest : part 9 p 5 ≡ drop 5 p = take_all 9 (drop 5 p) (rw length-drop (omega arith)) in
      rw rest (set_split p 4 (drive_flags (get_or p 4 0)) (omega arith))

  -- with the revision they are what the last byte is made of
  before_last : (x : ℕ) → body p ++ (revision ∷ x ∷ []) ≡ placed_bytes p ++ (x ∷ [])
  unfolding placed_bytes
  before_last x = simp append_assoc

-- ---- what the code stores

-- the given bytes, the flags, the revision, and the checksum of what then stands before its place
pub table_stores : {o₁ o₂ o₃ o₄ : List ℕ} {flags byte : ℕ} (p : List ℕ) → length p ≡ 14 → o₁ ≡ sets (replicate 16 0) 0 p
    → flags ≡ drive_flags (get_or p 4 0) → o₂ ≡ set o₁ 4 flags → o₃ ≡ set o₂ 14 revision → byte ≡ checksum (take 15 o₃) → o₄ ≡ set o₃ 15 byte
    → o₄ ≡ parameter_table p
unfolding parameter_table
table_stores {o₁} {o₂} {o₃} p l e₁ f e₂ e₃ b e₄ =
    let front = sets_front (replicate 16 0) p (omega arith) in
    let x₁ : o₁ ≡ p ++ (0 ∷ 0 ∷ []) = e₁ ∙ rw l at front in
    let stored = set-append_left p (0 ∷ 0 ∷ []) 4 (drive_flags (get_or p 4 0)) (omega arith) in
    let x₂ : o₂ ≡ body p ++ (0 ∷ 0 ∷ []) = rw (e₂, x₁, f, stored, flagged p l) in
    let x₃ : o₃ ≡ placed_bytes p ++ (0 ∷ []) = rw (e₃, x₂) (set_at (body p) 0 (0 ∷ []) revision 14 (length_body p l) ∙ before_last p l 0) in
    let summed : take 15 o₃ ≡ placed_bytes p = rw x₃ (take_at (placed_bytes p) (0 ∷ []) 15 (length-placed p l)) in
    rw (e₄, b, summed, x₃) (set_at (placed_bytes p) 0 [] (checksum (placed_bytes p)) 15 (length-placed p l))

-- ---- the flags bit by bit

-- the sum by its two parts: bits 0 to 4, and bit 6
bits : (low high : ℕ) → low < 32 → high < 2 → (x : ℕ) → x ≡ low + 32 + high * 64 + 128
    → (x / 128 % 2 ≡ 1) × (x / 64 % 2 ≡ high) × (x / 32 % 2 ≡ 1) × (x % 32 ≡ low) × (x < 256)
bits low zero l h x e = (omega arith, omega arith, omega arith, omega arith, omega arith)
bits low (suc zero) l h x e = (omega arith, omega arith, omega arith, omega arith, omega arith)
bits low (suc (suc high)) l h x e = absurd (omega arith)

-- ---- the bytes by offset

module _ (p : List ℕ) (l : length p ≡ 14) where
  split : parameter_table p ≡ body p ++ (revision ∷ checksum (placed_bytes p) ∷ [])
  unfolding parameter_table
  split = sym (before_last p l (checksum (placed_bytes p)))

  -- a byte of the first fourteen is the one after the flags were stored
  byte_at : (i : ℕ) → i < 14 → get_or (parameter_table p) i 0 ≡ get_or (set p 4 (drive_flags (get_or p 4 0))) i 0
  byte_at i h =
      let k : i < length (body p) = omega (arith, length_body p l) in
      rw (split, flagged p l) (get_or-append (body p) (revision ∷ checksum (placed_bytes p) ∷ []) 0 i k)

  flags_at : get_or (parameter_table p) 4 0 ≡ drive_flags (get_or p 4 0)
  flags_at = byte_at 4 (omega arith) ∙ get_or-set_same p 4 (drive_flags (get_or p 4 0)) 0 (omega arith)

  total : sum (parameter_table p) % 256 ≡ 0
  unfolding parameter_table
  total = sum-checked (placed_bytes p)

pub parameter_tables : ParameterTables
parameter_tables p l =
    let x = get_or p 4 0 in
    let b = bits (x % 32) (x / 64 % 2) (mod-lt x (omega arith)) (mod-lt (x / 64) (omega arith)) (get_or (parameter_table p) 4 0) (flags_at p l) in
    record {
      size = length-parameters p l;
      given = λ i h n. byte_at p l i h ∙ get_or-set_other p 4 i (drive_flags (get_or p 4 0)) 0 n;
      bit_7 = b.0;
      bit_6 = b.1;
      bit_5 = b.2;
      bits_0_to_4 = b.3;
      byte = b.4;
      revision = rw (split p l) (get_or_at (body p) revision (checksum (placed_bytes p) ∷ []) 0 14 (length_body p l));
      sum = total p l;
    }
