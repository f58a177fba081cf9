-- Laws of block-by-block moves.
-- Assumes nothing.
use mathlib.Core.Path.{◌≡◌, refl, ap, sym, ◌∙◌}
use mathlib.Core.Logic.{◌⊎◌, inl, inr}
use mathlib.Core.List.{List}
use Prim.Native.Nat.{ℕ, zero, suc, ◌+◌, ◌*◌, ◌≤◌, ◌<◌}
use native.Mathlib.Nat.{add-zero, add-suc, add_assoc, mul-add}
use native.Mathlib.Omega.{arith}
use lib.ListN.{length, get_or, drop}
use lib.Seq.{sets, length-sets, take-add, drop-drop, get_or-take, get_or-drop}
use Rattle.words.specs.Words.{part}
use Rattle.words.proofs.WordsLaws.{sets-append}
use Rattle.memory.specs.Blocks.{block_length, blocks}
use Rattle.memory.proofs.Sets.{length_part, length-part-le, part-sets-before, part-sets-after, part-sets-same}

pub blocks-length : (d : List ℕ) (at : ℕ) (s : List ℕ) (from k : ℕ) → length (blocks d at s from k) ≡ length d
unfolding blocks
blocks-length d at s from zero = refl
blocks-length d at s from (suc k) =
    length-sets (blocks d at s from k) (at + block_length * k) (part block_length s (from + block_length * k)) ∙ blocks-length d at s from k

-- k blocks one by one are one run of bytes
pub blocks_splice : (d : List ℕ) (at : ℕ) (s : List ℕ) (from k : ℕ) → from + block_length * k ≤ length s →
    blocks d at s from k ≡ sets d at (part (block_length * k) s from)
unfolding blocks
blocks_splice d at s from zero h = refl
blocks_splice d at s from (suc k) h =
    let e : block_length * suc k ≡ block_length * k + block_length = omega arith in
    let h' : from + block_length * k ≤ length s = omega arith in
    rw (blocks_splice d at s from k h', e, take-add (block_length * k) block_length (drop from s), drop-drop)
    (rw (sets-append, length_part (block_length * k) s from h'))

-- two moves, the second where the first ended, are one longer move
pub blocks-append : (d : List ℕ) (at : ℕ) (s : List ℕ) (from j k : ℕ) →
    blocks d at s from (j + k) ≡ blocks (blocks d at s from j) (at + block_length * j) s (from + block_length * j) k
unfolding blocks
blocks-append d at s from j zero = rw add-zero
blocks-append d at s from j (suc k) =
    rw (add-suc, blocks-append d at s from j k, mul-add block_length j k)
    (rw (add_assoc at (block_length * j) (block_length * k), add_assoc from (block_length * j) (block_length * k)))

-- ---- what a move leaves as it was, and what it lays down

pub part-blocks-before : (n : ℕ) (d : List ℕ) (b at : ℕ) (s : List ℕ) (from k : ℕ) → b + n ≤ at → part n (blocks d at s from k) b ≡ part n d b
unfolding blocks
part-blocks-before n d b at s from zero h = refl
part-blocks-before n d b at s from (suc k) h =
    part-sets-before n (blocks d at s from k) b (at + block_length * k) (part block_length s (from + block_length * k)) (omega arith)
    ∙ part-blocks-before n d b at s from k h

pub part-blocks-after : (n : ℕ) (d : List ℕ) (b at : ℕ) (s : List ℕ) (from k : ℕ) → at + block_length * k ≤ b → part n (blocks d at s from k) b ≡ part n d b
unfolding blocks
part-blocks-after n d b at s from zero h = refl
part-blocks-after n d b at s from (suc k) h =
    part-sets-after n (blocks d at s from k) b (at + block_length * k) (part block_length s (from + block_length * k))
    (omega (arith, length-part-le block_length s (from + block_length * k)))
    ∙ part-blocks-after n d b at s from k (omega arith)

byte : (d e : List ℕ) (i : ℕ) → part 1 e i ≡ part 1 d i → get_or e i 0 ≡ get_or d i 0
byte d e i h =
    let o : 0 < 1 = omega arith in
    let at_place : (l : List ℕ) → get_or (part 1 l i) 0 0 ≡ get_or l i 0 = λ l. rw (get_or-take 1 (drop i l) 0 0 o, get_or-drop, add-zero) in
    sym (at_place e) ∙ ap (λ (l : List ℕ). get_or l 0 0) h ∙ at_place d

-- byte by byte: no byte outside the k blocks changes
pub get_or-blocks_outside : (d : List ℕ) (at : ℕ) (s : List ℕ) (from k i : ℕ) → (i < at) ⊎ (at + block_length * k ≤ i) →
    get_or (blocks d at s from k) i 0 ≡ get_or d i 0
get_or-blocks_outside d at s from k i (inl h) = byte d (blocks d at s from k) i (part-blocks-before 1 d i at s from k (omega arith))
get_or-blocks_outside d at s from k i (inr h) = byte d (blocks d at s from k) i (part-blocks-after 1 d i at s from k h)

-- the k blocks are those of the source
pub part-blocks-same : (d : List ℕ) (at : ℕ) (s : List ℕ) (from k : ℕ) → at + block_length * k ≤ length d → from + block_length * k ≤ length s →
    part (block_length * k) (blocks d at s from k) at ≡ part (block_length * k) s from
part-blocks-same d at s from k hd hs =
    let v : List ℕ = part (block_length * k) s from in
    let e : length v ≡ block_length * k = length_part (block_length * k) s from hs in
    let p : part (length v) (sets d at v) at ≡ v = part-sets-same d at v (omega arith) in
    rw (blocks_splice d at s from k hs) (rw e at p)

-- only those of the source count
pub blocks_source : (d : List ℕ) (at : ℕ) (s t : List ℕ) (from k : ℕ) → from + block_length * k ≤ length s → from + block_length * k ≤ length t →
    part (block_length * k) s from ≡ part (block_length * k) t from → blocks d at s from k ≡ blocks d at t from k
blocks_source d at s t from k hs ht e = blocks_splice d at s from k hs ∙ ap (sets d at) e ∙ sym (blocks_splice d at t from k ht)
