-- Laws of moving blocks: lengths, one run after another, what a run reads, and what it leaves alone.
-- Assumes nothing.
use Prim.Native.Nat.{ℕ, ◌+◌, ◌-◌, ◌*◌, ◌/◌, ◌≤◌, ◌<◌}
use mathlib.Core.Path.{◌≡◌, refl, sym, ap, ◌∙◌}
use mathlib.Core.Logic.{◌⊎◌, inl, inr, ⊎_elim}
use mathlib.Core.Bool.{Bool, true, false}
use mathlib.Core.List.{List}
use native.Mathlib.Omega.{arith}
use lib.ListN.{length, get_or, drop}
use lib.Seq.{ext_get_or, get_or-take, get_or-drop}
use Rattle.logic.proofs.LogicLaws.{lt_or_le}
use Rattle.logic.specs.Logic.{pick}
use Rattle.words.specs.Words.{part}
use Rattle.memory.specs.Blocks.{block_length, blocks}
use Rattle.memory.proofs.Sets.{length_part}
use Rattle.memory.proofs.BlocksLaws.{blocks-length, blocks-append, get_or-blocks_outside, part-blocks-same, blocks_source}
use Rattle.int13.specs.declared.Job.{Job}
use Rattle.int13.specs.Answers.{ah, is_write}
use Rattle.int13.specs.Alone.{Memory, moves}
use Rattle.isolation.specs.Words.{Named}

abbrev pub writes : Job → Bool
writes j = is_write (ah j.registers)

-- two stores agree on n blocks from first
abbrev pub Agree : ℕ → ℕ → List ℕ → List ℕ → Type 0
Agree first n s t = (i : ℕ) → block_length * first ≤ i → i < block_length * (first + n) → get_or s i 0 ≡ get_or t i 0

pub get_or-part : (n : ℕ) (l : List ℕ) (at j : ℕ) → j < n → get_or (part n l at) j 0 ≡ get_or l (at + j) 0
get_or-part n l at j h = get_or-take n (drop at l) j 0 h ∙ get_or-drop at l j 0

-- parts inside are the same
pub part_agree : (first n at k : ℕ) (s t : List ℕ) → block_length * first ≤ at → at + k ≤ block_length * (first + n) → block_length * (first + n) ≤ length s
    → length s ≡ length t → Agree first n s t → part k s at ≡ part k t at
part_agree first n at k s t lo hi fits l a =
    let l₁ : length (part k s at) ≡ k = length_part k s at (omega arith) in
    let l₂ : length (part k t at) ≡ k = length_part k t at (omega arith) in
    ext_get_or 0 (part k s at) (part k t at) (l₁ ∙ sym l₂)
    (λ j c.
    let h : j < k = omega arith in
    get_or-part k s at j h ∙ a (at + j) (omega arith) (omega arith) ∙ sym (get_or-part k t at j h))

-- ---- lengths

pub record SameSize (m m' : Memory) : Type 0 where
  pub window : length m'.window ≡ length m.window
  pub store : length m'.store ≡ length m.store

-- the two ways, by the test
abbrev moved : Job → ℕ → ℕ → ℕ → Memory → Bool → Memory
moved j first i k m t =
    pick t
    (record { window = m.window; store = blocks m.store (block_length * (first + i)) m.window (j.buffer + block_length * i) k })
    (record { window = blocks m.window (j.buffer + block_length * i) m.store (block_length * (first + i)) k; store = m.store })

size-by : (j : Job) (first i k : ℕ) (m : Memory) (t : Bool) → SameSize m (moved j first i k m t)
size-by j first i k m true = record { window = refl; store = blocks-length m.store (block_length * (first + i)) m.window (j.buffer + block_length * i) k }
size-by j first i k m false = record { window = blocks-length m.window (j.buffer + block_length * i) m.store (block_length * (first + i)) k; store = refl }

pub moves-size : (j : Job) (first i k : ℕ) (m : Memory) → SameSize m (moves j first i k m)
unfolding moves
moves-size j first i k m = size-by j first i k m (writes j)

-- ---- one run after another

add_by : (j : Job) (first i n k : ℕ) (m : Memory) (t : Bool) → moved j first i (n + k) m t ≡ moved j first (i + n) k (moved j first i n m t) t
add_by j first i n k m true =
    let e : block_length * (first + i) + block_length * n ≡ block_length * (first + (i + n)) = omega arith in
    let f : j.buffer + block_length * i + block_length * n ≡ j.buffer + block_length * (i + n) = omega arith in
    ap (λ (s : List ℕ). record { window = m.window; store = s })
    (rw (e, f) at (blocks-append m.store (block_length * (first + i)) m.window (j.buffer + block_length * i) n k))
add_by j first i n k m false =
    let e : block_length * (first + i) + block_length * n ≡ block_length * (first + (i + n)) = omega arith in
    let f : j.buffer + block_length * i + block_length * n ≡ j.buffer + block_length * (i + n) = omega arith in
    ap (λ (w : List ℕ). record { window = w; store = m.store })
    (rw (e, f) at (blocks-append m.window (j.buffer + block_length * i) m.store (block_length * (first + i)) n k))

pub moves-add : (j : Job) (first i n k : ℕ) (m : Memory) → moves j first i (n + k) m ≡ moves j first (i + n) k (moves j first i n m)
unfolding moves
moves-add j first i n k m = add_by j first i n k m (writes j)

none_by : (j : Job) (first i : ℕ) (m : Memory) (t : Bool) → moved j first i 0 m t ≡ m
unfolding blocks
none_by j first i m true = refl
none_by j first i m false = refl

pub moves-none : (j : Job) (first i : ℕ) (m : Memory) → moves j first i 0 m ≡ m
unfolding moves
moves-none j first i m = none_by j first i m (writes j)

-- ---- the same window, and stores that agree on the named blocks, stay so

pub record Alike (first n : ℕ) (m m' : Memory) : Type 0 where
  pub window : m.window ≡ m'.window
  pub length : length m.store ≡ length m'.store
  pub named : Agree first n m.store m'.store

-- the same blocks laid into two stores
blocks_agree : (first n at : ℕ) (s t w : List ℕ) (from k : ℕ) → at + block_length * k ≤ length s → from + block_length * k ≤ length w → length s ≡ length t
    → Agree first n s t → Agree first n (blocks s at w from k) (blocks t at w from k)
blocks_agree first n at s t w from k fits room l a i h c =
    ⊎_elim
    (λ x. outside (inl x))
    (λ x. ⊎_elim (λ y. inside x y) (λ y. outside (inr y)) (lt_or_le i (at + block_length * k)))
    (lt_or_le i at)
  where
    outside : (i < at) ⊎ (at + block_length * k ≤ i) → get_or (blocks s at w from k) i 0 ≡ get_or (blocks t at w from k) i 0
    outside o = get_or-blocks_outside s at w from k i o ∙ a i h c ∙ sym (get_or-blocks_outside t at w from k i o)

    inside : at ≤ i → i < at + block_length * k → get_or (blocks s at w from k) i 0 ≡ get_or (blocks t at w from k) i 0
    inside x y =
        let j : ℕ = i - at in
        let e : at + j ≡ i = omega arith in
        let jb : j < block_length * k = omega arith in
        let p : part (block_length * k) (blocks s at w from k) at ≡ part (block_length * k) (blocks t at w from k) at
        = part-blocks-same s at w from k fits room ∙ sym (part-blocks-same t at w from k (omega arith) room) in
        rw (← e)
        (sym (get_or-part (block_length * k) (blocks s at w from k) at j jb)
        ∙ ap (λ (v : List ℕ). get_or v j 0) p
        ∙ get_or-part (block_length * k) (blocks t at w from k) at j jb)

alike_by : (j : Job) (first n i k : ℕ) (m m' : Memory) → i + k ≤ n → j.buffer + block_length * n ≤ length m.window → block_length * (first + n) ≤ length m.store
    → Alike first n m m' → (t : Bool) → Alike first n (moved j first i k m t) (moved j first i k m' t)
alike_by j first n i k m m' h bw bs a true =
    let at : ℕ = block_length * (first + i) in
    let from : ℕ = j.buffer + block_length * i in
    record {
      window = a.window;
      length = blocks-length m.store at m.window from k ∙ a.length ∙ sym (blocks-length m'.store at m'.window from k);
      named = rw (← a.window) (blocks_agree first n at m.store m'.store m.window from k (omega arith) (omega arith) a.length a.named);
    }
alike_by j first n i k m m' h bw bs a false =
    let at : ℕ = j.buffer + block_length * i in
    let from : ℕ = block_length * (first + i) in
    record {
      window = ap (λ (w : List ℕ). blocks w at m.store from k) a.window
          ∙ blocks_source m'.window at m.store m'.store from k (omega arith) (omega (arith, a.length))
          (part_agree first n from (block_length * k) m.store m'.store (omega arith) (omega arith) bs a.length a.named);
      length = a.length;
      named = a.named;
    }

pub moves_alike : (j : Job) (first n i k : ℕ) (m m' : Memory) → i + k ≤ n → j.buffer + block_length * n ≤ length m.window → block_length * (first + n) ≤ length m.store
    → Alike first n m m' → Alike first n (moves j first i k m) (moves j first i k m')
unfolding moves
moves_alike j first n i k m m' h bw bs a = alike_by j first n i k m m' h bw bs a (writes j)

-- ---- a run that writes none of n blocks from lo leaves them

-- of a write, the k blocks from block i do not meet the n blocks from lo
abbrev pub Off : Job → ℕ → ℕ → ℕ → ℕ → ℕ → Type 0
Off j first i k lo n = (b : ℕ) → writes j ≡ true → Named (first + i) k b → Named lo n b → ⊥

off_by : (j : Job) (first i k lo n : ℕ) (m : Memory) → Off j first i k lo n → (t : Bool) → writes j ≡ t → Agree lo n (moved j first i k m t).store m.store
off_by j first i k lo n m o false e = λ x h c. refl
off_by j first i k lo n m o true e = λ x h c.
    get_or-blocks_outside m.store (block_length * (first + i)) m.window (j.buffer + block_length * i) k x
    (⊎_elim
    (λ y. inl y)
    (λ y.
    ⊎_elim
    (λ z. absurd (meets x h c y z))
    (λ z. inr z)
    (lt_or_le x (block_length * (first + i) + block_length * k)))
    (lt_or_le x (block_length * (first + i))))
  where
    meets : (x : ℕ) → block_length * lo ≤ x → x < block_length * (lo + n) → block_length * (first + i) ≤ x → x < block_length * (first + i) + block_length * k → ⊥
    meets x h c y z = o (x / block_length) e (omega arith, omega arith) (omega arith, omega arith)

pub moves_off : (j : Job) (first i k lo n : ℕ) (m : Memory) → Off j first i k lo n → Agree lo n (moves j first i k m).store m.store
unfolding moves
moves_off j first i k lo n m o = off_by j first i k lo n m o (writes j) refl
