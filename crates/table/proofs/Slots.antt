-- Laws of what stands beside the drives: what one more record of bad blocks or of parameters changes, and what it leaves.
-- Assumes nothing.
use mathlib.Core.Path.{◌≡◌, refl, sym, ap, ◌∙◌}
use mathlib.Core.Logic.{◌⊎◌, inl, inr, ⊎_elim, ◌≢◌}
use mathlib.Core.Bool.{Bool, true, false}
use mathlib.Core.List.{List, [], ◌∷◌, ◌++◌}
use Prim.Native.Nat.{ℕ, zero, suc, ◌+◌, ◌*◌, ◌≤◌, ◌<◌}
use native.Mathlib.Omega.{arith}
use native.Mathlib.Decide.{ℕ_discrete}
use lib.ListN.{length, get_or, set, take, drop, replicate, length-take, length-drop, length-append, get_or-replicate}
use lib.Seq.{sets, sets-eq, length-sets, length-take-le, ext_get_or, get_or-take, get_or-drop, get_or-set_same, get_or-set_other, drop-append-le, take_at, drop_at}
use lib.Dec.{ltb, eqb}
use borrow.Author.Tests.{lt-ltb, ltb-true, eq-eqb, eqb-true}
use Rattle.logic.specs.Logic.{pick, all_below}
use Rattle.logic.proofs.LogicLaws.{lt_or_le, all_at, all_intro, pick-cases}
use Rattle.words.specs.Words.{part}
use Rattle.attached.specs.declared.Bads.{Bads}
use Rattle.attached.specs.Bad.{bad_count, bad_length_ok, bads_in, no_bads, zero_past, bads_ok}
use Rattle.attached.proofs.BadLaws.{bad_length_ok_true, bads_ext, bads_in-count, length-bads_in, bads_in-zero_past, bads_ok_true, bads_ok-zero, no-bads}
use Rattle.table.specs.declared.Table.{Table}
use Rattle.table.specs.Table.{no_drive, empty_table, has_parameters, parameters_at, with_parameters, bads_at, with_bads, slot_bytes, slot_records, attached_at, listed_at, parameters_to}
use Rattle.table.proofs.TableLaws.{length_list_part}

-- ---- runs of stores

-- a byte before or after a run stays
get_or_before : (l : List ℕ) (at : ℕ) (v : List ℕ) (j : ℕ) → j < at → get_or (sets l at v) j 0 ≡ get_or l j 0
get_or_before l at [] j h = refl
get_or_before l at (x ∷ v) j h = get_or_before (set l at x) (suc at) v j (omega arith) ∙ get_or-set_other l at j x 0 (λ e. omega arith)

get_or_after : (l : List ℕ) (at : ℕ) (v : List ℕ) (j : ℕ) → at + length v ≤ j → get_or (sets l at v) j 0 ≡ get_or l j 0
get_or_after l at [] j h = refl
get_or_after l at (x ∷ v) j h = get_or_after (set l at x) (suc at) v j (omega arith) ∙ get_or-set_other l at j x 0 (λ e. omega arith)

-- and so do the bytes of every other slot
pub bytes-other : (l : List ℕ) (i : ℕ) (p : List ℕ) (k j : ℕ) → length p ≡ 14 → k ≢ i → j < 14 → get_or (sets l (14 * i) p) (14 * k + j) 0 ≡ get_or l (14 * k + j) 0
bytes-other l i p k j n e h =
    ⊎_elim (λ (x : k < i). get_or_before l (14 * i) p (14 * k + j) (omega arith))
    (λ (x : i ≤ k). ⊎_elim (λ (y : i < k). get_or_after l (14 * i) p (14 * k + j) (omega arith)) (λ (y : k ≤ i). absurd (e (omega arith))) (lt_or_le i k)) (lt_or_le k i)

-- parts whose bytes are the same
part_ext : (n : ℕ) (l m : List ℕ) (at : ℕ) → length l ≡ length m → ((j : ℕ) → j < n → get_or l (at + j) 0 ≡ get_or m (at + j) 0) → part n l at ≡ part n m at
part_ext n l m at e f =
    ext_get_or 0 (part n l at) (part n m at) (rw (length-take n (drop at l), length-drop at l, length-take n (drop at m), length-drop at m, e)) (λ j h.
    let q : j < n = omega (arith, h, length-take n (drop at l)) in
    rw (get_or-take n (drop at l) j 0 q, get_or-take n (drop at m) j 0 q, get_or-drop at l j 0, get_or-drop at m j 0) (f j q))

-- the bytes of a run at its place
run-same : (n : ℕ) (l : List ℕ) (at : ℕ) (p : List ℕ) → length p ≡ n → at + n ≤ length l → part n (sets l at p) at ≡ p
run-same n l at p given all =
    let rest : List ℕ = drop (at + length p) l in
    let front : List ℕ = take at l in
    let m : length front ≡ at = length-take-le at l (omega arith) in
    let f : at ≤ length (front ++ p) = rw (length-append, m) (omega arith) in
    rw (sets-eq p l at (omega arith), drop-append-le at (front ++ p) rest f, drop_at front p at m) (take_at p rest n given)

-- and those before or after it
run-other : (n : ℕ) (l : List ℕ) (at : ℕ) (p : List ℕ) (place : ℕ) → (place + n ≤ at) ⊎ (at + length p ≤ place) → part n (sets l at p) place ≡ part n l place
run-other n l at p place h =
    part_ext n (sets l at p) l place (length-sets l at p)
    (λ j q. ⊎_elim (λ x. get_or_before l at p (place + j) (omega arith)) (λ x. get_or_after l at p (place + j) (omega arith)) h)

-- a byte of a slot's part
pub byte_of : (l : List ℕ) (i j : ℕ) → j < 14 → get_or (part 14 l (14 * i)) j 0 ≡ get_or l (14 * i + j) 0
byte_of l i j h = get_or-take 14 (drop (14 * i) l) j 0 h ∙ get_or-drop (14 * i) l j 0

pub bytes_same : (l : List ℕ) (i : ℕ) (p : List ℕ) (j : ℕ) → length p ≡ 14 → length l ≡ 112 → i < 8 → j < 14 → get_or (sets l (14 * i) p) (14 * i + j) 0 ≡ get_or p j 0
bytes_same l i p j given all h q = sym (byte_of (sets l (14 * i) p) i j q) ∙ ap (λ (x : List ℕ). get_or x j 0) (run-same 14 l (14 * i) p given (omega arith))

-- ---- a slot after a record of parameters

module _ (b : Table) (i : ℕ) (p : List ℕ) (given : length p ≡ 14) where
  -- the slot itself has them
  pub marked : length b.present ≡ 8 → i < 8 → has_parameters (with_parameters b i p) i ≡ true
  marked l h = get_or-set_same b.present i true false (omega arith)

  pub parameters-same : length b.parameters ≡ 112 → i < 8 → parameters_at (with_parameters b i p) i ≡ p
  parameters-same l h = run-same 14 b.parameters (14 * i) p given (omega arith)

  -- every other slot is as it was
  module _ (k : ℕ) (other : k ≢ i) where
    pub marked_other : has_parameters (with_parameters b i p) k ≡ has_parameters b k
    marked_other = get_or-set_other b.present i k true false other

    pub parameters-other : parameters_at (with_parameters b i p) k ≡ parameters_at b k
    parameters-other =
        part_ext 14 (sets b.parameters (14 * i) p) b.parameters (14 * k) (length-sets b.parameters (14 * i) p)
        (λ j h. bytes-other b.parameters i p k j given other h)

    pub slot_other : slot_records (with_parameters b i p) k ≡ slot_records b k
    slot_other = rw (marked_other, parameters-other)

-- ---- a slot after a record of bad blocks

module _ (b : Table) (i : ℕ) (l : Bads) (given : length l.list ≡ 128) where
  -- the slot itself has them
  pub bads_same : length b.counts ≡ 8 → length b.bad ≡ 1024 → i < 8 → bads_at (with_bads b i l) i ≡ l
  bads_same c m h =
      bads_ext (bads_at (with_bads b i l) i) l (get_or-set_same b.counts i l.count 0 (omega arith)) (run-same 128 b.bad (128 * i) l.list given (omega arith))

  -- every other slot is as it was
  module _ (k : ℕ) (other : k ≢ i) where
    apart : (128 * k + 128 ≤ 128 * i) ⊎ (128 * i + length l.list ≤ 128 * k)
    apart =
        ⊎_elim (λ (x : k < i). inl (omega arith))
        (λ (x : i ≤ k). ⊎_elim (λ (y : i < k). inr (omega arith)) (λ (y : k ≤ i). absurd (other (omega arith))) (lt_or_le i k)) (lt_or_le k i)

    pub bads_other : bads_at (with_bads b i l) k ≡ bads_at b k
    bads_other =
        bads_ext (bads_at (with_bads b i l) k) (bads_at b k) (get_or-set_other b.counts i k l.count 0 other)
        (run-other 128 b.bad (128 * i) l.list (128 * k) apart)

    pub bads_slot_other : slot_records (with_bads b i l) k ≡ slot_records b k
    bads_slot_other = ap (λ (x : Bads). slot_bytes (get_or b.drives k no_drive) x (has_parameters b k) k (parameters_at b k)) bads_other

-- no slot has any at first
pub bads_empty : (i : ℕ) → i < 8 → bads_at empty_table i ≡ no_bads
bads_empty i h =
    let zeros : List ℕ = replicate 1024 0 in
    let few : List ℕ = replicate 128 0 in
    bads_ext (bads_at empty_table i) no_bads (get_or-replicate 8 i 0 0 h)
    (ext_get_or 0 (part 128 zeros (128 * i)) few (length_list_part zeros i refl h) (λ j q.
    let m : j < 128 = omega (arith, q, length_list_part zeros i refl h) in
    rw (get_or-take 128 (drop (128 * i) zeros) j 0 m, get_or-drop (128 * i) zeros j 0, get_or-replicate {A = ℕ} 1024 (128 * i + j) 0 0 (omega arith), get_or-replicate {A = ℕ} 128 j 0 0 m)))

-- what the record of bad blocks says of its list
pub record Listed (l : Bads) : Type 0 where
  pub some : 1 ≤ l.count
  pub few : l.count ≤ 16
  pub long : length l.list ≡ 128
  pub zeros : zero_past l ≡ true

pub bads_in-listed : (r : List ℕ) → bad_length_ok (length r) ≡ true → Listed (bads_in r)
bads_in-listed r h =
    let n : ℕ = bad_count (length r) in
    let p = bad_length_ok_true (length r) h in
    let c : (bads_in r).count ≡ n = bads_in-count r n p.2 in
    record { some = rw c p.0; few = rw c p.1; long = length-bads_in r n p.1 p.2; zeros = bads_in-zero_past r n p.2 }

-- a slot without a block has no bad one
pub listed-none : (b : Table) (i : ℕ) → length b.bad ≡ 1024 → i < 8 → (get_or b.drives i no_drive).blocks ≡ 0 → listed_at b i ≡ true → bads_at b i ≡ no_bads
listed-none b i m h z e =
    let k : bads_ok (bads_at b i) 0 ≡ true = rw z at e in
    no-bads (bads_at b i) (bads_ok-zero (bads_at b i) k) (length_list_part b.bad i m h) (bads_ok_true (bads_at b i) 0 k).2

-- ---- parameters of drives only, zeros elsewhere

pub attached_drive : (b : Table) (i : ℕ) → attached_at b i ≡ true → has_parameters b i ≡ true → i < b.count
attached_drive b i h e = ltb-true i b.count (rw e at h)

pub attached_zero : (b : Table) (i : ℕ) → attached_at b i ≡ true → has_parameters b i ≡ false → (j : ℕ) → j < 14 → get_or b.parameters (14 * i + j) 0 ≡ 0
attached_zero b i h e j l = eqb-true _ 0 (all_at 14 j (λ k. eqb (get_or b.parameters (14 * i + k) 0) 0) (rw e at h) l)

pub attached_intro : (b : Table) (i : ℕ) → (has_parameters b i ≡ true → i < b.count) → (has_parameters b i ≡ false → (j : ℕ) → j < 14 → get_or b.parameters (14 * i + j) 0 ≡ 0)
    → attached_at b i ≡ true
attached_intro b i f g =
    let zeros : ℕ → Bool = λ k. eqb (get_or b.parameters (14 * i + k) 0) 0 in
    pick-cases (λ (x : Bool). x ≡ true) (has_parameters b i) (ltb i b.count) (all_below 14 zeros)
    (λ e. lt-ltb i b.count (f e))
    (λ e. all_intro 14 zeros (λ j l. eq-eqb _ 0 (g e j l)))

-- ---- how many records of parameters there are

pub count_most : (n : ℕ) (b : Table) → parameters_to n b ≤ n
unfolding parameters_to
count_most zero b = omega arith
count_most (suc n) b = pick-cases (λ (x : ℕ). parameters_to n b + x ≤ suc n) (has_parameters b n) 1 0 (λ e. omega (arith, count_most n b)) (λ e. omega (arith, count_most n b))

pub count_ext : (n : ℕ) (b c : Table) → ((i : ℕ) → i < n → has_parameters b i ≡ has_parameters c i) → parameters_to n b ≡ parameters_to n c
unfolding parameters_to
count_ext zero b c f = refl
count_ext (suc n) b c f = rw (f n (omega arith), count_ext n b c (λ i h. f i (omega arith)))

-- one more
pub count_attach : (n : ℕ) (b : Table) (i : ℕ) (p : List ℕ) → length p ≡ 14 → length b.present ≡ 8 → i < 8 → has_parameters b i ≡ false → i < n
    → parameters_to n (with_parameters b i p) ≡ parameters_to n b + 1
unfolding parameters_to
count_attach zero b i p given l h e q = absurd (omega arith)
count_attach (suc n) b i p given l h e q = at (ℕ_discrete i n) (λ x. count_attach n b i p given l h e x)
  where
    at : Dec (i ≡ n) → (i < n → parameters_to n (with_parameters b i p) ≡ parameters_to n b + 1)
        → parameters_to n (with_parameters b i p) + pick (has_parameters (with_parameters b i p) n) 1 0 ≡ parameters_to n b + pick (has_parameters b n) 1 0 + 1
    at (yes x) f =
        let m : has_parameters (with_parameters b i p) n ≡ true = rw (← x) (marked b i p given l h) in
        let m₀ : has_parameters b n ≡ false = rw (← x) e in
        let r = count_ext n (with_parameters b i p) b (λ k y. marked_other b i p given k (λ z. omega arith)) in
        rw (m, m₀, r) (omega arith)
    at (no x) f =
        let r = f (omega (arith, q, x)) in
        rw (marked_other b i p given n (λ z. x (sym z)), r) (omega arith)
