-- Laws of a drive's bad blocks: the record of kind 3, the list, and the blocks before the first bad one.
-- Assumes nothing.
use mathlib.Core.Path.{◌≡◌, refl, sym, ap, ◌∙◌}
use mathlib.Core.Bool.{Bool, true, false}
use mathlib.Core.List.{List, ◌++◌}
use mathlib.Core.Logic.{⊎_elim}
use Prim.Native.Nat.{ℕ, zero, suc, ◌+◌, ◌-◌, ◌*◌, ◌/◌, ◌^◌, ◌≤◌, ◌<◌}
use native.Mathlib.Nat.{add-zero, mul-zero, one-le-pow, mul-le-mul_right}
use native.Mathlib.Numerals.{add-one}
use native.Mathlib.Omega.{arith}
use lib.ListN.{length, get_or, take, drop, replicate, length-append, length-drop, length-replicate, get_or-replicate, take-append-drop, get_or-eq_default}
use lib.Seq.{sets, ext_get_or, get_or-drop, length-take-le, take_all, take_at, get_or-append-add}
use lib.Dec.{leb, ltb, eqb}
use borrow.Author.Tests.{leb-true, le-leb, lt-leb, ltb-true, lt-ltb, le-ltb, eqb-true, eqb-false, eq-eqb}
use Rattle.std.specs.Prelude.{min}
use Rattle.std.specs.List.{list_all, range_with_len}
use Rattle.logic.specs.Logic.{pick, both, either, in_range, all_below, some_below}
use Rattle.logic.proofs.LogicLaws.{both_true, both_false, either_left, either_right, in_range_true, all_intro, all_at, all_fails, all_ext, all_past, range_all, some_at, lt_or_le, true≢false}
use Rattle.words.specs.Words.{Bytes, le, le_bytes, part}
use Rattle.words.proofs.WordsLaws.{glue, sets-append, sets_front, length-le_bytes, read-write, write_read}
use Rattle.attached.specs.declared.Bads.{Bads}
use Rattle.attached.specs.Parameters.{number_in}
use Rattle.attached.specs.Bad.{bad_size, bad_length, bad_count, bad_length_ok, bads_in, held_of, list_of, bad_record, no_bads, bad_at, ascends, are_blocks, list_ok, zero_past, bads_ok, is_bad, good, before}

-- ---- how many numbers a list has room for

pub held-most : (n : ℕ) → held_of n ≤ 16
unfolding held_of
held-most n = omega arith

pub held-few : (n : ℕ) → n ≤ 16 → held_of n ≡ n
unfolding held_of
held-few n h = omega arith

pub held_many : (n : ℕ) → 16 ≤ n → held_of n ≡ 16
unfolding held_of
held_many n h = omega arith

-- below sixteen, what is behind the numbers that a list has room for is behind the count
held-ltb : (n j : ℕ) → j < 16 → ltb j (held_of n) ≡ ltb j n
unfolding held_of
held-ltb n j h =
    ⊎_elim (λ x. lt-ltb j (held_of n) (omega arith) ∙ sym (lt-ltb j n x)) (λ x. le-ltb j (held_of n) (omega arith) ∙ sym (le-ltb j n x)) (lt_or_le j n)

-- ---- the lengths of a record

pub bad_count_few : (size : ℕ) → 8 * bad_count size ≤ size - 6
unfolding bad_count
bad_count_few size = omega arith

pub bad_count-bad_length : (n : ℕ) → bad_count (bad_length n) ≡ n
unfolding bad_count
bad_count-bad_length n = omega arith

-- a length that there is: of one to sixteen numbers, which the length gives
pub bad_length_ok_true : (size : ℕ) → bad_length_ok size ≡ true → (1 ≤ bad_count size) × (bad_count size ≤ 16) × (size ≡ bad_length (bad_count size))
unfolding bad_length_ok
bad_length_ok_true size e =
    let p = both_true (in_range (bad_count size) 1 16) (eqb size (bad_length (bad_count size))) e in
    let q = in_range_true (bad_count size) 1 16 p.0 in
    (q.0, q.1, eqb-true size (bad_length (bad_count size)) p.1)

pub bad_length_ok-least : (size : ℕ) → bad_length_ok size ≡ true → 14 ≤ size
bad_length_ok-least size e = let p = bad_length_ok_true size e in omega (arith, p.0, p.2)

pub bad_length_ok-most : (size : ℕ) → bad_length_ok size ≡ true → size ≤ 134
bad_length_ok-most size e = let p = bad_length_ok_true size e in omega (arith, p.1, p.2)

pub bad_length_ok-bad_length : (n : ℕ) → 1 ≤ n → n ≤ 16 → bad_length_ok (bad_length n) ≡ true
unfolding bad_length_ok
bad_length_ok-bad_length n l m =
    let c : bad_count (bad_length n) ≡ n = bad_count-bad_length n in
    rw (c, le-leb 1 n l, le-leb n 16 m, eq-eqb (bad_length n) (bad_length n) refl)

-- ---- what the code reads and stores

drop-replicate : (n k a : ℕ) → drop n (replicate k a) ≡ replicate (k - n) a
drop-replicate n k a =
    ext_get_or 0 (drop n (replicate k a)) (replicate (k - n) a) (simp (length-drop, length-replicate))
    (λ i h. let q : n + i < k = omega (arith, length-drop n (replicate k a), length-replicate k a) in
    rw (get_or-drop, get_or-replicate k (n + i) a 0 q, get_or-replicate (k - n) i a 0 (omega arith)) refl)

-- the bytes of a record, stored into zeros
pub bads_stored : {n : ℕ} {o : List ℕ} (r : List ℕ) → length r ≤ 134 → n ≡ bad_count (length r) → o ≡ sets (replicate 128 0) 0 (part (length r - 6) r 6)
    → record { count = n; list = o } ≡ bads_in r
unfolding bads_in
bads_stored {o = o} r h e f =
    let l : length (drop 6 r) ≡ length r - 6 = length-drop 6 r in
    let zeros : List ℕ = replicate 128 0 in
    let q : length (drop 6 r) ≤ length zeros = omega (arith, l) in
    let g : o ≡ drop 6 r ++ replicate (128 - (length r - 6)) 0 =
    f ∙ ap (sets zeros 0) (take_all (length r - 6) (drop 6 r) (omega (arith, l))) ∙ sets_front zeros (drop 6 r) q
    ∙ ap (λ x. drop 6 r ++ x) (drop-replicate (length (drop 6 r)) 128 0 ∙ ap (λ n. replicate (128 - n) 0) l) in
    rw (e, g)

pub length-list_of : (l : Bads) → length l.list ≡ 128 → length (list_of l) ≡ 8 * held_of l.count
length-list_of l e = length-take-le (8 * held_of l.count) l.list (omega (arith, held-most l.count))

pub length-bad_record : (i : ℕ) (l : Bads) → length l.list ≡ 128 → length (bad_record i l) ≡ bad_length (held_of l.count)
unfolding bad_record
length-bad_record i l e = simp (length-append, length-le_bytes, length-list_of l e) (omega arith)

-- the stores of a record's parts are the store of the record
pub bad_stores : {o₁ o₂ o₃ o₄ : List ℕ} {n : ℕ} (s : List ℕ) (at i : ℕ) (l : Bads) → n ≡ held_of l.count
    → o₁ ≡ sets s at (le_bytes 2 (6 + 8 * n)) → o₂ ≡ sets o₁ (at + 2) (le_bytes 2 3) → o₃ ≡ sets o₂ (at + 4) (le_bytes 2 i)
    → o₄ ≡ sets o₃ (at + 6) (take (8 * n) l.list) → o₄ ≡ sets s at (bad_record i l)
unfolding bad_record
bad_stores s at i l e e₁ e₂ e₃ e₄ =
    let t : List ℕ = sets (sets s at (le_bytes 2 (bad_length (held_of l.count)))) (at + 2) (le_bytes 2 3) in
    let a : sets s at (bad_record i l) ≡ sets (sets t (at + 2 + 2) (le_bytes 2 i)) (at + 2 + 2 + 2) (list_of l) = simp (sets-append, length-le_bytes) in
    let p : at + 2 + 2 ≡ at + 4 = omega arith in
    let q : at + 4 + 2 ≡ at + 6 = omega arith in
    rw (e₄, e₃, e₂, e₁, e) (sym (rw (p, q) at a))

-- ---- words that are zero

-- a word is zero if its bytes are, and only then
le_zeros : (k : ℕ) (s : List ℕ) (at : ℕ) → ((i : ℕ) → i < k → get_or s (at + i) 0 ≡ 0) → le k s at ≡ 0
unfolding le
le_zeros zero s at h = refl
le_zeros (suc k) s at h = rw (le_zeros k s at (λ i l. h i (omega arith)), h k (omega arith), mul-zero)

zeros_le : (k : ℕ) (s : List ℕ) (at i : ℕ) → le k s at ≡ 0 → i < k → get_or s (at + i) 0 ≡ 0
unfolding le
zeros_le zero s at i e h = absurd (omega arith)
zeros_le (suc k) s at i e h =
    let p : 1 ≤ 256 ^ k = one-le-pow k 256 (omega arith) in
    let q : get_or s (at + k) 0 ≡ 0 = omega (arith, mul-le-mul_right (get_or s (at + k) 0) p) in
    ⊎_elim (λ x. zeros_le k s at i (omega arith) x) (λ x. let y : i ≡ k = omega arith in rw y q) (lt_or_le i k)

-- behind a list, zeros
get_or_zeros : (m i : ℕ) → get_or {A = ℕ} (replicate m 0) i 0 ≡ 0
get_or_zeros m i =
    ⊎_elim (λ x. get_or-replicate m i 0 0 x)
    (λ x. let zeros : List ℕ = replicate m 0 in get_or-eq_default zeros 0 (rw length-replicate x))
    (lt_or_le i m)

get_or_padded : (s : List ℕ) (m i : ℕ) → length s ≤ i → get_or (s ++ replicate m 0) i 0 ≡ 0
get_or_padded s m i h =
    let q : length s + (i - length s) ≡ i = omega arith in
    rw q at (get_or-append-add s (replicate m 0) (i - length s) 0 ∙ get_or_zeros m (i - length s))

-- behind the last number of a list stand zeros: byte by byte
pub zero_past_at : (l : Bads) (i : ℕ) → zero_past l ≡ true → 8 * l.count ≤ i → i < 128 → get_or l.list i 0 ≡ 0
unfolding zero_past
zero_past_at l i e h m =
    let j : ℕ = i / 8 in
    let a : either (ltb j l.count) (eqb (bad_at l j) 0) ≡ true = all_at 16 j (λ j. either (ltb j l.count) (eqb (bad_at l j) 0)) e (omega arith) in
    let b : eqb (bad_at l j) 0 ≡ true = let z = le-ltb j l.count (omega arith) in rw z at a in
    let q : 8 * j + (i - 8 * j) ≡ i = omega arith in
    rw q at (zeros_le 8 l.list (8 * j) (i - 8 * j) (eqb-true (bad_at l j) 0 b) (omega arith))

-- and so the list is its numbers and zeros
pub list_padded : (l : Bads) → l.count ≤ 16 → length l.list ≡ 128 → zero_past l ≡ true → list_of l ++ replicate (128 - 8 * l.count) 0 ≡ l.list
list_padded l c e z =
    let n : held_of l.count ≡ l.count = held-few l.count c in
    let zeros : List ℕ = replicate (128 - 8 * l.count) 0 in
    let past : drop (8 * l.count) l.list ≡ zeros =
    ext_get_or 0 (drop (8 * l.count) l.list) zeros (rw (length-drop, length-replicate) (omega arith))
    (λ i h. let q : i < 128 - 8 * l.count = omega (arith, length-drop (8 * l.count) l.list) in
    rw (get_or-drop, get_or_zeros (128 - 8 * l.count) i) (zero_past_at l (8 * l.count + i) z (omega arith) (omega arith))) in
    rw (n, ← past) (take-append-drop (8 * l.count) l.list)

made : ℕ → List ℕ → Bads
made n list = record { count = n; list = list }

pub bads_ext : (l m : Bads) → l.count ≡ m.count → l.list ≡ m.list → l ≡ m
unfolding made
bads_ext l m e f = ap (λ n. made n l.list) e ∙ ap (made m.count) f

-- ---- from bytes to bad blocks and back

pub bads_in-count : (r : List ℕ) (n : ℕ) → length r ≡ bad_length n → (bads_in r).count ≡ n
unfolding bads_in
bads_in-count r n e = rw e (bad_count-bad_length n)

bads_in_list : (r : List ℕ) (n : ℕ) → length r ≡ bad_length n → (bads_in r).list ≡ drop 6 r ++ replicate (128 - 8 * n) 0
unfolding bads_in
bads_in_list r n e =
    let q : length r - 6 ≡ 8 * n = omega arith in
    rw q

length-numbers : (r : List ℕ) (n : ℕ) → length r ≡ bad_length n → length (drop 6 r) ≡ 8 * n
length-numbers r n e = omega (arith, length-drop 6 r)

pub length-bads_in : (r : List ℕ) (n : ℕ) → n ≤ 16 → length r ≡ bad_length n → length (bads_in r).list ≡ 128
length-bads_in r n h e = rw (bads_in_list r n e, length-append, length-numbers r n e, length-replicate) (omega arith)

pub bads_in-list_of : (r : List ℕ) (n : ℕ) → n ≤ 16 → length r ≡ bad_length n → list_of (bads_in r) ≡ drop 6 r
bads_in-list_of r n h e =
    let c : held_of (bads_in r).count ≡ n = ap held_of (bads_in-count r n e) ∙ held-few n h in
    rw (c, bads_in_list r n e) (take_at (drop 6 r) (replicate (128 - 8 * n) 0) (8 * n) (length-numbers r n e))

pub bads_in-zero_past : (r : List ℕ) (n : ℕ) → length r ≡ bad_length n → zero_past (bads_in r) ≡ true
unfolding zero_past
bads_in-zero_past r n e =
    let l : Bads = bads_in r in
    let word : (j : ℕ) → l.count ≤ j → bad_at l j ≡ 0 =
    λ j h. le_zeros 8 l.list (8 * j) (λ i q.
    rw (bads_in_list r n e) (get_or_padded (drop 6 r) (128 - 8 * n) (8 * j + i) (omega (arith, length-numbers r n e, bads_in-count r n e)))) in
    all_intro 16 (λ j. either (ltb j l.count) (eqb (bad_at l j) 0)) (λ j h.
    ⊎_elim (λ x. either_left (ltb j l.count) (eqb (bad_at l j) 0) (lt-ltb j l.count x))
    (λ x. either_right (ltb j l.count) (eqb (bad_at l j) 0) (eq-eqb (bad_at l j) 0 (word j x)))
    (lt_or_le j l.count))

-- what the record of a number and bad blocks says
pub record SaysBads (i : ℕ) (l : Bads) : Type 0 where
  pub length_word : le 2 (bad_record i l) 0 ≡ bad_length (held_of l.count)
  pub kind : le 2 (bad_record i l) 2 ≡ 3
  pub number : number_in (bad_record i l) ≡ i

pub bads_says : (i : ℕ) (l : Bads) → i < 256 ^ 2 → SaysBads i l
unfolding bad_record le le_bytes
bads_says i l h =
    record { length_word = read-write 2 (bad_length (held_of l.count)) (omega (arith, held-most l.count)); kind = refl; number = read-write 2 i h }

record-numbers : (i : ℕ) (l : Bads) → drop 6 (bad_record i l) ≡ list_of l
unfolding bad_record le_bytes
record-numbers i l = refl

-- bad blocks that were written are read
pub bads-record : (i : ℕ) (l : Bads) → l.count ≤ 16 → length l.list ≡ 128 → zero_past l ≡ true → bads_in (bad_record i l) ≡ l
bads-record i l c e z =
    let w : length (bad_record i l) ≡ bad_length l.count = length-bad_record i l e ∙ ap bad_length (held-few l.count c) in
    bads_ext (bads_in (bad_record i l)) l (bads_in-count (bad_record i l) l.count w)
    (bads_in_list (bad_record i l) l.count w ∙ ap (λ s. s ++ replicate (128 - 8 * l.count) 0) (record-numbers i l) ∙ list_padded l c e z)

-- the bytes of a record are those of its number and its bad blocks
pub record_bads : (r : List ℕ) (n i : ℕ) → Bytes r → n ≤ 16 → length r ≡ bad_length n → le 2 r 0 ≡ bad_length n → le 2 r 2 ≡ 3 → number_in r ≡ i
    → bad_record i (bads_in r) ≡ r
unfolding bad_record
record_bads r n i b h l e₀ e₂ e₄ =
    let c : held_of (bads_in r).count ≡ n = ap held_of (bads_in-count r n l) ∙ held-few n h in
    let q : drop 6 r ≡ part (8 * n) r 6 = sym (take_all (8 * n) (drop 6 r) (omega (arith, length-numbers r n l))) in
    glue r 2 (2 + (2 + 8 * n)) 0 (ap (le_bytes 2) (ap bad_length c ∙ sym e₀) ∙ write_read 2 r 0 b (omega arith))
    (glue r 2 (2 + 8 * n) 2 (ap (le_bytes 2) (sym e₂) ∙ write_read 2 r 2 b (omega arith))
    (glue r 2 (8 * n) 4 (ap (le_bytes 2) (sym e₄) ∙ write_read 2 r 4 b (omega arith)) (bads_in-list_of r n h l ∙ q)))
    ∙ take_all (2 + (2 + (2 + 8 * n))) r (omega arith)

-- ---- what a slot may hold

pub bads_ok_true : (l : Bads) (blocks : ℕ) → bads_ok l blocks ≡ true → (l.count ≤ 16) × (list_ok l blocks ≡ true) × (zero_past l ≡ true)
unfolding bads_ok
bads_ok_true l blocks e =
    let p = both_true (leb l.count 16) (both (list_ok l blocks) (zero_past l)) e in
    let q = both_true (list_ok l blocks) (zero_past l) p.1 in
    (leb-true l.count 16 p.0, q.0, q.1)

pub bads_ok_intro : (l : Bads) (blocks : ℕ) → l.count ≤ 16 → list_ok l blocks ≡ true → zero_past l ≡ true → bads_ok l blocks ≡ true
unfolding bads_ok
bads_ok_intro l blocks c e z = rw (le-leb l.count 16 c, e, z)

-- a list that was read and is taken
pub bads_ok-bads_in : (r : List ℕ) (n blocks : ℕ) → n ≤ 16 → length r ≡ bad_length n → list_ok (bads_in r) blocks ≡ true → bads_ok (bads_in r) blocks ≡ true
bads_ok-bads_in r n blocks h e k = bads_ok_intro (bads_in r) blocks (omega (arith, bads_in-count r n e)) k (bads_in-zero_past r n e)

-- a number of a list that is taken is a block
pub list_ok_at : (l : Bads) (blocks j : ℕ) → list_ok l blocks ≡ true → j < held_of l.count → bad_at l j < blocks
unfolding list_ok are_blocks
list_ok_at l blocks j e h =
    let p = both_true (ascends l) (are_blocks l blocks) e in
    ltb-true (bad_at l j) blocks (all_at (held_of l.count) j (λ j. ltb (bad_at l j) blocks) p.1 h)

-- and so a bad block is one of the drive's
pub is_bad-block : (l : Bads) (blocks x : ℕ) → list_ok l blocks ≡ true → is_bad l x ≡ true → x < blocks
unfolding is_bad
is_bad-block l blocks x k e =
    let s = some_at (held_of l.count) (λ j. eqb (bad_at l j) x) e in
    omega (arith, list_ok_at l blocks s.0 k s.1.0, eqb-true (bad_at l s.0) x s.1.1)

-- of numbers that ascend each is at most a later one
ascends-le : (l : Bads) (j k : ℕ) → ascends l ≡ true → j + k < held_of l.count → bad_at l j ≤ bad_at l (j + k)
unfolding ascends
ascends-le l j zero e h = rw add-zero (omega arith)
ascends-le l j (suc k) e h =
    let p = ascends-le l j k e (omega arith) in
    let q = all_at (held_of l.count - 1) (j + k) (λ i. ltb (bad_at l i) (bad_at l (i + 1))) e (omega arith) in
    let r : j + k + 1 ≡ j + suc k = omega arith in
    rw (← r) (omega (arith, p, ltb-true (bad_at l (j + k)) (bad_at l (j + k + 1)) q))

-- so that all are blocks if the last is one, and only then
pub ascends_last : (l : Bads) (blocks m : ℕ) → ascends l ≡ true → held_of l.count ≡ m + 1 → ltb (bad_at l m) blocks ≡ are_blocks l blocks
unfolding are_blocks
ascends_last l blocks m e h = by_test (ltb (bad_at l m) blocks) refl
  where
    least : (j : ℕ) → j < held_of l.count → bad_at l j ≤ bad_at l m
    least j q =
        let r : j + (m - j) ≡ m = omega arith in
        rw r at (ascends-le l j (m - j) e (omega arith))

    by_test : (t : Bool) → ltb (bad_at l m) blocks ≡ t → t ≡ are_blocks l blocks
    by_test true f =
        sym (all_intro (held_of l.count) (λ j. ltb (bad_at l j) blocks)
        (λ j q. lt-ltb (bad_at l j) blocks (omega (arith, least j q, ltb-true (bad_at l m) blocks f))))
    by_test false f = all_fails (held_of l.count) m (λ j. ltb (bad_at l j) blocks) (omega arith) refl f

-- without blocks there is none
pub bads_ok-zero : (l : Bads) → bads_ok l 0 ≡ true → l.count ≡ 0
bads_ok-zero l e =
    let p = bads_ok_true l 0 e in
    ⊎_elim (λ x. absurd (omega (arith, list_ok_at l 0 0 p.1 (omega (arith, held-few l.count p.0))))) (λ x. omega arith) (lt_or_le 0 l.count)

pub bads_ok-no_bads : (blocks : ℕ) → bads_ok no_bads blocks ≡ true
unfolding bads_ok list_ok ascends are_blocks zero_past held_of le
bads_ok-no_bads blocks = refl

-- the loop of `zero_past`, which begins behind the n numbers that a list has: before them there is nothing to test
pub past_first : (n : ℕ) (list : List ℕ) → true ≡ all_below n (λ j. either (ltb j n) (eqb (le 8 list (bad_size * j)) 0))
past_first n list =
    sym (all_intro n (λ j. either (ltb j n) (eqb (le 8 list (bad_size * j)) 0)) (λ j h. either_left (ltb j n) (eqb (le 8 list (bad_size * j)) 0) (lt-ltb j n h)))

-- behind them a zero
pub past_test : {x : ℕ} (n j : ℕ) (list : List ℕ) → n ≤ j → x ≡ le 8 list (bad_size * j) → eqb x 0 ≡ either (ltb j n) (eqb (le 8 list (bad_size * j)) 0)
past_test n j list h e = let f = le-ltb j n h in rw (e, f)

-- and that is what is asked, by the count
pub past_all : (l : Bads) → all_below 16 (λ j. either (ltb j (held_of l.count)) (eqb (bad_at l j) 0)) ≡ zero_past l
unfolding zero_past
past_all l =
    all_ext 16 (λ j. either (ltb j (held_of l.count)) (eqb (bad_at l j) 0)) (λ j. either (ltb j l.count) (eqb (bad_at l j) 0))
    (λ j h. ap (λ t. either t (eqb (bad_at l j) 0)) (held-ltb l.count j h))

-- what `zero_past` tests, from the first of the n numbers that a list does not have
pub past_listed : {n : ℕ} (l : Bads) → n ≡ held_of l.count → list_all (λ j. eqb (bad_at l j) 0) (range_with_len n (16 - n)) ≡ zero_past l
unfolding zero_past
past_listed l e =
    let n : ℕ = held_of l.count in
    let zero : ℕ → Bool = λ j. eqb (bad_at l j) 0 in
    rw (e, range_all n (16 - n) zero, all_past 16 n zero (held-most l.count))
    (all_ext 16 (λ j. either (ltb j n) (zero j)) (λ j. either (ltb j l.count) (zero j)) (λ j h. ap (λ t. either t (zero j)) (held-ltb l.count j h)))

-- what `ascends` tests, each number and the one before it
pub neighbours : {n : ℕ} (l : Bads) → n ≡ held_of l.count → list_all (λ j. ltb (bad_at l (j - 1)) (bad_at l j)) (range_with_len 1 (n - 1)) ≡ ascends l
unfolding ascends
neighbours l e =
    let n : ℕ = held_of l.count in
    rw (e, range_all 1 (n - 1) (λ j. ltb (bad_at l (j - 1)) (bad_at l j)))
    (all_ext (n - 1) (λ k. ltb (bad_at l (1 + k - 1)) (bad_at l (1 + k))) (λ k. ltb (bad_at l k) (bad_at l (k + 1)))
    (λ k h. let p : 1 + k - 1 ≡ k = omega arith in let q : 1 + k ≡ k + 1 = omega arith in rw (p, q)))

pub no-bads : (l : Bads) → l.count ≡ 0 → length l.list ≡ 128 → zero_past l ≡ true → l ≡ no_bads
no-bads l c e z =
    let zeros : List ℕ = replicate 128 0 in
    bads_ext l no_bads c (ext_get_or 0 l.list zeros e (λ i h. zero_past_at l i z (omega arith) (omega arith) ∙ sym (get_or_zeros 128 i)))

-- ---- what one bad block leaves

pub before_below : (x from k : ℕ) → x < from → before x from k ≡ k
unfolding before
before_below x from k h = rw (lt-leb from x h)

pub before-within : (x from k : ℕ) → from ≤ x → x - from < k → before x from k ≡ x - from
unfolding before
before-within x from k h l = rw (le-leb from x h, lt-ltb (x - from) k l)

pub before-past : (x from k : ℕ) → k ≤ x - from → before x from k ≡ k
unfolding before
before-past x from k h = rw (le-ltb (x - from) k h, both_false (leb from x))

pub before_min : (x from k : ℕ) → from ≤ x → before x from k ≡ min (x - from) k
before_min x from k h = ⊎_elim (λ l. before-within x from k h l ∙ omega arith) (λ p. before-past x from k p ∙ omega arith) (lt_or_le (x - from) k)

before-none : (x from : ℕ) → before x from 0 ≡ 0
before-none x from = before-past x from 0 (omega arith)

before-first : (x from k : ℕ) → x ≡ from → before x from (suc k) ≡ 0
before-first x from k e = before-within x from (suc k) (omega arith) (omega arith) ∙ omega arith

before-next : (x from k : ℕ) → (x ≡ from → ⊥) → before x from (suc k) ≡ suc (before x (suc from) k)
before-next x from k ne =
    ⊎_elim (λ b. before_below x from (suc k) b ∙ ap suc (sym (before_below x (suc from) k (omega arith))))
    (λ b. ⊎_elim (λ w. within b w) (λ p. before-past x from (suc k) (omega arith) ∙ ap suc (sym (before-past x (suc from) k p))) (lt_or_le (x - suc from) k))
    (lt_or_le x from)
  where
    within : from ≤ x → x - suc from < k → before x from (suc k) ≡ suc (before x (suc from) k)
    within b w =
        let h : from < x = ⊎_elim (λ y. y) (λ y. absurd (ne (omega arith))) (lt_or_le from x) in
        before-within x from (suc k) (omega arith) (omega arith) ∙ (let e = before-within x (suc from) k (omega arith) w in omega (arith, e))

-- ---- the blocks before the first bad one

-- a first block that is bad, and one that is not
good-first : (l : Bads) (from k : ℕ) → is_bad l from ≡ true → good l from (suc k) ≡ 0
unfolding good
good-first l from k e = rw e

good-next : (l : Bads) (from k : ℕ) → is_bad l from ≡ false → good l from (suc k) ≡ suc (good l (suc from) k)
unfolding good
good-next l from k e = rw e

good-zero : (l : Bads) (from : ℕ) → good l from 0 ≡ 0
unfolding good
good-zero l from = refl

pub good-most : (l : Bads) (from k : ℕ) → good l from k ≤ k
good-most l from zero = omega (arith, good-zero l from)
good-most l from (suc k) = by_test (is_bad l from) refl (good-most l (suc from) k)
  where
    by_test : (t : Bool) → is_bad l from ≡ t → good l (suc from) k ≤ k → good l from (suc k) ≤ suc k
    by_test true e m = omega (arith, good-first l from k e)
    by_test false e m = omega (arith, good-next l from k e)

-- those before it are good
pub good_clean : (l : Bads) (from k i : ℕ) → i < good l from k → is_bad l (from + i) ≡ false
good_clean l from zero i h = absurd (omega (arith, good-zero l from))
good_clean l from (suc k) zero h = by_test (is_bad l from) refl
  where
    by_test : (t : Bool) → is_bad l from ≡ t → is_bad l (from + 0) ≡ false
    by_test true e = absurd (omega (arith, good-first l from k e))
    by_test false e = rw add-zero e
good_clean l from (suc k) (suc i) h = by_test (is_bad l from) refl (good_clean l (suc from) k i)
  where
    by_test : (t : Bool) → is_bad l from ≡ t → (i < good l (suc from) k → is_bad l (suc from + i) ≡ false) → is_bad l (from + suc i) ≡ false
    by_test true e c = absurd (omega (arith, good-first l from k e))
    by_test false e c =
        let q : suc from + i ≡ from + suc i = omega arith in
        rw q at (c (omega (arith, good-next l from k e)))

-- and the one behind them is bad, where they are fewer
pub good_worn : (l : Bads) (from k : ℕ) → good l from k < k → is_bad l (from + good l from k) ≡ true
good_worn l from zero h = absurd (omega arith)
good_worn l from (suc k) h = by_test (is_bad l from) refl (good_worn l (suc from) k)
  where
    by_test : (t : Bool) → is_bad l from ≡ t → (good l (suc from) k < k → is_bad l (suc from + good l (suc from) k) ≡ true)
        → is_bad l (from + good l from (suc k)) ≡ true
    by_test true e w = rw (good-first l from k e, add-zero) e
    by_test false e w =
        let q : suc from + good l (suc from) k ≡ from + suc (good l (suc from) k) = omega arith in
        rw (good-next l from k e, ← q) (w (omega (arith, good-next l from k e)))

pub good-all : (l : Bads) (from k : ℕ) → ((i : ℕ) → i < k → is_bad l (from + i) ≡ false) → good l from k ≡ k
good-all l from k h =
    ⊎_elim (λ x. true≢false (is_bad l (from + good l from k)) (good_worn l from k x) (h (good l from k) x)) (λ x. omega (arith, good-most l from k))
    (lt_or_le (good l from k) k)

-- the only number of which the two hold
pub good-is : (l : Bads) (from k n : ℕ) → n ≤ k → ((i : ℕ) → i < n → is_bad l (from + i) ≡ false) → (n < k → is_bad l (from + n) ≡ true) → good l from k ≡ n
good-is l from k n m f g =
    ⊎_elim (λ x. true≢false (is_bad l (from + good l from k)) (good_worn l from k (omega arith)) (f (good l from k) x))
    (λ x. ⊎_elim (λ y. true≢false (is_bad l (from + n)) (g (omega (arith, good-most l from k))) (good_clean l from k n y)) (λ y. omega arith) (lt_or_le n (good l from k)))
    (lt_or_le (good l from k) n)

-- no list: all are good
pub is_bad-none : (l : Bads) (x : ℕ) → l.count ≡ 0 → is_bad l x ≡ false
unfolding is_bad
is_bad-none l x e =
    let z : held_of l.count ≡ 0 = held-few l.count (omega arith) ∙ e in
    rw z

pub good_none : (l : Bads) (from k : ℕ) → l.count ≡ 0 → good l from k ≡ k
good_none l from k e = good-all l from k (λ i h. is_bad-none l (from + i) e)

-- a part that is good, then the rest
pub good-add : (l : Bads) (from a b : ℕ) → good l from a ≡ a → good l from (a + b) ≡ a + good l (from + a) b
good-add l from a b e =
    let m = good-most l (from + a) b in
    good-is l from (a + b) (a + good l (from + a) b) (omega arith) clean worn
  where
    clean : (i : ℕ) → i < a + good l (from + a) b → is_bad l (from + i) ≡ false
    clean i h =
        ⊎_elim (λ x. good_clean l from a i (omega arith))
        (λ x. let q : from + a + (i - a) ≡ from + i = omega arith in rw q at (good_clean l (from + a) b (i - a) (omega arith)))
        (lt_or_le i a)

    worn : a + good l (from + a) b < a + b → is_bad l (from + (a + good l (from + a) b)) ≡ true
    worn h =
        let q : from + a + good l (from + a) b ≡ from + (a + good l (from + a) b) = omega arith in
        rw q at (good_worn l (from + a) b (omega arith))

-- a part that is not ends the run
pub good-add_worn : (l : Bads) (from a b : ℕ) → good l from a < a → good l from (a + b) ≡ good l from a
good-add_worn l from a b h =
    good-is l from (a + b) (good l from a) (omega arith) (λ i q. good_clean l from a i q) (λ q. good_worn l from a h)

-- ---- the loop of `good`, which looks at one number after the other

-- number j of a list, and that it is one of the first n
abbrev number : List ℕ → ℕ → ℕ
number list j = le 8 list (bad_size * j)

abbrev among : ℕ → List ℕ → ℕ → Bool
among n list x = some_below n (λ j. eqb (number list j) x)

-- the blocks before the first bad one, by the first n numbers
unfoldable pub good_to : ℕ → List ℕ → ℕ → ℕ → ℕ
good_to n list from zero = 0
good_to n list from (suc k) = pick (among n list from) 0 (suc (good_to n list (suc from) k))

pub good_to_none : (list : List ℕ) (from k : ℕ) → good_to 0 list from k ≡ k
unfolding good_to
good_to_none list from zero = refl
good_to_none list from (suc k) = ap suc (good_to_none list (suc from) k)

good_to_suc : (n : ℕ) (list : List ℕ) (from k : ℕ) → good_to (suc n) list from k ≡ before (number list n) from (good_to n list from k)
unfolding good_to
good_to_suc n list from zero = sym (before-none (number list n) from)
good_to_suc n list from (suc k) = by_test (eqb (number list n) from) refl (among n list from) refl (good_to_suc n list (suc from) k)
  where
    by_test : (t : Bool) → eqb (number list n) from ≡ t → (u : Bool) → among n list from ≡ u
        → good_to (suc n) list (suc from) k ≡ before (number list n) (suc from) (good_to n list (suc from) k)
        → good_to (suc n) list from (suc k) ≡ before (number list n) from (good_to n list from (suc k))
    by_test true e true f h = rw (e, f) (sym (before-none (number list n) from))
    by_test true e false f h = rw (e, f) (sym (before-first (number list n) from (good_to n list (suc from) k) (eqb-true (number list n) from e)))
    by_test false e true f h = rw (e, f) (sym (before-none (number list n) from))
    by_test false e false f h =
        rw (e, f) (ap suc h ∙ sym (before-next (number list n) from (good_to n list (suc from) k) (eqb-false (number list n) from e)))

-- one more, as the loop finds it
pub good_to_more : {r x m : ℕ} (n : ℕ) (list : List ℕ) (from k : ℕ)
    → m ≡ good_to n list from k → x ≡ number list n → r ≡ before x from m → r ≡ good_to (n + 1) list from k
good_to_more n list from k e f g = rw (g, e, f, add-one) (sym (good_to_suc n list from k))

-- by all of them
pub good_to_all : (l : Bads) (from k : ℕ) → good_to (held_of l.count) l.list from k ≡ good l from k
unfolding good_to good is_bad
good_to_all l from zero = refl
good_to_all l from (suc k) = rw (good_to_all l (suc from) k)
