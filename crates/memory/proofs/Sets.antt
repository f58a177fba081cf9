-- Laws of runs of stores: what a run changes, and what it leaves.
-- Assumes nothing.
use mathlib.Core.Path.{◌≡◌, refl, ap, sym, ◌∙◌}
use mathlib.Core.List.{List, [], ◌∷◌, ◌++◌, append_assoc}
use Prim.Native.Nat.{ℕ, suc, ◌+◌, ◌-◌, ◌≤◌}
use native.Mathlib.Omega.{arith}
use lib.ListN.{length, take, drop, set, length-append, length-take, length-drop, take-append-drop}
use lib.Seq.{sets, sets-eq, length-sets, length-take-le, take-set-le, drop-set-lt, drop-set-add, drop-append-le, take_at, drop_at, take-add, drop-drop}
use Rattle.words.specs.Words.{part}

pub length_part : (k : ℕ) (l : List ℕ) (at : ℕ) → at + k ≤ length l → length (part k l at) ≡ k
length_part k l at h = length-take-le k (drop at l) (simp length-drop (omega arith))

pub length-part-le : (k : ℕ) (l : List ℕ) (at : ℕ) → length (part k l at) ≤ k
length-part-le k l at = rw length-take (omega arith)

-- ---- outside the run

pub take-sets : (n : ℕ) (l : List ℕ) (at : ℕ) (v : List ℕ) → n ≤ at → take n (sets l at v) ≡ take n l
take-sets n l at [] h = refl
take-sets n l at (x ∷ v) h = take-sets n (set l at x) (suc at) v (omega arith) ∙ take-set-le n l at x h

pub drop-sets : (n : ℕ) (l : List ℕ) (at : ℕ) (v : List ℕ) → at + length v ≤ n → drop n (sets l at v) ≡ drop n l
drop-sets n l at [] h = refl
drop-sets n l at (x ∷ v) h = drop-sets n (set l at x) (suc at) v (omega arith) ∙ drop-set-lt n l at x (omega arith)

part-set-before : (k : ℕ) (l : List ℕ) (b at x : ℕ) → b + k ≤ at → part k (set l at x) b ≡ part k l b
part-set-before k l b at x h =
    let e : b + (at - b) ≡ at = omega arith in
    let s : drop b (set l at x) ≡ set (drop b l) (at - b) x = rw e at (drop-set-add b l (at - b) x) in
    ap (take k) s ∙ take-set-le k (drop b l) (at - b) x (omega arith)

pub part-sets-before : (k : ℕ) (l : List ℕ) (b at : ℕ) (v : List ℕ) → b + k ≤ at → part k (sets l at v) b ≡ part k l b
part-sets-before k l b at [] h = refl
part-sets-before k l b at (x ∷ v) h = part-sets-before k (set l at x) b (suc at) v (omega arith) ∙ part-set-before k l b at x h

pub part-sets-after : (k : ℕ) (l : List ℕ) (b at : ℕ) (v : List ℕ) → at + length v ≤ b → part k (sets l at v) b ≡ part k l b
part-sets-after k l b at v h = ap (take k) (drop-sets b l at v h)

-- ---- the run itself

pub part-sets-same : (l : List ℕ) (at : ℕ) (v : List ℕ) → at + length v ≤ length l → part (length v) (sets l at v) at ≡ v
part-sets-same l at v h =
    let rest : List ℕ = drop (at + length v) l in
    let n : length (take at l) ≡ at = length-take-le at l (omega arith) in
    let f : at ≤ length (take at l ++ v) = rw (length-append, n) (omega arith) in
    rw (sets-eq v l at h, drop-append-le at (take at l ++ v) rest f, drop_at (take at l) v at n) (take_at v rest (length v) refl)

-- what is there already changes nothing
pub sets-part : (k : ℕ) (l : List ℕ) (at : ℕ) → at + k ≤ length l → sets l at (part k l at) ≡ l
sets-part k l at h =
    let n : length (part k l at) ≡ k = length_part k l at h in
    let i : at + length (part k l at) ≤ length l = omega arith in
    rw (sets-eq (part k l at) l at i, n, ← take-add at k l) (take-append-drop (at + k) l)

-- of two runs at one place the second stays
pub sets_twice : (l : List ℕ) (at : ℕ) (v w : List ℕ) → length v ≡ length w → at + length w ≤ length l → sets (sets l at v) at w ≡ sets l at w
sets_twice l at v w e h =
    let i : at + length w ≤ length (sets l at v) = rw length-sets h in
    rw (sets-eq w (sets l at v) at i, sets-eq w l at h, take-sets at l at v (omega arith), drop-sets (at + length w) l at v (omega arith))

-- a part that was lent comes back
pub sets_lent : (l : List ℕ) (at k : ℕ) (v : List ℕ) → length v ≡ k → at + k ≤ length l → take at l ++ (v ++ drop k (drop at l)) ≡ sets l at v
sets_lent l at k v e h =
    let i : at + length v ≤ length l = omega arith in
    rw (sets-eq v l at i, drop-drop, e) (sym (append_assoc (take at l) v (drop (at + k) l)))
