-- Laws of the 48h result buffer.
-- Assumes nothing.
use mathlib.Core.Path.{◌≡◌, refl, sym, ap, ◌∙◌}
use mathlib.Core.List.{List, [], ◌∷◌, ◌++◌, append_assoc}
use mathlib.Core.Bool.{Bool, true, false}
use mathlib.Core.Logic.{◌≢◌}
use Prim.Native.Nat.{ℕ, zero, suc, ◌+◌, ◌-◌, ◌/◌, ◌%◌, ◌≤◌, ◌<◌}
use native.Mathlib.Nat.{add-zero, zero-add, add_assoc, mod-add-mod, add-mod-mod, mod-lt, mod_self}
use native.Mathlib.Numerals.{add-one}
use native.Mathlib.Omega.{arith}
use lib.ListN.{length, get_or, set, take, drop, replicate, length-append, length-drop}
use Rattle.std.proofs.lemmas.List.{length-map, ext_get_or}
use lib.Seq.{sets, take_all, take_at, take-suc, take-take, drop_at, length-take-le}
use lib.Dec.{eqb, leb, ltb}
use borrow.Author.Tests.{ne_eqb, eq-eqb, le-leb, lt-leb, leb-true}
use Rattle.logic.specs.Logic.{pick, both}
use Rattle.logic.proofs.LogicLaws.{both_true, impossible}
use Rattle.words.specs.Words.{le_bytes, part}
use Rattle.words.proofs.WordsLaws.{sets_more, sets-append, sets_front, length-le_bytes}
use Rattle.drive.specs.declared.Drive.{Drive}
use Rattle.drive.specs.Drive.{is_i2o}
use Rattle.drive.proofs.DriveLaws.{Arrays}
use Rattle.layout.specs.declared.Pointer.{Pointer}
use Rattle.std.specs.Prelude.{Result, Ok, Err, fold}
use Rattle.layout.specs.declared.BadParameter.{BadParameter}
use Rattle.layout.specs.ResultBuffer.{least_size, pointer_size, path_size, wide_size, returned_size, flags_shown, path_key, wide_path_length, parameter_bytes, block_bytes, interface_of, interface_bytes, paths_of, path_bytes, padded_byte, padded, wide_interface_bytes, wide_path_bytes, sum, checksum, checked, summed_bytes, whole_result, result_bytes, result_answer, written, result_out, result_numbers, size_given}
use Rattle.memory.specs.Blocks.{block_length}

-- ---- the sum

pub sum-append : (a b : List ℕ) → sum (a ++ b) ≡ sum a + sum b
unfolding sum
sum-append [] b = sym (zero-add (sum b))
sum-append (x ∷ a) b = rw (sum-append a b, add_assoc)

sum_one : (x : ℕ) → sum (x ∷ []) ≡ x
unfolding sum
sum_one x = add-zero x

-- one byte more
pub sum_more : (s : List ℕ) (i : ℕ) → i < length s → (sum (take i s) % 256 + get_or s i 0) % 256 ≡ sum (take (i + 1) s) % 256
sum_more s i h = rw (add-one, take-suc s i 0 h, sum-append, sum_one, mod-add-mod)

-- what the code adds up, each sum modulo 256
fold_sum_from : (s : List ℕ) (a : ℕ) → fold (λ t x. (t + x) % 256) (a % 256) s ≡ (a + sum s) % 256
unfolding sum
fold_sum_from [] a = rw add-zero
fold_sum_from (x ∷ s) a = rw (mod-add-mod, fold_sum_from s (a + x), add_assoc)

pub fold_sum : (s : List ℕ) → fold (λ t x. (t + x) % 256) 0 s ≡ sum s % 256
fold_sum s = fold_sum_from s 0 ∙ rw zero-add

-- the last byte makes the sum zero
pub sum-checked : (l : List ℕ) → sum (checked l) % 256 ≡ 0
sum-checked l =
    let m : sum l % 256 < 256 = mod-lt (sum l) (omega arith) in
    let e : sum l % 256 + (256 - sum l % 256) ≡ 256 = omega arith in
    rw (sum-append, sum_one, add-mod-mod, ← mod-add-mod (sum l) 256 (256 - sum l % 256), e) (mod_self 256)

-- ---- padded names

pub length-padded : (name : List ℕ) → length (padded name) ≡ length name
unfolding padded
length-padded name = length-map name padded_byte

pub padded_at : (name : List ℕ) (i : ℕ) → i < length name → get_or (padded name) i 0 ≡ padded_byte (get_or name i 0)
unfolding padded
padded_at [] i h = absurd (omega arith)
padded_at (x ∷ name) zero h = refl
padded_at (x ∷ name) (suc i) h = padded_at name i (omega arith)

-- one byte of a name more
pub padded-more : (s : List ℕ) (at : ℕ) (name : List ℕ) (i : ℕ) → i < length name
    → set (sets s at (take i (padded name))) (at + i) (padded_byte (get_or name i 0)) ≡ sets s at (take (i + 1) (padded name))
padded-more s at name i h =
    let l : i < length (padded name) = omega (arith, length-padded name) in
    ap (set (sets s at (take i (padded name))) (at + i)) (sym (padded_at name i h)) ∙ sets_more s at (padded name) i l

-- a list whose bytes are those of a name, each padded
pub padded_is : (name shown : List ℕ) (n : ℕ) → length name ≡ n → length shown ≡ n
    → ((i : ℕ) → i < n → get_or shown i 0 ≡ padded_byte (get_or name i 0)) → shown ≡ padded name
padded_is name shown n e q h =
    ext_get_or 0 shown (padded name) (q ∙ sym e ∙ sym (length-padded name))
    (λ i l. h i (omega arith) ∙ sym (padded_at name i (omega arith)))

-- ---- what the code stores

pub geometry_stores : {o₁ o₂ o₃ o₄ o₅ : List ℕ} {flags : ℕ} (s : List ℕ) (d : Drive) (n : ℕ) → flags ≡ flags_shown d
    → o₁ ≡ sets s 0 (le_bytes 2 n) → o₂ ≡ sets o₁ 2 (le_bytes 2 flags) → o₃ ≡ sets o₂ 4 (le_bytes 4 d.cylinders)
    → o₄ ≡ sets o₃ 8 (le_bytes 4 d.heads) → o₅ ≡ sets o₄ 12 (le_bytes 4 d.sectors) → o₅ ≡ sets s 0 (parameter_bytes d n)
unfolding parameter_bytes
geometry_stores s d n f e₁ e₂ e₃ e₄ e₅ = rw (e₅, e₄, e₃, e₂, e₁, f) (simp (sets-append, length-le_bytes))

pub block_stores : {o₁ o₂ o₃ o₄ : List ℕ} (s : List ℕ) (d : Drive) (p : Pointer) → o₁ ≡ sets s 16 (le_bytes 8 d.blocks)
    → o₂ ≡ sets o₁ 24 (le_bytes 2 block_length) → o₃ ≡ sets o₂ 26 (le_bytes 2 p.offset) → o₄ ≡ sets o₃ 28 (le_bytes 2 p.segment)
    → o₄ ≡ sets s 16 (block_bytes d p)
unfolding block_bytes
block_stores s d p e₁ e₂ e₃ e₄ = rw (e₄, e₃, e₂, e₁) (simp (sets-append, length-le_bytes))

-- a byte with three zeros after it is a dword
le_bytes_of_byte : (n : ℕ) → n < 256 → le_bytes 4 n ≡ n ∷ 0 ∷ 0 ∷ 0 ∷ []
unfolding le_bytes
le_bytes_of_byte n h =
    let e : n % 256 ≡ n = omega arith in
    let q : n / 256 ≡ 0 = omega arith in
    rw (e, q)

le_bytes_key : le_bytes 2 path_key ≡ 0xDD ∷ 0xBE ∷ []
unfolding le_bytes
le_bytes_key = refl

pub interface_stores : {o₁ o₂ o₃ o₄ : List ℕ} (s : List ℕ) (n : ℕ) (bus interface : List ℕ) → n < 256 → length bus ≡ 4
    → o₁ ≡ sets s 30 (le_bytes 2 path_key) → o₂ ≡ sets o₁ 32 (le_bytes 4 n) → o₃ ≡ sets o₂ 36 bus → o₄ ≡ sets o₃ 40 interface
    → o₄ ≡ sets s 30 (interface_of n bus interface)
interface_stores s n bus interface b h e₁ e₂ e₃ e₄ = rw (e₄, e₃, e₂, e₁, le_bytes_of_byte n b, le_bytes_key) (simp (sets-append, h))

pub path_stores : {o₁ o₂ o₃ o₄ : List ℕ} (s : List ℕ) (d : Drive) (tail : List ℕ) → length d.path ≡ 8 → length d.device ≡ 8
    → o₁ ≡ sets s 48 d.path → o₂ ≡ sets o₁ 56 d.device → o₃ ≡ sets o₂ 64 tail → o₄ ≡ set o₃ (64 + length tail) 0 → o₄ ≡ sets s 48 (paths_of d tail)
path_stores s d tail hp hd e₁ e₂ e₃ e₄ = rw (e₄, e₃, e₂, e₁) (simp (sets-append, hp, hd))

pub wide-interface_stores : {o₁ o₂ o₃ o₄ : List ℕ} (s : List ℕ) (d : Drive) → length d.bus ≡ 4
    → o₁ ≡ sets s 30 (le_bytes 2 path_key) → o₂ ≡ sets o₁ 32 (le_bytes 4 wide_path_length) → o₃ ≡ sets o₂ 36 (padded d.bus)
    → o₄ ≡ sets o₃ 40 (padded d.interface) → o₄ ≡ sets s 30 (wide_interface_bytes d)
unfolding wide_interface_bytes le_bytes
wide-interface_stores s d h e₁ e₂ e₃ e₄ = rw (e₄, e₃, e₂, e₁) (simp (sets-append, length-padded, h))

pub wide-path_stores : {o₁ o₂ o₃ o₄ : List ℕ} (s : List ℕ) (d : Drive) → length d.path ≡ 8 → length d.device ≡ 8 → length d.tail ≡ 8
    → o₁ ≡ sets s 48 d.path → o₂ ≡ sets o₁ 56 d.device → o₃ ≡ sets o₂ 64 d.tail → o₄ ≡ set o₃ 72 0 → o₄ ≡ sets s 48 (wide_path_bytes d)
unfolding wide_path_bytes
wide-path_stores s d hp hd ht e₁ e₂ e₃ e₄ = rw (e₄, e₃, e₂, e₁) (simp (sets-append, hp, hd, ht))

-- ---- lengths

length_geometry : (d : Drive) (n : ℕ) → length (parameter_bytes d n) ≡ 16
unfolding parameter_bytes
length_geometry d n = simp (length-append, length-le_bytes)

length-blocks : (d : Drive) (p : Pointer) → length (block_bytes d p) ≡ 14
unfolding block_bytes
length-blocks d p = simp (length-append, length-le_bytes)

length-interface : (d : Drive) → Arrays d → length (interface_bytes d) ≡ 18
unfolding interface_bytes
length-interface d f = simp (length-append, length-le_bytes) (omega (arith, length-padded d.bus, length-padded d.interface, f.bus, f.interface))

length-paths : (d : Drive) → Arrays d → length (path_bytes d) ≡ 17
unfolding path_bytes
length-paths d f = simp (length-append, f.path, f.device)

length-wide-interface : (d : Drive) → Arrays d → length (wide_interface_bytes d) ≡ 18
unfolding wide_interface_bytes
length-wide-interface d f = simp (length-append, length-le_bytes, length-padded, f.bus, f.interface)

length-wide-paths : (d : Drive) → Arrays d → length (wide_path_bytes d) ≡ 25
unfolding wide_path_bytes
length-wide-paths d f = simp (length-append, f.path, f.device, f.tail)

-- so many bytes has the whole result of a returned size
abbrev pub whole_size : ℕ → ℕ
whole_size n = pick (eqb n wide_size) wide_size path_size

-- and so many of them are summed
pub length_summed : (d : Drive) (n : ℕ) → Arrays d → 31 + length (summed_bytes d n) ≡ whole_size n
unfolding summed_bytes
length_summed d n f = by_size (eqb n wide_size)
  where
    by_size : (t : Bool) → 31 + length (pick t (wide_interface_bytes d ++ wide_path_bytes d) (interface_bytes d ++ path_bytes d)) ≡ pick t wide_size path_size
    by_size true = simp (length-append, length-wide-interface d f, length-wide-paths d f)
    by_size false = simp (length-append, length-interface d f, length-paths d f)

pub length_whole : (d : Drive) (p : Pointer) (n : ℕ) → Arrays d → length (whole_result d p n) ≡ whole_size n
unfolding whole_result
length_whole d p n f = simp (length-append, length_geometry, length-blocks) (omega (arith, length_summed d n f))

-- the result of a size has that size
pub length_result : (d : Drive) (p : Pointer) (n : ℕ) → Arrays d → n ≤ whole_size n → length (result_bytes d p n) ≡ n
unfolding result_bytes
length_result d p n f h = length-take-le n (whole_result d p n) (omega (arith, length_whole d p n f))

-- bytes from 30 on, in place
summed_part : (d : Drive) (p : Pointer) (n k : ℕ) (summed rest : List ℕ) → length summed ≡ k
    → part k ((parameter_bytes d n ++ (block_bytes d p ++ summed)) ++ rest) 30 ≡ summed
summed_part d p n k summed rest l =
    let front : length (parameter_bytes d n ++ block_bytes d p) ≡ 30 = simp (length-append, length_geometry, length-blocks) in
    let x : List ℕ = summed ++ rest in
    let a : (parameter_bytes d n ++ (block_bytes d p ++ summed)) ++ rest ≡ (parameter_bytes d n ++ block_bytes d p) ++ x = simp append_assoc in
    rw (a, drop_at (parameter_bytes d n ++ block_bytes d p) x 30 front) (take_at summed rest k l)

-- four runs, of which the last has m bytes, and the checksum of what stands from 30 on behind them
whole_stores : {o₁ o₂ o₃ o₄ o₅ : List ℕ} (s : List ℕ) (d : Drive) (p : Pointer) (n m : ℕ) (names paths : List ℕ) → summed_bytes d n ≡ names ++ paths
    → length names ≡ 18 → length paths ≡ m → 49 + m ≤ length s
    → o₁ ≡ sets s 0 (parameter_bytes d n) → o₂ ≡ sets o₁ 16 (block_bytes d p) → o₃ ≡ sets o₂ 30 names → o₄ ≡ sets o₃ 48 paths
    → o₅ ≡ set o₄ (48 + m) (checksum (part (18 + m) o₄ 30)) → take (length (whole_result d p n)) o₅ ≡ whole_result d p n
unfolding whole_result
whole_stores {o₄ = o₄} {o₅ = o₅} s d p n m names paths es ln lp l e₁ e₂ e₃ e₄ e₅ = joined (parameter_bytes d n ++ (block_bytes d p ++ (names ++ paths))) refl
  where
    long : length (names ++ paths) ≡ 18 + m
    long = simp (length-append, ln, lp)

    joined : (head : List ℕ) → head ≡ parameter_bytes d n ++ (block_bytes d p ++ (names ++ paths)) → take (length (whole_result d p n)) o₅ ≡ whole_result d p n
    joined head e =
        let k : length head ≡ 48 + m = rw e (simp (length-append, length_geometry, length-blocks, ln, lp) (omega arith)) in
        let w : o₄ ≡ sets s 0 head = rw (e₄, e₃, e₂, e₁, e) (simp (sets-append, length_geometry, length-blocks, ln)) in
        let q = summed_part d p n (18 + m) (names ++ paths) (drop (length (parameter_bytes d n ++ (block_bytes d p ++ (names ++ paths)))) s) long in
        let summed : part (18 + m) o₄ 30 ≡ names ++ paths = rw (w, sets_front s head (omega arith), e) q in
        let x = checksum (names ++ paths) in
        let t : sets s 0 (head ++ (x ∷ [])) ≡ set (sets s 0 head) (48 + m) x = rw (k, zero-add) at (sets-append s 0 head (x ∷ [])) in
        let whole : head ++ (x ∷ []) ≡ whole_result d p n = rw (e, es) (simp append_assoc) in
        let o : o₅ ≡ sets s 0 (whole_result d p n) = rw (e₅, summed, w, ← whole) (sym t) in
        let h : length (whole_result d p n) ≤ length s = rw (← whole) (simp (length-append, k) (omega arith)) in
        rw (o, sets_front s (whole_result d p n) h) (take_at (whole_result d p n) (drop (length (whole_result d p n)) s) _ refl)

-- the 66 bytes, and the 74
pub narrow_stores : {o₁ o₂ o₃ o₄ o₅ : List ℕ} (d : Drive) (p : Pointer) (n : ℕ) → Arrays d → n ≢ wide_size
    → o₁ ≡ sets (replicate 74 0) 0 (parameter_bytes d n) → o₂ ≡ sets o₁ 16 (block_bytes d p) → o₃ ≡ sets o₂ 30 (interface_bytes d)
    → o₄ ≡ sets o₃ 48 (path_bytes d) → o₅ ≡ set o₄ 65 (checksum (part 35 o₄ 30)) → take (length (whole_result d p n)) o₅ ≡ whole_result d p n
unfolding summed_bytes
narrow_stores d p n f h =
    whole_stores (replicate 74 0) d p n 17 (interface_bytes d) (path_bytes d) (rw (ne_eqb n wide_size h)) (length-interface d f) (length-paths d f) (omega arith)

pub wide_stores : {o₁ o₂ o₃ o₄ o₅ : List ℕ} (d : Drive) (p : Pointer) (n : ℕ) → Arrays d → n ≡ wide_size
    → o₁ ≡ sets (replicate 74 0) 0 (parameter_bytes d n) → o₂ ≡ sets o₁ 16 (block_bytes d p) → o₃ ≡ sets o₂ 30 (wide_interface_bytes d)
    → o₄ ≡ sets o₃ 48 (wide_path_bytes d) → o₅ ≡ set o₄ 73 (checksum (part 43 o₄ 30)) → take (length (whole_result d p n)) o₅ ≡ whole_result d p n
unfolding summed_bytes
wide_stores d p n f h =
    whole_stores (replicate 74 0) d p n 25 (wide_interface_bytes d) (wide_path_bytes d) (rw (eq-eqb n wide_size h)) (length-wide-interface d f) (length-wide-paths d f) (omega arith)

-- ---- the answer

-- the four sizes, by the tests
abbrev pub size_by : Bool → Bool → Bool → Bool → ℕ
size_by a b c i = pick a least_size (pick b pointer_size (pick c (pick i pointer_size path_size) wide_size))

-- no size is above the bytes of its whole result
pub returned_most : (d : Drive) (asked : ℕ) → returned_size d asked ≤ whole_size (returned_size d asked)
unfolding returned_size
returned_most d asked = by_test (ltb asked pointer_size) (ltb asked path_size) (ltb asked wide_size) (is_i2o d)
  where
    by_test : (a b c i : Bool) → size_by a b c i ≤ whole_size (size_by a b c i)
    by_test true b c i = omega arith
    by_test false true c i = omega arith
    by_test false false true true = omega arith
    by_test false false true false = omega arith
    by_test false false false i = omega arith

-- one that is not 74 is at most 66
pub returned_narrow : {n : ℕ} (d : Drive) (asked : ℕ) → n ≡ returned_size d asked → n ≢ wide_size → n ≤ path_size
returned_narrow {n} d asked e h =
    let t : eqb n wide_size ≡ false = ne_eqb n wide_size h in
    let m : n ≤ whole_size n = rw (← e) at (returned_most d asked) in
    rw t at m

pub returned_wide : (d : Drive) (asked : ℕ) → returned_size d asked ≤ wide_size
returned_wide d asked = by_size (eqb (returned_size d asked) wide_size) (returned_most d asked)
  where
    by_size : (t : Bool) → returned_size d asked ≤ pick t wide_size path_size → returned_size d asked ≤ wide_size
    by_size true h = h
    by_size false h = omega arith

module _ (d : Drive) (p : Pointer) (asked : ℕ) (out : List ℕ) where
  -- the answer, the bytes after it, and the answer's numbers
  abbrev Answers : Result ℕ BadParameter → List ℕ → Type 0
  Answers r o = (r ≡ result_answer d asked (length out)) × (o ≡ result_out d p asked out) × (result_numbers r ≡ size_given d asked (length out))

  -- whoever answers with the definition answers with the paper's numbers
  answered : {r : Result ℕ BadParameter} {o : List ℕ} → r ≡ result_answer d asked (length out) → o ≡ result_out d p asked out → Answers r o
  unfolding result_answer result_numbers size_given
  answered e f = (e, f, ap result_numbers e ∙ by_test (both (leb least_size asked) (leb (returned_size d asked) (length out))))
    where
      by_test : (t : Bool) → result_numbers (pick t (Ok (returned_size d asked)) (Err (record {}))) ≡ pick t (0 ∷ returned_size d asked ∷ []) (0x01 ∷ [])
      by_test true = refl
      by_test false = refl

  pub answer-small : asked < least_size → Answers (Err (record {})) out
  unfolding result_answer
  answer-small h = let t : leb least_size asked ≡ false = lt-leb least_size asked h in answered (rw t) (rw t)

  pub answer-no_room : least_size ≤ asked → length out < returned_size d asked → Answers (Err (record {})) out
  unfolding result_answer
  answer-no_room h q =
      let t : leb least_size asked ≡ true = le-leb least_size asked h in
      let u : leb (returned_size d asked) (length out) ≡ false = lt-leb (returned_size d asked) (length out) q in
      answered (rw (t, u)) (rw (t, u))

  -- of the whole result the returned bytes are stored
  pub answer-written : {n : ℕ} {o : List ℕ} (r : List ℕ) → Arrays d → take (length (whole_result d p n)) r ≡ whole_result d p n → least_size ≤ asked → n ≡ returned_size d asked
      → n ≤ length out → o ≡ sets out 0 (take n r) → Answers (Ok n) o
  unfolding result_answer result_bytes
  answer-written {n} {o} r f w h en q eo =
      let t : leb least_size asked ≡ true = le-leb least_size asked h in
      let u : leb (returned_size d asked) (length out) ≡ true = le-leb (returned_size d asked) (length out) (omega arith) in
      let m : n ≤ whole_size n = rw (← en) at (returned_most d asked) in
      let l : n ≤ length (whole_result d p n) = omega (arith, length_whole d p n f) in
      let front : take n r ≡ take n (whole_result d p n) = sym (take-take n (length (whole_result d p n)) r l) ∙ ap (take n) w in
      let k : length (take n (whole_result d p n)) ≡ n = length-take-le n (whole_result d p n) l in
      let x : sets out 0 (take n (whole_result d p n)) ≡ take n (whole_result d p n) ++ drop n out = rw k at (sets_front out (take n (whole_result d p n)) (omega arith)) in
      answered (rw (t, u, en)) (rw (t, u, ← en) (eo ∙ rw front x))

  -- the 74 bytes are stored as they are
  pub answer-wide : {n : ℕ} {r o : List ℕ} → length r ≡ wide_size → r ≡ whole_result d p wide_size → least_size ≤ asked → n ≡ returned_size d asked → n ≡ wide_size
      → n ≤ length out → o ≡ sets out 0 r → Answers (Ok n) o
  unfolding result_answer result_bytes
  answer-wide {n} {r} l er h en e q eo =
      let t : leb least_size asked ≡ true = le-leb least_size asked h in
      let u : leb (returned_size d asked) (length out) ≡ true = le-leb (returned_size d asked) (length out) (omega arith) in
      let whole : r ≡ whole_result d p n = rw e er in
      let all : take n (whole_result d p n) ≡ r = rw (← whole) (take_all n r (omega arith)) in
      let k : length r ≡ n = omega arith in
      let x : sets out 0 r ≡ r ++ drop n out = rw k at (sets_front out r (omega arith)) in
      answered (rw (t, u, en)) (rw (t, u, ← en, all) (eo ∙ x))

-- no two answers have the same numbers
pub result_apart : (x y : Result ℕ BadParameter) → result_numbers x ≡ result_numbers y → x ≡ y
unfolding result_numbers
result_apart (Ok m) (Ok n) e = cc
result_apart (Ok m) (Err d) e = impossible (cc)
result_apart (Err c) (Ok n) e = impossible (cc)
result_apart (Err c) (Err d) e = refl

-- as many bytes after the answer as before it
pub length-out : (d : Drive) (p : Pointer) (asked : ℕ) (out : List ℕ) → Arrays d → length (result_out d p asked out) ≡ length out
unfolding result_answer
length-out d p asked out f = by_test (both (leb least_size asked) (leb (returned_size d asked) (length out))) refl
  where
    by_test : (t : Bool) → both (leb least_size asked) (leb (returned_size d asked) (length out)) ≡ t
        → length (written d p (pick t (Ok (returned_size d asked)) (Err (record {}))) out) ≡ length out
    by_test true e =
        let b = both_true (leb least_size asked) (leb (returned_size d asked) (length out)) e in
        let q : returned_size d asked ≤ length out = leb-true (returned_size d asked) (length out) b.1 in
        simp (length-append, length-drop) (omega (arith, length_result d p (returned_size d asked) f (returned_most d asked)))
    by_test false e = refl

-- ---- the kind

-- a drive with another kind, and all else as it is
abbrev pub of_kind : ℕ → Drive → Drive
of_kind kind d = record {
  cylinders = d.cylinders;
  heads = d.heads;
  sectors = d.sectors;
  blocks = d.blocks;
  first = d.first;
  flags = d.flags;
  c = d.c;
  h = d.h;
  s = d.s;
  protection = d.protection;
  bus = d.bus;
  interface = d.interface;
  path = d.path;
  device = d.device;
  kind = kind;
  tail = d.tail;
}

-- the kind does not show: neither in the answer
pub kind-answer : (kind : ℕ) (d : Drive) (asked room : ℕ) → result_answer (of_kind kind d) asked room ≡ result_answer d asked room
unfolding result_answer returned_size is_i2o
kind-answer kind d asked room = refl

-- nor in the bytes
pub kind-out : (kind : ℕ) (d : Drive) (p : Pointer) (asked : ℕ) (out : List ℕ) → result_out (of_kind kind d) p asked out ≡ result_out d p asked out
unfolding result_answer returned_size is_i2o result_bytes whole_result parameter_bytes block_bytes summed_bytes interface_bytes path_bytes wide_interface_bytes wide_path_bytes
kind-out kind d p asked out = by_answer (result_answer d asked (length out))
  where
    by_answer : (a : Result ℕ BadParameter) → written (of_kind kind d) p a out ≡ written d p a out
    by_answer (Ok n) = refl
    by_answer (Err e) = refl
