-- Laws of the reader block: what its bytes say, what is laid out in it, and the tests.
-- Assumes nothing.
use Prim.Native.Nat.{ℕ, zero, suc, ◌+◌, ◌-◌, ◌≤◌, min}
use native.Mathlib.Nat.{zero-add}
use native.Mathlib.Omega.{arith}
use mathlib.Core.Bool.{Bool, true, false}
use mathlib.Core.Path.{◌≡◌, refl, sym, ap, ◌∙◌}
use mathlib.Core.List.{List, [], ◌∷◌, ◌++◌, append-nil, append_assoc}
use lib.ListN.{length, get_or, drop, drop_of_length-le, replicate, length-append, length-drop, length-replicate}
use lib.Seq.{sets, take_all, take_at, drop_at}
use lib.Dec.{leb, eqb}
use borrow.Author.Tests.{le-ltb, leb-true, leb-false}
use borrow.Rule.Slice.PartMut.{put_mid}
use Rattle.logic.specs.Logic.{both, all_below}
use Rattle.logic.proofs.LogicLaws.{all_front}
use Rattle.words.specs.Words.{le, le_bytes, part}
use Rattle.words.proofs.WordsLaws.{sets-append, sets_front, sets-whole, length-le_bytes}
use Rattle.drive.specs.Drive.{same}
use Rattle.table.specs.declared.Table.{Table}
use Rattle.table.specs.declared.Reading.{Reading}
use Rattle.table.specs.Table.{end_record, records_of, bytes_of, drives_of, next_place, table_of, write_out, read_table}
use Rattle.feed.specs.declared.Course.{Course}
use Rattle.feed.specs.declared.Feed.{Feed}
use Rattle.reader.specs.Reader.{course_number, refusal_number, head_bytes, table_bytes, image, course_at, read_reader}

-- ---- what bytes say

-- the table, by its length word, or all that there is room for
pub table_is : {n : ℕ} (s : List ℕ) → length s ≡ 2018 → n ≡ min (le 8 s 32) 1844 → part (174 + n - 174) s 174 ≡ part (le 8 s 32) s 174
table_is {n} s l e = by_test (leb (le 8 s 32) 1844) refl
  where
    d : length (drop 174 s) ≡ 1844
    d = length-drop 174 s ∙ omega arith

    by_test : (t : Bool) → leb (le 8 s 32) 1844 ≡ t → part (174 + n - 174) s 174 ≡ part (le 8 s 32) s 174
    by_test true t =
        let h = leb-true (le 8 s 32) 1844 t in
        let k : 174 + n - 174 ≡ le 8 s 32 = omega arith in
        rw k refl
    by_test false t =
        let h = leb-false (le 8 s 32) 1844 t in
        let k : 174 + n - 174 ≡ 1844 = omega arith in
        rw (k, take_all 1844 (drop 174 s) (omega (arith, d)), take_all (le 8 s 32) (drop 174 s) (omega (arith, d))) refl

-- the reader, from what the code read
pub decode_is : {t : Reading} {store filled : ℕ} {held : List ℕ} {course : Course} (end : ℕ) (b : List ℕ) → store ≡ le 8 b 16 → part (end - 174) b 174 ≡ part (le 8 b 32) b 174
    → t ≡ read_table (part (end - 174) b 174) store → held ≡ part 134 b 40 → filled ≡ le 8 b 24 → course ≡ course_at b
    → ◌≡◌ {A = Feed} (record { table = t.table; store = store; held = held; filled = filled; course = course }) (read_reader b)
unfolding read_reader
decode_is end b s p t h f c = rw (t, p, s, h, f, c)

-- ---- what is laid out

length-end : length end_record ≡ 4
unfolding le_bytes
length-end = refl

-- the length of a table, which ends with the end record
pub length-table : (b : Table) → length (table_of b) ≡ next_place b + 4
unfolding table_of bytes_of next_place
length-table b =
    let records = records_of (length (drives_of b)) b in
    length-append records end_record ∙ ap (λ (k : ℕ). length records + k) length-end

pub table_long : {m : ℕ} (b : Table) → m ≡ next_place b → m + 4 ≡ length (table_of b)
table_long b e = omega (arith, length-table b)

-- the five words
head_stores : (s : List ℕ) (f : Feed) → sets s 0 (head_bytes f)
    ≡ sets (sets (sets (sets (sets s 0 (le_bytes 8 (course_number f.course))) 8 (le_bytes 8 (refusal_number f.course))) 16 (le_bytes 8 f.store)) 24 (le_bytes 8 f.filled))
    32 (le_bytes 8 (length (table_of f.table)))
head_stores s f = simp (sets-append, length-le_bytes)

pub head_laid : {o₁ o₂ o₃ o₄ o₅ : List ℕ} {course refusal whole : ℕ} (s : List ℕ) (f : Feed)
    → course ≡ course_number f.course → refusal ≡ refusal_number f.course → whole ≡ length (table_of f.table)
    → o₁ ≡ sets s 0 (le_bytes 8 course) → o₂ ≡ sets o₁ 8 (le_bytes 8 refusal) → o₃ ≡ sets o₂ 16 (le_bytes 8 f.store)
    → o₄ ≡ sets o₃ 24 (le_bytes 8 f.filled) → o₅ ≡ sets o₄ 32 (le_bytes 8 whole) → o₅ ≡ sets s 0 (head_bytes f)
head_laid s f c r w e₁ e₂ e₃ e₄ e₅ = rw (e₅, e₄, e₃, e₂, e₁, c, r, w) (sym (head_stores s f))

pub length_head : (f : Feed) → length (head_bytes f) ≡ 40
length_head f = simp (length-append, length-le_bytes)

-- zeros
abbrev zeros : ℕ → List ℕ
zeros n = replicate n 0

drop_zeros : (n m : ℕ) → drop n (zeros m) ≡ zeros (m - n)
drop_zeros zero m = let e : m - 0 ≡ m = omega arith in rw e
drop_zeros (suc n) zero = let e : 0 - suc n ≡ 0 = omega arith in rw e
drop_zeros (suc n) (suc m) = let e : suc m - suc n ≡ m - n = omega arith in rw e (drop_zeros n m)

over_zeros : (f : Feed) → length (table_of f.table) ≤ 1844 → write_out f.table (zeros 1844) ≡ table_bytes f
unfolding write_out
over_zeros f h =
    let n = length (table_of f.table) in
    rw (length-replicate {A = ℕ} 1844 0, le-ltb 1844 n h, drop_zeros n 1844)

-- the table, written over zeros
pub table-laid : {t o : List ℕ} (s : List ℕ) (f : Feed) → length (table_of f.table) ≤ 1844 → t ≡ write_out f.table (replicate 1844 0) → o ≡ sets s 174 t
    → o ≡ sets s 174 (table_bytes f)
table-laid s f h e w = w ∙ ap (sets s 174) (e ∙ over_zeros f h)

pub length-table_bytes : (f : Feed) → length (table_of f.table) ≤ 1844 → length (table_bytes f) ≡ 1844
length-table_bytes f h =
    let n = length (table_of f.table) in
    length-append (table_of f.table) (zeros (1844 - n)) ∙ omega (arith, length-replicate {A = ℕ} (1844 - n) 0)

pub length-image : (f : Feed) → length f.held ≡ 134 → length (table_of f.table) ≤ 1844 → length (image f) ≡ 2018
unfolding image
length-image f l h =
    length-append (head_bytes f) (f.held ++ table_bytes f) ∙ omega (arith, length_head f, length-append f.held (table_bytes f), l, length-table_bytes f h)

-- the three parts are the image
image_stores : (s : List ℕ) (f : Feed) → length f.held ≡ 134 → sets s 0 (image f) ≡ sets (sets (sets s 0 (head_bytes f)) 40 f.held) 174 (table_bytes f)
unfolding image
image_stores s f m =
    rw (
      sets-append s 0 (head_bytes f) (f.held ++ table_bytes f),
      length_head f,
      zero-add,
      sets-append (sets s 0 (head_bytes f)) 40 f.held (table_bytes f),
      m,
    )

pub image-laid : {o₁ o₂ o₃ : List ℕ} (s : List ℕ) (f : Feed) → length s ≡ 2018 → length f.held ≡ 134 → length (table_of f.table) ≤ 1844
    → o₁ ≡ sets s 0 (head_bytes f) → o₂ ≡ sets o₁ 40 f.held → o₃ ≡ sets o₂ 174 (table_bytes f) → o₃ ≡ image f
image-laid s f l m h e₁ e₂ e₃ =
    let w : sets s 0 (image f) ≡ image f = sets-whole s (image f) (l ∙ sym (length-image f m h)) in
    rw (e₃, e₂, e₁) (sym (image_stores s f m) ∙ w)

-- a part written to the end
laid_behind : (a b c : List ℕ) → length a ≡ 174 → length b ≡ 1844 → put_mid 174 1844 (a ++ b) c ≡ a ++ c
laid_behind a b c l m =
    let h : length b ≤ 1844 = omega arith in
    rw (take_at a b 174 l, drop_at a b 174 l, drop_of_length-le b h, append-nil)

-- the words, the bytes held, zeros and the table over them are the image
pub image_laid : {o₁ o₂ z t : List ℕ} (s : List ℕ) (f : Feed) → length s ≡ 2018 → length f.held ≡ 134 → length (table_of f.table) ≤ 1844
    → o₁ ≡ sets s 0 (head_bytes f) → o₂ ≡ sets o₁ 40 f.held → z ≡ replicate (length (part 1844 o₂ 174)) 0
    → t ≡ write_out f.table (part 1844 (put_mid 174 1844 o₂ z) 174)
    → put_mid 174 1844 (put_mid 174 1844 o₂ z) t ≡ image f
unfolding image
image_laid {o₁} {o₂} {z} {t} s f l m h e₁ e₂ ez et =
    let front = head_bytes f ++ f.held in
    let n : length front ≡ 174 = length-append (head_bytes f) f.held ∙ omega (arith, length_head f, m) in
    let rest : length (drop 174 s) ≡ 1844 = length-drop 174 s ∙ omega arith in
    let w : o₂ ≡ front ++ drop 174 s =
    rw (e₂, e₁) (sym (rw (length_head f, zero-add) at (sets-append s 0 (head_bytes f) f.held)) ∙ rw n at (sets_front s front (omega arith))) in
    let k : z ≡ zeros 1844 = rw (ez, w, drop_at front (drop 174 s) 174 n, take_all 1844 (drop 174 s) (omega arith), rest) refl in
    let v : put_mid 174 1844 o₂ z ≡ front ++ zeros 1844 = rw (w, k) (laid_behind front (drop 174 s) (zeros 1844) n rest) in
    let q : length (zeros 1844) ≡ 1844 = length-replicate {A = ℕ} 1844 0 in
    let u : t ≡ table_bytes f = rw (et, v, drop_at front (zeros 1844) 174 n, take_all 1844 (zeros 1844) (omega arith)) (over_zeros f h) in
    rw (v, u) (laid_behind front (zeros 1844) (table_bytes f) n q ∙ append_assoc (head_bytes f) f.held (table_bytes f))

-- ---- two slices, byte by byte

pub same-all : (n : ℕ) (a b : List ℕ) → length a ≡ n → length b ≡ n → same a b ≡ all_below n (λ i. eqb (get_or a i 0) (get_or b i 0))
unfolding same
same-all zero [] [] p q = refl
same-all zero [] (y ∷ b) p q = absurd (omega arith)
same-all zero (x ∷ a) b p q = absurd (omega arith)
same-all (suc n) [] b p q = absurd (omega arith)
same-all (suc n) (x ∷ a) [] p q = absurd (omega arith)
same-all (suc n) (x ∷ a) (y ∷ b) p q =
    ap (both (eqb x y)) (same-all n a b (omega arith) (omega arith)) ∙ sym (all_front n (λ i. eqb (get_or (x ∷ a) i 0) (get_or (y ∷ b) i 0)))
