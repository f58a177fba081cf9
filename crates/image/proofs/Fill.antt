-- Lists that are put together from their members' parts, and a block that is filled with them from the left.
-- Assumes nothing.
use Prim.Native.Nat.{ℕ, zero, suc, ◌+◌, ◌*◌, ◌≤◌, ◌<◌}
use native.Mathlib.Nat.{mul-zero}
use native.Mathlib.Numerals.{add-one}
use native.Mathlib.Omega.{arith}
use mathlib.Core.Path.{◌≡◌, refl, sym, ◌∙◌, ap, subst}
use mathlib.Core.List.{List, [], ◌∷◌, ◌++◌, append_assoc, append-nil}
use lib.ListN.{length, take, drop, get_or, length-append, take-append-drop, drop_of_length-le}
use lib.Seq.{sets, take-suc, drop-drop, length-take-le}
use Rattle.words.specs.Words.{Bytes, le, le_bytes}
use Rattle.words.proofs.WordsLaws.{length-le_bytes, write_read, sets-append, sets-whole}
use Rattle.drive.specs.declared.Drive.{Drive}
use Rattle.table.specs.declared.Table.{Table}
use Rattle.desk.specs.declared.Stage.{Stage}
use Rattle.desk.specs.declared.Stage.TheVariants.{Vacant, Waiting, Finished}
use Rattle.desk.specs.declared.Row.{Row}
use Rattle.desk.specs.declared.Desk.{Desk}
use Rattle.image.specs.Image.{each, flat, listed, stage_words, row_words, rows_words, drive_words, slots_words, tail_words, marks_words, places_words, given_words, parameters_words, list_words, bads_words, desk_words, image, row_at, slot_at, tail_at, mark_at, desk_size}
use Rattle.image.proofs.Fields.{length-listed, length-marks}

module _ {A : Type 0} (f : A → List ℕ) where
  pub each_append : (xs ys : List A) → each f (xs ++ ys) ≡ each f xs ++ each f ys
  unfolding each
  each_append [] ys = refl
  each_append (x ∷ xs) ys = rw (each_append xs ys, append_assoc)

  pub each_one : (x : A) → each f (x ∷ []) ≡ f x
  unfolding each
  each_one x = append-nil (f x)

  -- the parts of one member more
  pub each_take : (xs : List A) (k : ℕ) (e : A) → k < length xs → each f (take (k + 1) xs) ≡ each f (take k xs) ++ f (get_or xs k e)
  each_take xs k e h = rw (add-one, take-suc xs k e h, each_append, each_one)

  module _ (n : ℕ) (wide : (x : A) → length (f x) ≡ n) where
    pub length-each : (xs : List A) → length (each f xs) ≡ n * length xs
    unfolding each
    length-each [] = sym (mul-zero n)
    length-each (x ∷ xs) = length-append (f x) (each f xs) ∙ more (length xs) (wide x) (length-each xs)
      where
        more : (m : ℕ) {a b : ℕ} → a ≡ n → b ≡ n * m → a + b ≡ n * suc m
        more m p q = rw (p, q) (omega arith)

-- each number for itself
pub each_same : (l : List ℕ) → each (λ x. x ∷ []) l ≡ l
unfolding each
each_same [] = refl
each_same (x ∷ l) = ap (λ (t : List ℕ). x ∷ t) (each_same l)

-- a run of stores, and the one that follows it
pub sets-next : (s : List ℕ) (at n : ℕ) (a b : List ℕ) → length a ≡ n → sets (sets s at a) (at + n) b ≡ sets s at (a ++ b)
sets-next s at n a b e = subst (λ (m : ℕ). sets (sets s at a) (at + m) b ≡ sets s at (a ++ b)) e (sym (sets-append s at a b))

pub length-flat : (ws : List ℕ) → length (flat ws) ≡ 8 * length ws
length-flat ws = length-each (le_bytes 8) 8 (length-le_bytes 8) ws

-- one word more
pub word_more : (s : List ℕ) (at : ℕ) (w : List ℕ) (j : ℕ) → j < length w
    → sets (sets s at (flat (take j w))) (at + 8 * j) (le_bytes 8 (get_or w j 0)) ≡ sets s at (flat (take (j + 1) w))
word_more s at w j h =
    let l : length (flat (take j w)) ≡ 8 * j = length-flat (take j w) ∙ ap (λ (n : ℕ). 8 * n) (length-take-le j w (omega arith)) in
    rw (each_take (le_bytes 8) w j 0 h) (sets-next s at (8 * j) (flat (take j w)) (le_bytes 8 (get_or w j 0)) l)

-- one member more, of n words
module _ {A : Type 0} (f : A → List ℕ) (n : ℕ) (wide : (x : A) → length (f x) ≡ n) where
  pub length_members : (xs : List A) (k : ℕ) → k ≤ length xs → length (flat (each f (take k xs))) ≡ 8 * (n * k)
  length_members xs k h =
      length-flat (each f (take k xs)) ∙ ap (λ (m : ℕ). 8 * m) (length-each f n wide (take k xs) ∙ ap (λ (m : ℕ). n * m) (length-take-le k xs h))

  pub part-more : (s : List ℕ) (at place : ℕ) (xs : List A) (k : ℕ) (e : A) → k < length xs → place ≡ at + 8 * (n * k)
      → sets (sets s at (flat (each f (take k xs)))) place (flat (f (get_or xs k e))) ≡ sets s at (flat (each f (take (k + 1) xs)))
  part-more s at place xs k e h p =
      rw (p, each_take f xs k e h, each_append (le_bytes 8))
      (sets-next s at (8 * (n * k)) (flat (each f (take k xs))) (flat (f (get_or xs k e))) (length_members xs k (omega arith)))

-- the words of a row and of a drive
pub length_row : (r : Row) → length (row_words r) ≡ 23
length_row r = go r.stage
  where
    go : (x : Stage) → length (stage_words x) ≡ 23
    go Vacant = refl
    go (Waiting q) = refl
    go (Finished x) = refl

pub length-drive : (d : Drive) → length (drive_words d) ≡ 16
length-drive d = refl

-- the words of the sections
pub length_rows : (rows : List Row) → length rows ≡ 8 → length (rows_words rows) ≡ 23 * 8
length_rows rows e = length-each row_words 23 length_row rows ∙ ap (λ (m : ℕ). 23 * m) e

pub length_slots : (drives : List Drive) → length drives ≡ 8 → length (slots_words drives) ≡ 16 * 8
length_slots drives e = length-each drive_words 16 length-drive drives ∙ ap (λ (m : ℕ). 16 * m) e

-- the sections behind the last words
pub length-places : (d : Desk) → length d.placed ≡ 8 → length d.addresses ≡ 8 → length (places_words d) ≡ 8 * 2
length-places d e f = length-append (marks_words d.placed) d.addresses ∙ omega (arith, length-marks d.placed)

pub length-parameters : (b : Table) → length b.present ≡ 8 → length (parameters_words b) ≡ 8 + 14
length-parameters b e =
    length-append (marks_words b.present) (given_words b.parameters)
    ∙ omega (arith, length-marks b.present, length-listed (λ j. le 8 b.parameters (8 * j)) 0 14)

pub length_bads : (b : Table) → length b.counts ≡ 8 → length (bads_words b) ≡ 8 + 128
length_bads b e = length-append b.counts (list_words b.bad) ∙ omega (arith, length-listed (λ j. le 8 b.bad (8 * j)) 0 128)

-- bytes as words, eight a word
words_from : (p : List ℕ) (i n : ℕ) → Bytes p → 8 * i + 8 * n ≡ length p → flat (listed (λ j. le 8 p (8 * j)) i n) ≡ drop (8 * i) p
unfolding each
words_from p i zero h e = sym (drop_of_length-le p {i = 8 * i} (omega arith))
words_from p i (suc n) h e =
    let z : 8 * i + 8 ≡ 8 * suc i = omega arith in
    rw (write_read 8 p (8 * i) h (omega arith), words_from p (suc i) n h (omega arith), ← z, ← drop-drop 8 (8 * i) p) (take-append-drop 8 (drop (8 * i) p))

pub flat_words : (p : List ℕ) (n : ℕ) → Bytes p → length p ≡ 8 * n → flat (listed (λ j. le 8 p (8 * j)) 0 n) ≡ p
flat_words p n h e = words_from p 0 n h (omega arith)

-- the sections, laid one after the other

-- the counts of bad blocks as words, and the bytes of the lists as they are
pub bads_laid : {o₁ o₂ : List ℕ} (s : List ℕ) (at : ℕ) (counts bad : List ℕ) → length counts ≡ 8 → Bytes bad → length bad ≡ 1024
    → o₁ ≡ sets s at (flat counts) → o₂ ≡ sets o₁ (at + 64) bad → o₂ ≡ sets s at (flat (counts ++ list_words bad))
bads_laid s at counts bad e h m p q =
    let w : flat (list_words bad) ≡ bad = flat_words bad 128 h (omega arith) in
    let l : length (flat counts) ≡ 64 = length-flat counts ∙ omega arith in
    rw (q, p) (ap (sets (sets s at (flat counts)) (at + 64)) (sym w)
    ∙ sets-next s at 64 (flat counts) (flat (list_words bad)) l
    ∙ ap (sets s at) (sym (each_append (le_bytes 8) counts (list_words bad))))

-- those behind the last words
pub more-laid : (s : List ℕ) (at : ℕ) (d : Desk) → length d.placed ≡ 8 → length d.addresses ≡ 8 → length d.table.present ≡ 8
    → sets (sets (sets (sets (sets s at (flat (marks_words d.placed))) (at + 64) (flat d.addresses)) (at + 128) (flat (marks_words d.table.present))) (at + 192) (flat (given_words d.table.parameters)))
    (at + 304) (flat (bads_words d.table))
    ≡ sets s at (flat (places_words d ++ (parameters_words d.table ++ bads_words d.table)))
more-laid s at d p a n =
    let P = marks_words d.placed in
    let A = d.addresses in
    let N = marks_words d.table.present in
    let W = given_words d.table.parameters in
    let B = bads_words d.table in
    let lp : length (flat P) ≡ 64 = length-flat P ∙ omega (arith, length-marks d.placed) in
    let la : length (flat P ++ flat A) ≡ 128 = length-append (flat P) (flat A) ∙ omega (arith, length-flat A) in
    let ln : length ((flat P ++ flat A) ++ flat N) ≡ 192 = length-append (flat P ++ flat A) (flat N) ∙ omega (arith, length-flat N, length-marks d.table.present) in
    let lw : length (((flat P ++ flat A) ++ flat N) ++ flat W) ≡ 304 =
    length-append ((flat P ++ flat A) ++ flat N) (flat W) ∙ omega (arith, length-flat W, length-listed (λ j. le 8 d.table.parameters (8 * j)) 0 14) in
    let parts : flat ((P ++ A) ++ ((N ++ W) ++ B)) ≡ (flat P ++ flat A) ++ ((flat N ++ flat W) ++ flat B) =
    rw (each_append (le_bytes 8) (P ++ A) ((N ++ W) ++ B), each_append (le_bytes 8) P A, each_append (le_bytes 8) (N ++ W) B, each_append (le_bytes 8) N W) in
    ap (λ (x : List ℕ). sets (sets (sets x (at + 128) (flat N)) (at + 192) (flat W)) (at + 304) (flat B)) (sets-next s at 64 (flat P) (flat A) lp)
    ∙ ap (λ (x : List ℕ). sets (sets x (at + 192) (flat W)) (at + 304) (flat B)) (sets-next s at 128 (flat P ++ flat A) (flat N) la)
    ∙ ap (λ (x : List ℕ). sets x (at + 304) (flat B)) (sets-next s at 192 ((flat P ++ flat A) ++ flat N) (flat W) ln)
    ∙ sets-next s at 304 (((flat P ++ flat A) ++ flat N) ++ flat W) (flat B) lw
    ∙ ap (sets s at) (ap (λ (x : List ℕ). x ++ flat B) (append_assoc (flat P ++ flat A) (flat N) (flat W)) ∙ append_assoc (flat P ++ flat A) (flat N ++ flat W) (flat B) ∙ sym parts)

pub laid_out : (s : List ℕ) (d : Desk) → length s ≡ desk_size → length d.rows ≡ 8 → length d.table.drives ≡ 8
    → length d.placed ≡ 8 → length d.addresses ≡ 8 → length d.table.present ≡ 8 → length d.table.counts ≡ 8
    → sets (sets (sets (sets s (row_at 0) (flat (rows_words d.rows))) (slot_at 0) (flat (slots_words d.table.drives))) (tail_at 0) (flat (tail_words d)))
    (mark_at 0) (flat (places_words d ++ (parameters_words d.table ++ bads_words d.table)))
    ≡ image d
unfolding image desk_words
laid_out s d n r t p a q c =
    let R = rows_words d.rows in
    let D = slots_words d.table.drives in
    let T = tail_words d in
    let Q = parameters_words d.table in
    let B = bads_words d.table in
    let M = places_words d ++ (Q ++ B) in
    let lr : length (flat R) ≡ slot_at 0 = length-flat R ∙ omega (arith, length_rows d.rows r) in
    let ld : length (flat R ++ flat D) ≡ tail_at 0 = length-append (flat R) (flat D) ∙ omega (arith, length-flat D, length_slots d.table.drives t) in
    let lt : length ((flat R ++ flat D) ++ flat T) ≡ mark_at 0 = length-append (flat R ++ flat D) (flat T) ∙ omega (arith, length-flat T) in
    let lm : length M ≡ 174 =
    length-append (places_words d) (Q ++ B) ∙ omega (arith, length-append Q B, length-places d p a, length-parameters d.table q, length_bads d.table c) in
    let l : length (((flat R ++ flat D) ++ flat T) ++ flat M) ≡ length s = length-append ((flat R ++ flat D) ++ flat T) (flat M) ∙ omega (arith, length-flat M) in
    ap (λ (x : List ℕ). sets (sets x (tail_at 0) (flat T)) (mark_at 0) (flat M)) (sets-next s 0 (slot_at 0) (flat R) (flat D) lr)
    ∙ ap (λ (x : List ℕ). sets x (mark_at 0) (flat M)) (sets-next s 0 (tail_at 0) (flat R ++ flat D) (flat T) ld)
    ∙ sets-next s 0 (mark_at 0) ((flat R ++ flat D) ++ flat T) (flat M) lt
    ∙ sets-whole s (((flat R ++ flat D) ++ flat T) ++ flat M) (sym l)
    ∙ append_assoc (flat R ++ flat D) (flat T) (flat M)
    ∙ append_assoc (flat R) (flat D) (flat T ++ flat M)
    ∙ sym (rw (each_append (le_bytes 8) R (D ++ (T ++ M)), each_append (le_bytes 8) D (T ++ M), each_append (le_bytes 8) T M))
