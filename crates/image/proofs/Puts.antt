-- A row's words, the pointer's word or a guest's mark and address set in an image: the image of the desk with that row, pointer or placement.
-- Assumes nothing.
use Prim.Native.Nat.{ℕ, zero, suc, ◌+◌, ◌*◌, ◌<◌}
use native.Mathlib.Nat.{zero-add, add-suc, suc-add, mul-zero, mul-suc}
use native.Mathlib.Omega.{arith}
use mathlib.Core.Path.{◌≡◌, refl, sym, ◌∙◌, ap, subst}
use mathlib.Core.Bool.{Bool, true}
use mathlib.Core.List.{List, [], ◌∷◌, ◌++◌, append_assoc}
use lib.ListN.{length, set, length-append, length-set}
use lib.Seq.{sets, drop_at}
use borrow.Author.Tests.{eq-eqb}
use Rattle.logic.specs.Logic.{pick}
use Rattle.words.specs.Words.{le_bytes}
use Rattle.words.proofs.WordsLaws.{length-le_bytes, sets_front}
use Rattle.table.specs.declared.Table.{Table}
use Rattle.desk.specs.declared.Stage.{Stage}
use Rattle.desk.specs.declared.Row.{Row}
use Rattle.desk.specs.declared.Desk.{Desk}
use Rattle.desk.specs.Parts.{with_stage, with_pointer, with_placement}
use Rattle.image.specs.Image.{each, flat, stage_words, row_words, rows_words, slots_words, tail_words, marks_words, places_words, parameters_words, bads_words, desk_words, image, row_at, tail_at, mark_at, address_at, pointer_at, desk_size, read_desk, desk_of, accepted, laid, put_stage, put_pointer, put_placement}
use Rattle.image.proofs.Fill.{each_append, each_one, length-each, length-flat, length_row, length_rows, length_slots}
use Rattle.image.proofs.ImageLaws.{accepted-read}

-- ---- stores behind the first of two lists

set_past : (a s : List ℕ) (i x : ℕ) → set (a ++ s) (length a + i) x ≡ a ++ set s i x
set_past [] s i x = rw zero-add
set_past (y ∷ a) s i x = rw suc-add (ap (λ (l : List ℕ). y ∷ l) (set_past a s i x))

sets-past : (a s : List ℕ) (i : ℕ) (v : List ℕ) → sets (a ++ s) (length a + i) v ≡ a ++ sets s i v
sets-past a s i [] = refl
sets-past a s i (x ∷ v) = rw (set_past a s i x, ← add-suc) (sets-past a (set s i x) (suc i) v)

sets_behind : (a s : List ℕ) (n i : ℕ) (v : List ℕ) → length a ≡ n → sets (a ++ s) (n + i) v ≡ a ++ sets s i v
sets_behind a s n i v e = subst (λ (m : ℕ). sets (a ++ s) (m + i) v ≡ a ++ sets s i v) e (sets-past a s i v)

-- ---- one member of a list that is put together

module _ {A : Type 0} (f : A → List ℕ) (n : ℕ) (wide : (x : A) → length (f x) ≡ n) where
  set-each : (xs : List A) (t : List ℕ) (k : ℕ) (x : A) → k < length xs → sets (each f xs ++ t) (n * k) (f x) ≡ each f (set xs k x) ++ t
  unfolding each
  set-each [] t k x h = absurd (omega arith)
  set-each (y ∷ xs) t zero x h =
      rw (mul-zero, append_assoc (f y) (each f xs) t, append_assoc (f x) (each f xs) t) (
      sets_front (f y ++ (each f xs ++ t)) (f x) (rw (length-append, wide x, wide y) (omega arith))
      ∙ ap (λ (l : List ℕ). f x ++ l) (drop_at (f y) (each f xs ++ t) (length (f x)) (wide y ∙ sym (wide x))))
  set-each (y ∷ xs) t (suc k) x h =
      let z : n * suc k ≡ n + n * k = rw (mul-suc n k) (omega arith) in
      rw (z, append_assoc (f y) (each f xs) t, append_assoc (f y) (each f (set xs k x)) t) (
      sets_behind (f y) (each f xs ++ t) n (n * k) (f x) (wide y)
      ∙ ap (λ (l : List ℕ). f y ++ l) (set-each xs t k x (omega arith)))

-- the bytes of members' words, member by member
flat-each : {A : Type 0} (f : A → List ℕ) (xs : List A) → flat (each f xs) ≡ each (λ x. flat (f x)) xs
unfolding each
flat-each f [] = refl
flat-each f (x ∷ xs) = rw (each_append (le_bytes 8) (f x) (each f xs), flat-each f xs)

-- ---- an image with one row, the pointer or a placement set

row_bytes : Row → List ℕ
row_bytes r = flat (row_words r)

length_row_bytes : (r : Row) → length (row_bytes r) ≡ row_at 1
unfolding row_bytes
length_row_bytes r = length-flat (row_words r) ∙ ap (λ (m : ℕ). 8 * m) (length_row r)

-- what stands behind the placements
unplaced : Table → List ℕ
unplaced b = parameters_words b ++ bads_words b

-- what stands behind the rows
behind : Desk → List ℕ
behind d = slots_words d.table.drives ++ (tail_words d ++ (places_words d ++ unplaced d.table))

image_rows : (d : Desk) → image d ≡ each row_bytes d.rows ++ flat (behind d)
unfolding image desk_words row_bytes behind unplaced
image_rows d =
    each_append (le_bytes 8) (rows_words d.rows) (behind d)
    ∙ ap (λ (l : List ℕ). l ++ flat (behind d)) (flat-each row_words d.rows)

pub image_stage : (d : Desk) (g : ℕ) (s : Stage) → g < length d.rows → put_stage (image d) g s ≡ image (with_stage d g s)
unfolding put_stage row_bytes behind
image_stage d g s h =
    ap (λ (l : List ℕ). sets l (row_at g) (flat (stage_words s))) (image_rows d)
    ∙ set-each row_bytes (row_at 1) length_row_bytes d.rows _ g (record { stage = s }) h
    ∙ sym (image_rows (with_stage d g s))

-- what stands before the last words, and behind them
front : Desk → List ℕ
front d = flat (rows_words d.rows ++ slots_words d.table.drives)

more : Desk → List ℕ
more d = flat (places_words d ++ unplaced d.table)

image_front : (d : Desk) → image d ≡ front d ++ (flat (tail_words d) ++ more d)
unfolding image desk_words front more unplaced
image_front d =
    let M = places_words d ++ unplaced d.table in
    ap flat (sym (append_assoc (rows_words d.rows) (slots_words d.table.drives) (tail_words d ++ M)))
    ∙ each_append (le_bytes 8) (rows_words d.rows ++ slots_words d.table.drives) (tail_words d ++ M)
    ∙ ap (λ (l : List ℕ). front d ++ l) (each_append (le_bytes 8) (tail_words d) M)

length_front : (d : Desk) → length d.rows ≡ 8 → length d.table.drives ≡ 8 → length (front d) ≡ tail_at 0
unfolding front
length_front d r t =
    length-flat (rows_words d.rows ++ slots_words d.table.drives)
    ∙ omega (arith, length-append (rows_words d.rows) (slots_words d.table.drives), length_rows d.rows r, length_slots d.table.drives t)

pub image-pointer : (d : Desk) (p : ℕ) → length d.rows ≡ 8 → length d.table.drives ≡ 8 → put_pointer (image d) p ≡ image (with_pointer d p)
unfolding put_pointer front more
image-pointer d p r t =
    ap (λ (b : List ℕ). sets b pointer_at (le_bytes 8 p)) (image_front d)
    ∙ sets_behind (front d) (flat (tail_words d) ++ more d) (tail_at 0) (8 * 1) (le_bytes 8 p) (length_front d r t)
    ∙ ap (λ (b : List ℕ). front d ++ b) (set-each (le_bytes 8) 8 (length-le_bytes 8) (tail_words d) (more d) 1 p (omega arith))
    ∙ sym (image_front (with_pointer d p))

-- a guest's mark and address: what stands before the marks, and behind the addresses
before : Desk → List ℕ
before d = front d ++ flat (tail_words d)

mark_bytes : Bool → List ℕ
mark_bytes x = flat (pick x 1 0 ∷ [])

length_mark_bytes : (x : Bool) → length (mark_bytes x) ≡ 8
unfolding mark_bytes
length_mark_bytes x = length-flat (pick x 1 0 ∷ [])

one_mark : le_bytes 8 1 ≡ mark_bytes true
unfolding mark_bytes
one_mark = sym (each_one (le_bytes 8) 1)

image-places : (d : Desk) → image d ≡ before d ++ (each mark_bytes d.placed ++ (flat d.addresses ++ flat (unplaced d.table)))
unfolding before more mark_bytes
image-places d =
    let M = marks_words d.placed in
    let A = d.addresses in
    let Q = unplaced d.table in
    let e : more d ≡ each mark_bytes d.placed ++ (flat A ++ flat Q) =
    each_append (le_bytes 8) (M ++ A) Q
    ∙ ap (λ (l : List ℕ). l ++ flat Q) (each_append (le_bytes 8) M A)
    ∙ append_assoc (flat M) (flat A) (flat Q)
    ∙ ap (λ (l : List ℕ). l ++ (flat A ++ flat Q)) (flat-each (λ x. pick x 1 0 ∷ []) d.placed) in
    image_front d ∙ sym (append_assoc (front d) (flat (tail_words d)) (more d)) ∙ ap (λ (l : List ℕ). before d ++ l) e

pub image-placement : (d : Desk) (g address : ℕ) → length d.rows ≡ 8 → length d.table.drives ≡ 8 → length d.placed ≡ 8 → length d.addresses ≡ 8 → g < 8
    → put_placement (image d) g address ≡ image (with_placement d g address)
unfolding put_placement before front
image-placement d g address r t p a h =
    let Q = flat (unplaced d.table) in
    let M = each mark_bytes (set d.placed g true) in
    let lb : length (before d) ≡ mark_at 0 = length-append (front d) (flat (tail_words d)) ∙ omega (arith, length_front d r t, length-flat (tail_words d)) in
    let lm : length (before d ++ M) ≡ address_at 0 = length-append (before d) M ∙ omega (arith, lb, length-each mark_bytes 8 length_mark_bytes (set d.placed g true), length-set d.placed g true) in
    let first : sets (image d) (mark_at g) (le_bytes 8 1) ≡ before d ++ (M ++ (flat d.addresses ++ Q)) =
    ap (λ (b : List ℕ). sets b (mark_at g) (le_bytes 8 1)) (image-places d)
    ∙ sets_behind (before d) _ (mark_at 0) (8 * g) (le_bytes 8 1) lb
    ∙ ap (λ (b : List ℕ). before d ++ b) (ap (sets _ (8 * g)) one_mark ∙ set-each mark_bytes 8 length_mark_bytes d.placed _ g true (omega arith)) in
    ap (λ (b : List ℕ). sets b (address_at g) (le_bytes 8 address)) (first ∙ sym (append_assoc (before d) M (flat d.addresses ++ Q)))
    ∙ sets_behind (before d ++ M) _ (address_at 0) (8 * g) (le_bytes 8 address) lm
    ∙ ap (λ (b : List ℕ). (before d ++ M) ++ b) (set-each (le_bytes 8) 8 (length-le_bytes 8) d.addresses Q g address (omega arith))
    ∙ append_assoc (before d) M (flat (set d.addresses g address) ++ Q)
    ∙ sym (image-places (with_placement d g address))

-- ---- an accepted block

rows_eight : (b : List ℕ) → length (read_desk b).rows ≡ 8
unfolding read_desk
rows_eight b = refl

slots_eight : (b : List ℕ) → length (read_desk b).table.drives ≡ 8
unfolding read_desk
slots_eight b = refl

placed-eight : (b : List ℕ) → length (read_desk b).placed ≡ 8
unfolding read_desk
placed-eight b = refl

addresses-eight : (b : List ℕ) → length (read_desk b).addresses ≡ 8
unfolding read_desk
addresses-eight b = refl

-- the block that a call leaves, which writes a row, a row and the pointer, or a placement, is the block of the desk that it leaves
module _ (b : List ℕ) (a : accepted b ≡ true) where
  laid-accepted : (d : Desk) → laid b d ≡ image d
  unfolding laid
  laid-accepted d = rw (eq-eqb (length b) desk_size (accepted-read b a).size)

  pub put-stage : (g : ℕ) (s : Stage) → g < 8 → put_stage b g s ≡ laid b (with_stage (desk_of b) g s)
  put-stage g s h =
      let w = accepted-read b a in
      ap (λ (x : List ℕ). put_stage x g s) (sym w.image)
      ∙ image_stage (read_desk b) g s (eight_rows h)
      ∙ ap (λ (d : Desk). image (with_stage d g s)) (sym w.desk)
      ∙ sym (laid-accepted (with_stage (desk_of b) g s))
    where
      eight_rows : g < 8 → g < length (read_desk b).rows
      eight_rows l = rw (rows_eight b) l

  pub put_both : (g : ℕ) (s : Stage) (p : ℕ) → g < 8 → put_pointer (put_stage b g s) p ≡ laid b (with_pointer (with_stage (desk_of b) g s) p)
  put_both g s p h =
      let w = accepted-read b a in
      ap (λ (x : List ℕ). put_pointer x p) (put-stage g s h ∙ laid-accepted (with_stage (desk_of b) g s) ∙ ap (λ (d : Desk). image (with_stage d g s)) w.desk)
      ∙ image-pointer (with_stage (read_desk b) g s) p (length-set (read_desk b).rows g _ ∙ rows_eight b) (slots_eight b)
      ∙ ap (λ (d : Desk). image (with_pointer (with_stage d g s) p)) (sym w.desk)
      ∙ sym (laid-accepted (with_pointer (with_stage (desk_of b) g s) p))

  pub put-placement : (g address : ℕ) → g < 8 → put_placement b g address ≡ laid b (with_placement (desk_of b) g address)
  put-placement g address h =
      let w = accepted-read b a in
      ap (λ (x : List ℕ). put_placement x g address) (sym w.image)
      ∙ image-placement (read_desk b) g address (rows_eight b) (slots_eight b) (placed-eight b) (addresses-eight b) h
      ∙ ap (λ (d : Desk). image (with_placement d g address)) (sym w.desk)
      ∙ sym (laid-accepted (with_placement (desk_of b) g address))
