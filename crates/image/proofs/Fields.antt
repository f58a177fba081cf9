-- What stands at a place of a block, as a field of the desk that the block says.
-- Assumes nothing.
use Prim.Native.Nat.{ℕ, zero, suc, ◌+◌, ◌-◌, ◌*◌, ◌/◌, ◌%◌, ◌≤◌, ◌<◌, min}
use native.Mathlib.Nat.{add-zero, zero-add}
use native.Mathlib.Numerals.{add-one}
use native.Mathlib.Omega.{arith}
use mathlib.Core.Path.{◌≡◌, refl, sym, ◌∙◌, ap, subst}
use mathlib.Core.Logic.{inl, inr}
use mathlib.Core.Bool.{Bool, true, false}
use mathlib.Core.List.{List, [], ◌∷◌}
use denote.Param.Members.{Mut, Called}
use Rattle.std.specs.Array.{IsFromFnResult, IsFromFnResultFrom}
use lib.ListN.{length, take, drop, get_or, length-take}
use lib.Seq.{ext_get_or, get_or-take, get_or-drop, take-take, drop-drop}
use lib.Dec.{leb, ltb, eqb}
use Rattle.logic.specs.Logic.{pick, both}
use Rattle.logic.proofs.LogicLaws.{impossible, both_true, all_ext, lt_or_le}
use Rattle.words.specs.Words.{le, part}
use Rattle.drive.specs.declared.Drive.{Drive}
use Rattle.attached.specs.declared.Bads.{Bads}
use Rattle.attached.specs.Bad.{bads_ok}
use Rattle.table.specs.declared.Table.{Table}
use Rattle.table.specs.Table.{no_drive, has_parameters, attached_at, bads_at, listed_at, parameters_to}
use Rattle.int13.specs.declared.Placement.{Placement}
use Rattle.std.specs.Prelude.{Some}
use Rattle.int13.specs.Placement.{not_shown}
use Rattle.int13.specs.Steps.{first_drive, drive_count, is_drive, shown_of}
use Rattle.int13.proofs.StepsLaws.{is_drive_true}
use Rattle.desk.specs.declared.Stage.TheVariants.{Vacant, Waiting, Finished}
use Rattle.desk.specs.declared.Row.{Row}
use Rattle.desk.specs.Parts.{vacant_row, stage_in, stage_at, is_waiting, placement_at}
use Rattle.image.specs.Image.{each, listed, marks_words, row_at, slot_at, mark_at, address_at, present_at, bytes_at, bads_count_at, bads_list_at, count_at, request_place, finished_place, registers_at, request_at, read_stage, read_row, read_drive, read_marks, read_addresses, read_counts, read_desk}
use Rattle.image.specs.Judged.{zero_bytes}

pub listed-at : {A : Type 0} (f : ℕ → A) (i n k : ℕ) (e : A) → k < n → get_or (listed f i n) k e ≡ f (i + k)
listed-at f i zero k e h = absurd (omega arith)
listed-at f i (suc n) zero e h = rw add-zero
listed-at f i (suc n) (suc k) e h =
    let z : suc i + k ≡ i + suc k = omega arith in
    listed-at f (suc i) n k e (omega arith) ∙ ap f z

pub length-listed : {A : Type 0} (f : ℕ → A) (i n : ℕ) → length (listed f i n) ≡ n
length-listed f i zero = refl
length-listed f i (suc n) = ap suc (length-listed f (suc i) n)

-- a list that is read member by member
pub listed-is : {A : Type 0} (f : ℕ → A) (l : List A) (n : ℕ) (e : A) → length l ≡ n → ((k : ℕ) → k < n → f k ≡ get_or l k e) → listed f 0 n ≡ l
listed-is f l n e m h =
    ext_get_or e (listed f 0 n) l (length-listed f 0 n ∙ sym m) (λ k q.
    let r : k < n = omega (arith, length-listed f 0 n) in
    listed-at f 0 n k e r ∙ ap f (zero-add k) ∙ h k r)

-- an array that is made of the answers of a closure that changes nothing
module _ {F A : Type 0} {g : Mut F (ℕ × Unit {0}) A} {f : F} {n : ℕ} (v : ℕ → A) (e : A) (h : (k : ℕ) (x : A) (q : F) → k < n → Called g f (k, tt) x q → (x ≡ v k) × (q ≡ f)) where
  made_at : (l : List A) (m i : ℕ) (p : F) → p ≡ f → i + m ≤ n → IsFromFnResultFrom g p l i m → (k : ℕ) → i ≤ k → k < i + m → get_or l k e ≡ v k
  made_at l zero i p z b r k a c = absurd (omega arith)
  made_at l (suc m) i p z b (q, y, el, c, r) k a d =
      let w = h i y q (omega arith) (subst (λ (u : F). Called g u (i, tt) y q) z c) in
      elim (lt_or_le i k) [
        | inl t ↦ made_at l m (i + 1) q w.1 (omega arith) r k (omega arith) (omega arith)
        | inr t ↦ let same : i ≡ k = omega arith in subst (λ (u : ℕ). get_or l u e ≡ v u) same (el.1 e ∙ w.0)
      ]

  pub made-is : {l : List A} → IsFromFnResult g f l n → l ≡ listed v 0 n
  made-is {l} m = sym (listed-is v l n e m.long (λ k q. sym (made_at l n 0 f refl (omega arith) m.each k (omega arith) (omega arith))))

-- one word for each mark
mark_words : (marks : List Bool) (k : ℕ) → k < length marks → get_or (marks_words marks) k 0 ≡ pick (get_or marks k false) 1 0
unfolding each
mark_words [] k h = absurd (omega arith)
mark_words (x ∷ marks) zero h = refl
mark_words (x ∷ marks) (suc k) h = mark_words marks k (omega arith)

pub length-marks : (marks : List Bool) → length (marks_words marks) ≡ length marks
unfolding each
length-marks [] = refl
length-marks (x ∷ marks) = ap suc (length-marks marks)

pub marks-listed : (marks : List Bool) (n : ℕ) → length marks ≡ n → listed (λ k. pick (get_or marks k false) 1 0) 0 n ≡ marks_words marks
marks-listed marks n e = listed-is (λ k. pick (get_or marks k false) 1 0) (marks_words marks) n 0 (length-marks marks ∙ e) (λ k l. sym (mark_words marks k (omega arith)))

-- a guest's row
pub row_of : (b : List ℕ) (g : ℕ) → g < 8 → stage_at (read_desk b) g ≡ read_stage b (row_at g)
unfolding read_desk
row_of b g h = ap (λ (r : Row). r.stage) (listed-at (λ k. read_row b (row_at k)) 0 8 g vacant_row h) ∙ ap (λ (k : ℕ). read_stage b (row_at k)) (zero-add g)

-- a slot of the table
pub slot_of : (b : List ℕ) (i : ℕ) → i < 8 → get_or (read_desk b).table.drives i no_drive ≡ read_drive b (slot_at i)
unfolding read_desk
slot_of b i h = listed-at (λ k. read_drive b (slot_at k)) 0 8 i no_drive h ∙ ap (λ (k : ℕ). read_drive b (slot_at k)) (zero-add i)

-- a mark
mark_of : (b : List ℕ) (at k : ℕ) → k < 8 → get_or (read_marks b at) k false ≡ eqb (get_or b (at + 8 * k) 0) 1
mark_of b at k h =
    listed-at (λ i. eqb (get_or b (at + 8 * i) 0) 1) 0 8 k false h ∙ ap (λ (i : ℕ). eqb (get_or b (at + 8 * i) 0) 1) (zero-add k)

-- a guest's address
pub address-of : (b : List ℕ) (g : ℕ) → g < 8 → get_or (read_addresses b) g 0 ≡ le 8 b (address_at g)
address-of b g h = listed-at (λ k. le 8 b (address_at k)) 0 8 g 0 h ∙ ap (λ (k : ℕ). le 8 b (address_at k)) (zero-add g)

-- a guest's placement
pub placement-at : {p : Placement} (b : List ℕ) (g : ℕ) → g < 8 → p.placed ≡ eqb (get_or b (mark_at g) 0) 1 → p.address ≡ le 8 b (address_at g) → p ≡ placement_at (read_desk b) g
unfolding read_desk
placement-at b g h e f =
    let m = e ∙ sym (mark_of b (mark_at 0) g h) in
    let a = f ∙ sym (address-of b g h) in
    λ i. record { placed = m i; address = a i }

-- a slot has parameters by its mark
pub present-of : (b : List ℕ) (i : ℕ) → i < 8 → has_parameters (read_desk b).table i ≡ eqb (get_or b (present_at i) 0) 1
unfolding read_desk
present-of b i h = mark_of b (present_at 0) i h

-- and its bytes stand at their place
byte_of : (b : List ℕ) (i j : ℕ) → i < 8 → j < 14 → get_or (read_desk b).table.parameters (14 * i + j) 0 ≡ get_or b (bytes_at i + j) 0
unfolding read_desk
byte_of b i j h l =
    let z : bytes_at 0 + (14 * i + j) ≡ bytes_at i + j = omega arith in
    get_or-take 112 (drop (bytes_at 0) b) (14 * i + j) 0 (omega arith) ∙ get_or-drop (bytes_at 0) b (14 * i + j) 0 ∙ ap (λ (k : ℕ). get_or b k 0) z

pub attached_of : (b : List ℕ) (i : ℕ) → i < 8
    → attached_at (read_desk b).table i ≡ pick (eqb (get_or b (present_at i) 0) 1) (ltb i (le 8 b count_at)) (zero_bytes 14 b (bytes_at i))
unfolding read_desk zero_bytes
attached_of b i h =
    rw (present-of b i h)
    (ap (λ (t : Bool). pick (eqb (get_or b (present_at i) 0) 1) (ltb i (le 8 b count_at)) t)
    (all_ext 14 _ (λ j. eqb (get_or b (bytes_at i + j) 0) 0) (λ j l. ap (λ (x : ℕ). eqb x 0) (byte_of b i j h l))))

-- a part of a part
part-part : (k n i : ℕ) (s : List ℕ) → i + k ≤ n → take k (drop i (take n s)) ≡ take k (drop i s)
part-part k n zero s h = take-take k n s (omega arith)
part-part k zero (suc i) s h = absurd (omega arith)
part-part k (suc n) (suc i) [] h = refl
part-part k (suc n) (suc i) (x ∷ s) h = part-part k n i s (omega arith)

-- a slot's count of bad blocks
pub bads_count_of : (b : List ℕ) (i : ℕ) → i < 8 → get_or (read_counts b) i 0 ≡ get_or b (bads_count_at i) 0
bads_count_of b i h = listed-at (λ k. get_or b (bads_count_at k) 0) 0 8 i 0 h ∙ ap (λ (k : ℕ). get_or b (bads_count_at k) 0) (zero-add i)

-- a slot's bad blocks: its count, and its list as it stands at its place
pub bads-at : {l : Bads} (b : List ℕ) (i : ℕ) → i < 8 → l.count ≡ get_or b (bads_count_at i) 0 → l.list ≡ part 128 b (bads_list_at i) → l ≡ bads_at (read_desk b).table i
unfolding read_desk
bads-at b i h e f =
    let n = e ∙ sym (bads_count_of b i h) in
    let m = f ∙ sym (part-part 128 1024 (128 * i) (drop (bads_list_at 0) b) (omega arith) ∙ ap (take 128) (drop-drop (128 * i) (bads_list_at 0) b)) in
    λ j. record { count = n j; list = m j }

-- the blocks of a slot's drive
blocks_of : (b : List ℕ) (i : ℕ) → i < 8 → (get_or (read_desk b).table.drives i no_drive).blocks ≡ le 8 b (slot_at i + 24)
unfolding read_drive
blocks_of b i h = ap (λ (d : Drive). d.blocks) (slot_of b i h)

-- a slot has bad blocks of its drive only, from what the code read
pub listed_of : {l : Bads} {blocks : ℕ} {r : Bool} (b : List ℕ) (i : ℕ) → i < 8 → l ≡ bads_at (read_desk b).table i → blocks ≡ le 8 b (slot_at i + 24) → r ≡ bads_ok l blocks
    → r ≡ listed_at (read_desk b).table i
listed_of b i h e f g = rw (blocks_of b i h, ← e, ← f) g

-- one slot more
pub count-more : {r : ℕ} (b : List ℕ) (n : ℕ) → n < 8 → r ≡ parameters_to n (read_desk b).table + pick (eqb (get_or b (present_at n) 0) 1) 1 0 → r ≡ parameters_to (n + 1) (read_desk b).table
unfolding parameters_to
count-more b n h e = rw (add-one, present-of b n h) e

-- what a guest is shown: nothing without a placement, of a number that is no drive's, or of a drive without parameters; else a segment
module _ (b : Table) (n : ℕ) {p q : Placement} {k r : Bool} (e : p ≡ q) (a : k ≡ is_drive b n) (c : r ≡ both p.placed k) where
  pub shown-none : r ≡ false → not_shown ≡ shown_of b q n
  unfolding shown_of
  shown-none z = go p.placed k refl a (sym c ∙ z) ∙ ap (λ (x : Placement). shown_of b x n) e
    where
      go : (x y : Bool) → p.placed ≡ x → y ≡ is_drive b n → both x y ≡ false → not_shown ≡ shown_of b p n
      go true true i j f = impossible (cc)
      go false true i j f = rw (← j, i)
      go x false i j f = rw (← j)

  module _ (z : r ≡ true) {m : Bool} (h : m ≡ has_parameters b (n - first_drive)) where
    pub shown-bare : m ≡ false → not_shown ≡ shown_of b q n
    unfolding shown_of
    shown-bare f =
        let w = both_true p.placed k (sym c ∙ z) in
        let none : not_shown ≡ shown_of b p n = rw (sym a ∙ w.1, w.0, sym h ∙ f) in
        none ∙ ap (λ (x : Placement). shown_of b x n) e

    pub shown-table : {s before : ℕ} → m ≡ true → before ≡ parameters_to (n - first_drive) b
        → s ≡ (p.address + 16 * before) / 16 % 65536 → Some s ≡ shown_of b q n
    unfolding shown_of
    shown-table {s} f t d =
        let w = both_true p.placed k (sym c ∙ z) in
        let shown : Some s ≡ shown_of b p n = rw (sym a ∙ w.1, w.0, sym h ∙ f, ← t) (ap (λ (x : ℕ). Some x) d) in
        shown ∙ ap (λ (x : Placement). shown_of b x n) e

-- a row waits by its number
waiting_number : (b : List ℕ) (i : ℕ) → is_waiting (read_stage b i) ≡ eqb (get_or b i 0) 1
unfolding read_stage
waiting_number b i = go (eqb (get_or b i 0) 1) (eqb (get_or b i 0) 2)
  where
    go : (p q : Bool) → is_waiting (pick p (Waiting (request_at b (request_place i))) (pick q (Finished (registers_at b (finished_place i))) Vacant)) ≡ p
    go true q = refl
    go false true = refl
    go false false = refl

pub waiting_of : (b : List ℕ) (g : ℕ) → g < 8 → is_waiting (stage_in (read_desk b).rows g) ≡ eqb (get_or b (row_at g) 0) 1
waiting_of b g h = ap is_waiting (row_of b g h) ∙ waiting_number b (row_at g)

-- the number of drives
pub count_of : (b : List ℕ) → drive_count (read_desk b).table ≡ min (le 8 b count_at) 8
unfolding read_desk
count_of b = length-take (le 8 b count_at) (read_desk b).table.drives

-- a number between the first drive's and the end of the table
pub known : (b : List ℕ) (n c : ℕ) (t : Bool) → c ≡ drive_count (read_desk b).table → t ≡ both (leb first_drive n) (ltb n (first_drive + c)) → t ≡ is_drive (read_desk b).table n
unfolding is_drive
known b n c t e f = rw (← e) f

-- a known drive's number is that of one of the eight slots
pub slot_known : (b : List ℕ) (n : ℕ) → is_drive (read_desk b).table n ≡ true → (first_drive ≤ n) × (n < first_drive + 8)
slot_known b n e = let p = is_drive_true (read_desk b).table n e in (p.0, omega (arith, p.1, count_of b))
