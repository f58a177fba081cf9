-- A block that is judged on its words is accepted exactly when it is accepted as the desk that it says.
-- Assumes nothing.
use Prim.Native.Nat.{ℕ, zero, suc, ◌+◌, ◌-◌, ◌*◌, ◌/◌, ◌%◌, ◌^◌, ◌≤◌, ◌<◌}
use native.Mathlib.Nat.{add-zero, zero-add, add_assoc, mul-zero, mul-suc, one-le-pow}
use native.Mathlib.Numerals.{add-one}
use native.Mathlib.Omega.{arith}
use mathlib.Core.Path.{◌≡◌, refl, sym, ◌∙◌, ap, subst}
use mathlib.Core.Logic.{◌⊎◌, inl, inr, ⊎_elim}
use mathlib.Core.Bool.{Bool, true, false, not}
use mathlib.Core.List.{List, [], ◌∷◌, ◌++◌}
use lib.ListN.{length, drop, get_or, replicate, length-append, length-drop, length-replicate, get_or-replicate, take-append-drop, drop_of_length-le, get_or-append}
use lib.Seq.{length-take-le, drop-drop, get_or-append-add, get_or-take, get_or-drop, ext_get_or}
use lib.Dec.{leb, ltb, eqb}
use borrow.Author.Tests.{eq-eqb, ne_eqb, eqb-true, eqb-false, lt-ltb, le-ltb, ltb-true, le-leb, lt-leb, leb-true}
use Rattle.logic.specs.Logic.{pick, both, either, all_below}
use Rattle.logic.proofs.LogicLaws.{both_true, both_intro, both_assoc, both_comm, both_left, both_false, both_itself, pick-both, either-both, not-either, true_iff, lt_or_le, all_intro, all_at, all_ext, all_fails, all-next, all_front, all-add, all_both, all_split}
use Rattle.words.specs.Words.{Bytes, le, le_bytes, part}
use Rattle.words.proofs.WordsLaws.{le_split, le_lt, le_ext, read-write, write_read, length-le_bytes}
use Rattle.drive.specs.declared.Drive.{Drive}
use Rattle.drive.specs.Drive.{same, fields_ok, in_store, overlap, is_blank, blank_numbers, blank_names, zero_tail}
use Rattle.drive.proofs.DriveLaws.{same_refl, same_true}
use Rattle.attached.specs.Bad.{no_bads}
use Rattle.attached.proofs.BadLaws.{bads_ok-no_bads}
use Rattle.table.specs.declared.Table.{Table}
use Rattle.table.specs.Table.{no_drive, zero_drive, refusal, overlaps_any, sound_to, blank_to, attached_to, listed_at, listed_to, is_sound}
use Rattle.table.proofs.TableLaws.{taken_is}
use Rattle.memory.specs.Window.{window_length}
use Rattle.memory.proofs.Sets.{length_part}
use Rattle.int13.specs.Placement.{no_placement, table_count}
use Rattle.int13.specs.Steps.{first_drive, is_drive, drive_at}
use Rattle.desk.specs.declared.Request.{Request}
use Rattle.desk.specs.declared.Stage.TheVariants.{Vacant, Waiting, Finished}
use Rattle.desk.specs.declared.Row.{Row}
use Rattle.desk.specs.Parts.{stage_in}
use Rattle.int13.specs.Answers.{register_numbers}
use Rattle.desk.specs.Acceptable.{request_ok, stage_ok, rows_ok, placement_ok, placements_ok, accept}
use Rattle.desk.specs.Calls.{closed}
use Rattle.desk.proofs.AcceptableLaws.{closed-refused}
use Rattle.image.specs.Image.{each, flat, listed, request_words, stage_words, row_words, rows_words, drive_words, slots_words, tail_words, marks_words, places_words, given_words, parameters_words, list_words, bads_words, desk_words, image, row_size, slot_size, row_at, slot_at, tail_at, mark_at, address_at, present_at, bytes_at, bads_count_at, bads_list_at, desk_size, count_at, pointer_at, arena_at, store_at, request_place, finished_place, registers_at, request_at, read_stage, read_row, read_drive, read_rows, read_slots, read_marks, read_addresses, read_counts, read_desk, is_image, desk_of, accepted, FitsDrive}
use Rattle.image.specs.Judged.{below, are_registers, is_request, is_slot, drive_good, drives_good, rest_zero, first_in, blocks_in, apart, alone_to, drives_apart, follows, ascending, waiting_good, finished_good, row_good, rows_good, zero_bytes, parameters_good, places_good, bads_good, more_good, table_good, judged}
use Rattle.image.proofs.Fill.{length_row, length-drive, length_rows, length_slots, length-places, length-parameters, length_bads}
use Rattle.image.proofs.ImageLaws.{Says, drive-read, drive-fits}
use Rattle.image.proofs.Fields.{listed-at, length-listed, length-marks, row_of, slot_of, placement-at, attached_of, bads_count_of, bads-at, listed_of}

-- ---- the eight bytes of a word

le_one : (s : List ℕ) (at : ℕ) → le 1 s at ≡ get_or s at 0
unfolding le
le_one s at = rw add-zero (omega arith)

module _ (b : List ℕ) (h : Bytes b) where
  le-part : (k i : ℕ) → le k (part k b i) 0 ≡ le k b i
  le-part k i = le_ext k (part k b i) b 0 i (λ m l. rw zero-add (get_or-take k (drop i b) m 0 l ∙ get_or-drop i b m 0))

  -- a word of more bytes is at least that of fewer, and the rest is a multiple
  low : (k i : ℕ) → k ≤ 8 → le 8 b i ≡ le k b i + 256 ^ k * le (8 - k) b (i + k)
  low k i l =
      let z : k + (8 - k) ≡ 8 = omega arith in
      subst (λ (n : ℕ). le n b i ≡ le k b i + 256 ^ k * le (8 - k) b (i + k)) z (le_split k (8 - k) b i)

  -- the bytes of a number that fits a word are those of a word exactly when the word is the number
  word_is : (i v : ℕ) → i + 8 ≤ length b → v < 256 ^ 8 → same (part 8 b i) (le_bytes 8 v) ≡ eqb (le 8 b i) v
  word_is i v l f =
      true_iff _ _
      (λ e. eq-eqb _ _ (sym (le-part 8 i) ∙ ap (λ (s : List ℕ). le 8 s 0) (same_true (part 8 b i) (le_bytes 8 v) e) ∙ read-write 8 v f))
      (λ e. ap (λ (s : List ℕ). same s (le_bytes 8 v)) (sym (write_read 8 b i h l) ∙ ap (le_bytes 8) (eqb-true (le 8 b i) v e)) ∙ same_refl (le_bytes 8 v))

  -- a field of k bytes laid out again gives the eight bytes exactly when the word is below 2 to its width
  field_is : (k i : ℕ) → k ≤ 8 → i + 8 ≤ length b → same (part 8 b i) (le_bytes 8 (le k b i)) ≡ ltb (le 8 b i) (256 ^ k)
  field_is k i l r =
      let e = low k i l in
      word_is i (le k b i) r (omega (arith, e, le_lt 8 b i h)) ∙ true_iff (eqb (le 8 b i) (le k b i)) (ltb (le 8 b i) (256 ^ k))
      (λ t. lt-ltb (le 8 b i) (256 ^ k) (rw (eqb-true (le 8 b i) (le k b i) t) (le_lt k b i h)))
      (λ t. eq-eqb (le 8 b i) (le k b i) (none (256 ^ k) (le k b i) (le 8 b i) (le (8 - k) b (i + k)) e (ltb-true (le 8 b i) (256 ^ k) t)))
    where
      none : (p a w x : ℕ) → w ≡ a + p * x → w < p → w ≡ a
      none p a w zero e l = omega (arith, e, mul-zero p)
      none p a w (suc x) e l = absurd (omega (arith, e, l, mul-suc p x))

  whole_is : (i : ℕ) → i + 8 ≤ length b → same (part 8 b i) (le_bytes 8 (le 8 b i)) ≡ true
  whole_is i r = ap (same (part 8 b i)) (write_read 8 b i h r) ∙ same_refl (part 8 b i)

  byte-is : (i : ℕ) → i + 8 ≤ length b → same (part 8 b i) (le_bytes 8 (get_or b i 0)) ≡ ltb (le 8 b i) 256
  byte-is i r = ap (λ (v : ℕ). same (part 8 b i) (le_bytes 8 v)) (sym (le_one b i)) ∙ field_is 1 i (omega arith) r

  name_is : (k i : ℕ) → k ≤ 8 → i + 8 ≤ length b → same (part 8 b i) (le_bytes 8 (le k (part k b i) 0)) ≡ ltb (le 8 b i) (256 ^ k)
  name_is k i l r = ap (λ (v : ℕ). same (part 8 b i) (le_bytes 8 v)) (le-part k i) ∙ field_is k i l r

  name_whole : (i : ℕ) → i + 8 ≤ length b → same (part 8 b i) (le_bytes 8 (le 8 (part 8 b i) 0)) ≡ true
  name_whole i r = ap (λ (v : ℕ). same (part 8 b i) (le_bytes 8 v)) (le-part 8 i) ∙ whole_is i r

  -- the low byte of a word
  low_byte : (i : ℕ) → le 8 b i ≡ get_or b i 0 + 256 * le 7 b (i + 1)
  low_byte i = rw le_one at (low 1 i (omega arith))

  bit_is : (i : ℕ) → i + 8 ≤ length b → same (part 8 b i) (le_bytes 8 (pick (eqb (get_or b i 0) 1) 1 0)) ≡ ltb (le 8 b i) 2
  bit_is i r = word_is i _ r (small (eqb (get_or b i 0) 1)) ∙ go (eqb (get_or b i 0) 1) refl
    where
      small : (t : Bool) → pick t 1 0 < 256 ^ 8
      small true = omega arith
      small false = omega arith

      go : (t : Bool) → eqb (get_or b i 0) 1 ≡ t → eqb (le 8 b i) (pick t 1 0) ≡ ltb (le 8 b i) 2
      go true e =
          let x : get_or b i 0 ≡ 1 = eqb-true (get_or b i 0) 1 e in
          true_iff _ _
          (λ t. lt-ltb (le 8 b i) 2 (omega (arith, eqb-true (le 8 b i) 1 t)))
          (λ t. eq-eqb (le 8 b i) 1 (omega (arith, low_byte i, ltb-true (le 8 b i) 2 t)))
      go false e =
          true_iff _ _
          (λ t. lt-ltb (le 8 b i) 2 (omega (arith, eqb-true (le 8 b i) 0 t)))
          (λ t. eq-eqb (le 8 b i) 0 (zeroed (get_or b i 0) (le 8 b i) (le 7 b (i + 1)) (low_byte i) (ltb-true (le 8 b i) 2 t) (eqb-false (get_or b i 0) 1 e)))
        where
          zeroed : (a w x : ℕ) → w ≡ a + 256 * x → w < 2 → (a ≡ 1 → ⊥) → w ≡ 0
          zeroed a w x e l n = omega (arith, e, l, n)

-- ---- words that a block has

-- from a place the bytes are those of the words ws
matches : List ℕ → ℕ → List ℕ → Bool
matches b i ws = all_below (length ws) (λ j. same (part 8 b (i + 8 * j)) (le_bytes 8 (get_or ws j 0)))

same-append : (a c s t : List ℕ) → length a ≡ length c → same (a ++ s) (c ++ t) ≡ both (same a c) (same s t)
unfolding same
same-append [] [] s t l = refl
same-append [] (y ∷ c) s t l = absurd (omega arith)
same-append (x ∷ a) [] s t l = absurd (omega arith)
same-append (x ∷ a) (y ∷ c) s t l =
    ap (λ (u : Bool). both (eqb x y) u) (same-append a c s t (omega arith)) ∙ sym (both_assoc (eqb x y) (same a c) (same s t))

module _ (b : List ℕ) where
  -- the bytes of words, compared word by word
  same-flat : (ws : List ℕ) (i : ℕ) → i + 8 * length ws ≡ length b → same (drop i b) (flat ws) ≡ matches b i ws
  unfolding same each matches
  same-flat [] i e = rw (drop_of_length-le b {i = i} (omega arith))
  same-flat (w ∷ ws) i e =
      let d : drop i b ≡ part 8 b i ++ drop (i + 8) b =
      sym (take-append-drop 8 (drop i b)) ∙ ap (λ (l : List ℕ). part 8 b i ++ l) (drop-drop 8 i b) in
      let l : length (part 8 b i) ≡ length (le_bytes 8 w) =
      length-take-le 8 (drop i b) (simp length-drop (omega arith)) ∙ sym (length-le_bytes 8 w) in
      ap (λ (x : List ℕ). same x (le_bytes 8 w ++ flat ws)) d
      ∙ same-append (part 8 b i) (le_bytes 8 w) (drop (i + 8) b) (flat ws) l
      ∙ ap (λ (t : Bool). both (same (part 8 b i) (le_bytes 8 w)) t) (same-flat ws (i + 8) (omega arith) ∙ shifted)
      ∙ ap (λ (n : ℕ). both (same (part 8 b n) (le_bytes 8 w)) (all_below (length ws) (λ j. same (part 8 b (i + 8 * suc j)) (le_bytes 8 (get_or ws j 0))))) (sym (add-zero i))
      ∙ sym (all_front (length ws) (λ j. same (part 8 b (i + 8 * j)) (le_bytes 8 (get_or (w ∷ ws) j 0))))
    where
      shifted : all_below (length ws) (λ j. same (part 8 b (i + 8 + 8 * j)) (le_bytes 8 (get_or ws j 0))) ≡ all_below (length ws) (λ j. same (part 8 b (i + 8 * suc j)) (le_bytes 8 (get_or ws j 0)))
      shifted = all_ext (length ws) _ _ (λ j q. let z : i + 8 + 8 * j ≡ i + 8 * suc j = omega arith in rw z)

  matches_append : (xs ys : List ℕ) (i : ℕ) → matches b i (xs ++ ys) ≡ both (matches b i xs) (matches b (i + 8 * length xs) ys)
  unfolding matches
  matches_append xs ys i =
      rw length-append (
      all-add (length xs) (length ys) (λ j. same (part 8 b (i + 8 * j)) (le_bytes 8 (get_or (xs ++ ys) j 0)))
      ∙ ap (λ (t : Bool). both t (all_below (length ys) (λ k. same (part 8 b (i + 8 * (length xs + k))) (le_bytes 8 (get_or (xs ++ ys) (length xs + k) 0)))))
      (all_ext (length xs) _ (λ j. same (part 8 b (i + 8 * j)) (le_bytes 8 (get_or xs j 0))) (λ j q. rw (get_or-append xs ys 0 j q)))
      ∙ ap (λ (t : Bool). both (all_below (length xs) (λ j. same (part 8 b (i + 8 * j)) (le_bytes 8 (get_or xs j 0)))) t)
      (all_ext (length ys) _ (λ k. same (part 8 b (i + 8 * length xs + 8 * k)) (le_bytes 8 (get_or ys k 0)))
      (λ k q. let z : i + 8 * (length xs + k) ≡ i + 8 * length xs + 8 * k = omega arith in rw (z, get_or-append-add xs ys k 0))))

  matches_then : (xs ys : List ℕ) (i at : ℕ) → i + 8 * length xs ≡ at → matches b i (xs ++ ys) ≡ both (matches b i xs) (matches b at ys)
  matches_then xs ys i at e = rw (← e) (matches_append xs ys i)

  matches_none : (at : ℕ) → matches b at [] ≡ true
  unfolding matches
  matches_none at = refl

  matches_one : (n i : ℕ) → matches b i (n ∷ []) ≡ same (part 8 b i) (le_bytes 8 n)
  unfolding matches
  matches_one n i = rw add-zero (both_itself (same (part 8 b i) (le_bytes 8 n)))

  -- the words of members, each at its place
  matches_each : {A : Type 0} (f : A → List ℕ) (w : ℕ) (wide : (x : A) → length (f x) ≡ w) (g : ℕ → A) (n k at : ℕ)
      → matches b at (each f (listed g k n)) ≡ all_below n (λ j. matches b (at + 8 * (w * j)) (f (g (k + j))))
  unfolding each
  matches_each f w wide g zero k at = matches_none at
  matches_each f w wide g (suc n) k at =
      matches_append (f (g k)) (each f (listed g (suc k) n)) at
      ∙ rw (wide (g k)) (
      ap (λ (t : Bool). both (matches b at (f (g k))) t) (matches_each f w wide g n (suc k) (at + 8 * w) ∙ all_ext n _ (λ j. matches b (at + 8 * (w * suc j)) (f (g (k + suc j)))) (λ j q. moved j))
      ∙ ap (λ (t : Bool). both t (all_below n (λ j. matches b (at + 8 * (w * suc j)) (f (g (k + suc j)))))) first
      ∙ sym (all_front n (λ j. matches b (at + 8 * (w * j)) (f (g (k + j))))))
    where
      moved : (j : ℕ) → matches b (at + 8 * w + 8 * (w * j)) (f (g (suc k + j))) ≡ matches b (at + 8 * (w * suc j)) (f (g (k + suc j)))
      moved j =
          let z : at + 8 * w + 8 * (w * j) ≡ at + 8 * (w * suc j) = rw (mul-suc w j) (omega arith) in
          let y : suc k + j ≡ k + suc j = omega arith in
          rw (z, y)

      first : matches b at (f (g k)) ≡ matches b (at + 8 * (w * 0)) (f (g (k + 0)))
      first = let z : at + 8 * (w * 0) ≡ at = rw (mul-zero w) (omega arith) in rw (z, add-zero)

-- ---- the sections' words within their widths

below_one : (w : ℕ) → eqb w 0 ≡ ltb w 1
below_one w = true_iff (eqb w 0) (ltb w 1) (λ e. lt-ltb w 1 (omega (arith, eqb-true w 0 e))) (λ e. eq-eqb w 0 (omega (arith, ltb-true w 1 e)))

module _ (b : List ℕ) (h : Bytes b) where
  zeros_is : (n i : ℕ) → i + 8 * n ≤ length b → matches b i (replicate n 0) ≡ below n 1 b i
  unfolding matches below
  zeros_is n i l = rw (length-replicate {A = ℕ} n 0) (all_ext n _ (λ j. ltb (le 8 b (i + 8 * j)) 1) at)
    where
      at : (j : ℕ) → j < n → same (part 8 b (i + 8 * j)) (le_bytes 8 (get_or (replicate n 0) j 0)) ≡ ltb (le 8 b (i + 8 * j)) 1
      at j q = rw (get_or-replicate {A = ℕ} n j 0 0 q) (word_is b h (i + 8 * j) 0 (omega arith) (omega arith) ∙ below_one (le 8 b (i + 8 * j)))

  registers-is : (i : ℕ) → i + 64 ≤ length b → matches b i (register_numbers (registers_at b i)) ≡ are_registers b i
  unfolding matches are_registers below
  registers-is i l =
      rw (
        add-zero i,
        bit_is b h (i + 56) (omega arith),
        field_is b h 2 (i + 48) (omega arith) (omega arith),
        field_is b h 2 (i + 40) (omega arith) (omega arith),
        field_is b h 2 (i + 32) (omega arith) (omega arith),
        field_is b h 2 (i + 24) (omega arith) (omega arith),
        field_is b h 2 (i + 16) (omega arith) (omega arith),
        field_is b h 2 (i + 8) (omega arith) (omega arith),
        field_is b h 2 i (omega arith) (omega arith),
      )

  -- behind a request's registers
  asked_is : (i : ℕ) → i + 8 * 14 ≤ length b
      → matches b (i + 64) (get_or b (i + 64) 0 ∷ le 8 b (i + 72) ∷ le 8 b (i + 80) ∷ le 8 b (i + 88) ∷ le 8 b (i + 96) ∷ le 8 b (i + 104) ∷ []) ≡ ltb (le 8 b (i + 64)) 256
  unfolding matches
  asked_is i l =
      simp (add_assoc, add-zero) (rw (
        whole_is b h (i + 104) (omega arith),
        whole_is b h (i + 96) (omega arith),
        whole_is b h (i + 88) (omega arith),
        whole_is b h (i + 80) (omega arith),
        whole_is b h (i + 72) (omega arith),
        byte-is b h (i + 64) (omega arith),
        both_itself,
      ))

  request-is : (i : ℕ) → i + 8 * 14 ≤ length b → matches b i (request_words (request_at b i)) ≡ is_request b i
  unfolding is_request
  request-is i l =
      matches_append b (register_numbers (registers_at b i)) _ i ∙ rw (registers-is i (omega arith), asked_is i l) (both_comm (are_registers b i) _)

  slot_is : (i : ℕ) → i + slot_size ≤ length b → matches b i (drive_words (read_drive b i)) ≡ is_slot b i
  unfolding matches read_drive is_slot below
  slot_is i l =
      rw (
        add-zero i,
        name_whole b h (i + 120) (omega arith),
        field_is b h 2 (i + 112) (omega arith) (omega arith),
        name_whole b h (i + 104) (omega arith),
        name_whole b h (i + 96) (omega arith),
        name_whole b h (i + 88) (omega arith),
        name_is b h 4 (i + 80) (omega arith) (omega arith),
        byte-is b h (i + 72) (omega arith),
        byte-is b h (i + 64) (omega arith),
        field_is b h 2 (i + 56) (omega arith) (omega arith),
        field_is b h 2 (i + 48) (omega arith) (omega arith),
        field_is b h 2 (i + 40) (omega arith) (omega arith),
        whole_is b h (i + 32) (omega arith),
        whole_is b h (i + 24) (omega arith),
        field_is b h 4 (i + 16) (omega arith) (omega arith),
        field_is b h 4 (i + 8) (omega arith) (omega arith),
        field_is b h 4 i (omega arith) (omega arith),
      ) (simp (add_assoc, add-zero, both_assoc))

  -- ---- rows

  -- a number, and the words behind it
  head_is : (n : ℕ) (ws : List ℕ) (i : ℕ) → n < 256 ^ 8 → i + 8 ≤ length b → matches b i (n ∷ ws) ≡ both (eqb (le 8 b i) n) (matches b (request_place i) ws)
  head_is n ws i f l =
      matches_append b (n ∷ []) ws i ∙ ap (λ (t : Bool). both t (matches b (request_place i) ws)) (matches_one b n i ∙ word_is b h i n l f)

  vacant-is : (i : ℕ) → i + row_size ≤ length b → matches b i (stage_words Vacant) ≡ both (eqb (le 8 b i) 0) (below 22 1 b (request_place i))
  vacant-is i l =
      head_is 0 (replicate 22 0) i (omega arith) (omega arith) ∙ ap (λ (t : Bool). both (eqb (le 8 b i) 0) t) (zeros_is 22 (request_place i) (omega arith))

  waiting_is : (i : ℕ) → i + row_size ≤ length b
      → matches b i (stage_words (Waiting (request_at b (request_place i)))) ≡ both (eqb (le 8 b i) 1) (both (is_request b (request_place i)) (below 8 1 b (finished_place i)))
  waiting_is i l =
      let z : request_place i + 8 * 14 ≡ finished_place i = omega arith in
      head_is 1 (request_words (request_at b (request_place i)) ++ replicate 8 0) i (omega arith) (omega arith)
      ∙ ap (λ (t : Bool). both (eqb (le 8 b i) 1) t) (
      matches_append b (request_words (request_at b (request_place i))) (replicate 8 0) (request_place i)
      ∙ rw (request-is (request_place i) (omega arith), z, zeros_is 8 (finished_place i) (omega arith)))

  finished-is : (i : ℕ) → i + row_size ≤ length b
      → matches b i (stage_words (Finished (registers_at b (finished_place i)))) ≡ both (eqb (le 8 b i) 2) (finished_good b i)
  unfolding finished_good
  finished-is i l =
      let z : request_place i + 8 * 14 ≡ finished_place i = omega arith in
      head_is 2 (replicate 14 0 ++ register_numbers (registers_at b (finished_place i))) i (omega arith) (omega arith)
      ∙ ap (λ (t : Bool). both (eqb (le 8 b i) 2) t) (
      matches_append b (replicate 14 0) (register_numbers (registers_at b (finished_place i))) (request_place i)
      ∙ rw (zeros_is 14 (request_place i) (omega arith), z, registers-is (finished_place i) (omega arith)))

  row_is : (M i : ℕ) → i + row_size ≤ length b → both (matches b i (row_words (read_row b i))) (stage_ok (read_desk b).table M (read_stage b i)) ≡ row_good b M i
  unfolding read_stage row_good waiting_good
  row_is M i l = go (eqb (get_or b i 0) 1) (eqb (get_or b i 0) 2) refl refl
    where
      go : (p q : Bool) → eqb (get_or b i 0) 1 ≡ p → eqb (get_or b i 0) 2 ≡ q
          → both (matches b i (stage_words (pick p (Waiting (request_at b (request_place i))) (pick q (Finished (registers_at b (finished_place i))) Vacant))))
          (stage_ok (read_desk b).table M (pick p (Waiting (request_at b (request_place i))) (pick q (Finished (registers_at b (finished_place i))) Vacant)))
          ≡ row_good b M i
      go true q e f =
          let x : get_or b i 0 ≡ 1 = eqb-true (get_or b i 0) 1 e in
          rw (waiting_is i l, both_assoc (eqb (le 8 b i) 1), ne_eqb (le 8 b i) 0 (λ y. omega (arith, low_byte b h i)), ne_eqb (le 8 b i) 2 (λ y. omega (arith, low_byte b h i)))
          (sym (pick-both (eqb (le 8 b i) 1) _))
      go false true e f =
          let x : get_or b i 0 ≡ 2 = eqb-true (get_or b i 0) 2 f in
          rw (finished-is i l, both_itself, ne_eqb (le 8 b i) 0 (λ y. omega (arith, low_byte b h i)), ne_eqb (le 8 b i) 1 (λ y. omega (arith, low_byte b h i)))
          (sym (pick-both (eqb (le 8 b i) 2) _))
      go false false e f =
          let x = eqb-false (get_or b i 0) 1 e in
          let y = eqb-false (get_or b i 0) 2 f in
          let a = h i in
          rw (vacant-is i l, both_itself, ne_eqb (le 8 b i) 1 (λ z. x (omega (arith, low_byte b h i))), ne_eqb (le 8 b i) 2 (λ z. y (omega (arith, low_byte b h i))))
          (sym (pick-both (eqb (le 8 b i) 0) _))

rows_all : (n : ℕ) (rows : List Row) (t : Table) (M : ℕ) → rows_ok n rows t M ≡ all_below n (λ g. stage_ok t M (stage_in rows g))
unfolding rows_ok
rows_all zero rows t M = refl
rows_all (suc n) rows t M = ap (λ (x : Bool). both (stage_ok t M (stage_in rows n)) x) (rows_all n rows t M)

-- ---- drives

-- the tests of the table, as tests of every slot
blank-all : (n : ℕ) (l : List Drive) (count : ℕ) → blank_to n l count ≡ all_below n (λ i. either (ltb i count) (is_blank (get_or l i no_drive)))
unfolding blank_to
blank-all n l count = refl

none-overlaps : (n : ℕ) (l : List Drive) (d : Drive) → not (overlaps_any n l d) ≡ all_below n (λ j. not (overlap d (get_or l j no_drive)))
unfolding overlaps_any
none-overlaps zero l d = refl
none-overlaps (suc n) l d =
    not-either (overlap d (get_or l n no_drive)) (overlaps_any n l d) ∙ ap (λ (x : Bool). both (not (overlap d (get_or l n no_drive))) x) (none-overlaps n l d)

not-ltb : (m n : ℕ) → leb n m ≡ not (ltb m n)
not-ltb m n = ⊎_elim (λ x. le-leb n m x ∙ ap not (sym (le-ltb m n x))) (λ x. lt-leb n m x ∙ ap not (sym (lt-ltb m n x))) (lt_or_le' n m)
  where
    lt_or_le' : (n m : ℕ) → (n ≤ m) ⊎ (m < n)
    lt_or_le' n m = ⊎_elim (λ x. inr x) (λ x. inl x) (lt_or_le m n)

apart-is : (d e : Drive) → apart d.first d.blocks e.first e.blocks ≡ not (overlap d e)
unfolding apart overlap
apart-is d e = go (leb d.first e.first)
  where
    go : (t : Bool) → pick t (leb (d.first + d.blocks) e.first) (leb (e.first + e.blocks) d.first)
        ≡ not (pick t (ltb e.first (d.first + d.blocks)) (ltb d.first (e.first + e.blocks)))
    go true = not-ltb e.first (d.first + d.blocks)
    go false = not-ltb d.first (e.first + e.blocks)

-- ---- a drive of zeros

blank-zero : (d : Drive) → is_blank d ≡ true → d ≡ zero_drive
unfolding is_blank blank_numbers blank_names zero_tail
blank-zero d e =
    let p = both_true _ _ e in
    let a = both_true _ _ p.0 in
    let a₁ = both_true _ _ a.0 in
    let a₂ = both_true _ _ a₁.1 in
    let f = both_true _ _ a.1 in
    let f₁ = both_true _ _ f.0 in
    let g = both_true _ _ f.1 in
    let g₁ = both_true _ _ g.0 in
    let g₂ = both_true _ _ g₁.1 in
    let g₃ = both_true _ _ g.1 in
    let g₄ = both_true _ _ g₃.1 in
    let n = both_true _ _ p.1 in
    let n₁ = both_true _ _ n.1 in
    let n₂ = both_true _ _ n₁.1 in
    let n₃ = both_true _ _ n₂.1 in
    λ i. record {
      cylinders = eqb-true d.cylinders 0 a₁.0 i;
      heads = eqb-true d.heads 0 a₂.0 i;
      sectors = eqb-true d.sectors 0 a₂.1 i;
      blocks = eqb-true d.blocks 0 f₁.0 i;
      first = eqb-true d.first 0 f₁.1 i;
      flags = eqb-true d.flags 0 g₁.0 i;
      c = eqb-true d.c 0 g₂.0 i;
      h = eqb-true d.h 0 g₂.1 i;
      s = eqb-true d.s 0 g₃.0 i;
      protection = eqb-true d.protection 0 g₄.0 i;
      bus = same_true d.bus (replicate 4 0) n.0 i;
      interface = same_true d.interface (replicate 8 0) n₁.0 i;
      path = same_true d.path (replicate 8 0) n₂.0 i;
      device = same_true d.device (replicate 8 0) n₃.0 i;
      kind = eqb-true d.kind 0 g₄.1 i;
      tail = same_true d.tail (replicate 8 0) n₃.1 i;
    }

zero-blank : is_blank zero_drive ≡ true
unfolding is_blank blank_numbers blank_names same zero_tail
zero-blank = refl

zero_words : drive_words zero_drive ≡ replicate 16 0
unfolding le
zero_words = refl

-- it is what zeros say
pub zero-fits : FitsDrive zero_drive
unfolding read_drive le
zero-fits = drive-fits (replicate 128 0) (zeros 128) 0 (omega arith)
  where
    zeros : (n i : ℕ) → get_or (replicate n 0) i 0 < 256
    zeros zero i = omega arith
    zeros (suc n) zero = omega arith
    zeros (suc n) (suc i) = zeros n i

module _ (b : List ℕ) (h : Bytes b) where
  says_matches : (i : ℕ) (ws : List ℕ) → matches b i ws ≡ true → Says b i ws
  unfolding Says matches
  says_matches i ws e j m l q =
      let p : part 8 b (i + 8 * j) ≡ le_bytes 8 (get_or ws j 0) =
      same_true (part 8 b (i + 8 * j)) (le_bytes 8 (get_or ws j 0)) (all_at (length ws) j (λ j. same (part 8 b (i + 8 * j)) (le_bytes 8 (get_or ws j 0))) e l) in
      sym (get_or-take 8 (drop (i + 8 * j) b) m 0 q ∙ get_or-drop (i + 8 * j) b m 0) ∙ ap (λ (s : List ℕ). get_or s m 0) p

  -- a slot past the count
  zero_slot : (i : ℕ) → i + slot_size ≤ length b → both (is_slot b i) (is_blank (read_drive b i)) ≡ below 16 1 b i
  zero_slot i l = true_iff _ _ to from
    where
      words_are : read_drive b i ≡ zero_drive → is_slot b i ≡ below 16 1 b i
      words_are e = sym (slot_is b h i l) ∙ ap (λ (d : Drive). matches b i (drive_words d)) e ∙ ap (matches b i) zero_words ∙ zeros_is b h 16 i l

      to : both (is_slot b i) (is_blank (read_drive b i)) ≡ true → below 16 1 b i ≡ true
      to e = let p = both_true (is_slot b i) (is_blank (read_drive b i)) e in sym (words_are (blank-zero (read_drive b i) p.1)) ∙ p.0

      from : below 16 1 b i ≡ true → both (is_slot b i) (is_blank (read_drive b i)) ≡ true
      from e =
          let z : read_drive b i ≡ zero_drive =
          drive-read b i zero_drive (says_matches i (drive_words zero_drive) (ap (matches b i) zero_words ∙ zeros_is b h 16 i l ∙ e)) zero-fits h l in
          both_intro (is_slot b i) (is_blank (read_drive b i)) (words_are z ∙ e) (ap is_blank z ∙ zero-blank)

-- ---- a table

module _ (b : List ℕ) where
  drives : List Drive
  drives = (read_desk b).table.drives

  drive-of : (i : ℕ) → i < 8 → get_or drives i no_drive ≡ read_drive b (slot_at i)
  unfolding drives
  drive-of i l = slot_of b i l

  apart_slots : (i j : ℕ) → apart (first_in b i) (blocks_in b i) (first_in b j) (blocks_in b j) ≡ not (overlap (read_drive b (slot_at i)) (read_drive b (slot_at j)))
  unfolding read_drive
  apart_slots i j = apart-is (read_drive b (slot_at i)) (read_drive b (slot_at j))

  alone-is : (i : ℕ) → i < 8 → not (overlaps_any i drives (read_drive b (slot_at i))) ≡ alone_to i b i
  unfolding alone_to drives
  alone-is i l =
      none-overlaps i (read_desk b).table.drives (read_drive b (slot_at i))
      ∙ all_ext i _ (λ j. apart (first_in b i) (blocks_in b i) (first_in b j) (blocks_in b j)) (λ j q. rw (slot_of b j (omega arith)) (sym (apart_slots i j)))

  sound_is : (n store : ℕ) → n ≤ 8
      → sound_to n drives store ≡ both (all_below n (λ i. both (fields_ok (read_drive b (slot_at i))) (in_store (read_drive b (slot_at i)) store))) (drives_apart n b)
  unfolding drives_apart sound_to
  sound_is n store l =
      all_ext n _ (λ i. both (both (fields_ok (read_drive b (slot_at i))) (in_store (read_drive b (slot_at i)) store)) (alone_to i b i)) at
      ∙ sym (all_both n (λ i. both (fields_ok (read_drive b (slot_at i))) (in_store (read_drive b (slot_at i)) store)) (λ i. alone_to i b i))
    where
      at : (i : ℕ) → i < n → eqb (refusal i drives (get_or drives i no_drive) store) 0
          ≡ both (both (fields_ok (read_drive b (slot_at i))) (in_store (read_drive b (slot_at i)) store)) (alone_to i b i)
      at i q =
          ap (λ (d : Drive). eqb (refusal i drives d store) 0) (drive-of i (omega arith))
          ∙ sym (taken_is i drives (read_drive b (slot_at i)) store (omega arith))
          ∙ ap (λ (x : Bool). both (both (fields_ok (read_drive b (slot_at i))) (in_store (read_drive b (slot_at i)) store)) x) (alone-is i (omega arith))

-- ---- drives in the order of the store share no block

module _ (b : List ℕ) where
  ends_before : (n : ℕ) → ascending n b ≡ true → (i j : ℕ) → j < i → i < n → (first_in b j < first_in b i) × (first_in b j + blocks_in b j ≤ first_in b i)
  unfolding ascending follows
  ends_before n e zero j l q = absurd (omega arith)
  ends_before n e (suc i) j l q =
      let p = both_true (ltb (first_in b i) (first_in b (i + 1))) (leb (first_in b i + blocks_in b i) (first_in b (i + 1)))
      (all_at (n - 1) i (λ i. both (ltb (first_in b i) (first_in b (i + 1))) (leb (first_in b i + blocks_in b i) (first_in b (i + 1)))) e (omega arith)) in
      let x : first_in b i < first_in b (suc i) = rw add-one at (ltb-true (first_in b i) (first_in b (i + 1)) p.0) in
      let y : first_in b i + blocks_in b i ≤ first_in b (suc i) = rw add-one at (leb-true (first_in b i + blocks_in b i) (first_in b (i + 1)) p.1) in
      ⊎_elim
      (λ k. let r = ends_before n e i j k (omega arith) in (omega (arith, r.0, x), omega (arith, r.1, x)))
      (λ k. let z : j ≡ i = omega arith in rw z (x, y))
      (lt_or_le j i)

  pub ascending-apart : (n : ℕ) → ascending n b ≡ true → drives_apart n b ≡ true
  unfolding drives_apart alone_to apart
  ascending-apart n e =
      all_intro n _ (λ i q. all_intro i _ (λ j l.
      let r = ends_before n e i j l q in
      rw (lt-leb (first_in b i) (first_in b j) r.0) (le-leb _ _ r.1)))

-- ---- the whole block

module _ (b : List ℕ) (h : Bytes b) (l : length b ≡ desk_size) where
  count : ℕ
  count = le 8 b count_at

  rows_is : (M : ℕ) → both (matches b (row_at 0) (rows_words (read_rows b))) (rows_ok 8 (read_desk b).rows (read_desk b).table M) ≡ rows_good 8 b M
  unfolding rows_good
  rows_is M =
      ap (λ (x : Bool). both x (rows_ok 8 (read_desk b).rows (read_desk b).table M)) (matches_each b row_words 23 length_row (λ g. read_row b (row_at g)) 8 0 (row_at 0))
      ∙ ap (λ (x : Bool). both (all_below 8 (λ g. matches b (row_at 0 + 8 * (23 * g)) (row_words (read_row b (row_at (0 + g)))))) x) (rows_all 8 (read_desk b).rows (read_desk b).table M)
      ∙ all_both 8 (λ g. matches b (row_at 0 + 8 * (23 * g)) (row_words (read_row b (row_at (0 + g))))) (λ g. stage_ok (read_desk b).table M (stage_in (read_desk b).rows g))
      ∙ all_ext 8 _ (λ g. row_good b M (row_at g)) at
    where
      at : (g : ℕ) → g < 8
          → both (matches b (row_at 0 + 8 * (23 * g)) (row_words (read_row b (row_at (0 + g))))) (stage_ok (read_desk b).table M (stage_in (read_desk b).rows g)) ≡ row_good b M (row_at g)
      at g q =
          let z : row_at 0 + 8 * (23 * g) ≡ row_at g = omega arith in
          rw (z, zero-add, row_of b g q) (row_is b h M (row_at g) (omega arith))

  slots_is : matches b (slot_at 0) (slots_words (read_slots b)) ≡ all_below 8 (λ i. is_slot b (slot_at i))
  slots_is =
      matches_each b drive_words 16 length-drive (λ i. read_drive b (slot_at i)) 8 0 (slot_at 0)
      ∙ all_ext 8 (λ i. matches b (slot_at 0 + 8 * (16 * i)) (drive_words (read_drive b (slot_at (0 + i))))) (λ i. is_slot b (slot_at i)) (λ i q.
      let z : slot_at 0 + 8 * (16 * i) ≡ slot_at i = omega arith in
      rw (z, zero-add) (slot_is b h (slot_at i) (omega arith)))

  table_is : (store : ℕ) → count ≤ 8
      → both (matches b (slot_at 0) (slots_words (read_slots b))) (both (sound_to count (drives b) store) (blank_to 8 (drives b) count))
      ≡ both (drives_good count b store) (both (rest_zero 8 count b) (drives_apart count b))
  unfolding drives_good drive_good rest_zero
  table_is store m =
      let P : ℕ → Bool = λ i. is_slot b (slot_at i) in
      let F : ℕ → Bool = λ i. both (fields_ok (read_drive b (slot_at i))) (in_store (read_drive b (slot_at i)) store) in
      let past : (ℕ → Bool) → ℕ → Bool = λ f i. either (ltb i count) (f i) in
      let Z : ℕ → Bool = λ i. is_blank (read_drive b (slot_at i)) in
      let blanks : blank_to 8 (drives b) count ≡ all_below 8 (past Z) =
      blank-all 8 (drives b) count ∙ all_ext 8 _ (past Z) (λ i q. ap (λ (d : Drive). either (ltb i count) (is_blank d)) (drive-of b i q)) in
      let rest : both (all_below 8 (past P)) (all_below 8 (past Z)) ≡ all_below 8 (past (λ i. below 16 1 b (slot_at i))) =
      all_both 8 (past P) (past Z) ∙ all_ext 8 _ (past (λ i. below 16 1 b (slot_at i))) (λ i q.
      either-both (ltb i count) (P i) (Z i) ∙ ap (either (ltb i count)) (zero_slot b h (slot_at i) (omega arith))) in
      rw (slots_is, blanks, sound_is b count store m, all_split 8 count P m, ← rest, ← all_both count P F)
      (arrange (all_below count P) (all_below 8 (past P)) (all_below count F) (drives_apart count b) (all_below 8 (past Z)))
    where
      arrange : (p q f a z : Bool) → both (both p q) (both (both f a) z) ≡ both (both p f) (both (both q z) a)
      arrange p q f a z = simp (both_assoc, both_comm, both_left)

  -- words that fill theirs
  fill_is : (at n : ℕ) (f : ℕ → ℕ) → at + 8 * n ≤ length b → ((j : ℕ) → j < n → f j ≡ le 8 b (at + 8 * j)) → matches b at (listed f 0 n) ≡ true
  unfolding matches
  fill_is at n f m g =
      rw (length-listed f 0 n) (all_intro n _ (λ j q.
      ap (λ (x : ℕ). same (part 8 b (at + 8 * j)) (le_bytes 8 x)) (listed-at f 0 n j 0 q ∙ ap f (zero-add j) ∙ g j q) ∙ whole_is b h (at + 8 * j) (omega arith)))

  tail-is : matches b (tail_at 0) (tail_words (read_desk b)) ≡ true
  unfolding read_desk
  tail-is = fill_is (tail_at 0) 4 (λ j. le 8 b (tail_at j)) (omega arith) (λ j q. refl)

  addresses-is : matches b (address_at 0) (read_addresses b) ≡ true
  addresses-is = fill_is (address_at 0) 8 (λ g. le 8 b (address_at g)) (omega arith) (λ g q. refl)

  -- bytes that are as they are
  given_is : (at n k : ℕ) → k ≡ 8 * n → at + k ≤ length b → matches b at (listed (λ j. le 8 (part k b at) (8 * j)) 0 n) ≡ true
  given_is at n k e m =
      fill_is at n _ (omega arith) (λ j q.
      le_ext 8 (part k b at) b (8 * j) (at + 8 * j) (λ i r.
      let z : at + (8 * j + i) ≡ at + 8 * j + i = omega arith in
      get_or-take k (drop at b) (8 * j + i) 0 (omega arith) ∙ get_or-drop at b (8 * j + i) 0 ∙ ap (λ (k : ℕ). get_or b k 0) z))

  marks-is : (at : ℕ) → at + 64 ≤ length b → matches b at (marks_words (read_marks b at)) ≡ below 8 2 b at
  unfolding below
  marks-is at m =
      matches_each b (λ (x : Bool). pick x 1 0 ∷ []) 1 (λ x. refl) (λ i. eqb (get_or b (at + 8 * i) 0) 1) 8 0 at
      ∙ all_ext 8 (λ j. matches b (at + 8 * (1 * j)) (pick (eqb (get_or b (at + 8 * (0 + j)) 0) 1) 1 0 ∷ [])) (λ j. ltb (le 8 b (at + 8 * j)) 2) (λ j q.
      let z : at + 8 * (1 * j) ≡ at + 8 * j = omega arith in
      rw (z, zero-add) (matches_one b (pick (eqb (get_or b (at + 8 * j) 0) 1) 1 0) (at + 8 * j) ∙ bit_is b h (at + 8 * j) (omega arith)))

  counts-is : matches b (bads_count_at 0) (read_counts b) ≡ below 8 256 b (bads_count_at 0)
  unfolding matches below
  counts-is =
      all_ext 8 _ (λ j. ltb (le 8 b (bads_count_at 0 + 8 * j)) 256) (λ j q.
      ap (λ (x : ℕ). same (part 8 b (bads_count_at j)) (le_bytes 8 x)) (bads_count_of b j q) ∙ byte-is b h (bads_count_at j) (omega arith))

  bads_is : matches b (bads_count_at 0) (bads_words (read_desk b).table) ≡ below 8 256 b (bads_count_at 0)
  unfolding read_desk
  bads_is =
      matches_then b (read_counts b) (list_words (part 1024 b (bads_list_at 0))) (bads_count_at 0) (bads_list_at 0) refl
      ∙ rw (given_is (bads_list_at 0) 128 1024 refl (omega arith), both_itself) counts-is

  parameters-is : matches b (present_at 0) (parameters_words (read_desk b).table) ≡ below 8 2 b (present_at 0)
  unfolding read_desk
  parameters-is =
      let N = marks_words (read_marks b (present_at 0)) in
      matches_then b N (given_words (part 112 b (bytes_at 0))) (present_at 0) (bytes_at 0) (omega (arith, length-marks (read_marks b (present_at 0))))
      ∙ rw (given_is (bytes_at 0) 14 112 refl (omega arith), both_itself) (marks-is (present_at 0) (omega arith))

  places_is : matches b (mark_at 0) (places_words (read_desk b)) ≡ below 8 2 b (mark_at 0)
  unfolding read_desk
  places_is =
      let P = marks_words (read_marks b (mark_at 0)) in
      matches_then b P (read_addresses b) (mark_at 0) (address_at 0) (omega (arith, length-marks (read_marks b (mark_at 0))))
      ∙ rw (addresses-is, both_itself) (marks-is (mark_at 0) (omega arith))

  -- the sections behind the last words
  more-is : matches b (mark_at 0) (places_words (read_desk b) ++ (parameters_words (read_desk b).table ++ bads_words (read_desk b).table))
      ≡ both (below 8 2 b (mark_at 0)) (both (below 8 2 b (present_at 0)) (below 8 256 b (bads_count_at 0)))
  unfolding read_desk
  more-is =
      let P = places_words (read_desk b) in
      let Q = parameters_words (read_desk b).table in
      let B = bads_words (read_desk b).table in
      matches_then b P (Q ++ B) (mark_at 0) (present_at 0) (omega (arith, length-places (read_desk b) refl refl))
      ∙ rw (matches_then b Q B (present_at 0) (bads_count_at 0) (omega (arith, length-parameters (read_desk b).table refl)), places_is, parameters-is, bads_is)

  image-is : same b (image (read_desk b))
      ≡ both (matches b (row_at 0) (rows_words (read_rows b)))
      (both (matches b (slot_at 0) (slots_words (read_slots b))) (both (below 8 2 b (mark_at 0)) (both (below 8 2 b (present_at 0)) (below 8 256 b (bads_count_at 0)))))
  unfolding image desk_words read_desk
  image-is =
      let R = rows_words (read_rows b) in
      let S = slots_words (read_slots b) in
      let T = tail_words (read_desk b) in
      let P = places_words (read_desk b) in
      let Q = parameters_words (read_desk b).table in
      let B = bads_words (read_desk b).table in
      let M = P ++ (Q ++ B) in
      let n : 0 + 8 * length (R ++ (S ++ (T ++ M))) ≡ length b =
      rw (length-append R (S ++ (T ++ M)), length-append S (T ++ M), length-append T M, length-append P (Q ++ B), length-append Q B)
      (omega (
        arith,
        length_rows (read_rows b) refl,
        length_slots (read_slots b) refl,
        length-places (read_desk b) refl refl,
        length-parameters (read_desk b).table refl,
        length_bads (read_desk b).table refl,
      )) in
      same-flat b (R ++ (S ++ (T ++ M))) 0 n
      ∙ matches_then b R (S ++ (T ++ M)) (row_at 0) (slot_at 0) (omega (arith, length_rows (read_rows b) refl))
      ∙ ap (λ (x : Bool). both (matches b (row_at 0) R) x)
      (matches_then b S (T ++ M) (slot_at 0) (tail_at 0) (omega (arith, length_slots (read_slots b) refl))
      ∙ ap (λ (x : Bool). both (matches b (slot_at 0) S) x) (matches_then b T M (tail_at 0) (mark_at 0) (omega arith) ∙ rw (tail-is, more-is)))

  sized : both (table_good b) (both (ltb (le 8 b pointer_at) 8) (both (rows_good 8 b (window_length (le 8 b arena_at))) (more_good b (window_length (le 8 b arena_at)))))
      ≡ both (same b (image (read_desk b))) (accept (read_desk b))
  unfolding table_good more_good parameters_good places_good bads_good accept is_sound read_desk count drives
  sized = rw image-is (go (leb count 8) (leb-true count 8))
    where
      store : ℕ
      store = le 8 b store_at / 512

      M : ℕ
      M = window_length (le 8 b arena_at)

      placed : Bool
      placed = below 8 2 b (mark_at 0)

      present : Bool
      present = below 8 2 b (present_at 0)

      counted : Bool
      counted = below 8 256 b (bads_count_at 0)

      attached : Bool
      attached = attached_to 8 (read_desk b).table

      lists : Bool
      lists = listed_to 8 (read_desk b).table

      placements : Bool
      placements = placements_ok 8 (table_count (read_desk b).table) M (read_desk b)

      go : (t : Bool) → (t ≡ true → count ≤ 8)
          → both (both t (both (drives_good count b store) (both (rest_zero 8 count b) (drives_apart count b))))
          (both (ltb (le 8 b pointer_at) 8) (both (rows_good 8 b M) (both (both present attached) (both (both placed placements) (both counted lists)))))
          ≡ both (both (matches b (row_at 0) (rows_words (read_rows b))) (both (matches b (slot_at 0) (slots_words (read_slots b))) (both placed (both present counted))))
          (both (both t (both (sound_to count (drives b) store) (both (blank_to 8 (drives b) count) (both attached lists))))
          (both (ltb (le 8 b pointer_at) 8) (both (rows_ok 8 (read_desk b).rows (read_desk b).table M) placements)))
      go true m = rw (← table_is store (m refl), ← rows_is M) (arrange (matches b (row_at 0) (rows_words (read_rows b))) (matches b (slot_at 0) (slots_words (read_slots b)))
          (sound_to count (drives b) store) (blank_to 8 (drives b) count) (ltb (le 8 b pointer_at) 8) (rows_ok 8 (read_desk b).rows (read_desk b).table M)
          placed present counted attached lists placements)
        where
          arrange : (r p s z q o m n c a w l : Bool)
              → both (both p (both s z)) (both q (both (both r o) (both (both n a) (both (both m l) (both c w)))))
              ≡ both (both r (both p (both m (both n c)))) (both (both s (both z (both a w))) (both q (both o l)))
          arrange r p s z q o m n c a w l = simp (both_assoc, both_comm, both_left)
      go false m = sym (both_false (both (matches b (row_at 0) (rows_words (read_rows b))) (both (matches b (slot_at 0) (slots_words (read_slots b))) (both placed (both present counted)))))

-- ---- zeros behind the last words

-- a word is zero exactly when its bytes are
zero_word : (k : ℕ) (s : List ℕ) (at : ℕ) → eqb (le k s at) 0 ≡ zero_bytes k s at
unfolding le zero_bytes
zero_word zero s at = refl
zero_word (suc k) s at =
    true_iff _ _
    (λ e.
    let z = eqb-true (le k s at + 256 ^ k * get_or s (at + k) 0) 0 e in
    let p = one-le-pow k 256 (omega arith) in
    both_intro _ _ (eq-eqb (get_or s (at + k) 0) 0 (none (256 ^ k) (get_or s (at + k) 0) p (omega arith))) (sym (zero_word k s at) ∙ eq-eqb (le k s at) 0 (omega arith)))
    (λ e.
    let w = both_true (eqb (get_or s (at + k) 0) 0) (zero_bytes k s at) e in
    let x : le k s at ≡ 0 = eqb-true (le k s at) 0 (zero_word k s at ∙ w.1) in
    let y : get_or s (at + k) 0 ≡ 0 = eqb-true (get_or s (at + k) 0) 0 w.0 in
    rw (x, y, mul-zero (256 ^ k)))
  where
    none : (p x : ℕ) → 1 ≤ p → p * x ≡ 0 → x ≡ 0
    none p zero l e = refl
    none p (suc x) l e = absurd (omega (arith, mul-suc p x))

-- fourteen bytes as two words
pub zero-given : {r x y : Bool} (s : List ℕ) (at : ℕ) → x ≡ eqb (le 8 s at) 0 → y ≡ eqb (le 8 s (at + 6)) 0 → r ≡ both x y → r ≡ zero_bytes 14 s at
unfolding zero_bytes
zero-given s at e f g =
    g ∙ rw (e, f) (rw (zero_word 8 s at, zero_word 8 s (at + 6)) (true_iff _ _
    (λ t.
    let w = both_true (zero_bytes 8 s at) (zero_bytes 8 s (at + 6)) t in
    all_intro 14 _ (λ j l. ⊎_elim
    (λ q. all_at 8 j (λ j. eqb (get_or s (at + j) 0) 0) w.0 q)
    (λ q. let z : at + 6 + (j - 6) ≡ at + j = omega arith in rw z at (all_at 8 (j - 6) (λ j. eqb (get_or s (at + 6 + j) 0) 0) w.1 (omega arith)))
    (lt_or_le j 8)))
    (λ t. both_intro (zero_bytes 8 s at) (zero_bytes 8 s (at + 6))
    (all_intro 8 _ (λ j l. all_at 14 j (λ j. eqb (get_or s (at + j) 0) 0) t (omega arith)))
    (all_intro 8 _ (λ j l. let z : at + (6 + j) ≡ at + 6 + j = omega arith in rw z at (all_at 14 (6 + j) (λ j. eqb (get_or s (at + j) 0) 0) t (omega arith)))))))

-- words tested in runs, one after the other
pub below_more : {r t u : Bool} (m n end : ℕ) (b : List ℕ) (at : ℕ) → t ≡ below m end b at → u ≡ below n end b (at + 8 * m) → r ≡ both t u
    → r ≡ below (m + n) end b at
unfolding below
below_more {u = u} m n end b at e f g =
    let word : ℕ → Bool = λ j. ltb (le 8 b (at + 8 * j)) end in
    g ∙ ap (λ (x : Bool). both x u) e
    ∙ ap (both (all_below m word)) (f ∙ all_ext n (λ j. ltb (le 8 b (at + 8 * m + 8 * j)) end) (λ j. word (m + j)) (λ j h. ap (λ (k : ℕ). ltb (le 8 b k) end) (omega arith)))
    ∙ sym (all-add m n word)

-- zeros tested slot by slot, of sixteen words each
pub below_slots : (n : ℕ) (b : List ℕ) (at : ℕ) → all_below n (λ i. below 16 1 b (at + 128 * i)) ≡ below (16 * n) 1 b at
unfolding below
below_slots zero b at = refl
below_slots (suc n) b at =
    both_comm (below 16 1 b (at + 128 * n)) (all_below n (λ i. below 16 1 b (at + 128 * i)))
    ∙ below_more (16 * n) 16 1 b at (below_slots n b at) (ap (λ (k : ℕ). below 16 1 b k) (omega arith)) refl
    ∙ ap (λ (m : ℕ). below m 1 b at) (omega arith)

-- n words that are all zero
module _ (b : List ℕ) (at n : ℕ) (e : below n 1 b at ≡ true) where
  word_zero : (j : ℕ) → j < n → le 8 b (at + 8 * j) ≡ 0
  unfolding below
  word_zero j l = omega (arith, ltb-true (le 8 b (at + 8 * j)) 1 (all_at n j (λ j. ltb (le 8 b (at + 8 * j)) 1) e l))

  byte-zero : (m : ℕ) → m < 8 * n → get_or b (at + m) 0 ≡ 0
  unfolding zero_bytes
  byte-zero m l =
      let z : at + 8 * (m / 8) + m % 8 ≡ at + m = omega arith in
      let w = sym (zero_word 8 b (at + 8 * (m / 8))) ∙ eq-eqb _ 0 (word_zero (m / 8) (omega arith)) in
      rw z at (eqb-true (get_or b (at + 8 * (m / 8) + m % 8) 0) 0 (all_at 8 (m % 8) (λ j. eqb (get_or b (at + 8 * (m / 8) + j) 0) 0) w (omega arith)))

  eight-zero : (end : ℕ) → 0 < end → 8 ≤ n → below 8 end b at ≡ true
  unfolding below
  eight-zero end m l = all_intro 8 _ (λ j q. lt-ltb (le 8 b (at + 8 * j)) end (omega (arith, word_zero j (omega arith))))

-- mark nothing, and list nothing
module _ (b : List ℕ) where
  pub bare-good : below 22 1 b (present_at 0) ≡ true → parameters_good b ≡ true
  unfolding parameters_good attached_to zero_bytes
  bare-good e =
      both_intro _ _ (eight-zero b (present_at 0) 22 e 2 (omega arith) (omega arith))
      (all_intro 8 _ (λ i l.
      attached_of b i l
      ∙ rw (byte-zero b (present_at 0) 22 e (8 * i) (omega arith))
      (all_intro 14 (λ j. eqb (get_or b (bytes_at i + j) 0) 0) (λ j q.
      let z : present_at 0 + (64 + 14 * i + j) ≡ bytes_at i + j = omega arith in
      eq-eqb (get_or b (bytes_at i + j) 0) 0 (ap (λ (k : ℕ). get_or b k 0) (sym z) ∙ byte-zero b (present_at 0) 22 e (64 + 14 * i + j) (omega arith))))))

  pub unplaced_good : (M : ℕ) → below 16 1 b (mark_at 0) ≡ true → places_good b M ≡ true
  unfolding places_good placements_ok
  unplaced_good M e =
      both_intro _ _ (eight-zero b (mark_at 0) 16 e 2 (omega arith) (omega arith))
      (all_intro 8 _ (λ g l.
      let z : mark_at 0 + 8 * (8 + g) ≡ address_at g = omega arith in
      let y : le 8 b (address_at g) ≡ 0 = ap (le 8 b) (sym z) ∙ word_zero b (mark_at 0) 16 e (8 + g) (omega arith) in
      ap (placement_ok (table_count (read_desk b).table) M) (sym (placement-at {p = no_placement} b g l (rw (byte-zero b (mark_at 0) 16 e (8 * g) (omega arith))) (sym y)))))

  unlisted : (i : ℕ) → length b ≡ desk_size → i < 8 → below 136 1 b (bads_count_at 0) ≡ true → no_bads.list ≡ part 128 b (bads_list_at i)
  unlisted i l h e =
      let m : length (part 128 b (bads_list_at i)) ≡ 128 = length_part 128 b (bads_list_at i) (omega arith) in
      ext_get_or 0 (replicate 128 0) (part 128 b (bads_list_at i)) (length-replicate {A = ℕ} 128 0 ∙ sym m) (λ j q.
      let r : j < 128 = omega (arith, length-replicate {A = ℕ} 128 0) in
      let z : bads_count_at 0 + (64 + 128 * i + j) ≡ bads_list_at i + j = omega arith in
      get_or-replicate {A = ℕ} 128 j 0 0 r
      ∙ sym (get_or-take 128 (drop (bads_list_at i) b) j 0 r ∙ get_or-drop (bads_list_at i) b j 0 ∙ ap (λ (k : ℕ). get_or b k 0) (sym z) ∙ byte-zero b (bads_count_at 0) 136 e (64 + 128 * i + j) (omega arith)))

  pub unlisted_good : length b ≡ desk_size → below 136 1 b (bads_count_at 0) ≡ true → bads_good b ≡ true
  unfolding bads_good listed_to
  unlisted_good l e =
      both_intro _ _ (eight-zero b (bads_count_at 0) 136 e 256 (omega arith) (omega arith))
      (all_intro 8 _ (λ i h.
      let n = bads-at {l = no_bads} b i h (sym (byte-zero b (bads_count_at 0) 136 e (8 * i) (omega arith))) (unlisted i l h e) in
      sym (listed_of b i h n refl (sym (bads_ok-no_bads (le 8 b (slot_at i + 24)))))))

  -- what stands behind the last words, by the bad blocks first
  pub more-listed : {r : Bool} (M : ℕ) → r ≡ bads_good b → r ≡ true → both (parameters_good b) (places_good b M) ≡ more_good b M
  unfolding more_good
  more-listed M e z = rw (sym e ∙ z, both_itself (places_good b M))

  pub more_unlisted : {r : Bool} (M : ℕ) → r ≡ bads_good b → r ≡ false → false ≡ more_good b M
  unfolding more_good
  more_unlisted M e z = rw (sym e ∙ z, both_false (places_good b M), both_false (parameters_good b))

-- ---- judged and accepted

accepted-both : (b : List ℕ) → accepted b ≡ both (is_image b) (accept (read_desk b))
unfolding accepted desk_of
accepted-both b = go (is_image b)
  where
    go : (t : Bool) → accept (pick t (read_desk b) (closed 0 0)) ≡ both t (accept (read_desk b))
    go true = refl
    go false = closed-refused 0 0

pub judged-is : (b : List ℕ) → Bytes b → judged b ≡ accepted b
unfolding judged is_image
judged-is b h = go (eqb (length b) desk_size) (eqb-true (length b) desk_size) ∙ sym (accepted-both b)
  where
    go : (t : Bool) → (t ≡ true → length b ≡ desk_size)
        → both t (both (table_good b) (both (ltb (le 8 b pointer_at) 8) (both (rows_good 8 b (window_length (le 8 b arena_at))) (more_good b (window_length (le 8 b arena_at))))))
        ≡ both (both t (same b (image (read_desk b)))) (accept (read_desk b))
    go true l = sized b h (l refl)
    go false l = refl

-- ---- the tests of the code

module _ (n : ℕ) (b : List ℕ) where
  past : ℕ → Bool
  past i = either (ltb i n) (below 16 1 b (slot_at i))

  past_is : {a : Bool} (i : ℕ) → n ≤ i → a ≡ below 16 1 b (slot_at i) → a ≡ past i
  unfolding past
  past_is i l e = rw (le-ltb i n l) e

  pub rest-none : true ≡ rest_zero n n b
  unfolding rest_zero past
  rest-none = sym (all_intro n past (λ i l. rw (lt-ltb i n l)))

  pub rest-bad : {a : Bool} (i : ℕ) → n ≤ i → i < 8 → a ≡ below 16 1 b (slot_at i) → a ≡ false → false ≡ rest_zero 8 n b
  unfolding rest_zero past
  rest-bad i l m e z = all_fails 8 i past m (past_is i l e) z

  pub rest-next : {a : Bool} (i : ℕ) → n ≤ i → true ≡ rest_zero i n b → a ≡ below 16 1 b (slot_at i) → a ≡ true → true ≡ rest_zero (i + 1) n b
  unfolding rest_zero past
  rest-next i l p e z = all-next i past p (past_is i l e) z

module _ (b : List ℕ) (M i : ℕ) where
  pub waiting_unknown : (q : Request) → q ≡ request_at b (request_place i) → is_drive (read_desk b).table q.job.drive ≡ false → false ≡ waiting_good b M i
  unfolding waiting_good
  waiting_unknown q e k =
      let k' : is_drive (read_desk b).table (request_at b (request_place i)).job.drive ≡ false = rw e at k in
      rw k' (sym (both_false (both (is_request b (request_place i)) (below 8 1 b (finished_place i)))))

  pub waiting_tests : {d : Drive} {ok f z fits r : Bool} (q : Request) → q ≡ request_at b (request_place i) → is_drive (read_desk b).table q.job.drive ≡ true
      → d ≡ drive_at (read_desk b).table (pick (is_drive (read_desk b).table q.job.drive) q.job.drive first_drive) → ok ≡ request_ok d M q
      → f ≡ is_request b (request_place i) → z ≡ below 8 1 b (finished_place i) → fits ≡ both f z → r ≡ both fits ok → r ≡ waiting_good b M i
  unfolding waiting_good
  waiting_tests q e k ed eo ef ez et er =
      let k' : is_drive (read_desk b).table (request_at b (request_place i)).job.drive ≡ true = rw e at k in
      rw (er, et, ez, ef, rw (ed, k, e) at eo, k')

module _ (b : List ℕ) {n : ℕ} (en : n ≡ le 8 b count_at) where
  pub table_many : 8 < n → false ≡ table_good b
  unfolding table_good
  table_many l = rw (← en, lt-leb n 8 l)

  pub table-bad : {s : ℕ} {t : Bool} → n ≤ 8 → s ≡ le 8 b store_at → t ≡ drives_good n b (s / 512) → t ≡ false → false ≡ table_good b
  unfolding table_good
  table-bad l es e f = rw (← en, ← es, le-leb n 8 l, sym e ∙ f)

  pub table_tests : {s : ℕ} {t x y r : Bool} → n ≤ 8 → s ≡ le 8 b store_at → t ≡ drives_good n b (s / 512) → t ≡ true
      → x ≡ rest_zero 8 n b → y ≡ drives_apart n b → r ≡ both x y → r ≡ table_good b
  unfolding table_good
  table_tests l es e f ex ey er = rw (er, ex, ey, ← en, ← es, le-leb n 8 l, sym e ∙ f)

module _ (b : List ℕ) (h : Bytes b) where
  pub judged-size : (length b ≡ desk_size → ⊥) → false ≡ accepted b
  unfolding judged
  judged-size n = rw (← judged-is b h, ne_eqb (length b) desk_size n)

  pub judged-pointer : {p : ℕ} → length b ≡ desk_size → p ≡ le 8 b pointer_at → 8 ≤ p → false ≡ accepted b
  unfolding judged
  judged-pointer {p} l e m = rw (← judged-is b h, eq-eqb (length b) desk_size l, ← e, le-ltb p 8 m) (sym (both_false (table_good b)))

  pub judged-table : {t : Bool} → length b ≡ desk_size → t ≡ table_good b → t ≡ false → false ≡ accepted b
  unfolding judged
  judged-table l e f = rw (← judged-is b h, eq-eqb (length b) desk_size l, sym e ∙ f)

  module _ {p a : ℕ} {t r : Bool} (l : length b ≡ desk_size) (ep : p ≡ le 8 b pointer_at) (m : p < 8) (e : t ≡ table_good b) (f : t ≡ true) (ea : a ≡ le 8 b arena_at) (er : r ≡ rows_good 8 b (a / 8)) where
    pub judged_rows : r ≡ false → false ≡ accepted b
    unfolding judged
    judged_rows z = rw (← judged-is b h, eq-eqb (length b) desk_size l, sym e ∙ f, ← ep, lt-ltb p 8 m, ← ea, sym er ∙ z)

    pub judged-more : {x : Bool} → r ≡ true → x ≡ more_good b (a / 8) → x ≡ accepted b
    unfolding judged
    judged-more z k = rw (← judged-is b h, eq-eqb (length b) desk_size l, sym e ∙ f, ← ep, lt-ltb p 8 m, ← ea, sym er ∙ z) k

-- ---- a block that is refused for one section

module _ (b : List ℕ) (h : Bytes b) where
  pub more-refused : more_good b (window_length (le 8 b arena_at)) ≡ false → accepted b ≡ false
  unfolding judged
  more-refused e =
      sym (judged-is b h)
      ∙ rw (e, both_false (rows_good 8 b (window_length (le 8 b arena_at))), both_false (ltb (le 8 b pointer_at) 8), both_false (table_good b)) (both_false (eqb (length b) desk_size))

  pub bads_refused : bads_good b ≡ false → accepted b ≡ false
  bads_refused e = more-refused (sym (more_unlisted b (window_length (le 8 b arena_at)) refl e))

  pub count-refused : below 8 256 b (bads_count_at 0) ≡ false → accepted b ≡ false
  unfolding bads_good
  count-refused e = bads_refused (rw e)

  pub list_refused : (i : ℕ) → i < 8 → listed_at (read_desk b).table i ≡ false → accepted b ≡ false
  unfolding bads_good listed_to
  list_refused i l e =
      bads_refused (ap (both (below 8 256 b (bads_count_at 0))) (sym (all_fails 8 i (listed_at (read_desk b).table) l refl e)) ∙ both_false (below 8 256 b (bads_count_at 0)))
