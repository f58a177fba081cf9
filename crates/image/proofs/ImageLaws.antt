-- A desk is read back from its image, and a block that is an image is the image of what is read from it.
-- Assumes nothing.
use Prim.Native.Nat.{ℕ, zero, suc, ◌+◌, ◌*◌, ◌%◌, ◌^◌, ◌-◌, ◌≤◌, ◌<◌}
use native.Mathlib.Nat.{add-zero, zero-add, mul-zero, mul-suc, mul-le-mul_left, mod-eq_of_lt}
use native.Mathlib.Omega.{arith}
use mathlib.Core.Path.{◌≡◌, refl, sym, ◌∙◌, ap, subst}
use mathlib.Core.Logic.{⊎_elim}
use mathlib.Core.Bool.{Bool, true, false}
use mathlib.Core.List.{List, [], ◌∷◌, ◌++◌, append_assoc, append-nil}
use lib.ListN.{length, take, get_or, replicate, length-append, get_or-append, get_or-eq_default}
use lib.Seq.{get_or-append-add, drop_at, take_at, take_all}
use lib.Dec.{eqb}
use borrow.Author.Tests.{eq-eqb, eqb-true}
use Rattle.logic.proofs.LogicLaws.{true≢false, lt_or_le}
use Rattle.logic.specs.Logic.{pick, both}
use Rattle.words.specs.Words.{Bytes, le, le_bytes, part}
use Rattle.words.proofs.WordsLaws.{le_lt, le_ext, read-write, write_read, le_bytes-append, length-le_bytes, bytes-le_bytes, bytes-part}
use Rattle.drive.specs.declared.Drive.{Drive}
use Rattle.drive.specs.Drive.{same}
use Rattle.drive.proofs.DriveLaws.{same_refl, same_true}
use Rattle.table.specs.Table.{no_drive}
use Rattle.int13.specs.declared.Registers.{Registers}
use Rattle.desk.specs.declared.Request.{Request}
use Rattle.desk.specs.declared.Stage.{Stage}
use Rattle.desk.specs.declared.Stage.TheVariants.{Vacant, Waiting, Finished}
use Rattle.desk.specs.declared.Desk.{Desk}
use Rattle.desk.specs.Parts.{vacant_row, stage_at}
use Rattle.int13.specs.Answers.{register_numbers}
use Rattle.desk.specs.Acceptable.{accept}
use Rattle.desk.specs.Calls.{closed}
use Rattle.desk.proofs.AcceptableLaws.{closed-refused}
use Rattle.memory.proofs.Sets.{length_part}
use Rattle.image.specs.Image.{each, flat, listed, request_words, stage_words, row_words, rows_words, drive_words, slots_words, tail_words, marks_words, places_words, parameters_words, bads_words, desk_words, image, slot_size, row_at, slot_at, tail_at, mark_at, address_at, present_at, bytes_at, bads_count_at, bads_list_at, desk_size, count_at, pointer_at, arena_at, store_at, request_place, finished_place, registers_at, request_at, read_stage, read_row, read_drive, read_rows, read_slots, read_marks, read_addresses, read_counts, read_desk, is_image, desk_of, accepted, FitsRegisters, FitsRequest, FitsStage, FitsDrive, FitsTable, FitsDesk, ImageOf, Exact}
use Rattle.image.proofs.Fill.{each_append, length-each, length-flat, length_row, length-drive, length_rows, length_slots, length-places, length-parameters, length_bads, flat_words}
use Rattle.image.proofs.Fields.{listed-is, length-marks, row_of, slot_of, address-of, bads_count_of}

-- ---- members of a list that is put together

past : (a b : List ℕ) (m n : ℕ) → length a ≡ m → get_or (a ++ b) (m + n) 0 ≡ get_or b n 0
past a b m n e = subst (λ (k : ℕ). get_or (a ++ b) (k + n) 0 ≡ get_or b n 0) e (get_or-append-add a b n 0)

module _ {A : Type 0} (f : A → List ℕ) (n : ℕ) (wide : (x : A) → length (f x) ≡ n) (e : A) where
  each_at : (xs : List A) (t : List ℕ) (k j : ℕ) → k < length xs → j < n → get_or (each f xs ++ t) (n * k + j) 0 ≡ get_or (f (get_or xs k e)) j 0
  unfolding each
  each_at [] t k j h l = absurd (omega arith)
  each_at (x ∷ xs) t zero j h l =
      let z : n * 0 + j ≡ j = ap (λ (m : ℕ). m + j) (mul-zero n) ∙ zero-add j in
      rw (append_assoc, z) (get_or-append (f x) (each f xs ++ t) 0 j (omega (arith, wide x)))
  each_at (x ∷ xs) t (suc k) j h l =
      let z : n * suc k + j ≡ n + (n * k + j) = rw (mul-suc n k) (omega arith) in
      rw (append_assoc, z) (past (f x) (each f xs ++ t) n (n * k + j) (wide x) ∙ each_at xs t k j (omega arith) l)

-- ---- what bytes say

-- from a place the bytes are those of the words ws
unfoldable pub Says : List ℕ → ℕ → List ℕ → Type 0
Says s i ws = (j m : ℕ) → j < length ws → m < 8 → get_or s (i + 8 * j + m) 0 ≡ get_or (le_bytes 8 (get_or ws j 0)) m 0

-- the first k bytes of a word that fits them are the word
low : (k m v : ℕ) → v < 256 ^ k → le k (le_bytes (k + m) v) 0 ≡ v
low k m v h =
    le_ext k (le_bytes (k + m) v) (le_bytes k v) 0 0
    (λ i l. rw (le_bytes-append k m v) (get_or-append (le_bytes k v) _ 0 (0 + i) (omega (arith, length-le_bytes k v))))
    ∙ read-write k v h

module _ (s : List ℕ) (i : ℕ) (ws : List ℕ) (h : Says s i ws) where
  -- a field of k bytes
  field : (k j v : ℕ) → k ≤ 8 → j < length ws → get_or ws j 0 ≡ v → v < 256 ^ k → le k s (i + 8 * j) ≡ v
  unfolding Says
  field k j v n l e f =
      let z : k + (8 - k) ≡ 8 = omega arith in
      le_ext k s (le_bytes 8 (get_or ws j 0)) (i + 8 * j) 0 (λ m q. rw zero-add (h j m l (omega arith)))
      ∙ ap (λ (x : ℕ). le k (le_bytes 8 x) 0) e
      ∙ subst (λ (x : ℕ). le k (le_bytes x v) 0 ≡ v) z (low k (8 - k) v f)

  -- a field of one byte
  byte : (j v : ℕ) → j < length ws → get_or ws j 0 ≡ v → v < 256 → get_or s (i + 8 * j) 0 ≡ v
  unfolding le_bytes Says
  byte j v l e f = rw add-zero at (h j 0 l (omega arith)) ∙ ap (λ (x : ℕ). x % 256) e ∙ mod-eq_of_lt f

  -- the bytes of a name
  name : (k j : ℕ) (a : List ℕ) → k ≤ 8 → j < length ws → Bytes s → i + 8 * j + k ≤ length s → length a ≡ k → Bytes a → get_or ws j 0 ≡ le k a 0
      → part k s (i + 8 * j) ≡ a
  name k j a n l bs r la ba e =
      sym (write_read k s (i + 8 * j) bs r)
      ∙ ap (le_bytes k) (field k j (le k a 0) n l e (le_lt k a 0 ba))
      ∙ write_read k a 0 ba (omega arith)
      ∙ take_all k a (omega arith)

-- the words of two lists
says_left : (s : List ℕ) (i : ℕ) (a b : List ℕ) → Says s i (a ++ b) → Says s i a
unfolding Says
says_left s i a b h j m l q =
    h j m (rw length-append (omega arith)) q ∙ ap (λ (x : ℕ). get_or (le_bytes 8 x) m 0) (get_or-append a b 0 j l)

says_right : (s : List ℕ) (i at : ℕ) (a b : List ℕ) → at ≡ i + 8 * length a → Says s i (a ++ b) → Says s at b
unfolding Says
says_right s i at a b e h j m l q =
    let z : at + 8 * j + m ≡ i + 8 * (length a + j) + m = omega arith in
    rw z (h (length a + j) m (rw length-append (omega arith)) q ∙ ap (λ (x : ℕ). get_or (le_bytes 8 x) m 0) (get_or-append-add a b j 0))

-- ---- registers, a stage, a drive

carry-bit : (c : Bool) → eqb (pick c 1 0) 1 ≡ c
carry-bit true = refl
carry-bit false = refl

bit-fits : (c : Bool) → pick c 1 0 < 256
bit-fits true = omega arith
bit-fits false = omega arith

registers-read : (s : List ℕ) (i : ℕ) (r : Registers) → Says s i (register_numbers r) → FitsRegisters r → registers_at s i ≡ r
registers-read s i r h f =
    let F = field s i (register_numbers r) h in
    let z : le 2 s i ≡ r.ax = rw add-zero at (F 2 0 r.ax (omega arith) (omega arith) refl f.ax) in
    let c : eqb (get_or s (i + 56) 0) 1 ≡ r.carry =
    ap (λ (x : ℕ). eqb x 1) (byte s i (register_numbers r) h 7 (pick r.carry 1 0) (omega arith) refl (bit-fits r.carry)) ∙ carry-bit r.carry in
    rw (
      z,
      F 2 1 r.bx (omega arith) (omega arith) refl f.bx,
      F 2 2 r.cx (omega arith) (omega arith) refl f.cx,
      F 2 3 r.dx (omega arith) (omega arith) refl f.dx,
      F 2 4 r.ds (omega arith) (omega arith) refl f.ds,
      F 2 5 r.si (omega arith) (omega arith) refl f.si,
      F 2 6 r.es (omega arith) (omega arith) refl f.es,
      c,
    )

request-read : (s : List ℕ) (i : ℕ) (q : Request) → Says s i (request_words q) → FitsRequest q → request_at s i ≡ q
request-read s i q h f =
    let F = field s i (request_words q) h in
    rw (
      registers-read s i q.job.registers (says_left s i (register_numbers q.job.registers) _ h) f.registers,
      byte s i (request_words q) h 8 q.job.drive (omega arith) refl f.drive,
      F 8 9 q.job.start (omega arith) (omega arith) refl f.start,
      F 8 10 q.job.count (omega arith) (omega arith) refl f.count,
      F 8 11 q.job.buffer (omega arith) (omega arith) refl f.buffer,
      F 8 12 q.job.packet (omega arith) (omega arith) refl f.packet,
      F 8 13 q.moved (omega arith) (omega arith) refl f.moved,
    )

stage_read : (s : List ℕ) (i : ℕ) (x : Stage) → Says s i (stage_words x) → FitsStage x → read_stage s i ≡ x
unfolding read_stage FitsStage
stage_read s i Vacant h f = rw (rw add-zero at (byte s i (stage_words Vacant) h 0 0 (omega arith) refl (omega arith)))
stage_read s i (Waiting q) h f =
    rw (
      rw add-zero at (byte s i (stage_words (Waiting q)) h 0 1 (omega arith) refl (omega arith)),
      request-read s (request_place i) q (says_left s (request_place i) (request_words q) _ (says_right s i (request_place i) (1 ∷ []) _ refl h)) f,
    )
stage_read s i (Finished r) h f =
    rw (
      rw add-zero at (byte s i (stage_words (Finished r)) h 0 2 (omega arith) refl (omega arith)),
      registers-read s (finished_place i) r (says_right s i (finished_place i) (2 ∷ replicate 14 0) _ refl h) f,
    )

pub drive-read : (s : List ℕ) (i : ℕ) (d : Drive) → Says s i (drive_words d) → FitsDrive d → Bytes s → i + slot_size ≤ length s → read_drive s i ≡ d
unfolding read_drive
drive-read s i d h f bs l =
    let n = f.numbers in
    let F = field s i (drive_words d) h in
    let N = name s i (drive_words d) h in
    let z : le 4 s i ≡ d.cylinders = rw add-zero at (F 4 0 d.cylinders (omega arith) (omega arith) refl n.cylinders) in
    rw (
      z,
      F 4 1 d.heads (omega arith) (omega arith) refl n.heads,
      F 4 2 d.sectors (omega arith) (omega arith) refl n.sectors,
      F 8 3 d.blocks (omega arith) (omega arith) refl n.blocks,
      F 8 4 d.first (omega arith) (omega arith) refl n.first,
      F 2 5 d.flags (omega arith) (omega arith) refl n.flags,
      F 2 6 d.c (omega arith) (omega arith) refl n.c,
      F 2 7 d.h (omega arith) (omega arith) refl n.h,
      byte s i (drive_words d) h 8 d.s (omega arith) refl f.s,
      byte s i (drive_words d) h 9 d.protection (omega arith) refl f.protection,
      N 4 10 d.bus (omega arith) (omega arith) bs (omega arith) n.bus f.bus refl,
      N 8 11 d.interface (omega arith) (omega arith) bs (omega arith) n.interface f.interface refl,
      N 8 12 d.path (omega arith) (omega arith) bs (omega arith) n.path f.path refl,
      N 8 13 d.device (omega arith) (omega arith) bs (omega arith) n.device f.device refl,
      F 2 14 d.kind (omega arith) (omega arith) refl n.kind,
      N 8 15 d.tail (omega arith) (omega arith) bs (omega arith) n.tail f.tail refl,
    )

-- ---- a desk's image

-- member k of a list that is put together
says_each : {A : Type 0} (f : A → List ℕ) (n : ℕ) (wide : (x : A) → length (f x) ≡ n) (e : A) (s : List ℕ) (i at : ℕ) (xs : List A) (t : List ℕ) (k : ℕ)
    → k < length xs → at ≡ i + 8 * (n * k) → Says s i (each f xs ++ t) → Says s at (f (get_or xs k e))
unfolding Says
says_each f n wide e s i at xs t k l p h j m q r =
    let w : j < n = omega (arith, wide (get_or xs k e)) in
    let z : at + 8 * j + m ≡ i + 8 * (n * k + j) + m = omega arith in
    let b : n * k + j < length (each f xs ++ t) = rw (length-append, length-each f n wide xs) (below n k j (length xs) (length t) l w) in
    rw z (h (n * k + j) m b r ∙ ap (λ (x : ℕ). get_or (le_bytes 8 x) m 0) (each_at f n wide e xs t k j l w))
  where
    below : (n k j a b : ℕ) → k < a → j < n → n * k + j < n * a + b
    below n k j a b l w =
        let m : n * suc k ≤ n * a = mul-le-mul_left n l in
        omega (arith, m, mul-suc n k)

-- marks, whatever follows them
marks-read : (s : List ℕ) (i : ℕ) (marks : List Bool) (t : List ℕ) → length marks ≡ 8 → Says s i (marks_words marks ++ t) → read_marks s i ≡ marks
marks-read s i marks t e h =
    listed-is (λ k. eqb (get_or s (i + 8 * k) 0) 1) marks 8 false e (λ k l.
    let m = says_each (λ (x : Bool). pick x 1 0 ∷ []) 1 (λ x. refl) false s i (i + 8 * k) marks t k (omega arith) (omega arith) h in
    ap (λ (x : ℕ). eqb x 1) (rw add-zero at (byte s (i + 8 * k) (pick (get_or marks k false) 1 0 ∷ []) m 0 (pick (get_or marks k false) 1 0) (omega arith) refl (bit-fits (get_or marks k false))))
    ∙ carry-bit (get_or marks k false))

says_flat : (ws : List ℕ) → Says (flat ws) 0 ws
unfolding Says
says_flat ws j m l q =
    let z : 0 + 8 * j + m ≡ 8 * j + m = omega arith in
    rw (z, ← append-nil (flat ws)) (each_at (le_bytes 8) 8 (length-le_bytes 8) 0 ws [] j m l q)

pub bytes-append : (a b : List ℕ) → Bytes a → Bytes b → Bytes (a ++ b)
bytes-append [] b p q i = q i
bytes-append (x ∷ a) b p q zero = p 0
bytes-append (x ∷ a) b p q (suc i) = bytes-append a b (λ j. p (suc j)) q i

pub bytes-flat : (ws : List ℕ) → Bytes (flat ws)
unfolding each
bytes-flat [] i = omega arith
bytes-flat (x ∷ ws) i = bytes-append (le_bytes 8 x) (flat ws) (bytes-le_bytes 8 x) (bytes-flat ws) i

pub bytes-image : (d : Desk) → Bytes (image d)
unfolding image
bytes-image d = bytes-flat (desk_words d)

module _ (d : Desk) (fit : FitsDesk d) where
  pub length-image : length (image d) ≡ desk_size
  unfolding image desk_words
  length-image =
      let R = rows_words d.rows in
      let S = slots_words d.table.drives in
      let P = places_words d in
      let Q = parameters_words d.table in
      let B = bads_words d.table in
      length-flat (desk_words d)
      ∙ omega (
        arith,
        length_rows d.rows fit.eight,
        length_slots d.table.drives fit.table.eight,
        length-places d fit.placed fit.addresses,
        length-parameters d.table fit.table.present,
        length_bads d.table fit.table.counts,
        length-append R (S ++ (tail_words d ++ (P ++ (Q ++ B)))),
        length-append S (tail_words d ++ (P ++ (Q ++ B))),
        length-append (tail_words d) (P ++ (Q ++ B)),
        length-append P (Q ++ B),
        length-append Q B,
      )

  -- the words of each section

  says_rows : Says (image d) (row_at 0) (rows_words d.rows ++ (slots_words d.table.drives ++ (tail_words d ++ (places_words d ++ (parameters_words d.table ++ bads_words d.table)))))
  unfolding image desk_words
  says_rows = says_flat (desk_words d)

  says_slots : Says (image d) (slot_at 0) (slots_words d.table.drives ++ (tail_words d ++ (places_words d ++ (parameters_words d.table ++ bads_words d.table))))
  says_slots = says_right (image d) (row_at 0) (slot_at 0) (rows_words d.rows) _ (omega (arith, length_rows d.rows fit.eight)) says_rows

  says_tail : Says (image d) (tail_at 0) (tail_words d ++ (places_words d ++ (parameters_words d.table ++ bads_words d.table)))
  says_tail = says_right (image d) (slot_at 0) (tail_at 0) (slots_words d.table.drives) _ (omega (arith, length_slots d.table.drives fit.table.eight)) says_slots

  says_more : Says (image d) (mark_at 0) (places_words d ++ (parameters_words d.table ++ bads_words d.table))
  says_more = says_right (image d) (tail_at 0) (mark_at 0) (tail_words d) _ (omega arith) says_tail

  says_places : Says (image d) (mark_at 0) (places_words d)
  says_places = says_left (image d) (mark_at 0) (places_words d) _ says_more

  says_addresses : Says (image d) (address_at 0) d.addresses
  says_addresses = says_right (image d) (mark_at 0) (address_at 0) (marks_words d.placed) d.addresses (omega (arith, fit.placed, length-marks d.placed)) says_places

  says_behind : Says (image d) (present_at 0) (parameters_words d.table ++ bads_words d.table)
  says_behind = says_right (image d) (mark_at 0) (present_at 0) (places_words d) _ (omega (arith, length-places d fit.placed fit.addresses)) says_more

  says_parameters : Says (image d) (present_at 0) (parameters_words d.table)
  says_parameters = says_left (image d) (present_at 0) (parameters_words d.table) _ says_behind

  says_counts : Says (image d) (bads_count_at 0) d.table.counts
  says_counts =
      says_left (image d) (bads_count_at 0) d.table.counts _
      (says_right (image d) (present_at 0) (bads_count_at 0) (parameters_words d.table) (bads_words d.table) (omega (arith, length-parameters d.table fit.table.present)) says_behind)

  -- each section is read back

  rows_read : read_rows (image d) ≡ d.rows
  rows_read =
      listed-is (λ g. read_row (image d) (row_at g)) d.rows 8 vacant_row fit.eight (λ g l.
      ap (λ (s : Stage). record { stage = s })
      (stage_read (image d) (row_at g) (stage_at d g)
      (says_each row_words 23 length_row vacant_row (image d) (row_at 0) (row_at g) d.rows _ g (omega (arith, fit.eight)) (omega arith) says_rows) (fit.each g l)))

  slots_read : read_slots (image d) ≡ d.table.drives
  slots_read =
      listed-is (λ i. read_drive (image d) (slot_at i)) d.table.drives 8 no_drive fit.table.eight (λ i l.
      drive-read (image d) (slot_at i) (get_or d.table.drives i no_drive)
      (says_each drive_words 16 length-drive no_drive (image d) (slot_at 0) (slot_at i) d.table.drives _ i (omega (arith, fit.table.eight)) (omega arith) says_slots)
      (fit.table.each i l) (bytes-image d) (omega (arith, length-image)))

  tail-read : (j v : ℕ) → j < 4 → get_or (tail_words d) j 0 ≡ v → v < 256 ^ 8 → le 8 (image d) (tail_at j) ≡ v
  tail-read j v l e f = field (image d) (tail_at 0) (tail_words d) (says_left (image d) (tail_at 0) (tail_words d) _ says_tail) 8 j v (omega arith) l e f

  addresses-read : read_addresses (image d) ≡ d.addresses
  addresses-read =
      listed-is (λ g. le 8 (image d) (address_at g)) d.addresses 8 0 fit.addresses (λ g l.
      field (image d) (address_at 0) d.addresses says_addresses 8 g (get_or d.addresses g 0) (omega arith) (omega (arith, fit.addresses)) refl (fit.address g))

  counts-read : read_counts (image d) ≡ d.table.counts
  counts-read =
      listed-is (λ i. get_or (image d) (bads_count_at i) 0) d.table.counts 8 0 fit.table.counts (λ i l.
      byte (image d) (bads_count_at 0) d.table.counts says_counts i (get_or d.table.counts i 0) (omega (arith, fit.table.counts)) refl (fit.table.few_bads i))

  -- words that are the bytes p as they are, behind others and before others
  given-read : (p : List ℕ) (n k at : ℕ) (F T : List ℕ) → desk_words d ≡ F ++ (listed (λ j. le 8 p (8 * j)) 0 n ++ T) → Bytes p → length p ≡ k → k ≡ 8 * n → 8 * length F ≡ at
      → part k (image d) at ≡ p
  unfolding image
  given-read p n k at F T e h l m f =
      let W = listed (λ j. le 8 p (8 * j)) 0 n in
      let w : flat W ≡ p = flat_words p n h (l ∙ m) in
      let whole : image d ≡ flat F ++ (p ++ flat T) =
      ap flat e ∙ each_append (le_bytes 8) F (W ++ T) ∙ ap (λ (x : List ℕ). flat F ++ x) (each_append (le_bytes 8) W T ∙ ap (λ (x : List ℕ). x ++ flat T) w) in
      ap (λ (s : List ℕ). part k s at) whole
      ∙ ap (take k) (drop_at (flat F) (p ++ flat T) at (length-flat F ∙ f))
      ∙ take_at p (flat T) k l

  -- the bytes of the parameters and of the bad blocks are as they are
  parameters-read : part 112 (image d) (bytes_at 0) ≡ d.table.parameters
  unfolding desk_words
  parameters-read =
      let R = rows_words d.rows in
      let S = slots_words d.table.drives in
      let P = places_words d in
      let N = marks_words d.table.present in
      given-read d.table.parameters 14 112 (bytes_at 0) (R ++ (S ++ (tail_words d ++ (P ++ N)))) (bads_words d.table) (simp append_assoc)
      fit.table.bytes fit.table.parameters refl (omega (
        arith,
        length_rows d.rows fit.eight,
        length_slots d.table.drives fit.table.eight,
        length-places d fit.placed fit.addresses,
        length-marks d.table.present,
        fit.table.present,
        length-append R (S ++ (tail_words d ++ (P ++ N))),
        length-append S (tail_words d ++ (P ++ N)),
        length-append (tail_words d) (P ++ N),
        length-append P N,
      ))

  bads_read : part 1024 (image d) (bads_list_at 0) ≡ d.table.bad
  unfolding desk_words
  bads_read =
      let R = rows_words d.rows in
      let S = slots_words d.table.drives in
      let P = places_words d in
      let Q = parameters_words d.table in
      let C = d.table.counts in
      given-read d.table.bad 128 1024 (bads_list_at 0) (R ++ (S ++ (tail_words d ++ (P ++ (Q ++ C))))) [] (simp (append_assoc, append-nil))
      fit.table.lists fit.table.bad refl (omega (
        arith,
        length_rows d.rows fit.eight,
        length_slots d.table.drives fit.table.eight,
        length-places d fit.placed fit.addresses,
        length-parameters d.table fit.table.present,
        fit.table.counts,
        length-append R (S ++ (tail_words d ++ (P ++ (Q ++ C)))),
        length-append S (tail_words d ++ (P ++ (Q ++ C))),
        length-append (tail_words d) (P ++ (Q ++ C)),
        length-append P (Q ++ C),
        length-append Q C,
      ))

  pub read-image : read_desk (image d) ≡ d
  unfolding read_desk
  read-image =
      rw (
        rows_read,
        slots_read,
        tail-read 0 d.table.count (omega arith) refl fit.table.count,
        tail-read 1 d.pointer (omega arith) refl fit.pointer,
        tail-read 2 d.arena (omega arith) refl fit.arena,
        tail-read 3 d.store (omega arith) refl fit.store,
        marks-read (image d) (mark_at 0) d.placed d.addresses fit.placed says_places,
        addresses-read,
        marks-read (image d) (present_at 0) d.table.present _ fit.table.present says_parameters,
        parameters-read,
        counts-read,
        bads_read,
      )

-- the desk of a desk's image is the desk
pub desk-image : (d : Desk) → FitsDesk d → desk_of (image d) ≡ d
unfolding desk_of is_image
desk-image d fit = rw (eq-eqb _ _ (length-image d fit), read-image d fit, same_refl)

-- and is accepted where the desk is acceptable
pub accepted-image : (d : Desk) → FitsDesk d → accepted (image d) ≡ accept d
unfolding accepted
accepted-image d fit = ap accept (desk-image d fit)

-- ---- what is read from bytes fits its fields

module _ (b : List ℕ) (h : Bytes b) where
  registers_fit : (i : ℕ) → FitsRegisters (registers_at b i)
  registers_fit i =
      record {
        ax = le_lt 2 b i h;
        bx = le_lt 2 b (i + 8) h;
        cx = le_lt 2 b (i + 16) h;
        dx = le_lt 2 b (i + 24) h;
        ds = le_lt 2 b (i + 32) h;
        si = le_lt 2 b (i + 40) h;
        es = le_lt 2 b (i + 48) h;
      }

  request-fits : (i : ℕ) → FitsRequest (request_at b i)
  request-fits i =
      record {
        registers = registers_fit i;
        drive = h (i + 64);
        start = le_lt 8 b (i + 72) h;
        count = le_lt 8 b (i + 80) h;
        buffer = le_lt 8 b (i + 88) h;
        packet = le_lt 8 b (i + 96) h;
        moved = le_lt 8 b (i + 104) h;
      }

  stage_fits : (i : ℕ) → FitsStage (read_stage b i)
  unfolding read_stage FitsStage
  stage_fits i = go (eqb (get_or b i 0) 1) (eqb (get_or b i 0) 2)
    where
      go : (p q : Bool) → FitsStage (pick p (Waiting (request_at b (request_place i))) (pick q (Finished (registers_at b (finished_place i))) Vacant))
      go true q = request-fits (request_place i)
      go false true = registers_fit (finished_place i)
      go false false = tt

  pub drive-fits : (i : ℕ) → i + slot_size ≤ length b → FitsDrive (read_drive b i)
  unfolding read_drive
  drive-fits i l =
      record {
        numbers =
            record {
              cylinders = le_lt 4 b i h;
              heads = le_lt 4 b (i + 8) h;
              sectors = le_lt 4 b (i + 16) h;
              blocks = le_lt 8 b (i + 24) h;
              first = le_lt 8 b (i + 32) h;
              flags = le_lt 2 b (i + 40) h;
              c = le_lt 2 b (i + 48) h;
              h = le_lt 2 b (i + 56) h;
              bus = length_part 4 b (i + 80) (omega arith);
              interface = length_part 8 b (i + 88) (omega arith);
              path = length_part 8 b (i + 96) (omega arith);
              device = length_part 8 b (i + 104) (omega arith);
              kind = le_lt 2 b (i + 112) h;
              tail = length_part 8 b (i + 120) (omega arith);
            };
        s = h (i + 64);
        protection = h (i + 72);
        bus = bytes-part 4 b (i + 80) h;
        interface = bytes-part 8 b (i + 88) h;
        path = bytes-part 8 b (i + 96) h;
        device = bytes-part 8 b (i + 104) h;
        tail = bytes-part 8 b (i + 120) h;
      }

  counts_fit : (i : ℕ) → get_or (read_counts b) i 0 < 256
  counts_fit i =
      ⊎_elim
      (λ l. rw (bads_count_of b i l) (h (bads_count_at i)))
      (λ l. rw (get_or-eq_default (read_counts b) 0 {n = i} l) (omega arith))
      (lt_or_le i 8)

  table_fits : length b ≡ desk_size → FitsTable (read_desk b).table
  unfolding read_desk
  table_fits l =
      record {
        eight = refl;
        each = λ i q. rw (slot_of b i q) (drive-fits (slot_at i) (omega arith));
        count = le_lt 8 b count_at h;
        present = refl;
        parameters = length_part 112 b (bytes_at 0) (omega arith);
        bytes = bytes-part 112 b (bytes_at 0) h;
        counts = refl;
        few_bads = counts_fit;
        bad = length_part 1024 b (bads_list_at 0) (omega arith);
        lists = bytes-part 1024 b (bads_list_at 0) h;
      }

  addresses_fit : (g : ℕ) → get_or (read_addresses b) g 0 < 256 ^ 8
  addresses_fit g =
      ⊎_elim
      (λ l. rw (address-of b g l) (le_lt 8 b (address_at g) h))
      (λ l. rw (get_or-eq_default (read_addresses b) 0 {n = g} l) (omega arith))
      (lt_or_le g 8)

  read_fits : length b ≡ desk_size → FitsDesk (read_desk b)
  unfolding read_desk
  read_fits l =
      record {
        eight = refl;
        each = λ g q. rw (row_of b g q) (stage_fits (row_at g));
        table = table_fits l;
        pointer = le_lt 8 b pointer_at h;
        arena = le_lt 8 b arena_at h;
        store = le_lt 8 b store_at h;
        placed = refl;
        addresses = refl;
        address = addresses_fit;
      }

-- ---- accepted exactly when it is the image of an acceptable desk

-- what an accepted block is
pub record AcceptedBlock (b : List ℕ) : Type 0 where
  pub size : length b ≡ desk_size
  pub desk : desk_of b ≡ read_desk b
  pub accept : accept (read_desk b) ≡ true
  pub image : image (read_desk b) ≡ b

pub accepted-read : (b : List ℕ) → accepted b ≡ true → AcceptedBlock b
unfolding accepted desk_of is_image
accepted-read b = go (eqb (length b) desk_size) (same b (image (read_desk b))) refl refl
  where
    go : (p q : Bool) → eqb (length b) desk_size ≡ p → same b (image (read_desk b)) ≡ q → accept (pick (both p q) (read_desk b) (closed 0 0)) ≡ true → AcceptedBlock b
    go true true e f k =
        record {
          size = eqb-true (length b) desk_size e;
          desk = rw (e, f);
          accept = k;
          image = sym (same_true b (image (read_desk b)) f);
        }
    go true false e f k = true≢false _ k (closed-refused 0 0)
    go false q e f k = true≢false _ k (closed-refused 0 0)

only : (b : List ℕ) → Bytes b → accepted b ≡ true → ImageOf b (desk_of b)
only b h e =
    let w = accepted-read b e in
    rw w.desk (record { fits = read_fits b h w.size; acceptable = w.accept; image = w.image })

every : (b : List ℕ) (d : Desk) → ImageOf b d → (accepted b ≡ true) × (desk_of b ≡ d)
every b d i =
    (ap accepted (sym i.image) ∙ accepted-image d i.fits ∙ i.acceptable, ap desk_of (sym i.image) ∙ desk-image d i.fits)

-- both ways round
pub exact : Exact
exact = record { only = only; every = every }
