-- Acceptance of a block by number: parameters and placements (document 02, 2026-01), bad blocks (2026-04) and kinds (2026-06) that are good, and each
-- rule broken alone.
-- Assumes nothing.
use mathlib.Core.Path.{◌≡◌, refl, sym, ◌∙◌}
use mathlib.Core.Bool.{Bool, true, false}
use mathlib.Core.List.{List, [], ◌∷◌, ◌++◌, map}
use Prim.Native.Nat.{ℕ, zero, suc, ◌+◌, ◌*◌, ◌<◌}
use native.Mathlib.Omega.{arith}
use lib.ListN.{length, get_or, set, replicate, get_or-replicate}
use lib.Seq.{sets}
use lib.Dec.{ltb, eqb}
use borrow.Author.Tests.{ltb-true, lt-ltb}
use Rattle.logic.specs.Logic.{both}
use Rattle.logic.proofs.LogicLaws.{both_true, both_intro, both_false}
use Rattle.words.specs.Words.{Bytes, le, le_bytes}
use Rattle.chs.specs.Chs.{in_limits}
use Rattle.drive.specs.declared.Drive.{Drive}
use Rattle.drive.specs.Drive.{pci, ata, i2o, same, bus_ok, interface_ok, geometry_fits, fields_ok, in_store, overlap, blank_numbers, blank_names, is_blank, is_i2o, kind_ok, zero_tail}
use Rattle.attached.specs.Bad.{held_of, ascends, are_blocks, list_ok, zero_past, bads_ok}
use Rattle.table.specs.declared.Table.{Table}
use Rattle.table.specs.Table.{no_drive, zero_drive, overlaps_any, refusal, sound_to, blank_to, attached_to, listed_at, listed_to, is_sound, parameters_to}
use Rattle.memory.specs.Window.{window_length}
use Rattle.desk.specs.declared.Row.{Row}
use Rattle.desk.specs.declared.Desk.{Desk}
use Rattle.desk.specs.Parts.{vacant_row}
use Rattle.desk.specs.Acceptable.{rows_ok, place_ok, placements_ok, accept}
use Rattle.image.specs.Image.{each, flat, listed, desk_words, image, desk_size, arena_at, read_stage, read_drive, read_desk, accepted, FitsStage, FitsDrive, FitsTable, FitsDesk}
use Rattle.image.specs.Judged.{below, is_slot, drive_good, drives_good, parameters_good, places_good, more_good, table_good, judged}
use Rattle.image.proofs.ImageLaws.{bytes-image, accepted-image}
use Rattle.image.proofs.Judged.{zero-fits, judged-is, more-refused, count-refused, list_refused}

-- ---- the sections behind the slots: three drives, of which the first and the last have parameters; guest 1 placed at 40h, guest 6 at 0

abbrev given : List ℕ
given = listed (λ k. 1 + k) 0 14 ++ (replicate 14 0 ++ (listed (λ k. 15 + k) 0 14 ++ replicate 70 0))

-- zeros stand for rows and slots; then count, pointer, lengths; marks, addresses, marks, bytes, and zeros for bad blocks
abbrev block : List ℕ
block =
    replicate 2496 0
    ++ (flat (3 ∷ 0 ∷ 768 ∷ 0
    ∷ 0 ∷ 1 ∷ 0 ∷ 0 ∷ 0 ∷ 0 ∷ 1 ∷ 0
    ∷ 0 ∷ 0x40 ∷ 0 ∷ 0 ∷ 0 ∷ 0 ∷ 0 ∷ 0
    ∷ 1 ∷ 0 ∷ 1 ∷ 0 ∷ 0 ∷ 0 ∷ 0 ∷ 0 ∷ [])
    ++ (given ++ replicate 1088 0))

-- the two sections of 2026-01
abbrev places_and_tables : List ℕ → ℕ → Bool
places_and_tables b M = both (parameters_good b) (places_good b M)

-- the block with another byte at a place
abbrev but : ℕ → ℕ → List ℕ
but at x = sets block at (x ∷ [])

-- in windows of 96 bytes two tables end at 60h, in windows of 95 past the end
pub windows : map (places_and_tables block) (96 ∷ 95 ∷ []) ≡ true ∷ false ∷ []
unfolding parameters_good places_good below each le_bytes le read_desk read_stage read_drive attached_to placements_ok place_ok parameters_to
windows = refl

-- a mark of 2, a mark with a second byte; an address without a mark; a misaligned one, one past the end, one before it
pub guests : map (λ (b : List ℕ). places_and_tables b 96) (but 2528 2 ∷ but 2537 1 ∷ but 2592 0x10 ∷ but 2600 0x38 ∷ but 2600 0x50 ∷ but 2600 0x30 ∷ [])
    ≡ false ∷ false ∷ false ∷ false ∷ false ∷ true ∷ []
unfolding parameters_good places_good below each le_bytes le read_desk read_stage read_drive attached_to placements_ok place_ok parameters_to
guests = refl

-- a mark of 2, a mark with a second byte; the mark of a slot past the count, with room for its table, and the same of one more drive
pub slots : map (λ (b : List ℕ). places_and_tables b 96) (but 2664 2 ∷ but 2657 1 ∷ sets (but 2600 0x30) 2680 (1 ∷ []) ∷ sets (sets (but 2600 0x30) 2680 (1 ∷ [])) 2496 (4 ∷ []) ∷ [])
    ≡ false ∷ false ∷ false ∷ true ∷ []
unfolding parameters_good places_good below each le_bytes le read_desk read_stage read_drive attached_to placements_ok place_ok parameters_to
slots = refl

-- the first and the last byte of a slot without a mark, and the last of all; other bytes where the mark stands
pub bytes : map (λ (b : List ℕ). places_and_tables b 96) (but 2734 1 ∷ but 2747 1 ∷ but 2831 1 ∷ but 2733 0 ∷ but 2748 0 ∷ [])
    ≡ false ∷ false ∷ false ∷ true ∷ true ∷ []
unfolding parameters_good places_good below each le_bytes le read_desk read_stage read_drive attached_to placements_ok place_ok parameters_to
bytes = refl

-- ---- the same in the block of a desk

-- a list of bytes, found by test
are_bytes : List ℕ → Bool
are_bytes [] = true
are_bytes (x ∷ l) = both (ltb x 256) (are_bytes l)

bytes-of : (l : List ℕ) → are_bytes l ≡ true → Bytes l
unfolding are_bytes
bytes-of [] e i = omega arith
bytes-of (x ∷ l) e zero = ltb-true x 256 (both_true (ltb x 256) (are_bytes l) e).0
bytes-of (x ∷ l) e (suc i) = bytes-of l (both_true (ltb x 256) (are_bytes l) e).1 i

-- one more that is not accepted
also : {x : Bool} {l m : List Bool} → x ≡ false → l ≡ m → x ∷ l ≡ false ∷ m
also e f = rw (e, f)

-- a byte changed
bytes-set : (l : List ℕ) (i x : ℕ) → Bytes l → x < 256 → Bytes (set l i x)
bytes-set [] i x h m j = omega arith
bytes-set (y ∷ l) zero x h m zero = m
bytes-set (y ∷ l) zero x h m (suc j) = h (suc j)
bytes-set (y ∷ l) (suc i) x h m zero = h 0
bytes-set (y ∷ l) (suc i) x h m (suc j) = bytes-set l i x (λ k. h (suc k)) m j

abbrev drive : ℕ → ℕ → Drive
drive blocks first = record {
  cylinders = 2;
  heads = 3;
  sectors = 4;
  blocks = blocks;
  first = first;
  flags = 0;
  c = 1;
  h = 1;
  s = 10;
  protection = 0;
  bus = pci;
  interface = ata;
  path = replicate 8 0;
  device = replicate 8 0;
  kind = 1;
  tail = replicate 8 0;
}

drive-fits : (blocks first : ℕ) → blocks < 256 → first < 256 → FitsDrive (drive blocks first)
unfolding are_bytes
drive-fits blocks first l m =
    record {
      numbers =
          record {
            cylinders = omega arith;
            heads = omega arith;
            sectors = omega arith;
            blocks = omega arith;
            first = omega arith;
            flags = omega arith;
            c = omega arith;
            h = omega arith;
            bus = refl;
            interface = refl;
            path = refl;
            device = refl;
            kind = omega arith;
            tail = refl;
          };
      s = omega arith;
      protection = omega arith;
      bus = bytes-of pci refl;
      interface = bytes-of ata refl;
      path = bytes-of (replicate 8 0) refl;
      device = bytes-of (replicate 8 0) refl;
      tail = bytes-of (replicate 8 0) refl;
    }

no_drive-fits : (n i : ℕ) → i < n → FitsDrive (get_or (replicate n zero_drive) i no_drive)
no_drive-fits n i l = rw (get_or-replicate {A = Drive} n i zero_drive no_drive l) zero-fits

-- vacant rows, windows of 96 bytes, a store of 300 blocks
abbrev desk_with : Table → List Bool → List ℕ → Desk
desk_with t placed addresses = record { rows = replicate 8 vacant_row; pointer = 5; table = t; arena = 768; store = 512 * 300; placed = placed; addresses = addresses }

desk-fits : (t : Table) (placed : List Bool) (addresses : List ℕ) → FitsTable t → length placed ≡ 8 → length addresses ≡ 8 → Bytes addresses → FitsDesk (desk_with t placed addresses)
unfolding FitsStage
desk-fits t placed addresses f p a h =
    record {
      eight = refl;
      each = λ g l. rw (get_or-replicate {A = Row} 8 g vacant_row vacant_row l) tt;
      table = f;
      pointer = omega arith;
      arena = omega arith;
      store = omega arith;
      placed = p;
      addresses = a;
      address = λ g. omega (arith, h g);
    }

-- the sections as above, guest 1 placed at an address
abbrev table : Table
table = record {
  drives = drive 100 0 ∷ drive 100 100 ∷ drive 100 200 ∷ replicate 5 zero_drive;
  count = 3;
  present = true ∷ false ∷ true ∷ replicate 5 false;
  parameters = given;
  counts = replicate 8 0;
  bad = replicate 1024 0;
}

abbrev desk : ℕ → Desk
desk address = desk_with table (false ∷ true ∷ false ∷ false ∷ false ∷ false ∷ true ∷ false ∷ []) (0 ∷ address ∷ replicate 6 0)

table_fits : FitsTable table
unfolding are_bytes
table_fits =
    record {
      eight = refl;
      each = each_fits;
      count = omega arith;
      present = refl;
      parameters = refl;
      bytes = bytes-of given refl;
      counts = refl;
      few_bads = bytes-of (replicate 8 0) refl;
      bad = refl;
      lists = bytes-of (replicate 1024 0) refl;
    }
  where
    each_fits : (i : ℕ) → i < 8 → FitsDrive (get_or table.drives i no_drive)
    each_fits zero l = drive-fits 100 0 (omega arith) (omega arith)
    each_fits (suc zero) l = drive-fits 100 100 (omega arith) (omega arith)
    each_fits (suc (suc zero)) l = drive-fits 100 200 (omega arith) (omega arith)
    each_fits (suc (suc (suc i))) l = no_drive-fits 5 i (omega arith)

-- accepted as it is, and with another good place
pub acceptance : accepted (image (desk 0x40)) ∷ accepted (image (desk 0x30)) ∷ accepted (image (desk 0x38)) ∷ [] ≡ true ∷ true ∷ false ∷ []
unfolding are_bytes accept is_sound sound_to blank_to attached_to listed_to bads_ok list_ok ascends are_blocks zero_past held_of le refusal overlaps_any overlap fields_ok in_store geometry_fits in_limits bus_ok interface_ok is_blank blank_numbers blank_names same rows_ok placements_ok place_ok parameters_to is_i2o zero_tail kind_ok
acceptance =
    rw (
      accepted-image (desk 0x40) (desk-fits _ _ _ table_fits refl refl (bytes-of (0 ∷ 0x40 ∷ replicate 6 0) refl)),
      accepted-image (desk 0x30) (desk-fits _ _ _ table_fits refl refl (bytes-of (0 ∷ 0x30 ∷ replicate 6 0) refl)),
      accepted-image (desk 0x38) (desk-fits _ _ _ table_fits refl refl (bytes-of (0 ∷ 0x38 ∷ replicate 6 0) refl)),
    )

-- its block with another byte at a place
abbrev desk_but : ℕ → ℕ → List ℕ
desk_but at x = sets (image (desk 0x40)) at (x ∷ [])

-- the sections behind its last words
abbrev more_but : ℕ → ℕ → Bool
more_but at x = more_good (desk_but at x) (window_length (le 8 (desk_but at x) arena_at))

but_refused : (at x : ℕ) → x < 256 → more_but at x ≡ false → accepted (desk_but at x) ≡ false
but_refused at x l e = more-refused (desk_but at x) (bytes-set (image (desk 0x40)) at x (bytes-image (desk 0x40)) l) e

mark_two : more_but 2528 2 ≡ false
unfolding more_good parameters_good places_good below image desk_words each le_bytes le read_desk read_stage read_drive attached_to placements_ok place_ok parameters_to
mark_two = refl

address_unmarked : more_but 2592 0x10 ≡ false
unfolding more_good parameters_good places_good below image desk_words each le_bytes le read_desk read_stage read_drive attached_to placements_ok place_ok parameters_to
address_unmarked = refl

mark_past : more_but 2680 1 ≡ false
unfolding more_good parameters_good below image desk_words each le_bytes le read_desk read_stage read_drive attached_to
mark_past = refl

bytes_unmarked : more_but 2734 1 ≡ false
unfolding more_good parameters_good below image desk_words each le_bytes le read_desk read_stage read_drive attached_to
bytes_unmarked = refl

-- not accepted with a mark of 2, an address without a mark, a mark past the count, bytes without a mark
pub refusals : accepted (desk_but 2528 2) ∷ accepted (desk_but 2592 0x10) ∷ accepted (desk_but 2680 1) ∷ accepted (desk_but 2734 1) ∷ [] ≡ replicate 4 false
refusals =
    also (but_refused 2528 2 (omega arith) mark_two)
    (also (but_refused 2592 0x10 (omega arith) address_unmarked)
    (also (but_refused 2680 1 (omega arith) mark_past)
    (also (but_refused 2734 1 (omega arith) bytes_unmarked) refl)))

-- ---- bad blocks (document 02, 2026-04): a drive of ten blocks with two of them, and each rule broken alone

abbrev worn_table : ℕ → ℕ → Table
worn_table x y = record {
  drives = drive 10 0 ∷ replicate 7 zero_drive;
  count = 1;
  present = replicate 8 false;
  parameters = replicate 112 0;
  counts = 2 ∷ replicate 7 0;
  bad = x ∷ (replicate 7 0 ++ (y ∷ replicate 1015 0));
}

abbrev worn : ℕ → ℕ → Desk
worn x y = desk_with (worn_table x y) (replicate 8 false) (replicate 8 0)

worn_fits : (x y : ℕ) → x < 256 → y < 256 → FitsDesk (worn x y)
unfolding are_bytes
worn_fits x y l m =
    desk-fits (worn_table x y) (replicate 8 false) (replicate 8 0) record {
      eight = refl;
      each = each_fits;
      count = omega arith;
      present = refl;
      parameters = refl;
      bytes = bytes-of (replicate 112 0) refl;
      counts = refl;
      few_bads = bytes-of (2 ∷ replicate 7 0) refl;
      bad = refl;
      lists = bytes-of (worn_table x y).bad (both_intro (ltb x 256) _ (lt-ltb x 256 l) (both_intro (ltb y 256) _ (lt-ltb y 256 m) refl));
    } refl refl (bytes-of (replicate 8 0) refl)
  where
    each_fits : (i : ℕ) → i < 8 → FitsDrive (get_or (worn_table x y).drives i no_drive)
    each_fits zero l = drive-fits 10 0 (omega arith) (omega arith)
    each_fits (suc i) l = no_drive-fits 7 i (omega arith)

-- the count of slot 0, that of slot 1, and the first three numbers of slot 0
pub worn_words : map (le 8 (image (worn 5 7))) (2832 ∷ 2840 ∷ 2896 ∷ 2904 ∷ 2912 ∷ []) ≡ 2 ∷ 0 ∷ 5 ∷ 7 ∷ 0 ∷ []
unfolding image desk_words each le_bytes le
worn_words = refl

-- accepted with 5 and 7, and with the first and the last block; not with 7 before 5, with 5 twice, or with block 10
pub worn_lists : accepted (image (worn 5 7)) ∷ accepted (image (worn 0 9)) ∷ accepted (image (worn 7 5)) ∷ accepted (image (worn 5 5)) ∷ accepted (image (worn 5 10)) ∷ []
    ≡ true ∷ true ∷ false ∷ false ∷ false ∷ []
unfolding accept is_sound sound_to blank_to attached_to listed_to bads_ok list_ok ascends are_blocks zero_past held_of le refusal overlaps_any overlap fields_ok in_store geometry_fits in_limits bus_ok interface_ok is_blank blank_numbers blank_names same rows_ok placements_ok place_ok parameters_to is_i2o zero_tail kind_ok
worn_lists =
    rw (
      accepted-image (worn 5 7) (worn_fits 5 7 (omega arith) (omega arith)),
      accepted-image (worn 0 9) (worn_fits 0 9 (omega arith) (omega arith)),
      accepted-image (worn 7 5) (worn_fits 7 5 (omega arith) (omega arith)),
      accepted-image (worn 5 5) (worn_fits 5 5 (omega arith) (omega arith)),
      accepted-image (worn 5 10) (worn_fits 5 10 (omega arith) (omega arith)),
    )

-- the block with another byte at a place
abbrev worn_but : ℕ → ℕ → List ℕ
worn_but at x = sets (image (worn 5 7)) at (x ∷ [])

bytes_worn : (at x : ℕ) → x < 256 → Bytes (worn_but at x)
bytes_worn at x l = bytes-set (image (worn 5 7)) at x (bytes-image (worn 5 7)) l

-- a slot of it
abbrev slot_but : ℕ → ℕ → ℕ → Bool
slot_but at x i = listed_at (read_desk (worn_but at x)).table i

slot_refused : (at x i : ℕ) → x < 256 → i < 8 → slot_but at x i ≡ false → accepted (worn_but at x) ≡ false
slot_refused at x i l m e = list_refused (worn_but at x) (bytes_worn at x l) i m e

seventeen : slot_but 2832 17 0 ≡ false
unfolding image desk_words each le_bytes le read_desk bads_ok
seventeen = refl

second_byte : below 8 256 (worn_but 2833 1) 2832 ≡ false
unfolding below image desk_words each le_bytes le
second_byte = refl

behind_last : slot_but 2912 9 0 ≡ false
unfolding image desk_words each le_bytes le read_desk read_drive bads_ok list_ok ascends are_blocks zero_past held_of
behind_last = refl

last_byte : slot_but 3023 1 0 ≡ false
unfolding image desk_words each le_bytes le read_desk read_drive bads_ok list_ok ascends are_blocks zero_past held_of
last_byte = refl

no-drive : slot_but 2840 1 1 ≡ false
unfolding image desk_words each le_bytes le read_desk read_drive bads_ok list_ok ascends are_blocks held_of
no-drive = refl

no_count : slot_but 3024 1 1 ≡ false
unfolding image desk_words each le_bytes le read_desk read_drive bads_ok list_ok ascends are_blocks zero_past held_of
no_count = refl

-- not accepted with a count of 17 or of 102h, with a number behind the last, also as the last byte of the sixteen, with a count in a slot without a
-- drive, or with a number there without a count
pub worn_refusals :
    accepted (worn_but 2832 17) ∷ accepted (worn_but 2833 1) ∷ accepted (worn_but 2912 9) ∷ accepted (worn_but 3023 1) ∷ accepted (worn_but 2840 1) ∷ accepted (worn_but 3024 1) ∷ [] ≡ replicate 6 false
worn_refusals =
    also (slot_refused 2832 17 0 (omega arith) (omega arith) seventeen)
    (also (count-refused (worn_but 2833 1) (bytes_worn 2833 1 (omega arith)) second_byte)
    (also (slot_refused 2912 9 0 (omega arith) (omega arith) behind_last)
    (also (slot_refused 3023 1 0 (omega arith) (omega arith) last_byte)
    (also (slot_refused 2840 1 1 (omega arith) (omega arith) no-drive)
    (also (slot_refused 3024 1 1 (omega arith) (omega arith) no_count) refl)))))

-- ---- kinds (document 02, 2026-06)

-- a drive whose numbers are n, of a kind, a host bus, an interface type and a tail; of zeros but for kind and tail it is a slot without a drive
abbrev kind_drive : ℕ → ℕ → List ℕ → List ℕ → List ℕ → Drive
kind_drive n k b i t = record {
  cylinders = n;
  heads = n;
  sectors = n;
  blocks = n;
  first = n;
  flags = n;
  c = n;
  h = n;
  s = n;
  protection = n;
  bus = b;
  interface = i;
  path = replicate 8 0;
  device = replicate 8 0;
  kind = k;
  tail = t;
}

-- one of ones, and the slot behind it
abbrev kind_table : ℕ → List ℕ → List ℕ → ℕ → List ℕ → Table
kind_table k i t blank rest = record {
  drives = kind_drive 1 k pci i t ∷ kind_drive 0 blank (replicate 4 0) (replicate 8 0) rest ∷ replicate 6 zero_drive;
  count = 1;
  present = replicate 8 false;
  parameters = replicate 112 0;
  counts = replicate 8 0;
  bad = replicate 1024 0;
}

abbrev kind_desk : ℕ → List ℕ → List ℕ → ℕ → List ℕ → Desk
kind_desk k i t blank rest = desk_with (kind_table k i t blank rest) (replicate 8 false) (replicate 8 0)

kind-drive-fits : (n k : ℕ) (b i t : List ℕ) → n < 2 → k < 4 → length b ≡ 4 → length i ≡ 8 → length t ≡ 8 → are_bytes b ≡ true → are_bytes i ≡ true → are_bytes t ≡ true → FitsDrive (kind_drive n k b i t)
unfolding are_bytes
kind-drive-fits n k b i t l m lb li lt hb hi ht =
    record {
      numbers =
          record {
            cylinders = omega arith;
            heads = omega arith;
            sectors = omega arith;
            blocks = omega arith;
            first = omega arith;
            flags = omega arith;
            c = omega arith;
            h = omega arith;
            bus = lb;
            interface = li;
            path = refl;
            device = refl;
            kind = omega arith;
            tail = lt;
          };
      s = omega arith;
      protection = omega arith;
      bus = bytes-of b hb;
      interface = bytes-of i hi;
      path = bytes-of (replicate 8 0) refl;
      device = bytes-of (replicate 8 0) refl;
      tail = bytes-of t ht;
    }

kind_fits : (k : ℕ) (i t : List ℕ) (blank : ℕ) (rest : List ℕ) → k < 4 → blank < 4 → length i ≡ 8 → length t ≡ 8 → length rest ≡ 8
    → are_bytes i ≡ true → are_bytes t ≡ true → are_bytes rest ≡ true → FitsDesk (kind_desk k i t blank rest)
unfolding are_bytes
kind_fits k i t blank rest l m li lt lr hi ht hr =
    desk-fits (kind_table k i t blank rest) (replicate 8 false) (replicate 8 0) record {
      eight = refl;
      each = each_fits;
      count = omega arith;
      present = refl;
      parameters = refl;
      bytes = bytes-of (replicate 112 0) refl;
      counts = refl;
      few_bads = bytes-of (replicate 8 0) refl;
      bad = refl;
      lists = bytes-of (replicate 1024 0) refl;
    } refl refl (bytes-of (replicate 8 0) refl)
  where
    each_fits : (j : ℕ) → j < 8 → FitsDrive (get_or (kind_table k i t blank rest).drives j no_drive)
    each_fits zero q = kind-drive-fits 1 k pci i t (omega arith) l refl li lt refl hi ht
    each_fits (suc zero) q = kind-drive-fits 0 blank (replicate 4 0) (replicate 8 0) rest (omega arith) m refl refl lr refl refl hr
    each_fits (suc (suc j)) q = no_drive-fits 6 j (omega arith)

-- tails: eight different bytes, a last one, none
abbrev eights : List ℕ
eights = 1 ∷ 2 ∷ 3 ∷ 4 ∷ 5 ∷ 6 ∷ 7 ∷ 8 ∷ []

abbrev one : List ℕ
one = 0 ∷ 0 ∷ 0 ∷ 0 ∷ 0 ∷ 0 ∷ 0 ∷ 1 ∷ []

abbrev none : List ℕ
none = replicate 8 0

-- the words of kind and tail, of the drive's slot and of the next
pub kind_words : map (le 8 (image (kind_desk 2 ata eights 3 one))) (1584 ∷ 1592 ∷ 1712 ∷ 1720 ∷ []) ≡ 2 ∷ 0x0807060504030201 ∷ 3 ∷ 0x0100000000000000 ∷ []
unfolding image desk_words each le_bytes le
kind_words = refl

-- accepted of kind 2 with a tail, of kind 2 and I2O with a tail of zeros, and of kind 1; not of kind 1 with a tail, or of kind 1 and I2O
pub kinds :
    accepted (image (kind_desk 2 ata eights 0 none))
    ∷ accepted (image (kind_desk 2 i2o none 0 none))
    ∷ accepted (image (kind_desk 1 ata none 0 none))
    ∷ accepted (image (kind_desk 1 ata one 0 none))
    ∷ accepted (image (kind_desk 1 i2o none 0 none)) ∷ []
    ≡ true ∷ true ∷ true ∷ false ∷ false ∷ []
unfolding are_bytes accept is_sound sound_to blank_to attached_to listed_to bads_ok list_ok ascends are_blocks zero_past held_of le refusal overlaps_any overlap fields_ok in_store geometry_fits in_limits bus_ok interface_ok is_blank blank_numbers blank_names same rows_ok placements_ok place_ok parameters_to is_i2o zero_tail kind_ok
kinds =
    rw (
      accepted-image (kind_desk 2 ata eights 0 none) (kind_fits 2 ata eights 0 none (omega arith) (omega arith) refl refl refl refl refl refl),
      accepted-image (kind_desk 2 i2o none 0 none) (kind_fits 2 i2o none 0 none (omega arith) (omega arith) refl refl refl refl refl refl),
      accepted-image (kind_desk 1 ata none 0 none) (kind_fits 1 ata none 0 none (omega arith) (omega arith) refl refl refl refl refl refl),
      accepted-image (kind_desk 1 ata one 0 none) (kind_fits 1 ata one 0 none (omega arith) (omega arith) refl refl refl refl refl refl),
      accepted-image (kind_desk 1 i2o none 0 none) (kind_fits 1 i2o none 0 none (omega arith) (omega arith) refl refl refl refl refl refl),
    )

-- not accepted of kind 0 or of kind 3, with a kind in the slot behind the drive's, or with a tail there
pub kinds_other :
    accepted (image (kind_desk 0 ata none 0 none))
    ∷ accepted (image (kind_desk 3 ata none 0 none))
    ∷ accepted (image (kind_desk 1 ata none 2 none))
    ∷ accepted (image (kind_desk 1 ata none 0 one)) ∷ []
    ≡ false ∷ false ∷ false ∷ false ∷ []
unfolding are_bytes accept is_sound sound_to blank_to attached_to listed_to bads_ok list_ok ascends are_blocks zero_past held_of le refusal overlaps_any overlap fields_ok in_store geometry_fits in_limits bus_ok interface_ok is_blank blank_numbers blank_names same rows_ok placements_ok place_ok parameters_to is_i2o zero_tail kind_ok
kinds_other =
    rw (
      accepted-image (kind_desk 0 ata none 0 none) (kind_fits 0 ata none 0 none (omega arith) (omega arith) refl refl refl refl refl refl),
      accepted-image (kind_desk 3 ata none 0 none) (kind_fits 3 ata none 0 none (omega arith) (omega arith) refl refl refl refl refl refl),
      accepted-image (kind_desk 1 ata none 2 none) (kind_fits 1 ata none 2 none (omega arith) (omega arith) refl refl refl refl refl refl),
      accepted-image (kind_desk 1 ata none 0 one) (kind_fits 1 ata none 0 one (omega arith) (omega arith) refl refl refl refl refl refl),
    )

-- not accepted with a kind of 65537, whose low word is 1
kind_long : table_good (worn_but 1586 1) ≡ false
unfolding table_good drives_good drive_good is_slot image desk_words each le_bytes le
kind_long = refl

pub kind_word : accepted (worn_but 1586 1) ≡ false
unfolding judged
kind_word = sym (judged-is (worn_but 1586 1) (bytes_worn 1586 1 (omega arith))) ∙ rw kind_long (both_false (eqb (length (worn_but 1586 1)) desk_size))
