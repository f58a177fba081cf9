-- What a block's table is written as, from the words of its slots.
-- Assumes nothing.
use Prim.Native.Nat.{ℕ, ◌+◌, ◌*◌, ◌≤◌, ◌<◌}
use native.Mathlib.Omega.{arith}
use mathlib.Core.Path.{◌≡◌, sym, ◌∙◌, ap}
use mathlib.Core.Bool.{Bool}
use mathlib.Core.List.{List}
use lib.ListN.{length, get_or}
use lib.Seq.{sets}
use lib.Dec.{eqb}
use Rattle.logic.specs.Logic.{pick}
use Rattle.words.specs.Words.{part}
use Rattle.memory.proofs.Sets.{length_part}
use Rattle.drive.specs.declared.Drive.{Drive}
use Rattle.drive.specs.Drive.{drive_length, record_of}
use Rattle.drive.proofs.DriveLaws.{length-record}
use Rattle.attached.specs.declared.Bads.{Bads}
use Rattle.attached.specs.Bad.{held_of, bad_length}
use Rattle.table.specs.declared.Table.{Table}
use Rattle.table.specs.Table.{no_drive, has_parameters, bads_at, slot_bytes, slot_records, records_of}
use Rattle.table.proofs.TableLaws.{length_more, length_slot, slot_next}
use Rattle.image.specs.Image.{slot_at, present_at, bytes_at, bads_count_at, bads_list_at, desk_size, read_drive, read_desk}
use Rattle.image.proofs.Fields.{length-listed, slot_of, present-of, bads_count_of}

-- the slots of a block's table, and the bytes of their parameters and of their bad blocks
pub length_slots : (b : List ℕ) → length (read_desk b).table.drives ≡ 8
unfolding read_desk
length_slots b = length-listed (λ i. read_drive b (slot_at i)) 0 8

length-given : (b : List ℕ) → length b ≡ desk_size → length (read_desk b).table.parameters ≡ 112
unfolding read_desk
length-given b l = length_part 112 b (bytes_at 0) (omega arith)

length-lists : (b : List ℕ) → length b ≡ desk_size → length (read_desk b).table.bad ≡ 1024
unfolding read_desk
length-lists b l = length_part 1024 b (bads_list_at 0) (omega arith)

-- the numbers of a slot
pub length-numbers : (b : List ℕ) (i : ℕ) → length b ≡ desk_size → i < 8 → length (bads_at (read_desk b).table i).list ≡ 128
length-numbers b i l h = length_part 128 (read_desk b).table.bad (128 * i) (omega (arith, length-lists b l))

bads_count_in : (b : List ℕ) (i : ℕ) → i < 8 → get_or (read_desk b).table.counts i 0 ≡ get_or b (bads_count_at i) 0
unfolding read_desk
bads_count_in b i h = bads_count_of b i h

-- the record of a slot's drive
length-drive : (b : List ℕ) (i : ℕ) → i + 128 ≤ length b → length (record_of (read_drive b i)) ≡ drive_length (read_drive b i).kind
unfolding read_drive
length-drive b i l =
    length-record _
    record {
      bus = length_part 4 b (i + 80) (omega arith);
      interface = length_part 8 b (i + 88) (omega arith);
      path = length_part 8 b (i + 96) (omega arith);
      device = length_part 8 b (i + 104) (omega arith);
      tail = length_part 8 b (i + 120) (omega arith);
    }

-- the records of one slot more: its drive's, and those of its bad blocks and its parameters
pub length-next : {n own more total : ℕ} {present : Bool} (b : List ℕ) (i : ℕ) → length b ≡ desk_size → i < 8 → n ≡ get_or b (bads_count_at i) 0 → present ≡ eqb (get_or b (present_at i) 0) 1
    → more ≡ pick (eqb n 0) 0 (bad_length (held_of n)) + pick present 20 0 → own ≡ drive_length (read_drive b (slot_at i)).kind → total ≡ length (records_of i (read_desk b).table) → total + (own + more) ≡ length (records_of (i + 1) (read_desk b).table)
length-next {n} {own} {more} {total} {present} b i l h e f g o z =
    let t : Table = (read_desk b).table in
    let c : n ≡ get_or t.counts i 0 = e ∙ sym (bads_count_in b i h) in
    let p : present ≡ has_parameters t i = f ∙ sym (present-of b i h) in
    let s = length_slot t i (length-given b l) (length-lists b l) h in
    let q : more ≡ pick (eqb (get_or t.counts i 0) 0) 0 (bad_length (held_of (get_or t.counts i 0))) + pick (has_parameters t i) 20 0 = rw (← c, ← p) g in
    let d : length (record_of (get_or t.drives i no_drive)) ≡ own = ap (λ (x : Drive). length (record_of x)) (slot_of b i h) ∙ length-drive b (slot_at i) (omega arith) ∙ sym o in
    let m : length (slot_records t i) ≡ own + more = s ∙ rw (d, ← q) in
    omega (arith, length_more i t, m, z)

-- the records of a slot, from its drive, its bad blocks, its mark and the bytes of all
pub slot_read : {d : Drive} {l : Bads} {present : Bool} (b : List ℕ) (i : ℕ) → i < 8 → d ≡ read_drive b (slot_at i) → l ≡ bads_at (read_desk b).table i → present ≡ eqb (get_or b (present_at i) 0) 1
    → slot_bytes d l present i (part 14 (part 112 b (bytes_at 0)) (14 * i)) ≡ slot_records (read_desk b).table i
unfolding read_desk
slot_read b i h e g f = rw (slot_of b i h, present-of b i h, e, g, f)

-- one slot more in a buffer, as the code lays it
pub slot_more : {o : List ℕ} {r : ℕ} {d : Drive} {l : Bads} {present : Bool} (s b : List ℕ) (i at : ℕ) (o₀ : List ℕ) → i < 8 → d ≡ read_drive b (slot_at i) → l ≡ bads_at (read_desk b).table i
    → present ≡ eqb (get_or b (present_at i) 0) 1 → length o₀ ≡ length s → o₀ ≡ sets s 0 (records_of i (read_desk b).table) → at ≡ length (records_of i (read_desk b).table)
    → o ≡ sets o₀ at (slot_bytes d l present i (part 14 (part 112 b (bytes_at 0)) (14 * i))) → r ≡ at + length (slot_bytes d l present i (part 14 (part 112 b (bytes_at 0)) (14 * i)))
    → (length o ≡ length s) × (o ≡ sets s 0 (records_of (i + 1) (read_desk b).table)) × (r ≡ length (records_of (i + 1) (read_desk b).table))
slot_more s b i at o₀ h e g f l w z x y =
    let q = slot_read b i h e g f in
    slot_next s (read_desk b).table i at o₀ l w z (x ∙ ap (sets o₀ at) q) (y ∙ ap (λ (v : List ℕ). at + length v) q)
