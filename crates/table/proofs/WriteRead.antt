-- A table that is accepted, written back, gives the same bytes.
-- Assumes nothing.
use Rattle.std.specs.Prelude.{Ok}
use mathlib.Core.Path.{◌≡◌, refl, sym, ap, ◌∙◌, subst}
use mathlib.Core.Bool.{true, false}
use mathlib.Core.List.{List, ◌++◌, append_assoc}
use Prim.Native.Nat.{ℕ, ◌+◌, ◌*◌, ◌≤◌, ◌<◌}
use native.Mathlib.Nat.{add-zero}
use native.Mathlib.Omega.{arith}
use lib.ListN.{length, take, drop, get_or, length-drop, length-set, get_or-replicate, take-append-drop}
use lib.Seq.{take_all, take-add, length-sets, get_or-set_same, get_or-set_other, drop-drop}
use Rattle.words.specs.Words.{Bytes, le_bytes, part}
use Rattle.words.proofs.WordsLaws.{write_read, bytes-part}
use Rattle.drive.specs.declared.Drive.{Drive}
use Rattle.drive.specs.Drive.{drive_of, record_of}
use Rattle.drive.proofs.DriveLaws.{record-drive}
use Rattle.attached.specs.Parameters.{number_in, parameters_in, parameters_record}
use Rattle.attached.specs.declared.Bads.{Bads}
use Rattle.attached.specs.Bad.{bad_count, bads_in, bad_record}
use Rattle.attached.proofs.AttachedLaws.{length-parameters_in, record-parameters}
use Rattle.attached.proofs.BadLaws.{bad_length_ok_true, record_bads}
use Rattle.table.specs.declared.Table.{Table}
use Rattle.table.specs.Table.{no_drive, header_at, more, has_parameters, parameters_refusal, with_parameters, bads_at, bads_refusal, with_bads, most_records, read_from, read_table, empty_table, bads_record, slot_records, records_of, bytes_of, drives_of, table_of}
use Rattle.table.proofs.TableLaws.{whole_at, length_whole, bads_whole, le-part, refusal-room, bads_room, parameters-room, read_keeps, records_of-more, records_of_ext, bads_record-some, slot_bads, slot_bare, slot_parameters, length-drives, DriveAt, drive-bytes}
use Rattle.table.proofs.Slots.{marked, marked_other, parameters-same, slot_other, bads_same, bads_slot_other, Listed}
use Rattle.table.proofs.Enough.{listed-whole}

-- the drives so far are the bytes so far
record Read (t : List ℕ) (at : ℕ) (b : Table) : Type 0 where
  same : records_of b.count b ≡ take at t
  eight : length b.drives ≡ 8
  marks : length b.present ≡ 8
  bytes : length b.parameters ≡ 112
  counts : length b.counts ≡ 8
  lists : length b.bad ≡ 1024
  most : b.count ≤ 8
  inside : at ≤ length t
  fresh : (i : ℕ) → b.count ≤ i → i < 8 → (get_or b.counts i 0 ≡ 0) × (has_parameters b i ≡ false)

-- a record of parameters for the last slot follows its drive's, and that of its bad blocks
pub attach_records : (b : Table) (i : ℕ) (p : List ℕ) → length p ≡ 14 → length b.present ≡ 8 → length b.parameters ≡ 112 → i < 8 → has_parameters b i ≡ false
    → records_of (i + 1) (with_parameters b i p) ≡ records_of (i + 1) b ++ parameters_record i p
attach_records b i p given marks bytes h e =
    let d : List ℕ = record_of (get_or b.drives i no_drive) ++ bads_record i (bads_at b i) in
    let x : List ℕ = parameters_record i p in
    let before : records_of i (with_parameters b i p) ≡ records_of i b = records_of_ext i (with_parameters b i p) b (λ k l. slot_other b i p given k (λ q. omega arith)) in
    let here : slot_records (with_parameters b i p) i ≡ d ++ x =
    slot_parameters (with_parameters b i p) i (marked b i p given marks h) ∙ ap (λ (y : List ℕ). d ++ parameters_record i y) (parameters-same b i p given bytes h) in
    rw (records_of-more i (with_parameters b i p), before, here, records_of-more i b, slot_bads b i e) (sym (append_assoc (records_of i b) d x))

-- and a record of bad blocks follows its drive's
pub list_records : (b : Table) (i : ℕ) (l : Bads) → Listed l → length b.counts ≡ 8 → length b.bad ≡ 1024 → i < 8 → get_or b.counts i 0 ≡ 0
    → has_parameters b i ≡ false → records_of (i + 1) (with_bads b i l) ≡ records_of (i + 1) b ++ bad_record i l
list_records b i l g counts lists h z e =
    let d : List ℕ = record_of (get_or b.drives i no_drive) in
    let x : List ℕ = bad_record i l in
    let before : records_of i (with_bads b i l) ≡ records_of i b = records_of_ext i (with_bads b i l) b (λ k q. bads_slot_other b i l g.long k (λ y. omega arith)) in
    let here : slot_records (with_bads b i l) i ≡ d ++ x =
    slot_bads (with_bads b i l) i e ∙ ap (λ (y : Bads). d ++ bads_record i y) (bads_same b i l g.long counts lists h)
    ∙ ap (λ (y : List ℕ). d ++ y) (bads_record-some i l (λ y. omega (arith, g.some))) in
    rw (records_of-more i (with_bads b i l), before, here, records_of-more i b, slot_bare b i z e) (sym (append_assoc (records_of i b) d x))

module _ (t : List ℕ) (bytes : Bytes t) where
  -- a whole drive record is the record of its drive
  whole-record : (at n : ℕ) → DriveAt t at n → (record_of (drive_of (part n t at)) ≡ part n t at) × (at + n ≤ length t)
  whole-record at n h =
      let w = drive-bytes h in
      (record-drive (part n t at) (bytes-part n t at bytes) w.whole (w.word ∙ sym w.long ∙ w.whole), w.inside)

  -- and so is a whole record of parameters
  whole-parameters : (at : ℕ) → header_at t at ≡ Ok (4, 20) → (parameters_record (number_in (part 20 t at)) (parameters_in (part 20 t at)) ≡ part 20 t at) × (at + 20 ≤ length t)
  whole-parameters at h =
      let w = whole_at t at 4 20 h in
      let l : at + 20 ≤ length t = omega (arith, w.whole, w.header) in (
        record-parameters (part 20 t at) (bytes-part 20 t at bytes) (length_whole t at 4 20 h) (le-part 2 20 t at 0 (omega arith) ∙ rw add-zero w.long) (le-part 2 20 t at 2 (omega arith) ∙ w.same),
        l,
      )

  -- and a whole record of bad blocks
  whole_bads : (at n : ℕ) → header_at t at ≡ Ok (3, n) → (bad_record (number_in (part n t at)) (bads_in (part n t at)) ≡ part n t at) × (at + n ≤ length t)
  whole_bads at n h =
      let w = whole_at t at 3 n h in
      let q = bads_whole t at 3 n h refl in
      let c = bad_length_ok_true n q.4 in (
        record_bads (part n t at) (bad_count n) (number_in (part n t at)) (bytes-part n t at bytes) c.1 (q.0 ∙ c.2)
            (le-part 2 n t at 0 (omega (arith, q.1)) ∙ rw add-zero w.long ∙ c.2) (le-part 2 n t at 2 (omega (arith, q.1)) ∙ w.same) refl,
        q.3,
      )

  next-read : (at n : ℕ) (b : Table) → Read t at b → b.count < 8 → DriveAt t at n → Read t (at + n) (more b (drive_of (part n t at)))
  next-read at n b r room h =
      let d : Drive = drive_of (part n t at) in
      let w = whole-record at n h in
      let i : b.count < length b.drives = omega (arith, r.eight) in
      let before : records_of b.count (more b d) ≡ records_of b.count b =
      records_of_ext b.count (more b d) b (λ j l. rw (get_or-set_other b.drives b.count j d no_drive (λ x. omega arith))) in
      let here : slot_records (more b d) b.count ≡ part n t at =
      let f = r.fresh b.count (omega arith) room in
      slot_bare (more b d) b.count f.0 f.1 ∙ ap record_of (get_or-set_same b.drives b.count d no_drive i) ∙ w.0 in
      record {
        same = rw (records_of-more b.count (more b d), before, here, r.same) (sym (take-add at n t));
        eight = rw length-set r.eight;
        marks = r.marks;
        bytes = r.bytes;
        counts = r.counts;
        lists = r.lists;
        most = omega arith;
        inside = w.1;
        fresh = λ k l q. r.fresh k (omega arith) q;
      }

  list_read : (at n : ℕ) (b : Table) → Read t at b → header_at t at ≡ Ok (3, n) → bads_refusal b (number_in (part n t at)) (bads_in (part n t at)) ≡ 0
      → Read t (at + n) (with_bads b (number_in (part n t at)) (bads_in (part n t at)))
  list_read at n b r h z =
      let i : ℕ = number_in (part n t at) in
      let l : Bads = bads_in (part n t at) in
      let w = whole_bads at n h in
      let room = bads_room b i l z in
      let records : records_of b.count (with_bads b i l) ≡ records_of b.count b ++ bad_record i l =
      subst (λ (k : ℕ). records_of k (with_bads b i l) ≡ records_of k b ++ bad_record i l) room.last
      (list_records b i l (listed-whole t at n h) r.counts r.lists room.slot room.none room.bare) in
      record {
        same = rw (records, r.same, w.0) (sym (take-add at n t));
        eight = r.eight;
        marks = r.marks;
        bytes = r.bytes;
        counts = length-set b.counts i l.count ∙ r.counts;
        lists = length-sets b.bad (128 * i) l.list ∙ r.lists;
        most = r.most;
        inside = w.1;
        fresh = λ k m q. let f = r.fresh k m q in (get_or-set_other b.counts i k l.count 0 (λ x. omega (arith, room.last, m, x)) ∙ f.0, f.1);
      }

  attach_read : (at : ℕ) (b : Table) → Read t at b → header_at t at ≡ Ok (4, 20) → parameters_refusal b (number_in (part 20 t at)) ≡ 0
      → Read t (at + 20) (with_parameters b (number_in (part 20 t at)) (parameters_in (part 20 t at)))
  attach_read at b r h z =
      let i : ℕ = number_in (part 20 t at) in
      let p : List ℕ = parameters_in (part 20 t at) in
      let w = whole-parameters at h in
      let room = parameters-room b i z in
      let given : length p ≡ 14 = length-parameters_in (part 20 t at) (omega (arith, length_whole t at 4 20 h)) in
      let records : records_of b.count (with_parameters b i p) ≡ records_of b.count b ++ parameters_record i p =
      subst (λ (n : ℕ). records_of n (with_parameters b i p) ≡ records_of n b ++ parameters_record i p) room.1 (attach_records b i p given r.marks r.bytes room.0 room.2) in
      record {
        same = rw (records, r.same, w.0) (sym (take-add at 20 t));
        eight = r.eight;
        marks = length-set b.present i true ∙ r.marks;
        bytes = length-sets b.parameters (14 * i) p ∙ r.bytes;
        counts = r.counts;
        lists = r.lists;
        most = r.most;
        inside = w.1;
        fresh = λ k l q. let f = r.fresh k l q in (f.0, marked_other b i p given k (λ x. omega (arith, room.1, l, x)) ∙ f.1);
      }

  -- the end record and nothing after it
  last_read : (at : ℕ) (b : Table) → Read t at b → header_at t at ≡ Ok (0, 4) → length t ≤ at + 4 → table_of b ≡ t
  unfolding table_of bytes_of
  last_read at b r h l =
      let w = whole_at t at 0 4 h in
      let q : at + 4 ≤ length t = omega (arith, w.header, r.inside) in
      let n : length (drives_of b) ≡ b.count = omega (arith, length-drives b r.eight, r.most) in
      let e₀ : le_bytes 2 4 ≡ part 2 t at = ap (le_bytes 2) (sym w.long) ∙ write_read 2 t at bytes (omega arith) in
      let e₂ : le_bytes 2 0 ≡ part 2 t (at + 2) = ap (le_bytes 2) (sym w.same) ∙ write_read 2 t (at + 2) bytes (omega arith) in
      let two : part 2 t at ++ part 2 t (at + 2) ≡ part 4 t at = rw (← drop-drop 2 at t) (sym (take-add 2 2 (drop at t))) in
      let rest : part 4 t at ≡ drop at t = take_all 4 (drop at t) (simp length-drop (omega arith)) in
      rw (n, r.same, e₀, e₂, two, rest) (take-append-drop at t)

-- demand 2: a drive table read and written back gives the same bytes
pub write-read-table : (t : List ℕ) (store : ℕ) → Bytes t → (read_table t store).answer ≡ Ok tt → table_of (read_table t store).table ≡ t
unfolding read_table records_of
write-read-table t store b e =
    let first : Read t 0 empty_table =
    record {
      same = refl;
      eight = refl;
      marks = refl;
      bytes = refl;
      counts = refl;
      lists = refl;
      most = omega arith;
      inside = omega arith;
      fresh = λ i l h. (get_or-replicate 8 i 0 0 h, get_or-replicate 8 i false false h);
    } in
    let r = read_keeps (Read t) t store
    (λ at n b' r h z. next-read t b at n b' r (refusal-room b'.count b'.drives (drive_of (part n t at)) store z) h)
    (λ at n b' r h z. list_read t b at n b' r h z)
    (λ at b' r h z. attach_read t b at b' r h z) most_records 0 empty_table first in
    let end = r.1.1 e in
    last_read t b r.0 (read_from most_records t store 0 empty_table).table r.1.0 end.0 end.1
