-- What the block asks of the table in a reader: the widths of one that bytes are read into, its length, and that one step keeps both.
-- Assumes nothing.
use Prim.Native.Nat.{ℕ, ◌*◌, ◌≤◌, ◌<◌}
use native.Mathlib.Omega.{arith}
use mathlib.Core.Path.{◌≡◌, refl, ◌∙◌}
use mathlib.Core.Bool.{true}
use mathlib.Core.List.{List}
use lib.ListN.{length, length-set}
use lib.Seq.{length-sets}
use Rattle.words.specs.Words.{Bytes, part}
use Rattle.words.proofs.WordsLaws.{bytes-part}
use Rattle.drive.specs.declared.Drive.{Drive}
use Rattle.drive.specs.Drive.{Fits, drive_of}
use Rattle.drive.proofs.DriveLaws.{arrays_drive, fits-drive}
use Rattle.attached.specs.Parameters.{number_in, parameters_in}
use Rattle.attached.specs.declared.Bads.{Bads}
use Rattle.attached.specs.Bad.{bads_in}
use Rattle.attached.proofs.AttachedLaws.{length-parameters_in}
use Rattle.table.specs.declared.Table.{Table}
use Rattle.table.specs.declared.Stepped.{Stepped}
use Rattle.table.specs.Table.{empty_table, more, with_parameters, with_bads, most_records, read_table, step_at, table_of, is_sound}
use Rattle.table.specs.Demand2.{Widths}
use Rattle.table.proofs.TableLaws.{refusal-room, length_whole, bads_whole, read_keeps, step_at-cases, drive-bytes}
use Rattle.table.proofs.Slots.{bads_in-listed}
use Rattle.table.proofs.Sound.{each_more, So, so_empty, so_more, so_bads, so_attach, so_good, read_so}
use Rattle.table.proofs.ReadWrite.{read-written}
use Rattle.table.proofs.Places.{place-most}
use Rattle.reader.proofs.ReaderLaws.{length-table}

-- ---- the widths

widths_empty : Widths empty_table
widths_empty = record { eight = refl; marks = refl; bytes = refl; counts = refl; lists = refl; each = λ i h. absurd (omega arith) }

widths_more : (b : Table) (d : Drive) → Widths b → b.count < 8 → Fits d → Widths (more b d)
widths_more b d w room f =
    record {
      eight = length-set b.drives b.count d ∙ w.eight;
      marks = w.marks;
      bytes = w.bytes;
      counts = w.counts;
      lists = w.lists;
      each = each_more Fits b d w.eight room w.each f;
    }

widths_attach : (b : Table) (i : ℕ) (p : List ℕ) → Widths b → Widths (with_parameters b i p)
widths_attach b i p w =
    record {
      eight = w.eight;
      marks = length-set b.present i true ∙ w.marks;
      bytes = length-sets b.parameters (14 * i) p ∙ w.bytes;
      counts = w.counts;
      lists = w.lists;
      each = w.each;
    }

widths_bads : (b : Table) (i : ℕ) (l : Bads) → Widths b → Widths (with_bads b i l)
widths_bads b i l w =
    record {
      eight = w.eight;
      marks = w.marks;
      bytes = w.bytes;
      counts = length-set b.counts i l.count ∙ w.counts;
      lists = length-sets b.bad (128 * i) l.list ∙ w.lists;
      each = w.each;
    }

-- bytes are read into the widths
pub read_widths : (t : List ℕ) (store : ℕ) → Bytes t → Widths (read_table t store).table
unfolding read_table
read_widths t store h =
    let r = read_keeps (λ at. Widths) t store
    (λ at n b w l z. widths_more b (drive_of (part n t at)) w (refusal-room b.count b.drives (drive_of (part n t at)) store z)
    (fits-drive (part n t at) (bytes-part n t at h) (drive-bytes l).whole))
    (λ at n b w l z. widths_bads b (number_in (part n t at)) (bads_in (part n t at)) w)
    (λ at b w l z. widths_attach b (number_in (part 20 t at)) (parameters_in (part 20 t at)) w)
    most_records 0 empty_table widths_empty in
    r.1.0

-- ---- the rules

-- a table that obeys them is what a reading makes of its bytes
so_of : (b : Table) (store : ℕ) → Widths b → is_sound b store ≡ true → So store b
so_of b store w e = rw (read-written b store w e) at (read_so (table_of b) store)

-- and as long as the block has room for
pub table-most : (b : Table) (store : ℕ) → Widths b → is_sound b store ≡ true → length (table_of b) ≤ 1844
table-most b store w e = omega (arith, length-table b, place-most store b (so_of b store w e))

-- ---- one step

-- a step keeps the widths and the rules
pub step_keeps : (t : List ℕ) (at : ℕ) (b : Table) (store : ℕ) → Bytes t → Widths b → is_sound b store ≡ true
    → Widths (step_at t at b store).table × (is_sound (step_at t at b store).table store ≡ true)
step_keeps t at b store h w e =
    let s = so_of b store w e in
    step_at-cases (λ (r : Stepped). Widths r.table × (is_sound r.table store ≡ true)) t at b store
    (λ n p. (w, e))
    (λ l m. (w, e))
    (λ n l z.
    let whole = (drive-bytes l).whole in
    let d = drive_of (part n t at) in (
      widths_more b d w (refusal-room b.count b.drives d store z) (fits-drive (part n t at) (bytes-part n t at h) whole),
      (so_good store (more b d) (so_more store b d s (arrays_drive (part n t at) whole) z)).sound,
    ))
    (λ n l z.
    let w' = bads_whole t at 3 n l refl in
    let i = number_in (part n t at) in
    let k = bads_in (part n t at) in
    (widths_bads b i k w, (so_good store (with_bads b i k) (so_bads store b i k s (bads_in-listed (part n t at) (rw w'.0 w'.4)) z)).sound))
    (λ l z.
    let i = number_in (part 20 t at) in
    let p = parameters_in (part 20 t at) in
    let n = length-parameters_in (part 20 t at) (omega (arith, length_whole t at 4 20 l)) in
    (widths_attach b i p w, (so_good store (with_parameters b i p) (so_attach store b i p s n z)).sound))

-- the table with no drive
pub empty_keeps : (store : ℕ) → Widths empty_table × (is_sound empty_table store ≡ true)
empty_keeps store = (widths_empty, (so_good store empty_table (so_empty store)).sound)
