-- The reader needs the first 1974 bytes, eight drives with a record of bad blocks and one of parameters each and one record more, and no byte past
-- them.
-- Assumes nothing.
use Rattle.std.specs.Prelude.{Result, Ok, Err}
use mathlib.Core.Path.{◌≡◌, refl, sym, ap, ◌∙◌}
use mathlib.Core.Bool.{Bool, true, false, not}
use mathlib.Core.List.{List, [], ◌∷◌}
use Prim.Native.Nat.{ℕ, zero, suc, ◌+◌, ◌-◌, ◌*◌, ◌≤◌, ◌<◌, min}
use native.Mathlib.Nat.{zero-add, suc-add}
use native.Mathlib.Omega.{arith}
use lib.ListN.{length, take, drop, get_or, length-take, length-set}
use lib.Seq.{take-take, get_or-take, take-nil}
use lib.Dec.{ltb}
use Rattle.logic.specs.Logic.{pick}
use Rattle.logic.proofs.LogicLaws.{leb_iff}
use Rattle.words.specs.Words.{le, part}
use Rattle.words.proofs.WordsLaws.{le_ext}
use Rattle.drive.proofs.DriveLaws.{length_most}
use Rattle.drive.specs.Drive.{drive_of}
use Rattle.attached.specs.Parameters.{number_in, parameters_in}
use Rattle.attached.specs.Bad.{bads_in}
use Rattle.table.specs.declared.Table.{Table}
use Rattle.table.specs.declared.Refusal.{Refusal}
use Rattle.table.specs.declared.Refusal.TheVariants.{CutOff, WrongLength, UnknownKind}
use Rattle.table.specs.declared.Stepped.{Stepped}
use Rattle.table.specs.Table.{is_kind, length_ok, header_at, header_of, more, with_parameters, with_bads, go_on, end_step, step_of, step_at, most_records, read_from, read_table, empty_table}
use Rattle.table.proofs.TableLaws.{step_at-cases, whole_at, length_ok-most, bads_whole, refusal-room, bads_room, parameters-room, drive-bytes}
use Rattle.table.proofs.Enough.{room_for, room_most, room-bare, room-listed, room_open, room_shut, listed-whole}

-- a part of the first n + m bytes
drop-take : (n m : ℕ) (l : List ℕ) → drop n (take (n + m) l) ≡ take m (drop n l)
drop-take zero m l = rw zero-add
drop-take (suc n) m [] = rw suc-add (sym (take-nil m))
drop-take (suc n) m (x ∷ l) = rw suc-add (drop-take n m l)

module _ (n : ℕ) (t u : List ℕ) (same : take n t ≡ take n u) where
  lengths : min n (length t) ≡ min n (length u)
  lengths = sym (length-take n t) ∙ ap length same ∙ length-take n u

  byte : (i : ℕ) → i < n → get_or t i 0 ≡ get_or u i 0
  byte i h = sym (get_or-take n t i 0 h) ∙ ap (λ (l : List ℕ). get_or l i 0) same ∙ get_or-take n u i 0 h

  word : (at : ℕ) → at + 2 ≤ n → le 2 t at ≡ le 2 u at
  word at h = le_ext 2 t u at at (λ i l. byte (at + i) (omega arith))

  -- a test of the bytes left, up to n
  left : (at m : ℕ) → at + m ≤ n → ltb (length t - at) m ≡ ltb (length u - at) m
  left at m h = leb_iff (suc (length t - at)) m (suc (length u - at)) m (λ q. omega (arith, lengths)) (λ q. omega (arith, lengths))

  after : (at : ℕ) → at < n → ltb at (length t) ≡ ltb at (length u)
  after at h = leb_iff (suc at) (length t) (suc at) (length u) (λ q. omega (arith, lengths)) (λ q. omega (arith, lengths))

  body : (at m : ℕ) → at + m ≤ n → part m t at ≡ part m u at
  body at m h =
      let e : take (at + m) t ≡ take (at + m) u = sym (take-take (at + m) n t h) ∙ ap (take (at + m)) same ∙ take-take (at + m) n u h in
      sym (drop-take at m t) ∙ ap (drop at) e ∙ drop-take at m u

  -- the last check of a header looks at no more than the record
  cut : (at k size : ℕ) → at + 134 ≤ n → (c : Bool) → length_ok k size ≡ c
      → ◌≡◌ {A = Result (ℕ × ℕ) Refusal} (pick (not c) (Err WrongLength) (pick (ltb (length t - at) size) (Err CutOff) (Ok (k, size))))
      (pick (not c) (Err WrongLength) (pick (ltb (length u - at) size) (Err CutOff) (Ok (k, size))))
  cut at k size h true e = rw (left at size (omega (arith, length_ok-most k size e)))
  cut at k size h false e = refl

  header : (at : ℕ) → at + 134 ≤ n → header_at t at ≡ header_at u at
  unfolding header_at header_of
  header at h =
      let k : ℕ = le 2 u (at + 2) in
      let size : ℕ = le 2 u at in
      rw (word at (omega arith), word (at + 2) (omega arith), left at 4 (omega arith))
      (ap (λ (x : Result (ℕ × ℕ) Refusal). pick (ltb (length u - at) 4) (Err CutOff) (pick (not (is_kind k)) (Err UnknownKind) x)) (cut at k size h (length_ok k size) refl))

  step : (at : ℕ) (b : Table) (store : ℕ) → at + 134 ≤ n → step_at t at b store ≡ step_at u at b store
  unfolding step_at step_of end_step
  step at b store h = rw (header at h) (by_header (header_at u at) refl)
    where
      by_header : (x : Result (ℕ × ℕ) Refusal) → header_at u at ≡ x → step_of x t at b store ≡ step_of x u at b store
      by_header (Err m) q = refl
      by_header (Ok (k, m)) q = rw (after (at + 4) (omega arith), body at m (omega (arith, length_ok-most k m (whole_at u at k m q).right)))

  -- from a place on the reader needs the bytes of the records that there is room for, and of one more
  reads : (k store at : ℕ) (b : Table) → length b.present ≡ 8 → length b.counts ≡ 8 → at + (230 * (8 - b.count) + room_for 20 154 b) + 134 ≤ n
      → read_from k t store at b ≡ read_from k u store at b
  unfolding read_from
  reads zero store at b m c h = refl
  reads (suc k) store at b m c h =
      rw (step at b store (omega arith))
      (step_at-cases (λ (s : Stepped). go_on s.step s.table (read_from k t store) ≡ go_on s.step s.table (read_from k u store)) u at b store
      (λ m p. refl)
      (λ e l. refl)
      (λ x e z.
      let d = drive_of (part x u at) in
      let r = refusal-room b.count b.drives d store z in
      reads k store (at + x) (more b d) m c (omega (arith, h, r, (drive-bytes e).size, length_most e.kind, room_most 20 154 (omega arith) (more b d))))
      (λ x e z.
      let i = number_in (part x u at) in
      let l = bads_in (part x u at) in
      let r = bads_room b i l z in
      let w = bads_whole u at 3 x e refl in
      reads k store (at + x) (with_bads b i l) m (length-set b.counts i l.count ∙ c)
      (omega (arith, h, w.2, room-bare 20 154 (omega arith) b i l r, room-listed 20 154 (omega arith) b i l r c (listed-whole u at x e).some)))
      (λ e z.
      let i = number_in (part 20 u at) in
      let p = parameters_in (part 20 u at) in
      let r = parameters-room b i z in
      reads k store (at + 20) (with_parameters b i p) (length-set b.present i true ∙ m) c
      (omega (arith, h, room_open 20 154 (omega arith) b i r.1 r.2, room_shut 20 154 (omega arith) b i p r.1 r.0 m))))

-- two inputs with the same first 1974 bytes are read alike
pub needed : (t u : List ℕ) (store : ℕ) → take 1974 t ≡ take 1974 u → read_table t store ≡ read_table u store
unfolding read_table room_for
needed t u store e = reads 1974 t u e most_records store 0 empty_table refl refl (omega arith)

-- so a buffer of at least 1974 bytes answers for input of any length
pub buffer_enough : (n : ℕ) (t : List ℕ) (store : ℕ) → 1974 ≤ n → read_table (take n t) store ≡ read_table t store
buffer_enough n t store h = needed (take n t) t store (take-take 1974 n t h)
