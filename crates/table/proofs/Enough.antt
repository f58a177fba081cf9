-- Twenty-five records are enough: the bound of the reader is no rule of its own. Each record that is taken leaves room for fewer: a drive for its bad
-- blocks and its parameters, bad blocks for the parameters, and parameters for none before the next drive.
-- Assumes nothing.
use Rattle.std.specs.Prelude.{Ok}
use mathlib.Core.Path.{◌≡◌, refl, ◌∙◌}
use mathlib.Core.Bool.{true, false}
use mathlib.Core.List.{List}
use Prim.Native.Nat.{ℕ, zero, suc, ◌+◌, ◌-◌, ◌*◌, ◌≤◌, ◌<◌}
use native.Mathlib.Nat.{add-zero, add-suc}
use native.Mathlib.Numerals.{add-one}
use native.Mathlib.Omega.{arith}
use lib.ListN.{length, length-set}
use lib.Seq.{get_or-set_same}
use borrow.Author.Tests.{ne_eqb}
use Rattle.logic.specs.Logic.{pick}
use Rattle.logic.proofs.LogicLaws.{pick-cases}
use Rattle.drive.specs.declared.Drive.{Drive}
use Rattle.drive.specs.Drive.{drive_of}
use Rattle.words.specs.Words.{part}
use Rattle.attached.specs.declared.Bads.{Bads}
use Rattle.attached.specs.Parameters.{number_in, parameters_in}
use Rattle.attached.specs.Bad.{bads_in}
use Rattle.table.specs.declared.Table.{Table}
use Rattle.table.specs.declared.Stepped.{Stepped}
use Rattle.table.specs.Table.{header_at, more, has_parameters, with_parameters, has_bads, with_bads, go_on, most_records, read_from, read_table, empty_table}
use Rattle.table.proofs.TableLaws.{BadsRoom, step_at-cases, bads_whole, refusal-room, bads_room, parameters-room}
use Rattle.table.proofs.Slots.{Listed, bads_in-listed}

-- ---- what may follow the last drive

-- behind the drive that was counted last: the most where it has neither bad blocks nor parameters, few where it has bad blocks, nothing behind
-- parameters
abbrev room_at : ℕ → ℕ → ℕ → Table → ℕ
room_at few most zero b = 0
room_at few most (suc i) b = pick (has_parameters b i) 0 (pick (has_bads b i) few most)

unfoldable pub room_for : ℕ → ℕ → Table → ℕ
room_for few most b = room_at few most b.count b

module _ (few most : ℕ) (up : few ≤ most) where
  at_most : (n : ℕ) (b : Table) → room_at few most n b ≤ most
  at_most zero b = omega arith
  at_most (suc i) b =
      pick-cases (λ (x : ℕ). x ≤ most) (has_parameters b i) 0 (pick (has_bads b i) few most) (λ e. omega arith)
      (λ e. pick-cases (λ (x : ℕ). x ≤ most) (has_bads b i) few most (λ f. up) (λ f. omega arith))

  pub room_most : (b : Table) → room_for few most b ≤ most
  unfolding room_for
  room_most b = at_most b.count b

  -- a list of bad blocks takes the most to the few
  pub room-bare : (b : Table) (i : ℕ) (l : Bads) → BadsRoom b i l → room_for few most b ≡ most
  unfolding room_for
  room-bare b i l r = rw (← r.last, add-one, r.bare, r.none)

  pub room-listed : (b : Table) (i : ℕ) (l : Bads) → BadsRoom b i l → length b.counts ≡ 8 → 1 ≤ l.count → room_for few most (with_bads b i l) ≡ few
  unfolding room_for
  room-listed b i l r e h =
      let s = get_or-set_same b.counts i l.count 0 (omega (arith, e, r.slot)) in
      rw (← r.last, add-one, r.bare, s, ne_eqb l.count 0 (λ z. omega arith))

  -- and parameters take the few to nothing
  pub room_open : (b : Table) (i : ℕ) → i + 1 ≡ b.count → has_parameters b i ≡ false → few ≤ room_for few most b
  unfolding room_for
  room_open b i e f = rw (← e, add-one, f) (pick-cases (λ (x : ℕ). few ≤ x) (has_bads b i) few most (λ g. omega arith) (λ g. up))

  pub room_shut : (b : Table) (i : ℕ) (p : List ℕ) → i + 1 ≡ b.count → i < 8 → length b.present ≡ 8 → room_for few most (with_parameters b i p) ≡ 0
  unfolding room_for
  room_shut b i p e h m = rw (← e, add-one, get_or-set_same b.present i true false (omega arith))

-- ---- how many records

-- what the header of a record of bad blocks says of its list
pub listed-whole : (t : List ℕ) (at n : ℕ) → header_at t at ≡ Ok (3, n) → Listed (bads_in (part n t at))
listed-whole t at n h = let w = bads_whole t at 3 n h refl in bads_in-listed (part n t at) (rw w.0 w.4)

-- those that a table has room for: three for each drive that may follow, and those behind the last one
unfoldable pub records_left : Table → ℕ
records_left b = 3 * (8 - b.count) + room_for 1 2 b

left_empty : records_left empty_table ≡ 24
unfolding records_left room_for
left_empty = refl

-- with a drive there is room for fewer than without one
pub left_some : (b : Table) → 1 ≤ b.count → records_left b < 24
unfolding records_left
left_some b h = omega (arith, h, room_most 1 2 (omega arith) b)

left_more : (b : Table) (d : Drive) → b.count < 8 → records_left (more b d) < records_left b
unfolding records_left
left_more b d h = omega (arith, h, room_most 1 2 (omega arith) (more b d))

left_bads : (b : Table) (i : ℕ) (l : Bads) → BadsRoom b i l → length b.counts ≡ 8 → 1 ≤ l.count → records_left (with_bads b i l) < records_left b
unfolding records_left
left_bads b i l r e h = omega (arith, room-bare 1 2 (omega arith) b i l r, room-listed 1 2 (omega arith) b i l r e h)

left_attach : (b : Table) (i : ℕ) (p : List ℕ) → i + 1 ≡ b.count → i < 8 → has_parameters b i ≡ false → length b.present ≡ 8
    → records_left (with_parameters b i p) < records_left b
unfolding records_left
left_attach b i p e h f m = omega (arith, room_open 1 2 (omega arith) b i e f, room_shut 1 2 (omega arith) b i p e h m)

-- one record more than there is room for reads the same
pub one_more : (k : ℕ) (t : List ℕ) (store at : ℕ) (b : Table) → length b.present ≡ 8 → length b.counts ≡ 8 → records_left b < k
    → read_from (suc k) t store at b ≡ read_from k t store at b
unfolding read_from
one_more zero t store at b m c h = absurd (omega arith)
one_more (suc k) t store at b m c h =
    step_at-cases (λ (r : Stepped). go_on r.step r.table (read_from (suc k) t store) ≡ go_on r.step r.table (read_from k t store)) t at b store
    (λ n p. refl)
    (λ e q. refl)
    (λ n e z.
    let d = drive_of (part n t at) in
    let r = refusal-room b.count b.drives d store z in
    one_more k t store (at + n) (more b d) m c (omega (arith, h, left_more b d r)))
    (λ n e z.
    let i = number_in (part n t at) in
    let l = bads_in (part n t at) in
    let r = bads_room b i l z in
    one_more k t store (at + n) (with_bads b i l) m (length-set b.counts i l.count ∙ c) (omega (arith, h, left_bads b i l r c (listed-whole t at n e).some)))
    (λ e z.
    let i = number_in (part 20 t at) in
    let p = parameters_in (part 20 t at) in
    let r = parameters-room b i z in
    one_more k t store (at + 20) (with_parameters b i p) (length-set b.present i true ∙ m) c (omega (arith, h, left_attach b i p r.1 r.0 r.2 m)))

-- a larger bound reads the same
pub enough : (k : ℕ) (t : List ℕ) (store : ℕ) → read_from (most_records + k) t store 0 empty_table ≡ read_table t store
unfolding read_table
enough zero t store = rw add-zero
enough (suc k) t store = rw add-suc (one_more (25 + k) t store 0 empty_table refl refl (omega (arith, left_empty)) ∙ enough k t store)
