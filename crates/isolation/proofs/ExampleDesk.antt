-- The desk of the instances: two drives that differ in every field, each with parameters, windows with room beside 17 blocks, bytes at the arena's end that are nobody's.
-- Assumes nothing.
use Prim.Native.Nat.{ℕ, zero, suc, ◌≤◌, ◌<◌}
use mathlib.Core.Path.{◌≡◌, refl, sym, ap, subst, ◌∙◌}
use mathlib.Core.Logic.{⊎_elim}
use mathlib.Core.Bool.{true, false}
use mathlib.Core.List.{List, [], ◌∷◌, ◌++◌}
use native.Mathlib.Omega.{arith}
use native.Mathlib.Decide.{ℕ_discrete}
use lib.ListN.{length, replicate, length-replicate, length-append}
use Rattle.std.specs.Prelude.{Ok}
use Rattle.logic.proofs.LogicLaws.{lt_or_le}
use Rattle.words.specs.Words.{le, le_bytes}
use Rattle.chs.specs.Chs.{in_limits}
use Rattle.drive.specs.declared.Drive.{Drive}
use Rattle.drive.specs.Drive.{drive_of, same, bus_ok, interface_ok, geometry_fits, fields_ok, in_store, overlap, is_i2o, kind_ok, tail_of, zero_tail}
use Rattle.table.specs.declared.Table.{Table}
use Rattle.table.specs.Table.{zero_drive, header_of, header_at, overlaps_any, refusal, parameters_refusal, record_refusal, with_record, record_step, end_step, step_of, step_at, read_from, read_table}
use Rattle.layout.specs.declared.Packet.{Packet}
use Rattle.desk.specs.declared.After.{After}
use Rattle.layout.specs.Packet.{packet_length, packet_at, read_packet}
use Rattle.memory.specs.Window.{guests, span_length, window_of, with_window}
use Rattle.memory.proofs.WindowLaws.{span_in, length-with_window, window_with_same, window_with_other}
use Rattle.desk.specs.declared.Desk.{Desk}
use Rattle.desk.specs.Calls.{OpenAnswer, opened, open_of}
use Rattle.isolation.specs.Lists.{Call, run}
use Rattle.isolation.specs.Words.{NoneOpens}
use Rattle.isolation.specs.Demand.{Claim}
use Rattle.isolation.proofs.Accept.{Inv, inv_opened}
use Rattle.isolation.proofs.Theorem.{demand}

-- drive 80h: 19 blocks from store block 2, 1/2/9, protected; drive 81h, of kind 2: 61 blocks from store block 24, 3/4/5, flags 8 (it
-- can verify); each is followed by its parameters
abbrev pub table_bytes : List ℕ
table_bytes =
    68 ∷ 0 ∷ 1 ∷ 0 ∷ 1 ∷ 0 ∷ 0 ∷ 0 ∷ 2 ∷ 0 ∷ 0 ∷ 0 ∷ 9 ∷ 0 ∷ 0 ∷ 0 ∷ 19 ∷ 0 ∷ 0 ∷ 0 ∷ 0 ∷ 0 ∷ 0 ∷ 0 ∷ 2 ∷ 0 ∷ 0 ∷ 0 ∷ 0 ∷ 0 ∷ 0 ∷ 0 ∷ 0 ∷ 0 ∷ 1 ∷ 0 ∷ 2 ∷ 0 ∷ 9 ∷ 1 ∷ 73 ∷ 83 ∷ 65 ∷ 0 ∷ 65 ∷ 84 ∷ 65 ∷ 80 ∷ 73 ∷ 0 ∷ 0 ∷ 0 ∷ 1 ∷ 2 ∷ 3 ∷ 4 ∷ 5 ∷ 6 ∷ 7 ∷ 8 ∷ 9 ∷ 10 ∷ 11 ∷ 12 ∷ 13 ∷ 14 ∷ 15 ∷ 16
    ∷ 20 ∷ 0 ∷ 4 ∷ 0 ∷ 0 ∷ 0 ∷ 41 ∷ 42 ∷ 43 ∷ 44 ∷ 45 ∷ 46 ∷ 47 ∷ 48 ∷ 49 ∷ 50 ∷ 51 ∷ 52 ∷ 53 ∷ 54
    ∷ 76 ∷ 0 ∷ 2 ∷ 0 ∷ 7 ∷ 0 ∷ 0 ∷ 0 ∷ 11 ∷ 0 ∷ 0 ∷ 0 ∷ 13 ∷ 0 ∷ 0 ∷ 0 ∷ 61 ∷ 0 ∷ 0 ∷ 0 ∷ 0 ∷ 0 ∷ 0 ∷ 0 ∷ 24 ∷ 0 ∷ 0 ∷ 0 ∷ 0 ∷ 0 ∷ 0 ∷ 0 ∷ 8 ∷ 0 ∷ 3 ∷ 0 ∷ 4 ∷ 0 ∷ 5 ∷ 0 ∷ 80 ∷ 67 ∷ 73 ∷ 0 ∷ 83 ∷ 67 ∷ 83 ∷ 73 ∷ 0 ∷ 0 ∷ 0 ∷ 0 ∷ 21 ∷ 22 ∷ 23 ∷ 24 ∷ 25 ∷ 26 ∷ 27 ∷ 28 ∷ 31 ∷ 32 ∷ 33 ∷ 34 ∷ 35 ∷ 36 ∷ 37 ∷ 38 ∷ 81 ∷ 82 ∷ 83 ∷ 84 ∷ 85 ∷ 86 ∷ 87 ∷ 88
    ∷ 20 ∷ 0 ∷ 4 ∷ 0 ∷ 1 ∷ 0 ∷ 61 ∷ 62 ∷ 63 ∷ 64 ∷ 65 ∷ 66 ∷ 67 ∷ 68 ∷ 69 ∷ 70 ∷ 71 ∷ 72 ∷ 73 ∷ 74
    ∷ 4 ∷ 0 ∷ 0 ∷ 0 ∷ []

-- 8 windows of 8960 bytes, and five more
abbrev pub arena_length : ℕ
arena_length = 71685

abbrev pub M : ℕ
M = 8960

-- 90 blocks
abbrev pub store_length : ℕ
store_length = 46080

abbrev pub guarded : Drive
guarded =
    record {
      cylinders = 1;
      heads = 2;
      sectors = 9;
      blocks = 19;
      first = 2;
      flags = 0;
      c = 1;
      h = 2;
      s = 9;
      protection = 1;
      bus = 73 ∷ 83 ∷ 65 ∷ 0 ∷ [];
      interface = 65 ∷ 84 ∷ 65 ∷ 80 ∷ 73 ∷ 0 ∷ 0 ∷ 0 ∷ [];
      path = 1 ∷ 2 ∷ 3 ∷ 4 ∷ 5 ∷ 6 ∷ 7 ∷ 8 ∷ [];
      device = 9 ∷ 10 ∷ 11 ∷ 12 ∷ 13 ∷ 14 ∷ 15 ∷ 16 ∷ [];
      kind = 1;
      tail = replicate 8 0;
    }

abbrev pub plain : Drive
plain =
    record {
      cylinders = 7;
      heads = 11;
      sectors = 13;
      blocks = 61;
      first = 24;
      flags = 8;
      c = 3;
      h = 4;
      s = 5;
      protection = 0;
      bus = 80 ∷ 67 ∷ 73 ∷ 0 ∷ [];
      interface = 83 ∷ 67 ∷ 83 ∷ 73 ∷ 0 ∷ 0 ∷ 0 ∷ 0 ∷ [];
      path = 21 ∷ 22 ∷ 23 ∷ 24 ∷ 25 ∷ 26 ∷ 27 ∷ 28 ∷ [];
      device = 31 ∷ 32 ∷ 33 ∷ 34 ∷ 35 ∷ 36 ∷ 37 ∷ 38 ∷ [];
      kind = 2;
      tail = 81 ∷ 82 ∷ 83 ∷ 84 ∷ 85 ∷ 86 ∷ 87 ∷ 88 ∷ [];
    }

abbrev pub given : List ℕ
given =
    41 ∷ 42 ∷ 43 ∷ 44 ∷ 45 ∷ 46 ∷ 47 ∷ 48 ∷ 49 ∷ 50 ∷ 51 ∷ 52 ∷ 53 ∷ 54
    ∷ 61 ∷ 62 ∷ 63 ∷ 64 ∷ 65 ∷ 66 ∷ 67 ∷ 68 ∷ 69 ∷ 70 ∷ 71 ∷ 72 ∷ 73 ∷ 74
    ∷ replicate 84 0

abbrev pub table : Table
table = record { drives = guarded ∷ plain ∷ replicate 6 zero_drive; count = 2; present = true ∷ true ∷ replicate 6 false; parameters = given; counts = replicate 8 0; bad = replicate 1024 0 }

abbrev pub d₀ : Desk
d₀ = opened table arena_length store_length

pub opening : open_of table_bytes arena_length store_length ≡ record { desk = d₀; answer = Ok tt }
unfolding open_of le le_bytes in_limits drive_of same bus_ok interface_ok geometry_fits fields_ok in_store overlap header_of header_at overlaps_any refusal parameters_refusal record_refusal with_record record_step end_step step_of step_at read_from read_table tail_of is_i2o zero_tail kind_ok
opening = refl

pub inv₀ : Inv d₀
inv₀ = subst (λ (o : After OpenAnswer). Inv o.desk) opening (inv_opened table_bytes arena_length store_length (ap (λ (o : After OpenAnswer). o.answer) opening))

-- demand 3 of a list of calls at it
pub claimed : (calls : List Call) → NoneOpens (run d₀ calls) → Claim table_bytes d₀ M calls
claimed calls =
    subst (λ (o : After OpenAnswer). NoneOpens (run o.desk calls) → Claim table_bytes o.desk M calls) opening
    (demand table_bytes arena_length store_length calls (ap (λ (o : After OpenAnswer). o.answer) opening))

-- ---- the packet at 0001:0008 of a window

pub read-packet : (w : List ℕ) (p : Packet) → length w ≡ M → packet_at w 24 ≡ p → read_packet w 24 ≡ Ok p
unfolding read_packet
read-packet w p l e = rw l (ap Ok e)

-- 16 bytes there, and zeros around them
abbrev pub window_with : List ℕ → List ℕ
window_with bytes = replicate 24 0 ++ (bytes ++ replicate 8920 0)

length-window_with : (bytes : List ℕ) → length bytes ≡ packet_length → length (window_with bytes) ≡ M
length-window_with bytes e =
    length-append (replicate 24 0) (bytes ++ replicate 8920 0)
    ∙ omega (arith, length-append bytes (replicate 8920 0), length-replicate {A = ℕ} 8920 0, length-replicate {A = ℕ} 24 0, e)

-- ---- such an arena, each guest's packet in its window, and a store of sevens

module _ (packet : ℕ → List ℕ) (whole : (g : ℕ) → length (packet g) ≡ packet_length) where
  long : (g : ℕ) → length (window_with (packet g)) ≡ M
  long g = length-window_with (packet g) (whole g)

  -- with the windows of the first k guests
  filled : ℕ → List ℕ
  filled zero = replicate arena_length 0
  filled (suc k) = with_window (filled k) k M (window_with (packet k))

  length_filled : (k : ℕ) → length (filled k) ≡ arena_length
  unfolding filled
  length_filled zero = length-replicate {A = ℕ} arena_length 0
  length_filled (suc k) = length-with_window (filled k) k M (window_with (packet k)) ∙ length_filled k

  span_filled : (k g : ℕ) → g < guests → span_length (length (filled k)) g M ≡ M
  span_filled k g b = ap (λ (n : ℕ). span_length n g M) (length_filled k) ∙ (span_in arena_length g M (omega arith) b).1

  window_filled : (k g : ℕ) → k ≤ guests → g < k → window_of (filled k) g M ≡ window_with (packet g)
  unfolding filled
  window_filled zero g l b = absurd (omega arith)
  window_filled (suc k) g l b = by_guest (ℕ_discrete k g) (window_filled k g (omega arith))
    where
      below : (k g : ℕ) → g < suc k → (k ≡ g → ⊥) → g < k
      below k g b n = ⊎_elim (λ x. x) (λ x. absurd (n (omega arith))) (lt_or_le g k)

      by_guest : Dec (k ≡ g) → (g < k → window_of (filled k) g M ≡ window_with (packet g)) → window_of (with_window (filled k) k M (window_with (packet k))) g M ≡ window_with (packet g)
      by_guest (yes y) ih =
          subst (λ (h : ℕ). window_of (with_window (filled k) k M (window_with (packet k))) h M ≡ window_with (packet h)) y
          (window_with_same (filled k) k M (window_with (packet k)) (long k ∙ sym (span_filled k k (omega arith))))
      by_guest (no y) ih =
          window_with_other (filled k) k g M (window_with (packet k)) y (long k ∙ sym (span_filled k k (omega arith))) ∙ ih (below k g b y)

  pub arena_of : List ℕ
  arena_of = filled guests

  pub length-arena : length arena_of ≡ arena_length
  unfolding arena_of
  length-arena = length_filled guests

  pub window-arena : (g : ℕ) → g < guests → window_of arena_of g M ≡ window_with (packet g)
  unfolding arena_of
  window-arena g b = window_filled guests g (omega arith) b

  pub held-arena : (g : ℕ) → g < guests → packet_at (window_of arena_of g M) 24 ≡ packet_at (window_with (packet g)) 24
  held-arena g b = ap (λ (w : List ℕ). packet_at w 24) (window-arena g b)

pub sevens : List ℕ
sevens = replicate store_length 7

pub length_sevens : length sevens ≡ store_length
unfolding sevens
length_sevens = length-replicate {A = ℕ} store_length 7
