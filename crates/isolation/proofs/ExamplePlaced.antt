-- Demand 3 at work with placements: guest 2's tables are placed twice before its post, the second time anew, and a bad place is refused; while it
-- waits its own placement is refused and another guest's is not, whose 48h then gives a pointer. Every condition of `equal`, `at_once` and `placing`
-- is met.
-- Assumes nothing.
use Prim.Native.Nat.{ℕ, suc, ◌+◌, ◌<◌}
use mathlib.Core.Path.{◌≡◌, refl, ap, subst₂, ◌∙◌}
use mathlib.Core.Logic.{inl}
use mathlib.Core.Bool.{true, false}
use mathlib.Core.List.{List, [], ◌∷◌, ◌++◌}
use native.Mathlib.Omega.{arith}
use lib.ListN.{length, get_or, set, take, drop, length-drop}
use lib.Seq.{sets, get_or-set_other}
use Rattle.words.specs.Words.{le}
use Rattle.words.proofs.WordsLaws.{le_ext}
use Rattle.chs.specs.Chs.{in_limits, is_valid, block_of}
use Rattle.attached.specs.Bad.{held_of, is_bad, good}
use Rattle.layout.specs.declared.Pointer.{Pointer}
use Rattle.drive.specs.Drive.{is_i2o, same}
use Rattle.layout.specs.ResultBuffer.{returned_size, result_answer, result_out}
use Rattle.memory.specs.Window.{window_of, with_window}
use Rattle.memory.proofs.WindowLaws.{length-window, length-with_window, window_with_same, window_with_other}
use Rattle.table.specs.Table.{parameters_to}
use Rattle.int13.specs.declared.Registers.{Registers}
use Rattle.int13.specs.declared.Placement.{Placement}
use Rattle.int13.specs.declared.Outcome.TheVariants.{Answered}
use Rattle.int13.specs.Answers.{succeed, ended, posted as posted_registers}
use Rattle.int13.specs.Placement.{placed_at, tables_of}
use Rattle.int13.specs.Steps.{unchanged, is_drive, bads_of, shown_of, extensions, result_into, fed, steps, begin}
use Rattle.int13.specs.Alone.{alone}
use Rattle.desk.specs.declared.Request.{Request}
use Rattle.desk.specs.declared.Stage.TheVariants.{Waiting, Finished}
use Rattle.desk.specs.declared.Desk.{Desk}
use Rattle.desk.specs.Parts.{stage_at, is_waiting}
use Rattle.desk.specs.Acceptable.{place_ok}
use Rattle.desk.specs.Calls.{first_waiting, moves_now, stage_after, tables_in}
use Rattle.isolation.specs.Lists.{Out, step, after}
use Rattle.isolation.specs.Words.{placement_in}
use Rattle.isolation.specs.Demand.{found_by, first_by, Same, SameAtOnce, Claim}
use Rattle.isolation.proofs.Equal.{request}
use Rattle.isolation.proofs.Keep.{tables-size}
use Rattle.isolation.proofs.Trace.{Place, place, Line, waiting, answering, serving, placing, barred, misplacing, leaves, call_of, out_at, place_after, calls_of, All, ◌also◌, Sized, window_lent, step_line, sized, followed, arrives, all_split, Story, posting, waiting_on, meanwhile, finishing, calls_later, closed-later, equal-later}
use Rattle.isolation.proofs.ExampleDesk.{table_bytes, arena_length, M, store_length, plain, table, d₀, inv₀, claimed, arena_of, length-arena, window-arena, sevens, length_sevens}
use Rattle.isolation.proofs.ExampleWrite.{saved, save_job, check_save}

-- ---- the calls

-- guest 2's write as in the other instance; its buffer 0003:0007 holds the tables that are placed at 48
abbrev saving : ℕ → Request
saving k = request save_job k

-- guest 6 asks for the extensions of drive 81h, and for its parameters, in a buffer at 0001:0008 that says 30 bytes
abbrev pub extends : Registers
extends = record { ax = 0x4100; bx = 0x55AA; cx = 0x6666; dx = 0x7781; ds = 1; si = 8; es = 0x8888; carry = true }

abbrev pub extended : Registers
extended = record { ax = 0x3000; bx = 0xAA55; cx = 5; dx = 0x7781; ds = 1; si = 8; es = 0x8888; carry = false }

abbrev pub points : Registers
points = record { ax = 0x4800; bx = 0x55AA; cx = 0x6666; dx = 0x7781; ds = 1; si = 8; es = 0x8888; carry = true }

-- the table of drive 81h is the second of those placed at 8928, whose segment is 558
abbrev pub pointer : Pointer
pointer = record { offset = 0; segment = 559 }

abbrev pub shown : List ℕ → List ℕ
shown w = take 24 w ++ result_out plain pointer 30 (drop 24 w)

check_extends : (w : List ℕ) → begin (fed table (placed_at 8928)) extends w ≡ unchanged w (Answered extended)
unfolding begin steps extensions is_drive shown_of
check_extends w = refl

check_points : (w : List ℕ) → length w ≡ M → le 2 w 24 ≡ 30 → begin (fed table (placed_at 8928)) points w ≡ record { outcome = Answered (succeed points); window = shown w }
unfolding begin steps result_into is_drive shown_of parameters_to result_answer returned_size is_i2o same
check_points w l e = rw (e, length-drop 24 w, l)

-- ---- the lines

-- guest 2's tables at 32, then at 48, in place of that; 40 is no multiple of 16
abbrev pub ahead : List Line
ahead = placing 2 32 ∷ placing 2 48 ∷ misplacing 2 40 ∷ []

-- the first part of guest 2; its tables may not be moved now; guest 6's are placed at the last address that has room for both, and one past it is
-- refused
abbrev pub between : List Line
between =
    serving 2 (saving 0) 16 (Waiting (saving 16))
    ∷ barred 2 64
    ∷ placing 6 8928
    ∷ answering 6 points (succeed points) shown
    ∷ answering 6 extends extended (λ w. w)
    ∷ misplacing 6 8944
    ∷ []

abbrev pub last : Line
last = serving 2 (saving 16) 1 (Finished (succeed (posted_registers saved)))

-- ---- the calls, over any arena and store of those lengths with a size word in guest 6's window

before-place : (vs l : List ℕ) (i k : ℕ) → k < i → get_or (sets l i vs) k 0 ≡ get_or l k 0
before-place [] l i k h = refl
before-place (v ∷ vs) l i k h = before-place vs (set l i v) (suc i) k (omega arith) ∙ get_or-set_other l i k v 0 (λ e. omega arith)

module _ (a s : List ℕ) (la : length a ≡ arena_length) (ls : length s ≡ store_length) (held : le 2 (window_of a 6 M) 24 ≡ 30) where
  abbrev pub p₀ : Place
  p₀ = place d₀ a s

  pub z₀ : Sized p₀
  z₀ = record { inv = inv₀; arena = la; store = ls }

  pub aheads : All p₀ ahead
  unfolding place_ok parameters_to
  aheads = (refl, refl, refl) also (refl, refl, refl) also (refl, refl, refl) also tt

  abbrev pub p₁ : Place
  p₁ = place_after p₀ ahead

  z₁ : Sized p₁
  z₁ = sized ahead p₀ z₀ aheads

  -- guest 6's size word stands where it stood, whatever is placed for guest 2, and behind it for guest 6
  untouched : (x w : List ℕ) → length w ≡ length (window_of x 2 M) → window_of (with_window x 2 M w) 6 M ≡ window_of x 6 M
  untouched x w l = window_with_other x 2 6 M w (λ e. omega arith) (l ∙ length-window x 2 M)

  abbrev a₁ : List ℕ
  a₁ = (leaves p₀ (placing 2 32)).arena

  same-window : window_of p₁.arena 6 M ≡ window_of a 6 M
  same-window =
      untouched a₁ (tables_in table 48 (window_of a₁ 2 M)) (tables-size table 48 (window_of a₁ 2 M))
      ∙ untouched a (tables_in table 32 (window_of a 2 M)) (tables-size table 32 (window_of a 2 M))

  laid : window_of (leaves p₁ (placing 6 8928)).arena 6 M ≡ tables_in table 8928 (window_of p₁.arena 6 M)
  laid =
      window_with_same p₁.arena 6 M (tables_in table 8928 (window_of p₁.arena 6 M))
      (tables-size table 8928 (window_of p₁.arena 6 M) ∙ length-window p₁.arena 6 M)

  size_word : le 2 (window_of (leaves p₁ (placing 6 8928)).arena 6 M) 24 ≡ 30
  size_word =
      ap (λ (w : List ℕ). le 2 w 24) laid
      ∙ le_ext 2 (tables_in table 8928 (window_of p₁.arena 6 M)) (window_of p₁.arena 6 M) 24 24
      (λ i h. before-place (tables_of table) (window_of p₁.arena 6 M) 8928 (24 + i) (omega arith))
      ∙ ap (λ (w : List ℕ). le 2 w 24) same-window ∙ held

  long : length (leaves p₁ (placing 6 8928)).arena ≡ arena_length
  long = length-with_window p₁.arena 6 M (tables_in table 8928 (window_of p₁.arena 6 M)) ∙ z₁.arena

  pub lines : All p₁ (waiting 2 saved save_job ∷ (between ++ last ∷ []))
  unfolding first_waiting moves_now bads_of is_drive good is_bad held_of stage_after ended place_ok parameters_to
  lines =
      (refl, refl, check_save (placed_at 48) (window_of p₁.arena 2 M) (window_lent d₀ p₁.arena 2 z₁.arena (omega arith)))
      also (refl, refl, refl, refl)
      also (refl, refl)
      also (refl, refl, refl)
      also (refl, refl, check_points (window_of (leaves p₁ (placing 6 8928)).arena 6 M) (window_lent d₀ (leaves p₁ (placing 6 8928)).arena 6 long (omega arith)) size_word)
      also (refl, refl, check_extends _)
      also (refl, refl, refl)
      also (refl, refl, refl, refl)
      also tt

  abbrev pub story : Story p₁
  story = record { guest = 2; registers = saved; job = save_job; between = between; last = last; rest = []; lines = lines }

  claim : Claim table_bytes d₀ M (calls_later p₀ ahead story z₀ aheads)
  claim = claimed (calls_later p₀ ahead story z₀ aheads) (closed-later p₀ ahead story z₀ aheads)

  start : first_by table M (posting story) 2 saved ≡ 56
  unfolding block_of in_limits is_valid
  start = refl

  -- guest 2's registers, window and store blocks are those of its write served alone, which is fed the placement at 48
  pub example : Same M 2 (first_by table M (posting story) 2 saved) 17
      (step (after (step (after d₀ (calls_of p₀ ahead)) (posting story)).desk (meanwhile story)) (finishing story))
      (alone (fed table_bytes (placed_at 48)) saved (found_by M (posting story) 2))
  example = equal-later p₀ ahead story z₀ aheads M 17 56 refl start refl (waiting_on story 17 refl (omega arith) refl) (inl refl) table_bytes claim refl refl refl

  -- ---- guest 6 is answered at once as served alone is, which is fed its placement

  abbrev asks₆ : Line
  asks₆ = answering 6 points (succeed points) shown

  abbrev rest : List Line
  rest = answering 6 extends extended (λ w. w) ∷ misplacing 6 8944 ∷ last ∷ []

  abbrev front : List Line
  front = waiting 2 saved save_job ∷ serving 2 (saving 0) 16 (Waiting (saving 16)) ∷ []

  abbrev both : List Line
  both = barred 2 64 ∷ placing 6 8928 ∷ []

  cut : All p₁ (front ++ both) × All (place_after p₁ (front ++ both)) (asks₆ ∷ rest)
  cut = all_split (front ++ both) (asks₆ ∷ rest) p₁ lines

  -- after the calls ahead and these
  so_far : (ls : List Line) → All p₁ ls → All p₀ (ahead ++ ls)
  so_far ls h = aheads.0 also aheads.1.0 also aheads.1.1.0 also h

  abbrev seven : List Line
  seven = ahead ++ (front ++ both)

  abbrev pub p₇ : Place
  p₇ = place_after p₀ seven

  asked_then : step (after d₀ (calls_of p₀ seven)) (call_of p₇ asks₆) ≡ out_at p₇ asks₆
  asked_then =
      ap (λ (d : Desk). step d (call_of p₇ asks₆)) (arrives seven p₀ z₀ (so_far (front ++ both) cut.0))
      ∙ step_line p₇ (sized seven p₀ z₀ (so_far (front ++ both) cut.0)) asks₆ cut.1.0

  pub at-once : SameAtOnce M 6 (out_at p₇ asks₆) (succeed points) (alone (fed table_bytes (placed_at 8928)) points (found_by M (call_of p₇ asks₆) 6))
  at-once =
      subst₂ (λ (o : Out) (x : Placement). SameAtOnce M 6 o (succeed points) (alone (fed table_bytes x) points (found_by M (call_of p₇ asks₆) 6))) asked_then
      (ap (placement_in 6) (followed seven p₀ z₀ (so_far (front ++ both) cut.0)))
      (claim.at_once (calls_of p₀ seven) (calls_of (leaves p₇ asks₆) rest) (call_of p₇ asks₆) 6 points (succeed points) refl refl (ap (λ (o : Out). o.answer) asked_then))

  -- ---- guest 2 waits: its own placement, which is refused, leaves its row and its window, and so does guest 6's

  abbrev five : List Line
  five = ahead ++ front

  abbrev pub p₅ : Place
  p₅ = place_after p₀ five

  waits₅ : stage_at (after d₀ (calls_of p₀ five)) 2 ≡ Waiting (saving 16)
  waits₅ = ap (λ (d : Desk). stage_at d 2) (arrives five p₀ z₀ (so_far front (all_split front both p₁ cut.0).0))

  abbrev six : List Line
  six = ahead ++ (front ++ barred 2 64 ∷ [])

  waits₆ : stage_at (after d₀ (calls_of p₀ six)) 2 ≡ Waiting (saving 16)
  waits₆ =
      ap (λ (d : Desk). stage_at d 2) (arrives six p₀ z₀ (so_far (front ++ barred 2 64 ∷ []) (all_split (front ++ barred 2 64 ∷ []) (placing 6 8928 ∷ []) p₁ cut.0).0))

  abbrev KeepsTwo : Out → Type 0
  KeepsTwo o = (stage_at o.desk 2 ≡ Waiting (saving 16)) × (window_of o.arena 2 M ≡ window_of p₅.arena 2 M)

  pub own-placing : KeepsTwo (step (after d₀ (calls_of p₀ five)) (call_of p₅ (barred 2 64)))
  own-placing =
      let c = claim.placing (calls_of p₀ five) (calls_of p₅ (placing 6 8928 ∷ asks₆ ∷ rest)) (call_of p₅ (barred 2 64)) 2 64 2 refl refl in
      (c.0 ∙ waits₅, c.2 (ap is_waiting waits₅))

  pub other-placing : KeepsTwo (step (after d₀ (calls_of p₀ six)) (call_of p₅ (placing 6 8928)))
  other-placing =
      let c = claim.placing (calls_of p₀ six) (calls_of p₇ (asks₆ ∷ rest)) (call_of p₅ (placing 6 8928)) 6 8928 2 refl refl in
      (c.0 ∙ waits₆, c.1 (λ e. omega arith))

-- ---- such an arena, and a store: a word 30 at 24 of each window

abbrev pub word_bytes : List ℕ
word_bytes = 30 ∷ 0 ∷ 0 ∷ 0 ∷ 0 ∷ 0 ∷ 0 ∷ 0 ∷ 0 ∷ 0 ∷ 0 ∷ 0 ∷ 0 ∷ 0 ∷ 0 ∷ 0 ∷ []

abbrev pub some_arena : List ℕ
some_arena = arena_of (λ g. word_bytes) (λ g. refl)

pub long_arena : length some_arena ≡ arena_length
long_arena = length-arena (λ g. word_bytes) (λ g. refl)

pub held_there : le 2 (window_of some_arena 6 M) 24 ≡ 30
unfolding le
held_there = ap (λ (w : List ℕ). le 2 w 24) (window-arena (λ g. word_bytes) (λ g. refl) 6 (omega arith))

abbrev pub story_of_bytes : Story (p₁ some_arena sevens long_arena length_sevens held_there)
story_of_bytes = story some_arena sevens long_arena length_sevens held_there

pub example_bytes : Same M 2 (first_by table M (posting story_of_bytes) 2 saved) 17
    (step (after (step (after d₀ (calls_of (place d₀ some_arena sevens) ahead)) (posting story_of_bytes)).desk (meanwhile story_of_bytes)) (finishing story_of_bytes))
    (alone (fed table_bytes (placed_at 48)) saved (found_by M (posting story_of_bytes) 2))
example_bytes = example some_arena sevens long_arena length_sevens held_there
