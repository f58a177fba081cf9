-- Demand 3 at work: a write in two parts, with refused calls, a withdrawal, a refusal that writes another guest's packet and a late collect
-- between. Every condition of `equal`, `handed` and `at_once` is met.
-- Assumes nothing.
use Prim.Native.Nat.{ℕ, ◌<◌}
use mathlib.Core.Path.{◌≡◌, refl, sym, ap, subst₂, ◌∙◌}
use mathlib.Core.Logic.{inl}
use mathlib.Core.Bool.{true, false}
use mathlib.Core.List.{List, [], ◌∷◌, ◌++◌}
use native.Mathlib.Omega.{arith}
use lib.ListN.{length}
use Rattle.std.specs.Prelude.{Result, Ok}
use Rattle.logic.proofs.LogicLaws.{impossible}
use Rattle.words.specs.Words.{le}
use Rattle.chs.specs.Chs.{in_limits, is_valid, block_of}
use Rattle.attached.specs.Bad.{held_of, is_bad, good}
use Rattle.layout.specs.declared.Packet.{Packet}
use Rattle.layout.specs.declared.BadParameter.{BadParameter}
use Rattle.layout.specs.Packet.{packet_at}
use Rattle.memory.specs.Window.{guests, window_of, with_window}
use Rattle.memory.proofs.WindowLaws.{length-with_window}
use Rattle.int13.specs.declared.Registers.{Registers}
use Rattle.int13.specs.declared.Placement.{Placement}
use Rattle.int13.specs.Placement.{no_placement}
use Rattle.int13.specs.declared.Job.{Job}
use Rattle.int13.specs.declared.Outcome.TheVariants.{Answered, Waits}
use Rattle.int13.specs.Answers.{write_protected, succeed, refuse, ended, posted as posted_registers}
use Rattle.int13.specs.Steps.{unchanged, is_drive, bads_of, verify_ok, packet_tests, packet_read, packet_plan, with_count, carry_out, sectors, fed, steps, begin}
use Rattle.int13.specs.Alone.{alone}
use Rattle.desk.specs.declared.Request.{Request}
use Rattle.desk.specs.declared.Stage.TheVariants.{Waiting, Finished}
use Rattle.desk.specs.declared.Desk.{Desk}
use Rattle.desk.specs.Calls.{first_waiting, moves_now, stage_after}
use Rattle.isolation.specs.Lists.{collected, Out, step, run, after}
use Rattle.isolation.specs.Words.{refused, hands, kind_of, Finishes, collects, placement_in}
use Rattle.isolation.specs.Demand.{found_by, first_by, Same, SameAtOnce, Claim}
use Rattle.isolation.proofs.Equal.{request}
use Rattle.isolation.proofs.Trace.{Place, place, Line, waiting, answering, serving, idling, unlent, withdrawing, collecting, misopening, leaves, call_of, out_at, place_after, calls_of, All, ◌also◌, Sized, window_lent, step_line, sized_line, sized, followed, arrives, all_split, Story, middle, posting, waiting_on, meanwhile, finishing, calls, split, at_middle, since_at, closed, taken, finishes, equal}
use Rattle.isolation.proofs.ExampleDesk.{table_bytes, arena_length, M, store_length, guarded, plain, table, d₀, inv₀, claimed, read-packet, arena_of, length-arena, held-arena, sevens, length_sevens}

-- ---- the requests

-- guest 2: 03h, 17 sectors from 1/2/3 of drive 81h, which is its block 32 and store block 56; buffer 0003:0007
abbrev pub saved : Registers
saved = record { ax = 0x0311; bx = 7; cx = 0x0103; dx = 0x0281; ds = 0x1111; si = 0x2222; es = 3; carry = true }

abbrev pub save_job : Job
save_job = record { registers = posted_registers saved; drive = 0x81; start = 32; count = 17; buffer = 55; packet = 0 }

-- guest 5: 03h, the sector 2/1/5 of drive 81h, store block 73, the first that guest 2 does not name; buffer 0004:0009
abbrev pub wrote : Registers
wrote = record { ax = 0x0301; bx = 9; cx = 0x0205; dx = 0x0181; ds = 0x3333; si = 0x4444; es = 4; carry = false }

abbrev pub write_job : Job
write_job = record { registers = posted_registers wrote; drive = 0x81; start = 49; count = 1; buffer = 73; packet = 0 }

-- guest 6: 43h to drive 80h, which is protected; its packet stands at 0001:0008
abbrev pub spoiled : Registers
spoiled = record { ax = 0x4301; bx = 0x5555; cx = 0x6666; dx = 0x0080; ds = 1; si = 8; es = 0x7777; carry = false }

abbrev pub packet : Packet
packet = record { size = 16; count = 3; buffer = 101; start = 4 }

pub by_sectors : (p : Placement) (r : Registers) (j : Job) (w : List ℕ) → length w ≡ M → sectors true plain r M ≡ Waits j
    → begin (fed table p) r w ≡ unchanged w (sectors true plain r (length w)) → begin (fed table p) r w ≡ unchanged w (Waits j)
by_sectors p r j w l e f = f ∙ ap (λ (n : ℕ). unchanged w (sectors true plain r n)) l ∙ ap (unchanged w) e

pub check_save : (p : Placement) (w : List ℕ) → length w ≡ M → begin (fed table p) saved w ≡ unchanged w (Waits save_job)
unfolding begin steps sectors is_drive block_of in_limits is_valid
check_save p w l = by_sectors p saved save_job w l refl refl

pub check_write : (p : Placement) (w : List ℕ) → length w ≡ M → begin (fed table p) wrote w ≡ unchanged w (Waits write_job)
unfolding begin steps sectors is_drive block_of in_limits is_valid
check_write p w l = by_sectors p wrote write_job w l refl refl

check_spoiled : (p : Placement) (w : List ℕ) → length w ≡ M → packet_at w 24 ≡ packet
    → begin (fed table p) spoiled w ≡ record { outcome = Answered (refuse write_protected spoiled); window = with_count w 24 0 }
unfolding begin steps packet_plan verify_ok is_drive packet_tests
check_spoiled p w l e = ap (λ (x : Result Packet BadParameter). carry_out (packet_read guarded (bads_of table 0x80) spoiled (length w) x) spoiled w) (read-packet w packet l e)

-- ---- the lines

abbrev saving : ℕ → Request
saving k = request save_job k

abbrev writing : Request
writing = request write_job 0

abbrev spoil : List ℕ → List ℕ
spoil w = with_count w 24 0

-- the first part of guest 2; a turn that is lent nothing, which is 24; guest 5's withdrawal; an opening that is refused; guest 6 refused with 03h,
-- its packet's count word 0; guest 5's new request
abbrev pub between : List Line
between =
    waiting 5 wrote write_job
    ∷ serving 2 (saving 0) 16 (Waiting (saving 16))
    ∷ unlent
    ∷ withdrawing 5 writing
    ∷ misopening
    ∷ answering 6 spoiled (refuse write_protected spoiled) spoil
    ∷ waiting 5 wrote write_job
    ∷ serving 5 writing 1 (Finished (succeed wrote))
    ∷ []

-- the last part of guest 2
abbrev pub last : Line
last = serving 2 (saving 16) 1 (Finished (succeed (posted_registers saved)))

-- guest 5 collects, a turn is idle, and then guest 2 collects
abbrev pub later : List Line
later = collecting 5 (succeed wrote) ∷ idling ∷ collecting 2 (succeed (posted_registers saved)) ∷ []

-- ---- the calls, over any arena and store of those lengths with guest 6's packet in its window

module _ (a s : List ℕ) (la : length a ≡ arena_length) (ls : length s ≡ store_length) (held : packet_at (window_of a 6 M) 24 ≡ packet) where
  abbrev pub p₀ : Place
  p₀ = place d₀ a s

  abbrev a₇ : List ℕ
  a₇ = with_window a 6 M (spoil (window_of a 6 M))

  long_window : (x : List ℕ) → length x ≡ arena_length → (g : ℕ) → g < guests → length (window_of x g M) ≡ M
  long_window x l g b = window_lent d₀ x g l b

  pub lines : All p₀ (waiting 2 saved save_job ∷ (between ++ last ∷ later))
  unfolding first_waiting moves_now bads_of is_drive good is_bad held_of stage_after ended
  lines =
      (refl, refl, check_save no_placement (window_of a 2 M) (long_window a la 2 (omega arith)))
      also (refl, refl, check_write no_placement (window_of a 5 M) (long_window a la 5 (omega arith)))
      also (refl, refl, refl, refl)
      also refl
      also (refl, refl, refl)
      also tt
      also (refl, refl, check_spoiled no_placement (window_of a 6 M) (long_window a la 6 (omega arith)) held)
      also (refl, refl, check_write no_placement (window_of a₇ 5 M) (long_window a₇ (length-with_window a 6 M (spoil (window_of a 6 M)) ∙ la) 5 (omega arith)))
      also (refl, refl, refl, refl)
      also (refl, refl, refl, refl)
      also (refl, refl)
      also refl
      also (refl, refl)
      also tt

  abbrev pub story : Story p₀
  story = record { guest = 2; registers = saved; job = save_job; between = between; last = last; rest = later; lines = lines }

  z₀ : Sized p₀
  z₀ = record { inv = inv₀; arena = la; store = ls }

  claim : Claim table_bytes d₀ M (calls story)
  claim = claimed (calls story) (closed story z₀)

  start : first_by table M (posting story) 2 saved ≡ 56
  unfolding block_of in_limits is_valid
  start = refl

  -- after its last part, guest 2's registers, window and store blocks 56 to 72 are those of its write served alone; guest 5 writes block 73
  pub example : Same M 2 (first_by table M (posting story) 2 saved) 17 (step (after (step d₀ (posting story)).desk (meanwhile story)) (finishing story))
      (alone (fed table_bytes no_placement) saved (found_by M (posting story) 2))
  example = equal story z₀ M 17 56 refl start (waiting_on story 17 refl (omega arith) refl) (inl refl) refl refl refl table_bytes claim

  ends : Finishes 2 17 (step d₀ (posting story)).desk (meanwhile story) (finishing story)
  ends = finishes story z₀ M 17 56 refl start (waiting_on story 17 refl (omega arith) refl) (inl refl)

  -- guest 2 collects late, after another collect and an idle turn, and is handed served alone's registers
  abbrev p₁₀ : Place
  p₁₀ = leaves (middle story) last

  abbrev more : List Line
  more = collecting 5 (succeed wrote) ∷ idling ∷ []

  abbrev collect₂ : Line
  collect₂ = collecting 2 (succeed (posted_registers saved))

  tail : All (middle story) (last ∷ more) × All (place_after p₁₀ more) (collect₂ ∷ [])
  tail = all_split (last ∷ more) (collect₂ ∷ []) (middle story) (split story z₀).1

  no_collect : collects 2 (run (after (step d₀ (posting story)).desk (meanwhile story ++ finishing story ∷ [])) (calls_of p₁₀ more)) ≡ 0
  no_collect =
      ap (λ (d : Desk). collects 2 (run d (calls_of p₁₀ more))) (since_at story z₀ (last ∷ []) (tail.0.0, tt))
      ∙ ap (collects 2) (followed more p₁₀ (sized_line (middle story) last (at_middle story z₀) tail.0.0) tail.0.1)

  given : step (after (step d₀ (posting story)).desk (meanwhile story ++ finishing story ∷ calls_of p₁₀ more)) (call_of (place_after p₁₀ more) collect₂)
      ≡ out_at (place_after p₁₀ more) collect₂
  given =
      ap (λ (d : Desk). step d (call_of (place_after p₁₀ more) collect₂)) (since_at story z₀ (last ∷ more) tail.0)
      ∙ step_line (place_after p₁₀ more) (sized (last ∷ more) (middle story) (at_middle story z₀) tail.0) collect₂ tail.1.0

  pub handed : (step (after (step d₀ (posting story)).desk (meanwhile story ++ finishing story ∷ calls_of p₁₀ more)) (call_of (place_after p₁₀ more) collect₂)).answer
      ≡ collected 2 (Ok (alone (fed table_bytes no_placement) saved (found_by M (posting story) 2)).registers)
  unfolding after run taken
  handed = claim.handed (taken story z₀) (meanwhile story) (calls_of p₁₀ more) [] (finishing story) (call_of (place_after p₁₀ more) collect₂) refl ends no_collect refl
      (λ x. let z : hands 2 (succeed (posted_registers saved)) ≡ refused = sym (ap (λ (o : Out). kind_of o.answer) given) ∙ x in impossible cc)

  -- guest 6 was refused at once as served alone is, the packet's count word included
  abbrev six : List Line
  six = waiting 2 saved save_job ∷ waiting 5 wrote write_job ∷ serving 2 (saving 0) 16 (Waiting (saving 16)) ∷ unlent ∷ withdrawing 5 writing ∷ misopening ∷ []

  abbrev refusing : Line
  refusing = answering 6 spoiled (refuse write_protected spoiled) spoil

  abbrev p₆ : Place
  p₆ = place_after p₀ six

  front : All p₀ six × All p₆ (refusing ∷ waiting 5 wrote write_job ∷ serving 5 writing 1 (Finished (succeed wrote)) ∷ last ∷ later)
  front = all_split six (refusing ∷ waiting 5 wrote write_job ∷ serving 5 writing 1 (Finished (succeed wrote)) ∷ last ∷ later) p₀ lines

  refused_then : step (after d₀ (calls_of p₀ six)) (call_of p₆ refusing) ≡ out_at p₆ refusing
  refused_then = ap (λ (d : Desk). step d (call_of p₆ refusing)) (arrives six p₀ z₀ front.0) ∙ step_line p₆ (sized six p₀ z₀ front.0) refusing front.1.0

  pub at-once : SameAtOnce M 6 (out_at p₆ refusing) (refuse write_protected spoiled) (alone (fed table_bytes no_placement) spoiled (found_by M (call_of p₆ refusing) 6))
  at-once =
      subst₂ (λ (o : Out) (x : Placement). SameAtOnce M 6 o (refuse write_protected spoiled) (alone (fed table_bytes x) spoiled (found_by M (call_of p₆ refusing) 6))) refused_then
      (ap (placement_in 6) (followed six p₀ z₀ front.0))
      (claim.at_once (calls_of p₀ six) (calls_of (leaves p₆ refusing) (waiting 5 wrote write_job ∷ serving 5 writing 1 (Finished (succeed wrote)) ∷ last ∷ later))
      (call_of p₆ refusing) 6 spoiled (refuse write_protected spoiled) refl refl (ap (λ (o : Out). o.answer) refused_then))

-- ---- such an arena, and a store

abbrev pub packet_bytes : List ℕ
packet_bytes = 16 ∷ 0 ∷ 3 ∷ 0 ∷ 5 ∷ 0 ∷ 6 ∷ 0 ∷ 4 ∷ 0 ∷ 0 ∷ 0 ∷ 0 ∷ 0 ∷ 0 ∷ 0 ∷ []

abbrev pub some_arena : List ℕ
some_arena = arena_of (λ g. packet_bytes) (λ g. refl)

pub long_arena : length some_arena ≡ arena_length
long_arena = length-arena (λ g. packet_bytes) (λ g. refl)

pub held_there : packet_at (window_of some_arena 6 M) 24 ≡ packet
unfolding packet_at le
held_there = held-arena (λ g. packet_bytes) (λ g. refl) 6 (omega arith)

abbrev pub story_of_bytes : Story (place d₀ some_arena sevens)
story_of_bytes = story some_arena sevens long_arena length_sevens held_there

pub example_bytes : Same M 2 (first_by table M (posting story_of_bytes) 2 saved) 17
    (step (after (step d₀ (posting story_of_bytes)).desk (meanwhile story_of_bytes)) (finishing story_of_bytes))
    (alone (fed table_bytes no_placement) saved (found_by M (posting story_of_bytes) 2))
example_bytes = example some_arena sevens long_arena length_sevens held_there
