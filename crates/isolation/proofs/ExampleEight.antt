-- Demand 3 at work with packets: all eight guests wait, guest 2 with a 43h in two parts, and the eighth of eight turns serves it. Every condition
-- of `within`, `bounded`, `finishes` and `equal` is met.
-- Assumes nothing.
use Prim.Native.Nat.{ℕ, ◌+◌, ◌*◌, ◌≤◌, ◌<◌}
use mathlib.Core.Path.{◌≡◌, refl, sym, ap, subst, ◌∙◌}
use mathlib.Core.Logic.{inl}
use mathlib.Core.Bool.{false}
use mathlib.Core.List.{List, [], ◌∷◌, ◌++◌}
use native.Mathlib.Omega.{arith}
use native.Mathlib.Nat.{zero-add, add-zero, one-mul}
use lib.ListN.{length, get_or, replicate}
use Rattle.std.specs.Prelude.{Result, Ok}
use Rattle.words.specs.Words.{le}
use Rattle.attached.specs.Bad.{held_of, is_bad, good}
use Rattle.layout.specs.declared.Packet.{Packet}
use Rattle.layout.specs.declared.BadParameter.{BadParameter}
use Rattle.layout.specs.Packet.{packet_at, read_packet}
use Rattle.memory.specs.Window.{guests, window_of}
use Rattle.int13.specs.declared.Registers.{Registers}
use Rattle.int13.specs.Placement.{no_placement}
use Rattle.int13.specs.declared.Job.{Job}
use Rattle.int13.specs.declared.Outcome.TheVariants.{Waits}
use Rattle.int13.specs.declared.Plan.{Plan}
use Rattle.int13.specs.declared.Plan.TheVariants.{Wait}
use Rattle.int13.specs.Answers.{succeed, ended}
use Rattle.int13.specs.Steps.{unchanged, is_drive, bads_of, verify_ok, packet_job, packet_tests, packet_read, packet_plan, carry_out, fed, steps, begin}
use Rattle.int13.specs.Alone.{alone}
use Rattle.desk.specs.declared.Stage.TheVariants.{Waiting, Finished}
use Rattle.desk.specs.declared.Desk.{Desk}
use Rattle.desk.specs.Calls.{first_waiting, moves_now, stage_after}
use Rattle.isolation.specs.Lists.{Out, step, run, after}
use Rattle.isolation.specs.Words.{Waits as WaitsOn, turns, services, turns_for}
use Rattle.isolation.specs.Demand.{found_by, asked_by, first_by, Ends, Same, Claim}
use Rattle.isolation.proofs.Equal.{request}
use Rattle.isolation.proofs.Trace.{Place, place, Line, waiting, serving, idling, leaves, place_after, calls_of, All, ◌also◌, Sized, window_lent, step_line, sized, followed, arrives, all_split, Story, middle, posting, waiting_on, meanwhile, finishing, afterwards, calls, split, at_first, at_middle, since_at, before, whole, closed, taken, waits, equal}
use Rattle.isolation.proofs.ExampleDesk.{table_bytes, arena_length, M, store_length, plain, table, d₀, inv₀, claimed, read-packet, window_with, arena_of, length-arena, held-arena, sevens, length_sevens}

-- ---- the requests: each guest's packet stands at 0001:0008 of its window, and names drive 81h

-- 42h; 43h; and 43h that asks to verify, which the drive can
abbrev pub reads : Registers
reads = record { ax = 0x4200; bx = 0x1111; cx = 0x2222; dx = 0x3381; ds = 1; si = 8; es = 0x4444; carry = false }

abbrev pub writes : Registers
writes = record { ax = 0x4301; bx = 0x5555; cx = 0x6666; dx = 0x7781; ds = 1; si = 8; es = 0x8888; carry = false }

abbrev pub verifies : Registers
verifies = record { ax = 0x4302; bx = 0x9999; cx = 0xAAAA; dx = 0xBB81; ds = 1; si = 8; es = 0xCCCC; carry = false }

-- each guest's count, the offset and the segment of its buffer, and its start. Guest 2 names store blocks 29 to 45; guest 0 writes those up to 28,
-- guest 5 block 46, and guests 3 and 7 read some of guest 2's
abbrev pub counts : List ℕ
counts = 5 ∷ 11 ∷ 17 ∷ 16 ∷ 2 ∷ 1 ∷ 3 ∷ 7 ∷ []

abbrev pub offsets : List ℕ
offsets = 13 ∷ 15 ∷ 11 ∷ 1 ∷ 4 ∷ 6 ∷ 8 ∷ 10 ∷ []

abbrev pub segments : List ℕ
segments = 14 ∷ 16 ∷ 3 ∷ 2 ∷ 5 ∷ 7 ∷ 9 ∷ 12 ∷ []

abbrev pub starts : List ℕ
starts = 0 ∷ 50 ∷ 5 ∷ 5 ∷ 40 ∷ 22 ∷ 57 ∷ 9 ∷ []

abbrev pub packet : ℕ → Packet
packet g = record { size = 16; count = get_or counts g 0; buffer = 16 * get_or segments g 0 + get_or offsets g 0; start = get_or starts g 0 }

abbrev pub job : Registers → ℕ → Job
job r g = packet_job r (packet g)

by_packet : (r : Registers) (p : Packet) (w : List ℕ) → length w ≡ M → packet_at w 24 ≡ p
    → begin (fed table no_placement) r w ≡ carry_out (packet_read plain (bads_of table 0x81) r (length w) (read_packet w 24)) r w → packet_read plain (bads_of table 0x81) r M (Ok p) ≡ Wait (packet_job r p)
    → begin (fed table no_placement) r w ≡ unchanged w (Waits (packet_job r p))
by_packet r p w l e f g =
    f
    ∙ ap (λ (x : Result Packet BadParameter). carry_out (packet_read plain (bads_of table 0x81) r (length w) x) r w) (read-packet w p l e)
    ∙ ap (λ (n : ℕ). carry_out (packet_read plain (bads_of table 0x81) r n (Ok p)) r w) l
    ∙ ap (λ (x : Plan). carry_out x r w) g

-- ---- the lines

abbrev pub asks : Registers → ℕ → Line
asks r g = waiting g r (job r g)

abbrev pub ends : Registers → ℕ → Line
ends r g = serving g (request (job r g) 0) (get_or counts g 0) (Finished (succeed r))

-- guest 2's first part, and the other seven wait
abbrev pub posts : List Line
posts =
    serving 2 (request (job verifies 2) 0) 16 (Waiting (request (job verifies 2) 16))
    ∷ asks reads 3 ∷ asks reads 4 ∷ asks writes 5 ∷ asks reads 6 ∷ asks reads 7 ∷ asks writes 0 ∷ asks reads 1
    ∷ []

-- seven turns, which serve the others
abbrev pub stretch : List Line
stretch = ends reads 3 ∷ ends reads 4 ∷ ends writes 5 ∷ ends reads 6 ∷ ends reads 7 ∷ ends writes 0 ∷ ends reads 1 ∷ []

-- the eighth serves guest 2; then nobody waits any more
abbrev pub last : Line
last = serving 2 (request (job verifies 2) 16) 1 (Finished (succeed verifies))

abbrev pub idle : List Line
idle = replicate 7 idling

-- ---- the calls, over any arena and store of those lengths with the packets in the windows

module _ (a s : List ℕ) (la : length a ≡ arena_length) (ls : length s ≡ store_length) (held : (g : ℕ) → g < guests → packet_at (window_of a g M) 24 ≡ packet g) where
  abbrev pub p₀ : Place
  p₀ = place d₀ a s

  checks : (r : Registers) (g : ℕ) → g < guests
      → begin (fed table no_placement) r (window_of a g M) ≡ carry_out (packet_read plain (bads_of table 0x81) r (length (window_of a g M)) (read_packet (window_of a g M) 24)) r (window_of a g M)
      → packet_read plain (bads_of table 0x81) r M (Ok (packet g)) ≡ Wait (job r g) → begin (fed table no_placement) r (window_of a g M) ≡ unchanged (window_of a g M) (Waits (job r g))
  checks r g b = by_packet r (packet g) (window_of a g M) (window_lent d₀ a g la b) (held g b)

  pub lines : All p₀ (asks verifies 2 ∷ ((posts ++ stretch) ++ last ∷ idle))
  unfolding first_waiting moves_now bads_of good is_bad held_of stage_after ended begin steps packet_plan verify_ok is_drive packet_tests
  lines =
      (refl, refl, checks verifies 2 (omega arith) refl refl)
      also (refl, refl, refl, refl)
      also (refl, refl, checks reads 3 (omega arith) refl refl)
      also (refl, refl, checks reads 4 (omega arith) refl refl)
      also (refl, refl, checks writes 5 (omega arith) refl refl)
      also (refl, refl, checks reads 6 (omega arith) refl refl)
      also (refl, refl, checks reads 7 (omega arith) refl refl)
      also (refl, refl, checks writes 0 (omega arith) refl refl)
      also (refl, refl, checks reads 1 (omega arith) refl refl)
      also (refl, refl, refl, refl) also (refl, refl, refl, refl) also (refl, refl, refl, refl) also (refl, refl, refl, refl)
      also (refl, refl, refl, refl) also (refl, refl, refl, refl) also (refl, refl, refl, refl) also (refl, refl, refl, refl)
      also refl also refl also refl also refl also refl also refl also refl
      also tt

  abbrev pub story : Story p₀
  story = record { guest = 2; registers = verifies; job = job verifies 2; between = posts ++ stretch; last = last; rest = idle; lines = lines }

  z₀ : Sized p₀
  z₀ = record { inv = inv₀; arena = la; store = ls }

  claim : Claim table_bytes d₀ M (calls story)
  claim = claimed (calls story) (closed story z₀)

  -- n and the first block, from the packet
  count-is : asked_by M (posting story) 2 verifies ≡ 17
  unfolding packet_at
  count-is = ap (λ (p : Packet). p.count) (held 2 (omega arith))

  start_is : first_by table M (posting story) 2 verifies ≡ 29
  unfolding packet_at
  start_is = ap (λ (p : Packet). 24 + p.start) (held 2 (omega arith))

  -- guests 0 and 5 write the blocks on either side of 29 to 45
  pub example : Same M 2 (first_by table M (posting story) 2 verifies) (asked_by M (posting story) 2 verifies)
      (step (after (step d₀ (posting story)).desk (meanwhile story)) (finishing story)) (alone (fed table_bytes no_placement) verifies (found_by M (posting story) 2))
  example = equal story z₀ M 17 29 count-is start_is (waiting_on story 17 refl (omega arith) refl) (inl refl) refl refl refl table_bytes claim

  waits₂ : WaitsOn 2 (asked_by M (posting story) 2 verifies) (run (step d₀ (posting story)).desk (meanwhile story))
  waits₂ = waits story z₀ M 17 29 count-is start_is (waiting_on story 17 refl (omega arith) refl) (inl refl)

  -- eight successive turns, and the last of them serves guest 2
  abbrev pub p₁ : Place
  p₁ = leaves p₀ (asks verifies 2)

  abbrev pub p₉ : Place
  p₉ = place_after p₁ posts

  front : All p₁ posts × All p₉ (stretch ++ last ∷ idle)
  front = all_split posts (stretch ++ last ∷ idle) p₁ lines.1

  turns_then : All p₉ (stretch ++ last ∷ []) × All (place_after p₉ (stretch ++ last ∷ [])) idle
  turns_then = all_split (stretch ++ last ∷ []) idle p₉ front.1

  posts-done : after (step d₀ (posting story)).desk (calls_of p₁ posts) ≡ p₉.desk
  posts-done = ap (λ (o : Out). after o.desk (calls_of p₁ posts)) (step_line p₀ z₀ (asks verifies 2) lines.0) ∙ arrives posts p₁ (at_first story z₀) front.0

  the_last : turns (run (after (step d₀ (posting story)).desk (meanwhile story)) (finishing story ∷ [])) ≡ 1
  the_last =
      ap (λ (d : Desk). turns (run d (finishing story ∷ []))) (since_at story z₀ [] tt)
      ∙ ap turns (followed (last ∷ []) (middle story) (at_middle story z₀) ((split story z₀).1.0, tt))

  eight : turns (run (after (step d₀ (posting story)).desk (calls_of p₁ posts)) (calls_of p₉ (stretch ++ last ∷ []))) ≡ 8
  eight =
      ap (λ (d : Desk). turns (run d (calls_of p₉ (stretch ++ last ∷ [])))) posts-done
      ∙ ap turns (followed (stretch ++ last ∷ []) p₉ (sized posts p₁ (at_first story z₀) front.0) turns_then.0)

  pub within : 0 < services 2 (run (after (step d₀ (posting story)).desk (calls_of p₁ posts)) (calls_of p₉ (stretch ++ last ∷ [])))
  unfolding after taken
  within = claim.within (taken story z₀) (calls_of p₁ posts) (calls_of p₉ stretch) (afterwards story) (finishing story) refl waits₂ the_last (omega (arith, eight))

  -- eight turns have passed before it finishes, of fewer than sixteen
  pub bounded : turns (run (step d₀ (posting story)).desk (meanwhile story)) < turns_for (asked_by M (posting story) 2 verifies)
  unfolding after taken
  bounded = claim.bounded (taken story z₀) (meanwhile story) (finishing story ∷ afterwards story) refl waits₂

  eight_passed : turns (run (step d₀ (posting story)).desk (meanwhile story)) ≡ 8
  eight_passed = ap turns (before story z₀)

  -- sixteen turns of the list, idle ones included: it has ended in them
  sixteen : turns (run (step d₀ (posting story)).desk (meanwhile story ++ finishing story ∷ afterwards story)) ≡ 16
  sixteen = ap turns (whole story z₀)

  pub finishes : Ends 2 (asked_by M (posting story) 2 verifies) (turns_for (asked_by M (posting story) 2 verifies)) (step d₀ (posting story)).desk
      (meanwhile story ++ finishing story ∷ afterwards story)
  unfolding after taken
  finishes = claim.finishes (taken story z₀) (meanwhile story ++ finishing story ∷ afterwards story) [] refl
      (subst (λ (n : ℕ). turns_for n ≤ turns (run (step d₀ (posting story)).desk (meanwhile story ++ finishing story ∷ afterwards story))) (sym count-is)
      (omega (arith, sixteen)))

-- ---- such an arena, and a store

abbrev pub bytes_of : ℕ → List ℕ
bytes_of g = 16 ∷ 0 ∷ get_or counts g 0 ∷ 0 ∷ get_or offsets g 0 ∷ 0 ∷ get_or segments g 0 ∷ 0 ∷ get_or starts g 0 ∷ replicate 7 0

abbrev pub some_arena : List ℕ
some_arena = arena_of bytes_of (λ g. refl)

pub long_arena : length some_arena ≡ arena_length
long_arena = length-arena bytes_of (λ g. refl)

in_window : (g : ℕ) → packet_at (window_with (bytes_of g)) 24 ≡ packet g
unfolding packet_at le
in_window g = simp (zero-add, add-zero, one-mul)

pub held_there : (g : ℕ) → g < guests → packet_at (window_of some_arena g M) 24 ≡ packet g
held_there g b = held-arena bytes_of (λ g. refl) g b ∙ in_window g

abbrev pub story_of_bytes : Story (place d₀ some_arena sevens)
story_of_bytes = story some_arena sevens long_arena length_sevens held_there

pub example_bytes : Same M 2 (first_by table M (posting story_of_bytes) 2 verifies) (asked_by M (posting story_of_bytes) 2 verifies)
    (step (after (step d₀ (posting story_of_bytes)).desk (meanwhile story_of_bytes)) (finishing story_of_bytes))
    (alone (fed table_bytes no_placement) verifies (found_by M (posting story_of_bytes) 2))
example_bytes = example some_arena sevens long_arena length_sevens held_there
