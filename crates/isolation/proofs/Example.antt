-- The conditions of `equal` can be met: guest 2 reads 17 blocks, in two parts, while guest 5 writes the block after them.
-- Assumes nothing.
use Prim.Native.Nat.{ℕ}
use mathlib.Core.Path.{◌≡◌, refl}
use mathlib.Core.Logic.{inl}
use mathlib.Core.Bool.{true}
use mathlib.Core.List.{List, [], ◌∷◌, ◌++◌}
use native.Mathlib.Omega.{arith}
use lib.ListN.{length, replicate, length-replicate}
use Rattle.chs.specs.Chs.{in_limits, is_valid, block_of}
use Rattle.attached.specs.Bad.{held_of, is_bad, good}
use Rattle.memory.specs.Window.{window_of}
use Rattle.int13.specs.declared.Registers.{Registers}
use Rattle.int13.specs.declared.Placement.{Placement}
use Rattle.int13.specs.Placement.{no_placement}
use Rattle.int13.specs.declared.Job.{Job}
use Rattle.int13.specs.declared.Outcome.TheVariants.{Waits}
use Rattle.int13.specs.Answers.{succeed, ended, posted as posted_registers}
use Rattle.int13.specs.Steps.{unchanged, is_drive, bads_of, sectors, fed, steps, begin}
use Rattle.int13.specs.Alone.{alone}
use Rattle.desk.specs.declared.Stage.TheVariants.{Waiting, Finished}
use Rattle.desk.specs.Calls.{first_waiting, moves_now, stage_after}
use Rattle.isolation.specs.Lists.{step, after}
use Rattle.isolation.specs.Demand.{found_by, first_by, Same}
use Rattle.isolation.proofs.Equal.{request}
use Rattle.isolation.proofs.Trace.{Place, place, Line, waiting, serving, All, ◌also◌, Sized, window_lent, Story, posting, waiting_on, meanwhile, finishing, calls, closed, equal}
use Rattle.isolation.proofs.ExampleDesk.{table_bytes, arena_length, M, store_length, table, d₀, inv₀, claimed, sevens, length_sevens}
use Rattle.isolation.proofs.ExampleWrite.{wrote, write_job, by_sectors, check_write}

-- guest 2: 02h, 17 sectors from 1/2/3 of drive 81h, store blocks 56 to 72; buffer 0002:0015. Guest 5: 03h of store block 73
abbrev pub read : Registers
read = record { ax = 0x0211; bx = 0x15; cx = 0x0103; dx = 0x0281; ds = 0x5555; si = 0x6666; es = 2; carry = true }

abbrev pub read_job : Job
read_job = record { registers = posted_registers read; drive = 0x81; start = 32; count = 17; buffer = 53; packet = 0 }

check_read : (p : Placement) (w : List ℕ) → length w ≡ M → begin (fed table p) read w ≡ unchanged w (Waits read_job)
unfolding begin steps sectors is_drive block_of in_limits is_valid
check_read p w l = by_sectors p read read_job w l refl refl

abbrev pub between : List Line
between =
    waiting 5 wrote write_job
    ∷ serving 2 (request read_job 0) 16 (Waiting (request read_job 16))
    ∷ serving 5 (request write_job 0) 1 (Finished (succeed wrote))
    ∷ []

abbrev pub last : Line
last = serving 2 (request read_job 16) 1 (Finished (succeed (posted_registers read)))

-- ---- the list, over any arena and store of those lengths

module _ (a s : List ℕ) (la : length a ≡ arena_length) (ls : length s ≡ store_length) where
  abbrev pub p₀ : Place
  p₀ = place d₀ a s

  pub lines : All p₀ (waiting 2 read read_job ∷ (between ++ last ∷ []))
  unfolding first_waiting moves_now bads_of is_drive good is_bad held_of stage_after ended
  lines =
      (refl, refl, check_read no_placement (window_of a 2 M) (window_lent d₀ a 2 la (omega arith)))
      also (refl, refl, check_write no_placement (window_of a 5 M) (window_lent d₀ a 5 la (omega arith)))
      also (refl, refl, refl, refl)
      also (refl, refl, refl, refl)
      also (refl, refl, refl, refl)
      also tt

  abbrev pub story : Story p₀
  story = record { guest = 2; registers = read; job = read_job; between = between; last = last; rest = []; lines = lines }

  pub z₀ : Sized p₀
  z₀ = record { inv = inv₀; arena = la; store = ls }

  start : first_by table M (posting story) 2 read ≡ 56
  unfolding block_of in_limits is_valid
  start = refl

  -- after the third turn, guest 2's registers, window and store blocks 56 to 72 are those of its read served alone
  pub example : Same M 2 (first_by table M (posting story) 2 read) 17 (step (after (step d₀ (posting story)).desk (meanwhile story)) (finishing story))
      (alone (fed table_bytes no_placement) read (found_by M (posting story) 2))
  example = equal story z₀ M 17 56 refl start (waiting_on story 17 refl (omega arith) refl) (inl refl) refl refl refl table_bytes (claimed (calls story) (closed story z₀))

-- and with bytes: an arena of zeros, a store of sevens
pub zeros : List ℕ
zeros = replicate arena_length 0

pub long_arena : length zeros ≡ arena_length
unfolding zeros
long_arena = length-replicate {A = ℕ} arena_length 0

abbrev pub story_of_bytes : Story (place d₀ zeros sevens)
story_of_bytes = story zeros sevens long_arena length_sevens

pub example_bytes : Same M 2 (first_by table M (posting story_of_bytes) 2 read) 17
    (step (after (step d₀ (posting story_of_bytes)).desk (meanwhile story_of_bytes)) (finishing story_of_bytes))
    (alone (fed table_bytes no_placement) read (found_by M (posting story_of_bytes) 2))
example_bytes = example zeros sevens long_arena length_sevens
