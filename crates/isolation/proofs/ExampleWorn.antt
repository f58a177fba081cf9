-- Demand 3 at work on a worn disk: guest 2 reads 20 blocks, of which the eighteenth is bad, over its own packet, guest 5 writes 3, of which the
-- first is bad, and guest 6 writes 6 by 03h, of which the last is bad, between guest 2's two turns. Every condition of `equal` is met for each.
-- Guest 2's turns move 16 and 1, guest 5's none, guest 6's 5, as `counted` says; each ends with carry set, and its packet's count word, or AL of
-- guest 6, is what it moved.
-- Assumes nothing.
use Prim.Native.Nat.{ℕ, ◌+◌, ◌-◌, ◌≤◌, ◌<◌}
use mathlib.Core.Path.{◌≡◌, refl, sym, ap, subst, ◌∙◌}
use mathlib.Core.Logic.{inr}
use mathlib.Core.Bool.{true, false}
use mathlib.Core.List.{List, [], ◌∷◌, ◌++◌}
use native.Mathlib.Omega.{arith}
use lib.ListN.{length, replicate, length-replicate, length-append}
use lib.Seq.{sets, length-sets}
use borrow.Author.Tests.{le-leb}
use Rattle.std.specs.Prelude.{Result, Ok}
use Rattle.words.specs.Words.{le, le_bytes, part}
use Rattle.words.proofs.WordsLaws.{length-le_bytes}
use Rattle.chs.specs.Chs.{in_limits, is_valid, block_of}
use Rattle.drive.specs.declared.Drive.{Drive}
use Rattle.drive.specs.Drive.{drive_of, same, bus_ok, interface_ok, geometry_fits, fields_ok, in_store, overlap, is_i2o, kind_ok, tail_of, zero_tail}
use Rattle.attached.specs.Bad.{bad_count, bad_length_ok, bads_in, held_of, ascends, are_blocks, list_ok, is_bad, good}
use Rattle.table.specs.declared.Table.{Table}
use Rattle.table.specs.Table.{zero_drive, header_of, header_at, overlaps_any, refusal, bads_refusal, record_refusal, with_record, record_step, end_step, step_of, step_at, read_from, read_table}
use Rattle.layout.specs.declared.Packet.{Packet}
use Rattle.layout.specs.declared.BadParameter.{BadParameter}
use Rattle.desk.specs.declared.After.{After}
use Rattle.layout.specs.Packet.{packet_at, read_packet}
use Rattle.memory.specs.Window.{guests, span_length, window_of, with_window}
use Rattle.memory.proofs.Sets.{part-sets-same}
use Rattle.memory.proofs.WindowLaws.{span_in, length-with_window, window_with_same, window_with_other}
use Rattle.int13.specs.declared.Registers.{Registers}
use Rattle.int13.specs.Placement.{no_placement}
use Rattle.int13.specs.declared.Job.{Job}
use Rattle.int13.specs.declared.Outcome.TheVariants.{Waits}
use Rattle.int13.specs.declared.Plan.{Plan}
use Rattle.int13.specs.declared.Plan.TheVariants.{Wait}
use Rattle.int13.specs.Answers.{ended, posted as posted_registers}
use Rattle.int13.specs.Steps.{unchanged, is_drive, bads_of, verify_ok, packet_job, packet_tests, packet_read, packet_plan, with_count, carry_out, sectors, fed, steps, begin}
use Rattle.int13.specs.Alone.{store_block, reported, alone}
use Rattle.desk.specs.declared.Request.{Request}
use Rattle.desk.specs.declared.Stage.TheVariants.{Waiting, Finished}
use Rattle.desk.specs.declared.Desk.{Desk}
use Rattle.desk.specs.Parts.{window_size, stage_at}
use Rattle.desk.specs.Calls.{OpenAnswer, opened, open_of, first_waiting, moves_now, stage_after, memory_of, moved_by}
use Rattle.isolation.specs.Lists.{Call, Out, step, run, after}
use Rattle.isolation.specs.Words.{NoneOpens, moved}
use Rattle.isolation.specs.Demand.{found_by, asked_by, first_by, good_by, Same, Claim}
use Rattle.isolation.proofs.Moves.{moves-size}
use Rattle.isolation.proofs.Accept.{Inv, inv_opened}
use Rattle.isolation.proofs.Equal.{request}
use Rattle.isolation.proofs.Theorem.{demand}
use Rattle.isolation.proofs.Trace.{Place, place, Line, waiting, serving, collecting, out_at, place_after, calls_of, All, ◌also◌, Sized, window_lent, sized, Story, middle, posting, waiting_on, meanwhile, finishing, calls, at_middle, ended as stepped, closed, counted, equal, z, calls_later, arrived, closed-later, counted-later, equal-later}

-- ---- the desk: drive 80h, 41 blocks from store block 4, 2/4/5; its blocks 25 and 33 are bad

abbrev pub table_bytes : List ℕ
table_bytes =
    68 ∷ 0 ∷ 1 ∷ 0 ∷ 3 ∷ 0 ∷ 0 ∷ 0 ∷ 5 ∷ 0 ∷ 0 ∷ 0 ∷ 7 ∷ 0 ∷ 0 ∷ 0 ∷ 41 ∷ 0 ∷ 0 ∷ 0 ∷ 0 ∷ 0 ∷ 0 ∷ 0 ∷ 4 ∷ 0 ∷ 0 ∷ 0 ∷ 0 ∷ 0 ∷ 0 ∷ 0 ∷ 0 ∷ 0 ∷ 2 ∷ 0 ∷ 4 ∷ 0 ∷ 5 ∷ 0 ∷ 80 ∷ 67 ∷ 73 ∷ 0 ∷ 83 ∷ 67 ∷ 83 ∷ 73 ∷ 0 ∷ 0 ∷ 0 ∷ 0 ∷ 21 ∷ 22 ∷ 23 ∷ 24 ∷ 25 ∷ 26 ∷ 27 ∷ 28 ∷ 31 ∷ 32 ∷ 33 ∷ 34 ∷ 35 ∷ 36 ∷ 37 ∷ 38
    ∷ 22 ∷ 0 ∷ 3 ∷ 0 ∷ 0 ∷ 0 ∷ 25 ∷ 0 ∷ 0 ∷ 0 ∷ 0 ∷ 0 ∷ 0 ∷ 0 ∷ 33 ∷ 0 ∷ 0 ∷ 0 ∷ 0 ∷ 0 ∷ 0 ∷ 0
    ∷ 4 ∷ 0 ∷ 0 ∷ 0 ∷ []

-- 8 windows of 10304 bytes, and three more
abbrev pub arena_length : ℕ
arena_length = 82435

abbrev pub M : ℕ
M = 10304

-- 47 blocks
abbrev pub store_length : ℕ
store_length = 24064

abbrev pub worn : Drive
worn =
    record {
      cylinders = 3;
      heads = 5;
      sectors = 7;
      blocks = 41;
      first = 4;
      flags = 0;
      c = 2;
      h = 4;
      s = 5;
      protection = 0;
      bus = 80 ∷ 67 ∷ 73 ∷ 0 ∷ [];
      interface = 83 ∷ 67 ∷ 83 ∷ 73 ∷ 0 ∷ 0 ∷ 0 ∷ 0 ∷ [];
      path = 21 ∷ 22 ∷ 23 ∷ 24 ∷ 25 ∷ 26 ∷ 27 ∷ 28 ∷ [];
      device = 31 ∷ 32 ∷ 33 ∷ 34 ∷ 35 ∷ 36 ∷ 37 ∷ 38 ∷ [];
      kind = 1;
      tail = replicate 8 0;
    }

abbrev pub table : Table
table =
    record {
      drives = worn ∷ replicate 7 zero_drive;
      count = 1;
      present = replicate 8 false;
      parameters = replicate 112 0;
      counts = 2 ∷ replicate 7 0;
      bad = 25 ∷ replicate 7 0 ++ 33 ∷ replicate 1015 0;
    }

abbrev pub d₀ : Desk
d₀ = opened table arena_length store_length

pub opening : open_of table_bytes arena_length store_length ≡ record { desk = d₀; answer = Ok tt }
unfolding open_of le le_bytes in_limits drive_of same bus_ok interface_ok geometry_fits fields_ok in_store overlap bad_count bad_length_ok bads_in held_of ascends are_blocks list_ok header_of header_at overlaps_any refusal bads_refusal record_refusal with_record record_step end_step step_of step_at read_from read_table tail_of is_i2o zero_tail kind_ok
opening = refl

pub inv₀ : Inv d₀
inv₀ = subst (λ (o : After OpenAnswer). Inv o.desk) opening (inv_opened table_bytes arena_length store_length (ap (λ (o : After OpenAnswer). o.answer) opening))

-- demand 3 of a list of calls at it
claimed : (calls : List Call) → NoneOpens (run d₀ calls) → Claim table_bytes d₀ M calls
claimed calls =
    subst (λ (o : After OpenAnswer). NoneOpens (run o.desk calls) → Claim table_bytes o.desk M calls) opening
    (demand table_bytes arena_length store_length calls (ap (λ (o : After OpenAnswer). o.answer) opening))

-- ---- the requests

-- guest 2: 42h, the drive's blocks 8 to 27, store blocks 12 to 31; packet at 0001:0008, buffer 0000:0005, which covers it
abbrev pub reads : Registers
reads = record { ax = 0x42A5; bx = 0x1111; cx = 0x2222; dx = 0x3380; ds = 1; si = 8; es = 0x4444; carry = false }

abbrev pub packet₂ : Packet
packet₂ = record { size = 16; count = 20; buffer = 5; start = 8 }

-- 10h and carry
abbrev pub reads_ends : Registers
reads_ends = record { ax = 0x10A5; bx = 0x1111; cx = 0x2222; dx = 0x3380; ds = 1; si = 8; es = 0x4444; carry = true }

-- guest 5: 43h, the blocks 33 to 35; packet at 0002:0006, buffer 0009:0007
abbrev pub writes : Registers
writes = record { ax = 0x4301; bx = 0x5555; cx = 0x6666; dx = 0x7780; ds = 2; si = 6; es = 0x8888; carry = false }

abbrev pub packet₅ : Packet
packet₅ = record { size = 16; count = 3; buffer = 151; start = 33 }

-- CCh and carry
abbrev pub writes_ends : Registers
writes_ends = record { ax = 0xCC01; bx = 0x5555; cx = 0x6666; dx = 0x7780; ds = 2; si = 6; es = 0x8888; carry = true }

-- guest 6: 03h, six sectors from 1/1/4 on, blocks 28 to 33 and store blocks 32 to 37, of which guest 2 does not name the first; buffer 0004:0009
abbrev pub saved : Registers
saved = record { ax = 0x0306; bx = 9; cx = 0x0104; dx = 0x0180; ds = 0x3333; si = 0x4444; es = 4; carry = false }

abbrev pub save_job : Job
save_job = record { registers = posted_registers saved; drive = 0x80; start = 28; count = 6; buffer = 73; packet = 0 }

-- CCh and carry, and 5 in AL
abbrev pub saved_ends : Registers
saved_ends = record { ax = 0xCC05; bx = 9; cx = 0x0104; dx = 0x0180; ds = 0x3333; si = 0x4444; es = 4; carry = true }

by_packet : (r : Registers) (p : Packet) (at : ℕ) (w : List ℕ) → length w ≡ M → at + 16 ≤ M → packet_at w at ≡ p
    → begin (fed table no_placement) r w ≡ carry_out (packet_read worn (bads_of table 0x80) r (length w) (read_packet w at)) r w
    → packet_read worn (bads_of table 0x80) r M (Ok p) ≡ Wait (packet_job r p)
    → begin (fed table no_placement) r w ≡ unchanged w (Waits (packet_job r p))
unfolding read_packet
by_packet r p at w l b e f g =
    f
    ∙ ap (λ (x : Result Packet BadParameter). carry_out (packet_read worn (bads_of table 0x80) r (length w) x) r w) whole
    ∙ ap (λ (n : ℕ). carry_out (packet_read worn (bads_of table 0x80) r n (Ok p)) r w) l
    ∙ ap (λ (x : Plan). carry_out x r w) g
  where
    whole : read_packet w at ≡ Ok p
    whole = rw (l, le-leb (at + 16) M b) (ap Ok e)

check_save : (w : List ℕ) → length w ≡ M → begin (fed table no_placement) saved w ≡ unchanged w (Waits save_job)
unfolding begin steps sectors is_drive block_of in_limits is_valid
check_save w l = ap (λ (n : ℕ). unchanged w (sectors true worn saved n)) l

-- ---- the lines

abbrev asks₂ : Line
asks₂ = waiting 2 reads (packet_job reads packet₂)

abbrev asks₅ : Line
asks₅ = waiting 5 writes (packet_job writes packet₅)

abbrev first₂ : Line
first₂ = serving 2 (request (packet_job reads packet₂) 0) 16 (Waiting (request (packet_job reads packet₂) 16))

-- no block is moved
abbrev only₅ : Line
only₅ = serving 5 (request (packet_job writes packet₅) 0) 0 (Finished writes_ends)

abbrev asks₆ : Line
asks₆ = waiting 6 saved save_job

abbrev only₆ : Line
only₆ = serving 6 (request save_job 0) 5 (Finished saved_ends)

-- one block more
abbrev last₂ : Line
last₂ = serving 2 (request (packet_job reads packet₂) 16) 1 (Finished reads_ends)

abbrev later : List Line
later = collecting 5 writes_ends ∷ collecting 2 reads_ends ∷ collecting 6 saved_ends ∷ []

-- ---- the count word in a window that was written

span_there : (x : List ℕ) (g : ℕ) → length x ≡ arena_length → g < guests → span_length (length x) g M ≡ M
span_there x g l b = ap (λ (k : ℕ). span_length k g M) l ∙ (span_in arena_length g M (omega arith) b).1

-- of guest g with a packet at a place, k blocks of its request q being moved before it is written
word_of : (p : Place) → Sized p → p.desk.arena ≡ arena_length → window_size p.desk ≡ M → (g : ℕ) (q : Request) (k n at : ℕ) → g < guests → at + 16 ≤ M
    → part 2 (window_of (with_window p.arena g M (with_count (moved_by p.desk g q k p.arena p.store).window at n)) g M) (at + 2) ≡ le_bytes 2 n
word_of p z la lm g q k n at b i =
    ap (λ (v : List ℕ). part 2 v (at + 2))
    (window_with_same p.arena g M (with_count w at n) (length-sets w (at + 2) (le_bytes 2 n) ∙ long ∙ sym (span_there p.arena g (z.arena ∙ la) b)))
    ∙ ap (λ (k : ℕ). part k (sets w (at + 2) (le_bytes 2 n)) (at + 2)) (sym (length-le_bytes 2 n))
    ∙ part-sets-same w (at + 2) (le_bytes 2 n) (omega (arith, length-le_bytes 2 n, long))
  where
    w : List ℕ
    w = (moved_by p.desk g q k p.arena p.store).window

    long : length w ≡ M
    long =
        (moves-size q.job (store_block p.desk.table q.job) q.moved k (memory_of p.desk g p.arena p.store)).window
        ∙ window_lent p.desk p.arena g z.arena b ∙ lm

-- ---- the calls, over any arena and store of those lengths with the two packets in the windows

module _ (a s : List ℕ) (la : length a ≡ arena_length) (ls : length s ≡ store_length)
    (held₂ : packet_at (window_of a 2 M) 24 ≡ packet₂) (held₅ : packet_at (window_of a 5 M) 38 ≡ packet₅) where
  abbrev pub p₀ : Place
  p₀ = place d₀ a s

  z₀ : Sized p₀
  z₀ = record { inv = inv₀; arena = la; store = ls }

  checks₂ : begin (fed table no_placement) reads (window_of a 2 M) ≡ unchanged (window_of a 2 M) (Waits (packet_job reads packet₂))
  unfolding begin steps packet_plan verify_ok is_drive packet_tests
  checks₂ = by_packet reads packet₂ 24 (window_of a 2 M) (window_lent d₀ a 2 la (omega arith)) (omega arith) held₂ refl refl

  checks₅ : begin (fed table no_placement) writes (window_of a 5 M) ≡ unchanged (window_of a 5 M) (Waits (packet_job writes packet₅))
  unfolding begin steps packet_plan verify_ok is_drive packet_tests
  checks₅ = by_packet writes packet₅ 38 (window_of a 5 M) (window_lent d₀ a 5 la (omega arith)) (omega arith) held₅ refl refl

  -- the lines before guest 6 posts, and the arena then
  abbrev four : List Line
  four = asks₂ ∷ asks₅ ∷ first₂ ∷ only₅ ∷ []

  front : All p₀ four
  unfolding first_waiting moves_now bads_of is_drive good is_bad held_of le stage_after ended
  front = (refl, refl, checks₂) also (refl, refl, checks₅) also (refl, refl, refl, refl) also (refl, refl, refl, refl) also tt

  abbrev a₄ : List ℕ
  a₄ = (place_after p₀ four).arena

  pub lines : All p₀ (asks₂ ∷ ((asks₅ ∷ first₂ ∷ only₅ ∷ asks₆ ∷ only₆ ∷ []) ++ last₂ ∷ later))
  unfolding first_waiting moves_now bads_of is_drive good is_bad held_of le stage_after ended
  lines =
      front.0
      also front.1.0
      also front.1.1.0
      also front.1.1.1.0
      also (refl, refl, check_save (window_of a₄ 6 M) (window_lent d₀ a₄ 6 (sized four p₀ z₀ front).arena (omega arith)))
      also (refl, refl, refl, refl)
      also (refl, refl, refl, refl)
      also (refl, refl)
      also (refl, refl)
      also (refl, refl)
      also tt

  -- ---- guest 2

  abbrev pub story : Story p₀
  story =
      record {
        guest = 2;
        registers = reads;
        job = packet_job reads packet₂;
        between = asks₅ ∷ first₂ ∷ only₅ ∷ asks₆ ∷ only₆ ∷ [];
        last = last₂;
        rest = later;
        lines = lines;
      }

  count₂ : asked_by M (posting story) 2 reads ≡ 20
  unfolding packet_at
  count₂ = ap (λ (p : Packet). p.count) held₂

  start₂ : first_by table M (posting story) 2 reads ≡ 12
  unfolding packet_at
  start₂ = ap (λ (p : Packet). 4 + p.start) held₂

  -- its registers, its window with the count word on top of the data, and store blocks 12 to 31 are those of its read served alone
  pub example : Same M 2 (first_by table M (posting story) 2 reads) (asked_by M (posting story) 2 reads)
      (step (after (step d₀ (posting story)).desk (meanwhile story)) (finishing story)) (alone (fed table_bytes no_placement) reads (found_by M (posting story) 2))
  example =
      equal story z₀ M 20 12 count₂ start₂ (waiting_on story 20 refl (omega arith) refl) (inr (refl, omega arith)) refl refl refl table_bytes
      (claimed (calls story) (closed story z₀))

  good₂ : good_by table M (posting story) 2 reads ≡ 17
  unfolding packet_at bads_of is_drive good is_bad held_of le
  good₂ = ap (λ (p : Packet). good (bads_of table 0x80) p.start p.count) held₂

  -- its turns answer 17 in all
  pub moved₂ : moved 2 (run (step d₀ (posting story)).desk (meanwhile story ++ finishing story ∷ [])) ≡ 17
  moved₂ =
      counted story z₀ M 20 12 count₂ start₂ (waiting_on story 20 refl (omega arith) refl) (inr (refl, omega arith)) table_bytes
      (claimed (calls story) (closed story z₀)) ∙ good₂

  -- 10h with carry, and 17 in the count word
  pub registers₂ : stage_at (step (after (step d₀ (posting story)).desk (meanwhile story)) (finishing story)).desk 2 ≡ Finished reads_ends
  registers₂ = ap (λ (o : Out). stage_at o.desk 2) (stepped story z₀)

  pub word₂ : part 2 (window_of (step (after (step d₀ (posting story)).desk (meanwhile story)) (finishing story)).arena 2 M) 26 ≡ 17 ∷ 0 ∷ []
  unfolding reported le_bytes
  word₂ =
      ap (λ (o : Out). part 2 (window_of o.arena 2 M) 26) (stepped story z₀)
      ∙ word_of (middle story) (at_middle story z₀) refl refl 2 (request (packet_job reads packet₂) 16) 1 17 24 (omega arith) (omega arith)

  -- ---- guest 5

  abbrev pub ahead : List Line
  ahead = asks₂ ∷ []

  aheads : All p₀ ahead
  aheads = front.0 also tt

  abbrev pub p₁ : Place
  p₁ = place_after p₀ ahead

  abbrev pub story₅ : Story p₁
  story₅ =
      record {
        guest = 5;
        registers = writes;
        job = packet_job writes packet₅;
        between = first₂ ∷ [];
        last = only₅;
        rest = asks₆ ∷ only₆ ∷ last₂ ∷ later;
        lines = lines.1;
      }

  count₅ : asked_by M (posting story₅) 5 writes ≡ 3
  unfolding packet_at
  count₅ = ap (λ (p : Packet). p.count) held₅

  start₅ : first_by table M (posting story₅) 5 writes ≡ 37
  unfolding packet_at
  start₅ = ap (λ (p : Packet). 4 + p.start) held₅

  -- a turn that moves no block: registers, window and store blocks 37 to 39 are those of its write served alone
  pub example₅ : Same M 5 (first_by table M (posting story₅) 5 writes) (asked_by M (posting story₅) 5 writes)
      (step (after (step (after d₀ (calls_of p₀ ahead)) (posting story₅)).desk (meanwhile story₅)) (finishing story₅))
      (alone (fed table_bytes no_placement) writes (found_by M (posting story₅) 5))
  example₅ =
      equal-later p₀ ahead story₅ z₀ aheads M 3 37 count₅ start₅ refl (waiting_on story₅ 3 refl (omega arith) refl) (inr (refl, omega arith)) table_bytes
      (claimed (calls_later p₀ ahead story₅ z₀ aheads) (closed-later p₀ ahead story₅ z₀ aheads)) refl refl refl

  good₅ : good_by table M (posting story₅) 5 writes ≡ 0
  unfolding packet_at bads_of is_drive good is_bad held_of le
  good₅ = ap (λ (p : Packet). good (bads_of table 0x80) p.start p.count) held₅

  -- its turn answers 0
  pub moved₅ : moved 5 (run (step (after d₀ (calls_of p₀ ahead)) (posting story₅)).desk (meanwhile story₅ ++ finishing story₅ ∷ [])) ≡ 0
  moved₅ =
      counted-later p₀ ahead story₅ z₀ aheads M 3 37 count₅ start₅ refl (waiting_on story₅ 3 refl (omega arith) refl) (inr (refl, omega arith)) table_bytes
      (claimed (calls_later p₀ ahead story₅ z₀ aheads) (closed-later p₀ ahead story₅ z₀ aheads)) ∙ good₅

  then₅ : step (after (step (after d₀ (calls_of p₀ ahead)) (posting story₅)).desk (meanwhile story₅)) (finishing story₅) ≡ out_at (middle story₅) only₅
  then₅ =
      ap (λ (d : Desk). step (after (step d (posting story₅)).desk (meanwhile story₅)) (finishing story₅)) (arrived p₀ ahead story₅ z₀ aheads)
      ∙ stepped story₅ (z p₀ ahead story₅ z₀ aheads)

  -- CCh with carry, and 0 in the count word
  pub registers₅ : stage_at (step (after (step (after d₀ (calls_of p₀ ahead)) (posting story₅)).desk (meanwhile story₅)) (finishing story₅)).desk 5 ≡ Finished writes_ends
  registers₅ = ap (λ (o : Out). stage_at o.desk 5) then₅

  pub word₅ : part 2 (window_of (step (after (step (after d₀ (calls_of p₀ ahead)) (posting story₅)).desk (meanwhile story₅)) (finishing story₅)).arena 5 M) 40 ≡ 0 ∷ 0 ∷ []
  unfolding reported le_bytes
  word₅ =
      ap (λ (o : Out). part 2 (window_of o.arena 5 M) 40) then₅
      ∙ word_of (middle story₅) (at_middle story₅ (z p₀ ahead story₅ z₀ aheads)) refl refl 5 (request (packet_job writes packet₅) 0) 0 0 38 (omega arith) (omega arith)

  -- ---- guest 6

  abbrev pub p₄ : Place
  p₄ = place_after p₀ four

  abbrev pub story₆ : Story p₄
  story₆ =
      record {
        guest = 6;
        registers = saved;
        job = save_job;
        between = [];
        last = only₆;
        rest = last₂ ∷ later;
        lines = lines.1.1.1.1;
      }

  start₆ : first_by table M (posting story₆) 6 saved ≡ 32
  unfolding block_of in_limits is_valid
  start₆ = refl

  -- a 03h that ends at a bad block: registers, window and store blocks 32 to 37 are those of its write served alone
  pub example₆ : Same M 6 (first_by table M (posting story₆) 6 saved) (asked_by M (posting story₆) 6 saved)
      (step (after (step (after d₀ (calls_of p₀ four)) (posting story₆)).desk (meanwhile story₆)) (finishing story₆))
      (alone (fed table_bytes no_placement) saved (found_by M (posting story₆) 6))
  example₆ =
      equal-later p₀ four story₆ z₀ front M 6 32 refl start₆ refl (waiting_on story₆ 6 refl (omega arith) refl) (inr (refl, omega arith)) table_bytes
      (claimed (calls_later p₀ four story₆ z₀ front) (closed-later p₀ four story₆ z₀ front)) refl refl refl

  good₆ : good_by table M (posting story₆) 6 saved ≡ 5
  unfolding block_of in_limits is_valid bads_of is_drive good is_bad held_of le
  good₆ = refl

  -- its turn answers 5
  pub moved₆ : moved 6 (run (step (after d₀ (calls_of p₀ four)) (posting story₆)).desk (meanwhile story₆ ++ finishing story₆ ∷ [])) ≡ 5
  moved₆ =
      counted-later p₀ four story₆ z₀ front M 6 32 refl start₆ refl (waiting_on story₆ 6 refl (omega arith) refl) (inr (refl, omega arith)) table_bytes
      (claimed (calls_later p₀ four story₆ z₀ front) (closed-later p₀ four story₆ z₀ front)) ∙ good₆

  -- CCh with carry, and 5 in AL
  pub registers₆ : stage_at (step (after (step (after d₀ (calls_of p₀ four)) (posting story₆)).desk (meanwhile story₆)) (finishing story₆)).desk 6 ≡ Finished saved_ends
  registers₆ =
      ap (λ (d : Desk). stage_at (step (after (step d (posting story₆)).desk (meanwhile story₆)) (finishing story₆)).desk 6) (arrived p₀ four story₆ z₀ front)
      ∙ ap (λ (o : Out). stage_at o.desk 6) (stepped story₆ (z p₀ four story₆ z₀ front))

-- ---- such an arena, and a store: zeros but for the packets

abbrev pub bytes₂ : List ℕ
bytes₂ = 16 ∷ 0 ∷ 20 ∷ 0 ∷ 5 ∷ 0 ∷ 0 ∷ 0 ∷ 8 ∷ 0 ∷ 0 ∷ 0 ∷ 0 ∷ 0 ∷ 0 ∷ 0 ∷ []

abbrev pub bytes₅ : List ℕ
bytes₅ = 16 ∷ 0 ∷ 3 ∷ 0 ∷ 7 ∷ 0 ∷ 9 ∷ 0 ∷ 33 ∷ 0 ∷ 0 ∷ 0 ∷ 0 ∷ 0 ∷ 0 ∷ 0 ∷ []

-- 16 bytes at a place of a window
abbrev window_with : ℕ → List ℕ → List ℕ
window_with at bytes = replicate at 0 ++ (bytes ++ replicate (10288 - at) 0)

length-window_with : (at : ℕ) (bytes : List ℕ) → at ≤ 10288 → length bytes ≡ 16 → length (window_with at bytes) ≡ M
length-window_with at bytes h e =
    length-append (replicate at 0) (bytes ++ replicate (10288 - at) 0)
    ∙ omega (arith, length-append bytes (replicate (10288 - at) 0), length-replicate {A = ℕ} (10288 - at) 0, length-replicate {A = ℕ} at 0, e)

pub zeros : List ℕ
zeros = replicate arena_length 0

pub with₂ : List ℕ
with₂ = with_window zeros 2 M (window_with 24 bytes₂)

pub some_arena : List ℕ
some_arena = with_window with₂ 5 M (window_with 38 bytes₅)

pub some_store : List ℕ
some_store = replicate store_length 7

long₂ : length with₂ ≡ arena_length
unfolding with₂ zeros
long₂ = length-with_window zeros 2 M (window_with 24 bytes₂) ∙ length-replicate {A = ℕ} arena_length 0

pub long_arena : length some_arena ≡ arena_length
unfolding some_arena
long_arena = length-with_window with₂ 5 M (window_with 38 bytes₅) ∙ long₂

pub long_store : length some_store ≡ store_length
unfolding some_store
long_store = length-replicate {A = ℕ} store_length 7

pub held₅_there : packet_at (window_of some_arena 5 M) 38 ≡ packet₅
unfolding packet_at le some_arena
held₅_there =
    ap (λ (w : List ℕ). packet_at w 38)
    (window_with_same with₂ 5 M (window_with 38 bytes₅) (length-window_with 38 bytes₅ (omega arith) refl ∙ sym (span_there with₂ 5 long₂ (omega arith))))

pub held₂_there : packet_at (window_of some_arena 2 M) 24 ≡ packet₂
unfolding packet_at le some_arena with₂ zeros
held₂_there =
    ap (λ (w : List ℕ). packet_at w 24)
    (window_with_other with₂ 5 2 M (window_with 38 bytes₅) (λ e. omega arith) (length-window_with 38 bytes₅ (omega arith) refl ∙ sym (span_there with₂ 5 long₂ (omega arith)))
    ∙ window_with_same zeros 2 M (window_with 24 bytes₂) (length-window_with 24 bytes₂ (omega arith) refl ∙ sym (span_there zeros 2 (length-replicate {A = ℕ} arena_length 0) (omega arith))))

abbrev pub story_of_bytes : Story (place d₀ some_arena some_store)
story_of_bytes = story some_arena some_store long_arena long_store held₂_there held₅_there

pub example_bytes : Same M 2 (first_by table M (posting story_of_bytes) 2 reads) (asked_by M (posting story_of_bytes) 2 reads)
    (step (after (step d₀ (posting story_of_bytes)).desk (meanwhile story_of_bytes)) (finishing story_of_bytes))
    (alone (fed table_bytes no_placement) reads (found_by M (posting story_of_bytes) 2))
example_bytes = example some_arena some_store long_arena long_store held₂_there held₅_there
