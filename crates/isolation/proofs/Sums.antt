-- Document 01, "Sums to prove together": P1 to P10 as one statement over one list. P6, P7 and P8 are steps with AH 08h and 48h in the
-- registers; P9 and P10 are turns at desks that were opened with document 01's table and posted to, whatever arenas and stores of the opening's
-- lengths the calls are lent.
-- Assumes nothing.
use Prim.Native.Nat.{ℕ, zero, suc, ◌+◌, ◌/◌}
use mathlib.Core.Path.{◌≡◌, refl, sym, ap, ap₂, subst, ◌∙◌}
use mathlib.Core.Bool.{true, false}
use mathlib.Core.List.{List, [], ◌∷◌, ◌++◌, map}
use lib.ListN.{length, get_or, replicate}
use lib.Dec.{ltb}
use borrow.Author.Tests.{ltb-true}
use Rattle.std.specs.Prelude.{Ok, Err, Option, Some, None}
use Rattle.logic.proofs.LogicLaws.{impossible}
use Rattle.words.specs.Words.{le, le_bytes}
use Rattle.chs.specs.Chs.{in_limits, is_valid, block_of, block_numbers}
use Rattle.drive.specs.declared.Drive.{Drive}
use Rattle.drive.specs.Drive.{drive_of, same, pci, ata, bus_ok, interface_ok, geometry_fits, fields_ok, in_store, overlap, is_i2o, kind_ok, tail_of, zero_tail}
use Rattle.attached.specs.Bad.{held_of, is_bad, good}
use Rattle.layout.specs.ResultBuffer.{returned_size, parameter_bytes, block_bytes, interface_bytes, path_bytes, sum, whole_result, result_bytes, result_answer, padded, wide_interface_bytes, wide_path_bytes, summed_bytes}
use Rattle.memory.specs.Window.{guests, window_length, window_of}
use Rattle.table.specs.declared.Table.{Table}
use Rattle.table.specs.Table.{zero_drive, header_of, header_at, overlaps_any, refusal, record_refusal, with_record, record_step, end_step, step_of, step_at, read_from, read_table}
use Rattle.int13.specs.declared.Registers.{Registers}
use Rattle.int13.specs.declared.Placement.{Placement}
use Rattle.int13.specs.Placement.{no_placement}
use Rattle.int13.specs.declared.Job.{Job}
use Rattle.int13.specs.declared.Outcome.{Outcome}
use Rattle.int13.specs.declared.Outcome.TheVariants.{Answered, Waits}
use Rattle.int13.specs.Answers.{ah, posted as posted_registers}
use Rattle.int13.specs.Steps.{Checked, unchanged, is_drive, bads_of, sectors, parameters, result_into, fed, shown_of, steps, begin}
use Rattle.desk.specs.declared.Stage.{Stage}
use Rattle.desk.specs.declared.Stage.TheVariants.{Vacant, Waiting, Finished}
use Rattle.desk.specs.declared.Desk.{Desk}
use Rattle.desk.specs.declared.After.{After}
use Rattle.desk.specs.Parts.{window_size, stage_at, with_stage, with_pointer, placement_at}
use Rattle.desk.specs.Calls.{OpenAnswer, TurnAnswer, Done, is_lent, opened, open_of, first_waiting, moves_now, stage_after, serve_stage, turn_next, turn_of}
use Rattle.desk.specs.Numbers.{turn_numbers}
use Rattle.isolation.specs.Lists.{post, turn, Call, turned, Out, step, after}
use Rattle.isolation.specs.Words.{opens, kind_of}
use Rattle.isolation.proofs.Accept.{Inv, inv_accept, inv_opened}
use Rattle.isolation.proofs.Keep.{inv_step, Fixed, fixed_step}
use Rattle.isolation.proofs.Equal.{request}
use Rattle.isolation.proofs.Trace.{call, place, Line, waiting, serving, Holds, Sized, lent, window_lent, step_line, sized_line}

abbrev pub flat : List (List ℕ) → List ℕ
flat [] = []
flat (l ∷ ls) = l ++ flat ls

-- ---- P1 to P5 with C 1024, H 16, S 63

abbrev pub block : ℕ → ℕ → ℕ → List ℕ
block c h s = block_numbers (block_of (record { c = 1024; h = 16; s = 63 }) (record { cylinder = c; head = h; sector = s }))

-- ---- P6 to P8: the steps

-- AX, BX, CX, DX, DS, SI, ES of a call for the first drive
abbrev pub asking : ℕ → Registers
asking ax = record { ax = ax; bx = 0x1111; cx = 0x2222; dx = 0x3380; ds = 1; si = 8; es = 0x4444; carry = true }

-- AH, CX and DH that are answered
abbrev pub geometry_in : Outcome → List ℕ
geometry_in (Answered r) = ah r ∷ r.cx ∷ r.dx / 256 ∷ []
geometry_in (Waits j) = []

abbrev pub parameters_of : Table → List ℕ
parameters_of b = geometry_in (begin (fed b no_placement) (asking 0x0800) []).outcome

-- P6: a table of one drive with C 1024, H 255, S 63
abbrev pub wide : Table
wide =
    record {
      drives = record { cylinders = 0; heads = 0; sectors = 0; blocks = 16450560; first = 0; flags = 0; c = 1024; h = 255; s = 63; protection = 0; bus = pci; interface = ata; path = replicate 8 0; device = replicate 8 0; kind = 1; tail = replicate 8 0 } ∷ replicate 7 zero_drive;
      count = 1;
      present = replicate 8 false;
      parameters = replicate 112 0;
      counts = replicate 8 0;
      bad = replicate 1024 0;
    }

-- P7: the table of document 01, in the store of its example
abbrev pub table_bytes : List ℕ
table_bytes =
    68 ∷ 0 ∷ 1 ∷ 0 ∷ 2 ∷ 0 ∷ 0 ∷ 0 ∷ 16 ∷ 0 ∷ 0 ∷ 0 ∷ 63 ∷ 0 ∷ 0 ∷ 0 ∷ 0 ∷ 8 ∷ 0 ∷ 0 ∷ 0 ∷ 0 ∷ 0 ∷ 0
    ∷ 0 ∷ 0 ∷ 0 ∷ 0 ∷ 0 ∷ 0 ∷ 0 ∷ 0
    ∷ 2 ∷ 0 ∷ 2 ∷ 0 ∷ 16 ∷ 0 ∷ 63 ∷ 0 ∷ 80 ∷ 67 ∷ 73 ∷ 0 ∷ 65 ∷ 84 ∷ 65 ∷ 0 ∷ 0 ∷ 0 ∷ 0 ∷ 0 ∷ 0 ∷ 31 ∷ 1 ∷ 0 ∷ 0 ∷ 0 ∷ 0 ∷ 0
    ∷ 0 ∷ 0 ∷ 0 ∷ 0 ∷ 0 ∷ 0 ∷ 0 ∷ 0
    ∷ 4 ∷ 0 ∷ 0 ∷ 0 ∷ []

abbrev pub table : Table
table = (read_table table_bytes 4294967296).table

-- 48h with a buffer at 0001:0008 that says a size
abbrev pub result_of : ℕ → Checked
result_of asked = begin (fed table no_placement) (asking 0x4800) (replicate 24 0 ++ (le_bytes 2 asked ++ replicate 72 0))

abbrev pub code_in : Outcome → ℕ
code_in (Answered r) = ah r
code_in (Waits j) = 256

-- P8: AH, and the size word afterwards, which a refusal leaves
abbrev pub size : ℕ → List ℕ
size asked = code_in (result_of asked).outcome ∷ le 2 (result_of asked).window 24 ∷ []

-- ---- P9 and P10: turns at desks that were opened and posted to

abbrev pub arena_length : ℕ
arena_length = 163840

abbrev pub store_length : ℕ
store_length = 1048576

-- 02h, 40 sectors from 0/0/1 of drive 80h
abbrev pub reads : Registers
reads = record { ax = 0x0228; bx = 0; cx = 0x0001; dx = 0x0080; ds = 0x1111; si = 0x2222; es = 0; carry = true }

module _ (a s : ℕ → List ℕ) where
  -- the call of a number, lent an arena and a store of its own
  abbrev pub posting : ℕ → ℕ → Call
  posting i g = call (post g reads) (a i) (s i)

  abbrev pub turning : ℕ → Call
  turning i = call turn (a i) (s i)

  abbrev pub start : Desk
  start = (open_of table_bytes arena_length store_length).desk

  -- P9: pointer 0, guests 2 and 5 waiting with 40 blocks each
  abbrev pub p9 : Desk
  p9 = after start (posting 0 2 ∷ posting 1 5 ∷ [])

  -- P10: pointer 1, all eight waiting: guest 0 was served once
  abbrev pub p10 : Desk
  p10 = after start
      (posting 0 0 ∷ turning 1 ∷ posting 2 1 ∷ posting 3 2 ∷ posting 4 3 ∷ posting 5 4 ∷ posting 6 5 ∷ posting 7 6 ∷ posting 8 7 ∷ [])

  -- the numbers of k turns
  abbrev pub turns_of : ℕ → Desk → List (List ℕ)
  turns_of zero d = []
  turns_of (suc k) d = turn_numbers (turn_of d (a k) (s k)).answer ∷ turns_of k (turn_of d (a k) (s k)).desk

-- ---- the opening and the posts, in detail

abbrev drive : Drive
drive =
    record {
      cylinders = 2;
      heads = 16;
      sectors = 63;
      blocks = 2048;
      first = 0;
      flags = 2;
      c = 2;
      h = 16;
      s = 63;
      protection = 0;
      bus = pci;
      interface = ata;
      path = 0 ∷ 31 ∷ 1 ∷ 0 ∷ 0 ∷ 0 ∷ 0 ∷ 0 ∷ [];
      device = replicate 8 0;
      kind = 1;
      tail = replicate 8 0;
    }

abbrev table_read : Table
table_read =
    record {
      drives = drive ∷ replicate 7 zero_drive;
      count = 1;
      present = replicate 8 false;
      parameters = replicate 112 0;
      counts = replicate 8 0;
      bad = replicate 1024 0;
    }

abbrev d₀ : Desk
d₀ = opened table_read arena_length store_length

opening : open_of table_bytes arena_length store_length ≡ record { desk = d₀; answer = Ok tt }
unfolding open_of le le_bytes in_limits drive_of same bus_ok interface_ok geometry_fits fields_ok in_store overlap header_of header_at overlaps_any refusal record_refusal with_record record_step end_step step_of step_at read_from read_table tail_of is_i2o zero_tail kind_ok
opening = refl

inv₀ : Inv d₀
inv₀ = subst (λ (o : After OpenAnswer). Inv o.desk) opening (inv_opened table_bytes arena_length store_length (ap (λ (o : After OpenAnswer). o.answer) opening))

abbrev job : Job
job = record { registers = posted_registers reads; drive = 0x80; start = 0; count = 40; buffer = 0; packet = 0 }

abbrev waits : Stage
waits = Waiting (request job 0)

sectors-reads : (n : ℕ) → n ≡ 20480 → sectors true drive reads n ≡ Waits job
unfolding sectors block_of in_limits is_valid
sectors-reads n e = rw e

check_reads : (p : Placement) (w : List ℕ) → length w ≡ 20480 → begin (fed table_read p) reads w ≡ unchanged w (Waits job)
unfolding begin steps is_drive
check_reads p w e = ap (unchanged w) (sectors-reads (length w) e)

-- ---- a turn's answer and the desk that it leaves are not of the arena's and the store's bytes

abbrev bare : Desk → Done TurnAnswer
bare d = turn_next d (first_waiting d.rows guests d.pointer) [] []

abbrev bare_turns : ℕ → Desk → List (List ℕ)
bare_turns zero d = []
bare_turns (suc k) d = turn_numbers (bare d).answer ∷ bare_turns k (bare d).desk

record Alike (o p : Done TurnAnswer) : Type 0 where
  pub answer : o.answer ≡ p.answer
  pub desk : o.desk ≡ p.desk

stage_bare : (d : Desk) (g : ℕ) (x : Stage) (arena store : List ℕ) → Alike (serve_stage d g x arena store) (serve_stage d g x [] [])
stage_bare d g Vacant arena store = record { answer = refl; desk = refl }
stage_bare d g (Waiting q) arena store = record { answer = refl; desk = refl }
stage_bare d g (Finished r) arena store = record { answer = refl; desk = refl }

next-bare : (d : Desk) (n : Option ℕ) (arena store : List ℕ) → Alike (turn_next d n arena store) (turn_next d n [] [])
next-bare d None arena store = record { answer = refl; desk = refl }
next-bare d (Some g) arena store = stage_bare d g (stage_at d g) arena store

turn-bare : (d : Desk) → Inv d → (arena store : List ℕ) → is_lent d arena store ≡ true → Alike (turn_of d arena store) (bare d)
unfolding turn_of
turn-bare d inv arena store l = rw (inv_accept d inv, l) (next-bare d (first_waiting d.rows guests d.pointer) arena store)

turn_no_opening : (x : TurnAnswer) → kind_of (turned x) ≡ opens → ⊥
turn_no_opening (Ok (Some s)) e = impossible cc
turn_no_opening (Ok None) e = impossible cc
turn_no_opening (Err n) e = impossible cc

turn_inv : (d : Desk) → Inv d → (arena store : List ℕ) → Inv (turn_of d arena store).desk
unfolding step
turn_inv d inv arena store = inv_step d (call turn arena store) inv (turn_no_opening (turn_of d arena store).answer)

-- the lengths and the table stay
fixed_turn : (d : Desk) (arena store : List ℕ) → Inv d → Fixed d (turn_of d arena store).desk
unfolding step
fixed_turn d arena store inv = fixed_step d (call turn arena store) inv (turn_no_opening (turn_of d arena store).answer)

-- ---- the desks

abbrev rows_of : List Stage → ℕ → Desk
rows_of stages pointer =
    record {
      rows = map (λ x. record { stage = x }) stages;
      pointer = pointer;
      table = table_read;
      arena = arena_length;
      store = store_length;
      placed = replicate 8 false;
      addresses = replicate 8 0;
    }

abbrev at9 : Desk
at9 = rows_of (Vacant ∷ Vacant ∷ waits ∷ Vacant ∷ Vacant ∷ waits ∷ Vacant ∷ Vacant ∷ []) 0

abbrev at10 : Desk
at10 = rows_of (Waiting (request job 16) ∷ replicate 7 waits) 1

module _ (a s : ℕ → List ℕ) (la : (i : ℕ) → length (a i) ≡ arena_length) (ls : (i : ℕ) → length (s i) ≡ store_length) where
  -- an acceptable desk of the opening's lengths
  record At (d : Desk) : Type 0 where
    pub inv : Inv d
    pub arena : d.arena ≡ arena_length
    pub store : d.store ≡ store_length
    pub table : d.table ≡ table_read

  at₀ : At d₀
  at₀ = record { inv = inv₀; arena = refl; store = refl; table = refl }

  sized_at : (d : Desk) (i : ℕ) → At d → Sized (place d (a i) (s i))
  sized_at d i t = record { inv = t.inv; arena = la i ∙ sym t.arena; store = ls i ∙ sym t.store }

  as_bare : (k : ℕ) (d : Desk) → At d → turns_of a s k d ≡ bare_turns k d
  as_bare zero d t = refl
  as_bare (suc k) d t =
      let b = turn-bare d t.inv (a k) (s k) (lent d (a k) (s k) (la k ∙ sym t.arena) (ls k ∙ sym t.store)) in
      let f = fixed_turn d (a k) (s k) t.inv in
      let u : At (turn_of d (a k) (s k)).desk
      = record { inv = turn_inv d t.inv (a k) (s k); arena = f.arena ∙ t.arena; store = f.store ∙ t.store; table = f.table ∙ t.table } in
      ap (λ (l : List (List ℕ)). turn_numbers (turn_of d (a k) (s k)).answer ∷ l) (as_bare k (turn_of d (a k) (s k)).desk u)
      ∙ ap₂ (λ (x : TurnAnswer) (y : Desk). turn_numbers x ∷ bare_turns k y) b.answer b.desk

  -- the guests of a list post one after the other, the calls numbered from i
  abbrev postings : ℕ → List ℕ → List Call
  postings i [] = []
  postings i (g ∷ gs) = posting a s i g ∷ postings (i + 1) gs

  abbrev asked : Desk → List ℕ → Desk
  asked d [] = d
  asked d (g ∷ gs) = asked (with_stage d g waits) gs

  abbrev Free : Desk → List ℕ → Type 0
  Free d [] = Unit
  Free d (g ∷ gs) = ((ltb g guests ≡ true) × (stage_at d g ≡ Vacant)) × Free (with_stage d g waits) gs

  holds : (d : Desk) (i g : ℕ) → At d → (ltb g guests ≡ true) × (stage_at d g ≡ Vacant) → Holds (place d (a i) (s i)) (waiting g reads job)
  holds d i g t f = (
    f.0,
    f.1,
    subst (λ (x : Table). begin (fed x (placement_at d g)) reads (window_of (a i) g (window_size d)) ≡ unchanged (window_of (a i) g (window_size d)) (Waits job)) (sym t.table)
        (check_reads (placement_at d g) (window_of (a i) g (window_size d)) (window_lent d (a i) g (la i ∙ sym t.arena) (ltb-true g guests f.0) ∙ ap window_length t.arena)),
  )

  all-post : (gs : List ℕ) (i : ℕ) (d : Desk) → At d → Free d gs → (after d (postings i gs) ≡ asked d gs) × At (asked d gs)
  unfolding after
  all-post [] i d t f = (refl, t)
  all-post (g ∷ gs) i d t f =
      let h = holds d i g t f.0 in
      let u : At (with_stage d g waits)
      = record { inv = (sized_line (place d (a i) (s i)) (waiting g reads job) (sized_at d i t) h).inv; arena = t.arena; store = t.store; table = t.table } in
      let r = all-post gs (i + 1) (with_stage d g waits) u f.1 in
      (ap (λ (o : Out). after o.desk (postings (i + 1) gs)) (step_line (place d (a i) (s i)) (sized_at d i t) (waiting g reads job) h) ∙ r.0, r.1)

  from_start : (cs : List Call) → after (start a s) cs ≡ after d₀ cs
  from_start cs = ap (λ (o : After OpenAnswer). after o.desk cs) opening

  two : (after d₀ (postings 0 (2 ∷ 5 ∷ [])) ≡ at9) × At at9
  two = all-post (2 ∷ 5 ∷ []) 0 d₀ at₀ ((refl, refl), ((refl, refl), tt))

  -- guest 0 waits, is served once, and then the others wait
  abbrev t₁ : Desk
  t₁ = with_stage d₀ 0 waits

  abbrev t₂ : Desk
  t₂ = with_pointer (with_stage t₁ 0 (Waiting (request job 16))) 1

  abbrev serves₀ : Line
  serves₀ = serving 0 (request job 0) 16 (Waiting (request job 16))

  one : At t₁
  one = (all-post (0 ∷ []) 0 d₀ at₀ ((refl, refl), tt)).1

  served : Holds (place t₁ (a 1) (s 1)) serves₀
  unfolding first_waiting moves_now bads_of is_drive good is_bad held_of stage_after
  served = (refl, refl, refl, refl)

  at₂ : At t₂
  at₂ = record { inv = (sized_line (place t₁ (a 1) (s 1)) serves₀ (sized_at t₁ 1 one) served).inv; arena = refl; store = refl; table = refl }

  abbrev others : List ℕ
  others = 1 ∷ 2 ∷ 3 ∷ 4 ∷ 5 ∷ 6 ∷ 7 ∷ []

  seven : (after t₂ (postings 2 others) ≡ at10) × At at10
  seven =
      all-post others 2 t₂ at₂
      ((refl, refl), ((refl, refl), ((refl, refl), ((refl, refl), ((refl, refl), ((refl, refl), ((refl, refl), tt)))))))

  p10_is : p10 a s ≡ at10
  unfolding after
  p10_is =
      from_start (posting a s 0 0 ∷ turning a s 1 ∷ postings 2 others)
      ∙ ap (λ (o : Out). after o.desk (turning a s 1 ∷ postings 2 others))
      (step_line (place d₀ (a 0) (s 0)) (sized_at d₀ 0 at₀) (waiting 0 reads job) (holds d₀ 0 0 at₀ (refl, refl)))
      ∙ ap (λ (o : Out). after o.desk (postings 2 others)) (step_line (place t₁ (a 1) (s 1)) (sized_at t₁ 1 one) serves₀ served)
      ∙ seven.0

  p9_turns : flat (turns_of a s 6 (p9 a s)) ≡ 0 ∷ 2 ∷ 16 ∷ 0 ∷ 5 ∷ 16 ∷ 0 ∷ 2 ∷ 16 ∷ 0 ∷ 5 ∷ 16 ∷ 0 ∷ 2 ∷ 8 ∷ 0 ∷ 5 ∷ 8 ∷ []
  unfolding first_waiting moves_now bads_of is_drive good is_bad held_of stage_after turn_numbers
  p9_turns =
      ap (λ (d : Desk). flat (turns_of a s 6 d)) (from_start (postings 0 (2 ∷ 5 ∷ [])) ∙ two.0) ∙ ap flat (as_bare 6 at9 two.1)

  p10_turns : flat (turns_of a s 8 (p10 a s))
      ≡ 0 ∷ 1 ∷ 16 ∷ 0 ∷ 2 ∷ 16 ∷ 0 ∷ 3 ∷ 16 ∷ 0 ∷ 4 ∷ 16 ∷ 0 ∷ 5 ∷ 16 ∷ 0 ∷ 6 ∷ 16 ∷ 0 ∷ 7 ∷ 16 ∷ 0 ∷ 0 ∷ 16 ∷ []
  unfolding first_waiting moves_now bads_of is_drive good is_bad held_of stage_after turn_numbers
  p10_turns = ap (λ (d : Desk). flat (turns_of a s 8 d)) p10_is ∙ ap flat (as_bare 8 at10 seven.1)

  -- ---- the sums, one statement over one list: code and value of each

  -- P9: turns serve 2, 5, 2, 5, 2, 5, moving 16, 16, 16, 16, 8, 8. P10: guest 0 is served by the eighth turn
  pub sums :
      block 0 0 1
      ∷ block 0 1 1
      ∷ block 1 0 1
      ∷ block 1023 15 63
      ∷ block 0 0 0
      ∷ parameters_of wide
      ∷ (parameters_of table ++ (get_or (result_of 66).window (24 + 65) 0 ∷ []))
      ∷ flat (map size (25 ∷ 26 ∷ 29 ∷ 30 ∷ 65 ∷ 66 ∷ 65535 ∷ []))
      ∷ flat (turns_of a s 6 (p9 a s))
      ∷ flat (turns_of a s 8 (p10 a s))
      ∷ []
      ≡ (0 ∷ 0 ∷ [])
      ∷ (0 ∷ 63 ∷ [])
      ∷ (0 ∷ 1008 ∷ [])
      ∷ (0 ∷ 1032191 ∷ [])
      ∷ (0x04 ∷ [])
      ∷ (0 ∷ 0xFFFF ∷ 0xFE ∷ [])
      ∷ (0 ∷ 0x013F ∷ 0x0F ∷ 0x6F ∷ [])
      ∷ (0x01 ∷ 25 ∷ 0 ∷ 26 ∷ 0 ∷ 26 ∷ 0 ∷ 30 ∷ 0 ∷ 30 ∷ 0 ∷ 66 ∷ 0 ∷ 74 ∷ [])
      ∷ (0 ∷ 2 ∷ 16 ∷ 0 ∷ 5 ∷ 16 ∷ 0 ∷ 2 ∷ 16 ∷ 0 ∷ 5 ∷ 16 ∷ 0 ∷ 2 ∷ 8 ∷ 0 ∷ 5 ∷ 8 ∷ [])
      ∷ (0 ∷ 1 ∷ 16 ∷ 0 ∷ 2 ∷ 16 ∷ 0 ∷ 3 ∷ 16 ∷ 0 ∷ 4 ∷ 16 ∷ 0 ∷ 5 ∷ 16 ∷ 0 ∷ 6 ∷ 16 ∷ 0 ∷ 7 ∷ 16 ∷ 0 ∷ 0 ∷ 16 ∷ [])
      ∷ []
  unfolding block_numbers block_of in_limits is_valid le le_bytes drive_of same bus_ok interface_ok geometry_fits fields_ok in_store overlap header_of header_at overlaps_any refusal record_refusal with_record record_step end_step step_of step_at read_from read_table is_drive bads_of shown_of parameters result_into steps begin result_answer returned_size result_bytes whole_result parameter_bytes block_bytes interface_bytes path_bytes sum tail_of is_i2o zero_tail kind_ok padded wide_interface_bytes wide_path_bytes summed_bytes
  sums =
      ap₂ (λ (x y : List ℕ).
      block 0 0 1
      ∷ block 0 1 1
      ∷ block 1 0 1
      ∷ block 1023 15 63
      ∷ block 0 0 0
      ∷ parameters_of wide
      ∷ (parameters_of table ++ (get_or (result_of 66).window (24 + 65) 0 ∷ []))
      ∷ flat (map size (25 ∷ 26 ∷ 29 ∷ 30 ∷ 65 ∷ 66 ∷ 65535 ∷ []))
      ∷ x
      ∷ y
      ∷ []) p9_turns p10_turns
