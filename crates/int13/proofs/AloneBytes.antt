-- Served alone, byte by byte: what a request that waits asks, from its registers and its packet, and the bytes that its moves and its end lay down;
-- and 44h.
-- Assumes nothing.
use Prim.Native.Nat.{ℕ, suc, ◌+◌, ◌-◌, ◌*◌, ◌/◌, ◌%◌, ◌≤◌, ◌<◌}
use mathlib.Core.Path.{◌≡◌, refl, sym, ap, subst, ◌∙◌}
use mathlib.Core.Logic.{◌⊎◌, inl, inr, ⊎_elim}
use mathlib.Core.Bool.{Bool, true, false, not}
use mathlib.Core.List.{List}
use native.Mathlib.Nat.{add-zero}
use native.Mathlib.Omega.{arith}
use lib.ListN.{length, get_or, set, drop, length-take, length-set}
use lib.Seq.{get_or-take, get_or-drop, get_or-set_same, get_or-set_other, length-sets}
use lib.Dec.{leb, ltb, eqb}
use borrow.Author.Tests.{leb-true, ltb-true, lt-ltb, le-ltb, ltb-false, eqb-true, eqb-false, eq-eqb, not-false}
use Rattle.logic.specs.Logic.{pick, both, either}
use Rattle.logic.proofs.LogicLaws.{both_true, either_true, pick-cases, some_ext, true≢false}
use Rattle.words.specs.Words.{le, le_bytes, part}
use Rattle.std.specs.Prelude.{Result, Ok, Err, Option}
use Rattle.chs.specs.declared.Outside.{Outside}
use Rattle.chs.specs.Chs.{size, block_of, address_in}
use Rattle.drive.specs.Drive.{geometry_of, is_protected}
use Rattle.drive.proofs.DriveLaws.{geometry_inside}
use Rattle.attached.specs.declared.Bads.{Bads}
use Rattle.attached.specs.Bad.{held_of, bad_at, is_bad, good}
use Rattle.attached.proofs.BadLaws.{held-few, bads_ok_true, good-most, good_clean, good_worn}
use Rattle.table.specs.declared.Table.{Table}
use Rattle.table.specs.Table.{no_drive, bads_at, read_table}
use Rattle.table.proofs.TableLaws.{le-part}
use Rattle.table.proofs.Sound.{Obeys, Good, sound_rules, good-obeys, accepted-good}
use Rattle.layout.specs.declared.Packet.{Packet}
use Rattle.layout.specs.declared.BadParameter.{BadParameter}
use Rattle.layout.specs.Packet.{packet_at, read_packet}
use Rattle.layout.specs.ResultBuffer.{result_answer}
use Rattle.memory.specs.Blocks.{blocks}
use Rattle.memory.proofs.BlocksLaws.{blocks-length, get_or-blocks_outside, part-blocks-same}
use Rattle.int13.specs.declared.Registers.{Registers}
use Rattle.int13.specs.declared.Job.{Job}
use Rattle.int13.specs.declared.Placement.{Placement}
use Rattle.int13.specs.declared.Outcome.{Outcome}
use Rattle.int13.specs.declared.Outcome.TheVariants.{Answered, Waits}
use Rattle.int13.specs.declared.Plan.{Plan}
use Rattle.int13.specs.Answers.{ah, al, dl, is_sectors, is_write, succeed, refuse, posted, bad_code, ended}
use Rattle.int13.specs.Steps.{Checked, fed, is_drive, drive_count, drive_named, bads_of, shown_of, packet_place, verify_ok, with_count, verified, packet_tests, packet_read, packet_plan, packet_job, carry_out, extended, seek_read, seek, sector_buffer, sector_job, sector_run, sectors, parameters, extensions, result_given, result_into, steps, begin}
use Rattle.int13.specs.Alone.{Memory, Served, asked, asked_start, named_from, store_block, moves, good_of, reported, ended_memory, served_to, finish, alone}
use Rattle.int13.specs.AloneBytes.{asked_buffer, ReadBytes, WrittenBytes, PostedWell, PostedBad, CountBytes, AfterData, worn_block, AloneBytes, AloneMoves, VerifiedTo, VerifiedWhole, VerifyBytes, AloneVerifies}
use Rattle.int13.proofs.StepsLaws.{is_drive_true, drive_slot, steps_42_43_44}

-- ---- what a request that waits asks

not_third : (x y z : Bool) → either x (either y z) ≡ true → z ≡ false → either x y ≡ true
not_third true y z e f = refl
not_third false true z e f = refl
not_third false false z e f = sym f ∙ e

-- a number that is one of two
one_of : (f m n : ℕ) → either (eqb f m) (eqb f n) ≡ true → (f ≡ m) ⊎ (f ≡ n)
one_of f m n e = ⊎_elim (λ x. inl (eqb-true f m x)) (λ x. inr (eqb-true f n x)) (either_true (eqb f m) (eqb f n) e)

module _ (b : Table) (r : Registers) (w : List ℕ) where
  pub record Asks (j : Job) : Type 0 where
    pub function : ((ah r ≡ 0x02) ⊎ (ah r ≡ 0x42)) ⊎ ((ah r ≡ 0x03) ⊎ (ah r ≡ 0x43))
    pub known : is_drive b (dl r) ≡ true
    pub registers : j.registers ≡ posted r
    pub drive : j.drive ≡ dl r
    pub some : 0 < j.count
    pub few : j.count ≤ 128
    pub count : j.count ≡ asked r w
    pub buffer : j.buffer ≡ asked_buffer r w
    pub start : j.start ≡ asked_start b r w
    pub first : store_block b j ≡ named_from b r w
    pub named : store_block b j ≡ (drive_named b r).first + j.start
    pub room : j.buffer + 512 * j.count ≤ length w
    pub packet : is_sectors (ah r) ≡ false → (j.packet ≡ packet_place r) × (packet_place r + 16 ≤ length w)
    pub range : (j.start + j.count ≤ (drive_named b r).blocks) ⊎ (j.start + j.count ≤ size (geometry_of (drive_named b r)))

  -- an answer at once asks nothing more
  abbrev Tells : Outcome → Type 0
  Tells (Answered x) = Unit
  Tells (Waits j) = Asks j

  abbrev TellsAll : Checked → Type 0
  TellsAll k = Tells k.outcome

  abbrev known : Bool
  known = is_drive b (dl r)

  sectors_asks : (n : ℕ) → is_sectors (ah r) ≡ true → known ≡ true → eqb (al r) 0 ≡ false → ltb 128 (al r) ≡ false
      → block_of (geometry_of (drive_named b r)) (address_in r.cx r.dx) ≡ Ok n
      → ltb (size (geometry_of (drive_named b r))) (n + al r) ≡ false → ltb (length w) (sector_buffer r + 512 * al r) ≡ false → Asks (sector_job r n)
  sectors_asks n s d z u e i f =
      let ne : al r ≡ 0 → ⊥ = eqb-false (al r) 0 z in
      record {
        function = ⊎_elim (λ x. inl (inl x)) (λ x. inr (inl x)) (one_of (ah r) 0x02 0x03 s);
        known = d;
        registers = refl;
        drive = refl;
        some = omega (arith, ne);
        few = ltb-false 128 (al r) u;
        count = rw s;
        buffer = rw s;
        start = rw (s, e);
        first = rw (s, e);
        named = refl;
        room = ltb-false (length w) (sector_buffer r + 512 * al r) f;
        packet = λ h. true≢false (is_sectors (ah r)) s h;
        range = inr (ltb-false (size (geometry_of (drive_named b r))) (n + al r) i);
      }

  sectors_tell : is_sectors (ah r) ≡ true → Tells (sectors known (drive_named b r) r (length w))
  unfolding sectors
  sectors_tell s =
      pick-cases Tells (not known) _ _ (λ e. tt) (λ e₁.
      pick-cases Tells (eqb (al r) 0) _ _ (λ e. tt) (λ e₂.
      pick-cases Tells (ltb 128 (al r)) _ _ (λ e. tt) (λ e₃.
      pick-cases Tells (both (is_write (ah r)) (is_protected (drive_named b r))) _ _ (λ e. tt) (λ e₄.
      run e₁ e₂ e₃ (block_of (geometry_of (drive_named b r)) (address_in r.cx r.dx)) refl))))
    where
      run : not known ≡ false → eqb (al r) 0 ≡ false → ltb 128 (al r) ≡ false → (x : Result ℕ Outside)
          → block_of (geometry_of (drive_named b r)) (address_in r.cx r.dx) ≡ x → Tells (sector_run (drive_named b r) r (length w) x)
      run e₁ e₂ e₃ (Err x) e = tt
      run e₁ e₂ e₃ (Ok n) e =
          pick-cases Tells (ltb (size (geometry_of (drive_named b r))) (n + al r)) _ _ (λ e. tt) (λ e₅.
          pick-cases Tells (ltb (length w) (sector_buffer r + 512 * al r)) _ _ (λ e. tt) (λ e₆.
          sectors_asks n s (not-false _ e₁) e₂ e₃ e e₅ e₆))

  abbrev packet : Packet
  packet = packet_at w (packet_place r)

  abbrev Extended : Bool
  Extended = either (eqb (ah r) 0x42) (either (eqb (ah r) 0x43) (eqb (ah r) 0x44))

  abbrev Plans : Plan → Type 0
  Plans p = TellsAll (carry_out p r w)

  packet_asks : is_sectors (ah r) ≡ false → Extended ≡ true → known ≡ true → packet_place r + 16 ≤ length w → ltb 127 packet.count ≡ false
      → ltb (drive_named b r).blocks (packet.start + packet.count) ≡ false
      → eqb (ah r) 0x44 ≡ false → ltb (length w) (packet.buffer + 512 * packet.count) ≡ false → eqb packet.count 0 ≡ false → Asks (packet_job r packet)
  unfolding packet_at
  packet_asks s x d i o q f u z =
      let ne : packet.count ≡ 0 → ⊥ = eqb-false packet.count 0 z in
      let most : packet.count ≤ 127 = ltb-false 127 packet.count o in
      record {
        function = ⊎_elim (λ y. inl (inr y)) (λ y. inr (inr y)) (one_of (ah r) 0x42 0x43 (not_third (eqb (ah r) 0x42) (eqb (ah r) 0x43) (eqb (ah r) 0x44) x f));
        known = d;
        registers = refl;
        drive = refl;
        some = omega (arith, ne);
        few = omega (arith, most);
        count = rw s;
        buffer = rw s;
        start = rw s;
        first = rw s;
        named = refl;
        room = ltb-false (length w) (packet.buffer + 512 * packet.count) u;
        packet = λ h. (refl, i);
        range = inl (ltb-false (drive_named b r).blocks (packet.start + packet.count) q);
      }

  -- 44h is answered at once, with its bad block or without one
  verified_tell : (k count : ℕ) → Plans (verified k count)
  unfolding verified
  verified_tell k count = pick-cases Plans (ltb k count) _ _ (λ e. tt) (λ e. tt)

  packet_tell : (l : Bads) → is_sectors (ah r) ≡ false → Extended ≡ true → known ≡ true → packet_place r + 16 ≤ length w
      → Plans (packet_tests (drive_named b r) l r (length w) packet)
  unfolding packet_tests
  packet_tell l s x d i =
      pick-cases Plans (ltb 127 packet.count) _ _ (λ e. tt) (λ e₁.
      pick-cases Plans (both (is_write (ah r)) (is_protected (drive_named b r))) _ _ (λ e. tt) (λ e₂.
      pick-cases Plans (ltb (drive_named b r).blocks (packet.start + packet.count)) _ _ (λ e. tt) (λ e₃.
      pick-cases Plans (eqb (ah r) 0x44) _ _ (λ e. verified_tell (good l packet.start packet.count) packet.count) (λ e₄.
      pick-cases Plans (ltb (length w) (packet.buffer + 512 * packet.count)) _ _ (λ e. tt) (λ e₅.
      pick-cases Plans (eqb packet.count 0) _ _ (λ e. tt) (λ e₆.
      packet_asks s x d i e₁ e₃ e₄ e₅ e₆))))))

  extended_tell : (l : Bads) → is_sectors (ah r) ≡ false → Extended ≡ true → TellsAll (extended known (drive_named b r) l r w)
  unfolding packet_plan read_packet
  extended_tell l s x =
      pick-cases Plans (not known) _ _ (λ e. tt) (λ e₁.
      pick-cases Plans (both (is_write (ah r)) (not (verify_ok (al r) (drive_named b r).flags))) _ _ (λ e. tt) (λ e₂.
      pick-cases (λ (p : Result Packet BadParameter). Plans (packet_read (drive_named b r) l r (length w) p)) (leb (packet_place r + 16) (length w)) _ _
      (λ e₃. pick-cases Plans (ltb packet.size 16) _ _ (λ e. tt) (λ e₄. packet_tell l s x (not-false _ e₁) (leb-true (packet_place r + 16) (length w) e₃)))
      (λ e₃. tt)))

  -- the others never wait

  seek_tell : Tells (seek known (drive_named b r) r w)
  unfolding seek
  seek_tell = pick-cases Tells (not known) _ _ (λ e. tt) (λ e. by_packet (read_packet w (packet_place r)))
    where
      by_packet : (p : Result Packet BadParameter) → Tells (seek_read (drive_named b r) r p)
      by_packet (Err x) = tt
      by_packet (Ok p) = pick-cases Tells (ltb p.size 16) _ _ (λ e. tt) (λ e. pick-cases Tells (leb (drive_named b r).blocks p.start) _ _ (λ e. tt) (λ e. tt))

  result_tell : (s : Option ℕ) → TellsAll (result_into known (drive_named b r) s r w)
  unfolding result_into
  result_tell s =
      pick-cases TellsAll (not known) _ _ (λ e. tt) (λ e.
      pick-cases TellsAll (ltb (length w) (packet_place r + 2)) _ _ (λ e. tt) (λ e.
      by_answer (result_answer (drive_named b r) (le 2 w (packet_place r)) (length (drop (packet_place r) w)))))
    where
      by_answer : (x : Result ℕ BadParameter) → Tells (result_given x r)
      by_answer (Err x) = tt
      by_answer (Ok n) = tt

  parameters_tell : Tells (parameters known (drive_count b) (drive_named b r) r)
  unfolding parameters
  parameters_tell = pick-cases Tells known _ _ (λ e. tt) (λ e. tt)

  extensions_tell : (s : Option ℕ) → Tells (extensions known s r)
  unfolding extensions
  extensions_tell s = pick-cases Tells (both known (eqb r.bx 0x55AA)) _ _ (λ e. tt) (λ e. tt)

  begin_tell : (p : Placement) → TellsAll (begin (fed b p) r w)
  unfolding begin steps
  begin_tell p =
      pick-cases TellsAll (either (eqb (ah r) 0x02) (eqb (ah r) 0x03)) _ _ (λ e. sectors_tell e) (λ e₁.
      pick-cases TellsAll (eqb (ah r) 0x08) _ _ (λ e. parameters_tell) (λ e₂.
      pick-cases TellsAll (eqb (ah r) 0x41) _ _ (λ e. extensions_tell (shown_of b p (dl r))) (λ e₃.
      pick-cases TellsAll Extended _ _ (λ e. extended_tell (bads_of b (dl r)) e₁ e) (λ e₄.
      pick-cases TellsAll (eqb (ah r) 0x47) _ _ (λ e. seek_tell) (λ e₅.
      pick-cases TellsAll (eqb (ah r) 0x48) _ _ (λ e. result_tell (shown_of b p (dl r))) (λ e₆.
      tt))))))

  pub waits_asks : (p : Placement) (j : Job) → (begin (fed b p) r w).outcome ≡ Waits j → Asks j
  waits_asks p j e = subst Tells e (begin_tell p)

  -- the blocks lie in the store that the table was read for
  waits-inside : (j : Job) (store : ℕ) → Good b store → Asks j → store_block b j + j.count ≤ store
  unfolding is_drive
  waits-inside j store g a =
      let t = is_drive_true b (dl r) a.known in
      let o : Obeys (drive_named b r) store = good-obeys b store (dl r - 128) g.sound (omega (arith, length-take b.count b.drives)) in
      let h : j.start + j.count ≤ (drive_named b r).blocks = ⊎_elim (λ x. x) (λ x. omega (arith, x, geometry_inside (drive_named b r) o.fields)) a.range in
      omega (arith, a.named, h, o.inside)

-- ---- the bad blocks of a drive

-- where the table is sound, a drive's list is its part of the table's array
listed_worn : (b : Table) (r : Registers) (store x : ℕ) → Good b store → is_drive b (dl r) ≡ true → is_bad (bads_of b (dl r)) x ≡ worn_block b r x
unfolding bads_of is_bad
listed_worn b r store x g d =
    let i : ℕ = dl r - 128 in
    let n : ℕ = get_or b.counts i 0 in
    let listed = (sound_rules b store g.sound).listed i (drive_slot b (dl r) g.eight d).1 in
    let few : n ≤ 16 = (bads_ok_true (bads_at b i) (get_or b.drives i no_drive).blocks listed).0 in
    let held : held_of n ≡ n = held-few n few in
    rw (d, held)
    (some_ext n (λ j. eqb (bad_at (bads_at b i) j) x) (λ j. eqb (le 8 b.bad (128 * i + 8 * j)) x)
    (λ j h. ap (λ (y : ℕ). eqb y x) (le-part 8 128 b.bad (128 * i) (8 * j) (omega arith))))

-- ---- the bytes that a move lays down

module _ (d : List ℕ) (at : ℕ) (s : List ℕ) (from k : ℕ) (hd : at + 512 * k ≤ length d) (hs : from + 512 * k ≤ length s) where
  blocks-byte : (x y z : ℕ) → x ≡ at + z → y ≡ from + z → z < 512 * k → get_or (blocks d at s from k) x 0 ≡ get_or s y 0
  blocks-byte x y z e f h =
      let in_part : (l : List ℕ) (p : ℕ) → get_or (part (512 * k) l p) z 0 ≡ get_or l (p + z) 0 = λ l p. get_or-take (512 * k) (drop p l) z 0 h ∙ get_or-drop p l z 0 in
      rw (e, f) (sym (in_part (blocks d at s from k) at) ∙ ap (λ (l : List ℕ). get_or l z 0) (part-blocks-same d at s from k hd hs) ∙ in_part s from)

module _ (n first buffer : ℕ) (m : Memory) (room : buffer + 512 * n ≤ length m.window) (inside : 512 * (first + n) ≤ length m.store) where
  read-bytes : ReadBytes n first buffer m (record { window = blocks m.window (buffer + 512 * 0) m.store (512 * (first + 0)) n; store = m.store })
  read-bytes =
      record {
        window = λ i k hi hk. blocks-byte m.window (buffer + 512 * 0) m.store (512 * (first + 0)) n (omega arith) (omega arith) _ _ (512 * i + k) (omega arith) (omega arith) (omega arith);
        other = λ x o. get_or-blocks_outside m.window (buffer + 512 * 0) m.store (512 * (first + 0)) n x (⊎_elim (λ y. inl (omega arith)) (λ y. inr (omega arith)) o);
        size = blocks-length m.window (buffer + 512 * 0) m.store (512 * (first + 0)) n;
        store = refl;
      }

  written-bytes : WrittenBytes n first buffer m (record { window = m.window; store = blocks m.store (512 * (first + 0)) m.window (buffer + 512 * 0) n })
  written-bytes =
      record {
        store = λ i k hi hk. blocks-byte m.store (512 * (first + 0)) m.window (buffer + 512 * 0) n (omega arith) (omega arith) _ _ (512 * i + k) (omega arith) (omega arith) (omega arith);
        other = λ x o. get_or-blocks_outside m.store (512 * (first + 0)) m.window (buffer + 512 * 0) n x (⊎_elim (λ y. inl (omega arith)) (λ y. inr (omega arith)) o);
        size = blocks-length m.store (512 * (first + 0)) m.window (buffer + 512 * 0) n;
        window = refl;
      }

-- ---- served alone

reading : (f : ℕ) → (f ≡ 0x02) ⊎ (f ≡ 0x42) → is_write f ≡ false
reading f (inl e) = rw e
reading f (inr e) = rw e

writing : (f : ℕ) → (f ≡ 0x03) ⊎ (f ≡ 0x43) → is_write f ≡ true
writing f (inl e) = rw e
writing f (inr e) = rw e

module _ (j : Job) (first k : ℕ) (m : Memory) (room : j.buffer + 512 * k ≤ length m.window) (inside : 512 * (first + k) ≤ length m.store) where
  moves_read : is_write (ah j.registers) ≡ false → ReadBytes k first j.buffer m (moves j first 0 k m)
  unfolding moves
  moves_read e = rw e (read-bytes k first j.buffer m room inside)

  moves-written : is_write (ah j.registers) ≡ true → WrittenBytes k first j.buffer m (moves j first 0 k m)
  unfolding moves
  moves-written e = rw e (written-bytes k first j.buffer m room inside)

-- a window keeps its length
moves-window : (j : Job) (first k : ℕ) (m : Memory) → length (moves j first 0 k m).window ≡ length m.window
unfolding moves
moves-window j first k m =
    pick-cases (λ (x : Memory). length x.window ≡ length m.window) (is_write (ah j.registers)) _ _ (λ e. refl)
    (λ e. blocks-length m.window (j.buffer + 512 * 0) m.store (512 * (first + 0)) k)

-- ---- the count word

module _ (w : List ℕ) (place n : ℕ) (room : place + 4 ≤ length w) (few : n < 256) where
  count_low : get_or (with_count w place n) (place + 2) 0 ≡ n
  unfolding le_bytes
  count_low =
      get_or-set_other (set w (place + 2) (n % 256)) (suc (place + 2)) (place + 2) (n / 256 % 256) 0 (λ e. omega arith)
      ∙ get_or-set_same w (place + 2) (n % 256) 0 (omega arith) ∙ omega arith

  count-high : get_or (with_count w place n) (place + 3) 0 ≡ 0
  unfolding le_bytes
  count-high =
      let at : suc (place + 2) ≡ place + 3 = omega arith in
      rw at (get_or-set_same (set w (place + 2) (n % 256)) (place + 3) (n / 256 % 256) 0 (omega (arith, length-set w (place + 2) (n % 256))) ∙ omega arith)

count-other : (w : List ℕ) (place n x : ℕ) → (x < place + 2) ⊎ (place + 4 ≤ x) → get_or (with_count w place n) x 0 ≡ get_or w x 0
unfolding le_bytes
count-other w place n x o =
    let apart : (y : ℕ) → place + 2 ≤ y → y < place + 4 → x ≡ y → ⊥ = λ y l h e. ⊎_elim (λ z. omega arith) (λ z. omega arith) o in
    get_or-set_other (set w (place + 2) (n % 256)) (suc (place + 2)) x (n / 256 % 256) 0 (apart (suc (place + 2)) (omega arith) (omega arith))
    ∙ get_or-set_other w (place + 2) x (n % 256) 0 (apart (place + 2) (omega arith) (omega arith))

count-written : (r : Registers) (k : ℕ) (m : Memory) → packet_place r + 4 ≤ length m.window → k < 256
    → CountBytes k r m (record { window = with_count m.window (packet_place r) k; store = m.store })
count-written r k m room few =
    record {
      low = count_low m.window (packet_place r) k room few;
      high = count-high m.window (packet_place r) k room few;
      other = count-other m.window (packet_place r) k;
      size = length-sets m.window (packet_place r + 2) (le_bytes 2 k);
      store = refl;
    }

-- ---- the end

-- functions with a packet, and without
packeted : (f : ℕ) → (f ≡ 0x42) ⊎ (f ≡ 0x43) → is_sectors f ≡ false
packeted f (inl e) = rw e
packeted f (inr e) = rw e

sectored : (f : ℕ) → (f ≡ 0x02) ⊎ (f ≡ 0x03) → is_sectors f ≡ true
sectored f (inl e) = rw e
sectored f (inr e) = rw e

module _ (j : Job) (k : ℕ) (m : Memory) where
  -- nothing is written where all blocks moved
  end-all : k ≡ j.count → ended_memory j k m ≡ m
  end-all e =
      let all : ltb k j.count ≡ false = le-ltb k j.count (omega arith) in
      rw all

  end-sectors : is_sectors (ah j.registers) ≡ true → ended_memory j k m ≡ m
  unfolding reported
  end-sectors e = pick-cases (λ (w : List ℕ). record { window = w; store = m.store } ≡ m) (ltb k j.count) _ _ (λ t. rw e) (λ t. refl)

  end-packet : is_sectors (ah j.registers) ≡ false → k < j.count → ended_memory j k m ≡ record { window = with_count m.window j.packet k; store = m.store }
  unfolding reported
  end-packet e h = rw (lt-ltb k j.count h, e)

module _ (b : Table) (r : Registers) (w : List ℕ) (j : Job) (a : Asks b r w j) (k : ℕ) (m : Memory) (same : length m.window ≡ length w) where
  job_sectors : (x : Bool) → is_sectors (ah r) ≡ x → is_sectors (ah j.registers) ≡ x
  job_sectors x h = ap (λ (y : Registers). is_sectors (ah y)) a.registers ∙ h

  count-bytes : is_sectors (ah r) ≡ false → k < j.count → CountBytes k r m (ended_memory j k m)
  count-bytes s h =
      let p = a.packet s in
      let few : k < 256 = omega (arith, a.few) in
      let room : packet_place r + 4 ≤ length m.window = omega (arith, p.1, same) in
      let is : ended_memory j k m ≡ record { window = with_count m.window (packet_place r) k; store = m.store }
      = end-packet j k m (job_sectors false s) h ∙ ap (λ (n : ℕ). record { window = with_count m.window n k; store = m.store }) p.0 in
      subst (CountBytes k r m) (sym is) (count-written r k m room few)

  after_data : AfterData j.count k r m (ended_memory j k m)
  after_data =
      record {
        all = end-all j k m;
        sectors = λ f. end-sectors j k m (job_sectors true (sectored (ah r) f));
        packet = λ f h. count-bytes (packeted (ah r) f) h;
      }

succeed_well : (r : Registers) → PostedWell r (succeed r)
succeed_well r = record { ax = omega arith; bx = refl; cx = refl; dx = refl; ds = refl; si = refl; es = refl; carry = refl }

posted_well : (n k : ℕ) (r : Registers) → k ≡ n → PostedWell r (ended n k (posted r))
unfolding ended
posted_well n k r e =
    let all : ltb k n ≡ false = le-ltb k n (omega arith) in
    rw all (succeed_well r)

-- halves of AX
high_half : (high low : ℕ) → low < 256 → (256 * high + low) / 256 ≡ high
high_half high low h = omega arith

low_half : (high low : ℕ) → low < 256 → (256 * high + low) % 256 ≡ low
low_half high low h = omega arith

posted-bad : (n k : ℕ) (r : Registers) → k < n → k < 256 → PostedBad k r (ended n k (posted r))
unfolding ended
posted-bad n k r h few =
    let low : pick (is_sectors (ah r)) k (al r) < 256 = pick-cases (λ (x : ℕ). x < 256) (is_sectors (ah r)) k (al r) (λ e. few) (λ e. omega arith) in
    let high = high_half (bad_code r) (pick (is_sectors (ah r)) k (al r)) low in
    rw (lt-ltb k n h)
    (record {
      read = λ f. high ∙ rw (reading (ah r) f);
      write = λ f. high ∙ rw (writing (ah r) f);
      al = low_half (bad_code r) (pick (is_sectors (ah r)) k (al r)) low;
      bx = refl;
      cx = refl;
      dx = refl;
      ds = refl;
      si = refl;
      es = refl;
      carry = refl;
    })

-- ---- served alone

alone-is : (t : List ℕ) (p : Placement) (r : Registers) (m : Memory) (j : Job) (b : Table) → b ≡ (read_table t (length m.store / 512)).table
    → (begin (fed b p) r m.window).outcome ≡ Waits j → served_to b j (good_of b j 0 j.count) m ≡ alone (fed t p) r m
unfolding alone
alone-is t p r m j b q e =
    sym (ap (λ (o : Outcome). finish b o (begin (fed b p) r m.window).window m) e)
    ∙ ap (λ (x : Table). finish x (begin (fed x p) r m.window).outcome (begin (fed x p) r m.window).window m) q

-- what holds of the job's numbers holds of those that were asked
module _ (b : Table) (r : Registers) (m : Memory) (j : Job) (a : Asks b r m.window j) (store : ℕ) (g : Good b store)
    (inside : 512 * (store_block b j + j.count) ≤ length m.store) where
  abbrev l : Bads
  l = bads_of b j.drive

  abbrev moved : ℕ
  moved = good_of b j 0 j.count

  few : moved ≤ j.count
  few = good-most l (j.start + 0) j.count

  abbrev laid : Memory
  laid = moves j (store_block b j) 0 moved m

  worn : (x : ℕ) → is_bad l (j.start + 0 + x) ≡ worn_block b r (asked_start b r m.window + x)
  worn x =
      ap (λ (n : ℕ). is_bad (bads_of b n) (j.start + 0 + x)) a.drive
      ∙ ap (λ (n : ℕ). is_bad (bads_of b (dl r)) (n + x)) (add-zero j.start ∙ a.start)
      ∙ listed_worn b r store (asked_start b r m.window + x) g a.known

  function : (x : Bool) → is_write (ah r) ≡ x → is_write (ah j.registers) ≡ x
  function x h = ap (λ (y : Registers). is_write (ah y)) a.registers ∙ h

  move_asked : (P : ℕ → ℕ → Type 0) → P (store_block b j) j.buffer → P (named_from b r m.window) (asked_buffer r m.window)
  move_asked P h = subst (P (named_from b r m.window)) a.buffer (subst (λ (x : ℕ). P x j.buffer) a.first h)

  job_bytes : AloneBytes b r m (served_to b j moved m)
  job_bytes =
      let room : j.buffer + 512 * moved ≤ length m.window = omega (arith, a.room, few) in
      let within : 512 * (store_block b j + moved) ≤ length m.store = omega (arith, inside, few) in
      record {
        some = subst (λ (n : ℕ). 0 < n) a.count a.some;
        room = rw (a.count, a.buffer) at a.room;
        packet_room = λ f. (a.packet (packeted (ah r) f)).1;
        inside = rw (a.count, a.first) at inside;
        function = a.function;
        k = moved;
        most = subst (λ (n : ℕ). moved ≤ n) a.count few;
        good = λ i h. sym (worn i) ∙ good_clean l (j.start + 0) j.count i h;
        bad = λ h. sym (worn moved) ∙ good_worn l (j.start + 0) j.count (subst (λ (n : ℕ). moved < n) (sym a.count) h);
        between = laid;
        reads = λ f. move_asked (λ first buffer. ReadBytes moved first buffer m laid) (moves_read j (store_block b j) moved m room within (function false (reading (ah r) f)));
        writes = λ f. move_asked (λ first buffer. WrittenBytes moved first buffer m laid) (moves-written j (store_block b j) moved m room within (function true (writing (ah r) f)));
        after = subst (λ (n : ℕ). AfterData n moved r laid (ended_memory j moved laid)) a.count
            (after_data b r m.window j a moved laid (moves-window j (store_block b j) moved m));
        whole = λ h. subst (λ (x : Registers). PostedWell r (ended j.count moved x)) (sym a.registers) (posted_well j.count moved r (h ∙ sym a.count));
        stopped = λ h. subst (λ (x : Registers). PostedBad moved r (ended j.count moved x)) (sym a.registers)
            (posted-bad j.count moved r (subst (λ (n : ℕ). moved < n) (sym a.count) h) (omega (arith, few, a.few)));
      }

pub alone-moves : AloneMoves
alone-moves t p r m j acc e =
    let b : Table = (read_table t (length m.store / 512)).table in
    let a : Asks b r m.window j = waits_asks b r m.window p j e in
    let g : Good b (length m.store / 512) = accepted-good t (length m.store / 512) acc in
    let low : store_block b j + j.count ≤ length m.store / 512 = waits-inside b r m.window j (length m.store / 512) g a in
    subst (AloneBytes b r m) (alone-is t p r m j b refl e) (job_bytes b r m j a (length m.store / 512) g (omega arith))

-- ---- 44h

module _ (b : Table) (r : Registers) (m : Memory) (store : ℕ) (g : Good b store) (f : ah r ≡ 0x44) where
  abbrev answered : Registers → List ℕ → Served
  answered x w = record { registers = x; memory = record { window = w; store = m.store } }

  -- what is said of an answer, whichever way it was given
  record Verifies (s : Served) : Type 0 where
    refused :
        s.registers.carry ≡ true → (s.registers.ax / 256 ≡ 0x01) ⊎ (s.registers.ax / 256 ≡ 0x04) ⊎ (s.registers.ax / 256 ≡ 0x10)
    stopped : s.registers.ax / 256 ≡ 0x10 → VerifiedTo b r m s
    whole : s.registers.carry ≡ false → VerifiedWhole b r m s

  -- it never waits
  abbrev Reports : Outcome → List ℕ → Type 0
  Reports (Answered x) w = Verifies (answered x w)
  Reports (Waits j) w = ⊥

  abbrev ReportsAll : Checked → Type 0
  ReportsAll k = Reports k.outcome k.window

  abbrev Carried : Plan → Type 0
  Carried p = ReportsAll (carry_out p r m.window)

  verify_sectors : is_sectors (ah r) ≡ false
  verify_sectors = rw f

  refused-high : (code : ℕ) → (refuse code r).ax / 256 ≡ code
  refused-high code = high_half code (pick (is_sectors (ah r)) 0 (al r)) (rw verify_sectors (omega arith))

  refusal_says : (code : ℕ) (w : List ℕ) → (code ≡ 0x01) ⊎ (code ≡ 0x04) → Verifies (answered (refuse code r) w)
  refusal_says code w o =
      record {
        refused = λ e. ⊎_elim (λ x. inl (refused-high code ∙ x)) (λ x. inr (inl (refused-high code ∙ x))) o;
        stopped = λ e. absurd (⊎_elim (λ x. omega (arith, refused-high code, e, x)) (λ x. omega (arith, refused-high code, e, x)) o);
        whole = λ e. true≢false true refl e;
      }

  abbrev asks : Packet
  asks = packet_at m.window (packet_place r)

  abbrev clean : ℕ
  clean = good (bads_of b (dl r)) asks.start asks.count

  module _ (d : is_drive b (dl r) ≡ true) (room : packet_place r + 16 ≤ length m.window) where
    worn_says : (x : ℕ) → is_bad (bads_of b (dl r)) x ≡ worn_block b r x
    worn_says x = listed_worn b r store x g d

    stopped-bad : PostedBad clean r (refuse 0x10 r)
    stopped-bad =
        record {
          read = λ o. refused-high 0x10;
          write = λ o. absurd (⊎_elim (λ x. omega (arith, f, x)) (λ x. omega (arith, f, x)) o);
          al = rw verify_sectors (omega arith);
          bx = refl;
          cx = refl;
          dx = refl;
          ds = refl;
          si = refl;
          es = refl;
          carry = refl;
        }

    abbrev Within : Type 0
    Within = asks.start + asks.count ≤ (drive_named b r).blocks

    stopped_says : Within → asks.count ≤ 127 → clean < asks.count → Verifies (answered (refuse 0x10 r) (with_count m.window (packet_place r) clean))
    unfolding packet_at
    stopped_says within most h =
        record {
          refused = λ e. inr (inr (refused-high 0x10));
          stopped = λ e.
              record {
                packet_room = room;
                inside = within;
                k = clean;
                fewer = h;
                good = λ i l. sym (worn_says _) ∙ good_clean (bads_of b (dl r)) asks.start asks.count i l;
                bad = sym (worn_says _) ∙ good_worn (bads_of b (dl r)) asks.start asks.count h;
                registers = stopped-bad;
                count = count-written r clean m (omega arith) (omega arith);
              };
          whole = λ e. true≢false true refl e;
        }

    whole_says : Within → clean ≡ asks.count → Verifies (answered (succeed r) m.window)
    unfolding packet_at
    whole_says within h =
        record {
          refused = λ e. true≢false true refl (sym e);
          stopped = λ e. absurd (omega (arith, e));
          whole = λ e.
              record {
                packet_room = room;
                inside = within;
                good = λ i l. sym (worn_says _) ∙ good_clean (bads_of b (dl r)) asks.start asks.count i (omega (arith, h, l));
                registers = succeed_well r;
                memory = refl;
              };
        }

    range_says : Within → asks.count ≤ 127 → Carried (verified clean asks.count)
    unfolding verified
    range_says within most =
        pick-cases Carried (ltb clean asks.count) _ _ (λ e. stopped_says within most (ltb-true clean asks.count e))
        (λ e. whole_says within (omega (arith, ltb-false clean asks.count e, good-most (bads_of b (dl r)) asks.start asks.count)))

    tests_say : Carried (packet_tests (drive_named b r) (bads_of b (dl r)) r (length m.window) asks)
    unfolding packet_tests
    tests_say =
        pick-cases Carried (ltb 127 asks.count) _ _ (λ e. refusal_says 0x01 _ (inl refl)) (λ e₁.
        pick-cases Carried (both (is_write (ah r)) (is_protected (drive_named b r))) _ _ (λ e. no_write e) (λ e₂.
        pick-cases Carried (ltb (drive_named b r).blocks (asks.start + asks.count)) _ _ (λ e. refusal_says 0x04 _ (inr refl)) (λ e₃.
        pick-cases Carried (eqb (ah r) 0x44) _ _
        (λ e. range_says (ltb-false (drive_named b r).blocks (asks.start + asks.count) e₃) (ltb-false 127 asks.count e₁))
        (λ e. true≢false (eqb (ah r) 0x44) (eq-eqb (ah r) 0x44 f) e))))
      where
        no_write : {A : Type 0} → both (is_write (ah r)) (is_protected (drive_named b r)) ≡ true → A
        no_write e = true≢false (is_write (ah r)) (both_true (is_write (ah r)) (is_protected (drive_named b r)) e).0 (rw f)

  plan_says : ReportsAll (extended (is_drive b (dl r)) (drive_named b r) (bads_of b (dl r)) r m.window)
  unfolding packet_plan read_packet
  plan_says =
      pick-cases Carried (not (is_drive b (dl r))) _ _ (λ e. refusal_says 0x01 _ (inl refl)) (λ e₁.
      pick-cases Carried (both (is_write (ah r)) (not (verify_ok (al r) (drive_named b r).flags))) _ _ (λ e. refusal_says 0x01 _ (inl refl)) (λ e₂.
      pick-cases (λ (p : Result Packet BadParameter). Carried (packet_read (drive_named b r) (bads_of b (dl r)) r (length m.window) p))
      (leb (packet_place r + 16) (length m.window)) _ _
      (λ e₃. pick-cases Carried (ltb asks.size 16) _ _ (λ e. refusal_says 0x01 _ (inl refl))
      (λ e₄. tests_say (not-false _ e₁) (leb-true (packet_place r + 16) (length m.window) e₃)))
      (λ e₃. refusal_says 0x01 _ (inl refl))))

  begin_says : (p : Placement) → ReportsAll (begin (fed b p) r m.window)
  unfolding begin
  begin_says p = subst ReportsAll (sym (steps_42_43_44 _ _ _ _ _ r m.window (sym f) refl)) plan_says

  verify_bytes : (p : Placement) (o : Outcome) (w : List ℕ) → (begin (fed b p) r m.window).outcome ≡ o → Reports o w
      → VerifyBytes b p r m (finish b o w m)
  verify_bytes p (Answered x) w e v = record { at_once = e; refused = v.refused; stopped = v.stopped; whole = v.whole }
  verify_bytes p (Waits j) w e v = absurd v

pub alone-verifies : AloneVerifies
unfolding alone
alone-verifies t p r m acc f =
    let b : Table = (read_table t (length m.store / 512)).table in
    let g : Good b (length m.store / 512) = accepted-good t (length m.store / 512) acc in
    verify_bytes b r m (length m.store / 512) g f p (begin (fed b p) r m.window).outcome (begin (fed b p) r m.window).window refl
    (begin_says b r m (length m.store / 512) g f p)
