-- The steps of a post, by what the rest uses of them: an answer at once keeps the window's length, and a request that waits is acceptable and says
-- what its registers and its packet said.
-- Assumes nothing.
use Prim.Native.Nat.{ℕ, ◌+◌, ◌-◌, ◌*◌, ◌≤◌, ◌<◌, min}
use mathlib.Core.Path.{◌≡◌, refl, sym, ap, ◌∙◌}
use mathlib.Core.Bool.{Bool, true, false, not}
use mathlib.Core.List.{List, ◌++◌}
use native.Mathlib.Omega.{arith}
use lib.ListN.{length, take, drop, length-append, length-drop, length-take}
use lib.Seq.{length-sets}
use lib.Dec.{leb, ltb, eqb}
use borrow.Author.Tests.{leb-true, ltb-true, ltb-false, le-leb, eqb-false, not-false}
use Rattle.std.specs.Prelude.{Result, Ok, Err, Option}
use Rattle.logic.specs.Logic.{both, either}
use Rattle.logic.proofs.LogicLaws.{both_true, pick-cases}
use Rattle.words.specs.Words.{le, le_bytes}
use Rattle.chs.specs.declared.Outside.{Outside}
use Rattle.layout.specs.declared.BadParameter.{BadParameter}
use Rattle.chs.specs.Chs.{size, block_of, address_in}
use Rattle.drive.specs.Drive.{geometry_of, is_protected}
use Rattle.drive.proofs.DriveLaws.{Arrays}
use Rattle.attached.specs.Bad.{good}
use Rattle.table.specs.declared.Table.{Table}
use Rattle.layout.specs.declared.Packet.{Packet}
use Rattle.layout.specs.Packet.{packet_at, read_packet}
use Rattle.layout.specs.ResultBuffer.{result_answer, result_out}
use Rattle.layout.proofs.ResultBufferLaws.{length-out}
use Rattle.memory.specs.Blocks.{block_length}
use Rattle.int13.specs.declared.Registers.{Registers}
use Rattle.int13.specs.declared.Placement.{Placement}
use Rattle.int13.specs.declared.Job.{Job}
use Rattle.int13.specs.declared.Outcome.{Outcome}
use Rattle.int13.specs.declared.Outcome.TheVariants.{Answered, Waits}
use Rattle.int13.specs.declared.Plan.{Plan}
use Rattle.int13.specs.declared.Plan.TheVariants.{Clear}
use Rattle.int13.specs.Placement.{pointer_of}
use Rattle.int13.specs.Answers.{ah, al, dl, is_sectors, is_write, posted}
use Rattle.int13.specs.Steps.{Checked, is_drive, drive_at, drive_named, bads_of, packet_place, verify_ok, verified, packet_tests, packet_read, packet_plan, packet_job, carry_out, extended, seek_read, seek, sector_buffer, sector_job, sector_run, sectors, parameters, extensions, result_given, result_into, fed, drive_count, shown_of, steps, begin}
use Rattle.int13.specs.Alone.{asked, asked_start, named_from, store_block}
use Rattle.desk.specs.Acceptable.{job_ok}
use Rattle.table.proofs.Sound.{Obeys, Good, good-obeys}
use Rattle.drive.proofs.DriveLaws.{geometry_inside}

-- ---- the drive that a number names

pub record Known (b : Table) (store n : ℕ) : Type 0 where
  pub taken : Obeys (drive_at b n) store
  pub arrays : Arrays (drive_at b n)

pub known : (b : Table) (store n : ℕ) → Good b store → is_drive b n ≡ true → Known b store n
unfolding is_drive
known b store n g e =
    let p = both_true (leb 128 n) (ltb n (128 + length (take b.count b.drives))) e in
    let l : length (take b.count b.drives) ≡ min b.count 8 = length-take b.count b.drives ∙ ap (min b.count) g.eight in
    let h : n - 128 < b.count = omega (arith, leb-true 128 n p.0, ltb-true n (128 + length (take b.count b.drives)) p.1, l) in
    record { taken = good-obeys b store (n - 128) g.sound h; arrays = g.arrays (n - 128) h }

-- ---- a request as the steps make it

pub record Fresh (b : Table) (r : Registers) (w : List ℕ) (j : Job) : Type 0 where
  pub ok : job_ok b (length w) j ≡ true
  pub some : 0 < j.count
  pub registers : j.registers ≡ posted r
  pub drive : j.drive ≡ dl r
  pub start : j.start ≡ asked_start b r w
  pub count : j.count ≡ asked r w
  pub first : store_block b j ≡ named_from b r w

-- what an outcome says, with the window after it
abbrev pub Says : Table → Registers → List ℕ → Outcome → List ℕ → Type 0
Says b r w (Answered x) v = length v ≡ length w
Says b r w (Waits j) v = Fresh b r w j × (v ≡ w)

module _ (b : Table) (store : ℕ) (g : Good b store) (r : Registers) (w : List ℕ) where
  abbrev Stays : Outcome → Type 0
  Stays o = Says b r w o w

  abbrev After : Checked → Type 0
  After k = Says b r w k.outcome k.window

  -- ---- 02h, 03h

  sectors_wait : (n : ℕ) → is_sectors (ah r) ≡ true → is_drive b (dl r) ≡ true → eqb (al r) 0 ≡ false → ltb 128 (al r) ≡ false
      → both (is_write (ah r)) (is_protected (drive_named b r)) ≡ false
      → block_of (geometry_of (drive_named b r)) (address_in r.cx r.dx) ≡ Ok n
      → ltb (size (geometry_of (drive_named b r))) (n + al r) ≡ false → ltb (length w) (sector_buffer r + block_length * al r) ≡ false
      → Fresh b r w (sector_job r n)
  unfolding job_ok
  sectors_wait n s d z m p e i f =
      let k = known b store (dl r) g d in
      let y : n + al r ≤ size (geometry_of (drive_named b r)) = ltb-false (size (geometry_of (drive_named b r))) (n + al r) i in
      let x : n + al r ≤ (drive_named b r).blocks = omega (arith, y, geometry_inside (drive_named b r) k.taken.fields) in
      let ne : al r ≡ 0 → ⊥ = eqb-false (al r) 0 z in
      record {
        ok = rw (d, s, p, le-leb (al r) 128 (ltb-false 128 (al r) m), le-leb (n + al r) (drive_named b r).blocks x, le-leb (n + al r) (size (geometry_of (drive_named b r))) y, le-leb (sector_buffer r + block_length * al r) (length w) (ltb-false (length w) (sector_buffer r + block_length * al r) f));
        some = omega (arith, ne);
        registers = refl;
        drive = refl;
        start = rw (s, e);
        count = rw s;
        first = rw (s, e);
      }

  sectors_says : is_sectors (ah r) ≡ true → Stays (sectors (is_drive b (dl r)) (drive_named b r) r (length w))
  unfolding sectors
  sectors_says s =
      pick-cases Stays (not (is_drive b (dl r))) _ _ (λ e. refl) (λ e₁.
      pick-cases Stays (eqb (al r) 0) _ _ (λ e. refl) (λ e₂.
      pick-cases Stays (ltb 128 (al r)) _ _ (λ e. refl) (λ e₃.
      pick-cases Stays (both (is_write (ah r)) (is_protected (drive_named b r))) _ _ (λ e. refl) (λ e₄.
      run e₁ e₂ e₃ e₄ (block_of (geometry_of (drive_named b r)) (address_in r.cx r.dx)) refl))))
    where
      run : not (is_drive b (dl r)) ≡ false → eqb (al r) 0 ≡ false → ltb 128 (al r) ≡ false → both (is_write (ah r)) (is_protected (drive_named b r)) ≡ false
          → (x : Result ℕ Outside) → block_of (geometry_of (drive_named b r)) (address_in r.cx r.dx) ≡ x → Stays (sector_run (drive_named b r) r (length w) x)
      run e₁ e₂ e₃ e₄ (Err code) e = refl
      run e₁ e₂ e₃ e₄ (Ok n) e =
          pick-cases Stays (ltb (size (geometry_of (drive_named b r))) (n + al r)) _ _ (λ e. refl) (λ e₅.
          pick-cases Stays (ltb (length w) (sector_buffer r + block_length * al r)) _ _ (λ e. refl) (λ e₆.
          (sectors_wait n s (not-false _ e₁) e₂ e₃ e₄ e e₅ e₆, refl)))

  -- ---- 42h, 43h, 44h

  abbrev packet : Packet
  packet = packet_at w (packet_place r)

  abbrev Extended : Bool
  Extended = either (eqb (ah r) 0x42) (either (eqb (ah r) 0x43) (eqb (ah r) 0x44))

  -- a plan as it is carried out
  abbrev Plans : Plan → Type 0
  Plans p = Says b r w (carry_out p r w).outcome (carry_out p r w).window

  not_third : (x y z : Bool) → either x (either y z) ≡ true → z ≡ false → either x y ≡ true
  not_third true y z e f = refl
  not_third false true z e f = refl
  not_third false false z e f = sym f ∙ e

  packet_wait : is_sectors (ah r) ≡ false → Extended ≡ true → is_drive b (dl r) ≡ true → leb (packet_place r + 16) (length w) ≡ true
      → ltb 127 packet.count ≡ false → both (is_write (ah r)) (is_protected (drive_named b r)) ≡ false → ltb (drive_named b r).blocks (packet.start + packet.count) ≡ false
      → eqb (ah r) 0x44 ≡ false → ltb (length w) (packet.buffer + block_length * packet.count) ≡ false → eqb packet.count 0 ≡ false
      → Fresh b r w (packet_job r packet)
  unfolding job_ok packet_at
  packet_wait s x d i m p q f u z =
      let ne : packet.count ≡ 0 → ⊥ = eqb-false packet.count 0 z in
      let t : either (eqb (ah r) 0x42) (eqb (ah r) 0x43) ≡ true = not_third (eqb (ah r) 0x42) (eqb (ah r) 0x43) (eqb (ah r) 0x44) x f in
      record {
        ok = rw (d, s, t, p, i, le-leb packet.count 127 (ltb-false 127 packet.count m), le-leb (packet.start + packet.count) (drive_named b r).blocks (ltb-false (drive_named b r).blocks (packet.start + packet.count) q), le-leb (packet.buffer + block_length * packet.count) (length w) (ltb-false (length w) (packet.buffer + block_length * packet.count) u));
        some = omega (arith, ne);
        registers = refl;
        drive = refl;
        start = rw s;
        count = rw s;
        first = rw s;
      }

  clears : (code n : ℕ) → Plans (Clear code n)
  clears code n = length-sets w (packet_place r + 2) (le_bytes 2 n)

  packet_says : is_sectors (ah r) ≡ false → Extended ≡ true → is_drive b (dl r) ≡ true → leb (packet_place r + 16) (length w) ≡ true → Plans (packet_tests (drive_named b r) (bads_of b (dl r)) r (length w) packet)
  unfolding packet_tests verified
  packet_says s x d i =
      pick-cases Plans (ltb 127 packet.count) _ _ (λ e. clears 1 0) (λ e₁.
      pick-cases Plans (both (is_write (ah r)) (is_protected (drive_named b r))) _ _ (λ e. clears 3 0) (λ e₂.
      pick-cases Plans (ltb (drive_named b r).blocks (packet.start + packet.count)) _ _ (λ e. clears 4 0) (λ e₃.
      pick-cases Plans (eqb (ah r) 0x44) _ _
      (λ e. pick-cases Plans (ltb (good (bads_of b (dl r)) packet.start packet.count) packet.count) _ _ (λ e. clears 16 (good (bads_of b (dl r)) packet.start packet.count)) (λ e. refl)) (λ e₄.
      pick-cases Plans (ltb (length w) (packet.buffer + block_length * packet.count)) _ _ (λ e. clears 9 0) (λ e₅.
      pick-cases Plans (eqb packet.count 0) _ _ (λ e. refl) (λ e₆.
      (packet_wait s x d i e₁ e₂ e₃ e₄ e₅ e₆, refl)))))))

  extended_says : is_sectors (ah r) ≡ false → Extended ≡ true → After (extended (is_drive b (dl r)) (drive_named b r) (bads_of b (dl r)) r w)
  unfolding packet_plan read_packet
  extended_says s x =
      pick-cases Plans (not (is_drive b (dl r))) _ _ (λ e. refl) (λ e₁.
      pick-cases Plans (both (is_write (ah r)) (not (verify_ok (al r) (drive_named b r).flags))) _ _ (λ e. refl) (λ e₂.
      pick-cases (λ (p : Result Packet BadParameter). Plans (packet_read (drive_named b r) (bads_of b (dl r)) r (length w) p)) (leb (packet_place r + 16) (length w)) _ _
      (λ e₃. pick-cases Plans (ltb packet.size 16) _ _ (λ e. refl) (λ e₄. packet_says s x (not-false _ e₁) e₃))
      (λ e₃. refl)))

  -- ---- the others never wait

  seek_says : Stays (seek (is_drive b (dl r)) (drive_named b r) r w)
  unfolding seek
  seek_says = pick-cases Stays (not (is_drive b (dl r))) _ _ (λ e. refl) (λ e. by_packet (read_packet w (packet_place r)))
    where
      by_packet : (p : Result Packet BadParameter) → Stays (seek_read (drive_named b r) r p)
      by_packet (Err e) = refl
      by_packet (Ok p) = pick-cases Stays (ltb p.size 16) _ _ (λ e. refl) (λ e. pick-cases Stays (leb (drive_named b r).blocks p.start) _ _ (λ e. refl) (λ e. refl))

  parameters_says : Stays (parameters (is_drive b (dl r)) (drive_count b) (drive_named b r) r)
  unfolding parameters
  parameters_says = pick-cases Stays (is_drive b (dl r)) _ _ (λ e. refl) (λ e. refl)

  extensions_says : (s : Option ℕ) → Stays (extensions (is_drive b (dl r)) s r)
  unfolding extensions
  extensions_says s = pick-cases Stays (both (is_drive b (dl r)) (eqb r.bx 0x55AA)) _ _ (λ e. refl) (λ e. refl)

  result_says : (s : Option ℕ) → After (result_into (is_drive b (dl r)) (drive_named b r) s r w)
  unfolding result_into
  result_says s =
      pick-cases After (not (is_drive b (dl r))) _ _ (λ e. refl) (λ e₁.
      pick-cases After (ltb (length w) (packet_place r + 2)) _ _ (λ e. refl) (λ e₂.
      by_answer (result_answer (drive_named b r) (le 2 w (packet_place r)) (length (drop (packet_place r) w))) (whole (not-false _ e₁) e₂)))
    where
      place : ℕ
      place = packet_place r

      whole : is_drive b (dl r) ≡ true → ltb (length w) (place + 2) ≡ false → length (take place w ++ result_out (drive_named b r) (pointer_of s) (le 2 w place) (drop place w)) ≡ length w
      whole d e =
          let l : place + 2 ≤ length w = ltb-false (length w) (place + 2) e in
          let n : length (result_out (drive_named b r) (pointer_of s) (le 2 w place) (drop place w)) ≡ length w - place
          = length-out (drive_named b r) (pointer_of s) (le 2 w place) (drop place w) (known b store (dl r) g d).arrays ∙ length-drop place w in
          length-append (take place w) (result_out (drive_named b r) (pointer_of s) (le 2 w place) (drop place w)) ∙ omega (arith, l, n, length-take place w)

      by_answer : (x : Result ℕ BadParameter) → length (take place w ++ result_out (drive_named b r) (pointer_of s) (le 2 w place) (drop place w)) ≡ length w
          → Says b r w (result_given x r) (take place w ++ result_out (drive_named b r) (pointer_of s) (le 2 w place) (drop place w))
      by_answer (Err code) e = e
      by_answer (Ok n) e = e

  -- ---- every function

  pub check_says : (p : Placement) → After (begin (fed b p) r w)
  unfolding begin steps
  check_says p =
      pick-cases After (either (eqb (ah r) 0x02) (eqb (ah r) 0x03)) _ _ (λ e. sectors_says e) (λ e₁.
      pick-cases After (eqb (ah r) 0x08) _ _ (λ e. parameters_says) (λ e₂.
      pick-cases After (eqb (ah r) 0x41) _ _ (λ e. extensions_says (shown_of b p (dl r))) (λ e₃.
      pick-cases After Extended _ _ (λ e. extended_says e₁ e) (λ e₄.
      pick-cases After (eqb (ah r) 0x47) _ _ (λ e. seek_says) (λ e₅.
      pick-cases After (eqb (ah r) 0x48) _ _ (λ e. result_says (shown_of b p (dl r))) (λ e₆.
      refl))))))
