-- Laws of the steps' definitions.
-- Assumes nothing.
use mathlib.Core.Path.{◌≡◌, refl, sym, ap, ◌∙◌}
use mathlib.Core.Bool.{Bool, true, false, not}
use mathlib.Core.List.{List, ◌++◌, append-nil}
use mathlib.Core.Logic.{⊎_elim}
use Prim.Native.Nat.{ℕ, ◌+◌, ◌-◌, ◌%◌, ◌≤◌, ◌<◌}
use native.Mathlib.Omega.{arith}
use lib.ListN.{length, get_or, take, drop, length-take, length-drop, drop_of_length-le}
use lib.Seq.{take_all}
use lib.Dec.{leb, ltb, eqb}
use Rattle.std.proofs.Common.{tests, ◌≢◌}
use borrow.Author.Tests.{leb-true, leb-false, ltb-true, lt-ltb, le-ltb, eqb-true, ne_eqb}
use Rattle.logic.specs.Logic.{pick, both, either}
use Rattle.logic.proofs.LogicLaws.{both_true, either_true, impossible}
use Rattle.drive.specs.declared.Drive.{Drive}
use Rattle.attached.specs.declared.Bads.{Bads}
use Rattle.table.specs.declared.Table.{Table}
use Rattle.table.specs.Table.{no_drive}
use Rattle.std.specs.Prelude.{Ok, Err, Option}
use Rattle.layout.specs.Packet.{bad_parameter, packet_length, packet_at, read_packet}
use Rattle.int13.specs.declared.Registers.{Registers}
use Rattle.int13.specs.declared.Placement.{Placement}
use Rattle.int13.specs.declared.Outcome.TheVariants.{Answered}
use Rattle.int13.specs.declared.Plan.TheVariants.{Refuse, Clear}
use Rattle.int13.specs.Answers.{ah, al, dl, is_sectors, is_write, refuse}
use Rattle.int13.specs.Steps.{unchanged, fed, first_drive, drive_count, is_drive, drive_at, drive_in, drive_named, bads_of, shown_of, packet_place, verify_ok, packet_read, packet_plan, extended, seek, sectors, parameters, extensions, result_into, steps, begin}

-- ---- drives

-- a table's eight places hold at most eight drives
pub count_most : (b : Table) → length b.drives ≡ 8 → drive_count b ≤ 8
count_most b l = omega (arith, length-take b.count b.drives)

-- the number of a drive
pub is_drive_true : (b : Table) (n : ℕ) → is_drive b n ≡ true → (first_drive ≤ n) × (n < first_drive + drive_count b)
unfolding is_drive
is_drive_true b n e = let p = both_true _ _ e in (leb-true _ _ p.0, ltb-true _ _ p.1)

-- so that it is 128 and one of the eight slots
pub drive_slot : (b : Table) (n : ℕ) → length b.drives ≡ 8 → is_drive b n ≡ true → (128 ≤ n) × (n - 128 < 8)
drive_slot b n l e = let t = is_drive_true b n e in (omega arith, omega (arith, count_most b l))

-- a drive stands in the place of its number
pub drive-in : (b : Table) (n : ℕ) → length b.drives ≡ 8 → is_drive b n ≡ true → drive_in b n ≡ drive_at b n
drive-in b n l e =
    let t = is_drive_true b n e in
    let p : n % 8 ≡ n - 128 = omega (arith, count_most b l) in
    ap (λ (i : ℕ). get_or b.drives i no_drive) p

-- ---- 42h, 43h, 44h

-- the count word is set only where the whole packet is inside the window
pub plan_clear : (known : Bool) (d : Drive) (l : Bads) (r : Registers) (w : List ℕ) (code n : ℕ) → packet_plan known d l r w ≡ Clear code n
    → packet_place r + packet_length ≤ length w
unfolding packet_plan read_packet
plan_clear known d l r w code n h = by_tests known (both (is_write (ah r)) (not (verify_ok (al r) d.flags))) (leb (packet_place r + packet_length) (length w)) refl h
  where
    by_tests : (known verify inside : Bool) → leb (packet_place r + packet_length) (length w) ≡ inside
        → pick (not known) (Refuse bad_parameter) (pick verify (Refuse bad_parameter)
        (packet_read d l r (length w) (pick inside (Ok (packet_at w (packet_place r))) (Err (record {}))))) ≡ Clear code n
        → packet_place r + packet_length ≤ length w
    by_tests false verify inside e q = impossible (cc)
    by_tests true true inside e q = impossible (cc)
    by_tests true false false e q = impossible (cc)
    by_tests true false true e q = leb-true (packet_place r + packet_length) (length w) e

-- ---- every function by its number

-- the numbers from 02h to 03h, and from 42h to 44h
pub sectors_named : (f : ℕ) → 2 ≤ f → f < 4 → is_sectors f ≡ true
sectors_named f a b = grind (arith, tests)

pub extended_named : (f : ℕ) → 66 ≤ f → f < 69 → either (eqb f 0x42) (either (eqb f 0x43) (eqb f 0x44)) ≡ true
extended_named f a b = grind (arith, tests)

-- any other number
pub record Unnamed (f : ℕ) : Type 0 where
  pub sectors : 2 ≤ f → 4 ≤ f
  pub n08 : f ≢ 0x08
  pub n41 : f ≢ 0x41
  pub packet : 66 ≤ f → 69 ≤ f
  pub n47 : f ≢ 0x47
  pub n48 : f ≢ 0x48

module _ (known : Bool) (count : ℕ) (d : Drive) (l : Bads) (s : Option ℕ) (r : Registers) (w : List ℕ) {f : ℕ} (q : f ≡ ah r) where
  pub steps_02_03 : is_sectors f ≡ true → steps known count d l s r w ≡ unchanged w (sectors known d r (length w))
  unfolding steps
  steps_02_03 e = rw (← q, e)

  pub steps_08 : f ≡ 0x08 → steps known count d l s r w ≡ unchanged w (parameters known count d r)
  unfolding steps
  steps_08 e = rw (sym q ∙ e)

  pub steps_41 : f ≡ 0x41 → steps known count d l s r w ≡ unchanged w (extensions known s r)
  unfolding steps
  steps_41 e = rw (sym q ∙ e)

  pub steps_42_43_44 : either (eqb f 0x42) (either (eqb f 0x43) (eqb f 0x44)) ≡ true → steps known count d l s r w ≡ extended known d l r w
  unfolding steps
  steps_42_43_44 e =
      ⊎_elim (λ x. rw (sym q ∙ eqb-true f 0x42 x))
      (λ y. ⊎_elim (λ x. rw (sym q ∙ eqb-true f 0x43 x)) (λ x. rw (sym q ∙ eqb-true f 0x44 x)) (either_true (eqb f 0x43) (eqb f 0x44) y))
      (either_true (eqb f 0x42) (either (eqb f 0x43) (eqb f 0x44)) e)

  pub steps_47 : f ≡ 0x47 → steps known count d l s r w ≡ unchanged w (seek known d r w)
  unfolding steps
  steps_47 e = rw (sym q ∙ e)

  pub steps_48 : f ≡ 0x48 → steps known count d l s r w ≡ result_into known d s r w
  unfolding steps
  steps_48 e = rw (sym q ∙ e)

  pub steps-other : is_sectors f ≡ false → (f ≡ 0x08 → ⊥) → (f ≡ 0x41 → ⊥) → either (eqb f 0x42) (either (eqb f 0x43) (eqb f 0x44)) ≡ false
      → (f ≡ 0x47 → ⊥) → (f ≡ 0x48 → ⊥) → steps known count d l s r w ≡ unchanged w (Answered (refuse bad_parameter r))
  unfolding steps
  steps-other e₁ n₂ n₃ e₄ n₅ n₆ = rw (← q, e₁, ne_eqb f 0x08 n₂, ne_eqb f 0x41 n₃, e₄, ne_eqb f 0x47 n₅, ne_eqb f 0x48 n₆)

  pub steps-unnamed : Unnamed f → steps known count d l s r w ≡ unchanged w (Answered (refuse bad_parameter r))
  unfolding steps
  steps-unnamed u =
      rw (← q, ne_eqb f 0x02 (λ e. omega (arith, u.sectors (omega arith))), ne_eqb f 0x03 (λ e. omega (arith, u.sectors (omega arith))), ne_eqb f 0x08 u.n08, ne_eqb f 0x41 u.n41, ne_eqb f 0x42 (λ e. omega (arith, u.packet (omega arith))), ne_eqb f 0x43 (λ e. omega (arith, u.packet (omega arith))), ne_eqb f 0x44 (λ e. omega (arith, u.packet (omega arith))), ne_eqb f 0x47 u.n47, ne_eqb f 0x48 u.n48)

-- ---- the drive is not looked at where it is not known

pub steps-drive : (known : Bool) (count : ℕ) (d e : Drive) (l : Bads) (s : Option ℕ) (r : Registers) (w : List ℕ) → (known ≡ true → d ≡ e)
    → steps known count d l s r w ≡ steps known count e l s r w
unfolding steps sectors parameters extensions packet_plan seek result_into
steps-drive true count d e l s r w h = ap (λ (x : Drive). steps true count x l s r w) (h refl)
steps-drive false count d e l s r w h = refl

-- the steps over any drive that is the one which DL names, if it names one
pub begin-steps : {known : Bool} {count : ℕ} {d : Drive} {l : Bads} {s : Option ℕ} (b : Table) (p : Placement) (r : Registers) (w : List ℕ) → known ≡ is_drive b (dl r)
    → count ≡ drive_count b → (is_drive b (dl r) ≡ true → d ≡ drive_named b r) → l ≡ bads_of b (dl r) → s ≡ shown_of b p (dl r) → steps known count d l s r w ≡ begin (fed b p) r w
unfolding begin
begin-steps {known} {count} {d} {l} {s} b p r w k n h f e = steps-drive known count d (drive_named b r) l s r w (λ t. h (sym k ∙ t)) ∙ cc
