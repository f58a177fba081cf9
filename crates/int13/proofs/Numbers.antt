-- No two answers have the same numbers: what a list of numbers says of an answer is the whole answer. And the steps answer with the numbers
-- that the paper's tests give, in its order.
-- Assumes nothing.
use Prim.Native.Nat.{ℕ, ◌+◌, ◌*◌}
use mathlib.Core.Path.{◌≡◌, refl, sym, ap, ◌∙◌}
use mathlib.Core.Bool.{Bool, true, false, not}
use mathlib.Core.List.{List, ◌∷◌}
use native.Mathlib.Omega.{arith}
use lib.ListN.{length, get_or, drop}
use lib.Dec.{leb, ltb, eqb}
use Rattle.logic.specs.Logic.{pick, both, either}
use Rattle.words.specs.Words.{le}
use Rattle.std.specs.Prelude.{Result, Ok, Err, Option, is_some}
use Rattle.chs.specs.declared.Outside.{Outside}
use Rattle.chs.specs.Chs.{in_limits, is_valid, block_of, address_in, number as block_number}
use Rattle.drive.specs.declared.Drive.{Drive}
use Rattle.drive.specs.Drive.{geometry_of, is_protected}
use Rattle.attached.specs.declared.Bads.{Bads}
use Rattle.attached.specs.Bad.{good}
use Rattle.table.specs.declared.Table.{Table}
use Rattle.layout.specs.declared.Packet.{Packet}
use Rattle.layout.specs.declared.BadParameter.{BadParameter}
use Rattle.layout.specs.Packet.{packet_at, read_packet}
use Rattle.layout.specs.ResultBuffer.{returned_size, result_answer}
use Rattle.int13.specs.declared.Registers.{Registers}
use Rattle.int13.specs.declared.Placement.{Placement}
use Rattle.int13.specs.declared.Outcome.{Outcome}
use Rattle.int13.specs.declared.Outcome.TheVariants.{Answered, Waits}
use Rattle.int13.specs.declared.Plan.{Plan}
use Rattle.int13.specs.Answers.{ah, al, dl, is_write, succeed, refuse, posted, register_numbers, outcome_numbers}
use Rattle.int13.specs.Steps.{Checked, fed, is_drive, drive_count, drive_named, bads_of, shown_of, verify_ok, verified, packet_tests, packet_read, packet_plan, carry_out, seek_read, seek, sector_run, sectors, geometry_given, parameters, extensions_given, extensions, result_given, result_into, steps, begin}
use Rattle.int13.specs.Numbers.{refused_numbers, done_numbers, waits_numbers, run_given, sectors_given, parameters_given, check_given, packet_tests_given, packet_numbers_at, extended_given, seek_given, buffer_given, steps_given, begin_given}
use Rattle.int13.proofs.PlacementLaws.{shown-table}

carry-apart : (a b : Bool) → ◌≡◌ {A = ℕ} (pick a 1 0) (pick b 1 0) → a ≡ b
carry-apart true true e = refl
carry-apart true false e = absurd (omega arith)
carry-apart false true e = absurd (omega arith)
carry-apart false false e = refl

-- equal lists have equal numbers at each place
number : {l m : List ℕ} (i : ℕ) → l ≡ m → get_or l i 0 ≡ get_or m i 0
number i e = ap (λ (x : List ℕ). get_or x i 0) e

pub registers-apart : (r s : Registers) → register_numbers r ≡ register_numbers s → r ≡ s
registers-apart r s e =
    let ax : r.ax ≡ s.ax = number 0 e in
    let bx : r.bx ≡ s.bx = number 1 e in
    let cx : r.cx ≡ s.cx = number 2 e in
    let dx : r.dx ≡ s.dx = number 3 e in
    let ds : r.ds ≡ s.ds = number 4 e in
    let si : r.si ≡ s.si = number 5 e in
    let es : r.es ≡ s.es = number 6 e in
    let carry : r.carry ≡ s.carry = carry-apart r.carry s.carry (number 7 e) in
    λ i. record { ax = ax i; bx = bx i; cx = cx i; dx = dx i; ds = ds i; si = si i; es = es i; carry = carry i }

pub outcome-apart : (a b : Outcome) → outcome_numbers a ≡ outcome_numbers b → a ≡ b
unfolding outcome_numbers
outcome-apart (Answered r) (Answered s) e = ap Answered (registers-apart r s (ap (drop 1) e))
outcome-apart (Answered r) (Waits k) e = let z : ◌≡◌ {A = ℕ} 0 256 = number 0 e in absurd (omega arith)
outcome-apart (Waits j) (Answered s) e = let z : ◌≡◌ {A = ℕ} 256 0 = number 0 e in absurd (omega arith)
outcome-apart (Waits j) (Waits k) e = ap Waits (same (registers-apart j.registers k.registers (ap (drop 6) e)))
  where
    same : j.registers ≡ k.registers → j ≡ k
    same registers =
        let drive : j.drive ≡ k.drive = number 1 e in
        let start : j.start ≡ k.start = number 2 e in
        let count : j.count ≡ k.count = number 3 e in
        let buffer : j.buffer ≡ k.buffer = number 4 e in
        let packet : j.packet ≡ k.packet = number 5 e in
        λ i. record { registers = registers i; drive = drive i; start = start i; count = count i; buffer = buffer i; packet = packet i }

-- ---- the numbers of the answers that the steps make

given : (r : Registers) → outcome_numbers (Answered r) ≡ 0 ∷ register_numbers r
unfolding outcome_numbers
given r = refl

refused : (code : ℕ) (r : Registers) → outcome_numbers (Answered (refuse code r)) ≡ refused_numbers code r
refused code r = given (refuse code r)

finished : (r : Registers) → outcome_numbers (Answered (succeed r)) ≡ done_numbers r
finished r = given (succeed r)

waits : (start count buffer packet : ℕ) (r : Registers)
    → outcome_numbers (Waits (record { registers = posted r; drive = dl r; start = start; count = count; buffer = buffer; packet = packet }))
    ≡ waits_numbers start count buffer packet r
unfolding outcome_numbers
waits start count buffer packet r = refl

-- numbers go through a test
through : {A : Type 0} (f : A → List ℕ) {x y : A} {l m : List ℕ} (t : Bool) → f x ≡ l → f y ≡ m → f (pick t x y) ≡ pick t l m
through f true a b = a
through f false a b = b

-- ---- the numbers of each function

run-numbers : (d : Drive) (r : Registers) (M n : ℕ) → outcome_numbers (sector_run d r M (Ok n)) ≡ run_given d r M n
run-numbers d r M n =
    through outcome_numbers (ltb (d.c * d.h * d.s) (n + al r)) (refused 0x04 r)
    (through outcome_numbers (ltb M (16 * r.es + r.bx + 512 * al r)) (refused 0x09 r) (waits n (al r) (16 * r.es + r.bx) 0 r))

sectors-numbers : (known : Bool) (d : Drive) (r : Registers) (M : ℕ) → outcome_numbers (sectors known d r M) ≡ sectors_given known d r M
unfolding sectors sectors_given block_of
sectors-numbers known d r M =
    through outcome_numbers (not known) (refused 0x01 r)
    (through outcome_numbers (eqb (al r) 0) (refused 0x01 r)
    (through outcome_numbers (ltb 128 (al r)) (refused 0x09 r)
    (through outcome_numbers (both (is_write (ah r)) (is_protected d)) (refused 0x03 r)
    (through (λ (x : Result ℕ Outside). outcome_numbers (sector_run d r M x)) (both (in_limits (geometry_of d)) (is_valid (geometry_of d) (address_in r.cx r.dx)))
    (run-numbers d r M (block_number (geometry_of d) (address_in r.cx r.dx))) (refused 0x04 r)))))

parameters-numbers : (known : Bool) (count : ℕ) (d : Drive) (r : Registers) → outcome_numbers (parameters known count d r) ≡ parameters_given known count d r
unfolding parameters parameters_given
parameters-numbers known count d r = through outcome_numbers known (given (geometry_given d count r)) (refused 0x07 r)

extensions-numbers : (known : Bool) (s : Option ℕ) (r : Registers) → outcome_numbers (extensions known s r) ≡ check_given known (is_some s) r
unfolding extensions check_given
extensions-numbers known s r = through outcome_numbers (both known (eqb r.bx 0x55AA)) (given (extensions_given s r)) (refused 0x01 r)

-- the numbers of a plan carried out
abbrev planned : Registers → List ℕ → Plan → List ℕ
planned r w p = outcome_numbers (carry_out p r w).outcome

tests_numbers : (d : Drive) (l : Bads) (r : Registers) (w : List ℕ) (M : ℕ) (p : Packet)
    → planned r w (packet_tests d l r M p) ≡ packet_tests_given d l r M p.count p.buffer p.start
unfolding packet_tests packet_tests_given verified
tests_numbers d l r w M p =
    through (planned r w) (ltb 127 p.count) (refused 0x01 r)
    (through (planned r w) (both (is_write (ah r)) (is_protected d)) (refused 0x03 r)
    (through (planned r w) (ltb d.blocks (p.start + p.count)) (refused 0x04 r)
    (through (planned r w) (eqb (ah r) 0x44) (through (planned r w) (ltb (good l p.start p.count) p.count) (refused 0x10 r) (finished r))
    (through (planned r w) (ltb M (p.buffer + 512 * p.count)) (refused 0x09 r)
    (through (planned r w) (eqb p.count 0) (finished r)
    (waits p.start p.count p.buffer (16 * r.ds + r.si) r))))))

packet-numbers : (d : Drive) (l : Bads) (r : Registers) (w : List ℕ) (place : ℕ)
    → planned r w (packet_read d l r (length w) (read_packet w place)) ≡ packet_numbers_at d l r w place
unfolding read_packet packet_at packet_numbers_at
packet-numbers d l r w place =
    through (λ (p : Result Packet BadParameter). planned r w (packet_read d l r (length w) p)) (leb (place + 16) (length w))
    (through (planned r w) (ltb (get_or w place 0) 16) (refused 0x01 r) (tests_numbers d l r w (length w) (packet_at w place))) (refused 0x01 r)

extended-numbers : (known : Bool) (d : Drive) (l : Bads) (r : Registers) (w : List ℕ) → planned r w (packet_plan known d l r w) ≡ extended_given known d l r w
unfolding packet_plan extended_given
extended-numbers known d l r w =
    through (planned r w) (not known) (refused 0x01 r)
    (through (planned r w) (both (is_write (ah r)) (not (verify_ok (al r) d.flags))) (refused 0x01 r) (packet-numbers d l r w (16 * r.ds + r.si)))

seek-numbers : (known : Bool) (d : Drive) (r : Registers) (w : List ℕ) → outcome_numbers (seek known d r w) ≡ seek_given known d r w
unfolding seek seek_given read_packet packet_at
seek-numbers known d r w =
    through outcome_numbers (not known) (refused 0x01 r)
    (through (λ (p : Result Packet BadParameter). outcome_numbers (seek_read d r p)) (leb (16 * r.ds + r.si + 16) (length w))
    (through outcome_numbers (ltb (get_or w (16 * r.ds + r.si) 0) 16) (refused 0x01 r)
    (through outcome_numbers (leb d.blocks (le 8 w (16 * r.ds + r.si + 8))) (refused 0x04 r) (finished r)))
    (refused 0x01 r))

-- the numbers of an answer with its window
abbrev checked : Checked → List ℕ
checked c = outcome_numbers c.outcome

result-numbers : (known : Bool) (d : Drive) (s : Option ℕ) (r : Registers) (w : List ℕ) → checked (result_into known d s r w) ≡ buffer_given known d r w
unfolding result_into buffer_given result_answer
result-numbers known d s r w =
    let asked = le 2 w (16 * r.ds + r.si) in
    through checked (not known) (refused 0x01 r)
    (through checked (ltb (length w) (16 * r.ds + r.si + 2)) (refused 0x01 r)
    (through (λ (x : Result ℕ BadParameter). outcome_numbers (result_given x r)) (both (leb 26 asked) (leb (returned_size d asked) (length (drop (16 * r.ds + r.si) w))))
    (finished r) (refused 0x01 r)))

steps-numbers : (known : Bool) (count : ℕ) (d : Drive) (l : Bads) (s : Option ℕ) (r : Registers) (w : List ℕ)
    → checked (steps known count d l s r w) ≡ steps_given known count d l (is_some s) r w
unfolding steps steps_given
steps-numbers known count d l s r w =
    through checked (either (eqb (ah r) 0x02) (eqb (ah r) 0x03)) (sectors-numbers known d r (length w))
    (through checked (eqb (ah r) 0x08) (parameters-numbers known count d r)
    (through checked (eqb (ah r) 0x41) (extensions-numbers known s r)
    (through checked (either (eqb (ah r) 0x42) (either (eqb (ah r) 0x43) (eqb (ah r) 0x44))) (extended-numbers known d l r w)
    (through checked (eqb (ah r) 0x47) (seek-numbers known d r w)
    (through checked (eqb (ah r) 0x48) (result-numbers known d s r w)
    (refused 0x01 r))))))

-- whoever answers with the definition answers with the paper's numbers

pub steps_answered : {o : Outcome} {v : List ℕ} {k : Checked} (known : Bool) (count : ℕ) (d : Drive) (l : Bads) (s : Option ℕ) (r : Registers) (w : List ℕ)
    → steps known count d l s r w ≡ k → o ≡ k.outcome → v ≡ k.window
    → (o ≡ (steps known count d l s r w).outcome) × (v ≡ (steps known count d l s r w).window) × (outcome_numbers o ≡ steps_given known count d l (is_some s) r w)
steps_answered known count d l s r w q e f =
    let outcome = e ∙ ap (λ (k : Checked). k.outcome) (sym q) in
    (outcome, f ∙ ap (λ (k : Checked). k.window) (sym q), ap outcome_numbers outcome ∙ steps-numbers known count d l s r w)

pub begin_answered : {o : Outcome} {v : List ℕ} (b : Table) (p : Placement) (r : Registers) (w : List ℕ) → o ≡ (begin (fed b p) r w).outcome
    → v ≡ (begin (fed b p) r w).window
    → (o ≡ (begin (fed b p) r w).outcome) × (v ≡ (begin (fed b p) r w).window) × (outcome_numbers o ≡ begin_given b p.placed r w)
unfolding begin begin_given
begin_answered b p r w e f =
    let known = is_drive b (dl r) in
    let d = drive_named b r in
    let l = bads_of b (dl r) in
    let numbers = steps-numbers known (drive_count b) d l (shown_of b p (dl r)) r w in
    (e, f, ap outcome_numbers e ∙ numbers ∙ ap (λ (t : Bool). steps_given known (drive_count b) d l t r w) (shown-table b p (dl r)))
