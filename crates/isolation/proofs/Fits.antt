-- Every desk that the calls reach fits the widths of its fields.
-- Assumes nothing.
use Prim.Native.Nat.{ℕ, zero, suc, ◌+◌, ◌-◌, ◌*◌, ◌/◌, ◌^◌, ◌≤◌, ◌<◌}
use mathlib.Core.Path.{◌≡◌, refl, sym, ap, subst, ◌∙◌}
use mathlib.Core.Bool.{Bool, true, false}
use mathlib.Core.List.{List, [], ◌∷◌}
use native.Mathlib.Omega.{arith}
use native.Mathlib.Decide.{ℕ_discrete}
use lib.ListN.{length, get_or, set, replicate, length-set, length-take, get_or-replicate}
use lib.Seq.{sets, get_or-set_same, get_or-set_other, length-sets}
use lib.Dec.{leb, ltb, eqb}
use borrow.Author.Tests.{leb-true, ltb-true, eqb-true}
use Rattle.std.specs.Prelude.{Ok, Err, Some, None}
use Rattle.logic.specs.Logic.{pick}
use Rattle.logic.proofs.LogicLaws.{both_true, pick-cases, impossible}
use Rattle.words.specs.Words.{Bytes, le, part}
use Rattle.words.proofs.WordsLaws.{bytes-part}
use Rattle.drive.specs.declared.Drive.{Drive}
use Rattle.drive.specs.Drive.{drive_of, tail_of, drive_length}
use Rattle.drive.proofs.DriveLaws.{fits-drive}
use Rattle.attached.specs.declared.Bads.{Bads}
use Rattle.attached.specs.Parameters.{number_in, parameters_in}
use Rattle.attached.specs.Bad.{bad_count, bad_length_ok, bads_in}
use Rattle.attached.proofs.BadLaws.{bad_length_ok_true, bad_length_ok-most, bads_stored}
use Rattle.table.specs.declared.Table.{Table}
use Rattle.table.specs.declared.Stepped.{Stepped}
use Rattle.table.specs.Table.{no_drive, zero_drive, empty_table, more, with_parameters, with_bads, go_on, read_from, most_records, read_table, drives_of}
use Rattle.table.proofs.TableLaws.{step_at-cases, drive-bytes, whole_at, length_whole, length_ok-bad, refusal-room}
use Rattle.memory.specs.Window.{guests}
use Rattle.memory.specs.Blocks.{block_length}
use Rattle.int13.specs.declared.Registers.{Registers}
use Rattle.int13.specs.Answers.{ah, al, is_sectors, is_write, succeed, stop, bad_code, ended, posted}
use Rattle.int13.specs.Steps.{is_drive, drive_at}
use Rattle.desk.specs.declared.Request.{Request}
use Rattle.desk.specs.declared.Stage.{Stage}
use Rattle.desk.specs.declared.Stage.TheVariants.{Vacant, Waiting}
use Rattle.desk.specs.declared.Desk.{Desk}
use Rattle.desk.specs.Parts.{window_size, stage_at, with_stage, with_pointer, next, with_placement}
use Rattle.desk.specs.Acceptable.{packet_ok, stage_ok}
use Rattle.desk.specs.Calls.{OpenAnswer, open_of, later, goes_on, stage_after}
use Rattle.desk.proofs.AcceptableLaws.{waits_facts}
use Rattle.image.specs.Image.{FitsRegisters, FitsRequest, FitsStage, FitsDrive, FitsTable, FitsDesk}
use Rattle.isolation.specs.Lists.{Op, open_table, post, turn, collect, withdraw, write, place, Call, Answer, opening, unopened, posted as posted_to, turned, collected, withdrawn, written, placed, Out, opened_desk, step_of, step}
use Rattle.isolation.specs.Words.{opens, kind_of}
use Rattle.isolation.specs.DeskBlocks.{FitsOp}
use Rattle.isolation.proofs.Endings.{now}
use Rattle.isolation.proofs.Accept.{Inv, opened-desk, all-vacant, waits}
use Rattle.isolation.proofs.View.{Did, same, idle, answer, accepting, serving, giving, withdrawing, placing, view}
use Rattle.isolation.proofs.Keep.{stage_same, stage_other, inv_did}

-- ---- the drives that are read

zeros : (n : ℕ) → Bytes (replicate n 0)
zeros zero i = omega arith
zeros (suc n) zero = omega arith
zeros (suc n) (suc i) = zeros n i

fits-record : (r : List ℕ) → Bytes r → length r ≡ drive_length (le 2 r 2) → FitsDrive (drive_of r)
unfolding drive_of tail_of
fits-record r b l =
    record {
      numbers = fits-drive r b l;
      s = b 38;
      protection = b 39;
      bus = bytes-part 4 r 40 b;
      interface = bytes-part 8 r 44 b;
      path = bytes-part 8 r 52 b;
      device = bytes-part 8 r 60 b;
      tail = pick-cases Bytes (eqb (le 2 r 2) 2) (part 8 r 68) (replicate 8 0) (λ e. bytes-part 8 r 68 b) (λ e. zeros 8);
    }

-- a number below n set among such numbers, and bytes set among bytes
below_set : (n : ℕ) (l : List ℕ) (g x : ℕ) → ((i : ℕ) → get_or l i 0 < n) → x < n → (i : ℕ) → get_or (set l g x) i 0 < n
below_set n [] g x f h i = f i
below_set n (y ∷ l) zero x f h zero = h
below_set n (y ∷ l) zero x f h (suc i) = f (suc i)
below_set n (y ∷ l) (suc g) x f h zero = f zero
below_set n (y ∷ l) (suc g) x f h (suc i) = below_set n l g x (λ j. f (suc j)) h i

bytes-sets : (p l : List ℕ) (g : ℕ) → Bytes l → Bytes p → Bytes (sets l g p)
bytes-sets [] l g y z = y
bytes-sets (x ∷ p) l g y z = bytes-sets p (set l g x) (suc g) (below_set 256 l g x y (z zero)) (λ i. z (suc i))

fits-zero : FitsDrive zero_drive
fits-zero =
    record {
      numbers = record {
        cylinders = omega arith;
        heads = omega arith;
        sectors = omega arith;
        blocks = omega arith;
        first = omega arith;
        flags = omega arith;
        c = omega arith;
        h = omega arith;
        bus = refl;
        interface = refl;
        path = refl;
        device = refl;
        kind = omega arith;
        tail = refl;
      };
      s = omega arith;
      protection = omega arith;
      bus = zeros 4;
      interface = zeros 8;
      path = zeros 8;
      device = zeros 8;
      tail = zeros 8;
    }

-- ---- the table

fits_empty : FitsTable empty_table
fits_empty =
    record {
      eight = refl;
      each = λ i h. rw (get_or-replicate 8 i zero_drive no_drive h) fits-zero;
      count = omega arith;
      present = refl;
      parameters = refl;
      bytes = zeros 112;
      counts = refl;
      few_bads = zeros 8;
      bad = refl;
      lists = zeros 1024;
    }

fits_more : (b : Table) (d : Drive) → FitsTable b → FitsDrive d → b.count < 8 → FitsTable (more b d)
fits_more b d f e room =
    record {
      eight = length-set b.drives b.count d ∙ f.eight;
      each = λ i h. at i h (ℕ_discrete i b.count);
      count = omega arith;
      present = f.present;
      parameters = f.parameters;
      bytes = f.bytes;
      counts = f.counts;
      few_bads = f.few_bads;
      bad = f.bad;
      lists = f.lists;
    }
  where
    at : (i : ℕ) → i < 8 → Dec (i ≡ b.count) → FitsDrive (get_or (set b.drives b.count d) i no_drive)
    at i h (yes x) = rw (x, get_or-set_same b.drives b.count d no_drive (omega (arith, f.eight))) e
    at i h (no x) = rw (get_or-set_other b.drives b.count i d no_drive x) (f.each i h)

-- a drive's fourteen bytes among those of the others
fits_attached : (b : Table) (i : ℕ) (p : List ℕ) → FitsTable b → Bytes p → FitsTable (with_parameters b i p)
fits_attached b i p f y =
    record {
      eight = f.eight;
      each = f.each;
      count = f.count;
      present = length-set b.present i true ∙ f.present;
      parameters = length-sets b.parameters (14 * i) p ∙ f.parameters;
      bytes = bytes-sets p b.parameters (14 * i) f.bytes y;
      counts = f.counts;
      few_bads = f.few_bads;
      bad = f.bad;
      lists = f.lists;
    }

-- a drive's bad blocks among those of the others
fits_bads : (b : Table) (i : ℕ) (l : Bads) → FitsTable b → l.count < 256 → Bytes l.list → FitsTable (with_bads b i l)
fits_bads b i l f n y =
    record {
      eight = f.eight;
      each = f.each;
      count = f.count;
      present = f.present;
      parameters = f.parameters;
      bytes = f.bytes;
      counts = length-set b.counts i l.count ∙ f.counts;
      few_bads = below_set 256 b.counts i l.count f.few_bads n;
      bad = length-sets b.bad (128 * i) l.list ∙ f.bad;
      lists = bytes-sets l.list b.bad (128 * i) f.lists y;
    }

-- of a record of bytes with a length that there is
record_bads : (b : Table) (r : List ℕ) (n : ℕ) → FitsTable b → Bytes r → length r ≡ n → bad_length_ok n ≡ true → FitsTable (with_bads b (number_in r) (bads_in r))
record_bads b r n f y l e =
    let most : length r ≤ 134 = omega (arith, bad_length_ok-most n e) in
    let few : bad_count (length r) < 256 = omega (arith, (bad_length_ok_true n e).1, ap bad_count l) in
    subst (λ (x : Bads). FitsTable (with_bads b (number_in r) x)) (bads_stored r most refl refl)
    (fits_bads b (number_in r) (record { count = bad_count (length r); list = sets (replicate 128 0) 0 (part (length r - 6) r 6) }) f few
    (bytes-sets (part (length r - 6) r 6) (replicate 128 0) 0 (zeros 128) (bytes-part (length r - 6) r 6 y)))

fits_from : (k : ℕ) (t : List ℕ) (store at : ℕ) (b : Table) → Bytes t → FitsTable b → FitsTable (read_from k t store at b).table
unfolding read_from
fits_from zero t store at b y f = f
fits_from (suc k) t store at b y f =
    step_at-cases (λ (x : Stepped). FitsTable (go_on x.step x.table (read_from k t store)).table) t at b store
    (λ n p. f)
    (λ h l. f)
    (λ n h z.
    fits_from k t store (at + n) (more b (drive_of (part n t at))) y
    (fits_more b (drive_of (part n t at)) f (fits-record (part n t at) (bytes-part n t at y) (drive-bytes h).whole) (refusal-room b.count b.drives (drive_of (part n t at)) store z)))
    (λ n h z.
    fits_from k t store (at + n) (with_bads b (number_in (part n t at)) (bads_in (part n t at))) y
    (record_bads b (part n t at) n f (bytes-part n t at y) (length_whole t at 3 n h) (length_ok-bad 3 n (whole_at t at 3 n h).right refl)))
    (λ h z.
    fits_from k t store (at + 20) (with_parameters b (number_in (part 20 t at)) (parameters_in (part 20 t at))) y
    (fits_attached b (number_in (part 20 t at)) (parameters_in (part 20 t at)) f (bytes-part 14 (part 20 t at) 6 (bytes-part 20 t at y))))

fits_read : (t : List ℕ) (store : ℕ) → Bytes t → FitsTable (read_table t store).table
unfolding read_table
fits_read t store y = fits_from most_records t store 0 empty_table y fits_empty

-- ---- an opening that passed

pub fits-opened : (t : List ℕ) (arena store : ℕ) → Bytes t → arena < 256 ^ 8 → store < 256 ^ 8 → (open_of t arena store).answer ≡ Ok tt → FitsDesk (open_of t arena store).desk
unfolding FitsStage
fits-opened t arena store y a s e =
    subst FitsDesk (sym (opened-desk t arena store e))
    (record {
      eight = refl;
      each = λ g h. subst FitsStage (sym (all-vacant g)) tt;
      table = fits_read t (store / block_length) y;
      pointer = omega arith;
      arena = a;
      store = s;
      placed = refl;
      addresses = refl;
      address = λ g. omega (arith, zeros 8 g);
    })

-- ---- rows

-- a waiting row that is acceptable: its numbers are below those of its drive, its window and its function
packet-fits : (f at M : ℕ) → packet_ok f at M ≡ true → at ≤ M
packet-fits f at M e = by_function (is_sectors f) e
  where
    by_function : (x : Bool) → pick x (eqb at 0) (leb (at + 16) M) ≡ true → at ≤ M
    by_function true e = let z : at ≡ 0 = eqb-true at 0 e in omega arith
    by_function false e = let l : at + 16 ≤ M = leb-true (at + 16) M e in omega arith

fits-request : (b : Table) (M : ℕ) (q : Request) → FitsTable b → M < 256 ^ 8 → FitsRegisters q.job.registers → stage_ok b M (Waiting q) ≡ true → FitsRequest q
unfolding is_drive
fits-request b M q f m r e =
    let w = waits_facts b M q e in
    let p = both_true (leb 128 q.job.drive) (ltb q.job.drive (128 + length (drives_of b))) w.job.drive in
    let high : q.job.drive < 128 + length (drives_of b) = ltb-true q.job.drive (128 + length (drives_of b)) p.1 in
    let most : length (drives_of b) ≤ 8 = omega (arith, length-take b.count b.drives, f.eight) in
    let blocks : (drive_at b q.job.drive).blocks < 256 ^ 8 = (f.each (q.job.drive - 128) (omega arith)).numbers.blocks in
    record {
      registers = r;
      drive = omega (arith, high, most);
      start = omega (arith, w.job.range, blocks);
      count = omega (arith, w.job.count);
      buffer = omega (arith, w.job.buffer, m);
      packet = omega (arith, packet-fits (ah q.job.registers) q.job.packet M w.job.packet, m);
      moved = omega (arith, w.moved, w.job.count);
    }

fits-posted : (r : Registers) → FitsRegisters r → FitsRegisters (posted r)
fits-posted r f = record { ax = f.ax; bx = f.bx; cx = f.cx; dx = f.dx; ds = f.ds; si = f.si; es = f.es }

fits-succeed : (r : Registers) → FitsRegisters r → FitsRegisters (succeed r)
fits-succeed r f = record { ax = omega arith; bx = f.bx; cx = f.cx; dx = f.dx; ds = f.ds; si = f.si; es = f.es }

-- after some blocks, AL gives them or stays
fits-stop : (code moved : ℕ) (r : Registers) → FitsRegisters r → code < 256 → moved < 256 → FitsRegisters (stop code moved r)
fits-stop code moved r f c m =
    let low : pick (is_sectors (ah r)) moved (al r) < 256 = pick-cases (λ (n : ℕ). n < 256) (is_sectors (ah r)) _ _ (λ e. m) (λ e. omega arith) in
    record { ax = omega (arith, low, c); bx = f.bx; cx = f.cx; dx = f.dx; ds = f.ds; si = f.si; es = f.es }

-- a request of n blocks that ends, all moved or not
fits-ended : (n moved : ℕ) (r : Registers) → FitsRegisters r → n ≤ 128 → FitsRegisters (ended n moved r)
unfolding ended
fits-ended n moved r f h =
    pick-cases FitsRegisters (ltb moved n) _ _
    (λ e. let m : moved < n = ltb-true moved n e in
    fits-stop (bad_code r) moved r f (pick-cases (λ (c : ℕ). c < 256) (is_write (ah r)) _ _ (λ e. omega arith) (λ e. omega arith)) (omega arith))
    (λ e. fits-succeed r f)

-- the row after a turn that moved k blocks
fits_after : (b : Table) (M : ℕ) (q : Request) (k : ℕ) → FitsTable b → M < 256 ^ 8 → FitsRegisters q.job.registers → q.job.count ≤ 128
    → stage_ok b M (stage_after q k) ≡ true → FitsStage (stage_after q k)
unfolding stage_after FitsStage
fits_after b M q k f m r n =
    pick-cases (λ (s : Stage). stage_ok b M s ≡ true → FitsStage s) (goes_on q k) _ _
    (λ x e. fits-request b M (later q k) f m r e)
    (λ x e. fits-ended q.job.count (q.moved + k) q.job.registers r n)

fits-set : (d : Desk) (g : ℕ) (s : Stage) (p : ℕ) → Inv d → FitsDesk d → g < guests → p < guests → FitsStage s → FitsDesk (with_pointer (with_stage d g s) p)
fits-set d g s p inv f b pb k =
    record {
      eight = length-set d.rows g (record { stage = s }) ∙ f.eight;
      each = λ h l. go h l (ℕ_discrete h g);
      table = f.table;
      pointer = omega arith;
      arena = f.arena;
      store = f.store;
      placed = f.placed;
      addresses = f.addresses;
      address = f.address;
    }
  where
    go : (h : ℕ) → h < 8 → Dec (h ≡ g) → FitsStage (stage_at (with_stage d g s) h)
    go h l (yes y) = rw y (subst FitsStage (sym (stage_same d g s inv b)) k)
    go h l (no y) = subst FitsStage (sym (stage_other d g h s y)) (f.each h l)

-- a guest's mark and address
fits-place : (d : Desk) (g address : ℕ) → FitsDesk d → address < 256 ^ 8 → FitsDesk (with_placement d g address)
fits-place d g address f a =
    record {
      eight = f.eight;
      each = f.each;
      table = f.table;
      pointer = f.pointer;
      arena = f.arena;
      store = f.store;
      placed = length-set d.placed g true ∙ f.placed;
      addresses = length-set d.addresses g address ∙ f.addresses;
      address = below_set (256 ^ 8) d.addresses g address f.address a;
    }

-- the registers of a row that waits
fits_waiting : (d : Desk) (g : ℕ) (q : Request) → FitsDesk d → g < guests → stage_at d g ≡ Waiting q → FitsRegisters q.job.registers
unfolding FitsStage
fits_waiting d g q f b v = (subst FitsStage v (f.each g b)).registers

-- a row's new stage is acceptable where the desk with it is
ok_set : (d : Desk) (g : ℕ) (s : Stage) (p : ℕ) → Inv d → g < guests → Inv (with_pointer (with_stage d g s) p) → stage_ok d.table (window_size d) s ≡ true
ok_set d g s p inv b i = ap (stage_ok d.table (window_size d)) (sym (stage_same d g s inv b)) ∙ i.stages g

window-fits : (d : Desk) → FitsDesk d → window_size d < 256 ^ 8
window-fits d f = omega (arith, f.arena)

-- ---- one call

fits_did : (d : Desk) (c : Call) (o : Out) → Inv d → FitsDesk d → FitsOp c.op → Did d c o → Inv o.desk → FitsDesk o.desk
unfolding FitsStage
fits_did d c o inv f t (same x p n) i = f
fits_did d c o inv f t (idle e n) i = f
fits_did d c o inv f t (answer g r x w e b l v ko kw k) i = f
fits_did d c o inv f t (accepting g r j e b l v ko kw u) i =
    let q : Request = record { job = j; moved = 0 } in
    let k : FitsRegisters j.registers = subst FitsRegisters (sym u.registers) (fits-posted r (subst FitsOp e t)) in
    fits-set d g (Waiting q) d.pointer inv f b inv.pointer
    (fits-request d.table (window_size d) q f.table (window-fits d f) k (ok_set d g (Waiting q) d.pointer inv b i))
fits_did d c o inv f t (serving g q e b l v n) i =
    let k : ℕ = now d.table q in
    fits-set d g (stage_after q k) (next g) inv f b i.pointer
    (fits_after d.table (window_size d) q k f.table (window-fits d f) (fits_waiting d g q f b v) (omega (arith, (waits d g q inv v).job.count))
    (ok_set d g (stage_after q k) (next g) inv b i))
fits_did d c o inv f t (giving g x e b v) i = fits-set d g Vacant d.pointer inv f b inv.pointer tt
fits_did d c o inv f t (withdrawing g q e b l v) i = fits-set d g Vacant d.pointer inv f b inv.pointer tt
fits_did d c o inv f t (placing g address e b l v k) i = fits-place d g address f (subst FitsOp e t)

-- an answer is that of an opening that passed, or none such
pub by_opening : {A : Type 0} (x : Answer) → (x ≡ opening (Ok tt) → A) → ((kind_of x ≡ opens → ⊥) → A) → A
by_opening (opening (Ok u)) f g = f refl
by_opening (opening (Err x)) f g = g (λ e. impossible cc)
by_opening unopened f g = g (λ e. impossible cc)
by_opening (posted_to h (Ok (Some r))) f g = g (λ e. impossible cc)
by_opening (posted_to h (Ok None)) f g = g (λ e. impossible cc)
by_opening (posted_to h (Err n)) f g = g (λ e. impossible cc)
by_opening (turned (Ok (Some s))) f g = g (λ e. impossible cc)
by_opening (turned (Ok None)) f g = g (λ e. impossible cc)
by_opening (turned (Err n)) f g = g (λ e. impossible cc)
by_opening (collected h (Ok r)) f g = g (λ e. impossible cc)
by_opening (collected h (Err n)) f g = g (λ e. impossible cc)
by_opening (withdrawn h (Ok r)) f g = g (λ e. impossible cc)
by_opening (withdrawn h (Err n)) f g = g (λ e. impossible cc)
by_opening (written (Ok n) out) f g = g (λ e. impossible cc)
by_opening (written (Err n) out) f g = g (λ e. impossible cc)
by_opening (placed h address (Ok u)) f g = g (λ e. impossible cc)
by_opening (placed h address (Err n)) f g = g (λ e. impossible cc)

-- a call that is answered as an opening that passed leaves the desk of that opening
pub opening_case : (P : Desk → Type 0) (d : Desk) (o : Op) (arena store : List ℕ)
    → ((t : List ℕ) (a s : ℕ) → o ≡ open_table t a s → (open_of t a s).answer ≡ Ok tt → P (open_of t a s).desk)
    → (step_of d o arena store).answer ≡ opening (Ok tt) → P (step_of d o arena store).desk
opening_case P d (open_table t a s) arena store f e =
    let x : (open_of t a s).answer ≡ Ok tt = cc in
    subst (λ (y : OpenAnswer). P (opened_desk d (open_of t a s).desk y)) (sym x) (f t a s refl x)
opening_case P d (post g r) arena store f e = impossible cc
opening_case P d turn arena store f e = impossible cc
opening_case P d (collect g) arena store f e = impossible cc
opening_case P d (withdraw g) arena store f e = impossible cc
opening_case P d (write out) arena store f e = impossible cc
opening_case P d (place g address) arena store f e = impossible cc

-- every call leaves a desk that fits
pub fits-step : (d : Desk) → Inv d → FitsDesk d → (c : Call) → FitsOp c.op → FitsDesk (step d c).desk
unfolding step
fits-step d inv f c t =
    by_opening (step d c).answer
    (opening_case FitsDesk d c.op c.arena c.store (λ t' a s o. let k = subst FitsOp o t in fits-opened t' a s k.0 k.1 k.2))
    (λ n. let v = view d inv c n in fits_did d c (step d c) inv f t v (inv_did d c (step d c) inv v))
