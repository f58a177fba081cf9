-- Demand 2 of the 48h result: its bytes by offset.
-- Assumes nothing.
use mathlib.Core.Path.{◌≡◌, refl, sym, ap, ◌∙◌}
use mathlib.Core.List.{List, [], ◌∷◌, ◌++◌, append_assoc}
use mathlib.Core.Bool.{Bool, true, false}
use Prim.Native.Nat.{ℕ, zero, suc, ◌+◌, ◌-◌, ◌*◌, ◌/◌, ◌%◌, ◌^◌, ◌≤◌, ◌<◌}
use native.Mathlib.Nat.{mod-lt}
use native.Mathlib.Omega.{arith}
use lib.ListN.{length, get_or, take, drop, length-append}
use lib.Seq.{take_all, take_at, drop_at, drop-drop, get_or-take, get_or-drop}
use lib.Dec.{eqb, leb, ltb}
use borrow.Author.Tests.{eq-eqb, ne_eqb, eqb-true, eqb-false, leb-true, le-leb, lt-leb, lt-ltb, le-ltb}
use Rattle.logic.specs.Logic.{pick, both}
use Rattle.logic.proofs.LogicLaws.{both_true, impossible}
use Rattle.words.specs.Words.{le, le_bytes, part}
use Rattle.words.proofs.WordsLaws.{read-write}
use Rattle.memory.specs.Blocks.{block_length}
use Rattle.drive.specs.declared.Drive.{Drive}
use Rattle.drive.specs.Drive.{Fits, is_i2o}
use Rattle.drive.proofs.DriveLaws.{Arrays}
use Rattle.layout.specs.declared.Pointer.{Pointer}
use Rattle.std.specs.Prelude.{Result, Ok, Err}
use Rattle.layout.specs.declared.BadParameter.{BadParameter}
use Rattle.layout.specs.ResultBuffer.{least_size, pointer_size, path_size, wide_size, returned_size, flags_shown, path_key, parameter_bytes, block_bytes, interface_bytes, path_bytes, padded_byte, padded, wide_interface_bytes, wide_path_bytes, sum, checksum, checked, summed_bytes, whole_result, result_bytes, result_answer, result_numbers, written}
use Rattle.layout.specs.Demand2.{FlagBits, Parameters, Shown, Pointing, Paths, FitsPointer, EveryAnswer, Demand2}
use Rattle.layout.proofs.ResultBufferLaws.{sum-checked, length-padded, padded_at, whole_size, length_whole, length_result, size_by, length-out}

-- ---- the information flags

-- of a flag word, by the test of bit 2
module _ (f : ℕ) where
  abbrev shown : Bool → ℕ
  shown t = pick t f (f % 16 + f / 128 * 128)

  bits_by : (t : Bool) → eqb (f / 4 % 2) 1 ≡ t → FlagBits f (shown t)
  bits_by true e =
      let removable = eqb-true (f / 4 % 2) 1 e in
      record { bits_0_to_3 = refl; bits_4_to_6_fixed = λ h. absurd (omega arith); bits_4_to_6_removable = λ h. refl; bits_7_to_15 = refl }
  bits_by false e = record {
    bits_0_to_3 = omega arith;
    bits_4_to_6_fixed = λ h. omega arith;
    bits_4_to_6_removable = λ h. absurd (eqb-false (f / 4 % 2) 1 e h);
    bits_7_to_15 = omega arith;
  }

  fits_by : (t : Bool) → f < 256 ^ 2 → shown t < 256 ^ 2
  fits_by true h = h
  fits_by false h = omega arith

flag_bits : (d : Drive) → FlagBits d.flags (flags_shown d)
flag_bits d = bits_by d.flags (eqb (d.flags / 4 % 2) 1) refl

-- a word is its bits
joined : (x : ℕ) → x ≡ x % 16 + 16 * (x / 16 % 8) + 128 * (x / 128)
joined x = omega arith

-- no other word has these bits
pub one_word : (f a b : ℕ) → FlagBits f a → FlagBits f b → a ≡ b
one_word f a b x y =
    let low : a % 16 ≡ b % 16 = x.bits_0_to_3 ∙ sym y.bits_0_to_3 in
    let middle : a / 16 % 8 ≡ b / 16 % 8 = by_bit (f / 4 % 2) (mod-lt (f / 4) (omega arith)) refl in
    let high : a / 128 ≡ b / 128 = x.bits_7_to_15 ∙ sym y.bits_7_to_15 in
    joined a ∙ rw (low, middle, high) (sym (joined b))
  where
    by_bit : (t : ℕ) → t < 2 → f / 4 % 2 ≡ t → a / 16 % 8 ≡ b / 16 % 8
    by_bit zero h e = x.bits_4_to_6_fixed e ∙ sym (y.bits_4_to_6_fixed e)
    by_bit (suc zero) h e = x.bits_4_to_6_removable e ∙ sym (y.bits_4_to_6_removable e)
    by_bit (suc (suc t)) h e = absurd (omega arith)

flags_fit : (d : Drive) → d.flags < 256 ^ 2 → flags_shown d < 256 ^ 2
flags_fit d = fits_by d.flags (eqb (d.flags / 4 % 2) 1)

-- ---- the runs, each before any bytes

parameters : (d : Drive) (n : ℕ) (rest : List ℕ) → Fits d → n < 256 ^ 2
    → Parameters d n (parameter_bytes d n ++ (le_bytes 8 d.blocks ++ (le_bytes 2 block_length ++ rest)))
unfolding parameter_bytes le_bytes le
parameters d n rest f h = record {
  at_0 = read-write 2 n h;
  at_2 = rw (read-write 2 (flags_shown d) (flags_fit d f.flags)) (flag_bits d);
  at_4 = read-write 4 d.cylinders f.cylinders;
  at_8 = read-write 4 d.heads f.heads;
  at_12 = read-write 4 d.sectors f.sectors;
  at_16 = read-write 8 d.blocks f.blocks;
  at_24 = refl;
}

pointing : (d : Drive) (p : Pointer) (n : ℕ) (rest : List ℕ) → FitsPointer p → Pointing p (parameter_bytes d n ++ (block_bytes d p ++ rest))
unfolding parameter_bytes block_bytes le_bytes le
pointing d p n rest f = record { at_26 = read-write 2 p.offset f.offset; at_28 = read-write 2 p.segment f.segment }

-- ---- what stands from 30 on

-- what is summed, by its parts: the length byte, the two names, the paths, and what there is of the device path behind its eighth byte
abbrev parts : Drive → ℕ → List ℕ → List ℕ → List ℕ → List ℕ
parts d long bus interface tail =
    (le_bytes 2 path_key ++ (long ∷ 0 ∷ 0 ∷ 0 ∷ (bus ++ interface))) ++ (d.path ++ (d.device ++ (tail ++ (0 ∷ []))))

-- a run at a place of r, and the place behind it
next : {a b : List ℕ} (r : List ℕ) (i k : ℕ) → drop i r ≡ a ++ b → length a ≡ k → (part k r i ≡ a) × (drop (i + k) r ≡ b)
next {a} {b} r i k e l = (ap (take k) e ∙ take_at a b k l, sym (drop-drop k i r) ∙ ap (drop k) e ∙ drop_at a b k l)

-- a byte of a run that stands at a place of r
byte : {a : List ℕ} (r : List ℕ) (at k i : ℕ) → part k r at ≡ a → i < k → get_or a i 0 ≡ get_or r (at + i) 0
byte r at k i e h = ap (λ (l : List ℕ). get_or l i 0) (sym e) ∙ get_or-take k (drop at r) i 0 h ∙ get_or-drop at r i 0

module _ (d : Drive) (p : Pointer) (n long : ℕ) (bus interface tail rest : List ℕ) where
  abbrev in_place : List ℕ
  in_place = (parameter_bytes d n ++ (block_bytes d p ++ checked (parts d long bus interface tail))) ++ rest

  from_30 : drop 30 in_place ≡ checked (parts d long bus interface tail) ++ rest
  unfolding parameter_bytes block_bytes le_bytes
  from_30 = refl

  from_36 : drop 36 in_place ≡ bus ++ (interface ++ (d.path ++ (d.device ++ (tail ++ (0 ∷ checksum (parts d long bus interface tail) ∷ rest)))))
  unfolding parameter_bytes block_bytes le_bytes
  from_36 = simp append_assoc

  key : (le 2 in_place 30 ≡ 0xBEDD) × (get_or in_place 32 0 ≡ long) × (part 3 in_place 33 ≡ 0 ∷ 0 ∷ 0 ∷ [])
  unfolding parameter_bytes block_bytes le_bytes le
  key = (refl, refl, refl)

  -- with a name of four bytes, one of eight, and a tail of m
  by_parts : (m : ℕ) → Arrays d → n ≡ 66 + m → long ≡ n - 30 → length bus ≡ 4 → length interface ≡ 8 → length tail ≡ m
      → ((i : ℕ) → i < 4 → Shown n (get_or d.bus i 0) (get_or bus i 0)) → ((i : ℕ) → i < 8 → Shown n (get_or d.interface i 0) (get_or interface i 0))
      → (n ≡ 74 → tail ≡ d.tail) → Paths d n in_place
  unfolding le_bytes
  by_parts m f e el lb li lt sb si wide =
      let bus_at = next {a = bus} in_place 36 4 from_36 lb in
      let interface_at = next {a = interface} in_place 40 8 bus_at.1 li in
      let path = next {a = d.path} in_place 48 8 interface_at.1 f.path in
      let device = next {a = d.device} in_place 56 8 path.1 f.device in
      let tail_at = next {a = tail} in_place 64 m device.1 lt in
      let s : List ℕ = parts d long bus interface tail in
      let l : length (checked s) ≡ n - 30 = simp (length-append, lb, li, lt, f.path, f.device) (omega arith) in
      let y : part (n - 30) in_place 30 ≡ checked s = ap (take (n - 30)) from_30 ∙ take_at (checked s) rest (n - 30) l in
      let last : n - 2 ≡ 64 + m + 0 = omega arith in
      record {
        at_30 = key.0;
        at_32 = key.1 ∙ el;
        at_33 = key.2;
        at_36 = λ i h. rw (byte {a = bus} in_place 36 4 i bus_at.0 h) at (sb i h);
        at_40 = λ i h. rw (byte {a = interface} in_place 40 8 i interface_at.0 h) at (si i h);
        at_48 = path.0;
        at_56 = device.0;
        at_64 = λ h. let eight : 8 ≡ m = omega arith in ap (λ (k : ℕ). part k in_place 64) eight ∙ tail_at.0 ∙ wide h;
        zero = ap (λ (k : ℕ). get_or in_place k 0) last ∙ sym (get_or-drop (64 + m) in_place 0 0) ∙ ap (λ (x : List ℕ). get_or x 0 0) tail_at.1;
        sums = ap (λ (x : List ℕ). sum x % 256) y ∙ sum-checked s;
      }

-- a byte of a name in 66 bytes, and in 74
shown_66 : (x : ℕ) → Shown 66 x x
shown_66 x = record { narrow = λ h. refl; wide = λ h. absurd (omega arith); blank = λ h. absurd (omega arith) }

shown_74 : (x : ℕ) → Shown 74 x (padded_byte x)
shown_74 x = record {
  narrow = λ h. absurd (omega arith);
  wide = λ h k. rw (ne_eqb x 0 (λ e. omega arith));
  blank = λ h e. rw (eq-eqb x 0 e);
}

padded-shown : (name : List ℕ) (i : ℕ) → i < length name → Shown 74 (get_or name i 0) (get_or (padded name) i 0)
padded-shown name i h = rw (padded_at name i h) (shown_74 (get_or name i 0))

paths_66 : (d : Drive) (p : Pointer) (rest : List ℕ) → Arrays d → Paths d 66 (whole_result d p 66 ++ rest)
unfolding whole_result summed_bytes interface_bytes path_bytes
paths_66 d p rest f =
    by_parts d p 66 0x24 d.bus d.interface [] rest 0 f refl refl f.bus f.interface refl
    (λ i h. shown_66 (get_or d.bus i 0)) (λ i h. shown_66 (get_or d.interface i 0)) (λ h. absurd (omega arith))

paths_74 : (d : Drive) (p : Pointer) (rest : List ℕ) → Arrays d → Paths d 74 (whole_result d p 74 ++ rest)
unfolding whole_result summed_bytes wide_interface_bytes wide_path_bytes
paths_74 d p rest f =
    by_parts d p 74 0x2C (padded d.bus) (padded d.interface) d.tail rest 8 f refl refl
    (length-padded d.bus ∙ f.bus) (length-padded d.interface ∙ f.interface) f.tail
    (λ i h. padded-shown d.bus i (omega (arith, f.bus))) (λ i h. padded-shown d.interface i (omega (arith, f.interface))) (λ h. refl)

-- ---- the four sizes

abbrev arrays : {d : Drive} → Fits d → Arrays d
arrays f = record { bus = f.bus; interface = f.interface; path = f.path; device = f.device; tail = f.tail }

-- the layout and the rest, of the bytes after an answer of n bytes
pub record Laid (d : Drive) (p : Pointer) (n : ℕ) (before r : List ℕ) : Type 0 where
  pub parameters : Parameters d n r
  pub pointing : 30 ≤ n → Pointing p r
  pub paths : 66 ≤ n → Paths d n r
  pub past : drop n r ≡ drop n before

module _ (d : Drive) (p : Pointer) (before : List ℕ) (f : Fits d) (g : FitsPointer p) where
  past : (n : ℕ) → n ≤ whole_size n → drop n (result_bytes d p n ++ drop n before) ≡ drop n before
  past n h = drop_at (result_bytes d p n) (drop n before) n (length_result d p n (arrays f) h)

  laid_26 : Laid d p 26 before (result_bytes d p 26 ++ drop 26 before)
  unfolding result_bytes whole_result parameter_bytes block_bytes le_bytes
  laid_26 = record {
    parameters = parameters d 26 (drop 26 before) f (omega arith);
    pointing = λ h. absurd (omega arith);
    paths = λ h. absurd (omega arith);
    past = past 26 (omega arith);
  }

  laid_30 : Laid d p 30 before (result_bytes d p 30 ++ drop 30 before)
  unfolding result_bytes whole_result parameter_bytes block_bytes le_bytes
  laid_30 = record {
    parameters = parameters d 30 (le_bytes 2 p.offset ++ (le_bytes 2 p.segment ++ drop 30 before)) f (omega arith);
    pointing = λ h. pointing d p 30 (drop 30 before) g;
    paths = λ h. absurd (omega arith);
    past = past 30 (omega arith);
  }

  -- bytes 0 to 29 before those from 30 on
  front : (n : ℕ) (rest : List ℕ) → n < 256 ^ 2 → Parameters d n (whole_result d p n ++ rest) × Pointing p (whole_result d p n ++ rest)
  unfolding whole_result parameter_bytes block_bytes le_bytes
  front n rest h =
      let path : List ℕ = checked (summed_bytes d n) in (
        parameters d n (le_bytes 2 p.offset ++ (le_bytes 2 p.segment ++ (path ++ rest))) f h,
        pointing d p n (path ++ rest) g,
      )

  -- a result of all its bytes
  laid-whole : (n : ℕ) → whole_size n ≡ n → n < 256 ^ 2 → Paths d n (whole_result d p n ++ drop n before)
      → Laid d p n before (result_bytes d p n ++ drop n before)
  unfolding result_bytes
  laid-whole n e h y =
      let all : result_bytes d p n ≡ whole_result d p n = take_all n (whole_result d p n) (omega (arith, length_whole d p n (arrays f))) in
      let x = front n (drop n before) h in
      rw all (record { parameters = x.0; pointing = λ k. x.1; paths = λ k. y; past = rw all at (past n (omega arith)) })

  laid : (n : ℕ) (a b c i : Bool) → n ≡ size_by a b c i → Laid d p n before (result_bytes d p n ++ drop n before)
  laid n true b c i e = rw e laid_26
  laid n false true c i e = rw e laid_30
  laid n false false true true e = rw e laid_30
  laid n false false true false e = rw e (laid-whole 66 refl (omega arith) (paths_66 d p (drop 66 before) (arrays f)))
  laid n false false false i e = rw e (laid-whole 74 refl (omega arith) (paths_74 d p (drop 74 before) (arrays f)))

-- ---- the answer

-- what an answer of n bytes says of the sizes
pub record Sized (d : Drive) (asked n room : ℕ) : Type 0 where
  pub least : 26 ≤ asked
  pub returned : n ≡ returned_size d asked
  pub inside : n ≤ room

sized : (d : Drive) (asked n room : ℕ) → result_answer d asked room ≡ Ok n → Sized d asked n room
unfolding result_answer
sized d asked n room = by_test (both (leb least_size asked) (leb (returned_size d asked) room)) refl
  where
    by_test : (t : Bool) → both (leb least_size asked) (leb (returned_size d asked) room) ≡ t
        → pick {A = Result ℕ BadParameter} t (Ok (returned_size d asked)) (Err (record {})) ≡ Ok n → Sized d asked n room
    by_test true t e =
        let b = both_true (leb least_size asked) (leb (returned_size d asked) room) t in
        let same : n ≡ returned_size d asked = cc in
        record { least = leb-true least_size asked b.0; returned = same; inside = rw same (leb-true (returned_size d asked) room b.1) }
    by_test false t e = impossible (cc)

-- the returned size by the tests
pub record Sizes (d : Drive) (asked n : ℕ) : Type 0 where
  pub from_26 : asked ≤ 29 → n ≡ 26
  pub from_30 : 30 ≤ asked → asked ≤ 65 → n ≡ 30
  pub from_66 : 66 ≤ asked → asked ≤ 73 → is_i2o d ≡ false → n ≡ 66
  pub from_66_I2O : 66 ≤ asked → asked ≤ 73 → is_i2o d ≡ true → n ≡ 30
  pub from_74 : 74 ≤ asked → n ≡ 74

returned : (d : Drive) (asked n : ℕ) → n ≡ returned_size d asked → Sizes d asked n
unfolding returned_size
returned d asked n e = record {
  from_26 = λ h. let t = lt-ltb asked 30 (omega arith) in e ∙ rw t;
  from_30 = λ h k. let t = le-ltb asked 30 h in let u = lt-ltb asked 66 (omega arith) in e ∙ rw (t, u);
  from_66 = λ h k i. e ∙ rw (t h, u h, v k, i);
  from_66_I2O = λ h k i. e ∙ rw (t h, u h, v k, i);
  from_74 = λ h. let v = le-ltb asked 74 h in e ∙ rw (t (omega arith), u (omega arith), v);
}
  where
    t : 66 ≤ asked → ltb asked 30 ≡ false
    t h = le-ltb asked 30 (omega arith)

    u : 66 ≤ asked → ltb asked 66 ≡ false
    u h = le-ltb asked 66 h

    v : asked ≤ 73 → ltb asked 74 ≡ true
    v h = lt-ltb asked 74 (omega arith)

pub demand2 : Demand2
unfolding returned_size
demand2 d p asked n before f g e =
    let s = sized d asked n (length before) e in
    let z = returned d asked n s.returned in
    let w = laid d p before f g n (ltb asked pointer_size) (ltb asked path_size) (ltb asked wide_size) (is_i2o d) s.returned in
    rw e (record {
      least = s.least;
      from_26 = z.from_26;
      from_30 = z.from_30;
      from_66 = z.from_66;
      from_66_I2O = z.from_66_I2O;
      from_74 = z.from_74;
      inside = s.inside;
      lengths = rw e at (length-out d p asked before (arrays f));
      parameters = w.parameters;
      pointing = w.pointing;
      paths = w.paths;
      past = w.past;
    })

-- ---- which answers write

thirty : (d : Drive) (asked : ℕ) → is_i2o d ≡ true → 66 ≤ asked → asked ≤ 73 → returned_size d asked ≡ returned_size d 30
unfolding returned_size
thirty d asked i l m = rw (le-ltb asked 30 (omega arith), le-ltb asked 66 l, lt-ltb asked 74 (omega arith), i)

answer_thirty : (d : Drive) (asked room : ℕ) → is_i2o d ≡ true → 66 ≤ asked → asked ≤ 73 → result_answer d asked room ≡ result_answer d 30 room
unfolding result_answer
answer_thirty d asked room i l m = rw (le-leb 26 asked (omega arith), thirty d asked i l m)

none : (t u : Bool) (a b : Result ℕ BadParameter) → u ≡ false → pick (both t u) a b ≡ b
none true u a b e = rw e
none false u a b e = refl

refused : result_numbers (Err (record {})) ≡ 0x01 ∷ []
unfolding result_numbers
refused = refl

pub every-answer : EveryAnswer
unfolding result_answer
every-answer d p asked before =
    record {
      small = λ l. ap result_numbers (rw (lt-leb 26 asked l)) ∙ refused;
      room = λ l m. rw (le-leb 26 asked l, le-leb (returned_size d asked) (length before) m);
      no_room = λ l. ap result_numbers (none (leb 26 asked) (leb (returned_size d asked) (length before)) (Ok (returned_size d asked)) (Err (record {})) (lt-leb (returned_size d asked) (length before) l)) ∙ refused;
      as_30 = λ i l m.
          let e = answer_thirty d asked (length before) i l m in
          (e, ap (λ (x : Result ℕ BadParameter). written d p x before) e);
    }
