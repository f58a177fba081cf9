-- What a guest finds in its window once its tables are placed: proves `specs/Placed.antt`.
-- Assumes nothing.
use Prim.Native.Nat.{ℕ, zero, suc, ◌+◌, ◌-◌, ◌*◌, ◌/◌, ◌%◌, ◌≤◌, ◌<◌}
use native.Mathlib.Nat.{add-zero}
use native.Mathlib.Omega.{arith}
use native.Mathlib.Decide.{ℕ_discrete}
use mathlib.Core.Path.{◌≡◌, refl, sym, ap, ◌∙◌}
use mathlib.Core.Logic.{◌⊎◌, inl, inr, ⊎_elim}
use mathlib.Core.Bool.{Bool, true, false, not}
use mathlib.Core.List.{List, [], ◌++◌, append_assoc, append-nil}
use lib.ListN.{length, get_or, drop, length-append}
use lib.Seq.{sets, length-sets, get_or-set_same, get_or-take, get_or-drop}
use lib.Dec.{ltb}
use borrow.Author.Tests.{ltb-true, eqb-true, not-false}
use Rattle.logic.specs.Logic.{pick}
use Rattle.logic.proofs.LogicLaws.{impossible, both_true, pick-cases}
use Rattle.words.specs.Words.{part}
use Rattle.words.proofs.WordsLaws.{sets-append}
use Rattle.memory.specs.Window.{span_length, window_of, with_window}
use Rattle.memory.proofs.Sets.{part-sets-before, part-sets-after, part-sets-same}
use Rattle.memory.proofs.WindowLaws.{length-window, span_in, window_with_same}
use Rattle.table.specs.declared.Table.{Table}
use Rattle.table.specs.Table.{has_parameters, parameters_at, parameters_to}
use Rattle.layout.specs.ParameterTable.{parameter_table}
use Rattle.int13.specs.declared.Placement.{Placement}
use Rattle.int13.specs.Placement.{tables_to, tables_of, table_count, table_address, placed_at, shown_in, pointer_of, not_shown}
use Rattle.int13.specs.Steps.{is_drive, shown_of}
use Rattle.int13.proofs.StepsLaws.{count_most, is_drive_true}
use Rattle.int13.proofs.PlacementLaws.{length_at, length-tables_to, length-tables}
use Rattle.layout.proofs.ParameterTableLaws.{parameter_tables}
use Rattle.desk.specs.declared.Desk.{Desk}
use Rattle.desk.specs.declared.Stage.{Stage}
use Rattle.desk.specs.declared.Stage.TheVariants.{Vacant, Waiting, Finished}
use Rattle.std.specs.Prelude.{Ok, Option, Some}
use Rattle.desk.specs.Parts.{window_size, stage_at, placement_at, with_placement}
use Rattle.desk.specs.Acceptable.{place_ok, accept}
use Rattle.desk.specs.Calls.{PlaceAnswer, Done, is_lent, tables_in, place_tables, place_stage, place_of}
use Rattle.desk.specs.Placed.{behind, Demand2}
use Rattle.desk.proofs.Places.{GoodPlace, place_facts}

-- ---- one table among all

-- what stands behind the table of slot i in those of the first n slots
record Among (n i : ℕ) (b : Table) : Type 0 where
  pub more : List ℕ
  pub split : tables_to n b ≡ tables_to i b ++ (parameter_table (parameters_at b i) ++ more)
  pub before : parameters_to i b + 1 ≤ parameters_to n b

among : (n i : ℕ) (b : Table) → i < n → has_parameters b i ≡ true → Among n i b
unfolding tables_to parameters_to
among zero i b l e = absurd (omega arith)
among (suc n) i b l e = at (ℕ_discrete i n) (λ s. among n i b s e)
  where
    at : Dec (i ≡ n) → (i < n → Among n i b) → Among (suc n) i b
    at (yes x) f =
        record {
          more = [];
          split = rw (← x, e, append-nil (parameter_table (parameters_at b i))) refl;
          before = rw (← x, e) (omega arith);
        }
    at (no x) f =
        let r = f (omega arith) in
        let next : List ℕ = pick (has_parameters b n) (parameter_table (parameters_at b n)) [] in
        record {
          more = r.more ++ next;
          split = rw (r.split, append_assoc (tables_to i b) (parameter_table (parameters_at b i) ++ r.more) next, append_assoc (parameter_table (parameters_at b i)) r.more next) refl;
          before = omega (arith, r.before);
        }

-- a table of a slot in a window that all tables were laid in
table_at : (b : Table) (i address : ℕ) (w : List ℕ) → length b.parameters ≡ 112 → i < 8 → has_parameters b i ≡ true → address + 16 * table_count b ≤ length w
    → part 16 (tables_in b address w) (table_address b address i) ≡ parameter_table (parameters_at b i)
table_at b i address w l s e room =
    let r = among 8 i b s e in
    let t : List ℕ = parameter_table (parameters_at b i) in
    let front : length (tables_to i b) ≡ 16 * parameters_to i b = length-tables_to i b l (omega arith) in
    let all : length (tables_to i b ++ (t ++ r.more)) ≡ 16 * table_count b = ap length (sym r.split) ∙ length-tables b l in
    let sizes : length (tables_to i b) + (length t + length r.more) ≡ 16 * table_count b
    = ap (λ (k : ℕ). length (tables_to i b) + k) (sym (length-append t r.more)) ∙ sym (length-append (tables_to i b) (t ++ r.more)) ∙ all in
    let sixteen : length t ≡ 16 = (parameter_tables (parameters_at b i) (length_at b i l s)).size in
    let place : table_address b address i ≡ address + length (tables_to i b) = omega (arith, front) in
    let u : List ℕ = sets w address (tables_to i b) in
    let v : List ℕ = sets u (address + length (tables_to i b)) t in
    let laid : tables_in b address w ≡ sets v (address + length (tables_to i b) + length t) r.more
    = ap (sets w address) r.split ∙ sets-append w address (tables_to i b) (t ++ r.more) ∙ sets-append u (address + length (tables_to i b)) t r.more in
    rw (laid, place) (part-sets-before 16 v (address + length (tables_to i b)) (address + length (tables_to i b) + length t) r.more (omega (arith, sixteen))
    ∙ rw sixteen at (part-sets-same u (address + length (tables_to i b)) t (omega (arith, length-sets w address (tables_to i b), sizes, room))))

-- ---- bytes outside

byte : (v w : List ℕ) (i : ℕ) → part 1 w i ≡ part 1 v i → get_or w i 0 ≡ get_or v i 0
byte v w i h =
    let o : 0 < 1 = omega arith in
    let at_place : (l : List ℕ) → get_or (part 1 l i) 0 0 ≡ get_or l i 0 = λ l. rw (get_or-take 1 (drop i l) 0 0 o, get_or-drop, add-zero) in
    sym (at_place w) ∙ ap (λ (l : List ℕ). get_or l 0 0) h ∙ at_place v

-- no byte before the tables or behind them changes
outside : (b : Table) (address : ℕ) (w : List ℕ) (x : ℕ) → length (tables_of b) ≡ 16 * table_count b → (x < address) ⊎ (address + 16 * table_count b ≤ x)
    → get_or (tables_in b address w) x 0 ≡ get_or w x 0
outside b address w x l (inl h) = byte w (tables_in b address w) x (part-sets-before 1 w x address (tables_of b) (omega arith))
outside b address w x l (inr h) = byte w (tables_in b address w) x (part-sets-after 1 w x address (tables_of b) (omega (arith, l)))

-- ---- a placement that is done

-- what its tests have found, and what it left
record Made (d : Desk) (g address : ℕ) (arena : List ℕ) (o : Done PlaceAnswer) : Type 0 where
  pub guest : g < 8
  pub lent : length arena ≡ d.arena
  pub found : GoodPlace (table_count d.table) (window_size d) address
  pub desk : o.desk ≡ with_placement d g address
  pub windows : o.arena ≡ with_window arena g (window_size d) (tables_in d.table address (window_of arena g (window_size d)))

module _ (d : Desk) (g address : ℕ) (arena store : List ℕ) where
  abbrev Makes : Done PlaceAnswer → Type 0
  Makes o = o.answer ≡ Ok tt → Made d g address arena o

  made_tables : g < 8 → length arena ≡ d.arena → Makes (place_tables d g address arena store)
  made_tables b l =
      pick-cases Makes (place_ok (table_count d.table) (window_size d) address) _ _
      (λ e x. record { guest = b; lent = l; found = place_facts (table_count d.table) (window_size d) address e; desk = refl; windows = refl })
      (λ e x. impossible (cc))

  made_stage : g < 8 → length arena ≡ d.arena → (s : Stage) → Makes (place_stage d g address s arena store)
  made_stage b l Vacant = made_tables b l
  made_stage b l (Waiting q) = λ x. impossible (cc)
  made_stage b l (Finished r) = made_tables b l

  made : Makes (place_of d g address arena store)
  unfolding place_of
  made =
      pick-cases Makes (not (accept d)) _ _ (λ e x. impossible (cc)) (λ e.
      pick-cases Makes (not (is_lent d arena store)) _ _ (λ f x. impossible (cc)) (λ f.
      pick-cases Makes (not (ltb g 8)) _ _ (λ h x. impossible (cc)) (λ h.
      made_stage (ltb-true g 8 (not-false _ h)) (eqb-true _ _ (both_true _ _ (not-false _ f)).0) (stage_at d g))))

-- ---- the pointers

-- a drive's slot
slot_below : (b : Table) (n : ℕ) → length b.drives ≡ 8 → is_drive b n ≡ true → n - 128 < 8
slot_below b n l e = let t = is_drive_true b n e in omega (arith, t.0, t.1, count_most b l)

-- the segment of a table whose address passed the tests leads back to that address
segment_back : (b : Table) (M address i : ℕ) → GoodPlace (table_count b) M address → i < 8 → has_parameters b i ≡ true
    → 16 * (table_address b address i / 16 % 65536) + 0 ≡ table_address b address i
segment_back b M address i f s e =
    let r = (among 8 i b s e).before in
    let k : ℕ = parameters_to i b in
    let low : (address + 16 * k) / 16 < 65536 = ⊎_elim (λ x. absurd (omega (arith, r, x))) (λ x. omega (arith, r, x, f.aligned)) f.segments in
    omega (arith, low, f.aligned)

-- demand 2, of placing
pub leads : Demand2
unfolding shown_of
leads d g address arena store l x =
    let m = made d g address arena store x in
    let b : Table = d.table in
    let M : ℕ = window_size d in
    let o : Done PlaceAnswer = place_of d g address arena store in
    let w : List ℕ = window_of arena g M in
    let span : span_length (length arena) g M ≡ M = (span_in (length arena) g M (omega (arith, m.lent)) m.guest).1 in
    let long : length w ≡ M = length-window arena g M ∙ span in
    let after : window_of o.arena g M ≡ tables_in b address w
    = ap (λ (a : List ℕ). window_of a g M) m.windows ∙ window_with_same arena g M (tables_in b address w) (length-sets w address (tables_of b) ∙ length-window arena g M) in
    let placement : placement_at o.desk g ≡ placed_at address
    = ap (λ (y : Desk). placement_at y g) m.desk
    ∙ rw (get_or-set_same d.placed g true false (omega (arith, m.guest, l.placed)), get_or-set_same d.addresses g address 0 (omega (arith, m.guest, l.addresses))) refl in
    let table : o.desk.table ≡ b = ap (λ (y : Desk). y.table) m.desk in
    let shown : (n : ℕ) → is_drive b n ≡ true → shown_of o.desk.table (placement_at o.desk g) n ≡ shown_in b (placed_at address) (n - 128)
    = λ n e.
    ap (λ (y : Table). shown_of y (placement_at o.desk g) n) table ∙ ap (λ (p : Placement). shown_of b p n) placement
    ∙ ap (λ (t : Bool). pick t (shown_in b (placed_at address) (n - 128)) not_shown) e in
    record {
      offset = λ n e h. ap (λ (s : Option ℕ). (pointer_of s).offset) (shown n e) ∙ rw h refl;
      table = λ n e h.
          let i : ℕ = n - 128 in
          let v : List ℕ = window_of o.arena g M in
          let below : i < 8 = slot_below b n l.drives e in
          let given : shown_of o.desk.table (placement_at o.desk g) n ≡ Some (table_address b address i / 16 % 65536) = shown n e ∙ rw h refl in
          ap (λ (s : Option ℕ). behind (pointer_of s) v) given
          ∙ ap (part 16 v) (segment_back b M address i m.found below h)
          ∙ ap (λ (u : List ℕ). part 16 u (table_address b address i)) after
          ∙ table_at b i address w l.parameters below h (omega (arith, m.found.inside, long));
      none = λ n e h. ap pointer_of (shown n e) ∙ rw h refl;
      rest = λ x h. rw after (outside b address w x (length-tables b l.parameters) h);
    }
