-- Demand 3 holds at a desk block: the calls at the image of a desk are the calls at the desk.
-- Assumes nothing.
use Prim.Native.Nat.{ℕ, ◌<◌}
use mathlib.Core.Path.{◌≡◌, refl, sym, ap, ap₂, subst, subst₂, ◌∙◌}
use mathlib.Core.Bool.{Bool, true, false}
use mathlib.Core.Logic.{⊎_elim}
use mathlib.Core.List.{List, [], ◌∷◌, ◌++◌, map}
use native.Mathlib.Omega.{arith}
use lib.Dec.{leb, eqb}
use lib.ListN.{length, get_or, get_or-eq_default}
use borrow.Author.Tests.{eq-eqb, ne_eqb, eqb-true, leb-true}
use Rattle.std.specs.Prelude.{Ok, Err}
use Rattle.logic.specs.Logic.{pick}
use Rattle.logic.proofs.LogicLaws.{both_true, pick-cases, lt_or_le, impossible}
use Rattle.words.specs.Words.{Bytes}
use Rattle.memory.specs.Window.{guests, window_length}
use Rattle.drive.proofs.DriveLaws.{Arrays}
use Rattle.table.specs.Table.{no_drive, is_sound}
use Rattle.desk.specs.declared.Row.{Row}
use Rattle.desk.specs.declared.Desk.{Desk}
use Rattle.desk.specs.Parts.{window_size, store_blocks, vacant_row, stage_at, placement_at}
use Rattle.desk.specs.Acceptable.{stage_ok, accept}
use Rattle.desk.proofs.AcceptableLaws.{closed-refused}
use Rattle.desk.specs.Calls.{OpenAnswer, open_of, written_of, written_out, post_of, turn_of, collect_of, withdraw_of, place_of}
use Rattle.image.specs.Image.{image, desk_size, is_image, desk_of, accepted, laid, FitsDesk}
use Rattle.image.proofs.ImageLaws.{length-image, desk-image, exact}
use Rattle.isolation.specs.Lists.{Op, open_table, post, turn, collect, withdraw, write, place, Call, Answer, opening, Out, opened_desk, step_of, step, Event, run, after}
use Rattle.isolation.specs.Words.{Marks, opens, kind_of, house_number, NoneOpens}
use Rattle.isolation.specs.DeskBlocks.{FitsOp, FitsCalls, AtBlocks, OutBlock, block_after, out_block, number_of, left25, step_block_of, step_block, EventBlock, run_block, after_block, NoneOpensBlock, image_out, image_event, ClaimBlock, DemandBlock}
use Rattle.isolation.proofs.Accept.{PlaceGood, Facts, accept_facts, Inv, inv_accept, inv_opened}
use Rattle.isolation.proofs.View.{Did, same, idle, answer, accepting, serving, giving, withdrawing, placing, quiet_marks, view}
use Rattle.isolation.proofs.Keep.{inv_step}
use Rattle.isolation.proofs.Bound.{opens_front}
use Rattle.isolation.proofs.Posts.{never as never_did}
use Rattle.isolation.proofs.Fits.{fits-opened, by_opening, opening_case, fits-step}
use Rattle.isolation.proofs.Theorem.{demand}
use Rattle.isolation.proofs.Refusals.{number-low}

-- ---- one call

-- at a block of the size
step-at : (b : List ℕ) (d : Desk) (c : Call) → length b ≡ desk_size → desk_of b ≡ d → step_block b c ≡ out_block b (step d c)
unfolding step_block step
step-at b d c l e = by_op c.op ∙ ap (λ (x : Desk). out_block b (step_of x c.op c.arena c.store)) e
  where
    by_op : (o : Op) → step_block_of b o c.arena c.store ≡ out_block b (step_of (desk_of b) o c.arena c.store)
    by_op (open_table t a s) = rw (eq-eqb (length b) desk_size l)
    by_op (post g r) = refl
    by_op turn = refl
    by_op (collect g) = refl
    by_op (withdraw g) = refl
    by_op (write out) = refl
    by_op (place g address) = refl

laid-image : (b : List ℕ) (d : Desk) → length b ≡ desk_size → laid b d ≡ image d
unfolding laid
laid-image b d l = rw (eq-eqb (length b) desk_size l)

-- the block after a call is the image of the desk after it
block_did : (d : Desk) (c : Call) (o : Out) → length (image d) ≡ desk_size → Did d c o → block_after (image d) o.desk (kind_of o.answer) ≡ image o.desk
block_did d c o l (same x k n) = ap (λ (m : Marks). pick (eqb m.desk 1) (laid (image d) d) (image d)) (quiet_marks guests k)
block_did d c o l (idle e f) = refl
block_did d c o l (answer g r x w e b t v ko kw k) = refl
block_did d c o l (accepting g r j e b t v ko kw f) = laid-image (image d) _ l
block_did d c o l (serving g q e b t v f) = laid-image (image d) _ l
block_did d c o l (giving g x e b v) = laid-image (image d) _ l
block_did d c o l (withdrawing g q e b t v) = laid-image (image d) _ l
block_did d c o l (placing g address e b t v k) = laid-image (image d) _ l

-- an opening that passes, at any block: the block becomes the image of the desk that was opened
record Opens (t : List ℕ) (a s : ℕ) (o : OutBlock) : Type 0 where
  pub passed : (open_of t a s).answer ≡ Ok tt
  pub block : o.block ≡ image (open_of t a s).desk

opens-block : (b t : List ℕ) (a s : ℕ) (arena store : List ℕ) → (step_block_of b (open_table t a s) arena store).answer ≡ opening (Ok tt)
    → Opens t a s (step_block_of b (open_table t a s) arena store)
opens-block b t a s arena store =
    pick-cases (λ (o : OutBlock). o.answer ≡ opening (Ok tt) → Opens t a s o) (eqb (length b) desk_size) _ _
    (λ l e.
    let x : (open_of t a s).answer ≡ Ok tt = cc in
    let y : block_after b (opened_desk (desk_of b) (open_of t a s).desk (open_of t a s).answer) (kind_of (opening (open_of t a s).answer)) ≡ laid b (open_of t a s).desk
    = ap (λ (y : OpenAnswer). block_after b (opened_desk (desk_of b) (open_of t a s).desk y) (kind_of (opening y))) x in
    record { passed = x; block = y ∙ laid-image b (open_of t a s).desk (eqb-true (length b) desk_size l) })
    (λ l e. impossible cc)

opens-first : (b t : List ℕ) (a s : ℕ) (c : Call) → c.op ≡ open_table t a s → (step_block b c).answer ≡ opening (Ok tt) → Opens t a s (step_block b c)
unfolding step_block
opens-first b t a s c e =
    subst (λ (o : Op). (step_block_of b o c.arena c.store).answer ≡ opening (Ok tt) → Opens t a s (step_block_of b o c.arena c.store)) (sym e)
    (opens-block b t a s c.arena c.store)

-- ---- 25

-- at a block that is not accepted, and for an opening has another size
is_25 : (b : List ℕ) (c : Call) → accepted b ≡ false → ((t : List ℕ) (a s : ℕ) → c.op ≡ open_table t a s → length b ≡ desk_size → ⊥)
    → step_block b c ≡ left25 b c.op c.arena c.store
unfolding step_block accepted post_of turn_of collect_of withdraw_of place_of written_of written_out
is_25 b c e n = by_op c.op n
  where
    by_op : (o : Op) → ((t : List ℕ) (a s : ℕ) → o ≡ open_table t a s → length b ≡ desk_size → ⊥) → step_block_of b o c.arena c.store ≡ left25 b o c.arena c.store
    by_op (open_table t a s) n = rw (ne_eqb (length b) desk_size (n t a s refl))
    by_op (post g r) n = rw e
    by_op turn n = rw e
    by_op (collect g) n = rw e
    by_op (withdraw g) n = rw e
    by_op (write out) n = rw e
    by_op (place g address) n = rw e

-- every call but an opening is 25 at a block that is not accepted
pub not-accepted : (b : List ℕ) (c : Call) → accepted b ≡ false → ((t : List ℕ) (a s : ℕ) → c.op ≡ open_table t a s → ⊥)
    → step_block b c ≡ left25 b c.op c.arena c.store
not-accepted b c e n = is_25 b c e (λ t a s o l. n t a s o)

-- and every call at a block of another size
pub other-size : (b : List ℕ) (c : Call) → (length b ≡ desk_size → ⊥) → step_block b c ≡ left25 b c.op c.arena c.store
unfolding accepted desk_of is_image
other-size b c n = is_25 b c (rw (ne_eqb (length b) desk_size n) (closed-refused 0 0)) (λ t a s o l. n l)

-- a table's number is none
low_25 : (y : OpenAnswer) → number_of (opening y) ≡ 25 → ⊥
low_25 (Ok u) x = omega arith
low_25 (Err e) x = omega (arith, number-low e.refusal)

-- a call at a desk that is no 25 by its house number is none
never_25 : (d : Desk) (c : Call) → (house_number (step d c).answer ≡ 25 → ⊥) → number_of (step d c).answer ≡ 25 → ⊥
unfolding step
never_25 d c n x = by_op c.op n x
  where
    by_op : (o : Op) → (house_number (step_of d o c.arena c.store).answer ≡ 25 → ⊥) → number_of (step_of d o c.arena c.store).answer ≡ 25 → ⊥
    by_op (open_table t a s) n x = low_25 (open_of t a s).answer x
    by_op (post g r) n x = n x
    by_op turn n x = n x
    by_op (collect g) n x = n x
    by_op (withdraw g) n x = n x
    by_op (write out) n x = n x
    by_op (place g address) n x = n x

-- ---- a list of calls

-- what holds of every desk of a list
record Held (d : Desk) : Type 0 where
  pub inv : Inv d
  pub fits : FitsDesk d

held-step : (d : Desk) (c : Call) → Held d → FitsOp c.op → (kind_of (step d c).answer ≡ opens → ⊥) → Held (step d c).desk
held-step d c h t n = record { inv = inv_step d c h.inv n; fits = fits-step d h.inv h.fits c t }

held_after : (cs : List Call) (d : Desk) → Held d → FitsCalls cs → NoneOpens (run d cs) → Held (after d cs)
unfolding run after
held_after [] d h t n = h
held_after (c ∷ cs) d h t n = held_after cs (step d c).desk (held-step d c h t.0 n.0) t.1 n.1

fits_front : (cs ds : List Call) → FitsCalls (cs ++ ds) → FitsCalls cs
fits_front [] ds t = tt
fits_front (c ∷ cs) ds t = (t.0, fits_front cs ds t.1)

step-image : (d : Desk) (c : Call) → FitsDesk d → step_block (image d) c ≡ out_block (image d) (step d c)
step-image d c f = step-at (image d) d c (length-image d f) (desk-image d f)

step_same : (d : Desk) (c : Call) → Held d → (kind_of (step d c).answer ≡ opens → ⊥) → step_block (image d) c ≡ image_out (step d c)
step_same d c h n =
    step-image d c h.fits
    ∙ ap (λ (b : List ℕ). record { block = b; answer = (step d c).answer; arena = (step d c).arena; store = (step d c).store })
    (block_did d c (step d c) (length-image d h.fits) (view d h.inv c n))

run-same : (cs : List Call) (d : Desk) → Held d → FitsCalls cs → NoneOpens (run d cs) → run_block (image d) cs ≡ map image_event (run d cs)
unfolding run run_block
run-same [] d h t n = refl
run-same (c ∷ cs) d h t n =
    ap₂ (λ (o : OutBlock) (es : List EventBlock). record { block = image d; call = c; out = o } ∷ es) (step_same d c h n.0)
    (ap (λ (o : OutBlock). run_block o.block cs) (step_same d c h n.0) ∙ run-same cs (step d c).desk (held-step d c h t.0 n.0) t.1 n.1)

after_same : (cs : List Call) (d : Desk) → Held d → FitsCalls cs → NoneOpens (run d cs) → after_block (image d) cs ≡ image (after d cs)
unfolding run after after_block
after_same [] d h t n = refl
after_same (c ∷ cs) d h t n =
    ap (λ (o : OutBlock). after_block o.block cs) (step_same d c h n.0) ∙ after_same cs (step d c).desk (held-step d c h t.0 n.0) t.1 n.1

-- no opening passes at the desks where none does at the blocks
none-opens : (cs : List Call) (d : Desk) → Held d → FitsCalls cs → NoneOpensBlock (run_block (image d) cs) → NoneOpens (run d cs)
unfolding run run_block
none-opens [] d h t n = tt
none-opens (c ∷ cs) d h t n =
    let here : kind_of (step d c).answer ≡ opens → ⊥ = λ x. n.0 (ap (λ (o : OutBlock). kind_of o.answer) (step-image d c h.fits) ∙ x) in
    let rest = subst (λ (o : OutBlock). NoneOpensBlock (run_block o.block cs)) (step_same d c h here) n.1 in
    (here, none-opens cs (step d c).desk (held-step d c h t.0 here) t.1 rest)

-- and the other way
opens-image : (es : List Event) → NoneOpens es → NoneOpensBlock (map image_event es)
opens-image [] n = tt
opens-image (e ∷ es) n = (n.0, opens-image es n.1)

-- ---- the claim

module _ (t : List ℕ) (arena store : ℕ) (calls : List Call) (passed : (open_of t arena store).answer ≡ Ok tt) (held : Held (open_of t arena store).desk)
    (fit : FitsCalls calls) (none : NoneOpens (run (open_of t arena store).desk calls)) where
  abbrev d₀ : Desk
  d₀ = (open_of t arena store).desk

  -- before the calls rest
  at : (pre rest : List Call) → calls ≡ pre ++ rest → Held (after d₀ pre) × (after_block (image d₀) pre ≡ image (after d₀ pre))
  at pre rest e =
      let n = opens_front pre rest d₀ (subst (λ (l : List Call). NoneOpens (run d₀ l)) e none) in
      let f = fits_front pre rest (subst FitsCalls e fit) in
      (held_after pre d₀ held f n, after_same pre d₀ held f n)

  acceptable : (pre rest : List Call) → calls ≡ pre ++ rest → accepted (after_block (image d₀) pre) ≡ true
  unfolding accepted
  acceptable pre rest e =
      let a = at pre rest e in
      ap (λ (b : List ℕ). accept (desk_of b)) a.1 ∙ ap accept (desk-image (after d₀ pre) a.0.fits) ∙ inv_accept (after d₀ pre) a.0.inv

  never25 : (pre rest : List Call) (c : Call) → calls ≡ pre ++ c ∷ rest → number_of (step_block (after_block (image d₀) pre) c).answer ≡ 25 → ⊥
  never25 pre rest c e x =
      let a = at pre (c ∷ rest) e in
      never_25 (after d₀ pre) c ((demand t arena store calls passed none).never25 pre rest c e)
      (sym (ap (λ (b : List ℕ). number_of (step_block b c).answer) a.1 ∙ ap (λ (o : OutBlock). number_of o.answer) (step-image (after d₀ pre) c a.0.fits)) ∙ x)

  claim : ClaimBlock t d₀ (window_length arena) (image d₀) calls
  claim =
      record {
        begins = refl;
        same = run-same calls d₀ held fit none;
        acceptable = acceptable;
        never25 = never25;
        demand = demand t arena store calls passed none;
      }

held-opened : (t : List ℕ) (arena store : ℕ) → FitsOp (open_table t arena store) → (open_of t arena store).answer ≡ Ok tt → Held (open_of t arena store).desk
held-opened t arena store f e = record { inv = inv_opened t arena store e; fits = fits-opened t arena store f.0 f.1 f.2 e }

-- DEMAND 3 on blocks of bytes
pub demand-block : DemandBlock
demand-block b t arena store first calls e f x fit none =
    let o = opens-first b t arena store first e x in
    let h = held-opened t arena store (subst FitsOp e f) o.passed in
    subst (λ (y : List ℕ). ClaimBlock t (open_of t arena store).desk (window_length arena) y calls) (sym o.block)
    (claim t arena store calls o.passed h fit
    (none-opens calls (open_of t arena store).desk h fit (subst (λ (y : List ℕ). NoneOpensBlock (run_block y calls)) o.block none)))

-- its last condition, from the same one of the desks
pub none-block : (b t : List ℕ) (arena store : ℕ) (first : Call) (calls : List Call) → first.op ≡ open_table t arena store → FitsOp first.op
    → (step_block b first).answer ≡ opening (Ok tt) → FitsCalls calls
    → NoneOpens (run (open_of t arena store).desk calls) → NoneOpensBlock (run_block (step_block b first).block calls)
none-block b t arena store first calls e f x fit none =
    let o = opens-first b t arena store first e x in
    let h = held-opened t arena store (subst FitsOp e f) o.passed in
    subst NoneOpensBlock (sym (ap (λ (y : List ℕ). run_block y calls) o.block ∙ run-same calls (open_of t arena store).desk h fit none))
    (opens-image (run (open_of t arena store).desk calls) none)

-- ---- any block

-- an acceptable desk that fits its fields is as those of a list
held-accepted : (d : Desk) → accept d ≡ true → FitsDesk d → Held d
unfolding is_sound
held-accepted d e f =
    let k = (accept_facts d).0 e in
    record {
      inv =
          record {
            rows = f.eight;
            table = record {
              sound = k.sound;
              eight = f.table.eight;
              arrays = λ i h. arrays i k.sound h;
              marks = f.table.present;
              bytes = f.table.parameters;
              counts = f.table.counts;
              lists = f.table.bad;
            };
            pointer = k.pointer;
            stages = stages k;
            placed = f.placed;
            addresses = f.addresses;
            places = places k;
          };
      fits = f;
    }
  where
    arrays : (i : ℕ) → is_sound d.table (store_blocks d) ≡ true → i < d.table.count → Arrays (get_or d.table.drives i no_drive)
    arrays i s h =
        let l = leb-true d.table.count 8 (both_true (leb d.table.count 8) _ s).0 in
        let x = f.table.each i (omega arith) in
        record { bus = x.numbers.bus; interface = x.numbers.interface; path = x.numbers.path; device = x.numbers.device; tail = x.numbers.tail }

    stages : Facts d → (g : ℕ) → stage_ok d.table (window_size d) (stage_at d g) ≡ true
    stages k g =
        ⊎_elim (λ l. k.stages g l)
        (λ l. ap (λ (r : Row). stage_ok d.table (window_size d) r.stage) (get_or-eq_default d.rows vacant_row (omega (arith, f.eight))))
        (lt_or_le g guests)

    -- past the guests there is no placement
    places : Facts d → (g : ℕ) → PlaceGood d (placement_at d g)
    places k g =
        ⊎_elim (λ l. k.places g l)
        (λ l. subst₂ (λ (x : Bool) (a : ℕ). PlaceGood d (record { placed = x; address = a }))
        (sym (get_or-eq_default d.placed false {n = g} (omega (arith, f.placed)))) (sym (get_or-eq_default d.addresses 0 {n = g} (omega (arith, f.addresses)))) refl)
        (lt_or_le g guests)

-- an accepted block is the image of such a desk
record Whole (b : List ℕ) : Type 0 where
  pub held : Held (desk_of b)
  pub image : image (desk_of b) ≡ b
  pub size : length b ≡ desk_size

whole : (b : List ℕ) → Bytes b → accepted b ≡ true → Whole b
whole b h e =
    let i = exact.only b h e in
    record {
      held = held-accepted (desk_of b) i.acceptable i.fits;
      image = i.image;
      size = ap length (sym i.image) ∙ length-image (desk_of b) i.fits;
    }

held-image : (d : Desk) → Held d → accepted (image d) ≡ true
unfolding accepted
held-image d h = ap accept (desk-image d h.fits) ∙ inv_accept d h.inv

kept : (b : List ℕ) (c : Call) → Bytes b → FitsOp c.op → accepted b ≡ true → accepted (step_block b c).block ≡ true
unfolding step
kept b c h f e = ap (λ (o : OutBlock). accepted o.block) (step-at b d c w.size refl) ∙ by_opening (step d c).answer opened did
  where
    d : Desk
    d = desk_of b

    w : Whole b
    w = whole b h e

    after_call : List ℕ
    after_call = block_after b (step d c).desk (kind_of (step d c).answer)

    opened : (step d c).answer ≡ opening (Ok tt) → accepted after_call ≡ true
    opened x =
        ap (λ (y : Answer). accepted (block_after b (step d c).desk (kind_of y))) x
        ∙ ap accepted (laid-image b (step d c).desk w.size)
        ∙ held-image (step d c).desk
        (record {
          inv = opening_case Inv d c.op c.arena c.store (λ t a s o y. inv_opened t a s y) x;
          fits = fits-step d w.held.inv w.held.fits c f;
        })

    did : (kind_of (step d c).answer ≡ opens → ⊥) → accepted after_call ≡ true
    did n =
        ap accepted
        (ap (λ (x : List ℕ). block_after x (step d c).desk (kind_of (step d c).answer)) (sym w.image)
        ∙ block_did d c (step d c) (ap length w.image ∙ w.size) (view d w.held.inv c n))
        ∙ held-image (step d c).desk (held-step d c w.held f n)

house_25 : (d : Desk) → Inv d → (c : Call) → house_number (step d c).answer ≡ 25 → ⊥
house_25 d inv c =
    by_opening (step d c).answer
    (λ e x. let z : ◌≡◌ {A = ℕ} 0 25 = ap house_number (sym e) ∙ x in omega arith)
    (λ n. never_did d c (step d c) (view d inv c n))

never : (b : List ℕ) (c : Call) → Bytes b → accepted b ≡ true → number_of (step_block b c).answer ≡ 25 → ⊥
never b c h e x =
    let w = whole b h e in
    never_25 (desk_of b) c (house_25 (desk_of b) w.held.inv c) (sym (ap (λ (o : OutBlock). number_of o.answer) (step-at b (desk_of b) c w.size refl)) ∙ x)

-- an opening needs no desk
openings : (b : List ℕ) (c : Call) (t : List ℕ) (a s : ℕ) → c.op ≡ open_table t a s → length b ≡ desk_size → number_of (step_block b c).answer ≡ 25 → ⊥
unfolding step_block
openings b c t a s e l x =
    low_25 (open_of t a s).answer
    (sym (ap (λ (o : Op). number_of (step_block_of b o c.arena c.store).answer) e ∙ ap (λ (y : Bool). number_of (pick y here (left25 b (open_table t a s) c.arena c.store)).answer) (eq-eqb (length b) desk_size l)) ∙ x)
  where
    here : OutBlock
    here = out_block b (step_of (desk_of b) (open_table t a s) c.arena c.store)

pub at_blocks : AtBlocks
at_blocks = record { not_accepted = not-accepted; other_size = other-size; never = never; openings = openings; kept = kept }
