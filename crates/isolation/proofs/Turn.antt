-- The turn's search: which guest it finds, and how far it is from the pointer.
-- Assumes nothing.
use Prim.Native.Nat.{ℕ, zero, suc, ◌+◌, ◌-◌, ◌%◌, ◌≤◌, ◌<◌}
use mathlib.Core.Path.{◌≡◌, refl, sym, ◌∙◌}
use mathlib.Core.Logic.{◌⊎◌, inl, inr, ⊎_elim, ◌≢◌}
use mathlib.Core.List.{List}
use native.Mathlib.Omega.{arith}
use Rattle.std.specs.Prelude.{Some, None}
use Rattle.logic.proofs.LogicLaws.{lt_or_le, impossible}
use Rattle.logic.specs.Logic.{pick}
use Rattle.memory.specs.Window.{guests}
use Rattle.int13.specs.declared.Registers.{Registers}
use Rattle.desk.specs.declared.Request.{Request}
use Rattle.desk.specs.declared.Stage.{Stage}
use Rattle.desk.specs.declared.Stage.TheVariants.{Vacant, Waiting, Finished}
use Rattle.desk.specs.declared.Row.{Row}
use Rattle.desk.specs.Parts.{stage_in, is_waiting, next}
use Rattle.desk.specs.Calls.{first_waiting}

-- how many guests stand between the pointer and g, counting cyclically
abbrev pub dist : ℕ → ℕ → ℕ
dist p g = (g + guests - p) % guests

pub dist_lt : (p g : ℕ) → dist p g < guests
dist_lt p g = omega arith

pub dist_next : (p g : ℕ) → p < guests → g < guests → g ≢ p → dist p g ≡ dist (next p) g + 1
dist_next p g a b ne = omega arith

pub dist_here : (g : ℕ) → g < guests → dist g g ≡ 0
dist_here g h = omega arith

pub dist_own : (g : ℕ) → g < guests → dist (next g) g ≡ 7
dist_own g h = omega arith

pub next_lt : (g : ℕ) → next g < guests
next_lt g = omega arith

-- x is the distance from p to g, linearly; n is what follows h
abbrev Around : ℕ → ℕ → ℕ → Type 0
Around x p g = ((p ≤ g) × (x + p ≡ g)) ⊎ ((g < p) × (x + p ≡ g + guests))

abbrev Wraps : ℕ → ℕ → Type 0
Wraps n h = ((h < 7) × (n ≡ h + 1)) ⊎ ((h ≡ 7) × (n ≡ 0))

around : (p g : ℕ) → p < guests → g < guests → Around (dist p g) p g
around p g a b = ⊎_elim (λ x. inr (omega arith)) (λ x. inl (omega arith)) (lt_or_le g p)

wraps : (h : ℕ) → h < guests → Wraps (next h) h
wraps h c = ⊎_elim (λ x. inl (omega arith)) (λ x. inr (omega arith)) (lt_or_le h 7)

less : (p g h n u v z : ℕ) → p < guests → g < guests → h < guests → g ≢ h → v ≤ u → Around u p g → Around v p h → Around z n g → Wraps n h → z < u
less p g h n u v z a b c ne l (inl x) (inl y) (inl t) (inl k) = omega arith
less p g h n u v z a b c ne l (inl x) (inl y) (inl t) (inr k) = omega arith
less p g h n u v z a b c ne l (inl x) (inl y) (inr t) (inl k) = omega arith
less p g h n u v z a b c ne l (inl x) (inl y) (inr t) (inr k) = omega arith
less p g h n u v z a b c ne l (inl x) (inr y) (inl t) (inl k) = omega arith
less p g h n u v z a b c ne l (inl x) (inr y) (inl t) (inr k) = omega arith
less p g h n u v z a b c ne l (inl x) (inr y) (inr t) (inl k) = omega arith
less p g h n u v z a b c ne l (inl x) (inr y) (inr t) (inr k) = omega arith
less p g h n u v z a b c ne l (inr x) (inl y) (inl t) (inl k) = omega arith
less p g h n u v z a b c ne l (inr x) (inl y) (inl t) (inr k) = omega arith
less p g h n u v z a b c ne l (inr x) (inl y) (inr t) (inl k) = omega arith
less p g h n u v z a b c ne l (inr x) (inl y) (inr t) (inr k) = omega arith
less p g h n u v z a b c ne l (inr x) (inr y) (inl t) (inl k) = omega arith
less p g h n u v z a b c ne l (inr x) (inr y) (inl t) (inr k) = omega arith
less p g h n u v z a b c ne l (inr x) (inr y) (inr t) (inl k) = omega arith
less p g h n u v z a b c ne l (inr x) (inr y) (inr t) (inr k) = omega arith

-- serving another guest that is not farther brings g nearer
pub dist_less : (p g h : ℕ) → p < guests → g < guests → h < guests → g ≢ h → dist p h ≤ dist p g → dist (next h) g < dist p g
dist_less p g h a b c ne l =
    less p g h (next h) (dist p g) (dist p h) (dist (next h) g) a b c ne l (around p g a b) (around p h a c) (around (next h) g (next_lt h) b) (wraps h c)

pub record Found (rows : List Row) (p g : ℕ) : Type 0 where
  pub below : g < guests
  pub request : Request
  pub here : stage_in rows g ≡ Waiting request
  pub nearest : (h : ℕ) (q : Request) → h < guests → stage_in rows h ≡ Waiting q → dist p g ≤ dist p h

nobody≢guest : (g : ℕ) → None ≡ Some g → ⊥
nobody≢guest g e = impossible (cc)

pub vacant≢waiting : {q : Request} → Vacant ≡ Waiting q → ⊥
vacant≢waiting e = impossible (cc)

pub finished≢waiting : {q : Request} {r : Registers} → Finished r ≡ Waiting q → ⊥
finished≢waiting e = impossible (cc)

-- the row at the pointer does not wait, and the rest of the search found g
past : (rows : List Row) (p g : ℕ) → p < guests → ((q : Request) → stage_in rows p ≡ Waiting q → ⊥) → Found rows (next p) g → Found rows p g
past rows p g pb nw f =
    record {
      below = f.below;
      request = f.request;
      here = f.here;
      nearest = λ h q b e.
          let x = f.nearest h q b e in
          let gp : g ≢ p = λ y. nw f.request (rw (← y) f.here) in
          let hp : h ≢ p = λ y. nw q (rw (← y) e) in
          omega (arith, dist_next p g pb f.below gp, dist_next p h pb b hp);
    }

seek_go : (rows : List Row) (k p g : ℕ) → p < guests → (first_waiting rows k (next p) ≡ Some g → Found rows (next p) g)
    → (st : Stage) → stage_in rows p ≡ st → pick (is_waiting st) (Some p) (first_waiting rows k (next p)) ≡ Some g → Found rows p g
seek_go rows k p g pb ih Vacant r f = past rows p g pb (λ q x. vacant≢waiting (sym r ∙ x)) (ih f)
seek_go rows k p g pb ih (Finished y) r f = past rows p g pb (λ q x. finished≢waiting (sym r ∙ x)) (ih f)
seek_go rows k p g pb ih (Waiting q) r f =
    let pg : p ≡ g = cc in
    record {
      below = omega arith;
      request = q;
      here = rw (← pg) r;
      nearest = λ h q' b x. rw (← pg) (omega (arith, dist_here p pb));
    }

pub seek-guest : (rows : List Row) (k p g : ℕ) → p < guests → first_waiting rows k p ≡ Some g → Found rows p g
unfolding first_waiting
seek-guest rows zero p g pb e = absurd (nobody≢guest g e)
seek-guest rows (suc k) p g pb e = seek_go rows k p g pb (seek-guest rows k (next p) g (next_lt p)) (stage_in rows p) refl e

-- where the search finds nobody among k, no guest nearer than k waits
seek_nobody_go : (rows : List Row) (k p : ℕ) → p < guests
    → (first_waiting rows k (next p) ≡ None → (h : ℕ) (q : Request) → h < guests → dist (next p) h < k → stage_in rows h ≡ Waiting q → ⊥)
    → (st : Stage) → stage_in rows p ≡ st → pick (is_waiting st) (Some p) (first_waiting rows k (next p)) ≡ None
    → (h : ℕ) (q : Request) → h < guests → dist p h < suc k → stage_in rows h ≡ Waiting q → ⊥
seek_nobody_go rows k p pb ih Vacant r f h q b l x =
    let hp : h ≢ p = λ z. vacant≢waiting {q = q} (sym r ∙ (rw z at x)) in
    ih f h q b (omega (arith, dist_next p h pb b hp)) x
seek_nobody_go rows k p pb ih (Finished y) r f h q b l x =
    let hp : h ≢ p = λ z. finished≢waiting {q = q} (sym r ∙ (rw z at x)) in
    ih f h q b (omega (arith, dist_next p h pb b hp)) x
seek_nobody_go rows k p pb ih (Waiting q') r f h q b l x = nobody≢guest p (sym f)

pub seek_nobody : (rows : List Row) (k p : ℕ) → p < guests → first_waiting rows k p ≡ None
    → (h : ℕ) (q : Request) → h < guests → dist p h < k → stage_in rows h ≡ Waiting q → ⊥
unfolding first_waiting
seek_nobody rows zero p pb e h q b l x = omega arith
seek_nobody rows (suc k) p pb e h q b l x = seek_nobody_go rows k p pb (seek_nobody rows k (next p) (next_lt p)) (stage_in rows p) refl e h q b l x
