-- A waiting request along a list of calls: how many turns it can wait, and how it ends.
-- Assumes nothing.
use Prim.Native.Nat.{ℕ, ◌+◌, ◌-◌, ◌*◌, ◌/◌, ◌≤◌, ◌<◌}
use mathlib.Core.Path.{◌≡◌, refl, sym, ap, subst, subst₂, ◌∙◌}
use mathlib.Core.Logic.{◌⊎◌, inl, inr, ⊎_elim}
use mathlib.Core.List.{List, [], ◌∷◌, ◌++◌}
use native.Mathlib.Omega.{arith}
use native.Mathlib.Nat.{zero-add, add-zero}
use Rattle.memory.specs.Window.{guests}
use Rattle.desk.specs.declared.Request.{Request}
use Rattle.desk.specs.declared.Stage.TheVariants.{Waiting}
use Rattle.desk.specs.declared.Desk.{Desk}
use Rattle.desk.specs.Parts.{stage_at, next}
use Rattle.desk.specs.Acceptable.{turn_blocks}
use Rattle.desk.specs.Calls.{quota, later}
use Rattle.isolation.specs.Lists.{Call, Out, step, run, after}
use Rattle.isolation.specs.Words.{Kind, withdraws, opens, kind_of, NoneOpens, total, turn_in, turns, withdrawal_in, withdrawals, moved_in, moved, service_in, services, full_part, Full, Stops, turns_for}
use Rattle.isolation.proofs.Turn.{dist, dist_lt, dist_own}
use Rattle.isolation.proofs.Endings.{now}
use Rattle.isolation.proofs.Accept.{Inv}
use Rattle.isolation.proofs.Keep.{waiting_below, inv_step, same-guest}
use Rattle.isolation.proofs.Fate.{Counts, Fate, stays, passes, parts, ends, leaves, step_fate}

-- ---- numbers over a list in two pieces

pub total-append : (f : Kind → ℕ) (cs ds : List Call) (d : Desk) → total f (run d (cs ++ ds)) ≡ total f (run d cs) + total f (run (after d cs) ds)
unfolding run after
total-append f [] ds d = sym (zero-add (total f (run d ds)))
total-append f (c ∷ cs) ds d = omega (arith, total-append f cs ds (step d c).desk)

pub total_at : (f : Kind → ℕ) (front rest : List Call) (t : Call) (d : Desk)
    → total f (run d (front ++ t ∷ rest)) ≡ total f (run d front) + (f (kind_of (step (after d front) t).answer) + total f (run (step (after d front) t).desk rest))
unfolding run
total_at f front rest t d = total-append f front (t ∷ rest) d

pub after-append : (cs ds : List Call) (d : Desk) → after d (cs ++ ds) ≡ after (after d cs) ds
unfolding after
after-append [] ds d = refl
after-append (c ∷ cs) ds d = after-append cs ds (step d c).desk

pub after_none : (d : Desk) → after d [] ≡ d
unfolding after
after_none d = refl

pub after_at : (front rest : List Call) (t : Call) (d : Desk) → after d (front ++ t ∷ rest) ≡ after (step (after d front) t).desk rest
unfolding after
after_at front rest t d = after-append front (t ∷ rest) d

pub opens_front : (cs ds : List Call) (d : Desk) → NoneOpens (run d (cs ++ ds)) → NoneOpens (run d cs)
unfolding run
opens_front [] ds d n = tt
opens_front (c ∷ cs) ds d n = (n.0, opens_front cs ds (step d c).desk n.1)

pub opens-rest : (cs ds : List Call) (d : Desk) → NoneOpens (run d (cs ++ ds)) → NoneOpens (run (after d cs) ds)
unfolding run after
opens-rest [] ds d n = n
opens-rest (c ∷ cs) ds d n = opens-rest cs ds (step d c).desk n.1

pub opens_cons : (d : Desk) (c : Call) (cs : List Call) → NoneOpens (run d (c ∷ cs)) → (kind_of (step d c).answer ≡ opens → ⊥) × NoneOpens (run (step d c).desk cs)
unfolding run
opens_cons d c cs n = n

pub opens_upto : (front rest : List Call) (t : Call) (d : Desk) → NoneOpens (run d (front ++ t ∷ rest)) → NoneOpens (run d (front ++ t ∷ []))
unfolding run
opens_upto [] rest t d n = (n.0, tt)
opens_upto (c ∷ cs) rest t d n = (n.0, opens_upto cs rest t (step d c).desk n.1)

-- ---- full parts over a list in two pieces

pub full_front : (g n m : ℕ) (cs ds : List Call) (d : Desk) → Full g n m (run d (cs ++ ds)) → Full g n m (run d cs)
unfolding run
full_front g n m [] ds d f = tt
full_front g n m (c ∷ cs) ds d f = (f.0, full_front g n (m + moved_in g (kind_of (step d c).answer)) cs ds (step d c).desk f.1)

pub full_at : (g n m : ℕ) (front rest : List Call) (t : Call) (d : Desk) → Full g n m (run d (front ++ t ∷ rest))
    → service_in g (kind_of (step (after d front) t).answer) ≡ 1
    → moved_in g (kind_of (step (after d front) t).answer) ≡ full_part n (m + moved g (run d front))
unfolding run after
full_at g n m [] rest t d f s = f.0 s ∙ ap (full_part n) (sym (add-zero m))
full_at g n m (c ∷ cs) rest t d f s =
    full_at g n (m + moved_in g (kind_of (step d c).answer)) cs rest t (step d c).desk f.1 s ∙ ap (full_part n) (omega arith)

-- ---- the turn that finishes

-- m blocks of n being moved before it: it moves the others, or stops at a bad block
abbrev pub Reach : ℕ → ℕ → ℕ → Kind → Type 0
Reach g n m k = (m + moved_in g k ≡ n) ⊎ Stops g n m k

-- a service that ends it
pub reach : (g : ℕ) (q : Request) (d : Desk) (o : Out) → (q.moved + now d.table q ≡ q.job.count) ⊎ (now d.table q < quota q)
    → Counts g (kind_of o.answer) 1 0 (now d.table q) 1 → Reach g q.job.count q.moved (kind_of o.answer)
reach g q d o h k =
    ⊎_elim (λ x. inl (ap (λ (n : ℕ). q.moved + n) k.moved ∙ x)) (λ x. inr (k.service, omega (arith, subst (λ (n : ℕ). n < quota q) (sym k.moved) x))) h

-- fewer than a full part are not one
pub not_full : {a b : ℕ} → a ≡ b → a < b → ⊥
not_full e l = omega arith

-- ---- one of eight turns serves it

-- unserved and not withdrawn, it waits on, and each turn brings the pointer nearer
near_fate : (cs : List Call) (d : Desk) (c : Call) (g : ℕ) (q : Request)
    → ((q : Request) → stage_at (step d c).desk g ≡ Waiting q → turns (run (step d c).desk cs) ≤ dist (step d c).desk.pointer g)
    → Fate g q d (step d c)
    → withdrawal_in g (kind_of (step d c).answer) ≡ 0
    → service_in g (kind_of (step d c).answer) ≡ 0
    → turn_in (kind_of (step d c).answer) + turns (run (step d c).desk cs) ≤ dist d.pointer g
near_fate cs d c g q ih (stays r p k) w s = omega (arith, ih q r, k.turn, ap (λ (x : ℕ). dist x g) p)
near_fate cs d c g q ih (passes r p k) w s = omega (arith, ih q r, k.turn)
near_fate cs d c g q ih (parts r h p k) w s = omega (arith, k.service)
near_fate cs d c g q ih (ends r h k) w s = omega (arith, k.service)
near_fate cs d c g q ih (leaves k) w s = absurd (gone (kind_of (step d c).answer) k w)
  where
    gone : (x : Kind) → x ≡ withdraws g → withdrawal_in g x ≡ 0 → ⊥
    gone x e z = let y : withdrawal_in g x ≡ 1 = ap (withdrawal_in g) e ∙ same-guest g 1 in omega arith

pub near : (cs : List Call) (d : Desk) → Inv d → NoneOpens (run d cs) → (g : ℕ) (q : Request) → stage_at d g ≡ Waiting q
    → withdrawals g (run d cs) ≡ 0 → services g (run d cs) ≡ 0 → turns (run d cs) ≤ dist d.pointer g
unfolding run
near [] d inv n g q e w s = omega arith
near (c ∷ cs) d inv n g q e w s =
    near_fate cs d c g q (λ p r. near cs (step d c).desk (inv_step d c inv n.0) n.1 g p r (omega arith) (omega arith))
    (step_fate d inv c g q e n.0) (omega arith) (omega arith)

-- ---- eight for each part still to move, less what the pointer has come

pub wait_for : ℕ → ℕ → Request → ℕ
wait_for p g q = guests * ((q.job.count - q.moved - 1) / turn_blocks) + dist p g

wait_same : (p p' g : ℕ) (q : Request) → p' ≡ p → wait_for p' g q ≡ wait_for p g q
wait_same p p' g q e = rw e

wait_less : (p p' g : ℕ) (q : Request) → dist p' g < dist p g → wait_for p' g q + 1 ≤ wait_for p g q
unfolding wait_for
wait_less p p' g q e = sum (guests * ((q.job.count - q.moved - 1) / turn_blocks)) (dist p' g) (dist p g) e
  where
    sum : (a b c : ℕ) → b < c → a + b + 1 ≤ a + c
    sum a b c h = omega arith

part_less : (n m u v : ℕ) → m + turn_blocks < n → u ≡ 7 → guests * ((n - (m + turn_blocks) - 1) / turn_blocks) + u + 1 ≤ guests * ((n - m - 1) / turn_blocks) + v
part_less n m u v h e = omega arith

wait_part : (p p' g : ℕ) (q : Request) → g < guests → p' ≡ next g → q.moved + turn_blocks < q.job.count → wait_for p' g (later q turn_blocks) + 1 ≤ wait_for p g q
unfolding wait_for
wait_part p p' g q gb e h = part_less q.job.count q.moved (dist p' g) (dist p g) h (ap (λ (x : ℕ). dist x g) e ∙ dist_own g gb)

pub wait_start : (p g : ℕ) (q : Request) → q.moved ≡ 0 → 0 < q.job.count → wait_for p g q < turns_for q.job.count
unfolding wait_for
wait_start p g q z h = start q.job.count q.moved (dist p g) z h (dist_lt p g)
  where
    start : (n m u : ℕ) → m ≡ 0 → 0 < n → u < guests → guests * ((n - m - 1) / turn_blocks) + u < turns_for n
    start n m u z h b = omega arith

-- ---- how it goes on

-- it waits throughout the calls
pub record Track (g : ℕ) (q : Request) (d : Desk) (cs : List Call) : Type 0 where
  pub now : Request
  pub here : stage_at (after d cs) g ≡ Waiting now
  pub job : now.job ≡ q.job
  pub moved : now.moved ≡ q.moved + moved g (run d cs)
  pub kept : withdrawals g (run d cs) ≡ 0
  pub bound : turns (run d cs) + wait_for (after d cs).pointer g now ≤ wait_for d.pointer g q
  pub full : Full g q.job.count q.moved (run d cs)

-- or ends at one of them
pub data Course (g : ℕ) (q : Request) (d : Desk) (cs : List Call) : Type 0 where
  waiting : Track g q d cs → Course g q d cs
  finishing : (front : List Call) (t : Call) (rest : List Call) → cs ≡ front ++ t ∷ rest → Track g q d front
      → Reach g q.job.count (q.moved + moved g (run d front)) (kind_of (step (after d front) t).answer)
      → turn_in (kind_of (step (after d front) t).answer) ≡ 1 → Course g q d cs
  leaving : (front : List Call) (t : Call) (rest : List Call) → cs ≡ front ++ t ∷ rest → Track g q d front
      → kind_of (step (after d front) t).answer ≡ withdraws g → Course g q d cs

track_none : (g : ℕ) (q : Request) (d : Desk) → stage_at d g ≡ Waiting q → Track g q d []
unfolding run after
track_none g q d e = record { now = q; here = e; job = refl; moved = omega arith; kept = refl; bound = omega arith; full = tt }

-- one call on, with p where q was
track_step : (g : ℕ) (q p : Request) (d : Desk) (c : Call) (cs : List Call) → p.job ≡ q.job → p.moved ≡ q.moved + moved_in g (kind_of (step d c).answer)
    → withdrawal_in g (kind_of (step d c).answer) ≡ 0
    → turn_in (kind_of (step d c).answer) + wait_for (step d c).desk.pointer g p ≤ wait_for d.pointer g q
    → (service_in g (kind_of (step d c).answer) ≡ 1 → moved_in g (kind_of (step d c).answer) ≡ full_part q.job.count q.moved)
    → Track g p (step d c).desk cs → Track g q d (c ∷ cs)
unfolding run after
track_step g q p d c cs j m w b f t =
    record {
      now = t.now;
      here = t.here;
      job = t.job ∙ j;
      moved = omega (arith, t.moved, m);
      kept = omega (arith, t.kept, w);
      bound = omega (arith, t.bound, b);
      full = (f, subst₂ (λ (n k : ℕ). Full g n k (run (step d c).desk cs)) (ap (λ x. x.count) j) m t.full);
    }

course_step : (g : ℕ) (q p : Request) (d : Desk) (c : Call) (cs : List Call) → p.job ≡ q.job → p.moved ≡ q.moved + moved_in g (kind_of (step d c).answer)
    → withdrawal_in g (kind_of (step d c).answer) ≡ 0
    → turn_in (kind_of (step d c).answer) + wait_for (step d c).desk.pointer g p ≤ wait_for d.pointer g q
    → (service_in g (kind_of (step d c).answer) ≡ 1 → moved_in g (kind_of (step d c).answer) ≡ full_part q.job.count q.moved)
    → Course g p (step d c).desk cs → Course g q d (c ∷ cs)
unfolding run after
course_step g q p d c cs j m w b a (waiting t) = waiting (track_step g q p d c cs j m w b a t)
course_step g q p d c cs j m w b a (finishing front t rest s k f u) =
    let e : p.moved + moved g (run (step d c).desk front) ≡ q.moved + moved g (run d (c ∷ front)) = omega (arith, m) in
    finishing (c ∷ front) t rest (ap (λ (l : List Call). c ∷ l) s) (track_step g q p d c front j m w b a k)
    (subst₂ (λ (n k : ℕ). Reach g n k (kind_of (step (after (step d c).desk front) t).answer)) (ap (λ x. x.count) j) e f) u
course_step g q p d c cs j m w b a (leaving front t rest s k f) =
    leaving (c ∷ front) t rest (ap (λ (l : List Call). c ∷ l) s) (track_step g q p d c front j m w b a k) f

-- sixteen, where more remain
full-part : (n m : ℕ) → m + turn_blocks < n → full_part n m ≡ turn_blocks
full-part n m h = omega arith

course_fate : (cs : List Call) (d : Desk) (c : Call) (g : ℕ) (q : Request) → g < guests → stage_at d g ≡ Waiting q
    → ((p : Request) → stage_at (step d c).desk g ≡ Waiting p → Course g p (step d c).desk cs)
    → Fate g q d (step d c) → Course g q d (c ∷ cs)
unfolding run after
course_fate cs d c g q gb e ih (stays r p k) =
    course_step g q q d c cs refl (omega (arith, k.moved)) k.withdrawal
    (omega (arith, k.turn, wait_same d.pointer (step d c).desk.pointer g q p)) (λ s. absurd (omega (arith, s, k.service))) (ih q r)
course_fate cs d c g q gb e ih (passes r p k) =
    course_step g q q d c cs refl (omega (arith, k.moved)) k.withdrawal
    (omega (arith, k.turn, wait_less d.pointer (step d c).desk.pointer g q p)) (λ s. absurd (omega (arith, s, k.service))) (ih q r)
course_fate cs d c g q gb e ih (parts r h p k) =
    course_step g q (later q turn_blocks) d c cs refl (omega (arith, k.moved)) k.withdrawal
    (omega (arith, k.turn, wait_part d.pointer (step d c).desk.pointer g q gb p h))
    (λ s. k.moved ∙ sym (full-part q.job.count q.moved h)) (ih (later q turn_blocks) r)
course_fate cs d c g q gb e ih (ends r h k) =
    finishing [] c cs refl (track_none g q d e)
    (subst (λ (m : ℕ). Reach g q.job.count m (kind_of (step d c).answer)) (sym (add-zero q.moved)) (reach g q d (step d c) h k)) k.turn
course_fate cs d c g q gb e ih (leaves k) = leaving [] c cs refl (track_none g q d e) k

pub course : (cs : List Call) (d : Desk) → Inv d → NoneOpens (run d cs) → (g : ℕ) (q : Request) → stage_at d g ≡ Waiting q → Course g q d cs
unfolding run
course [] d inv n g q e = waiting (track_none g q d e)
course (c ∷ cs) d inv n g q e =
    course_fate cs d c g q (waiting_below d g q inv e) e (λ p r. course cs (step d c).desk (inv_step d c inv n.0) n.1 g p r)
    (step_fate d inv c g q e n.0)

-- while the numbers say that it waits, it does
pub track : (cs : List Call) (d : Desk) → Inv d → NoneOpens (run d cs) → (g : ℕ) (q : Request) → stage_at d g ≡ Waiting q
    → withdrawals g (run d cs) ≡ 0 → q.moved + moved g (run d cs) < q.job.count → Full g q.job.count q.moved (run d cs) → Track g q d cs
track cs d inv n g q e w b a = go (course cs d inv n g q e)
  where
    go : Course g q d cs → Track g q d cs
    go (waiting t) = t
    go (finishing front t rest s k f u) =
        let m : moved g (run d cs) ≡ moved g (run d front) + (moved_in g (kind_of (step (after d front) t).answer) + moved g (run (step (after d front) t).desk rest))
        = ap (λ (l : List Call). moved g (run d l)) s ∙ total_at (moved_in g) front rest t d in
        let a' : Full g q.job.count q.moved (run d (front ++ t ∷ rest)) = subst (λ (l : List Call). Full g q.job.count q.moved (run d l)) s a in
        absurd (⊎_elim (λ x. omega (arith, x, m, b)) (λ x. not_full (full_at g q.job.count q.moved front rest t d a' x.0) x.1) f)
    go (leaving front t rest s k f) =
        let m : withdrawals g (run d cs) ≡ withdrawals g (run d front) + (withdrawal_in g (kind_of (step (after d front) t).answer) + withdrawals g (run (step (after d front) t).desk rest))
        = ap (λ (l : List Call). withdrawals g (run d l)) s ∙ total_at (withdrawal_in g) front rest t d in
        let y : withdrawal_in g (kind_of (step (after d front) t).answer) ≡ 1 = ap (withdrawal_in g) f ∙ same-guest g 1 in
        absurd (omega arith)
