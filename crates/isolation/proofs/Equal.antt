-- A request along a list of calls: its window and its named blocks are those of the request served alone, as far as it has come.
-- Assumes nothing.
use Prim.Native.Nat.{ℕ, zero, suc, ◌+◌, ◌-◌, ◌*◌, ◌/◌, ◌≤◌, ◌<◌, min}
use mathlib.Core.Path.{◌≡◌, refl, sym, ap, subst, ◌∙◌}
use mathlib.Core.Logic.{◌⊎◌, ⊎_elim, ◌≢◌}
use mathlib.Core.Bool.{true, false}
use mathlib.Core.List.{List, [], ◌∷◌, ◌++◌}
use native.Mathlib.Omega.{arith}
use native.Mathlib.Nat.{zero-add, add-zero}
use native.Mathlib.Decide.{ℕ_discrete}
use lib.ListN.{length, get_or}
use Rattle.memory.specs.Window.{guests, window_of, with_window}
use Rattle.memory.specs.Blocks.{block_length}
use Rattle.memory.proofs.WindowLaws.{window_with_same, window_with_other}
use Rattle.table.specs.declared.Table.{Table}
use Rattle.int13.specs.declared.Job.{Job}
use Rattle.int13.specs.declared.Outcome.TheVariants.{Answered, Waits}
use Rattle.int13.specs.Answers.{ended}
use Rattle.int13.specs.Alone.{Memory, store_block, moves, good_of, ended_window, ended_memory}
use Rattle.desk.specs.declared.Request.{Request}
use Rattle.desk.specs.declared.Stage.TheVariants.{Vacant, Waiting, Finished}
use Rattle.desk.specs.declared.Desk.{Desk}
use Rattle.desk.specs.Parts.{window_size, stage_at}
use Rattle.desk.specs.Acceptable.{turn_blocks}
use Rattle.desk.specs.Calls.{quota, goes_on, stage_after, beside, moved_by, withdrawn_window}
use Rattle.isolation.specs.Lists.{Call, Out, step, run, after}
use Rattle.isolation.specs.Words.{Marks, Kind, serves, withdraws, opens, kind_of, NoneOpens, touch_in, service_in, moved_in, moved, withdrawal_in, withdrawals, full_part, Full, Named, Writes, Unwritten, LeftIf, Left}
use Rattle.isolation.proofs.Turn.{vacant≢waiting, finished≢waiting}
use Rattle.isolation.proofs.Moves.{Agree, Alike, Off, SameSize, moves-size, moves-add, moves_alike, moves_off}
use Rattle.isolation.proofs.Endings.{now, now_most, goes_cases, stage_on, stage_over, good-end}
use Rattle.isolation.proofs.Accept.{Inv, Ready, ready}
use Rattle.isolation.proofs.View.{Lent, Did, same, idle, answer, accepting, serving, giving, withdrawing, placing, view, still, posted_out, served_out, collected_out, withdrawn_out, placed_out, window_in, window-length, span_lent, quiet_marks}
use Rattle.isolation.proofs.Keep.{stage_same, stage_other, waiting_below, inv_step, Cleans, clean_row, cleans_step, fixed_step, beside-size, served-size, withdrawn-size, same-guest}
use Rattle.isolation.proofs.Fate.{other-guest, same-request}
use Rattle.isolation.proofs.Bound.{Reach, reach, not_full}

abbrev pub memory : List ℕ → List ℕ → Memory
memory w s = record { window = w; store = s }

abbrev pub request : Job → ℕ → Request
request j n = record { job = j; moved = n }

-- the blocks of a job that are moved when it ends, by the table: all, or those before the first bad one
abbrev pub end_of : Table → Job → ℕ
end_of b j = good_of b j 0 j.count

-- g's request j, whose first store block is lo, waits with n blocks moved; its window w and the store s are as alone from m₀ after n blocks
pub record Mid (lo : ℕ) (d : Desk) (g : ℕ) (j : Job) (n : ℕ) (m₀ : Memory) (w s : List ℕ) : Type 0 where
  pub here : stage_at d g ≡ Waiting (request j n)
  pub first : store_block d.table j ≡ lo
  pub alike : Alike lo j.count (memory w s) (moves j lo 0 n m₀)
  pub window : length w ≡ window_size d
  pub store : length s ≡ d.store

-- after one call: still waiting, with the condition L on what follows; or finished; or withdrawn
pub data Next (lo : ℕ) (d : Desk) (o : Out) (g : ℕ) (j : Job) (n : ℕ) (m₀ : Memory) (L : List ℕ → List ℕ → Type 0) : Type 0 where
  on : (n' : ℕ) (w s : List ℕ) → Mid lo o.desk g j n' m₀ w s → n' ≡ n + moved_in g (kind_of o.answer)
      → (service_in g (kind_of o.answer) ≡ 1 → moved_in g (kind_of o.answer) ≡ full_part j.count n) → L w s → Next lo d o g j n m₀ L
  over : stage_at o.desk g ≡ Finished (ended j.count (end_of d.table j) j.registers)
      → Alike lo j.count (memory (window_of o.arena g (window_size d)) o.store) (ended_memory j (end_of d.table j) (moves j lo 0 (end_of d.table j) m₀))
      → Reach g j.count n (kind_of o.answer) → Next lo d o g j n m₀ L
  out : kind_of o.answer ≡ withdraws g → Next lo d o g j n m₀ L

-- another pair of window and store that is the same so far
alike_from : (lo n : ℕ) (w w' s s' : List ℕ) (m : Memory) → w' ≡ w → length s' ≡ length s → Agree lo n s' s → Alike lo n (memory w s) m → Alike lo n (memory w' s') m
alike_from lo n w w' s s' m e l a k =
    record { window = e ∙ k.window; length = l ∙ k.length; named = λ i h b. a i h b ∙ k.named i h b }

same_store : (lo n : ℕ) (s s' : List ℕ) → s' ≡ s → Agree lo n s' s
same_store lo n s s' e i h b = ap (λ (t : List ℕ). get_or t i 0) e

fits : (n m k : ℕ) → m < n → k ≤ min turn_blocks (n - m) → m + k ≤ n
fits n m k l h = omega arith

module _ (lo : ℕ) (d : Desk) (inv : Inv d) (cl : Cleans d) (c : Call) (g : ℕ) (j : Job) (n : ℕ) (m₀ : Memory) (w s : List ℕ) (mid : Mid lo d g j n m₀ w s)
    (L : List ℕ → List ℕ → Type 0) where
  -- what the condition says of a call that counts, or does not
  abbrev pub If : Out → ℕ → Type 0
  If o k = LeftIf k (window_size d) g w s (record { desk = d; call = c; out = o }) (L w s) (L (window_of o.arena g (window_size d)) o.store)

  skipped : (o : Out) (k : ℕ) → k ≡ 0 → If o k → L w s
  skipped o zero e l = l
  skipped o (suc k) e l = absurd (omega arith)

  abbrev pub Goes : Out → Type 0
  Goes o = Next lo d o g j n m₀ L

  below : g < guests
  below = waiting_below d g (request j n) inv mid.here

  -- another guest's window is written
  elsewhere : (h : ℕ) (w' : List ℕ) → h < guests → g ≢ h → Lent d c → length w' ≡ window_size d → window_in d c g ≡ w
      → window_of (with_window c.arena h (window_size d) w') g (window_size d) ≡ w
  elsewhere h w' b ne l k e = window_with_other c.arena h g (window_size d) w' (λ y. ne (sym y)) (k ∙ sym (span_lent d c h b l)) ∙ e

  stay : (o : Out) → stage_at o.desk g ≡ stage_at d g → store_block o.desk.table j ≡ store_block d.table j → window_size o.desk ≡ window_size d → o.desk.store ≡ d.store
      → moved_in g (kind_of o.answer) ≡ 0 → service_in g (kind_of o.answer) ≡ 0
      → (w' s' : List ℕ) → w' ≡ w → length s' ≡ length s → Agree lo j.count s' s → L w' s' → Goes o
  stay o r f z z' k v w' s' e l a x =
      on n w' s'
      (record {
        here = r ∙ mid.here;
        first = f ∙ mid.first;
        alike = alike_from lo j.count w w' s s' (moves j lo 0 n m₀) e l a mid.alike;
        window = ap length e ∙ mid.window ∙ sym z;
        store = l ∙ mid.store ∙ sym z';
      })
      (omega (arith, k)) (λ y. absurd (omega (arith, v, y))) x

  -- it is served itself
  own : Lent d c → If (served_out d c g (request j n)) 1 → Goes (served_out d c g (request j n))
  own l x = goes_cases (Goes o) d.table (request j n) good.rest goes-on is-over
    where
      o : Out
      o = served_out d c g (request j n)

      q : ℕ
      q = now d.table (request j n)

      row : stage_at o.desk g ≡ stage_after (request j n) q
      row = stage_same d g (stage_after (request j n) q) inv below

      good : Ready d.table (window_size d) d.store (request j n)
      good = ready d g (request j n) inv mid.here

      mm : Memory
      mm = memory (window_in d c g) c.store

      by : Memory
      by = moves j (store_block d.table j) n q mm

      sizes : SameSize mm by
      sizes = moves-size j (store_block d.table j) n q mm

      len : length (window_in d c g) ≡ window_size d
      len = window-length d c g below l

      new : window_of o.arena g (window_size d) ≡ beside (request j n) q by.window
      new =
          window_with_same c.arena g (window_size d) (beside (request j n) q by.window)
          (beside-size (request j n) q by.window ∙ sizes.window ∙ len ∙ sym (span_lent d c g below l))

      start : Alike lo j.count mm (moves j lo 0 n m₀)
      start = alike_from lo j.count w (window_in d c g) s c.store (moves j lo 0 n m₀) x.0 (ap length x.1) (same_store lo j.count s c.store x.1) mid.alike

      range : block_length * (lo + j.count) ≤ length c.store
      range = omega (arith, good.range, l.store, mid.first)

      al : Alike lo j.count (moves j lo n q mm) (moves j lo 0 (n + q) m₀)
      al = subst (λ (m : Memory). Alike lo j.count (moves j lo n q mm) m)
          (sym (moves-add j lo 0 n q m₀ ∙ ap (λ (i : ℕ). moves j lo i q (moves j lo 0 n m₀)) (zero-add n)))
          (moves_alike j lo j.count n q mm (moves j lo 0 n m₀) (fits j.count n q good.rest (now_most d.table (request j n))) (omega (arith, good.buffer, len)) range start)

      al' : Alike lo j.count by (moves j lo 0 (n + q) m₀)
      al' = subst (λ (f : ℕ). Alike lo j.count (moves j f n q mm) (moves j lo 0 (n + q) m₀)) (sym mid.first) al

      goes-on : goes_on (request j n) q ≡ true → q ≡ quota (request j n) → n + quota (request j n) < j.count → Goes o
      goes-on t e h =
          let w : window_of o.arena g (window_size d) ≡ by.window = new ∙ rw t in
          on (n + q) (window_of o.arena g (window_size d)) o.store
          (record {
            here = row ∙ stage_on (request j n) q t;
            first = mid.first;
            alike = record { window = w ∙ al'.window; length = al'.length; named = al'.named };
            window = ap length w ∙ sizes.window ∙ len;
            store = sizes.store ∙ l.store;
          })
          (ap (λ (k : ℕ). n + k) (sym (same-guest g q))) (λ y. same-guest g q ∙ e) x.2

      -- what its window ends with: after the data, the count word where a bad block is met
      is-over : goes_on (request j n) q ≡ false → (n + q ≡ j.count) ⊎ (q < quota (request j n)) → Goes o
      is-over t e =
          let all : n + q ≡ end_of d.table j = sym (good-end d.table (request j n) (clean_row d g (request j n) cl mid.here) good.rest e) in
          let w : window_of o.arena g (window_size d) ≡ ended_window j (n + q) by.window = new ∙ rw t in
          over (row ∙ stage_over (request j n) q t ∙ ap (λ (k : ℕ). Finished (ended j.count k j.registers)) all)
          (subst (λ (k : ℕ). Alike lo j.count (memory (window_of o.arena g (window_size d)) by.store) (ended_memory j k (moves j lo 0 k m₀))) all
          (record { window = w ∙ ap (ended_window j (n + q)) al'.window; length = al'.length; named = al'.named }))
          (reach g (request j n) d o e (record { turn = refl; withdrawal = refl; moved = same-guest g q; service = same-guest g 1 }))

  serve-next : (h : ℕ) (p : Request) → h < guests → Lent d c → stage_at d h ≡ Waiting p → If (served_out d c h p) 1
      → ((h ≡ g → ⊥) → Off p.job (store_block d.table p.job) p.moved (now d.table p) lo j.count)
      → Dec (h ≡ g) → Goes (served_out d c h p)
  serve-next h p b l v i u (yes y) =
      let pq : p ≡ request j n = same-request (sym v ∙ rw y mid.here) in
      let f : If (served_out d c h p) 1 → Goes (served_out d c h p) = rw (y, pq) (own l) in
      f i
  serve-next h p b l v i u (no y) =
      let gh : g ≢ h = λ z. y (sym z) in
      let mm : Memory = memory (window_in d c h) c.store in
      stay (served_out d c h p) (stage_other d h g (stage_after p (now d.table p)) gh) refl refl refl (other-guest h g (now d.table p) y) (other-guest h g 1 y)
      (window_of (served_out d c h p).arena g (window_size d)) (served_out d c h p).store
      (elsewhere h (beside p (now d.table p) (moved_by d h p (now d.table p) c.arena c.store).window) b gh l (served-size d c h p l b ∙ span_lent d c h b l) i.0)
      ((moves-size p.job (store_block d.table p.job) p.moved (now d.table p) mm).store ∙ ap length i.1)
      (λ k a z. moves_off p.job (store_block d.table p.job) p.moved (now d.table p) lo j.count mm (u y) k a z ∙ ap (λ (t : List ℕ). get_or t k 0) i.1)
      i.2

  withdraw-next : (h : ℕ) (p : Request) → h < guests → Lent d c → If (withdrawn_out d c h p) 1 → Dec (h ≡ g) → Goes (withdrawn_out d c h p)
  withdraw-next h p b l i (yes y) = out (ap withdraws y)
  withdraw-next h p b l i (no y) =
      let gh : g ≢ h = λ z. y (sym z) in
      stay (withdrawn_out d c h p) (stage_other d h g Vacant gh) refl refl refl refl refl
      (window_of (withdrawn_out d c h p).arena g (window_size d)) c.store
      (elsewhere h (withdrawn_window p (window_in d c h)) b gh l (withdrawn-size p (window_in d c h) ∙ window-length d c h b l) i.0)
      (ap length i.1) (same_store lo j.count s c.store i.1) i.2

  -- by the cases of the call
  pub goes : (o : Out) → Did d c o → If o (touch_in (kind_of o.answer))
      → ((h k b : ℕ) (q : Request) → kind_of o.answer ≡ serves h k → (h ≡ g → ⊥) → stage_at d h ≡ Waiting q → Writes d.table q k b → Named lo j.count b → ⊥) → Goes o
  goes o (same x p k) i u =
      stay (still d c x) refl refl refl refl (ap (λ (m : Marks). m.moved) (quiet_marks g p)) (ap (λ (m : Marks). m.service) (quiet_marks g p)) w s refl refl (λ k a z. refl) (skipped (still d c x) (touch_in (kind_of x)) (ap (λ (m : Marks). m.touch) (quiet_marks guests p)) i)
  goes o (idle t f) i u = absurd (f g (request j n) below mid.here)
  goes o (answer h r x w' t b l v ko kw k) i u =
      let gh : g ≢ h = λ y. vacant≢waiting (sym v ∙ (rw y at mid.here)) in
      stay (posted_out d c h (Answered x) w') refl refl refl refl refl refl (window_of (with_window c.arena h (window_size d) w') g (window_size d)) c.store
      (elsewhere h w' b gh l k i.0) (ap length i.1) (same_store lo j.count s c.store i.1) i.2
  goes o (accepting h r p t b l v ko kw f) i u =
      let gh : g ≢ h = λ y. vacant≢waiting (sym v ∙ (rw y at mid.here)) in
      stay (posted_out d c h (Waits p) (window_in d c h)) (stage_other d h g (Waiting (request p 0)) gh) refl refl refl refl refl
      (window_of (with_window c.arena h (window_size d) (window_in d c h)) g (window_size d)) c.store
      (elsewhere h (window_in d c h) b gh l (window-length d c h b l) i.0) (ap length i.1) (same_store lo j.count s c.store i.1) i.2
  goes o (serving h p t b l v f) i u = serve-next h p b l v i (λ y x e m n. u h (now d.table p) x p refl y v (e, (omega (arith, m.0), omega (arith, m.1))) n) (ℕ_discrete h g)
  goes o (giving h r t b v) i u =
      let gh : g ≢ h = λ y. finished≢waiting (sym v ∙ (rw y at mid.here)) in
      stay (collected_out d c h r) (stage_other d h g Vacant gh) refl refl refl refl refl w s refl refl (λ k a z. refl) i
  goes o (withdrawing h p t b l v) i u = withdraw-next h p b l i (ℕ_discrete h g)
  -- a placement is not among the calls of the condition: the window and the store are those of the call before it
  goes o (placing h address t b l v k) i u = stay (placed_out d c h address) refl refl refl refl refl refl w s refl refl (λ k a z. refl) i

-- ---- along the list

pub record Ended (lo : ℕ) (d : Desk) (g : ℕ) (j : Job) (m₀ : Memory) (o : Out) : Type 0 where
  pub registers : stage_at o.desk g ≡ Finished (ended j.count (end_of d.table j) j.registers)
  pub alike : Alike lo j.count (memory (window_of o.arena g (window_size d)) o.store) (ended_memory j (end_of d.table j) (moves j lo 0 (end_of d.table j) m₀))

-- the numbers of a withdrawal
withdrawal-none : (g : ℕ) (k : Kind) → k ≡ withdraws g → moved_in g k ≡ 0
withdrawal-none g k e = ap (moved_in g) e

withdrawal_unserved : (g : ℕ) (k : Kind) → k ≡ withdraws g → service_in g k ≡ 0
withdrawal_unserved g k e = ap (service_in g) e

withdrawal_one : (g : ℕ) (k : Kind) → k ≡ withdraws g → withdrawal_in g k ≡ 1
withdrawal_one g k e = ap (withdrawal_in g) e ∙ same-guest g 1

last : (lo : ℕ) (d : Desk) → Inv d → (t : Call) (g : ℕ) (j : Job) (n : ℕ) (m₀ : Memory) (L : List ℕ → List ℕ → Type 0) → (kind_of (step d t).answer ≡ opens → ⊥)
    → Next lo d (step d t) g j n m₀ L → n < j.count → Reach g j.count n (kind_of (step d t).answer) → Ended lo d g j m₀ (step d t)
last lo d inv t g j n m₀ L no_open (on n' w s k e f x) z b =
    let y : n' < j.count = (ready (step d t).desk g (request j n') (inv_step d t inv no_open) k.here).rest in
    absurd (⊎_elim (λ a. omega (arith, a, y, e)) (λ a. not_full (f a.0) a.1) b)
last lo d inv t g j n m₀ L no_open (over r a e) z b = record { registers = r; alike = a }
last lo d inv t g j n m₀ L no_open (out e) z b =
    let y = withdrawal-none g (kind_of (step d t).answer) e in
    let u = withdrawal_unserved g (kind_of (step d t).answer) e in
    absurd (⊎_elim (λ a. omega (arith, a, y, z)) (λ a. omega (arith, a.0, u)) b)

equal_next : (lo : ℕ) (cs : List Call) (t : Call) (d : Desk) (c : Call) (g : ℕ) (j : Job) (n : ℕ) (m₀ : Memory) (L : List ℕ → List ℕ → Type 0)
    → ((n' : ℕ) (w s : List ℕ) → Mid lo (step d c).desk g j n' m₀ w s → n' ≡ n + moved_in g (kind_of (step d c).answer) → L w s
    → Ended lo (after (step d c).desk cs) g j m₀ (step (after (step d c).desk cs) t))
    → Next lo d (step d c) g j n m₀ L
    → withdrawal_in g (kind_of (step d c).answer) ≡ 0
    → n + (moved_in g (kind_of (step d c).answer) + moved g (run (step d c).desk cs)) < j.count
    → (service_in g (kind_of (step d c).answer) ≡ 1 → moved_in g (kind_of (step d c).answer) ≡ full_part j.count n)
    → Ended lo (after (step d c).desk cs) g j m₀ (step (after (step d c).desk cs) t)
equal_next lo cs t d c g j n m₀ L ih (on n' w s k e f x) z b a = ih n' w s k e x
equal_next lo cs t d c g j n m₀ L ih (over r k e) z b a = absurd (⊎_elim (λ y. omega (arith, y, b)) (λ y. not_full (a y.0) y.1) e)
equal_next lo cs t d c g j n m₀ L ih (out e) z b a = let y = withdrawal_one g (kind_of (step d c).answer) e in absurd (omega arith)

pub equal-run : (lo : ℕ) (cs : List Call) (t : Call) (d : Desk) → Inv d → Cleans d → NoneOpens (run d (cs ++ t ∷ [])) → (g : ℕ) (j : Job) (n : ℕ) (m₀ : Memory) (w s : List ℕ) → Mid lo d g j n m₀ w s
    → withdrawals g (run d cs) ≡ 0 → n + moved g (run d cs) < j.count → Full g j.count n (run d cs)
    → Reach g j.count (n + moved g (run d cs)) (kind_of (step (after d cs) t).answer)
    → Left (window_size d) g w s (run d (cs ++ t ∷ [])) → Unwritten g lo j.count (run d (cs ++ t ∷ []))
    → Ended lo (after d cs) g j m₀ (step (after d cs) t)
unfolding run after
equal-run lo [] t d inv cl no_open g j n m₀ w s k z b f b' l u =
    last lo d inv t g j n m₀ (λ w s. Unit {0}) no_open.0 (goes lo d inv cl t g j n m₀ w s k (λ w s. Unit {0}) (step d t) (view d inv t no_open.0) l u.0) (omega arith)
    (subst (λ (m : ℕ). Reach g j.count m (kind_of (step d t).answer)) (add-zero n) b')
equal-run lo (c ∷ cs) t d inv cl no_open g j n m₀ w s k z b f b' l u =
    equal_next lo cs t d c g j n m₀ (λ w s. Left (window_size d) g w s (run (step d c).desk (cs ++ t ∷ [])))
    (λ n' w s k e l.
    equal-run lo cs t (step d c).desk (inv_step d c inv no_open.0) (cleans_step d c inv cl no_open.0) no_open.1 g j n' m₀ w s k (omega arith) (omega (arith, b, e))
    (subst (λ (m : ℕ). Full g j.count m (run (step d c).desk cs)) (sym e) f.1)
    (subst (λ (m : ℕ). Reach g j.count m (kind_of (step (after (step d c).desk cs) t).answer)) (omega (arith, e)) b')
    (subst (λ (a : ℕ). Left (a / 8) g w s (run (step d c).desk (cs ++ t ∷ []))) (sym (fixed_step d c inv no_open.0).arena) l) u.1)
    (goes lo d inv cl c g j n m₀ w s k (λ w s. Left (window_size d) g w s (run (step d c).desk (cs ++ t ∷ []))) (step d c) (view d inv c no_open.0) l u.0)
    (omega arith) b f.0
