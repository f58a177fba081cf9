-- Demand 3 holds of every list of calls after an opening.
-- Assumes nothing.
use Prim.Native.Nat.{ℕ, ◌/◌, ◌≤◌, ◌<◌}
use mathlib.Core.Path.{◌≡◌, sym, ap, ap₂, subst, subst₂, ◌∙◌}
use mathlib.Core.List.{List, [], ◌∷◌, ◌++◌, append_assoc}
use native.Mathlib.Nat.{add-zero}
use native.Mathlib.Omega.{arith}
use Rattle.std.specs.Prelude.{Ok}
use Rattle.memory.specs.Window.{window_length, window_of}
use Rattle.memory.specs.Blocks.{block_length}
use Rattle.attached.specs.Bad.{good}
use Rattle.table.specs.declared.Table.{Table}
use Rattle.table.specs.Table.{read_table}
use Rattle.int13.specs.declared.Registers.{Registers}
use Rattle.int13.specs.declared.Placement.{Placement}
use Rattle.int13.specs.Placement.{no_placement}
use Rattle.int13.specs.Steps.{fed, bads_of}
use Rattle.int13.specs.Alone.{asked, asked_start, store_block, alone}
use Rattle.desk.specs.declared.Stage.TheVariants.{Finished}
use Rattle.desk.specs.declared.Desk.{Desk}
use Rattle.desk.specs.Parts.{window_size, stage_at, placement_at}
use Rattle.desk.specs.Calls.{open_of}
use Rattle.isolation.specs.Lists.{Call, collected, step, Event, run, after}
use Rattle.isolation.specs.Words.{refused, opens, kind_of, NoneOpens, turns, collects, Accepted, Waits, Finishes, turns_for, Unwritten, Left, placement_after, placement_in}
use Rattle.isolation.specs.Demand.{out_after, found_by, asked_by, first_by, good_by, Taken, out_on, count_of, first_of, alone_of, Ends, Same, SameAtOnce, Claim, Demand}
use Rattle.isolation.proofs.Accept.{Inv, none-placed, inv_accept, inv_opened, opened-desk}
use Rattle.isolation.proofs.View.{view}
use Rattle.isolation.proofs.Keep.{Cleans, cleans_opened, cleans_after, reached, placed-after, turn_spares, place_spares}
use Rattle.isolation.proofs.Bound.{opens_front, opens-rest, opens_cons, opens_upto, after_at, after_none}
use Rattle.isolation.proofs.Equal.{end_of}
use Rattle.isolation.proofs.Posts.{Feeds, at-once, never}
use Rattle.isolation.proofs.Requests.{accepted, bounded', finishes', within', equal', finished', counted', handed'}

module _ (t : List ℕ) (arena store : ℕ) (calls : List Call) (passed : (open_of t arena store).answer ≡ Ok tt)
    (closed : NoneOpens (run (open_of t arena store).desk calls)) where
  abbrev d₀ : Desk
  d₀ = (open_of t arena store).desk

  abbrev m : ℕ
  m = window_length arena

  -- what every call of the list finds
  record At (pre : List Call) (c : Call) (d : Desk) (rest : List Call) : Type 0 where
    pub inv : Inv d
    pub cleans : Cleans d
    pub size : window_size d ≡ m
    pub same : d.table ≡ d₀.table
    pub table : (read_table t (d.store / block_length)).table ≡ d.table
    pub placement : (g : ℕ) → placement_at d g ≡ placement_in g (run d₀ pre)
    pub here : kind_of (step d c).answer ≡ opens → ⊥
    pub later : NoneOpens (run (step d c).desk rest)

  opened-sizes : (d₀.arena ≡ arena) × (d₀.store ≡ store) × (d₀.table ≡ (read_table t (store / block_length)).table)
  opened-sizes = let e = opened-desk t arena store passed in (ap (λ (d : Desk). d.arena) e, ap (λ (d : Desk). d.store) e, ap (λ (d : Desk). d.table) e)

  -- no guest has a placement at first
  opened_nowhere : (g : ℕ) → placement_at d₀ g ≡ no_placement
  opened_nowhere g =
      ap (λ (d : Desk). placement_at d g) (opened-desk t arena store passed) ∙ none-placed (read_table t (store / block_length)).table arena store g

  at : (pre rest : List Call) (c : Call) → calls ≡ pre ++ c ∷ rest → At pre c (after d₀ pre) rest
  at pre rest c e =
      let n : NoneOpens (run d₀ (pre ++ c ∷ rest)) = subst (λ (l : List Call). NoneOpens (run d₀ l)) e closed in
      let inv₀ = inv_opened t arena store passed in
      let r = reached pre d₀ inv₀ (opens_front pre (c ∷ rest) d₀ n) in
      let o = opens_cons (after d₀ pre) c rest (opens-rest pre (c ∷ rest) d₀ n) in
      record {
        inv = r.inv;
        cleans = cleans_after pre d₀ inv₀ (cleans_opened t arena store passed) (opens_front pre (c ∷ rest) d₀ n);
        size = ap window_length (r.fixed.arena ∙ opened-sizes.0);
        same = r.fixed.table;
        table = ap (λ (s : ℕ). (read_table t (s / block_length)).table) (r.fixed.store ∙ opened-sizes.1) ∙ sym opened-sizes.2 ∙ sym r.fixed.table;
        placement = λ g.
            placed-after pre d₀ inv₀ (opens_front pre (c ∷ rest) d₀ n) g ∙ ap (λ (p : Placement). placement_after g p (run d₀ pre)) (opened_nowhere g);
        here = o.0;
        later = o.1;
      }

  -- n, from the row to the registers and the window that the post found
  asks : (d : Desk) (inv : Inv d) (cl : Cleans d) (c : Call) (g : ℕ) (r : Registers) (acc : Accepted d c g r) (no_open : kind_of (step d c).answer ≡ opens → ⊥) → window_size d ≡ m
      → (accepted d inv cl c g r acc no_open).job.count ≡ asked_by m c g r
  asks d inv cl c g r acc no_open e = (accepted d inv cl c g r acc no_open).fresh.count ∙ ap (λ (k : ℕ). asked_by k c g r) e

  names : (d : Desk) (inv : Inv d) (cl : Cleans d) (c : Call) (g : ℕ) (r : Registers) (acc : Accepted d c g r) (no_open : kind_of (step d c).answer ≡ opens → ⊥) → window_size d ≡ m
      → d.table ≡ d₀.table → store_block d.table (accepted d inv cl c g r acc no_open).job ≡ first_by d₀.table m c g r
  names d inv cl c g r acc no_open e f =
      (accepted d inv cl c g r acc no_open).fresh.first ∙ ap (λ (k : ℕ). first_by d.table k c g r) e ∙ ap (λ (b : Table). first_by b m c g r) f

  -- its good blocks before the first bad one
  goods : (d : Desk) (inv : Inv d) (cl : Cleans d) (c : Call) (g : ℕ) (r : Registers) (acc : Accepted d c g r) (no_open : kind_of (step d c).answer ≡ opens → ⊥) → window_size d ≡ m
      → d.table ≡ d₀.table → end_of d.table (accepted d inv cl c g r acc no_open).job ≡ good_by d₀.table m c g r
  goods d inv cl c g r acc no_open e f =
      let a = accepted d inv cl c g r acc no_open in
      let w : List ℕ = window_of c.arena g (window_size d) in
      ap₂ (λ (x k : ℕ). good (bads_of d.table a.job.drive) x k) (add-zero a.job.start ∙ a.fresh.start) a.fresh.count
      ∙ ap (λ (x : ℕ). good (bads_of d.table x) (asked_start d.table r w) (asked r w)) a.fresh.drive
      ∙ ap (λ (k : ℕ). good_by d.table k c g r) e ∙ ap (λ (b : Table). good_by b m c g r) f

  -- a request of the list: what its post found, and the calls since
  placed : (q : Taken d₀ calls) (rest : List Call) → q.since ≡ rest → At q.before q.call (after d₀ q.before) rest
  placed q rest e = at q.before rest q.call (q.place ∙ ap (λ (l : List Call). q.before ++ q.call ∷ l) e)

  counts : (q : Taken d₀ calls) (rest : List Call) (a : At q.before q.call (after d₀ q.before) rest)
      → (accepted (after d₀ q.before) a.inv a.cleans q.call q.guest q.registers q.accepted a.here).job.count ≡ count_of q m
  counts q rest a = asks (after d₀ q.before) a.inv a.cleans q.call q.guest q.registers q.accepted a.here a.size

  -- what the demand feeds served alone is what the desk has
  feeds : (q : Taken d₀ calls) (rest : List Call) (a : At q.before q.call (after d₀ q.before) rest)
      → Feeds (after d₀ q.before) q.guest t (placement_in q.guest (run d₀ q.before))
  feeds q rest a = record { table = a.table; placement = a.placement q.guest }

  claim : Claim t d₀ m calls
  claim =
      record {
        within = λ q mid stretch rest last e w one eight.
            let d₁ : Desk = (out_on q).desk in
            let a = placed q (mid ++ (stretch ++ last ∷ rest)) e in
            let o : NoneOpens (run d₁ (mid ++ (stretch ++ last ∷ [])))
            = subst (λ (l : List Call). NoneOpens (run d₁ l)) (append_assoc mid stretch (last ∷ []))
            (opens_upto (mid ++ stretch) rest last d₁
            (subst (λ (l : List Call). NoneOpens (run d₁ l)) (sym (append_assoc mid stretch (last ∷ rest))) a.later)) in
            within' (after d₀ q.before) a.inv a.cleans q.call q.guest q.registers q.accepted a.here mid stretch last o
            (subst (λ (k : ℕ). Waits q.guest k (run d₁ (mid ++ stretch))) (sym (counts q _ a)) w) one (omega (arith, eight));
        bounded = λ q mid rest e w.
            let d₁ : Desk = (out_on q).desk in
            let a = placed q (mid ++ rest) e in
            subst (λ (k : ℕ). Waits q.guest k (run d₁ mid) → turns (run d₁ mid) < turns_for k) (counts q _ a)
            (bounded' (after d₀ q.before) a.inv a.cleans q.call q.guest q.registers q.accepted a.here mid (opens_front mid rest d₁ a.later)) w;
        finishes = λ q mid rest e w.
            let d₁ : Desk = (out_on q).desk in
            let a = placed q (mid ++ rest) e in
            subst (λ (k : ℕ). turns_for k ≤ turns (run d₁ mid) → Ends q.guest k (turns_for k) d₁ mid) (counts q _ a)
            (finishes' (after d₀ q.before) a.inv a.cleans q.call q.guest q.registers q.accepted a.here mid (opens_front mid rest d₁ a.later)) w;
        spared = λ pre rest c h e t z.
            let a = at pre rest c e in
            let s = turn_spares (after d₀ pre) c (step (after d₀ pre) c) t h (omega (arith, z)) (view (after d₀ pre) a.inv c a.here) in
            (s.row, subst (λ (k : ℕ). window_of (step (after d₀ pre) c).arena h k ≡ window_of c.arena h k) a.size s.window);
        equal = λ q mid rest last e.
            let d : Desk = after d₀ q.before in
            let d₁ : Desk = (out_on q).desk in
            let a = placed q (mid ++ last ∷ rest) e in
            let f = names d a.inv a.cleans q.call q.guest q.registers q.accepted a.here a.size a.same in
            let es : List Event = run d₁ (mid ++ last ∷ []) in
            subst (λ (k : ℕ). Finishes q.guest (count_of q m) d₁ mid last
            → Left k q.guest (window_of (out_on q).arena q.guest k) (out_on q).store es
            → Unwritten q.guest (first_of q m) (count_of q m) es
            → Same k q.guest (first_of q m) (count_of q m) (out_after d₁ mid last) (alone_of q t k)) a.size
            (subst₂ (λ (k lo : ℕ). Finishes q.guest k d₁ mid last
            → Left (window_size d) q.guest (window_of (out_on q).arena q.guest (window_size d)) (out_on q).store es
            → Unwritten q.guest lo k es
            → Same (window_size d) q.guest lo k (out_after d₁ mid last) (alone_of q t (window_size d))) (counts q _ a) f
            (equal' d a.inv a.cleans q.call q.guest q.registers q.accepted a.here t (placement_in q.guest (run d₀ q.before)) (feeds q _ a) mid last
            (opens_upto mid rest last d₁ a.later)));
        handed = λ q mid more rest last x e f z op u.
            let d₁ : Desk = (out_on q).desk in
            let d₂ : Desk = (out_after d₁ mid last).desk in
            let a = placed q (mid ++ last ∷ (more ++ x ∷ rest)) e in
            let assoc : mid ++ last ∷ (more ++ x ∷ rest) ≡ (mid ++ last ∷ more) ++ x ∷ rest = sym (append_assoc mid (last ∷ more) (x ∷ rest)) in
            let assoc' : (mid ++ last ∷ more) ++ x ∷ [] ≡ mid ++ last ∷ (more ++ x ∷ []) = append_assoc mid (last ∷ more) (x ∷ []) in
            let o : NoneOpens (run d₁ (mid ++ last ∷ (more ++ x ∷ [])))
            = subst (λ (l : List Call). NoneOpens (run d₁ l)) assoc'
            (opens_upto (mid ++ last ∷ more) rest x d₁ (subst (λ (l : List Call). NoneOpens (run d₁ l)) assoc a.later)) in
            let z' : collects q.guest (run d₂ more) ≡ 0
            = ap (λ (y : Desk). collects q.guest (run y more)) (sym (after_at mid [] last d₁ ∙ after_none d₂)) ∙ omega (arith, z) in
            subst (λ (y : Desk). (kind_of (step y x).answer ≡ refused → ⊥) → (step y x).answer ≡ collected q.guest (Ok (alone_of q t m).registers))
            (sym (after_at mid more last d₁))
            (subst (λ (k : ℕ). (kind_of (step (after d₂ more) x).answer ≡ refused → ⊥)
            → (step (after d₂ more) x).answer ≡ collected q.guest (Ok (alone_of q t k).registers)) a.size
            (handed' (after d₀ q.before) a.inv a.cleans q.call q.guest q.registers q.accepted a.here t (placement_in q.guest (run d₀ q.before)) (feeds q _ a) mid more last x o
            (subst (λ (k : ℕ). Finishes q.guest k d₁ mid last) (sym (counts q _ a)) f) z' op)) u;
        finished = λ q mid rest last e f.
            let d₁ : Desk = (out_on q).desk in
            let a = placed q (mid ++ last ∷ rest) e in
            subst (λ (k : ℕ). stage_at (out_after d₁ mid last).desk q.guest ≡ Finished (alone_of q t k).registers) a.size
            (finished' (after d₀ q.before) a.inv a.cleans q.call q.guest q.registers q.accepted a.here t (placement_in q.guest (run d₀ q.before)) (feeds q _ a) mid last
            (opens_upto mid rest last d₁ a.later)
            (subst (λ (k : ℕ). Finishes q.guest k d₁ mid last) (sym (counts q _ a)) f));
        counted = λ q mid rest last e f.
            let d₁ : Desk = (out_on q).desk in
            let a = placed q (mid ++ last ∷ rest) e in
            let k = counted' (after d₀ q.before) a.inv a.cleans q.call q.guest q.registers q.accepted a.here mid last
            (opens_upto mid rest last d₁ a.later)
            (subst (λ (k : ℕ). Finishes q.guest k d₁ mid last) (sym (counts q _ a)) f) in
            let n = goods (after d₀ q.before) a.inv a.cleans q.call q.guest q.registers q.accepted a.here a.size a.same in
            omega (arith, k, n);
        at_once = λ pre rest c g r x e op p.
            let a = at pre rest c e in
            subst (λ (k : ℕ). SameAtOnce k g (out_after d₀ pre c) x (alone (fed t (placement_in g (run d₀ pre))) r (found_by k c g))) a.size
            (at-once t (placement_in g (run d₀ pre)) (after d₀ pre) c g r x (out_after d₀ pre c) (record { table = a.table; placement = a.placement g }) op p (view (after d₀ pre) a.inv c a.here));
        placing = λ pre rest c g address h e op.
            let a = at pre rest c e in
            let s = place_spares (after d₀ pre) c (step (after d₀ pre) c) g address h op (view (after d₀ pre) a.inv c a.here) in (
              s.row,
              (λ y. subst (λ (k : ℕ). window_of (step (after d₀ pre) c).arena h k ≡ window_of c.arena h k) a.size (s.other y)),
              (λ y. subst (λ (k : ℕ). window_of (step (after d₀ pre) c).arena h k ≡ window_of c.arena h k) a.size (s.waiting y)),
            );
        acceptable = λ pre rest e.
            inv_accept (after d₀ pre)
            (reached pre d₀ (inv_opened t arena store passed) (opens_front pre rest d₀ (subst (λ (l : List Call). NoneOpens (run d₀ l)) e closed))).inv;
        never25 = λ pre rest c e. let a = at pre rest c e in never (after d₀ pre) c (step (after d₀ pre) c) (view (after d₀ pre) a.inv c a.here);
      }

-- DEMAND 3
pub demand : Demand
demand t arena store calls passed closed = claim t arena store calls passed closed
