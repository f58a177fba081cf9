-- One request, accepted at a desk: served in one of eight turns, bounded, ended, equal to served alone, and handed out.
-- Assumes nothing.
use Prim.Native.Nat.{ℕ, ◌+◌, ◌*◌, ◌/◌, ◌≤◌, ◌<◌}
use mathlib.Core.Path.{◌≡◌, refl, sym, ap, ap₂, subst, ◌∙◌}
use mathlib.Core.Logic.{◌⊎◌, inl, inr, ⊎_elim}
use mathlib.Core.List.{List, [], ◌∷◌, ◌++◌}
use native.Mathlib.Omega.{arith}
use native.Mathlib.Nat.{zero-add}
use lib.ListN.{length}
use Rattle.std.specs.Prelude.{Ok}
use Rattle.logic.proofs.LogicLaws.{lt_or_le}
use Rattle.words.specs.Words.{part}
use Rattle.memory.specs.Window.{window_length, window_of}
use Rattle.memory.specs.Blocks.{block_length}
use Rattle.table.specs.declared.Table.{Table}
use Rattle.table.specs.Table.{read_table}
use Rattle.int13.specs.declared.Registers.{Registers}
use Rattle.int13.specs.declared.Placement.{Placement}
use Rattle.int13.specs.declared.Job.{Job}
use Rattle.int13.specs.declared.Outcome.{Outcome}
use Rattle.int13.specs.declared.Outcome.TheVariants.{Waits as JobWaits}
use Rattle.int13.specs.Answers.{ended}
use Rattle.int13.specs.Steps.{fed, begin}
use Rattle.int13.specs.Alone.{Memory, Served, store_block, moves, ended_memory, finish, served_by, alone}
use Rattle.desk.specs.declared.Stage.TheVariants.{Finished}
use Rattle.desk.specs.declared.Desk.{Desk}
use Rattle.desk.specs.Parts.{window_size, stage_at, placement_at}
use Rattle.desk.specs.Acceptable.{job_ok, turn_blocks}
use Rattle.desk.specs.Calls.{quota}
use Rattle.isolation.specs.Lists.{collect, Call, collected, step, run, after}
use Rattle.isolation.specs.Words.{Kind, refused, plain, opens, answers, accepts, serves, idles, hands, withdraws, places, kind_of, NoneOpens, total, turn_in, turns, service_in, services, moved_in, moved, withdrawal_in, withdrawals, collects, Accepted, full_part, Waits, Stops, Finishes, turns_each, turns_for, Unwritten, Left}
use Rattle.isolation.specs.Demand.{Ends, finishing as ends_finishing, withdrawing as ends_withdrawing, Same}
use Rattle.isolation.proofs.Turn.{dist_lt}
use Rattle.isolation.proofs.Moves.{Alike, part_agree, moves-size, moves-none}
use Rattle.isolation.proofs.Endings.{now, good-end}
use Rattle.isolation.proofs.Accept.{Inv, Ready, ready, job_ready}
use Rattle.isolation.proofs.View.{view, window_in, window-length}
use Rattle.isolation.proofs.Keep.{inv_step, Cleans, clean_row, cleans_step, cleans_after, Fixed, fixed_step, reached}
use Rattle.isolation.proofs.Fate.{Fate, stays, passes, parts, ends, leaves, step_fate}
use Rattle.isolation.proofs.Bound.{total-append, total_at, after-append, opens_front, opens-rest, opens_cons, opens_upto, full_front, Reach, near, wait_for, wait_start, Track, Course, waiting, finishing, leaving, course, track}
use Rattle.isolation.proofs.Equal.{memory, request, end_of, Mid, Ended, equal-run}
use Rattle.isolation.proofs.Posts.{Feeds, Took, took}
use Rattle.isolation.proofs.Finished.{still_finished, handed-over}

-- ---- numbers at the last call

total_last : (f : Kind → ℕ) (front : List Call) (t : Call) (d : Desk) → total f (run d (front ++ t ∷ [])) ≡ total f (run d front) + f (kind_of (step (after d front) t).answer)
unfolding run
total_last f front t d = omega (arith, total_at f front [] t d)

total_one : (f : Kind → ℕ) (t : Call) (d : Desk) → total f (run d (t ∷ [])) ≡ f (kind_of (step d t).answer)
unfolding run
total_one f t d = omega arith

turn_keeps : (g : ℕ) (k : Kind) → turn_in k ≡ 1 → withdrawal_in g k ≡ 0
turn_keeps g refused e = refl
turn_keeps g plain e = refl
turn_keeps g opens e = refl
turn_keeps g (answers h) e = refl
turn_keeps g (accepts h) e = refl
turn_keeps g (serves h k) e = refl
turn_keeps g idles e = refl
turn_keeps g (hands h r) e = refl
turn_keeps g (withdraws h) e = absurd (omega arith)
turn_keeps g (places h address) e = refl

-- no part is above sixteen
full_most : (n m : ℕ) {k : ℕ} → k < full_part n m → k ≡ turn_blocks → ⊥
full_most n m l e = omega arith

-- ---- one request

module _ (d : Desk) (inv : Inv d) (cl : Cleans d) (c : Call) (g : ℕ) (r : Registers) (acc : Accepted d c g r) (n₀ : kind_of (step d c).answer ≡ opens → ⊥) where
  pub accepted : Took d c g r (step d c)
  accepted = took d c g r (step d c) inv acc.posts acc.waits (view d inv c n₀)

  abbrev d₁ : Desk
  d₁ = (step d c).desk

  inv₁ : Inv d₁
  inv₁ = inv_step d c inv n₀

  cl₁ : Cleans d₁
  cl₁ = cleans_step d c inv cl n₀

  fixed₁ : Fixed d d₁
  fixed₁ = fixed_step d c inv n₀

  abbrev job : Job
  job = accepted.job

  abbrev n : ℕ
  n = job.count

  tracked : (mid : List Call) → NoneOpens (run d₁ mid) → Waits g n (run d₁ mid) → Track g (request job 0) d₁ mid
  tracked mid no_open w = track mid d₁ inv₁ no_open g (request job 0) accepted.row (omega (arith, w.0)) (omega (arith, w.1)) w.2

  start : wait_for d₁.pointer g (request job 0) < turns_for n
  start = wait_start d₁.pointer g (request job 0) refl accepted.fresh.some

  pub bounded' : (mid : List Call) → NoneOpens (run d₁ mid) → Waits g n (run d₁ mid) → turns (run d₁ mid) < turns_for n
  bounded' mid no_open w = let t = tracked mid no_open w in omega (arith, t.bound, start)

  -- before an end it waits
  before : (front rest : List Call) (t : Call) (mid : List Call) → mid ≡ front ++ t ∷ rest → NoneOpens (run d₁ mid) → Track g (request job 0) d₁ front → Waits g n (run d₁ front)
  before front rest t mid s no_open k =
      let o : NoneOpens (run d₁ front) = opens_front front (t ∷ rest) d₁ (subst (λ (l : List Call). NoneOpens (run d₁ l)) s no_open) in
      let a = ready (after d₁ front) g k.now (reached front d₁ inv₁ o).inv k.here in
      let e : k.now.job.count ≡ n = ap (λ (j : Job). j.count) k.job in
      (k.kept, omega (arith, a.rest, k.moved, e), k.full)

  pub finishes' : (mid : List Call) → NoneOpens (run d₁ mid) → turns_for n ≤ turns (run d₁ mid) → Ends g n (turns_for n) d₁ mid
  finishes' mid no_open b = go (course mid d₁ inv₁ no_open g (request job 0) accepted.row)
    where
      reached_there : (front : List Call) (t : Call) → Reach g n (0 + moved g (run d₁ front)) (kind_of (step (after d₁ front) t).answer)
          → (moved g (run d₁ (front ++ t ∷ [])) ≡ n) ⊎ Stops g n (moved g (run d₁ front)) (kind_of (step (after d₁ front) t).answer)
      reached_there front t f =
          ⊎_elim (λ x. inl (total_last (moved_in g) front t d₁ ∙ omega (arith, x)))
          (λ x. inr (subst (λ (m : ℕ). Stops g n m (kind_of (step (after d₁ front) t).answer)) (zero-add (moved g (run d₁ front))) x)) f

      go : Course g (request job 0) d₁ mid → Ends g n (turns_for n) d₁ mid
      go (waiting t) = absurd (omega (arith, t.bound, start))
      go (finishing front t rest s k f u) =
          ends_finishing front t rest s
          (record { waited = before front rest t mid s no_open k; reached = reached_there front t f })
          (omega (arith, total_last turn_in front t d₁, u, k.bound, start))
      go (leaving front t rest s k f) =
          let z : turn_in (kind_of (step (after d₁ front) t).answer) ≡ 0 = ap turn_in f in
          ends_withdrawing front t rest s
          (record { waited = before front rest t mid s no_open k; gone = f })
          (omega (arith, total_last turn_in front t d₁, z, k.bound, start))

  pub within' : (mid stretch : List Call) (last : Call) → NoneOpens (run d₁ (mid ++ (stretch ++ last ∷ [])))
      → Waits g n (run d₁ (mid ++ stretch))
      → turns (run (after d₁ (mid ++ stretch)) (last ∷ [])) ≡ 1
      → turns_each ≤ turns (run (after d₁ mid) (stretch ++ last ∷ []))
      → 0 < services g (run (after d₁ mid) (stretch ++ last ∷ []))
  within' mid stretch last no_open w one eight =
      let d₂ : Desk = after d₁ mid in
      let k : Kind = kind_of (step (after d₂ stretch) last).answer in
      let o₁ : NoneOpens (run d₁ mid) = opens_front mid (stretch ++ last ∷ []) d₁ no_open in
      let o₂ : NoneOpens (run d₂ (stretch ++ last ∷ [])) = opens-rest mid (stretch ++ last ∷ []) d₁ no_open in
      let zw : withdrawals g (run d₁ mid) + withdrawals g (run d₂ stretch) ≡ 0 = sym (total-append (withdrawal_in g) mid stretch d₁) ∙ w.0 in
      let zm : moved g (run d₁ mid) + moved g (run d₂ stretch) < n = subst (λ (m : ℕ). m < n) (total-append (moved_in g) mid stretch d₁) w.1 in
      let t = tracked mid o₁ (omega arith, omega arith, full_front g n 0 mid stretch d₁ w.2) in
      let one' : turn_in k ≡ 1 = sym (total_one turn_in last (after d₂ stretch)) ∙ ap (λ (x : Desk). turns (run x (last ∷ []))) (sym (after-append mid stretch d₁)) ∙ one in
      let zl : withdrawals g (run d₂ (stretch ++ last ∷ [])) ≡ withdrawals g (run d₂ stretch) + withdrawal_in g k = total_last (withdrawal_in g) stretch last d₂ in
      ⊎_elim (λ x. x)
      (λ x. absurd (omega (
        arith,
        eight,
        near (stretch ++ last ∷ []) d₂ (reached mid d₁ inv₁ o₁).inv o₂ g t.now t.here (omega (arith, zw, zl, turn_keeps g k one')) (omega arith),
        dist_lt d₂.pointer g,
      )))
      (lt_or_le 0 (services g (run d₂ (stretch ++ last ∷ []))))

  -- the registers that it finishes with
  abbrev at_end : Registers
  at_end = ended n (end_of d.table job) job.registers

  -- no call changes the table
  same-table : (mid : List Call) → NoneOpens (run d₁ mid) → (after d₁ mid).table ≡ d.table
  same-table mid no_open = (reached mid d₁ inv₁ no_open).fixed.table ∙ fixed₁.table

  -- by what that turn answers
  ends_there : (mid : List Call) (last : Call) → Finishes g n d₁ mid last → Reach g n (moved g (run d₁ mid)) (kind_of (step (after d₁ mid) last).answer)
  ends_there mid last f = ⊎_elim (λ x. inl (sym (total_last (moved_in g) mid last d₁) ∙ x)) (λ x. inr x) f.reached

  -- the finishing turn leaves the row finished, and the numbers answered are the blocks moved
  record Over (mid : List Call) (last : Call) : Type 0 where
    pub row : stage_at (step (after d₁ mid) last).desk g ≡ Finished at_end
    pub number : moved g (run d₁ (mid ++ last ∷ [])) ≡ end_of d.table job

  finished : (mid : List Call) (last : Call) → NoneOpens (run d₁ (mid ++ last ∷ [])) → Finishes g n d₁ mid last → Over mid last
  finished mid last no_open f = go (step_fate d₂ inv₂ last g t.now t.here no_last.0)
    where
      d₂ : Desk
      d₂ = after d₁ mid

      o₁ : NoneOpens (run d₁ mid)
      o₁ = opens_front mid (last ∷ []) d₁ no_open

      inv₂ : Inv d₂
      inv₂ = (reached mid d₁ inv₁ o₁).inv

      no_last : (kind_of (step d₂ last).answer ≡ opens → ⊥) × NoneOpens (run (step d₂ last).desk [])
      no_last = opens_cons d₂ last [] (opens-rest mid (last ∷ []) d₁ no_open)

      t : Track g (request job 0) d₁ mid
      t = tracked mid o₁ f.waited

      kind : Kind
      kind = kind_of (step d₂ last).answer

      all : Reach g n (moved g (run d₁ mid)) kind
      all = ends_there mid last f

      count : t.now.job.count ≡ n
      count = ap (λ (j : Job). j.count) t.job

      -- a call that does not serve it does not finish it
      unserved : moved_in g kind ≡ 0 → service_in g kind ≡ 0 → ⊥
      unserved m s = ⊎_elim (λ a. omega (arith, f.waited.1, a, m)) (λ a. omega (arith, a.0, s)) all

      -- the good blocks, by the row before it
      goods : (t.now.moved + now d₂.table t.now ≡ t.now.job.count) ⊎ (now d₂.table t.now < quota t.now)
          → t.now.moved + now d₂.table t.now ≡ end_of d₂.table t.now.job
      goods h = sym (good-end d₂.table t.now (clean_row d₂ g t.now (cleans_after mid d₁ inv₁ cl₁ o₁) t.here) (ready d₂ g t.now inv₂ t.here).rest h)

      go : Fate g t.now d₂ (step d₂ last) → Over mid last
      go (stays x p k) = absurd (unserved k.moved k.service)
      go (passes x p k) = absurd (unserved k.moved k.service)
      go (parts x h p k) = absurd (⊎_elim (λ a. omega (arith, a, k.moved, h, count, t.moved)) (λ a. full_most n (moved g (run d₁ mid)) a.1 k.moved) all)
      go (ends x h k) =
          record {
            row =
                x
                ∙ ap (λ (k : ℕ). Finished (ended t.now.job.count k t.now.job.registers)) (goods h)
                ∙ ap₂ (λ (b : Table) (j : Job). Finished (ended j.count (end_of b j) j.registers)) (same-table mid o₁) t.job;
            number = total_last (moved_in g) mid last d₁ ∙ omega (arith, t.moved, k.moved) ∙ goods h ∙ ap₂ end_of (same-table mid o₁) t.job;
          }
      go (leaves k) = absurd (unserved (ap (moved_in g) k) (ap (service_in g) k))

  -- ---- served alone

  abbrev found : Memory
  found = memory (window_in d c g) c.store

  abbrev lo : ℕ
  lo = store_block d.table job

  alone-is : (t : List ℕ) (p : Placement) → Feeds d g t p
      → alone (fed t p) r found ≡ finish d.table (JobWaits job) (begin (fed d.table (placement_at d g)) r (window_in d c g)).window found
  unfolding alone
  alone-is t p e =
      ap (λ (s : ℕ). served_by (fed (read_table t (s / block_length)).table p) r found) accepted.lent.store
      ∙ ap₂ (λ (b : Table) (x : Placement). served_by (fed b x) r found) e.table (sym e.placement)
      ∙ ap (λ (o : Outcome). finish d.table o (begin (fed d.table (placement_at d g)) r (window_in d c g)).window found) accepted.outcome

  mid₀ : Mid lo d₁ g job 0 found (window_in d c g) c.store
  mid₀ =
      record {
        here = accepted.row;
        first = ap (λ (b : Table). store_block b job) fixed₁.table;
        alike = subst (λ (m : Memory). Alike lo n found m) (sym (moves-none job lo 0 found)) (record { window = refl; length = refl; named = λ i h k. refl });
        window = window-length d c g accepted.below accepted.lent ∙ ap window_length (sym fixed₁.arena);
        store = accepted.lent.store ∙ sym fixed₁.store;
      }

  room : Ready d.table (window_size d) d.store (request job 0)
  room =
      job_ready d.table (window_size d) d.store (request job 0) inv.table
      (ap (λ (m : ℕ). job_ok d.table m job) (sym (window-length d c g accepted.below accepted.lent)) ∙ accepted.fresh.ok)
      accepted.fresh.some refl

  pub equal' : (t : List ℕ) (p : Placement) → Feeds d g t p → (mid : List Call) (last : Call) → NoneOpens (run d₁ (mid ++ last ∷ []))
      → Finishes g n d₁ mid last
      → Left (window_size d) g (window_of (step d c).arena g (window_size d)) (step d c).store (run d₁ (mid ++ last ∷ []))
      → Unwritten g lo n (run d₁ (mid ++ last ∷ []))
      → Same (window_size d) g lo n (step (after d₁ mid) last) (alone (fed t p) r found)
  equal' t p te mid last no_open f l u =
      let l₁ : Left (window_size d) g (window_in d c g) c.store (run d₁ (mid ++ last ∷ []))
      = subst (λ (s : List ℕ). Left (window_size d) g (window_in d c g) s (run d₁ (mid ++ last ∷ []))) accepted.store
      (subst (λ (a : List ℕ). Left (window_size d) g (window_of a g (window_size d)) (step d c).store (run d₁ (mid ++ last ∷ []))) accepted.arena l) in
      let l₂ : Left (window_size d₁) g (window_in d c g) c.store (run d₁ (mid ++ last ∷ []))
      = subst (λ (a : ℕ). Left (window_length a) g (window_in d c g) c.store (run d₁ (mid ++ last ∷ []))) (sym fixed₁.arena) l₁ in
      let e : Ended lo (after d₁ mid) g job found (step (after d₁ mid) last)
      = equal-run lo mid last d₁ inv₁ cl₁ no_open g job 0 found (window_in d c g) c.store mid₀ f.waited.0 (omega (arith, f.waited.1)) f.waited.2
      (subst (λ (m : ℕ). Reach g n m (kind_of (step (after d₁ mid) last).answer)) (sym (zero-add (moved g (run d₁ mid)))) (ends_there mid last f)) l₂ u in
      let fx = (reached mid d₁ inv₁ (opens_front mid (last ∷ []) d₁ no_open)).fixed in
      let size : window_size (after d₁ mid) ≡ window_size d = ap window_length (fx.arena ∙ fixed₁.arena) in
      let al = alone-is t p te in
      let same = same-table mid (opens_front mid (last ∷ []) d₁ no_open) in
      let k : ℕ = end_of d.table job in
      let alike : Alike lo n (memory (window_of (step (after d₁ mid) last).arena g (window_size (after d₁ mid))) (step (after d₁ mid) last).store) (ended_memory job k (moves job lo 0 k found))
      = subst (λ (b : Table). Alike lo n (memory (window_of (step (after d₁ mid) last).arena g (window_size (after d₁ mid))) (step (after d₁ mid) last).store)
      (ended_memory job (end_of b job) (moves job lo 0 (end_of b job) found))) same e.alike in
      let len : length (step (after d₁ mid) last).store ≡ d.store
      = alike.length ∙ (moves-size job lo 0 k found).store ∙ accepted.lent.store in
      record {
        registers = e.registers ∙ ap (λ (b : Table). Finished (ended n (end_of b job) job.registers)) same ∙ ap (λ (x : Served). Finished x.registers) (sym al);
        window = ap (λ (m : ℕ). window_of (step (after d₁ mid) last).arena g m) (sym size) ∙ alike.window ∙ ap (λ (x : Served). x.memory.window) (sym al);
        named = λ b h.
            part_agree lo n (block_length * b) block_length (step (after d₁ mid) last).store (moves job lo 0 k found).store
            (omega (arith, h.0)) (omega (arith, h.1)) (omega (arith, room.range, len)) alike.length alike.named
            ∙ ap (λ (x : Served). part block_length x.memory.store (block_length * b)) (sym al);
      }

  pub finished' : (t : List ℕ) (p : Placement) → Feeds d g t p → (mid : List Call) (last : Call) → NoneOpens (run d₁ (mid ++ last ∷ []))
      → Finishes g n d₁ mid last → stage_at (step (after d₁ mid) last).desk g ≡ Finished (alone (fed t p) r found).registers
  finished' t p te mid last no_open f = (finished mid last no_open f).row ∙ ap (λ (x : Served). Finished x.registers) (sym (alone-is t p te))

  pub counted' : (mid : List Call) (last : Call) → NoneOpens (run d₁ (mid ++ last ∷ [])) → Finishes g n d₁ mid last
      → moved g (run d₁ (mid ++ last ∷ [])) ≡ end_of d.table job
  counted' mid last no_open f = (finished mid last no_open f).number

  pub handed' : (t : List ℕ) (p : Placement) → Feeds d g t p → (mid after₁ : List Call) (last x : Call)
      → NoneOpens (run d₁ (mid ++ last ∷ (after₁ ++ x ∷ [])))
      → Finishes g n d₁ mid last
      → collects g (run (step (after d₁ mid) last).desk after₁) ≡ 0
      → x.op ≡ collect g
      → (kind_of (step (after (step (after d₁ mid) last).desk after₁) x).answer ≡ refused → ⊥)
      → (step (after (step (after d₁ mid) last).desk after₁) x).answer ≡ collected g (Ok (alone (fed t p) r found).registers)
  handed' t p te mid after₁ last x no_open f z op u =
      let d₂ : Desk = (step (after d₁ mid) last).desk in
      let o₁ : NoneOpens (run d₁ mid) = opens_front mid (last ∷ (after₁ ++ x ∷ [])) d₁ no_open in
      let o₂ = opens_cons (after d₁ mid) last (after₁ ++ x ∷ []) (opens-rest mid (last ∷ (after₁ ++ x ∷ [])) d₁ no_open) in
      let o₃ : NoneOpens (run d₂ after₁) = opens_front after₁ (x ∷ []) d₂ o₂.1 in
      let o₄ = opens_cons (after d₂ after₁) x [] (opens-rest after₁ (x ∷ []) d₂ o₂.1) in
      let inv₂ : Inv d₂ = inv_step (after d₁ mid) last (reached mid d₁ inv₁ o₁).inv o₂.0 in
      let e : stage_at (after d₂ after₁) g ≡ Finished at_end
      = still_finished after₁ d₂ inv₂ o₃ g at_end (finished mid last (opens_upto mid (after₁ ++ x ∷ []) last d₁ no_open) f).row z in
      handed-over (after d₂ after₁) (reached after₁ d₂ inv₂ o₃).inv x g at_end o₄.0 e op u
      ∙ ap (λ (s : Served). collected g (Ok s.registers)) (sym (alone-is t p te))
