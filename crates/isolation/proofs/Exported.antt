-- The exported calls are the calls of a list.
-- Assumes nothing.
use Prim.Native.Nat.{ℕ}
use mathlib.Core.Path.{◌≡◌, refl, ap, ap₂, ◌∙◌}
use mathlib.Core.Bool.{Bool, true, false}
use mathlib.Core.List.{List, [], ◌∷◌}
use lib.ListN.{length}
use lib.Dec.{ltb, eqb}
use borrow.Author.Tests.{eq-eqb, ne_eqb}
use Rattle.std.specs.Prelude.{Ok, Err, Some, None}
use Rattle.logic.proofs.LogicLaws.{pick-cases}
use Rattle.int13.specs.declared.Registers.{Registers}
use Rattle.int13.specs.declared.Outcome.{Outcome}
use Rattle.int13.specs.declared.Outcome.TheVariants.{Answered as OutcomeAnswered, Waits as OutcomeWaits}
use Rattle.memory.specs.Window.{guests, window_of}
use Rattle.desk.specs.declared.Desk.{Desk}
use Rattle.desk.specs.declared.Stage.{Stage}
use Rattle.desk.specs.declared.Stage.TheVariants.{Vacant, Waiting, Finished}
use Rattle.int13.specs.Placement.{table_count}
use Rattle.int13.specs.Steps.{fed, begin}
use Rattle.desk.specs.Parts.{window_size, stage_at, placement_at}
use Rattle.desk.specs.Acceptable.{place_ok, accept}
use Rattle.desk.specs.Calls.{OpenAnswer, WriteAnswer, PostAnswer, TurnAnswer, CollectAnswer, WithdrawAnswer, PlaceAnswer, Done, done, not_acceptable, house_tests, is_lent, post_checked, post_row, collect_stage, withdraw_stage, open_of, written_of, written_out, post_of, turn_of, collect_of, withdraw_of, place_tables, place_stage, place_of}
use Rattle.desk.specs.Numbers.{open_numbers, collect_numbers}
use Rattle.image.specs.Image.{desk_size, desk_of}
use Rattle.exports.specs.Exports.{effect, over, open_block, open_call, write_call, given, changed, post_block, post_effect, post_call, turn_block, turn_effect, turn_call, collect_block, collect_effect, collect_call, withdraw_block, withdraw_effect, withdraw_call, place_block, place_effect, place_call}
use Rattle.isolation.proofs.House.{house-any}
use Rattle.isolation.specs.Lists.{open_table, post, turn, collect, withdraw, write, place, opening, posted, turned, collected, withdrawn, written, placed, opened_desk}
use Rattle.isolation.specs.Words.{kind_of}
use Rattle.isolation.specs.DeskBlocks.{OutBlock, block_after, step_block}
use Rattle.isolation.specs.Exported.{numbers_of, does, Exported}

-- ---- the block that each call leaves

module _ (b : List ℕ) where
  open-block : (d e : Desk) (x : OpenAnswer) → open_block b e x ≡ block_after b (opened_desk d e x) (kind_of (opening x))
  open-block d e (Ok u) = refl
  open-block d e (Err x) = refl

  post-block : (g : ℕ) (o : Done PostAnswer) (x : PostAnswer) → post_block b o x ≡ block_after b o.desk (kind_of (posted g x))
  post-block g o (Ok (Some r)) = refl
  post-block g o (Ok None) = refl
  post-block g o (Err e) = refl

  turn-block : (o : Done TurnAnswer) (x : TurnAnswer) → turn_block b o x ≡ block_after b o.desk (kind_of (turned x))
  turn-block o (Ok (Some s)) = refl
  turn-block o (Ok None) = refl
  turn-block o (Err e) = refl

  collect-block : (g : ℕ) (o : Done CollectAnswer) (x : CollectAnswer) → collect_block b o x ≡ block_after b o.desk (kind_of (collected g x))
  collect-block g o (Ok r) = refl
  collect-block g o (Err e) = refl

  withdraw-block : (g : ℕ) (o : Done WithdrawAnswer) (x : WithdrawAnswer) → withdraw_block b o x ≡ block_after b o.desk (kind_of (withdrawn g x))
  withdraw-block g o (Ok r) = refl
  withdraw-block g o (Err e) = refl

  place-block : (g address : ℕ) (o : Done PlaceAnswer) (x : PlaceAnswer) → place_block b o x ≡ block_after b o.desk (kind_of (placed g address x))
  place-block g address o (Ok u) = refl
  place-block g address o (Err e) = refl

-- ---- what each call leaves as it was

post-store : (d : Desk) (g : ℕ) (r : Registers) (arena store : List ℕ) → (post_of d g r arena store).store ≡ store
unfolding post_of
post-store d g r arena store =
    house-any P (λ e. done d (Err e) arena store) _ (accept d) (is_lent d arena store) (ltb g guests) (λ e. refl) (row (stage_at d g))
  where
    P : Done PostAnswer → Type 0
    P o = o.store ≡ store

    checked : (x : Outcome) (w : List ℕ) → (post_checked d g arena store x w).store ≡ store
    checked (OutcomeAnswered y) w = refl
    checked (OutcomeWaits j) w = refl

    row : (x : Stage) → (post_row d g r arena store x).store ≡ store
    row Vacant =
        checked (begin (fed d.table (placement_at d g)) r (window_of arena g (window_size d))).outcome
        (begin (fed d.table (placement_at d g)) r (window_of arena g (window_size d))).window
    row (Waiting q) = refl
    row (Finished y) = refl

withdraw-store : (d : Desk) (g : ℕ) (arena store : List ℕ) → (withdraw_of d g arena store).store ≡ store
unfolding withdraw_of
withdraw-store d g arena store =
    house-any P (λ e. done d (Err e) arena store) _ (accept d) (is_lent d arena store) (ltb g guests) (λ e. refl) (row (stage_at d g))
  where
    P : Done WithdrawAnswer → Type 0
    P o = o.store ≡ store

    row : (x : Stage) → (withdraw_stage d g x arena store).store ≡ store
    row Vacant = refl
    row (Waiting q) = refl
    row (Finished y) = refl

place-store : (d : Desk) (g address : ℕ) (arena store : List ℕ) → (place_of d g address arena store).store ≡ store
unfolding place_of
place-store d g address arena store =
    house-any P (λ e. done d (Err e) arena store) _ (accept d) (is_lent d arena store) (ltb g guests) (λ e. refl) (row (stage_at d g))
  where
    P : Done PlaceAnswer → Type 0
    P o = o.store ≡ store

    tables : (place_tables d g address arena store).store ≡ store
    tables = pick-cases P (place_ok (table_count d.table) (window_size d) address) _ _ (λ e. refl) (λ e. refl)

    row : (x : Stage) → (place_stage d g address x arena store).store ≡ store
    row Vacant = tables
    row (Waiting q) = refl
    row (Finished y) = tables

collect-memory : (d : Desk) (g : ℕ) (arena store : List ℕ) → ((collect_of d g arena store).arena ≡ arena) × ((collect_of d g arena store).store ≡ store)
unfolding collect_of
collect-memory d g arena store =
    house-any P (λ e. done d (Err e) arena store) _ (accept d) true (ltb g guests) (λ e. (refl, refl)) (row (stage_at d g))
  where
    P : Done CollectAnswer → Type 0
    P o = (o.arena ≡ arena) × (o.store ≡ store)

    row : (x : Stage) → ((collect_stage d g x arena store).arena ≡ arena) × ((collect_stage d g x arena store).store ≡ store)
    row Vacant = (refl, refl)
    row (Waiting q) = (refl, refl)
    row (Finished y) = (refl, refl)

-- a collect has the same answer and desk whatever arena and store there are
pub record Alike (x y : Done CollectAnswer) : Type 0 where
  pub desk : x.desk ≡ y.desk
  pub answer : x.answer ≡ y.answer

-- by the two tests and the stage
abbrev collect_by : Desk → ℕ → Bool → Bool → Stage → List ℕ → List ℕ → Done CollectAnswer
collect_by d g p q x a s = house_tests p true q (λ e. done d (Err e) a s) (collect_stage d g x a s)

collect_alike : (d : Desk) (g : ℕ) (a s a' s' : List ℕ) → Alike (collect_of d g a s) (collect_of d g a' s')
unfolding collect_of
collect_alike d g a s a' s' = go (accept d) (ltb g guests) (stage_at d g)
  where
    go : (p q : Bool) (x : Stage) → Alike (collect_by d g p q x a s) (collect_by d g p q x a' s')
    go false q x = record { desk = refl; answer = refl }
    go true false x = record { desk = refl; answer = refl }
    go true true Vacant = record { desk = refl; answer = refl }
    go true true (Waiting y) = record { desk = refl; answer = refl }
    go true true (Finished y) = record { desk = refl; answer = refl }

module _ (b arena store : List ℕ) where
  at_open : (t : List ℕ) (a s at : ℕ) → length b ≡ desk_size
      → open_call b t a s at ≡ effect (over (numbers_of (does b arena store (open_table t a s)).answer) (0 ∷ at ∷ [])) ((does b arena store (open_table t a s)).block ∷ [])
  unfolding open_call step_block
  at_open t a s at l =
      rw (eq-eqb (length b) desk_size l)
      (ap (λ (y : List ℕ). effect (over (open_numbers (open_of t a s).answer) (0 ∷ at ∷ [])) (y ∷ []))
      (open-block b (desk_of b) (open_of t a s).desk (open_of t a s).answer))

  at_other : (t : List ℕ) (a s at : ℕ) → (length b ≡ desk_size → ⊥) → open_call b t a s at ≡ effect (not_acceptable ∷ at ∷ []) ((does b arena store (open_table t a s)).block ∷ [])
  unfolding open_call step_block
  at_other t a s at n = rw (ne_eqb (length b) desk_size n)

  at_post : (g ax bx cx dx ds si es carry : ℕ)
      → post_call b arena store g ax bx cx dx ds si es carry
      ≡ effect (changed (numbers_of (does b arena store (post g (given ax bx cx dx ds si es))).answer) ax bx cx dx carry)
      ((does b arena store (post g (given ax bx cx dx ds si es))).block ∷ (does b arena store (post g (given ax bx cx dx ds si es))).arena ∷ [])
  unfolding post_call step_block
  at_post g ax bx cx dx ds si es carry =
      let o = post_of (desk_of b) g (given ax bx cx dx ds si es) arena store in
      ap (λ (y : List ℕ). effect (post_effect b o ax bx cx dx carry).numbers (y ∷ o.arena ∷ [])) (post-block b g o o.answer)

  at_turn : (g n : ℕ)
      → turn_call b arena store g n
      ≡ effect (over (numbers_of (does b arena store turn).answer) (0 ∷ g ∷ n ∷ []))
      ((does b arena store turn).block ∷ (does b arena store turn).arena ∷ (does b arena store turn).store ∷ [])
  unfolding turn_call step_block
  at_turn g n =
      let o = turn_of (desk_of b) arena store in
      ap (λ (y : List ℕ). effect (turn_effect b o g n).numbers (y ∷ o.arena ∷ o.store ∷ [])) (turn-block b o o.answer)

  at_collect : (g : ℕ) (stood : List ℕ)
      → collect_call b g stood ≡ effect (over (numbers_of (does b arena store (collect g)).answer) (0 ∷ stood)) ((does b arena store (collect g)).block ∷ [])
  unfolding collect_call step_block
  at_collect g stood =
      let o = collect_of (desk_of b) g [] [] in
      let e = collect_alike (desk_of b) g [] [] arena store in
      ap (λ (y : List ℕ). effect (collect_effect b o stood).numbers (y ∷ [])) (collect-block b g o o.answer)
      ∙ ap₂ (λ (d : Desk) (x : CollectAnswer). effect (over (collect_numbers x) (0 ∷ stood)) (block_after b d (kind_of (collected g x)) ∷ [])) e.desk e.answer

  at_withdraw : (g : ℕ) (stood : List ℕ)
      → withdraw_call b arena store g stood
      ≡ effect (over (numbers_of (does b arena store (withdraw g)).answer) (0 ∷ stood)) ((does b arena store (withdraw g)).block ∷ (does b arena store (withdraw g)).arena ∷ [])
  unfolding withdraw_call step_block
  at_withdraw g stood =
      let o = withdraw_of (desk_of b) g arena store in
      ap (λ (y : List ℕ). effect (withdraw_effect b o stood).numbers (y ∷ o.arena ∷ [])) (withdraw-block b g o o.answer)

  at_place : (g address : ℕ)
      → place_call b arena store g address
      ≡ effect (numbers_of (does b arena store (place g address)).answer) ((does b arena store (place g address)).block ∷ (does b arena store (place g address)).arena ∷ [])
  unfolding place_call step_block
  at_place g address =
      let o = place_of (desk_of b) g address arena store in
      ap (λ (y : List ℕ). effect (place_effect b o).numbers (y ∷ o.arena ∷ [])) (place-block b g address o o.answer)

  open-leaves : (t : List ℕ) (a s : ℕ) → ((does b arena store (open_table t a s)).arena ≡ arena) × ((does b arena store (open_table t a s)).store ≡ store)
  unfolding step_block
  open-leaves t a s =
      pick-cases (λ (o : OutBlock). (o.arena ≡ arena) × (o.store ≡ store)) (eqb (length b) desk_size) _ _ (λ e. (refl, refl)) (λ e. (refl, refl))

  write-block : (out : List ℕ) → (does b arena store (write out)).block ≡ b
  unfolding step_block
  write-block out = go (written_of (desk_of b) (length out))
    where
      go : (x : WriteAnswer) → block_after b (desk_of b) (kind_of (written x (written_out (desk_of b) out))) ≡ b
      go (Ok n) = refl
      go (Err e) = refl

  pub exported : Exported b arena store
  unfolding write_call step_block
  exported =
      record {
        open_at = at_open;
        open_other = at_other;
        write_at = λ out n. refl;
        post_at = at_post;
        turn_at = at_turn;
        collect_at = at_collect;
        withdraw_at = at_withdraw;
        place_at = at_place;
        open_leaves = open-leaves;
        write_leaves = λ out. (write-block out, refl, refl);
        post_leaves = λ g r. post-store (desk_of b) g r arena store;
        collect_leaves = λ g. collect-memory (desk_of b) g arena store;
        withdraw_leaves = λ g. withdraw-store (desk_of b) g arena store;
        place_leaves = λ g address. place-store (desk_of b) g address arena store;
      }
