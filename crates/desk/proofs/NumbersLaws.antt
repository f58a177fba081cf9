-- Whoever answers with a call's definition answers with the paper's numbers.
-- Assumes nothing.
use mathlib.Core.Path.{◌≡◌, refl, sym, ap, ◌∙◌}
use mathlib.Core.Bool.{Bool, true, false}
use mathlib.Core.List.{List, [], ◌∷◌}
use Prim.Native.Nat.{ℕ, ◌/◌, ◌<◌}
use native.Mathlib.Omega.{arith}
use lib.ListN.{length, drop}
use lib.Dec.{ltb, eqb}
use Rattle.logic.specs.Logic.{pick}
use Rattle.logic.proofs.LogicLaws.{impossible}
use Rattle.memory.specs.Window.{window_of}
use Rattle.std.specs.Prelude.{Result, Ok, Err, Option, Some, None}
use Rattle.table.specs.declared.ShortBuffer.{ShortBuffer}
use Rattle.table.specs.Table.{read_table, answer_numbers, written_numbers as table_written_numbers, write_answer}
use Rattle.table.proofs.TableLaws.{number-apart as refusal-apart, reads-is, write-numbers}
use Rattle.int13.specs.declared.Registers.{Registers}
use Rattle.int13.specs.declared.Outcome.{Outcome}
use Rattle.int13.specs.declared.Outcome.TheVariants.{Answered, Waits}
use Rattle.int13.specs.Answers.{outcome_numbers}
use Rattle.int13.specs.Placement.{table_count}
use Rattle.int13.proofs.Numbers.{registers-apart, begin_answered}
use Rattle.desk.specs.declared.Stage.{Stage}
use Rattle.desk.specs.declared.Stage.TheVariants.{Vacant, Waiting, Finished}
use Rattle.desk.specs.declared.Desk.{Desk}
use Rattle.desk.specs.declared.After.{After}
use Rattle.desk.specs.declared.HouseNumber.{HouseNumber}
use Rattle.desk.specs.declared.HouseNumber.TheVariants.{NoGuest, NotVacant, NotFinished, NotWaiting, OtherLength, NotAcceptable, BadPlace, ShortBuffer as NoRoom}
use Rattle.desk.specs.Parts.{stage_at, placement_at}
use Rattle.desk.specs.Acceptable.{place_ok, accept}
use Rattle.desk.specs.Calls.{OpenAnswer, WriteAnswer, PostAnswer, TurnAnswer, CollectAnswer, WithdrawAnswer, PlaceAnswer, number, house_tests, is_lent, Done, done, open_of, table_written, written_of, written_out, post_checked, post_row, post_of, first_waiting, moves_now, serve_stage, turn_next, turn_of, collect_stage, collect_of, withdraw_stage, withdraw_of, place_tables, place_stage, place_of}
use Rattle.desk.specs.Numbers.{open_numbers, written_numbers, post_numbers, turn_numbers, collect_numbers, withdraw_numbers, place_numbers, house_first, open_given, write_given, post_steps_given, post_row_given, post_given, turn_row_given, turn_next_given, turn_given, collect_row_given, collect_given, withdraw_row_given, withdraw_given, place_tests_given, place_row_given, place_given}

-- numbers go through the tests before the row's
house-numbers : {A : Type 0} (f : A → List ℕ) (refused : HouseNumber → A) (x : A) (own : List ℕ) (a l g : Bool) → ((e : HouseNumber) → f (refused e) ≡ number e ∷ []) → f x ≡ own
    → f (house_tests a l g refused x) ≡ house_first a l g own
house-numbers f refused x own false l g n e = n NotAcceptable
house-numbers f refused x own true false g n e = n OtherLength
house-numbers f refused x own true true false n e = n NoGuest
house-numbers f refused x own true true true n e = e

-- ---- open

open-same : (a : OpenAnswer) → open_numbers a ≡ answer_numbers a
unfolding open_numbers answer_numbers
open-same (Ok x) = refl
open-same (Err e) = refl

pub open_answered : {r : After OpenAnswer} (t : List ℕ) (arena store : ℕ) → r ≡ open_of t arena store → (r ≡ open_of t arena store) × (open_numbers r.answer ≡ open_given t store)
unfolding open_of open_given
open_answered t arena store e =
    (e, ap (λ (x : After OpenAnswer). open_numbers x.answer) e ∙ open-same (read_table t (store / 512)).answer ∙ (reads-is t (store / 512) refl).numbers)

-- ---- write

written-same : (a : Result ℕ ShortBuffer) → written_numbers (table_written a) ≡ table_written_numbers a
unfolding written_numbers table_written_numbers
written-same (Ok n) = refl
written-same (Err e) = refl

pub write_answered : {r : WriteAnswer} {o : List ℕ} (d : Desk) (out : List ℕ) → r ≡ written_of d (length out) → o ≡ written_out d out
    → (r ≡ written_of d (length out)) × (o ≡ written_out d out) × (written_numbers r ≡ write_given d (length out))
unfolding written_of write_given written_numbers
write_answered d out e f =
    (e, f, ap written_numbers e ∙ house-numbers written_numbers Err (table_written (write_answer d.table (length out))) _ (accept d) true true (λ n. refl) (written-same (write_answer d.table (length out)) ∙ write-numbers d.table (length out) refl))

-- ---- post

abbrev posts : Done PostAnswer → List ℕ
posts x = post_numbers x.answer

post-checked : (d : Desk) (g : ℕ) (arena store : List ℕ) (o : Outcome) (w : List ℕ) → posts (post_checked d g arena store o w) ≡ post_steps_given (outcome_numbers o)
unfolding post_numbers outcome_numbers
post-checked d g arena store (Answered r) w = refl
post-checked d g arena store (Waits j) w = refl

post-row : (d : Desk) (g : ℕ) (r : Registers) (arena store : List ℕ) (s : Stage) → posts (post_row d g r arena store s) ≡ post_row_given d g r arena s
unfolding post_numbers
post-row d g r arena store Vacant =
    post-checked d g arena store _ _ ∙ ap post_steps_given (begin_answered d.table (placement_at d g) r (window_of arena g (d.arena / 8)) refl refl).2
post-row d g r arena store (Waiting q) = refl
post-row d g r arena store (Finished x) = refl

pub post_answered : {x : Done PostAnswer} (d : Desk) (g : ℕ) (r : Registers) (arena store : List ℕ) → x ≡ post_of d g r arena store
    → (x ≡ post_of d g r arena store) × (post_numbers x.answer ≡ post_given d g r arena store)
unfolding post_of post_given post_numbers
post_answered d g r arena store e =
    (e, ap posts e ∙ house-numbers posts (λ e. done d (Err e) arena store) _ _ (accept d) (is_lent d arena store) (ltb g 8) (λ n. refl) (post-row d g r arena store (stage_at d g)))

-- ---- turn

abbrev turns : Done TurnAnswer → List ℕ
turns x = turn_numbers x.answer

turn_row : (d : Desk) (g : ℕ) (s : Stage) (arena store : List ℕ) → turns (serve_stage d g s arena store) ≡ turn_row_given d.table g s
unfolding turn_numbers moves_now
turn_row d g Vacant arena store = refl
turn_row d g (Waiting q) arena store = refl
turn_row d g (Finished r) arena store = refl

turn_found : (d : Desk) (n : Option ℕ) (arena store : List ℕ) → turns (turn_next d n arena store) ≡ turn_next_given d n
unfolding turn_numbers
turn_found d None arena store = refl
turn_found d (Some g) arena store = turn_row d g (stage_at d g) arena store

pub turn_answered : {x : Done TurnAnswer} (d : Desk) (arena store : List ℕ) → x ≡ turn_of d arena store
    → (x ≡ turn_of d arena store) × (turn_numbers x.answer ≡ turn_given d arena store)
unfolding turn_of turn_given turn_numbers
turn_answered d arena store e =
    (e, ap turns e ∙ house-numbers turns (λ e. done d (Err e) arena store) _ _ (accept d) (is_lent d arena store) true (λ n. refl) (turn_found d (first_waiting d.rows 8 d.pointer) arena store))

-- ---- collect

abbrev collects : Done CollectAnswer → List ℕ
collects x = collect_numbers x.answer

collect_row : (d : Desk) (g : ℕ) (s : Stage) → collects (collect_stage d g s [] []) ≡ collect_row_given s
unfolding collect_numbers
collect_row d g Vacant = refl
collect_row d g (Waiting q) = refl
collect_row d g (Finished r) = refl

pub collect_answered : {desk : Desk} {answer : CollectAnswer} (d : Desk) (g : ℕ) → ((arena store : List ℕ) → done desk answer arena store ≡ collect_of d g arena store)
    → ((arena store : List ℕ) → done desk answer arena store ≡ collect_of d g arena store) × (collect_numbers answer ≡ collect_given d g)
unfolding collect_of collect_given collect_numbers
collect_answered d g e =
    (e, ap collects (e [] []) ∙ house-numbers collects (λ e. done d (Err e) [] []) _ _ (accept d) true (ltb g 8) (λ n. refl) (collect_row d g (stage_at d g)))

-- ---- withdraw

abbrev withdraws : Done WithdrawAnswer → List ℕ
withdraws x = withdraw_numbers x.answer

withdraw_row : (d : Desk) (g : ℕ) (s : Stage) (arena store : List ℕ) → withdraws (withdraw_stage d g s arena store) ≡ withdraw_row_given s
unfolding withdraw_numbers
withdraw_row d g Vacant arena store = refl
withdraw_row d g (Waiting q) arena store = refl
withdraw_row d g (Finished r) arena store = refl

pub withdraw_answered : {x : Done WithdrawAnswer} (d : Desk) (g : ℕ) (arena store : List ℕ) → x ≡ withdraw_of d g arena store
    → (x ≡ withdraw_of d g arena store) × (withdraw_numbers x.answer ≡ withdraw_given d g arena store)
unfolding withdraw_of withdraw_given withdraw_numbers
withdraw_answered d g arena store e =
    (e, ap withdraws e ∙ house-numbers withdraws (λ e. done d (Err e) arena store) _ _ (accept d) (is_lent d arena store) (ltb g 8) (λ n. refl) (withdraw_row d g (stage_at d g) arena store))

-- ---- place

abbrev places : Done PlaceAnswer → List ℕ
places x = place_numbers x.answer

place_picks : (t : Bool) (x : Done PlaceAnswer) (d : Desk) (arena store : List ℕ) → x.answer ≡ Ok tt → places (pick t x (done d (Err BadPlace) arena store)) ≡ pick t (0 ∷ []) (26 ∷ [])
unfolding place_numbers
place_picks true x d arena store e = rw e
place_picks false x d arena store e = refl

-- the place as the paper has it
place_tests : (d : Desk) (g address : ℕ) (arena store : List ℕ) → places (place_tables d g address arena store) ≡ place_tests_given (table_count d.table) (d.arena / 8) address
unfolding place_ok
place_tests d g address arena store = place_picks (place_ok (table_count d.table) (d.arena / 8) address) _ d arena store refl

place_row : (d : Desk) (g address : ℕ) (s : Stage) (arena store : List ℕ) → places (place_stage d g address s arena store) ≡ place_row_given d address s
unfolding place_numbers
place_row d g address Vacant arena store = place_tests d g address arena store
place_row d g address (Waiting q) arena store = refl
place_row d g address (Finished r) arena store = place_tests d g address arena store

pub place_answered : {x : Done PlaceAnswer} (d : Desk) (g address : ℕ) (arena store : List ℕ) → x ≡ place_of d g address arena store
    → (x ≡ place_of d g address arena store) × (place_numbers x.answer ≡ place_given d g address arena store)
unfolding place_of place_given place_numbers
place_answered d g address arena store e =
    (e, ap places e ∙ house-numbers places (λ e. done d (Err e) arena store) _ _ (accept d) (is_lent d arena store) (ltb g 8) (λ n. refl) (place_row d g address (stage_at d g) arena store))

-- ---- no two answers have the same numbers

-- the refusal of a house number
named : ℕ → HouseNumber
named n =
    pick (eqb n 20) NoGuest
    (pick (eqb n 21) NotVacant
    (pick (eqb n 22) NotFinished
    (pick (eqb n 23) NotWaiting
    (pick (eqb n 24) OtherLength
    (pick (eqb n 25) NotAcceptable
    (pick (eqb n 26) BadPlace NoRoom))))))

named-number : (e : HouseNumber) → named (number e) ≡ e
unfolding named
named-number NoGuest = refl
named-number NotVacant = refl
named-number NotFinished = refl
named-number NotWaiting = refl
named-number OtherLength = refl
named-number NotAcceptable = refl
named-number BadPlace = refl
named-number NoRoom = refl

-- no two refusals have the same number
pub number-apart : (d e : HouseNumber) → number d ≡ number e → d ≡ e
number-apart d e h = sym (named-number d) ∙ ap named h ∙ named-number e

-- and each is a byte that is not 0
pub number-byte : (e : HouseNumber) → (0 < number e) × (number e < 256)
number-byte NoGuest = (omega arith, omega arith)
number-byte NotVacant = (omega arith, omega arith)
number-byte NotFinished = (omega arith, omega arith)
number-byte NotWaiting = (omega arith, omega arith)
number-byte OtherLength = (omega arith, omega arith)
number-byte NotAcceptable = (omega arith, omega arith)
number-byte BadPlace = (omega arith, omega arith)
number-byte NoRoom = (omega arith, omega arith)

pub open-apart : (x y : OpenAnswer) → open_numbers x ≡ open_numbers y → x ≡ y
unfolding open_numbers
open-apart (Ok x) (Ok y) e = refl
open-apart (Ok x) (Err b) e = impossible (cc)
open-apart (Err a) (Ok y) e = impossible (cc)
open-apart (Err a) (Err b) e =
    let refusal : a.refusal ≡ b.refusal = refusal-apart a.refusal b.refusal (cc) in
    let place : a.place ≡ b.place = cc in
    λ i. Err (record { refusal = refusal i; place = place i })

pub written-apart : (x y : WriteAnswer) → written_numbers x ≡ written_numbers y → x ≡ y
unfolding written_numbers
written-apart (Ok m) (Ok n) e = cc
written-apart (Ok m) (Err b) e = impossible (cc)
written-apart (Err a) (Ok n) e = impossible (cc)
written-apart (Err a) (Err b) e = ap Err (number-apart a b (cc))

-- 256 is the list of a post that waits, and no house number is so high
pub post-apart : (x y : PostAnswer) → post_numbers x ≡ post_numbers y → x ≡ y
unfolding post_numbers
post-apart (Ok (Some r)) (Ok (Some s)) e = ap (λ (x : Registers). Ok (Some x)) (registers-apart r s (ap (drop 1) e))
post-apart (Ok (Some r)) (Ok None) e = impossible (cc)
post-apart (Ok (Some r)) (Err b) e = impossible (cc)
post-apart (Ok None) (Ok (Some s)) e = impossible (cc)
post-apart (Ok None) (Ok None) e = refl
post-apart (Ok None) (Err b) e = let z : 256 ≡ number b = cc in absurd (omega (arith, (number-byte b).1))
post-apart (Err a) (Ok (Some s)) e = impossible (cc)
post-apart (Err a) (Ok None) e = let z : number a ≡ 256 = cc in absurd (omega (arith, (number-byte a).1))
post-apart (Err a) (Err b) e = ap Err (number-apart a b (cc))

-- as at a post, of an idle turn
pub turn-apart : (x y : TurnAnswer) → turn_numbers x ≡ turn_numbers y → x ≡ y
unfolding turn_numbers
turn-apart (Ok (Some s)) (Ok (Some t)) e =
    let guest : s.guest ≡ t.guest = cc in
    let moved : s.moved ≡ t.moved = cc in
    λ i. Ok (Some (record { guest = guest i; moved = moved i }))
turn-apart (Ok (Some s)) (Ok None) e = impossible (cc)
turn-apart (Ok (Some s)) (Err b) e = impossible (cc)
turn-apart (Ok None) (Ok (Some t)) e = impossible (cc)
turn-apart (Ok None) (Ok None) e = refl
turn-apart (Ok None) (Err b) e = let z : 256 ≡ number b = cc in absurd (omega (arith, (number-byte b).1))
turn-apart (Err a) (Ok (Some t)) e = impossible (cc)
turn-apart (Err a) (Ok None) e = let z : number a ≡ 256 = cc in absurd (omega (arith, (number-byte a).1))
turn-apart (Err a) (Err b) e = ap Err (number-apart a b (cc))

pub collect-apart : (x y : CollectAnswer) → collect_numbers x ≡ collect_numbers y → x ≡ y
unfolding collect_numbers
collect-apart (Ok r) (Ok s) e = ap (λ (x : Registers). Ok x) (registers-apart r s (ap (drop 1) e))
collect-apart (Ok r) (Err b) e = impossible (cc)
collect-apart (Err a) (Ok s) e = impossible (cc)
collect-apart (Err a) (Err b) e = ap Err (number-apart a b (cc))

pub withdraw-apart : (x y : WithdrawAnswer) → withdraw_numbers x ≡ withdraw_numbers y → x ≡ y
unfolding withdraw_numbers
withdraw-apart (Ok r) (Ok s) e = ap (λ (x : Registers). Ok x) (registers-apart r s (ap (drop 1) e))
withdraw-apart (Ok r) (Err b) e = impossible (cc)
withdraw-apart (Err a) (Ok s) e = impossible (cc)
withdraw-apart (Err a) (Err b) e = ap Err (number-apart a b (cc))

-- 0 is the list of tables that are placed, and no house number is 0
pub place-apart : (x y : PlaceAnswer) → place_numbers x ≡ place_numbers y → x ≡ y
unfolding place_numbers
place-apart (Ok x) (Ok y) e = refl
place-apart (Ok x) (Err b) e = let z : 0 ≡ number b = cc in absurd (omega (arith, (number-byte b).0))
place-apart (Err a) (Ok y) e = let z : number a ≡ 0 = cc in absurd (omega (arith, (number-byte a).0))
place-apart (Err a) (Err b) e = ap Err (number-apart a b (cc))
