-- Laws of the feed's definitions: a byte by the course and by the record that it completes, a fragment cut in two, the end, the answer.
-- Assumes nothing.
use mathlib.Core.Path.{◌≡◌, refl, sym, ap, ◌∙◌}
use mathlib.Core.Bool.{Bool, true, false}
use mathlib.Core.List.{List, [], ◌∷◌, ◌++◌}
use Prim.Native.Nat.{ℕ, ◌+◌, ◌≤◌, ◌<◌}
use native.Mathlib.Numerals.{add-one}
use lib.ListN.{length, get_or, take, drop, set, take-append-drop}
use lib.Seq.{take_all, take-suc}
use lib.Dec.{ltb}
use borrow.Author.Tests.{ltb-true, lt-ltb, le-ltb, ne_eqb}
use Rattle.logic.specs.Logic.{pick}
use Rattle.logic.proofs.LogicLaws.{both_true, impossible}
use Rattle.table.specs.declared.Table.{Table}
use Rattle.table.specs.declared.Step.TheVariants.{Next, Done, Refused as StepRefused}
use Rattle.table.specs.declared.Stepped.{Stepped}
use Rattle.table.specs.declared.Cursor.{Cursor}
use Rattle.table.specs.Table.{cut_off, byte_follows, end_length, longest_record, is_unfinished, step_at, next_place, advanced, Advances}
use Rattle.table.proofs.TableLaws.{unfinished_step}
use Rattle.feed.specs.declared.Course.{Course}
use Rattle.feed.specs.declared.Course.TheVariants.{Reading, Closed, Accepted, Refused}
use Rattle.feed.specs.declared.Feed.{Feed}
use Rattle.feed.specs.declared.Fed.{Fed}
use Rattle.feed.specs.declared.Fed.TheVariants.{More, Accepted as FedAccepted, Refused as FedRefused}
use Rattle.feed.specs.Feed.{cleared, held_with, stays_open, is_over, holding, after_step, held_byte, by_course, feed_byte, feed_all, end_by, end_feed, refused_at, answer_by, answer_of, fed_numbers}

-- ---- the record that the bytes held begin

-- a step of the cursor's from the first byte is the step there
pub begun-is : {n : Cursor} (t : List ℕ) (b : Table) (store : ℕ) → Advances t record { at = 0; step = Done; table = b } store n
    → ◌≡◌ {A = Stepped} record { step = n.step; table = n.table } (step_at t 0 b store)
unfolding advanced
begun-is t b store a = rw a.cursor

-- ---- a byte more of a record

-- by the step that was found
held_by : {m : Feed} {r : Stepped} (f : Feed) (x : ℕ) → m ≡ holding f x → r ≡ step_at (take m.filled m.held) 0 f.table f.store → after_step f x r.step r.table ≡ held_byte f x
unfolding held_byte
held_by f x m r = rw (r, m)

pub held_next : {m q : Feed} {r : Stepped} {at : ℕ} (f : Feed) (x : ℕ) → m ≡ holding f x → r ≡ step_at (take m.filled m.held) 0 f.table f.store → r.step ≡ Next at
    → q ≡ cleared f r.table Reading → q ≡ held_byte f x
unfolding after_step
held_next f x m r s q = q ∙ rw s at (held_by f x m r)

pub held-done : {m q : Feed} {r : Stepped} (f : Feed) (x : ℕ) → m ≡ holding f x → r ≡ step_at (take m.filled m.held) 0 f.table f.store → r.step ≡ Done
    → q ≡ cleared f r.table Closed → q ≡ held_byte f x
unfolding after_step
held-done f x m r s q = q ∙ rw s at (held_by f x m r)

pub held_cut : {m : Feed} {r : Stepped} {n at : ℕ} (f : Feed) (x : ℕ) → m ≡ holding f x → r ≡ step_at (take m.filled m.held) 0 f.table f.store → r.step ≡ StepRefused n at
    → n ≡ cut_off → m ≡ held_byte f x
unfolding after_step
held_cut f x m r s e = m ∙ rw (s, e) at (held_by f x m r)

pub held-refused : {m q : Feed} {r : Stepped} {n at : ℕ} (f : Feed) (x : ℕ) → m ≡ holding f x → r ≡ step_at (take m.filled m.held) 0 f.table f.store → r.step ≡ StepRefused n at
    → (n ≡ cut_off → ⊥) → q ≡ cleared f r.table (Refused n) → q ≡ held_byte f x
unfolding after_step
held-refused {n = n} f x m r s e q = q ∙ rw (s, ne_eqb n cut_off e) at (held_by f x m r)

-- ---- a byte by the course

pub byte-held : {q : Feed} (f : Feed) (x : ℕ) → f.course ≡ Reading → f.filled < longest_record → q ≡ held_byte f x → q ≡ feed_byte f x
unfolding feed_byte by_course
byte-held f x c l q =
    q ∙ sym (ap (λ (k : Course). by_course k f x) c ∙ ap (λ (b : Bool). pick b (held_byte f x) f) (lt-ltb f.filled longest_record l))

-- one that leaves the record unfinished is laid in place
pub open_is : (c : Course) (held : List ℕ) (filled x : ℕ) → stays_open c held filled x ≡ true
    → (c ≡ Reading) × (filled < longest_record) × (is_unfinished (take (filled + 1) (set held filled x)) ≡ true)
unfolding stays_open
open_is Reading held filled x e = let p = both_true (ltb filled longest_record) _ e in (refl, ltb-true filled longest_record p.0, p.1)
open_is Closed held filled x e = impossible (cc)
open_is Accepted held filled x e = impossible (cc)
open_is (Refused n) held filled x e = impossible (cc)

pub byte-open : (f : Feed) (x : ℕ) → stays_open f.course f.held f.filled x ≡ true
    → ◌≡◌ {A = Feed} record { table = f.table; store = f.store; held = held_with f x; filled = f.filled + 1; course = f.course } (feed_byte f x)
byte-open f x e =
    let p = open_is f.course f.held f.filled x e in
    let step = unfinished_step (take (f.filled + 1) (held_with f x)) f.table f.store p.2 in
    (λ i. record { table = f.table; store = f.store; held = held_with f x; filled = f.filled + 1; course = p.0 i })
    ∙ byte-held f x p.0 p.1 (held_cut f x refl refl (ap (λ (r : Stepped). r.step) step) refl)

-- as the code finds it
pub open_found : {r : Bool} (held : List ℕ) (filled x : ℕ) → filled < longest_record → r ≡ is_unfinished (take (filled + 1) (set held filled x)) → r ≡ stays_open Reading held filled x
unfolding stays_open
open_found held filled x l e = e ∙ rw (lt-ltb filled longest_record l)

pub open_full : (held : List ℕ) (filled x : ℕ) → longest_record ≤ filled → false ≡ stays_open Reading held filled x
unfolding stays_open
open_full held filled x l = rw (le-ltb filled longest_record l)

pub byte-whole : (f : Feed) (x : ℕ) → f.course ≡ Reading → longest_record ≤ f.filled → f ≡ feed_byte f x
unfolding feed_byte by_course
byte-whole f x c l = rw (c, le-ltb f.filled longest_record l)

pub byte-closed : {q : Feed} (f : Feed) (x : ℕ) → f.course ≡ Closed → q ≡ cleared f f.table (Refused byte_follows) → q ≡ feed_byte f x
unfolding feed_byte by_course
byte-closed f x c q = rw c q

pub byte-accepted : (f : Feed) (x : ℕ) → f.course ≡ Accepted → f ≡ feed_byte f x
unfolding feed_byte by_course
byte-accepted f x c = rw c

pub byte-refused : {n : ℕ} (f : Feed) (x : ℕ) → f.course ≡ Refused n → f ≡ feed_byte f x
unfolding feed_byte by_course
byte-refused f x c = rw c

-- ---- a fragment

pub feed_append : (f : Feed) (xs ys : List ℕ) → feed_all f (xs ++ ys) ≡ feed_all (feed_all f xs) ys
unfolding feed_all
feed_append f [] ys = refl
feed_append f (x ∷ xs) ys = feed_append (feed_byte f x) xs ys

-- no byte yet
pub feed_none : (f : Feed) → f ≡ feed_all f []
unfolding feed_all
feed_none f = refl

-- a byte more of a fragment
pub feed_next : (f : Feed) (l : List ℕ) (i : ℕ) → i < length l → feed_all f (take (i + 1) l) ≡ feed_byte (feed_all f (take i l)) (get_or l i 0)
unfolding feed_all
feed_next f l i h = rw (add-one i, take-suc l i 0 h) (feed_append f (take i l) (get_or l i 0 ∷ []))

-- the reader after it, from the one before it
pub feed_on : {g q : Feed} (f : Feed) (l : List ℕ) (i : ℕ) → i < length l → g ≡ feed_all f (take i l) → q ≡ feed_byte g (get_or l i 0) → q ≡ feed_all f (take (i + 1) l)
feed_on f l i h g q = q ∙ ap (λ (k : Feed). feed_byte k (get_or l i 0)) g ∙ sym (feed_next f l i h)

-- behind the last byte
pub feed_whole : {g : Feed} (f : Feed) (l : List ℕ) (i : ℕ) → length l ≤ i → g ≡ feed_all f (take i l) → g ≡ feed_all f l
feed_whole f l i h g = g ∙ ap (feed_all f) (take_all i l h)

-- ---- bytes that are ignored

pub refused-fed : (n : ℕ) (f : Feed) → f.course ≡ Refused n → (l : List ℕ) → feed_all f l ≡ f
unfolding feed_all feed_byte by_course
refused-fed n f e [] = refl
refused-fed n f e (x ∷ l) = ap (λ (c : Course). feed_all (by_course c f x) l) e ∙ refused-fed n f e l

pub accepted-fed : (f : Feed) → f.course ≡ Accepted → (l : List ℕ) → feed_all f l ≡ f
unfolding feed_all feed_byte by_course
accepted-fed f e [] = refl
accepted-fed f e (x ∷ l) = ap (λ (c : Course). feed_all (by_course c f x) l) e ∙ accepted-fed f e l

-- so nothing that follows changes a reader that is over
pub over-fed : (c : Course) (f : Feed) → f.course ≡ c → is_over c ≡ true → (l : List ℕ) → feed_all f l ≡ f
unfolding is_over
over-fed Reading f e z l = impossible (cc)
over-fed Closed f e z l = impossible (cc)
over-fed Accepted f e z l = accepted-fed f e l
over-fed (Refused n) f e z l = refused-fed n f e l

pub feed_over : {g : Feed} (f : Feed) (l : List ℕ) (i : ℕ) → g ≡ feed_all f (take i l) → is_over g.course ≡ true → g ≡ feed_all f l
feed_over {g} f l i e z =
    sym (over-fed g.course g refl z (drop i l)) ∙ ap (λ (k : Feed). feed_all k (drop i l)) e ∙ sym (feed_append f (take i l) (drop i l)) ∙ ap (feed_all f) (take-append-drop i l)

-- ---- the end of input

pub end-reading : {q : Feed} (f : Feed) → f.course ≡ Reading → q ≡ cleared f f.table (Refused cut_off) → q ≡ end_feed f
unfolding end_feed end_by
end-reading f c q = rw c q

pub end-closed : {q : Feed} (f : Feed) → f.course ≡ Closed → q ≡ cleared f f.table Accepted → q ≡ end_feed f
unfolding end_feed end_by
end-closed f c q = rw c q

pub end-accepted : (f : Feed) → f.course ≡ Accepted → f ≡ end_feed f
unfolding end_feed end_by
end-accepted f c = rw c

pub end_refused : {n : ℕ} (f : Feed) → f.course ≡ Refused n → f ≡ end_feed f
unfolding end_feed end_by
end_refused f c = rw c

-- ---- the answer

pub place-behind : {p n : ℕ} (b : Table) → p ≡ next_place b → n ≡ byte_follows → p + end_length ≡ refused_at n b
unfolding refused_at
place-behind b p e = rw (e, p)

pub place-record : {p n : ℕ} (b : Table) → p ≡ next_place b → (n ≡ byte_follows → ⊥) → p ≡ refused_at n b
unfolding refused_at
place-record {n = n} b p e = rw (ne_eqb n byte_follows e) p

pub answer-reading : (f : Feed) → f.course ≡ Reading → More ≡ answer_of f
unfolding answer_of answer_by
answer-reading f c = rw c

pub answer-closed : (f : Feed) → f.course ≡ Closed → More ≡ answer_of f
unfolding answer_of answer_by
answer-closed f c = rw c

pub answer-accepted : (f : Feed) → f.course ≡ Accepted → FedAccepted ≡ answer_of f
unfolding answer_of answer_by
answer-accepted f c = rw c

pub answer-refused : {n p : ℕ} (f : Feed) → f.course ≡ Refused n → p ≡ refused_at n f.table → FedRefused n p ≡ answer_of f
unfolding answer_of answer_by
answer-refused f c p = rw (c, p)

-- no two answers have the same numbers
pub fed-apart : (x y : Fed) → fed_numbers x ≡ fed_numbers y → x ≡ y
unfolding fed_numbers
fed-apart More More e = refl
fed-apart More FedAccepted e = impossible (cc)
fed-apart More (FedRefused n at) e = impossible (cc)
fed-apart FedAccepted More e = impossible (cc)
fed-apart FedAccepted FedAccepted e = refl
fed-apart FedAccepted (FedRefused n at) e = impossible (cc)
fed-apart (FedRefused n at) More e = impossible (cc)
fed-apart (FedRefused n at) FedAccepted e = impossible (cc)
fed-apart (FedRefused n at) (FedRefused m p) e = let x : n ≡ m = cc in let y : at ≡ p = cc in λ i. FedRefused (x i) (y i)
