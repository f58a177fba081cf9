-- However the bytes of a drive table are cut, the reader that is fed them says what the reading of the whole says.
-- Assumes nothing.
use Rattle.std.specs.Prelude.{Ok, Err}
use Prim.Native.Nat.{ℕ, zero, suc, ◌+◌, ◌≤◌, ◌<◌}
use mathlib.Core.Path.{◌≡◌, refl, sym, ap, ◌∙◌, subst}
use mathlib.Core.Logic.{◌≢◌}
use mathlib.Core.List.{List, [], ◌∷◌, ◌++◌, append-nil, append_assoc}
use native.Mathlib.Numerals.{add-one}
use native.Mathlib.Omega.{arith}
use lib.ListN.{length, take, drop, replicate, length-append, length-take, length-drop, length-set, length-replicate, drop_of_length-le}
use lib.Seq.{take-suc-set, drop-append-le}
use borrow.Author.Tests.{lt-ltb, ne_eqb}
use Rattle.logic.proofs.LogicLaws.{impossible}
use Rattle.words.specs.Words.{Bytes}
use Rattle.table.specs.declared.Table.{Table}
use Rattle.table.specs.declared.Step.TheVariants.{Next, Done, Refused as StepRefused}
use Rattle.table.specs.declared.Stepped.{Stepped}
use Rattle.table.specs.declared.Reading.{Reading as TableReading}
use Rattle.table.specs.Table.{number, named, refused, stepped, step_at, reading, go_on, read_from, read_table, next_place}
use Rattle.table.proofs.Enough.{one_more}
use Rattle.table.proofs.Sound.{So, so_empty}
use Rattle.table.proofs.Places.{Taken, Steps, place_empty, place-most, begin-few, Begin, begin-none, begin_last, begun-cases}
use Rattle.feed.specs.declared.Course.{Course}
use Rattle.feed.specs.declared.Course.TheVariants.{Reading, Closed, Accepted, Refused}
use Rattle.feed.specs.declared.Feed.{Feed}
use Rattle.feed.specs.declared.Fed.TheVariants.{More, Accepted as FedAccepted, Refused as FedRefused}
use Rattle.feed.specs.Feed.{opened, cleared, held_with, holding, after_step, held_byte, by_course, feed_byte, feed_all, feeds, end_by, end_feed, refused_at, answer_by, answer_of}
use Rattle.feed.proofs.FeedLaws.{refused-fed, accepted-fed}
use Rattle.feed.specs.Arrives.{joined, told, so_far, Settles, Stays, Arrives}

-- ---- what a reader's course says of the bytes so far

-- while it reads: the bytes of its drives' records and those held, which settle nothing, and the reading of whatever they begin goes on from there
record IsReading (t : List ℕ) (f : Feed) : Type 0 where
  so : So f.store f.table
  room : length f.held ≡ 134
  all : length t ≡ next_place f.table + f.filled
  rest : drop (next_place f.table) t ≡ take f.filled f.held
  part : Begin (take f.filled f.held)
  reads : (q : List ℕ) → read_from 25 (t ++ q) f.store (next_place f.table) f.table ≡ read_table (t ++ q) f.store

-- behind the end record: a table, and 8 with any byte more
record IsClosed (t : List ℕ) (f : Feed) : Type 0 where
  whole : read_table t f.store ≡ reading (Ok tt) f.table
  byte : (x : ℕ) (q : List ℕ) → read_table (t ++ (x ∷ q)) f.store ≡ reading (Err (refused 8 (next_place f.table + 4))) f.table
  few : length t ≤ 1844
  bare : f.filled ≡ 0

-- refused: so is whatever they begin
record IsRefused (n : ℕ) (t : List ℕ) (f : Feed) : Type 0 where
  named : number (named n) ≡ n
  other : n ≢ 1
  reads : (q : List ℕ) → read_table (t ++ q) f.store ≡ reading (Err (refused n (refused_at n f.table))) f.table
  bare : f.filled ≡ 0

place-else : (n : ℕ) (b : Table) → n ≢ 8 → refused_at n b ≡ next_place b
unfolding refused_at
place-else n b z = rw (ne_eqb n 8 z)

-- by the course; no bytes alone lead to acceptance
abbrev By : Course → List ℕ → Feed → Type 0
By Reading t f = IsReading t f
By Closed t f = IsClosed t f
By Accepted t f = ⊥
By (Refused n) t f = IsRefused n t f

record Tracks (store : ℕ) (t : List ℕ) (f : Feed) : Type 0 where
  kept : f.store ≡ store
  by : By f.course t f

-- ---- a byte more

-- a reading by its first step
read_step : (s : Stepped) (t : List ℕ) (store at : ℕ) (b : Table) → step_at t at b store ≡ s → read_from 25 t store at b ≡ go_on s.step s.table (read_from 24 t store)
unfolding read_from
read_step s t store at b e = rw e

module _ (t : List ℕ) (f : Feed) (x : ℕ) (i : IsReading t f) where
  abbrev at : ℕ
  at = next_place f.table

  abbrev bytes : List ℕ
  bytes = t ++ (x ∷ [])

  abbrev begins : List ℕ
  begins = take (f.filled + 1) (held_with f x)

  in_room : f.filled < 134
  in_room = omega (arith, begin-few (take f.filled f.held) i.part, length-take f.filled f.held, i.room)

  begins-whole : begins ≡ take f.filled f.held ++ (x ∷ [])
  begins-whole = rw add-one (take-suc-set f.held f.filled x (omega (arith, in_room, i.room)))

  all-bytes : length bytes ≡ at + (f.filled + 1)
  all-bytes = omega (arith, length-append t (x ∷ []), i.all)

  follows : drop at bytes ≡ begins
  follows = drop-append-le at t (x ∷ []) (omega (arith, i.all)) ∙ ap (λ (l : List ℕ). l ++ (x ∷ [])) i.rest ∙ sym begins-whole

  follows_on : (q : List ℕ) → drop at (bytes ++ q) ≡ begins ++ q
  follows_on q = drop-append-le at bytes q (omega (arith, all-bytes)) ∙ ap (λ (l : List ℕ). l ++ q) follows

  on : (q : List ℕ) → read_from 25 (bytes ++ q) f.store at f.table ≡ read_table (bytes ++ q) f.store
  on q = rw (append_assoc t (x ∷ []) q) (i.reads ((x ∷ []) ++ q))

  byte-stays : Begin begins → Tracks f.store bytes (holding f x)
  byte-stays e =
      record {
        kept = refl;
        by = record { so = i.so; room = length-set f.held f.filled x ∙ i.room; all = all-bytes; rest = follows; part = e; reads = on };
      }

  byte-refused : (n : ℕ) → number (named n) ≡ n → n ≢ 1 → n ≢ 8 → Steps begins f.table f.store (λ (p : ℕ). stepped (StepRefused n p) f.table)
      → Tracks f.store bytes (cleared f f.table (Refused n))
  byte-refused n m z y steps =
      record {
        kept = refl;
        by = record { named = m; other = z; reads = λ q. rw (place-else n f.table y) (sym (on q) ∙ read_step _ (bytes ++ q) f.store at f.table (steps (bytes ++ q) q at (follows_on q))); bare = refl };
      }

  byte-closed : length begins ≡ 4 → ((s : List ℕ) (p : ℕ) → drop p s ≡ begins → step_at s p f.table f.store ≡ stepped Done f.table)
      → ((s : List ℕ) (p y : ℕ) (q : List ℕ) → drop p s ≡ begins ++ (y ∷ q) → step_at s p f.table f.store ≡ stepped (StepRefused 8 (p + 4)) f.table)
      → Tracks f.store bytes (cleared f f.table Closed)
  byte-closed l last more =
      record {
        kept = refl;
        by =
            record {
              whole = rw append-nil at (sym (on [])) ∙ read_step _ bytes f.store at f.table (last bytes at follows);
              byte = λ y q. sym (on (y ∷ q)) ∙ read_step _ (bytes ++ (y ∷ q)) f.store at f.table (more (bytes ++ (y ∷ q)) at y q (follows_on (y ∷ q)));
              few = omega (arith, place-most f.store f.table i.so, length-drop at bytes, ap length follows, l, all-bytes);
              bare = refl;
            };
      }

  byte-taken : (m : ℕ) (next : Table) → length begins ≡ m → Taken f.store m f.table next → Steps begins f.table f.store (λ (p : ℕ). stepped (Next (p + m)) next)
      → Tracks f.store bytes (cleared f next Reading)
  byte-taken m next l k steps =
      let n : length bytes ≡ next_place next = omega (arith, k.place, length-drop at bytes, ap length follows, l, all-bytes) in
      record {
        kept = refl;
        by =
            record {
              so = k.so;
              room = refl;
              all = omega arith;
              rest = drop_of_length-le bytes {i = next_place next} (omega arith);
              part = begin-none;
              reads = λ q.
                  rw k.place (one_more 24 (bytes ++ q) f.store (at + m) next k.so.marks k.so.counts k.some
                  ∙ sym (read_step _ (bytes ++ q) f.store at f.table (steps (bytes ++ q) q at (follows_on q))) ∙ on q);
            };
      }

  byte-held : Tracks f.store bytes (held_byte f x)
  unfolding held_byte after_step
  byte-held =
      begun-cases (λ (s : Stepped). Tracks f.store bytes (after_step f x s.step s.table)) (take f.filled f.held) x begins f.table f.store begins-whole i.so i.part
      byte-stays
      (λ n m z y steps. rw (ne_eqb n 1 z) (byte-refused n m z y steps))
      byte-closed
      byte-taken

byte_by : (t : List ℕ) (f : Feed) (x : ℕ) (c : Course) → f.course ≡ c → By c t f → Tracks f.store (t ++ (x ∷ [])) (by_course c f x)
unfolding by_course refused_at
byte_by t f x Reading e i = rw (lt-ltb f.filled 134 (in_room t f x i)) (byte-held t f x i)
byte_by t f x Closed e i = record { kept = refl; by = record { named = refl; other = λ z. omega arith; reads = λ q. rw (append_assoc t (x ∷ []) q) (i.byte x q); bare = refl } }
byte_by t f x Accepted e i = absurd i
byte_by t f x (Refused n) e i = record { kept = refl; by = rw e (record { named = i.named; other = i.other; reads = λ q. rw (append_assoc t (x ∷ []) q) (i.reads ((x ∷ []) ++ q)); bare = i.bare }) }

-- ---- a fragment, and fragments

tracks_byte : (store : ℕ) (t : List ℕ) (f : Feed) (x : ℕ) → Tracks store t f → Tracks store (t ++ (x ∷ [])) (feed_byte f x)
unfolding feed_byte
tracks_byte store t f x s = subst (λ (n : ℕ). Tracks n (t ++ (x ∷ [])) (feed_byte f x)) s.kept (byte_by t f x f.course refl s.by)

tracks_all : (store : ℕ) (l t : List ℕ) (f : Feed) → Tracks store t f → Tracks store (t ++ l) (feed_all f l)
unfolding feed_all
tracks_all store [] t f s = rw (append-nil t) s
tracks_all store (x ∷ l) t f s =
    subst (λ (u : List ℕ). Tracks store u (feed_all (feed_byte f x) l)) (append_assoc t (x ∷ []) l) (tracks_all store l (t ++ (x ∷ [])) (feed_byte f x) (tracks_byte store t f x s))

tracks_feeds : (store : ℕ) (fs : List (List ℕ)) (t : List ℕ) (f : Feed) → Tracks store t f → Tracks store (t ++ joined fs) (feeds f fs)
unfolding feeds joined
tracks_feeds store [] t f s = rw (append-nil t) s
tracks_feeds store (l ∷ fs) t f s =
    subst (λ (u : List ℕ). Tracks store u (feeds (feed_all f l) fs)) (append_assoc t l (joined fs)) (tracks_feeds store fs (t ++ l) (feed_all f l) (tracks_all store l t f s))

tracks_opened : (store : ℕ) → Tracks store [] (opened store)
unfolding opened read_table
tracks_opened store =
    record {
      kept = refl;
      by =
          record {
            so = so_empty store;
            room = refl;
            all = omega (arith, place_empty);
            rest = rw place_empty;
            part = begin-none;
            reads = λ q. rw place_empty;
          };
    }

-- ---- readers that ignore further bytes

refused-stays : (n : ℕ) (f : Feed) → f.course ≡ Refused n → Stays f
unfolding end_feed end_by
refused-stays n f e = record { fed = refused-fed n f e; end = ap (λ (c : Course). end_by c f) e }

accepted-stays : (f : Feed) → f.course ≡ Accepted → Stays f
unfolding end_feed end_by
accepted-stays f e = record { fed = accepted-fed f e; end = ap (λ (c : Course). end_by c f) e }

-- ---- what each course says of the reading of the bytes so far

module _ (t : List ℕ) (f : Feed) where
  -- while it reads they are cut off
  cut : IsReading t f → read_table t f.store ≡ reading (Err (refused 1 (next_place f.table))) f.table
  cut i =
      rw append-nil at (sym (i.reads [])) ∙ read_step _ t f.store (next_place f.table) f.table
      (begin_last t (take f.filled f.held) (next_place f.table) f.table f.store i.rest i.part)

  refusal : (n : ℕ) → IsRefused n t f → read_table t f.store ≡ reading (Err (refused n (refused_at n f.table))) f.table
  refusal n i = rw append-nil at (i.reads [])

  told_refused : (n : ℕ) → IsRefused n t f → told (read_table t f.store).answer ≡ FedRefused n (refused_at n f.table)
  told_refused n i = ap (λ (r : TableReading). told r.answer) (refusal n i) ∙ ap (λ (x : ℕ). FedRefused x (refused_at n f.table)) i.named

  answer-by : (c : Course) → f.course ≡ c → By c t f → answer_of (end_by c f) ≡ told (read_table t f.store).answer
  unfolding end_by answer_of answer_by refused_at
  answer-by Reading e i = rw (cut i)
  answer-by Closed e i = rw i.whole
  answer-by Accepted e i = absurd i
  answer-by (Refused n) e i = rw e (sym (told_refused n i))

  drives_by : (c : Course) → By c t f → (end_by c f).table ≡ (read_table t f.store).table
  unfolding end_by
  drives_by Reading i = rw (cut i)
  drives_by Closed i = rw i.whole
  drives_by Accepted i = absurd i
  drives_by (Refused n) i = rw (refusal n i)

  ended_by : (c : Course) → f.course ≡ c → By c t f → Stays (end_by c f)
  unfolding end_by
  ended_by Reading e i = refused-stays 1 (cleared f f.table (Refused 1)) refl
  ended_by Closed e i = accepted-stays (cleared f f.table Accepted) refl
  ended_by Accepted e i = absurd i
  ended_by (Refused n) e i = refused-stays n f e

  before_by : (c : Course) → By c t f → answer_by c f.table ≡ so_far (read_table t f.store).answer
  unfolding answer_by
  before_by Reading i = rw (cut i)
  before_by Closed i = rw i.whole
  before_by Accepted i = absurd i
  before_by (Refused n) i = rw (refusal n i, i.named, ne_eqb n 1 i.other)

  taken_by : (c : Course) → By c t f → f.table ≡ (read_table t f.store).table
  taken_by Reading i = rw (cut i)
  taken_by Closed i = rw i.whole
  taken_by Accepted i = absurd i
  taken_by (Refused n) i = rw (refusal n i)

  settled_by : (c : Course) → By c t f → (n at : ℕ) → answer_by c f.table ≡ FedRefused n at → Settles t f.store n at
  unfolding answer_by
  settled_by Reading i n at z = impossible (cc)
  settled_by Closed i n at z = impossible (cc)
  settled_by Accepted i n at z = absurd i
  settled_by (Refused m) i n at z =
      λ q. ap (λ (r : TableReading). told r.answer) (i.reads q) ∙ ap (λ (x : ℕ). FedRefused x (refused_at m f.table)) i.named ∙ z

  refused_by : (c : Course) → f.course ≡ c → By c t f → (n at : ℕ) → answer_by c f.table ≡ FedRefused n at → Stays f
  unfolding answer_by
  refused_by Reading e i n at z = impossible (cc)
  refused_by Closed e i n at z = impossible (cc)
  refused_by Accepted e i n at z = absurd i
  refused_by (Refused m) e i n at z = refused-stays m f e

  few_by : (c : Course) → By c t f → answer_by c f.table ≡ More → length t < 1974
  unfolding answer_by
  few_by Reading i z = omega (arith, i.all, place-most f.store f.table i.so, in_room t f 0 i)
  few_by Closed i z = omega (arith, i.few)
  few_by Accepted i z = absurd i
  few_by (Refused m) i z = impossible (cc)

  bare_by : (c : Course) → f.course ≡ c → By c t f → (f.course ≡ Reading → ⊥) → f.filled ≡ 0
  bare_by Reading e i z = absurd (z e)
  bare_by Closed e i z = i.bare
  bare_by Accepted e i z = absurd i
  bare_by (Refused m) e i z = i.bare

-- ---- a refusal that the bytes settle is said

-- whatever bytes follow
abbrev Follows : List ℕ → ℕ → ℕ → ℕ → Type 0
Follows t store n at = (q : List ℕ) → Bytes q → told (read_table (t ++ q) store).answer ≡ FedRefused n at

zeros : (n : ℕ) → Bytes (replicate n 0)
zeros zero i = omega arith
zeros (suc n) zero = omega arith
zeros (suc n) (suc i) = zeros n i

-- as many bytes as a table of eight drives and one record more are not cut off
long : (t : List ℕ) (f : Feed) (c : Course) → By c t f → 1974 ≤ length t → (p : ℕ) → told (read_table t f.store).answer ≡ FedRefused 1 p → ⊥
long t f Reading i l p e = omega (arith, l, i.all, place-most f.store f.table i.so, in_room t f 0 i)
long t f Closed i l p e = omega (arith, l, i.few)
long t f Accepted i l p e = absurd i
long t f (Refused n) i l p e = i.other (number-same n (refused_at n f.table) 1 p (sym (told_refused t f n i) ∙ e))
  where
    number-same : (n p m q : ℕ) → FedRefused n p ≡ FedRefused m q → n ≡ m
    number-same n p m q e = cc

-- so 1 is never settled
cut_unsettled : (t : List ℕ) (f : Feed) (q : List ℕ) → 1974 ≤ length q → Bytes q → Tracks f.store t f → (p : ℕ) → Follows t f.store 1 p → ⊥
cut_unsettled t f q l h s p z =
    let s' = tracks_all f.store q t f s in
    long (t ++ q) (feed_all f q) (feed_all f q).course s'.by (omega (arith, l, length-append t q)) p (rw s'.kept (z q h))

unsettled_by : (t : List ℕ) (f : Feed) (c : Course) → By c t f → Tracks f.store t f → (n at : ℕ) → Follows t f.store n at → answer_by c f.table ≡ FedRefused n at
unfolding answer_by
unsettled_by t f c i s n at z = by-course c i (rw (append-nil t) at (z [] (zeros 0)))
  where
    by-course : (c : Course) → By c t f → told (read_table t f.store).answer ≡ FedRefused n at → answer_by c f.table ≡ FedRefused n at
    by-course Reading i e =
        let cut-off : FedRefused 1 (next_place f.table) ≡ FedRefused n at = sym (ap (λ (r : TableReading). told r.answer) (cut t f i)) ∙ e in
        let one : 1 ≡ n = cc in
        absurd (cut_unsettled t f (replicate 1974 0) (rw length-replicate (omega arith)) (zeros 1974) s at (rw one z))
    by-course Closed i e = let accepted : FedAccepted ≡ FedRefused n at = sym (ap (λ (r : TableReading). told r.answer) i.whole) ∙ e in impossible (cc)
    by-course Accepted i e = absurd i
    by-course (Refused m) i e = sym (told_refused t f m i) ∙ e

-- ---- however the bytes are cut

pub arrives : (store : ℕ) (fs : List (List ℕ)) → Arrives store fs
unfolding end_feed answer_of
arrives store fs =
    let f : Feed = feeds (opened store) fs in
    let t : List ℕ = joined fs in
    let s : Tracks store t f = tracks_feeds store fs [] (opened store) (tracks_opened store) in
    let own : Tracks f.store t f = record { kept = refl; by = s.by } in
    record {
      drives = subst (λ (n : ℕ). (end_feed f).table ≡ (read_table t n).table) s.kept (drives_by t f f.course s.by);
      answer = subst (λ (n : ℕ). answer_of (end_feed f) ≡ told (read_table t n).answer) s.kept (answer-by t f f.course refl s.by);
      ended = ended_by t f f.course refl s.by;
      before = subst (λ (n : ℕ). answer_of f ≡ so_far (read_table t n).answer) s.kept (before_by t f f.course s.by);
      taken = subst (λ (n : ℕ). f.table ≡ (read_table t n).table) s.kept (taken_by t f f.course s.by);
      settled = λ n at z. subst (λ (k : ℕ). Settles t k n at) s.kept (settled_by t f f.course s.by n at z);
      unsettled = λ n at z. unsettled_by t f f.course s.by own n at (subst (λ (k : ℕ). Follows t k n at) (sym s.kept) z);
      refused = refused_by t f f.course refl s.by;
      held = λ e. let i : IsReading t f = subst (λ (c : Course). By c t f) e s.by in record { few = in_room t f 0 i; bytes = sym i.rest };
      bare = bare_by t f f.course refl s.by;
      few = few_by t f f.course s.by;
    }
