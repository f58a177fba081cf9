-- Document 02, 2026-03: "However the bytes are cut, drives, refusal number and place must equal those of reading the whole." `proofs/Arrives.antt`
-- proves it.
-- Assumes nothing.
use Rattle.std.specs.Prelude.{ℕ, ◌+◌, ◌-◌, ◌<◌, ◌≡◌, Result, Ok, Err, List, [], ◌∷◌, ◌++◌, length, take, drop, eqb}
use Rattle.logic.specs.Logic.{pick}
use Rattle.words.specs.Words.{Bytes}
use Rattle.table.specs.declared.Refused.{Refused as RefusedAt}
use Rattle.table.specs.Table.{number, cut_off, end_length, longest_record, longest_table, next_place, read_table}
use Rattle.feed.specs.declared.Course.TheVariants.{Reading}
use Rattle.feed.specs.declared.Feed.{Feed}
use Rattle.feed.specs.declared.Fed.{Fed}
use Rattle.feed.specs.declared.Fed.TheVariants.{More, Accepted as FedAccepted, Refused as FedRefused}
use Rattle.feed.specs.Feed.{opened, feed_all, feeds, end_feed, answer_of}

-- the bytes of all fragments
unfoldable pub joined : List (List ℕ) → List ℕ
joined [] = []
joined (l ∷ ls) = l ++ joined ls

-- a table's answer, once the end was told
abbrev pub told : Result Unit RefusedAt → Fed
told (Ok x) = FedAccepted
told (Err e) = FedRefused (number e.refusal) e.place

-- and before that: "missing bytes are reported only at the end of input", and so is acceptance, which a further byte would change
abbrev pub so_far : Result Unit RefusedAt → Fed
so_far (Ok x) = More
so_far (Err e) = pick (eqb (number e.refusal) cut_off) More (FedRefused (number e.refusal) e.place)

-- a refusal that the bytes so far settle: whatever follows them, it is that of the whole
abbrev pub Settles : List ℕ → ℕ → ℕ → ℕ → Type 0
Settles t store n at = (q : List ℕ) → told (read_table (t ++ q) store).answer ≡ FedRefused n at

-- "keeps at most one unfinished record": a reader that holds the bytes behind the records of its drives, fewer than a record may have
pub record Holds (f : Feed) (t : List ℕ) : Type 0 where
  pub few : f.filled < longest_record
  pub bytes : take f.filled f.held ≡ drop (next_place f.table) t

-- a reader that ignores whatever it is fed, and a further end
pub record Stays (f : Feed) : Type 0 where
  pub fed : (l : List ℕ) → feed_all f l ≡ f
  pub end : end_feed f ≡ f

-- for every store and every list of fragments, from the opening on
pub record Arrives (store : ℕ) (fs : List (List ℕ)) : Type 0 where
  -- once the end is told: drives, number and place of the whole, and so it stays
  pub drives : (end_feed (feeds (opened store) fs)).table ≡ (read_table (joined fs) store).table
  pub answer : answer_of (end_feed (feeds (opened store) fs)) ≡ told (read_table (joined fs) store).answer
  pub ended : Stays (end_feed (feeds (opened store) fs))
  -- before: what the whole reading of the bytes so far says, but that 1 and acceptance are not said; the drives are those taken so far
  pub before : answer_of (feeds (opened store) fs) ≡ so_far (read_table (joined fs) store).answer
  pub taken : (feeds (opened store) fs).table ≡ (read_table (joined fs) store).table
  -- a refusal is said exactly when the bytes so far settle it, for which bytes that follow are enough to look at
  pub settled : (n at : ℕ) → answer_of (feeds (opened store) fs) ≡ FedRefused n at → Settles (joined fs) store n at
  pub unsettled : (n at : ℕ) → ((q : List ℕ) → Bytes q → told (read_table (joined fs ++ q) store).answer ≡ FedRefused n at) → answer_of (feeds (opened store) fs) ≡ FedRefused n at
  -- and then it stays
  pub refused : (n at : ℕ) → answer_of (feeds (opened store) fs) ≡ FedRefused n at → Stays (feeds (opened store) fs)
  -- of the bytes so far those are held that follow the records of its drives, fewer than the longest record has, and while it reads only
  pub held : (feeds (opened store) fs).course ≡ Reading → Holds (feeds (opened store) fs) (joined fs)
  pub bare : ((feeds (opened store) fs).course ≡ Reading → ⊥) → (feeds (opened store) fs).filled ≡ 0
  -- so long as nothing is settled there were fewer bytes than the longest table's records and one more have, 1974
  pub few : answer_of (feeds (opened store) fs) ≡ More → length (joined fs) < longest_table - end_length + longest_record
