-- Laws of the calls at a reader block: 25 for a block that is none, and else the call of its reader.
-- Assumes nothing.
use mathlib.Core.Path.{◌≡◌, sym, ◌∙◌}
use mathlib.Core.Bool.{Bool, true, false}
use mathlib.Core.List.{List, [], ◌∷◌}
use Prim.Native.Nat.{ℕ}
use lib.ListN.{length}
use lib.Dec.{eqb}
use borrow.Author.Tests.{eqb-true}
use Rattle.logic.proofs.LogicLaws.{both_true}
use Rattle.table.specs.Table.{written_numbers, write_answer, write_out}
use Rattle.feed.specs.declared.Feed.{Feed}
use Rattle.feed.specs.declared.Fed.{Fed}
use Rattle.feed.specs.declared.Fed.TheVariants.{More, Accepted, Refused}
use Rattle.feed.specs.Feed.{feed_all, end_feed, answer_of, fed_numbers}
use Rattle.reader.specs.Reader.{reader_size, read_reader, accepted, laid}
use Rattle.exports.specs.Exports.{effect, over, reader_feed_call, reader_end_call, reader_write_effect, reader_write_call}

-- an accepted block has the size
pub reader-size : (b : List ℕ) → accepted b ≡ true → length b ≡ reader_size
unfolding accepted
reader-size b e = eqb-true (length b) reader_size (both_true (eqb (length b) reader_size) _ e).0

-- ---- a block that is none

module _ {ok : Bool} (b : List ℕ) (e : ok ≡ accepted b) (z : ok ≡ false) where
  none : accepted b ≡ false
  none = sym e ∙ z

  pub none-fed : (l : List ℕ) (place : ℕ) → effect (25 ∷ place ∷ []) (b ∷ []) ≡ reader_feed_call b l place
  unfolding reader_feed_call
  none-fed l place = rw none

  pub none-ended : (place : ℕ) → effect (25 ∷ place ∷ []) (b ∷ []) ≡ reader_end_call b place
  unfolding reader_end_call
  none-ended place = rw none

  pub none_written : (out : List ℕ) (written : ℕ) → effect (25 ∷ written ∷ []) (out ∷ []) ≡ reader_write_call b out written
  unfolding reader_write_call
  none_written out written = rw none

-- ---- the block of a reader

module _ {ok : Bool} {f : Feed} (b : List ℕ) (e : ok ≡ accepted b) (z : ok ≡ true) (r : f ≡ read_reader b) where
  one : accepted b ≡ true
  one = sym e ∙ z

  pub fed : {g : Feed} {n place' : ℕ} {b' : List ℕ} (l : List ℕ) (place : ℕ) → g ≡ feed_all f l → b' ≡ laid b g → n ∷ place' ∷ [] ≡ over (fed_numbers (answer_of g)) (0 ∷ place ∷ [])
      → effect (n ∷ place' ∷ []) (b' ∷ []) ≡ reader_feed_call b l place
  unfolding reader_feed_call
  fed l place g o n = rw (one, n, o, g, r)

  pub ended : {g : Feed} {n place' : ℕ} {b' : List ℕ} (place : ℕ) → g ≡ end_feed f → b' ≡ laid b g → n ∷ place' ∷ [] ≡ over (fed_numbers (answer_of g)) (0 ∷ place ∷ [])
      → effect (n ∷ place' ∷ []) (b' ∷ []) ≡ reader_end_call b place
  unfolding reader_end_call
  ended place g o n = rw (one, n, o, g, r)

  pub wrote : {a : Fed} {n written' : ℕ} {out' : List ℕ} (out : List ℕ) (written : ℕ) → a ≡ answer_of f → effect (n ∷ written' ∷ []) (out' ∷ []) ≡ reader_write_effect a f out written
      → effect (n ∷ written' ∷ []) (out' ∷ []) ≡ reader_write_call b out written
  unfolding reader_write_call
  wrote out written a w = w ∙ rw (one, a, r)

-- what is written of a reader, by its answer
pub wrote_more : {a : Fed} (f : Feed) (out : List ℕ) (written : ℕ) → a ≡ More → effect (256 ∷ written ∷ []) (out ∷ []) ≡ reader_write_effect a f out written
unfolding reader_write_effect
wrote_more f out written e = rw e

pub wrote_refused : {a : Fed} {n at : ℕ} (f : Feed) (out : List ℕ) (written : ℕ) → a ≡ Refused n at → effect (n ∷ written ∷ []) (out ∷ []) ≡ reader_write_effect a f out written
unfolding reader_write_effect
wrote_refused f out written e = rw e

pub wrote_table : {a : Fed} {n written' : ℕ} {out' : List ℕ} (f : Feed) (out : List ℕ) (written : ℕ) → a ≡ Accepted
    → n ∷ written' ∷ [] ≡ over (written_numbers (write_answer f.table (length out))) (0 ∷ written ∷ []) → out' ≡ write_out f.table out
    → effect (n ∷ written' ∷ []) (out' ∷ []) ≡ reader_write_effect a f out written
unfolding reader_write_effect
wrote_table f out written e n o = rw (e, n, o)
