-- However a table is cut, the calls at a reader block say what reading the whole says, and write what was fed.
-- Assumes nothing.
use mathlib.Core.Path.{◌≡◌, refl, sym, ap, ◌∙◌}
use mathlib.Core.Bool.{Bool, true, false}
use mathlib.Core.List.{List, [], ◌∷◌, ◌++◌, append_assoc, append-nil}
use Prim.Native.Nat.{ℕ, zero, suc, ◌/◌, ◌^◌, ◌<◌}
use native.Mathlib.Omega.{arith}
use lib.ListN.{length, drop}
use lib.Dec.{ltb}
use Rattle.std.specs.Prelude.{Result, Ok, Err}
use borrow.Author.Tests.{eq-eqb}
use Rattle.logic.specs.Logic.{pick}
use Rattle.words.specs.Words.{Bytes}
use Rattle.memory.specs.Blocks.{block_length}
use Rattle.table.specs.declared.Table.{Table}
use Rattle.table.specs.declared.Refused.{Refused}
use Rattle.table.specs.declared.ShortBuffer.{ShortBuffer}
use Rattle.table.specs.Table.{number, read_table, table_of, answer_numbers, written_numbers, write_answer, write_out}
use Rattle.table.proofs.WriteRead.{write-read-table}
use Rattle.feed.specs.declared.Feed.{Feed}
use Rattle.feed.specs.declared.Fed.{Fed}
use Rattle.feed.specs.declared.Fed.TheVariants.{More, Accepted as FedAccepted, Refused as FedRefused}
use Rattle.feed.specs.Feed.{opened, feed_all, feeds, end_feed, answer_of, fed_numbers}
use Rattle.feed.specs.Arrives.{joined, told, so_far, Arrives}
use Rattle.feed.proofs.Arrives.{arrives}
use Rattle.reader.specs.Reader.{image, reader_size, laid, ImageOf}
use Rattle.reader.proofs.Exact.{exact}
use Rattle.reader.proofs.Keeps.{fed-accepted, end-accepted, opened-accepted}
use Rattle.exports.specs.Exports.{Effect, effect, over, reader_open_call, reader_feed_call, reader_end_call, reader_write_effect, reader_write_call}
use Rattle.exports.specs.Fragments.{leaves, fed_block, arrived, ended_block, whole, EachBytes, EveryFragments}
use Rattle.exports.proofs.Readers.{reader-size}

-- ---- calls at the block of a reader

-- a reader laid out in a block of the size
laid-is : (b : List ℕ) (f : Feed) → length b ≡ reader_size → laid b f ≡ image f
unfolding laid
laid-is b f e = rw (eq-eqb (length b) reader_size e)

module _ {b : List ℕ} {f : Feed} (i : ImageOf b f) where
  size : length b ≡ reader_size
  size = reader-size b (exact.every b f i).0

  feed_is : (l : List ℕ) (place : ℕ) → reader_feed_call b l place ≡ effect (over (fed_numbers (answer_of (feed_all f l))) (0 ∷ place ∷ [])) (image (feed_all f l) ∷ [])
  unfolding reader_feed_call
  feed_is l place = rw ((exact.every b f i).0, (exact.every b f i).1, laid-is b (feed_all f l) size)

  end_is : (place : ℕ) → reader_end_call b place ≡ effect (over (fed_numbers (answer_of (end_feed f))) (0 ∷ place ∷ [])) (image (end_feed f) ∷ [])
  unfolding reader_end_call
  end_is place = rw ((exact.every b f i).0, (exact.every b f i).1, laid-is b (end_feed f) size)

  write-is : (out : List ℕ) (written : ℕ) → reader_write_call b out written ≡ reader_write_effect (answer_of f) f out written
  unfolding reader_write_call
  write-is out written = rw ((exact.every b f i).0, (exact.every b f i).1)

  fed-image : (l : List ℕ) (place : ℕ) → Bytes l → ImageOf (leaves (reader_feed_call b l place)) (feed_all f l)
  fed-image l place h =
      let k = fed-accepted f l i.fits i.acceptable h in
      record { fits = k.0; acceptable = k.1; image = sym (ap leaves (feed_is l place)) }

  end-image : (place : ℕ) → ImageOf (leaves (reader_end_call b place)) (end_feed f)
  end-image place =
      let k = end-accepted f i.fits i.acceptable in
      record { fits = k.0; acceptable = k.1; image = sym (ap leaves (end_is place)) }

open-image : (b : List ℕ) (store : ℕ) → length b ≡ reader_size → store < 256 ^ 8 → ImageOf (leaves (reader_open_call b store)) (opened (store / block_length))
unfolding reader_open_call
open-image b store e h =
    let k = opened-accepted (store / block_length) (omega arith) in
    record { fits = k.0; acceptable = k.1; image = rw (eq-eqb (length b) reader_size e) (sym (laid-is b (opened (store / block_length)) e)) }

-- fragments, a call for each
fed_images : {b : List ℕ} {f : Feed} (fs : List (List ℕ)) → ImageOf b f → EachBytes fs → ImageOf (fed_block b fs) (feeds f fs)
unfolding fed_block feeds
fed_images [] i h = i
fed_images {b = b} {f = f} (l ∷ ls) i h = fed_images {b = leaves (reader_feed_call b l 0)} {f = feed_all f l} ls (fed-image i l 0 h.0) h.1

-- ---- one fragment more

feeds-more : (f : Feed) (fs : List (List ℕ)) (l : List ℕ) → feed_all (feeds f fs) l ≡ feeds f (fs ++ (l ∷ []))
unfolding feeds
feeds-more f [] l = refl
feeds-more f (k ∷ ks) l = feeds-more (feed_all f k) ks l

joined-more : (fs : List (List ℕ)) (l : List ℕ) → joined fs ++ l ≡ joined (fs ++ (l ∷ []))
unfolding joined
joined-more [] l = sym (append-nil l)
joined-more (k ∷ ks) l = append_assoc k (joined ks) l ∙ ap (λ (x : List ℕ). k ++ x) (joined-more ks l)

-- ---- bytes

bytes-append : (s t : List ℕ) → Bytes s → Bytes t → Bytes (s ++ t)
bytes-append [] t h k i = k i
bytes-append (x ∷ s) t h k zero = h zero
bytes-append (x ∷ s) t h k (suc i) = bytes-append s t (λ j. h (suc j)) k i

bytes-joined : (fs : List (List ℕ)) → EachBytes fs → Bytes (joined fs)
unfolding joined
bytes-joined [] h i = omega arith
bytes-joined (l ∷ ls) h i = bytes-append l (joined ls) h.0 (bytes-joined ls h.1) i

-- ---- the answers

told-numbers : (a : Result (Unit {0}) Refused) → fed_numbers (told a) ≡ answer_numbers a
unfolding fed_numbers answer_numbers
told-numbers (Ok x) = refl
told-numbers (Err e) = refl

-- a table written, by its bytes
written_is : {b : Table} {t : List ℕ} (f : Feed) (out : List ℕ) (written : ℕ) → f.table ≡ b → table_of b ≡ t
    → reader_write_effect FedAccepted f out written
    ≡ pick (ltb (length out) (length t)) (effect (19 ∷ written ∷ []) (out ∷ [])) (effect (0 ∷ length t ∷ []) ((t ++ drop (length t) out) ∷ []))
unfolding reader_write_effect write_answer write_out over written_numbers
written_is {b} {t} f out written e q = rw (e, q) (by_room (ltb (length out) (length t)))
  where
    by_room : (x : Bool) → effect (over (written_numbers (pick {A = Result ℕ ShortBuffer} x (Err (record {})) (Ok (length t)))) (0 ∷ written ∷ [])) (pick x out (t ++ drop (length t) out) ∷ [])
        ≡ pick x (effect (19 ∷ written ∷ []) (out ∷ [])) (effect (0 ∷ length t ∷ []) ((t ++ drop (length t) out) ∷ []))
    by_room true = refl
    by_room false = refl

unwritten-is : (f : Feed) (out : List ℕ) (written n at : ℕ) → reader_write_effect (FedRefused n at) f out written ≡ effect (n ∷ written ∷ []) (out ∷ [])
unfolding reader_write_effect
unwritten-is f out written n at = refl

early-is : (f : Feed) (out : List ℕ) (written : ℕ) → reader_write_effect More f out written ≡ effect (256 ∷ written ∷ []) (out ∷ [])
unfolding reader_write_effect
early-is f out written = refl

refused-numbers : (n at place : ℕ) → over (fed_numbers (FedRefused n at)) (0 ∷ place ∷ []) ≡ n ∷ at ∷ []
unfolding over fed_numbers
refused-numbers n at place = refl

-- ---- the theorem

pub fragments : EveryFragments
fragments b store fs e h each =
    let n : ℕ = store / block_length in
    let f : Feed = feeds (opened n) fs in
    let i : ImageOf (arrived b store fs) f = fed_images fs (open-image b store e h) each in
    let j : ImageOf (ended_block b store fs) (end_feed f) = end-image i 0 in
    let a : Arrives n fs = arrives n fs in
    record {
      fed = λ l k place.
          ap (λ (x : Effect). x.numbers) (feed_is i l place)
          ∙ ap (λ (x : Fed). over (fed_numbers x) (0 ∷ place ∷ []))
          (ap answer_of (feeds-more (opened n) fs l) ∙ (arrives n (fs ++ (l ∷ []))).before ∙ ap (λ (t : List ℕ). so_far (read_table t n).answer) (sym (joined-more fs l)));
      stays = λ m at q l place.
          let said : answer_of f ≡ FedRefused m at = a.before ∙ q in
          feed_is i l place
          ∙ ap (λ (g : Feed). effect (over (fed_numbers (answer_of g)) (0 ∷ place ∷ [])) (image g ∷ [])) ((a.refused m at said).fed l)
          ∙ (λ k. effect ((ap (λ (x : Fed). over (fed_numbers x) (0 ∷ place ∷ [])) said ∙ refused-numbers m at place) k) (i.image k ∷ []));
      end = λ place.
          ap (λ (x : Effect). x.numbers) (end_is i place)
          ∙ ap (λ (x : List ℕ). over x (0 ∷ place ∷ [])) (ap fed_numbers a.answer ∙ told-numbers (whole fs store).answer);
      after = λ l place.
          feed_is j l place
          ∙ ap (λ (g : Feed). effect (over (fed_numbers (answer_of g)) (0 ∷ place ∷ [])) (image g ∷ [])) (a.ended.fed l)
          ∙ (λ k. effect (over ((ap fed_numbers a.answer ∙ told-numbers (whole fs store).answer) k) (0 ∷ place ∷ [])) (j.image k ∷ []));
      again = λ place.
          end_is j place
          ∙ ap (λ (g : Feed). effect (over (fed_numbers (answer_of g)) (0 ∷ place ∷ [])) (image g ∷ [])) a.ended.end
          ∙ (λ k. effect (over ((ap fed_numbers a.answer ∙ told-numbers (whole fs store).answer) k) (0 ∷ place ∷ [])) (j.image k ∷ []));
      early = λ q out written.
          write-is i out written ∙ ap (λ (x : Fed). reader_write_effect x f out written) (a.before ∙ q) ∙ early-is f out written;
      unwritten = λ m at q out written.
          write-is i out written ∙ ap (λ (x : Fed). reader_write_effect x f out written) (a.before ∙ q) ∙ unwritten-is f out written m at;
      written = λ q out written.
          write-is j out written
          ∙ ap (λ (x : Fed). reader_write_effect x (end_feed f) out written) (a.answer ∙ ap told q)
          ∙ written_is (end_feed f) out written a.drives (write-read-table (joined fs) n (bytes-joined fs each) q);
      refused = λ r q out written.
          write-is j out written
          ∙ ap (λ (x : Fed). reader_write_effect x (end_feed f) out written) (a.answer ∙ ap told q)
          ∙ unwritten-is (end_feed f) out written (number r.refusal) r.place;
    }
