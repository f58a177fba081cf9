-- Document 02, 2026-03, at a reader block: what the calls for C say and leave, for every list of fragments after an opening. Each is said in terms
-- of reading all bytes at once. `proofs/Fragments.antt` proves it.
-- Assumes nothing.
use Rattle.std.specs.Prelude.{ℕ, ◌/◌, ◌^◌, ◌<◌, ◌≡◌, Ok, Err, List, [], ◌∷◌, ◌++◌, length, get_or, drop, ltb}
use Rattle.logic.specs.Logic.{pick}
use Rattle.words.specs.Words.{Bytes}
use Rattle.memory.specs.Blocks.{block_length}
use Rattle.table.specs.declared.Reading.{Reading}
use Rattle.table.specs.declared.Refused.{Refused}
use Rattle.table.specs.Table.{short_buffer, number, read_table, answer_numbers}
use Rattle.int13.specs.Answers.{nothing_yet}
use Rattle.feed.specs.declared.Fed.TheVariants.{More, Refused as FedRefused}
use Rattle.feed.specs.Feed.{fed_numbers}
use Rattle.feed.specs.Arrives.{joined, so_far}
use Rattle.reader.specs.Reader.{reader_size}
use Rattle.exports.specs.Exports.{Effect, effect, over, reader_open_call, reader_feed_call, reader_end_call, reader_write_call}

-- ---- "2026-03", calls one after the other at one block

-- the block that a call leaves
abbrev pub leaves : Effect → List ℕ
leaves e = get_or e.slices 0 []

-- the block after fragments, a call for each; what stands behind `place` does not matter to it
unfoldable pub fed_block : List ℕ → List (List ℕ) → List ℕ
fed_block b [] = b
fed_block b (l ∷ ls) = fed_block (leaves (reader_feed_call b l 0)) ls

-- opened, and fed
abbrev pub arrived : List ℕ → ℕ → List (List ℕ) → List ℕ
arrived b store fs = fed_block (leaves (reader_open_call b store)) fs

-- and the end told
abbrev pub ended_block : List ℕ → ℕ → List (List ℕ) → List ℕ
ended_block b store fs = leaves (reader_end_call (arrived b store fs) 0)

-- what reading all bytes at once says, for a store of that length in bytes
abbrev pub whole : List (List ℕ) → ℕ → Reading
whole fs store = read_table (joined fs) (store / block_length)

-- each fragment is bytes, as its type says
abbrev pub EachBytes : List (List ℕ) → Type 0
EachBytes [] = Unit {0}
EachBytes (l ∷ ls) = Bytes l × EachBytes ls

-- ---- "2026-03", the theorem at a block

-- what the calls say and leave after an opening of that block, for that store, and those fragments
pub record Fragments (b : List ℕ) (store : ℕ) (fs : List (List ℕ)) : Type 0 where
  -- the next fragment is answered with 256, or with number and place of the refusal that the bytes so far settle; place stays else
  pub fed : (l : List ℕ) → Bytes l → (place : ℕ)
      → (reader_feed_call (arrived b store fs) l place).numbers ≡ over (fed_numbers (so_far (read_table (joined fs ++ l) (store / block_length)).answer)) (0 ∷ place ∷ [])
  -- once refused, bytes are ignored: the same answer, and the block stays
  pub stays : (n at : ℕ) → so_far (whole fs store).answer ≡ FedRefused n at → (l : List ℕ) (place : ℕ)
      → reader_feed_call (arrived b store fs) l place ≡ effect (n ∷ at ∷ []) (arrived b store fs ∷ [])
  -- the end is answered as reading the whole is
  pub end : (place : ℕ) → (reader_end_call (arrived b store fs) place).numbers ≡ over (answer_numbers (whole fs store).answer) (0 ∷ place ∷ [])
  -- then bytes are ignored: the same answer, and the block stays
  pub after : (l : List ℕ) (place : ℕ)
      → reader_feed_call (ended_block b store fs) l place ≡ effect (over (answer_numbers (whole fs store).answer) (0 ∷ place ∷ [])) (ended_block b store fs ∷ [])
  -- and so is the end told again
  pub again : (place : ℕ)
      → reader_end_call (ended_block b store fs) place ≡ effect (over (answer_numbers (whole fs store).answer) (0 ∷ place ∷ [])) (ended_block b store fs ∷ [])
  -- before the end was told nothing is written: 256, or the refusal
  pub early : so_far (whole fs store).answer ≡ More → (out : List ℕ) (written : ℕ)
      → reader_write_call (arrived b store fs) out written ≡ effect (nothing_yet ∷ written ∷ []) (out ∷ [])
  pub unwritten : (n at : ℕ) → so_far (whole fs store).answer ≡ FedRefused n at → (out : List ℕ) (written : ℕ)
      → reader_write_call (arrived b store fs) out written ≡ effect (n ∷ written ∷ []) (out ∷ [])
  -- an accepted table is written byte for byte as it was fed, if there is room for it
  pub written : (whole fs store).answer ≡ Ok tt → (out : List ℕ) (written : ℕ)
      → reader_write_call (ended_block b store fs) out written
      ≡ pick (ltb (length out) (length (joined fs))) (effect (short_buffer ∷ written ∷ []) (out ∷ []))
      (effect (0 ∷ length (joined fs) ∷ []) ((joined fs ++ drop (length (joined fs)) out) ∷ []))
  -- a refused one is not
  pub refused : (e : Refused) → (whole fs store).answer ≡ Err e → (out : List ℕ) (written : ℕ)
      → reader_write_call (ended_block b store fs) out written ≡ effect (number e.refusal ∷ written ∷ []) (out ∷ [])

-- for every block of the size, whatever it held, every store, and every list of fragments
abbrev pub EveryFragments : Type 0
EveryFragments = (b : List ℕ) (store : ℕ) (fs : List (List ℕ)) → length b ≡ reader_size → store < 256 ^ 8 → EachBytes fs → Fragments b store fs
