-- Document 01, "Parts of the desk", Drives, and "The words of demand 3", Served alone: blocks are copied one by one, in ascending order.
-- Assumes nothing.
use Rattle.std.specs.Prelude.{ℕ, zero, suc, ◌+◌, ◌*◌, List}
use Rattle.std.proofs.lemmas.List.Edits.{sets}
use Rattle.words.specs.Words.{part}

-- blocks are 512 bytes
abbrev pub block_length : ℕ
block_length = 512

-- for i from 0 to k - 1, the block of source at from + 512 × i is laid over the bytes of target at place + 512 × i
unfoldable pub blocks : List ℕ → ℕ → List ℕ → ℕ → ℕ → List ℕ
blocks target place source from zero = target
blocks target place source from (suc i) =
    sets (blocks target place source from i) (place + block_length * i) (part block_length source (from + block_length * i))
