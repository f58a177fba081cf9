-- Document 01, "Parts of the desk", Guests: the guests' windows of the lent arena.
-- Assumes nothing.
use Rattle.std.specs.Prelude.{ℕ, ◌*◌, ◌/◌, Bool, List, length, ltb, leb}
use Rattle.std.proofs.lemmas.List.Edits.{sets}
use Rattle.logic.specs.Logic.{pick, both}
use Rattle.words.specs.Words.{part}

-- guests are 0 to 7
abbrev pub guests : ℕ
guests = 8

-- M, for an arena of n bytes; the n % 8 bytes at its end belong to nobody
abbrev pub window_length : ℕ → ℕ
window_length n = n / guests

-- "by guest number and window length" ("Forms we want to see"): a length above M and a guest of 8 or more have the empty part at 0
abbrev pub has_window : ℕ → ℕ → ℕ → Bool
has_window n guest m = both (leb m (window_length n)) (ltb guest guests)

-- where the window of m bytes starts in an arena of n, and how long it is
unfoldable pub span_start : ℕ → ℕ → ℕ → ℕ
span_start n guest m = pick (has_window n guest m) (guest * m) 0

-- how long the window is: m, or 0 where there is none
unfoldable pub span_length : ℕ → ℕ → ℕ → ℕ
span_length n guest m = pick (has_window n guest m) m 0

-- the bytes of a guest's window
abbrev pub window_of : List ℕ → ℕ → ℕ → List ℕ
window_of arena guest m = part (span_length (length arena) guest m) arena (span_start (length arena) guest m)

-- the arena with other bytes, as many, in a guest's window
abbrev pub with_window : List ℕ → ℕ → ℕ → List ℕ → List ℕ
with_window arena guest m bytes = sets arena (span_start (length arena) guest m) bytes
