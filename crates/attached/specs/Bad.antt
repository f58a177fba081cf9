-- Document 02, 2026-04: the record of kind 3, which follows its drive's: the drive's number, and the drive's bad blocks, one to sixteen in
-- ascending order.
-- Assumes nothing.
use Rattle.std.specs.Prelude.{ℕ, zero, suc, ◌+◌, ◌-◌, ◌*◌, ◌/◌, min, Bool, List, ◌++◌, length, take, drop, replicate, leb, ltb, eqb}
use Rattle.logic.specs.Logic.{pick, both, either, in_range, all_below, some_below}
use Rattle.words.specs.Words.{le, le_bytes}
use Rattle.attached.specs.declared.Bads.{Bads}

-- ---- "2026-04", the record by its offsets

-- a drive's bad blocks are kind 3
abbrev pub bad_kind : ℕ
bad_kind = 3

-- "n from 1 to 16"
abbrev pub most_bad : ℕ
most_bad = 16

-- a block's number has eight bytes
abbrev pub bad_size : ℕ
bad_size = 8

-- offset 6: the numbers, behind length, kind and the drive's number, which stands where that of kind 4 does
abbrev pub list_place : ℕ
list_place = 4 + 2

-- "length 4 + 2 + 8 times n"
abbrev pub bad_length : ℕ → ℕ
bad_length n = list_place + bad_size * n

-- the bytes of sixteen numbers
abbrev pub list_length : ℕ
list_length = bad_size * most_bad

-- n, by the length of the record
unfoldable pub bad_count : ℕ → ℕ
bad_count size = (size - list_place) / bad_size

-- the lengths that there are
unfoldable pub bad_length_ok : ℕ → Bool
bad_length_ok size = both (in_range (bad_count size) 1 most_bad) (eqb size (bad_length (bad_count size)))

-- a drive's bad blocks, as a record of exactly its bytes gives them: how many, their bytes, and zeros up to sixteen
unfoldable pub bads_in : List ℕ → Bads
bads_in r = record { count = bad_count (length r); list = drop list_place r ++ replicate (list_length - (length r - list_place)) 0 }

-- of a count, how many numbers a list has room for; a list that a table takes has no more
unfoldable pub held_of : ℕ → ℕ
held_of n = min n most_bad

-- the bytes of a list's numbers
abbrev pub list_of : Bads → List ℕ
list_of l = take (bad_size * held_of l.count) l.list

-- offsets 0, 2, 4, 6: length, kind, number, the bytes of the numbers
unfoldable pub bad_record : ℕ → Bads → List ℕ
bad_record i l = le_bytes 2 (bad_length (held_of l.count)) ++ (le_bytes 2 bad_kind ++ (le_bytes 2 i ++ list_of l))

-- ---- "2026-04", a list: check 5

-- no list
abbrev pub no_bads : Bads
no_bads = record { count = 0; list = replicate list_length 0 }

-- number j of a list
abbrev pub bad_at : Bads → ℕ → ℕ
bad_at l j = le 8 l.list (bad_size * j)

-- each but the last is below the next: neither unsorted nor repeated
unfoldable pub ascends : Bads → Bool
ascends l = all_below (held_of l.count - 1) (λ j. ltb (bad_at l j) (bad_at l (j + 1)))

-- none is outside a drive of so many blocks, which count from its block 0
unfoldable pub are_blocks : Bads → ℕ → Bool
are_blocks l blocks = all_below (held_of l.count) (λ j. ltb (bad_at l j) blocks)

-- a list that is taken
unfoldable pub list_ok : Bads → ℕ → Bool
list_ok l blocks = both (ascends l) (are_blocks l blocks)

-- behind the last number of a list stand zeros
unfoldable pub zero_past : Bads → Bool
zero_past l = all_below most_bad (λ j. either (ltb j l.count) (eqb (bad_at l j) 0))

-- what a slot of a table may hold for a drive of so many blocks: at most sixteen numbers that are taken, and zeros behind them. A slot without
-- a drive has no block, and so no number
unfoldable pub bads_ok : Bads → ℕ → Bool
bads_ok l blocks = both (leb l.count most_bad) (both (list_ok l blocks) (zero_past l))

-- ---- "2026-04", the blocks of a request before the first bad one

-- a block is one of the list
unfoldable pub is_bad : Bads → ℕ → Bool
is_bad l x = some_below (held_of l.count) (λ j. eqb (bad_at l j) x)

-- of k blocks from a block on, how many come before the first bad one; all k where none is bad
unfoldable pub good : Bads → ℕ → ℕ → ℕ
good l from zero = 0
good l from (suc k) = pick (is_bad l from) 0 (suc (good l (suc from) k))

-- what one bad block x leaves of k blocks from a block on
unfoldable pub before : ℕ → ℕ → ℕ → ℕ
before x from k = pick (both (leb from x) (ltb (x - from) k)) (x - from) k
