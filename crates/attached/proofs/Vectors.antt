-- The records of a drive's parameters and of its bad blocks by number: a value of its own in every byte of the one, in every byte of a number of the other.
-- Assumes nothing.
use mathlib.Core.Path.{◌≡◌, refl}
use mathlib.Core.Bool.{true, false}
use mathlib.Core.List.{List, [], ◌∷◌, ◌++◌, map}
use lib.ListN.{replicate}
use Prim.Native.Nat.{ℕ}
use Rattle.words.specs.Words.{le, le_bytes}
use Rattle.attached.specs.Parameters.{parameters_kind, parameters_length, given_length, number_in, parameters_in, parameters_record}
use Rattle.attached.specs.declared.Bads.{Bads}
use Rattle.attached.specs.Bad.{bad_kind, most_bad, bad_size, list_place, bad_length, list_length, bad_count, bad_length_ok, bads_in, held_of, bad_record, no_bads, bad_at, ascends, are_blocks, list_ok, zero_past, bads_ok, is_bad, good, before}

-- the record of drive 0102h, and a byte after it
abbrev bytes : List ℕ
bytes = 31 ∷ 32 ∷ 33 ∷ 34 ∷ 35 ∷ 36 ∷ 37 ∷ 38 ∷ 39 ∷ 40 ∷ 41 ∷ 42 ∷ 43 ∷ 44 ∷ []

abbrev record₁ : List ℕ
record₁ = 20 ∷ 0 ∷ 4 ∷ 0 ∷ 2 ∷ 1 ∷ bytes

-- kind 4, 20 bytes, 14 of them given
pub numbers : parameters_kind ∷ parameters_length ∷ given_length ∷ [] ≡ 4 ∷ 20 ∷ 14 ∷ []
numbers = refl

-- read: word 4, and the 14 bytes from 6 on
pub number_read : number_in (record₁ ++ (45 ∷ [])) ≡ 258
unfolding le
number_read = refl

pub bytes_read : parameters_in (record₁ ++ (45 ∷ [])) ≡ bytes
bytes_read = refl

-- written: length, kind, number, bytes
pub written : parameters_record 258 bytes ≡ record₁
unfolding le_bytes parameters_record
written = refl

-- ---- bad blocks

-- the record of drive 2: blocks 5, 7 and 0102030405060708h
abbrev record₂ : List ℕ
record₂ =
    30 ∷ 0 ∷ 3 ∷ 0 ∷ 2 ∷ 0 ∷ 5 ∷ 0 ∷ 0 ∷ 0 ∷ 0 ∷ 0 ∷ 0 ∷ 0 ∷ 7 ∷ 0 ∷ 0 ∷ 0 ∷ 0 ∷ 0 ∷ 0 ∷ 0 ∷ 8 ∷ 7 ∷ 6 ∷ 5 ∷ 4 ∷ 3 ∷ 2 ∷ 1 ∷ []

abbrev three : Bads
three = record {
  count = 3;
  list = 5 ∷ 0 ∷ 0 ∷ 0 ∷ 0 ∷ 0 ∷ 0 ∷ 0 ∷ 7 ∷ 0 ∷ 0 ∷ 0 ∷ 0 ∷ 0 ∷ 0 ∷ 0 ∷ 8 ∷ 7 ∷ 6 ∷ 5 ∷ 4 ∷ 3 ∷ 2 ∷ 1 ∷ replicate 104 0;
}

-- two numbers below 256
abbrev two : ℕ → ℕ → Bads
two a b = record { count = 2; list = a ∷ 0 ∷ 0 ∷ 0 ∷ 0 ∷ 0 ∷ 0 ∷ 0 ∷ b ∷ replicate 119 0 }

-- kind 3, at most sixteen numbers of eight bytes, behind six: 134 bytes at most
pub bad-numbers : bad_kind ∷ most_bad ∷ bad_size ∷ list_place ∷ list_length ∷ bad_length 1 ∷ bad_length 16 ∷ [] ≡ 3 ∷ 16 ∷ 8 ∷ 6 ∷ 128 ∷ 14 ∷ 134 ∷ []
bad-numbers = refl

-- the lengths of one, two and sixteen numbers; none, part of one, one and a part, one byte too many, seventeen
pub bad-lengths : map bad_length_ok (14 ∷ 22 ∷ 134 ∷ []) ≡ true ∷ true ∷ true ∷ []
unfolding bad_length_ok bad_count
bad-lengths = refl

pub other-lengths : map bad_length_ok (0 ∷ 6 ∷ 13 ∷ 15 ∷ 135 ∷ 142 ∷ []) ≡ false ∷ false ∷ false ∷ false ∷ false ∷ false ∷ []
unfolding bad_length_ok bad_count
other-lengths = refl

-- read: the number of the drive, how many, and each
pub bads_read : bads_in record₂ ≡ three
unfolding bads_in bad_count
bads_read = refl

pub bads_number : number_in record₂ ≡ 2
unfolding le
bads_number = refl

pub bads_each : (bads_in record₂).count ∷ map (bad_at (bads_in record₂)) (0 ∷ 1 ∷ 2 ∷ 3 ∷ 15 ∷ []) ≡ 3 ∷ 5 ∷ 7 ∷ 72623859790382856 ∷ 0 ∷ 0 ∷ []
unfolding bads_in bad_count le
bads_each = refl

-- written: length, kind, number, the bytes of the three
pub bads_written : bad_record 2 three ≡ record₂
unfolding le_bytes bad_record held_of
bads_written = refl

-- of ten blocks from 3 on two come before the first bad one; 5 is bad; 6 is not; nor are the hundred behind 7
pub bads-good : good three 3 10 ∷ good three 5 4 ∷ good three 6 1 ∷ good three 8 100 ∷ [] ≡ 2 ∷ 0 ∷ 1 ∷ 100 ∷ []
unfolding good is_bad held_of le
bads-good = refl

-- each number is heeded, the last too, and none of the zeros behind them: block 0 is good; of no blocks none, of all before a bad one all
pub bads_each_heeded : good three 6 9 ∷ good three 72623859790382850 10 ∷ good three 0 4 ∷ good three 5 0 ∷ good three 2 3 ∷ good three 2 4 ∷ good no_bads 0 6 ∷ []
    ≡ 1 ∷ 6 ∷ 4 ∷ 0 ∷ 3 ∷ 3 ∷ 6 ∷ []
unfolding good is_bad held_of le
bads_each_heeded = refl

-- what bad block 11 leaves: of nine from 4 on seven, of seven all, of five all; of any from 11 on none, from 12 on all
pub one_before : before 11 4 9 ∷ before 11 4 7 ∷ before 11 4 5 ∷ before 11 11 3 ∷ before 11 12 2 ∷ [] ≡ 7 ∷ 7 ∷ 5 ∷ 0 ∷ 2 ∷ []
unfolding before
one_before = refl

-- a list has room for sixteen numbers, whatever its count says
pub bads_held : map held_of (0 ∷ 3 ∷ 16 ∷ 17 ∷ 255 ∷ []) ≡ 0 ∷ 3 ∷ 16 ∷ 16 ∷ 16 ∷ []
unfolding held_of
bads_held = refl

-- no list is 128 zeros
pub bads_none : no_bads ≡ record { count = 0; list = replicate 128 0 }
bads_none = refl

-- taken: ascending, and below the drive's blocks
pub bads_taken : list_ok (two 5 7) 8 ∷ bads_ok (two 5 7) 8 ∷ bads_ok no_bads 0 ∷ [] ≡ true ∷ true ∷ true ∷ []
unfolding bads_ok list_ok ascends are_blocks zero_past held_of le
bads_taken = refl

-- refused: descending, repeated, a number that is the drive's blocks
pub bads_refused : list_ok (two 7 5) 8 ∷ list_ok (two 5 5) 8 ∷ list_ok (two 5 7) 7 ∷ [] ≡ false ∷ false ∷ false ∷ []
unfolding list_ok ascends are_blocks held_of le
bads_refused = refl

-- the bytes of numbers
abbrev bytes_of : List ℕ → List ℕ
bytes_of [] = []
bytes_of (x ∷ l) = le_bytes 8 x ++ bytes_of l

-- a list by its count, three numbers, and its last one
abbrev some : ℕ → ℕ → ℕ → ℕ → ℕ → Bads
some n a b c z = record { count = n; list = bytes_of (a ∷ b ∷ c ∷ (replicate 12 0 ++ (z ∷ []))) }

-- sixteen numbers, 1 to 15 and 40, by their count
abbrev sixteen : ℕ → Bads
sixteen n = record { count = n; list = bytes_of (1 ∷ 2 ∷ 3 ∷ 4 ∷ 5 ∷ 6 ∷ 7 ∷ 8 ∷ 9 ∷ 10 ∷ 11 ∷ 12 ∷ 13 ∷ 14 ∷ 15 ∷ 40 ∷ []) }

-- every pair is compared, 5 9 7, 5 9 9, 9 5 7 and 5 7 9, and every number with the blocks, 10 of them and 9
pub bads_pairs : map (λ (l : Bads). list_ok l 10) (some 3 5 9 7 0 ∷ some 3 5 9 9 0 ∷ some 3 9 5 7 0 ∷ some 3 5 7 9 0 ∷ some 1 10 0 0 0 ∷ []) ++ (list_ok (some 3 5 7 9 0) 9 ∷ [])
    ≡ false ∷ false ∷ false ∷ true ∷ false ∷ false ∷ []
unfolding le_bytes list_ok ascends are_blocks held_of le
bads_pairs = refl

-- what a slot may hold: three numbers; not one behind them, nor a sixteenth, nor what is refused; without a drive no number
pub bads_slot : map (λ (l : Bads). bads_ok l 10) (some 3 5 7 9 0 ∷ some 2 5 7 9 0 ∷ some 3 5 7 9 1 ∷ some 0 0 0 0 1 ∷ some 2 7 5 0 0 ∷ some 3 5 7 10 0 ∷ []) ++ (bads_ok (some 1 0 0 0 0) 0 ∷ [])
    ≡ true ∷ false ∷ false ∷ false ∷ false ∷ false ∷ false ∷ []
unfolding le_bytes bads_ok list_ok ascends are_blocks zero_past held_of le
bads_slot = refl

-- sixteen may stand there, and no count above them: which is written as sixteen, 134 bytes, and heeded as sixteen
pub bads_sixteen : bads_ok (sixteen 16) 41 ∷ bads_ok (sixteen 17) 41 ∷ [] ≡ true ∷ false ∷ []
unfolding le_bytes bads_ok list_ok ascends are_blocks zero_past held_of le
bads_sixteen = refl

pub sixteen_written : bad_record 7 (sixteen 17) ≡ (134 ∷ 0 ∷ 3 ∷ 0 ∷ 7 ∷ 0 ∷ []) ++ (sixteen 16).list
unfolding le_bytes bad_record held_of
sixteen_written = refl

pub sixteen_heeded : good (sixteen 16) 16 100 ∷ good (sixteen 16) 41 100 ∷ good (sixteen 17) 16 100 ∷ good (sixteen 17) 0 1 ∷ [] ≡ 24 ∷ 100 ∷ 24 ∷ 1 ∷ []
unfolding le_bytes good is_bad held_of le
sixteen_heeded = refl

-- and taken as sixteen, by check 5
pub sixteen_taken : list_ok (sixteen 17) 41 ∷ list_ok (sixteen 17) 40 ∷ [] ≡ true ∷ false ∷ []
unfolding le_bytes list_ok ascends are_blocks held_of le
sixteen_taken = refl
