-- Windows by number: lengths one too large, guests that there are not, and arenas too short or not a multiple of eight. Then windows and
-- blocks in which guest, length, places and number of blocks each have a value of their own.
-- Assumes nothing.
use mathlib.Core.Path.{◌≡◌, refl}
use mathlib.Core.List.{List, [], ◌∷◌, ◌++◌, map}
use Prim.Native.Nat.{ℕ, zero, suc}
use lib.ListN.{replicate}
use Rattle.memory.specs.Window.{window_length, span_start, span_length, window_of, with_window}
use Rattle.memory.specs.Blocks.{blocks}

-- the arenas: none, below eight bytes, one byte a guest, one short of a packet, a packet a guest, and 4096 with 7 odd bytes
abbrev arenas : List ℕ
arenas = 0 ∷ 7 ∷ 8 ∷ 127 ∷ 128 ∷ 4103 ∷ []

-- M of each arena, as document 01's floor of the eighth part
pub lengths : map window_length arenas ≡ 0 ∷ 0 ∷ 1 ∷ 15 ∷ 16 ∷ 512 ∷ []
lengths = refl

-- start and length of the window of M bytes for the first guest and the last; for a length one too large; for guest 8, and guest 2^64 - 1
abbrev spans : ℕ → List ℕ
spans n =
    let m = window_length n in
    span_start n 0 m ∷ span_length n 0 m ∷ span_start n 7 m ∷ span_length n 7 m
    ∷ span_start n 7 (suc m) ∷ span_length n 7 (suc m)
    ∷ span_start n 8 m ∷ span_length n 8 m
    ∷ span_start n 18446744073709551615 m ∷ span_length n 18446744073709551615 m ∷ []

--   arena 0: guest 0 at 0 for 0, guest 7 at 0 for 0, and the empty part at 0 three times
--   arena 7: the same
--   arena 8: guest 7 at 7 for 1
--   arena 127: guest 7 at 105 for 15, so that 120 bytes belong to guests
--   arena 128: guest 7 at 112 for 16
--   arena 4103: guest 7 at 3584 for 512, so that 7 bytes belong to nobody
pub windows : map spans arenas
    ≡ (0 ∷ 0 ∷ 0 ∷ 0 ∷ 0 ∷ 0 ∷ 0 ∷ 0 ∷ 0 ∷ 0 ∷ [])
    ∷ (0 ∷ 0 ∷ 0 ∷ 0 ∷ 0 ∷ 0 ∷ 0 ∷ 0 ∷ 0 ∷ 0 ∷ [])
    ∷ (0 ∷ 1 ∷ 7 ∷ 1 ∷ 0 ∷ 0 ∷ 0 ∷ 0 ∷ 0 ∷ 0 ∷ [])
    ∷ (0 ∷ 15 ∷ 105 ∷ 15 ∷ 0 ∷ 0 ∷ 0 ∷ 0 ∷ 0 ∷ 0 ∷ [])
    ∷ (0 ∷ 16 ∷ 112 ∷ 16 ∷ 0 ∷ 0 ∷ 0 ∷ 0 ∷ 0 ∷ 0 ∷ [])
    ∷ (0 ∷ 512 ∷ 3584 ∷ 512 ∷ 0 ∷ 0 ∷ 0 ∷ 0 ∷ 0 ∷ 0 ∷ []) ∷ []
unfolding span_start span_length
windows = refl

-- ---- one window

-- the n numbers from v
abbrev up_from : ℕ → ℕ → List ℕ
up_from zero v = []
up_from (suc n) v = v ∷ up_from n (suc v)

-- an arena of 26 bytes, M 3: guest 2's three bytes, guest 3's two where windows of two are asked for, guest 5's; a length above M, no guest
pub window_bytes : window_of (up_from 26 100) 2 3 ∷ window_of (up_from 26 100) 3 2 ∷ window_of (up_from 26 100) 5 3
    ∷ window_of (up_from 26 100) 2 4 ∷ window_of (up_from 26 100) 8 3 ∷ []
    ≡ (106 ∷ 107 ∷ 108 ∷ []) ∷ (106 ∷ 107 ∷ []) ∷ (115 ∷ 116 ∷ 117 ∷ []) ∷ [] ∷ [] ∷ []
unfolding span_start span_length
window_bytes = refl

-- an arena of 17 bytes: guest 5's window of two is written, and no other byte
pub window-written : with_window (up_from 17 100) 5 2 (7 ∷ 8 ∷ [])
    ≡ 100 ∷ 101 ∷ 102 ∷ 103 ∷ 104 ∷ 105 ∷ 106 ∷ 107 ∷ 108 ∷ 109 ∷ 7 ∷ 8 ∷ 112 ∷ 113 ∷ 114 ∷ 115 ∷ 116 ∷ []
unfolding span_start
window-written = refl

-- ---- blocks

-- no block and two, from byte 3 of a source whose byte i is 1000 + i, to place 7 of a target of nines
pub blocks-laid : map (blocks (replicate 1035 9) 7 (up_from 1030 1000) 3) (0 ∷ 2 ∷ [])
    ≡ replicate 1035 9 ∷ (replicate 7 9 ++ (up_from 1024 1003 ++ replicate 4 9)) ∷ []
unfolding blocks
blocks-laid = refl
