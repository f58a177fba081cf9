-- The sums of document 01, "Sums to prove together", that speak of the 48h result, the room that it needs, and one packet.
-- Assumes nothing.
use mathlib.Core.Path.{◌≡◌, refl}
use mathlib.Core.Bool.{true, false}
use mathlib.Core.List.{List, [], ◌∷◌, map}
use Prim.Native.Nat.{ℕ}
use lib.ListN.{get_or}
use Rattle.words.specs.Words.{le, le_bytes}
use Rattle.drive.specs.declared.Drive.{Drive}
use Rattle.drive.specs.Drive.{drive_of, tail_of, is_i2o}
use Rattle.layout.specs.Packet.{packet_at, read_packet, packet_numbers}
use Rattle.layout.specs.ResultBuffer.{no_pointer, returned_size, parameter_bytes, block_bytes, interface_bytes, path_bytes, sum, summed_bytes, whole_result, result_bytes, result_answer, result_numbers}

-- the drive's record in the 72-byte table
abbrev table_record : List ℕ
table_record =
    68 ∷ 0 ∷ 1 ∷ 0 ∷ 2 ∷ 0 ∷ 0 ∷ 0 ∷ 16 ∷ 0 ∷ 0 ∷ 0 ∷ 63 ∷ 0 ∷ 0 ∷ 0 ∷ 0 ∷ 8 ∷ 0 ∷ 0 ∷ 0 ∷ 0 ∷ 0 ∷ 0
    ∷ 0 ∷ 0 ∷ 0 ∷ 0 ∷ 0 ∷ 0 ∷ 0 ∷ 0
    ∷ 2 ∷ 0 ∷ 2 ∷ 0 ∷ 16 ∷ 0 ∷ 63 ∷ 0 ∷ 80 ∷ 67 ∷ 73 ∷ 0 ∷ 65 ∷ 84 ∷ 65 ∷ 0 ∷ 0 ∷ 0 ∷ 0 ∷ 0 ∷ 0 ∷ 31 ∷ 1 ∷ 0 ∷ 0 ∷ 0 ∷ 0 ∷ 0
    ∷ 0 ∷ 0 ∷ 0 ∷ 0 ∷ 0 ∷ 0 ∷ 0 ∷ 0 ∷ []

-- its whole result
pub table_result : result_bytes (drive_of table_record) no_pointer 66
    ≡ 66 ∷ 0 ∷ 2 ∷ 0 ∷ 2 ∷ 0 ∷ 0 ∷ 0 ∷ 16 ∷ 0 ∷ 0 ∷ 0 ∷ 63 ∷ 0 ∷ 0 ∷ 0 ∷ 0 ∷ 8 ∷ 0 ∷ 0 ∷ 0 ∷ 0 ∷ 0 ∷ 0 ∷ 0 ∷ 2
    ∷ 255 ∷ 255 ∷ 255 ∷ 255
    ∷ 221 ∷ 190 ∷ 36 ∷ 0 ∷ 0 ∷ 0 ∷ 80 ∷ 67 ∷ 73 ∷ 0 ∷ 65 ∷ 84 ∷ 65 ∷ 0 ∷ 0 ∷ 0 ∷ 0 ∷ 0 ∷ 0 ∷ 31 ∷ 1 ∷ 0 ∷ 0 ∷ 0 ∷ 0 ∷ 0
    ∷ 0 ∷ 0 ∷ 0 ∷ 0 ∷ 0 ∷ 0 ∷ 0 ∷ 0 ∷ 0 ∷ 111 ∷ []
unfolding drive_of tail_of le le_bytes result_bytes whole_result parameter_bytes block_bytes summed_bytes interface_bytes path_bytes sum
table_result = refl

-- P7: byte 65 of the result is 6Fh
pub byte65 : get_or (result_bytes (drive_of table_record) no_pointer 66) 65 0 ≡ 111
unfolding drive_of tail_of le le_bytes result_bytes whole_result parameter_bytes block_bytes summed_bytes interface_bytes path_bytes sum
byte65 = refl

abbrev sizes : List ℕ
sizes = 25 ∷ 26 ∷ 29 ∷ 30 ∷ 65 ∷ 66 ∷ 65535 ∷ []

abbrev no : List ℕ
no = 1 ∷ []

abbrev size : ℕ → List ℕ
size n = 0 ∷ n ∷ []

-- the answers to them in a room
abbrev answers : Drive → ℕ → List (List ℕ)
answers d room = map (λ asked. result_numbers (result_answer d asked room)) sizes

-- P8: the answers to those sizes where the room is enough, with 74 as document 02 has it
pub sizes_answered : (d : Drive) → is_i2o d ≡ false → answers d 74 ≡ no ∷ size 26 ∷ size 26 ∷ size 30 ∷ size 30 ∷ size 66 ∷ size 74 ∷ []
unfolding result_numbers result_answer returned_size
sizes_answered d e = rw e

-- of a drive of type I2O, which 66 bytes cannot name
pub sizes_answered_I2O : (d : Drive) → is_i2o d ≡ true → answers d 74 ≡ no ∷ size 26 ∷ size 26 ∷ size 30 ∷ size 30 ∷ size 30 ∷ size 74 ∷ []
unfolding result_numbers result_answer returned_size
sizes_answered_I2O d e = rw e

-- the same sizes in rooms of other lengths: a size that does not fit is refused, and no smaller one is tried
pub rooms_answered : (d : Drive) → is_i2o d ≡ false → map (answers d) (1 ∷ 2 ∷ 25 ∷ 26 ∷ 29 ∷ 30 ∷ 65 ∷ 66 ∷ 73 ∷ 74 ∷ [])
    ≡ (no ∷ no ∷ no ∷ no ∷ no ∷ no ∷ no ∷ [])
    ∷ (no ∷ no ∷ no ∷ no ∷ no ∷ no ∷ no ∷ [])
    ∷ (no ∷ no ∷ no ∷ no ∷ no ∷ no ∷ no ∷ [])
    ∷ (no ∷ size 26 ∷ size 26 ∷ no ∷ no ∷ no ∷ no ∷ [])
    ∷ (no ∷ size 26 ∷ size 26 ∷ no ∷ no ∷ no ∷ no ∷ [])
    ∷ (no ∷ size 26 ∷ size 26 ∷ size 30 ∷ size 30 ∷ no ∷ no ∷ [])
    ∷ (no ∷ size 26 ∷ size 26 ∷ size 30 ∷ size 30 ∷ no ∷ no ∷ [])
    ∷ (no ∷ size 26 ∷ size 26 ∷ size 30 ∷ size 30 ∷ size 66 ∷ no ∷ [])
    ∷ (no ∷ size 26 ∷ size 26 ∷ size 30 ∷ size 30 ∷ size 66 ∷ no ∷ [])
    ∷ (no ∷ size 26 ∷ size 26 ∷ size 30 ∷ size 30 ∷ size 66 ∷ size 74 ∷ [])
    ∷ []
unfolding result_numbers result_answer returned_size
rooms_answered d e = rw e

-- and of a drive of type I2O: its answer to 66 needs room for 30 bytes
pub rooms_answered_I2O : (d : Drive) → is_i2o d ≡ true → map (answers d) (29 ∷ 30 ∷ 66 ∷ 73 ∷ 74 ∷ [])
    ≡ (no ∷ size 26 ∷ size 26 ∷ no ∷ no ∷ no ∷ no ∷ [])
    ∷ (no ∷ size 26 ∷ size 26 ∷ size 30 ∷ size 30 ∷ size 30 ∷ no ∷ [])
    ∷ (no ∷ size 26 ∷ size 26 ∷ size 30 ∷ size 30 ∷ size 30 ∷ no ∷ [])
    ∷ (no ∷ size 26 ∷ size 26 ∷ size 30 ∷ size 30 ∷ size 30 ∷ no ∷ [])
    ∷ (no ∷ size 26 ∷ size 26 ∷ size 30 ∷ size 30 ∷ size 30 ∷ size 74 ∷ [])
    ∷ []
unfolding result_numbers result_answer returned_size
rooms_answered_I2O d e = rw e

-- a packet with size 24, count 0100h, buffer FFFFh:FFFFh and start 2048
abbrev packet : List ℕ
packet = 24 ∷ 9 ∷ 0 ∷ 1 ∷ 255 ∷ 255 ∷ 255 ∷ 255 ∷ 0 ∷ 8 ∷ 0 ∷ 0 ∷ 0 ∷ 0 ∷ 0 ∷ 0 ∷ []

-- read in a window of 16 bytes, at 0, at 1 and at the last place of 64 bits
pub packets-read : map (λ at. packet_numbers (read_packet packet at)) (0 ∷ 1 ∷ 18446744073709551615 ∷ [])
    ≡ (0 ∷ 24 ∷ 256 ∷ 1114095 ∷ 2048 ∷ []) ∷ (1 ∷ []) ∷ (1 ∷ []) ∷ []
unfolding packet_numbers read_packet packet_at le
packets-read = refl
