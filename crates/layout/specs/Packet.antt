-- Addresses in a guest's memory, and the device address packet that 42h, 43h, 44h and 47h read there (document 01).
-- Assumes nothing.
use Rattle.std.specs.Prelude.{ℕ, ◌+◌, ◌*◌, List, [], ◌∷◌, length, get_or, leb, Result, Ok, Err}
use Rattle.logic.specs.Logic.{pick}
use Rattle.words.specs.Words.{le}
use Rattle.layout.specs.declared.Packet.{Packet}
use Rattle.layout.specs.declared.BadParameter.{BadParameter}

-- ---- "Parts of the desk"

-- a segment:offset address, counted from the window's start, never wrapped
abbrev pub linear : ℕ → ℕ → ℕ
linear segment offset = 16 * segment + offset

-- ---- "Numbers given back"

-- AH 01h: unknown function or drive; bad parameter as listed
abbrev pub bad_parameter : ℕ
bad_parameter = 0x01

-- ---- "Steps of each function", 42h, 43h and 44h: the packet

-- 16 packet bytes
abbrev pub packet_length : ℕ
packet_length = 16

-- byte 0 size, byte 1 ignored, word 2 count, words 4 and 6 offset and segment of the buffer, qword 8 start
unfoldable pub packet_at : List ℕ → ℕ → Packet
packet_at window at = record {
  size = get_or window at 0;
  count = le 2 window (at + 2);
  buffer = linear (le 2 window (at + 6)) (le 2 window (at + 4));
  start = le 8 window (at + 8);
}

-- 16 packet bytes at DS:SI inside the window, else 01h; the sum never wraps
unfoldable pub read_packet : List ℕ → ℕ → Result Packet BadParameter
read_packet window at = pick (leb (at + packet_length) (length window)) (Ok (packet_at window at)) (Err (record {}))

-- ---- "Forms we want to see": the answer as numbers, 0 and the values in the packet's order, or the code

-- size, count, buffer, start
unfoldable pub packet_numbers : Result Packet BadParameter → List ℕ
packet_numbers (Ok p) = 0 ∷ p.size ∷ p.count ∷ p.buffer ∷ p.start ∷ []
packet_numbers (Err e) = bad_parameter ∷ []

-- the numbers for a place of a window, by the paper's offsets; the buffer is 16 times segment plus offset
unfoldable pub packet_given : List ℕ → ℕ → List ℕ
packet_given window at =
    pick (leb (at + 16) (length window))
    (0 ∷ get_or window at 0 ∷ le 2 window (at + 2) ∷ (16 * le 2 window (at + 6) + le 2 window (at + 4)) ∷ le 8 window (at + 8) ∷ [])
    (0x01 ∷ [])
