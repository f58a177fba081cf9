-- Laws of the device address packet.
-- Assumes nothing.
use mathlib.Core.Path.{◌≡◌, refl, ap, ◌∙◌}
use mathlib.Core.Bool.{Bool, true, false}
use mathlib.Core.List.{List, [], ◌∷◌}
use Prim.Native.Nat.{ℕ, ◌+◌, ◌*◌}
use lib.ListN.{length, get_or}
use lib.Dec.{leb}
use Rattle.logic.proofs.LogicLaws.{impossible}
use Rattle.logic.specs.Logic.{pick}
use Rattle.words.specs.Words.{le}
use Rattle.std.specs.Prelude.{Result, Ok, Err}
use Rattle.layout.specs.declared.BadParameter.{BadParameter}
use Rattle.layout.specs.declared.Packet.{Packet}
use Rattle.layout.specs.Packet.{packet_length, packet_at, read_packet, packet_numbers, packet_given}

-- whoever answers with the definition answers with the paper's numbers
pub packet_answered : {r : Result Packet BadParameter} (window : List ℕ) (at : ℕ) → r ≡ read_packet window at
    → (r ≡ read_packet window at) × (packet_numbers r ≡ packet_given window at)
unfolding read_packet packet_at packet_numbers packet_given
packet_answered window at e = (e, ap packet_numbers e ∙ by_test (leb (at + packet_length) (length window)))
  where
    by_test : (t : Bool) → packet_numbers (pick t (Ok (packet_at window at)) (Err (record {})))
        ≡ pick t (0 ∷ get_or window at 0 ∷ le 2 window (at + 2) ∷ (16 * le 2 window (at + 6) + le 2 window (at + 4)) ∷ le 8 window (at + 8) ∷ []) (0x01 ∷ [])
    by_test true = refl
    by_test false = refl

-- no two answers have the same numbers
pub packet-apart : (x y : Result Packet BadParameter) → packet_numbers x ≡ packet_numbers y → x ≡ y
unfolding packet_numbers
packet-apart (Ok p) (Ok q) e =
    let size : p.size ≡ q.size = cc in
    let count : p.count ≡ q.count = cc in
    let buffer : p.buffer ≡ q.buffer = cc in
    let start : p.start ≡ q.start = cc in
    λ i. Ok (record { size = size i; count = count i; buffer = buffer i; start = start i })
packet-apart (Ok p) (Err d) e = impossible (cc)
packet-apart (Err c) (Ok q) e = impossible (cc)
packet-apart (Err c) (Err d) e = refl
