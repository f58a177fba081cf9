-- The registers that no answer changes, and the turn that serves.
-- Assumes nothing.
use Prim.Native.Nat.{ℕ, ◌+◌, ◌*◌, ◌<◌}
use mathlib.Core.Path.{◌≡◌, refl, ap}
use mathlib.Core.Bool.{true, not}
use mathlib.Core.List.{List}
use lib.ListN.{length, drop}
use lib.Dec.{leb, ltb, eqb}
use Rattle.std.specs.Prelude.{Result, Ok, Err, Option, Some, None}
use Rattle.logic.specs.Logic.{both, either}
use Rattle.logic.proofs.LogicLaws.{pick-cases}
use Rattle.words.specs.Words.{le}
use Rattle.memory.specs.Window.{guests}
use Rattle.memory.specs.Blocks.{block_length}
use Rattle.chs.specs.declared.Outside.{Outside}
use Rattle.layout.specs.declared.BadParameter.{BadParameter}
use Rattle.chs.specs.Chs.{size, block_of, address_in}
use Rattle.drive.specs.declared.Drive.{Drive}
use Rattle.drive.specs.Drive.{geometry_of, is_protected}
use Rattle.attached.specs.declared.Bads.{Bads}
use Rattle.attached.specs.Bad.{good}
use Rattle.table.specs.declared.Table.{Table}
use Rattle.layout.specs.declared.Packet.{Packet}
use Rattle.layout.specs.Packet.{packet_length, read_packet}
use Rattle.layout.specs.ResultBuffer.{result_answer}
use Rattle.int13.specs.declared.Registers.{Registers}
use Rattle.int13.specs.declared.Placement.{Placement}
use Rattle.int13.specs.declared.Outcome.{Outcome}
use Rattle.int13.specs.declared.Plan.{Plan}
use Rattle.int13.specs.declared.Plan.TheVariants.{Refuse, Clear, Finish, Wait}
use Rattle.int13.specs.Answers.{ah, al, dl, is_write, ended}
use Rattle.int13.specs.Steps.{Checked, most_run, most_blocks, is_drive, drive_named, bads_of, packet_place, verify_ok, verified, packet_tests, packet_read, packet_plan, carry_out, seek_read, seek, sector_buffer, sector_run, sectors, parameters, extensions, result_given, result_into, fed, drive_count, shown_of, steps, begin}
use Rattle.desk.specs.declared.Request.{Request}
use Rattle.desk.specs.declared.Stage.TheVariants.{Waiting}
use Rattle.desk.specs.declared.Desk.{Desk}
use Rattle.desk.specs.Parts.{stage_at}
use Rattle.desk.specs.Acceptable.{accept}
use Rattle.desk.specs.Calls.{is_lent, first_waiting as seek_row, moves_now, bads_for, serve_stage, turn_next, turn_of}
use Rattle.isolation.specs.Single.{SameSegments, KeepsSegments, Serves, Single}
use Rattle.isolation.proofs.Accept.{accept_facts}
use Rattle.isolation.proofs.Turn.{dist_lt, seek-guest, seek_nobody}

-- ---- DS, SI and ES

module _ (b : Table) (r : Registers) (w : List ℕ) where
  abbrev Keeps : Outcome → Type 0
  Keeps o = KeepsSegments r o

  abbrev KeepsChecked : Checked → Type 0
  KeepsChecked k = Keeps k.outcome

  run : (d : Drive) (M : ℕ) (x : Result ℕ Outside) → Keeps (sector_run d r M x)
  run d M (Err e) = record { ds = refl; si = refl; es = refl }
  run d M (Ok n) =
      pick-cases Keeps (ltb (size (geometry_of d)) (n + al r)) _ _ (λ e. record { ds = refl; si = refl; es = refl })
      (λ e. pick-cases Keeps (ltb M (sector_buffer r + block_length * al r)) _ _ (λ e. record { ds = refl; si = refl; es = refl }) (λ e. record { ds = refl; si = refl; es = refl }))

  by_sectors : (M : ℕ) → Keeps (sectors (is_drive b (dl r)) (drive_named b r) r M)
  unfolding sectors
  by_sectors M =
      pick-cases Keeps (not (is_drive b (dl r))) _ _ (λ e. record { ds = refl; si = refl; es = refl })
      (λ e. pick-cases Keeps (eqb (al r) 0) _ _ (λ e. record { ds = refl; si = refl; es = refl })
      (λ e. pick-cases Keeps (ltb most_run (al r)) _ _ (λ e. record { ds = refl; si = refl; es = refl })
      (λ e. pick-cases Keeps (both (is_write (ah r)) (is_protected (drive_named b r))) _ _ (λ e. record { ds = refl; si = refl; es = refl })
      (λ e. run (drive_named b r) M (block_of (geometry_of (drive_named b r)) (address_in r.cx r.dx))))))

  by_parameters : Keeps (parameters (is_drive b (dl r)) (drive_count b) (drive_named b r) r)
  unfolding parameters
  by_parameters = pick-cases Keeps (is_drive b (dl r)) _ _ (λ e. record { ds = refl; si = refl; es = refl }) (λ e. record { ds = refl; si = refl; es = refl })

  by_extensions : (s : Option ℕ) → Keeps (extensions (is_drive b (dl r)) s r)
  unfolding extensions
  by_extensions s = pick-cases Keeps (both (is_drive b (dl r)) (eqb r.bx 0x55AA)) _ _ (λ e. record { ds = refl; si = refl; es = refl }) (λ e. record { ds = refl; si = refl; es = refl })

  -- a plan that waits does so with the registers as posted
  abbrev Plans : Plan → Type 0
  Plans (Refuse code) = Unit
  Plans (Clear code n) = Unit
  Plans Finish = Unit
  Plans (Wait j) = SameSegments r j.registers

  tests : (d : Drive) (l : Bads) (M : ℕ) (p : Packet) → Plans (packet_tests d l r M p)
  unfolding packet_tests verified
  tests d l M p =
      pick-cases Plans (ltb most_blocks p.count) _ _ (λ e. tt)
      (λ e. pick-cases Plans (both (is_write (ah r)) (is_protected d)) _ _ (λ e. tt)
      (λ e. pick-cases Plans (ltb d.blocks (p.start + p.count)) _ _ (λ e. tt)
      (λ e. pick-cases Plans (eqb (ah r) 0x44) _ _ (λ e. pick-cases Plans (ltb (good l p.start p.count) p.count) _ _ (λ e. tt) (λ e. tt))
      (λ e. pick-cases Plans (ltb M (p.buffer + block_length * p.count)) _ _ (λ e. tt)
      (λ e. pick-cases Plans (eqb p.count 0) _ _ (λ e. tt) (λ e. record { ds = refl; si = refl; es = refl }))))))

  read : (d : Drive) (l : Bads) (M : ℕ) (x : Result Packet BadParameter) → Plans (packet_read d l r M x)
  read d l M (Err e) = tt
  read d l M (Ok p) = pick-cases Plans (ltb p.size packet_length) _ _ (λ e. tt) (λ e. tests d l M p)

  by_plan : Plans (packet_plan (is_drive b (dl r)) (drive_named b r) (bads_of b (dl r)) r w)
  unfolding packet_plan
  by_plan =
      pick-cases Plans (not (is_drive b (dl r))) _ _ (λ e. tt)
      (λ e. pick-cases Plans (both (is_write (ah r)) (not (verify_ok (al r) (drive_named b r).flags))) _ _ (λ e. tt) (λ e. read (drive_named b r) (bads_of b (dl r)) (length w) (read_packet w (packet_place r))))

  carried : (p : Plan) → Plans p → KeepsChecked (carry_out p r w)
  carried (Refuse code) k = record { ds = refl; si = refl; es = refl }
  carried (Clear code n) k = record { ds = refl; si = refl; es = refl }
  carried Finish k = record { ds = refl; si = refl; es = refl }
  carried (Wait j) k = k

  by_seek : Keeps (seek (is_drive b (dl r)) (drive_named b r) r w)
  unfolding seek
  by_seek = pick-cases Keeps (not (is_drive b (dl r))) _ _ (λ e. record { ds = refl; si = refl; es = refl }) (λ e. go (read_packet w (packet_place r)))
    where
      go : (x : Result Packet BadParameter) → Keeps (seek_read (drive_named b r) r x)
      go (Err e) = record { ds = refl; si = refl; es = refl }
      go (Ok p) =
          pick-cases Keeps (ltb p.size packet_length) _ _ (λ e. record { ds = refl; si = refl; es = refl })
          (λ e. pick-cases Keeps (leb (drive_named b r).blocks p.start) _ _ (λ e. record { ds = refl; si = refl; es = refl }) (λ e. record { ds = refl; si = refl; es = refl }))

  by_result : (s : Option ℕ) → KeepsChecked (result_into (is_drive b (dl r)) (drive_named b r) s r w)
  unfolding result_into
  by_result s =
      pick-cases KeepsChecked (not (is_drive b (dl r))) _ _ (λ e. record { ds = refl; si = refl; es = refl })
      (λ e. pick-cases KeepsChecked (ltb (length w) (packet_place r + 2)) _ _ (λ e. record { ds = refl; si = refl; es = refl })
      (λ e. go (result_answer (drive_named b r) (le 2 w (packet_place r)) (length (drop (packet_place r) w)))))
    where
      go : (x : Result ℕ BadParameter) → Keeps (result_given x r)
      go (Err e) = record { ds = refl; si = refl; es = refl }
      go (Ok n) = record { ds = refl; si = refl; es = refl }

  by_function : (p : Placement) → KeepsChecked (begin (fed b p) r w)
  unfolding begin steps
  by_function p =
      pick-cases KeepsChecked (either (eqb (ah r) 0x02) (eqb (ah r) 0x03)) _ _ (λ e. by_sectors (length w))
      (λ e. pick-cases KeepsChecked (eqb (ah r) 0x08) _ _ (λ e. by_parameters)
      (λ e. pick-cases KeepsChecked (eqb (ah r) 0x41) _ _ (λ e. by_extensions (shown_of b p (dl r)))
      (λ e. pick-cases KeepsChecked (either (eqb (ah r) 0x42) (either (eqb (ah r) 0x43) (eqb (ah r) 0x44))) _ _ (λ e. carried (packet_plan (is_drive b (dl r)) (drive_named b r) (bads_of b (dl r)) r w) by_plan)
      (λ e. pick-cases KeepsChecked (eqb (ah r) 0x47) _ _ (λ e. by_seek)
      (λ e. pick-cases KeepsChecked (eqb (ah r) 0x48) _ _ (λ e. by_result (shown_of b p (dl r))) (λ e. record { ds = refl; si = refl; es = refl }))))))

-- a finish: all blocks moved, or those before a bad one
finished : (n moved : ℕ) (r : Registers) → SameSegments r (ended n moved r)
unfolding ended
finished n moved r =
    pick-cases (SameSegments r) (ltb moved n) _ _ (λ e. record { ds = refl; si = refl; es = refl }) (λ e. record { ds = refl; si = refl; es = refl })

-- ---- a turn

served : (d : Desk) (arena store : List ℕ) (g : ℕ) (q : Request) → accept d ≡ true → is_lent d arena store ≡ true → g < guests → stage_at d g ≡ Waiting q
    → Serves (turn_of d arena store).answer
unfolding turn_of
served d arena store g q a l b e = rw (a, l) (go (seek_row d.rows guests d.pointer) refl)
  where
    p : d.pointer < 8
    p = ((accept_facts d).0 a).pointer

    go : (x : Option ℕ) → seek_row d.rows guests d.pointer ≡ x → Serves (turn_next d x arena store).answer
    go None s = absurd (seek_nobody d.rows guests d.pointer p s g q b (dist_lt d.pointer g) e)
    go (Some h) s =
        let f = seek-guest d.rows guests d.pointer h p s in
        record { guest = h; moved = moves_now (bads_for d f.request) f.request; is = ap (λ x. (serve_stage d h x arena store).answer) f.here }

pub single : Single
single =
    record {
      posted = λ b p r w. by_function b r w p;
      finished = finished;
      withdrawn = λ n r. record { ds = refl; si = refl; es = refl };
      served = served;
    }
