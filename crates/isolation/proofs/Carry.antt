-- Served alone does not look at the posted carry.
-- Assumes nothing.
use Prim.Native.Nat.{ℕ, ◌+◌, ◌/◌}
use mathlib.Core.Path.{◌≡◌, refl, ap, ap₂, ◌∙◌}
use mathlib.Core.Bool.{Bool, not}
use mathlib.Core.List.{List}
use lib.ListN.{length, drop}
use lib.Dec.{ltb, eqb}
use Rattle.std.specs.Prelude.{Result, Ok, Err, Option}
use Rattle.logic.specs.Logic.{pick, both, either}
use Rattle.words.specs.Words.{le}
use Rattle.chs.specs.declared.Outside.{Outside}
use Rattle.layout.specs.declared.Packet.{Packet}
use Rattle.layout.specs.declared.BadParameter.{BadParameter}
use Rattle.chs.specs.Chs.{block_of, address_in}
use Rattle.drive.specs.declared.Drive.{Drive}
use Rattle.drive.specs.Drive.{geometry_of, is_protected}
use Rattle.table.specs.Table.{read_table}
use Rattle.attached.specs.declared.Bads.{Bads}
use Rattle.table.specs.declared.Table.{Table}
use Rattle.layout.specs.Packet.{bad_parameter, read_packet}
use Rattle.layout.specs.ResultBuffer.{result_answer}
use Rattle.memory.specs.Blocks.{block_length}
use Rattle.int13.specs.declared.Registers.{Registers}
use Rattle.int13.specs.declared.Placement.{Placement}
use Rattle.int13.specs.declared.Outcome.{Outcome}
use Rattle.int13.specs.declared.Outcome.TheVariants.{Answered}
use Rattle.int13.specs.declared.Plan.{Plan}
use Rattle.int13.specs.declared.Plan.TheVariants.{Refuse, Clear, Finish, Wait}
use Rattle.int13.specs.Answers.{bad_buffer, write_protected, ah, al, dl, is_write, refuse, posted}
use Rattle.int13.specs.Steps.{Checked, unchanged, fed, is_drive, drive_count, drive_named, bads_of, shown_of, packet_place, verify_ok, most_run, packet_tests, packet_read, packet_plan, carry_out, extended, seek_read, seek, sector_run, sectors, parameters, extensions, result_given, result_steps, result_into, steps, begin}
use Rattle.int13.specs.Alone.{finish, alone}
use Rattle.isolation.specs.Exported.{CarryUnread}

module _ (known : Bool) (count : ℕ) (d : Drive) (l : Bads) (s : Option ℕ) (r : Registers) (w : List ℕ) where
  run : (M : ℕ) (x : Result ℕ Outside) → sector_run d r M x ≡ sector_run d (posted r) M x
  run M (Err e) = refl
  run M (Ok n) = refl

  by_sectors : sectors known d r (length w) ≡ sectors known d (posted r) (length w)
  unfolding sectors
  by_sectors =
      ap (λ (o : Outcome). pick (not known) (Answered (refuse bad_parameter r))
      (pick (eqb (al r) 0) (Answered (refuse bad_parameter r))
      (pick (ltb most_run (al r)) (Answered (refuse bad_buffer r))
      (pick (both (is_write (ah r)) (is_protected d)) (Answered (refuse write_protected r)) o))))
      (run (length w) (block_of (geometry_of d) (address_in r.cx r.dx)))

  read : (M : ℕ) (x : Result Packet BadParameter) → packet_read d l r M x ≡ packet_read d l (posted r) M x
  unfolding packet_tests
  read M (Err e) = refl
  read M (Ok p) = refl

  by_plan : packet_plan known d l r w ≡ packet_plan known d l (posted r) w
  unfolding packet_plan
  by_plan =
      ap (λ (p : Plan). pick (not known) (Refuse bad_parameter)
      (pick (both (is_write (ah r)) (not (verify_ok (al r) d.flags))) (Refuse bad_parameter) p))
      (read (length w) (read_packet w (packet_place r)))

  carried : (p : Plan) → carry_out p r w ≡ carry_out p (posted r) w
  carried (Refuse code) = refl
  carried (Clear code n) = refl
  carried Finish = refl
  carried (Wait j) = refl

  seeks : (x : Result Packet BadParameter) → seek_read d r x ≡ seek_read d (posted r) x
  seeks (Err e) = refl
  seeks (Ok p) = refl

  by_seek : seek known d r w ≡ seek known d (posted r) w
  unfolding seek
  by_seek = ap (λ (o : Outcome). pick (not known) (Answered (refuse bad_parameter r)) o) (seeks (read_packet w (packet_place r)))

  given : (x : Result ℕ BadParameter) → result_given x r ≡ result_given x (posted r)
  given (Err e) = refl
  given (Ok n) = refl

  by_result : result_into known d s r w ≡ result_into known d s (posted r) w
  unfolding result_into
  by_result =
      ap (λ (o : Outcome). pick (not known) (unchanged w (Answered (refuse bad_parameter r)))
      (pick (ltb (length w) (packet_place r + 2)) (unchanged w (Answered (refuse bad_parameter r)))
      (record { outcome = o; window = (result_steps d s r w (packet_place r)).window })))
      (given (result_answer d (le 2 w (packet_place r)) (length (drop (packet_place r) w))))

  by_steps : steps known count d l s r w ≡ steps known count d l s (posted r) w
  unfolding steps parameters extensions
  by_steps =
      ap (λ (o : Outcome). pick (either (eqb (ah r) 0x02) (eqb (ah r) 0x03)) (unchanged w o) (rest r)) by_sectors
      ∙ ap (λ (x : Checked). pick (either (eqb (ah r) 0x02) (eqb (ah r) 0x03)) (unchanged w (sectors known d (posted r) (length w)))
      (pick (eqb (ah r) 0x08) (unchanged w (parameters known count d r))
      (pick (eqb (ah r) 0x41) (unchanged w (extensions known s r))
      (pick (either (eqb (ah r) 0x42) (either (eqb (ah r) 0x43) (eqb (ah r) 0x44))) x
      (pick (eqb (ah r) 0x47) (unchanged w (seek known d r w)) (pick (eqb (ah r) 0x48) (result_into known d s r w) (unchanged w (Answered (refuse bad_parameter r)))))))))
      (carried (packet_plan known d l r w) ∙ ap (λ (p : Plan). carry_out p (posted r) w) by_plan)
      ∙ ap₂ (λ (o : Outcome) (x : Checked). pick (either (eqb (ah r) 0x02) (eqb (ah r) 0x03)) (unchanged w (sectors known d (posted r) (length w)))
      (pick (eqb (ah r) 0x08) (unchanged w (parameters known count d r))
      (pick (eqb (ah r) 0x41) (unchanged w (extensions known s r))
      (pick (either (eqb (ah r) 0x42) (either (eqb (ah r) 0x43) (eqb (ah r) 0x44))) (extended known d l (posted r) w)
      (pick (eqb (ah r) 0x47) (unchanged w o) (pick (eqb (ah r) 0x48) x (unchanged w (Answered (refuse bad_parameter r)))))))))
      by_seek by_result
    where
      rest : Registers → Checked
      rest r =
          pick (eqb (ah r) 0x08) (unchanged w (parameters known count d r))
          (pick (eqb (ah r) 0x41) (unchanged w (extensions known s r))
          (pick (either (eqb (ah r) 0x42) (either (eqb (ah r) 0x43) (eqb (ah r) 0x44))) (extended known d l r w)
          (pick (eqb (ah r) 0x47) (unchanged w (seek known d r w))
          (pick (eqb (ah r) 0x48) (result_into known d s r w)
          (unchanged w (Answered (refuse bad_parameter r)))))))

by_begin : (b : Table) (p : Placement) (r : Registers) (w : List ℕ) → begin (fed b p) r w ≡ begin (fed b p) (posted r) w
unfolding begin
by_begin b p r w = by_steps (is_drive b (dl r)) (drive_count b) (drive_named b r) (bads_of b (dl r)) (shown_of b p (dl r)) r w

pub alone-carry : CarryUnread
unfolding alone
alone-carry t p r m =
    ap (λ (x : Checked). finish (read_table t (length m.store / block_length)).table x.outcome x.window m)
    (by_begin (read_table t (length m.store / block_length)).table p r m.window)
