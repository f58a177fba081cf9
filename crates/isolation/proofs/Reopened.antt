-- A table that stands in an accepted block, though no opening put it there, is written and opened again as the same.
-- Assumes nothing.
use Prim.Native.Nat.{ℕ, ◌<◌}
use mathlib.Core.Path.{ap}
use native.Mathlib.Omega.{arith}
use lib.ListN.{length, get_or}
use lib.Dec.{leb}
use borrow.Author.Tests.{leb-true, le-ltb}
use Rattle.logic.proofs.LogicLaws.{both_true}
use Rattle.drive.specs.Drive.{Fits}
use Rattle.table.specs.declared.Reading.{Reading}
use Rattle.table.specs.Table.{no_drive, table_of, is_sound, write_answer, write_out}
use Rattle.table.specs.Demand2.{Widths}
use Rattle.table.proofs.ReadWrite.{read-written}
use Rattle.desk.specs.declared.Desk.{Desk}
use Rattle.desk.specs.Parts.{store_blocks}
use Rattle.desk.specs.Calls.{open_desk, open_of, written_of, written_out}
use Rattle.image.specs.Image.{desk_of, FitsDesk}
use Rattle.image.proofs.ImageLaws.{exact}
use Rattle.isolation.specs.Reopened.{ReopenedAll}
use Rattle.isolation.proofs.Accept.{Facts, accept_facts}

-- each slot in use fits its fields
each : (d : Desk) → FitsDesk d → Facts d → (i : ℕ) → i < d.table.count → Fits (get_or d.table.drives i no_drive)
unfolding is_sound
each d f k i h =
    let l = leb-true d.table.count 8 (both_true (leb d.table.count 8) _ k.sound).0 in
    (f.table.each i (omega arith)).numbers

pub reopened : ReopenedAll
unfolding open_of written_of written_out write_answer write_out
reopened b h e =
    let i = exact.only b h e in
    let k = (accept_facts (desk_of b)).0 i.acceptable in
    let f = i.fits.table in
    let w : Widths (desk_of b).table
    = record { eight = f.eight; marks = f.present; bytes = f.parameters; counts = f.counts; lists = f.bad; each = each (desk_of b) i.fits k } in
    let r = read-written (desk_of b).table (store_blocks (desk_of b)) w k.sound in
    record {
      written = λ out l. (
        rw (i.acceptable, le-ltb (length out) (length (table_of (desk_of b).table)) l),
        rw (i.acceptable, le-ltb (length out) (length (table_of (desk_of b).table)) l),
      );
      again = λ arena.
          ap (λ (x : Reading). record { desk = open_desk x.answer x.table arena (desk_of b).store; answer = x.answer }) r;
    }
