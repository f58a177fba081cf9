use borrow.Author.Rules.{rules}
use mathlib.Core.Path.{◌≡◌, sym, ◌∙◌}
use mathlib.Core.Bool.{true}
use lib.ListN.{length}
use borrow.Author.Tests.{eq-eqb}
use Rattle.logic.specs.Logic.{both}
use Rattle.drive.specs.Drive.{drive_length, drive_of, fields_ok}
use Rattle.convert.specs.Convert.{sound_record, converts}
use Rattle.convert.proofs.ConvertLaws.{decodable, narrow, converted_stores}
use Rattle.convert.proofs.convert.Goals as goal

pub returns : goal.returns
unfolding converts sound_record
returns c =
    let a = c.args in
    let r = a.r.now in
    let size : length a.out.now ≡ drive_length a.to = c.if-out-length_of.false ∙ c.length_of.ensures in
    let is = sym c.is_record.ensures ∙ c.if-not-is_record.false in
    let good : both (fields_ok (drive_of r)) (narrow (drive_of r)) ≡ true = search rules in
    let ok : converts a.from a.to r (length a.out.now) ≡ true = rw (eq-eqb _ _ size, is) good in
    (rw ok, rw ok (converted_stores r (decodable a.from r is).0 a.out.now a.to size (rw c.length_of-2.ensures at c.put.ensures) c.put-2.ensures c.store.ensures (c.fill.ensures.after (λ y e. e))))
