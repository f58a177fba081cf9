-- Each field of a drive at its offset in the record.
-- Assumes nothing.
use mathlib.Core.Path.{ap}
use borrow.Author.Tests.{eq-eqb}
use Rattle.drive.specs.declared.Drive.{Drive}
use Rattle.drive.specs.Drive.{drive_of}
use Rattle.drive.specs.Demand2.{Demand2}
use Rattle.drive.proofs.DriveLaws.{drive_shortened, length_word_record, length-record, tail-record}

pub demand_2 : Demand2
unfolding drive_of
demand_2 d f =
    let e = drive_shortened d f in
    record {
      length_word = length_word_record d;
      whole = length-record d record { bus = f.bus; interface = f.interface; path = f.path; device = f.device; tail = f.tail };
      kind = ap (λ (x : Drive). x.kind) e;
      cylinders = ap (λ (x : Drive). x.cylinders) e;
      heads = ap (λ (x : Drive). x.heads) e;
      sectors = ap (λ (x : Drive). x.sectors) e;
      blocks = ap (λ (x : Drive). x.blocks) e;
      first = ap (λ (x : Drive). x.first) e;
      flags = ap (λ (x : Drive). x.flags) e;
      c = ap (λ (x : Drive). x.c) e;
      h = ap (λ (x : Drive). x.h) e;
      s = ap (λ (x : Drive). x.s) e;
      protection = ap (λ (x : Drive). x.protection) e;
      bus = ap (λ (x : Drive). x.bus) e;
      interface = ap (λ (x : Drive). x.interface) e;
      path = ap (λ (x : Drive). x.path) e;
      device = ap (λ (x : Drive). x.device) e;
      tail = λ k. tail-record d f (eq-eqb d.kind 2 k);
    }
