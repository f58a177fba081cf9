use mathlib.Core.Path.{◌≡◌, sym, ap, ◌∙◌}
use lib.ListN.{length, take}
use lib.Seq.{sets, length-take-le}
use Rattle.drive.specs.Drive.{record_of}
use Rattle.drive.proofs.DriveLaws.{Arrays, length_most, record-taken}
use borrow.Author.Rules.{rules}
use Rattle.drive.proofs.put_record.Goals as goal

-- the length is at most that of the bytes
pub slice_bounds-r-end : goal.slice_bounds-r-end
slice_bounds-r-end c =
    let n : length c.encode-r.result ≡ 76 = search rules in
    rw (c.record_length-n.ensures.1, n) (length_most c.args.d.kind)

pub slice_bounds-store-end : goal.slice_bounds-store-end
slice_bounds-store-end c = sym (length-take-le _ _ (slice_bounds-r-end c.before))

-- of the bytes the record is taken
pub store-requires : goal.store-requires
store-requires c =
    let arrays : Arrays c.args.d = record { bus = search rules; interface = search rules; path = search rules; device = search rules; tail = search rules } in
    let taken : take c.record_length-n.result c.encode-r.result ≡ record_of c.args.d
    = rw (c.encode-r.ensures, c.record_length-n.ensures.1) (record-taken c.args.d arrays) in
    rw taken c.requires

pub returns : goal.returns
returns c =
    let arrays : Arrays c.args.d = record { bus = search rules; interface = search rules; path = search rules; device = search rules; tail = search rules } in
    let taken : take c.record_length-n.result c.encode-r.result ≡ record_of c.args.d
    = rw (c.encode-r.ensures, c.record_length-n.ensures.1) (record-taken c.args.d arrays) in
    c.store.ensures ∙ ap (sets _ _) taken
