use borrow.Author.Rules.{rules}
use mathlib.Core.Path.{◌≡◌, sym}
use native.Mathlib.Omega.{arith}
use lib.ListN.{length}
use lib.Seq.{length-take-le}
use Rattle.drive.proofs.DriveLaws.{Arrays}
use Rattle.layout.proofs.ResultBufferLaws.{returned_wide, answer-small, answer-no_room, answer-written}
use Rattle.layout.proofs.write_result.Goals as goal

pub returns-then-asked-lt-LEAST_SIZE : goal.returns-then-asked-lt-LEAST_SIZE
returns-then-asked-lt-LEAST_SIZE c = let a = c.args in answer-small a.d a.p a.asked a.out.now c.if-asked-lt-LEAST_SIZE.true

pub returns-then-out-size : goal.returns-then-out-size
returns-then-out-size c =
    let a = c.args in
    answer-no_room a.d a.p a.asked a.out.now c.if-asked-lt-LEAST_SIZE.false (omega arith)

pub slice_bounds-r-end : goal.slice_bounds-r-end
slice_bounds-r-end c =
    let l : length c.whole_of-r.result ≡ 74 = search rules in
    omega (arith, returned_wide c.args.d c.args.asked, c.returned_size-n.ensures)

pub slice_bounds-store-end : goal.slice_bounds-store-end
slice_bounds-store-end c = sym (length-take-le _ _ (slice_bounds-r-end c.before))

pub returns : goal.returns
returns c =
    let a = c.args in
    let arrays : Arrays a.d = record { bus = search rules; interface = search rules; path = search rules; device = search rules; tail = search rules } in
    let n = c.returned_size-n in
    answer-written a.d a.p a.asked a.out.now c.whole_of-r.result arrays c.whole_of-r.ensures c.if-asked-lt-LEAST_SIZE.false n.ensures c.if-out-size.false c.store.ensures
