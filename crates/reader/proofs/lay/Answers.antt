use borrow.Author.Rules.{rules}
use native.Mathlib.Omega.{arith}
use mathlib.Core.Path.{◌≡◌}
use Prim.Native.Nat.{◌≤◌}
use lib.ListN.{length}
use Rattle.table.specs.Table.{table_of}
use Rattle.reader.proofs.ReaderLaws.{table_long, image_laid}
use Rattle.reader.proofs.lay.Goals as goal

pub put_head-requires : goal.put_head-requires
put_head-requires c = table_long c.args.f.now.table c.next_place.ensures.0

pub returns : goal.returns
returns c =
    let f = c.args.f.now in
    let size : length c.args.out.now ≡ 2018 = search rules in
    let held : length f.held ≡ 134 = search rules in
    let room : length (table_of f.table) ≤ 1844 = omega (arith, table_long f.table c.next_place.ensures.0, c.next_place.ensures.1) in
    image_laid c.args.out.now f size held room
    c.put_head.ensures c.store.ensures (c.fill.ensures.after (λ y e. e)) c.write_table.ensures.1
