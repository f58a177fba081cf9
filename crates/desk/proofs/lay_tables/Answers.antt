use Prim.Native.Nat.{◌*◌}
use native.Mathlib.Omega.{arith}
use lib.ListN.{length, length-take}
use Rattle.int13.specs.Placement.{table_count}
use Rattle.desk.proofs.Places.{place_span, tables-taken}
use Rattle.desk.proofs.lay_tables.Goals as goal

pub put_bytes_in-requires : goal.put_bytes_in-requires
put_bytes_in-requires c =
    let n = c.table_count in
    let a = c.args in
    rw c.window_length-m.ensures
    (omega (arith, n.ensures.0, length-take (16 * n.result) c.tables_of-bytes.result, place_span (table_count a.b) (length a.arena.now) a.guest a.address c.requires.0 c.requires.1))

pub returns : goal.returns
returns c =
    let n = c.table_count.ensures in
    let t = c.tables_of-bytes.ensures in
    rw (c.put_bytes_in.ensures, c.window_length-m.ensures, tables-taken c.args.b n.0 n.1 t.0 t.1)
