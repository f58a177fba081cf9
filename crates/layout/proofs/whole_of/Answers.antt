use borrow.Author.Rules.{rules}
use Rattle.drive.proofs.DriveLaws.{Arrays}
use Rattle.layout.specs.ResultBuffer.{interface_bytes, path_bytes, wide_interface_bytes, wide_path_bytes}
use Rattle.layout.proofs.ResultBufferLaws.{narrow_stores, wide_stores}
use Rattle.layout.proofs.whole_of.Goals as goal

pub returns-then-n-eq-WIDE_SIZE : goal.returns-then-n-eq-WIDE_SIZE
unfolding wide_interface_bytes wide_path_bytes
returns-then-n-eq-WIDE_SIZE c =
    let arrays : Arrays c.args.d = record { bus = search rules; interface = search rules; path = search rules; device = search rules; tail = search rules } in
    wide_stores c.args.d c.args.p c.args.n arrays c.if-n-eq-WIDE_SIZE.true
    c.put_geometry.ensures c.put_blocks.ensures (rw (c.padded.ensures, c.padded-then-n-eq-WIDE_SIZE.ensures) at c.put_interface.ensures) c.put_paths.ensures c.put_checksum.ensures

pub returns-else-n-eq-WIDE_SIZE : goal.returns-else-n-eq-WIDE_SIZE
unfolding interface_bytes path_bytes
returns-else-n-eq-WIDE_SIZE c =
    let arrays : Arrays c.args.d = record { bus = search rules; interface = search rules; path = search rules; device = search rules; tail = search rules } in
    narrow_stores c.args.d c.args.p c.args.n arrays c.if-n-eq-WIDE_SIZE.false
    c.put_geometry.ensures c.put_blocks.ensures c.put_interface-else-n-eq-WIDE_SIZE.ensures c.put_paths-else-n-eq-WIDE_SIZE.ensures c.put_checksum-else-n-eq-WIDE_SIZE.ensures
