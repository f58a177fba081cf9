use mathlib.Core.Path.{ap, ◌∙◌}
use Rattle.int13.specs.Answers.{is_write}
use Rattle.desk.proofs.Transfers.{ranges, moved-blocks}
use Rattle.desk.proofs.transfer.Goals as goal

pub move_blocks-requires : goal.move_blocks-requires
move_blocks-requires c = ranges c.requires c.window_place-at.ensures c.store_place-place.ensures

pub returns : goal.returns
returns c =
    let a = c.args in
    let w = c.is_write-write.ensures ∙ ap is_write c.function_of.ensures in
    moved-blocks a.first a.q a.k a.guest a.arena.now a.store.now c.window_place-at.ensures c.store_place-place.ensures w c.move_blocks.ensures
