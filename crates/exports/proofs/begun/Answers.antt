use mathlib.Core.Path.{◌≡◌, ap, ◌∙◌}
use mathlib.Core.List.{List}
use Prim.Native.Nat.{ℕ, ◌-◌}
use native.Mathlib.Omega.{arith}
use lib.ListN.{length, take, drop}
use Rattle.memory.specs.Window.{window_length, span_length}
use Rattle.memory.proofs.WindowLaws.{with_window_lent, length-window}
use Rattle.table.specs.declared.Table.{Table}
use Rattle.int13.specs.declared.Placement.{Placement}
use Rattle.int13.specs.Steps.{fed, begin}
use Rattle.desk.specs.Parts.{own_window, with_own, placement_at}
use Rattle.image.specs.Image.{read_desk}
use Rattle.exports.proofs.begun.Goals as goal

pub returns : goal.returns
returns c =
    let a = c.args in
    let arena : List ℕ = a.arena.now in
    let t : Table = (read_desk a.block.now).table in
    let p : Placement = placement_at (read_desk a.block.now) a.guest in
    let own : ℕ = window_length (length arena) in
    let o = c.span_of-span in
    let m = c.window_length-m.ensures in
    let e : o.result.end - o.result.start ≡ span_length (length arena) a.guest c.window_length-m.result = omega arith in
    let part : take (o.result.end - o.result.start) (drop o.result.start arena) ≡ own_window arena a.guest = rw (e, o.ensures.0, m) in
    let k = c.steps_at in
    let n : length k.new.window ≡ span_length (length arena) a.guest own = k.auto.window ∙ ap length part ∙ length-window arena a.guest own in
    (k.ensures.0 ∙ ap (λ (x : List ℕ). (begin (fed t p) a.r x).outcome) part, rw (e, o.ensures.0, m) (with_window_lent arena a.guest own k.new.window n ∙ ap (with_own arena a.guest) (k.ensures.1 ∙ ap (λ (x : List ℕ). (begin (fed t p) a.r x).window) part)))
