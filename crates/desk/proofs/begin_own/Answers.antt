use mathlib.Core.Path.{◌≡◌, ap, ◌∙◌}
use mathlib.Core.List.{List}
use Prim.Native.Nat.{ℕ, ◌-◌}
use native.Mathlib.Omega.{arith}
use lib.ListN.{length, take, drop}
use Rattle.memory.specs.Window.{window_length, span_length, window_of, with_window}
use Rattle.memory.proofs.WindowLaws.{with_window_lent, length-window}
use Rattle.int13.specs.Steps.{fed, begin}
use Rattle.desk.proofs.begin_own.Goals as goal

pub returns : goal.returns
returns c =
    let k = c.begin in
    let o = c.span_of-span in
    let m = c.window_length-m in
    let a = c.args in
    let arena : List ℕ = a.arena.now in
    let own : ℕ = window_length (length arena) in
    let e : o.result.end - o.result.start ≡ span_length (length arena) a.guest m.result = omega arith in
    let part : take (o.result.end - o.result.start) (drop o.result.start arena) ≡ window_of arena a.guest own = rw (e, o.ensures.0, m.ensures) in
    let n : length k.new.window ≡ span_length (length arena) a.guest own = k.auto.window ∙ ap length part ∙ length-window arena a.guest own in (
      k.ensures.0 ∙ ap (λ (x : List ℕ). (begin (fed a.b a.placement) a.registers x).outcome) part,
      rw (e, o.ensures.0, m.ensures)
          (with_window_lent arena a.guest own k.new.window n
          ∙ ap (with_window arena a.guest own) (k.ensures.1 ∙ ap (λ (x : List ℕ). (begin (fed a.b a.placement) a.registers x).window) part)),
    )
