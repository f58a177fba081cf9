use mathlib.Core.Path.{sym, ◌∙◌}
use Prim.Native.Nat.{◌+◌}
use lib.ListN.{length}
use borrow.Author.Tests.{le-ltb}
use Rattle.memory.specs.Window.{window_length}
use Rattle.memory.proofs.WindowLaws.{with_window-same}
use Rattle.desk.proofs.report_ending.Goals as goal

pub returns-then-goes_on : goal.returns-then-goes_on
returns-then-goes_on c =
    let a = c.args in
    rw (sym c.goes_on.ensures ∙ c.if-goes_on.true) (sym (with_window-same a.arena.now a.guest (window_length (length a.arena.now))))

pub returns-then-q-moved : goal.returns-then-q-moved
returns-then-q-moved c =
    let a = c.args in
    rw (sym c.goes_on.ensures ∙ c.if-goes_on.false, le-ltb (a.q.moved + a.k) a.q.job.count c.if-q-moved.true) (sym (with_window-same a.arena.now a.guest (window_length (length a.arena.now))))
