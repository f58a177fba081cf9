use mathlib.Core.Path.{◌≡◌, sym, ap, ◌∙◌}
use mathlib.Core.Bool.{Bool}
use Prim.Native.Nat.{ℕ}
use native.Mathlib.Omega.{arith}
use lib.ListN.{length}
use Rattle.memory.specs.Window.{window_length, span_length}
use Rattle.memory.proofs.WindowLaws.{span_in, with_window-same}
use Rattle.int13.specs.declared.Registers.{Registers}
use Rattle.int13.specs.Answers.{ah, is_sectors}
use Rattle.int13.specs.Alone.{reported}
use Rattle.desk.proofs.Transfers.{packet-inside}
use Rattle.desk.proofs.report_moved.Goals as goal

-- whether the function is 02h or 03h, as the code found it
sectors : {f : ℕ} {t x : Bool} (r : Registers) → f ≡ ah r → t ≡ is_sectors f → t ≡ x → is_sectors (ah r) ≡ x
sectors r ef et e = sym (et ∙ ap is_sectors ef) ∙ e

pub returns-then-is_sectors : goal.returns-then-is_sectors
unfolding reported
returns-then-is_sectors c =
    let a = c.args in
    rw (sectors a.job.registers c.function_of.ensures c.is_sectors.ensures c.if-is_sectors.true) (sym (with_window-same a.arena.now a.guest (window_length (length a.arena.now))))

pub put_word_in-requires : goal.put_word_in-requires
put_word_in-requires c =
    let a = c.args in
    let n : ℕ = length a.arena.now in
    let w : span_length n a.guest (window_length n) ≡ window_length n = (span_in n a.guest (window_length n) (omega arith) c.requires.0).1 in
    let other = sectors a.job.registers c.function_of.ensures c.is_sectors.ensures c.if-is_sectors.false in
    let inside = packet-inside (ah a.job.registers) a.job.packet _ other c.requires.1 in
    rw (c.window_length-m.ensures, w) (omega (arith, c.count_place-at.ensures, inside))

pub returns : goal.returns
unfolding reported
returns c =
    let other = sectors c.args.job.registers c.function_of.ensures c.is_sectors.ensures c.if-is_sectors.false in
    rw (other, c.put_word_in.ensures, c.window_length-m.ensures, c.count_place-at.ensures)
