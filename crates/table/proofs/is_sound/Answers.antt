use borrow.Author.Rules.{rules}
use native.Mathlib.Omega.{arith}
use mathlib.Core.Path.{◌≡◌, ◌∙◌}
use lib.ListN.{length}
use borrow.Author.Tests.{le-leb}
use Rattle.logic.specs.Logic.{both}
use Rattle.logic.proofs.LogicLaws.{length_mapped}
use Rattle.table.specs.Table.{sound_to, blank_to, attached_to, listed_to, is_sound}
use Rattle.table.proofs.Takes.{sound_take, sound_chain}
use Rattle.table.proofs.is_sound.Goals as goal

pub returns-then-attached_to : goal.returns-then-attached_to
unfolding is_sound
returns-then-attached_to c =
    let b = c.args.b in
    let eight : length b.drives ≡ 8 = search (rules, length_mapped) in
    let s : c.sound_to.result ≡ sound_to b.count b.drives c.args.store = c.sound_to.ensures ∙ sound_take b.count b.drives c.args.store (omega arith) in
    let v : c.if-sound_to.value ≡ both c.sound_to.result (blank_to 8 b.drives b.count) = search rules in
    let w : c.if-blank_past.value ≡ both c.if-sound_to.value (attached_to 8 b) = search rules in
    rw (le-leb b.count 8 c.if-b-gt-MOST_DRIVES.false, c.listed_to.ensures)
    (rw c.if-attached_to.true at (sound_chain (sound_to b.count b.drives c.args.store) (blank_to 8 b.drives b.count) (attached_to 8 b) (listed_to 8 b) (rw s at v) w))

pub returns-else-attached_to : goal.returns-else-attached_to
unfolding is_sound
returns-else-attached_to c =
    let b = c.args.b in
    let eight : length b.drives ≡ 8 = search (rules, length_mapped) in
    let s : c.sound_to.result ≡ sound_to b.count b.drives c.args.store = c.sound_to.ensures ∙ sound_take b.count b.drives c.args.store (omega arith) in
    let v : c.if-sound_to.value ≡ both c.sound_to.result (blank_to 8 b.drives b.count) = search rules in
    let w : c.if-blank_past.value ≡ both c.if-sound_to.value (attached_to 8 b) = search rules in
    rw (le-leb b.count 8 c.if-b-gt-MOST_DRIVES.false) (c.if-attached_to.false
    ∙ (rw c.if-attached_to.false at (sound_chain (sound_to b.count b.drives c.args.store) (blank_to 8 b.drives b.count) (attached_to 8 b) (listed_to 8 b) (rw s at v) w)))
