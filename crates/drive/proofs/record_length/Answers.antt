use mathlib.Core.Path.{sym, ◌∙◌}
use Rattle.drive.proofs.DriveLaws.{length-record, length_most}
use borrow.Author.Rules.{rules}
use Rattle.drive.proofs.record_length.Goals as goal

pub returns : goal.returns
returns c = (c.length_of.ensures ∙ sym (length-record c.args.d record { bus = search rules; interface = search rules; path = search rules; device = search rules; tail = search rules }), c.length_of.ensures, rw c.length_of.ensures (length_most c.args.d.kind))
