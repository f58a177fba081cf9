use mathlib.Core.Path.{ap, ◌∙◌}
use lib.Seq.{sets}
use Rattle.words.proofs.WordsLaws.{word_bytes}
use Rattle.words.proofs.U16Word.put.Goals as goal

pub returns : goal.returns
returns c = c.store.ensures ∙ ap (sets c.args.out.now c.args.at) (c.to_le_bytes.ensures ∙ word_bytes 2 c.args.self)
