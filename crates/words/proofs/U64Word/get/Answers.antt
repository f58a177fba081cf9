use Rattle.words.proofs.WordsLaws.{word_read}
use Rattle.words.proofs.U64Word.get.Goals as goal

pub returns : goal.returns
returns c = word_read 7 c.args.s.now c.args.at c.load.ensures c.from_le_bytes.ensures
