use Rattle.std.proofs.Common.{rules}
use Rattle.xa_words.specs.Words.{text_word}
use Rattle.xa_words.proofs.layout.last_word.Goals as goal

pub returns : goal.returns
unfolding text_word
returns c = search rules
