use Rattle.std.proofs.Common.{rules}
use Rattle.xa_words.specs.Words.{words_of}
use Rattle.xa_words.proofs.encoding.encode.Goals as goal

pub returns-clause-words : goal.returns-clause-words
unfolding words_of
returns-clause-words c = search rules
