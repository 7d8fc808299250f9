use Rattle.xa_words.proofs.Spelling.{length-words_of, words_of-fit}
use Rattle.xa_words.proofs.laws.words_fit.Goals as goal

pub returns-clause-length : goal.returns-clause-length
returns-clause-length c = length-words_of

pub returns-clause-fit : goal.returns-clause-fit
returns-clause-fit c = words_of-fit
