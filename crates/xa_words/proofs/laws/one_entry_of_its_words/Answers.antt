use Rattle.xa_words.proofs.Spelling.{one_entry}
use Rattle.xa_words.proofs.laws.one_entry_of_its_words.Goals as goal

pub returns : goal.returns
returns c = one_entry
