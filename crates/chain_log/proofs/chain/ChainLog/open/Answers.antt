use Rattle.chain_log.proofs.ChainSeats.{opens}
use Rattle.chain_log.proofs.chain.ChainLog.open.Goals as goal

pub open_seats-requires-clause-rule : goal.open_seats-requires-clause-rule
open_seats-requires-clause-rule c = opens c.in_ok-sizes.sizes c.count_words-words.result c.count_words-words.ensures
