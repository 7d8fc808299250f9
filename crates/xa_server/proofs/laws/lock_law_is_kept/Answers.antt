use Rattle.xa_server.proofs.Keeping.{law_no_state, law_after, law_after_all}
use Rattle.xa_server.proofs.laws.lock_law_is_kept.Goals as goal

pub returns-clause-empty : goal.returns-clause-empty
returns-clause-empty c = law_no_state

pub returns-clause-step : goal.returns-clause-step
returns-clause-step c = law_after

pub returns-clause-history : goal.returns-clause-history
returns-clause-history c = law_after_all
