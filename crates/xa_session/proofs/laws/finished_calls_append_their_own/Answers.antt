use Rattle.xa_session.proofs.Tightening.{loose_is_tight}
use Rattle.xa_session.proofs.laws.finished_calls_append_their_own.Goals as goal

pub returns : goal.returns
returns c = loose_is_tight
