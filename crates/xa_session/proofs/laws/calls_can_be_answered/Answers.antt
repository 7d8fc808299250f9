use Rattle.xa_session.proofs.Coming.{outside_comes, entered_comes}
use Rattle.xa_session.proofs.laws.calls_can_be_answered.Goals as goal

pub returns-clause-outside : goal.returns-clause-outside
returns-clause-outside c = outside_comes

pub returns-clause-entered : goal.returns-clause-entered
returns-clause-entered c = entered_comes
