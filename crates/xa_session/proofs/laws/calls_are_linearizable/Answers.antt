use Rattle.xa_session.proofs.Linearizing.{runs_are_linearized}
use Rattle.xa_session.proofs.laws.calls_are_linearizable.Goals as goal

pub returns : goal.returns
returns c = runs_are_linearized
