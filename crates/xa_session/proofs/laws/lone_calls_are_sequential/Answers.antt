use Rattle.xa_session.proofs.OneByOne.{lone_return, lone_fault}
use Rattle.xa_session.proofs.laws.lone_calls_are_sequential.Goals as goal

pub returns-clause-returned : goal.returns-clause-returned
returns-clause-returned c = lone_return

pub returns-clause-failed : goal.returns-clause-failed
returns-clause-failed c = lone_fault
