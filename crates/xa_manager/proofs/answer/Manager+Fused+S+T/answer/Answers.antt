use Rattle.std.proofs.Common.{inr}
use Rattle.xa_manager.proofs.answer.Manager+Fused+S+T.answer.Goals as goal

pub returns-in-Work-clause-answers : goal.returns-in-Work-clause-answers
returns-in-Work-clause-answers g c = rw c.in-Work.is c.work.ensures

pub returns-in-Prepare-clause-answers : goal.returns-in-Prepare-clause-answers
returns-in-Prepare-clause-answers g c = rw c.in-Prepare.is c.prepare.ensures

pub returns-in-Decide-clause-answers : goal.returns-in-Decide-clause-answers
returns-in-Decide-clause-answers g c = rw c.in-Decide.is c.decide.ensures

pub returns-in-Finish-clause-answers : goal.returns-in-Finish-clause-answers
returns-in-Finish-clause-answers g c = rw c.in-Finish.is c.finish.ensures

pub returns-in-Abandon-clause-answers : goal.returns-in-Abandon-clause-answers
returns-in-Abandon-clause-answers g c = rw c.in-Abandon.is c.abandon.ensures

pub returns-in-Fail-clause-answers : goal.returns-in-Fail-clause-answers
returns-in-Fail-clause-answers g c = rw c.in-Fail.is c.fail.ensures

pub returns-in-At-clause-answers : goal.returns-in-At-clause-answers
returns-in-At-clause-answers g c = rw c.in-At.is c.at.ensures

pub returns-in-Stop-clause-answers : goal.returns-in-Stop-clause-answers
returns-in-Stop-clause-answers g c = rw c.in-Stop.is (inr c.stop.ensures)

pub returns-in-Recover-clause-answers : goal.returns-in-Recover-clause-answers
returns-in-Recover-clause-answers g c = rw c.in-Recover.is (inr c.recover.ensures)
