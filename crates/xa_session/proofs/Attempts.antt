-- What an attempt on a session's replica is for the session.
use Rattle.std.specs.Prelude.{Result, Ok, Err}
use Rattle.decision_log.specs.declared.log.DecisionLog.{Ghosts as LogOf}
use Rattle.xa_xid.specs.declared.statement.Statement.{Statement}
use Rattle.xa_session.specs.{Outcome.{Answers, Finds}, declared.{answer.Answer.Answer, fault.Fault.Fault}}
use Rattle.xa_session.specs.declared.session.Session.{Session}

-- what an attempt finds on the session's replica is what the session is answered
pub found_answers : {Log Pass : Type 0} {log : LogOf Log Pass} (statement : Statement) (result : Result Answer Fault)
    (old new : Session Log Pass log)
    → Finds log.TURNS (log.belongs_to old.pass).capacity old.base.now statement result new.replica (log.known old.pass)
    (log.known new.pass)
    → Answers statement result old new
found_answers statement (Ok answer) old new found = record { answered = found.0; replayed = found.1; kept = found.2 }
found_answers statement (Err fault) old new found = record { fails = found.0; replayed = found.1; memory = found.2 }
