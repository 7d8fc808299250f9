-- How a session's call for a statement ends.
use Rattle.std.specs.Prelude.{◌≤◌, ℕ, Bool, Result, Ok, Err}
use Rattle.decision_log.specs.declared.{known.Known.Known, log.DecisionLog.Ghosts as LogOf}
use Rattle.xa_xid.specs.declared.statement.Statement.{Statement}
use Rattle.xa_server.specs.State.{State}
use Rattle.xa_session.specs.{Answer.{IsAnswered, Fails, IsKept, FullAfter, WantsMemory}, declared.answer.Answer.Answer}
use Rattle.xa_session.specs.declared.{fault.Fault.Fault, replica.Replica.Replica, session.Session.Session}

-- the statement was answered as `IsAnswered` says; the replica has replayed at least the entries before the answer's
-- place, and all that is seen unless carrying the statement out may take memory
pub record HasAnswered {Log Pass : Type 0} {log : LogOf Log Pass} (statement : Statement) (answer : Answer)
    (old new : Session Log Pass log) : Type 0 where
  pub answered : IsAnswered old.base.now statement answer (log.known old.pass) (log.known new.pass)
  pub replayed : answer.place ≤ new.replica.replayed
  pub kept : IsKept old.base.now statement answer new.replica (log.known new.pass)

-- the fault has its cause; at Full the replica has replayed all that is seen; NoMemory comes only for the list of an
-- XA RECOVER, or if the replica hasn't replayed all that is seen
pub record HasFailed {Log Pass : Type 0} {log : LogOf Log Pass} (statement : Statement) (fault : Fault)
    (old new : Session Log Pass log) : Type 0 where
  pub fails : Fails log.TURNS (log.belongs_to old.pass).capacity old.base.now statement fault (log.known old.pass)
      (log.known new.pass)
  pub replayed : FullAfter fault new.replica (log.known new.pass)
  pub memory : WantsMemory statement fault new.replica (log.known new.pass)

-- the statement was answered, or it has a fault with its cause
abbrev pub Answers : {Log Pass : Type 0} {log : LogOf Log Pass} → Statement → Result Answer Fault → Session Log Pass log
    → Session Log Pass log → Type 0
Answers statement (Ok answer) old new = HasAnswered statement answer old new
Answers statement (Err fault) old new = HasFailed statement fault old new

-- what a try by a replica and a pass comes to, in a log with turns or without, of a capacity: after Ok as `HasAnswered`
-- says it of a session, after Err as `HasFailed` does
abbrev pub Finds : Bool → ℕ → State → Statement → Result Answer Fault → Replica → Known → Known → Type 0
Finds turns capacity base statement (Ok answer) replica old new =
    IsAnswered base statement answer old new × (answer.place ≤ replica.replayed)
    × IsKept base statement answer replica new
Finds turns capacity base statement (Err fault) replica old new =
    Fails turns capacity base statement fault old new × FullAfter fault replica new
    × WantsMemory statement fault replica new
