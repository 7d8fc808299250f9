-- What every call keeps of a session.
use Rattle.std.specs.Prelude.{◌≡◌, ◌≤◌}
use Rattle.decision_log.specs.declared.log.DecisionLog.{Ghosts as LogOf}
use Rattle.xa_session.specs.declared.session.Session.{Session}

-- the log is the same, its history begins in the same state, and how many entries are replayed never falls
pub record Stays {Log Pass : Type 0} {log : LogOf Log Pass} (old new : Session Log Pass log) : Type 0 where
  pub belongs : log.belongs_to new.pass ≡ log.belongs_to old.pass
  pub base : new.base.now ≡ old.base.now
  pub folds : old.replica.replayed ≤ new.replica.replayed
