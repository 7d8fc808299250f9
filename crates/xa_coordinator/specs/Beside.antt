-- Two sessions of a store in one value.
use Rattle.std.specs.Prelude.{◌≡◌, true, Result, Ok, Err}
use Rattle.xa_xid.specs.declared.statement.Statement.{Statement}
use Rattle.xa_session.specs.{Answer.{IsAnswered, Fails}, View.{SessionView, StaysOfLog}, declared.answer.Answer.Answer}
use Rattle.xa_session.specs.declared.fault.Fault.{Fault}

-- a session that got no statement: it is of the same log, knows what it knew, and takes as many more statements; if
-- it was noted that memory may have been refused, that stays noted
pub record IsLeftAlone (old new : SessionView) : Type 0 where
  pub identity : new.identity ≡ old.identity
  pub turns : new.turns ≡ old.turns
  pub base : new.base ≡ old.base
  pub known : new.known ≡ old.known
  pub left : new.left ≡ old.left
  pub starved : old.starved ≡ true → new.starved ≡ true

-- the history begins in the same state, and the sessions that the value holds beside its own know what they knew
pub record HoldsAsBefore (old new : SessionView) : Type 0 where
  pub base : new.base ≡ old.base
  pub beside : new.beside ≡ old.beside

-- the session answered the statement, or failed, with this result
abbrev pub AnswersSo : Statement → Result Answer Fault → SessionView → SessionView → Type 0
AnswersSo statement (Ok answer) old new = IsAnswered old.base statement answer old.known new.known
AnswersSo statement (Err fault) old new =
    Fails old.turns old.identity.capacity old.base statement fault old.known new.known

-- the session was given the statement, in the log that it was of, and this is the result
pub record IsAnsweredSo (statement : Statement) (answered : Result Answer Fault) (old new : SessionView) : Type 0 where
  pub log : StaysOfLog old new
  pub answers : AnswersSo statement answered old new
