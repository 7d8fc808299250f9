-- What became of a statement that a coordinator gave to the session of one store.
--     HasCause, IsUndone      why it wasn't;  and nothing was added
use Rattle.std.specs.Prelude.{◌≡◌, ◌≢◌, ◌⊎◌, ℕ, Bool, true, false, [], ◌∷◌}
use Rattle.xa_xid.specs.declared.{xid.Xid.Xid, statement.Statement.{Statement, TheVariants.End}}
use Rattle.xa_server.specs.{declared.{reply.Reply.TheVariants.Refused, xa_error.XaError.XaError}, Step.is_refused}
use Rattle.xa_session.specs.{Answer.{IsAnswered, Fails, IsFinal}, declared.answer.Answer.Answer}
use Rattle.xa_session.specs.View.{SessionView, Takes, TakesUnanswered}
use Rattle.xa_coordinator.specs.declared.fault.Cause.{Cause, TheVariants.{Session, Refused as RefusedBy}}
use Rattle.xa_coordinator.specs.Agreement.{AddsStatements}

-- the statement was carried out, and is what the session added
pub record IsDone (statement : Statement) (old new : SessionView) : Type 0 where
  pub answer : Answer
  pub answered : IsAnswered old.base statement answer old.known new.known
  pub accepted : is_refused answer.reply ≡ false
  pub adds : AddsStatements (statement ∷ []) old new
  pub takes : Takes 1 old.left new.left

-- the statement was answered with this refusal, at a place not before the end of what had been seen
pub record IsRefused (statement : Statement) (error : XaError) (old new : SessionView) : Type 0 where
  pub place : ℕ
  pub answered : IsAnswered old.base statement (record { place = place; reply = Refused error }) old.known new.known
  pub takes : Takes 1 old.left new.left

-- the cause holds: a session's fault is Full or NoMemory, has its reason, and fits how many statements the session
-- takes; a refusal is what the statement was answered
abbrev pub HasCause : Statement → Cause → SessionView → SessionView → Type 0
HasCause statement (Session fault) old new =
    Fails old.turns old.identity.capacity old.base statement fault old.known new.known × IsFinal fault
    × TakesUnanswered fault old new
HasCause statement (RefusedBy error) old new = IsRefused statement error old new

-- the statement wasn't carried out, for this cause, and nothing was added
pub record IsUndone (statement : Statement) (cause : Cause) (old new : SessionView) : Type 0 where
  pub adds : AddsStatements [] old new
  pub why : HasCause statement cause old new

-- XA END of the branch was carried out, and the statement after it wasn't
pub record IsUndoneBehind (statement : Statement) (xid : Xid) (cause : Cause) (old new : SessionView) : Type 0 where
  pub mid : SessionView
  pub ends : IsDone (End xid) old mid
  pub undone : IsUndone statement cause mid new

-- the statement wasn't carried out, for this cause; or, if XA END of the branch comes before it (`ends`), that XA END
-- wasn't
abbrev pub IsStopped : (ends : Bool) → Statement → Xid → Cause → SessionView → SessionView → Type 0
IsStopped false statement xid cause old new = IsUndone statement cause old new
IsStopped true statement xid cause old new =
    IsUndone (End xid) cause old new ⊎ IsUndoneBehind statement xid cause old new

-- the statement was answered XAER_NOTA; if XA END of the branch comes before it (`ends`), that was carried out
abbrev pub IsMissing : (ends : Bool) → Statement → Xid → SessionView → SessionView → Type 0
IsMissing false statement xid old new = IsUndone statement (RefusedBy XaError.Nota) old new
IsMissing true statement xid old new = IsUndoneBehind statement xid (RefusedBy XaError.Nota) old new

-- the branch isn't finished, for this cause. Without XA END (`ends` is false): the statement wasn't carried out, for
-- another cause than XAER_NOTA. With XA END of the branch before it: that wasn't carried out, or it was, and the
-- statement wasn't, for another cause than XAER_NOTA
abbrev pub IsUnfinished : (ends : Bool) → Statement → Xid → Cause → SessionView → SessionView → Type 0
IsUnfinished false statement xid cause old new = (cause ≢ RefusedBy XaError.Nota) × IsUndone statement cause old new
IsUnfinished true statement xid cause old new =
    IsUndone (End xid) cause old new ⊎ ((cause ≢ RefusedBy XaError.Nota) × IsUndoneBehind statement xid cause old new)
