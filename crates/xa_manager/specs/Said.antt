-- What a session did, by its answer.
use Rattle.std.specs.Prelude.{◌≡◌, ℕ, true, Some, Result, Ok, Err, List, slice_get}
use Rattle.xa_xid.specs.declared.statement.Statement.{Statement, TheVariants.Recover}
use Rattle.xa_server.specs.declared.reply.Reply.{Reply}
use Rattle.xa_session.specs.{declared.{fault.Fault.Fault, answer.Answer.Answer}, Answer.{IsAnswered, Fails}}
use Rattle.xa_session.specs.View.{SessionView, StaysOfLog}

-- the reply of an answer, or its fault
abbrev pub reply_of : Result Answer Fault → Result Reply Fault
reply_of (Ok answer) = Ok answer.reply
reply_of (Err fault) = Err fault

-- a session answered a statement, or failed, with this result
abbrev pub RepliesAs : Statement → Result Reply Fault → SessionView → SessionView → Type 0
RepliesAs statement (Ok reply) old new =
    (place : ℕ) × IsAnswered old.base statement (record { place = place; reply = reply }) old.known new.known
RepliesAs statement (Err fault) old new =
    Fails old.turns old.identity.capacity old.base statement fault old.known new.known

-- a session was given the statement, in the log that it was of, with this result
pub record IsGiven (statement : Statement) (answer : Result Reply Fault) (old new : SessionView) : Type 0 where
  pub log : StaysOfLog old new
  pub replies : RepliesAs statement answer old new

-- the session in a store was given XA RECOVER CONVERT XID, and its answer is the one at this place of the list
pub record IsListed (answers : List (Result Reply Fault)) (store : ℕ) (old new : SessionView) : Type 0 where
  pub answer : Result Reply Fault
  pub there : slice_get answers store ≡ Some answer
  pub given : IsGiven (Recover true) answer old new
