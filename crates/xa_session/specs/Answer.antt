-- The meaning of a session's answer and of its faults, in words of what the session knows before and after a call.
use Rattle.std.specs.Prelude.{◌≡◌, ◌<◌, ◌≤◌, ℕ, Bool, true, false, IsTrue, ◌⊎◌, List, [], ◌∷◌, ◌++◌, length, take}
use Rattle.std.specs.Prelude.{slice_get, Some}
use Rattle.xa_words.specs.Entry.{Entry}
use Rattle.xa_xid.specs.declared.statement.Statement.{Statement}
use Rattle.xa_server.specs.{State.State, Replies.reply_to, Step.{enters, is_recover, may_take_memory}}
use Rattle.xa_server.specs.declared.reply.Reply.{Reply}
use Rattle.decision_log.specs.{History.Begins, Calls.IsOvertaken, declared.known.Known.Known}
use Rattle.xa_session.specs.{Replay.{state_after, state_at}, declared.{answer.Answer.Answer, replica.Replica.Replica}}
use Rattle.xa_session.specs.declared.fault.Fault.{Fault, TheVariants.{Overtaken, Full, NoMemory, Busy}}

-- a session's statement as an entry
abbrev pub entry_of : ℕ → Statement → Entry
entry_of session statement = record { session = session; statement = statement }

-- the reply is the server's after the first `place` entries of the history, which has as many; and a statement that is
-- logged there is the next entry
pub record AnswersAt (base : State) (history : List Entry) (session : ℕ) (statement : Statement) (place : ℕ)
    (reply : Reply) : Type 0 where
  pub within : place ≤ length history
  pub reply_is : reply ≡ reply_to (state_at base history place) session statement
  pub next : enters (state_at base history place) session statement ≡ true
      → slice_get history place ≡ Some (entry_of session statement)

-- the session's number is the same, what is seen begins with what was seen, and there are no fewer looks and tries than
-- before
pub record Advances (old new : Known) : Type 0 where
  pub number : new.number ≡ old.number
  pub seen : Begins old.seen new.seen
  pub looks : old.looks ≤ new.looks
  pub tries : old.tries ≤ new.tries

-- the entry comes right after the answer's place, as the last that is seen, and is the session's newest
pub record IsEntered (entry : Entry) (place : ℕ) (old new : Known) : Type 0 where
  pub seen : new.seen ≡ take place new.seen ++ entry ∷ []
  pub mine : new.mine ≡ old.mine ++ entry ∷ []

-- the answer's place is the end of all that is seen, and the session has appended nothing
pub record IsOutside (place : ℕ) (old new : Known) : Type 0 where
  pub whole : length new.seen ≡ place
  pub mine : new.mine ≡ old.mine

-- the reply is the server's at the answer's place, which isn't before the end of what had been seen, and the session
-- has looked; a statement that enters there was appended right after that place; of another one nothing was appended,
-- and the place is the end of what is seen
pub record IsAnswered (base : State) (statement : Statement) (answer : Answer) (old new : Known) : Type 0 where
  pub advances : Advances old new
  pub looked : old.looks < new.looks
  pub not_before : length old.seen ≤ answer.place
  pub at : AnswersAt base new.seen old.number statement answer.place answer.reply
  pub entered : enters (state_at base new.seen answer.place) old.number statement ≡ true
      → IsEntered (entry_of old.number statement) answer.place old new
  pub outside : enters (state_at base new.seen answer.place) old.number statement ≡ false
      → IsOutside answer.place old new

-- nothing of the statement was appended, and no less is known than before, as `Advances` says
pub record IsUnanswered (old new : Known) : Type 0 where
  pub advances : Advances old new
  pub mine : new.mine ≡ old.mine

-- nothing of the statement was appended; it would be logged after all that is seen, and that is as long as the log can
-- be
pub record IsFull (base : State) (capacity : ℕ) (statement : Statement) (old new : Known) : Type 0 where
  pub unanswered : IsUnanswered old new
  pub enters : enters (state_after base new.seen) old.number statement ≡ true
  pub full : length new.seen ≡ capacity

-- the cause of a fault, in a log of a capacity, with turns or without; nothing of the statement was appended.
-- Overtaken: a try was lost to another pass, and `front` entries are seen now. Full: no room is left. Busy: the log has
-- turns. Of NoMemory no more is said
abbrev pub Fails : Bool → ℕ → State → Statement → Fault → Known → Known → Type 0
Fails turns capacity base statement (Overtaken front) old new = IsOvertaken front old new
Fails turns capacity base statement Full old new = IsFull base capacity statement old new
Fails turns capacity base statement NoMemory old new = IsUnanswered old new
Fails turns capacity base statement Busy old new = IsTrue turns × IsUnanswered old new

-- the fault is Full or NoMemory: `execute` doesn't try again after it
abbrev pub IsFinal : Fault → Type 0
IsFinal (Overtaken front) = ⊥
IsFinal Full = Unit {0}
IsFinal NoMemory = Unit {0}
IsFinal Busy = ⊥

-- at Full the replica has replayed all that is seen (if it can't, the fault is NoMemory); nothing of other faults
abbrev pub FullAfter : Fault → Replica → Known → Type 0
FullAfter (Overtaken front) replica known = Unit {0}
FullAfter Full replica known = replica.replayed ≡ length known.seen
FullAfter NoMemory replica known = Unit {0}
FullAfter Busy replica known = Unit {0}

-- the replica has replayed all that is seen, an appended statement too, or carrying the statement out at the answer's
-- place may take memory
abbrev pub IsKept : State → Statement → Answer → Replica → Known → Type 0
IsKept base statement answer replica known =
    (replica.replayed ≡ length known.seen) ⊎ (may_take_memory
    (state_at base known.seen answer.place) known.number statement ≡ true)

-- at NoMemory the statement is an XA RECOVER, which needs a list, or the replica hasn't replayed all that is seen;
-- nothing of other faults
abbrev pub WantsMemory : Statement → Fault → Replica → Known → Type 0
WantsMemory statement (Overtaken front) replica known = Unit {0}
WantsMemory statement Full replica known = Unit {0}
WantsMemory statement NoMemory replica known = (is_recover statement ≡ true) ⊎ (replica.replayed < length known.seen)
WantsMemory statement Busy replica known = Unit {0}
