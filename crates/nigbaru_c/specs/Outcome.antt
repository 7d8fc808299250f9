-- The result of a text that C gives to a session.
use Rattle.std.specs.Prelude.{◌≡◌, ◌<◌, ◌^◌, ℕ, List, Result, Ok, Err, Option, None, Some}
use Rattle.xa_xid.specs.declared.statement.Statement.{Statement}
use Rattle.xa_statement.specs.{Grammar.Spells, FaultPlace.FaultAt}
use Rattle.xa_server.specs.declared.reply.Reply.{Reply, TheVariants.{Ok as Accepted, Value, Recovered, Refused}}
use Rattle.xa_session.specs.declared.answer.Answer.{Answer}
use Rattle.chain_log.specs.RingPass.{known_of}
use Rattle.xa_endless.specs.{Answers.{Finds, TriesOnce}, Stays.Stays, declared.fault.EndlessFault.EndlessFault}
use Rattle.xa_endless.specs.declared.session.EndlessSession.{EndlessSession}
use Rattle.nigbaru_c.specs.declared.outcome.Outcome.{Outcome}

-- the status that C gets for a reply
abbrev pub status_of_reply : Reply → ℕ
status_of_reply Accepted = 0
status_of_reply (Value (Some value)) = 1
status_of_reply (Value None) = 2
status_of_reply (Recovered xids) = 3
status_of_reply (Refused error) = 4

-- the status that C gets for a fault
abbrev pub status_of_fault : EndlessFault → ℕ
status_of_fault (EndlessFault.Overtaken front) = 5
status_of_fault EndlessFault.NoMemory = 7
status_of_fault EndlessFault.Behind = 16

-- the status that C gets for what a call returned
abbrev pub status_of : Outcome → ℕ
status_of (Outcome.Answered answer) = status_of_reply answer.reply
status_of (Outcome.Unanswered fault) = status_of_fault fault
status_of (Outcome.Misspelled fault) = 8
status_of Outcome.Vacant = 9
status_of Outcome.OutOfRange = 10

-- the formatID of a statement about a branch is below 2^63, as C's type has it; of others nothing is asked
abbrev pub Fits : Statement → Type 0
Fits (Statement.Start xid) = xid.format_id < 2 ^ 63
Fits (Statement.End xid) = xid.format_id < 2 ^ 63
Fits (Statement.Prepare xid) = xid.format_id < 2 ^ 63
Fits (Statement.Commit xid one_phase) = xid.format_id < 2 ^ 63
Fits (Statement.Rollback xid) = xid.format_id < 2 ^ 63
Fits (Statement.Recover convert) = Unit {0}
Fits Statement.Unsupported = Unit {0}
Fits (Statement.Get key) = Unit {0}
Fits (Statement.Put key value) = Unit {0}
Fits (Statement.Del key) = Unit {0}
Fits Statement.Disconnect = Unit {0}

-- one try: the session is of its store, the statement is answered or not for a cause, and the pass has looked, and has
-- tried to append at most once
pub record HasTried (statement : Statement) (result : Result Answer EndlessFault)
    (old new : EndlessSession) : Type 0 where
  pub stays : Stays old new
  pub finds : Finds old.store.value.log statement result new.member.replica old.member.pass new.member.pass
  pub once : TriesOnce result (known_of old.member.pass) (known_of new.member.pass)

-- one try at a statement, by the outcome: it was answered; it wasn't, for a cause; or its formatID is too large, and
-- the session is unchanged: such a statement isn't tried. No other outcome comes of a try
abbrev pub Tried : Statement → Outcome → EndlessSession → EndlessSession → Type 0
Tried statement (Outcome.Answered answer) old new = Fits statement × HasTried statement (Ok answer) old new
Tried statement (Outcome.Unanswered fault) old new = Fits statement × HasTried statement (Err fault) old new
Tried statement (Outcome.Misspelled fault) old new = ⊥
Tried statement Outcome.Vacant old new = ⊥
Tried statement Outcome.OutOfRange old new = (Fits statement → ⊥) × (new ≡ old)

-- what a text did to the session, by the outcome: if Misspelled, the text has its fault at this place, and the session
-- is unchanged; else the text spells a statement, which was tried with this outcome
abbrev pub Goes : List ℕ → Outcome → EndlessSession → EndlessSession → Type 0
Goes text (Outcome.Misspelled fault) old new = FaultAt text fault.at × (new ≡ old)
Goes text outcome old new = (statement : Statement) × Spells text statement × Tried statement outcome old new

-- what a text did, by what the handle of its call holds: to a session as `Goes` says; without one the outcome is
-- Vacant, and no session is held afterwards
abbrev pub Comes : List ℕ → Outcome → Option EndlessSession → Option EndlessSession → Type 0
Comes text Outcome.Vacant None None = Unit {0}
Comes text outcome (Some old) (Some new) = Goes text outcome old new
Comes text outcome old new = ⊥
