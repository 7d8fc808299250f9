-- What a contract sees of a session, or of any other value that answers statements as one.
use Rattle.std.specs.Prelude.{◌≡◌, ◌≤◌, ◌+◌, ◌⊎◌, ℕ, Bool, true, List, Option, Some, None, Result, Ok, Err}
use Rattle.xa_server.specs.State.{State}
use Rattle.decision_log.specs.{Known.LogIdentity, declared.known.Known.Known}
use Rattle.xa_session.specs.declared.{answer.Answer.Answer, fault.Fault.{Fault, TheVariants.NoMemory}}

-- a session, as contracts see it: its log, and whether that has turns; the state in which its history begins; what it
-- knows, and what other sessions of the same value know; how many more statements it takes, or None if they aren't
-- limited; and whether memory may have been refused for a statement
pub record SessionView : Type 0 where
  pub identity : LogIdentity
  pub turns : Bool
  pub base : State
  pub known : Known
  pub beside : List Known
  pub left : Option ℕ
  pub starved : Bool

-- a session without a limit has none afterwards, and one with a limit takes no more statements than before
abbrev pub KeepsLimit : Option ℕ → Option ℕ → Type 0
KeepsLimit None new = new ≡ None
KeepsLimit (Some before) new = (after : ℕ) × (new ≡ Some after) × (after ≤ before)

-- the log is the same, with turns or without as before, its history begins in the same state, the value's other
-- sessions know what they knew, the session's limit is neither lifted nor raised, and if memory may have been refused
-- before, that stays noted
pub record StaysOfLog (old new : SessionView) : Type 0 where
  pub identity : new.identity ≡ old.identity
  pub turns : new.turns ≡ old.turns
  pub base : new.base ≡ old.base
  pub beside : new.beside ≡ old.beside
  pub left : KeepsLimit old.left new.left
  pub starved : old.starved ≡ true → new.starved ≡ true

-- if there is a limit, `count` statements fewer are left; without a limit there is none afterwards
abbrev pub Takes : ℕ → Option ℕ → Option ℕ → Type 0
Takes count None new = new ≡ None
Takes count (Some before) new = (after : ℕ) × (new ≡ Some after) × (after + count ≡ before)

-- the statement was taken: one fewer is left if there is a limit, and at NoMemory it is noted that memory may have been
-- refused; or none was left to take, the fault is NoMemory, and none is left still
abbrev pub TakesUnanswered : Fault → SessionView → SessionView → Type 0
TakesUnanswered fault old new =
    (Takes 1 old.left new.left × (fault ≡ NoMemory → new.starved ≡ true))
    ⊎ ((fault ≡ NoMemory) × (old.left ≡ Some 0) × (new.left ≡ Some 0))

-- how many statements are left after this result: one fewer after an answer; after a fault as `TakesUnanswered` says,
-- so there may have been none left to take
abbrev pub TakesBy : Result Answer Fault → SessionView → SessionView → Type 0
TakesBy (Ok answer) old new = Takes 1 old.left new.left
TakesBy (Err fault) old new = TakesUnanswered fault old new
