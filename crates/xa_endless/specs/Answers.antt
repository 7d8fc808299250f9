-- How a call for a statement ends, by what the session's pass knew and knows.
use Rattle.std.specs.Prelude.{◌≡◌, ◌<◌, ◌≤◌, ◌+◌, ℕ, true, ◌⊎◌, length, slice_get, Option, Some, None, Result, Ok, Err}
use Rattle.std.specs.Prelude.{IfErr}
use Rattle.xa_words.specs.Entry.{Entry}
use Rattle.decision_log.specs.{declared.known.Known.Known, Calls.IsOvertaken}
use Rattle.xa_xid.specs.declared.statement.Statement.{Statement}
use Rattle.xa_server.specs.{State.{State, no_state}, Step.{is_recover, may_take_memory}}
use Rattle.xa_session.specs.{Answer.{IsAnswered, IsUnanswered, IsKept}, declared.answer.Answer.Answer}
use Rattle.chain_log.specs.{declared.{ring.RingLog.RingLog, ring_pass.RingPass.RingPass}, RingPass.{known_of, least_of}}
use Rattle.xa_endless.specs.{Replicas.kept_of, declared.{fault.EndlessFault.EndlessFault, replica.Replica.Replica}}
use Rattle.xa_endless.specs.declared.fault.EndlessFault.TheVariants.{Overtaken, NoMemory, Behind}

-- the statement was answered as `IsAnswered` says, from an empty store on; the replica has replayed at least the
-- entries before the answer's place, and all that is seen unless carrying the statement out may take memory
pub record HasAnswered (statement : Statement) (answer : Answer) (replica : Replica) (old new : Known) : Type 0 where
  pub answered : IsAnswered no_state statement answer old new
  pub replayed : answer.place ≤ replica.replayed
  pub kept : IsKept no_state statement answer (kept_of replica) new

-- nothing of the statement was appended; at Overtaken a try was lost to another session, and `front` entries are seen
-- now
abbrev pub Fails : EndlessFault → Known → Known → Type 0
Fails (Overtaken front) old new = IsOvertaken front old new
Fails NoMemory old new = IsUnanswered old new
Fails Behind old new = IsUnanswered old new

-- from the replica's next entry on, the history has at least as many entries as the ring has slots, so the ring may have
-- overwritten that entry
abbrev pub IsLost : ℕ → Replica → RingPass → Type 0
IsLost rows replica pass = replica.replayed + rows ≤ least_of pass

-- carrying the entry out may take memory
abbrev pub TakesMemory : State → Option Entry → Type 0
TakesMemory state None = ⊥
TakesMemory state (Some entry) = may_take_memory state entry.session entry.statement ≡ true

-- there is a next entry to replay, and it may take memory
abbrev pub WantsMemory : Replica → Known → Type 0
WantsMemory replica known = TakesMemory replica.server (slice_get known.seen replica.replayed)

-- not all that is seen is replayed: the next entry may take memory, or at least as many entries are left as the ring
-- has rows, so that the session needs a copy of a checkpoint's replica
abbrev pub LacksMemory : ℕ → Replica → Known → Type 0
LacksMemory rows replica known = (replica.replayed < length known.seen)
    × (WantsMemory replica known ⊎ (replica.replayed + rows ≤ length known.seen))

-- why a statement wasn't answered. NoMemory: it is an XA RECOVER, which needs a list; or memory may be missing for
-- what is left to replay; or the history has all entries that it can have, which are more than 2^59. Behind: entries
-- that the replica hasn't replayed may be overwritten. Of Overtaken nothing is said
abbrev pub IsCaused : RingLog → Statement → EndlessFault → Replica → RingPass → Type 0
IsCaused log statement (Overtaken front) replica pass = Unit {0}
IsCaused log statement NoMemory replica pass =
    (is_recover statement ≡ true) ⊎ (LacksMemory log.rows replica (known_of pass)
    ⊎ (length (known_of pass).seen ≡ log.capacity))
IsCaused log statement Behind replica pass = IsLost log.rows replica pass

-- at Overtaken the replica has replayed all that was seen before the try, and less than is seen now; of the other
-- faults nothing is said
abbrev pub Leaves : EndlessFault → Replica → Known → Known → Type 0
Leaves (Overtaken front) replica old new = (length old.seen ≤ replica.replayed) × (replica.replayed < length new.seen)
Leaves NoMemory replica old new = Unit {0}
Leaves Behind replica old new = Unit {0}

-- nothing of the statement was appended, the fault has its cause, and the replica has replayed as much as `Leaves` says
pub record HasFailed (log : RingLog) (statement : Statement) (fault : EndlessFault) (replica : Replica)
    (old new : RingPass) : Type 0 where
  pub fails : Fails fault (known_of old) (known_of new)
  pub cause : IsCaused log statement fault replica new
  pub leaves : Leaves fault replica (known_of old) (known_of new)

-- the statement was answered, or it has a fault with its cause
abbrev pub Finds : RingLog → Statement → Result Answer EndlessFault → Replica → RingPass → RingPass → Type 0
Finds log statement (Ok answer) replica old new = HasAnswered statement answer replica (known_of old) (known_of new)
Finds log statement (Err fault) replica old new = HasFailed log statement fault replica old new

-- an attempt without an answer has tried to append once at Overtaken, and not at NoMemory and Behind
abbrev pub Tries : EndlessFault → Known → Known → Type 0
Tries (Overtaken front) old new = new.tries ≡ old.tries + 1
Tries NoMemory old new = new.tries ≡ old.tries
Tries Behind old new = new.tries ≡ old.tries

-- an attempt has looked, and has tried to append at most once; after a fault just as often as `Tries` says
pub record TriesOnce (result : Result Answer EndlessFault) (old new : Known) : Type 0 where
  pub looked : old.looks < new.looks
  pub tries : new.tries ≤ old.tries + 1
  pub tried : IfErr result (λ fault. Tries fault old new)
