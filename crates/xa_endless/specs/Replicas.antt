-- A replica, and what a pass has seen.
use Rattle.std.specs.Prelude.{◌≡◌, ◌<◌, ◌≤◌, ◌+◌, List, length, Result, Ok, Err}
use Rattle.xa_words.specs.Entry.{Entry}
use Rattle.decision_log.specs.declared.known.Known.{Known}
use Rattle.xa_server.specs.State.{no_state}
use Rattle.xa_session.specs.{Replay.state_at, declared.replica.Replica.Replica as KeptReplica}
use Rattle.xa_endless.specs.declared.replica.Replica.{Replica}

-- the replica as xa_session's contracts see one: its server, and how many entries it has replayed
abbrev pub kept_of : Replica → KeptReplica
kept_of replica = record { server = replica.server; replayed = replica.replayed }

-- the replica has replayed no more than was seen, and is the server after that; a store begins empty
pub record Stands (seen : List Entry) (replica : Replica) : Type 0 where
  pub within : replica.replayed ≤ length seen
  pub state : replica.server ≡ state_at no_state seen replica.replayed

-- one more entry is replayed, or the replica is as before
abbrev pub ReplaysOne : {E : Type 0} → Result (Unit {0}) E → Replica → Replica → Type 0
ReplaysOne (Ok _) old new = new.replayed ≡ old.replayed + 1
ReplaysOne (Err _) old new = new ≡ old

-- after Ok the replica has replayed all that is seen, after Err not all of it
abbrev pub CatchesUp : {A E : Type 0} → Result A E → Replica → Known → Type 0
CatchesUp (Ok _) replica known = replica.replayed ≡ length known.seen
CatchesUp (Err _) replica known = replica.replayed < length known.seen
