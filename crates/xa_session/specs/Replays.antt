-- A replica before and after it replays entries.
use Rattle.std.specs.Prelude.{◌≡◌, ◌<◌, ◌+◌, length, Result, Ok, Err}
use Rattle.decision_log.specs.declared.known.Known.{Known}
use Rattle.xa_session.specs.declared.replica.Replica.{Replica}

-- one more entry is replayed, or the replica is as before
abbrev pub ReplaysOne : {E : Type 0} → Result (Unit {0}) E → Replica → Replica → Type 0
ReplaysOne (Ok _) old new = new.replayed ≡ old.replayed + 1
ReplaysOne (Err _) old new = new ≡ old

-- after Ok the replica has replayed all that is seen, after Err not all of it
abbrev pub CatchesUp : {A E : Type 0} → Result A E → Replica → Known → Type 0
CatchesUp (Ok _) replica known = replica.replayed ≡ length known.seen
CatchesUp (Err _) replica known = replica.replayed < length known.seen
