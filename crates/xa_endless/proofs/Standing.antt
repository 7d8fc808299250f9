-- A replica that stands for a prefix: at the beginning, after one entry more, and in longer histories.
use Rattle.std.{proofs.Common.{◌≡◌, ◌+◌, List, Some}, specs.Prelude.slice_get}
use Rattle.xa_words.specs.Entry.{Entry}
use Rattle.xa_server.specs.{State.no_state, Step.after}
use Rattle.decision_log.specs.History.{Begins}
use Rattle.xa_session.{specs.Replay.Stands as StandsFrom, proofs.Replaying.stands_first as first_from}
use Rattle.xa_session.proofs.Replaying.{stands_next as next_from, stands_longer as longer_from}
use Rattle.xa_endless.specs.{Replicas.{Stands, kept_of}, declared.replica.Replica.Replica}

-- a replica that stands for a prefix stands for it as xa_session says it, with the empty state as the base
from : (seen : List Entry) (replica : Replica) → Stands seen replica → StandsFrom no_state seen (kept_of replica)
from seen replica stands = record { within = stands.within; state = stands.state }

-- a replica that stands for a prefix as xa_session says it, with the empty state as the base, stands for it
to : (seen : List Entry) (replica : Replica) → StandsFrom no_state seen (kept_of replica) → Stands seen replica
to seen replica stands = record { within = stands.within; state = stands.state }

-- an empty replica stands for the empty prefix
pub stands_first : (seen : List Entry) (replica : Replica) → replica.server ≡ no_state → replica.replayed ≡ 0
    → Stands seen replica
stands_first seen replica server none = to seen replica (first_from no_state seen (kept_of replica) server none)

-- a replica that replays one entry more stands for the prefix that is one longer
pub stands_next : (seen : List Entry) (old new : Replica) (entry : Entry) → Stands seen old
    → slice_get seen old.replayed ≡ Some entry
    → new.server ≡ after old.server entry.session entry.statement → new.replayed ≡ old.replayed + 1 → Stands seen new
stands_next seen old new entry stands is server next =
    to seen new (next_from no_state seen (kept_of old) (kept_of new) entry (from seen old stands) is server next)

-- a replica that stands for a prefix of a history stands for it in a longer history
pub stands_longer : (seen longer : List Entry) (replica : Replica) → Begins seen longer → Stands seen replica
    → Stands longer replica
stands_longer seen longer replica begins stands =
    to longer replica (longer_from no_state seen longer (kept_of replica) begins (from seen replica stands))
