-- What a session keeps between its calls, before and after steps that append nothing.
use Rattle.std.specs.Prelude.{◌≡◌, ◌<◌, ◌≤◌}
use Rattle.decision_log.specs.Calls.{MeetsFirst}
use Rattle.chain_log.specs.RingPass.{known_of}
use Rattle.xa_endless.specs.{Replicas.Stands, Seen.HasOnlySeen, declared.member.Member.Member}
use Rattle.xa_endless.specs.declared.replica.Replica.{Replica}

-- more may be seen, and nothing was tried; the replica has replayed no less, and as much of the history is handed out
-- as before
pub record Keeps (old new : Member) : Type 0 where
  pub seen : HasOnlySeen (known_of old.pass) (known_of new.pass)
  pub folds : old.replica.replayed ≤ new.replica.replayed
  pub told : new.told ≡ old.told

-- the member may have seen more, and nothing else: nothing was tried, its replica is the same, and as much of the
-- history is handed out
pub record Hears (old new : Member) : Type 0 where
  pub seen : HasOnlySeen (known_of old.pass) (known_of new.pass)
  pub replica : new.replica ≡ old.replica
  pub told : new.told ≡ old.told

-- the pass has seen, tried and appended nothing more, as the first of two that meet; the replica is the same, and as
-- much of the history is handed out
pub record Tends (old new : Member) : Type 0 where
  pub met : MeetsFirst (known_of old.pass) (known_of new.pass)
  pub replica : new.replica ≡ old.replica
  pub told : new.told ≡ old.told

-- the replica serves the member: it has replayed more than the member's own, and is a state of what was seen
pub record Serves (member : Member) (replica : Replica) : Type 0 where
  pub further : member.replica.replayed < replica.replayed
  pub stands : Stands (known_of member.pass).seen replica
