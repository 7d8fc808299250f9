-- What every call keeps of a session.
use Rattle.std.specs.Prelude.{◌≡◌, ◌≤◌}
use Rattle.xa_endless.specs.declared.session.EndlessSession.{EndlessSession}

-- the store is the same, no fewer entries are replayed, and as much of the history is handed out as before
pub record Stays (old new : EndlessSession) : Type 0 where
  pub store : new.store.value ≡ old.store.value
  pub folds : old.member.replica.replayed ≤ new.member.replica.replayed
  pub told : new.member.told ≡ old.member.told
