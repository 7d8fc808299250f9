-- How a session hands out the history.
use Rattle.std.specs.Prelude.{◌≡◌, ◌<◌, ◌≤◌, ◌+◌, ◌-◌, ◌/◌, ◌⊎◌, ℕ, length, slice_get, Some}
use Rattle.chain_log.specs.{declared.ring.RingLog.RingLog, RingPass.known_of}
use Rattle.xa_endless.specs.declared.{following.Next.Next as NextOf, member.Member.Member}

-- so many entries are counted as lost, at least one: the ring may have overwritten the first of them; and unless it is
-- only that one, the entries that are seen and still to be handed out are as many as the ring's slots less a quarter
-- (rounded down)
pub record Loses (log : RingLog) (count : ℕ) (old new : Member) : Type 0 where
  pub some : 0 < count
  pub told : new.told ≡ old.told + count
  pub round : old.told + log.rows ≤ length (known_of new.pass).seen
  pub few : (count ≡ 1) ⊎ (new.told + (log.rows - log.rows / 4) ≡ length (known_of new.pass).seen)

-- the next entry, behind those that were handed out; or entries from there on are lost; or no entry, if all that is
-- seen was handed out and the session has looked
abbrev pub Hands : RingLog → NextOf → Member → Member → Type 0
Hands log (NextOf.Entry entry) old new =
    (slice_get (known_of new.pass).seen old.told ≡ Some entry) × (new.told ≡ old.told + 1)
Hands log (NextOf.Lost count) old new = Loses log count old new
Hands log NextOf.End old new = (new.told ≡ old.told) × (length (known_of new.pass).seen ≡ old.told)
    × ((known_of old.pass).looks < (known_of new.pass).looks)
