-- How C takes a session.
use Rattle.std.specs.Prelude.{◌≡◌, ◌≢◌, ◌≤◌, ◌⊎◌, ℕ, Option, None, Some}
use Rattle.chain_log.specs.RingPass.{known_of}
use Rattle.xa_endless.specs.declared.{session.EndlessSession.EndlessSession, store.EndlessStore.EndlessStore}
use Rattle.nigbaru_c.specs.declared.chair.Chair.{Chair}

-- the session is of the store, and has the number
pub record IsTaken (number : ℕ) (store : EndlessStore) (session : EndlessSession) : Type 0 where
  pub of_store : session.store.value ≡ store
  pub number_is : (known_of session.member.pass).number ≡ number

-- a store and a session are held, and the session is taken from the store
abbrev pub Takes : ℕ → Option EndlessStore → Option EndlessSession → Type 0
Takes number (Some store) (Some session) = IsTaken number store session
Takes number store session = ⊥

-- the store has a session of this number
abbrev pub IsNumber : ℕ → EndlessStore → Type 0
IsNumber number store = (1 ≤ number) × (number ≤ store.log.sessions)

-- 13 is returned only if the handle that is to be filled held something, 10 only if it held nothing and the store has
-- no such session; 7, for memory, 11, for a session that somebody has or is just giving back, and 0 only if both tests
-- were passed
pub record IsSeatStatus (number : ℕ) (store : EndlessStore) (held : Option Chair) (status : ℕ) : Type 0 where
  pub some : (status ≡ 0) ⊎ ((status ≡ 13) ⊎ ((status ≡ 10) ⊎ ((status ≡ 7) ⊎ (status ≡ 11))))
  pub held_is : status ≡ 13 → held ≢ None
  pub empty : status ≢ 13 → held ≡ None
  pub range : status ≡ 10 → IsNumber number store → ⊥
  pub fits : status ≢ 13 → status ≢ 10 → IsNumber number store

-- the status is 9 if no store is held, and else as `IsSeatStatus` says, which has no 9
abbrev pub IsTakeStatus : ℕ → Option EndlessStore → Option Chair → ℕ → Type 0
IsTakeStatus number None held status = status ≡ 9
IsTakeStatus number (Some store) held status = IsSeatStatus number store held status
