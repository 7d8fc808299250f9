-- What a handle holds.
--     session_in, session_of    the session that a box or a handle holds, if it holds one
--     store_in, store_of        the store that a box or a handle holds, if it holds one
use Rattle.std.specs.Prelude.{Option, None, Some}
use Rattle.xa_endless.specs.declared.{session.EndlessSession.EndlessSession, store.EndlessStore.EndlessStore}
use Rattle.nigbaru_c.specs.declared.{chair.Chair.Chair, hold.Hold.{Hold, TheVariants.{Store, Session}}}

-- the session that a box holds, if it holds one; a box may hold a store, or during a call nothing
abbrev pub session_in : Option Hold → Option EndlessSession
session_in None = None
session_in (Some (Store store)) = None
session_in (Some (Session session)) = Some session

-- the session that a handle holds, if it holds one
abbrev pub session_of : Option Chair → Option EndlessSession
session_of None = None
session_of (Some chair) = session_in chair.hold

-- the store that a box holds, if it holds one; a box may hold a session, or during a call nothing
abbrev pub store_in : Option Hold → Option EndlessStore
store_in None = None
store_in (Some (Store store)) = Some store.value
store_in (Some (Session session)) = None

-- the store that a handle holds, if it holds one
abbrev pub store_of : Option Chair → Option EndlessStore
store_of None = None
store_of (Some chair) = store_in chair.hold
