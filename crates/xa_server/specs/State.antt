-- What a resource manager holds: transaction branches and rows.
--     Write, LockMode, RowLocks     what a branch does to a row at its commit;  how it holds a row;  the rows that it
--                                   holds
--     Branch, State        a transaction branch;  all branches, and the committed values of all rows
--     is_known, is_prepared      whether a branch has this identifier;  and is PREPARED
--     committed_value, value_within      the value of a row as all see it;  as the branch sees it
--     phase_at, owner_at   the phase of the branch of an identifier;  the session that owns it
use Rattle.std.specs.Prelude.{◌≡◌, ℕ, Bool, true, false, ◌==◌, Option, Some, None, List, find, filter}
use Rattle.std.specs.Option.{option_map_or, option_and_then, option_map, unwrap_or}
use Rattle.xa_xid.specs.{declared.xid.Xid.Xid, Xid.{Text, bytes_cmp, xid_cmp}}
use Rattle.xa_server.specs.declared.{branch.Phase.Phase, association.Association.Association}
use Rattle.std.specs.FinMap as map

-- what commit does to a row: it gets this value, or with None it loses its value
abbrev pub Write : Type 0
Write = Option Text

-- how a branch holds a row: in share, as others may too, or exclusively (own rule)
pub data LockMode : Type 0 where
  Shared : LockMode
  Exclusive : LockMode

-- rows, by their keys, each with how it is held: so none is held in both ways
abbrev pub RowLocks : Type 0
RowLocks = map.FinMap bytes_cmp LockMode

-- a transaction branch (C193's branch table; the writes and locks are our own)
pub record Branch : Type 0 where
  pub phase : Phase
  -- the session that started it, until it is prepared
  pub owner : Option ℕ
  -- its newest write of each row that it wrote
  pub writes : map.FinMap bytes_cmp Write
  -- the rows that it holds until it ends, each in share or exclusively
  pub locks : RowLocks

-- the state of a resource manager: its branches and the committed values of its rows
pub record State : Type 0 where
  pub branches : map.FinMap xid_cmp Branch
  -- the committed value of each row that has one
  pub rows : map.FinMap bytes_cmp Text

-- the empty store: no branch, no row
unfoldable pub no_state : State
-- no branch, no row
no_state = record { branches = map.empty; rows = map.empty }

-- whether a branch has this identifier
abbrev pub is_known : State → Xid → Bool
is_known state xid = map.contains_key state.branches xid

-- the phase of the branch of this identifier
abbrev pub phase_at : State → Xid → Option Phase
phase_at state xid = option_map (λ branch. branch.phase) (map.get state.branches xid)

-- whether the phase is PREPARED
abbrev pub is_prepared_phase : Phase → Bool
is_prepared_phase Phase.Active = false
is_prepared_phase Phase.Idle = false
is_prepared_phase Phase.Prepared = true

-- a branch of this identifier is PREPARED
abbrev pub is_prepared : State → Xid → Bool
is_prepared state xid = option_map_or is_prepared_phase (phase_at state xid) false

-- the session that owns the branch of this identifier
abbrev pub owner_at : State → Xid → Option ℕ
owner_at state xid = option_and_then (λ branch. branch.owner) (map.get state.branches xid)

-- the session owns the branch of this identifier
abbrev pub owns : State → ℕ → Xid → Bool
owns state session xid = option_map_or (λ owner. owner == session) (owner_at state xid) false

-- the identifier of the branch that the session owns; None if it owns none
unfoldable pub own_xid : State → ℕ → Option Xid
-- the branch that a session owns
own_xid state session = find (owns state session) (map.keys state.branches)

-- what a session has open whose branch is in this phase; nothing if it has none (None), or if the branch is PREPARED,
-- since such a branch has no owner
abbrev pub association_in : Option Phase → Xid → Association
association_in None xid = Association.Free
association_in (Some Phase.Active) xid = Association.Active xid
association_in (Some Phase.Idle) xid = Association.Idle xid
association_in (Some Phase.Prepared) xid = Association.Free

-- what the session has open: the branch that it owns, with its phase, or nothing if it is free (manual, 'XA Transaction
-- States')
unfoldable pub association_of : State → ℕ → Association
-- what the session has open
association_of state session =
    option_map_or (λ xid. association_in (phase_at state xid) xid) (own_xid state session) Association.Free

-- the value that all sessions see
abbrev pub committed_value : State → List ℕ → Option Text
committed_value state key = map.get state.rows key

-- the branch's own newest write of the row, if it wrote it
abbrev pub write_at : State → Xid → List ℕ → Option Write
write_at state xid key = option_and_then (λ branch. map.get branch.writes key) (map.get state.branches xid)

-- the value that the branch sees: its own newest write, else the committed value (own rule)
abbrev pub value_within : State → Xid → List ℕ → Option Text
value_within state xid key = unwrap_or (write_at state xid key) (committed_value state key)

-- the identifiers of the prepared branches of the whole resource manager, ascending (manual, XA RECOVER; the order is
-- our own)
unfoldable pub prepared_xids : State → List Xid
-- the prepared branches, ascending
prepared_xids state = filter (is_prepared state) (map.keys state.branches)

-- the branch that an association names is in the phase that it names; of `Free`, which names none, nothing is asked
abbrev pub IsOpen : State → Association → Type 0
IsOpen state Association.Free = Unit {0}
IsOpen state (Association.Active own) = phase_at state own ≡ Some Phase.Active
IsOpen state (Association.Idle own) = phase_at state own ≡ Some Phase.Idle
