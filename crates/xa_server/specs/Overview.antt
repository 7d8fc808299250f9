-- A state as a person looks at it.
--     entry_of, branches_of      a branch without its rows;  every branch, ascending
--     rows_held, rows_of         the rows that a branch holds, ascending;  that the branch of an identifier holds
use Rattle.std.specs.{Prelude.{ℕ, Option, Some, None, List, [], ◌∷◌, map}, Option.option_map_or}
use Rattle.xa_xid.specs.declared.{xid.Xid.Xid, statement.Statement.Statement}
use Rattle.xa_server.specs.declared.{hold.{Hold.Hold, HeldRow.HeldRow}, overview.BranchEntry.BranchEntry}
use Rattle.xa_server.specs.declared.association.Association.{Association, TheVariants.{Free, Active, Idle}}
use Rattle.xa_server.specs.State.{Write, LockMode, Branch, State, association_of}
use Rattle.std.specs.FinMap as fin

-- a branch as a list shows it: identifier, phase and owner, without its rows
abbrev pub entry_of : Xid × Branch → BranchEntry
entry_of named = record { xid = named.0; phase = named.1.phase; owner = named.1.owner }

-- every branch, ascending by identifier
unfoldable pub branches_of : State → List BranchEntry
branches_of state = map entry_of (fin.entries state.branches)

-- how a branch holds a row, by its newest write of the row: in share if it didn't write it (None), else exclusively,
-- with this write
abbrev pub hold_of : Option Write → Hold
hold_of None = Hold.Shared
hold_of (Some (Some value)) = Hold.Put value
hold_of (Some None) = Hold.Delete

-- a row that the branch holds, as a list shows it: its key, and how the branch holds it, by the branch's newest write
-- of it (the lock mode isn't looked at)
abbrev pub held_row : Branch → List ℕ × LockMode → HeldRow
held_row branch lock = record { key = lock.0; hold = hold_of (fin.get branch.writes lock.0) }

-- the rows that a branch holds, ascending by key
abbrev pub rows_held : Branch → List HeldRow
rows_held branch = map (held_row branch) (fin.entries branch.locks)

-- the rows that the branch of this identifier holds, ascending by key; none, if there is no such branch
unfoldable pub rows_of : State → Xid → List HeldRow
rows_of state xid = option_map_or rows_held (fin.get state.branches xid) []

-- the keys of these rows, in their order
abbrev pub keys_of : List HeldRow → List (List ℕ)
keys_of rows = map (λ row. row.key) rows

-- the keys of the rows that the session's branch holds; none if the session is free
abbrev pub keys_open : State → Association → List (List ℕ)
keys_open state Free = []
keys_open state (Active own) = keys_of (rows_of state own)
keys_open state (Idle own) = keys_of (rows_of state own)

-- the keys of the rows that a statement is about (own rule): of GET, PUT and DEL the key that it names; of XA COMMIT
-- and XA ROLLBACK those that the named branch holds; of DISCONNECT those that the session's branch holds; of others
-- none
unfoldable pub keys_about : State → ℕ → Statement → List (List ℕ)
-- the keys of the rows that a statement is about
keys_about state session (Statement.Commit xid one_phase) = keys_of (rows_of state xid)
keys_about state session (Statement.Rollback xid) = keys_of (rows_of state xid)
keys_about state session (Statement.Get key) = key ∷ []
keys_about state session (Statement.Put key value) = key ∷ []
keys_about state session (Statement.Del key) = key ∷ []
keys_about state session Statement.Disconnect = keys_open state (association_of state session)
keys_about state session statement = []
