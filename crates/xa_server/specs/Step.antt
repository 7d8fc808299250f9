-- What each statement does, and what a history of statements leaves.
--     with_branch, with_changed, without_branch    the state with a branch set;  with one changed;  with one gone
--     is_refused, is_list, is_recover      the reply is a refusal;  a list;  the statement is an XA RECOVER
use Rattle.std.specs.Prelude.{◌≡◌, ℕ, Bool, true, false, cond, not, ◌&&◌, ◌||◌, Some, None, List, [], ◌∷◌}
use Rattle.std.specs.Option.{option_map_or}
use Rattle.xa_xid.specs.{declared.{xid.Xid.Xid, statement.Statement.Statement}, Xid.{Text, bytes_cmp}}
use Rattle.xa_server.specs.declared.{branch.Phase.Phase, reply.Reply.Reply, association.Association.Association}
use Rattle.xa_server.specs.{declared.association.Association.TheVariants.{Free, Active, Idle}, Replies.reply_to}
use Rattle.xa_server.specs.{State.{Write, Shared, Exclusive, RowLocks, Branch, State, association_of}, Locks.holds}
use Rattle.std.specs.FinMap as map

-- a branch that the session has just started
abbrev pub started_by : ℕ → Branch
started_by session = record { phase = Phase.Active; owner = Some session; writes = map.empty; locks = map.empty }

-- the state with this branch at the identifier
abbrev pub with_branch : State → Xid → Branch → State
with_branch state xid branch = record state { branches = map.insert state.branches xid branch }

-- the state with the branch of this identifier changed, if there is one
abbrev pub with_changed : State → Xid → (Branch → Branch) → State
with_changed state xid change =
    option_map_or (λ branch. with_branch state xid (change branch)) (map.get state.branches xid) state

-- the state without the branch: its writes are dropped, and it holds no row any more
abbrev pub without_branch : State → Xid → State
without_branch state xid = record state { branches = map.remove state.branches xid }

-- the rows after one write
abbrev pub with_write : List ℕ → Write → map.FinMap bytes_cmp Text → map.FinMap bytes_cmp Text
with_write key (Some value) rows = map.insert rows key value
with_write key None rows = map.remove rows key

-- the rows after these writes
abbrev pub with_writes : List (List ℕ × Write) → map.FinMap bytes_cmp Text → map.FinMap bytes_cmp Text
with_writes [] rows = rows
with_writes (write ∷ writes) rows = with_write write.0 write.1 (with_writes writes rows)

-- the state after the branch's commit: its writes are the committed values, and it is gone with its locks
unfoldable pub committed : State → Xid → State
-- the state after a branch's commit
committed state xid =
    option_map_or (λ branch. record (without_branch state xid)
    { rows = with_writes (map.entries branch.writes) state.rows })
    (map.get state.branches xid) state

-- the held rows with this one: held in share if it wasn't held before, else as it was
abbrev pub with_share : List ℕ → RowLocks → RowLocks
with_share key locks = cond (map.contains_key locks key) locks (map.insert locks key Shared)

-- the branch, holding the row also: in share, or exclusively if it did so before
abbrev pub with_lock : List ℕ → Branch → Branch
with_lock key branch = record branch { locks = with_share key branch.locks }

-- the branch holds the row exclusively, also if it shared it before, and writes it
abbrev pub with_own_write : List ℕ → Write → Branch → Branch
with_own_write key write branch =
    record branch { locks = map.insert branch.locks key Exclusive; writes = map.insert branch.writes key write }

-- the state after a row is written: by a free session at once; in an ACTIVE branch as the branch's own write, under its
-- exclusive lock; an IDLE branch writes nothing, since such a statement is refused
abbrev pub row_written : State → Association → List ℕ → Write → State
row_written state Free key write = record state { rows = with_write key write state.rows }
row_written state (Active own) key write = with_changed state own (with_own_write key write)
row_written state (Idle own) key write = state

-- what an accepted statement does, one line for each statement (the phases are the manual's and C193's; rows and
-- DISCONNECT are our own)
unfoldable pub effect : State → ℕ → Association → Statement → State
-- what an accepted statement does to the state
effect state session association (Statement.Start xid) = with_branch state xid (started_by session)
effect state session association (Statement.End xid) = with_changed state xid
    (λ branch. record branch { phase = Phase.Idle })
effect state session association (Statement.Prepare xid) =
    with_changed state xid (λ branch. record branch { phase = Phase.Prepared; owner = None })
effect state session association (Statement.Commit xid one_phase) = committed state xid
effect state session association (Statement.Rollback xid) = without_branch state xid
effect state session association (Statement.Recover convert) = state
effect state session association Statement.Unsupported = state
effect state session Free (Statement.Get key) = state
effect state session (Active own) (Statement.Get key) = with_changed state own (with_lock key)
effect state session (Idle own) (Statement.Get key) = state
effect state session association (Statement.Put key value) = row_written state association key (Some value)
effect state session association (Statement.Del key) = row_written state association key None
effect state session Free Statement.Disconnect = state
effect state session (Active own) Statement.Disconnect = without_branch state own
effect state session (Idle own) Statement.Disconnect = without_branch state own

-- a refused statement leaves the state as it was
abbrev pub unless_refused : Reply → State → State → State
unless_refused Reply.Ok old new = new
unless_refused (Reply.Value value) old new = new
unless_refused (Reply.Recovered xids) old new = new
unless_refused (Reply.Refused error) old new = old

-- the state after a session's statement
unfoldable pub after : State → ℕ → Statement → State
after state session statement = unless_refused (reply_to state session statement) state
    (effect state session (association_of state session) statement)

-- the statement has this reply, and leaves this state
abbrev pub Step : State → ℕ → Statement → Reply → State → Type 0
Step old session statement reply new = (reply ≡ reply_to old session statement) × (new ≡ after old session statement)

-- whether the reply is a refusal
abbrev pub is_refused : Reply → Bool
is_refused Reply.Ok = false
is_refused (Reply.Value value) = false
is_refused (Reply.Recovered xids) = false
is_refused (Reply.Refused error) = true

-- the reply is a list of identifiers, the only reply that takes memory
abbrev pub is_list : Reply → Bool
is_list (Reply.Recovered xids) = true
is_list reply = false

-- whether the statement, if it is accepted, is logged (own rule): XA RECOVER and unsupported ones never are; GET is
-- only in an ACTIVE branch that doesn't hold the row yet, DISCONNECT only if it ends a branch; all others are
unfoldable pub may_enter : State → Association → Statement → Bool
-- whether the statement is logged if it is accepted
may_enter state association (Statement.Start xid) = true
may_enter state association (Statement.End xid) = true
may_enter state association (Statement.Prepare xid) = true
may_enter state association (Statement.Commit xid one_phase) = true
may_enter state association (Statement.Rollback xid) = true
may_enter state association (Statement.Recover convert) = false
may_enter state association Statement.Unsupported = false
may_enter state Free (Statement.Get key) = false
may_enter state (Active own) (Statement.Get key) = not (holds state own key)
may_enter state (Idle own) (Statement.Get key) = false
may_enter state association (Statement.Put key value) = true
may_enter state association (Statement.Del key) = true
may_enter state Free Statement.Disconnect = false
may_enter state (Active own) Statement.Disconnect = true
may_enter state (Idle own) Statement.Disconnect = true

-- whether the statement is logged: it isn't refused, and is one of those that are logged if they are accepted
unfoldable pub enters : State → ℕ → Statement → Bool
-- whether the statement is logged
enters state session statement =
    not (is_refused (reply_to state session statement)) && may_enter state (association_of state session) statement

-- the state after a history of statements, each with its session; one that is refused at its place leaves the state as
-- it was
abbrev pub after_all : State → List (ℕ × Statement) → State
after_all state [] = state
after_all state (entry ∷ entries) = after_all (after state entry.0 entry.1) entries

-- the statement is an XA RECOVER, whose reply is a list
abbrev pub is_recover : Statement → Bool
is_recover (Statement.Recover convert) = true
is_recover statement = false

-- carrying the statement out may make a record, of a branch or of a row, or add to one, if the statement is accepted
abbrev pub makes_record : Statement → Bool
makes_record (Statement.Start xid) = true
makes_record (Statement.Get key) = true
makes_record (Statement.Put key value) = true
makes_record (Statement.Del key) = true
makes_record statement = false

-- carrying the statement out may take memory: XA RECOVER, and of what is logged XA START and the row statements (own
-- rule)
abbrev pub may_take_memory : State → ℕ → Statement → Bool
may_take_memory state session statement =
    is_recover statement || (enters state session statement && makes_record statement)
