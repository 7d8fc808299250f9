-- How a state, and the server's records of branches and rows, are encoded where finite maps keep them: each record as
-- the pairs of its fields.
use Rattle.std.specs.Prelude.{◌≡◌, ℕ, Option, Some, None, List, zero, suc, refl}
use Rattle.std.specs.Coded.{Coded, code_by, coded×, coded_option, coded_ℕ, coded_list}
use Rattle.xa_xid.specs.{declared.xid.Xid.Xid, Xid.{Text, bytes_cmp, xid_cmp, coded_text, coded_xid}}
use Rattle.xa_server.specs.declared.{branch.{Phase.Phase, BranchRecord.BranchRecord}, lock.{Change.Change, Lock.Lock}}
use Rattle.xa_server.specs.{Recorded.RowRecord, Rows.{Sharing, write_of}}
use Rattle.xa_server.specs.State.{Write, LockMode, Shared, Exclusive, RowLocks, Branch, State}
use Rattle.std.specs.FinMap as map
use Rattle.std.specs.FinSet as set

-- a phase is encoded as a number
abbrev pub number_of_phase : Phase → ℕ
number_of_phase Phase.Active = 0
number_of_phase Phase.Idle = 1
number_of_phase Phase.Prepared = 2

-- the phase of a number; any number from 2 on is PREPARED
abbrev pub phase_of_number : ℕ → Phase
phase_of_number zero = Phase.Active
phase_of_number (suc zero) = Phase.Idle
phase_of_number (suc (suc n)) = Phase.Prepared

-- a phase is found again by its number
abbrev pub phase_back : (phase : Phase) → phase_of_number (number_of_phase phase) ≡ phase
phase_back Phase.Active = refl
phase_back Phase.Idle = refl
phase_back Phase.Prepared = refl

-- a branch's phase is encoded as its number, `number_of_phase`
abbrev pub coded_phase : Coded Phase
coded_phase = code_by ℕ coded_ℕ number_of_phase phase_of_number phase_back

-- a key is encoded as the list of its bytes
abbrev pub coded_key : Coded (List ℕ)
coded_key = coded_list coded_ℕ

-- a lock mode is encoded as a number
abbrev pub number_of_mode : LockMode → ℕ
number_of_mode Shared = 0
number_of_mode Exclusive = 1

-- the lock mode of a number; any number from 1 on is exclusive
abbrev pub mode_of_number : ℕ → LockMode
mode_of_number zero = Shared
mode_of_number (suc n) = Exclusive

-- a lock mode is found again by its number
abbrev pub mode_back : (mode : LockMode) → mode_of_number (number_of_mode mode) ≡ mode
mode_back Shared = refl
mode_back Exclusive = refl

-- a lock mode is encoded as its number, `number_of_mode`
abbrev pub coded_mode : Coded LockMode
coded_mode = code_by ℕ coded_ℕ number_of_mode mode_of_number mode_back

-- a branch is encoded by its phase, owner, writes and locks
abbrev pub coded_branch : Coded Branch
coded_branch =
    code_by (Phase × (Option ℕ × (map.FinMap bytes_cmp Write × RowLocks)))
    (coded× coded_phase (coded× (coded_option coded_ℕ) (coded× (map.code coded_key (coded_option coded_text))
    (map.code coded_key coded_mode))))
    (λ b. (b.phase, (b.owner, (b.writes, b.locks))))
    (λ p. record { phase = p.0; owner = p.1.0; writes = p.1.1.0; locks = p.1.1.1 }) (λ _. refl)

-- a state is encoded by its branches and rows
abbrev pub coded_state : Coded State
coded_state =
    code_by (map.FinMap xid_cmp Branch × map.FinMap bytes_cmp Text)
    (coded× (map.code coded_xid coded_branch) (map.code coded_key coded_text))
    (λ s. (s.branches, s.rows)) (λ p. record { branches = p.0; rows = p.1 }) (λ _. refl)

-- a list of keys is encoded as the list of the encoded keys
abbrev pub coded_keys : Coded (List (List ℕ))
coded_keys = coded_list coded_key

-- the record of a branch is encoded by its fields
abbrev pub coded_branch_record : Coded BranchRecord
coded_branch_record =
    code_by (Phase × (Option ℕ × List (List ℕ))) (coded× coded_phase (coded× (coded_option coded_ℕ) coded_keys))
    (λ b. (b.phase, (b.owner, b.held))) (λ p. record { phase = p.0; owner = p.1.0; held = p.1.1 }) (λ _. refl)

-- the map of all branches' records is encoded by its entries
abbrev pub coded_branches : Coded (map.FinMap xid_cmp BranchRecord)
coded_branches = map.code coded_xid coded_branch_record

-- the change that makes this write: of a value, or None for a deletion
abbrev pub change_of : Write → Change
change_of (Some value) = Change.Put value
change_of None = Change.Delete

-- a change is found again by what it writes
abbrev pub change_back : (change : Change) → change_of (write_of change) ≡ change
change_back (Change.Put value) = refl
change_back Change.Delete = refl

-- a change of a row is encoded as the write that it makes
abbrev pub coded_change : Coded Change
coded_change = code_by Write (coded_option coded_text) write_of change_of change_back

-- a lock as a pair: the branch that holds it exclusively, if one does, with its change; and the sharers
abbrev pub holder_and_sharers : Lock → Option (Xid × Change) × Sharing
holder_and_sharers (Lock.Exclusive holder change) = (Some (holder, change), set.empty)
holder_and_sharers (Lock.Shared sharers) = (None, sharers)

-- the lock of a holder, if there is one, else of sharers
abbrev pub lock_of_parts : Option (Xid × Change) × Sharing → Lock
lock_of_parts (Some held, sharers) = Lock.Exclusive held.0 held.1
lock_of_parts (None, sharers) = Lock.Shared sharers

-- a lock is found again by its parts
abbrev pub lock_back : (lock : Lock) → lock_of_parts (holder_and_sharers lock) ≡ lock
lock_back (Lock.Exclusive holder change) = refl
lock_back (Lock.Shared sharers) = refl

-- a lock is encoded by who holds it, and by the change if it is exclusive
abbrev pub coded_lock : Coded Lock
coded_lock =
    code_by (Option (Xid × Change) × Sharing) (coded× (coded_option (coded× coded_xid coded_change))
    (set.code coded_xid))
    holder_and_sharers lock_of_parts lock_back

-- the record of a row is encoded by its committed value and its lock
abbrev pub coded_row_record : Coded RowRecord
coded_row_record =
    code_by (Option Text × Lock) (coded× (coded_option coded_text) coded_lock)
    (λ r. (r.committed, r.lock)) (λ p. record { committed = p.0; lock = p.1 }) (λ _. refl)

-- the map of all rows' records is encoded by its entries
abbrev pub coded_rows : Coded (map.FinMap bytes_cmp RowRecord)
coded_rows = map.code coded_key coded_row_record
