-- How the records of branches and rows stand for a state.
--     gather               the map of what is found in each record; keys at which nothing is found aren't in it
--     mapped               the map with each value changed
use Rattle.std.specs.Prelude.{◌≡◌, ℕ, Bool, cond, Option, Some, List, [], ◌∷◌, filter, length, is_none, is_some}
use Rattle.std.specs.{Option.{option_map_or, option_and_then}, declared.cmp.Ordering.Ordering, Ordering.eq_by_cmp}
use Rattle.xa_xid.specs.{declared.xid.Xid.Xid, Xid.bytes_cmp}
use Rattle.xa_server.specs.{declared.branch.BranchRecord.BranchRecord, State.{Branch, State, is_prepared_phase}}
use Rattle.xa_server.specs.{Tables.{BranchMap, owner_of}, Rows.{RowMap, write_by, lock_by}}
use Rattle.std.specs.FinMap as map

-- the entries with each value changed, by its key and value
abbrev pub map_values : {K V W : Type 0} → (K → V → W) → List (K × V) → List (K × W)
map_values change [] = []
map_values change (entry ∷ entries) = (entry.0, change entry.0 entry.1) ∷ map_values change entries

module _ {K V W : Type 0} {R : K → K → Ordering} where
  -- the map, at these keys, of what `found` finds in the record of each; a key without a record, or at which nothing is
  -- found, isn't in it
  abbrev pub gather_at : (V → Option W) → map.FinMap R V → List K → map.FinMap R W
  gather_at found records [] = map.empty
  gather_at found records (key ∷ keys) =
      option_map_or (λ value. map.insert (gather_at found records keys) key value)
      (option_and_then found (map.get records key)) (gather_at found records keys)

  -- the map of what `found` finds in each record; a key at which nothing is found isn't in it
  unfoldable pub gather : (V → Option W) → map.FinMap R V → map.FinMap R W
  gather found records = gather_at found records (map.keys records)

  -- the map with each value changed, by its key and value
  unfoldable pub mapped : (K → V → W) → map.FinMap R V → map.FinMap R W
  mapped change records = map.from_sorted (map_values change (map.entries records))

-- the branch of a state that a branch's record stands for: its writes and locks are those in the rows' records
abbrev pub branch_seen : RowMap → Xid → BranchRecord → Branch
branch_seen rows xid branch =
    record {
      phase = branch.phase;
      owner = branch.owner;
      writes = gather (write_by xid) rows;
      locks = gather
          (lock_by xid) rows;
    }

-- the state that the records stand for
unfoldable pub state_of : BranchMap → RowMap → State
state_of branches rows =
    record { branches = mapped (branch_seen rows) branches; rows = gather (λ row. row.committed) rows }

-- how often a list of keys names the row
abbrev pub times_in : List ℕ → List (List ℕ) → ℕ
times_in key keys = length (filter (eq_by_cmp bytes_cmp key) keys)

-- how often the branch's record lists the row
abbrev pub times_listed : BranchMap → Xid → List ℕ → ℕ
times_listed branches xid key = option_map_or (λ branch. times_in key branch.held) (map.get branches xid) 0

-- the row's record says that the branch holds the row, in either way
abbrev pub is_holder : RowMap → Xid → List ℕ → Bool
is_holder rows xid key = is_some (option_and_then (lock_by xid) (map.get rows key))

-- what holds of the records of branches and rows together, between any two statements
pub record IsWhole (branches : BranchMap) (rows : RowMap) : Type 0 where
  -- exactly the PREPARED branches have no owner
  pub attached : (xid : Xid) (branch : BranchRecord) → map.get branches xid ≡ Some branch
      → is_none branch.owner ≡ is_prepared_phase branch.phase
  -- a session owns at most one branch
  pub one_owned : (session : ℕ) (xid other : Xid) → owner_of branches xid ≡ Some session
      → owner_of branches other ≡ Some session → xid ≡ other
  -- a branch lists exactly the rows that it holds in either way, each once
  pub listed_once : (xid : Xid) (key : List ℕ) → times_listed branches xid key ≡ cond (is_holder rows xid key) 1 0
