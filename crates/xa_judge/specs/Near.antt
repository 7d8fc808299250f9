-- Servers that differ only in rows that nobody reads.
--     Keys, named_in     a set of keys;  a key is in it
use Rattle.std.specs.{Prelude.{◌≡◌, ℕ, Bool, true, List, ◌++◌}, BTreeSet.{BTreeSet, contains}, List.All}
use Rattle.xa_xid.specs.{Xid.bytes_cmp, declared.statement.Statement.TheVariants.Get}
use Rattle.xa_server.specs.State.{State, committed_value}
use Rattle.xa_judge.specs.declared.{request.Request.Request, event.Event.{Event, TheVariants.Call}, moves.Move.Move}
use Rattle.xa_judge.specs.Explained.{Config, opening_config, LeadsThrough}

-- a set of keys
abbrev pub Keys : Type 0
Keys = BTreeSet (List ℕ)

-- the key is in the set
abbrev pub named_in : Keys → List ℕ → Bool
named_in keys key = contains bytes_cmp keys key

-- two states with the same branches and the same committed values of the named rows
pub record AreNear (named : List ℕ → Bool) (left right : State) : Type 0 where
  pub branches : left.branches ≡ right.branches
  pub rows : (key : List ℕ) → named key ≡ true → committed_value left key ≡ committed_value right key

-- the request reads only named rows: it is no GET, or one of a named row
abbrev pub ReadsNamed : (List ℕ → Bool) → Request → Type 0
ReadsNamed named (Request.Statement (Get key)) = named key ≡ true
ReadsNamed named request = Unit {0}

-- if the event is a call, its request reads only named rows
abbrev pub CallsNamed : (List ℕ → Bool) → Event → Type 0
CallsNamed named (Call session request) = ReadsNamed named request
CallsNamed named event = Unit {0}

-- moves lead through the events to this state, with all sessions idle; and if moves lead through these events and
-- more to an end, some moves lead from this state through those more to the same end
pub record IsLoadedTo (base : State) (events : List Event) (full : State) : Type 0 where
  pub moves : List Move
  pub leads : LeadsThrough (opening_config base) events moves (opening_config full)
  pub only : (more : List Event) (all : List Move) (end : Config)
      → LeadsThrough (opening_config base) (events ++ more) all end
      → (later : List Move) × LeadsThrough (opening_config full) more later end

-- the first events lead to a state that has the same branches as `near`, and the same committed values of some rows.
-- The later events read only these rows
pub record IsNearLater (base : State) (first : List Event) (near : State) (later : List Event) : Type 0 where
  pub keys : Keys
  pub full : State
  pub loaded : IsLoadedTo base first full
  pub is_near : AreNear (named_in keys) full near
  pub named : All (CallsNamed (named_in keys)) later
