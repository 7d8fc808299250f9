-- The records of branches as a finite map.
use Rattle.std.specs.Prelude.{◌≡◌, ℕ, ◌-◌, Bool, false, cond, [], ◌∷◌, filter, Option, Some, None, List, slice_index_or}
use Rattle.std.specs.{Prelude.{take, length}, Option.{option_and_then, option_map, option_map_or}}
use Rattle.xa_xid.specs.{declared.xid.Xid.Xid, Xid.xid_cmp}
use Rattle.xa_server.specs.declared.branch.{BranchRecord.BranchRecord, Phase.Phase}
use Rattle.xa_server.specs.{declared.association.Association.Association, State.{is_prepared_phase, association_in}}
use Rattle.std.specs.FinMap as map

-- the records of branches, by their identifiers
abbrev pub BranchMap : Type 0
BranchMap = map.FinMap xid_cmp BranchRecord

-- the session that owns the branch of this identifier; None if there is no such branch, or it has no owner
abbrev pub owner_of : BranchMap → Xid → Option ℕ
owner_of branches xid = option_and_then (λ branch. branch.owner) (map.get branches xid)

-- the phase of the branch of this identifier
abbrev pub phase_in : BranchMap → Xid → Option Phase
phase_in branches xid = option_map (λ branch. branch.phase) (map.get branches xid)

-- what the session at this place of the index has open; past its end nothing
abbrev pub opened_at : List Association → ℕ → Association
opened_at opened session = slice_index_or opened session Association.Free

-- the branch that an association names; `Free` names none
abbrev pub named_in : Association → Option Xid
named_in Association.Free = None
named_in (Association.Active own) = Some own
named_in (Association.Idle own) = Some own

-- what a session has open after XA END, by what it had open before
abbrev pub idle_of : Association → Association
idle_of Association.Free = Association.Free
idle_of (Association.Active own) = Association.Idle own
idle_of (Association.Idle own) = Association.Idle own

-- the index has exactly the branches that have owners, each at its owner's place and in its phase
pub record IsIndexed (opened : List Association) (nothing : Association) (branches : BranchMap) : Type 0 where
  -- what is lent for a session past the end of the index: nothing open
  pub free : nothing ≡ Association.Free
  -- a session owns the branch that is at its place
  pub found : (session : ℕ) (xid : Xid) → named_in (opened_at opened session) ≡ Some xid
      → owner_of branches xid ≡ Some session
  -- a branch that a session owns is at the session's place
  pub listed : (session : ℕ) (xid : Xid) → owner_of branches xid ≡ Some session
      → named_in (opened_at opened session) ≡ Some xid
  -- and in its phase
  pub phased : (session : ℕ) (xid : Xid) → owner_of branches xid ≡ Some session
      → opened_at opened session ≡ association_in (phase_in branches xid) xid

-- the records with the one of this identifier changed, if there is one
abbrev pub with_record : BranchMap → Xid → (BranchRecord → BranchRecord) → BranchMap
with_record branches xid change =
    option_map_or (λ branch. map.insert branches xid (change branch)) (map.get branches xid) branches

-- a list of keys without its last one
abbrev pub without_last : List (List ℕ) → List (List ℕ)
without_last keys = take (length keys - 1) keys

-- the identifiers of the PREPARED branches in a list of records
abbrev pub prepared_keys : List (Xid × BranchRecord) → List Xid
prepared_keys [] = []
prepared_keys (entry ∷ entries) =
    cond (is_prepared_phase entry.1.phase) (entry.0 ∷ prepared_keys entries) (prepared_keys entries)

-- the branch of this identifier is PREPARED
abbrev pub is_prepared_at : BranchMap → Xid → Bool
is_prepared_at branches xid =
    option_map_or is_prepared_phase (option_map (λ branch. branch.phase) (map.get branches xid)) false

-- the identifiers of the PREPARED branches, ascending
abbrev pub prepared_among : BranchMap → List Xid
prepared_among branches = filter (is_prepared_at branches) (map.keys branches)
