-- Words of the laws of audits.
--     is_write, is_within     a deed is a write;  it neither begins nor ends a life
--     HasCommitted, HasDropped     a branch of a global transaction was committed;  one failed by dropped writes
use Rattle.std.specs.{Prelude.{◌≡◌, Bool, true, false, List, ◌∷◌, ◌++◌, ℕ}, List.{list_any, list_all, Contains}}
use Rattle.std.specs.Option.{option_map_or}
use Rattle.xa_xid.specs.declared.xid.Xid.{Xid}
use Rattle.xa_audit.specs.{declared.{deed.Deed.Deed, global.GlobalName.GlobalName}, Branches.{lives_in, branch_in}}
use Rattle.xa_audit.specs.{Deeds.{deeds_in, deeds_about}, Globals.{is_committed, failed, global_of}, Lives.ends_in}

-- the deed is a commit
abbrev pub is_commit : Deed → Bool
is_commit Deed.Starts = false
is_commit Deed.Writes = false
is_commit Deed.Prepares = false
is_commit Deed.Commits = true
is_commit Deed.RollsBack = false

-- some life of the branch is COMMITTED in the history
abbrev pub took_in : List ℕ → Xid → Bool
took_in history xid = option_map_or (λ lives. list_any is_committed (ends_in lives)) (lives_in history xid) false

-- the deed is a write
abbrev pub is_write : Deed → Bool
is_write Deed.Starts = false
is_write Deed.Writes = true
is_write Deed.Prepares = false
is_write Deed.Commits = false
is_write Deed.RollsBack = false

-- the deed neither begins nor ends a life
abbrev pub is_within : Deed → Bool
is_within Deed.Starts = false
is_within Deed.Writes = true
is_within Deed.Prepares = true
is_within Deed.Commits = false
is_within Deed.RollsBack = false

-- the last life wrote, and was rolled back: none begins or ends after it
pub record DropsWrites (deeds : List Deed) : Type 0 where
  pub before : List Deed
  pub life : List Deed
  pub later : List Deed
  pub cut : deeds ≡ before ++ (Deed.Starts ∷ (life ++ (Deed.RollsBack ∷ later)))
  pub within : list_all is_within life ≡ true
  pub wrote : list_any is_write life ≡ true
  pub last : list_all is_within later ≡ true

-- the branch failed in the history of the store of this number; not so if no deed of the history is about it
abbrev pub failed_in : ℕ → List ℕ → Xid → Bool
failed_in store history xid =
    option_map_or (λ lives. failed (branch_in store (xid, lives))) (lives_in history xid) false

-- no `XA COMMIT` of the branch was accepted, and the last life of it wrote, and was rolled back
abbrev pub FailsBy : List Deed → Type 0
FailsBy deeds = (list_any is_commit deeds ≡ false) × DropsWrites deeds

-- in some history an `XA COMMIT` of a branch of this global transaction was accepted
pub record HasCommitted (histories : List (List ℕ)) (name : GlobalName) : Type 0 where
  pub history : List ℕ
  pub xid : Xid
  pub one : Contains histories history
  pub own : global_of xid ≡ name
  pub committed : list_any is_commit (deeds_about xid (deeds_in history)) ≡ true

-- in some history a branch of this global transaction failed: no `XA COMMIT` of it was accepted, and the writes of
-- its last life were dropped
pub record HasDropped (histories : List (List ℕ)) (name : GlobalName) : Type 0 where
  pub history : List ℕ
  pub xid : Xid
  pub one : Contains histories history
  pub own : global_of xid ≡ name
  pub dropped : FailsBy (deeds_about xid (deeds_in history))
