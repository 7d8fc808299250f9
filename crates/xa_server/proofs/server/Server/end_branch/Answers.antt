use Rattle.std.proofs.Common.{◌≡◌, ℕ, List, refl, ap, sym, ◌∙◌, Bool, true, false, Some, None, Option}
use Rattle.std.specs.{Prelude.{cond, is_some}, Option.option_map}
use mathlib.Core.Bool.{true≢false}
use Rattle.xa_xid.specs.declared.xid.Xid.{Xid}
use Rattle.xa_server.specs.{declared.branch.BranchRecord.BranchRecord, State.is_known, Step.{without_branch, committed}}
use Rattle.xa_server.specs.{Tables.BranchMap, Rows.{RowMap, Frees}, View.{state_of, IsWhole}}
use Rattle.xa_server.proofs.Index.{same_value, not_none}
use Rattle.std.specs.FinMap as map
use Rattle.xa_server.proofs.Seen
use Rattle.xa_server.proofs.Ending
use Rattle.xa_server.proofs.Whole
use Rattle.xa_server.proofs.server.Server.end_branch.Goals as goal

-- the record whose keys were taken out
taken : (branches : BranchMap) (xid : Xid) (keys : List (List ℕ))
    → Some keys ≡ option_map (λ (b : BranchRecord). b.held) (map.get branches xid)
    → (branch : BranchRecord) × (map.get branches xid ≡ Some branch) × (keys ≡ branch.held)
taken branches xid keys e = by (map.get branches xid) refl e
  where
    by : (found : Option BranchRecord) → map.get branches xid ≡ found
        → Some keys ≡ option_map (λ (b : BranchRecord). b.held) found
        → (branch : BranchRecord) × (map.get branches xid ≡ Some branch) × (keys ≡ branch.held)
    by None is e = not_none keys (sym e)
    by (Some branch) is e = (branch, is, same_value keys branch.held e)

-- what is left of it
ended : (branches : BranchMap) (rows new : RowMap) (xid : Xid) (keys : List (List ℕ)) (commits : Bool)
    → IsWhole branches rows
    → Some keys ≡ option_map (λ (b : BranchRecord). b.held) (map.get branches xid) → Frees commits xid keys rows new →
    IsWhole (map.remove branches xid) new
    × (state_of (map.remove branches xid) new ≡ cond commits (committed (state_of branches rows) xid)
    (without_branch (state_of branches rows) xid))
ended branches rows new xid keys commits whole found frees = by (taken branches xid keys found)
  where
    by : (branch : BranchRecord) × (map.get branches xid ≡ Some branch) × (keys ≡ branch.held) →
        IsWhole (map.remove branches xid) new
        × (state_of (map.remove branches xid) new ≡ cond commits (committed (state_of branches rows) xid)
        (without_branch (state_of branches rows) xid))
    by (branch, is, held) =
        let listed : Ending.IsListedIn xid keys rows = rw held (Whole.listed_rows branches rows xid branch whole is) in
        (Whole.whole_ended branches commits xid keys rows new frees listed whole, at commits frees listed)
      where
        at : (b : Bool) → Frees b xid keys rows new → Ending.IsListedIn xid keys rows
            → state_of (map.remove branches xid) new ≡ cond b (committed (state_of branches rows) xid)
            (without_branch (state_of branches rows) xid)
        at true frees listed = Ending.seen_committed branches xid branch keys rows new is frees listed
        at false frees listed = Ending.seen_rolled_back branches xid keys rows new frees listed

-- a branch that is known has keys
none_taken : (branches : BranchMap) (rows : RowMap) (xid : Xid) → is_known (state_of branches rows) xid ≡ true
    → None ≡ option_map (λ (b : BranchRecord). b.held) (map.get branches xid) → ⊥
none_taken branches rows xid known none = by (map.get branches xid) (Seen.known_record branches rows xid known) none
  where
    by : (found : Option BranchRecord) → is_some found ≡ true → None ≡ option_map (λ (b : BranchRecord). b.held) found
        → ⊥
    by None there e = absurd (true≢false (sym there))
    by (Some branch) there e = not_none branch.held e

pub invariant_of-self : goal.invariant_of-self
invariant_of-self c =
    rw c.remove.ensures.removed
    (ended c.self.inside.branches c.self.inside.rows c.free_all.new.self c.args.xid.now c.in-Some.keys c.args.commits
    c.self.invariant
    (sym c.in-Some.is ∙ c.remove.ensures.held) c.free_all.ensures).0

pub invariant_of-self-in_default : goal.invariant_of-self-in_default
invariant_of-self-in_default c =
    absurd (none_taken c.self.inside.branches c.self.inside.rows c.args.xid.now
    (ap (λ s. is_known s c.args.xid.now) c.self.view_is ∙ c.requires)
    (sym c.in_default.is ∙ c.remove.ensures.held))

pub returns-in-Some : goal.returns-in-Some
returns-in-Some c =
    ap (λ b. state_of b c.free_all.new.self) c.remove.ensures.removed
    ∙ (ended c.self.inside.branches c.self.inside.rows c.free_all.new.self c.args.xid.now c.in-Some.keys c.args.commits
    c.self.invariant
    (sym c.in-Some.is ∙ c.remove.ensures.held) c.free_all.ensures).1
    ∙ ap (λ s. cond c.args.commits (committed s c.args.xid.now) (without_branch s c.args.xid.now)) c.self.view_is

pub returns-in_default : goal.returns-in_default
returns-in_default c =
    absurd (none_taken c.self.inside.branches c.self.inside.rows c.args.xid.now
    (ap (λ s. is_known s c.args.xid.now) c.self.view_is ∙ c.requires)
    (sym c.in_default.is ∙ c.remove.ensures.held))
