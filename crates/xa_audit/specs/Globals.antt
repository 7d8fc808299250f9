-- Global transactions, and whether each is atomic.
--     took, failed      some life of a branch is COMMITTED;  none is, and its last life is ROLLED BACK
use Rattle.std.specs.Prelude.{ℕ, ◌+◌, Bool, true, false, not, ◌&&◌, cond, if◌then◌else◌, Option, Some, None, List, []}
use Rattle.std.specs.{Prelude.{◌∷◌, filter}, List.list_any, Option.option_map_or, declared.cmp.Ordering.Ordering}
use Rattle.std.specs.Ordering.{nat_cmp, ordering_then, eq_by_cmp}
use Rattle.xa_xid.specs.{declared.xid.Xid.Xid, Xid.bytes_cmp}
use Rattle.xa_audit.specs.declared.{ends.End.End, branch.Branch.Branch, global.GlobalName.GlobalName}
use Rattle.xa_audit.specs.{declared.verdict.Verdict.Verdict, Branches.{IsIndex, AreBranches}}

-- the order of global transactions: by formatID, then gtrid
abbrev pub global_cmp : GlobalName → GlobalName → Ordering
global_cmp a b = ordering_then (nat_cmp a.format_id b.format_id) (bytes_cmp a.gtrid.items b.gtrid.items)

-- the global transaction of a branch
abbrev pub global_of : Xid → GlobalName
global_of xid = record { format_id = xid.format_id; gtrid = xid.gtrid }

-- the branch is one of this global transaction
abbrev pub is_of : GlobalName → Branch → Bool
is_of name branch = eq_by_cmp global_cmp name (global_of branch.xid)

-- the list, if it isn't empty
abbrev pub if_any : {A : Type 0} → List A → Option (List A)
if_any [] = None
if_any (x ∷ xs) = Some (x ∷ xs)

-- a global transaction, with its branches
abbrev pub Global : Type 0
Global = GlobalName × List Branch

-- each global transaction of a branch in some history, ascending, with its branches: by store, then bqual
pub record IsAccount (histories : List (List ℕ)) (globals : List Global) : Type 0 where
  pub branches : List Branch
  pub all : AreBranches 1 histories branches
  pub index : IsIndex global_cmp (λ name. if_any (filter (is_of name) branches)) globals

-- the life ended in a commit
abbrev pub is_committed : End → Bool
is_committed End.Committed = true
is_committed end = false

-- whether a life ended in a rollback of its writes
abbrev pub is_rolled_back : End → Bool
is_rolled_back End.RolledBack = true
is_rolled_back end = false

-- the life is left PREPARED
abbrev pub is_in_doubt : End → Bool
is_in_doubt End.InDoubt = true
is_in_doubt end = false

-- the life is left ACTIVE or IDLE
abbrev pub is_open : End → Bool
is_open End.Open = true
is_open end = false

-- how the last life ends; None if there is none
abbrev pub last_end : List End → Option End
last_end [] = None
last_end (end ∷ []) = Some end
last_end (end ∷ next ∷ ends) = last_end (next ∷ ends)

-- whether the branch's last life ends in a way that passes the test
abbrev pub ends_as : (End → Bool) → Branch → Bool
ends_as test branch = option_map_or test (last_end branch.ends) false

-- some life of the branch is COMMITTED
abbrev pub took : Branch → Bool
took branch = list_any is_committed branch.ends

-- no life of the branch was committed, and its last is ROLLED BACK
abbrev pub failed : Branch → Bool
failed branch = not (took branch) && ends_as is_rolled_back branch

-- MIXED, if one branch took and another failed; else IN DOUBT, if the last life of some branch is; else OPEN, if the
-- last life of some branch is; else ATOMIC
abbrev pub verdict_of : List Branch → Verdict
verdict_of branches =
    if list_any took branches && list_any failed branches then Verdict.Mixed
    else (if list_any (ends_as is_in_doubt) branches then Verdict.InDoubt else (if list_any
    (ends_as is_open) branches then Verdict.Open else Verdict.Atomic))

-- whether two verdicts are the same
abbrev pub same_verdict : Verdict → Verdict → Bool
same_verdict Verdict.Atomic Verdict.Atomic = true
same_verdict Verdict.Mixed Verdict.Mixed = true
same_verdict Verdict.InDoubt Verdict.InDoubt = true
same_verdict Verdict.Open Verdict.Open = true
same_verdict verdict other = false

-- how many global transactions have this verdict
unfoldable pub count_of : Verdict → List Global → ℕ
-- how many have this verdict
count_of verdict [] = 0
count_of verdict (global ∷ globals) = cond (same_verdict verdict (verdict_of global.1)) 1 0 + count_of verdict globals
