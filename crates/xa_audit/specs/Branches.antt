-- The branches of every store, with the ends of their lives.
use Rattle.std.specs.{Prelude.{◌≡◌, ℕ, ◌+◌, None, Option, List, [], ◌∷◌, ◌++◌, map}, declared.cmp.Ordering.Ordering}
use Rattle.std.specs.{List.Sorted.IsStrictlySortedBy, Map.{lookup, keys_of}, BTreeMap.is_at}
use Rattle.xa_xid.specs.{declared.xid.Xid.Xid, Xid.xid_cmp}
use Rattle.xa_audit.specs.{Deeds.{deeds_in, deeds_about}, Lives.{lives_after, ends_in}, declared.lives.Lives.Lives}
use Rattle.xa_audit.specs.declared.branch.Branch.{Branch}

-- the keys of the entries ascend, and looking up a key finds what is told of it, or nothing
pub record IsIndex {K V : Type 0} (cmp : K → K → Ordering) (told : K → Option V) (entries : List (K × V)) : Type 0 where
  pub ascending : IsStrictlySortedBy cmp (keys_of entries)
  pub found : (key : K) → lookup (is_at (cmp key)) entries ≡ told key

-- the lives of a branch in a history, if a deed is about it
abbrev pub lives_in : List ℕ → Xid → Option Lives
lives_in history xid = lives_after None (deeds_about xid (deeds_in history))

-- the branch of the store of this number that has this identifier, with the ends of these lives
abbrev pub branch_in : ℕ → Xid × Lives → Branch
branch_in store named = record { store = store; xid = named.0; ends = ends_in named.1 }

-- the branches of the store of this number that has this history, ascending by their identifiers
abbrev pub AreBranchesOf : ℕ → List ℕ → List Branch → Type 0
AreBranchesOf store history branches =
    (entries : List (Xid × Lives)) × IsIndex xid_cmp (lives_in history) entries
    × (branches ≡ map (branch_in store) entries)

-- the branches of the stores that have these histories, the first of which has this number
abbrev pub AreBranches : ℕ → List (List ℕ) → List Branch → Type 0
AreBranches store [] branches = branches ≡ []
AreBranches store (history ∷ histories) branches =
    (here : List Branch) × (later : List Branch) × AreBranchesOf store history here
    × AreBranches (store + 1) histories later × (branches ≡ here ++ later)
