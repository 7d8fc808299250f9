-- When a listing is empty.
use Rattle.std.{proofs.Common.{◌≡◌, ◌≢◌, ◌++◌, ◌∷◌, ℕ, List, [], refl}, specs.List.flat_map}
use Rattle.xa_server.specs.{declared.overview.BranchEntry.BranchEntry, Overview.branches_of, State.State}
use Rattle.xa_lines.specs.Listing.{branch_lines, row_line, listing}

-- a listing without a branch and a row is empty
pub nothing_listed : (state : State) (keys : List (List ℕ)) → branches_of state ≡ [] → keys ≡ []
    → listing state keys ≡ []
unfolding listing
nothing_listed state keys is also = cc

-- a listing with a branch isn't empty
pub branch_listed : (state : State) (keys : List (List ℕ)) → branches_of state ≢ [] → listing state keys ≢ []
unfolding listing
branch_listed state keys some = by (branches_of state) some
  where
    by : (branches : List BranchEntry) → branches ≢ []
        → flat_map (branch_lines state) branches ++ flat_map (row_line state) keys ≢ []
    by [] has none = has refl
    by (branch ∷ branches) has none = cc

-- a listing with a row isn't empty
pub key_listed : (state : State) (keys : List (List ℕ)) → keys ≢ [] → listing state keys ≢ []
unfolding listing
key_listed state keys some = by (flat_map (branch_lines state) (branches_of state)) keys some
  where
    by : (front : List ℕ) (all : List (List ℕ)) → all ≢ [] → front ++ flat_map (row_line state) all ≢ []
    by front [] has none = has refl
    by [] (key ∷ rest) has none = cc
    by (byte ∷ front) (key ∷ rest) has none = cc
