-- The names of a global transaction's branches.
use Rattle.std.specs.{Prelude.{◌≡◌, ◌<◌, ◌^◌, ℕ, List, [], ◌∷◌, ◌++◌}, Int.{w64, to_be_bytes}}
use Rattle.xa_xid.specs.declared.xid.Xid.{Xid}

-- the formatID is 22593; gtrid is the coordinator's name and the transaction's number in eight bytes, highest first;
-- bqual is the store's number (own rule)
unfoldable pub branch_xid : List ℕ → ℕ → ℕ → Xid
-- the identifier of a transaction's branch in a store
branch_xid name number store =
    record {
      format_id = 22593;
      gtrid = record { items = name ++ to_be_bytes w64 number };
      bqual = record
          { items = store ∷ [] };
    }

-- the identifier of the branch that a transaction of this number, of eight bytes, has in a store
pub record IsBranchOf (name : List ℕ) (number store : ℕ) (xid : Xid) : Type 0 where
  pub fits : number < 2 ^ 64
  pub is : xid ≡ branch_xid name number store
