-- The branches that share a row, as its record keeps them.
use Rattle.std.specs.FinSet as set
use Rattle.xa_xid.specs.Xid.{xid_cmp}
use Rattle.xa_server.specs.declared.sharers.Branches.{Branches, TheVariants.{Nobody, One, Several}}

-- the branches as a set, by how many there are
abbrev pub set_of : Branches → set.FinSet xid_cmp
set_of Nobody = set.empty
set_of (One xid) = set.insert set.empty xid
set_of (Several several) = several.value
