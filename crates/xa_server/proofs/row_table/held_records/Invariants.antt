use Rattle.std.proofs.Common.{◌≡◌, ℕ, List, None}
use Rattle.xa_xid.specs.Xid.{bytes_cmp}
use Rattle.xa_server.{specs.Layers.held_as_below, proofs.Layers.later_at}
use Rattle.std.specs.BTreeMap as tree
use Rattle.xa_server.proofs.row_table.held_records.Given as goal

-- what is made of the records that are left, added to what was made so far, is what is made of all
abbrev pub invariant-loop-key : goal.invariant-loop-key
invariant-loop-key l = (key : List ℕ) →
    later_at bytes_cmp held_as_below l.key-iterator (tree.get bytes_cmp l.held key) key
    ≡ later_at bytes_cmp held_as_below l.recent.entries None key
