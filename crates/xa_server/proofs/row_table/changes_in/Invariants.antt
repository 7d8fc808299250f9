use Rattle.std.proofs.Common.{◌≡◌, ◌++◌}
use Rattle.xa_server.specs.Layers.{change_of, gathered}
use Rattle.xa_server.proofs.row_table.changes_in.Given as goal

-- those so far and those of what is left are those of all
abbrev pub invariant-loop-key : goal.invariant-loop-key
invariant-loop-key l =
    l.changes.items ++ gathered (λ row. change_of row.value) l.key-iterator
    ≡ gathered (λ row. change_of row.value) l.recent.entries
