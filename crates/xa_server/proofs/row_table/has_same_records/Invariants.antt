use Rattle.std.proofs.Common.{◌≡◌}
use Rattle.xa_server.proofs.row_table.has_same_records.Given as goal

-- where what is left of both is the same, both are
abbrev pub invariant-loop-key : goal.invariant-loop-key
invariant-loop-key l = l.key-iterator ≡ l.rest → l.recent.entries ≡ l.others.entries
