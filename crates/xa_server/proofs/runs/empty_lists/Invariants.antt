use Rattle.std.proofs.Common.{◌≡◌, [], replicate, map}
use Rattle.xa_server.proofs.runs.empty_lists.Given as goal

-- so many so far
abbrev pub invariant-loop : goal.invariant-loop
invariant-loop l = map (λ list. list.items) l.lists.items ≡ replicate l.counter []
