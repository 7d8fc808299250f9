use Rattle.std.proofs.Common.{◌≡◌, ◌∷◌, take}
use Rattle.xa_server.proofs.part.in_front.Given as goal

-- the run and those so far
abbrev pub invariant-loop-shared : goal.invariant-loop-shared
invariant-loop-shared l = l.list.items ≡ l.fn.run ∷ take l.shared-index l.older
