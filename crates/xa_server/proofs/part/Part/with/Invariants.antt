use Rattle.std.{proofs.Common.{◌≡◌, ℕ, List, length}, specs.Option.unwrap_or}
use Rattle.xa_server.specs.Layers.{under}
use Rattle.std.specs.FinMap as map
use Rattle.xa_server.proofs.part.Part.with.Given as goal

-- the run, over those that are left, has of each row what the new run has over all
abbrev pub invariant-loop-next : goal.invariant-loop-next
invariant-loop-next l = (key : List ℕ) → unwrap_or (map.get l.run key) (map.get (under l.left) key)
    ≡ unwrap_or (map.get l.fn.run key) (map.get l.self key)

abbrev pub decreases-loop-next : goal.decreases-loop-next
decreases-loop-next l = length l.left
