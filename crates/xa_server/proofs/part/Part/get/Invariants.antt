use Rattle.std.proofs.Common.{◌≡◌, length}
use Rattle.xa_server.specs.Layers.{under}
use Rattle.std.specs.FinMap as map
use Rattle.xa_server.proofs.part.Part.get.Given as goal

-- the runs that are left have of the row what all have
abbrev pub invariant-loop-run : goal.invariant-loop-run
invariant-loop-run l = map.get (under l.left) l.key ≡ map.get l.self l.key

abbrev pub decreases-loop-run : goal.decreases-loop-run
decreases-loop-run l = length l.left
