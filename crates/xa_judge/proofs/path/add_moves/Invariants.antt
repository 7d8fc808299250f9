use Rattle.std.proofs.Common.{◌≡◌, ◌++◌, map, take}
use Rattle.xa_judge.specs.Path.{move_of}
use Rattle.xa_judge.proofs.path.add_moves.Given as goal

-- the moves of the codes before the place were added
abbrev pub invariant-loop-code : goal.invariant-loop-code
invariant-loop-code l = l.moves.items ≡ l.initial.moves.items ++ map move_of (take l.code-index l.codes)
