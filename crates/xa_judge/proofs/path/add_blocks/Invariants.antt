use Rattle.std.proofs.Common.{◌≡◌, ◌++◌, [], take}
use Rattle.xa_judge.specs.Path.{moves_of}
use Rattle.xa_judge.proofs.path.add_blocks.Given as goal

-- the moves of the blocks before the place were added
abbrev pub invariant-loop-block : goal.invariant-loop-block
invariant-loop-block l = l.moves.items ≡ l.initial.moves.items ++ moves_of (take l.block-index l.blocks) []
