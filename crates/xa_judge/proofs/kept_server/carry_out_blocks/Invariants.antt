use Rattle.std.proofs.Common.{◌≡◌, take}
use Rattle.xa_judge.specs.Kept.{state_past}
use Rattle.xa_judge.proofs.kept_server.carry_out_blocks.Given as goal

-- what the blocks before the place have was carried out
abbrev pub invariant-loop-block : goal.invariant-loop-block
invariant-loop-block l = l.server ≡ state_past l.initial.server (take l.block-index l.before)
