-- A session or a checkpoint that nobody has.
use Rattle.std.specs.Prelude.{◌≡◌}
use Rattle.chain_log.specs.{RingPass.{log_of, known_of}, RingSpare.{spare_log_of, spare_known_of}}
use Rattle.chain_log.specs.Resting.{resting_log_of, resting_known_of, resting_spare_log_of, resting_spare_known_of}
use Rattle.xa_endless.specs.declared.{member.Member.Member, checkpoint.Checkpoint.Checkpoint}
use Rattle.xa_endless.specs.declared.resting.{RestingMember.RestingMember, RestingCheckpoint.RestingCheckpoint}

-- the resting member is of the same log and knows what the member knows; it has the same replica, and has handed out as
-- much
pub record IsAtRest (member : Member) (resting : RestingMember) : Type 0 where
  pub log : resting_log_of resting.pass ≡ log_of member.pass
  pub known : resting_known_of resting.pass ≡ known_of member.pass
  pub replica : resting.replica ≡ member.replica
  pub told : resting.told ≡ member.told

-- the resting checkpoint is of the same log, knows what the checkpoint knows, and has the same replica
pub record IsLeft (checkpoint : Checkpoint) (resting : RestingCheckpoint) : Type 0 where
  pub log : resting_spare_log_of resting.spare ≡ spare_log_of checkpoint.spare
  pub known : resting_spare_known_of resting.spare ≡ spare_known_of checkpoint.spare
  pub replica : resting.replica ≡ checkpoint.replica
