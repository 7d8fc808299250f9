use Rattle.chain_log.proofs.RingLaws.{look_sees}
use Rattle.chain_log.proofs.ring_laws.each_look_sees_the_history.Goals as goal

pub returns : goal.returns
returns c = look_sees
