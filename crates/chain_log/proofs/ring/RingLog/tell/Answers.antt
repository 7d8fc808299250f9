use Rattle.chain_log.proofs.RingSeats.{keeps_seats}
use Rattle.chain_log.proofs.ring.RingLog.tell.Goals as goal

pub meet-newest-requires-clause-rule : goal.meet-newest-requires-clause-rule
meet-newest-requires-clause-rule c = keeps_seats
