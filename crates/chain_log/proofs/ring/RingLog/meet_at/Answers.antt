use Rattle.decision_log.specs.{Seats.pass_view, Observed.met}
use Rattle.chain_log.proofs.{Passes.kept_before, RingSeats.keeps_seats}
use Rattle.chain_log.proofs.ring.RingLog.meet_at.Goals as goal

pub meet-newest-requires-clause-rule : goal.meet-newest-requires-clause-rule
meet-newest-requires-clause-rule c = keeps_seats

pub fill-second-requires-clause-kept : goal.fill-second-requires-clause-kept
fill-second-requires-clause-kept c =
    let pass = c.args.second.now in
    let told = c.meet-newest.ensures.met in
    kept_before c.args.self.now pass (pass_view c.meet-newest.new.second)
    (met (pass_view pass.seat) told.0) told.1 c.requires.second told.3.begins
