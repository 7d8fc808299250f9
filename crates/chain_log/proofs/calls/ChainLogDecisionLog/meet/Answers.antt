use Rattle.std.proofs.Common.{refl}
use Rattle.decision_log.specs.{Seats.pass_view, Observed.met}
use Rattle.chain_log.proofs.{PassColumns.{own_count, kept_before}, ChainSeats.keeps_seats}
use Rattle.chain_log.proofs.calls.ChainLogDecisionLog.meet.Goals as goal

pub meet-newest-requires-clause-rule : goal.meet-newest-requires-clause-rule
meet-newest-requires-clause-rule c = keeps_seats

pub fill-requires-clause-kept : goal.fill-requires-clause-kept
fill-requires-clause-kept c =
    let pass = c.args.second.now in
    let told = c.meet-newest.ensures.met in
    kept_before c.args.self.now pass (pass_view c.meet-newest.new.second)
    (met (pass_view pass.seat) told.0) pass.count told.1 c.requires.second
    (own_count c.args.self.now pass c.requires.second) refl told.3.begins
