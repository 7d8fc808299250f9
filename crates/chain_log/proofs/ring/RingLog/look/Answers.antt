use Rattle.decision_log.specs.Seats.{pass_view}
use Rattle.chain_log.{specs.RingTransitions.with_look, proofs.Passes.{own_count, kept_before}}
use Rattle.chain_log.proofs.ring.RingLog.look.Goals as goal

pub count_from-count-requires-clause-counted : goal.count_from-count-requires-clause-counted
count_from-count-requires-clause-counted c = own_count c.args.self.now c.args.pass.now c.requires

pub fill-pass-requires-clause-kept : goal.fill-pass-requires-clause-kept
fill-pass-requires-clause-kept c =
    let pass = c.args.pass.now in
    let told = c.load_newest-newest.ensures.seen in
    kept_before c.args.self.now pass (pass_view c.load_newest-newest.new.seat)
    (with_look (pass_view pass.seat) told.0) told.1 c.requires told.3.begins
