use Rattle.decision_log.specs.Seats.{pass_view}
use Rattle.chain_log.{specs.RingTransitions.with_look, proofs.Passes.{own_count, kept_before}}
use Rattle.chain_log.proofs.ring_tests.looks_slowly.Goals as goal

pub count_from-count-requires-clause-counted : goal.count_from-count-requires-clause-counted
count_from-count-requires-clause-counted c = own_count c.args.log.now c.args.slow.now c.requires.slow

pub fill-slow-requires-clause-kept : goal.fill-slow-requires-clause-kept
fill-slow-requires-clause-kept c =
    let pass = c.args.slow.now in
    let told = c.load_newest-newest.ensures.seen in
    kept_before c.args.log.now pass (pass_view c.load_newest-newest.new.seat)
    (with_look (pass_view pass.seat) told.0) told.1 c.requires.slow told.3.begins
