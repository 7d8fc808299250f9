use Rattle.std.proofs.Common.{refl}
use Rattle.decision_log.specs.Seats.{pass_view}
use Rattle.chain_log.{specs.ChainTransitions.with_look, proofs.PassColumns.{own_count, kept_before}}
use Rattle.chain_log.proofs.calls.ChainLogDecisionLog.look.Goals as goal

pub fill-requires-clause-kept : goal.fill-requires-clause-kept
fill-requires-clause-kept c =
    let pass = c.args.pass.now in
    let told = c.load_newest-newest.ensures.seen in
    kept_before c.args.self.now pass (pass_view c.load_newest-newest.new.seat)
    (with_look (pass_view pass.seat) told.0) pass.count told.1 c.requires
    (own_count c.args.self.now pass c.requires) refl told.3.begins

pub count_from-count-requires-clause-counted : goal.count_from-count-requires-clause-counted
count_from-count-requires-clause-counted c = own_count c.args.self.now c.args.pass.now c.requires
