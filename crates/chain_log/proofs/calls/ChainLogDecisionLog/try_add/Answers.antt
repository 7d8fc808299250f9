use Rattle.std.proofs.Common.{ap, sym, subst, ◌∙◌}
use Rattle.decision_log.specs.{History.Begins, Seats.pass_view}
use Rattle.chain_log.{specs.ChainTransitions.lost, proofs.PassColumns.{own_count, kept_before, kept_after}}
use Rattle.chain_log.proofs.calls.ChainLogDecisionLog.try_add.Goals as goal

pub fill-requires-clause-kept : goal.fill-requires-clause-kept
fill-requires-clause-kept c =
    let pass = c.args.pass.now in
    let written = c.write_cell.ensures.written in
    let told = c.exchange-found.ensures.lost c.if-found-pass.true in
    kept_before c.args.self.now pass (pass_view c.exchange-found.new.seat)
    (lost (pass_view c.write_cell.new.seat) told.0) pass.count told.1 c.requires.belongs
    (own_count c.args.self.now pass c.requires.belongs)
    (ap (λ h. h.capacity) written) (subst (λ h. Begins h.known.seen told.0) written told.3.begins)

pub invariant_of-pass-2-clause-kept : goal.invariant_of-pass-2-clause-kept
invariant_of-pass-2-clause-kept c =
    let pass = c.args.pass.now in
    let written = c.write_cell.ensures.written in
    kept_after c.args.self.now pass (pass_view c.exchange-found.new.seat)
    (pass_view c.write_cell.new.seat) c.args.entry.now pass.count c.get-2.result
    (c.exchange-found.ensures.won c.if-found-pass.false) c.requires.belongs
    (own_count c.args.self.now pass c.requires.belongs) (ap (λ h. h.known.seen) written)
    (ap (λ h. h.capacity) written) c.if-row-self.false
    (c.get-2.ensures.value ∙ pass.state.numbered ∙ sym c.requires.own)
