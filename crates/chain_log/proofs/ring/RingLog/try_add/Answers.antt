use Rattle.std.proofs.Common.{ap, sym, subst, ◌∙◌}
use Rattle.decision_log.specs.{History.Begins, Seats.pass_view}
use Rattle.chain_log.{specs.RingTransitions.lost, proofs.Passes.{kept_before, kept_after}}
use Rattle.chain_log.proofs.ring.RingLog.try_add.Goals as goal

pub fill-pass-requires-clause-kept : goal.fill-pass-requires-clause-kept
fill-pass-requires-clause-kept c =
    let pass = c.args.pass.now in
    let written = c.write_cell.ensures.written in
    let told = c.exchange-found.ensures.lost c.if-found-pass.true in
    kept_before c.args.self.now pass (pass_view c.exchange-found.new.seat)
    (lost (pass_view c.write_cell.new.seat) told.0) told.1 c.requires.belongs
    (subst (λ h. Begins h.known.seen told.0) written told.3.begins)

pub invariant_of-pass-2-clause-kept : goal.invariant_of-pass-2-clause-kept
invariant_of-pass-2-clause-kept c =
    let pass = c.args.pass.now in
    let written = c.write_cell.ensures.written in
    kept_after c.args.self.now pass (pass_view c.exchange-found.new.seat)
    (pass_view c.write_cell.new.seat) c.args.entry.now c.get-number.result
    (c.exchange-found.ensures.won c.if-found-pass.false) c.requires.belongs (ap (λ h. h.known.seen) written)
    (ap (λ h. h.capacity) written)
    (c.get-number.ensures.value ∙ pass.state.numbered ∙ sym c.requires.own)
