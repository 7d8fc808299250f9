use Rattle.std.proofs.Common.{length, ap, ◌∙◌, sym}
use Rattle.decision_log.specs.Seats.{pass_view_of}
use Rattle.chain_log.{specs.{Cells.name_at, RingRule.newest_for}, proofs.{Names.newest_added, RingStores.exchange_step}}
use Rattle.chain_log.proofs.ring.RingLog.exchange.Goals as goal

pub compare_exchange_with-requires-clause-allowed : goal.compare_exchange_with-requires-clause-allowed
compare_exchange_with-requires-clause-allowed c =
    exchange_step c.args.self.now.table.inner.shared.key c.args.self.now.table.inner.shared.table_id.slots
    c.args.seat.now.id c.args.old c.args.own
    (pass_view_of c.args.seat.now.me.0) c.args.entry.now
    c.requires.old c.requires.own c.session-session.ensures.entry c.requires.entry c.requires.turn c.requires.whole
    c.requires.room

pub returns-clause-named : goal.returns-clause-named
returns-clause-named c same =
    let h = pass_view_of c.args.seat.now.me.0 in
    let entry = c.args.entry.now in
    let added = c.compare_exchange_with.ensures.told.3 same in
    c.requires.own
    ∙ ap (name_at h.sessions (length h.known.seen)) (sym c.requires.entry)
    ∙ sym (newest_added h.sessions h.known.seen entry)
    ∙ sym (ap newest_for added)
