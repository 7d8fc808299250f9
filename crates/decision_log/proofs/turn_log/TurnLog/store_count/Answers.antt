use Rattle.std.proofs.Common.{sym, ap, ◌∙◌}
use Rattle.decision_log.{specs.{Seats.pass_view_of, TurnTransitions.published}, proofs.TurnStores.publish_step}
use Rattle.xa_words.proofs.Spelling.{one_entry}
use Rattle.decision_log.proofs.turn_log.TurnLog.store_count.Goals as goal

pub store-requires-clause-allowed : goal.store-requires-clause-allowed
store-requires-clause-allowed c =
    publish_step c.args.self.now.table.inner.shared.key c.args.self.now.table.inner.shared.table_id.slots
    c.args.seat.now.id c.args.new
    (pass_view_of c.args.seat.now.me.0) c.args.entry.now
    c.requires.next c.requires.fresh c.session-session.ensures.entry c.requires.own c.requires.whole c.requires.room

pub returns-clause-added : goal.returns-clause-added
returns-clause-added c =
    let told = c.store.ensures.told in
    told.5 ∙ ap (published (pass_view_of c.args.seat.now.me.0))
    (one_entry told.2 c.args.entry.now told.3 c.session-session.ensures.entry (sym told.4 ∙ c.requires.whole))
