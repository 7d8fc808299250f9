use Rattle.decision_log.{specs.Seats.pass_view_of, proofs.TurnStores.draft_step}
use Rattle.std.proofs.Common.{arith}
use Rattle.decision_log.proofs.turn_log.TurnLog.store_word.Goals as goal

pub store-requires-clause-word : goal.store-requires-clause-word
store-requires-clause-word c =
    omega (arith, c.args.self.now.wide, c.requires.place.1, c.requires.place.3, c.requires.room, c.requires.sized)

pub store-requires-clause-allowed : goal.store-requires-clause-allowed
store-requires-clause-allowed c =
    draft_step c.args.self.now.table.inner.shared.key c.args.self.now.table.inner.shared.table_id.slots
    c.args.seat.now.id c.args.word c.requires.place.0
    c.args.new (pass_view_of c.args.seat.now.me.0)
    c.requires.place.1 c.requires.fresh c.requires.place.2 c.requires.place.3 c.requires.room
