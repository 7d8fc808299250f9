use Rattle.std.proofs.Common.{subst, sym, eqb}
use mathlib.Core.Option.{none}
use Rattle.atomic_table.specs.Table.{Allows}
use Rattle.decision_log.specs.{Atomic.Tells, Seats.{pass_view_of, seated}, TurnTransitions.Takes}
use Rattle.decision_log.proofs.{TurnSteps.Rules, TurnStores.take_step}
use prog.Atomic.{either}
use Rattle.decision_log.proofs.turn_log.TurnLog.take_turn.Goals as goal

pub compare_exchange-requires-clause-allowed : goal.compare_exchange-requires-clause-allowed
compare_exchange-requires-clause-allowed c =
    let h = pass_view_of c.args.seat.now.me.0 in
    subst (λ k. Allows (Rules c.args.self.now.table.inner.shared.key) c.args.self.now.table.inner.shared.table_id.slots
    c.args.seat.now.id (seated h) 1
    (λ n. either (eqb n 0) k n) (Tells (Takes 1 0 k none h))) (sym c.requires.number)
    (take_step c.args.self.now.table.inner.shared.key c.args.self.now.table.inner.shared.table_id.slots
    c.args.seat.now.id h)
