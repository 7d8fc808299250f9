use Rattle.std.proofs.Common.{◌-◌, ◌%◌, ◌<◌, length, set, subst, sym, arith}
use Rattle.decision_log.specs.Seats.{pass_view}
use Rattle.chain_log.{specs.Windows.HasWindow, proofs.Tables.{window_top, window_joined}}
use Rattle.chain_log.proofs.Walks.{column_is, name_some, newest_is}
use Rattle.chain_log.proofs.ring.RingLog.fill.Goals as goal

pub returns-then-count-first-clause-bottom : goal.returns-then-count-first-clause-bottom
returns-then-count-first-clause-bottom c some =
    let bottom = c.requires.bottom some in
    omega (arith, c.requires.first)

pub name_column-requires-clause-name : goal.name_column-requires-clause-name
name_column-requires-clause-name c =
    let h = pass_view c.args.seat.now in
    let some : 0 < c.args.count = omega (arith, c.if-count-first.false) in
    name_some c.args.self.now h (c.args.count - 1) c.args.newest c.requires.ours (omega (arith, c.requires.count))
    (newest_is c.args.self.now h c.args.newest c.args.count c.requires.ours c.requires.newest c.requires.count some)

pub walk-reached-requires-clause-newest : goal.walk-reached-requires-clause-newest
walk-reached-requires-clause-newest c =
    newest_is c.args.self.now (pass_view c.args.seat.now) c.args.newest c.args.count c.requires.ours c.requires.newest
    c.requires.count
    (omega (arith, c.if-count-first.false))

pub walk-reached-requires-clause-kept : goal.walk-reached-requires-clause-kept
walk-reached-requires-clause-kept c =
    let h = pass_view c.args.seat.now in
    let log = c.args.self.now in
    let some : 0 < c.args.count = omega (arith, c.if-count-first.false) in
    window_top log.rows c.args.count c.name_column.result h.known.seen c.args.columns.now.items
    (omega (arith, log.low.1)) some c.requires.count
    c.requires.kept.sized
    (column_is log h (c.args.count - 1) c.args.newest c.name_column.result c.requires.ours
    (omega (arith, c.requires.count))
    (newest_is log h c.args.newest c.args.count c.requires.ours c.requires.newest c.requires.count some)
    c.name_column.ensures)

pub returns-then-reached-stop-clause-kept : goal.returns-then-reached-stop-clause-kept
returns-then-reached-stop-clause-kept c =
    let h = pass_view c.args.seat.now in
    let log = c.args.self.now in
    window_joined log.rows c.args.low c.args.first c.walk_stop-stop.result c.args.count c.name_column.result
    h.known.seen c.args.columns.now.items
    c.walk-reached.new.columns.items (omega (arith, log.low.1)) c.requires.count c.walk_stop-stop.ensures.top
    c.walk_stop-stop.ensures.reach c.requires.kept
    (subst (λ n. HasWindow log.rows n (length h.known.seen) h.known.seen c.walk-reached.new.columns.items)
    c.if-reached-stop.true c.walk-reached.ensures.kept)
    c.walk-reached.ensures.beside

pub returns-then-count-first-gt-MOST_FILLED-clause-kept : goal.returns-then-count-first-gt-MOST_FILLED-clause-kept
returns-then-count-first-gt-MOST_FILLED-clause-kept c =
    let h = pass_view c.args.seat.now in
    let log = c.args.self.now in
    let some : 0 < c.args.count = omega (arith, c.if-count-first.false) in
    subst (λ n. HasWindow log.rows (c.args.count - 1) n h.known.seen
    (set c.args.columns.now.items ((c.args.count - 1) % log.rows) c.name_column.result))
    (sym c.requires.count)
    (window_top log.rows c.args.count c.name_column.result h.known.seen c.args.columns.now.items
    (omega (arith, log.low.1)) some c.requires.count
    c.requires.kept.sized
    (column_is log h (c.args.count - 1) c.args.newest c.name_column.result c.requires.ours
    (omega (arith, c.requires.count))
    (newest_is log h c.args.newest c.args.count c.requires.ours c.requires.newest c.requires.count some)
    c.name_column.ensures))
