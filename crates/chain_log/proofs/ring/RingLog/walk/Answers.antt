use Rattle.std.proofs.Common.{◌≡◌, ℕ, ◌+◌, ◌-◌, ◌<◌, ◌≤◌, length, ap, ◌∙◌, subst, arith}
use Rattle.decision_log.specs.Seats.{pass_view}
use Rattle.chain_log.{specs.{Cells.session_at, Windows.HasWindow}, proofs.Tables.{window_lower, beside_set}}
use Rattle.chain_log.proofs.{Walks.{session_fits, column_is, name_some, cell_is, link_is}, Watching.keeps_through}
use Rattle.chain_log.proofs.ring.RingLog.walk.Goals as goal

-- the place at hand, from the one above it
again : (place : ℕ) → 0 < place → place ≡ place - 1 + 1
again place some = omega arith

pub start-start-requires-clause-first : goal.start-start-requires-clause-first
start-start-requires-clause-first c =
    let h = pass_view c.args.seat.now in
    let inv = c.loop-place.invariant in
    let below : c.loop-place.place < length h.known.seen = omega (arith, c.loop-place.auto.place, c.requires.top) in
    let few = session_fits c.args.self.now h c.loop-place.place c.requires.ours below in
    let is = column_is c.args.self.now h c.loop-place.place c.loop-place.name c.name_column.result c.requires.ours below
    inv.name c.name_column.ensures in
    omega (arith, few.0, is, c.from-session.ensures)

pub start-start-requires-clause-last : goal.start-start-requires-clause-last
start-start-requires-clause-last c =
    let h = pass_view c.args.seat.now in
    let inv = c.loop-place.invariant in
    let below : c.loop-place.place < length h.known.seen = omega (arith, c.loop-place.auto.place, c.requires.top) in
    let few = session_fits c.args.self.now h c.loop-place.place c.requires.ours below in
    let is = column_is c.args.self.now h c.loop-place.place c.loop-place.name c.name_column.result c.requires.ours below
    inv.name c.name_column.ensures in
    omega (arith, few.1, is, c.from-session.ensures)

pub read_link-requires-clause-cell : goal.read_link-requires-clause-cell
read_link-requires-clause-cell c =
    let h = pass_view c.args.seat.now in
    let g = pass_view c.loop-place.seat in
    let inv = c.loop-place.invariant in
    let below : c.loop-place.place < length h.known.seen = omega (arith, c.loop-place.auto.place, c.requires.top) in
    let at = again c.loop-place.place (omega (arith, c.loop-place-test.true)) in
    let is = column_is c.args.self.now h c.loop-place.place c.loop-place.name c.name_column.result c.requires.ours below
    inv.name c.name_column.ensures in
    cell_is c.args.self.now h g (c.loop-place.place - 1 + 1) c.start-start.result c.from-session.result c.requires.ours
    inv.keeps c.start-start.ensures.value
    (c.from-session.ensures ∙ is ∙ ap (session_at h.known.seen) at)

pub name_column-requires-in-Some-clause-name : goal.name_column-requires-in-Some-clause-name
name_column-requires-in-Some-clause-name c =
    let h = pass_view c.args.seat.now in
    let inv = c.loop-place.invariant in
    let below : c.loop-place.place - 1 < length h.known.seen = omega (arith, c.loop-place.auto.place, c.requires.top) in
    name_some c.args.self.now h (c.loop-place.place - 1) c.in-Some.link c.requires.ours below
    (link_is c.args.self.now h (pass_view c.loop-place.seat)
    (c.loop-place.place - 1) c.in-Some.link c.requires.ours inv.keeps c.in-Some.ensures.some)

pub loop-place-preserved : goal.loop-place-preserved
loop-place-preserved c =
    let h = pass_view c.args.seat.now in
    let g = pass_view c.loop-place.seat in
    let inv = c.loop-place.invariant in
    let log = c.args.self.now in
    let down : ℕ = c.loop-place.place - 1 in
    let below : down < length h.known.seen = omega (arith, c.loop-place.auto.place, c.requires.top) in
    let at = again c.loop-place.place (omega (arith, c.loop-place-test.true)) in
    let near : length h.known.seen ≤ down + log.rows = omega (arith, c.requires.window, c.loop-place-test.true) in
    let name = link_is log h g down c.in-Some.link c.requires.ours inv.keeps c.in-Some.ensures.some in
    let column = column_is log h down c.in-Some.link c.name_column-in-Some.result c.requires.ours below name
    c.name_column-in-Some.ensures in
    record {
      seat = c.read_link.ensures.seat;
      keeps = keeps_through h g (pass_view c.read_link.new.seat) inv.keeps c.read_link.ensures.keeps;
      name = name;
      kept =
          window_lower log.rows down (length h.known.seen) c.name_column-in-Some.result h.known.seen
          c.loop-place.columns.items (omega (arith, log.low.1))
          (omega arith) near column
          (subst (λ n. HasWindow log.rows n (length h.known.seen) h.known.seen c.loop-place.columns.items) at inv.kept);
      beside =
          λ place less window.
          beside_set log.rows down place c.name_column-in-Some.result c.loop-place.columns.items
          (λ e. omega (arith, c.loop-place-test.true))
          (omega (arith, c.loop-place-test.true, log.low.1)) (omega arith)
          ∙ inv.beside place less window;
    }
