use Rattle.std.proofs.Common.{◌≡◌, ℕ, ◌+◌, ◌-◌, ◌<◌, ◌≤◌, List, length, ap, ◌∙◌, arith, sym, subst, refl}
use Rattle.xa_words.specs.Entry.{Entry}
use Rattle.decision_log.{specs.{Known.AllOf, declared.view.PassView.PassView, Seats.pass_view}, proofs.Histories.there}
use Rattle.chain_log.specs.{declared.chain.ChainLog.ChainLog, Cells.{name_at, session_at, name_before, newest_of}}
use Rattle.chain_log.{specs.ChainSeat.IsOurs, proofs.Names.name_low}
use Rattle.chain_log.proofs.KeptColumns.{column_here, filling_first, filling_next, filling_last}
use Rattle.chain_log.proofs.chain.ChainLog.fill.Goals as goal

counted : (log : ChainLog) (h : PassView) (newest count : ℕ) → IsOurs log h
    → ((seen : List Entry) → AllOf log.sessions seen → newest ≡ newest_of log.sessions seen → count ≡ length seen)
    → newest ≡ newest_of h.sessions h.known.seen
    → count ≡ length h.known.seen
counted log h newest count ours told is =
    told h.known.seen (subst (λ n. AllOf n h.known.seen) ours.sessions ours.among)
    (is ∙ ap (λ n. newest_of n h.known.seen) ours.sessions)

-- a row that is left to fill has its cell in its entry's column
here : (log : ChainLog) (h : PassView) (first row name : ℕ) → IsOurs log h → first < row → row ≤ length h.known.seen
    → name ≡ name_before h.sessions h.known.seen row
    → (1 ≤ session_at h.known.seen (row - 1)) × (session_at h.known.seen (row - 1) ≤ log.sessions)
    × (name ≡ name_at log.sessions (row - 1) (session_at h.known.seen (row - 1)))
here log h first row name ours some within is =
    subst (λ n. (1 ≤ session_at h.known.seen (row - 1)) × (session_at h.known.seen (row - 1) ≤ n)
    × (name ≡ name_at n (row - 1) (session_at h.known.seen (row - 1)))) ours.sessions
    (column_here h.sessions h.known.seen row name ours.among (omega arith) within is)

-- the name of a row that is left to fill, at a pass that knows the same
named : (at h : PassView) (first row name : ℕ) → at ≡ h → first < row → row ≤ length h.known.seen
    → name ≡ name_before h.sessions h.known.seen row
    → (row - 1 < length at.known.seen) × (name ≡ name_before at.sessions at.known.seen (row - 1 + 1))
named at h first row name same some within is =
    let next : row ≡ row - 1 + 1 = omega arith in
    subst (λ k. (row - 1 < length k.known.seen) × (name ≡ name_before k.sessions k.known.seen (row - 1 + 1))) (sym same)
    (omega arith, is ∙ ap (name_before h.sessions h.known.seen) next)

-- the link is the name of the row below, at a pass that knows the same
linked : (at h : PassView) (link row : ℕ) → at ≡ h → link ≡ name_before at.sessions at.known.seen row
    → link ≡ name_before h.sessions h.known.seen row
linked at h link row same is = is ∙ ap (λ h. name_before h.sessions h.known.seen row) same

pub loop-row-init : goal.loop-row-init
loop-row-init c =
    let h = pass_view c.args.seat.now in
    let count : c.args.count ≡ length h.known.seen =
    counted c.args.self.now h c.args.newest c.args.count c.requires.ours c.requires.counted c.requires.newest in
    record {
      seat = c.requires.seat;
      same = refl;
      count = count;
      name = c.requires.newest ∙ ap (name_before h.sessions h.known.seen) (sym count);
      filling = filling_first h.capacity c.args.first c.args.count h.known.seen c.args.columns.now.items
          (omega (arith, count)) c.requires.kept;
    }

pub cell_column-requires-clause-name : goal.cell_column-requires-clause-name
cell_column-requires-clause-name c =
    let inv = c.loop-row.invariant in
    let h = pass_view c.args.seat.now in
    let low =
    here c.args.self.now h c.args.first c.loop-row.row c.loop-row.name c.requires.ours c.loop-row-test.true
    (omega (arith, inv.count, c.loop-row.auto.row)) inv.name in
    let above = name_low c.args.self.now.sessions (c.loop-row.row - 1)
    (session_at h.known.seen (c.loop-row.row - 1)) low.0 in
    omega (arith, low.2)

pub load_word-name-requires-clause-ours : goal.load_word-name-requires-clause-ours
load_word-name-requires-clause-ours c =
    subst (λ h. IsOurs c.args.self.now h) (sym c.loop-row.invariant.same) c.requires.ours

pub load_word-name-requires-clause-named : goal.load_word-name-requires-clause-named
load_word-name-requires-clause-named c =
    let inv = c.loop-row.invariant in
    let n =
    named (pass_view c.loop-row.seat) (pass_view c.args.seat.now) c.args.first c.loop-row.row c.loop-row.name inv.same
    c.loop-row-test.true
    (omega (arith, inv.count, c.loop-row.auto.row)) inv.name in
    (c.loop-row.row - 1, n.0, n.1)

pub loop-row-preserved : goal.loop-row-preserved
loop-row-preserved c =
    let inv = c.loop-row.invariant in
    let h = pass_view c.args.seat.now in
    let at = pass_view c.loop-row.seat in
    let below : ℕ = c.loop-row.row - 1 in
    let within : c.loop-row.row ≤ length h.known.seen = omega (arith, inv.count, c.loop-row.auto.row) in
    let low = here c.args.self.now h c.args.first c.loop-row.row c.loop-row.name c.requires.ours c.loop-row-test.true
    within inv.name in
    let n = named at h c.args.first c.loop-row.row c.loop-row.name inv.same c.loop-row-test.true within inv.name in
    let e = there at.known.seen below n.0 in
    let told = c.load_word-name.ensures.read below e.0 n.1 e.1 in
    record {
      seat = c.load_word-name.ensures.seat;
      same = c.load_word-name.ensures.same ∙ inv.same;
      count = inv.count;
      name = linked at h c.load_word-name.result below inv.same told.1;
      filling =
          filling_next h.capacity c.args.first c.loop-row.row c.cell_column.result h.known.seen c.loop-row.columns.items
          c.loop-row-test.true within
          (omega (arith, c.requires.ours.within))
          (c.cell_column.ensures below (session_at h.known.seen below) low.0 low.1 low.2) inv.filling;
    }

pub returns-clause-kept : goal.returns-clause-kept
returns-clause-kept c =
    let h = pass_view c.args.seat.now in
    filling_last h.capacity c.args.first c.loop-row.row h.known.seen c.loop-row.columns.items
    (omega (arith, c.loop-row-test.false)) c.loop-row.invariant.filling
