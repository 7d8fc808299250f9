use Rattle.std.proofs.{Common.{◌≡◌, ℕ, ◌+◌, ◌%◌, ◌<◌, ◌≤◌, length, get_or, ap, sym, ◌∙◌, arith}, Math.Nat.mod-lt}
use Rattle.std.proofs.lemmas.List.{get_or_read}
use Rattle.decision_log.specs.{Known.LogIdentity, Seats.pass_view}
use Rattle.chain_log.specs.{Cells.session_at, declared.{ring.RingLog.RingLog, ring_pass.RingPass.RingPass}}
use Rattle.chain_log.{specs.{Places.rows_of, RingPass.{identity_of, log_of}}, proofs.KeptColumns.session_ranged}
use Rattle.chain_log.proofs.ring.RingLog.column.Goals as goal

-- what is read in the table is whose entry stands at the place
column : (log : RingLog) (pass : RingPass) (place read : ℕ) → log_of pass ≡ identity_of log → pass.low ≤ place
    → place < length (pass_view pass.seat).known.seen → length (pass_view pass.seat).known.seen ≤ place + log.rows
    → read ≡ get_or pass.columns.items (place % log.rows) read
    → (read ≡ session_at (pass_view pass.seat).known.seen place) × (1 ≤ read) × (read ≤ log.columns)
column log pass place read belongs low below near is =
    let h = pass_view pass.seat in
    let sessions = ap (λ (identity : LogIdentity). identity.sessions) belongs in
    let rows : rows_of h.capacity ≡ log.rows = ap (λ (identity : LogIdentity). rows_of identity.capacity) belongs
    ∙ sym log.turns in
    let fits : place % log.rows < log.rows = mod-lt place (omega (arith, log.low.1)) in
    let value : read ≡ session_at h.known.seen place =
    get_or_read pass.columns.items (place % log.rows) read (omega (arith, pass.kept.sized, rows)) is 0
    ∙ ap (λ n. get_or pass.columns.items (place % n) 0) (sym rows)
    ∙ pass.kept.filled place low below (omega (arith, rows)) in
    let few = session_ranged h.sessions h.known.seen place pass.state.among below in
    (value, omega (arith, few.0), omega (arith, few.1, sessions))

pub returns-clause-first : goal.returns-clause-first
returns-clause-first c =
    let is =
    column c.args.self.now c.args.pass.now c.args.place c.index.result.now c.requires.belongs c.requires.low
    c.requires.seen c.requires.window
    c.index.ensures in
    omega (arith, is.1, c.from.ensures)

pub returns-clause-last : goal.returns-clause-last
returns-clause-last c =
    let is =
    column c.args.self.now c.args.pass.now c.args.place c.index.result.now c.requires.belongs c.requires.low
    c.requires.seen c.requires.window
    c.index.ensures in
    omega (arith, is.2, c.from.ensures)
