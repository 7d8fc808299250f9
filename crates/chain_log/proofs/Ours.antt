-- Names that a pass of a chain computes are those of the chain's cells.
-- Here `h` is a pass's view: what a seat of the log knows of that pass.
use Rattle.std.proofs.Common.{◌≡◌, ℕ, ◌+◌, ◌<◌, length, subst, arith}
use Rattle.decision_log.specs.declared.view.PassView.{PassView}
use Rattle.chain_log.specs.{declared.chain.ChainLog.ChainLog, Cells.{name_at, name_before}, ChainSeat.IsOurs}
use Rattle.chain_log.proofs.Names.{IsName, seen_fits, cell_fits}

-- the name of the cell of a row that a pass has seen is one of the log's names
pub seen_name : (log : ChainLog) (h : PassView) (name : ℕ) → IsOurs log h
    → (row : ℕ) × (row < length h.known.seen) × (name ≡ name_before h.sessions h.known.seen (row + 1))
    → IsName log.sessions log.capacity name
seen_name log h name ours n =
    subst (λ sessions. IsName sessions log.capacity name) ours.sessions
    (seen_fits h.sessions log.capacity n.0 name h.known.seen
    (omega (arith, ours.sessions, log.high.0)) log.high.1 ours.among
    (omega (arith, ours.within, ours.capacity)) n.1 n.2)

-- the name of a pass's own cell for the next entry is one of the log's names
pub own_name : (log : ChainLog) (h : PassView) (name : ℕ) → IsOurs log h → length h.known.seen < h.capacity
    → name ≡ name_at h.sessions (length h.known.seen) h.known.number → IsName log.sessions log.capacity name
own_name log h name ours room is =
    subst (λ sessions. IsName sessions log.capacity name) ours.sessions
    (cell_fits h.sessions log.capacity (length h.known.seen) h.known.number name
    (omega (arith, ours.sessions, log.high.0)) log.high.1
    (omega (arith, room, ours.capacity)) ours.first ours.last is)
