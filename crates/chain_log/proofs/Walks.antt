-- Names, columns and cells that a pass of a ring computes on its way back along the links.
-- Here `h` is a pass's view: what a seat of the log knows of that pass.
use Rattle.std.proofs.Common.{◌≡◌, ℕ, ◌+◌, ◌-◌, ◌<◌, ◌≤◌, length, refl, ap, sym, ◌∙◌, arith}
use Rattle.decision_log.specs.declared.view.PassView.{PassView}
use Rattle.chain_log.specs.{Cells.{name_at, session_at, name_before, newest_of}, declared.ring.RingLog.RingLog}
use Rattle.chain_log.{specs.{Places.cell_of, RingSeat.{IsOurs, KeepsPass}}, proofs.Names.name_low}
use Rattle.chain_log.proofs.KeptColumns.{session_ranged, name_by_column}

-- the entry at a place that was seen is of a session from 1 to the number of columns
pub session_fits : (log : RingLog) (h : PassView) (place : ℕ) → IsOurs log h → place < length h.known.seen
    → (1 ≤ session_at h.known.seen place) × (session_at h.known.seen place ≤ log.columns)
session_fits log h place ours below =
    let few = session_ranged h.sessions h.known.seen place ours.among below in
    (few.0, omega (arith, few.1, ours.sessions))

-- `column` is the session of each place and session that have this name
abbrev pub ColumnsBy : ℕ → ℕ → ℕ → Type 0
ColumnsBy sessions name column = (place session : ℕ) → 1 ≤ session → session ≤ sessions
    → name ≡ name_at sessions place session → column ≡ session

-- the column of the name of a place that was seen is its entry's session
pub column_is : (log : RingLog) (h : PassView) (place name column : ℕ) → IsOurs log h → place < length h.known.seen
    → name ≡ name_at log.columns place (session_at h.known.seen place) → ColumnsBy log.columns name column
    → column ≡ session_at h.known.seen place
column_is log h place name column ours below named by =
    let few = session_fits log h place ours below in
    by place (session_at h.known.seen place) few.0 few.1 named

-- a name of a place that was seen isn't 0
pub name_some : (log : RingLog) (h : PassView) (place name : ℕ) → IsOurs log h → place < length h.known.seen
    → name ≡ name_at log.columns place (session_at h.known.seen place) → 1 ≤ name
name_some log h place name ours below named =
    let few = session_fits log h place ours below in
    let low = name_low log.columns place (session_at h.known.seen place) few.0 in
    omega (arith, named)

-- a cell, computed by the log's capacity and the session of a place's entry at the view h, is the place's cell at a
-- later view g of the pass, which keeps what h knew
pub cell_is : (log : RingLog) (h g : PassView) (place start column : ℕ) → IsOurs log h → KeepsPass h g
    → start ≡ cell_of log.capacity place column
    → column ≡ session_at h.known.seen place
    → start ≡ cell_of g.capacity place (session_at g.known.seen place)
cell_is log h g place start column ours keeps at is =
    at ∙ ap (cell_of log.capacity place) (is ∙ ap (λ known. session_at known.seen place) (sym keeps.known))
    ∙ (λ i. cell_of (sym (keeps.capacity ∙ ours.capacity) i) place (session_at g.known.seen place))

-- a name, computed by the log's columns and the session of a place's entry at the view h, is the entry's name at a
-- later view g of the pass, which keeps what h knew
pub name_is : (log : RingLog) (h g : PassView) (place name : ℕ) → IsOurs log h → KeepsPass h g
    → name ≡ name_at log.columns place (session_at h.known.seen place)
    → name ≡ name_at g.sessions place (session_at g.known.seen place)
name_is log h g place name ours keeps named =
    named ∙ (λ i. name_at (sym (keeps.sessions ∙ ours.sessions) i) place (session_at (sym keeps.known i).seen place))

-- the link in a place's cell, at a view g of the pass that keeps what h knew, is the name of the entry at the place
-- below, by the log's columns
pub link_is : (log : RingLog) (h g : PassView) (below link : ℕ) → IsOurs log h → KeepsPass h g
    → link ≡ name_before g.sessions g.known.seen (below + 1)
    → link ≡ name_at log.columns below (session_at h.known.seen below)
link_is log h g below link ours keeps is =
    is ∙ (λ i. name_before ((keeps.sessions ∙ ours.sessions) i) (keeps.known i).seen (below + 1))
    ∙ sym (name_by_column log.columns h.known.seen below (session_at h.known.seen below) refl)

-- the newest name that a pass has seen is that of the entry at the last place that it has seen
pub newest_is : (log : RingLog) (h : PassView) (newest count : ℕ) → IsOurs log h
    → newest ≡ newest_of h.sessions h.known.seen → count ≡ length h.known.seen
    → 0 < count
    → newest ≡ name_at log.columns (count - 1) (session_at h.known.seen (count - 1))
newest_is log h newest count ours is whole some =
    let last : length h.known.seen ≡ count - 1 + 1 = omega arith in
    is ∙ ap (λ s. newest_of s h.known.seen) ours.sessions ∙ ap (name_before log.columns h.known.seen) last
    ∙ sym (name_by_column log.columns h.known.seen (count - 1) (session_at h.known.seen (count - 1)) refl)
