-- What a pass of a ring keeps beside its seat, where a step has seen more or has added an entry.
-- Here `h` is a pass's view: what a seat of the log knows of that pass.
use Rattle.std.proofs.Common.{◌≡◌, ℕ, ◌%◌, List, [], ◌∷◌, ◌++◌, length, set, ap, sym, ◌∙◌, subst, arith}
use mathlib.Core.Logic.{dite}
use Rattle.xa_words.specs.Entry.{Entry}
use Rattle.decision_log.specs.{declared.view.PassView.PassView, History.Begins, Known.{LogIdentity, AllOf}}
use Rattle.decision_log.specs.Seats.{pass_view}
use Rattle.chain_log.specs.{Cells.newest_of, declared.{ring.RingLog.RingLog, ring_pass.RingPass.RingPass}}
use Rattle.chain_log.specs.{Places.rows_of, Windows.HasWindow, RingPass.{identity_of, log_of}, RingTransitions.won}
use Rattle.chain_log.proofs.{Names.{length_by_newest, length_by_zero}, Tables.{window_longer, window_more}}
use native.Mathlib.Decide.{ℕ_discrete}

-- `count` is how many entries each history has whose newest name is `newest`
abbrev pub CountsBy : ℕ → ℕ → ℕ → Type 0
CountsBy sessions newest count = (seen : List Entry) → AllOf sessions seen → newest ≡ newest_of sessions seen
    → count ≡ length seen

-- two histories with the same newest name are equally long
pub same_count : (sessions newest : ℕ) (xs ys : List Entry) → AllOf sessions xs → newest ≡ newest_of sessions xs
    → AllOf sessions ys
    → newest ≡ newest_of sessions ys → length xs ≡ length ys
same_count sessions newest xs ys x xn y yn =
    dite (ℕ_discrete newest 0)
    (λ none. sym (length_by_zero sessions newest xs x xn none) ∙ length_by_zero sessions newest ys y yn none)
    (λ some. sym (length_by_newest sessions newest xs x xn some) ∙ length_by_newest sessions newest ys y yn some)

-- what a pass keeps as its count is how many entries each history has whose newest name is the pass's last one
pub own_count : (log : RingLog) (pass : RingPass) → log_of pass ≡ identity_of log
    → CountsBy log.columns pass.newest pass.count
own_count log pass belongs seen all same =
    let h = pass_view pass.seat in
    let sessions = ap (λ (identity : LogIdentity). identity.sessions) belongs in
    pass.state.measured
    ∙ same_count log.columns pass.newest h.known.seen seen (subst (λ n. AllOf n h.known.seen) sessions pass.state.among)
    (pass.named ∙ ap (λ n. newest_of n h.known.seen) sessions) all same

-- the number of rows by a pass's capacity is the log's
pub rows_are : (log : RingLog) (pass : RingPass) → log_of pass ≡ identity_of log
    → rows_of (pass_view pass.seat).capacity ≡ log.rows
rows_are log pass belongs = ap (λ (identity : LogIdentity). rows_of identity.capacity) belongs ∙ sym log.turns

-- after a step that saw more, the table is still right for the places that were seen before, from `low` to the count
pub kept_before : (log : RingLog) (pass : RingPass) (at after : PassView) → at ≡ after → log_of pass ≡ identity_of log
    → Begins (pass_view pass.seat).known.seen after.known.seen
    → HasWindow log.rows pass.low pass.count at.known.seen pass.columns.items
kept_before log pass at after is belongs begins =
    let h = pass_view pass.seat in
    let longer = window_longer (rows_of h.capacity) pass.low h.known.seen after.known.seen pass.columns.items begins
    pass.kept in
    subst (λ (k : PassView). HasWindow log.rows pass.low pass.count k.known.seen pass.columns.items) (sym is)
    (subst (λ rows. HasWindow rows pass.low pass.count after.known.seen pass.columns.items) (rows_are log pass belongs)
    (subst (λ n. HasWindow (rows_of h.capacity) pass.low n after.known.seen pass.columns.items)
    (sym pass.state.measured) longer))

-- after an exchange that won, the table is right if the byte of the added entry's place gets its session
pub kept_after : (log : RingLog) (pass : RingPass) (at before : PassView) (entry : Entry) (column : ℕ)
    → at ≡ won before entry
    → log_of pass ≡ identity_of log
    → before.known.seen ≡ (pass_view pass.seat).known.seen → before.capacity ≡ (pass_view pass.seat).capacity
    → column ≡ entry.session
    → HasWindow (rows_of at.capacity) pass.low (length at.known.seen) at.known.seen
    (set pass.columns.items (pass.count % log.rows) column)
kept_after log pass at before entry column is belongs seen capacity own =
    let h = pass_view pass.seat in
    let rows = rows_are log pass belongs in
    let few = log.low in
    let after : HasWindow (rows_of h.capacity) pass.low (length (h.known.seen ++ entry ∷ []))
    (h.known.seen ++ entry ∷ [])
    (set pass.columns.items (length h.known.seen % rows_of h.capacity) column) =
    window_more (rows_of h.capacity) pass.low h.known.seen entry pass.columns.items column
    (omega (arith, rows, few.1)) own pass.kept in
    subst (λ k. HasWindow (rows_of k.capacity) pass.low (length k.known.seen) k.known.seen
    (set pass.columns.items (pass.count % log.rows) column)) (sym is)
    (subst (λ c. HasWindow (rows_of c) pass.low (length (before.known.seen ++ entry ∷ []))
    (before.known.seen ++ entry ∷ [])
    (set pass.columns.items (pass.count % log.rows) column)) (sym capacity)
    (subst (λ xs. HasWindow (rows_of h.capacity) pass.low (length (xs ++ entry ∷ [])) (xs ++ entry ∷ [])
    (set pass.columns.items (pass.count % log.rows) column)) (sym seen)
    (subst (λ n. HasWindow (rows_of h.capacity) pass.low (length (h.known.seen ++ entry ∷ []))
    (h.known.seen ++ entry ∷ [])
    (set pass.columns.items (n % log.rows) column)) (sym pass.state.measured)
    (subst (λ r. HasWindow (rows_of h.capacity) pass.low (length (h.known.seen ++ entry ∷ []))
    (h.known.seen ++ entry ∷ [])
    (set pass.columns.items (length h.known.seen % r) column)) rows after))))
