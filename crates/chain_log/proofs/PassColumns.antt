-- The table of a pass of a chain, where a step has seen more or has added an entry.
-- Here `h` is a pass's view: what a seat of the log knows of that pass.
use Rattle.std.proofs.Common.{◌≡◌, ℕ, ◌<◌, ◌≤◌, List, length, set, ap, sym, ◌∙◌, subst, arith}
use mathlib.Core.Logic.{dite}
use Rattle.xa_words.specs.Entry.{Entry}
use Rattle.decision_log.specs.{declared.view.PassView.PassView, History.Begins, Known.{LogIdentity, AllOf}}
use Rattle.decision_log.specs.Seats.{pass_view}
use Rattle.chain_log.specs.{declared.{chain.ChainLog.ChainLog, pass.ChainPass.ChainPass}, Cells.newest_of}
use Rattle.chain_log.specs.{Columns.HasColumns, ChainPass.{identity_of, log_of}, ChainTransitions.won}
use Rattle.chain_log.proofs.{KeptColumns.{columns_longer, columns_more}, Names.{length_by_newest, length_by_zero}}
use native.Mathlib.Decide.{ℕ_discrete}

-- `count` is how many entries each history has whose newest name is `newest`
abbrev pub CountsBy : ℕ → ℕ → ℕ → Type 0
CountsBy sessions newest count = (seen : List Entry) → AllOf sessions seen → newest ≡ newest_of sessions seen
    → count ≡ length seen

-- if a count is right for the name of a pass's last cell, the pass has seen so many entries
pub seen_count : (log : ChainLog) (pass : ChainPass) (count : ℕ) → log_of pass ≡ identity_of log
    → CountsBy log.sessions pass.newest count
    → count ≡ length (pass_view pass.seat).known.seen
seen_count log pass count belongs counts =
    let h = pass_view pass.seat in
    let sessions = ap (λ (identity : LogIdentity). identity.sessions) belongs in
    counts h.known.seen (subst (λ n. AllOf n h.known.seen) sessions pass.state.among)
    (pass.named ∙ ap (λ n. newest_of n h.known.seen) sessions)

-- two histories with the same newest name are equally long
same_count : (sessions newest : ℕ) (xs ys : List Entry) → AllOf sessions xs → newest ≡ newest_of sessions xs
    → AllOf sessions ys
    → newest ≡ newest_of sessions ys → length xs ≡ length ys
same_count sessions newest xs ys x xn y yn =
    dite (ℕ_discrete newest 0)
    (λ none. sym (length_by_zero sessions newest xs x xn none) ∙ length_by_zero sessions newest ys y yn none)
    (λ some. sym (length_by_newest sessions newest xs x xn some) ∙ length_by_newest sessions newest ys y yn some)

-- what a pass keeps as its count is how many entries each history has whose newest cell is the pass's last one
pub own_count : (log : ChainLog) (pass : ChainPass) → log_of pass ≡ identity_of log
    → CountsBy log.sessions pass.newest pass.count
own_count log pass belongs seen all same =
    let h = pass_view pass.seat in
    let sessions = ap (λ (identity : LogIdentity). identity.sessions) belongs in
    pass.state.measured
    ∙ same_count log.sessions pass.newest h.known.seen seen
    (subst (λ n. AllOf n h.known.seen) sessions pass.state.among)
    (pass.named ∙ ap (λ n. newest_of n h.known.seen) sessions) all same

-- after a step that saw more, the table is still right for the rows that were seen before, of which there are `count`
pub kept_before : (log : ChainLog) (pass : ChainPass) (at after : PassView) (count : ℕ) → at ≡ after
    → log_of pass ≡ identity_of log
    → CountsBy log.sessions pass.newest count
    → after.capacity ≡ (pass_view pass.seat).capacity → Begins (pass_view pass.seat).known.seen after.known.seen
    → HasColumns at.capacity count at.known.seen pass.columns.items
kept_before log pass at after count is belongs counts capacity begins =
    let h = pass_view pass.seat in
    let longer = columns_longer h.capacity h.known.seen after.known.seen pass.columns.items begins pass.kept in
    subst (λ k. HasColumns k.capacity count k.known.seen pass.columns.items) (sym is)
    (subst (λ c. HasColumns c count after.known.seen pass.columns.items) (sym capacity)
    (subst (λ n. HasColumns h.capacity n after.known.seen pass.columns.items)
    (sym (seen_count log pass count belongs counts)) longer))

-- after an exchange that won, the table is right if the byte of the added entry's row, `count`, gets its session
pub kept_after : (log : ChainLog) (pass : ChainPass) (at before : PassView) (entry : Entry) (count column : ℕ)
    → at ≡ won before entry
    → log_of pass ≡ identity_of log
    → CountsBy log.sessions pass.newest count
    → before.known.seen ≡ (pass_view pass.seat).known.seen → before.capacity ≡ (pass_view pass.seat).capacity
    → (count ≡ log.capacity → ⊥)
    → column ≡ entry.session
    → HasColumns at.capacity (length at.known.seen) at.known.seen (set pass.columns.items count column)
kept_after log pass at before entry count column is belongs counts seen capacity room own =
    let h = pass_view pass.seat in
    let counted = seen_count log pass count belongs counts in
    let fits = ap (λ (identity : LogIdentity). identity.capacity) belongs in
    let here : HasColumns h.capacity (length h.known.seen) h.known.seen pass.columns.items = pass.kept in
    let there : HasColumns before.capacity (length before.known.seen) before.known.seen pass.columns.items =
    subst (λ c. HasColumns c (length before.known.seen) before.known.seen pass.columns.items) (sym capacity)
    (subst (λ xs. HasColumns h.capacity (length xs) xs pass.columns.items) (sym seen) here) in
    let row : length before.known.seen ≡ count = ap length seen ∙ sym counted in
    let low : length before.known.seen < before.capacity =
    below (length before.known.seen) count before.capacity log.capacity row (capacity ∙ fits) room
    (omega (arith, counted, capacity, pass.state.within, row)) in
    subst (λ k. HasColumns k.capacity (length k.known.seen) k.known.seen (set pass.columns.items count column)) (sym is)
    (subst (λ n. HasColumns (won before entry).capacity (length (won before entry).known.seen)
    (won before entry).known.seen (set pass.columns.items n column))
    row
    (columns_more before.capacity before.known.seen entry pass.columns.items column low own there))
  where
    below : (n count c capacity : ℕ) → n ≡ count → c ≡ capacity → (count ≡ capacity → ⊥) → n ≤ c → n < c
    below n count c capacity a b ne le = dite (ℕ_discrete n c) (λ e. absurd (ne (sym a ∙ e ∙ b))) (λ other. omega arith)
