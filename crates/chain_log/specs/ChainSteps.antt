-- The steps of a pass of a chain, with what it has to know before each.
use Rattle.std.specs.Prelude.{◌≡◌, ◌<◌, ◌≤◌, ◌+◌, ℕ, ◌∷◌, length}
use mathlib.Core.Option.{some}
use Rattle.xa_words.specs.{Entry.{Entry, IsEntry}, Words.words_of}
use Rattle.decision_log.specs.{declared.view.PassView.PassView, Atomic.{Atomic, Load, Store, Exchange}, Draft.drafted}
use Rattle.chain_log.specs.{ChainRule.{own_cell, newest_for}, ChainTransitions.{Sees, Reads, Finds, Exchanges}}

-- the step, the pass before it, the number that it finds, and the pass after it. A pass stores the next word of its
-- draft, or one again; it tries once the draft is its entry's cell; and it does both only if there is room
pub data IsChainStep : Atomic → PassView → ℕ → PassView → Type 0 where
  sees : {word found : ℕ} {old new : PassView} → Sees word old found new → IsChainStep (Load word) old found new
  reads : {word found : ℕ} {old new : PassView} → Reads word old found new → IsChainStep (Load word) old found new
  finds : {word found : ℕ} {old new : PassView} → Finds word old found new → IsChainStep (Load word) old found new
  drafts : {found : ℕ} {old : PassView} (index value : ℕ) → index ≤ length old.draft → index < 22
      → length old.known.seen < old.capacity
      → IsChainStep (Store (own_cell old + index) value) old found (drafted old index value)
  exchanges : {word from to found : ℕ} {entry : Entry} {old new : PassView}
      → Exchanges word from to (some entry) old found new → IsEntry entry → entry.session ≡ old.known.number
      → old.draft ≡ newest_for old ∷ words_of entry → length old.known.seen < old.capacity
      → IsChainStep (Exchange word from to (some entry)) old found new
