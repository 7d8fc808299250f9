-- The steps of a pass of a log with a turn, with what it has to know before each.
use Rattle.std.specs.Prelude.{◌≡◌, ◌<◌, ◌≤◌, ◌+◌, ℕ, length}
use mathlib.Core.Option.{Option}
use Rattle.xa_words.specs.{Entry.{Entry, IsEntry}, Words.words_of}
use Rattle.decision_log.specs.declared.view.{PassView.PassView, Turn.TheVariants.Fresh}
use Rattle.decision_log.specs.{Atomic.{Atomic, Load, Store, Exchange}, Draft.drafted, TurnRule.{row_at, turn_word}}
use Rattle.decision_log.specs.TurnTransitions.{Sees, Reads, Takes, published, released}

-- the step, the pass before it, the number that it finds, and the pass after it. A pass that has the turn and has
-- looked since stores the next word of its draft, or one again; the count, once the draft is its entry's words and if
-- there is room; and 0 to the turn's word
pub data IsTurnStep : Atomic → PassView → ℕ → PassView → Type 0 where
  sees : {word found : ℕ} {old new : PassView} → Sees word old found new → IsTurnStep (Load word) old found new
  reads : {word found : ℕ} {old new : PassView} → Reads word old found new → IsTurnStep (Load word) old found new
  takes : {word from to found : ℕ} {said : Option Entry} {old new : PassView} → Takes word from to said old found new
      → IsTurnStep (Exchange word from to said) old found new
  drafts : {found : ℕ} {old : PassView} (index value : ℕ) → old.turn ≡ Fresh → index ≤ length old.draft → index < 21
      → length old.known.seen < old.capacity
      → IsTurnStep (Store (row_at (length old.known.seen) + index) value) old found (drafted old index value)
  publishes : {found : ℕ} {old : PassView} (entry : Entry) → old.turn ≡ Fresh → IsEntry entry
      → entry.session ≡ old.known.number → old.draft ≡ words_of entry → length old.known.seen < old.capacity
      → IsTurnStep (Store 0 (length old.known.seen + 1)) old found (published old entry)
  releases : {found : ℕ} {old : PassView} → IsTurnStep (Store turn_word 0) old found (released old)
