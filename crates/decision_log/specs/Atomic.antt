-- One atomic step of a pass on the words of a log, and how the counts of the pass rise by it.
--     AtLoad, AtStore, AtExchange      a transition whose steps are all of one kind
use Rattle.std.specs.Prelude.{◌≡◌, ◌≢◌, ◌⊎◌, ◌<◌, ◌+◌, ℕ, List, length, set, slice_index}
use mathlib.Core.Option.{Option}
use Rattle.atomic_table.specs.Table.{Me}
use Rattle.xa_words.specs.Entry.{Entry}
use Rattle.decision_log.specs.{declared.view.{PassView.PassView, SeatView.SeatView}, Seats.{seated, seated_two}}
use Rattle.decision_log.specs.Observed.{met, MetAt}

-- the word, then at a store the new value, at an exchange the value that is asked for, the new one, and the entry that
-- is announced
pub data Atomic : Type 0 where
  Load : ℕ → Atomic
  Store : ℕ → ℕ → Atomic
  Exchange : ℕ → ℕ → ℕ → Option Entry → Atomic

-- a transition of which every step is a load
abbrev pub AtLoad : (ℕ → PassView → ℕ → PassView → Type 0) → Atomic → PassView → ℕ → PassView → Type 0
AtLoad tells (Load word) old found new = tells word old found new
AtLoad tells (Store word value) old found new = ⊥
AtLoad tells (Exchange word from to said) old found new = ⊥

-- a transition of which every step is a store
abbrev pub AtStore : (ℕ → ℕ → PassView → ℕ → PassView → Type 0) → Atomic → PassView → ℕ → PassView → Type 0
AtStore tells (Load word) old found new = ⊥
AtStore tells (Store word value) old found new = tells word value old found new
AtStore tells (Exchange word from to said) old found new = ⊥

-- a transition of which every step is an exchange
abbrev pub AtExchange : (ℕ → ℕ → ℕ → Option Entry → PassView → ℕ → PassView → Type 0) → Atomic → PassView → ℕ → PassView
    → Type 0
AtExchange tells (Load word) old found new = ⊥
AtExchange tells (Store word value) old found new = ⊥
AtExchange tells (Exchange word from to said) old found new = tells word from to said old found new

-- a load finds the word, and leaves it; a store sets it, whatever is found; an exchange finds the word, and sets it if
-- that is what was asked for
abbrev pub Does : Atomic → List ℕ → ℕ → List ℕ → Type 0
Does (Load word) old found new = (found ≡ slice_index old word) × (new ≡ old)
Does (Store word value) old found new = new ≡ set old word value
Does (Exchange word from to said) old found new =
    (found ≡ slice_index old word) × (found ≡ from → new ≡ set old word to) × (found ≢ from → new ≡ old)

-- the step is a load of this word
abbrev pub IsLoad : ℕ → Atomic → Type 0
IsLoad at (Load word) = word ≡ at
IsLoad at (Store word value) = ⊥
IsLoad at (Exchange word from to said) = ⊥

-- the step is an exchange of this word
abbrev pub IsTry : ℕ → Atomic → Type 0
IsTry at (Load word) = ⊥
IsTry at (Store word value) = ⊥
IsTry at (Exchange word from to said) = word ≡ at

-- `looks` rises by one at a load of word 0, which finds `newest` of the pass after it; `tries` rises by one at an
-- exchange of the word at which passes try; neither rises at any other step; `since` rises with `looks`, is 0 after a
-- try, and else stays
pub record Counts (newest : PassView → ℕ) (tried : ℕ) (step : Atomic) (found : ℕ) (old new : PassView) : Type 0 where
  pub looks : ((new.known.looks ≡ old.known.looks + 1) × IsLoad 0 step × (found ≡ newest new))
      ⊎ ((new.known.looks ≡ old.known.looks) × (IsLoad 0 step → ⊥))
  pub tries : ((new.known.tries ≡ old.known.tries + 1) × IsTry tried step)
      ⊎ ((new.known.tries ≡ old.known.tries) × (IsTry tried step → ⊥))
  pub since : (IsLoad 0 step → new.known.since ≡ old.known.since + 1) × (IsTry tried step → new.known.since ≡ 0)
      × ((IsLoad 0 step → ⊥) → (IsTry tried step → ⊥) → new.known.since ≡ old.known.since)

-- the seat knows one pass after the step too, and the transition holds for that pass
abbrev pub Tells : (ℕ → PassView → Type 0) → ℕ → Me Entry SeatView → Type 0
Tells then found me = (pass_view : PassView) × (me ≡ seated pass_view) × then found pass_view

-- the first pass is unchanged, and the second has seen what `MetAt` says; if it had seen less than the first, the word
-- found is `newest` of the second after the meeting
abbrev pub Meets : (PassView → ℕ) → PassView → PassView → ℕ → Me Entry SeatView → Type 0
Meets newest first second found me =
    (seen : List Entry) × (me ≡ seated_two first (met second seen))
    × (length second.known.seen < length first.known.seen → found ≡ newest (met second seen))
    × MetAt first second seen
