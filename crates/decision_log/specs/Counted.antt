-- How the counts of a pass rise by a transition whose steps are all of one kind. The laws of transitions are made of
-- these.
--     leaves_counts   a step that neither looks nor tries, and leaves the counts, does what `Counts` says
--     counts_at_load, counts_at_store, counts_at_exchange      a transition of loads, of stores, of exchanges
use Rattle.std.{specs.Prelude.{◌≡◌, ℕ}, proofs.Common.inr}
use mathlib.Core.Option.{Option}
use Rattle.xa_words.specs.Entry.{Entry}
use Rattle.decision_log.specs.declared.view.PassView.{PassView}
use Rattle.decision_log.specs.Atomic.{Atomic, Load, Store, Exchange, AtLoad, AtStore, AtExchange, IsLoad, IsTry, Counts}

-- each step of the transition raises the counts of its pass as `Counts` says
abbrev pub IsCounted : (PassView → ℕ) → ℕ → (Atomic → PassView → ℕ → PassView → Type 0) → Type 0
IsCounted newest tried then = (step : Atomic) (old : PassView) (found : ℕ) (new : PassView) → then step old found new
    → Counts newest tried step found old new

module _ {newest : PassView → ℕ} {tried : ℕ} where
  -- if a step neither loads word 0 nor exchanges the word at which passes try, and leaves `looks`, `tries` and `since`,
  -- the counts are as `Counts` says
  pub leaves_counts : (step : Atomic) (found : ℕ) (old new : PassView) → new.known.looks ≡ old.known.looks
      → new.known.tries ≡ old.known.tries
      → new.known.since ≡ old.known.since → (IsLoad 0 step → ⊥) → (IsTry tried step → ⊥)
      → Counts newest tried step found old new
  leaves_counts step found old new looks tries since no_look no_try = record {
    looks = inr (looks, no_look);
    tries = inr (tries, no_try);
    since = ((λ look. absurd (no_look look)), (λ try. absurd (no_try try)), (λ a b. since));
  }

  -- a transition whose steps are all loads raises the counts as `Counts` says if each of its loads does
  pub counts_at_load : (tells : ℕ → PassView → ℕ → PassView → Type 0)
      → ((word : ℕ) (old : PassView) (found : ℕ) (new : PassView) → tells word old found new
      → Counts newest tried (Load word) found old new)
      → IsCounted newest tried (AtLoad tells)
  counts_at_load tells each (Load word) old found new is = each word old found new is
  counts_at_load tells each (Store word value) old found new is = absurd is
  counts_at_load tells each (Exchange word from to said) old found new is = absurd is

  -- a transition whose steps are all stores raises the counts as `Counts` says if none of its stores changes them
  pub counts_at_store : (tells : ℕ → ℕ → PassView → ℕ → PassView → Type 0)
      → ((word value : ℕ) (old : PassView) (found : ℕ) (new : PassView) → tells word value old found new
      → (new.known.looks ≡ old.known.looks) × (new.known.tries ≡ old.known.tries) × (new.known.since ≡ old.known.since))
      → IsCounted newest tried (AtStore tells)
  counts_at_store tells each (Load word) old found new is = absurd is
  counts_at_store tells each (Store word value) old found new is =
      let same = each word value old found new is in
      leaves_counts (Store word value) found old new same.0 same.1 same.2 (λ never. never) (λ never. never)
  counts_at_store tells each (Exchange word from to said) old found new is = absurd is

  -- a transition whose steps are all exchanges raises the counts as `Counts` says if each of its exchanges does
  pub counts_at_exchange : (tells : ℕ → ℕ → ℕ → Option Entry → PassView → ℕ → PassView → Type 0)
      → ((word from to : ℕ) (said : Option Entry) (old : PassView) (found : ℕ) (new : PassView)
      → tells word from to said old found new
      → Counts newest tried (Exchange word from to said) found old new)
      → IsCounted newest tried (AtExchange tells)
  counts_at_exchange tells each (Load word) old found new is = absurd is
  counts_at_exchange tells each (Store word value) old found new is = absurd is
  counts_at_exchange tells each (Exchange word from to said) old found new is = each word from to said old found new is
