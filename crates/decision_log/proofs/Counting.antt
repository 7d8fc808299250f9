-- What the counts of a pass say of the step by which they rose.
use Rattle.std.{proofs.Common.{◌≡◌, ◌≢◌, ℕ, ap, sym, ◌∙◌, ⊎_elim, List}, specs.Prelude.slice_index}
use mathlib.Core.Option.{Option}
use Rattle.xa_words.specs.Entry.{Entry}
use Rattle.decision_log.specs.{declared.view.PassView.PassView, Atomic.{Atomic, Load, Store, Exchange, Does, Counts}}

module _ (newest : PassView → ℕ) (tried : ℕ) where
  -- a step by which `tries` rises exchanges the word at which passes try
  pub try_is : (step : Atomic) (found : ℕ) (old new : PassView) → Counts newest tried step found old new
      → new.known.tries ≢ old.known.tries
      → (from to : ℕ) × (said : Option Entry) × (step ≡ Exchange tried from to said)
  try_is (Load word) found old new counts rose = ⊎_elim (λ t. absurd t.1) (λ t. absurd (rose t.0)) counts.tries
  try_is (Store word value) found old new counts rose = ⊎_elim (λ t. absurd t.1) (λ t. absurd (rose t.0)) counts.tries
  try_is (Exchange word from to said) found old new counts rose =
      ⊎_elim (λ t. (from, to, said, ap (λ at. Exchange at from to said) t.1)) (λ t. absurd (rose t.0)) counts.tries

  -- at a step by which `looks` rises, word 0 is `newest` of the pass after it, and no word changes
  pub look_is : (step : Atomic) (found : ℕ) (old new : PassView) (words words' : List ℕ) → Does step words found words'
      → Counts newest tried step found old new
      → new.known.looks ≢ old.known.looks
      → (slice_index words 0 ≡ newest new) × (words' ≡ words)
  look_is (Load word) found old new words words' does counts rose =
      ⊎_elim (λ t. (sym (does.0 ∙ ap (slice_index words) t.1) ∙ t.2, does.1)) (λ t. absurd (rose t.0)) counts.looks
  look_is (Store word value) found old new words words' does counts rose =
      ⊎_elim (λ t. absurd t.1) (λ t. absurd (rose t.0)) counts.looks
  look_is (Exchange word from to said) found old new words words' does counts rose =
      ⊎_elim (λ t. absurd t.1) (λ t. absurd (rose t.0)) counts.looks
