-- How many calls sessions pass on while they are limited, or put into a list, one after another.
use Rattle.std.proofs.Common.{◌≡◌, ◌<◌, ◌+◌, ℕ, zero, suc, List, [], ◌∷◌, ◌++◌, length, Some, sym, ◌∙◌, ap, subst, inl}
use Rattle.std.{proofs.{Common.{inr, arith}, lemmas.{Bool.cases_lt, Option.slice_get-map}}, specs.Prelude.slice_get}
use Rattle.std.specs.Option.{option_map}
use Rattle.xa_coordinator.specs.{declared.fused.Fused.Fused, Stores.ChangesAt}
use Rattle.xa_manager.specs.Limits.{Passes}

-- the loop over stores: one more passes on so many calls, as those below it do, and the others are as they were
pub passes_grown : {S : Type 0} (store calls : ℕ) (old new : List (Fused S))
    → ((other : ℕ) → other < store → Passes other calls old) → Passes store calls new
    → ChangesAt store old new →
    (other : ℕ) → other < store + 1 → Passes other calls new
passes_grown {S} store calls old new so_far there changes = λ other below.
    elim (cases_lt other store) [
      | inl less ↦
          let same : slice_get new other ≡ slice_get old other = changes.others other (λ is. omega (arith, less, is)) in
          slice_get-map (λ (s : Fused S). s.left) new other
          ∙ ap (option_map (λ (s : Fused S). s.left)) same
          ∙ sym (slice_get-map (λ (s : Fused S). s.left) old other)
          ∙ so_far other less
      | inr least ↦
          let here : store ≡ other = omega arith in
          subst (λ s. Passes s calls new) here there
    ]

-- the loop over sessions: one more passes on so many calls
pub passes_more : {S : Type 0} (calls : ℕ) (sessions : List (Fused S)) (session : Fused S)
    → ((store : ℕ) → store < length sessions → Passes store calls sessions) → session.left ≡ calls
    → (store : ℕ) → store < length (sessions ++ session ∷ []) → Passes store calls (sessions ++ session ∷ [])
passes_more calls [] session each is zero below = ap Some is
passes_more calls [] session each is (suc store) below = absurd (omega arith)
passes_more calls (s ∷ ss) session each is zero below = each zero (omega arith)
passes_more calls (s ∷ ss) session each is (suc store) below =
    passes_more calls ss session (λ other less. each (suc other) (omega arith)) is store (omega arith)
