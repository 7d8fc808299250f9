-- What a pass learns at a step that leaves the words, whatever the log is.
--     at_seat, at_pair          the seat after the step
--     rests_learn               at a step that leaves what it knows, nothing
--     looks_learn               if word 0 is `newest` of it then, the whole history
--     meets_learn               at a meeting, nothing or the whole history
use Rattle.std.proofs.Common.{◌≡◌, ℕ, ◌<◌, List, [], ◌∷◌, length, set, zero, suc, refl, sym, ◌∙◌, subst, inl, inr}
use Rattle.std.{proofs.lemmas.Bool.cases_lt, specs.Prelude.slice_index}
use mathlib.Core.Option.{some, some-ne-none}
use Rattle.xa_words.specs.Entry.{Entry}
use Rattle.decision_log.specs.declared.view.{PassView.PassView, SeatView.{SeatView, TheVariants.{Single, Pair}}}
use Rattle.decision_log.specs.{declared.sizes.Sizes.Sizes, LogRule.{KnowsLog, LogRule}, Observed.{met, MetAt}}
use Rattle.decision_log.specs.MachineSteps.{Learns}
use lib.ListN.{get_elem?}

-- what was put at a seat stands there
pub put_there : {A : Type 0} (xs : List A) (i : ℕ) (x y : A) → get_elem? xs i ≡ some x
    → get_elem? (set xs i y) i ≡ some y
put_there [] i x y is = absurd (some-ne-none x (sym is))
put_there (z ∷ xs) zero x y is = refl
put_there (z ∷ xs) (suc i) x y is = put_there xs i x y is

module _ {Spells : Sizes → List ℕ → List Entry → Type 0} {KnowsWords : List ℕ → List Entry → PassView → Type 0}
    {sizes : Sizes} (newest : PassView → ℕ)
    (one_log : (words : List ℕ) (views views' : List SeatView) (p : LogRule Spells KnowsWords sizes words views)
    (q : LogRule Spells KnowsWords sizes words views') → p.log ≡ q.log)
    (all_seen : (words : List ℕ) (views : List SeatView) (r : LogRule Spells KnowsWords sizes words views)
    (h : PassView)
    → KnowsLog KnowsWords sizes words r.log h → slice_index words 0 ≡ newest h → h.known.seen ≡ r.log) where
  -- the history stays if the words do
  same_log : (words words' : List ℕ) (views views' : List SeatView) (r : LogRule Spells KnowsWords sizes words views)
      (after : LogRule Spells KnowsWords sizes words' views') → words' ≡ words → after.log ≡ r.log
  same_log words words' views views' r after same =
      subst (λ ws. (q : LogRule Spells KnowsWords sizes ws views') → q.log ≡ r.log) (sym same)
      (λ q. one_log words views' views q r) after

  -- a pass that knows what it knew has learned nothing
  pub rests_learn : (words words' : List ℕ) (views views' : List SeatView) (old new : PassView)
      (r : LogRule Spells KnowsWords sizes words views)
      (after : LogRule Spells KnowsWords sizes words' views') → words' ≡ words
      → new.known.number ≡ old.known.number
      → new.known.seen ≡ old.known.seen → new.known.mine ≡ old.known.mine → Learns r.log after.log old new
  rests_learn words words' views views' old new r after same number seen mine =
      (number, inl (record { same = same_log words words' views views' r after same; seen = seen; mine = mine }))

  -- a pass of which word 0 is `newest` then has seen the whole history
  pub looks_learn : (words words' : List ℕ) (views : List SeatView) (id : ℕ) (old new : PassView)
      (r : LogRule Spells KnowsWords sizes words views)
      (after : LogRule Spells KnowsWords sizes words' (set views id (Single new)))
      → get_elem? views id ≡ some (Single old)
      → words' ≡ words → slice_index words 0 ≡ newest new → new.known.number ≡ old.known.number
      → new.known.mine ≡ old.known.mine → Learns r.log after.log old new
  looks_learn words words' views id old new r after here same is number mine =
      let log = same_log words words' views (set views id (Single new)) r after same in
      let all : new.known.seen ≡ after.log = subst (λ ws. (q : LogRule Spells KnowsWords sizes ws
      (set views id (Single new)))
      → new.known.seen ≡ q.log) (sym same)
      (λ q. all_seen words (set views id (Single new)) q new
      (q.seats id (Single new) (put_there views id (Single old) (Single new) here)).fact_is is) after in
      (number, inr (inl (record { same = log; seen = all ∙ log; mine = mine })))

  -- the second of two that meet learns nothing, or the whole history
  pub meets_learn : (words : List ℕ) (views : List SeatView) (id : ℕ) (first second : PassView) (seen : List Entry)
      (r : LogRule Spells KnowsWords sizes words views)
      (after : LogRule Spells KnowsWords sizes words (set views id (Pair first (met second seen))))
      → get_elem? views id ≡ some (Pair first second)
      → MetAt first second seen
      → (length second.known.seen < length first.known.seen → slice_index words 0 ≡ newest (met second seen))
      → Learns r.log after.log second (met second seen)
  meets_learn words views id first second seen r after here is_met newer =
      let log = one_log words (set views id (Pair first (met second seen))) views after r in
      elim (cases_lt (length second.known.seen) (length first.known.seen)) [
        | inl less ↦
            let at = after.seats id (Pair first (met second seen))
            (put_there views id (Pair first second) (Pair first (met second seen)) here) in
            let all = all_seen words (set views id (Pair first (met second seen))) after (met second seen) at.1.fact_is
            (newer less) in
            (refl, inr (inl (record { same = log; seen = all ∙ log; mine = refl })))
        | inr more ↦ (refl, inl (record { same = log; seen = is_met.stays more; mine = refl }))
      ]
