-- Steps of a log with a turn are nothing or one event of the log machine.
use Rattle.std.proofs.Common.{◌≡◌, ℕ, ◌<◌, List, [], ◌∷◌, ◌++◌, length, set, refl, ap, sym, ◌∙◌, subst, inl, inr}
use Rattle.std.specs.Prelude.{slice_index}
use mathlib.Core.{Option.some, Logic.dite}
use Rattle.xa_words.specs.Entry.{Entry}
use Rattle.decision_log.specs.declared.view.{PassView.PassView, SeatView.{SeatView, TheVariants.{Single, Pair}}}
use Rattle.decision_log.specs.{declared.sizes.Sizes.Sizes, Atomic.{Atomic, Does}, Observed.{met, MetAt}}
use Rattle.decision_log.{specs.{TurnRule.{TurnRule, HasTurn, count_for}, Draft.drafted}, proofs.LogRules.known}
use Rattle.decision_log.specs.{TurnTransitions.{Takes, published}, MachineSteps.{Learns, StepsTo}}
use Rattle.decision_log.specs.TurnSteps.{IsTurnStep, sees, reads, takes, drafts, publishes, releases}
use Rattle.decision_log.proofs.TurnHistory.{turn_log, stored_log, counted_log, one_log, all_seen}
use Rattle.decision_log.proofs.{LearnedSteps.{rests_learn, looks_learn, meets_learn}, StepsOfSeats.steps_to}
use native.Mathlib.Decide.{ℕ_discrete}
use lib.ListN.{get_elem?}

-- what a pass knows after a try for the turn: what it knew
took_known : (word from to found : ℕ) (said : _) (old new : PassView) → Takes word from to said old found new
    → (new.known.number ≡ old.known.number) × (new.known.seen ≡ old.known.seen) × (new.known.mine ≡ old.known.mine)
took_known word from to found said old new is =
    dite (ℕ_discrete found 0)
    (λ none. (
      ap (λ (h : PassView). h.known.number) (is.3 none),
      ap (λ (h : PassView). h.known.seen) (is.3 none),
      ap (λ (h : PassView). h.known.mine) (is.3 none),
    ))
    (λ other. (
      ap (λ (h : PassView). h.known.number) (is.4 other),
      ap (λ (h : PassView). h.known.seen) (is.4 other),
      ap (λ (h : PassView). h.known.mine) (is.4 other),
    ))

module _ (sizes : Sizes) (words : List ℕ) (views : List SeatView) (r : TurnRule sizes words views) where
  -- a store to the turn's word leaves what the pass knows of the history
  turned : (words' : List ℕ) (id turn : ℕ) (old new : PassView)
      (after : TurnRule sizes words' (set views id (Single new)))
      → words' ≡ set words 1 turn
      → new.known.number ≡ old.known.number
      → new.known.seen ≡ old.known.seen → new.known.mine ≡ old.known.mine → Learns r.log after.log old new
  turned words' id turn old new after is number seen mine = (
    number,
    inl (record {
      same = subst (λ ws. (q : TurnRule sizes ws (set views id (Single new))) → q.log ≡ r.log) (sym is)
          (λ q. turn_log sizes words views (set views id (Single new)) r turn q) after;
      seen = seen;
      mine = mine;
    }),
  )

  -- what a pass learns at each kind of step
  learns : (words' : List ℕ) (id : ℕ) {step : Atomic} {found : ℕ} {old new : PassView}
      → IsTurnStep step old found new
      → (after : TurnRule sizes words' (set views id (Single new)))
      → get_elem? views id ≡ some (Single old)
      → Does step words found words'
      → Learns r.log after.log old new
  learns words' id (sees {word = word} {old = old} {new = new} is) after here does =
      looks_learn count_for (one_log sizes) (all_seen sizes) words words' views id old new r after here does.1
      (sym (does.0 ∙ ap (slice_index words) is.0) ∙ is.3 ∙ ap (λ (h : PassView). length h.known.seen) (sym is.2))
      (ap (λ (h : PassView). h.known.number) is.2) (ap (λ (h : PassView). h.known.mine) is.2)
  learns words' id (reads {old = old} {new = new} is) after here does =
      rests_learn count_for (one_log sizes) (all_seen sizes) words words' views (set views id (Single new)) old new r
      after does.1 (ap (λ (h : PassView). h.known.number) is.1) (ap (λ (h : PassView). h.known.seen) is.1)
      (ap (λ (h : PassView). h.known.mine) is.1)
  learns words' id
      (takes {word = word} {from = from} {to = to} {found = found} {said = said} {old = old} {new = new} is) after here
      does =
      let same = took_known word from to found said old new is in
      dite (ℕ_discrete found from)
      (λ won. turned words' id to old new after (does.1 won ∙ ap (λ w. set words w to) is.0) same.0 same.1 same.2)
      (λ lost. rests_learn count_for (one_log sizes) (all_seen sizes) words words' views (set views id (Single new)) old
      new r after (does.2 lost) same.0 same.1 same.2)
  learns words' id (drafts {old = old} index value fresh along below room) after here does = (
    refl,
    inl (record {
      same = subst (λ ws. (q : TurnRule sizes ws (set views id (Single (drafted old index value)))) → q.log ≡ r.log)
          (sym does)
          (λ q. stored_log sizes words views _ r id old index value here fresh along below room q) after;
      seen = refl;
      mine = refl;
    }),
  )
  learns words' id (publishes {old = old} entry fresh is own whole room) after here does = (
    refl,
    inr (inr (record {
      entry = entry;
      own = own;
      whole = (subst (HasTurn words r.log old) fresh (known r id old here).fact_is.own.turn).0;
      longer = subst (λ ws. (q : TurnRule sizes ws (set views id (Single (published old entry))))
          → q.log ≡ r.log ++ entry ∷ []) (sym does)
          (λ q. counted_log sizes words views _ r id old entry here fresh is own whole room q) after;
      seen = refl;
      mine = refl;
    })),
  )
  learns words' id (releases {old = old}) after here does = turned words' id 0 old _ after does refl refl refl

  -- each step is nothing or one event
  pub turn_steps : (words' : List ℕ) (id : ℕ) (step : Atomic) (found : ℕ) (old new : PassView)
      (after : TurnRule sizes words' (set views id (Single new)))
      → get_elem? views id ≡ some (Single old) → Does step words found words' → IsTurnStep step old found new
      → StepsTo sizes.capacity r.log views after.log (set views id (Single new))
  turn_steps words' id step found old new after here does is =
      steps_to r id old new (Single old) (Single new) after here (inl (refl, refl))
      (learns words' id is after here does)

  -- so is a meeting
  pub turn_meets : (id : ℕ) (first second : PassView) (seen : List Entry)
      (after : TurnRule sizes words (set views id (Pair first (met second seen))))
      → get_elem? views id ≡ some (Pair first second) → MetAt first second seen
      → (length second.known.seen < length first.known.seen → slice_index words 0 ≡ count_for (met second seen))
      → StepsTo sizes.capacity r.log views after.log (set views id (Pair first (met second seen)))
  turn_meets id first second seen after here is_met newer =
      steps_to r id second (met second seen) (Pair first second) (Pair first (met second seen)) after here
      (inr (first, refl, refl))
      (meets_learn count_for (one_log sizes) (all_seen sizes) words views id first second seen r after here is_met
      newer)
