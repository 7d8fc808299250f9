-- Steps of a chain are nothing or one event of the log machine.
use Rattle.std.proofs.Common.{◌≡◌, ℕ, ◌<◌, List, [], ◌∷◌, ◌++◌, length, set, refl, ap, sym, ◌∙◌, subst, inl, inr}
use Rattle.std.specs.Prelude.{slice_index}
use mathlib.Core.{Option.some, Logic.dite}
use Rattle.xa_words.specs.{Entry.{Entry, IsEntry}, Words.words_of}
use Rattle.decision_log.specs.declared.view.{PassView.PassView, SeatView.{SeatView, TheVariants.{Single, Pair}}}
use Rattle.decision_log.specs.{declared.sizes.Sizes.Sizes, Atomic.{Atomic, Does}, Draft.drafted, Observed.{met, MetAt}}
use Rattle.decision_log.{specs.MachineSteps.{Learns, StepsTo}, proofs.LogRules.known}
use Rattle.decision_log.proofs.{LearnedSteps.{rests_learn, looks_learn, meets_learn}, StepsOfSeats.steps_to}
use Rattle.chain_log.specs.{Cells.{name_at, newest_of}, ChainRule.{ChainRule, Knows, newest_for}, ChainTransitions.won}
use Rattle.chain_log.specs.ChainSteps.{IsChainStep, sees, reads, finds, drafts, exchanges}
use Rattle.chain_log.proofs.ChainStores.{one_log, all_seen, stored_log, won_log}
use native.Mathlib.Decide.{ℕ_discrete}
use lib.ListN.{get_elem?}

-- a pass whose newest cell word 0 names has seen the whole history
seen_all : (sizes : Sizes) (words : List ℕ) (views : List SeatView) (r : ChainRule sizes words views) (h : PassView)
    → Knows sizes words r.log h → slice_index words 0 ≡ newest_for h → h.known.seen ≡ r.log
seen_all sizes words views r h k is = all_seen r h k (sym is)

module _ (sizes : Sizes) (words : List ℕ) (views : List SeatView) (r : ChainRule sizes words views) where
  -- a load that leaves what the pass knows
  rests : (words' : List ℕ) (id : ℕ) (old new : PassView) (after : ChainRule sizes words' (set views id (Single new)))
      → words' ≡ words → new.known ≡ old.known
      → Learns r.log after.log old new
  rests words' id old new after same known_same =
      rests_learn newest_for (one_log sizes) (seen_all sizes) words words' views (set views id (Single new)) old new r
      after same (ap (λ (k : _). k.number) known_same) (ap (λ (k : _). k.seen) known_same)
      (ap (λ (k : _). k.mine) known_same)

  -- a won exchange
  wins : (words' : List ℕ) (id from to found : ℕ) (entry : Entry) (old new : PassView)
      (after : ChainRule sizes words' (set views id (Single new)))
      → get_elem? views id ≡ some (Single old)
      → words' ≡ set words 0 (name_at old.sessions (length old.known.seen) old.known.number)
      → slice_index words 0 ≡ newest_for old → new ≡ won old entry → IsEntry entry
      → entry.session ≡ old.known.number → old.draft ≡ newest_for old ∷ words_of entry
      → length old.known.seen < old.capacity
      → Learns r.log after.log old new
  wins words' id from to found entry old new after here same newest is entry_is own whole room = (
    ap (λ (h : PassView). h.known.number) is,
    inr (inr (record {
      entry = entry;
      own = own;
      whole = all_seen r old (known r id old here).fact_is (sym newest);
      longer = subst (λ ws. (q : ChainRule sizes ws (set views id (Single new))) → q.log ≡ r.log ++ entry ∷ [])
          (sym same)
          (λ q. won_log r (set views id (Single new)) id old entry here newest entry_is own whole room q) after;
      seen = ap (λ (h : PassView). h.known.seen) is;
      mine = ap (λ (h : PassView). h.known.mine) is;
    })),
  )

  -- what a pass learns at each kind of step
  learns : (words' : List ℕ) (id : ℕ) {step : Atomic} {found : ℕ} {old new : PassView}
      → IsChainStep step old found new
      → (after : ChainRule sizes words' (set views id (Single new)))
      → get_elem? views id ≡ some (Single old)
      → Does step words found words'
      → Learns r.log after.log old new
  learns words' id (sees {word = word} {old = old} {new = new} is) after here does =
      looks_learn newest_for (one_log sizes) (seen_all sizes) words words' views id old new r after here does.1
      (sym (does.0 ∙ ap (slice_index words) is.0) ∙ is.3
      ∙ ap (λ (h : PassView). newest_of h.sessions h.known.seen) (sym is.2))
      (ap (λ (h : PassView). h.known.number) is.2) (ap (λ (h : PassView). h.known.mine) is.2)
  learns words' id (reads {old = old} {new = new} is) after here does =
      rests words' id old new after does.1 (ap (λ (h : PassView). h.known) is.1)
  learns words' id (finds {found = found} {old = old} {new = new} is) after here does =
      dite (ℕ_discrete found 0)
      (λ blank. rests words' id old new after does.1 (ap (λ (h : PassView). h.known) (is.1 blank)))
      (λ other. rests words' id old new after does.1 (ap (λ (h : PassView). h.known) (is.2 other)))
  learns words' id (drafts {old = old} index value along below room) after here does = (
    refl,
    inl (record {
      same = subst (λ ws. (q : ChainRule sizes ws (set views id (Single (drafted old index value)))) → q.log ≡ r.log)
          (sym does)
          (λ q. stored_log r (set views id (Single (drafted old index value))) id old index value here along below room
          q) after;
      seen = refl;
      mine = refl;
    }),
  )
  learns words' id
      (exchanges {word = word} {from = from} {to = to} {found = found} {entry = entry} {old = old} {new = new} is
      entry_is own whole room) after here does =
      dite (ℕ_discrete found from)
      (λ yes_won. wins words' id from to found entry old new after here
      (does.1 yes_won ∙ ap (λ w. set words w to) is.0 ∙ ap (set words 0) is.2)
      (sym (does.0 ∙ ap (slice_index words) is.0) ∙ yes_won ∙ is.1) (is.3 yes_won) entry_is own whole room)
      (λ not_won.
      let other = is.4 not_won in
      looks_learn newest_for (one_log sizes) (seen_all sizes) words words' views id old new r after here
      (does.2 not_won)
      (sym (does.0 ∙ ap (slice_index words) is.0) ∙ other.2
      ∙ ap (λ (h : PassView). newest_of h.sessions h.known.seen) (sym other.1))
      (ap (λ (h : PassView). h.known.number) other.1) (ap (λ (h : PassView). h.known.mine) other.1))

  -- each step is nothing or one event
  pub chain_steps : (words' : List ℕ) (id : ℕ) (step : Atomic) (found : ℕ) (old new : PassView)
      (after : ChainRule sizes words' (set views id (Single new)))
      → get_elem? views id ≡ some (Single old) → Does step words found words' → IsChainStep step old found new
      → StepsTo sizes.capacity r.log views after.log (set views id (Single new))
  chain_steps words' id step found old new after here does is =
      steps_to r id old new (Single old) (Single new) after here (inl (refl, refl))
      (learns words' id is after here does)

  -- so is a meeting
  pub chain_meets : (id : ℕ) (first second : PassView) (seen : List Entry)
      (after : ChainRule sizes words (set views id (Pair first (met second seen))))
      → get_elem? views id ≡ some (Pair first second) → MetAt first second seen
      → (length second.known.seen < length first.known.seen → slice_index words 0 ≡ newest_for (met second seen))
      → StepsTo sizes.capacity r.log views after.log (set views id (Pair first (met second seen)))
  chain_meets id first second seen after here is_met newer =
      steps_to r id second (met second seen) (Pair first second) (Pair first (met second seen)) after here
      (inr (first, refl, refl))
      (meets_learn newest_for (one_log sizes) (seen_all sizes) words views id first second seen r after here is_met
      newer)
