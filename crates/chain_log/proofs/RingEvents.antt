-- Steps of a ring are nothing or one event of the log machine.
use Rattle.std.proofs.Common.{◌≡◌, ◌⊎◌, ℕ, List, [], set, refl, ap, sym, ◌∙◌, subst, inl, inr}
use mathlib.Core.Option.{some}
use Rattle.xa_words.specs.Entry.{Entry}
use Rattle.decision_log.specs.declared.{known.Known.Known, view.{PassView.PassView, SeatView.SeatView}}
use Rattle.decision_log.specs.declared.view.{SeatView.TheVariants.{Single, Pair}, Turn.TheVariants.Without}
use Rattle.decision_log.specs.{declared.sizes.Sizes.Sizes, History.{Begins, entries_of}, Observed.met}
use Rattle.decision_log.{specs.MachineSteps.StepsTo, proofs.Histories.begins_itself}
use Rattle.decision_log.proofs.{LogRules.{RuleOf, known, stepped}, SeatLemmas.step_two, StepsOfSeats.steps_to}
use Rattle.chain_log.specs.RingRule.{own_name, HasCells, HasNotes, RingRule, Knows}
use Rattle.chain_log.{specs.RingTransitions.{with_look, won, lost, stored}, proofs.RingStores.{next_keeps, all_seen}}
use Rattle.chain_log.{specs.RingSteps.{IsRingStep, looks, loses, notes, names, stores, wins}, proofs.RingSteps.idle}
use Rattle.chain_log.proofs.RingLaws.{named_log, won_log}
use lib.ListN.{get_elem?}

-- the rule after a step, and that the log machine goes on by nothing or one event
abbrev pub GoesOn : (sizes : Sizes) → List Entry → List SeatView → List ℕ → List SeatView → Type 0
GoesOn sizes log views words' views' =
    (after : RingRule sizes words' views') × StepsTo sizes.capacity log views after.log views'

module _ (sizes : Sizes) (words : List ℕ) (views : List SeatView) (r : RingRule sizes words views) where
  -- a step after which the rule holds with the same history, and the pass knows what it knew
  unchanged : (words' : List ℕ) (id : ℕ) (old new : PassView) → get_elem? views id ≡ some (Single old)
      → new.known ≡ old.known
      → (after : RingRule sizes words' (set views id (Single new))) × (after.log ≡ r.log)
      → GoesOn sizes r.log views words' (set views id (Single new))
  unchanged words' id old new here same after = (
    after.0,
    steps_to r id old new (Single old) (Single new) after.0 here (inl (refl, refl)) (
      ap (λ (k : Known). k.number) same,
      inl (record {
        same = after.1;
        seen = ap (λ (k : Known). k.seen) same;
        mine = ap (λ (k : Known). k.mine) same;
      }),
    ),
  )

  -- a step after which the rule holds with the same history, and the pass has seen it
  seen_all : (id : ℕ) (old new : PassView) → get_elem? views id ≡ some (Single old)
      → new.sessions ≡ old.sessions → new.capacity ≡ old.capacity
      → new.known.number ≡ old.known.number → new.known.mine ≡ old.known.mine → new.draft ≡ [] → new.turn ≡ Without
      → new.known.seen ≡ r.log
      → GoesOn sizes r.log views words (set views id (Single new))
  seen_all id old new here sessions capacity number mine draft turn all =
      let after : RuleOf HasCells HasNotes sizes words (set views id (Single new)) r.log =
      stepped r words id old new here r.spelled sessions capacity number mine
      (subst (λ list. Begins list r.log) (sym all) (begins_itself r.log))
      (ap (entries_of old.known.number) all ∙ (known r id old here).fact_is.mine) (idle words r.log new draft turn)
      (λ g apart low other. other.own) in (
        after.0,
        steps_to r id old new (Single old) (Single new) after.0 here (inl (refl, refl)) (
          number,
          inr (inl (record { same = after.1; seen = all; mine = mine })),
        ),
      )

  -- each step
  pub ring_steps : (id : ℕ) (old : PassView) (words' : List ℕ) (new : PassView) → get_elem? views id ≡ some (Single old)
      → IsRingStep r.log words old words' new
      → GoesOn sizes r.log views words' (set views id (Single new))
  ring_steps id old words' new here looks =
      seen_all id old (with_look old r.log) here refl refl refl refl refl refl refl
  ring_steps id old words' new here loses = seen_all id old (lost old r.log) here refl refl refl refl refl refl refl
  ring_steps id old words' new here (notes same sessions capacity has) =
      let k = (known r id old here).fact_is in
      unchanged words id old new here same
      (stepped r words id old new here r.spelled sessions capacity (ap (λ (x : Known). x.number) same)
      (ap (λ (x : Known). x.mine) same)
      (subst (λ (x : Known). Begins x.seen r.log) (sym same) k.seen)
      (subst (λ (x : Known). entries_of old.known.number x.seen ≡ old.known.mine) (sym same) k.part) has
      (λ g apart low other. other.own))
  ring_steps id old words' new here (names is) =
      unchanged words' id old (stored old 0 (own_name old)) here refl
      (subst (λ ws. (after : RingRule sizes ws (set views id (Single (stored old 0 (own_name old)))))
      × (after.log ≡ r.log)) (sym is) (named_log r id old here))
  ring_steps id old words' new here (stores index word is without behind along below) =
      unchanged words' id old (stored old index word) here refl
      (subst (λ ws. (after : RingRule sizes ws (set views id (Single (stored old index word))))
      × (after.log ≡ r.log)) (sym is) (next_keeps r id old index word here without behind along below))
  ring_steps id old words' new here (wins entry newest is own without whole room) =
      let after = won_log r id old entry here newest is own without whole room in (
        after.0,
        steps_to r id old (won old entry) (Single old) (Single (won old entry)) after.0 here (inl (refl, refl)) (
          refl,
          inr (inr (record {
            entry = entry;
            own = own;
            whole = all_seen r old (known r id old here).fact_is (sym newest);
            longer = after.1;
            seen = refl;
            mine = refl;
          })),
        ),
      )

  -- a meeting: the second pass learns nothing if the first had seen no more, and else may see the whole history
  pub ring_meets : (id : ℕ) (first second : PassView) (seen : List Entry)
      → get_elem? views id ≡ some (Pair first second)
      → (seen ≡ second.known.seen) ⊎ (seen ≡ r.log)
      → GoesOn sizes r.log views words (set views id (Pair first (met second seen)))
  ring_meets id first second seen here which =
      let p = r.seats id (Pair first second) here in
      let k = p.1.fact_is in
      let begins : Begins seen r.log = elim which [
        | inl stays ↦ subst (λ list. Begins list r.log) (sym stays) k.seen
        | inr all ↦ subst (λ list. Begins list r.log) (sym all) (begins_itself r.log)
      ] in
      let part : entries_of second.known.number seen ≡ second.known.mine = elim which [
        | inl stays ↦ ap (entries_of second.known.number) stays ∙ k.part
        | inr all ↦ ap (entries_of second.known.number) all ∙ k.mine
      ] in
      let after : RingRule sizes words (set views id (Pair first (met second seen))) = record {
        log = r.log;
        home = r.home;
        next = r.next;
        room = r.room;
        spelled = r.spelled;
        entries = r.entries;
        begun = r.begun;
        within = r.within;
        seats = step_two (Knows sizes words r.log) r.home r.next views id first second first (met second seen) r.seats
            here refl refl p.0.fact_is
            (record {
              sessions = k.sessions;
              capacity = k.capacity;
              seen = begins;
              mine = k.mine;
              part = part;
              own = idle words r.log (met second seen) refl refl;
            });
      } in (
        after,
        steps_to r id second (met second seen) (Pair first second) (Pair first (met second seen)) after here
            (inr (first, refl, refl)) (
              refl,
              elim which [
                | inl stays ↦ inl (record { same = refl; seen = stays; mine = refl })
                | inr all ↦ inr (inl (record { same = refl; seen = all; mine = refl }))
              ],
            ),
      )
