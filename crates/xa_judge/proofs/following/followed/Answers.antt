use Rattle.std.proofs.Common.{◌≡◌, ◌↔◌, ◌<◌, ◌∷◌, ◌+◌, ◌∙◌, Some, None, drop, length, ap, sym, subst, arith}
use Rattle.std.proofs.lemmas.List.{drop_more, drop_all}
use Rattle.xa_judge.{specs.{Explained.LeadsThrough, Found.config_of, Following.LeadsOn}, proofs.Places.get_within}
use Rattle.xa_judge.proofs.Steps.{none_leads}
use Rattle.xa_judge.proofs.following.followed.Goals as goal

pub loop-by-preserved : goal.loop-by-preserved
loop-by-preserved c =
    let events = c.args.events.now in
    let moves = c.args.moves.now in
    let here = c.loop-by.here in
    let place = c.loop-by.by-index in
    let by = c.by-item.result in
    let later = drop (place + 1) moves in
    let within : place < length moves = omega (arith, c.loop-by-test.true) in
    let parts : drop place moves ≡ by ∷ later = drop_more moves place by within
    ∙ ap (λ m. m ∷ later) (sym c.by-item.is) in
    λ end.
    let step : LeadsOn events (Some here) (by ∷ later) end ↔ LeadsOn events (Some c.in-Some.next) later end =
    subst (λ f. LeadsOn events (Some here) (by ∷ later) end ↔ LeadsOn events f later end) c.in-Some.is
    (c.in_ok-after.ensures later end) in (
      λ runs.
          (c.loop-by.invariant end).0
          (subst (λ m. LeadsThrough (config_of here.one) (drop here.seen events) m end) (sym parts) (step.1 runs)),
      λ whole.
          step.0 (subst (λ m. LeadsThrough (config_of here.one) (drop here.seen events) m end) parts
          ((c.loop-by.invariant end).1 whole)),
    )

pub returns-then-here-events-clause-missing : goal.returns-then-here-events-clause-missing
returns-then-here-events-clause-missing c =
    let events = c.args.events.now in
    let moves = c.args.moves.now in
    let here = c.loop-by.here in
    let left = get_within events here.seen (omega (arith, c.if-here-events.true)) in
    λ none end runs.
    none_leads (config_of here.one) events here.seen left.0 end left.1
    (subst (λ m. LeadsThrough (config_of here.one) (drop here.seen events) m end)
    (drop_all c.loop-by.by-index moves (omega (arith, c.loop-by-test.false))) ((c.loop-by.invariant end).1 runs))

pub returns-in-None-clause-missing : goal.returns-in-None-clause-missing
returns-in-None-clause-missing c =
    let events = c.args.events.now in
    let moves = c.args.moves.now in
    let here = c.loop-by.here in
    let place = c.loop-by.by-index in
    let by = c.by-item.result in
    let later = drop (place + 1) moves in
    let within : place < length moves = omega (arith, c.loop-by-test.true) in
    let parts : drop place moves ≡ by ∷ later = drop_more moves place by within
    ∙ ap (λ m. m ∷ later) (sym c.by-item.is) in
    λ none end runs.
    let step : LeadsOn events (Some here) (by ∷ later) end ↔ LeadsOn events None later end =
    subst (λ f. LeadsOn events (Some here) (by ∷ later) end ↔ LeadsOn events f later end) c.in-None.is
    (c.in_ok-after.ensures later end) in
    step.0 (subst (λ m. LeadsThrough (config_of here.one) (drop here.seen events) m end) parts
    ((c.loop-by.invariant end).1 runs))
