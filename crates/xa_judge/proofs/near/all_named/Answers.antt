use Rattle.std.proofs.Common.{[], ◌∷◌, ◌++◌, take, ap, sym, ◌∙◌, subst, rules, arith}
use Rattle.std.{proofs.lemmas.List.{take_more, take_all, Elements.All-push}, specs.List.All}
use Rattle.xa_judge.specs.Near.{named_in, CallsNamed}
use Rattle.xa_judge.proofs.near.all_named.Goals as goal

pub loop-event-preserved : goal.loop-event-preserved
loop-event-preserved c =
    let before = take c.loop-event.event-index c.args.events.now in
    subst (All (CallsNamed (named_in c.args.keys.now)))
    (sym (take_more c.args.events.now c.loop-event.event-index c.event-item.result c.loop-event-test.true
    ∙ ap (λ x. before ++ x ∷ []) (sym c.event-item.is)))
    (All-push (CallsNamed (named_in c.args.keys.now)) before c.event-item.result c.loop-event.invariant
    (c.calls_named.ensures (search rules)))

pub returns : goal.returns
returns c = λ yes.
    subst (All (CallsNamed (named_in c.args.keys.now))) (take_all c.loop-event.event-index c.args.events.now
    (omega (arith, c.loop-event-test.false)))
    c.loop-event.invariant
