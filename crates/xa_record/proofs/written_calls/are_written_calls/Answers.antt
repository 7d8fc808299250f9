use Rattle.std.proofs.{Common.{[], ◌∷◌, ◌++◌, take, ap, sym, ◌∙◌, subst, arith}, lemmas.List.{take_more, take_all}}
use Rattle.std.{proofs.lemmas.List.Elements.All-push, specs.List.All}
use Rattle.xa_record.specs.Replaying.{IsWrittenCall}
use Rattle.xa_record.proofs.written_calls.are_written_calls.Goals as goal

pub loop-event-preserved : goal.loop-event-preserved
loop-event-preserved c =
    let before = take c.loop-event.event-index c.args.events.now in
    subst (All IsWrittenCall)
    (sym (take_more c.args.events.now c.loop-event.event-index c.event-item.result c.loop-event-test.true
    ∙ ap (λ x. before ++ x ∷ []) (sym c.event-item.is)))
    (All-push IsWrittenCall before c.event-item.result c.loop-event.invariant c.is_written_call.ensures)

pub returns : goal.returns
returns c =
    subst (All IsWrittenCall) (take_all c.loop-event.event-index c.args.events.now
    (omega (arith, c.loop-event-test.false))) c.loop-event.invariant
