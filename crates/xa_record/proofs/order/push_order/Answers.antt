use Rattle.std.proofs.Common.{◌+◌, ◌++◌, map, drop, ap, ◌∙◌, arith}
use Rattle.xa_record.specs.{Kept.{numbered_kept, calls_kept}, VerdictText.order_text}
use Rattle.xa_record.proofs.Effects.{dropped, moved_whole}
use Rattle.xa_record.proofs.order.push_order.Goals as goal

pub loop-step-preserved : goal.loop-step-preserved
loop-step-preserved c =
    let all = map numbered_kept c.args.numbered.now in
    let calls = calls_kept all c.loop-step.calls in
    let left = drop c.loop-step.place all in
    c.loop-step.invariant
    ∙ ap (λ m. c.loop-step.out.items ++ order_text calls left m)
    (dropped c.args.moves.now c.loop-step.step-index c.step-item.result c.loop-step-test.true c.step-item.is)
    ∙ c.in_ok-place.ensures (drop (c.loop-step.step-index + 1) c.args.moves.now)

pub returns : goal.returns
returns c =
    let all = map numbered_kept c.args.numbered.now in
    moved_whole _ c.loop-step.out.items (calls_kept all c.loop-step.calls)
    (drop c.loop-step.place all) c.args.moves.now c.loop-step.step-index
    (omega (arith, c.loop-step-test.false, c.loop-step.auto.step-index-end)) c.loop-step.invariant
