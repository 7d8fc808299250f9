use Rattle.std.proofs.Common.{◌+◌, ◌<◌, length, ap, sym, ◌∙◌, arith, false}
use Rattle.xa_judge.proofs.KeyParts.{same_side, other_side, count_next}
use Rattle.xa_judge.proofs.parts.count_before.Goals.{then-sides-index, else-sides-index}
use Rattle.xa_judge.proofs.parts.count_before.Goals as goal

pub loop-index-preserved : goal.loop-index-preserved
loop-index-preserved c =
    let sides = c.args.sides.now in
    let within : c.loop-index.index < length sides =
    omega (arith, c.loop-index-test.true, c.min-index-end.ensures) in
    let step = count_next c.args.wanted false c.loop-index.index sides within in
    elim c.if-sides-index.branch [
      | then-sides-index w ↦ (
        w.count-is ∙ ap (λ n. n + 1) c.loop-index.invariant.0 ∙ sym (step.0 (same_side _ _ w.if-sides-index.true)),
        omega (arith, w.count-is, c.loop-index.invariant.1),
      )
      | else-sides-index w ↦ (
        w.count-is ∙ c.loop-index.invariant.0 ∙ sym (step.1 (other_side _ _ w.if-sides-index.false)),
        omega (arith, w.count-is, c.loop-index.invariant.1),
      )
    ]
