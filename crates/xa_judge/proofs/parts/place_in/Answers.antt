use Rattle.std.proofs.Common.{◌+◌, ◌<◌, length, ap, sym, ◌∙◌, arith, false}
use Rattle.xa_judge.proofs.KeyParts.{same_side, other_side, count_next}
use Rattle.xa_judge.proofs.parts.place_in.Goals.{then-sides-place+else-count-index, else-sides-place}
use Rattle.xa_judge.proofs.parts.place_in.Goals as goal

pub loop-place-preserved : goal.loop-place-preserved
loop-place-preserved c =
    let sides = c.args.sides.now in
    let within : c.loop-place.place < length sides = omega (arith, c.loop-place-test.true) in
    let step = count_next c.args.wanted false c.loop-place.place sides within in
    elim c.if-sides-place.branch [
      | then-sides-place+else-count-index w ↦ (
        w.count-is ∙ ap (λ n. n + 1) c.loop-place.invariant.0 ∙ sym (step.0 (same_side _ _ w.if-sides-place.true)),
        omega (arith, w.count-is, c.loop-place.invariant.1),
      )
      | else-sides-place w ↦ (
        w.count-is ∙ c.loop-place.invariant.0 ∙ sym (step.1 (other_side _ _ w.if-sides-place.false)),
        omega (arith, w.count-is, c.loop-place.invariant.1),
      )
    ]
