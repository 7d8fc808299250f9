use Rattle.std.proofs.Common.{◌+◌, ◌<◌, [], ◌∷◌, ◌++◌, Vec, Global, length, drop, ap, sym, ◌∙◌, arith, false}
use Rattle.std.proofs.Common.{append-nil}
use Rattle.xa_judge.specs.{declared.event.Event.Event, Keys.picked}
use Rattle.xa_judge.proofs.KeyParts.{same_side, other_side, picked_next, picked_past, picked_end, one_at_most}
use Rattle.xa_judge.proofs.parts.pick.Goals.{then-sides-place+in_ok-copy_of+in_ok-push, else-sides-place}
use Rattle.xa_judge.proofs.parts.pick.Goals as goal

pub loop-place-preserved : goal.loop-place-preserved
loop-place-preserved c =
    let wanted = c.args.wanted in
    let place = c.loop-place.place in
    let sides = c.args.sides.now in
    let events = c.args.events.now in
    let part = c.loop-place.part.items in
    let in_sides : place < length sides = omega (arith, c.loop-place-test.true, c.min-place-end.ensures) in
    let in_events : place < length events = omega (arith, c.loop-place-test.true, c.min-place-end.ensures) in
    let later = picked wanted (drop (place + 1) sides) (drop (place + 1) events) in
    elim c.if-sides-place.branch [
      | then-sides-place+in_ok-copy_of+in_ok-push w ↦
          let event = w.index-events-place.result in
          let step = picked_next wanted false place sides event events part in_sides in_events w.index-events-place.is
          c.loop-place.invariant in
          ap (λ (p : Vec Event Global). p.items ++ later) w.part-is
          ∙ ap (λ l. l ++ later) (w.in_ok-push.ensures.items ∙ ap (λ e. part ++ e ∷ []) w.in_ok-copy_of.ensures)
          ∙ step.0 (same_side _ _ w.if-sides-place.true)
      | else-sides-place w ↦
          ap (λ (p : Vec Event Global). p.items ++ later) w.part-is
          ∙ picked_past wanted false place sides events part in_sides in_events c.loop-place.invariant
          (other_side _ _ w.if-sides-place.false)
    ]

pub returns : goal.returns
returns c =
    let over = one_at_most (length c.args.sides.now) (length c.args.events.now) c.loop-place.place
    (omega (arith, c.loop-place-test.false, c.min-place-end.ensures)) in
    sym (append-nil c.loop-place.part.items)
    ∙ ap (λ l. c.loop-place.part.items ++ l)
    (sym (picked_end c.args.wanted c.loop-place.place c.args.sides.now c.args.events.now over))
    ∙ c.loop-place.invariant
