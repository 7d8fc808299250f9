use Rattle.std.{proofs.Common.{◌≡◌, Some, subst, sym}, specs.Prelude.slice_get}
use Rattle.xa_judge.{specs.{Found.Has, Foreseen.{hints_of, GoesOn}}, proofs.ForeseenAdvances.noted_goes_on}
use Rattle.xa_judge.proofs.hints.note_unheard.Goals as goal

pub returns-in-Some : goal.returns-in-Some
returns-in-Some c = λ known more end goes.
    let number = c.get-number.result in
    let is = c.in-Some.ensures in
    let there = subst (λ l. slice_get l number ≡ Some is.0) c.as_slice.ensures.value is.1 in
    subst (λ p. GoesOn (hints_of c.args.events.now p) (Has known) more end) (sym c.put_open.ensures)
    (noted_goes_on c.args.events.now c.args.places.now.items number is.0 c.in-Some.entry there is.2 known more end
    goes)
