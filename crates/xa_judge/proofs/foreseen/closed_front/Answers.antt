use Rattle.std.proofs.Common.{◌≡◌, true, [], sym, subst, rules, tests}
use Rattle.xa_judge.{specs.{Found.Has, Foreseen.{hints_of, GoesOn}}, proofs.ForeseenAdvances.answers_end}
use Rattle.xa_judge.proofs.foreseen.closed_front.Goals as goal

pub returns : goal.returns
returns c =
    let events = c.args.events.now in
    let places = c.args.front.places.items in
    let at = c.as_slice-at.result.now in
    let closed = c.close.new.known.items in
    let is : at ≡ places = c.as_slice-at.ensures.value in
    let is_closed : c.in_ok-is_closed.is_closed ≡ true = search (rules, tests) in
    let unknown : c.are_unknown.result ≡ true = search (rules, tests) in
    let blank : c.is_blank.result ≡ true = search (rules, tests) in
    λ end answer goes.
    answers_end (hints_of events at) c.args.front.known.items closed c.args.session
    c.in_ok-is_closed.ensures.grows (c.in_ok-is_closed.ensures.closed is_closed) (c.are_unknown.ensures unknown)
    (c.is_blank.ensures blank) end answer
    (subst (λ p. GoesOn (hints_of events p) (Has c.args.front.known.items) [] end) (sym is) goes)
