use Rattle.std.proofs.Common.{◌≡◌, ℕ, ◌+◌, ◌<◌, List, [], ◌∷◌, ◌++◌, Bool, Some, length, get_or, ap, sym, ◌∙◌, subst}
use Rattle.std.{proofs.Common.arith, specs.{Prelude.{slice_get, slice_set}, Option.unwrap_or}}
use Rattle.xa_judge.{specs.declared.turn.Turn.{Turn, TheVariants.Nobody}, proofs.KeyParts.{CutSoFar, cut_more, cut_all}}
use Rattle.xa_judge.{specs.{Keys.{session_of, turn_after, turn_in, turns_past}, Near.named_in}, proofs.Places.stands_at}
use Rattle.xa_judge.proofs.parts.sides_of.Goals as goal

found : (turns seen : List Turn) (place session : ℕ) (turn : Turn) → seen ≡ turns → place ≡ session
    → place < length seen → turn ≡ get_or seen place turn
    → slice_get turns session ≡ Some turn
found turns seen place session turn is at within read =
    sym (ap (slice_get turns) at) ∙ sym (ap (λ l. slice_get l place) is) ∙ stands_at seen place turn within read

pub loop-event-preserved : goal.loop-event-preserved
loop-event-preserved c =
    let events = c.args.events.now in
    let event = c.event-item.result in
    let turns = c.loop-event.turns.items in
    let named = named_in c.args.keys.now in
    let side = c.in-Some-part_of.side in
    let index = c.loop-event.event-index in
    let sides : List Bool = c.loop-event.sides.items ++ side ∷ [] in
    let place_is : c.get-place.result ≡ session_of event = c.get-place.ensures.value ∙ c.session_of.ensures in
    let at : slice_get turns (session_of event) ≡ Some c.in-Some.turn.now =
    found turns c.deref.result.now c.get-place.result (session_of event) c.in-Some.turn.now c.deref.ensures.value
    place_is c.in-Some.ensures.lookup.3.0 c.in-Some.ensures.lookup.1 in
    let turn : turn_in turns (session_of event) ≡ c.in-Some.turn.now = ap (λ o. unwrap_or o Nobody) at in
    let next : CutSoFar named (turns_past turns side event) sides events (index + 1) =
    cut_more named turns c.loop-event.sides.items events index event c.in-Some.turn.now side c.loop-event.invariant
    c.loop-event-test.true c.event-item.is at c.in-Some-part_of.ensures in
    subst (λ l. CutSoFar named (slice_set turns c.get-place.result c.turn_past.result) l events (index + 1))
    (sym c.in_ok-push.ensures.items)
    (subst (λ p. CutSoFar named (slice_set turns p c.turn_past.result) sides events (index + 1)) (sym place_is)
    (subst (λ t. CutSoFar named (slice_set turns (session_of event) t) sides events (index + 1))
    (ap (λ t. turn_after t event side) turn ∙ sym c.turn_past.ensures) next))

pub returns : goal.returns
returns c = cut_all (named_in c.args.keys.now) c.loop-event.turns.items
    c.loop-event.sides.items c.args.events.now c.loop-event.event-index c.loop-event.invariant
    (omega (arith, c.loop-event-test.false))
