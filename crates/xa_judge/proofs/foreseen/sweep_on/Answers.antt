use Rattle.std.proofs.{Common.{◌≡◌, ◌+◌, ◌∷◌, drop, ap, sym, ◌∙◌, subst, arith}, lemmas.List.at_drop_more}
use Rattle.std.specs.Prelude.{IfSome}
use Rattle.xa_judge.{specs.{Found.Has, Foreseen.{hints_of, GoesOn, IsAdvanceFor}}, proofs.Places.stands_at}
use Rattle.xa_judge.proofs.ForeseenAdvances.{goes_shortened}
use Rattle.xa_judge.proofs.foreseen.sweep_on.Goals as goal

pub loop-place-init : goal.loop-place-init
loop-place-init c = λ end goes. goes

pub fits-requires : goal.fits-requires
fits-requires c = stands_at c.args.events.now c.loop-place.place c.index-events-place.result
    (omega (arith, c.loop-place-test.true)) c.index-events-place.is

pub loop-place-preserved : goal.loop-place-preserved
loop-place-preserved c = λ end goes.
    let events = c.args.events.now in
    let places = c.loop-place.places.items in
    let later = c.in_ok-later.later.items in
    let event = c.index-events-place.result in
    let known = c.loop-place.known.items in
    let list = c.in-Some.list.items in
    let new = c.share.new.known.items in
    let place = c.loop-place.place in
    let more = drop (place + 1) events in
    let leads : IsAdvanceFor (hints_of events places) (hints_of events later) event known list =
    subst (λ h. IsAdvanceFor h (hints_of events later) event known list)
    (ap (hints_of events) c.as_slice-before.ensures.value)
    (subst (λ h. IsAdvanceFor (hints_of events c.as_slice-before.result.now) h event known list)
    (ap (hints_of events) c.as_slice-after.ensures.value)
    (subst (λ o. IfSome o (λ l. IsAdvanceFor (hints_of events c.as_slice-before.result.now)
    (hints_of events c.as_slice-after.result.now) event known l.items)) c.in-Some.is c.in_ok-see_one.ensures)) in
    let parts : drop place events ≡ event ∷ more =
    at_drop_more (λ l. l) events place event (omega (arith, c.loop-place-test.true))
    ∙ ap (λ e. e ∷ more) (sym c.index-events-place.is) in
    let seen : GoesOn (hints_of events later) (Has list) more end =
    leads more end (subst (λ l. GoesOn (hints_of events places) (Has known) l end) parts
    (c.loop-place.invariant end goes)) in
    goes_shortened (hints_of events c.note_unheard.new.places.items) c.loop-place.trunk.items c.share.new.trunk.items
    list new more end c.in_ok-share.ensures (c.note_unheard.ensures list more end seen)

pub returns : goal.returns
returns c = λ last end is goes.
    let events = c.args.events.now in
    let at_end : c.loop-place.place ≡ c.args.until = omega (arith, c.loop-place-test.false, c.requires.order) in
    let places : c.loop-place.places ≡ last.places = cc in
    let known : c.loop-place.known ≡ last.known = cc in
    subst (λ p. GoesOn (hints_of events p.items) (Has last.known.items) (drop c.args.until events) end) places
    (subst (λ k. GoesOn (hints_of events c.loop-place.places.items) (Has k.items) (drop c.args.until events) end)
    known (subst (λ n. GoesOn (hints_of events c.loop-place.places.items) (Has c.loop-place.known.items)
    (drop n events) end) at_end (c.loop-place.invariant end goes)))
