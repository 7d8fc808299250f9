use Rattle.std.proofs.Common.{◌≡◌, List, [], ◌∷◌, ◌++◌, append_assoc, append-nil, ap, sym, ◌∙◌, subst, arith}
use Rattle.std.proofs.lemmas.Grind.{common_steps}
use Rattle.xa_judge.{specs.{declared.event.Event.Event, Near.IsLoadedTo}, proofs.Loaded.{loaded_more, none_left}}
use Rattle.xa_judge.proofs.near.loaded.Goals as goal

pub loop-rest-preserved : goal.loop-rest-preserved
loop-rest-preserved c =
    let seen = c.loop-rest.invariant in
    let call = c.in-Some.call in
    let head : List Event = Event.Call call.session call.request.now ∷ Event.Return call.session call.seen.now ∷ [] in (
      seen.0 ++ head,
      seen.1 ∙ ap (λ l. seen.0 ++ l) c.in-Some.ensures ∙ sym (append_assoc seen.0 head call.later.now),
      subst (IsLoadedTo c.args.base.now (seen.0 ++ head)) (sym c.in_ok-shows.ensures.state)
          (loaded_more c.args.base.now c.loop-rest.full seen.0 call.session call.request.now call.seen.now
          c.in_ok-shows.ensures.session seen.2
          (sym c.in_ok-shows.ensures.shows ∙ c.if-not-shows.false)),
      c.in_ok-shows.ensures.near seen.3,
    )

pub returns : goal.returns
returns c =
    let seen = c.loop-rest.invariant in
    let none : c.loop-rest.rest.now ≡ [] = none_left c.loop-rest.rest.now (grind (arith, common_steps)) in
    let all : seen.0 ≡ c.args.first.now = sym (seen.1 ∙ ap (λ l. seen.0 ++ l) none ∙ append-nil seen.0) in
    (c.loop-rest.full, subst (λ (l : List Event). IsLoadedTo c.args.base.now l c.loop-rest.full) all seen.2, seen.3)
