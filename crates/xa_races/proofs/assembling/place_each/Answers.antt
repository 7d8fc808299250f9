use Rattle.std.proofs.{Common.{◌≡◌, ◌-◌, ◌<◌, Some, length, get_or, sym, subst, ◌∙◌}, lemmas.List.Elements.All-get_or}
use Rattle.std.proofs.lemmas.{Iterator.{Adapters.YieldsList-from_vec, Consumers.YieldsList-turn}, List.length-set}
use Rattle.xa_races.{specs.{Assembled.IsWithin, declared.added.Added.Added}, proofs.Places.only_set}
use Rattle.xa_races.proofs.assembling.place_each.Goals as goal

pub loop-one-preserved-then-place-from-2 : goal.loop-one-preserved-then-place-from-2
loop-one-preserved-then-place-from-2 c =
    let from = c.into_iter-one-iterator.ensures.into_iter_gives in
    let one = c.in-Some.one in
    let yielded = c.loop-one.yielded in
    let turn : (length yielded < length c.args.added.items) × (one ≡ get_or c.args.added.items (length yielded) one) =
    YieldsList-turn (YieldsList-from_vec {s = c.into_iter-one-iterator.result} c.args.added.items from.0
    (from.1 ∙ c.args.added.ok.0)) yielded
    c.loop-one.one-iterator c.loop-one.yielded_by c.next.result c.next.new.self one c.in-Some.is c.next.ensures.steps
    in (
      length-set c.loop-one.places.items (one.place - c.args.from) (Some one.entry) ∙ c.loop-one.invariant.0,
      λ list limit only all.
          let within : IsWithin list limit c.args.from one =
          subst (λ (added : Added). IsWithin list limit c.args.from added) (sym turn.1)
          (All-get_or (IsWithin list limit c.args.from) c.args.added.items (length yielded) one turn.0 all) in
          only_set list limit c.loop-one.places.items (one.place - c.args.from) one.entry
          (c.loop-one.invariant.1 list limit only all)
          (within c.if-place-from.true),
    )
