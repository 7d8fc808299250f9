use Rattle.std.proofs.{Common.{◌≡◌, ◌<◌, length, get_or, sym, subst, ◌∙◌, Vec, Global}, lemmas.List.Elements.All-get_or}
use Rattle.std.{proofs.lemmas.Iterator.{Adapters.YieldsList-from_vec, Consumers.YieldsList-turn}, specs.List.All}
use Rattle.xa_races.specs.{Assembled.IsWithin, declared.added.Added.Added}
use Rattle.xa_races.proofs.assembling.place_all.Goals as goal

pub loop-added-preserved : goal.loop-added-preserved
loop-added-preserved c =
    let from = c.into_iter-added-iterator.ensures.into_iter_gives in
    let list = c.in-Some.added in
    let yielded = c.loop-added.yielded in
    let turn : (length yielded < length c.args.lists.items) × (list ≡ get_or c.args.lists.items (length yielded) list) =
    YieldsList-turn (YieldsList-from_vec {s = c.into_iter-added-iterator.result} c.args.lists.items from.0
    (from.1 ∙ c.args.lists.ok.0)) yielded
    c.loop-added.added-iterator c.loop-added.yielded_by c.next.result c.next.new.self list c.in-Some.is
    c.next.ensures.steps in (
      c.place_each.ensures.count ∙ c.loop-added.invariant.0,
      λ entries limit only all.
          c.place_each.ensures.only entries limit (c.loop-added.invariant.1 entries limit only all)
          (subst (λ (l : Vec Added Global). All (IsWithin entries limit c.args.from) l.items) (sym turn.1)
          (All-get_or (λ (l : Vec Added Global). All (IsWithin entries limit c.args.from) l.items) c.args.lists.items
          (length yielded) list turn.0 all)),
    )
