use Rattle.std.proofs.Common.{map, ap, ◌∙◌, Vec, Global, Bool}
use Rattle.xa_lines.specs.Printed.{converts}
use Rattle.xa_races.proofs.{Race.mapped_more, RaceRuns.map_push}
use Rattle.xa_races.proofs.asked.asked_of.Goals as goal

pub loop-list-preserved : goal.loop-list-preserved
loop-list-preserved c =
    mapped_more (λ list. map converts list.items) c.args.lists.now c.loop-list.list-index c.list-item.result
    (map (λ list. list.items) c.loop-list.asked.items) (map (λ list. list.items) c.push.new.self.items)
    c.in_ok-one.one.items c.loop-list-test.true c.list-item.is c.loop-list.invariant
    (c.in_ok-one.ensures ∙ ap (map converts) c.as_slice.ensures.value)
    (ap (map (λ (list : Vec Bool Global). list.items)) c.in_ok-push.ensures.items
    ∙ map_push (λ list. list.items) c.loop-list.asked.items c.in_ok-one.one)
