use Rattle.xa_judge.{specs.Foreseen.hints_of, proofs.ForeseenGrowth.seen_added}
use Rattle.xa_judge.proofs.foreseeing.add_seen.Goals as goal

pub returns-in_ok-add-in-Some-clause-has : goal.returns-in_ok-add-in-Some-clause-has
returns-in_ok-add-in-Some-clause-has c =
    seen_added (hints_of c.args.events.now c.args.places.now) c.args.list.now.items c.add.new.known.items c.args.one
    c.in-Some.next c.in_ok-new-in-Some.new c.in_ok-observed.field-0 c.args.event.now
    c.in_ok-observed.ensures.config c.in-Some.is c.in_ok-new-in-Some.ensures c.in_ok-add-in-Some.ensures
