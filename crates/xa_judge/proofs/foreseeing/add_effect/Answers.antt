use Rattle.std.proofs.Common.{arith}
use Rattle.xa_judge.{specs.Foreseen.hints_of, proofs.{Places.stands_at, ForeseenGrowth.next_added}}
use Rattle.xa_judge.proofs.foreseeing.add_effect.Goals as goal

pub returns-in_ok-add-in-Some-clause-has : goal.returns-in_ok-add-in-Some-clause-has
returns-in_ok-add-in-Some-clause-has c =
    next_added (hints_of c.args.events.now c.args.places.now) c.args.known.now.items c.add.new.known.items c.args.place
    c.index.result.now c.in-Some.next c.in_ok-new-in-Some.new c.in_ok-effected.field-0 c.args.session c.args.act
    (stands_at c.args.known.now.items c.args.place c.index.result.now
    (omega (arith, c.requires, c.args.known.now.ok.0)) c.index.ensures)
    c.in_ok-effected.ensures.config c.in-Some.is c.in_ok-new-in-Some.ensures c.in_ok-add-in-Some.ensures
