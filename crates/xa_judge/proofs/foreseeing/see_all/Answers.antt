use Rattle.std.proofs.Common.{◌≡◌, Some, subst, rules, tests}
use Rattle.xa_judge.specs.{Explained.{Config, observed}, Found.{config_of, Has}, Foreseen.{hints_of, ReplacesFor}}
use Rattle.xa_judge.proofs.ForeseenGrowth.{sees_more, sees_end}
use Rattle.xa_judge.proofs.foreseeing.see_all.Goals as goal

pub loop-one-preserved : goal.loop-one-preserved
loop-one-preserved c =
    let list = c.add_seen.new.list.items in
    let hints = hints_of c.args.events.now c.args.places.now in
    sees_more hints c.args.event.now c.args.known.items
    c.loop-one.known.items c.pop.new.self.items c.loop-one.list.items list c.in-Some.one
    c.in-Some.ensures.items c.in_ok-add_seen.ensures.grows
    (subst (λ one. (next : Config) → observed (config_of one) c.args.event.now ≡ Some next
    → (other : Config) × Has list other × ReplacesFor hints next other) c.in_ok-one.ensures
    c.in_ok-add_seen.ensures.has) c.loop-one.invariant

pub returns : goal.returns
returns c = sees_end (hints_of c.args.events.now c.args.places.now) c.args.event.now c.args.known.items
    c.loop-one.known.items c.loop-one.list.items (search (rules, tests)) c.loop-one.invariant
