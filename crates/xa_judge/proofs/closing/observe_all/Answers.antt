use Rattle.std.proofs.Common.{subst}
use Rattle.xa_judge.{specs.Found.IsSeenAdded, proofs.{Loops.{sees_step, sees_reach}, Late.seen_only}}
use Rattle.xa_judge.proofs.closing.observe_all.Goals as goal

pub loop-one-preserved : goal.loop-one-preserved
loop-one-preserved c =
    let first = c.args.known.items in
    let known = c.loop-one.known.items in
    let rest = c.pop.new.self.items in
    let list = c.loop-one.list.items in
    let new = c.add_seen.new.list.items in
    let seen = subst (λ one. IsSeenAdded c.args.event.now one list new) c.in_ok-one.ensures c.in_ok-add_seen.ensures in
    record {
      has = sees_step c.args.event.now first known rest list new c.in-Some.one c.in-Some.ensures.items seen
          c.loop-one.invariant.has;
      reach = sees_reach c.args.event.now first known rest list new c.in-Some.one c.in-Some.ensures.items seen
          c.loop-one.invariant.reach;
      only = seen_only c.args.event.now first known rest list new c.in-Some.one c.in-Some.ensures.items seen
          c.loop-one.invariant.only;
    }
