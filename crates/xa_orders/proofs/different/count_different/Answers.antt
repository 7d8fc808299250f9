use Rattle.std.proofs.Common.{sym, subst, arith}
use Rattle.xa_orders.proofs.Differing.{Chosen, chosen_same, chosen_new, chosen_differ}
use Rattle.xa_orders.proofs.different.count_different.Goals.{then-branch, else-branch}
use Rattle.xa_orders.proofs.different.count_different.Goals as goal

pub loop-way-preserved : goal.loop-way-preserved
loop-way-preserved c =
    let known = c.args.known.now in
    let keys = c.args.keys.now in
    let old = c.loop-way.marks in
    let new = c.insert.new.self in
    let before = c.loop-way.invariant in
    let updates = c.in_ok-insert.ensures.updates in
    elim c.if-branch.branch [
      | then-branch w ↦
          record {
            most = omega (arith, w.count-is, before.most);
            chosen =
                subst (Chosen known keys new) (sym w.count-is)
                (chosen_new known keys old new c.loop-way.count c.loop-way.way-index c.in_ok-number.number
                c.way-item.result c.in_ok-insert.field-0 c.loop-way-test.true
                c.way-item.is c.in_ok-number.ensures c.in_ok-insert.ensures.added w.if-branch.true updates
                before.chosen);
          }
      | else-branch w ↦
          record {
            most = omega (arith, w.count-is, before.most);
            chosen = subst (Chosen known keys new) (sym w.count-is)
                (chosen_same known keys old new c.loop-way.count c.in_ok-number.number updates before.chosen);
          }
    ]

pub returns-clause-different : goal.returns-clause-different
returns-clause-different c = chosen_differ c.args.known.now c.args.keys.now c.loop-way.marks c.loop-way.count
    c.loop-way.invariant.chosen
