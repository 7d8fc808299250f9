use Rattle.std.proofs.Common.{sym, subst, arith}
use Rattle.xa_judge.proofs.Spreading.{Chosen, chosen_same, chosen_new}
use Rattle.xa_judge.proofs.fingerprint_index.FingerprintIndex.is_spread.Goals.{then-branch, else-branch}
use Rattle.xa_judge.proofs.fingerprint_index.FingerprintIndex.is_spread.Goals as goal

pub loop-one-preserved : goal.loop-one-preserved
loop-one-preserved c =
    let known = c.args.known.now in
    let keys = c.args.self.now.written.items in
    let old = c.loop-one.marks in
    let new = c.insert.new.self in
    let before = c.loop-one.invariant in
    let number = c.in_ok-fingerprint.fingerprint in
    let updates = c.in_ok-insert.ensures.updates in
    elim c.if-branch.branch [
      | then-branch w ↦
          record {
            most = omega (arith, w.count-is, before.most);
            chosen =
                subst (Chosen known keys new) (sym w.count-is)
                (chosen_new known keys old new c.loop-one.count c.loop-one.one-index number c.one-item.result
                c.in_ok-insert.field-0 c.loop-one-test.true
                c.one-item.is c.in_ok-fingerprint.ensures c.in_ok-insert.ensures.added w.if-branch.true updates
                before.chosen);
          }
      | else-branch w ↦
          record {
            most = omega (arith, w.count-is, before.most);
            chosen = subst (Chosen known keys new) (sym w.count-is)
                (chosen_same known keys old new c.loop-one.count number updates before.chosen);
          }
    ]
