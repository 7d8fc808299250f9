use Rattle.std.{proofs.Common.{◌≡◌, length}, specs.BTreeMap.get}
use Rattle.xa_xid.specs.{declared.xid.Xid.Xid, Xid.xid_cmp}
use Rattle.xa_lines.specs.Script.{lines_of}
use Rattle.xa_audit.specs.{Histories.statements_in, Deeds.{deeds_from, deeds_about}, Lives.lives_after}
use Rattle.xa_audit.specs.{Branches.lives_in, Following.IsFollowed}
use Rattle.xa_audit.proofs.store.lives_of.Given as goal

abbrev pub invariant-loop-rest : goal.invariant-loop-rest
invariant-loop-rest l = record {
  owned : IsFollowed l.store.owned l.store.server;
  lives : (xid : Xid) →
      lives_after (get xid_cmp l.store.lives xid) (deeds_about xid
      (deeds_from l.store.server (statements_in (lines_of l.rest)))) ≡ lives_in l.history xid;
}

abbrev pub decreases-loop-rest : goal.decreases-loop-rest
decreases-loop-rest l = length l.rest
