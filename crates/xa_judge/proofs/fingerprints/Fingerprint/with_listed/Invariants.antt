use Rattle.std.{proofs.Common.{◌≡◌, length, take}, specs.Prelude.fold}
use Rattle.xa_judge.specs.Marks.{with_word, with_xid}
use Rattle.xa_judge.proofs.fingerprints.Fingerprint.with_listed.Given as goal

-- of the items before the place
abbrev pub invariant-loop-xid : goal.invariant-loop-xid
invariant-loop-xid l =
    l.fingerprint.number ≡ fold with_xid (with_word l.fn.self.number (length l.xids)) (take l.xid-index l.xids)
