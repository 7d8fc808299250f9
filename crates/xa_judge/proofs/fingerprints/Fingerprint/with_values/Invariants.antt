use Rattle.std.{proofs.Common.{◌≡◌, take}, specs.Prelude.fold}
use Rattle.xa_judge.specs.Marks.{with_key}
use Rattle.xa_judge.proofs.fingerprints.Fingerprint.with_values.Given as goal

-- of the items before the place
abbrev pub invariant-loop-key : goal.invariant-loop-key
invariant-loop-key l = l.fingerprint.number ≡ fold (with_key l.server) l.fn.self.number (take l.key-index l.keys)
