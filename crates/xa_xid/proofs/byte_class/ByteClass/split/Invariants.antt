use Rattle.xa_xid.{specs.Bytes.belongs, proofs.Cuts.Passed}
use Rattle.xa_xid.proofs.byte_class.ByteClass.split.Given as goal

abbrev pub invariant-loop-i : goal.invariant-loop-i
invariant-loop-i l = Passed (belongs l.self) l.text l.i
