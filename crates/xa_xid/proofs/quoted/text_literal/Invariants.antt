use Rattle.xa_xid.proofs.Reading.{ReadTo}
use Rattle.xa_xid.proofs.quoted.text_literal.Given as goal

abbrev pub invariant-loop-i : goal.invariant-loop-i
invariant-loop-i l = ReadTo l.quote l.body l.mode l.kept.bytes l.i
