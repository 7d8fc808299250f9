use Rattle.xa_xid.proofs.Cuts.{Passed}
use Rattle.xa_statement.specs.Ways.{plain_in}
use Rattle.xa_statement.proofs.first.split_plain.Given as goal

abbrev pub invariant-loop-i : goal.invariant-loop-i
invariant-loop-i l = Passed (plain_in l.quote) l.body l.i
