use Rattle.xa_xid.proofs.Numbers.{Reached}
use Rattle.xa_xid.proofs.number.value_in.Given as goal

abbrev pub invariant-loop-digit : goal.invariant-loop-digit
invariant-loop-digit l = Reached l.base l.digits l.digit-index l.value
