use Rattle.std.proofs.Common.{arith}
use Rattle.xa_xid.proofs.laws.are_bytes.Goals as goal

pub returns : goal.returns
returns c = λ i. omega (arith, c.type_inv.text i)
