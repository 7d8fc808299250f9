use Rattle.std.proofs.Common.{rules, tests}
use Rattle.xa_judge.proofs.apart.are_apart.Goals as goal

pub returns : goal.returns
returns c = λ e. (c.in_ok-spares.ensures (search (rules, tests)), c.in_ok-yes.ensures e)
