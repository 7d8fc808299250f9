use Rattle.std.proofs.Common.{rules, tests}
use Rattle.xa_judge.proofs.apart.spares.Goals as goal

pub returns : goal.returns
returns c = λ e. record {
  avoids = c.in_ok-spares_branch.ensures.avoids (search (rules, tests));
  beside = c.in_ok-spares_branch.ensures.beside (search (rules, tests));
  row = c.in_ok-yes.ensures.row e;
  unheld = c.in_ok-yes.ensures.unheld e;
  listed = c.keeps_list.ensures (search (rules, tests));
}
