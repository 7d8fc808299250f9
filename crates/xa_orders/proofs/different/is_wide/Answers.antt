use Rattle.xa_orders.proofs.different.is_wide.Goals as goal

pub returns-then-limit-different : goal.returns-then-limit-different
returns-then-limit-different c = λ wide.
    record {
      count = c.in_ok-different.different;
      over = c.if-limit-different.true;
      different = c.in_ok-different.ensures.different;
    }
