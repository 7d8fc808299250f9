use Rattle.std.proofs.Common.{inr, refl}
use Rattle.xa_lines.proofs.Behind.{list_refused}
use Rattle.xa_lines.proofs.served_answer.serve_read.Goals as goal

pub returns-in-Err-clause-answered : goal.returns-in-Err-clause-answered
returns-in-Err-clause-answered c =
    inr (
      c.refusal.ensures.bytes,
      refl,
      list_refused c.args.server.now c.args.session c.args.statement.now
          c.in-Err.ensures.memory,
    )
