use Rattle.std.proofs.Common.{sym, subst, Result}
use Rattle.xa_server.specs.declared.reply.Reply.{Reply}
use Rattle.xa_session.specs.declared.fault.Fault.{Fault}
use Rattle.xa_manager.{specs.Said.RepliesAs, proofs.Said.replied_as}
use Rattle.xa_manager.proofs.answer.reply_from.Goals as goal

pub returns : goal.returns
returns g c =
    let old = g.T.Speak.view c.args.session.now in
    let new = g.T.Speak.view c.execute.new.self in
    let P : Result Reply Fault → Type 0 = λ answer. RepliesAs c.args.statement.now answer old new in
    record {
      log = c.execute.ensures.stays;
      replies = subst P (sym c.reply_in.ensures)
          (replied_as c.args.statement.now c.execute.result old new c.execute.ensures.answered c.execute.ensures.fails);
    }
