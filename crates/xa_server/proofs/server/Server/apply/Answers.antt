use Rattle.std.proofs.Common.{ap, sym, ◌∙◌}
use Rattle.xa_server.specs.Step.{is_refused}
use Rattle.xa_server.proofs.server.Server.apply.Goals.{then-not-is_refused+in_ok-accept, else-not-is_refused}
use Rattle.xa_server.proofs.Accepted
use Rattle.xa_server.proofs.server.Server.apply.Goals as goal

pub accept-requires : goal.accept-requires
accept-requires c =
    ap is_refused
    (sym (Accepted.replied c.args.self.now c.args.session c.association-association.result.now c.args.statement.now
    c.in_ok-reply.reply
    c.association-association.ensures.association
    c.in_ok-reply.ensures.reply))
    ∙ sym c.if-not-is_refused.ensures

pub returns-clause-step : goal.returns-clause-step
returns-clause-step c =
    let reply =
    Accepted.replied c.args.self.now c.args.session c.association-association.result.now c.args.statement.now
    c.in_ok-reply.reply
    c.association-association.ensures.association
    c.in_ok-reply.ensures.reply in
    elim c.if-not-is_refused.branch [
      | then-not-is_refused+in_ok-accept w ↦ (reply, w.self-is ∙ w.in_ok-accept.ensures.ok)
      | else-not-is_refused w ↦ (
        reply,
        w.self-is ∙ Accepted.after_refused c.args.self.now c.args.session c.args.statement.now
            (ap is_refused (sym reply) ∙ sym w.if-not-is_refused.ensures),
      )
    ]
