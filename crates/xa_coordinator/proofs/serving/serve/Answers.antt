use Rattle.std.proofs.Common.{sym, ap, ◌∙◌}
use Rattle.xa_words.specs.Entry.{may_be_entry}
use Rattle.xa_session.proofs.Entering.{entering_accepted, entering_makes_entry}
use Rattle.xa_coordinator.proofs.serving.serve.Goals as goal

pub accept-requires : goal.accept-requires
accept-requires c = entering_accepted c.args.server.now c.args.session c.args.statement.now
    (sym c.in_ok-reply.ensures.enters ∙ c.if-enters.true)

pub entering-entry-requires : goal.entering-entry-requires
entering-entry-requires c =
    ap may_be_entry c.copy.ensures
    ∙ entering_makes_entry c.args.server.now c.args.session c.args.statement.now
    (sym c.in_ok-reply.ensures.enters ∙ c.if-enters.true)
