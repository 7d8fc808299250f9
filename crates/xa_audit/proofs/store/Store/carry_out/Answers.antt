use Rattle.std.proofs.Common.{ap, sym, ◌∙◌, subst}
use Rattle.xa_server.{specs.{Locks.LockLaw, Step.is_refused}, proofs.Accepted.after_refused}
use Rattle.xa_audit.{specs.Following.{IsFollowed, owned_at}, proofs.Following.{refused_notes, accepted_notes}}
use Rattle.xa_audit.proofs.Owning.{followed_then}
use Rattle.xa_audit.proofs.store.Store.carry_out.Goals as goal

pub returns-then-is_refused-clause-server : goal.returns-then-is_refused-clause-server
returns-then-is_refused-clause-server c =
    after_refused c.args.self.now.server c.args.session c.args.statement.now
    (ap is_refused (sym c.in_ok-reply.ensures.reply) ∙ sym c.is_refused.ensures ∙ c.if-is_refused.true)

pub returns-then-is_refused-clause-lives : goal.returns-then-is_refused-clause-lives
returns-then-is_refused-clause-lives c =
    refused_notes c.args.self.now.server c.args.session c.args.statement.now c.args.self.now.lives
    (ap is_refused (sym c.in_ok-reply.ensures.reply) ∙ sym c.is_refused.ensures ∙ c.if-is_refused.true)

pub returns-clause-owned : goal.returns-clause-owned
returns-clause-owned c =
    let is = c.in_ok-note.ensures.server ∙ c.in_ok-accept.ensures.ok in
    subst (IsFollowed c.note.new.self.owned) (sym is)
    (followed_then c.args.self.now.server c.args.session c.args.statement.now c.args.self.now.owned
    c.note.new.self.owned c.reply.ensures.lock_law
    (subst LockLaw is c.keeps_lock_law.ensures)
    (ap is_refused (sym c.in_ok-reply.ensures.reply) ∙ sym c.is_refused.ensures
    ∙ c.if-is_refused.false) c.requires c.in_ok-note.ensures.owned)

pub returns-clause-lives : goal.returns-clause-lives
returns-clause-lives c =
    accepted_notes c.args.self.now.server c.args.session c.args.statement.now
    (owned_at c.args.self.now.owned c.args.session) c.args.self.now.lives
    c.note.new.self.lives (ap is_refused (sym c.in_ok-reply.ensures.reply) ∙ sym c.is_refused.ensures
    ∙ c.if-is_refused.false)
    (c.requires c.args.session) c.in_ok-note.ensures.lives
