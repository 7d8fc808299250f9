use Rattle.std.proofs.Common.{ap, sym, ◌∙◌}
use Rattle.xa_server.specs.State.{own_xid}
use Rattle.xa_audit.proofs.Owning.{nobody_owns}
use Rattle.xa_audit.proofs.store.Store.new.Goals as goal

pub returns-clause-owned : goal.returns-clause-owned
returns-clause-owned c =
    λ session. c.new-2.ensures session ∙ sym (ap (λ s. own_xid s session) c.new.ensures ∙ nobody_owns session)
