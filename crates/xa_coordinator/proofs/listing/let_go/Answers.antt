use Rattle.std.proofs.lemmas.Result.{err_from_is_err_and}
use Rattle.xa_xid.specs.declared.statement.Statement.TheVariants.{Disconnect}
use Rattle.xa_coordinator.{specs.declared.fault.Cause.Cause, proofs.{LettingGo.disconnected_as, Telling.is_undone}}
use Rattle.xa_coordinator.proofs.listing.let_go.Goals as goal

pub returns-clause-done : goal.returns-clause-done
returns-clause-done g c = disconnected_as _ _ _ (g.met.S.Speak.lawful c.execute.new.self) c.in_ok-execute.ensures.stays
    c.in_ok-execute.ensures.answered c.in_ok-execute.ensures.takes

pub returns-in_err-execute-clause-undone : goal.returns-in_err-execute-clause-undone
returns-in_err-execute-clause-undone g c =
    let p = err_from_is_err_and c.from_residual.result c.from_residual.ensures.1 in
    rw (p.1, p.2)
    (is_undone Disconnect (Cause.Session c.in_err-execute.field-0.0) _ _ c.in_err-execute.ensures.stays
    (c.in_err-execute.ensures.fails, c.in_err-execute.ensures.lasts, c.in_err-execute.ensures.takes))
