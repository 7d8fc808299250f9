use Rattle.std.proofs.{Common.{false, ◌∙◌}, lemmas.Result.err_from_is_err_and}
use Rattle.xa_xid.specs.declared.statement.Statement.TheVariants.{Recover}
use Rattle.xa_session.proofs.Entering.{recover_reply}
use Rattle.xa_coordinator.{specs.declared.fault.Cause.TheVariants.Session, proofs.LettingGo.{listed_as, listed_still}}
use Rattle.xa_coordinator.proofs.Telling.{is_undone}
use Rattle.xa_coordinator.proofs.listing.list_prepared.Goals as goal

pub unreachable-requires : goal.unreachable-requires
unreachable-requires g c =
    c.in_default.not-Recovered _ (c.in_ok-place.ensures.answered.at.reply_is ∙ recover_reply _ _ false)

pub returns-clause-association : goal.returns-clause-association
returns-clause-association g c =
    listed_still false c.execute.result _ _ (g.met.S.Speak.lawful c.execute.new.self) c.execute.ensures.stays
    (g.met.S.Speak.own_part _)
    (g.met.S.Speak.own_part c.execute.new.self)
    c.execute.ensures.answered c.execute.ensures.fails c.execute.ensures.lasts c.execute.ensures.takes

pub returns-clause-listed : goal.returns-clause-listed
returns-clause-listed g c = listed_as false _ c.in-Recovered.xids _ _ c.in_ok-place.ensures.stays
    c.in_ok-place.ensures.answered c.in_ok-place.ensures.takes c.in-Recovered.is

pub returns-in_err-place-clause-association : goal.returns-in_err-place-clause-association
returns-in_err-place-clause-association g c =
    listed_still false c.execute.result _ _ (g.met.S.Speak.lawful c.execute.new.self) c.execute.ensures.stays
    (g.met.S.Speak.own_part _)
    (g.met.S.Speak.own_part c.execute.new.self)
    c.execute.ensures.answered c.execute.ensures.fails c.execute.ensures.lasts c.execute.ensures.takes

pub returns-in_err-place-clause-undone : goal.returns-in_err-place-clause-undone
returns-in_err-place-clause-undone g c =
    let p = err_from_is_err_and c.from_residual.result c.from_residual.ensures.1 in
    rw (p.1, p.2)
    (is_undone (Recover false) (Session c.in_err-place.field-0.0) _ _ c.in_err-place.ensures.stays
    (c.in_err-place.ensures.fails, c.in_err-place.ensures.lasts, c.in_err-place.ensures.takes))
