use Rattle.xa_coordinator.proofs.Telling.{is_done, refused}
use Rattle.xa_coordinator.proofs.execute.execute_on.Goals as goal

pub returns-in-None-clause-says : goal.returns-in-None-clause-says
returns-in-None-clause-says g c = is_done c.args.statement.now c.in-Ok.answer _ _ c.requires c.in-Ok.ensures.stays
    c.in-Ok.ensures.answered c.in-Ok.ensures.takes c.in-None.ensures

pub returns-in-Ok-clause-says : goal.returns-in-Ok-clause-says
returns-in-Ok-clause-says g c = refused c.args.statement.now c.in-Ok.answer c.in-Some.error _ _ c.in-Ok.ensures.stays
    c.in-Ok.ensures.answered c.in-Ok.ensures.takes c.in-Some.ensures
