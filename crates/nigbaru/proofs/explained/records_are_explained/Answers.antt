use Rattle.xa_session.{specs.{Replay.state_after, Linear.sights}, proofs.Linearizing.runs_are_linearized}
use Rattle.nigbaru.proofs.ShownRuns.{linearized_explained}
use Rattle.nigbaru.proofs.explained.records_are_explained.Goals as goal

pub returns : goal.returns
returns c base moments old new events state none passes shown =
    linearized_explained (state_after base old.machine.history) (sights moments) events
    (runs_are_linearized base moments old new state none passes) shown
