-- Runs of which it is only known that sessions append within their calls.
use Rattle.std.specs.Prelude.{◌≡◌, Some, List, [], ◌∷◌}
use Rattle.xa_server.specs.State.{State}
use Rattle.decision_log.specs.Machine.{Look, Add, Appends}
use Rattle.xa_session.specs.Timed.{Moment, Call, Return, Fail, Log, Open, Stage, Comes}

-- a moment as in a run, except that of an append it is only said that its session has a call
abbrev pub LooselyComes : State → Moment → Stage → Stage → Type 0
LooselyComes base (Call session statement) old new = Comes base (Call session statement) old new
LooselyComes base (Return session answer) old new = Comes base (Return session answer) old new
LooselyComes base (Fail session) old new = Comes base (Fail session) old new
LooselyComes base (Log (Look session)) old new = Comes base (Log (Look session)) old new
LooselyComes base (Log (Add session entry)) old new =
    Appends session entry old.machine new.machine × ((call : Open) × (old.calls session ≡ Some call))
    × (new.looks ≡ old.looks) × (new.calls ≡ old.calls)

-- such moments, one after another
abbrev pub LooselyPasses : State → List Moment → Stage → Stage → Type 0
LooselyPasses base [] old new = new ≡ old
LooselyPasses base (moment ∷ moments) old new =
    (next : Stage) × LooselyComes base moment old next × LooselyPasses base moments next new
