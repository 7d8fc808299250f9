-- Whether moves lead through events.
use Rattle.std.specs.Prelude.{Option, Some, None, List, drop}
use Rattle.xa_server.specs.State.{State}
use Rattle.xa_judge.specs.declared.{event.Event.Event, moves.Move.Move, following.Following.Following}
use Rattle.xa_judge.specs.{Explained.{Config, opening_config, LeadsThrough}, Found.config_of}

-- there is a configuration so far, and the moves lead on from it through the events that are still to be seen; never,
-- if there is none
abbrev pub LeadsOn : List Event → Option Following → List Move → Config → Type 0
LeadsOn events None moves new = ⊥
LeadsOn events (Some here) moves new = LeadsThrough (config_of here.one) (drop here.seen events) moves new

-- the moves lead through the events to some configuration
abbrev pub Leads : State → List Event → List Move → Type 0
Leads base events moves = (new : Config) × LeadsThrough (opening_config base) events moves new
