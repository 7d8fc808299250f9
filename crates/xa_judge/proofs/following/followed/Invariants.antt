use Rattle.std.proofs.Common.{◌↔◌, drop}
use Rattle.xa_judge.specs.{Explained.{Config, opening_config, LeadsThrough}, Found.config_of}
use Rattle.xa_judge.proofs.following.followed.Given as goal

-- the moves that are left lead on from here just where all of them lead through all of the events
abbrev pub invariant-loop-by : goal.invariant-loop-by
invariant-loop-by l =
    (end : Config)
    → LeadsThrough (config_of l.here.one) (drop l.here.seen l.events) (drop l.by-index l.moves) end
    ↔ LeadsThrough (opening_config l.base) l.events l.moves end
