-- What a contract sees of a pass or a spare at rest.
--     resting_log_of, resting_known_of      of which log the pass is, and what it knows
--     resting_spare_log_of, resting_spare_known_of      of which log the spare is, and what it knows
use Rattle.decision_log.specs.{declared.known.Known.Known, Known.LogIdentity, Seats.pass_view_of}
use Rattle.chain_log.specs.declared.resting.{RestingPass.RestingPass, RestingSpare.RestingSpare}

-- of which log a pass at rest is: the table of its seat, and the log's sizes, as the seat knew them
abbrev pub resting_log_of : RestingPass → LogIdentity
resting_log_of pass =
    record {
      table = pass.perch.table_id;
      sessions = (pass_view_of pass.perch.view).sessions;
      capacity = (pass_view_of pass.perch.view).capacity;
    }

-- what a pass at rest knows of the ring, as its seat knew it when it was put to rest
abbrev pub resting_known_of : RestingPass → Known
resting_known_of pass = (pass_view_of pass.perch.view).known

-- of which log a spare at rest is: the table of its seat, and the log's sizes, as the seat knew them
abbrev pub resting_spare_log_of : RestingSpare → LogIdentity
resting_spare_log_of spare =
    record {
      table = spare.perch.table_id;
      sessions = (pass_view_of spare.perch.view).sessions;
      capacity = (pass_view_of spare.perch.view).capacity;
    }

-- what a spare at rest knows of the ring, as its seat knew it when it was put to rest
abbrev pub resting_spare_known_of : RestingSpare → Known
resting_spare_known_of spare = (pass_view_of spare.perch.view).known
