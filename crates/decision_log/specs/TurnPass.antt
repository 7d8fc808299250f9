-- What a contract sees of a log with a turn, and of its passes.
use Rattle.decision_log.specs.declared.{known.Known.Known, turn_log.{TurnLog.TurnLog, pass.TurnPass.TurnPass}}
use Rattle.decision_log.specs.{Known.LogIdentity, Seats.pass_view_of}

-- what tells a log from others: its table and its sizes
abbrev pub identity_of : TurnLog → LogIdentity
identity_of log = record { table = log.table.inner.shared.table_id; sessions = log.sessions; capacity = log.capacity }

-- of which log the pass is: the table of its seat, and the log's sizes, as the seat knows them
abbrev pub log_of : TurnPass → LogIdentity
log_of pass =
    record {
      table = pass.seat.table_id;
      sessions = (pass_view_of pass.seat.me.0).sessions;
      capacity = (pass_view_of pass.seat.me.0).capacity;
    }

-- what a pass knows of the log, by what its seat knows
abbrev pub known_of : TurnPass → Known
known_of pass = (pass_view_of pass.seat.me.0).known
