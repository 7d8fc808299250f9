-- What a contract sees of a ring, and of its passes.
use Rattle.std.specs.Prelude.{ℕ}
use Rattle.decision_log.specs.{declared.known.Known.Known, Known.LogIdentity, Seats.pass_view_of}
use Rattle.chain_log.specs.{declared.{ring.RingLog.RingLog, ring_pass.RingPass.RingPass}, RingRule.least}

-- what tells a ring from others: its table, how many passes it has, spares included, and how many entries it can have
abbrev pub identity_of : RingLog → LogIdentity
identity_of log = record { table = log.table.inner.shared.table_id; sessions = log.columns; capacity = log.capacity }

-- of which log the pass is: the table of its seat, and the log's sizes, as the seat knows them
abbrev pub log_of : RingPass → LogIdentity
log_of pass =
    record {
      table = pass.seat.table_id;
      sessions = (pass_view_of pass.seat.me.0).sessions;
      capacity = (pass_view_of pass.seat.me.0).capacity;
    }

-- what a pass knows of the ring, by what its seat knows
abbrev pub known_of : RingPass → Known
known_of pass = (pass_view_of pass.seat.me.0).known

-- the length that the history has at least, by what the pass's seat knows
abbrev pub least_of : RingPass → ℕ
least_of pass = least (pass_view_of pass.seat.me.0)
