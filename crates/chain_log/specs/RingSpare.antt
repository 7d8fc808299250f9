-- What a contract sees of a spare.
use Rattle.decision_log.specs.{declared.known.Known.Known, Known.LogIdentity, Seats.pass_view_of}
use Rattle.chain_log.specs.declared.spare.RingSpare.{RingSpare}

-- of which log the spare is: the table of its seat, and the log's sizes, as the seat knows them
abbrev pub spare_log_of : RingSpare → LogIdentity
spare_log_of spare =
    record {
      table = spare.seat.table_id;
      sessions = (pass_view_of spare.seat.me.0).sessions;
      capacity = (pass_view_of spare.seat.me.0).capacity;
    }

-- what a spare knows of the ring, by what its seat knows
abbrev pub spare_known_of : RingSpare → Known
spare_known_of spare = (pass_view_of spare.seat.me.0).known
