-- A client for tests.
use Rattle.std.specs.Prelude.{take}
use Rattle.xa_lines.specs.{Cut.taken_by, Exchange.Exchange, declared.recorded.Recorded.Recorded}

-- what has passed between this client and the program
abbrev pub exchange_of : Recorded → Exchange
exchange_of client = record {
  received = client.received.items;
  given = taken_by client.writer;
  told = take client.told (taken_by client.writer);
  stage = client.stage;
}
