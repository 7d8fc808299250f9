-- The record of a row, as contracts see it.
use Rattle.std.specs.Prelude.{Option}
use Rattle.xa_xid.specs.Xid.{Text}
use Rattle.xa_server.specs.declared.lock.Lock.{Lock}

-- a row: the value that all sessions see, if there is one, and the branches that hold it
pub record RowRecord : Type 0 where
  pub committed : Option Text
  pub lock : Lock
