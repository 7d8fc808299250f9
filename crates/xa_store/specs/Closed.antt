-- What the sessions of a race leave after they have met.
use Rattle.std.specs.{Prelude.{◌≡◌, ◌<◌, List, length, map}, List.AllZip}
use Rattle.xa_words.specs.Entry.{Entry}
use Rattle.decision_log.specs.Known.{LogIdentity}
use Rattle.xa_store.specs.{Passes.{Pass, log_of, known_of}, Gathered.{IsTakenIn, AddsNothing, last_known}}
use Rattle.xa_store.specs.Renewal.{AreGathered}

-- a pass that has met the others: it has added nothing, and the history has all that it knows
pub record HasLeft (history : List Entry) (old new : Pass) : Type 0 where
  pub same_log : log_of new ≡ log_of old
  pub adds_nothing : AddsNothing (known_of old) (known_of new)
  pub taken_in : IsTakenIn history (known_of new)

-- the history is what the last new pass has seen, each old pass and its new one are as `HasLeft` says, and, if there
-- are any, the new ones are as a renewal takes them
pub record HasClosed (identity : LogIdentity) (old : List Pass) (history : List Entry) (new : List Pass) : Type 0 where
  pub left : AllZip (HasLeft history) old new
  pub last : history ≡ (last_known (map known_of new)).seen
  pub gathered : 0 < length old → AreGathered identity new
