-- What an append to a chain or a ring promises beyond what every log promises.
use Rattle.std.specs.Prelude.{◌≡◌, ◌<◌, ◌+◌, length, Result, Ok, Err}
use Rattle.decision_log.specs.declared.{known.Known.Known, fault.AddFault.AddFault}

-- one exchange and no look, not even after it; overtaken only by a longer history, full without an exchange, never busy
abbrev pub TriesOnce : Result (Unit {0}) AddFault → Known → Known → Type 0
TriesOnce (Ok _) old new = (new.tries ≡ old.tries + 1) × (new.looks ≡ old.looks) × (new.since ≡ 0)
TriesOnce (Err (AddFault.Overtaken front)) old new =
    (new.tries ≡ old.tries + 1) × (new.looks ≡ old.looks) × (new.since ≡ 0) × (length old.seen < length new.seen)
TriesOnce (Err AddFault.Full) old new = (new.tries ≡ old.tries) × (new.looks ≡ old.looks)
TriesOnce (Err AddFault.Busy) old new = ⊥
