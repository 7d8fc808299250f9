-- How often a call for a statement has looked, and has tried to append.
use Rattle.std.specs.Prelude.{◌≡◌, ◌<◌, ◌≤◌, ◌+◌, length, Result, IfErr}
use Rattle.decision_log.specs.declared.known.Known.{Known}
use Rattle.xa_session.specs.declared.{answer.Answer.Answer, replica.Replica.Replica, fault.Fault.Fault}
use Rattle.xa_session.specs.declared.fault.Fault.TheVariants.{Overtaken, Full, NoMemory, Busy}

-- an attempt without an answer has tried to append once at Overtaken and Busy, and not at Full and NoMemory
abbrev pub Tries : Fault → Known → Known → Type 0
Tries (Overtaken front) old new = new.tries ≡ old.tries + 1
Tries Full old new = new.tries ≡ old.tries
Tries NoMemory old new = new.tries ≡ old.tries
Tries Busy old new = new.tries ≡ old.tries + 1

-- an attempt has looked, and has tried to append at most once; after a fault just as often as `Tries` says
pub record TriesOnce (result : Result Answer Fault) (old new : Known) : Type 0 where
  pub looked : old.looks < new.looks
  pub tries : new.tries ≤ old.tries + 1
  pub tried : IfErr result (λ fault. Tries fault old new)

-- there were more looks than tries; so, if each try comes after a look of its own, no try followed the last look
abbrev pub LooksLast : Known → Known → Type 0
LooksLast old new = new.tries + old.looks < new.looks + old.tries

-- after an attempt without an answer: at Overtaken the replica has replayed all that was seen before the attempt, and
-- less than is seen now; at Busy there was one look, and all that is seen is replayed; at Full and NoMemory there was
-- one look, and no try has followed it
abbrev pub Leaves : Fault → Replica → Known → Known → Type 0
Leaves (Overtaken front) replica old new = (length old.seen ≤ replica.replayed) × (replica.replayed < length new.seen)
Leaves Full replica old new = (new.looks ≡ old.looks + 1) × (0 < new.since)
Leaves NoMemory replica old new = (new.looks ≡ old.looks + 1) × (0 < new.since)
Leaves Busy replica old new = (new.looks ≡ old.looks + 1) × (replica.replayed ≡ length new.seen)
