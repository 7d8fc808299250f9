-- Why not all that is seen could be replayed.
use Rattle.chain_log.specs.{RingPass.known_of, declared.{ring.RingLog.RingLog, ring_pass.RingPass.RingPass}}
use Rattle.xa_endless.specs.{Answers.{IsLost, WantsMemory}, declared.fault.EndlessFault.EndlessFault}
use Rattle.xa_endless.specs.declared.replica.Replica.{Replica}

-- why a replay stops, by its fault. NoMemory: the next entry may take memory. Behind: it may be overwritten. A replay
-- is never overtaken
abbrev pub IsHalt : RingLog → EndlessFault → Replica → RingPass → Type 0
IsHalt log (EndlessFault.Overtaken front) replica pass = ⊥
IsHalt log EndlessFault.NoMemory replica pass = WantsMemory replica (known_of pass)
IsHalt log EndlessFault.Behind replica pass = IsLost log.rows replica pass
