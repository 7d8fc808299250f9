-- A session's faults: their numbers, and the faults that correspond to those of an append.
use Rattle.std.specs.Prelude.{ℕ}
use Rattle.decision_log.specs.declared.fault.AddFault.{AddFault}
use Rattle.xa_session.specs.declared.fault.Fault.{Fault, TheVariants.{Overtaken, Full, NoMemory, Busy}}

-- the number of a session's fault, in the order of docs/RATTLE.md#faults-of-a-session
abbrev pub number_of_fault : Fault → ℕ
number_of_fault (Overtaken front) = 1
number_of_fault Full = 2
number_of_fault NoMemory = 3
number_of_fault Busy = 4

-- the fault of the same name
abbrev pub fault_of : AddFault → Fault
fault_of (AddFault.Overtaken front) = Overtaken front
fault_of AddFault.Full = Full
fault_of AddFault.Busy = Busy
