-- The numbers of the faults of a session of an endless store.
use Rattle.std.specs.Prelude.{ℕ}
use Rattle.xa_endless.specs.declared.fault.EndlessFault.{EndlessFault, TheVariants.{Overtaken, NoMemory, Behind}}

-- the fault's number in docs/RATTLE.md#faults-of-a-session
abbrev pub number_of_fault : EndlessFault → ℕ
number_of_fault (Overtaken front) = 1
number_of_fault NoMemory = 3
number_of_fault Behind = 5
