-- The numbers of the faults of a race.
use Rattle.std.specs.Prelude.{ℕ}
use Rattle.xa_store.specs.declared.race_fault.RaceFault.{RaceFault}

-- the number of a fault of a race, in the order of docs/RATTLE.md#races
abbrev pub number_of_race_fault : RaceFault → ℕ
number_of_race_fault (RaceFault.GateShut session line) = 1
number_of_race_fault (RaceFault.Full session line) = 2
number_of_race_fault RaceFault.NoMemory = 3
number_of_race_fault RaceFault.ThreadRefused = 4
