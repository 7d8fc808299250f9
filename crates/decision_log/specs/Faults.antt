-- The numbers of the faults.
use Rattle.std.specs.Prelude.{ℕ}
use Rattle.decision_log.specs.declared.fault.{OpenFault.OpenFault, AddFault.AddFault}

-- the number of a fault of opening, in the order of test
abbrev pub number_of_open_fault : OpenFault → ℕ
number_of_open_fault OpenFault.CapacityOutOfRange = 1
number_of_open_fault OpenFault.SessionsOutOfRange = 2
number_of_open_fault OpenFault.NoMemory = 3

-- a number for why an entry wasn't added: overtaken, full, or busy
abbrev pub number_of_add_fault : AddFault → ℕ
number_of_add_fault (AddFault.Overtaken front) = 1
number_of_add_fault AddFault.Full = 2
number_of_add_fault AddFault.Busy = 3
