-- The numbers of the faults of a script's run or race.
use Rattle.std.specs.Prelude.{ℕ}
use Rattle.xa_lines.specs.declared.script_fault.ScriptFault.{ScriptFault}

-- the number of a fault of a script: those of the streams first, then those of a race (own rule)
abbrev pub number_of_script_fault : ScriptFault → ℕ
number_of_script_fault ScriptFault.Read = 1
number_of_script_fault ScriptFault.TooLong = 2
number_of_script_fault ScriptFault.Write = 3
number_of_script_fault ScriptFault.NoMemory = 4
number_of_script_fault ScriptFault.Full = 5
number_of_script_fault ScriptFault.GateShut = 6
number_of_script_fault ScriptFault.ThreadRefused = 7
