-- The numbers of a coordinator's faults, votes and endings.
use Rattle.std.specs.Prelude.{ℕ}
use Rattle.xa_coordinator.specs.declared.fault.{DecisionsFault.DecisionsFault, BeginFault.BeginFault}
use Rattle.xa_coordinator.specs.declared.fault.WorkFault.{WorkFault, TheVariants.{Session, Refused, Lost}}
use Rattle.xa_coordinator.specs.declared.{fault.RecoverFault.RecoverFault, vote.Vote.Vote, ending.Ending.Ending}

-- the number of a fault of decisions, in the order of docs/COORDINATOR.md#faults
abbrev pub number_of_decisions_fault : DecisionsFault → ℕ
number_of_decisions_fault DecisionsFault.TooMany = 1
number_of_decisions_fault (DecisionsFault.Overtaken number) = 2
number_of_decisions_fault DecisionsFault.NoMemory = 3

-- the number of a fault of beginning, in the order of docs/COORDINATOR.md#faults
abbrev pub number_of_begin_fault : BeginFault → ℕ
number_of_begin_fault BeginFault.NumbersSpent = 1
number_of_begin_fault BeginFault.NoMemory = 2

-- the number of a fault of work, in the order of docs/COORDINATOR.md#faults
abbrev pub number_of_work_fault : WorkFault → ℕ
number_of_work_fault (Session fault) = 1
number_of_work_fault (Refused error) = 2
number_of_work_fault Lost = 3

-- the number of a fault of recovery, in the order of docs/COORDINATOR.md#faults
abbrev pub number_of_recover_fault : RecoverFault → ℕ
number_of_recover_fault (RecoverFault.Session store fault) = 1
number_of_recover_fault (RecoverFault.StillPrepared store) = 2
number_of_recover_fault RecoverFault.NoMemory = 3
number_of_recover_fault (RecoverFault.Refused store error) = 4

-- the number of a vote, in the order of docs/COORDINATOR.md#votes
abbrev pub number_of_vote : Vote → ℕ
number_of_vote (Vote.Ready prepared) = 1
number_of_vote (Vote.OnePhase prepared) = 2
number_of_vote (Vote.No prepared store cause) = 3
number_of_vote Vote.Nothing = 4

-- the number of an ending, in the order of docs/COORDINATOR.md#finishing
abbrev pub number_of_ending : Ending → ℕ
number_of_ending Ending.Committed = 1
number_of_ending Ending.RolledBack = 2
number_of_ending (Ending.Hazard stores) = 3
number_of_ending (Ending.Unfinished store cause) = 4
