-- The text that is written for a call, by its response. All of it is an own rule: docs/COORDINATOR.md#calls.
--     fault_text, cause_text       why a statement wasn't answered, or carried out
use Rattle.std.specs.Prelude.{ℕ, ◌+◌, Bool, true, false, if◌then◌else◌, Result, Ok, Err, List, [], ◌∷◌, ◌++◌, codes}
use Rattle.std.specs.Prelude.{decimal}
use Rattle.xa_server.specs.declared.reply.Reply.{Reply}
use Rattle.xa_session.specs.declared.fault.Fault.{Fault, TheVariants.{Overtaken, Full, NoMemory, Busy}}
use Rattle.xa_lines.specs.Printed.{reply_text, error_text, syntax_text}
use Rattle.xa_coordinator.specs.declared.fault.{Cause.Cause, WorkFault.WorkFault, RecoverFault.RecoverFault}
use Rattle.xa_coordinator.specs.declared.{ending.Ending.Ending, report.Report.Report, decisions.Decision.Decision}
use Rattle.xa_coordinator.specs.declared.decisions.Decision.TheVariants.{Undecided, Decided, Closed}
use Rattle.xa_manager.specs.declared.{vote_answer.VoteAnswer.VoteAnswer, response.Response.Response}

-- why a session didn't answer; a session that tries again is never left overtaken or busy
abbrev pub fault_text : Fault → List ℕ
fault_text (Overtaken seen) = codes "overtaken"
fault_text Full = codes "log full"
fault_text NoMemory = codes "out of memory"
fault_text Busy = codes "busy"

-- why a store didn't carry a statement out
abbrev pub cause_text : Cause → List ℕ
cause_text (Cause.Session fault) = fault_text fault
cause_text (Cause.Refused error) = error_text error

-- what is written for a call of WORK: the reply, or why there is none
abbrev pub worked_text : Result Reply WorkFault → List ℕ
worked_text (Ok reply) = reply_text false reply
worked_text (Err (WorkFault.Session fault)) = codes "FAULT: " ++ fault_text fault
worked_text (Err (WorkFault.Refused error)) = codes "NOT STARTED: " ++ error_text error
worked_text (Err WorkFault.Lost) = codes "LOST"

-- what is written for a call of PREPARE: what the stores voted
abbrev pub vote_text : VoteAnswer → List ℕ
vote_text VoteAnswer.Ready = codes "READY"
vote_text VoteAnswer.OnePhase = codes "ONE PHASE"
vote_text VoteAnswer.Nothing = codes "NOTHING"
vote_text (VoteAnswer.No store cause) = codes "NO " ++ decimal store ++ codes ": " ++ cause_text cause

-- the numbers of stores, each after a space
abbrev pub stores_text : List ℕ → List ℕ
stores_text [] = []
stores_text (store ∷ stores) = codes " " ++ decimal store ++ stores_text stores

-- what is written for FINISH and ABANDON: how the transaction ended
abbrev pub ending_text : Ending → List ℕ
ending_text Ending.Committed = codes "COMMITTED"
ending_text Ending.RolledBack = codes "ROLLED BACK"
ending_text (Ending.Hazard stores) = codes "HAZARD" ++ stores_text stores.items
ending_text (Ending.Unfinished store cause) = codes "UNFINISHED " ++ decimal store ++ codes ": " ++ cause_text cause

-- what is written if RECOVER failed: the store and why
abbrev pub recover_fault_text : RecoverFault → List ℕ
recover_fault_text (RecoverFault.Session store fault) =
    codes "UNRECOVERED " ++ decimal store ++ codes ": " ++ fault_text fault
recover_fault_text (RecoverFault.StillPrepared store) = codes "STILL PREPARED " ++ decimal store
recover_fault_text RecoverFault.NoMemory = codes "UNRECOVERED: out of memory"
recover_fault_text (RecoverFault.Refused store error) =
    codes "UNRECOVERED " ++ decimal store ++ codes ": " ++ error_text error

-- what is written if RECOVER came to its end: what it did with branches
abbrev pub report_text : Report → List ℕ
report_text report =
    codes "RECOVERED committed " ++ decimal report.committed ++ codes " rolled back " ++ decimal report.rolled_back
    ++ codes " missing "
    ++ decimal report.missing

-- what is written for a call of RECOVER
abbrev pub recovered_text : Result Report RecoverFault → List ℕ
recovered_text (Ok report) = report_text report
recovered_text (Err fault) = recover_fault_text fault

-- what is written for an answer to the other client; `convert` says whether recovered identifiers are in hexadecimal
abbrev pub replied_text : Bool → Result Reply Fault → List ℕ
replied_text convert (Ok reply) = reply_text convert reply
replied_text convert (Err fault) = codes "FAULT: " ++ fault_text fault

-- a store's number, and below it the answer that its other client got; `true`: recovered identifiers are in hexadecimal
abbrev pub store_text : ℕ → Result Reply Fault → List ℕ
store_text store answer = codes "STORE " ++ decimal store ++ codes "\n" ++ replied_text true answer ++ codes "\n"

-- the answers of the stores from this number on, each behind its line STORE
abbrev pub stores_shown_text : ℕ → List (Result Reply Fault) → List ℕ
stores_shown_text store [] = []
stores_shown_text store (answer ∷ answers) = store_text store answer ++ stores_shown_text (store + 1) answers

-- a number has the wanted state
abbrev pub stands_as : Decision → Decision → Bool
stands_as Undecided Undecided = true
stands_as Decided Decided = true
stands_as Closed Closed = true
stands_as wanted decision = false

-- a number after a space, if it has the wanted state
abbrev pub number_text : Decision → ℕ → Decision → List ℕ
number_text wanted number decision = if stands_as wanted decision then codes " " ++ decimal number else []

-- the numbers from this one on that have the wanted state, ascending, each after a space
abbrev pub numbers_text : Decision → ℕ → List Decision → List ℕ
numbers_text wanted number [] = []
numbers_text wanted number (decision ∷ decisions) =
    number_text wanted number decision ++ numbers_text wanted (number + 1) decisions

-- what SHOW writes of the numbers: those that are undecided, decided and closed
abbrev pub decisions_text : List Decision → List ℕ
decisions_text decisions =
    codes "UNDECIDED" ++ numbers_text Undecided 1 decisions ++ codes "\nDECIDED" ++ numbers_text Decided 1 decisions
    ++ codes "\nCLOSED"
    ++ numbers_text Closed 1 decisions

-- what is written for the response to a call, without its line feed; SHOW writes these decisions too
abbrev pub response_text : List Decision → Response → List ℕ
response_text decisions Response.Silent = []
response_text decisions (Response.Unread place) = syntax_text place
response_text decisions (Response.UnknownStore store) = codes "UNKNOWN STORE " ++ decimal store
response_text decisions (Response.UnknownTransaction number) = codes "UNKNOWN TRANSACTION " ++ decimal number
response_text decisions (Response.WrongStage number) = codes "WRONG STAGE " ++ decimal number
response_text decisions (Response.Begun number) = codes "TRANSACTION " ++ decimal number
response_text decisions Response.NumbersSpent = codes "NUMBERS SPENT"
response_text decisions (Response.Worked worked) = worked_text worked
response_text decisions (Response.Voted answer) = vote_text answer
response_text decisions Response.Decided = codes "DECIDED"
response_text decisions Response.Closed = codes "CLOSED"
response_text decisions (Response.Ended ending) = ending_text ending
response_text decisions Response.Limited = codes "OK"
response_text decisions Response.Stopped = codes "STOPPED"
response_text decisions (Response.Recovered recovered) = recovered_text recovered
response_text decisions (Response.Replied convert answer) = replied_text convert answer
response_text decisions (Response.Shown listing) = stores_shown_text 0 listing.answers.items ++ decisions_text decisions

-- nothing is written for a line that is no call
abbrev pub is_silent : Response → Bool
is_silent Response.Silent = true
is_silent response = false

-- what is written for a call: its response and a line feed, or nothing for a line that is no call
abbrev pub answer_text : List Decision → Response → List ℕ
answer_text decisions response = if is_silent response then [] else response_text decisions response ++ codes "\n"
