-- How the program ends.
use Rattle.std.specs.Prelude.{◌≡◌, ◌==◌, ◌&&◌, ℕ, Bool, true, false, Option, Some, None, Result, Ok, Err, List, IfSome}
use Rattle.std.specs.{Prelude.if◌then◌else◌, Io.KnownBytes.Keeps}
use Rattle.xa_audit.specs.{Audits.{AppendsAudit, AppendsAuditPrefix}, declared.ended.Ended.Ended as AuditEnded}
use Rattle.xa_audit.specs.declared.form.Form.{Form as AuditForm}
use Rattle.xa_races.specs.{Outcome.AppendsRace, Came.AppendsRuns}
use Rattle.xa_lines.specs.declared.script_fault.ScriptFault.{ScriptFault}
use Rattle.xa_orders.specs.{Scripts.AppendsExplored, declared.ended.Ended.Ended}
use Rattle.xa_record.specs.{Allowances.allowances_of, Judged.AppendsJudged, declared.allowance.Allowance.Allowance}
use Rattle.xa_record.specs.declared.{asked.Asked.Asked, form.Form.Form, outcome.Outcome.Outcome}
use Rattle.xa_server.specs.State.{State}
use Rattle.xa_manager.specs.{Scripts.AppendsText, declared.stop_ended.Ended.Ended as StopsEnded}

-- 1 where the input can't be read or is too long, or the output can't be written, 3 where memory, the log, the gate or
-- a thread gave out (own rule)
abbrev pub status_after : ScriptFault → ℕ
status_after ScriptFault.Read = 1
status_after ScriptFault.TooLong = 1
status_after ScriptFault.Write = 1
status_after ScriptFault.NoMemory = 3
status_after ScriptFault.Full = 3
status_after ScriptFault.GateShut = 3
status_after ScriptFault.ThreadRefused = 3

-- the job's own status, or the one after its fault
abbrev pub status_of_job : Result ℕ ScriptFault → ℕ
status_of_job (Ok status) = status
status_of_job (Err fault) = status_after fault

-- 8 in place of 0 where a line was faulty, if `--strict` asks for that; any other status stays (own rule)
abbrev pub strict_status : (strict faulty : Bool) → (status : ℕ) → ℕ
strict_status strict faulty status = if strict && faulty && status == 0 then 8 else status

-- how a job ends whose lines were tested for faults: a fault of the job stays; if memory was refused for the test
-- (None), that is the fault; else its status is as `strict_status` says
abbrev pub end_of : (strict : Bool) → (faulty : Option Bool) → Result ℕ ScriptFault → Result ℕ ScriptFault
end_of strict faulty (Err fault) = Err fault
end_of strict None (Ok status) = Err ScriptFault.NoMemory
end_of strict (Some faulty) (Ok status) = Ok (strict_status strict faulty status)

-- 0 where an order explains the record, 4 where none does, 5 where the limit was passed, 6 where lines are faulty, 7
-- where there is no event (own rule)
abbrev pub status_for : Outcome → ℕ
status_for Outcome.Legal = 0
status_for Outcome.Illegal = 4
status_for Outcome.Undecided = 5
status_for Outcome.Faulty = 6
status_for Outcome.Empty = 7

-- judging the record, from the state `base`, ended in some outcome: the writer got what is written then, if the
-- record is known, and the status is the one for that outcome
abbrev pub AppendsVerdict : State → List Allowance → Asked → (status : ℕ) → Option (List ℕ) → Option (List ℕ)
    → Option (List ℕ) → Type 0
AppendsVerdict base allowances asked status input old new =
    (outcome : Outcome) × (status ≡ status_for outcome)
    × IfSome input (λ text. AppendsJudged base allowances asked outcome text old new)

-- a verdict is an object of JSON where that is asked
abbrev pub form_of : (json : Bool) → Form
form_of true = Form.Json
form_of false = Form.Plain

-- what the options ask of judging
abbrev pub asked_of : (limit : ℕ) → (explain json strict shrink : Bool) → Asked
asked_of limit explain json strict shrink =
    record { limit = limit; form = form_of json; explains = explain; shrinks = shrink; strict_calls = strict }

-- the text allows these; or there are none, and a line of the text is faulty
abbrev pub IsAllowedBy : Option (List Allowance) → List ℕ → Type 0
IsAllowedBy (Some list) text = allowances_of text ≡ Ok list
IsAllowedBy None text = (number : ℕ) × (allowances_of text ≡ Err number)

-- 0 where all outcomes were listed, 5 where the limit was passed, 6 where faulty lines were listed (own rule)
abbrev pub status_of_end : Ended → ℕ
status_of_end Ended.Done = 0
status_of_end Ended.Undecided = 5
status_of_end Ended.Faulty = 6

-- exploring the script ended in some way: the writer got what is written then, if the script is known, and the status
-- is the one for that end
abbrev pub AppendsOutcomes : (limit status : ℕ) → Option (List ℕ) → Option (List ℕ) → Option (List ℕ) → Type 0
AppendsOutcomes limit status input old new =
    (ended : Ended) × (status ≡ status_of_end ended) × IfSome input
    (λ script. AppendsExplored limit ended script old new)

-- the writer got what a race of the script writes: over a store without an end where it renews, else in one history of
-- at most this capacity
abbrev pub AppendsRaceBy : Bool → (capacity : ℕ) → List ℕ → Option (List ℕ) → Option (List ℕ) → Type 0
AppendsRaceBy true capacity script old new = AppendsRace None script old new
AppendsRaceBy false capacity script old new = AppendsRace (Some capacity) script old new

-- racing the script several times ended in some way: the writer got what is written then, if the script is known, and
-- the status is the one for that end
abbrev pub AppendsCame : (status : ℕ) → Option (List ℕ) → Option (List ℕ) → Option (List ℕ) → Type 0
AppendsCame status input old new =
    (ended : Ended) × (status ≡ status_of_end ended) × IfSome input (λ script. AppendsRuns ended script old new)

-- 0 where all stops were listed, 6 where faulty lines were (own rule)
abbrev pub status_of_stops : StopsEnded → ℕ
status_of_stops StopsEnded.Done = 0
status_of_stops StopsEnded.Faulty = 6

-- stopping the script's coordinator ended in some way: the writer got a whole text, and the status is the one for that
-- end. What the text says of the script isn't proved (docs/PROOF.md#known-gaps)
abbrev pub AppendsStopped : (status : ℕ) → (old new : Option (List ℕ)) → Type 0
AppendsStopped status old new = (ended : StopsEnded) × (status ≡ status_of_stops ended) × AppendsText old new

-- 0 where each global transaction is ATOMIC, 9 where some is not, 6 where a line isn't read (own rule)
abbrev pub status_of_audit : AuditEnded → ℕ
status_of_audit AuditEnded.AllAtomic = 0
status_of_audit AuditEnded.SomeNotAtomic = 9
status_of_audit AuditEnded.Unread = 6

-- the audit of these histories ended in some way: the writer got what is written then, and the status is the one for
-- that end
abbrev pub AppendsAuditBy : List (List ℕ) → AuditForm → (status : ℕ) → Option (List ℕ) → Option (List ℕ) → Type 0
AppendsAuditBy histories form status old new =
    (ended : AuditEnded) × (status ≡ status_of_audit ended) × AppendsAudit histories form ended old new

-- what a fault of an audit leaves in the writer: a prefix of what is written where a write failed, else nothing. An
-- audit has no log, no gate and no threads
abbrev pub AfterAuditing : List (List ℕ) → AuditForm → ScriptFault → Option (List ℕ) → Option (List ℕ) → Type 0
AfterAuditing histories form ScriptFault.Read old new = Keeps old new
AfterAuditing histories form ScriptFault.TooLong old new = Keeps old new
AfterAuditing histories form ScriptFault.Write old new = AppendsAuditPrefix histories form old new
AfterAuditing histories form ScriptFault.NoMemory old new = Keeps old new
AfterAuditing histories form ScriptFault.Full old new = ⊥
AfterAuditing histories form ScriptFault.GateShut old new = ⊥
AfterAuditing histories form ScriptFault.ThreadRefused old new = ⊥

-- the form of an audit: an object of JSON with `--json`, else the last line alone with `--quiet`, else all lines
abbrev pub audit_form : (json quiet : Bool) → AuditForm
audit_form true quiet = AuditForm.Json
audit_form false true = AuditForm.LastLine
audit_form false false = AuditForm.Lines
