-- What judging a record comes to. Every rule here is the project's own: docs/HISTORIES.md.
--     record_bytes, record_reads     the greatest length of a record;  the greatest number of reads
--     AppendsJudged, AppendsJudgedPrefix      the writer got that text;  or a prefix of it
use Rattle.std.specs.{Prelude.{◌≡◌, ℕ, Option, List, [], ◌∷◌, IfSome}, Io.KnownBytes.{Keeps, Appends}}
use Rattle.xa_server.specs.State.{State}
use Rattle.xa_lines.specs.{declared.script_fault.ScriptFault.ScriptFault, Script.lines_of, Transcript.AppendsPrefix}
use Rattle.xa_judge.specs.{declared.{event.Event.Event, verdict.Verdict.Verdict}, Verdicts.IsVerdict}
use Rattle.xa_record.specs.declared.{allowance.Allowance.Allowance, asked.Asked.Asked, outcome.Outcome.Outcome}
use Rattle.xa_record.specs.{Reading.{NumberedEvent, Notes, notes_by}, Events.AreEvents}
use Rattle.xa_record.specs.{Replaying.IsReplayed, Reports.{Report, Faulty, Empty, outcome_of, IsReportOf}}
use Rattle.xa_record.specs.Forms.{text_in}

-- the greatest length of a record, in bytes: 16 MiB
abbrev pub record_bytes : ℕ
record_bytes = 16777216

-- the greatest number of reads: a reader that gives one byte at a time needs one read for each and one more; twice as
-- many are ample, and with a bound reading comes to an end
abbrev pub record_reads : ℕ
record_reads = 33554432

-- some verdict on the events that the lines say, beginning with a server in this state, is right; its order,
-- run as a script from there, gives the answers of its moves; and this is the report of it
pub record IsJudgement (base : State) (allowances : List Allowance) (lines : List (List ℕ))
    (numbered : List NumberedEvent) (asked : Asked) (report : Report) : Type 0 where
  pub events : List Event
  pub verdict : Verdict
  pub are : AreEvents allowances numbered events
  pub right : IsVerdict base events asked.limit verdict
  pub replayed : IsReplayed base numbered events verdict
  pub is : IsReportOf base allowances lines asked numbered events verdict report

-- what is reported of lines, by what was read of them: what is written for the faulty ones, if there are any; that
-- there is no event; else what the events come to
abbrev pub IsReportedBy : State → List Allowance → List (List ℕ) → (faults : List ℕ) → List NumberedEvent → Asked
    → Report → Type 0
IsReportedBy base allowances lines (byte ∷ faults) numbered asked report = report ≡ Faulty (byte ∷ faults)
IsReportedBy base allowances lines [] [] asked report = report ≡ Empty
IsReportedBy base allowances lines [] (one ∷ more) asked report =
    IsJudgement base allowances lines (one ∷ more) asked report

-- the report of what was read of these lines
abbrev pub IsReportedOf : State → List Allowance → List (List ℕ) → Notes → Asked → Report → Type 0
IsReportedOf base allowances lines notes asked report =
    IsReportedBy base allowances lines notes.faults notes.told asked report

-- what is reported of a text, which is read line by line
abbrev pub IsReported : State → List Allowance → List ℕ → Asked → Report → Type 0
IsReported base allowances written asked report =
    IsReportedOf base allowances (lines_of written) (notes_by asked.strict_calls written) asked report

-- a record of the text `written`, which begins in a state, ends with this outcome, and `text` is written for it
pub record IsJudged (base : State) (written : List ℕ) (allowances : List Allowance) (asked : Asked)
    (outcome : Outcome) (text : List ℕ) : Type 0 where
  pub report : Report
  pub told : IsReported base allowances written asked report
  pub outcome_is : outcome ≡ outcome_of report
  pub text_is : text ≡ text_in asked.form report

-- the writer got what is written for the record
abbrev pub AppendsJudged : State → List Allowance → Asked → Outcome → List ℕ → Option (List ℕ) → Option (List ℕ)
    → Type 0
AppendsJudged base allowances asked outcome written old new =
    (text : List ℕ) × IsJudged base written allowances asked outcome text × Appends old new text

-- the writer got a prefix of what may be written for the record, judged from the base state
abbrev pub AppendsJudgedPrefix : State → List Allowance → Asked → List ℕ → Option (List ℕ) → Option (List ℕ) → Type 0
AppendsJudgedPrefix base allowances asked written old new =
    (outcome : Outcome) × (text : List ℕ) × IsJudged base written allowances asked outcome text
    × AppendsPrefix old new text

-- what may be written for a record, however judging it ends
abbrev pub IsJudgedText : State → List Allowance → Asked → List ℕ → List ℕ → Type 0
IsJudgedText base allowances asked written text = (outcome : Outcome)
    × IsJudged base written allowances asked outcome text

-- a fault of judging a record that was read: there was no memory
abbrev pub IsFaultOfJudging : List ℕ → ScriptFault → Type 0
IsFaultOfJudging written fault = fault ≡ ScriptFault.NoMemory

-- what a fault leaves in the writer: a prefix of the text if a write failed, else nothing. Judging has no
-- fault of a race
abbrev pub AfterJudgeFault : State → List Allowance → Asked → ScriptFault → Option (List ℕ) → Option (List ℕ)
    → Option (List ℕ) → Type 0
AfterJudgeFault base allowances asked ScriptFault.Write input old new = IfSome input
    (λ written. AppendsJudgedPrefix base allowances asked written old new)
AfterJudgeFault base allowances asked ScriptFault.Full input old new = ⊥
AfterJudgeFault base allowances asked ScriptFault.GateShut input old new = ⊥
AfterJudgeFault base allowances asked ScriptFault.ThreadRefused input old new = ⊥
AfterJudgeFault base allowances asked fault input old new = Keeps old new
