-- What is told of a record of which no line is faulty.
use Rattle.std.proofs.Common.{◌≡◌, ℕ, ◌==◌, true, false, Result, IfOk, List, [], ◌∷◌, length, map, arith}
use Rattle.std.{proofs.lemmas.{List.Elements.recursion_from_All, Grind.common_steps}, specs.List.All}
use Rattle.xa_server.specs.State.{State}
use Rattle.xa_judge.specs.{declared.{event.Event.Event, verdict.Verdict.Verdict}, Verdicts.IsVerdict}
use Rattle.xa_record.specs.declared.{allowance.Allowance.Allowance, asked.Asked.Asked}
use Rattle.xa_record.specs.declared.line_event.NumberedEvent.{NumberedEvent as NumberedRead}
use Rattle.xa_record.specs.{declared.report.Report.Report as ReportMade, Reading.NumberedEvent, Events.AreEvents}
use Rattle.xa_record.specs.{Judged.{IsJudgement, IsReportedBy}, Kept.{numbered_kept, report_kept}}
use Rattle.xa_record.{specs.{Replaying.{AreBare, IsWrittenCall}, Reports.IsReportOf}, proofs.Replays.bare_replayed}

-- the report of a right verdict on the events that lines say is a judgement of these lines, if the texts of calls are
-- bare, and supported statements among them are written back
pub judgement_of : {E : Type 0} (result : Result ReportMade E) (base : State) (allowances : List Allowance)
    (lines : List (List ℕ)) (numbered : List NumberedEvent) (asked : Asked)
    (events : List Event) (verdict : Verdict) → AreBare numbered → AreEvents allowances numbered events
    → All IsWrittenCall events
    → IsVerdict base events asked.limit verdict
    → IfOk result (λ report. IsReportOf base allowances lines asked numbered events verdict (report_kept report))
    → IfOk result (λ report. IsJudgement base allowances lines numbered asked (report_kept report))
judgement_of result base allowances lines numbered asked events verdict bare are written right told =
    grind (arith, bare_replayed, recursion_from_All)

-- if no line is faulty and there is an event, a judgement on the events is the report of what was read
pub reported : {E : Type 0} (result : Result ReportMade E) (base : State) (allowances : List Allowance)
    (lines : List (List ℕ)) (faults : List ℕ) (numbered : List NumberedRead) (asked : Asked)
    → faults ≡ [] → (length numbered == 0) ≡ false
    → IfOk result (λ report. IsJudgement base allowances lines (map numbered_kept numbered) asked (report_kept report))
    → IfOk result (λ report. IsReportedBy base allowances lines faults (map numbered_kept numbered) asked
    (report_kept report))
reported result base allowances lines (byte ∷ faults) numbered asked none some is = absurd (cc)
reported result base allowances lines [] [] asked none some is = absurd (cc)
reported result base allowances lines [] (one ∷ numbered) asked none some is = is

-- a text whose length tests as 0 is empty: no line was faulty
pub no_fault : (faults : List ℕ) → (length faults == 0) ≡ true → faults ≡ []
no_fault faults empty = grind (arith, common_steps)
