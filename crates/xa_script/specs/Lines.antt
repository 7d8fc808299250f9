-- The lines that a job reads and writes.
use Rattle.std.specs.Prelude.{ℕ, ◌-◌, ◌^◌, Bool, true, not, ◌&&◌, ◌||◌, if◌then◌else◌, Option, Some, None}
use Rattle.xa_lines.specs.declared.TheConstants.{LINE_BYTES}
use Rattle.xa_script.specs.declared.{command.Job.Job, line_form.LineForm.LineForm, line_kind.LineKind.LineKind}
use Rattle.xa_script.specs.declared.manner.Manner.{Manner}

-- the kind of the lines of a race: one that is held `runs` times also takes the words that divide a script
abbrev pub kind_of_race : (runs : Option ℕ) → LineKind
kind_of_race None = LineKind.Raced
kind_of_race (Some runs) = LineKind.Explored

-- how a job reads its lines
abbrev pub kind_of_lines : Job → LineKind
kind_of_lines Job.Run = LineKind.Statement
kind_of_lines (Job.Race capacity schedule renews runs) = kind_of_race runs
kind_of_lines (Job.Coordinate stores capacity fixed) = LineKind.Call
kind_of_lines Job.Serve = LineKind.Statement
kind_of_lines Job.Show = LineKind.Shown
kind_of_lines (Job.Judge limit explain strict shrink) = LineKind.Record
kind_of_lines (Job.Explore limit) = LineKind.Explored
kind_of_lines (Job.Stops stores) = LineKind.Stopped
kind_of_lines Job.Audit = LineKind.Shown

-- a number of bytes that no line exceeds
abbrev pub any_length : ℕ
any_length = 2 ^ 64 - 1

-- how many bytes a line may have when it is looked at: the jobs that answer line by line keep no more of one. `stops`
-- doesn't read a longer line either, but here it counts as any other
abbrev pub most_bytes : Job → ℕ
most_bytes (Job.Coordinate stores capacity fixed) = LINE_BYTES
most_bytes Job.Serve = LINE_BYTES
most_bytes Job.Show = LINE_BYTES
most_bytes job = any_length

-- the form of the lines that a job writes without `--json`
abbrev pub form_of_job : Job → LineForm
form_of_job Job.Show = LineForm.Shown
form_of_job (Job.Judge limit explain strict shrink) = LineForm.Verdict
form_of_job job = LineForm.Answers

-- the form of the lines whose literals are written as texts, if that is asked for. Objects stay as they are, and so
-- do verdicts that are `listed`, but in TAP
abbrev pub form_of_texts : Manner → (listed : Bool) → Job → Option LineForm
form_of_texts manner listed job =
    if not manner.text || (manner.json || listed && not manner.tap) then None
    else (if listed then Some LineForm.Noted else Some (form_of_job job))

-- whether the standard error says what of a job's input is too long, and what to do: after a fault of `run` and `race`
-- it has one line, unless more is asked for (own rule)
abbrev pub tells_length : (verbose : Bool) → Job → Bool
tells_length verbose Job.Run = verbose
tells_length verbose (Job.Race capacity schedule renews runs) = verbose
tells_length verbose job = true
