-- What each job writes, and how it ends. `old` is what the writer had got before, where that is known.
-- Nothing here knows of `--verbose`, or of `--quiet` of `judge`: they change no byte of the output, as `--strict`
-- doesn't, which changes a status alone (`HasListed`, `IsLookedAt`). `--quiet` of `audit` is in the audit's form.
use Rattle.std.specs.Prelude.{◌≡◌, ◌⊎◌, ℕ, Bool, true, false, Option, Some, None, Result, Ok, Err, List, IfOk, IfSome}
use Rattle.std.specs.{Prelude.{MatchResult, OnOk, [], ◌∷◌, ◌&&◌, ◌||◌}, Io.KnownBytes.{Keeps, Appends}}
use Rattle.std.specs.{Io.Buffered.{writer_contents, writer_buffer}, declared.io.buffered.BufWriter.BufWriter}
use Rattle.xa_server.specs.State.{State}
use Rattle.xa_lines.specs.{declared.script_fault.ScriptFault.ScriptFault, Transcript.{transcript, AfterFault}}
use Rattle.xa_lines.specs.{Uncommented.uncommented, Writing.{AppendsObjects, AfterObjects}}
use Rattle.xa_races.specs.Came.{AfterRunsFault}
use Rattle.xa_orders.specs.Scripts.{AfterExploreFault}
use Rattle.xa_manager.specs.Scripts.{AfterStopsFault}
use Rattle.xa_record.specs.{Judged.AfterJudgeFault, declared.{allowance.Allowance.Allowance, asked.Asked.Asked}}
use Rattle.xa_audit.specs.declared.form.Form.{Form as AuditForm}
use Rattle.xa_script.specs.declared.{command.Job.Job, command_line.CommandLine.CommandLine}
use Rattle.xa_script.specs.Status.{AppendsVerdict, AppendsOutcomes, AppendsRaceBy, AppendsCame, AppendsStopped}
use Rattle.xa_script.specs.Status.{AppendsAuditBy, AfterAuditing, asked_of, audit_form, end_of}
use Rattle.xa_script.specs.{CommandLine.audits, Several.{ListsAll, AfterListing, listing_asked}}

-- how a job ended: with a status, or in a fault
abbrev pub End : Type 0
End = Result ℕ ScriptFault

-- the script was run: the status is 0, and its transcript was written, if the script is known; or a fault left what
-- `AfterFault` says
abbrev pub HasRun : (input old new : Option (List ℕ)) → End → Type 0
HasRun input old new done =
    MatchResult done (λ status. (status ≡ 0) × IfSome input (λ script. Appends old new (transcript script)))
    (λ fault. AfterFault fault input old new)

-- the script was raced once, as `uncommented` leaves it: the status is 0, and what the race writes was written, if
-- the script is known. Of a fault nothing is said
abbrev pub HasRaced : (renews : Bool) → (capacity : ℕ) → (input old new : Option (List ℕ)) → End → Type 0
HasRaced renews capacity input old new done =
    IfOk done (λ status. (status ≡ 0) × IfSome input (λ script. AppendsRaceBy renews capacity (uncommented script) old
    new))

-- the script was raced several times, if no line of it is faulty: how that ended, and what was written
abbrev pub HasCame : (renews : Bool) → (input old new : Option (List ℕ)) → End → Type 0
HasCame renews input old new done =
    MatchResult done (λ status. AppendsCame status input old new) (λ fault. AfterRunsFault renews fault input old new)

-- the script was raced once, or as often as is asked
abbrev pub HasRacedAll : (renews : Bool) → (capacity : ℕ) → (runs : Option ℕ) → (input old new : Option (List ℕ))
    → End → Type 0
HasRacedAll renews capacity None input old new done = HasRaced renews capacity input old new done
HasRacedAll renews capacity (Some runs) input old new done = HasCame renews input old new done

-- the job `judge` on one record: how it ended, and what it wrote
abbrev pub HasJudged : State → List Allowance → Asked → (input old new : Option (List ℕ)) → End → Type 0
HasJudged base allowances asked input old new done =
    MatchResult done (λ status. AppendsVerdict base allowances asked status input old new)
    (λ fault. AfterJudgeFault base allowances asked fault input old new)

-- the job `explore`: how it ended, and what it wrote
abbrev pub HasExplored : (limit : ℕ) → (input old new : Option (List ℕ)) → End → Type 0
HasExplored limit input old new done =
    MatchResult done (λ status. AppendsOutcomes limit status input old new)
    (λ fault. AfterExploreFault limit fault input old new)

-- the job `stops`: how it ended, and that it wrote a text. What that says isn't proved (docs/PROOF.md#known-gaps)
abbrev pub HasStopped : (old new : Option (List ℕ)) → End → Type 0
HasStopped old new done =
    MatchResult done (λ status. AppendsStopped status old new) (λ fault. AfterStopsFault fault old new)

-- a conversation that isn't ended by a fault ends with 0; of what it writes nothing is said here
abbrev pub HasConversed : End → Type 0
HasConversed done = IfOk done (λ status. status ≡ 0)

-- the job wrote its own lines, or a verdict as `json` says, as its own definition has it; `base` and the allowances are
-- those with which a record is judged. An audit isn't done so, since it reads several inputs
abbrev pub HasWritten : Job → (json : Bool) → (base : State) → (allowances : List Allowance)
    → (input old new : Option (List ℕ)) → End → Type 0
HasWritten Job.Run json base allowances input old new done = HasRun input old new done
HasWritten (Job.Race capacity schedule renews runs) json base allowances input old new done =
    HasRacedAll renews capacity runs input old new done
HasWritten (Job.Coordinate stores capacity fixed) json base allowances input old new done = HasConversed done
HasWritten Job.Serve json base allowances input old new done = HasConversed done
HasWritten Job.Show json base allowances input old new done = HasConversed done
HasWritten (Job.Judge limit explain strict shrink) json base allowances input old new done =
    HasJudged base allowances (asked_of limit explain json strict shrink) input old new done
HasWritten (Job.Explore limit) json base allowances input old new done = HasExplored limit input old new done
HasWritten (Job.Stops stores) json base allowances input old new done = HasStopped old new done
HasWritten Job.Audit json base allowances input old new done = ⊥

-- the objects of the lines that a job writes to an empty output (`Has`), in the same order, were written, and its
-- status is the same; or after a fault a prefix of these if a write failed, else nothing
abbrev pub HasObjects : ((old new : Option (List ℕ)) → End → Type 0) → (old new : Option (List ℕ)) → End → Type 0
HasObjects Has old new done =
    MatchResult done (λ status. AppendsObjects (λ before after. Has before after (Ok status)) old new)
    (λ fault. AfterObjects (λ before after. (status : ℕ) × Has before after (Ok status)) fault old new)

-- whether `--json` makes an object of each line that the job writes. A verdict and an audit have an object of their own
abbrev pub lists : Job → Bool
lists (Job.Race capacity schedule renews runs) = true
lists (Job.Explore limit) = true
lists (Job.Stops stores) = true
lists job = false

-- the job was done as `HasWritten` says, as objects if these are asked for and its lines have them
abbrev pub HasDoneAs : (objects : Bool) → Job → (json : Bool) → (base : State) → (allowances : List Allowance)
    → (input old new : Option (List ℕ)) → End → Type 0
HasDoneAs true job json base allowances input old new done =
    HasObjects (HasWritten job json base allowances input) old new done
HasDoneAs false job json base allowances input old new done = HasWritten job json base allowances input old new done

-- the job was done as `--json` says
abbrev pub HasDone : Job → (json : Bool) → (base : State) → (allowances : List Allowance)
    → (input old new : Option (List ℕ)) → End → Type 0
HasDone job json = HasDoneAs (json && lists job) job json

-- the job `audit`: how it ended, and what it wrote
abbrev pub HasAudited : List (List ℕ) → AuditForm → (old new : Option (List ℕ)) → End → Type 0
HasAudited histories form old new done =
    MatchResult done (λ status. AppendsAuditBy histories form status old new)
    (λ fault. AfterAuditing histories form fault old new)

-- the job `judge` on several records: how it ended, and what it wrote
abbrev pub HasListed : State → List Allowance → Asked → (strict tap : Bool) → (names records : List (List ℕ))
    → (old new : Option (List ℕ)) → End → Type 0
HasListed base allowances asked strict tap names records old new done =
    MatchResult done (λ status. ListsAll base allowances asked strict tap names records status old new)
    (λ fault. AfterListing base allowances asked tap names records fault old new)

-- a job ended as `Done` says, and then `end_of` made its result by `faulty`: whether one of its lines was faulty, or
-- None if memory was refused for finding that out. No line was faulty if lines weren't looked at; if they were, it
-- isn't tied to the lines here, and may be any of the three
pub record IsLookedAt (strict looks : Bool) (Done : End → Type 0) (result : End) : Type 0 where
  pub done : End
  pub faulty : Option Bool
  pub own : Done done
  pub unlooked : looks ≡ false → faulty ≡ Some false
  pub ends : result ≡ end_of strict faulty done

-- a job that reads one input was done, and its lines were looked at, if they were to be
abbrev pub HasReadOne : CommandLine → State → List Allowance → (input old new : Option (List ℕ)) → End → Type 0
HasReadOne line base allowances input old new result =
    IsLookedAt line.manner.strict (line.manner.verbose || line.manner.strict)
    (HasDone line.job line.manner.json base allowances input old new) result

-- what the command line asks for was done, with inputs of these names and texts: an audit, where `audits`; or a list of
-- verdicts, if that is asked; or a job that reads one input, of which nothing is said here if there isn't just one
abbrev pub HasEndedBy : (audits : Bool) → (listing : Option Asked) → CommandLine → State → List Allowance
    → (names texts : List (List ℕ)) → (old new : Option (List ℕ)) → End → Type 0
HasEndedBy true listing line base allowances names texts old new result =
    HasAudited texts (audit_form line.manner.json line.manner.quiet) old new result
HasEndedBy false (Some asked) line base allowances names texts old new result =
    HasListed base allowances asked line.manner.strict line.manner.tap names texts old new result
HasEndedBy false None line base allowances names [] old new result = Unit {0}
HasEndedBy false None line base allowances names (text ∷ []) old new result =
    HasReadOne line base allowances (Some text) old new result
HasEndedBy false None line base allowances names (text ∷ next ∷ texts) old new result = Unit {0}

-- what the command line asks for was done, with inputs of these names and texts
abbrev pub HasEnded : CommandLine → State → List Allowance → (names texts : List (List ℕ))
    → (old new : Option (List ℕ)) → End → Type 0
HasEnded line = HasEndedBy (audits line.job) (listing_asked line) line

-- what a job leaves, behind a flush: the flush takes nothing away and adds nothing, and leaves nothing in the buffer
-- if the result is a status; the result is the job's own end, or a write fault
pub record IsFlushed {W A : Type 0} (contents : W → Option (List ℕ)) (Left : Option (List ℕ) → End → Type 0)
    (new : BufWriter W A) (result : End) : Type 0 where
  pub done : End
  pub written : Option (List ℕ)
  pub left : Left written done
  pub kept : Keeps written (writer_contents contents new)
  pub ends : (result ≡ done) ⊎ (result ≡ Err ScriptFault.Write)
  pub emptied : OnOk result (writer_buffer new ≡ [])
