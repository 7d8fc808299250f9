-- What an audit of histories comes to. Every rule here is the project's own: docs/HISTORIES.md#audits.
--     AppendsAudit, AppendsAuditPrefix     the writer got that text;  a prefix of it
use Rattle.std.specs.Prelude.{◌≡◌, ℕ, ◌==◌, Bool, true, false, Option, List, [], ◌∷◌, length}
use Rattle.std.specs.Io.KnownBytes.{Keeps, Appends}
use Rattle.xa_lines.specs.{declared.script_fault.ScriptFault.ScriptFault, Transcript.AppendsPrefix}
use Rattle.xa_audit.specs.declared.{audit.Audit.Audit, ended.Ended.Ended, form.Form.Form}
use Rattle.xa_audit.specs.{declared.verdict.Verdict.TheVariants.Atomic, Histories.faults_of, Branches.AreBranches}
use Rattle.xa_audit.specs.{Globals.{Global, IsAccount, count_of}, Written.text_in}

-- the greatest length of a history that is read: 16 MiB, as of a record
abbrev pub history_bytes : ℕ
history_bytes = 16777216

-- the audit has the number of these histories, what is written for their lines that aren't read, and, if each line is
-- read, their branches
pub record IsAuditOf (histories : List (List ℕ)) (audit : Audit) : Type 0 where
  pub stores : audit.stores ≡ length histories
  pub faults : audit.faults.items ≡ faults_of histories
  pub branches : faults_of histories ≡ [] → AreBranches 1 histories audit.branches

-- how an audit ends, by whether each global transaction is ATOMIC
abbrev pub ended_by : Bool → Ended
ended_by true = Ended.AllAtomic
ended_by false = Ended.SomeNotAtomic

-- how an audit ends: whether every global transaction is atomic
unfoldable pub ended_of : List Global → Ended
-- how an audit of global transactions ends
ended_of globals = ended_by (count_of Atomic globals == length globals)

-- an audit ends so, and this is written, by what is written for lines that aren't read: if there is such a line, just
-- that, and the audit ends in `Unread`; else the text of the global transactions, and it ends as `ended_of` says
abbrev pub IsAuditedWith : List ℕ → List (List ℕ) → Form → Ended → List ℕ → Type 0
IsAuditedWith [] histories form ended text =
    (globals : List Global) × IsAccount histories globals × (ended ≡ ended_of globals) × (text ≡ text_in form globals)
IsAuditedWith (byte ∷ faults) histories form ended text = (ended ≡ Ended.Unread) × (text ≡ byte ∷ faults)

-- an audit of these histories ends so, and this is written in the form
abbrev pub IsAudited : List (List ℕ) → Form → Ended → List ℕ → Type 0
IsAudited histories form ended text = IsAuditedWith (faults_of histories) histories form ended text

-- an audit of these histories ends so, and the writer got what is written for it
abbrev pub AppendsAudit : List (List ℕ) → Form → Ended → Option (List ℕ) → Option (List ℕ) → Type 0
AppendsAudit histories form ended old new = (text : List ℕ) × IsAudited histories form ended text × Appends old new text

-- the writer got a prefix of what an audit of the histories writes, however the audit ends
abbrev pub AppendsAuditPrefix : List (List ℕ) → Form → Option (List ℕ) → Option (List ℕ) → Type 0
AppendsAuditPrefix histories form old new =
    (ended : Ended) × (text : List ℕ) × IsAudited histories form ended text × AppendsPrefix old new text

-- what a fault leaves in the writer: a prefix of the text if a write failed, nothing if there was no memory. No other
-- fault occurs
abbrev pub AfterAuditFault : List (List ℕ) → Form → ScriptFault → Option (List ℕ) → Option (List ℕ) → Type 0
AfterAuditFault histories form ScriptFault.Read old new = ⊥
AfterAuditFault histories form ScriptFault.TooLong old new = ⊥
AfterAuditFault histories form ScriptFault.Write old new = AppendsAuditPrefix histories form old new
AfterAuditFault histories form ScriptFault.NoMemory old new = Keeps old new
AfterAuditFault histories form ScriptFault.Full old new = ⊥
AfterAuditFault histories form ScriptFault.GateShut old new = ⊥
AfterAuditFault histories form ScriptFault.ThreadRefused old new = ⊥
