-- What is written for several records that are judged in one call, and how that ends.
use Rattle.std.specs.Prelude.{◌≡◌, ◌+◌, ◌++◌, ◌∷◌, [], if◌then◌else◌, ℕ, Bool, Option, Some, None, List}
use Rattle.std.specs.Prelude.{length, map, IfSome}
use Rattle.std.specs.Io.KnownBytes.{Keeps, Appends}
use Rattle.xa_lines.specs.{Transcript.AppendsPrefix, declared.script_fault.ScriptFault.{ScriptFault, TheVariants.Write}}
use Rattle.xa_server.specs.State.{State}
use Rattle.xa_record.specs.declared.{allowance.Allowance.Allowance, asked.Asked.Asked}
use Rattle.xa_script.specs.{Listing.{worse, worst_from, piece, pieces, heading, is_list}, declared.listed.Listed.Listed}
use Rattle.xa_script.specs.Status.{AppendsVerdict, asked_of, strict_status}
use Rattle.xa_script.specs.declared.{command.Job.Job, command_line.CommandLine.CommandLine}

-- a status and a text are what judging this record alone comes to
abbrev pub IsVerdictOn : State → List Allowance → Asked → (seen : List ℕ) → ℕ × List ℕ → Type 0
IsVerdictOn base allowances asked seen verdict =
    AppendsVerdict base allowances asked verdict.0 (Some seen) (Some []) (Some verdict.1)

-- one record more was judged. If what its reader held is known, its verdict is right, what is written for it comes
-- behind what was written for those before, and the status is the worse of theirs and its own
pub record ListsOne (base : State) (allowances : List Allowance) (asked : Asked) (seen : Option (List ℕ))
    (name : List ℕ) (old new : Listed) : Type 0 where
  pub count : new.count ≡ old.count + 1
  pub tap : new.tap ≡ old.tap
  pub taken : IfSome seen (λ text. (verdict : ℕ × List ℕ) × IsVerdictOn base allowances asked text verdict
      × (new.status ≡ worse old.status verdict.0)
      × (new.text.items ≡ old.text.items ++ piece old.tap (old.count + 1) name verdict))

-- a verdict on each record, in the same order
abbrev pub AreVerdicts : State → List Allowance → Asked → (records : List (List ℕ)) → List (ℕ × List ℕ) → Type 0
AreVerdicts base allowances asked [] [] = Unit {0}
AreVerdicts base allowances asked [] (verdict ∷ verdicts) = ⊥
AreVerdicts base allowances asked (seen ∷ records) [] = ⊥
AreVerdicts base allowances asked (seen ∷ records) (verdict ∷ verdicts) =
    IsVerdictOn base allowances asked seen verdict × AreVerdicts base allowances asked records verdicts

-- each record has a name and a right verdict; the text has a piece for each, behind what comes before the first; and
-- the status is the worst of the verdicts'
pub record IsListing (base : State) (allowances : List Allowance) (asked : Asked) (tap : Bool) (before : List ℕ)
    (names records : List (List ℕ)) (status : ℕ) (text : List ℕ) : Type 0 where
  pub verdicts : List (ℕ × List ℕ)
  pub named : length names ≡ length records
  pub are : AreVerdicts base allowances asked records verdicts
  pub counts : status ≡ worst_from 0 (map (λ verdict. verdict.0) verdicts)
  pub text_is : text ≡ before ++ pieces tap 1 names verdicts

-- the writer got what is written for the records, and the status is the worst of theirs
abbrev pub AppendsListing : State → List Allowance → Asked → (tap : Bool) → (names records : List (List ℕ))
    → (status : ℕ) → Option (List ℕ) → Option (List ℕ) → Type 0
AppendsListing base allowances asked tap names records status old new =
    (text : List ℕ) × IsListing base allowances asked tap (heading tap (length names)) names records status text
    × Appends old new text

-- what is written for several records; with `--strict` the status is 8 instead of 0 if `faulty`. That says
-- whether a line was faulty, but isn't tied to the records here: it may be either
abbrev pub ListsAll : State → List Allowance → Asked → (strict tap : Bool) → (names records : List (List ℕ))
    → (status : ℕ) → Option (List ℕ) → Option (List ℕ) → Type 0
ListsAll base allowances asked strict tap names records status old new =
    (faulty : Bool) × (worst : ℕ) × (status ≡ strict_status strict faulty worst)
    × AppendsListing base allowances asked tap names records worst old new

-- what a fault leaves in the writer: a prefix of what is written for the records if a write failed, else nothing
abbrev pub AfterListing : State → List Allowance → Asked → (tap : Bool) → (names records : List (List ℕ)) → ScriptFault
    → Option (List ℕ) → Option (List ℕ) → Type 0
AfterListing base allowances asked tap names records Write old new =
    (status : ℕ) × (text : List ℕ)
    × IsListing base allowances asked tap (heading tap (length names)) names records status text
    × AppendsPrefix old new text
AfterListing base allowances asked tap names records fault old new = Keeps old new

-- what is asked of judging, if the job is to judge
abbrev pub judging_asked : (json : Bool) → Job → Option Asked
judging_asked json (Job.Judge limit explain strict shrink) = Some (asked_of limit explain json strict shrink)
judging_asked json job = None

-- what is asked of judging, if verdicts are listed: several records are named, or TAP is asked for
abbrev pub listing_asked : CommandLine → Option Asked
listing_asked line =
    if is_list line.manner.tap (length line.names.items) then judging_asked line.manner.json line.job else None
