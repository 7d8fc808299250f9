-- What a command line asks for.
use Rattle.std.specs.Prelude.{◌≡◌, ◌≢◌, ◌<◌, ◌⊎◌, ℕ, None, List, [], codes, length, map, unwrap_or, Result}
use Rattle.std.specs.{Prelude.MatchResult, Option.{IsSomeAnd, option_map}}
use Rattle.clap.specs.Words.{HasKind, Row, Text, all_of, fault_of, first_of, one_of, subcommand_of}
use Rattle.clap.specs.declared.error.Error.{Error}
use Rattle.xa_script.specs.{CommandLine.{IsFlagOf, IsJob, Names, script_app}, declared.command.Job.Job}
use Rattle.xa_script.specs.declared.{command_line.CommandLine.CommandLine, manner.Manner.Manner}

-- each file is the value of its option, and each flag is as its option says
abbrev pub IsManner : List Row → Manner → Type 0
IsManner rows manner =
    (option_map (λ name. name.now) manner.file ≡ first_of (codes "file") rows)
    × (option_map (λ name. name.now) manner.allow ≡ first_of (codes "allow") rows)
    × (option_map (λ name. name.now) manner.from ≡ first_of (codes "from") rows)
    × IsFlagOf (one_of (codes "verbose") rows) manner.verbose
    × IsFlagOf (one_of (codes "strict") rows) manner.strict × IsFlagOf (one_of (codes "text") rows) manner.text
    × IsFlagOf (one_of (codes "quiet") rows) manner.quiet × IsFlagOf (one_of (codes "json") rows) manner.json
    × IsFlagOf (one_of (codes "follow") rows) manner.follow × IsFlagOf (one_of (codes "tap") rows) manner.tap

-- what was found for a subcommand is this job, done in this manner; the names are all values of `HISTORY..` or
-- `RECORD..`, in their order, and none for a job that has no such argument
pub record IsLine (line : CommandLine) (found : Text × List Row) : Type 0 where
  pub job : IsJob line.job found
  pub manner : IsManner found.1 line.manner
  pub names : map (λ name. name.now) line.names.items ≡ unwrap_or (all_of (codes "name") found.1) []

-- the words ask for this, as `clap` matches them
abbrev pub Says : List Text → CommandLine → Type 0
Says words line = IsSomeAnd (subcommand_of script_app words) (IsLine line)

-- how many names of files a job takes: an audit 64, any other 1,000
abbrev pub most_names : Job → ℕ
most_names Job.Audit = 64
most_names job = 1000

-- there are more histories or records than that, or one is named beside `--file`
abbrev pub HasExcess : CommandLine → Type 0
HasExcess line = (most_names line.job < length line.names.items)
    ⊎ ((line.names.items ≢ []) × (line.manner.file ≢ None))

-- a command line is read only if `clap` finds no fault in it. Else the error has the kind of its fault, or memory ran
-- out; or the words name no job, or files that it doesn't take
abbrev pub ReadsLine : List Text → Result CommandLine Error → Type 0
ReadsLine words answer =
    MatchResult answer (λ line. fault_of script_app words ≡ [])
    (λ error. HasKind (fault_of script_app words) error ⊎ ((job : Job) → Names words job → ⊥)
    ⊎ ((line : CommandLine) × Says words line × HasExcess line))
