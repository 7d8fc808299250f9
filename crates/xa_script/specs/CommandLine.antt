-- The command line of the program.
use Rattle.std.specs.Prelude.{◌≡◌, ◌≢◌, ◌≤◌, ℕ, Bool, true, false, Option, Some, None, IfSome, List, [], ◌∷◌, codes}
use Rattle.std.specs.{Option.IsSomeAnd, Str.Parse.{IsNumeral, digits_value, without_leading_plus}}
use Rattle.clap.specs.Words.{App, Text, Row, Rule, new_app, new_rule, one_of, subcommand_of, with_rule, with_subcommand}
use Rattle.clap.specs.{Simple.on_top, Lexer.usize_max}
use Rattle.clap.specs.declared.builder.{action.ArgAction.ArgAction, command.Command.{Command, TheViews.out-Command}}
use Rattle.decision_log.specs.Opens.{IsCapacity}
use Rattle.xa_script.specs.declared.{schedule.Schedule.Schedule, command.Job.Job, options.{Offer.Offer, Task.Task}}
use Rattle.clap.specs.declared.builder.value_parser.ValueParser.TheVariants as parser

-- `--NAME`, which has no value
abbrev pub flag_rule : Text → Rule
flag_rule name = record (new_rule name) { long = Some name; action = Some ArgAction.SetTrue }

-- an option `--NAME FILE`, whose value may be any text
abbrev pub file_rule : Text → Rule
file_rule name = record (new_rule name) { long = Some name; value_names = 1 }

-- `--NAME N`, whose N is a number from `least` to `most`, with these defaults
abbrev pub number_rule : Text → (least most : ℕ) → (defaults : List Text) → Rule
number_rule name least most defaults =
    record (file_rule name) { parser = Some (parser.Unsigned least most); defaults = defaults }

-- an argument `NAME..`, one text or more if it is given; whether it has to be
abbrev pub names_rule : Text → (required : Bool) → Rule
names_rule name required =
    record (new_rule name)
    { value_names = 1; range = Some (record { start_inclusive = 1; end_inclusive = usize_max }); required = required }

-- the options of every job that reads one input, `[--file FILE] [--verbose] [--strict] [--text]`, behind its own
abbrev pub common_rules : List Rule
common_rules = file_rule (codes "file") ∷ flag_rule (codes "verbose") ∷ flag_rule (codes "strict")
    ∷ flag_rule (codes "text") ∷ []

-- `--capacity N`, a number from 1 to 1024, and 1024 where it isn't given
abbrev pub capacity_rule : Rule
capacity_rule = number_rule (codes "capacity") 1 1024 (codes "1024" ∷ [])

-- `--stores N`, a number from 1 to 16, and 3 where it isn't given
abbrev pub stores_rule : Rule
stores_rule = number_rule (codes "stores") 1 16 (codes "3" ∷ [])

-- `--limit N`, a number from 1 to 1,000,000, and 100,000 where it isn't given
abbrev pub limit_rule : Rule
limit_rule = number_rule (codes "limit") 1 1000000 (codes "100000" ∷ [])

-- each job's name and its options and arguments
abbrev pub job_rules : List (Text × List Rule)
job_rules =
    (codes "run", common_rules)
    ∷ (
      codes "race",
      capacity_rule ∷ flag_rule (codes "together")
          ∷ number_rule (codes "shuffle") 0 18446744073709551615 [] ∷ flag_rule (codes "renew")
          ∷ number_rule (codes "runs") 1 1000000 [] ∷ flag_rule (codes "json") ∷ common_rules,
    )
    ∷ (codes "coordinate", stores_rule ∷ capacity_rule ∷ flag_rule (codes "fixed") ∷ common_rules)
    ∷ (codes "stops", stores_rule ∷ capacity_rule ∷ flag_rule (codes "json") ∷ common_rules)
    ∷ (codes "serve", common_rules)
    ∷ (codes "show", common_rules)
    ∷ (
      codes "judge",
      names_rule (codes "name") false ∷ limit_rule ∷ flag_rule (codes "explain")
          ∷ flag_rule (codes "json") ∷ flag_rule (codes "quiet") ∷ file_rule (codes "allow") ∷ file_rule (codes "from")
          ∷ flag_rule (codes "tap") ∷ flag_rule (codes "strict-calls") ∷ flag_rule (codes "shrink")
          ∷ flag_rule (codes "follow") ∷ common_rules,
    )
    ∷ (codes "explore", limit_rule ∷ flag_rule (codes "json") ∷ common_rules)
    ∷ (
      codes "audit",
      names_rule (codes "name") true ∷ flag_rule (codes "json") ∷ flag_rule (codes "quiet")
          ∷ flag_rule (codes "verbose") ∷ flag_rule (codes "text") ∷ [],
    )
    ∷ []

-- a command with these options and arguments behind its own
abbrev pub with_rules : App → List Rule → App
with_rules app [] = app
with_rules app (rule ∷ rules) = with_rules (with_rule app rule) rules

-- a command with these jobs behind its own
abbrev pub with_jobs : App → List (Text × List Rule) → App
with_jobs app [] = app
with_jobs app (job ∷ jobs) = with_jobs (with_subcommand app (with_rules (new_app job.0) job.1).top) jobs

-- the command without its subcommands: one is required, unless help or the version is asked for
abbrev pub bare_app : App
bare_app = on_top (λ shape. record shape { subcommand_required = true; has_version = true })
    (new_app (codes "xa_script"))

-- `xa_script` with its jobs
abbrev pub script_app : App
script_app = with_jobs bare_app job_rules

-- no option of the command is global, that is, an option of its subcommands too
abbrev pub IsLocal : Command → Type 0
IsLocal command = (out-Command command).has_globals ≡ false

-- an option or an argument as the program lists it
abbrev pub rule_for : Offer → Rule
rule_for (Offer.Flag name help) = flag_rule name.now
rule_for (Offer.File name help) = file_rule name.now
rule_for (Offer.Number name value least most help) = number_rule name.now least most []
rule_for (Offer.Default name least most default help) = number_rule name.now least most (default.now ∷ [])
rule_for (Offer.Names name value required help) = names_rule name.now required

-- a command with these options and arguments, as the program lists them, behind its own
abbrev pub with_offers : App → List Offer → App
with_offers app [] = app
with_offers app (offer ∷ offers) = with_offers (with_rule app (rule_for offer)) offers

-- a job as the program lists it
abbrev pub app_for : Task → App
app_for task = with_offers (with_offers (new_app task.name.now) task.own.now) task.shared.now

-- a command with these jobs, as the program lists them, behind its own
abbrev pub with_tasks : App → List Task → App
with_tasks app [] = app
with_tasks app (task ∷ tasks) = with_tasks (with_subcommand app (app_for task).top) tasks

-- the text of a value is this number, which is from `least` to `most`
abbrev pub IsNumberText : (least most : ℕ) → ℕ → Text → Type 0
IsNumberText least most number text =
    IsNumeral 10 (without_leading_plus text) × (number ≡ digits_value 10 (without_leading_plus text))
    × (least ≤ number) × (number ≤ most)

-- the value of an option is this number, or it has none from `least` to `most`
abbrev pub IsNumberOf : (least most : ℕ) → (value : Option Text) → Option ℕ → Type 0
IsNumberOf least most value None = (number : ℕ) → IsSomeAnd value (IsNumberText least most number) → ⊥
IsNumberOf least most value (Some number) = IsSomeAnd value (IsNumberText least most number)

-- from 1 to 16 stores (own rule)
abbrev pub IsStoreCount : ℕ → Type 0
IsStoreCount stores = (1 ≤ stores) × (stores ≤ 16)

-- from 1 to 1,000,000 configurations, ways or runs (own rule)
abbrev pub IsLimit : ℕ → Type 0
IsLimit limit = (1 ≤ limit) × (limit ≤ 1000000)

-- how the sessions come to their lines, by the values of `--together` and `--shuffle`; with a seed `--together`
-- changes nothing
abbrev pub IsScheduleOf : (together shuffle : Option Text) → Schedule → Type 0
IsScheduleOf together shuffle Schedule.Freely =
    IsNumberOf 0 18446744073709551615 shuffle None × (together ≢ Some (codes "true"))
IsScheduleOf together shuffle Schedule.Together =
    IsNumberOf 0 18446744073709551615 shuffle None × (together ≡ Some (codes "true"))
IsScheduleOf together shuffle (Schedule.Shuffled seed) = IsNumberOf 0 18446744073709551615 shuffle (Some seed)

-- whether an option that takes no value is given: `clap` then has the text `true` for it
abbrev pub IsFlagOf : (flag : Option Text) → Bool → Type 0
IsFlagOf flag true = flag ≡ Some (codes "true")
IsFlagOf flag false = flag ≢ Some (codes "true")

-- the name of a job's subcommand
abbrev pub name_of : Job → Text
name_of Job.Run = codes "run"
name_of (Job.Race capacity schedule renews runs) = codes "race"
name_of (Job.Coordinate stores capacity fixed) = codes "coordinate"
name_of Job.Serve = codes "serve"
name_of Job.Show = codes "show"
name_of (Job.Judge limit explain strict shrink) = codes "judge"
name_of (Job.Explore limit) = codes "explore"
name_of (Job.Stops stores) = codes "stops"
name_of Job.Audit = codes "audit"

-- the values of the options say this job
abbrev pub HasOptions : Job → List Row → Type 0
HasOptions Job.Run rows = Unit {0}
HasOptions (Job.Race capacity schedule renews runs) rows =
    IsNumberOf 1 1024 (one_of (codes "capacity") rows) (Some capacity)
    × IsScheduleOf (one_of (codes "together") rows) (one_of (codes "shuffle") rows) schedule
    × IsFlagOf (one_of (codes "renew") rows) renews × IsNumberOf 1 1000000 (one_of (codes "runs") rows) runs
HasOptions (Job.Coordinate stores capacity fixed) rows =
    IsNumberOf 1 16 (one_of (codes "stores") rows) (Some stores)
    × IsNumberOf 1 1024 (one_of (codes "capacity") rows) (Some capacity)
    × IsFlagOf (one_of (codes "fixed") rows) fixed
HasOptions Job.Serve rows = Unit {0}
HasOptions Job.Show rows = Unit {0}
HasOptions (Job.Judge limit explain strict shrink) rows =
    IsNumberOf 1 1000000 (one_of (codes "limit") rows) (Some limit)
    × IsFlagOf (one_of (codes "explain") rows) explain
    × IsFlagOf (one_of (codes "strict-calls") rows) strict × IsFlagOf (one_of (codes "shrink") rows) shrink
HasOptions (Job.Explore limit) rows = IsNumberOf 1 1000000 (one_of (codes "limit") rows) (Some limit)
HasOptions (Job.Stops stores) rows = IsNumberOf 1 16 (one_of (codes "stores") rows) (Some stores)
HasOptions Job.Audit rows = Unit {0}

-- the job of a subcommand, with what `clap` found for its arguments
abbrev pub IsJob : Job → Text × List Row → Type 0
IsJob job found = (found.0 ≡ name_of job) × HasOptions job found.1

-- the words name this job, as `clap` matches them
abbrev pub Names : List Text → Job → Type 0
Names words job = IsSomeAnd (subcommand_of script_app words) (IsJob job)

-- a log can have the capacity, there are 1 to 16 stores, and a limit and a number of runs are from 1 to 1,000,000
abbrev pub CanBeDone : Job → Type 0
CanBeDone Job.Run = Unit {0}
CanBeDone (Job.Race capacity schedule renews runs) = IsCapacity capacity × IfSome runs IsLimit
CanBeDone (Job.Coordinate stores capacity fixed) = IsStoreCount stores × IsCapacity capacity
CanBeDone Job.Serve = Unit {0}
CanBeDone Job.Show = Unit {0}
CanBeDone (Job.Judge limit explain strict shrink) = IsLimit limit
CanBeDone (Job.Explore limit) = IsLimit limit
CanBeDone (Job.Stops stores) = IsStoreCount stores
CanBeDone Job.Audit = Unit {0}

-- the job is to audit
abbrev pub audits : Job → Bool
audits Job.Audit = true
audits job = false

-- the job reads one input: it isn't to audit
abbrev pub ReadsInput : Job → Type 0
ReadsInput job = audits job ≡ false
