-- Which faults a command line has.
use Rattle.std.proofs.Common.{◌≡◌, ◌∙◌, true, [], refl, sym, ap, subst, inl, List, Option, Result, Err}
use Rattle.std.specs.Option.{IsSomeAnd}
use Rattle.clap.specs.Words.{App, Text, HasKind, HasMatchesOf, Row, fault_of, is_simple, is_simple_and_free}
use Rattle.clap.specs.{Words.{subcommand_of, subcommand_rows_of}, declared.error.Error.Error}
use Rattle.clap.{specs.declared.parser.matches.ArgMatches.ArgMatches, proofs.OnLiterals.clap_on_literals}
use Rattle.xa_script.specs.{CommandLine.{script_app, IsJob, Names}, Manner.{IsLine, ReadsLine, Says}}
use Rattle.xa_script.specs.declared.{command.Job.Job, command_line.CommandLine.CommandLine}

-- the program's command line is simple, and no option of it has a rule on another
simple_and_free : is_simple_and_free script_app ≡ true
unfolding clap_on_literals
simple_and_free = refl

-- the program's command line is simple: it is one of those of which `clap` says which matches they have
simple : is_simple script_app ≡ true
unfolding clap_on_literals
simple = refl

-- the subcommand that was found is the one that the words name
pub found_as_named : (app : App) (words : List Text) (m : ArgMatches) → app ≡ script_app → HasMatchesOf app words m
    → subcommand_rows_of m ≡ subcommand_of script_app words
found_as_named app words m is has = (has (ap is_simple is ∙ simple)).1 ∙ ap (λ (a : App). subcommand_of a words) is

-- if what was found for the subcommand is a command line, the words say it
pub said : (words : List Text) (m : ArgMatches) (line : CommandLine)
    → subcommand_rows_of m ≡ subcommand_of script_app words
    → IsSomeAnd (subcommand_rows_of m) (IsLine line) → Says words line
said words m line is found = let P : Option (Text × List Row) → Type 0 = λ s. IsSomeAnd s (IsLine line) in
    subst P is found

-- if the words of a command line name a job, its matches are that job's
pub found : (words : List Text) (m : ArgMatches) (job : Job) → subcommand_rows_of m ≡ subcommand_of script_app words
    → Names words job
    → IsSomeAnd (subcommand_rows_of m) (IsJob job)
found words m job is names = let P : Option (Text × List Row) → Type 0 = λ s. IsSomeAnd s (IsJob job) in
    subst P (sym is) names

-- if `app` is the program's command line, and an error has the kind of the words' fault (`HasKind`) provided that `app`
-- is simple and has no rules between options, it has the kind of their fault for the program
pub kind_of_script : (app : App) (words : List Text) (error : Error) → app ≡ script_app
    → (is_simple_and_free app ≡ true → HasKind (fault_of app words) error)
    → HasKind (fault_of script_app words) error
kind_of_script app words error is kinds =
    let P : App → Type 0 = λ a. HasKind (fault_of a words) error in
    subst P is (kinds (ap is_simple_and_free is ∙ simple_and_free))

-- if `app` is the program's command line, and the words have no fault provided that `app` is simple and has no rules
-- between options, they have none for the program
pub no_fault_of_script : (app : App) (words : List Text) → app ≡ script_app
    → (is_simple_and_free app ≡ true → fault_of app words ≡ [])
    → fault_of script_app words ≡ []
no_fault_of_script app words is none = let P : App → Type 0 = λ a. fault_of a words ≡ [] in
    subst P is (none (ap is_simple_and_free is ∙ simple_and_free))

-- if the answer is an error that is passed on, which has the kind of the words' fault or says that memory ran out, the
-- command line is read as it is to be (`ReadsLine`)
pub refused_as : (words : List Text) (answer : Result CommandLine Error) (passed error : Error) → answer ≡ Err passed
    → passed ≡ error
    → HasKind (fault_of script_app words) error → ReadsLine words answer
refused_as words answer passed error is same kinds =
    let P : Result CommandLine Error → Type 0 = λ r. ReadsLine words r in subst P (sym (is ∙ ap Err same)) (inl kinds)
