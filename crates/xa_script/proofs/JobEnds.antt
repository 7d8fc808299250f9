-- How a command line's job ends, and what it leaves.
use Rattle.std.proofs.Common.{◌≡◌, ◌∷◌, ◌++◌, [], ℕ, Bool, false, List, Option, Some, None, Result, Ok, Err, map}
use Rattle.std.proofs.Common.{IfOk, IfErr, MatchResult, subst}
use Rattle.xa_lines.specs.declared.script_fault.ScriptFault.{ScriptFault}
use Rattle.xa_server.specs.State.{State}
use Rattle.xa_record.specs.declared.{allowance.Allowance.Allowance, asked.Asked.Asked}
use Rattle.xa_script.specs.Jobs.{HasEndedBy, HasReadOne}
use Rattle.xa_script.specs.declared.command_line.CommandLine.{CommandLine}

-- what holds after Ok, and after a fault, for all lists of texts of which `Are` holds, holds for these histories if
-- `Are` does
pub of_histories : {A F : Type 0} (end : Result A F) (histories : List (List ℕ)) (Are : List (List ℕ) → Type 0)
    (P : List (List ℕ) → A → Type 0) (Q : List (List ℕ) → F → Type 0)
    → IfOk end (λ status. (texts : List (List ℕ)) → Are texts → P texts status)
    → IfErr end (λ fault. (texts : List (List ℕ)) → Are texts → Q texts fault)
    → Are histories → MatchResult end (P histories) (Q histories)
of_histories (Ok status) histories Are P Q well fails are = well histories are
of_histories (Err fault) histories Are P Q well fails are = fails histories are

-- if the last of some inputs is the only one, the one text is what it holds
only_text : {S : Type 0} (remaining : S → Option (List ℕ)) (rest : List S) (input : S) (text : List ℕ)
    → map remaining (rest ++ input ∷ []) ≡ Some text ∷ [] → remaining input ≡ Some text
only_text remaining [] input text are = cc
only_text remaining (first ∷ []) input text are = cc
only_text remaining (first ∷ next ∷ rest) input text are = cc

-- a job that read the last of its inputs has ended as the command line asks, if that is the only one
pub one_ended : {S : Type 0} (remaining : S → Option (List ℕ)) (rest all : List S) (input : S) (line : CommandLine)
    (base : State) (allowances : List Allowance) (names texts : List (List ℕ)) (old new : Option (List ℕ))
    (result : Result ℕ ScriptFault) → all ≡ rest ++ input ∷ [] → map remaining all ≡ map Some texts
    → HasReadOne line base allowances (remaining input) old new result
    → HasEndedBy false None line base allowances names texts old new result
one_ended remaining rest all input line base allowances names [] old new result is are ended = tt
one_ended remaining rest all input line base allowances names (text ∷ []) old new result is are ended =
    let own : map remaining (rest ++ input ∷ []) ≡ Some text ∷ [] =
    subst (λ (inputs : List _). map remaining inputs ≡ Some text ∷ []) is are in
    subst (λ (o : Option (List ℕ)). HasReadOne line base allowances o old new result)
    (only_text remaining rest input text own) ended
one_ended remaining rest all input line base allowances names (text ∷ next ∷ texts) old new result is are ended = tt

-- a job whose inputs are none has ended as the command line asks, since that says nothing
pub none_ended : {S : Type 0} (remaining : S → Option (List ℕ)) (all : List S) (line : CommandLine)
    (base : State) (allowances : List Allowance) (names texts : List (List ℕ)) (old new : Option (List ℕ))
    (result : Result ℕ ScriptFault) → all ≡ [] → map remaining all ≡ map Some texts
    → HasEndedBy false None line base allowances names texts old new result
none_ended remaining all line base allowances names [] old new result is are = tt
none_ended remaining all line base allowances names (text ∷ []) old new result is are = cc
none_ended remaining all line base allowances names (text ∷ next ∷ texts) old new result is are = tt

-- how a command line's job has ended, by what it is
pub ended_by : (audits : Bool) (listing : Option Asked) (is_audit : Bool) (asked : Option Asked) (line : CommandLine)
    (base : State) (allowances : List Allowance) (names texts : List (List ℕ)) (old new : Option (List ℕ))
    (result : Result ℕ ScriptFault) → audits ≡ is_audit → listing ≡ asked
    → HasEndedBy is_audit asked line base allowances names texts old new result
    → HasEndedBy audits listing line base allowances names texts old new result
ended_by audits listing is_audit asked line base allowances names texts old new result is said ended =
    rw (is, said) ended
