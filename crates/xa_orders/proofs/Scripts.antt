-- A script, line by line, and the text of its outcomes.
use Rattle.std.proofs.Common.{◌≡◌, ℕ, ◌+◌, ◌<◌, ◌≤◌, ◌==◌, true, Option, Result, List, [], ◌∷◌, ◌++◌, length, drop}
use Rattle.std.proofs.Common.{get_or, codes, decimal, ap, arith, append_assoc, append-nil, IfSome, IfOk, IfErr, OnOk}
use Rattle.std.proofs.{Common.OnErr, lemmas.{List.{drop_more, drop_all}, Grind.common_steps}}
use Rattle.std.specs.Io.KnownBytes.{Appends, Consumes, IsAtEnd}
use Rattle.xa_lines.specs.{declared.script_fault.ScriptFault.ScriptFault, Script.lines_of, Transcript.AppendsPrefix}
use Rattle.xa_orders.specs.{declared.{ended.Ended.Ended, outcome.Outcome.Outcome}, Scripts.{Reading, read_more}}
use Rattle.xa_orders.specs.Scripts.{read_lines, sessions_text, outcome_lines, outcomes_text, IsExploredText}
use Rattle.xa_orders.specs.Scripts.{AppendsExplored, AfterExploreFault}

-- the loop over lines: one more was cut off and read, and those behind it are left to read
pub read_lines_cut : (read : Reading) (number : ℕ) (text line rest : List ℕ) → lines_of text ≡ line ∷ lines_of rest
    → read_lines read number (lines_of text) ≡ read_lines (read_more read number line) (number + 1) (lines_of rest)
unfolding read_lines
read_lines_cut read number text line rest cut = ap (read_lines read number) cut

-- the loop over lines ends: no line is left, and no more is read
pub read_lines_end : (read : Reading) (number : ℕ) (text : List ℕ) → (length text == 0) ≡ true
    → read_lines read number (lines_of text) ≡ read
unfolding read_lines lines_of
read_lines_end read number text empty = grind (arith, common_steps)

-- the loop over an order: the number of one session more is written, and those behind it are left
pub sessions_step : (order : List ℕ) (index session : ℕ) (whole out one two : List ℕ) → index < length order
    → session ≡ get_or order index session
    → one ≡ out ++ codes " " → two ≡ one ++ decimal session
    → whole ≡ out ++ sessions_text (drop index order)
    → whole ≡ two ++ sessions_text (drop (index + 1) order)
unfolding sessions_text
sessions_step order index session whole out one two below at first second before =
    grind (arith, append_assoc, decimal, drop_more)

-- past the last session nothing is written
pub sessions_end : (order : List ℕ) (index : ℕ) → length order ≤ index → sessions_text (drop index order) ≡ []
unfolding sessions_text
sessions_end order index past = ap sessions_text (drop_all index order past)

-- the loop over outcomes: the text of one more is written, and those behind it are left
pub outcomes_step : (outcomes : List Outcome) (index number : ℕ) (one : Outcome) (whole out more : List ℕ)
    → index < length outcomes
    → one ≡ get_or outcomes index one → number ≡ index + 1
    → more ≡ out ++ outcome_lines number one
    → whole ≡ out ++ outcomes_text number (drop index outcomes)
    → whole ≡ more ++ outcomes_text (number + 1) (drop (index + 1) outcomes)
unfolding outcomes_text
outcomes_step outcomes index number one whole out more below at count appended before =
    grind (arith, append_assoc, drop_more)

-- past the last outcome nothing is written
pub outcomes_end : (outcomes : List Outcome) (index number : ℕ) → length outcomes ≤ index
    → outcomes_text number (drop index outcomes) ≡ []
unfolding outcomes_text
outcomes_end outcomes index number past = ap (outcomes_text number) (drop_all index outcomes past)

-- what holds of the bytes that were read up to the end holds of all that the reader had
read_whole : (P : List ℕ → Type 0) (input rest : Option (List ℕ)) (given : List ℕ) → Consumes input rest given
    → IsAtEnd rest → P given → IfSome input P
read_whole P input rest given read end p = grind (arith, append-nil)

-- if the input was read and the whole text was written, what `explore_script` promises after Ok holds (`written`)
pub explored_written : (limit : ℕ) (result : Result Ended ScriptFault) (ended : Ended) (text given : List ℕ)
    (input rest old new : Option (List ℕ))
    → Consumes input rest given → IsAtEnd rest → IsExploredText given limit ended text
    → IfOk result (λ e. e ≡ ended) → OnOk result (Appends old new text)
    → IfOk result (λ e. IfSome input (λ t. AppendsExplored limit e t old new))
explored_written limit result ended text given input rest old new read end is same written = grind (arith, read_whole)

-- if the input was read, and writing failed after a prefix of the text, what `explore_script` promises after that fault
-- holds (`fault`)
pub explored_faulted : (limit : ℕ) (result : Result Ended ScriptFault) (ended : Ended) (text given : List ℕ)
    (input rest old new : Option (List ℕ))
    → Consumes input rest given → IsAtEnd rest → IsExploredText given limit ended text
    → IfErr result (λ f. f ≡ ScriptFault.Write) → OnErr result (AppendsPrefix old new text)
    → IfErr result (λ f. AfterExploreFault limit f input old new)
explored_faulted limit result ended text given input rest old new read end is fault prefix = grind (arith, read_whole)
