-- What a script gives to a race, line by line.
use Rattle.std.proofs.Common.{◌≡◌, ℕ, zero, suc, ◌+◌, ◌-◌, ◌<◌, ◌≤◌, ◌==◌, max, true, false, Bool, cond, Some, None}
use Rattle.std.proofs.Common.{Result, Err, List, [], ◌∷◌, ◌++◌, length, map, get_or, refl, ap, sym, ◌∙◌, arith}
use Rattle.std.{proofs.{Common.append-nil, lemmas.Bool.Decides.nat_tests}, specs.Option.option_to_list}
use Rattle.std.specs.Prelude.{slice_set, OnOk}
use Rattle.xa_xid.specs.declared.statement.Statement.{Statement}
use Rattle.xa_statement.specs.{Reading.{read_of, seen_of}, declared.syntax_fault.SyntaxFault.SyntaxFault}
use Rattle.xa_lines.specs.Script.{Given, lines_of, line_of}
use Rattle.xa_races.specs.{declared.given.RaceScript.RaceScript, Race.{fault_text, faults_text, last_session}}
use Rattle.xa_races.specs.Race.{statements_of, part_at, Gains, TakesLine, HasRead, statement_read}
use Rattle.xa_races.proofs.{RaceRuns.map_push, Race.{faults_text-line, faults_text-end, last_session-line}}
use Rattle.xa_races.proofs.Race.{last_session-end, statements_of-line, statements_of-end, moved, moved_whole}

-- an empty list behind others changes nothing: past the last list there is the empty one anyway
pub part_at-more : {A : Type 0} (lists : List (List A)) (index : ℕ)
    → part_at (lists ++ [] ∷ []) index ≡ part_at lists index
part_at-more [] zero = refl
part_at-more [] (suc index) = refl
part_at-more (list ∷ lists) zero = refl
part_at-more (list ∷ lists) (suc index) = part_at-more lists index

-- lists that are all empty still are with an empty one behind them
pub empty_more : {V A : Type 0} (items : V → List A) (lists new : List V) (one : V) → new ≡ lists ++ one ∷ []
    → items one ≡ []
    → ((index : ℕ) → part_at (map items lists) index ≡ []) → (index : ℕ) → part_at (map items new) index ≡ []
empty_more items lists new one now is empty index = grind (arith, map_push, part_at-more)

-- if an item is put behind the list at a place, that list gains it, and the others gain nothing
pub gains_at : {V A : Type 0} (items : V → List A) (lists : List V) (place : ℕ) (list d : V) (x : A)
    → place < length lists
    → items list ≡ items (get_or lists place d) ++ x ∷ []
    → (index : ℕ)
    → part_at (map items (slice_set lists place list)) index ≡ part_at (map items lists) index
    ++ option_to_list (cond (place == index) (Some x) None)
gains_at items [] place list d x below is index = absurd (omega arith)
gains_at items (one ∷ lists) zero list d x below is zero = is
gains_at items (one ∷ lists) zero list d x below is (suc index) =
    let off : (0 == suc index) ≡ false = grind (arith, nat_tests) in
    rw off (sym (append-nil (part_at (map items lists) index)))
gains_at items (one ∷ lists) (suc place) list d x below is zero =
    let off : (suc place == 0) ≡ false = grind (arith, nat_tests) in rw off (sym (append-nil (items one)))
gains_at items (one ∷ lists) (suc place) list d x below is (suc index) =
    let same : (suc place == suc index) ≡ (place == index) = grind (arith, nat_tests) in
    rw same (gains_at items lists place list d x (omega (arith, below)) is index)

-- a session's list is at `index` if its number is `index + 1`: sessions are counted from 1 and their lists from 0
same_place : (session index : ℕ) → 1 ≤ session → (session - 1 == index) ≡ (session == index + 1)
same_place session index some = grind (arith, nat_tests)

-- if a statement is put behind a session's list, that session gains it, and the others gain nothing
pub gains : {V : Type 0} (items : V → List Statement) (lists new : List V) (session place : ℕ) (list d : V)
    (statement : Statement) → 1 ≤ session
    → place ≡ session - 1 → place < length lists → new ≡ slice_set lists place list
    → items list ≡ items (get_or lists place d) ++ statement ∷ []
    → Gains (λ other. cond (session == other) (Some statement) None) (map items lists) (map items new)
gains items lists new session place list d statement some at below now is index =
    ap (λ l. part_at (map items l) index) now ∙ gains_at items lists place list d statement below is index
    ∙ ap (λ b. part_at (map items lists) index ++ option_to_list (cond b (Some statement) None))
    (ap (λ n. n == index) at ∙ same_place session index some)

-- if the reader of statements reports this fault, reading stopped at the place that the fault names
pub unread_at : (read : Result Statement ℕ) (fault : SyntaxFault) → Err fault ≡ seen_of read → read ≡ Err fault.at
unread_at read fault is = grind (arith)

-- a line that can't be read gives no statement to any session
given_nothing : (b : Bool) (read : Result Statement ℕ) (place : ℕ) → read ≡ Err place
    → cond b (statement_read read) None ≡ None
given_nothing b read place is = grind (arith)

-- a line whose statement isn't read adds one fault to the script, and no statement
pub takes_unread : {A E : Type 0} (result : Result A E) (number session : ℕ) (text : List ℕ) (place : ℕ)
    (old new : RaceScript) → read_of text ≡ Err place
    → OnOk result (new.faults.items ≡ old.faults.items ++ fault_text number (Some place))
    → new.greatest ≡ max old.greatest session
    → new.lists ≡ old.lists → OnOk result (TakesLine number (Given session text) old new)
takes_unread result number session text place old new unread listed greatest same =
    grind (arith, append-nil, given_nothing, option_to_list)

-- what was read of a script before line `number` (`given`) and what is left (`rest`) have together its faults, its
-- greatest session and each session's statements
pub record IsReadUpTo (script rest : List ℕ) (number : ℕ) (given : RaceScript) : Type 0 where
  pub faults : faults_text 1 (lines_of script) ≡ given.faults.items ++ faults_text number (lines_of rest)
  pub greatest : last_session (lines_of script) ≡ max given.greatest (last_session (lines_of rest))
  pub lists : (index : ℕ) → statements_of (index + 1) (lines_of script)
      ≡ part_at (map (λ list. list.items) given.lists.items) index ++ statements_of (index + 1) (lines_of rest)

-- without a fault, a session and a statement, what is given is what is read of no lines
pub has_read_nothing : (given : RaceScript) → given.faults.items ≡ [] → given.greatest ≡ 0
    → ((index : ℕ) → part_at (map (λ list. list.items) given.lists.items) index ≡ []) → HasRead [] given
unfolding faults_text last_session statements_of
has_read_nothing given faults greatest empty = record { faults = faults; greatest = greatest; lists = empty }

-- before the first line nothing was read, as the loop over the lines states it
pub read_nothing : (script : List ℕ) (given : RaceScript) → HasRead [] given → IsReadUpTo script script 1 given
unfolding faults_text last_session statements_of
read_nothing script given r = grind (arith)

-- the loop over lines: one was read, and those after it are left
pub read_more : (script rest line lines : List ℕ) (number : ℕ) (given new : RaceScript)
    → lines_of rest ≡ line ∷ lines_of lines
    → TakesLine number (line_of line) given new → IsReadUpTo script rest number given
    → IsReadUpTo script lines (number + 1) new
read_more script rest line lines number given new cut takes r = record {
  faults = moved _ _ _ _ _ _ r.faults (faults_text-line number rest line lines cut) takes.faults;
  greatest = let first = last_session-line rest line lines cut in omega (arith, r.greatest, first, takes.greatest);
  lists = λ index. moved _ _ _ _ _ _ (r.lists index) (statements_of-line (index + 1) rest line lines cut)
      (takes.lists index);
}

-- when no text is left, all lines of the script were read
pub read_all_lines : (script rest : List ℕ) (number : ℕ) (given : RaceScript) → (length rest == 0) ≡ true
    → IsReadUpTo script rest number given
    → HasRead (lines_of script) given
read_all_lines script rest number given empty r =
    grind (arith, faults_text-end, last_session-end, moved_whole, statements_of-end)
