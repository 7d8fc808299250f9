-- What a race returns, as lines that are left at the beginning of its history.
use Rattle.std.proofs.Common.{◌≡◌, ℕ, zero, suc, ◌+◌, ◌<◌, ◌≤◌, Some, List, [], ◌∷◌, length, map, refl, sym, ◌∙◌, subst}
use Rattle.std.proofs.{Common.{inl, inr, arith, add-one}, lemmas.{Bool.cases_lt, Option.{none-some, same_Some}}}
use Rattle.std.{proofs.lemmas.Slice.Zip.AllZip-long, specs.{Prelude.slice_get, List.AllZip}}
use Rattle.xa_xid.specs.declared.statement.Statement.{Statement}
use Rattle.xa_words.specs.Entry.{Entry}
use Rattle.xa_server.specs.State.{State}
use Rattle.decision_log.specs.{declared.known.Known.Known, History.entries_of, Known.{AllOf, newcomer}}
use Rattle.xa_session.specs.declared.answer.Answer.{Answer}
use Rattle.xa_store.specs.{Passes.known_of, Legal.{IsLegal, IsOutcome}, declared.{run.Run.Run, outcome.Outcome.Outcome}}
use Rattle.xa_judge.{specs.Explained.IsSession, proofs.Places.get_within}
use Rattle.nigbaru.specs.Overlapping.{RunLine, Lines, AreFreshRuns, AreLinesOf, IsExplainedOverlap}
use Rattle.nigbaru.proofs.OverlapSchedules.{spoken, overlap_explained}
use Rattle.xa_races.proofs.{Tests.all_at, Histories.{Remains, statements_in, answers_in, entries_of-other}}

-- what holds place by place of two lists holds of their elements at a place
zip_at : {A B : Type 0} (R : A → B → Type 0) (xs : List A) (ys : List B) (place : ℕ) (x : A) (y : B) → AllZip R xs ys
    → slice_get xs place ≡ Some x
    → slice_get ys place ≡ Some y → R x y
zip_at R [] ys place x y all at there = absurd (none-some x at)
zip_at R (a ∷ xs) [] place x y all at there = absurd (none-some y there)
zip_at R (a ∷ xs) (b ∷ ys) zero x y all at there =
    subst (λ v. R v y) (same_Some a x at) (subst (R a) (same_Some b y there) all.0)
zip_at R (a ∷ xs) (b ∷ ys) (suc place) x y all at there = zip_at R xs ys place x y all.1 at there

-- a session whose number is above that of every session with an entry has no entry
none_of : (count session : ℕ) (list : List Entry) → ((place : ℕ) (entry : Entry) → slice_get list place ≡ Some entry
    → entry.session ≤ count) → count < session
    → entries_of session list ≡ []
none_of count session [] within above = refl
none_of count session (entry ∷ list) within above =
    let low : entry.session ≤ count = within 0 entry refl in
    entries_of-other session entry list (λ same. absurd (omega arith))
    ∙ none_of count session list (λ place other at. within (suc place) other at) above

-- if a new session's answers are legal, all lines of its run remain to be laid into the history from place 0 on
run_remains : (base : State) (history : List Entry) (session : ℕ) (known : Known) (statements : List Statement)
    (answers : List Answer) (lines : List RunLine)
    → IsLegal base history known statements answers → known ≡ newcomer session
    → statements_in spoken lines ≡ statements → answers_in spoken lines ≡ answers
    → Remains spoken base history 0 session lines
run_remains base history session known statements answers lines legal fresh given told =
    let new : IsLegal base history (newcomer session) statements answers =
    subst (λ (k : Known). IsLegal base history k statements answers) fresh legal in
    let own : IsLegal base history (newcomer session) (statements_in spoken lines)
    (answers_in spoken lines) =
    subst (λ (s : List Statement). IsLegal base history (newcomer session) s (answers_in spoken lines)) (sym given)
    (subst (λ (a : List Answer). IsLegal base history (newcomer session) statements a) (sym told) new) in
    record { answered = own.answered; mine = own.mine }

-- a session without lines and without entries has nothing left at the history's beginning
no_lines : (base : State) (history : List Entry) (session : ℕ) (lines : List RunLine) → lines ≡ []
    → entries_of session history ≡ []
    → Remains spoken base history 0 session lines
no_lines base history session lines none no_entry =
    subst (Remains spoken base history 0 session) (sym none) (record { answered = tt; mine = no_entry })

-- the outcome of a race of fresh runs, whose history has entries of their sessions alone, and the lines of the runs
module _ (base : State) (runs : List Run) (outcome : Outcome) (lines : Lines) (legal : IsOutcome base runs outcome)
    (fresh : AreFreshRuns runs)
    (own : AllOf (length runs) outcome.history.items)
    (are : AreLinesOf runs (map (λ answers. answers.items) outcome.answers.items) lines) where
  -- each entry of the history is of a session from 1 to the number of runs
  entry_within : (place : ℕ) (entry : Entry) → slice_get outcome.history.items place ≡ Some entry
      → (1 ≤ entry.session) × (entry.session ≤ length runs)
  entry_within place entry at =
      all_at (λ e. (1 ≤ e.session) × (e.session ≤ length runs)) outcome.history.items place entry own at

  -- the lines of the session of each run are what remains at the history's beginning
  run_at : (place : ℕ) → place < length runs
      → Remains spoken base outcome.history.items 0 (suc place) (lines (suc place))
  run_at place within =
      let answers : List (List Answer) = map (λ answers. answers.items) outcome.answers.items in
      let run = get_within runs place within in
      let given = get_within answers place (omega (arith, AllZip-long _ runs answers legal.legal)) in
      let is : IsLegal base outcome.history.items (known_of run.0.pass) run.0.lines.items given.0 =
      zip_at (λ r. IsLegal base outcome.history.items (known_of r.pass) r.lines.items) runs answers place run.0 given.0
      legal.legal run.1 given.1 in
      subst (λ (n : ℕ). Remains spoken base outcome.history.items 0 n (lines n)) (add-one place)
      (run_remains base outcome.history.items (place + 1) (known_of run.0.pass) run.0.lines.items given.0
      (lines (place + 1)) is (fresh place run.0 run.1)
      (are.statements place run.0 run.1) (are.answered place given.0 given.1))

  -- the lines of each session are what remains at the history's beginning; a session without a run has no line and no
  -- entry
  remains : (session : ℕ) → IsSession session
      → Remains spoken base outcome.history.items 0 session (lines session)
  remains zero is = absurd (omega (arith, is.0))
  remains (suc place) is = elim (cases_lt place (length runs)) [
    | inl within ↦ run_at place within
    | inr past ↦ no_lines base outcome.history.items (suc place) (lines (suc place))
        (are.past (suc place) (omega arith))
        (none_of (length runs) (suc place) outcome.history.items (λ at entry there. (entry_within at entry there).1)
        (omega arith))
  ]

  -- if there are at most 16 runs, what isn't a session's number has no lines
  outside : length runs ≤ 16 → (session : ℕ) → (IsSession session → ⊥) → lines session ≡ []
  outside few zero out = are.none
  outside few (suc place) out = elim (cases_lt place 16) [
    | inl low ↦ absurd
        (out (omega arith, omega arith))
    | inr high ↦ are.past (suc place) (omega arith)
  ]

  -- if there are at most 16 runs, the lines can be written down as overlapping calls so that they are explained
  pub outcome_explained : length runs ≤ 16 → IsExplainedOverlap base lines
  outcome_explained few =
      overlap_explained base outcome.history.items lines
      (λ place entry at. ((entry_within place entry at).0, omega (arith, (entry_within place entry at).1))) remains
      (outside few)
