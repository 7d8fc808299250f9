-- The runs of a race over a new store.
use Rattle.std.proofs.Common.{◌≡◌, ℕ, zero, suc, Bool, ◌<◌, ◌≤◌, ◌+◌, List, [], ◌∷◌, ◌++◌, length, map, take, Some}
use Rattle.std.proofs.{Common.{refl, ap, sym, ◌∙◌, subst, arith}, lemmas.Option.{none-some, same_Some}}
use Rattle.std.proofs.lemmas.List.Elements.{All-nil, All-cons, All-from_recursion, recursion_from_All}
use Rattle.std.specs.{Prelude.slice_get, List.{All, AllZip, AllByRecursion}}
use Rattle.xa_xid.specs.declared.statement.Statement.{Statement}
use Rattle.xa_words.specs.Entry.{Entry}
use Rattle.xa_server.specs.State.{State, no_state}
use Rattle.decision_log.{specs.{declared.known.Known.Known, Known.newcomer}, proofs.Histories.begins_nothing}
use Rattle.xa_session.specs.declared.answer.Answer.{Answer}
use Rattle.xa_endless.specs.{Opens.Opens, declared.session.EndlessSession.EndlessSession}
use Rattle.xa_endless.specs.declared.store.EndlessStore.{EndlessStore}
use Rattle.xa_store.specs.{Legal.{IsLegal, LetsIn}, declared.race_fault.RaceFault.RaceFault}
use Rattle.xa_races.specs.{Long.{known_in, IsLongOutcome, BlamesLong}, declared.long_run.LongRun.LongRun}
use Rattle.xa_races.{specs.declared.long_outcome.LongOutcome.LongOutcome, proofs.Ends.{zip_beside, zip_second}}
use Rattle.xa_races.specs.LongRace.{IsNewRun, AreNewRuns, AllAnswered, AllLetIn, IsLongRace, BlamesRace}

-- the new runs of a store, and one more with the next number, are new runs of the store
pub new_more : (store : EndlessStore) (n m : ℕ) (lists : List (List Statement)) (runs : List LongRun)
    (statements : List Statement) (run : LongRun)
    → AreNewRuns store n lists runs → m ≡ length lists + n → IsNewRun store m statements run
    → AreNewRuns store n (lists ++ statements ∷ []) (runs ++ run ∷ [])
new_more store n m [] [] statements run are at is =
    (let same : m ≡ n = omega (arith, at) in subst (λ k. IsNewRun store k statements run) same is, tt)
new_more store n m [] (r ∷ runs) statements run are at is = absurd are
new_more store n m (l ∷ lists) [] statements run are at is = absurd are
new_more store n m (l ∷ lists) (r ∷ runs) statements run are at is =
    (are.0, new_more store (n + 1) m lists runs statements run are.1 (omega (arith, at)) is)

-- each run of a race over a new store is of a session of that store
pub new_mine : (store : EndlessStore) (n : ℕ) (lists : List (List Statement)) (runs : List LongRun)
    → AreNewRuns store n lists runs
    → All (λ run. run.session.store.value ≡ store) runs
new_mine store n [] [] are = All-nil (λ (run : LongRun). run.session.store.value ≡ store)
new_mine store n [] (run ∷ runs) are = absurd are
new_mine store n (l ∷ lists) [] are = absurd are
new_mine store n (l ∷ lists) (run ∷ runs) are =
    All-cons (λ (r : LongRun). r.session.store.value ≡ store) run runs are.0.store_is
    (new_mine store (n + 1) lists runs are.1)

-- there is a run for each list of statements
new_long : (store : EndlessStore) (n : ℕ) (lists : List (List Statement)) (runs : List LongRun)
    → AreNewRuns store n lists runs → length runs ≡ length lists
new_long store n [] [] are = refl
new_long store n [] (run ∷ runs) are = absurd are
new_long store n (l ∷ lists) [] are = absurd are
new_long store n (l ∷ lists) (run ∷ runs) are = ap suc (new_long store (n + 1) lists runs are.1)

-- if the last of new runs that are numbered from n on has at most the number `count`, none has a greater one
new_low : (store : EndlessStore) (n count : ℕ) (lists : List (List Statement)) (runs : List LongRun)
    → AreNewRuns store n lists runs
    → n + length lists ≤ count + 1 → All (λ run. (known_in run.session).number ≤ count) runs
new_low store n count [] [] are few = All-nil (λ (run : LongRun). (known_in run.session).number ≤ count)
new_low store n count [] (run ∷ runs) are few = absurd are
new_low store n count (l ∷ lists) [] are few = absurd are
new_low store n count (l ∷ lists) (run ∷ runs) are few =
    let number = are.0.number_is in
    All-cons (λ (r : LongRun). (known_in r.session).number ≤ count) run runs (omega (arith, number, few))
    (new_low store (n + 1) count lists runs are.1 (omega (arith, few)))

-- what is legal of a session that has seen nothing is so of a newcomer
legal_new : (base : State) (history : List Entry) (n : ℕ) (known : Known) (statements : List Statement)
    (answers : List Answer) → known.number ≡ n
    → known.seen ≡ [] → known.mine ≡ [] → IsLegal base history known statements answers
    → IsLegal base history (newcomer n) statements answers
legal_new base history n known statements answers number seen mine legal = grind (arith, begins_nothing)

-- if all new runs were answered legally, the lists of statements were
answered_new : (store : EndlessStore) (history : List Entry) (n : ℕ) (lists : List (List Statement))
    (runs : List LongRun) (answers : List (List Answer))
    → AreNewRuns store n lists runs
    → AllZip (λ run answers. IsLegal no_state history (known_in run.session) run.lines.items answers) runs answers
    → AllAnswered no_state history n lists answers
answered_new store history n [] [] [] are zip = tt
answered_new store history n [] [] (a ∷ answers) are zip = absurd zip
answered_new store history n [] (run ∷ runs) answers are zip = absurd are
answered_new store history n (l ∷ lists) [] answers are zip = absurd are
answered_new store history n (l ∷ lists) (run ∷ runs) [] are zip = absurd zip
answered_new store history n (l ∷ lists) (run ∷ runs) (a ∷ answers) are zip = (
  legal_new no_state history n (known_in run.session) l a are.0.number_is are.0.seen are.0.mine
      (subst (λ (s : List Statement). IsLegal no_state history (known_in run.session) s a) are.0.lines zip.0),
  answered_new store history (n + 1) lists runs answers are.1 zip.1,
)

-- if the gate can let in each statement of the new runs, it can let in each of their lists of statements
let_in_new : (gate : ℕ → ℕ → Bool → Type 0) (store : EndlessStore) (n : ℕ) (lists : List (List Statement))
    (runs : List LongRun) → AreNewRuns store n lists runs
    → AllByRecursion (λ run. LetsIn gate (known_in run.session).number (length run.lines.items)) runs
    → AllLetIn gate n lists
let_in_new gate store n [] [] are all = tt
let_in_new gate store n [] (run ∷ runs) are all = absurd are
let_in_new gate store n (l ∷ lists) [] are all = absurd are
let_in_new gate store n (l ∷ lists) (run ∷ runs) are all = (
  subst (λ (m : ℕ). LetsIn gate m (length l)) are.0.number_is
      (subst (λ (s : List Statement). LetsIn gate (known_in run.session).number (length s)) are.0.lines all.0),
  let_in_new gate store (n + 1) lists runs are.1 all.1,
)

-- the sessions that come back from runs are of the same store as those that went out
pub sessions_mine : (store : EndlessStore) (runs : List LongRun) (sessions : List EndlessSession)
    → All (λ run. run.session.store.value ≡ store) runs
    → AllZip (λ run session. (session.store.value ≡ run.session.store.value)
    × ((known_in session).number ≡ (known_in run.session).number)) runs sessions
    → All (λ session. session.store.value ≡ store) sessions
sessions_mine store runs sessions all zip =
    let Sent : LongRun → Type 0 = λ run. run.session.store.value ≡ store in
    let Back : EndlessSession → Type 0 = λ session. session.store.value ≡ store in
    let Same : LongRun → EndlessSession → Type 0 =
    λ run session. (session.store.value ≡ run.session.store.value)
    × ((known_in session).number ≡ (known_in run.session).number) in
    All-from_recursion Back sessions
    (zip_second (λ run session. Same run session × Sent run) Back (λ run session both. both.0.0 ∙ both.1) runs sessions
    (zip_beside Same Sent runs sessions zip (recursion_from_All Sent runs all)))

-- what the new runs of a new store come to is the outcome of a long race
pub long_race : (gate : ℕ → ℕ → Bool → Type 0) (rows count : ℕ) (store : EndlessStore) (lists : List (List Statement))
    (runs : List LongRun)
    (outcome : LongOutcome) → Opens rows count store → AreNewRuns store 1 lists runs → IsLongOutcome gate 0 runs outcome
    → IsLongRace gate rows lists outcome
long_race gate rows count store lists runs outcome opens are is =
    record {
      store = store;
      rows_are = opens.rows_are;
      sessions =
          sessions_mine store runs outcome.sessions.items (new_mine store 1 lists runs are) is.sessions;
      legal =
          subst (λ (history : List Entry). AllAnswered no_state history 1 lists
          (map (λ answers. answers.items) outcome.answers.items)) (sym is.history)
          (answered_new store is.whole 1 lists runs (map (λ answers. answers.items) outcome.answers.items) are
          is.legal);
      own = is.own (length lists) (new_low store 1 (length lists) lists runs are (omega arith));
      opened =
          let_in_new gate store 1 lists runs are
          (recursion_from_All (λ run. LetsIn gate (known_in run.session).number
          (length run.lines.items)) runs is.opened);
    }

-- the run at an index is that of the list there, of a new session with the number `index + n`
record NewAt (store : EndlessStore) (n index : ℕ) (lists : List (List Statement)) (run : LongRun) : Type 0 where
  pub statements : List Statement
  pub found : slice_get lists index ≡ Some statements
  pub is : IsNewRun store (index + n) statements run

-- the run at an index is that of the list there, of a new session with its number
new_at : (store : EndlessStore) (n : ℕ) (lists : List (List Statement)) (runs : List LongRun) (index : ℕ)
    (run : LongRun) → AreNewRuns store n lists runs
    → slice_get runs index ≡ Some run → NewAt store n index lists run
new_at store n [] [] index run are found = absurd (none-some run found)
new_at store n [] (r ∷ runs) index run are found = absurd are
new_at store n (l ∷ lists) [] index run are found = absurd are
new_at store n (l ∷ lists) (r ∷ runs) zero run are found =
    let same : r ≡ run = same_Some r run found in
    let none : n ≡ 0 + n = omega arith in
    record {
      statements = l;
      found = refl;
      is = subst (λ (m : ℕ). IsNewRun store m l run) none
          (subst (λ (one : LongRun). IsNewRun store n l one) same are.0);
    }
new_at store n (l ∷ lists) (r ∷ runs) (suc index) run are found =
    let at = new_at store (n + 1) lists runs index run are.1 found in
    let same : index + (n + 1) ≡ suc index + n = omega arith in
    record {
      statements = at.statements;
      found = at.found;
      is = subst
          (λ (m : ℕ). IsNewRun store m at.statements run) same at.is;
    }

-- if a race of new runs fails as `BlamesLong` says, the race of their lists fails as `BlamesRace` says
pub blames_race : (gate : ℕ → ℕ → Bool → Type 0) (store : EndlessStore) (lists : List (List Statement))
    (runs : List LongRun) (fault : RaceFault)
    → AreNewRuns store 1 lists runs → BlamesLong gate runs fault → BlamesRace gate lists fault
blames_race gate store lists runs (RaceFault.GateShut session line) are blamed =
    let at = new_at store 1 lists runs blamed.index blamed.run are blamed.found in
    let reached = blamed.stops.0 in
    record {
      index = blamed.index;
      statements = at.statements;
      found = at.found;
      shut = record {
        history = (known_in blamed.session).seen;
        reached = record {
          number = reached.number ∙ at.is.number_is;
          below = subst (λ (s : List Statement). line < length s) at.is.lines reached.below;
          answers = reached.answers;
          legal =
              legal_new no_state (known_in blamed.session).seen (blamed.index + 1) (known_in blamed.run.session)
              (take line at.statements) reached.answers
              at.is.number_is at.is.seen at.is.mine
              (subst (λ (s : List Statement). IsLegal no_state (known_in blamed.session).seen
              (known_in blamed.run.session) (take line s) reached.answers)
              at.is.lines reached.legal);
        };
        shut = blamed.stops.1;
      };
    }
blames_race gate store lists runs (RaceFault.Full session line) are blamed = absurd blamed
blames_race gate store lists runs RaceFault.NoMemory are blamed = tt
blames_race gate store lists runs RaceFault.ThreadRefused are blamed = let long = new_long store 1 lists runs are in
    omega (arith, long, blamed)
