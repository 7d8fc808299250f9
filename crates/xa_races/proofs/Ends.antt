-- What the sessions of a long race come to.
use Rattle.std.proofs.Common.{◌≡◌, ℕ, zero, suc, Bool, ◌≤◌, ◌+◌, ◌-◌, List, [], ◌∷◌, length, map, drop, Option, Some}
use Rattle.std.proofs.{Common.{None, refl, ap, sym, ◌∙◌, subst, arith}, lemmas.List.Elements.{All-nil, All-cons}}
use Rattle.std.proofs.lemmas.List.Elements.{All-head, All-tail, All-weaker, All-from_recursion, recursion_from_All}
use Rattle.std.specs.{Prelude.slice_get, List.{All, AllZip, AllByRecursion}}
use Rattle.xa_words.specs.Entry.{Entry}
use Rattle.xa_server.specs.State.{no_state}
use Rattle.decision_log.proofs.Histories.{get_begins, begins_through}
use Rattle.xa_session.specs.declared.answer.Answer.{Answer}
use Rattle.xa_endless.specs.declared.{session.EndlessSession.EndlessSession, store.EndlessStore.EndlessStore}
use Rattle.chain_log.specs.RingPass.{identity_of, log_of}
use Rattle.xa_store.specs.{Gathered.IsTakenIn, Legal.{IsLegal, LetsIn}, Spread.HasAnswered}
use Rattle.xa_store.{specs.declared.race_fault.RaceFault.RaceFault, proofs.Races.legal_in}
use Rattle.xa_store.proofs.Spreading.{zip_get, zip_first, zip_chain, map_twice}
use Rattle.xa_races.specs.Long.{known_in, IsListed, HasRaced, EndsAt, StopsAt, Settles, Keeps, AreOfOne, seen_by_last}
use Rattle.xa_races.specs.{Long.{IsLongOutcome, BlamesLong}, Assembled.IsWithin, declared.added.Added.Added}
use Rattle.xa_races.specs.declared.{racer.Raced.Raced, long_run.LongRun.LongRun, long_outcome.LongOutcome.LongOutcome}
use Rattle.xa_races.proofs.Statements.{own_part}

-- what stands at a place of a list stands in the rest of the list from `from` on at the place counted from there
pub get_drop : (from place : ℕ) (list : List Entry) → from ≤ place
    → slice_get (drop from list) (place - from) ≡ slice_get list place
get_drop zero place list low = let same : place - 0 ≡ place = omega arith in ap (slice_get list) same
get_drop (suc from) zero list low = absurd (omega (arith, low))
get_drop (suc from) (suc place) [] low = let e : suc place - suc from ≡ place - from = omega arith in
    ap (slice_get []) e
get_drop (suc from) (suc place) (entry ∷ list) low =
    let e : suc place - suc from ≡ place - from = omega arith in
    ap (slice_get (drop from list)) e ∙ get_drop from place list (omega (arith, low))

-- if `P` holds of each element of a mapped list, it holds of the image of each element of the list
pub all_of_mapped : {A B : Type 0} (P : B → Type 0) (f : A → B) (xs : List A) → All P (map f xs) → All (λ x. P (f x)) xs
all_of_mapped P f [] all = All-nil (λ x. P (f x))
all_of_mapped P f (x ∷ xs) all = All-cons (λ y. P (f y)) x xs (All-head P (f x) (map f xs) all)
    (all_of_mapped P f xs (All-tail P (f x) (map f xs) all))

-- from a place on there are as many entries as the length, less the place
pub length_drop : (from : ℕ) (list : List Entry) → length (drop from list) ≡ length list - from
length_drop zero list = omega arith
length_drop (suc from) [] = omega arith
length_drop (suc from) (entry ∷ list) = let rest = length_drop from list in omega (arith, rest)

-- if `P` holds of the image of each element of a list, it holds of each element of the mapped list
pub all_mapped : {A B : Type 0} (P : B → Type 0) (f : A → B) (xs : List A) → All (λ x. P (f x)) xs → All P (map f xs)
all_mapped P f [] all = All-nil P
all_mapped P f (x ∷ xs) all = All-cons P (f x) (map f xs) (All-head (λ y. P (f y)) x xs all)
    (all_mapped P f xs (All-tail (λ y. P (f y)) x xs all))

-- an entry that is listed at its place in the whole history fits into the rest of it from the place `from` on, if its
-- place isn't before that
pub listed_within : (whole : List Entry) (limit from : ℕ) (added : Added) → IsListed whole limit added
    → IsWithin (drop from whole) limit from added
listed_within whole limit from added is low = grind (arith, get_drop)

-- if all noted entries are listed at their places in the whole history, each fits into the rest of it from the place
-- `from` on, if its place isn't before that
pub lists_within : (whole : List Entry) (limit from : ℕ) (raced : List Raced)
    → All (λ one. All (IsListed whole limit) one.said.added.items) raced
    → All (λ one. All (IsWithin (drop from whole) limit from) one.said.added.items) raced
lists_within whole limit from raced all =
    All-weaker (λ one. All (IsListed whole limit) one.said.added.items)
    (λ one. All (IsWithin (drop from whole) limit from) one.said.added.items)
    (λ one listed. All-weaker (IsListed whole limit) (IsWithin (drop from whole) limit from)
    (listed_within whole limit from) one.said.added.items listed) raced all

-- what holds of each second element may be added to what holds of pairs
pub zip_with : {A B : Type 0} (R : A → B → Type 0) (P : B → Type 0) (xs : List A) (ys : List B) → AllZip R xs ys
    → AllByRecursion P ys
    → AllZip (λ x y. R x y × P y) xs ys
zip_with R P [] [] zip all = tt
zip_with R P [] (y ∷ ys) zip all = absurd zip
zip_with R P (x ∷ xs) [] zip all = absurd zip
zip_with R P (x ∷ xs) (y ∷ ys) zip all = ((zip.0, all.0), zip_with R P xs ys zip.1 all.1)

-- what holds of each first element may be added to what holds of pairs
pub zip_beside : {A B : Type 0} (R : A → B → Type 0) (P : A → Type 0) (xs : List A) (ys : List B) → AllZip R xs ys
    → AllByRecursion P xs
    → AllZip (λ x y. R x y × P x) xs ys
zip_beside R P [] [] zip all = tt
zip_beside R P [] (y ∷ ys) zip all = absurd zip
zip_beside R P (x ∷ xs) [] zip all = absurd zip
zip_beside R P (x ∷ xs) (y ∷ ys) zip all = ((zip.0, all.0), zip_beside R P xs ys zip.1 all.1)

-- if what holds of each pair gives `P` of its second element, `P` holds of each second element
pub zip_second : {A B : Type 0} (R : A → B → Type 0) (P : B → Type 0) → ((a : A) (b : B) → R a b → P b)
    → (xs : List A) (ys : List B) → AllZip R xs ys
    → AllByRecursion P ys
zip_second R P keep [] [] zip = tt
zip_second R P keep [] (y ∷ ys) zip = absurd zip
zip_second R P keep (x ∷ xs) [] zip = absurd zip
zip_second R P keep (x ∷ xs) (y ∷ ys) zip = (keep x y zip.0, zip_second R P keep xs ys zip.1)

-- sessions that raced over one store are of one log
pub of_one : (gate : ℕ → ℕ → Bool → Type 0) (store : EndlessStore) (runs : List LongRun) (raced : List Raced)
    → All (λ run. run.session.store.value ≡ store) runs
    → AllZip (λ run one. HasRaced gate run.session run.lines.items one) runs raced
    → AreOfOne (map (λ one. one.session) raced)
of_one gate store runs raced all zip = record {
  identity = identity_of store.log;
  belong =
      all_mapped (λ (session : EndlessSession). log_of session.member.pass ≡ identity_of store.log)
      (λ one. one.session) raced
      (All-from_recursion (λ (one : Raced). log_of one.session.member.pass ≡ identity_of store.log) raced
      (zip_second (λ run one. HasRaced gate run.session run.lines.items one × (run.session.store.value ≡ store))
      (λ (one : Raced). log_of one.session.member.pass ≡ identity_of store.log)
      (λ run one is. one.session.belongs ∙ ap (λ (s : EndlessStore). identity_of s.log) (is.0.store ∙ is.1)) runs raced
      (zip_beside (λ run one. HasRaced gate run.session run.lines.items one)
      (λ run. run.session.store.value ≡ store) runs raced zip
      (recursion_from_All (λ run. run.session.store.value ≡ store) runs all))));
}

-- a session that raced without a fault has answered all its lines
answered_of : (gate : ℕ → ℕ → Bool → Type 0) (run : LongRun) (one : Raced) → one.fault ≡ None
    → (is : HasRaced gate run.session run.lines.items one)
    → HasAnswered gate no_state (known_in run.session) (known_in is.mid) run.lines.items one.said.answers.items
answered_of gate run one also is = grind (arith)

-- if a history has all that the session knows, each entry that its thread noted is listed there
listed_of : (gate : ℕ → ℕ → Bool → Type 0) (whole : List Entry) (limit : ℕ) (run : LongRun) (one : Raced)
    → HasRaced gate run.session run.lines.items one
    → IsTakenIn whole (known_in one.session) → 1 ≤ (known_in run.session).number → (known_in run.session).number ≤ limit
    → All (IsListed whole limit) one.said.added.items
listed_of gate whole limit run one is taken also few = grind (arith, begins_through, get_begins)

-- the number of a session of a ring is from 1 on
pub numbered : (session : EndlessSession) → 1 ≤ (known_in session).number
numbered session = session.member.pass.state.first

-- a bound for the sessions' numbers: their sum
abbrev total : List LongRun → ℕ
total [] = 0
total (run ∷ runs) = (known_in run.session).number + total runs

-- no session's number is above a bound of the total
few_of : (runs : List LongRun) (bound : ℕ) → total runs ≤ bound
    → AllByRecursion (λ run. (known_in run.session).number ≤ bound) runs
few_of [] bound le = tt
few_of (run ∷ runs) bound le = (omega (arith, le), few_of runs bound (omega (arith, le)))

-- the threads of the runs have ended, none with a fault, and the sessions have met
module _ (gate : ℕ → ℕ → Bool → Type 0) (from : ℕ) (runs : List LongRun) (raced : List Raced) (outcome : LongOutcome)
    (went : AllZip (λ run one. HasRaced gate run.session run.lines.items one) runs raced)
    (none : All (λ one. one.fault ≡ None) raced)
    (settles : Settles from raced outcome) where
  -- each run raced without a fault, as its thread returned it, and what the last session has seen has all that the
  -- run's session knows
  all : AllZip (λ run one. (HasRaced gate run.session run.lines.items one × (one.fault ≡ None))
      × IsTakenIn (seen_by_last outcome.sessions.items) (known_in one.session))
      runs raced
  all =
      zip_with (λ run one. HasRaced gate run.session run.lines.items one × (one.fault ≡ None))
      (λ one. IsTakenIn (seen_by_last outcome.sessions.items) (known_in one.session)) runs raced
      (zip_with (λ run one. HasRaced gate run.session run.lines.items one)
      (λ (one : Raced). one.fault ≡ None) runs raced went
      (recursion_from_All (λ (one : Raced). one.fault ≡ None) raced none))
      (recursion_from_All (λ one. IsTakenIn (seen_by_last outcome.sessions.items)
      (known_in one.session)) raced settles.taken)

  -- each run's answers are legal in what the last session has seen
  legal : AllZip (λ run answers. IsLegal no_state (seen_by_last outcome.sessions.items)
      (known_in run.session) run.lines.items answers) runs
      (map (λ one. one.said.answers.items) raced)
  legal = zip_to_map runs raced all
    where
      zip_to_map : (runs : List LongRun) (raced : List Raced)
          → AllZip (λ run one. (HasRaced gate run.session run.lines.items one × (one.fault ≡ None))
          × IsTakenIn (seen_by_last outcome.sessions.items) (known_in one.session)) runs raced
          → AllZip (λ run answers. IsLegal no_state (seen_by_last outcome.sessions.items)
          (known_in run.session) run.lines.items answers) runs
          (map (λ one. one.said.answers.items) raced)
      zip_to_map [] [] zip = tt
      zip_to_map [] (one ∷ raced) zip = absurd zip
      zip_to_map (run ∷ runs) [] zip = absurd zip
      zip_to_map (run ∷ runs) (one ∷ raced) zip = (
        legal_in gate no_state (seen_by_last outcome.sessions.items) (known_in run.session) (known_in zip.0.0.0.mid)
            (known_in one.session) run.lines.items
            one.said.answers.items (own_part zip.0.0.0.mid) (answered_of gate run one zip.0.0.1 zip.0.0.0)
            zip.0.0.0.rests zip.0.1,
        zip_to_map runs raced zip.1,
      )

  -- each entry that was noted is at its place in what the last session has seen, and is of a session up to the limit
  listed : (limit : ℕ) → All (λ run. (known_in run.session).number ≤ limit) runs
      → All (λ one. All (IsListed (seen_by_last outcome.sessions.items) limit) one.said.added.items) raced
  listed limit few =
      All-from_recursion (λ one. All (IsListed (seen_by_last outcome.sessions.items) limit) one.said.added.items) raced
      (zip_second (λ run one. ((HasRaced gate run.session run.lines.items one × (one.fault ≡ None))
      × IsTakenIn (seen_by_last outcome.sessions.items) (known_in one.session))
      × ((known_in run.session).number ≤ limit))
      (λ one. All (IsListed (seen_by_last outcome.sessions.items) limit) one.said.added.items)
      (λ run one is. listed_of gate (seen_by_last outcome.sessions.items) limit run one is.0.0.0 is.0.1
      (numbered run.session) is.1)
      runs raced
      (zip_beside (λ run one. (HasRaced gate run.session run.lines.items one × (one.fault ≡ None))
      × IsTakenIn (seen_by_last outcome.sessions.items) (known_in one.session))
      (λ run. (known_in run.session).number ≤ limit) runs raced all
      (recursion_from_All (λ run. (known_in run.session).number ≤ limit) runs few)))

  -- the total is a limit for the numbers of all sessions
  few_always : All (λ run. (known_in run.session).number ≤ total runs) runs
  few_always = All-from_recursion (λ run. (known_in run.session).number ≤ total runs) runs
      (few_of runs (total runs) (omega arith))

  -- the outcome that the sessions settle on is one of a race of these runs
  pub is_outcome : IsLongOutcome gate from runs outcome
  is_outcome = record {
    whole = seen_by_last outcome.sessions.items;
    whole_is = refl;
    legal =
        subst (λ (answers : List (List Answer)). AllZip (λ run answers. IsLegal no_state
        (seen_by_last outcome.sessions.items) (known_in run.session)
        run.lines.items answers) runs answers)
        (sym (ap (map (λ answers. answers.items)) settles.answers
        ∙ map_twice (λ one. one.said.answers) (λ answers. answers.items) raced)) legal;
    history = (settles.history (total runs) (listed (total runs) few_always)).0;
    own = λ count few. (settles.history count (listed count few)).1;
    sessions =
        zip_chain (λ run one. HasRaced gate run.session run.lines.items one × (one.fault ≡ None))
        (λ one session. Keeps one.session session)
        (λ run session. (session.store.value ≡ run.session.store.value)
        × ((known_in session).number ≡ (known_in run.session).number))
        (λ run one session is keeps. (
          keeps.store ∙ is.0.store,
          keeps.adds_nothing.number ∙ is.0.rests.number ∙ (answered_of gate run one is.1 is.0).number,
        ))
        runs raced outcome.sessions.items
        (zip_with (λ run one. HasRaced gate run.session run.lines.items one)
        (λ (one : Raced). one.fault ≡ None) runs raced went
        (recursion_from_All (λ (one : Raced). one.fault ≡ None) raced none))
        settles.keeps;
    holds = settles.holds;
    opened =
        All-from_recursion (λ run. LetsIn gate (known_in run.session).number (length run.lines.items)) runs
        (zip_first (λ run one. HasRaced gate run.session run.lines.items one × (one.fault ≡ None))
        (λ run. LetsIn gate (known_in run.session).number (length run.lines.items))
        (λ run one is. (answered_of gate run one is.1 is.0).opened) runs raced
        (zip_with (λ run one. HasRaced gate run.session run.lines.items one)
        (λ (one : Raced). one.fault ≡ None) runs raced went
        (recursion_from_All (λ (one : Raced). one.fault ≡ None) raced none)));
  }

-- the fault with which one of the sessions stopped is one with which the race may fail, as `BlamesLong` says
pub blames_one : (gate : ℕ → ℕ → Bool → Type 0) (runs : List LongRun) (raced : List Raced) (place : ℕ) (one : Raced)
    (fault : RaceFault)
    → AllZip (λ run one. HasRaced gate run.session run.lines.items one) runs raced → slice_get raced place ≡ Some one
    → one.fault ≡ Some fault
    → BlamesLong gate runs fault
blames_one gate runs raced place one fault went found has =
    let at = zip_get (λ run one. HasRaced gate run.session run.lines.items one) runs raced place one went found in
    by fault at.0 at.2.mid
    (subst (λ (f : Option RaceFault). EndsAt gate (known_in at.0.session) at.0.lines.items one.said.answers.items f
    at.2.mid) has at.2.ends) at.1
  where
    by : (fault : RaceFault) → (run : LongRun) → (session : EndlessSession)
        → StopsAt gate (known_in run.session) run.lines.items fault session
        → slice_get runs place ≡ Some run → BlamesLong gate runs fault
    by (RaceFault.GateShut session line) run mid stops found =
        record { index = place; run = run; found = found; session = mid; stops = stops }
    by (RaceFault.Full session line) run mid stops found = absurd stops
    by RaceFault.NoMemory run mid stops found = tt
    by RaceFault.ThreadRefused run mid stops found = absurd stops
