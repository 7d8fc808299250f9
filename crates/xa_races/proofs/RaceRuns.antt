-- The runs of a race, and the sessions of its history.
use Rattle.std.proofs.Common.{◌≡◌, ℕ, zero, suc, Some, None, get_or, Vec, Global, ◌+◌, ◌<◌, ◌≤◌, max, List, [], ◌∷◌}
use Rattle.std.proofs.{Common.{◌++◌, length, map, take, refl, ap, sym, ◌∙◌, subst, arith}, lemmas.List.length-take}
use Rattle.std.{proofs.lemmas.List.Elements.{All-head, All-tail, All-cons, All-nil, All-take}, specs.Prelude.slice_get}
use Rattle.std.specs.List.{All, AllZip, zip}
use Rattle.xa_words.specs.Entry.{Entry}
use Rattle.decision_log.specs.{Known.{LogIdentity, newcomer, AllOf}, declared.known.Known.Known}
use Rattle.xa_store.specs.{Passes.{Pass, log_of, known_of}, Gathered.last_known, Legal.IsReturned, declared.run.Run.Run}
use Rattle.xa_xid.specs.declared.statement.Statement.{Statement}
use Rattle.xa_races.specs.Race.{AreRunsFrom, part_at, statements_of}

-- mapping a list with one element behind it puts the mapped element behind
pub map_push : {A B : Type 0} (f : A → B) (xs : List A) (x : A) → map f (xs ++ x ∷ []) ≡ map f xs ++ f x ∷ []
map_push f [] x = refl
map_push f (y ∷ xs) x = ap (λ l. f y ∷ l) (map_push f xs x)

-- mapping leaves the length
pub length_mapped : {A B : Type 0} (f : A → B) (xs : List A) → length (map f xs) ≡ length xs
length_mapped f [] = refl
length_mapped f (x ∷ xs) = ap suc (length_mapped f xs)

-- if `P` holds of each element of a mapped list, it holds of the image of each element of the list
pub all_of_mapped : {A B : Type 0} (P : B → Type 0) (f : A → B) (xs : List A) → All P (map f xs) → All (λ x. P (f x)) xs
all_of_mapped P f [] all = All-nil (λ x. P (f x))
all_of_mapped P f (x ∷ xs) all = All-cons (λ y. P (f y)) x xs (All-head P (f x) (map f xs) all)
    (all_of_mapped P f xs (All-tail P (f x) (map f xs) all))

-- None is never Some
never : {A : Type 0} (x : A) → None ≡ Some x → ⊥
never x is = cc

-- what is found in a front is in the list
pub get_taken : {A : Type 0} (n : ℕ) (xs : List A) (place : ℕ) (x : A) → slice_get (take n xs) place ≡ Some x
    → slice_get xs place ≡ Some x
get_taken zero xs place x is = absurd (never x is)
get_taken (suc n) [] place x is = absurd (never x is)
get_taken (suc n) (y ∷ xs) zero x is = is
get_taken (suc n) (y ∷ xs) (suc place) x is = get_taken n xs place x is

-- the runs are of the log that the passes are of
pub runs_belong : (identity : LogIdentity) (n : ℕ) (passes taken : List Pass) (runs : List Run)
    → All (λ pass. log_of pass ≡ identity) passes
    → taken ≡ take n passes
    → map (λ run. run.pass) runs ≡ taken
    → All (λ run. log_of run.pass ≡ identity) runs
runs_belong identity n passes taken runs belong cut are =
    let Belongs : Pass → Type 0 = λ pass. log_of pass ≡ identity in
    let AllBelong : List Pass → Type 0 = λ list. All Belongs list in
    all_of_mapped Belongs (λ run. run.pass) runs (subst AllBelong (sym (are ∙ cut)) (All-take Belongs n passes belong))

-- the log of all runs has the room that it was opened with
pub have_room : (identity : LogIdentity) (capacity : ℕ) (runs : List Run) → All (λ run. log_of run.pass ≡ identity) runs
    → identity.capacity ≡ capacity
    → All (λ run. (log_of run.pass).capacity ≡ capacity) runs
have_room identity capacity [] belong room = All-nil (λ run. (log_of run.pass).capacity ≡ capacity)
have_room identity capacity (run ∷ runs) belong room =
    let Belongs : Run → Type 0 = λ r. log_of r.pass ≡ identity in
    All-cons (λ r. (log_of r.pass).capacity ≡ capacity) run runs
    (ap (λ i. i.capacity) (All-head Belongs run runs belong) ∙ room)
    (have_room identity capacity runs (All-tail Belongs run runs belong) room)

-- the first element, or this if there is none
abbrev head_or : {A : Type 0} → List A → A → A
head_or [] d = d
head_or (x ∷ xs) d = x

-- the elements after the first
abbrev tail_of : {A : Type 0} → List A → List A
tail_of [] = []
tail_of (x ∷ xs) = xs

-- new passes with the numbers from `session` on, each paired with what its session gives, are the runs of these
-- sessions
pub runs_from : (session : ℕ) (lines : List (List ℕ)) (runs : List Run) (passes : List Pass)
    (lists : List (Vec Statement Global))
    → map (λ run. (run.pass, run.lines)) runs ≡ zip passes lists
    → ((index : ℕ) (pass : Pass) → slice_get passes index ≡ Some pass → known_of pass ≡ newcomer (index + session))
    → ((index : ℕ) → part_at (map (λ list. list.items) lists) index ≡ statements_of (index + session) lines)
    → AreRunsFrom session lines runs
runs_from session lines [] passes lists zipped known given = tt
runs_from session lines (run ∷ runs) [] lists zipped known given = absurd cc
runs_from session lines (run ∷ runs) (pass ∷ passes) [] zipped known given = absurd cc
runs_from session lines (run ∷ runs) (pass ∷ passes) (list ∷ lists) zipped known given =
    let first : (run.pass, run.lines) ≡ (pass, list) = ap (λ l. head_or l (run.pass, run.lines)) zipped in
    let rest : map (λ r. (r.pass, r.lines)) runs ≡ zip passes lists = ap tail_of zipped in (
      record {
        pass = ap (λ (p : Pass × Vec Statement Global). known_of p.0) first ∙ known 0 pass refl
            ∙ ap newcomer (let none : 0 + session ≡ session = omega arith in none);
        statements = ap (λ (p : Pass × Vec Statement Global). p.1.items) first ∙ given 0
            ∙ ap (λ n. statements_of n lines) (let none : 0 + session ≡ session = omega arith in none);
      },
      runs_from (session + 1) lines runs passes lists rest
          (λ index p is. known (suc index) p is ∙ ap newcomer
          (let same : suc index + session ≡ index + (session + 1) = omega arith in same))
          (λ index. given (suc index) ∙ ap (λ n. statements_of n lines)
          (let same : suc index + session ≡ index + (session + 1) = omega arith in same)),
    )

-- the passes of runs are those that they were made of, if there is a list for each
pub passes_of : (runs : List Run) (passes : List Pass) (lists : List (Vec Statement Global))
    → map (λ run. (run.pass, run.lines)) runs ≡ zip passes lists
    → length passes ≤ length lists
    → map (λ run. run.pass) runs ≡ passes
passes_of [] [] lists zipped enough = refl
passes_of [] (pass ∷ passes) [] zipped enough = absurd (omega arith)
passes_of [] (pass ∷ passes) (list ∷ lists) zipped enough = absurd cc
passes_of (run ∷ runs) [] lists zipped enough = absurd cc
passes_of (run ∷ runs) (pass ∷ passes) [] zipped enough = absurd cc
passes_of (run ∷ runs) (pass ∷ passes) (list ∷ lists) zipped enough =
    let first : (run.pass, run.lines) ≡ (pass, list) = ap (λ l. head_or l (run.pass, run.lines)) zipped in
    let rest : map (λ r. (r.pass, r.lines)) runs ≡ zip passes lists = ap tail_of zipped in
    ap (λ p. p ∷ map (λ r. r.pass) runs) (ap (λ (p : Pass × Vec Statement Global). p.0) first)
    ∙ ap (λ l. pass ∷ l) (passes_of runs passes lists rest (omega (arith, enough)))

-- within the lists, the list at a place is that of the element there
pub part_within : {V A : Type 0} (items : V → List A) (lists : List V) (index : ℕ) (d : V) → index < length lists
    → items (get_or lists index d) ≡ part_at (map items lists) index
part_within items [] index d below = absurd (omega arith)
part_within items (one ∷ lists) zero d below = refl
part_within items (one ∷ lists) (suc index) d below = part_within items lists index d (omega (arith, below))

-- past the last list there is the empty one
pub part_beyond : {V A : Type 0} (items : V → List A) (lists : List V) (index : ℕ) → length lists ≤ index
    → [] ≡ part_at (map items lists) index
part_beyond items [] index beyond = refl
part_beyond items (one ∷ lists) zero beyond = absurd (omega (arith, beyond))
part_beyond items (one ∷ lists) (suc index) beyond = part_beyond items lists index (omega (arith, beyond))

-- within a list the value for a missing element doesn't matter
pub get_or-any : {A : Type 0} (xs : List A) (index : ℕ) (d e : A) → index < length xs
    → get_or xs index d ≡ get_or xs index e
get_or-any [] index d e below = absurd (omega arith)
get_or-any (x ∷ xs) zero d e below = refl
get_or-any (x ∷ xs) (suc index) d e below = get_or-any xs index d e (omega (arith, below))

-- if each list is mapped, the list at a place is the mapped one of that place
pub part_at-map : {V A B : Type 0} (items : V → List A) (f : A → B) (lists : List V) (index : ℕ)
    → part_at (map (λ list. map f (items list)) lists) index ≡ map f (part_at (map items lists) index)
part_at-map items f [] index = refl
part_at-map items f (list ∷ lists) zero = refl
part_at-map items f (list ∷ lists) (suc index) = part_at-map items f lists index

-- pairs that are taken apart and put together are the same
pub map_same : {A B : Type 0} (pairs : List (A × B)) → map (λ p. (p.0, p.1)) pairs ≡ pairs
map_same [] = refl
map_same (pair ∷ pairs) = ap (λ l. pair ∷ l) (map_same pairs)

-- there are `n` runs, also if that is 0: of the passes, which are `n` but at least one, the first `n` are kept
pub runs_count : (n : ℕ) (passes taken : List Pass) (runs : List Run) → length passes ≡ max n 1 → taken ≡ take n passes
    → map (λ run. run.pass) runs ≡ taken
    → length runs ≡ n
runs_count n passes taken runs count cut are = grind (arith, length-take, length_mapped)

-- `P` holds of what every pass knows of its log. If it holds of a newcomer, it holds of what the last pass of a race
-- knows, also if there is no pass
module _ (P : LogIdentity → Known → Type 0) (kept : (pass : Pass) → P (log_of pass) (known_of pass)) where
  last_keeps : (identity : LogIdentity) (history : List Entry) (runs : List Run) (passes : List Pass)
      → P identity (newcomer 0)
      → All (λ run. log_of run.pass ≡ identity) runs
      → AllZip (IsReturned history) runs passes
      → P identity (last_known (map known_of passes))
  last_keeps identity history [] [] none belong zip = none
  last_keeps identity history [] (pass ∷ passes) none belong zip = absurd zip
  last_keeps identity history (run ∷ runs) [] none belong zip = absurd zip
  last_keeps identity history (run ∷ []) (pass ∷ []) none belong zip =
      let Belongs : Run → Type 0 = λ r. log_of r.pass ≡ identity in
      let belongs : log_of pass ≡ identity = zip.0.belongs ∙ All-head Belongs run [] belong in
      let At : LogIdentity → Type 0 = λ p. P p (known_of pass) in
      subst At belongs (kept pass)
  last_keeps identity history (run ∷ []) (pass ∷ other ∷ passes) none belong zip = absurd zip.1
  last_keeps identity history (run ∷ other ∷ runs) (pass ∷ []) none belong zip = absurd zip.1
  last_keeps identity history (run ∷ other ∷ runs) (pass ∷ other' ∷ passes) none belong zip =
      let Belongs : Run → Type 0 = λ r. log_of r.pass ≡ identity in
      last_keeps identity history (other ∷ runs) (other' ∷ passes) none
      (All-tail Belongs run (other ∷ runs) belong) zip.1

-- the history has entries of the sessions 1 to the number of runs alone
pub own_sessions : (identity : LogIdentity) (history : List Entry) (runs : List Run) (passes : List Pass)
    → identity.sessions ≡ max (length runs) 1
    → All (λ run. log_of run.pass ≡ identity) runs
    → AllZip (IsReturned history) runs passes → history ≡ (last_known (map known_of passes)).seen
    → AllOf (length runs) history
own_sessions identity history [] [] sessions belong zip is =
    let P : List Entry → Type 0 = λ list. AllOf 0 list in
    subst P (sym is) (All-nil (λ entry. (1 ≤ entry.session) × (entry.session ≤ 0)))
own_sessions identity history [] (pass ∷ passes) sessions belong zip is = absurd zip
own_sessions identity history (run ∷ runs) passes sessions belong zip is =
    let count : identity.sessions ≡ length (run ∷ runs) = omega (arith, sessions) in
    let P : List Entry → Type 0 = λ list. AllOf (length (run ∷ runs)) list in
    let Q : ℕ → Type 0 = λ n. AllOf n (last_known (map known_of passes)).seen in
    subst P (sym is) (subst Q count
    (last_keeps (λ p k. AllOf p.sessions k.seen) (λ pass. pass.state.among) identity history (run ∷ runs) passes
    (All-nil (λ entry. (1 ≤ entry.session) × (entry.session ≤ identity.sessions))) belong zip))

-- the history has no more entries than the log has room for
pub own_room : (identity : LogIdentity) (history : List Entry) (runs : List Run) (passes : List Pass)
    → All (λ run. log_of run.pass ≡ identity) runs
    → AllZip (IsReturned history) runs passes
    → history ≡ (last_known (map known_of passes)).seen → length history ≤ identity.capacity
own_room identity history runs passes belong zip is =
    let P : List Entry → Type 0 = λ list. length list ≤ identity.capacity in
    subst P (sym is) (last_keeps (λ p k. length k.seen ≤ p.capacity)
    (λ pass. pass.state.within) identity history runs passes (omega arith) belong zip)
