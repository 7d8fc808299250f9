-- After a recovery that came to its end each transaction is in all of its stores, or in none, if no other client ended
-- a branch of the coordinator's.
use Rattle.std.proofs.Common.{◌≡◌, ◌⊎◌, ◌<◌, ◌≤◌, ◌+◌, ◌^◌, ℕ, zero, suc, Bool, true, false, cond, List, [], ◌∷◌, ◌++◌}
use Rattle.std.proofs.Common.{length, take, refl, ap, sym, ◌∙◌, subst, inl, inr, Some, Ok, arith}
use Rattle.std.proofs.lemmas.{Option.slice_get_within, Bool.Decides.nat_tests}
use Rattle.std.specs.Prelude.{slice_get, slice_index_or, Contains, All, codes, nat_eq}
use mathlib.Core.Bool.{true≢false}
use Rattle.xa_words.specs.Entry.{Entry}
use Rattle.xa_xid.specs.declared.{xid.Xid.Xid, statement.Statement.Statement}
use Rattle.xa_xid.specs.declared.statement.Statement.TheVariants.{Start, Prepare, Commit, Rollback}
use Rattle.decision_log.{specs.History.{Begins, is_of, entries_of}, proofs.Histories.get_begins}
use Rattle.xa_server.specs.{State.{State, is_prepared}, Step.enters}
use Rattle.xa_session.specs.{Answer.entry_of, Replay.{state_after, state_at}}
use Rattle.xa_session.proofs.Replaying.{state_at-next, state_at-begins}
use Rattle.xa_coordinator.specs.{Branch.IsBranchOf, Decisions.is_decided, declared.report.Report.Report}
use Rattle.xa_coordinator.specs.{declared.store.LastingStore.LastingStore, Lasting.{own_view, history_of}}
use Rattle.xa_manager.specs.declared.{call.Call.{Call, TheVariants.Recover}, response.Response.Response}
use Rattle.xa_manager.specs.{declared.response.Response.TheVariants.Recovered, Runs.{Managing, IsRun}, Atomic.branch_in}
use Rattle.xa_manager.specs.Atomic.{HasAdded, IsPlain, IsAlone, GoesWith, KeepsToDecisions, EndsNone, LeavesBranches}
use Rattle.xa_manager.{specs.Atomic.{WasCommitted, AllOrNone}, proofs.Holding.{Session, Holds, grew_cases, grew_stays}}
use Rattle.xa_manager.proofs.{Holds.one_number, Recovering.{Recovering, HasEndedWell, ended_well, keeps, last_call}}
use Rattle.xa_manager.proofs.Recovering.{calls_hold, fresh_holds}
use Rattle.xa_manager.proofs.Finding.{EndsBranch, IsEndedAt, ended_behind, prepares, commit_rows}
use Rattle.xa_manager.proofs.Others.{OthersLeave, OtherAdded, calls_leave, answered_leave, fresh_leave}

-- ---- a session's entries in a history

-- the first entry is in the list
first_there : (entry : Entry) (rest : List Entry) → Contains (entry ∷ rest) entry
first_there entry rest = (0, omega arith, refl)

-- an entry in the rest of a list is in the list
rest_there : (first entry : Entry) (rest : List Entry) → Contains rest entry → Contains (first ∷ rest) entry
rest_there first entry rest (k, below, is) = (suc k, omega (arith, below), is)

-- an entry of a session is among its entries
pub is_among : (number : ℕ) (history : List Entry) (place : ℕ) (entry : Entry) → slice_get history place ≡ Some entry
    → is_of number entry ≡ true
    → Contains (entries_of number history) entry
is_among number [] place entry is own = absurd (cc)
is_among number (first ∷ rest) zero entry is own = grind (arith, entries_of, first_there, is_of)
is_among number (first ∷ rest) (suc place) entry is own =
    by (is_of number first) (is_among number rest place entry is own)
  where
    by : (b : Bool) → Contains (entries_of number rest) entry
        → Contains (cond b (first ∷ entries_of number rest) (entries_of number rest)) entry
    by true there = rest_there first entry (entries_of number rest) there
    by false there = there

-- an entry among a session's own has a place in the history
pub has_place : (number : ℕ) (history : List Entry) (entry : Entry) → Contains (entries_of number history) entry
    → (place : ℕ) × (slice_get history place ≡ Some entry)
has_place number [] entry there = let below : there.0 < 0 = there.1 in absurd (omega (arith, below))
has_place number (first ∷ rest) entry there = by (is_of number first) there (λ later. has_place number rest entry later)
  where
    Wanted : Type 0
    Wanted = (place : ℕ) × (slice_get (first ∷ rest) place ≡ Some entry)

    behind_first : (place : ℕ) × (slice_get rest place ≡ Some entry)
        → (place : ℕ) × (slice_get (first ∷ rest) place ≡ Some entry)
    behind_first it = (suc it.0, it.1)

    in_first : (k : ℕ) → k < length (first ∷ entries_of number rest)
        → slice_index_or (first ∷ entries_of number rest) k entry ≡ entry
        → (Contains (entries_of number rest) entry → (place : ℕ) × (slice_get rest place ≡ Some entry))
        → (place : ℕ) × (slice_get (first ∷ rest) place ≡ Some entry)
    in_first zero below is later = (0, ap Some is)
    in_first (suc k) below is later = behind_first (later (k, omega (arith, below), is))

    by : (b : Bool) → Contains (cond b (first ∷ entries_of number rest) (entries_of number rest)) entry
        → (Contains (entries_of number rest) entry → (place : ℕ) × (slice_get rest place ≡ Some entry))
        → (place : ℕ) × (slice_get (first ∷ rest) place ≡ Some entry)
    by true found later = in_first found.0 found.1 found.2 later
    by false found later = behind_first (later found)

-- a list begins with each front of it
begins_take : (count : ℕ) (xs : List Entry) → Begins (take count xs) xs
begins_take zero xs = refl
begins_take (suc count) [] = refl
begins_take (suc count) (x ∷ xs) = ap (λ rest. x ∷ rest) (begins_take count xs)

-- a number from 1 to 2 is 1 or 2
one_or_two : (number : ℕ) → (1 ≤ number) × (number ≤ 2) → (number ≡ 1) ⊎ (number ≡ 2)
one_or_two number within = grind (arith, nat_tests)

-- an entry of a session is made of that session's number and its statement
entry_is : (entry : Entry) (number : ℕ) → entry.session ≡ number → entry ≡ entry_of number entry.statement
entry_is entry number is = ap (λ n. entry_of n entry.statement) is

-- ---- one store

-- all that the coordinator's session added in the store goes with the decisions, and the other client ended no branch
-- of the coordinator's
module _ (decisions : _) (sessions : List Session) (number store : ℕ) (session : Session) (fits : number < 2 ^ 64)
    (goes : (statement : Statement) → HasAdded session statement → GoesWith decisions sessions store statement)
    (leave : (statement : Statement) → OtherAdded session statement → EndsNone store statement) where
  -- the store, its history, the state in which that begins, and the transaction's branch there
  abbrev kept : LastingStore
  kept = session.inner

  abbrev history : List Entry
  history = history_of kept

  abbrev base : State
  base = kept.first.value

  abbrev xid : Xid
  xid = branch_in number store

  -- the branch is of the coordinator's naming
  abbrev named : IsBranchOf (codes "c") number store xid
  named = record { fits = fits; is = refl }

  -- an entry of the history is of session 1, and the coordinator's session added its statement; or of session 2, and
  -- the other client's did
  of_whom : (place : ℕ) (entry : Entry) → slice_get history place ≡ Some entry
      → ((entry.session ≡ 1) × HasAdded session entry.statement)
      ⊎ ((entry.session ≡ 2) × OtherAdded session entry.statement)
  of_whom place entry there = elim (one_or_two entry.session (kept.entered.two place entry there)) [
    | inl own ↦
        inl (
          own,
          subst (λ (e : Entry). Contains (entries_of 1 history) e) (entry_is entry 1 own)
              (is_among 1 history place entry there (ap (λ n. nat_eq n 1) own)),
        )
    | inr other ↦
        inr (
          other,
          subst (λ (e : Entry). Contains (entries_of 2 history) e) (entry_is entry 2 other)
              (is_among 2 history place entry there (ap (λ n. nat_eq n 2) other)),
        )
  ]

  -- this branch, of the coordinator's naming, is of no other number
  same_number : (other : ℕ) → IsBranchOf (codes "c") other store xid → other ≡ number
  same_number other is = sym (one_number number other store fits is.fits is.is)

  -- an XA COMMIT of an undecided transaction's branch, whoever gave it, is with ONE PHASE, and the coordinator began
  -- a branch of the transaction in no other store
  pub committed_alone : (place client : ℕ) (one_phase : Bool) → is_decided decisions number ≡ false
      → slice_get history place ≡ Some (entry_of client (Commit xid one_phase))
      → (one_phase ≡ true) × IsAlone sessions number store
  committed_alone place client one_phase undecided there =
      elim (of_whom place (entry_of client (Commit xid one_phase)) there) [
        | inl own ↦ by one_phase (goes (Commit xid one_phase) own.1)
        | inr other ↦ absurd ((leave (Commit xid one_phase) other.1) (number, named))
      ]
    where
      by : (b : Bool) → GoesWith decisions sessions store (Commit xid b) → (b ≡ true) × IsAlone sessions number store
      by true is = (refl, subst (λ n. IsAlone sessions n store) (same_number is.0 is.1) is.2.alone)
      by false is =
          absurd (true≢false (sym is.2 ∙ ap (is_decided decisions) (same_number is.0 is.1) ∙ undecided))

  -- an entry that ends a decided transaction's branch is the coordinator's XA COMMIT, without ONE PHASE
  ended_how : (entry : Entry) (place : ℕ) → is_decided decisions number ≡ true → slice_get history place ≡ Some entry
      → EndsBranch xid entry.statement
      → entry ≡ entry_of 1 (Commit xid false)
  ended_how entry place decided there ends = elim (of_whom place entry there) [
    | inl own ↦ entry_is entry 1 own.0 ∙ ap (entry_of 1) (by entry.statement ends own.1)
    | inr other ↦ absurd (never entry.statement ends other.1)
  ]
    where
      clash : (other : ℕ) → IsBranchOf (codes "c") other store xid → is_decided decisions other ≡ false → ⊥
      clash other is undecided =
          true≢false (sym decided ∙ ap (is_decided decisions) (sym (same_number other is)) ∙ undecided)

      committed : (b : Bool) → GoesWith decisions sessions store (Commit xid b) → Commit xid b ≡ Commit xid false
      committed true is = absurd (clash is.0 is.1 is.2.undecided)
      committed false is = refl

      by : (statement : Statement) → EndsBranch xid statement → HasAdded session statement
          → statement ≡ Commit xid false
      by statement (inl commits) added =
          commits.1 ∙ committed commits.0 (goes (Commit xid commits.0) (subst (HasAdded session) commits.1 added))
      by statement (inr rolls) added =
          let is = goes (Rollback xid) (subst (HasAdded session) rolls added) in absurd (clash is.0 is.1 is.2)

      never : (statement : Statement) → EndsBranch xid statement → OtherAdded session statement → ⊥
      never statement (inl commits) added =
          leave (Commit xid commits.0) (subst (OtherAdded session) commits.1 added) (number, named)
      never statement (inr rolls) added = leave (Rollback xid) (subst (OtherAdded session) rolls added) (number, named)

  -- a decided transaction's branch that was prepared, and isn't any more, was committed
  pub was_committed : is_decided decisions number ≡ true → HasAdded session (Prepare xid)
      → is_prepared (state_after base (own_view kept).known.seen) xid ≡ false → WasCommitted kept xid
  was_committed decided added gone =
      let seen : List Entry = (own_view kept).known.seen in
      let begins : Begins seen history = begins_take kept.own.seen history in
      let found = has_place 1 seen (entry_of 1 (Prepare xid))
      (subst (λ (list : List Entry). Contains list (entry_of 1 (Prepare xid)))
      (sym kept.own_seen.own) added) in
      let there : slice_get history found.0 ≡ Some (entry_of 1 (Prepare xid)) =
      get_begins seen history found.0 _ begins found.1 in
      let below : found.0 < length seen = slice_get_within seen found.0 _ found.1 in
      let same : state_at base history found.0 ≡ state_at base seen found.0 =
      state_at-begins base seen history found.0 begins (omega (arith, below)) in
      let entering : enters (state_at base seen found.0) 1 (Prepare xid) ≡ true =
      ap (λ s. enters s 1 (Prepare xid)) (sym same) ∙ kept.entered.entered found.0
      (entry_of 1 (Prepare xid)) there in
      let prepared : is_prepared (state_at base seen (found.0 + 1)) xid ≡ true =
      ap (λ s. is_prepared s xid) (state_at-next base seen found.0 (entry_of 1 (Prepare xid)) found.1)
      ∙ prepares (state_at base seen found.0) 1 xid entering in
      let ended : IsEndedAt base seen (found.0 + 1) xid = ended_behind base seen (found.0 + 1) xid
      (omega (arith, below)) prepared gone in
      let at : slice_get history ended.place ≡ Some ended.entry =
      get_begins seen history ended.place ended.entry begins ended.there in
      let is : ended.entry ≡ entry_of 1 (Commit xid false) = ended_how ended.entry ended.place decided at ended.ends in
      let commits : slice_get history ended.place ≡ Some (entry_of 1 (Commit xid false)) = at ∙ ap Some is in
      let within_seen : ended.place < length seen = slice_get_within seen ended.place ended.entry ended.there in
      record {
        prepare = found.0;
        prepares = there;
        place = ended.place;
        later = omega (arith, ended.behind);
        prepared = λ k more less.
            ap (λ s. is_prepared s xid) (state_at-begins base seen history k begins (omega (arith, less, within_seen)))
            ∙ ended.prepared k (omega (arith, more)) less;
        commits = commits;
        rows = λ branch found_branch.
            ap (λ (s : State). s.rows) (state_at-next base history ended.place (entry_of 1 (Commit xid false)) commits)
            ∙ commit_rows (state_at base history ended.place) 1 xid false branch
            (kept.entered.entered ended.place (entry_of 1 (Commit xid false)) commits) found_branch;
      }

-- ---- all of them

-- after calls, none of which is RECOVER or has another client end a branch of the coordinator's, and a recovery that
-- came to its end, each transaction is in all of its stores, or in none
pub all_or_none : (stores : ℕ) (told : List Call) (responses : List Response) (report : Report) (last : Managing)
    → All IsPlain told → All LeavesBranches told
    → IsRun stores (told ++ Recover ∷ []) (responses ++ Recovered (Ok report) ∷ []) last → AllOrNone last
all_or_none stores told responses report last plain leaves run =
    let split = last_call run.first last _ _ run.carried told Recover responses (Recovered (Ok report)) refl refl in
    let mid : Managing = split.0 in
    let holds : Holds mid = calls_hold run.first mid told responses split.1 plain
    (fresh_holds stores run.first run.fresh) in
    let well : HasEndedWell mid last report = ended_well mid last report split.2 in
    let keeping : KeepsToDecisions last = keeps mid last report holds well in
    let others : OthersLeave last =
    answered_leave mid last Recover (Recovered (Ok report)) tt split.2
    (calls_leave run.first mid told responses split.1 leaves (fresh_leave stores run.first run.fresh)) in
    record {
      all = λ number store session fits decided is added.
          let grew = well.grows store session is in
          let was : HasAdded grew.before (Start (branch_in number store)) =
          (elim (grew_cases (Recovering last.decisions) store mid.sessions session
          (Start (branch_in number store)) grew added) [
            | inl before ↦ before
            | inr now ↦ absurd now
          ]) in
          let prepared : HasAdded session (Prepare (branch_in number store)) =
          grew_stays (Recovering last.decisions) store mid.sessions session (Prepare (branch_in number store)) grew
          (holds.prepared_decided number fits (sym (well.decisions number)
          ∙ decided) store grew.before grew.there was) in
          was_committed last.decisions last.sessions number store session fits
          (λ statement. keeping.goes store session statement is)
          (λ statement. others store session statement is) decided prepared
          (keeping.none_left store session is number fits);
      none = λ number store session place client one_phase fits undecided is there.
          committed_alone last.decisions last.sessions number store session fits
          (λ statement. keeping.goes store session statement is)
          (λ statement. others store session statement is) place client one_phase undecided there;
    }
