-- Calls of which none is RECOVER, and a recovery that came to its end.
use Rattle.std.proofs.Common.{◌≡◌, ◌<◌, ℕ, true, false, List, [], ◌∷◌, ◌++◌, length, refl, ap, sym, ◌∙◌, inl, inr, Some}
use Rattle.std.proofs.{Common.{Ok, arith, length-append}, lemmas.List.get_or_append_left}
use Rattle.std.proofs.lemmas.{List.Elements.{All-contains, Contains-push}, Grind.common_steps}
use Rattle.std.proofs.lemmas.{Option.{slice_get_within, get_or_from_slice_get}, Bool.Decides.nat_tests}
use Rattle.std.specs.Prelude.{slice_get, Contains, codes, All}
use Rattle.xa_xid.specs.declared.statement.Statement.{Statement}
use Rattle.xa_coordinator.specs.{Branch.IsBranchOf, Decisions.is_decided, Recovery.Recovers}
use Rattle.xa_coordinator.specs.{declared.{decisions.Decision.Decision, report.Report.Report}, Fusing.limited}
use Rattle.xa_coordinator.{specs.Lasting.{own_view, other_alone}, proofs.DecisionsOf.closed_decides}
use Rattle.xa_manager.specs.{Carried.HasRecovered, Ledger.stage_of, Whole.IsPair, declared.call.Call.Call}
use Rattle.xa_manager.specs.declared.{call.Call.TheVariants.Recover, response.Response.Response}
use Rattle.xa_manager.specs.declared.{response.Response.TheVariants.Recovered, stage.Stage.Stage}
use Rattle.xa_manager.specs.Runs.{Managing, IsAnswered, CarriesOut, none_yet, one_more, IsFresh, IsRun}
use Rattle.xa_manager.specs.Atomic.{branch_in, HasAdded, IsPlain, IsAlone, GoesWith, KeepsToDecisions}
use Rattle.xa_manager.proofs.{Added.recovered, Holds.answered_holds, Nothing.{none_begun, none_decided}}
use Rattle.xa_manager.proofs.Holding.{Session, IsUndecidedOver, Goes, Holds, Grows, grows_each, grew_cases}

-- ---- a manager with which nothing has begun

-- what holds of each element holds of the one at a place
pub one_of : {A : Type 0} (P : A → Type 0) (xs : List A) (place : ℕ) (x : A) → All P xs → slice_get xs place ≡ Some x
    → P x
one_of P xs place x each is = grind (arith, get_or_from_slice_get, slice_get_within)

-- nothing is in an empty list
pub nothing_in : {A : Type 0} (x : A) → Contains [] x → ⊥
nothing_in x there = let below : there.0 < 0 = there.1 in absurd (omega (arith, below))

-- a session that was just opened has added nothing
none_added : (session : Session) (statement : Statement) → IsPair (own_view session.inner) (other_alone session.inner)
    → HasAdded session statement → ⊥
none_added session statement pair added = grind (arith, nothing_in)

-- a manager that just began has everything that holds before any recovery
pub fresh_holds : (stores : ℕ) (first : Managing) → IsFresh stores first → Holds first
fresh_holds stores first fresh =
    let no : (number : ℕ) (stage : Stage) → stage_of first.stages number ≡ Some stage → ⊥ =
    λ number stage is.
    let none = none_begun number in
    let same = ap (λ s. stage_of s number) fresh.begins.stages in absurd (cc) in
    let undecided : (number : ℕ) → is_decided first.decisions number ≡ true → ⊥ =
    λ number is.
    let none = none_decided number in
    let same = ap (λ d. is_decided d number) fresh.begins.decisions in absurd (cc) in
    let empty : (store : ℕ) (session : Session) (statement : Statement) → slice_get first.sessions store ≡ Some session
    → HasAdded session statement → ⊥ =
    λ store session statement is added.
    none_added session statement
    (one_of (λ (s : Session). IsPair (own_view s.inner) (other_alone s.inner)) first.sessions store session
    fresh.begins.pairs is) added in
    record {
      kept = λ number stage transaction is in_it. absurd (no number stage is);
      ready = λ number prepared is. absurd (no number _ is);
      count = ap length fresh.begins.stages ∙ sym (ap length fresh.begins.decisions);
      alone = λ number prepared is one. absurd (no number _ is);
      decided = λ number is. absurd (undecided number is);
      began = λ number store session fits is added. absurd (empty store session _ is added);
      prepared_ready = λ number prepared fits is. absurd (no number _ is);
      prepared_decided = λ number fits is. absurd (undecided number is);
      goes = λ store session statement is added. absurd (empty store session statement is added);
    }

-- ---- calls, and the last of them

-- what holds of several and a last one holds of the several
pub front_all : {A : Type 0} (P : A → Type 0) (xs : List A) (x : A) → All P (xs ++ x ∷ []) → All P xs
front_all P xs x each place d within = grind (arith, get_or_append_left, length-append)

-- what holds of several and a last one holds of the last one
pub last_all : {A : Type 0} (P : A → Type 0) (xs : List A) (x : A) → All P (xs ++ x ∷ []) → P x
last_all P xs x each = All-contains P (xs ++ x ∷ []) x each (Contains-push xs x)

-- what holds before any recovery goes on holding through calls of which none is RECOVER
pub calls_hold : (old new : Managing) (calls : List Call) (responses : List Response)
    → CarriesOut old calls responses new → All IsPlain calls → Holds old
    → Holds new
calls_hold old new calls responses none_yet plain holds = holds
calls_hold old new calls responses (one_more cs rs mid so_far call response n answered) plain holds =
    answered_holds mid n call response (last_all IsPlain cs call plain) answered
    (calls_hold old mid cs rs so_far (front_all IsPlain cs call plain) holds)

-- equal lists have equal last elements, and are equal before them
pub snoc_same : {A : Type 0} (xs ys : List A) (x y : A) → xs ++ x ∷ [] ≡ ys ++ y ∷ [] → (xs ≡ ys) × (x ≡ y)
snoc_same [] [] x y is = (refl, cc)
snoc_same [] (b ∷ []) x y is = absurd (cc)
snoc_same [] (b ∷ c ∷ ys) x y is = absurd (cc)
snoc_same (a ∷ []) [] x y is = absurd (cc)
snoc_same (a ∷ c ∷ xs) [] x y is = absurd (cc)
snoc_same (a ∷ xs) (b ∷ ys) x y is = grind (arith, snoc_same xs ys x y (cc))

-- a list with a last element isn't empty
not_empty : {A : Type 0} (xs : List A) (x : A) → [] ≡ xs ++ x ∷ [] → ⊥
not_empty xs x is = grind (arith, common_steps, nat_tests)

-- carrying out calls is carrying out all but the last one, and then the last one
pub last_call : (old new : Managing) (all : List Call) (answers : List Response) → CarriesOut old all answers new
    → (told : List Call) (call : Call)
    (responses : List Response) (response : Response) → all ≡ told ++ call ∷ [] → answers ≡ responses ++ response ∷ []
    → (mid : Managing) × CarriesOut old told responses mid × IsAnswered mid call response new
last_call old new all answers none_yet told call responses response is are = absurd (not_empty told call is)
last_call old new all answers (one_more cs rs mid so_far c r n answered) told call responses response is are =
    grind (arith, snoc_same)

-- ---- a recovery that came to its end

-- what a recovery may add: XA COMMIT of a decided number's branch, not with ONE PHASE, XA ROLLBACK of an undecided
-- one's, and any other statement but XA START
abbrev pub Recovering : List Decision → ℕ → Statement → Type 0
Recovering decisions store (Statement.Start xid) = ⊥
Recovering decisions store (Statement.Commit xid false) =
    (number : ℕ) × IsBranchOf (codes "c") number store xid × (is_decided decisions number ≡ true)
Recovering decisions store (Statement.Commit xid true) = ⊥
Recovering decisions store (Statement.Rollback xid) =
    (number : ℕ) × IsBranchOf (codes "c") number store xid × (is_decided decisions number ≡ false)
Recovering decisions store statement = Unit {0}

-- what a recovery adds goes with the decisions: it commits what is decided, and rolls back the rest
recovering_goes : (decisions : List Decision) (sessions : List Session) (store : ℕ) (statement : Statement)
    → Recovering decisions store statement
    → GoesWith decisions sessions store statement
recovering_goes decisions sessions store statement is = grind (arith)

-- a recovery returned a report: it recovered by the decisions, the same numbers are decided, and what it added is of
-- its kind
pub record HasEndedWell (mid last : Managing) (report : Report) : Type 0 where
  pub recovers : Recovers (limited own_view) last.decisions (codes "c") report mid.sessions last.sessions
  pub decisions : (number : ℕ) → is_decided last.decisions number ≡ is_decided mid.decisions number
  pub grows : Grows (Recovering last.decisions) mid.sessions last.sessions

-- a RECOVER that was answered with this report recovered by the decisions, with it
same_report : (mid last : Managing) (report : Report) → HasRecovered (limited own_view) mid (Recovered (Ok report)) last
    → Recovers (limited own_view) last.decisions (codes "c") report mid.sessions last.sessions
same_report mid last report is = grind (arith)

-- a RECOVER that was answered with a report ended well, as `HasEndedWell` says
pub ended_well : (mid last : Managing) (report : Report) → IsAnswered mid Recover (Recovered (Ok report)) last
    → HasEndedWell mid last report
ended_well mid last report (inl refused) = absurd (let e = refused.told in cc)
ended_well mid last report (inr carried) =
    let is = carried.0 in
    let recovers = same_report mid last report is in
    record {
      recovers = recovers;
      decisions = λ number.
          ap (λ d. is_decided d number) (ap (λ (m : Managing). m.decisions) is.alone.stands)
          ∙ closed_decides mid.decisions number;
      grows = grows_each (limited own_view) (Recovering last.decisions) mid.sessions last.sessions is.alone.count
          (λ store before after is_before is_after.
          let by = recovers.each store before after is_before is_after in
          recovered (Recovering last.decisions store) last.decisions (codes "c") store
          (λ number xid named decided. (number, named, decided))
          (λ number xid named decided. (number, named, decided)) by.0.0 by.0.1 (limited own_view before)
          (limited own_view after) tt by.2);
    }

module _ (mid last : Managing) (report : Report) (holds : Holds mid) (well : HasEndedWell mid last report) where
  -- the only branch of a transaction is still the only one after the recovery, which begins none
  alone : (number store : ℕ) → IsAlone mid.sessions number store → IsAlone last.sessions number store
  alone number store was other session is added =
      let grew = well.grows other session is in
      elim (grew_cases (Recovering last.decisions) other mid.sessions session
      (Statement.Start (branch_in number other)) grew added) [
        | inl before ↦ was other grew.before grew.there before
        | inr now ↦ absurd now
      ]

  -- a transaction that was over and undecided is undecided after the recovery
  undecided : (number : ℕ) → IsUndecidedOver mid number → is_decided last.decisions number ≡ false
  undecided number is = well.decisions number ∙ is.undecided

  -- a statement that went with how far transactions had come goes with the decisions after the recovery
  goes_last : (store : ℕ) (statement : Statement) → Goes mid store statement
      → GoesWith last.decisions last.sessions store statement
  goes_last store (Statement.Commit xid false) is = (is.0, is.1, well.decisions is.0 ∙ is.2)
  goes_last store (Statement.Commit xid true) is =
      (is.0, is.1, record { undecided = undecided is.0 is.2; alone = alone is.0 store is.3 })
  goes_last store (Statement.Rollback xid) is = (is.0, is.1, undecided is.0 is.2)
  goes_last store statement is = tt

  -- all that was added, before the recovery and in it, goes with the decisions, and no branch of the coordinator's is
  -- prepared
  pub keeps : KeepsToDecisions last
  keeps = record {
    goes = λ store session statement is added.
        let grew = well.grows store session is in
        elim (grew_cases (Recovering last.decisions) store mid.sessions session statement grew added) [
          | inl before ↦ goes_last store statement (holds.goes store grew.before statement grew.there before)
          | inr now ↦ recovering_goes last.decisions last.sessions store statement now
        ];
    none_left = λ store session is.
        let grew = well.grows store session is in
        (well.recovers.each store grew.before session grew.there is).2.clear.none_left;
  }

-- after calls of which none is RECOVER, and a recovery that returned a report, all that was added keeps to the
-- decisions
pub keeps_to_decisions : (stores : ℕ) (told : List Call) (responses : List Response) (report : Report) (last : Managing)
    → All IsPlain told
    → IsRun stores (told ++ Recover ∷ []) (responses ++ Recovered (Ok report) ∷ []) last → KeepsToDecisions last
keeps_to_decisions stores told responses report last plain run =
    let split = last_call run.first last _ _ run.carried told Recover responses (Recovered (Ok report)) refl refl in
    let mid = split.0 in
    keeps mid last report (calls_hold run.first mid told responses split.1 plain
    (fresh_holds stores run.first run.fresh)) (ended_well mid last report split.2)
