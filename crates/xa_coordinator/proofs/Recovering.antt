-- Recovering store after store.
use Rattle.std.proofs.Common.{◌≡◌, ◌<◌, ◌≤◌, ◌+◌, ℕ, zero, suc, List, [], ◌∷◌, ◌++◌, length, refl, ap, sym, ◌∙◌, subst}
use Rattle.std.proofs.{Common.{inl, inr, Option, Some, None, arith, length-append}, lemmas.List.map_push}
use Rattle.std.proofs.lemmas.{List.Sums.sum_by_push, Bool.cases_lt}
use Rattle.std.specs.{Prelude.{slice_get, map, Result, Ok, Err, IfOk, IfErr}, List.sum_by}
use Rattle.xa_session.specs.View.{SessionView}
use Rattle.xa_coordinator.specs.declared.{fault.{Cause.Cause, RecoverFault.RecoverFault}, decisions.Decision.Decision}
use Rattle.xa_coordinator.specs.declared.{branches.OpenBranch.OpenBranch, report.{Report.Report, Tally.Tally}}
use Rattle.xa_coordinator.specs.{Told.IsUndone, Agreement.Agrees, Stores.{AtStore, EachStore, ChangesAt, EndsAt}}
use Rattle.xa_coordinator.specs.Recovery.{IsRecovered, RecoveredBy, Recovers, BreaksBy, BreaksHere, BreaksOff}
use Rattle.xa_coordinator.specs.{Recovery.{asked_by_fault, IsCutOff, IsStillPrepared}, Parts.fault_by}
use Rattle.xa_coordinator.proofs.Walk.{Reached, reached_none, reached_next, reached_weaker, reached_all, from_ends}
use Rattle.xa_coordinator.proofs.{Walk.{at_weaker, at_same}, Agreeing.nothing_agrees}
use Rattle.xa_coordinator.proofs.Settling.{IsBroken, recovered_agrees, broken_agrees, still_agrees}
use Rattle.xa_xid.specs.declared.statement.Statement.TheVariants.{Disconnect}

-- nothing is open in the stores below a number, and in those from it on what is open is as it was
pub record FreesOpen (place : ℕ) (old new : List (Option OpenBranch)) : Type 0 where
  pub below : (store : ℕ) → store < place → slice_get new store ≡ Some None
  pub behind : (store : ℕ) → place ≤ store → slice_get new store ≡ slice_get old store

-- before the first store was recovered, what is open is as it was in all
pub frees_none : (branches : List (Option OpenBranch)) → FreesOpen 0 branches branches
frees_none branches = record { below = λ store none. absurd (omega arith); behind = λ store from. refl }

-- the loop over stores: if nothing is open in the stores below this one, and then only this one changes and has nothing
-- open, nothing is open in those below the next
pub frees_next : (place : ℕ) (old now next : List (Option OpenBranch)) → FreesOpen place old now
    → ChangesAt place now next → slice_get next place ≡ Some None
    → FreesOpen (place + 1) old next
frees_next place old now next frees changes free = record {
  below = λ store less.
      elim (cases_lt store place) [
        | inl below ↦ changes.others store (omega arith) ∙ frees.below store below
        | inr there ↦ let here : place ≡ store = omega arith in subst (λ s. slice_get next s ≡ Some None) here free
      ];
  behind = λ store from. changes.others store (omega arith) ∙ frees.behind store (omega arith);
}

-- in the stores below the one that was just spoken to nothing is open
pub frees_below : (place : ℕ) (old now next : List (Option OpenBranch)) → FreesOpen place old now
    → ChangesAt place now next → (store : ℕ) → store < place
    → slice_get next store ≡ Some None
frees_below place old now next frees changes store less = changes.others store (omega arith) ∙ frees.below store less

-- in the stores above the one that was just spoken to, what is open is as before
pub frees_behind : (place : ℕ) (old now next : List (Option OpenBranch)) → FreesOpen place old now
    → ChangesAt place now next → (store : ℕ) → place + 1 ≤ store
    → slice_get next store ≡ slice_get old store
frees_behind place old now next frees changes store from =
    changes.others store (omega arith) ∙ frees.behind store (omega arith)

-- putting an element behind a list leaves what stood in it
found_there : {A : Type 0} (xs : List A) (y : A) (store : ℕ) (one : A) → slice_get xs store ≡ Some one
    → slice_get (xs ++ y ∷ []) store ≡ Some one
found_there [] y store one is = absurd (cc)
found_there (x ∷ xs) y zero one is = is
found_there (x ∷ xs) y (suc store) one is = found_there xs y store one is

-- at the place behind a list stands the element that is put there
found_last : {A : Type 0} (xs : List A) (y : A) → slice_get (xs ++ y ∷ []) (length xs) ≡ Some y
found_last [] y = refl
found_last (x ∷ xs) y = found_last xs y

module _ {S : Type 0} (view : S → SessionView) (decisions : List Decision) (name : List ℕ) where
  -- the stores below a number are recovered, and the report has what was found
  pub record RecoversBelow (place : ℕ) (report : Report) (old now : List S) : Type 0 where
    pub found : List (Tally × ℕ)
    pub count : length found ≡ place
    pub reached : Reached view (RecoveredBy decisions name found) place old now
    pub fronts : report.fronts.items ≡ map (λ one. one.1) found
    pub committed : report.committed ≡ sum_by (λ one. one.0.committed) found
    pub rolled_back : report.rolled_back ≡ sum_by (λ one. one.0.rolled_back) found
    pub missing : report.missing ≡ sum_by (λ one. one.0.missing) found

  -- before the first store, an empty report has what was found in the stores below it: nothing
  pub recovers_none : (report : Report) (old : List S) → report.fronts.items ≡ [] → report.committed ≡ 0
      → report.rolled_back ≡ 0 → report.missing ≡ 0
      → RecoversBelow 0 report old old
  recovers_none report old fronts committed rolled_back missing = record {
    found = [];
    count = refl;
    reached = reached_none view (RecoveredBy decisions name []) old;
    fronts = fronts;
    committed = committed;
    rolled_back = rolled_back;
    missing = missing;
  }

  -- the loop over stores: one more was recovered, and the report has grown by its place and by what was counted there
  pub recovers_next : (place : ℕ) (report more : Report) (one : Tally × ℕ) (old now next : List S)
      → RecoversBelow place report old now
      → ChangesAt place now next → AtStore view place (IsRecovered decisions name place one.0 one.1) now next →
      more.fronts.items ≡ report.fronts.items ++ one.1 ∷ [] → more.committed ≡ report.committed + one.0.committed
      → more.rolled_back ≡ report.rolled_back + one.0.rolled_back → more.missing ≡ report.missing + one.0.missing →
      RecoversBelow (place + 1) more old next
  recovers_next place report more one old now next so_far changes is fronts committed rolled_back missing =
      let longer : List (Tally × ℕ) = so_far.found ++ one ∷ [] in
      let last : slice_get longer place ≡ Some one = subst (λ n. slice_get longer n ≡ Some one) so_far.count
      (found_last so_far.found one) in
      record {
        found = longer;
        count = length-append so_far.found (one ∷ []) ∙ omega (arith, so_far.count);
        reached = reached_next view (RecoveredBy decisions name longer) place old now next
            (reached_weaker view (RecoveredBy decisions name so_far.found)
            (RecoveredBy decisions name longer) place old now
            (λ store less a b by. (by.0, found_there so_far.found one store by.0 by.1, by.2)) so_far.reached)
            changes
            (at_weaker view place (IsRecovered decisions name place one.0 one.1)
            (RecoveredBy decisions name longer place)
            (λ a b recovered. (one, last, recovered)) now next is);
        fronts = fronts ∙ ap (λ list. list ++ one.1 ∷ []) so_far.fronts
            ∙ sym (map_push (λ (o : Tally × ℕ). o.1) so_far.found one);
        committed = committed ∙ ap (λ n. n + one.0.committed) so_far.committed
            ∙ sym (sum_by_push (λ (o : Tally × ℕ). o.0.committed) so_far.found one);
        rolled_back =
            rolled_back ∙ ap (λ n. n + one.0.rolled_back) so_far.rolled_back
            ∙ sym (sum_by_push (λ (o : Tally × ℕ). o.0.rolled_back) so_far.found one);
        missing = missing ∙ ap (λ n. n + one.0.missing) so_far.missing
            ∙ sym (sum_by_push (λ (o : Tally × ℕ). o.0.missing) so_far.found one);
      }

  -- once the loop has passed all stores, all are recovered, and the report is the recovery's
  pub recovers_all : (place : ℕ) (report : Report) (old now : List S) → RecoversBelow place report old now
      → place ≡ length old
      → Recovers view decisions name report old now
  recovers_all place report old now so_far whole = record {
    found = so_far.found;
    count = so_far.count ∙ whole;
    each = reached_all view (RecoveredBy decisions name so_far.found) place old now so_far.reached
        (omega (arith, whole));
    fronts = so_far.fronts;
    committed = so_far.committed;
    rolled_back = so_far.rolled_back;
    missing = so_far.missing;
  }

  -- if the recovery of a store failed (`BreaksBy`), one of its statements wasn't carried out (`IsBroken`); what the
  -- coordinator has open there is left out
  broken_at : (place : ℕ) (cause : Cause) (marks marks' : List (Option OpenBranch)) (old new : List S)
      → BreaksBy view decisions name place cause marks marks' old new
      → AtStore view place (IsBroken decisions name place cause) old new
  broken_at place (Cause.Session fault) marks marks' old new (inl is) = λ a b is_a is_b. inl (is.1 a b is_a is_b)
  broken_at place (Cause.Session fault) marks marks' old new (inr is) = λ a b is_a is_b. inr (is.1 a b is_a is_b)
  broken_at place (Cause.Refused error) marks marks' old new is = is.1

  -- if the stores below this one were recovered first, what then holds of this one holds since the beginning: it was
  -- as at first
  here_at : (place : ℕ) (report : Report) (last : SessionView → SessionView → Type 0) (old now next : List S)
      → RecoversBelow place report old now
      → AtStore view place last now next → AtStore view place last old next
  here_at place report last old now next so_far is =
      λ a b is_a is_b. is a b (so_far.reached.behind place (omega arith) ∙ is_a) is_b

  -- if the stores below this one were recovered first, and then its recovery failed for this cause, it failed so since
  -- the beginning
  broke_by : (place : ℕ) (report : Report) (cause : Cause) (marks now_marks marks' : List (Option OpenBranch))
      (old now next : List S)
      → RecoversBelow place report old now → slice_get now_marks place ≡ slice_get marks place →
      BreaksBy view decisions name place cause now_marks marks' now next
      → BreaksBy view decisions name place cause marks marks' old next
  broke_by place report (Cause.Session fault) marks now_marks marks' old now next so_far same (inl is) =
      inl (is.0 ∙ same, here_at place report (IsUndone Disconnect (Cause.Session fault)) old now next so_far is.1)
  broke_by place report (Cause.Session fault) marks now_marks marks' old now next so_far same (inr is) =
      inr (
        is.0,
        here_at place report (λ before after. IsCutOff decisions name place before
            (Cause.Session fault) after) old now next so_far is.1,
      )
  broke_by place report (Cause.Refused error) marks now_marks marks' old now next so_far same is = (
    is.0,
    here_at place report (λ before after. IsCutOff decisions name place before
        (Cause.Refused error) after) old now next so_far is.1,
  )

  -- if the stores below this one were recovered first, and then its recovery failed with this fault, it failed so since
  -- the beginning
  pub breaks_there : (place : ℕ) (report : Report) (fault : RecoverFault)
      (marks now_marks marks' : List (Option OpenBranch)) (old now next : List S)
      → RecoversBelow place report old now → slice_get now_marks place ≡ slice_get marks place
      → asked_by_fault fault ≡ place + 1
      → BreaksHere view decisions name fault now_marks marks' now next →
      BreaksHere view decisions name fault marks marks' old next
  breaks_there place report (RecoverFault.Session at fault) marks now_marks marks' old now next so_far same asked is =
      let there : at + 1 ≡ place + 1 = asked in
      let here : place ≡ at = omega (arith, there) in
      subst (λ n. BreaksBy view decisions name n (Cause.Session fault) marks marks' old next) here
      (broke_by place report (Cause.Session fault) marks now_marks marks' old now next so_far same
      (subst (λ n. BreaksBy view decisions name n (Cause.Session fault) now_marks marks' now next) (sym here) is))
  breaks_there place report (RecoverFault.StillPrepared at) marks now_marks marks' old now next so_far same asked is =
      let there : at + 1 ≡ place + 1 = asked in
      let here : place ≡ at = omega (arith, there) in (
        is.0,
        subst (λ n. AtStore view n (IsStillPrepared decisions name n) old next) here
            (here_at place report (IsStillPrepared decisions name place) old now next so_far
            (subst (λ n. AtStore view n (IsStillPrepared decisions name n) now next) (sym here) is.1)),
      )
  breaks_there place report RecoverFault.NoMemory marks now_marks marks' old now next so_far same asked is =
      let none : 0 ≡ place + 1 = asked in absurd (omega (arith, none))
  breaks_there place report (RecoverFault.Refused at error) marks now_marks marks' old now next so_far same asked is =
      let there : at + 1 ≡ place + 1 = asked in
      let here : place ≡ at = omega (arith, there) in
      subst (λ n. BreaksBy view decisions name n (Cause.Refused error) marks marks' old next) here
      (broke_by place report (Cause.Refused error) marks now_marks marks' old now next so_far same
      (subst (λ n. BreaksBy view decisions name n (Cause.Refused error) now_marks marks' now next) (sym here) is))

  -- if the stores below one are recovered, and the recovery of that one failed, the recovery of all broke off there
  pub breaks_at : (place : ℕ) (report : Report) (fault : RecoverFault)
      (marks now_marks marks' : List (Option OpenBranch)) (old now next : List S)
      → place < length old → RecoversBelow place report old now → slice_get now_marks place ≡ slice_get marks place
      → ChangesAt place now next
      → asked_by_fault fault ≡ place + 1 → BreaksHere view decisions name fault now_marks marks' now next
      → BreaksOff view decisions name fault marks marks' old next
  breaks_at place report fault marks now_marks marks' old now next within so_far same changes asked is = record {
    within = omega (arith, asked, within);
    below = λ store less. λ before after is_before is_after.
        let by = so_far.reached.below store (omega (arith, less, asked)) before after is_before
        (sym (changes.others store (omega (arith, less, asked))) ∙ is_after) in
        (by.0, by.2);
    here = breaks_there place report fault marks now_marks marks' old now next so_far same asked is;
    behind = λ store from. changes.others store (omega (arith, from, asked))
        ∙ so_far.reached.behind store (omega (arith, from, asked));
  }

  -- if the recovery of a store failed for a cause, it failed with the fault that `fault_by` makes of it
  pub breaks_by : (place : ℕ) (cause : Cause) (marks marks' : List (Option OpenBranch)) (old next : List S)
      → BreaksBy view decisions name place cause marks marks' old next
      → BreaksHere view decisions name (fault_by place cause) marks marks' old next
  breaks_by place (Cause.Session fault) marks marks' old next is = is
  breaks_by place (Cause.Refused error) marks marks' old next is = is

  -- the fault that `fault_by` makes of a cause says that the stores up to this one were spoken to
  pub asked_for : (place : ℕ) (cause : Cause) → asked_by_fault (fault_by place cause) ≡ place + 1
  asked_for place (Cause.Session fault) = refl
  asked_for place (Cause.Refused error) = refl

  -- what a recovery of all stores added in each agrees with the decisions
  pub recovers_agree : (report : Report) (old now : List S) → Recovers view decisions name report old now
      → EachStore view (Agrees decisions name) old now
  recovers_agree report old now is store =
      at_weaker view store (RecoveredBy decisions name is.found store) (Agrees decisions name store)
      (λ a b by. recovered_agrees decisions name store by.0.0 by.0.1 a b by.2) old now (is.each store)

  -- if a recovery ended at a store, and what it did there agrees with the decisions, what it did in each store does
  ends_agree : (place : ℕ) (last : SessionView → SessionView → Type 0) (old new : List S)
      → ((a b : SessionView) → last a b → Agrees decisions name place a b) →
      EndsAt view (λ other before after. (one : Tally × ℕ)
      × IsRecovered decisions name other one.0 one.1 before after) place last old new
      → EachStore view (Agrees decisions name) old new
  ends_agree place last old new at_last is =
      from_ends view _ (Agrees decisions name) place last old new is
      (λ other a b by. recovered_agrees decisions name other by.0.0 by.0.1 a b by.1) at_last
      (λ other a. nothing_agrees decisions name other a)

  -- what a recovery that failed added in each store agrees with the decisions
  pub breaks_agree : (fault : RecoverFault) (marks marks' : List (Option OpenBranch)) (old new : List S)
      → BreaksOff view decisions name fault marks marks' old new → EachStore view (Agrees decisions name) old new
  breaks_agree (RecoverFault.Session store fault) marks marks' old new is =
      ends_agree store (IsBroken decisions name store (Cause.Session fault)) old new
      (λ a b broken. broken_agrees decisions name store (Cause.Session fault) a b broken)
      (record {
        below = λ other less. is.below other (omega (arith, less));
        at = broken_at store (Cause.Session fault) marks marks' old new is.here;
        behind = λ other more. is.behind other (omega (arith, more));
      })
  breaks_agree (RecoverFault.StillPrepared store) marks marks' old new is =
      ends_agree store (IsStillPrepared decisions name store) old new
      (λ a b still. still_agrees decisions name store a b still)
      (record {
        below = λ other less. is.below other (omega
            (arith, less));
        at = is.here.1;
        behind = λ other more. is.behind other (omega (arith, more));
      })
  breaks_agree RecoverFault.NoMemory marks marks' old new is =
      λ store. at_same view store (Agrees decisions name store) (λ a. nothing_agrees decisions name store a) old new
      (is.behind store (omega arith))
  breaks_agree (RecoverFault.Refused store error) marks marks' old new is =
      ends_agree store (IsBroken decisions name store (Cause.Refused error)) old new
      (λ a b broken. broken_agrees decisions name store (Cause.Refused error) a b broken)
      (record {
        below = λ other less. is.below other (omega (arith, less));
        at = broken_at store (Cause.Refused error) marks marks' old new is.here;
        behind = λ other more. is.behind other (omega (arith, more));
      })

  -- what a recovery added in each store agrees with the decisions, whether it succeeded or failed
  pub ends_as : (result : Result Report RecoverFault) (marks marks' : List (Option OpenBranch)) (old new : List S)
      → IfOk result (λ report. Recovers view decisions name report old new)
      → IfErr result (λ fault. BreaksOff view decisions name fault marks marks' old new) →
      EachStore view (Agrees decisions name) old new
  ends_as (Ok report) marks marks' old new recovers breaks = recovers_agree report old new recovers
  ends_as (Err fault) marks marks' old new recovers breaks = breaks_agree fault marks marks' old new breaks
