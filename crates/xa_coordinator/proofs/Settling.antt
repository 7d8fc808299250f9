-- What a recovery does with the prepared branches of a store, and what it counts.
use Rattle.std.proofs.Common.{◌≡◌, ℕ, Bool, true, false, List, [], ◌∷◌, ◌++◌, length, take, sym, subst, inl, inr}
use Rattle.std.{proofs.Common.{Result, Ok, Err, Option, Some, None}, specs.Prelude.{◌⊎◌, All, IfOk, IfErr, slice_get}}
use Rattle.std.proofs.lemmas.List.Elements.{All-nil, All-cons, All-append}
use Rattle.xa_xid.specs.declared.{xid.Xid.Xid, statement.Statement.Statement}
use Rattle.xa_xid.specs.declared.statement.Statement.TheVariants.{Commit, Rollback, Recover, Disconnect}
use Rattle.xa_server.specs.declared.xa_error.XaError.TheVariants.{Nota}
use Rattle.xa_session.specs.View.{SessionView}
use Rattle.xa_coordinator.specs.declared.fault.Cause.{Cause, TheVariants.{Session, Refused as RefusedBy}}
use Rattle.xa_coordinator.specs.declared.{branches.OpenBranch.OpenBranch, closing.Found.Found}
use Rattle.xa_coordinator.specs.{declared.{decisions.Decision.Decision, report.Tally.Tally}, Decisions.is_decided}
use Rattle.xa_coordinator.specs.{Agreement.{AddsEach, AgreesWith, Agrees}, Branch.{branch_xid, IsBranchOf}, Work.MayBe}
use Rattle.xa_coordinator.specs.{Outcomes.finish_statement, Parts.{SaysAs, counted}, Stores.AtStore, Told.IsUndone}
use Rattle.xa_coordinator.specs.Recovery.{IsDisconnected, ListsPrepared, finish_decided, SettlesOne, foreign, committed}
use Rattle.xa_coordinator.specs.Recovery.{rolled_back, missing, Settled, nothing, one_more, IsFinished, IsSettled}
use Rattle.xa_coordinator.specs.Recovery.{IsRecovered, IsUnsettled, StopsAmong, IsCutOff, unlisted, unsettled}
use Rattle.xa_coordinator.{specs.Recovery.{unlisted_again, IsStillPrepared, BreaksBy}, proofs.Walk.at_then}
use Rattle.xa_coordinator.proofs.{Agreeing.{nothing_agrees, one_agrees, undone_agrees}, Telling.adds_then}

-- a statement of the recovery of a store wasn't carried out for this cause: DISCONNECT, or one behind it
abbrev pub IsBroken : List Decision → List ℕ → ℕ → Cause → SessionView → SessionView → Type 0
IsBroken decisions name store (Session fault) old new =
    IsUndone Disconnect (Session fault) old new ⊎ IsCutOff decisions name store old (Session fault) new
IsBroken decisions name store (RefusedBy error) old new = IsCutOff decisions name store old (RefusedBy error) new

-- if two calls, one after the other, add only what agrees with the decisions, so do both together
pub two_agreements : (decisions : List Decision) (name : List ℕ) (store : ℕ) (old mid new : SessionView)
    → Agrees decisions name store old mid
    → Agrees decisions name store mid new → Agrees decisions name store old new
two_agreements decisions name store old mid new one two = record {
  statements = one.statements ++ two.statements;
  adds = adds_then one.statements two.statements old mid new one.adds two.adds;
  each = All-append (AgreesWith decisions name store) one.statements two.statements one.each two.each;
}

module _ (decisions : List Decision) (name : List ℕ) (store : ℕ) where
  -- a branch of the coordinator's naming that was finished as the decisions say, or wasn't known, is settled, and
  -- counted
  pub settles : (number : ℕ) (xid : Xid) → IsBranchOf name number store xid → (tally : Tally) (decided : Bool)
      → is_decided decisions number ≡ decided
      → (found : Found) (old new : SessionView) →
      SaysAs (finish_statement (finish_decided decided) (branch_xid name number store)) (Ok found) old new
      → SettlesOne decisions name store xid tally old (counted tally decided found) new
  settles number xid named tally true is Found.Closed old new said =
      committed number named is new (subst (λ x. AddsEach (Commit x false ∷ []) old new) (sym named.is) said)
  settles number xid named tally false is Found.Closed old new said =
      rolled_back number named is new (subst (λ x. AddsEach (Rollback x ∷ []) old new) (sym named.is) said)
  settles number xid named tally true is Found.Missing old new said =
      missing number named new
      (subst (λ (b : Bool). IsUndone (finish_statement (finish_decided b) xid) (RefusedBy Nota) old new) (sym is)
      (subst (λ x. IsUndone (Commit x false) (RefusedBy Nota) old new) (sym named.is) said))
  settles number xid named tally false is Found.Missing old new said =
      missing number named new
      (subst (λ (b : Bool). IsUndone (finish_statement (finish_decided b) xid) (RefusedBy Nota) old new) (sym is)
      (subst (λ x. IsUndone (Rollback x) (RefusedBy Nota) old new) (sym named.is) said))

  -- a branch of the coordinator's naming whose finishing statement wasn't carried out, for this cause, isn't settled
  pub unsettled_by : (number : ℕ) (xid : Xid) → IsBranchOf name number store xid → (decided : Bool)
      → is_decided decisions number ≡ decided
      → (cause : Cause) (old new : SessionView) →
      SaysAs (finish_statement (finish_decided decided) (branch_xid name number store)) (Err cause) old new
      → IsUnsettled decisions name store xid cause old new
  unsettled_by number xid named decided is cause old new said = record {
    number = number;
    named = named;
    undone =
        subst (λ (b : Bool). IsUndone (finish_statement (finish_decided b) xid) cause old new) (sym is)
        (subst (λ x. IsUndone (finish_statement (finish_decided decided) x) cause old new) (sym named.is) said.1);
    known = said.0;
  }

  -- ---- agreement

  -- what settling one listed branch added agrees with the decisions
  one_settled_agrees : (xid : Xid) (before after : Tally) (old new : SessionView)
      → SettlesOne decisions name store xid before old after new
      → Agrees decisions name store old new
  one_settled_agrees xid before same old here (foreign out) = nothing_agrees decisions name store old
  one_settled_agrees xid before after old end (committed number named decided new adds) =
      one_agrees decisions name store (Commit xid false) old new (number, named, decided) adds.adds
  one_settled_agrees xid before after old end (rolled_back number named decided new adds) =
      one_agrees decisions name store (Rollback xid) old new (number, named, decided) adds.adds
  one_settled_agrees xid before after old end (missing number named new undone) =
      undone_agrees decisions name store (finish_statement (finish_decided (is_decided decisions number)) xid)
      (RefusedBy Nota) old new undone

  -- what settling the branches of a list added agrees with the decisions
  pub settled_agrees : (old : SessionView) (xids : List Xid) (tally : Tally) (new : SessionView)
      → Settled decisions name store old xids tally new
      → Agrees decisions name store old new
  settled_agrees old list tally end nothing = nothing_agrees decisions name store old
  settled_agrees old list tally end (one_more xids before mid settled xid after new one) =
      two_agreements decisions name store old mid new (settled_agrees old xids before mid settled)
      (one_settled_agrees xid before after mid new one)

  -- a DISCONNECT, or no statement, agrees with the decisions
  let_go_agrees : (statements : List Statement) → MayBe Disconnect statements
      → All (AgreesWith decisions name store) statements
  let_go_agrees statements (inl none) =
      subst (All (AgreesWith decisions name store)) (sym none) (All-nil (AgreesWith decisions name store))
  let_go_agrees statements (inr one) =
      subst (All (AgreesWith decisions name store)) (sym one)
      (All-cons (AgreesWith decisions name store) Disconnect [] tt (All-nil (AgreesWith decisions name store)))

  -- what disconnecting added agrees with the decisions
  disconnected_agrees : (old new : SessionView) → IsDisconnected old new → Agrees decisions name store old new
  disconnected_agrees old new is =
      record { statements = is.statements; adds = is.adds; each = let_go_agrees is.statements is.is }

  -- an answered XA RECOVER agrees with the decisions: it added nothing
  listed_agrees : (xids : List Xid) (place : ℕ) (old new : SessionView) → ListsPrepared xids place old new
      → Agrees decisions name store old new
  listed_agrees xids place old new is =
      record { statements = []; adds = is.adds; each = All-nil (AgreesWith decisions name store) }

  -- what listing the prepared branches and settling them added agrees with the decisions
  finished_agrees : (tally : Tally) (old new : SessionView) → IsFinished decisions name store tally old new
      → Agrees decisions name store old new
  finished_agrees tally old new is =
      two_agreements decisions name store old is.listing new (listed_agrees is.xids is.place old is.listing is.listed)
      (settled_agrees is.listing is.xids tally new is.settled)

  -- what disconnecting, listing the prepared branches and settling them added agrees with the decisions
  settled_store_agrees : (tally : Tally) (old new : SessionView) → IsSettled decisions name store tally old new
      → Agrees decisions name store old new
  settled_store_agrees tally old new is =
      two_agreements decisions name store old is.freed new (disconnected_agrees old is.freed is.disconnected)
      (finished_agrees tally is.freed new is.rest)

  -- what the recovery of a store added agrees with the decisions
  pub recovered_agrees : (tally : Tally) (front : ℕ) (old new : SessionView)
      → IsRecovered decisions name store tally front old new
      → Agrees decisions name store old new
  recovered_agrees tally front old new is =
      two_agreements decisions name store old is.finished new (settled_store_agrees tally old is.finished is.settled)
      (listed_agrees is.clear.xids front is.finished new is.clear.listed)

  -- what settling the branches of a list up to one that wasn't finished added agrees with the decisions
  stops_agrees : (xids : List Xid) (cause : Cause) (old new : SessionView)
      → StopsAmong decisions name store xids cause old new
      → Agrees decisions name store old new
  stops_agrees xids cause old new is =
      two_agreements decisions name store old is.mid new (settled_agrees old
      (take is.place xids) is.tally is.mid is.settled)
      (undone_agrees decisions name store (finish_statement
      (finish_decided (is_decided decisions is.unsettled.number)) is.xid) cause is.mid new
      is.unsettled.undone)

  -- what the recovery of a store that failed after the DISCONNECT added agrees with the decisions
  cut_off_agrees : (cause : Cause) (old new : SessionView) → IsCutOff decisions name store old cause new
      → Agrees decisions name store old new
  cut_off_agrees by old end (unlisted freed disconnected fault new undone) =
      two_agreements decisions name store old freed new (disconnected_agrees old freed disconnected)
      (undone_agrees decisions name store (Recover false) (Session fault) freed new undone)
  cut_off_agrees by old end (unsettled freed disconnected listing xids place listed cause new stops) =
      two_agreements decisions name store old freed new (disconnected_agrees old freed disconnected)
      (two_agreements decisions name store freed listing new (listed_agrees xids place freed listing listed)
      (stops_agrees xids cause listing new stops))
  cut_off_agrees by old end (unlisted_again tally finished settled fault new undone) =
      two_agreements decisions name store old finished new (settled_store_agrees tally old finished settled)
      (undone_agrees decisions name store (Recover false) (Session fault) finished new undone)

  -- what the recovery of a store of which a statement wasn't carried out added agrees with the decisions
  pub broken_agrees : (cause : Cause) (old new : SessionView) → IsBroken decisions name store cause old new
      → Agrees decisions name store old new
  broken_agrees (Session fault) old new (inl undone) =
      undone_agrees decisions name store Disconnect (Session fault) old new undone
  broken_agrees (Session fault) old new (inr is) = cut_off_agrees (Session fault) old new is
  broken_agrees (RefusedBy error) old new is = cut_off_agrees (RefusedBy error) old new is

  -- what the recovery of a store that found a branch prepared at its end added agrees with the decisions
  pub still_agrees : (old new : SessionView) → IsStillPrepared decisions name store old new
      → Agrees decisions name store old new
  still_agrees old new is =
      two_agreements decisions name store old is.finished new (settled_store_agrees is.tally old is.finished is.settled)
      (listed_agrees is.xids is.place is.finished new is.listed)

-- ---- what a call came to, by its result

module _ {S : Type 0} (view : S → SessionView) (decisions : List Decision) (name : List ℕ) (store : ℕ) where
  -- if the prepared branches were listed, and then, after Ok, all settled, they were finished (`IsFinished`)
  pub listed_finished : (result : Result Tally Cause) (xids : List Xid) (place : ℕ) (old mid new : List S)
      → length mid ≡ length old
      → AtStore view store (ListsPrepared xids place) old mid →
      IfOk result (λ tally. AtStore view store (λ a b. Settled decisions name store a xids tally b) mid new)
      → IfOk result (λ tally. AtStore view store (IsFinished decisions name store tally) old new)
  listed_finished (Ok tally) xids place old mid new count listed settled =
      at_then view store (ListsPrepared xids place) (λ a b. Settled decisions name store a xids tally b)
      (IsFinished decisions name store tally)
      (λ a m b is then_settled. record { listing = m; xids = xids; place = place; listed = is; settled = then_settled })
      old mid new count listed settled
  listed_finished (Err cause) xids place old mid new count listed settled = tt

  -- if the prepared branches were listed, and then, after Err, one wasn't finished, the recovery is cut off for that
  -- cause, if the session had disconnected just before
  pub unsettled_listed : (result : Result Tally Cause) (xids : List Xid) (place : ℕ) (old mid new : List S)
      → length mid ≡ length old
      → AtStore view store (ListsPrepared xids place) old mid →
      IfErr result (λ cause. AtStore view store (StopsAmong decisions name store xids cause) mid new)
      → IfErr result
      (λ cause. AtStore view store (λ freed b. (before : SessionView) → IsDisconnected before freed
      → IsCutOff decisions name store before cause b) old new)
  unsettled_listed (Ok tally) xids place old mid new count listed stops = tt
  unsettled_listed (Err cause) xids place old mid new count listed stops =
      at_then view store (ListsPrepared xids place) (StopsAmong decisions name store xids cause)
      (λ freed b. (before : SessionView) → IsDisconnected before freed → IsCutOff decisions name store before cause b)
      (λ freed listing b is stop before disconnected. unsettled freed disconnected listing xids place is cause b stop)
      old mid new count listed stops

  -- if the session disconnected, and then what follows is cut off for this cause, the recovery of the store is
  cut_off_freed : (cause : Cause) (old mid new : List S) → length mid ≡ length old
      → AtStore view store IsDisconnected old mid
      → AtStore view store (λ freed b. (before : SessionView) → IsDisconnected before freed
      → IsCutOff decisions name store before cause b) mid new →
      AtStore view store (λ before after. IsCutOff decisions name store before cause after) old new
  cut_off_freed cause old mid new count freed cut =
      at_then view store IsDisconnected (λ f b. (before : SessionView) → IsDisconnected before f
      → IsCutOff decisions name store before cause b)
      (λ before after. IsCutOff decisions name store before cause after)
      (λ a f b is by. by a is) old mid new count freed cut

  -- if the session disconnected, the coordinator has nothing open there, and then, after Err, the recovery is cut off,
  -- the recovery of the store failed for that cause
  pub breaks_freed : (result : Result Tally Cause) (marks marks' : List (Option OpenBranch)) (old mid new : List S)
      → length mid ≡ length old
      → slice_get marks' store ≡ Some None → AtStore view store IsDisconnected old mid →
      IfErr result
      (λ cause. AtStore view store (λ freed b. (before : SessionView) → IsDisconnected before freed
      → IsCutOff decisions name store before cause b) mid new)
      → IfErr result (λ cause. BreaksBy view decisions name store cause marks marks' old new)
  breaks_freed (Ok tally) marks marks' old mid new count free freed cut = tt
  breaks_freed (Err (Session fault)) marks marks' old mid new count free freed cut =
      inr (free, cut_off_freed (Session fault) old mid new count freed cut)
  breaks_freed (Err (RefusedBy error)) marks marks' old mid new count free freed cut =
      (free, cut_off_freed (RefusedBy error) old mid new count freed cut)

  -- if the session disconnected, and then, after Ok, the prepared branches were finished, the store is settled
  pub freed_finished : (result : Result Tally Cause) (old mid new : List S) → length mid ≡ length old
      → AtStore view store IsDisconnected old mid
      → IfOk result (λ tally. AtStore view store (IsFinished decisions name store tally) mid new) →
      IfOk result (λ tally. AtStore view store (IsSettled decisions name store tally) old new)
  freed_finished (Ok tally) old mid new count freed finished =
      at_then view store IsDisconnected (IsFinished decisions name store tally) (IsSettled decisions name store tally)
      (λ a m b is rest. record { freed = m; disconnected = is; rest = rest }) old mid new count freed finished
  freed_finished (Err cause) old mid new count freed finished = tt
