-- What calls add agrees with the decisions.
use Rattle.std.proofs.Common.{◌≡◌, ◌<◌, inl, inr, ◌^◌, ℕ, Bool, true, false, List, [], ◌∷◌, refl, sym, subst}
use Rattle.std.{proofs.lemmas.List.Elements.{All-nil, All-cons}, specs.Prelude.{slice_get, Option, Some}}
use Rattle.xa_session.specs.View.{SessionView}
use Rattle.xa_coordinator.specs.declared.{branches.OpenBranch.OpenBranch, fault.Cause.Cause, vote.Vote.Vote}
use Rattle.xa_coordinator.specs.declared.{decisions.Decision.Decision, transaction.Transaction.Transaction}
use Rattle.xa_coordinator.specs.declared.{transaction.VoteKind.VoteKind, closing.Closing.Closing, ending.Ending.Ending}
use Rattle.xa_coordinator.specs.{Branch.branch_xid, Participants.takes_part}
use Rattle.xa_coordinator.specs.{Agreement.{AddsStatements, AgreesWith, Agrees}, Stores.EachStore}
use Rattle.xa_coordinator.specs.Told.{IsDone, IsUndone, IsUndoneBehind, IsStopped, IsMissing, IsUnfinished}
use Rattle.xa_coordinator.specs.Outcomes.{branch_of, finish_statement, ends_in, IsClosed, Settles, SettlesIn, IsVoted}
use Rattle.xa_coordinator.specs.{Outcomes.{IsEnded, EndsAs, VotesAs, finish_for, lists_store}, Decisions.is_decided}
use Rattle.xa_coordinator.proofs.{Telling.{adds_then, adds_nothing}, Walk.{at_weaker, from_ends, same_one}}
use Rattle.xa_xid.specs.declared.{xid.Xid.Xid, statement.Statement.{Statement, TheVariants.{End, Prepare}}}

-- the decisions allow this way of finishing a transaction: two phases if it is decided, a rollback if it isn't, and
-- one phase always
abbrev pub Allows : List Decision → ℕ → Closing → Type 0
Allows decisions number Closing.InTwoPhases = is_decided decisions number ≡ true
Allows decisions number Closing.InOnePhase = Unit {0}
Allows decisions number Closing.RollBack = is_decided decisions number ≡ false

module _ (decisions : List Decision) (name : List ℕ) (store : ℕ) where
  -- a session that isn't used adds nothing, which agrees with the decisions
  pub nothing_agrees : (session : SessionView) → Agrees decisions name store session session
  nothing_agrees session =
      record { statements = []; adds = adds_nothing session; each = All-nil (AgreesWith decisions name store) }

  -- a call that added one statement, which agrees with the decisions, agrees with them
  pub one_agrees : (statement : Statement) (old new : SessionView) → AgreesWith decisions name store statement
      → AddsStatements (statement ∷ []) old new
      → Agrees decisions name store old new
  one_agrees statement old new is adds = record {
    statements = statement ∷ [];
    adds = adds;
    each = All-cons (AgreesWith decisions name store) statement [] is (All-nil (AgreesWith decisions name store));
  }

  -- a call that added two statements, each of which agrees with the decisions, agrees with them
  pub two_agree : (first second : Statement) (old new : SessionView) → AgreesWith decisions name store first
      → AgreesWith decisions name store second
      → AddsStatements (first ∷ second ∷ []) old new → Agrees decisions name store old new
  two_agree first second old new is also adds = record {
    statements = first ∷ second ∷ [];
    adds = adds;
    each =
        All-cons (AgreesWith decisions name store) first (second ∷ []) is
        (All-cons (AgreesWith decisions name store) second [] also (All-nil (AgreesWith decisions name store)));
  }

  -- a call that added nothing agrees with the decisions
  none_agrees : (old new : SessionView) → AddsStatements [] old new → Agrees decisions name store old new
  none_agrees old new adds = record { statements = []; adds = adds; each = All-nil (AgreesWith decisions name store) }

  -- a statement that wasn't carried out agrees with the decisions: it added nothing
  pub undone_agrees : (statement : Statement) (cause : Cause) (old new : SessionView) → IsUndone statement cause old new
      → Agrees decisions name store old new
  undone_agrees statement cause old new is = none_agrees old new is.adds

  -- an XA END that was carried out, and then a call that added nothing, agree with the decisions
  ended_agrees : (xid : Xid) (old mid new : SessionView) → IsDone (End xid) old mid → AddsStatements [] mid new
      → Agrees decisions name store old new
  ended_agrees xid old mid new ends nothing =
      one_agrees (End xid) old new tt (adds_then (End xid ∷ []) [] old mid new ends.adds nothing)

  -- an XA END that was carried out, and then a statement that wasn't, agree with the decisions
  behind_agrees : (statement : Statement) (xid : Xid) (cause : Cause) (old new : SessionView)
      → IsUndoneBehind statement xid cause old new
      → Agrees decisions name store old new
  behind_agrees statement xid cause old new is = ended_agrees xid old is.mid new is.ends is.undone.adds

  -- a statement that wasn't carried out, or whose XA END wasn't, agrees with the decisions
  pub stopped_agrees : (ends : Bool) (statement : Statement) (xid : Xid) (cause : Cause) (old new : SessionView)
      → IsStopped ends statement xid cause old new
      → Agrees decisions name store old new
  stopped_agrees false statement xid cause old new is = undone_agrees statement cause old new is
  stopped_agrees true statement xid cause old new (inl is) = undone_agrees (End xid) cause old new is
  stopped_agrees true statement xid cause old new (inr is) = behind_agrees statement xid cause old new is

  -- a branch that wasn't finished agrees with the decisions
  pub unfinished_agrees : (ends : Bool) (statement : Statement) (xid : Xid) (cause : Cause) (old new : SessionView)
      → IsUnfinished ends statement xid cause old new → Agrees decisions name store old new
  unfinished_agrees false statement xid cause old new is = undone_agrees statement cause old new is.1
  unfinished_agrees true statement xid cause old new (inl is) = undone_agrees (End xid) cause old new is
  unfinished_agrees true statement xid cause old new (inr is) = behind_agrees statement xid cause old new is.1

  -- a branch that wasn't known when it was to be finished agrees with the decisions
  pub missing_agrees : (ends : Bool) (statement : Statement) (xid : Xid) (old new : SessionView)
      → IsMissing ends statement xid old new
      → Agrees decisions name store old new
  missing_agrees false statement xid old new is = undone_agrees statement _ old new is
  missing_agrees true statement xid old new is = behind_agrees statement xid _ old new is

  -- a store that preparing has reached agrees with the decisions, whether it takes part or not
  pub voted_agrees : (xid : Xid) (takes : Bool) (old new : SessionView) → IsVoted xid takes old new
      → Agrees decisions name store old new
  voted_agrees xid false old new is = subst (λ s. Agrees decisions name store old s) (sym is) (nothing_agrees old)
  voted_agrees xid true old new is = two_agree (End xid) (Prepare xid) old new tt tt is.adds

  -- a store in which the work of the only participant's branch was ended agrees with the decisions, and so does any
  -- other
  pub ends_agrees : (xid : Xid) (takes : Bool) (old new : SessionView) → IsEnded xid takes old new
      → Agrees decisions name store old new
  ends_agrees xid false old new is = subst (λ s. Agrees decisions name store old s) (sym is) (nothing_agrees old)
  ends_agrees xid true old new is = one_agrees (End xid) old new tt is.adds

  -- the statement that finishes the branch of a number, of eight bytes, agrees with the decisions, if they allow this
  -- way for the number
  pub closing_agrees : (number : ℕ) → number < 2 ^ 64 → (closing : Closing) → Allows decisions number closing
      → AgreesWith decisions name store (finish_statement closing (branch_xid name number store))
  closing_agrees number fits Closing.InTwoPhases allows = (number, record { fits = fits; is = refl }, allows)
  closing_agrees number fits Closing.InOnePhase allows = (number, record { fits = fits; is = refl })
  closing_agrees number fits Closing.RollBack allows = (number, record { fits = fits; is = refl }, allows)

  -- a branch that was finished by a statement that agrees with the decisions agrees with them
  closed_agrees : (ends : Bool) (statement : Statement) (xid : Xid) → AgreesWith decisions name store statement
      → (old new : SessionView)
      → IsClosed ends statement xid old new → Agrees decisions name store old new
  closed_agrees false statement xid agrees old new is = one_agrees statement old new agrees is.adds
  closed_agrees true statement xid agrees old new is = two_agree (End xid) statement old new tt agrees is.adds

  -- a store that finishing has reached agrees with the decisions, if the finishing statement does
  pub settled_agrees : (ends : Bool) (statement : Statement) (xid : Xid) → AgreesWith decisions name store statement
      → (takes listed : Bool) (old new : SessionView) → Settles ends statement xid takes listed old new →
      Agrees decisions name store old new
  settled_agrees ends statement xid agrees false listed old new is =
      subst (λ s. Agrees decisions name store old s) (sym is) (nothing_agrees old)
  settled_agrees ends statement xid agrees true false old new is = closed_agrees ends statement xid agrees old new is
  settled_agrees ends statement xid agrees true true old new is = missing_agrees ends statement xid old new is

module _ {S : Type 0} (view : S → SessionView) (decisions : List Decision) (transaction : Transaction) where
  -- if the decisions allow a way of finishing for the transaction, what that does in one store agrees with them
  part_agrees : (branches : List (Option OpenBranch)) (closing : Closing) → Allows decisions transaction.number closing
      → (store : ℕ) (listed : Bool) (a b : SessionView) → SettlesIn branches transaction closing store listed a b →
      Agrees decisions transaction.name.items store a b
  part_agrees branches closing allows store listed a b is =
      settled_agrees decisions transaction.name.items store (ends_in branches transaction closing store)
      (finish_statement closing (branch_of transaction store))
      (branch_of transaction store)
      (closing_agrees decisions transaction.name.items store transaction.number transaction.eight_bytes closing allows)
      (takes_part transaction.participants store) listed a b is

  -- if the decisions allow a way of finishing for the transaction, what that does in each store agrees with them,
  -- whatever the ending
  pub ending_agrees : (branches : List (Option OpenBranch)) (closing : Closing) (ending : Ending) (old new : List S)
      → Allows decisions transaction.number closing → EndsAs view branches transaction closing ending old new →
      EachStore view (Agrees decisions transaction.name.items) old new
  ending_agrees branches closing Ending.Committed old new allows is store =
      at_weaker view store _ (Agrees decisions transaction.name.items store)
      (part_agrees branches closing allows store false) old new (is.1 store)
  ending_agrees branches closing Ending.RolledBack old new allows is store =
      at_weaker view store _ (Agrees decisions transaction.name.items store)
      (part_agrees branches closing allows store false) old new (is.1 store)
  ending_agrees branches closing (Ending.Hazard stores) old new allows is store =
      at_weaker view store _ (Agrees decisions transaction.name.items store)
      (part_agrees branches closing allows store (lists_store stores.items store)) old new
      (is.1 store)
  ending_agrees branches closing (Ending.Unfinished last cause) old new allows is store =
      from_ends view _ (Agrees decisions transaction.name.items) last _ old new is.1
      (λ other a b settled. part_agrees branches closing allows other settled.0 a b settled.1)
      (λ a b unfinished. unfinished_agrees decisions transaction.name.items last
      (ends_in branches transaction closing last)
      (finish_statement closing (branch_of transaction last)) (branch_of transaction last) cause a b unfinished)
      (λ other a. nothing_agrees decisions transaction.name.items other a)
      store

  -- what the vote on a transaction did in each store agrees with any decisions, whatever the vote
  pub vote_agrees : (vote : Vote) (old new : List S) → VotesAs view transaction vote old new
      → EachStore view (Agrees decisions transaction.name.items) old new
  vote_agrees (Vote.Ready prepared) old new is store =
      at_weaker view store _ (Agrees decisions transaction.name.items store)
      (voted_agrees decisions transaction.name.items store (branch_of transaction store)
      (takes_part transaction.participants store)) old new (is.2 store)
  vote_agrees (Vote.OnePhase prepared) old new is store =
      at_weaker view store _ (Agrees decisions transaction.name.items store)
      (ends_agrees decisions transaction.name.items store (branch_of transaction store)
      (takes_part transaction.participants store)) old new (is.2 store)
  vote_agrees (Vote.No prepared last cause) old new is store =
      from_ends view _ (Agrees decisions transaction.name.items) last _ old new is.2
      (λ other a b voted. voted_agrees decisions transaction.name.items other (branch_of transaction other)
      (takes_part transaction.participants other) a b voted)
      (λ a b stopped. stopped_agrees decisions transaction.name.items last true (Prepare (branch_of transaction last))
      (branch_of transaction last) cause a b stopped)
      (λ other a. nothing_agrees decisions transaction.name.items other a)
      store
  vote_agrees Vote.Nothing old new is store = λ before after is_before is_after.
      subst (λ (s : S). Agrees decisions transaction.name.items store (view before) (view s))
      (same_one (slice_get new store) before after (subst (λ (list : List S). slice_get list store ≡ Some before)
      (sym is.1) is_before) is_after)
      (nothing_agrees decisions transaction.name.items store (view before))

-- the decisions allow the way in which `finish_for` finishes a transaction, by whether it is decided and by its vote
pub allows_for : (decisions : List Decision) (number : ℕ) (vote_kind : VoteKind)
    → Allows decisions number (finish_for (is_decided decisions number) vote_kind)
allows_for decisions number vote_kind = by (is_decided decisions number) vote_kind refl
  where
    by : (b : Bool) (vote_kind : VoteKind) → is_decided decisions number ≡ b
        → Allows decisions number (finish_for b vote_kind)
    by true vote_kind is = is
    by false VoteKind.Ready is = is
    by false VoteKind.OnePhase is = tt
    by false VoteKind.No is = is
