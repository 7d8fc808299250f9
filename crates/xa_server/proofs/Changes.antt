-- What each accepted statement does to the branch of an identifier.
use Rattle.std.proofs.Common.{◌≡◌, ℕ, refl, ap, sym, ◌∙◌, Bool, true, false, ◌⊎◌, inl, inr}
use Rattle.std.specs.{Prelude.{Option, Some, None, cond}, Option.{option_map, option_map_or}}
use Rattle.std.specs.FinMap.{get-insert, get-remove}
use mathlib.Core.Bool.{true≢false}
use Rattle.xa_xid.specs.declared.{xid.Xid.Xid, statement.Statement.{Statement, TheVariants.{Start, End, Prepare}}}
use Rattle.xa_xid.specs.declared.statement.Statement.TheVariants.{Commit, Rollback, Recover, Unsupported, Get, Put, Del}
use Rattle.xa_xid.specs.{declared.statement.Statement.TheVariants.Disconnect, Xid.same_xid}
use Rattle.xa_xid.proofs.Orders.{xids_total, exact_xids}
use Rattle.xa_server.specs.declared.branch.Phase.TheVariants.{Idle as PhaseIdle, Prepared as PhasePrepared}
use Rattle.xa_server.specs.declared.reply.Reply.{Reply, TheVariants.{Ok as Accepted, Value, Recovered, Refused}}
use Rattle.xa_server.specs.declared.association.Association.{Association, TheVariants.{Free, Active, Idle}}
use Rattle.xa_server.specs.{State.{Branch, State, association_of}, Replies.{table, reply_to}, Step.started_by}
use Rattle.xa_server.specs.Step.{with_branch, with_changed, with_writes, without_branch, committed, with_lock}
use Rattle.xa_server.{specs.Step.{with_own_write, effect, is_refused, unless_refused, after}, proofs.Maps.same_or_apart}
use Rattle.std.specs.FinMap as map

-- what XA END makes of a branch: it is IDLE
unfoldable pub idle : Branch → Branch
idle branch = record branch { phase = PhaseIdle }

-- the branch after XA PREPARE: PREPARED, and no session's
unfoldable pub detached : Branch → Branch
detached branch = record branch { phase = PhasePrepared; owner = None }

-- the branch of an identifier after an accepted statement is carried out, by what was found there before
unfoldable pub branch_after : ℕ → Association → Statement → Xid → Option Branch → Option Branch
branch_after session association (Start xid) at found = cond (same_xid at xid) (Some (started_by session)) found
branch_after session association (End xid) at found = cond (same_xid at xid) (option_map idle found) found
branch_after session association (Prepare xid) at found = cond (same_xid at xid) (option_map detached found) found
branch_after session association (Commit xid one_phase) at found = cond (same_xid at xid) None found
branch_after session association (Rollback xid) at found = cond (same_xid at xid) None found
branch_after session association (Recover convert) at found = found
branch_after session association Unsupported at found = found
branch_after session Free (Get key) at found = found
branch_after session (Active own) (Get key) at found = cond (same_xid at own) (option_map (with_lock key) found) found
branch_after session (Idle own) (Get key) at found = found
branch_after session Free (Put key value) at found = found
branch_after session (Active own) (Put key value) at found =
    cond (same_xid at own) (option_map (with_own_write key (Some value)) found) found
branch_after session (Idle own) (Put key value) at found = found
branch_after session Free (Del key) at found = found
branch_after session (Active own) (Del key) at found =
    cond (same_xid at own) (option_map (with_own_write key None) found) found
branch_after session (Idle own) (Del key) at found = found
branch_after session Free Disconnect at found = found
branch_after session (Active own) Disconnect at found = cond (same_xid at own) None found
branch_after session (Idle own) Disconnect at found = cond (same_xid at own) None found

-- ---- the parts of a step

-- after a branch is put in at an identifier, it is there, and at each other identifier is what was there
put_in : (state : State) (xid : Xid) (branch : Branch) (at : Xid)
    → map.get (with_branch state xid branch).branches at ≡ cond (same_xid at xid) (Some branch)
    (map.get state.branches at)
put_in state xid branch at = get-insert xids_total state.branches xid branch at

-- after the branch at an identifier is taken out, none is there, and at each other identifier is what was there
taken_out : (state : State) (xid at : Xid) → map.get (without_branch state xid).branches at
    ≡ cond (same_xid at xid) None (map.get state.branches at)
taken_out state xid at = get-remove xids_total state.branches xid at

-- after the branch at an identifier is changed, the changed one is there, if there was one, and at each other
-- identifier is what was there
changed : (state : State) (xid : Xid) (change : Branch → Branch) (at : Xid) →
    map.get (with_changed state xid change).branches at ≡ cond (same_xid at xid)
    (option_map change (map.get state.branches at)) (map.get state.branches at)
changed state xid change at = by (map.get state.branches xid) refl
  where
    nothing : (b : Bool) (found : Option Branch) → found ≡ None → found ≡ cond b (option_map change found) found
    nothing true found e = e ∙ sym (ap (option_map change) e)
    nothing false found e = refl

    by : (found : Option Branch) → map.get state.branches xid ≡ found →
        map.get (option_map_or (λ branch. with_branch state xid (change branch)) found state).branches at
        ≡ cond (same_xid at xid) (option_map change (map.get state.branches at)) (map.get state.branches at)
    by None e = elim (same_or_apart xids_total exact_xids at xid) [
      | inl is ↦ nothing (same_xid at xid) (map.get state.branches at) (ap (map.get state.branches) is ∙ e)
      | inr apart ↦ sym (ap (λ b. cond b (option_map change (map.get state.branches at))
          (map.get state.branches at)) apart)
    ]
    by (Some branch) e = put_in state xid (change branch) at ∙ (elim (same_or_apart xids_total exact_xids at xid) [
      | inl is ↦ ap (λ found. cond (same_xid at xid) found (map.get state.branches at))
          (sym (ap (option_map change) (ap (map.get state.branches) is ∙ e)))
      | inr apart ↦ ap (λ b. cond b (Some (change branch)) (map.get state.branches at)) apart
          ∙ sym (ap (λ b. cond b (option_map change (map.get state.branches at)) (map.get state.branches at)) apart)
    ])

-- after the branch at an identifier is committed, none is there, and at each other identifier is what was there
ended : (state : State) (xid at : Xid) → map.get (committed state xid).branches at
    ≡ cond (same_xid at xid) None (map.get state.branches at)
unfolding committed
ended state xid at = by (map.get state.branches xid) refl
  where
    nothing : (b : Bool) (found : Option Branch) → found ≡ None → found ≡ cond b None found
    nothing true found e = e
    nothing false found e = refl

    by : (found : Option Branch) → map.get state.branches xid ≡ found →
        map.get (option_map_or (λ (branch : Branch). record (without_branch state xid)
        { rows = with_writes (map.entries branch.writes) state.rows }) found
        state).branches at ≡ cond (same_xid at xid) None (map.get state.branches at)
    by None e = elim (same_or_apart xids_total exact_xids at xid) [
      | inl is ↦ nothing (same_xid at xid) (map.get state.branches at) (ap (map.get state.branches) is ∙ e)
      | inr apart ↦ sym (ap (λ b. cond b None (map.get state.branches at)) apart)
    ]
    by (Some branch) e = taken_out state xid at

-- in the state that a statement's effect leaves, the branch at each identifier is what `branch_after` says
pub effect-branch : (state : State) (session : ℕ) (association : Association) (statement : Statement) (at : Xid) →
    map.get (effect state session association statement).branches at
    ≡ branch_after session association statement at (map.get state.branches at)
unfolding effect branch_after idle detached
effect-branch state session association (Start xid) at = put_in state xid (started_by session) at
effect-branch state session association (End xid) at = changed state xid idle at
effect-branch state session association (Prepare xid) at = changed state xid detached at
effect-branch state session association (Commit xid one_phase) at = ended state xid at
effect-branch state session association (Rollback xid) at = taken_out state xid at
effect-branch state session association (Recover convert) at = refl
effect-branch state session association Unsupported at = refl
effect-branch state session Free (Get key) at = refl
effect-branch state session (Active own) (Get key) at = changed state own (with_lock key) at
effect-branch state session (Idle own) (Get key) at = refl
effect-branch state session Free (Put key value) at = refl
effect-branch state session (Active own) (Put key value) at = changed state own (with_own_write key (Some value)) at
effect-branch state session (Idle own) (Put key value) at = refl
effect-branch state session Free (Del key) at = refl
effect-branch state session (Active own) (Del key) at = changed state own (with_own_write key None) at
effect-branch state session (Idle own) (Del key) at = refl
effect-branch state session Free Disconnect at = refl
effect-branch state session (Active own) Disconnect at = taken_out state own at
effect-branch state session (Idle own) Disconnect at = taken_out state own at

-- ---- refused or accepted

-- a statement that is refused leaves the state
pub refused_leaves : (state : State) (session : ℕ) (statement : Statement)
    → is_refused (reply_to state session statement) ≡ true
    → after state session statement ≡ state
unfolding after
refused_leaves state session statement e = by (reply_to state session statement) e
  where
    by : (reply : Reply) → is_refused reply ≡ true → unless_refused reply state
        (effect state session (association_of state session) statement) ≡ state
    by Accepted e = absurd (true≢false (sym e))
    by (Value value) e = absurd (true≢false (sym e))
    by (Recovered xids) e = absurd (true≢false (sym e))
    by (Refused error) e = refl

-- a statement that isn't refused is carried out: the state after it is that of its effect
pub accepted_done : (state : State) (session : ℕ) (statement : Statement)
    → is_refused (reply_to state session statement) ≡ false
    → after state session statement ≡ effect state session (association_of state session) statement
unfolding after
accepted_done state session statement e = by (reply_to state session statement) e
  where
    by : (reply : Reply) → is_refused reply ≡ false
        → unless_refused reply state (effect state session (association_of state session) statement)
        ≡ effect state session (association_of state session) statement
    by Accepted e = refl
    by (Value value) e = refl
    by (Recovered xids) e = refl
    by (Refused error) e = absurd (true≢false e)

-- the statement is refused and leaves the state, or the table of replies accepts it and it is carried out
pub outcome : (state : State) (session : ℕ) (statement : Statement) →
    ((is_refused (reply_to state session statement) ≡ true) × (after state session statement ≡ state))
    ⊎ ((is_refused (table state (association_of state session) statement) ≡ false)
    × (after state session statement ≡ effect state session (association_of state session) statement))
unfolding reply_to
outcome state session statement = by (is_refused (reply_to state session statement)) refl
  where
    by : (b : Bool) → is_refused (reply_to state session statement) ≡ b →
        ((is_refused (reply_to state session statement) ≡ true) × (after state session statement ≡ state))
        ⊎ ((is_refused (table state (association_of state session) statement) ≡ false)
        × (after state session statement ≡ effect state session (association_of state session) statement))
    by true e = inl (e, refused_leaves state session statement e)
    by false e = inr (e, accepted_done state session statement e)
