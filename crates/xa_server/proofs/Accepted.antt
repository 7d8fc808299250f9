-- What follows for the state where a statement is accepted.
use Rattle.std.proofs.Common.{◌≡◌, ℕ, List, refl, ap, sym, ◌∙◌, subst, Bool, true, false, inl, inr}
use Rattle.std.specs.Prelude.{Option, Some, None, Result, Ok, Err, OnErr, cond, is_some, not, ◌&&◌, ◌||◌}
use Rattle.std.specs.Option.{option_map, option_map_or, option_and_then}
use mathlib.Core.Bool.{true≢false}
use Rattle.xa_xid.specs.{declared.{xid.Xid.Xid, statement.Statement.Statement}, Xid.{Text, same_xid}}
use Rattle.xa_xid.specs.declared.statement.Statement.TheVariants.{Start, End, Commit, Rollback, Get, Put, Del}
use Rattle.xa_xid.proofs.Orders.{xids_total, exact_xids}
use Rattle.xa_server.specs.declared.{branch.Phase.Phase, reply.Reply.Reply, xa_error.XaError.XaError}
use Rattle.xa_server.specs.declared.{xa_error.XaError.TheVariants.{Nota, Rmfail}, association.Association.Association}
use Rattle.xa_server.specs.declared.xa_error.BranchState.TheVariants.{Prepared as StatePrepared}
use Rattle.xa_server.specs.{declared.association.Association.TheVariants.{Free, Active, Idle}, State.{Shared, Branch}}
use Rattle.xa_server.specs.State.{State, is_known, phase_at, is_prepared, is_prepared_phase, own_xid, association_in}
use Rattle.xa_server.specs.{State.{association_of, IsOpen}, Locks.{holds, is_held_against, is_locked_against}}
use Rattle.xa_server.specs.{Replies.{ok_if, refused_if, table, reply_to}, Step.{after, effect, enters, may_enter}}
use Rattle.xa_server.specs.Step.{makes_record, may_take_memory, is_recover, is_refused, unless_refused, with_branch}
use Rattle.xa_server.{specs.Step.{with_changed, with_lock}, proofs.Steps.{same_state, same_branches}}
use Rattle.xa_server.proofs.{Maps.{same_is, same_or_apart, get_inserted, get_inserted_apart}, Index.not_none}
use Rattle.std.specs.FinMap as map

-- ---- what a session has associated

-- the association that a branch's own phase gives is open: if it names the branch, the branch is in the phase that it
-- names
in_phase : (state : State) (phase : Option Phase) (xid : Xid) → phase_at state xid ≡ phase
    → IsOpen state (association_in phase xid)
in_phase state None xid e = tt
in_phase state (Some Phase.Active) xid e = e
in_phase state (Some Phase.Idle) xid e = e
in_phase state (Some Phase.Prepared) xid e = tt

-- the branch that a session has open is in the phase that the session's association names
pub open_association : (state : State) (session : ℕ) → IsOpen state (association_of state session)
unfolding association_of
open_association state session = by (own_xid state session)
  where
    by : (own : Option Xid) → IsOpen state (option_map_or (λ xid. association_in (phase_at state xid) xid) own Free)
    by None = tt
    by (Some xid) = in_phase state (phase_at state xid) xid refl

-- a branch that has a phase is there
known_found : (found : Option Branch) (phase : Phase) → option_map (λ (b : Branch). b.phase) found ≡ Some phase
    → is_some found ≡ true
known_found None phase e = not_none phase e
known_found (Some branch) phase e = refl

-- a branch in a phase is known
pub known_in : (state : State) (xid : Xid) (phase : Phase) → phase_at state xid ≡ Some phase → is_known state xid ≡ true
known_in state xid phase e = known_found (map.get state.branches xid) phase e

-- a PREPARED branch is known
pub known_prepared : (state : State) (xid : Xid) → is_prepared state xid ≡ true → is_known state xid ≡ true
known_prepared state xid e = by (map.get state.branches xid) e
  where
    by : (found : Option Branch) → option_map_or is_prepared_phase (option_map (λ (b : Branch). b.phase) found) false
        ≡ true → is_some found ≡ true
    by None e = absurd (true≢false (sym e))
    by (Some branch) e = refl

-- the ACTIVE branch that a session has open is known
pub known_active : (state : State) (session : ℕ) (own : Xid) → association_of state session ≡ Active own
    → is_known state own ≡ true
known_active state session own is =
    known_in state own Phase.Active (subst (IsOpen state) is (open_association state session))

-- the IDLE branch that a session has open is known
pub known_idle : (state : State) (session : ℕ) (own : Xid) → association_of state session ≡ Idle own
    → is_known state own ≡ true
known_idle state session own is =
    known_in state own Phase.Idle (subst (IsOpen state) is (open_association state session))

-- a branch that is ACTIVE isn't PREPARED
unprepared : (state : State) (xid : Xid) → phase_at state xid ≡ Some Phase.Active → is_prepared state xid ≡ false
unprepared state xid e = ap (λ phase. option_map_or is_prepared_phase phase false) e

-- ---- tests that let a statement through

-- if a reply that accepts only where a test holds isn't a refusal, the test holds
pub passes : (b : Bool) (error : XaError) → is_refused (ok_if b error) ≡ false → b ≡ true
passes true error e = refl
passes false error e = absurd (true≢false e)

-- if a reply that refuses where a test holds isn't a refusal, the test fails
let_through : (b : Bool) (error : XaError) (reply : Reply) → is_refused (refused_if b error reply) ≡ false → b ≡ false
let_through true error reply e = absurd (true≢false e)
let_through false error reply e = refl

-- if a statement that has to name the session's own branch isn't refused, it names it
pub own_is : (xid own : Xid) (error : XaError) → is_refused (ok_if (same_xid xid own) error) ≡ false → xid ≡ own
own_is xid own error e = same_is xids_total exact_xids xid own (passes (same_xid xid own) error e)

-- ---- accepted statements

-- an XA START is accepted only of a free session, and for an identifier that isn't known
pub accepted_start : (state : State) (association : Association) (xid : Xid)
    → is_refused (table state association (Start xid)) ≡ false
    → (association ≡ Free) × (is_known state xid ≡ false)
unfolding table
accepted_start state Free xid e = (refl, let_through (is_known state xid) _ _ e)
accepted_start state (Active own) xid e = absurd (true≢false e)
accepted_start state (Idle own) xid e = absurd (true≢false e)

-- an XA END is accepted only if the branch isn't PREPARED
pub accepted_end : (state : State) (association : Association) (xid : Xid) → IsOpen state association
    → is_refused (table state association (End xid)) ≡ false
    → is_prepared state xid ≡ false
unfolding table
accepted_end state Free xid associated e = absurd (true≢false e)
accepted_end state (Active own) xid associated e =
    ap (is_prepared state) (own_is xid own _ e) ∙ unprepared state own associated
accepted_end state (Idle own) xid associated e = absurd (true≢false e)

-- an XA COMMIT is accepted only if the branch is there
pub accepted_commit : (state : State) (association : Association) (xid : Xid) (one_phase : Bool)
    → IsOpen state association
    → is_refused (table state association (Commit xid one_phase)) ≡ false → is_known state xid ≡ true
unfolding table
accepted_commit state Free xid false associated e = known_prepared state xid (passes (is_prepared state xid) _ e)
accepted_commit state Free xid true associated e = absurd (never (is_prepared state xid) e)
  where
    never : (b : Bool) → is_refused (refused_if (not b) Nota (Reply.Refused (Rmfail StatePrepared))) ≡ false → ⊥
    never true e = true≢false e
    never false e = true≢false e
accepted_commit state (Active own) xid false associated e = absurd (true≢false e)
accepted_commit state (Active own) xid true associated e = absurd (true≢false e)
accepted_commit state (Idle own) xid false associated e = absurd (true≢false e)
accepted_commit state (Idle own) xid true associated e =
    ap (is_known state) (own_is xid own _ e) ∙ known_in state own Phase.Idle associated

-- an XA ROLLBACK is accepted only if the branch is there
pub accepted_rollback : (state : State) (association : Association) (xid : Xid) → IsOpen state association
    → is_refused (table state association (Rollback xid)) ≡ false
    → is_known state xid ≡ true
unfolding table
accepted_rollback state Free xid associated e = known_prepared state xid (passes (is_prepared state xid) _ e)
accepted_rollback state (Active own) xid associated e = absurd (true≢false e)
accepted_rollback state (Idle own) xid associated e =
    ap (is_known state) (own_is xid own _ e) ∙ known_in state own Phase.Idle associated

-- a GET in an ACTIVE branch is accepted only if no other branch has the row exclusively
pub accepted_get : (state : State) (own : Xid) (key : List ℕ) → is_refused (table state (Active own) (Get key)) ≡ false
    → is_locked_against state (Active own) key ≡ false
unfolding table
accepted_get state own key e = let_through (is_locked_against state (Active own) key) _ _ e

-- a PUT in an ACTIVE branch is accepted only if no other branch holds the row
pub accepted_put : (state : State) (own : Xid) (key : List ℕ) (value : Text)
    → is_refused (table state (Active own) (Put key value)) ≡ false
    → is_held_against state (Active own) key ≡ false
unfolding table
accepted_put state own key value e = let_through (is_held_against state (Active own) key) _ _ e

-- a PUT outside a branch is accepted only if no branch holds the row
pub accepted_put_free : (state : State) (key : List ℕ) (value : Text)
    → is_refused (table state Free (Put key value)) ≡ false
    → is_held_against state Free key ≡ false
unfolding table
accepted_put_free state key value e = let_through (is_held_against state Free key) _ _ e

-- a DEL in an ACTIVE branch is accepted only if no other branch holds the row
pub accepted_del : (state : State) (own : Xid) (key : List ℕ) → is_refused (table state (Active own) (Del key)) ≡ false
    → is_held_against state (Active own) key ≡ false
unfolding table
accepted_del state own key e = let_through (is_held_against state (Active own) key) _ _ e

-- a DEL outside a branch is accepted only if no branch holds the row
pub accepted_del_free : (state : State) (key : List ℕ) → is_refused (table state Free (Del key)) ≡ false
    → is_held_against state Free key ≡ false
unfolding table
accepted_del_free state key e = let_through (is_held_against state Free key) _ _ e

-- ---- a row that the branch holds already

-- locking a row that the branch holds already changes nothing
pub locked_again : (state : State) (own : Xid) (key : List ℕ) → holds state own key ≡ true
    → with_changed state own (with_lock key) ≡ state
locked_again state own key held = by (map.get state.branches own) refl held
  where
    locks : (branch : Branch) → map.contains_key branch.locks key ≡ true → with_lock key branch ≡ branch
    locks branch e =
        λ i. record {
          phase = branch.phase;
          owner = branch.owner;
          writes = branch.writes;
          locks = cond
              (e i) branch.locks (map.insert branch.locks key Shared);
        }

    by : (found : Option Branch) → map.get state.branches own ≡ found
        → is_some (option_and_then (λ (branch : Branch). map.get branch.locks key) found) ≡ true →
        option_map_or (λ branch. with_branch state own (with_lock key branch)) found state ≡ state
    by None is e = absurd (true≢false (sym e))
    by (Some branch) is e =
        same_state _ _ (same_branches _ _ (λ other. elim (same_or_apart xids_total exact_xids other own) [
          | inl o ↦ rw o (get_inserted xids_total exact_xids state.branches own (with_lock key branch)
              ∙ ap Some (locks branch e) ∙ sym is)
          | inr apart ↦ get_inserted_apart xids_total exact_xids state.branches own (with_lock key branch) other apart
        ])) refl

-- ---- statements and their steps

-- if the reply to a session's statement isn't a refusal, the table doesn't refuse it for what the session has open
pub accepted_there : (state : State) (session : ℕ) (statement : Statement)
    → is_refused (reply_to state session statement) ≡ false
    → is_refused (table state (association_of state session) statement) ≡ false
unfolding reply_to
accepted_there state session statement e = e

-- if the reply to a session's statement isn't a refusal, the table doesn't refuse it for an association that the
-- session has
pub accepted_as : (state : State) (session : ℕ) (statement : Statement) (association : Association)
    → association_of state session ≡ association
    → is_refused (reply_to state session statement) ≡ false → is_refused (table state association statement) ≡ false
unfolding reply_to
accepted_as state session statement association is e = ap (λ s. is_refused (table state s statement)) (sym is) ∙ e

-- an accepted statement leaves its effect
pub after_accepted : (state : State) (session : ℕ) (statement : Statement)
    → is_refused (reply_to state session statement) ≡ false
    → effect state session (association_of state session) statement ≡ after state session statement
unfolding after
after_accepted state session statement accepted = sym (by (reply_to state session statement) accepted)
  where
    by : (r : Reply) → is_refused r ≡ false
        → unless_refused r state (effect state session (association_of state session) statement)
        ≡ effect state session (association_of state session) statement
    by Reply.Ok e = refl
    by (Reply.Value value) e = refl
    by (Reply.Recovered xids) e = refl
    by (Reply.Refused error) e = absurd (true≢false e)

-- a refused statement leaves the state
pub after_refused : (state : State) (session : ℕ) (statement : Statement)
    → is_refused (reply_to state session statement) ≡ true
    → state ≡ after state session statement
unfolding after
after_refused state session statement refused = sym (by (reply_to state session statement) refused)
  where
    by : (r : Reply) → is_refused r ≡ true → unless_refused r state
        (effect state session (association_of state session) statement) ≡ state
    by Reply.Ok e = absurd (true≢false (sym e))
    by (Reply.Value value) e = absurd (true≢false (sym e))
    by (Reply.Recovered xids) e = absurd (true≢false (sym e))
    by (Reply.Refused error) e = refl

-- the reply that the table has for what a session has open is the reply to the session
pub replied : (state : State) (session : ℕ) (association : Association) (statement : Statement) (reply : Reply)
    → association ≡ association_of state session
    → reply ≡ table state association statement → reply ≡ reply_to state session statement
unfolding reply_to
replied state session association statement reply is answered = answered ∙ ap (λ s. table state s statement) is

-- a statement that isn't refused, is logged and makes a record may take memory
pub may_run_out : (old : State) (session : ℕ) (statement : Statement) →
    is_refused (reply_to old session statement) ≡ false → may_enter old (association_of old session) statement ≡ true
    → makes_record statement ≡ true
    → may_take_memory old session statement ≡ true
unfolding enters
may_run_out old session statement accepted enters_it makes =
    ap (λ b. is_recover statement || (not b && may_enter old (association_of old session) statement
    && makes_record statement)) accepted
    ∙ ap (λ b. is_recover statement || (b && makes_record statement)) enters_it
    ∙ ap (λ b. is_recover statement || b) makes ∙ or_true (is_recover statement)
  where
    or_true : (b : Bool) → (b || true) ≡ true
    or_true true = refl
    or_true false = refl

-- if a statement that isn't refused fails only where it is logged and makes a record, it fails only where it may take
-- memory
pub may_run_out_at : {T E : Type 0} (result : Result T E) (old : State) (session : ℕ) (statement : Statement) →
    is_refused (reply_to old session statement) ≡ false → OnErr result
    (may_enter old (association_of old session) statement ≡ true)
    → OnErr result (makes_record statement ≡ true)
    → OnErr result (may_take_memory old session statement ≡ true)
may_run_out_at (Ok value) old session statement accepted enters_it makes = enters_it
may_run_out_at (Err error) old session statement accepted enters_it makes =
    may_run_out old session statement accepted enters_it makes
