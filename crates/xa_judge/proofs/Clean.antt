-- Sessions that have no branch.
use Rattle.std.proofs.Common.{◌≡◌, ◌≢◌, ◌==◌, arith, ℕ, Bool, true, false, Option, None, ap, sym, ◌∙◌, inl, inr}
use Rattle.std.specs.{Prelude.cond, Option.option_map}
use mathlib.Core.Bool.{true≢false}
use Rattle.xa_xid.specs.{declared.{xid.Xid.Xid, statement.Statement.Statement}, Xid.same_xid}
use Rattle.xa_xid.proofs.Orders.{xids_total}
use Rattle.xa_server.specs.declared.{association.Association.Association, reply.Reply.TheVariants.Ok as Accepted}
use Rattle.xa_server.specs.{Replies.{table, reply_to}, State.{Branch, State, owns, association_of}, Locks.LockLaw}
use Rattle.xa_server.{specs.Step.is_refused, proofs.{Maps.same_itself, Keeping.{is_free, owner_associated}}}
use Rattle.xa_server.proofs.{Accepted.own_is, Changes.{detached, branch_after, effect-branch, outcome}}
use Rattle.xa_server.proofs.Others.{is_owned, IsOwn, IsStarted, own_association, accepted_prepare_own, owned_before}
use Rattle.xa_judge.specs.declared.{request.Request.Request, answer.Answer.TheVariants.Reply as Replied}
use Rattle.xa_judge.specs.{Explained.{answer_to, next_state}, Keys.{is_ending, HasNoBranch}}
use Rattle.std.specs.FinMap as map

-- the session owns no branch
abbrev pub OwnsNone : State → ℕ → Type 0
OwnsNone state session = (xid : Xid) → owns state session xid ≡ true → ⊥

-- ---- other sessions' requests

-- a session that owns no branch owns none after a request of another session
pub others_none : (state : State) (session other : ℕ) (request : Request) → session ≢ other → OwnsNone state other
    → OwnsNone (next_state state session request) other
unfolding is_owned
others_none state session other Request.Unread apart none = none
others_none state session other (Request.Statement statement) apart none = elim (outcome state session statement) [
  | inl refused ↦ λ xid e. none xid (sym (ap (λ s. owns s other xid) refused.1) ∙ e)
  | inr done ↦ λ xid e. elim (owned_before session other (association_of state session) statement xid
      (map.get state.branches xid)
      (sym (ap (is_owned other) (effect-branch state session (association_of state session) statement xid))
      ∙ sym (ap (λ s. owns s other xid) done.1) ∙ e)) [
        | inl before ↦ none xid before
        | inr started ↦ absurd (apart started.1)
      ]
]

-- ---- a session's own requests

-- a branch that is gone isn't the session's
gone_unowned : (session : ℕ) → is_owned session None ≡ true → ⊥
unfolding is_owned
gone_unowned session e = true≢false (sym e)

-- a detached branch isn't the session's, nor is one that isn't there
detached_unowned : (session : ℕ) (found : Option Branch) → is_owned session (option_map detached found) ≡ true → ⊥
unfolding is_owned detached
detached_unowned session found e = grind (arith)

-- if what replaces the branch of `xid` isn't the session's, nor is what is at `at` then, since `at` is `xid`
only_that : (session : ℕ) (at xid : Xid) (new found : Option Branch) → at ≡ xid
    → (is_owned session new ≡ true → ⊥)
    → is_owned session (cond (same_xid at xid) new found) ≡ true → ⊥
only_that session at xid new found same not e = grind (arith, is_owned, same_itself, xids_total)

-- a session that has something open owns the branch of its XA COMMIT, unless that is refused
committed_own : (state : State) (session : ℕ) (association : Association) (xid at : Xid) (one_phase : Bool)
    → IsOwn state session association → is_free association ≡ false
    → is_refused (table state association (Statement.Commit xid one_phase)) ≡ false → owns state session xid ≡ true
unfolding table is_free
committed_own state session association xid at one_phase own held e = grind (arith, own_is)

-- a session that has something open owns the branch of its XA ROLLBACK, unless that is refused
rolled_own : (state : State) (session : ℕ) (association : Association) (xid at : Xid)
    → IsOwn state session association → is_free association ≡ false
    → is_refused (table state association (Statement.Rollback xid)) ≡ false → owns state session xid ≡ true
unfolding table is_free
rolled_own state session association xid at own held e = grind (arith, own_is)

-- a session that disconnects doesn't own the branch any more that it owned
left_own : (state : State) (session : ℕ) (association : Association) (at : Xid) (found : Option Branch) → LockLaw state
    → IsOwn state session association → is_free association ≡ false → owns state session at ≡ true
    → is_owned session (branch_after session association Statement.Disconnect at found) ≡ true → ⊥
unfolding branch_after is_free
left_own state session association at found law own held before e = grind (arith, gone_unowned, only_that)

-- if a statement that ends or detaches its session's branch (`is_ending`) isn't refused, no branch that the session
-- owned is the session's afterwards
ended_at : (state : State) (session : ℕ) (statement : Statement) (at : Xid) → LockLaw state
    → is_ending (Request.Statement statement) ≡ true
    → is_refused (table state (association_of state session) statement) ≡ false
    → owns state session at ≡ true
    → is_owned session (branch_after session (association_of state session) statement at (map.get state.branches at))
    ≡ true → ⊥
unfolding branch_after
ended_at state session (Statement.Prepare xid) at law ends accepted before e =
    let found = map.get state.branches at in
    let own = accepted_prepare_own state session (association_of state session) xid (own_association state session)
    accepted in
    only_that session at xid (option_map detached found) found (law.one_branch session at xid before own)
    (detached_unowned session found) e
ended_at state session (Statement.Commit xid one_phase) at law ends accepted before e =
    let own = committed_own state session (association_of state session) xid at one_phase
    (own_association state session) (owner_associated state session at law before) accepted in
    only_that session at xid None (map.get state.branches at) (law.one_branch session at xid before own)
    (gone_unowned session) e
ended_at state session (Statement.Rollback xid) at law ends accepted before e =
    let own = rolled_own state session (association_of state session) xid at (own_association state session)
    (owner_associated state session at law before) accepted in
    only_that session at xid None (map.get state.branches at) (law.one_branch session at xid before own)
    (gone_unowned session) e
ended_at state session Statement.Disconnect at law ends accepted before e =
    left_own state session (association_of state session) at (map.get state.branches at) law
    (own_association state session) (owner_associated state session at law before) before e
ended_at state session (Statement.Start xid) at law ends accepted before e = absurd (true≢false (sym ends))
ended_at state session (Statement.End xid) at law ends accepted before e = absurd (true≢false (sym ends))
ended_at state session (Statement.Recover convert) at law ends accepted before e = absurd (true≢false (sym ends))
ended_at state session Statement.Unsupported at law ends accepted before e = absurd (true≢false (sym ends))
ended_at state session (Statement.Get key) at law ends accepted before e = absurd (true≢false (sym ends))
ended_at state session (Statement.Put key value) at law ends accepted before e = absurd (true≢false (sym ends))
ended_at state session (Statement.Del key) at law ends accepted before e = absurd (true≢false (sym ends))

-- a statement that ends or detaches its session's branch (`is_ending`) starts none
start_ends : (session : ℕ) (statement : Statement) (at : Xid) → is_ending (Request.Statement statement) ≡ true
    → IsStarted session session statement at → ⊥
start_ends session statement at ends started = cc

-- once a request that ends or detaches its session's branch (`is_ending`) is accepted, the session owns no branch
pub ended_none : (state : State) (session : ℕ) (request : Request) → LockLaw state → is_ending request ≡ true
    → answer_to state session request ≡ Replied Accepted
    → OwnsNone (next_state state session request) session
unfolding is_owned
ended_none state session Request.Unread law ends accepted = absurd (true≢false (sym ends))
ended_none state session (Request.Statement statement) law ends accepted = elim (outcome state session statement) [
  | inl refused ↦ absurd (true≢false (sym refused.0 ∙ ap is_refused (replied accepted)))
  | inr done ↦ λ xid e.
      let later : is_owned session (branch_after session (association_of state session) statement xid
      (map.get state.branches xid)) ≡ true =
      sym (ap (is_owned session) (effect-branch state session (association_of state session) statement xid))
      ∙ sym (ap (λ s. owns s session xid) done.1) ∙ e in
      elim (owned_before session session (association_of state session) statement xid (map.get state.branches xid)
      later) [
        | inl before ↦ ended_at state session statement xid law ends done.0 before later
        | inr started ↦ start_ends session statement xid ends started
      ]
]
  where
    replied : Replied (reply_to state session statement) ≡ Replied Accepted
        → reply_to state session statement ≡ Accepted
    replied e = cc

-- ---- no branch at all

-- in a state without branches the lock law holds
pub law_none : (state : State) → HasNoBranch state → LockLaw state
law_none state is = grind (arith)

-- a number is equal to itself by the test
pub same_test : (n : ℕ) → (n == n) ≡ true
same_test n = grind (arith)
