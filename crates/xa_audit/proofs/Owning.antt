-- What a session owns after its own accepted statement.
use Rattle.std.proofs.Common.{◌≡◌, ◌≢◌, ℕ, refl, ap, sym, ◌∙◌, subst, eq-eqb, eqb-true, Bool, true, false, ◌⊎◌, inl}
use Rattle.std.{proofs.Common.inr, specs.{Prelude.{Option, Some, None, cond, ◌==◌}, Option.{option_map, option_map_or}}}
use Rattle.std.specs.FinMap.{get-empty}
use mathlib.Core.Bool.{true≢false}
use Rattle.xa_xid.specs.declared.{xid.Xid.Xid, statement.Statement.{Statement, TheVariants.{Start, End, Prepare}}}
use Rattle.xa_xid.specs.declared.statement.Statement.TheVariants.{Commit, Rollback, Recover, Unsupported, Get, Put, Del}
use Rattle.xa_xid.specs.{declared.statement.Statement.TheVariants.Disconnect, Xid.{xid_cmp, same_xid}}
use Rattle.xa_xid.proofs.Orders.{xids_total, exact_xids}
use Rattle.xa_server.specs.declared.{branch.Phase.Phase, association.Association.Association}
use Rattle.xa_server.specs.{declared.association.Association.TheVariants.{Free, Active, Idle}, State.{Branch, State}}
use Rattle.xa_server.specs.State.{no_state, is_prepared, is_prepared_phase, owner_at, owns, own_xid, phase_at}
use Rattle.xa_server.specs.{State.{association_in, association_of, IsOpen}, Locks.LockLaw, Replies.{table, reply_to}}
use Rattle.xa_server.{specs.Step.{started_by, with_lock, with_own_write, is_refused, after}, proofs.Maps.same_itself}
use Rattle.xa_server.proofs.{Index.not_none, Seen.owned_is, Accepted.{accepted_there, open_association, own_is}}
use Rattle.xa_server.proofs.{Changes.{idle, detached, branch_after, effect-branch, accepted_done}, Others.is_owned}
use Rattle.xa_server.proofs.Others.{IsOwn, own_association, own_found, none_found, find_owned, owned_before, IsStarted}
use Rattle.xa_server.proofs.Others.{IsFinishable, accepted_prepare_own, accepted_commit_own, accepted_rollback_own}
use Rattle.xa_server.proofs.Others.{others_left}
use Rattle.xa_audit.specs.{declared.owned.Owned.Owned, Following.{own_after, owned_at, IsFollowed}}
use Rattle.std.specs.FinMap as map

-- ---- what a session owns, by what it has open

-- a branch that a session owns is the one that `own_xid` finds
owner_open : (state : State) (session : ℕ) → LockLaw state → (xid : Xid) → owns state session xid ≡ true
    → own_xid state session ≡ Some xid
owner_open state session law xid e = own_found state session xid e (λ other f. law.one_branch session xid other e f)

-- a session for which `own_xid` finds no branch owns none
none_owned : (state : State) (session : ℕ) → own_xid state session ≡ None → LockLaw state → (xid : Xid)
    → owns state session xid ≡ true → ⊥
none_owned state session none law xid e = not_none xid (sym none ∙ owner_open state session law xid e)

-- ---- a branch after a statement

-- a session owns a branch after its accepted statement if, and only if, what the statement makes of that branch is the
-- session's
owned_then : (state : State) (session : ℕ) (statement : Statement) (at : Xid)
    → is_refused (reply_to state session statement) ≡ false →
    owns (after state session statement) session at
    ≡ is_owned session (branch_after session (association_of state session) statement at (map.get state.branches at))
unfolding is_owned
owned_then state session statement at accepted =
    ap (λ s. owns s session at) (accepted_done state session statement accepted)
    ∙ ap (is_owned session) (effect-branch state session (association_of state session) statement at)

-- what a session owns after its accepted statement it owned before, or has just started
before_then : (state : State) (session : ℕ) (statement : Statement) (at : Xid)
    → is_refused (reply_to state session statement) ≡ false →
    owns (after state session statement) session at ≡ true
    → (owns state session at ≡ true) ⊎ IsStarted session session statement at
unfolding is_owned
before_then state session statement at accepted e =
    owned_before session session (association_of state session) statement at (map.get state.branches at)
    (sym (owned_then state session statement at accepted) ∙ e)

-- ---- statements after which it owns what it owned

-- the change leaves the owner of every branch
abbrev Leaves : (Branch → Branch) → Type 0
Leaves change = (branch : Branch) → (change branch).owner ≡ branch.owner

-- a change that leaves the owner leaves the session's branch its own
left_owned : (session : ℕ) (change : Branch → Branch) → Leaves change → (b : Bool) (found : Option Branch)
    → is_owned session found ≡ true
    → is_owned session (cond b (option_map change found) found) ≡ true
unfolding is_owned
left_owned session change same false found e = e
left_owned session change same true None e = e
left_owned session change same true (Some branch) e =
    ap (λ owner. option_map_or (λ o. o == session) owner false) (same branch) ∙ e

-- a statement other than XA START, XA PREPARE, XA COMMIT, XA ROLLBACK and DISCONNECT
abbrev pub IsQuiet : Statement → Type 0
IsQuiet (Start xid) = ⊥
IsQuiet (End xid) = Unit {0}
IsQuiet (Prepare xid) = ⊥
IsQuiet (Commit xid one_phase) = ⊥
IsQuiet (Rollback xid) = ⊥
IsQuiet (Recover convert) = Unit {0}
IsQuiet Unsupported = Unit {0}
IsQuiet (Get key) = Unit {0}
IsQuiet (Put key value) = Unit {0}
IsQuiet (Del key) = Unit {0}
IsQuiet Disconnect = ⊥

-- a quiet statement (`IsQuiet`; XA END is one, too) leaves the session's branch its own
still_owned : (session : ℕ) (association : Association) (statement : Statement) → IsQuiet statement
    → (at : Xid) (found : Option Branch)
    → is_owned session found ≡ true → is_owned session (branch_after session association statement at found) ≡ true
unfolding branch_after idle
still_owned session association (Start xid) quiet at found e = absurd quiet
still_owned session association (End xid) quiet at found e =
    left_owned session idle (λ b. refl) (same_xid at xid) found e
still_owned session association (Prepare xid) quiet at found e = absurd quiet
still_owned session association (Commit xid one_phase) quiet at found e = absurd quiet
still_owned session association (Rollback xid) quiet at found e = absurd quiet
still_owned session association (Recover convert) quiet at found e = e
still_owned session association Unsupported quiet at found e = e
still_owned session Free (Get key) quiet at found e = e
still_owned session (Active own) (Get key) quiet at found e =
    left_owned session (with_lock key) (λ b. refl) (same_xid at own) found e
still_owned session (Idle own) (Get key) quiet at found e = e
still_owned session Free (Put key value) quiet at found e = e
still_owned session (Active own) (Put key value) quiet at found e =
    left_owned session (with_own_write key (Some value)) (λ b. refl) (same_xid at own) found e
still_owned session (Idle own) (Put key value) quiet at found e = e
still_owned session Free (Del key) quiet at found e = e
still_owned session (Active own) (Del key) quiet at found e =
    left_owned session (with_own_write key None) (λ b. refl) (same_xid at own) found e
still_owned session (Idle own) (Del key) quiet at found e = e
still_owned session association Disconnect quiet at found e = absurd quiet

-- a quiet statement (`IsQuiet`) isn't XA START
quiet_starts : (session : ℕ) (statement : Statement) (at : Xid) → IsQuiet statement → statement ≡ Start at → ⊥
quiet_starts session statement at quiet is = subst IsQuiet is quiet

-- after an accepted quiet statement (`IsQuiet`) a session owns what it owned
quiet_own : (state : State) (session : ℕ) (statement : Statement) → LockLaw state
    → LockLaw (after state session statement) → IsQuiet statement
    → is_refused (reply_to state session statement) ≡ false
    → own_xid (after state session statement) session ≡ own_xid state session
unfolding is_owned
quiet_own state session statement law later quiet accepted = by (own_xid state session) refl
  where
    by : (own : Option Xid) → own_xid state session ≡ own → own_xid (after state session statement) session ≡ own
    by (Some xid) is =
        owner_open (after state session statement) session later xid
        (owned_then state session statement xid accepted
        ∙ still_owned session (association_of state session) statement quiet xid (map.get state.branches xid)
        (find_owned state session xid is))
    by None is = none_found (after state session statement) session
        (λ xid e. elim (before_then state session statement xid accepted e) [
          | inl before ↦ none_owned state session is law xid before
          | inr started ↦ quiet_starts session statement xid quiet started.0
        ])

-- ---- XA START

-- after an accepted XA START the session owns the branch that it names
started_own : (state : State) (session : ℕ) (xid : Xid) → LockLaw (after state session (Start xid))
    → is_refused (reply_to state session (Start xid)) ≡ false
    → own_xid (after state session (Start xid)) session ≡ Some xid
unfolding is_owned branch_after
started_own state session xid later accepted =
    owner_open (after state session (Start xid)) session later xid
    (owned_then state session (Start xid) xid accepted
    ∙ ap (λ b. is_owned session (cond b (Some (started_by session)) (map.get state.branches xid)))
    (same_itself xids_total exact_xids xid)
    ∙ itself session)
  where
    itself : (n : ℕ) → (n == n) ≡ true
    itself n = eq-eqb n n refl

-- ---- statements after which it owns nothing

-- what the statement makes of the branches that the session owns isn't the session's any more
abbrev LeavesNone : State → ℕ → Statement → Type 0
LeavesNone state session statement =
    (xid : Xid) → owns state session xid ≡ true
    → is_owned session (branch_after session (association_of state session) statement xid (map.get state.branches xid))
    ≡ false

-- after an accepted statement that leaves its session no branch that it owned (`LeavesNone`), and isn't XA START, the
-- session owns none
none_own : (state : State) (session : ℕ) (statement : Statement) → ((xid : Xid) → statement ≢ Start xid)
    → is_refused (reply_to state session statement) ≡ false → LeavesNone state session statement
    → own_xid (after state session statement) session ≡ None
none_own state session statement unstarted accepted leaves =
    none_found (after state session statement) session (λ xid e. elim
    (before_then state session statement xid accepted e) [
      | inl before ↦ true≢false (sym e ∙ owned_then state session statement xid accepted ∙ leaves xid before)
      | inr started ↦ unstarted xid started.0
    ])

-- a detached branch is nobody's
detached_owned : (session : ℕ) (found : Option Branch) → is_owned session (option_map detached found) ≡ false
unfolding is_owned detached
detached_owned session None = refl
detached_owned session (Some branch) = refl

-- a branch that is gone is nobody's
gone_owned : (session : ℕ) → is_owned session None ≡ false
unfolding is_owned
gone_owned session = refl

-- if a statement makes `new` of the branch `xid`, and `new` isn't the session's, the branch `at` isn't afterwards if it
-- is `xid`
at_itself : (session : ℕ) (new found : Option Branch) (at xid : Xid) → xid ≡ at → is_owned session new ≡ false
    → is_owned session (cond (same_xid at xid) new found) ≡ false
at_itself session new found at xid is e =
    ap (λ x. is_owned session (cond (same_xid at x) new found)) is
    ∙ ap (λ b. is_owned session (cond b new found)) (same_itself xids_total exact_xids at) ∙ e

-- a session with an ACTIVE branch isn't free
no_active : (x : Xid) → Active x ≡ Free → ⊥
no_active x f = cc

-- a session with an IDLE branch isn't free
no_idle : (x : Xid) → Idle x ≡ Free → ⊥
no_idle x f = cc

-- a free session, which has no ACTIVE or IDLE branch, owns none
free_owns : (state : State) (session : ℕ) → LockLaw state → association_of state session ≡ Free → (xid : Xid)
    → owns state session xid ≡ true → ⊥
unfolding association_of is_owned
free_owns state session law free xid e = by (map.get state.branches xid) refl
  where
    is : own_xid state session ≡ Some xid
    is = owner_open state session law xid e

    here : association_in (phase_at state xid) xid ≡ Free
    here = sym (ap (λ own. option_map_or (λ x. association_in (phase_at state x) x) own Free) is) ∙ free

    by : (found : Option Branch) → map.get state.branches xid ≡ found → ⊥
    by None was = true≢false (sym e ∙ ap (is_owned session) was)
    by (Some branch) was = phase branch.phase refl
      where
        at_phase : (phase : Phase) → branch.phase ≡ phase → phase_at state xid ≡ Some phase
        at_phase phase p = ap (option_map (λ (b : Branch). b.phase)) was ∙ ap Some p

        owner : owner_at state xid ≡ Some session
        owner = owned_is (owner_at state xid) session e

        phase : (phase : Phase) → branch.phase ≡ phase → ⊥
        phase Phase.Active p = no_active xid (sym (ap (λ f. association_in f xid) (at_phase Phase.Active p)) ∙ here)
        phase Phase.Idle p = no_idle xid (sym (ap (λ f. association_in f xid) (at_phase Phase.Idle p)) ∙ here)
        phase Phase.Prepared p =
            not_none session
            (sym (law.detached xid (ap (λ f. option_map_or is_prepared_phase f false) (at_phase Phase.Prepared p)))
            ∙ owner)

-- if the branch `xid` is the session's own, or is PREPARED while the session is free, the session owns no other
-- branch
finished_none : (state : State) (session : ℕ) (xid : Xid) → LockLaw state → IsFinishable state session xid
    → (is_prepared state xid ≡ true → association_of state session ≡ Free) → (at : Xid) → owns state session at ≡ true
    → xid ≡ at
finished_none state session xid law (inl e) free at f = law.one_branch session xid at e f
finished_none state session xid law (inr e) free at f = absurd (free_owns state session law (free e) at f)

-- an XA COMMIT of a PREPARED branch is accepted only of a free session
commit_free : (state : State) (association : Association) (xid : Xid) (one_phase : Bool) → IsOpen state association
    → is_refused (table state association (Commit xid one_phase)) ≡ false → is_prepared state xid ≡ true
    → association ≡ Free
unfolding table
commit_free state Free xid one_phase is e prepared = refl
commit_free state (Active own) xid false is e prepared = absurd (true≢false e)
commit_free state (Active own) xid true is e prepared = absurd (true≢false e)
commit_free state (Idle own) xid false is e prepared = absurd (true≢false e)
commit_free state (Idle own) xid true is e prepared =
    absurd (true≢false (sym prepared ∙ ap (is_prepared state) (own_is xid own _ e)
    ∙ ap (λ f. option_map_or is_prepared_phase f false) is))

-- an XA ROLLBACK of a PREPARED branch is accepted only of a free session
rollback_free : (state : State) (association : Association) (xid : Xid) → IsOpen state association
    → is_refused (table state association (Rollback xid)) ≡ false → is_prepared state xid ≡ true → association ≡ Free
unfolding table
rollback_free state Free xid is e prepared = refl
rollback_free state (Active own) xid is e prepared = absurd (true≢false e)
rollback_free state (Idle own) xid is e prepared =
    absurd (true≢false (sym prepared ∙ ap (is_prepared state) (own_is xid own _ e)
    ∙ ap (λ f. option_map_or is_prepared_phase f false) is))

-- what DISCONNECT makes of the branches that the session owns isn't the session's any more
disconnected : (state : State) (session : ℕ) → LockLaw state → (association : Association)
    → association_of state session ≡ association → (xid : Xid)
    → owns state session xid ≡ true → is_owned session (branch_after session association Disconnect xid
    (map.get state.branches xid)) ≡ false
unfolding branch_after
disconnected state session law Free is xid e = absurd (free_owns state session law is xid e)
disconnected state session law (Active own) is xid e =
    at_itself session None (map.get state.branches xid) xid own
    (law.one_branch session own xid (subst (IsOwn state session) is (own_association state session)) e)
    (gone_owned session)
disconnected state session law (Idle own) is xid e =
    at_itself session None (map.get state.branches xid) xid own
    (law.one_branch session own xid (subst (IsOwn state session) is (own_association state session)) e)
    (gone_owned session)

-- ---- every statement

-- an XA PREPARE isn't an XA START
prepares_starts : (at xid : Xid) → Prepare at ≢ Start xid
prepares_starts at xid e = cc

-- an XA COMMIT isn't an XA START
commits_starts : (at xid : Xid) (one_phase : Bool) → Commit at one_phase ≢ Start xid
commits_starts at xid one_phase e = cc

-- an XA ROLLBACK isn't an XA START
rolls_back_starts : (at xid : Xid) → Rollback at ≢ Start xid
rolls_back_starts at xid e = cc

-- a DISCONNECT isn't an XA START
disconnects_starts : (xid : Xid) → Disconnect ≢ Start xid
disconnects_starts xid e = cc

-- after its own accepted statement a session owns what `own_after` says
pub own_then : (state : State) (session : ℕ) (statement : Statement) → LockLaw state
    → LockLaw (after state session statement)
    → is_refused (reply_to state session statement) ≡ false
    → own_xid (after state session statement) session ≡ own_after (own_xid state session) statement
unfolding branch_after
own_then state session (Start xid) law later accepted = started_own state session xid later accepted
own_then state session (End xid) law later accepted = quiet_own state session (End xid) law later tt accepted
own_then state session (Prepare xid) law later accepted =
    none_own state session (Prepare xid) (prepares_starts xid) accepted (λ at e.
    at_itself session (option_map detached (map.get state.branches at)) (map.get state.branches at) at xid
    (law.one_branch session xid at
    (accepted_prepare_own state session (association_of state session) xid (own_association state session)
    (accepted_there state session (Prepare xid) accepted)) e)
    (detached_owned session (map.get state.branches at)))
own_then state session (Commit xid one_phase) law later accepted =
    let there = accepted_there state session (Commit xid one_phase) accepted in
    none_own state session (Commit xid one_phase) (λ at. commits_starts xid at one_phase) accepted (λ at e.
    at_itself session None (map.get state.branches at) at xid
    (finished_none state session xid law
    (accepted_commit_own state session (association_of state session) xid one_phase
    (own_association state session) there)
    (commit_free state (association_of state session) xid one_phase (open_association state session) there) at e)
    (gone_owned session))
own_then state session (Rollback xid) law later accepted =
    let there = accepted_there state session (Rollback xid) accepted in
    none_own state session (Rollback xid) (rolls_back_starts xid) accepted (λ at e.
    at_itself session None (map.get state.branches at) at xid
    (finished_none state session xid law
    (accepted_rollback_own state session (association_of state session) xid (own_association state session) there)
    (rollback_free state (association_of state session) xid (open_association state session) there) at e)
    (gone_owned session))
own_then state session (Recover convert) law later accepted =
    quiet_own state session (Recover convert) law later tt accepted
own_then state session Unsupported law later accepted = quiet_own state session Unsupported law later tt accepted
own_then state session (Get key) law later accepted = quiet_own state session (Get key) law later tt accepted
own_then state session (Put key value) law later accepted =
    quiet_own state session (Put key value) law later tt accepted
own_then state session (Del key) law later accepted = quiet_own state session (Del key) law later tt accepted
own_then state session Disconnect law later accepted =
    none_own state session Disconnect disconnects_starts accepted
    (λ at e. disconnected state session law (association_of state session) refl at e)

-- a server that holds nothing: nobody owns a branch
pub nobody_owns : (session : ℕ) → own_xid no_state session ≡ None
unfolding no_state is_owned
nobody_owns session =
    none_found no_state session (λ xid e. true≢false (sym e ∙ ap (is_owned session) (get-empty xid_cmp xid)))

-- what is kept of what sessions own stays right after an accepted statement of one of them
pub followed_then : (state : State) (session : ℕ) (statement : Statement) (old new : Owned) → LockLaw state
    → LockLaw (after state session statement)
    → is_refused (reply_to state session statement) ≡ false → IsFollowed old state
    → ((at : ℕ) → owned_at new at ≡ cond (at == session) (own_after (owned_at old session) statement) (owned_at old at))
    → IsFollowed new (after state session statement)
followed_then state session statement old new law later accepted followed set at = set at ∙ by (at == session) refl
  where
    by : (b : Bool) → (at == session) ≡ b → cond b (own_after (owned_at old session) statement) (owned_at old at)
        ≡ own_xid (after state session statement) at
    by true is =
        ap (λ own. own_after own statement) (followed session)
        ∙ sym (own_then state session statement law later accepted)
        ∙ ap (own_xid (after state session statement)) (sym (eqb-true at session is))
    by false is =
        followed at ∙ sym ((others_left state law session at statement
        (λ same. true≢false (sym (eq-eqb at session (sym same)) ∙ is))).own)
