-- A statement of one session leaves what another session has open.
use Rattle.std.proofs.Common.{◌≡◌, ◌≢◌, ℕ, List, [], ◌∷◌, refl, ap, sym, ◌∙◌, Bool, true, false, ◌⊎◌, inl, inr}
use Rattle.std.specs.Prelude.{Option, Some, None, cond, ◌==◌, is_some, find, not}
use Rattle.std.specs.{Option.{option_map, option_map_or, option_and_then}, FinMap.contains_key-keys}
use mathlib.Core.Bool.{true≢false}
use Rattle.xa_xid.specs.{declared.{xid.Xid.Xid, statement.Statement.Statement}, Xid.same_xid}
use Rattle.xa_xid.proofs.Orders.{xids_total, exact_xids}
use Rattle.xa_server.specs.declared.{branch.Phase.Phase, xa_error.XaError.TheVariants.{Nota, Rmfail}}
use Rattle.xa_server.specs.declared.xa_error.BranchState.TheVariants.{Prepared as StatePrepared}
use Rattle.xa_server.specs.declared.{reply.Reply.TheVariants.Refused, association.Association.Association}
use Rattle.xa_server.specs.{declared.association.Association.TheVariants.{Free, Active, Idle}, State.{Branch, State}}
use Rattle.xa_server.specs.State.{is_prepared, owner_at, owns, own_xid, phase_at, association_in, association_of}
use Rattle.xa_server.{specs.{Locks.LockLaw, Replies.{refused_if, table}}, proofs.Maps.{same_or_apart, same_itself}}
use Rattle.xa_server.specs.{Step.{started_by, with_lock, with_own_write, is_refused, after}, Laws.LeavesSession}
use Rattle.xa_server.proofs.{Index.{same_value, not_none}, Seen.{find_one, find_none, owned_is}}
use Rattle.xa_server.proofs.Accepted.{accepted_start, own_is, passes}
use Rattle.xa_server.proofs.Changes.{idle, detached, branch_after, effect-branch, outcome}
use Rattle.std.specs.FinMap as map

-- the session owns the branch
unfoldable pub is_owned : ℕ → Option Branch → Bool
is_owned session found =
    option_map_or (λ owner. owner == session) (option_and_then (λ (b : Branch). b.owner) found) false

-- ---- what a session has open, it owns

-- the branch that an association names is the session's
abbrev pub IsOwn : State → ℕ → Association → Type 0
IsOwn state session Free = Unit {0}
IsOwn state session (Active own) = owns state session own ≡ true
IsOwn state session (Idle own) = owns state session own ≡ true

-- the first element that passes a test passes it, whether it is this one or a later one
passing : (p : Xid → Bool) (x : Xid) (rest : Option Xid) (xid : Xid) → (rest ≡ Some xid → p xid ≡ true) → (b : Bool)
    → p x ≡ b → cond b (Some x) rest ≡ Some xid
    → p xid ≡ true
passing p x rest xid later true is e = ap p (sym (same_value x xid e)) ∙ is
passing p x rest xid later false is e = later e

-- an identifier that is found by a test passes it
find_passes : (p : Xid → Bool) (xs : List Xid) (xid : Xid) → find p xs ≡ Some xid → p xid ≡ true
find_passes p [] xid e = not_none xid e
find_passes p (x ∷ xs) xid e = passing p x (find p xs) xid (find_passes p xs xid) (p x) refl e

-- if a session owns a branch, the association that any phase of the branch gives names a branch of the session
in_phase : (state : State) (session : ℕ) (phase : Option Phase) (xid : Xid) → owns state session xid ≡ true
    → IsOwn state session (association_in phase xid)
in_phase state session None xid e = tt
in_phase state session (Some Phase.Active) xid e = e
in_phase state session (Some Phase.Idle) xid e = e
in_phase state session (Some Phase.Prepared) xid e = tt

-- what a session has open is its own
pub own_association : (state : State) (session : ℕ) → IsOwn state session (association_of state session)
unfolding association_of own_xid
own_association state session = by (own_xid state session) refl
  where
    by : (own : Option Xid) → own_xid state session ≡ own
        → IsOwn state session (option_map_or (λ xid. association_in (phase_at state xid) xid) own Free)
    by None e = tt
    by (Some xid) e = in_phase state session (phase_at state xid) xid
        (find_passes (owns state session) (map.keys state.branches) xid e)

-- a branch that is owned is there
pub known_owned : (session : ℕ) (found : Option Branch) → is_owned session found ≡ true → is_some found ≡ true
unfolding is_owned
known_owned session None e = absurd (true≢false (sym e))
known_owned session (Some branch) e = refl

-- if a session owns this branch and no other, this one is found as its own
pub own_found : (state : State) (session : ℕ) (xid : Xid) → owns state session xid ≡ true
    → ((other : Xid) → owns state session other ≡ true → xid ≡ other)
    → own_xid state session ≡ Some xid
unfolding own_xid is_owned
own_found state session xid e only = find_one (owns state session) (map.keys state.branches) xid
    (sym (contains_key-keys state.branches xid) ∙ known_owned session (map.get state.branches xid) e) e only

-- the branch that `own_xid` finds for a session is the session's
pub find_owned : (state : State) (session : ℕ) (xid : Xid) → own_xid state session ≡ Some xid
    → owns state session xid ≡ true
unfolding own_xid
find_owned state session xid e = find_passes (owns state session) (map.keys state.branches) xid e

-- for a session that owns no branch `own_xid` finds none
pub none_found : (state : State) (session : ℕ) → ((xid : Xid) → owns state session xid ≢ true)
    → own_xid state session ≡ None
unfolding own_xid
none_found state session none =
    find_none (owns state session) (map.keys state.branches) (λ xid. by xid (owns state session xid) refl)
  where
    by : (xid : Xid) (b : Bool) → owns state session xid ≡ b → b ≡ false
    by xid true e = absurd (none xid e)
    by xid false e = refl

-- ---- whose branch an accepted statement changes

-- an XA END is accepted only of a branch of the session
pub accepted_end_own : (state : State) (session : ℕ) (association : Association) (xid : Xid)
    → IsOwn state session association
    → is_refused (table state association (Statement.End xid)) ≡ false
    → owns state session xid ≡ true
unfolding table
accepted_end_own state session Free xid own e = absurd (true≢false e)
accepted_end_own state session (Active associated) xid own e = ap (owns state session) (own_is xid associated _ e) ∙ own
accepted_end_own state session (Idle associated) xid own e = absurd (true≢false e)

-- an XA PREPARE is accepted only of a branch of the session
pub accepted_prepare_own : (state : State) (session : ℕ) (association : Association) (xid : Xid)
    → IsOwn state session association
    → is_refused (table state association (Statement.Prepare xid)) ≡ false → owns state session xid ≡ true
unfolding table
accepted_prepare_own state session Free xid own e = absurd (true≢false e)
accepted_prepare_own state session (Active associated) xid own e = absurd (true≢false e)
accepted_prepare_own state session (Idle associated) xid own e =
    ap (owns state session) (own_is xid associated _ e) ∙ own

-- a free session's one-phase XA COMMIT is refused, whether the branch is PREPARED (b) or not: so it is never accepted
never_done : {A : Type 0} (b : Bool) → is_refused (refused_if (not b) Nota (Refused (Rmfail StatePrepared))) ≡ false → A
never_done true e = absurd (true≢false e)
never_done false e = absurd (true≢false e)

-- the session's own branch, or one that is PREPARED
abbrev pub IsFinishable : State → ℕ → Xid → Type 0
IsFinishable state session xid = (owns state session xid ≡ true) ⊎ (is_prepared state xid ≡ true)

-- an XA COMMIT is accepted only of a branch that the session owns, or of a PREPARED one
pub accepted_commit_own : (state : State) (session : ℕ) (association : Association) (xid : Xid) (one_phase : Bool)
    → IsOwn state session association
    → is_refused (table state association (Statement.Commit xid one_phase)) ≡ false → IsFinishable state session xid
unfolding table
accepted_commit_own state session Free xid false own e = inr (passes (is_prepared state xid) _ e)
accepted_commit_own state session Free xid true own e = never_done (is_prepared state xid) e
accepted_commit_own state session (Active associated) xid false own e = absurd (true≢false e)
accepted_commit_own state session (Active associated) xid true own e = absurd (true≢false e)
accepted_commit_own state session (Idle associated) xid false own e = absurd (true≢false e)
accepted_commit_own state session (Idle associated) xid true own e =
    inl (ap (owns state session) (own_is xid associated _ e) ∙ own)

-- an XA ROLLBACK is accepted only of a branch that the session owns, or of a PREPARED one
pub accepted_rollback_own : (state : State) (session : ℕ) (association : Association) (xid : Xid)
    → IsOwn state session association
    → is_refused (table state association (Statement.Rollback xid)) ≡ false → IsFinishable state session xid
unfolding table
accepted_rollback_own state session Free xid own e = inr (passes (is_prepared state xid) _ e)
accepted_rollback_own state session (Active associated) xid own e = absurd (true≢false e)
accepted_rollback_own state session (Idle associated) xid own e =
    inl (ap (owns state session) (own_is xid associated _ e) ∙ own)

-- ---- such a branch isn't another session's

-- no session owns a branch that another session owns, by the owner that the branch names
one_owner : (session other : ℕ) (owner : Option ℕ) → session ≢ other
    → option_map_or (λ o. o == session) owner false ≡ true
    → option_map_or (λ o. o == other) owner false ≡ false
one_owner session other owner apart e = by (option_map_or (λ o. o == other) owner false) refl
  where
    by : (b : Bool) → option_map_or (λ o. o == other) owner false ≡ b → b ≡ false
    by true f = absurd (apart (same_value session other (sym (owned_is owner session e) ∙ owned_is owner other f)))
    by false f = refl

-- no session owns a branch of the state that another session owns
not_others : (state : State) (session other : ℕ) (xid : Xid) → session ≢ other → owns state session xid ≡ true
    → owns state other xid ≡ false
not_others state session other xid apart e = one_owner session other (owner_at state xid) apart e

-- in a state that keeps the lock law nobody owns a PREPARED branch
pub nobodys : (state : State) (other : ℕ) (xid : Xid) → LockLaw state → is_prepared state xid ≡ true
    → owns state other xid ≡ false
nobodys state other xid law e = ap (λ owner. option_map_or (λ o. o == other) owner false) (law.detached xid e)

-- in a state that keeps the lock law, a branch that a session may finish is no other session's
not_anothers : (state : State) (session other : ℕ) (xid : Xid) → LockLaw state → session ≢ other
    → IsFinishable state session xid → owns state other xid ≡ false
not_anothers state session other xid law apart (inl e) = not_others state session other xid apart e
not_anothers state session other xid law apart (inr e) = nobodys state other xid law e

-- nobody owns a branch that isn't there
unknown_owned : (other : ℕ) (found : Option Branch) → is_some found ≡ false → is_owned other found ≡ false
unfolding is_owned
unknown_owned other None e = refl
unknown_owned other (Some branch) e = absurd (true≢false e)

-- ---- another session's branch stays as it is

-- a change of a branch that the other session doesn't own leaves the branches that it owns
spared : (state : State) (other : ℕ) (touched at : Xid) (new : Option Branch) → owns state other touched ≡ false
    → owns state other at ≡ true
    → cond (same_xid at touched) new (map.get state.branches at) ≡ map.get state.branches at
spared state other touched at new no_owner e = elim (same_or_apart xids_total exact_xids at touched) [
  | inl is ↦ absurd (true≢false (sym e ∙ ap (owns state other) is ∙ no_owner))
  | inr apart ↦ ap (λ b. cond b new (map.get state.branches at)) apart
]

-- an accepted statement of one session leaves the branches that the other owns
kept : (state : State) (session other : ℕ) → LockLaw state → session ≢ other → (association : Association)
    → IsOwn state session association
    → (statement : Statement)
    → is_refused (table state association statement) ≡ false →
    (at : Xid) → owns state other at ≡ true → branch_after session association statement at (map.get state.branches at)
    ≡ map.get state.branches at
unfolding branch_after is_owned
kept state session other law apart association own (Statement.Start xid) accepted at e =
    spared state other xid at _ (unknown_owned other (map.get state.branches xid)
    (accepted_start state association xid accepted).1) e
kept state session other law apart association own (Statement.End xid) accepted at e =
    spared state other xid at _ (not_others state session other xid apart
    (accepted_end_own state session association xid own accepted)) e
kept state session other law apart association own (Statement.Prepare xid) accepted at e =
    spared state other xid at _ (not_others state session other xid apart
    (accepted_prepare_own state session association xid own accepted)) e
kept state session other law apart association own (Statement.Commit xid one_phase) accepted at e =
    spared state other xid at _ (not_anothers state session other xid law apart
    (accepted_commit_own state session association xid one_phase own accepted)) e
kept state session other law apart association own (Statement.Rollback xid) accepted at e =
    spared state other xid at _ (not_anothers state session other xid law apart
    (accepted_rollback_own state session association xid own accepted)) e
kept state session other law apart association own (Statement.Recover convert) accepted at e = refl
kept state session other law apart association own Statement.Unsupported accepted at e = refl
kept state session other law apart Free own (Statement.Get key) accepted at e = refl
kept state session other law apart (Active associated) own (Statement.Get key) accepted at e =
    spared state other associated at _ (not_others state session other associated apart own) e
kept state session other law apart (Idle associated) own (Statement.Get key) accepted at e = refl
kept state session other law apart Free own (Statement.Put key value) accepted at e = refl
kept state session other law apart (Active associated) own (Statement.Put key value) accepted at e =
    spared state other associated at _ (not_others state session other associated apart own) e
kept state session other law apart (Idle associated) own (Statement.Put key value) accepted at e = refl
kept state session other law apart Free own (Statement.Del key) accepted at e = refl
kept state session other law apart (Active associated) own (Statement.Del key) accepted at e =
    spared state other associated at _ (not_others state session other associated apart own) e
kept state session other law apart (Idle associated) own (Statement.Del key) accepted at e = refl
kept state session other law apart Free own Statement.Disconnect accepted at e = refl
kept state session other law apart (Active associated) own Statement.Disconnect accepted at e =
    spared state other associated at _ (not_others state session other associated apart own) e
kept state session other law apart (Idle associated) own Statement.Disconnect accepted at e =
    spared state other associated at _ (not_others state session other associated apart own) e

-- ---- another session gets no branch

-- if a session that owns a changed branch owned the one found, then, whichever of the two a test takes, a session
-- that owns that one owned the one found
either : (other : ℕ) (b : Bool) (new found : Option Branch) → (is_owned other new ≡ true → is_owned other found ≡ true)
    → is_owned other (cond b new found) ≡ true → is_owned other found ≡ true
either other true new found from e = from e
either other false new found from e = e

-- if a change leaves the owner of every branch, a session that owns a branch after it owned it before
same_owner : (other : ℕ) (change : Branch → Branch) → ((branch : Branch) → (change branch).owner ≡ branch.owner)
    → (found : Option Branch)
    → is_owned other (option_map change found) ≡ true → is_owned other found ≡ true
unfolding is_owned
same_owner other change same None e = e
same_owner other change same (Some branch) e =
    ap (λ owner. option_map_or (λ o. o == other) owner false) (sym (same branch)) ∙ e

-- a detached branch isn't owned, so nothing is to be shown
ownerless : (other : ℕ) (found : Option Branch) → is_owned other (option_map detached found) ≡ true
    → is_owned other found ≡ true
unfolding is_owned detached
ownerless other None e = absurd (true≢false (sym e))
ownerless other (Some branch) e = absurd (true≢false (sym e))

-- a branch that is gone isn't owned, so nothing is to be shown
removed : (other : ℕ) (found : Option Branch) → is_owned other None ≡ true → is_owned other found ≡ true
unfolding is_owned
removed other found e = absurd (true≢false (sym e))

-- a branch that the session has just started
abbrev pub IsStarted : ℕ → ℕ → Statement → Xid → Type 0
IsStarted session who statement at = (statement ≡ Statement.Start at) × (session ≡ who)

-- a branch that a session owns after a statement, it owned before, or has just started
pub owned_before : (session who : ℕ) (association : Association) (statement : Statement) (at : Xid)
    (found : Option Branch)
    → is_owned who (branch_after session association statement at found) ≡ true →
    (is_owned who found ≡ true) ⊎ IsStarted session who statement at
unfolding branch_after idle is_owned
owned_before session who association (Statement.Start xid) at found e = elim
    (same_or_apart xids_total exact_xids at xid) [
      | inl is ↦ inr (
        ap Statement.Start (sym is),
        same_value session who (owned_is (Some session) who
            (ap (λ b. is_owned who (cond b (Some (started_by session)) found))
            (sym (ap (λ x. same_xid x xid) is ∙ same_itself xids_total exact_xids xid)) ∙ e)),
      )
      | inr apart ↦ inl (ap (λ b. is_owned who (cond b (Some (started_by session)) found)) (sym apart) ∙ e)
    ]
owned_before session who association (Statement.End xid) at found e =
    inl (either who (same_xid at xid) _ found (same_owner who idle (λ b. refl) found) e)
owned_before session who association (Statement.Prepare xid) at found e =
    inl (either who (same_xid at xid) _ found (ownerless who found) e)
owned_before session who association (Statement.Commit xid one_phase) at found e =
    inl (either who (same_xid at xid) _ found (removed who found) e)
owned_before session who association (Statement.Rollback xid) at found e =
    inl (either who (same_xid at xid) _ found (removed who found) e)
owned_before session who association (Statement.Recover convert) at found e = inl e
owned_before session who association Statement.Unsupported at found e = inl e
owned_before session who Free (Statement.Get key) at found e = inl e
owned_before session who (Active own) (Statement.Get key) at found e =
    inl (either who (same_xid at own) _ found (same_owner who (with_lock key) (λ b. refl) found) e)
owned_before session who (Idle own) (Statement.Get key) at found e = inl e
owned_before session who Free (Statement.Put key value) at found e = inl e
owned_before session who (Active own) (Statement.Put key value) at found e =
    inl (either who (same_xid at own) _ found (same_owner who (with_own_write key (Some value)) (λ b. refl) found) e)
owned_before session who (Idle own) (Statement.Put key value) at found e = inl e
owned_before session who Free (Statement.Del key) at found e = inl e
owned_before session who (Active own) (Statement.Del key) at found e =
    inl (either who (same_xid at own) _ found (same_owner who (with_own_write key None) (λ b. refl) found) e)
owned_before session who (Idle own) (Statement.Del key) at found e = inl e
owned_before session who Free Statement.Disconnect at found e = inl e
owned_before session who (Active own) Statement.Disconnect at found e =
    inl (either who (same_xid at own) _ found (removed who found) e)
owned_before session who (Idle own) Statement.Disconnect at found e =
    inl (either who (same_xid at own) _ found (removed who found) e)

-- no other session owns a branch after a statement that it didn't own before
gained : (session other : ℕ) → session ≢ other → (association : Association) (statement : Statement) (at : Xid)
    (found : Option Branch)
    → is_owned other (branch_after session association statement at found) ≡ true → is_owned other found ≡ true
gained session other apart association statement at found e =
    elim (owned_before session other association statement at found e) [
      | inl before ↦ before
      | inr started ↦ absurd (apart started.1)
    ]

-- ---- the law

-- if a session owns after a statement only branches that it owned, and those are as they were, what it has open is as
-- it was
same_session : (old new : State) (session : ℕ) → LockLaw old
    → ((xid : Xid) → owns old session xid ≡ true → map.get new.branches xid ≡ map.get old.branches xid) →
    ((xid : Xid) → owns new session xid ≡ true → owns old session xid ≡ true) → LeavesSession old new session
unfolding is_owned association_of
same_session old new session law same back =
    record { own = own; association = association (own_xid old session) refl; phase = phase; branch = same }
  where
    phase : (xid : Xid) → owns old session xid ≡ true → phase_at new xid ≡ phase_at old xid
    phase xid e = ap (option_map (λ (b : Branch). b.phase)) (same xid e)

    found : (xid : Xid) → owns old session xid ≡ true → own_xid new session ≡ Some xid
    found xid e = own_found new session xid (ap (is_owned session) (same xid e) ∙ e)
        (λ other f. law.one_branch session xid other e (back other f))

    by : (was : Option Xid) → own_xid old session ≡ was → own_xid new session ≡ was
    by (Some xid) is = found xid (find_owned old session xid is)
    by None is =
        none_found new session (λ xid e. not_none xid
        (sym is ∙ own_found old session xid (back xid e) (λ other f. law.one_branch session xid other (back xid e) f)))

    own : own_xid new session ≡ own_xid old session
    own = by (own_xid old session) refl

    association : (was : Option Xid) → own_xid old session ≡ was
        → association_of new session ≡ association_of old session
    association None is =
        ap (λ own. option_map_or (λ xid. association_in (phase_at new xid) xid) own Free) (own ∙ is)
        ∙ sym (ap (λ own. option_map_or (λ xid. association_in (phase_at old xid) xid) own Free) is)
    association (Some xid) is =
        ap (λ own. option_map_or (λ xid. association_in (phase_at new xid) xid) own Free) (own ∙ is)
        ∙ ap (λ p. association_in p xid) (phase xid (find_owned old session xid is))
        ∙ sym (ap (λ own. option_map_or (λ xid. association_in (phase_at old xid) xid) own Free) is)

-- a statement of one session leaves the open branch of each other session
pub others_left : (state : State) → LockLaw state → (session other : ℕ) (statement : Statement) → session ≢ other
    → LeavesSession state (after state session statement) other
unfolding is_owned
others_left state law session other statement apart = elim (outcome state session statement) [
  | inl (refused, same) ↦ same_session state (after state session statement) other law
      (λ xid e. ap (λ (s : State). map.get s.branches xid) same)
      (λ xid e. sym (ap (λ s. owns s other xid) same) ∙ e)
  | inr (accepted, done) ↦ same_session state (after state session statement) other law
      (λ xid e. ap (λ (s : State). map.get s.branches xid) done
      ∙ effect-branch state session (association_of state session) statement xid
      ∙ kept state session other law apart (association_of state session)
      (own_association state session) statement accepted xid e)
      (λ xid e. gained session other apart (association_of state session) statement xid (map.get state.branches xid)
      (ap (is_owned other) (sym (effect-branch state session (association_of state session) statement xid))
      ∙ sym (ap (λ s. owns s other xid) done) ∙ e))
]
