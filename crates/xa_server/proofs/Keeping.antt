-- Each statement, and so each history, keeps the lock law.
use Rattle.std.proofs.Common.{◌≡◌, ℕ, List, [], ◌∷◌, refl, ap, sym, ◌∙◌, subst, Bool, true, false, ◌⊎◌, inl, inr}
use Rattle.std.specs.{Prelude.{Option, Some, None, cond, is_some}, Option.{option_map, option_map_or, option_and_then}}
use Rattle.std.specs.FinMap.{get-empty}
use mathlib.Core.Bool.{true≢false}
use Rattle.xa_xid.specs.{declared.{xid.Xid.Xid, statement.Statement.Statement}, Xid.{bytes_cmp, same_xid}}
use Rattle.xa_xid.proofs.Orders.{xids_total, exact_xids, bytes_total, exact_texts}
use Rattle.xa_server.specs.{declared.{branch.Phase.Phase, association.Association.Association}, State.Write}
use Rattle.xa_server.specs.State.{Exclusive, Branch, State, no_state, is_prepared, is_prepared_phase, owns, phase_at}
use Rattle.xa_server.specs.{State.{association_in, association_of, IsOpen}, Locks.{LockLaw, is_exclusive}}
use Rattle.xa_server.{specs.Replies.table, proofs.Maps.{same_or_apart, get_inserted, get_inserted_apart}}
use Rattle.xa_server.specs.Step.{started_by, with_lock, with_own_write, effect, is_refused, after, after_all}
use Rattle.xa_server.proofs.{Index.not_none, Accepted.{open_association, accepted_start, accepted_end}}
use Rattle.xa_server.proofs.Taking.{mode_in, share_exclusive, Before, held_before, exclusive_before, one_holder}
use Rattle.xa_server.proofs.{Changes.{idle, detached, branch_after, effect-branch, outcome}, Steps.seen_empty}
use Rattle.xa_server.proofs.Others.{is_owned, IsStarted, owned_before, own_found, nobodys, known_owned}
use Rattle.xa_server.proofs.{Whole.whole_empty, LockLaws.lock_law}
use Rattle.std.specs.FinMap as map

-- ---- what a branch keeps by itself

-- whether the branch is there and PREPARED
is_ready : Option Branch → Bool
is_ready found = option_map_or is_prepared_phase (option_map (λ (b : Branch). b.phase) found) false

-- the session that owns the branch, if it is there and has one
owner_in : Option Branch → Option ℕ
owner_in found = option_and_then (λ (b : Branch). b.owner) found

-- whether the branch is there and has written to the row
is_writing : List ℕ → Option Branch → Bool
is_writing key found = is_some (option_and_then (λ (b : Branch). map.get b.writes key) found)

-- PREPARED branches and no others are nobody's, and a branch holds exclusively what it writes
record IsSound (found : Option Branch) : Type 0 where
  pub detached : is_ready found ≡ true → owner_in found ≡ None
  pub attached : is_some found ≡ true → is_ready found ≡ false → is_some (owner_in found) ≡ true
  pub held : (key : List ℕ) → is_writing key found ≡ true → is_exclusive (mode_in key found) ≡ true

-- the lock law, read as a fact about each branch: a PREPARED one has no owner, any other has one, and what it wrote
-- it holds exclusively
sound_in : (state : State) → LockLaw state → (xid : Xid) → IsSound (map.get state.branches xid)
unfolding is_ready owner_in mode_in is_writing
sound_in state law xid = record { detached = law.detached xid; attached = law.attached xid; held = law.held_writes xid }

-- where there is no branch, `IsSound` holds
sound_none : IsSound None
unfolding is_ready owner_in mode_in is_writing
sound_none = record
    { detached = λ e. refl; attached = λ e f. absurd (true≢false (sym e)); held = λ key e. absurd (true≢false (sym e)) }

-- a branch that was just started is sound: it has an owner and holds nothing
sound_started : (session : ℕ) → IsSound (Some (started_by session))
unfolding is_ready owner_in mode_in is_writing
sound_started session = record {
  detached = λ e. absurd (true≢false (sym e));
  attached = λ e f. refl;
  held = λ key e. absurd (true≢false (sym e ∙ ap is_some (get-empty bytes_cmp key)));
}

-- XA END keeps a branch sound if it isn't PREPARED
sound_idle : (found : Option Branch) → is_ready found ≡ false → IsSound found → IsSound (option_map idle found)
unfolding is_ready owner_in mode_in is_writing idle
sound_idle None e sound = sound_none
sound_idle (Some branch) e sound =
    record {
      detached = λ f. absurd (true≢false (sym f));
      attached = λ there f.
          sound.attached refl e;
      held = sound.held;
    }

-- XA PREPARE keeps a branch sound: it drops the owner
sound_detached : (found : Option Branch) → IsSound found → IsSound (option_map detached found)
unfolding is_ready owner_in mode_in is_writing detached
sound_detached None sound = sound_none
sound_detached (Some branch) sound =
    record { detached = λ e. refl; attached = λ there e. absurd (true≢false e); held = sound.held }

-- a branch that is sound stays so if it locks one row more
sound_locked : (key : List ℕ) (found : Option Branch) → IsSound found → IsSound (option_map (with_lock key) found)
unfolding is_ready owner_in mode_in is_writing
sound_locked key None sound = sound_none
sound_locked key (Some branch) sound =
    record {
      detached = sound.detached;
      attached = sound.attached;
      held = λ other e.
          share_exclusive branch.locks key other ∙ sound.held other e;
    }

-- a write keeps a branch sound, since it takes the row exclusively
sound_written : (key : List ℕ) (write : Write) (found : Option Branch) → IsSound found
    → IsSound (option_map (with_own_write key write) found)
unfolding is_ready owner_in mode_in is_writing
sound_written key write None sound = sound_none
sound_written key write (Some branch) sound = record {
  detached = sound.detached;
  attached = sound.attached;
  held = λ other e. elim (same_or_apart bytes_total exact_texts other key) [
    | inl is ↦ rw is (ap is_exclusive (get_inserted bytes_total exact_texts branch.locks key Exclusive))
    | inr apart ↦ ap is_exclusive (get_inserted_apart bytes_total exact_texts branch.locks key Exclusive other apart)
        ∙ sound.held other
        (sym (ap is_some (get_inserted_apart bytes_total exact_texts branch.writes key write other apart)) ∙ e)
  ];
}

-- if two branches are sound, so is the one of them that a test takes
one_of : (b : Bool) (new found : Option Branch) → IsSound new → IsSound found → IsSound (cond b new found)
one_of true new found n f = n
one_of false new found n f = f

-- XA END keeps the branch at each identifier sound, if its own branch isn't PREPARED
idle_at : (state : State) (xid at : Xid) → is_prepared state xid ≡ false → IsSound (map.get state.branches at)
    → IsSound (cond (same_xid at xid) (option_map idle (map.get state.branches at)) (map.get state.branches at))
unfolding is_ready
idle_at state xid at e sound = elim (same_or_apart xids_total exact_xids at xid) [
  | inl is ↦ one_of (same_xid at xid) _ _ (sound_idle (map.get state.branches at)
      (ap (is_prepared state) is ∙ e) sound) sound
  | inr apart ↦ subst (λ b. IsSound (cond b (option_map idle (map.get state.branches at)) (map.get state.branches at)))
      (sym apart) sound
]

-- each accepted statement keeps each branch sound
sound_after : (state : State) (session : ℕ) (association : Association) → IsOpen state association
    → (statement : Statement)
    → is_refused (table state association statement) ≡ false
    → (at : Xid) → IsSound (map.get state.branches at) →
    IsSound (branch_after session association statement at (map.get state.branches at))
unfolding branch_after
sound_after state session association associated (Statement.Start xid) accepted at sound =
    one_of (same_xid at xid) _ _ (sound_started session) sound
sound_after state session association associated (Statement.End xid) accepted at sound =
    idle_at state xid at (accepted_end state association xid associated accepted) sound
sound_after state session association associated (Statement.Prepare xid) accepted at sound =
    one_of (same_xid at xid) _ _ (sound_detached (map.get state.branches at) sound) sound
sound_after state session association associated (Statement.Commit xid one_phase) accepted at sound =
    one_of (same_xid at xid) _ _ sound_none sound
sound_after state session association associated (Statement.Rollback xid) accepted at sound =
    one_of (same_xid at xid) _ _ sound_none sound
sound_after state session association associated (Statement.Recover convert) accepted at sound = sound
sound_after state session association associated Statement.Unsupported accepted at sound = sound
sound_after state session Association.Free associated (Statement.Get key) accepted at sound = sound
sound_after state session (Association.Active own) associated (Statement.Get key) accepted at sound =
    one_of (same_xid at own) _ _ (sound_locked key (map.get state.branches at) sound) sound
sound_after state session (Association.Idle own) associated (Statement.Get key) accepted at sound = sound
sound_after state session Association.Free associated (Statement.Put key value) accepted at sound = sound
sound_after state session (Association.Active own) associated (Statement.Put key value) accepted at sound =
    one_of (same_xid at own) _ _ (sound_written key (Some value) (map.get state.branches at) sound) sound
sound_after state session (Association.Idle own) associated (Statement.Put key value) accepted at sound = sound
sound_after state session Association.Free associated (Statement.Del key) accepted at sound = sound
sound_after state session (Association.Active own) associated (Statement.Del key) accepted at sound =
    one_of (same_xid at own) _ _ (sound_written key None (map.get state.branches at) sound) sound
sound_after state session (Association.Idle own) associated (Statement.Del key) accepted at sound = sound
sound_after state session Association.Free associated Statement.Disconnect accepted at sound = sound
sound_after state session (Association.Active own) associated Statement.Disconnect accepted at sound =
    one_of (same_xid at own) _ _ sound_none sound
sound_after state session (Association.Idle own) associated Statement.Disconnect accepted at sound =
    one_of (same_xid at own) _ _ sound_none sound

-- ---- one branch for a session

-- the session has no branch open
unfoldable pub is_free : Association → Bool
is_free Association.Free = true
is_free (Association.Active own) = false
is_free (Association.Idle own) = false

-- a session that owns a branch isn't free
pub owner_associated : (state : State) (session : ℕ) (xid : Xid) → LockLaw state → owns state session xid ≡ true
    → is_free (association_of state session) ≡ false
unfolding association_of is_owned is_free
owner_associated state session xid law e =
    ap (λ own. is_free (option_map_or (λ xid. association_in (phase_at state xid) xid) own Association.Free))
    (own_found state session xid e (λ other f. law.one_branch session xid other e f))
    ∙ by (phase_at state xid) refl
  where
    nothing : (found : Option Branch) → is_some found ≡ true → option_map (λ (b : Branch). b.phase) found ≡ None
        → is_free (association_in None xid) ≡ false
    nothing None there none = absurd (true≢false (sym there))
    nothing (Some branch) there none = not_none branch.phase (sym none)

    by : (phase : Option Phase) → phase_at state xid ≡ phase → is_free (association_in phase xid) ≡ false
    by None is = nothing (map.get state.branches xid) (known_owned session (map.get state.branches xid) e) is
    by (Some Phase.Active) is = refl
    by (Some Phase.Idle) is = refl
    by (Some Phase.Prepared) is =
        absurd (true≢false (sym e ∙ nobodys state session xid law
        (ap (λ phase. option_map_or is_prepared_phase phase false) is)))

-- equal XA START have equal identifiers
start_of : (xid other : Xid) → Statement.Start xid ≡ Statement.Start other → xid ≡ other
start_of xid other e = cc

-- a session that starts a branch owned none
starter_free : {A : Type 0} (state : State) (session who : ℕ) (statement : Statement) → LockLaw state
    → is_refused (table state (association_of state session) statement) ≡ false →
    (xid other : Xid) → IsStarted session who statement xid → owns state who other ≡ true → A
unfolding is_free
starter_free state session who statement law accepted xid other started e =
    let free : association_of state session ≡ Association.Free =
    (accepted_start state (association_of state session) xid
    (sym (ap (λ s. is_refused (table state (association_of state session) s)) started.0) ∙ accepted)).0 in
    absurd (true≢false (sym (ap is_free free) ∙ owner_associated state session other law
    (ap (λ s. owns state s other) started.1 ∙ e)))

-- a session owns at most one branch, also with the one that a statement starts: only a free session starts one
one_branch : (state : State) (session who : ℕ) (statement : Statement) → LockLaw state
    → is_refused (table state (association_of state session) statement) ≡ false
    → (xid other : Xid) →
    (owns state who xid ≡ true) ⊎ IsStarted session who statement xid
    → (owns state who other ≡ true) ⊎ IsStarted session who statement other → xid ≡ other
one_branch state session who statement law accepted xid other (inl e) (inl f) = law.one_branch who xid other e f
one_branch state session who statement law accepted xid other (inl e) (inr f) =
    starter_free state session who statement law accepted other xid f e
one_branch state session who statement law accepted xid other (inr e) (inl f) =
    starter_free state session who statement law accepted xid other e f
one_branch state session who statement law accepted xid other (inr e) (inr f) = start_of xid other (sym e.0 ∙ f.0)

-- ---- the law

-- an accepted statement keeps the lock law
carried_out : (state : State) (session : ℕ) (statement : Statement) → LockLaw state
    → is_refused (table state (association_of state session) statement) ≡ false
    → LockLaw (effect state session (association_of state session) statement)
unfolding is_ready owner_in mode_in is_writing is_owned Before
carried_out state session statement law accepted = record {
  one_holder = λ xid other key e f. one_holder state (association_of state session) law xid other key
      (exclusive_before state session (association_of state session) statement accepted xid key
      (sym (ap (λ found. is_exclusive (mode_in key found)) (is xid)) ∙ e))
      (held_before state session (association_of state session) statement accepted other key
      (sym (ap (λ found. is_some (mode_in key found)) (is other)) ∙ f));
  one_branch = λ who xid other e f. one_branch state session who statement law accepted xid other
      (owned_before session who (association_of state session) statement xid (map.get state.branches xid)
      (sym (ap (is_owned who) (is xid)) ∙ e))
      (owned_before session who (association_of state session) statement other (map.get state.branches other)
      (sym (ap (is_owned who) (is other)) ∙ f));
  detached = λ xid. (sound xid).detached;
  attached = λ xid. (sound xid).attached;
  held_writes = λ xid. (sound xid).held;
}
  where
    is : (xid : Xid) → map.get (effect state session (association_of state session) statement).branches xid
        ≡ branch_after session (association_of state session) statement xid (map.get state.branches xid)
    is xid = effect-branch state session (association_of state session) statement xid

    sound : (xid : Xid) → IsSound (map.get (effect state session (association_of state session) statement).branches xid)
    sound xid =
        subst IsSound (sym (is xid))
        (sound_after state session (association_of state session)
        (open_association state session) statement accepted xid (sound_in state law xid))

-- each statement keeps the lock law: a refused one changes nothing
pub law_after : (state : State) (session : ℕ) (statement : Statement) → LockLaw state
    → LockLaw (after state session statement)
law_after state session statement law = elim (outcome state session statement) [
  | inl (refused, same) ↦ subst LockLaw (sym same) law
  | inr (accepted, done) ↦ subst LockLaw (sym done) (carried_out state session statement law accepted)
]

-- each history keeps the lock law
pub law_after_all : (state : State) (history : List (ℕ × Statement)) → LockLaw state → LockLaw (after_all state history)
law_after_all state [] law = law
law_after_all state (entry ∷ entries) law =
    law_after_all (after state entry.0 entry.1) entries (law_after state entry.0 entry.1 law)

-- the empty state has the lock law
pub law_no_state : LockLaw no_state
law_no_state = subst LockLaw seen_empty (lock_law map.empty map.empty whole_empty)
