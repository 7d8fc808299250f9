-- What a session has open after a statement of its own that was carried out.
use Rattle.std.proofs.Common.{◌≡◌, ◌≢◌, ℕ, true, false, refl, ap, sym, ◌∙◌, subst, inl, inr, Option, Some, None, List}
use Rattle.std.{proofs.{Common.{cond, eq-eqb}, lemmas.Bool.eqb-true}, specs.Prelude.{not, ◌&&◌, ◌==◌}}
use Rattle.std.specs.{Option.{option_map, option_map_or, option_and_then}, FinMap.get-remove}
use mathlib.Core.Bool.{true≢false}
use Rattle.xa_xid.specs.{declared.{xid.Xid.Xid, statement.Statement.Statement}, Xid.{same_xid, Text}}
use Rattle.xa_xid.specs.declared.statement.Statement.TheVariants.{Start, End, Get, Put, Del, Disconnect}
use Rattle.xa_xid.proofs.Orders.{xids_total, exact_xids}
use Rattle.xa_server.specs.declared.association.Association.{Association, TheVariants.{Free, Active, Idle}}
use Rattle.xa_server.specs.{State.{Branch, State, owns, phase_at, association_in, association_of}, Locks.LockLaw}
use Rattle.xa_server.specs.{Replies.{reply_to, table}, Step.{started_by, with_lock, with_own_write, is_refused, after}}
use Rattle.xa_server.specs.Step.{effect, enters, may_enter, without_branch, unless_refused}
use Rattle.xa_server.proofs.Maps.{same_or_apart, same_itself}
use Rattle.xa_server.proofs.Others.{IsOwn, own_association, own_found, none_found, accepted_end_own}
use Rattle.xa_server.proofs.{Changes.{idle, branch_after, effect-branch, accepted_done}, Keeping.law_after}
use Rattle.std.specs.FinMap as map

-- the state has a branch of this identifier, and the session owns it
pub record IsOwned (session : ℕ) (state : State) (xid : Xid) : Type 0 where
  pub branch : Branch
  pub found : map.get state.branches xid ≡ Some branch
  pub owner : branch.owner ≡ Some session

-- if `owns` is true of an identifier, the state has a branch of that identifier, and the session is its owner
owned_found : (session : ℕ) (state : State) (xid : Xid) → owns state session xid ≡ true → IsOwned session state xid
owned_found session state xid is = by (map.get state.branches xid) refl
  where
    has_owner : (owner : Option ℕ) → option_map_or (λ o. o == session) owner false ≡ true → owner ≡ Some session
    has_owner None e = absurd (true≢false (sym e))
    has_owner (Some other) e = ap Some (eqb-true other session e)

    by : (found : Option Branch) → map.get state.branches xid ≡ found → IsOwned session state xid
    by None e =
        absurd (true≢false (sym is ∙ ap (λ (f : Option Branch). option_map_or (λ o. o == session)
        (option_and_then (λ (b : Branch). b.owner) f) false) e))
    by (Some branch) e = record {
      branch = branch;
      found = e;
      owner =
          has_owner branch.owner
          (sym (ap (λ (f : Option Branch). option_map_or (λ o. o == session)
          (option_and_then (λ (b : Branch). b.owner) f) false) e)
          ∙ is);
    }

-- in a state that keeps the lock law, a session has open the branch that it owns, in that branch's phase
associated : (state : State) → LockLaw state → (session : ℕ) (xid : Xid) (branch : Branch)
    → map.get state.branches xid ≡ Some branch
    → branch.owner ≡ Some session
    → association_of state session ≡ association_in (Some branch.phase) xid
unfolding association_of
associated state law session xid branch found owner =
    let owned : owns state session xid ≡ true =
    ap (λ (f : Option Branch). option_map_or (λ o. o == session)
    (option_and_then (λ (b : Branch). b.owner) f) false) found
    ∙ ap (λ o. option_map_or (λ n. n == session) o false) owner ∙ eq-eqb session session refl in
    ap (λ own. option_map_or (λ x. association_in (phase_at state x) x) own Free)
    (own_found state session xid owned (λ other also. law.one_branch session xid other owned also))
    ∙ ap (λ (f : Option Branch). association_in (option_map (λ (b : Branch). b.phase) f) xid) found

-- an accepted statement leaves at each identifier the branch that branch_after gives
done : (state : State) (session : ℕ) (statement : Statement) (at : Xid)
    → is_refused (reply_to state session statement) ≡ false →
    map.get (after state session statement).branches at ≡ branch_after session
    (association_of state session) statement at (map.get state.branches at)
done state session statement at accepted =
    ap (λ (s : State). map.get s.branches at) (accepted_done state session statement accepted)
    ∙ effect-branch state session (association_of state session) statement at

-- after an accepted XA START the session has that branch open, and ACTIVE
pub started : (state : State) → LockLaw state → (session : ℕ) (xid : Xid)
    → is_refused (reply_to state session (Start xid)) ≡ false
    → association_of (after state session (Start xid)) session ≡ Active xid
unfolding branch_after
started state law session xid accepted =
    associated (after state session (Start xid)) (law_after state session (Start xid) law) session xid
    (started_by session)
    (done state session (Start xid) xid accepted
    ∙ ap (λ b. cond b (Some (started_by session)) (map.get state.branches xid))
    (same_itself xids_total exact_xids xid)) refl

-- after an accepted XA END the session has that branch open, and IDLE
pub ended : (state : State) → LockLaw state → (session : ℕ) (xid : Xid)
    → is_refused (reply_to state session (End xid)) ≡ false
    → association_of (after state session (End xid)) session ≡ Idle xid
unfolding branch_after idle reply_to
ended state law session xid accepted =
    let own = owned_found session state xid (accepted_end_own state session (association_of state session) xid
    (own_association state session) accepted) in
    associated (after state session (End xid)) (law_after state session (End xid) law) session xid (idle own.branch)
    (done state session (End xid) xid accepted
    ∙ ap (λ b. cond b (option_map idle (map.get state.branches xid)) (map.get state.branches xid))
    (same_itself xids_total exact_xids xid)
    ∙ ap (option_map idle) own.found) own.owner

-- an accepted statement that does nothing to the session's ACTIVE branch but a change that keeps its owner and phase
-- leaves the session that branch, ACTIVE
changed_within : (state : State) → LockLaw state → (session : ℕ) (xid : Xid) (statement : Statement)
    (change : Branch → Branch)
    → association_of state session ≡ Active xid →
    is_refused (reply_to state session statement) ≡ false →
    ((found : Option Branch) → branch_after session (Active xid) statement xid found
    ≡ cond (same_xid xid xid) (option_map change found) found) →
    ((branch : Branch) → (change branch).owner ≡ branch.owner)
    → ((branch : Branch) → (change branch).phase ≡ branch.phase)
    → association_of (after state session statement) session ≡ Active xid
changed_within state law session xid statement change association accepted is owner phase =
    let own = owned_found session state xid (subst (IsOwn state session) association (own_association state session)) in
    let new : map.get (after state session statement).branches xid ≡ Some (change own.branch) =
    done state session statement xid accepted
    ∙ ap (λ there. branch_after session there statement xid (map.get state.branches xid)) association
    ∙ is (map.get state.branches xid)
    ∙ ap (λ b. cond b (option_map change (map.get state.branches xid)) (map.get state.branches xid))
    (same_itself xids_total exact_xids xid)
    ∙ ap (option_map change) own.found in
    associated (after state session statement) (law_after state session statement law) session xid
    (change own.branch) new (owner own.branch ∙ own.owner)
    ∙ ap (λ p. association_in (Some p) xid) (phase own.branch)
    ∙ sym (associated state law session xid own.branch own.found own.owner)
    ∙ association

-- after an accepted GET within an ACTIVE branch the session still has that branch open, and ACTIVE
pub read : (state : State) → LockLaw state → (session : ℕ) (xid : Xid) (key : List ℕ)
    → association_of state session ≡ Active xid
    → is_refused (reply_to state session (Get key)) ≡ false
    → association_of (after state session (Get key)) session ≡ Active xid
unfolding branch_after
read state law session xid key association accepted =
    changed_within state law session xid (Get key) (with_lock key) association accepted (λ found. refl) (λ branch. refl)
    (λ branch. refl)

-- after an accepted PUT within an ACTIVE branch the session still has that branch open, and ACTIVE
pub written : (state : State) → LockLaw state → (session : ℕ) (xid : Xid) (key : List ℕ) (value : Text)
    → association_of state session ≡ Active xid
    → is_refused (reply_to state session (Put key value)) ≡ false
    → association_of (after state session (Put key value)) session ≡ Active xid
unfolding branch_after
written state law session xid key value association accepted =
    changed_within state law session xid (Put key value) (with_own_write key (Some value)) association accepted
    (λ found. refl) (λ branch. refl)
    (λ branch. refl)

-- after an accepted DEL within an ACTIVE branch the session still has that branch open, and ACTIVE
pub deleted : (state : State) → LockLaw state → (session : ℕ) (xid : Xid) (key : List ℕ)
    → association_of state session ≡ Active xid
    → is_refused (reply_to state session (Del key)) ≡ false
    → association_of (after state session (Del key)) session ≡ Active xid
unfolding branch_after
deleted state law session xid key association accepted =
    changed_within state law session xid (Del key) (with_own_write key None) association accepted (λ found. refl)
    (λ branch. refl) (λ branch. refl)

-- ---- DISCONNECT

-- without the branch that it owns, a session owns none
unowned : (state : State) → LockLaw state → (session : ℕ) (own : Xid) → owns state session own ≡ true → (at : Xid)
    → owns (without_branch state own) session at ≢ true
unowned state law session own owned at is =
    let gone : map.get (without_branch state own).branches at
    ≡ cond (same_xid at own) None (map.get state.branches at) =
    get-remove xids_total state.branches own at in
    elim (same_or_apart xids_total exact_xids at own) [
      | inl same ↦ absurd (true≢false
          (sym is ∙ ap (λ (f : Option Branch). option_map_or (λ o. o == session)
          (option_and_then (λ (b : Branch). b.owner) f) false)
          (ap (map.get (without_branch state own).branches) same ∙ get-remove xids_total state.branches own own
          ∙ ap (λ b. cond b None (map.get state.branches own)) (itself own))))
      | inr apart ↦
          let was : owns state session at ≡ true =
          ap (λ (f : Option Branch). option_map_or (λ o. o == session)
          (option_and_then (λ (b : Branch). b.owner) f) false)
          (sym (gone ∙ ap (λ b. cond b None (map.get state.branches at)) apart)) ∙ is in
          absurd (true≢false (sym (itself own) ∙ ap (λ x. same_xid x own) (law.one_branch session own at owned was)
          ∙ apart))
    ]
  where
    itself : (xid : Xid) → same_xid xid xid ≡ true
    itself xid = same_itself xids_total exact_xids xid

-- a session whose branch is gone is free
freed : (state : State) → LockLaw state → (session : ℕ) (own : Xid) → owns state session own ≡ true
    → association_of (without_branch state own) session ≡ Free
unfolding association_of
freed state law session own owned =
    ap (λ found. option_map_or (λ xid. association_in (phase_at (without_branch state own) xid) xid) found Free)
    (none_found (without_branch state own) session (unowned state law session own owned))

-- after DISCONNECT a session has nothing open
pub let_go : (state : State) → LockLaw state → (session : ℕ)
    → association_of (after state session Disconnect) session ≡ Free
unfolding after reply_to table effect
let_go state law session = by (association_of state session) refl (own_association state session)
  where
    by : (association : Association) → association_of state session ≡ association → IsOwn state session association
        → association_of (unless_refused (table state association Disconnect) state
        (effect state session association Disconnect)) session ≡ Free
    by Free is own = is
    by (Active owned) is own = freed state law session owned own
    by (Idle owned) is own = freed state law session owned own

-- a DISCONNECT that doesn't enter the history is that of a session with nothing open
pub outside_free : (state : State) (session : ℕ) → enters state session Disconnect ≡ false
    → association_of state session ≡ Free
unfolding enters may_enter reply_to table
outside_free state session outside = by (association_of state session) refl outside
  where
    by : (association : Association) → association_of state session ≡ association
        → (not (is_refused (table state association Disconnect)) && may_enter state association Disconnect) ≡ false
        → association_of state session ≡ Free
    by Free is e = is
    by (Active owned) is e = absurd (true≢false e)
    by (Idle owned) is e = absurd (true≢false e)
