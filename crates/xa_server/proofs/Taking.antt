-- How a branch holds a row after a statement, by how it held it before.
use Rattle.std.{proofs.Common.{◌≡◌, ℕ, List, refl, ap, sym, ◌∙◌, Bool, true, false, ◌⊎◌, inl, inr}, specs.List.list_any}
use Rattle.std.specs.{Prelude.{Option, Some, None, cond, not, ◌&&◌, is_some}, Option.{option_map, option_and_then}}
use Rattle.std.specs.{Ordering.eq_by_cmp, FinMap.{contains_key-keys, get-empty}}
use mathlib.Core.Bool.{true≢false}
use Rattle.xa_xid.specs.declared.{xid.Xid.Xid, statement.Statement.{Statement, TheVariants.{Start, End, Prepare}}}
use Rattle.xa_xid.specs.declared.statement.Statement.TheVariants.{Commit, Rollback, Recover, Unsupported, Get, Put, Del}
use Rattle.xa_xid.specs.{declared.statement.Statement.TheVariants.Disconnect, Xid.{bytes_cmp, same_xid}}
use Rattle.xa_xid.proofs.Orders.{xids_total, exact_xids, bytes_total, exact_texts}
use Rattle.xa_server.specs.declared.association.Association.{Association, TheVariants.{Free, Active, Idle}}
use Rattle.xa_server.specs.{State.{Write, LockMode, Shared, Exclusive, RowLocks, Branch, State}, Locks.LockLaw}
use Rattle.xa_server.specs.Locks.{lock_at, holds, is_exclusive, holds_exclusively, is_another, is_held_against}
use Rattle.xa_server.specs.{Locks.is_locked_against, Replies.table}
use Rattle.xa_server.specs.Step.{started_by, with_share, with_lock, with_own_write, is_refused}
use Rattle.xa_server.proofs.Maps.{same_or_apart, get_inserted, get_inserted_apart}
use Rattle.xa_server.proofs.{Holders.{any_some, exclusive_some, one_xid}, Changes.{idle, detached, branch_after}}
use Rattle.xa_server.proofs.Accepted.{accepted_get, accepted_put, accepted_del}
use Rattle.std.specs.FinMap as map

-- how the branch holds the row, if there is a branch and it holds it
unfoldable pub mode_in : List ℕ → Option Branch → Option LockMode
mode_in key found = option_and_then (λ (b : Branch). map.get b.locks key) found

-- ---- how a row is held once another is

-- how a branch holds a row after it read it: as before, or shared if it didn't hold it
shared_or : Option LockMode → LockMode
shared_or None = Shared
shared_or (Some mode) = mode

-- after a row is read, it is held as before, or in share if it wasn't held
share_here : (locks : RowLocks) (key : List ℕ) → map.get (with_share key locks) key
    ≡ Some (shared_or (map.get locks key))
unfolding shared_or
share_here locks key = by (map.get locks key) refl
  where
    by : (found : Option LockMode) → map.get locks key ≡ found
        → map.get (cond (is_some found) locks (map.insert locks key Shared)) key ≡ Some (shared_or found)
    by None is = get_inserted bytes_total exact_texts locks key Shared
    by (Some mode) is = is

-- a shared lock more leaves the locks of other rows
share_beside : (locks : RowLocks) (key other : List ℕ) → eq_by_cmp bytes_cmp other key ≡ false
    → map.get (with_share key locks) other ≡ map.get locks other
share_beside locks key other apart = by (map.contains_key locks key)
  where
    by : (b : Bool) → map.get (cond b locks (map.insert locks key Shared)) other ≡ map.get locks other
    by true = refl
    by false = get_inserted_apart bytes_total exact_texts locks key Shared other apart

-- sharing a row makes no row exclusive and leaves those that are
pub share_exclusive : (locks : RowLocks) (key other : List ℕ)
    → is_exclusive (map.get (with_share key locks) other) ≡ is_exclusive (map.get locks other)
unfolding shared_or
share_exclusive locks key other = elim (same_or_apart bytes_total exact_texts other key) [
  | inl is ↦ rw is (ap is_exclusive (share_here locks key) ∙ by (map.get locks key))
  | inr apart ↦ ap is_exclusive (share_beside locks key other apart)
]
  where
    by : (found : Option LockMode) → is_exclusive (Some (shared_or found)) ≡ is_exclusive found
    by None = refl
    by (Some mode) = refl

-- ---- one branch for a row that is held exclusively

-- the branch may come to hold the row: it is the session's ACTIVE one, and no other holds the row exclusively
abbrev pub IsTaking : State → Association → Xid → List ℕ → Type 0
IsTaking state association at key =
    (association ≡ Active at) × ((other : Xid) → holds_exclusively state other key ≡ true → other ≡ at)

-- the branch may come to hold the row exclusively: it is the session's ACTIVE one, and no other holds the row
abbrev pub IsLocking : State → Association → Xid → List ℕ → Type 0
IsLocking state association at key =
    (association ≡ Active at) × ((other : Xid) → holds state other key ≡ true → other ≡ at)

-- if the new branch holds the row in a way that passes the test, the old one did, or `taking` holds
unfoldable pub Before : (Option LockMode → Bool) → Type 0 → List ℕ → Option Branch → Option Branch → Type 0
Before passes taking key new found = passes (mode_in key new) ≡ true → (passes (mode_in key found) ≡ true) ⊎ taking

-- a branch that isn't there holds nothing, so nothing is to be shown of before
before_none : (passes : Option LockMode → Bool) (taking : Type 0) → passes None ≡ false
    → (key : List ℕ) (found : Option Branch)
    → Before passes taking key None found
unfolding Before mode_in
before_none passes taking nothing key found e = absurd (true≢false (sym e ∙ nothing))

-- a branch that was just started holds nothing, so nothing is to be shown of before
before_started : (passes : Option LockMode → Bool) (taking : Type 0) → passes None ≡ false
    → (key : List ℕ) (session : ℕ) (found : Option Branch)
    → Before passes taking key (Some (started_by session)) found
unfolding Before mode_in
before_started passes taking nothing key session found e =
    absurd (true≢false (sym e ∙ ap passes (get-empty bytes_cmp key) ∙ nothing))

-- a change that leaves a branch's locks leaves how it holds each row
before_same : (passes : Option LockMode → Bool) (taking : Type 0) (key : List ℕ) (change : Branch → Branch)
    → ((branch : Branch) → (change branch).locks ≡ branch.locks) → (found : Option Branch)
    → Before passes taking key (option_map change found) found
unfolding Before mode_in
before_same passes taking key change same None e = inl e
before_same passes taking key change same (Some branch) e =
    inl (sym (ap (λ locks. passes (map.get locks key)) (same branch)) ∙ e)

-- a statement that changes nothing of a branch leaves what it holds
before_still : (passes : Option LockMode → Bool) (taking : Type 0) (key : List ℕ) (found : Option Branch)
    → Before passes taking key found found
unfolding Before
before_still passes taking key found e = inl e

-- if a new branch takes only what it may (`Before`), so does what a test chooses of the new one and the old
before_if : (passes : Option LockMode → Bool) (taking : Type 0) (key : List ℕ) (b : Bool) (new found : Option Branch)
    → (b ≡ true → Before passes taking key new found) → Before passes taking key (cond b new found) found
unfolding Before
before_if passes taking key true new found from e = from refl e
before_if passes taking key false new found from e = inl e

-- a row that a branch holds after a GET it held before, or the GET took it
read_held : (taking : Type 0) (key other : List ℕ) (found : Option Branch) → (other ≡ key → taking)
    → Before is_some taking other (option_map (with_lock key) found) found
unfolding Before mode_in
read_held taking key other None take e = inl e
read_held taking key other (Some branch) take e = elim (same_or_apart bytes_total exact_texts other key) [
  | inl is ↦ inr (take is)
  | inr apart ↦ inl (sym (ap is_some (share_beside branch.locks key other apart)) ∙ e)
]

-- a GET takes nothing exclusively: what is exclusive after it was so before
read_exclusive : (taking : Type 0) (key other : List ℕ) (found : Option Branch)
    → Before is_exclusive taking other (option_map (with_lock key) found) found
unfolding Before mode_in
read_exclusive taking key other None e = inl e
read_exclusive taking key other (Some branch) e = inl (sym (share_exclusive branch.locks key other) ∙ e)

-- a row that a branch holds after a PUT or DEL it held before, or the statement took it
written_held : (passes : Option LockMode → Bool) (taking : Type 0) (key other : List ℕ) (write : Write)
    (found : Option Branch) → (other ≡ key → taking)
    → Before passes taking other (option_map (with_own_write key write) found) found
unfolding Before mode_in
written_held passes taking key other write None take e = inl e
written_held passes taking key other write (Some branch) take e =
    elim (same_or_apart bytes_total exact_texts other key) [
      | inl is ↦ inr (take is)
      | inr apart ↦ inl
          (sym (ap passes (get_inserted_apart bytes_total exact_texts branch.locks key Exclusive other apart))
          ∙ e)
    ]

-- ---- who holds a row against a session

-- a branch that holds a row is there
known_holder : (passes : Option LockMode → Bool) → passes None ≡ false → (key : List ℕ) (found : Option Branch)
    → passes (mode_in key found) ≡ true
    → is_some found ≡ true
unfolding mode_in
known_holder passes nothing key None e = absurd (true≢false (sym e ∙ nothing))
known_holder passes nothing key (Some branch) e = refl

-- if no other branch holds a row in a way that passes, who does is the session's own branch
against : (passes : Option LockMode → Bool) → passes None ≡ false → (state : State) (own : Xid) (key : List ℕ) →
    list_any (λ other. is_another (Active own) other && passes (lock_at state other key)) (map.keys state.branches)
    ≡ false → (xid : Xid)
    → passes (lock_at state xid key) ≡ true → xid ≡ own
unfolding mode_in
against passes nothing state own key none xid e = elim (same_or_apart xids_total exact_xids xid own) [
  | inl is ↦ is
  | inr apart ↦ absurd
      (true≢false (sym (any_some (λ other. is_another (Active own) other && passes (lock_at state other key))
      (map.keys state.branches) xid
      (sym (contains_key-keys state.branches xid) ∙ known_holder passes nothing key (map.get state.branches xid) e)
      (ap (λ b. not b && passes (lock_at state xid key)) apart ∙ e)) ∙ none))
]

-- if a row isn't locked against a session, only its own branch can hold it exclusively
unlocked : (state : State) (own : Xid) (key : List ℕ) → is_locked_against state (Active own) key ≡ false → (xid : Xid)
    → holds_exclusively state xid key ≡ true
    → xid ≡ own
unfolding is_locked_against
unlocked state own key none = against is_exclusive refl state own key none

-- if a row isn't held against a session, only its own branch can hold it
unheld : (state : State) (own : Xid) (key : List ℕ) → is_held_against state (Active own) key ≡ false → (xid : Xid)
    → holds state xid key ≡ true → xid ≡ own
unfolding is_held_against
unheld state own key none = against is_some refl state own key none

-- ---- the session's own branch takes a row

-- if a row isn't locked against a session with an ACTIVE branch, that branch may come to hold it
takes : (state : State) (own at : Xid) (key other : List ℕ) → is_locked_against state (Active own) key ≡ false
    → same_xid at own ≡ true → other ≡ key
    → IsTaking state (Active own) at other
takes state own at key other none same is =
    let here : at ≡ own = one_xid at own same in (
      ap Active (sym here),
      λ xid e. unlocked state own key none xid (ap (holds_exclusively state xid) (sym is) ∙ e)
          ∙ sym here,
    )

-- if a row isn't held against a session with an ACTIVE branch, that branch may come to hold it exclusively
locks : (state : State) (own at : Xid) (key other : List ℕ) → is_held_against state (Active own) key ≡ false
    → same_xid at own ≡ true → other ≡ key
    → IsLocking state (Active own) at other
locks state own at key other none same is =
    let here : at ≡ own = one_xid at own same in
    (ap Active (sym here), λ xid e. unheld state own key none xid (ap (holds state xid) (sym is) ∙ e) ∙ sym here)

-- a branch that may come to hold a row exclusively may come to hold it
locking_takes : (state : State) (association : Association) (at : Xid) (key : List ℕ)
    → IsLocking state association at key → IsTaking state association at key
locking_takes state association at key locking =
    (locking.0, λ xid e. locking.1 xid (exclusive_some (lock_at state xid key) e))

-- a row that a branch holds after an accepted statement it held before, or the statement took it
pub held_before : (state : State) (session : ℕ) (association : Association) (statement : Statement)
    → is_refused (table state association statement) ≡ false
    → (at : Xid) (key : List ℕ) →
    Before is_some (IsTaking state association at key) key
    (branch_after session association statement at (map.get state.branches at))
    (map.get state.branches at)
unfolding branch_after idle detached
held_before state session association (Start xid) accepted at key =
    before_if is_some _ key (same_xid at xid) _ (map.get state.branches at)
    (λ same. before_started is_some _ refl key session (map.get state.branches at))
held_before state session association (End xid) accepted at key =
    before_if is_some _ key (same_xid at xid) _ (map.get state.branches at)
    (λ same. before_same is_some _ key idle (λ b. refl) (map.get state.branches at))
held_before state session association (Prepare xid) accepted at key =
    before_if is_some _ key (same_xid at xid) _ (map.get state.branches at)
    (λ same. before_same is_some _ key detached (λ b. refl) (map.get state.branches at))
held_before state session association (Commit xid one_phase) accepted at key =
    before_if is_some _ key (same_xid at xid) _ (map.get state.branches at)
    (λ same. before_none is_some _ refl key (map.get state.branches at))
held_before state session association (Rollback xid) accepted at key =
    before_if is_some _ key (same_xid at xid) _ (map.get state.branches at)
    (λ same. before_none is_some _ refl key (map.get state.branches at))
held_before state session association (Recover convert) accepted at key =
    before_still is_some _ key (map.get state.branches at)
held_before state session association Unsupported accepted at key =
    before_still is_some _ key (map.get state.branches at)
held_before state session Free (Get row) accepted at key = before_still is_some _ key (map.get state.branches at)
held_before state session (Active own) (Get row) accepted at key =
    before_if is_some _ key (same_xid at own) _ (map.get state.branches at)
    (λ same. read_held _ row key (map.get state.branches at)
    (takes state own at row key (accepted_get state own row accepted) same))
held_before state session (Idle own) (Get row) accepted at key = before_still is_some _ key (map.get state.branches at)
held_before state session Free (Put row value) accepted at key = before_still is_some _ key (map.get state.branches at)
held_before state session (Active own) (Put row value) accepted at key =
    before_if is_some _ key (same_xid at own) _ (map.get state.branches at)
    (λ same. written_held is_some _ row key (Some value) (map.get state.branches at)
    (λ is. locking_takes state (Active own) at key (locks state own at row key
    (accepted_put state own row value accepted) same is)))
held_before state session (Idle own) (Put row value) accepted at key =
    before_still is_some _ key (map.get state.branches at)
held_before state session Free (Del row) accepted at key = before_still is_some _ key (map.get state.branches at)
held_before state session (Active own) (Del row) accepted at key =
    before_if is_some _ key (same_xid at own) _ (map.get state.branches at)
    (λ same. written_held is_some _ row key None (map.get state.branches at)
    (λ is. locking_takes state (Active own) at key (locks state own at row key
    (accepted_del state own row accepted) same is)))
held_before state session (Idle own) (Del row) accepted at key = before_still is_some _ key (map.get state.branches at)
held_before state session Free Disconnect accepted at key = before_still is_some _ key (map.get state.branches at)
held_before state session (Active own) Disconnect accepted at key =
    before_if is_some _ key (same_xid at own) _ (map.get state.branches at)
    (λ same. before_none is_some _ refl key (map.get state.branches at))
held_before state session (Idle own) Disconnect accepted at key =
    before_if is_some _ key (same_xid at own) _ (map.get state.branches at)
    (λ same. before_none is_some _ refl key (map.get state.branches at))

-- a row that a branch holds exclusively after an accepted statement it held so before, or the statement took it so
pub exclusive_before : (state : State) (session : ℕ) (association : Association) (statement : Statement)
    → is_refused (table state association statement) ≡ false
    → (at : Xid) (key : List ℕ) →
    Before is_exclusive (IsLocking state association at key) key
    (branch_after session association statement at (map.get state.branches at))
    (map.get state.branches at)
unfolding branch_after idle detached
exclusive_before state session association (Start xid) accepted at key =
    before_if is_exclusive _ key (same_xid at xid) _ (map.get state.branches at)
    (λ same. before_started is_exclusive _ refl key session (map.get state.branches at))
exclusive_before state session association (End xid) accepted at key =
    before_if is_exclusive _ key (same_xid at xid) _ (map.get state.branches at)
    (λ same. before_same is_exclusive _ key idle (λ b. refl) (map.get state.branches at))
exclusive_before state session association (Prepare xid) accepted at key =
    before_if is_exclusive _ key (same_xid at xid) _ (map.get state.branches at)
    (λ same. before_same is_exclusive _ key detached (λ b. refl) (map.get state.branches at))
exclusive_before state session association (Commit xid one_phase) accepted at key =
    before_if is_exclusive _ key (same_xid at xid) _ (map.get state.branches at)
    (λ same. before_none is_exclusive _ refl key (map.get state.branches at))
exclusive_before state session association (Rollback xid) accepted at key =
    before_if is_exclusive _ key (same_xid at xid) _ (map.get state.branches at)
    (λ same. before_none is_exclusive _ refl key (map.get state.branches at))
exclusive_before state session association (Recover convert) accepted at key =
    before_still is_exclusive _ key (map.get state.branches at)
exclusive_before state session association Unsupported accepted at key =
    before_still is_exclusive _ key (map.get state.branches at)
exclusive_before state session Free (Get row) accepted at key =
    before_still is_exclusive _ key (map.get state.branches at)
exclusive_before state session (Active own) (Get row) accepted at key =
    before_if is_exclusive _ key (same_xid at own) _ (map.get state.branches at)
    (λ same. read_exclusive _ row key (map.get state.branches at))
exclusive_before state session (Idle own) (Get row) accepted at key =
    before_still is_exclusive _ key (map.get state.branches at)
exclusive_before state session Free (Put row value) accepted at key =
    before_still is_exclusive _ key (map.get state.branches at)
exclusive_before state session (Active own) (Put row value) accepted at key =
    before_if is_exclusive _ key (same_xid at own) _ (map.get state.branches at)
    (λ same. written_held is_exclusive _ row key (Some value) (map.get state.branches at)
    (locks state own at row key (accepted_put state own row value accepted) same))
exclusive_before state session (Idle own) (Put row value) accepted at key =
    before_still is_exclusive _ key (map.get state.branches at)
exclusive_before state session Free (Del row) accepted at key =
    before_still is_exclusive _ key (map.get state.branches at)
exclusive_before state session (Active own) (Del row) accepted at key =
    before_if is_exclusive _ key (same_xid at own) _ (map.get state.branches at)
    (λ same. written_held is_exclusive _ row key None (map.get state.branches at)
    (locks state own at row key (accepted_del state own row accepted) same))
exclusive_before state session (Idle own) (Del row) accepted at key =
    before_still is_exclusive _ key (map.get state.branches at)
exclusive_before state session Free Disconnect accepted at key =
    before_still is_exclusive _ key (map.get state.branches at)
exclusive_before state session (Active own) Disconnect accepted at key =
    before_if is_exclusive _ key (same_xid at own) _ (map.get state.branches at)
    (λ same. before_none is_exclusive _ refl key (map.get state.branches at))
exclusive_before state session (Idle own) Disconnect accepted at key =
    before_if is_exclusive _ key (same_xid at own) _ (map.get state.branches at)
    (λ same. before_none is_exclusive _ refl key (map.get state.branches at))

-- equal associations have equal identifiers
active_of : (xid other : Xid) → Active xid ≡ Active other → xid ≡ other
active_of xid other e = cc

-- who holds a row exclusively, before or by a statement, alone holds it: so the lock law goes on
pub one_holder : (state : State) (association : Association) → LockLaw state → (xid other : Xid) (key : List ℕ)
    → (holds_exclusively state xid key ≡ true) ⊎ IsLocking state association xid key
    → (holds state other key ≡ true) ⊎ IsTaking state association other key
    → xid ≡ other
one_holder state association law xid other key (inl e) (inl f) = law.one_holder xid other key e f
one_holder state association law xid other key (inl e) (inr f) = f.1 xid e
one_holder state association law xid other key (inr e) (inl f) = sym (e.1 other f)
one_holder state association law xid other key (inr e) (inr f) = active_of xid other (sym e.0 ∙ f.0)
