-- Statements of two sessions that have nothing to do with each other come to the same in either order.
--     held_alike, locked_alike     whether a row is held against a session, in two states;  exclusively
--     IsAsked, reply_same          a statement has the same reply in both states
--     bars_after, unlisted_after   what a statement leaves of a row's locks;  of the list of PREPARED branches
--     listed_same                  the lists of PREPARED branches are the same
--     written, effect-row          what a statement's effect leaves of a row's committed value
--     Changes, keeps_or_changes    a statement gives a row a value;  or it leaves each value
--     one_leaves                   of two statements that are apart, one leaves the branch as it is
--     Commutes, apart_commute      two statements come to the same in either order;  those that are apart do
--     apart_same, still_apart      what is apart, is so in another configuration;  after an act
--     exchanged_apart              acts of two sessions change places
use Rattle.std.proofs.Common.{◌≡◌, ◌≢◌, ◌⊎◌, ℕ, Bool, true, false, cond, not, ◌&&◌, ◌||◌, [], ◌∷◌, Option, Some, None}
use Rattle.std.proofs.{Common.{List, set, refl, ap, sym, ◌∙◌, subst, inl, inr}, lemmas.Bool.false≢true}
use Rattle.std.{proofs.lemmas.Option.{none-some, same_Some}, specs.Prelude.{is_some, slice_get, ◌==◌}}
use Rattle.std.specs.List.{list_any, AllByRecursion, Sorted.IsStrictlySortedBy}
use Rattle.std.specs.Option.{option_map, option_and_then, option_map_or, unwrap_or}
use Rattle.std.specs.FinMap.{contains_key-keys, get-insert, get-remove, get-entries, get-empty, same_map}
use Rattle.std.specs.{Ordering.{eq_by_cmp, ordering_reverse}, declared.cmp.Ordering.TheVariants.{Less, Greater}}
use Rattle.xa_xid.specs.declared.{xid.Xid.Xid, statement.Statement.{Statement, TheVariants.{Start, End, Prepare}}}
use Rattle.xa_xid.specs.declared.statement.Statement.TheVariants.{Commit, Rollback, Recover, Unsupported, Get, Put, Del}
use Rattle.xa_xid.specs.{declared.statement.Statement.TheVariants.Disconnect, Xid.{Text, same_xid, xid_cmp, bytes_cmp}}
use Rattle.xa_xid.proofs.Orders.{xids_total, exact_xids, bytes_total, exact_texts}
use Rattle.xa_server.specs.declared.association.Association.{Association, TheVariants.{Free, Active, Idle}}
use Rattle.xa_server.specs.declared.{reply.Reply.Reply, xa_error.XaError.TheVariants.{Nota, Rmfail, Dupid, RowLocked}}
use Rattle.xa_server.specs.declared.{xa_error.BranchState.TheVariants.Prepared as StatePrepared, branch.Phase.Phase}
use Rattle.xa_server.specs.State.{Write, LockMode, Shared, Exclusive, Branch, State, association_of, owns, owner_at}
use Rattle.xa_server.specs.State.{is_known, phase_at, is_prepared, is_prepared_phase, prepared_xids, committed_value}
use Rattle.xa_server.specs.{State.{value_within, write_at, IsOpen}, Replies.{table, reply_to, ok_if, refused_if}}
use Rattle.xa_server.specs.Locks.{LockLaw, lock_at, holds, is_another, holds_exclusively, is_exclusive, is_held_against}
use Rattle.xa_server.specs.{Locks.is_locked_against, Step.{after, effect, is_refused, with_branch, with_changed}}
use Rattle.xa_server.specs.Step.{without_branch, with_writes, committed, started_by, with_lock, with_own_write}
use Rattle.xa_server.{specs.Laws.LeavesSession, proofs.Maps.{same_or_apart, same_itself, get_inserted_apart}}
use Rattle.xa_server.proofs.Ending.{get-with_writes}
use Rattle.xa_server.proofs.Holders.{any_witness, any_some, same_truth, both, itself, none_of, exclusive_some}
use Rattle.xa_server.proofs.Changes.{idle, detached, branch_after, effect-branch, outcome, refused_leaves}
use Rattle.xa_server.proofs.{Changes.accepted_done, Steps.same_state, Listing.{prepared_ascend, prepared_exactly}}
use Rattle.xa_server.proofs.Accepted.{open_association, accepted_start, accepted_end, own_is}
use Rattle.xa_server.proofs.Keeping.{is_free, owner_associated}
use Rattle.xa_server.proofs.{Others.{is_owned, IsOwn, own_association, owned_before, others_left}, Seen.owned_is}
use Rattle.xa_judge.specs.declared.request.Request.{Request, TheVariants.{Statement as Given, Unread}}
use Rattle.xa_judge.specs.declared.{answer.Answer.Answer, client_state.ClientState.ClientState, moves.Act.Act}
use Rattle.xa_judge.specs.{Explained.{Config, effect_of, answer_to, next_state}, Apart.{named_by, key_of, Avoids}}
use Rattle.xa_judge.specs.Apart.{IsBeside, EndsIn, IsUnlisted, is_get, exclusively, barring, Spares, AreApart}
use Rattle.xa_judge.{specs.Apart.{open_statement, is_gone, Opens, HasOpen, IsApartAt}, proofs.Acts.{ActsAs, acts_as}}
use Rattle.xa_judge.proofs.Places.{same_number, get_written, get_apart, set_apart}
use Rattle.std.specs.FinMap as map

-- where a test fails, what was there stays
kept_if : {A : Type 0} (b : Bool) (new old : A) → b ≡ false → cond b new old ≡ old
kept_if true new old e = absurd (false≢true (sym e))
kept_if false new old e = refl

-- the effect of a statement leaves a branch that it doesn't name and that its session hasn't open
branch_kept : (session : ℕ) (association : Association) (statement : Statement) (xid : Xid) (found : Option Branch)
    → Avoids statement xid → IsBeside association xid → branch_after session association statement xid found ≡ found
unfolding branch_after
branch_kept session association (Start other) xid found avoids beside = kept_if _ _ found avoids
branch_kept session association (End other) xid found avoids beside = kept_if _ _ found avoids
branch_kept session association (Prepare other) xid found avoids beside = kept_if _ _ found avoids
branch_kept session association (Commit other one_phase) xid found avoids beside = kept_if _ _ found avoids
branch_kept session association (Rollback other) xid found avoids beside = kept_if _ _ found avoids
branch_kept session association (Recover convert) xid found avoids beside = refl
branch_kept session association Unsupported xid found avoids beside = refl
branch_kept session Free (Get key) xid found avoids beside = refl
branch_kept session (Active own) (Get key) xid found avoids beside = kept_if _ _ found beside
branch_kept session (Idle own) (Get key) xid found avoids beside = refl
branch_kept session Free (Put key value) xid found avoids beside = refl
branch_kept session (Active own) (Put key value) xid found avoids beside = kept_if _ _ found beside
branch_kept session (Idle own) (Put key value) xid found avoids beside = refl
branch_kept session Free (Del key) xid found avoids beside = refl
branch_kept session (Active own) (Del key) xid found avoids beside = kept_if _ _ found beside
branch_kept session (Idle own) (Del key) xid found avoids beside = refl
branch_kept session Free Disconnect xid found avoids beside = refl
branch_kept session (Active own) Disconnect xid found avoids beside = kept_if _ _ found beside
branch_kept session (Idle own) Disconnect xid found avoids beside = kept_if _ _ found beside

-- a branch that a statement doesn't name, and that its session hasn't open, is as it was after the statement
untouched : (state : State) (session : ℕ) (statement : Statement) (xid : Xid) → Avoids statement xid
    → IsBeside (association_of state session) xid
    → map.get (after state session statement).branches xid ≡ map.get state.branches xid
untouched state session statement xid avoids beside = elim (outcome state session statement) [
  | inl refused ↦ ap (λ (s : State). map.get s.branches xid) refused.1
  | inr done ↦ ap (λ (s : State). map.get s.branches xid) done.1
      ∙ effect-branch state session (association_of state session) statement xid
      ∙ branch_kept session (association_of state session) statement xid (map.get state.branches xid) avoids beside
]

-- a session hasn't the branch open that it doesn't own
beside_unowned : (state : State) (session : ℕ) (xid : Xid) → owns state session xid ≡ false
    → IsBeside (association_of state session) xid
beside_unowned state session xid none = by (association_of state session) refl
  where
    apart : (own : Xid) → owns state session own ≡ true → same_xid xid own ≡ false
    apart own owned = elim (same_or_apart xids_total exact_xids xid own) [
      | inl is ↦ absurd (false≢true (sym none ∙ ap (owns state session) is ∙ owned))
      | inr beside ↦ beside
    ]

    by : (a : Association) → association_of state session ≡ a → IsBeside a xid
    by Free is = tt
    by (Active own) is = apart own (subst (λ a. IsOwn state session a) is (own_association state session))
    by (Idle own) is = apart own (subst (λ a. IsOwn state session a) is (own_association state session))

-- what may be put in at an identifier, and what was there: of what is there then is so what is so of both
picked : (P : Option Branch → Type 0) (at xid : Xid) (new found : Option Branch) → (at ≡ xid → P new) → P found
    → P (cond (same_xid at xid) new found)
picked P at xid new found one two = elim (same_or_apart xids_total exact_xids at xid) [
  | inl is ↦ subst (λ b. P (cond b new found)) (sym (ap (same_xid at) (sym is) ∙ itself at)) (one is)
  | inr apart ↦ subst (λ b. P (cond b new found)) (sym apart) two
]

-- a change of the branch at an identifier leaves what it leaves of each branch
changed : {A : Type 0} (f : Option Branch → A) (at xid : Xid) (change : Branch → Branch) (found : Option Branch)
    → ((branch : Branch) → f (Some (change branch)) ≡ f (Some branch))
    → f (cond (same_xid at xid) (option_map change found) found) ≡ f found
changed f at xid change found keeps =
    picked (λ o. f o ≡ f found) at xid (option_map change found) found (λ is. by found) refl
  where
    by : (o : Option Branch) → f (option_map change o) ≡ f o
    by None = refl
    by (Some branch) = keeps branch

-- ---- who holds a row

-- a branch that holds a row is among the state's branches
holds_known : (state : State) (xid : Xid) (key : List ℕ) → holds state xid key ≡ true
    → list_any (same_xid xid) (map.keys state.branches) ≡ true
holds_known state xid key e = sym (contains_key-keys state.branches xid) ∙ by (map.get state.branches xid) e
  where
    by : (found : Option Branch) → is_some (option_and_then (λ (b : Branch). map.get b.locks key) found) ≡ true
        → is_some found ≡ true
    by None e = absurd (false≢true e)
    by (Some branch) e = refl

-- if `p` is true of an old branch, `q`, which is the same test, is true of a new one: only what holds the row in the
-- new state passes, and that is among its branches
any_alike : (old new : State) (key : List ℕ) (p q : Xid → Bool) → ((xid : Xid) → p xid ≡ q xid)
    → ((xid : Xid) → p xid ≡ true → holds new xid key ≡ true)
    → list_any p (map.keys old.branches) ≡ true → list_any q (map.keys new.branches) ≡ true
any_alike old new key p q alike held e =
    let w = any_witness p (map.keys old.branches) e in
    any_some q (map.keys new.branches) w.0 (holds_known new w.0 key (held w.0 w.2)) (sym (alike w.0) ∙ w.2)

-- if the branches hold the row alike in both states, one that isn't the session's own holds it in both or in neither
held_alike : (old new : State) (association : Association) (key : List ℕ)
    → ((xid : Xid) → lock_at new xid key ≡ lock_at old xid key)
    → is_held_against new association key ≡ is_held_against old association key
unfolding is_held_against
held_alike old new association key alike =
    same_truth _ _
    (any_alike new old key _ _ (λ xid. ap (λ o. is_another association xid && is_some o) (alike xid))
    (λ xid e. sym (ap is_some (alike xid)) ∙ (both _ _ e).1))
    (any_alike old new key _ _ (λ xid. ap (λ o. is_another association xid && is_some o) (sym (alike xid)))
    (λ xid e. ap is_some (alike xid) ∙ (both _ _ e).1))

-- if each branch holds the row exclusively in both states or in neither, so does one that isn't the session's own
locked_alike : (old new : State) (association : Association) (key : List ℕ)
    → ((xid : Xid) → holds_exclusively new xid key ≡ holds_exclusively old xid key)
    → is_locked_against new association key ≡ is_locked_against old association key
unfolding is_locked_against
locked_alike old new association key alike =
    same_truth _ _
    (any_alike new old key _ _ (λ xid. ap (λ b. is_another association xid && b) (alike xid))
    (λ xid e. exclusive_some _ (sym (alike xid) ∙ (both _ _ e).1)))
    (any_alike old new key _ _ (λ xid. ap (λ b. is_another association xid && b) (sym (alike xid)))
    (λ xid e. exclusive_some _ (alike xid ∙ (both _ _ e).1)))

-- a row is held exclusively or not by how it is, as far as that bars GET
exclusive_barring : (o : Option LockMode) → is_exclusive (exclusively o) ≡ is_exclusive o
exclusive_barring None = refl
exclusive_barring (Some Shared) = refl
exclusive_barring (Some Exclusive) = refl

-- what doesn't hold a row bars no statement
pub none_bars : (statement : Statement) → barring statement None ≡ None
none_bars statement = by (is_get statement)
  where
    by : (b : Bool) → cond b (exclusively None) None ≡ None
    by true = refl
    by false = refl

-- a row that bars no statement isn't held exclusively
unexclusive : (statement : Statement) (o : Option LockMode) → barring statement o ≡ None → is_exclusive o ≡ false
unexclusive statement o none = by (is_get statement) o none
  where
    by : (b : Bool) (o : Option LockMode) → cond b (exclusively o) o ≡ None → is_exclusive o ≡ false
    by b None e = refl
    by b (Some Shared) e = refl
    by true (Some Exclusive) e = absurd (none-some Exclusive (sym e))
    by false (Some Exclusive) e = absurd (none-some Exclusive (sym e))

-- where two rows are held exclusively alike, they bar GET alike
get_bars : (statement : Statement) (x y : Option LockMode) → is_get statement ≡ true → exclusively x ≡ exclusively y
    → barring statement x ≡ barring statement y
get_bars statement x y is e =
    ap (λ b. cond b (exclusively x) x) is ∙ e ∙ sym (ap (λ b. cond b (exclusively y) y) is)

-- ---- replies

-- the branches hold the row alike in both states, as far as that bars the statement
abbrev BarsAlike : State → State → Statement → List ℕ → Type 0
BarsAlike old new statement key =
    (xid : Xid) → barring statement (lock_at new xid key) ≡ barring statement (lock_at old xid key)

-- what the reply to the session's statement depends on is the same in both states
record IsAsked (old new : State) (session : ℕ) (statement : Statement) : Type 0 where
  pub association : association_of new session ≡ association_of old session
  pub named : (xid : Xid) → named_by statement ≡ Some xid → map.get new.branches xid ≡ map.get old.branches xid
  pub own : (xid : Xid) → association_of old session ≡ Active xid → map.get new.branches xid ≡ map.get old.branches xid
  pub listed : (convert : Bool) → statement ≡ Recover convert → prepared_xids new ≡ prepared_xids old
  pub value : (key : List ℕ) → statement ≡ Get key → committed_value new key ≡ committed_value old key
  pub held : (key : List ℕ) → key_of statement ≡ Some key → BarsAlike old new statement key

-- a branch that is the same in both states is known in both or in neither
known_same : (old new : State) (xid : Xid) → map.get new.branches xid ≡ map.get old.branches xid
    → is_known new xid ≡ is_known old xid
known_same old new xid same = ap is_some same

-- a branch that is the same in both states is PREPARED in both or in neither
prepared_same : (old new : State) (xid : Xid) → map.get new.branches xid ≡ map.get old.branches xid
    → is_prepared new xid ≡ is_prepared old xid
prepared_same old new xid same =
    ap (λ (found : Option Branch). option_map_or is_prepared_phase (option_map (λ (b : Branch). b.phase) found) false)
    same

-- if what the reply depends on is the same in both states, so is the reply that the table has
table_same : (old new : State) (session : ℕ) (statement : Statement) → IsAsked old new session statement
    → (a : Association) → association_of old session ≡ a → table new a statement ≡ table old a statement
unfolding table
table_same old new session (Start xid) asked Free is =
    ap (λ b. refused_if b Dupid Reply.Ok) (known_same old new xid (asked.named xid refl))
table_same old new session (Start xid) asked (Active own) is = refl
table_same old new session (Start xid) asked (Idle own) is = refl
table_same old new session (End xid) asked Free is = refl
table_same old new session (End xid) asked (Active own) is = refl
table_same old new session (End xid) asked (Idle own) is = refl
table_same old new session (Prepare xid) asked Free is = refl
table_same old new session (Prepare xid) asked (Active own) is = refl
table_same old new session (Prepare xid) asked (Idle own) is = refl
table_same old new session (Commit xid false) asked Free is =
    ap (λ b. ok_if b Nota) (prepared_same old new xid (asked.named xid refl))
table_same old new session (Commit xid true) asked Free is =
    ap (λ b. refused_if (not b) Nota (Reply.Refused (Rmfail StatePrepared)))
    (prepared_same old new xid (asked.named xid refl))
table_same old new session (Commit xid false) asked (Active own) is = refl
table_same old new session (Commit xid true) asked (Active own) is = refl
table_same old new session (Commit xid false) asked (Idle own) is = refl
table_same old new session (Commit xid true) asked (Idle own) is = refl
table_same old new session (Rollback xid) asked Free is =
    ap (λ b. ok_if b Nota) (prepared_same old new xid (asked.named xid refl))
table_same old new session (Rollback xid) asked (Active own) is = refl
table_same old new session (Rollback xid) asked (Idle own) is = refl
table_same old new session (Recover convert) asked a is = ap Reply.Recovered (asked.listed convert refl)
table_same old new session Unsupported asked a is = refl
table_same old new session (Get key) asked Free is = ap Reply.Value (asked.value key refl)
table_same old new session (Get key) asked (Active own) is =
    ap (λ b. refused_if b RowLocked (Reply.Value (value_within new own key)))
    (locked_alike old new (Active own) key (λ xid. sym (exclusive_barring (lock_at new xid key))
    ∙ ap is_exclusive (asked.held key refl xid) ∙ exclusive_barring (lock_at old xid key)))
    ∙ ap (λ v. refused_if (is_locked_against old (Active own) key) RowLocked (Reply.Value v))
    (ap (λ (found : Option Branch). unwrap_or (option_and_then (λ (b : Branch). map.get b.writes key) found)
    (committed_value new key)) (asked.own own is)
    ∙ ap (unwrap_or (write_at old own key)) (asked.value key refl))
table_same old new session (Get key) asked (Idle own) is = refl
table_same old new session (Put key value) asked Free is =
    ap (λ b. refused_if b RowLocked Reply.Ok) (held_alike old new Free key (asked.held key refl))
table_same old new session (Put key value) asked (Active own) is =
    ap (λ b. refused_if b RowLocked Reply.Ok) (held_alike old new (Active own) key (asked.held key refl))
table_same old new session (Put key value) asked (Idle own) is = refl
table_same old new session (Del key) asked Free is =
    ap (λ b. refused_if b RowLocked Reply.Ok) (held_alike old new Free key (asked.held key refl))
table_same old new session (Del key) asked (Active own) is =
    ap (λ b. refused_if b RowLocked Reply.Ok) (held_alike old new (Active own) key (asked.held key refl))
table_same old new session (Del key) asked (Idle own) is = refl
table_same old new session Disconnect asked a is = refl

-- if what the reply depends on is the same in both states (`IsAsked`), so is the reply
reply_same : (old new : State) (session : ℕ) (statement : Statement) → IsAsked old new session statement
    → reply_to new session statement ≡ reply_to old session statement
unfolding reply_to
reply_same old new session statement asked =
    ap (λ a. table new a statement) asked.association
    ∙ table_same old new session statement asked (association_of old session) refl

-- ---- the values of rows

-- what an accepted statement leaves of a row's committed value
written : State → Association → Statement → List ℕ → Option Text → Option Text
written state association (Commit xid one_phase) key found = unwrap_or (write_at state xid key) found
written state Free (Put other value) key found = cond (eq_by_cmp bytes_cmp key other) (Some value) found
written state Free (Del other) key found = cond (eq_by_cmp bytes_cmp key other) None found
written state association statement key found = found

-- once a branch is committed, a row has the value that the branch wrote to it, or else the one that it had
committed_row : (state : State) (xid : Xid) (key : List ℕ)
    → map.get (committed state xid).rows key ≡ unwrap_or (write_at state xid key) (map.get state.rows key)
unfolding committed
committed_row state xid key = by (map.get state.branches xid) refl
  where
    by : (found : Option Branch) → map.get state.branches xid ≡ found
        → map.get (option_map_or (λ (branch : Branch). record (without_branch state xid)
        { rows = with_writes (map.entries branch.writes) state.rows }) found state).rows key
        ≡ unwrap_or (option_and_then (λ (b : Branch). map.get b.writes key) found) (map.get state.rows key)
    by None e = refl
    by (Some branch) e = get-with_writes (map.entries branch.writes) state.rows key
        ∙ ap (λ write. unwrap_or write (map.get state.rows key)) (sym (get-entries branch.writes key))

-- changing a branch leaves the committed value of each row
changed_row : (state : State) (xid : Xid) (change : Branch → Branch) (key : List ℕ)
    → map.get (with_changed state xid change).rows key ≡ map.get state.rows key
changed_row state xid change key = by (map.get state.branches xid)
  where
    by : (found : Option Branch)
        → map.get (option_map_or (λ branch. with_branch state xid (change branch)) found state).rows key
        ≡ map.get state.rows key
    by None = refl
    by (Some branch) = refl

-- the effect of a statement leaves of a row's committed value what `written` says
effect-row : (state : State) (session : ℕ) (association : Association) (statement : Statement) (key : List ℕ)
    → map.get (effect state session association statement).rows key
    ≡ written state association statement key (map.get state.rows key)
unfolding effect written
effect-row state session association (Start xid) key = refl
effect-row state session association (End xid) key = changed_row state xid _ key
effect-row state session association (Prepare xid) key = changed_row state xid _ key
effect-row state session association (Commit xid one_phase) key = committed_row state xid key
effect-row state session association (Rollback xid) key = refl
effect-row state session association (Recover convert) key = refl
effect-row state session association Unsupported key = refl
effect-row state session Free (Get other) key = refl
effect-row state session (Active own) (Get other) key = changed_row state own _ key
effect-row state session (Idle own) (Get other) key = refl
effect-row state session Free (Put other value) key = get-insert bytes_total state.rows other value key
effect-row state session (Active own) (Put other value) key = changed_row state own _ key
effect-row state session (Idle own) (Put other value) key = refl
effect-row state session Free (Del other) key = get-remove bytes_total state.rows other key
effect-row state session (Active own) (Del other) key = changed_row state own _ key
effect-row state session (Idle own) (Del other) key = refl
effect-row state session Free Disconnect key = refl
effect-row state session (Active own) Disconnect key = refl
effect-row state session (Idle own) Disconnect key = refl

-- if the branch that a statement names is the same in two states, the statement leaves the same of a row's committed
-- value in both
written_same : (old new : State) (a : Association) (statement : Statement) (key : List ℕ) (found : Option Text)
    → ((xid : Xid) → named_by statement ≡ Some xid → map.get new.branches xid ≡ map.get old.branches xid)
    → written new a statement key found ≡ written old a statement key found
unfolding written
written_same old new a (Commit xid one_phase) key found same =
    ap (λ (o : Option Branch). unwrap_or (option_and_then (λ (b : Branch). map.get b.writes key) o) found)
    (same xid refl)
written_same old new a (Start xid) key found same = refl
written_same old new a (End xid) key found same = refl
written_same old new a (Prepare xid) key found same = refl
written_same old new a (Rollback xid) key found same = refl
written_same old new a (Recover convert) key found same = refl
written_same old new a Unsupported key found same = refl
written_same old new a (Get row) key found same = refl
written_same old new Free (Put row value) key found same = refl
written_same old new (Active own) (Put row value) key found same = refl
written_same old new (Idle own) (Put row value) key found same = refl
written_same old new Free (Del row) key found same = refl
written_same old new (Active own) (Del row) key found same = refl
written_same old new (Idle own) (Del row) key found same = refl
written_same old new a Disconnect key found same = refl

-- ---- lists of prepared branches

-- of two identifiers at most one is below the other
less_apart : (x y : Xid) → xid_cmp x y ≡ Less → xid_cmp y x ≡ Less → ⊥
less_apart x y one two =
    greater_less (sym (ap ordering_reverse two) ∙ sym (xids_total.antisymm x y) ∙ one)
  where
    greater_less : Greater ≡ Less → ⊥
    greater_less e = cc

-- no identifier is below itself
less_itself : (x : Xid) → xid_cmp x x ≡ Less → ⊥
less_itself x e = less_apart x x e e

-- an identifier that is below each one of a list is below any that is in the list
comes_after : (x z : Xid) (xs : List Xid) → AllByRecursion (λ other. xid_cmp x other ≡ Less) xs
    → list_any (same_xid z) xs ≡ true → xid_cmp x z ≡ Less
comes_after x z [] below has = absurd (false≢true has)
comes_after x z (y ∷ ys) below has = elim (same_or_apart xids_total exact_xids z y) [
  | inl is ↦ subst (λ w. xid_cmp x w ≡ Less) (sym is) below.0
  | inr apart ↦ comes_after x z ys below.1 (sym (ap (λ b. b || list_any (same_xid z) ys) apart) ∙ has)
]

-- what is in a list with one more in front is that one, or in the rest
in_front : (z x : Xid) (xs : List Xid) → list_any (same_xid z) (x ∷ xs) ≡ true
    → (z ≡ x) ⊎ (list_any (same_xid z) xs ≡ true)
in_front z x xs has = elim (same_or_apart xids_total exact_xids z x) [
  | inl is ↦ inl is
  | inr apart ↦ inr (sym (ap (λ b. b || list_any (same_xid z) xs) apart) ∙ has)
]

-- one of two tests holds if the second is true
or_true : (b : Bool) → (b || true) ≡ true
or_true true = refl
or_true false = refl

-- ascending lists with the same elements are the same
sorted_same : (xs ys : List Xid) → IsStrictlySortedBy xid_cmp xs → IsStrictlySortedBy xid_cmp ys
    → ((z : Xid) → list_any (same_xid z) xs ≡ list_any (same_xid z) ys) → xs ≡ ys
unfolding IsStrictlySortedBy
sorted_same [] [] up down same = refl
sorted_same [] (y ∷ ys) up down same =
    absurd (false≢true (same y ∙ ap (λ b. b || list_any (same_xid y) ys) (itself y)))
sorted_same (x ∷ xs) [] up down same =
    absurd (false≢true (sym (same x) ∙ ap (λ b. b || list_any (same_xid x) xs) (itself x)))
sorted_same (x ∷ xs) (y ∷ ys) up down same =
    let first : x ≡ y = elim (in_front x y ys (sym (same x)
    ∙ ap (λ b. b || list_any (same_xid x) xs) (itself x))) [
      | inl is ↦ is
      | inr later ↦ elim (in_front y x xs (same y ∙ ap (λ b. b || list_any (same_xid y) ys) (itself y))) [
        | inl is ↦ sym is
        | inr other ↦ absurd (less_apart y x (comes_after y x ys down.0 later) (comes_after x y xs up.0 other))
      ]
    ] in
    let to : (z : Xid) → list_any (same_xid z) xs ≡ true → list_any (same_xid z) ys ≡ true = λ z has.
    elim (in_front z y ys (sym (same z) ∙ ap (λ b. same_xid z x || b) has ∙ or_true (same_xid z x))) [
      | inl is ↦ absurd (less_itself z (subst (λ w. xid_cmp w z ≡ Less) (first ∙ sym is)
          (comes_after x z xs up.0 has)))
      | inr later ↦ later
    ] in
    let from : (z : Xid) → list_any (same_xid z) ys ≡ true → list_any (same_xid z) xs ≡ true = λ z has.
    elim (in_front z x xs (same z ∙ ap (λ b. same_xid z y || b) has ∙ or_true (same_xid z y))) [
      | inl is ↦ absurd (less_itself z (subst (λ w. xid_cmp w z ≡ Less) (sym first ∙ sym is)
          (comes_after y z ys down.0 has)))
      | inr later ↦ later
    ] in
    ap (λ w. w ∷ xs) first
    ∙ ap (λ l. y ∷ l) (sorted_same xs ys up.1 down.1 (λ z. same_truth _ _ (to z) (from z)))

-- if each branch is PREPARED in both states or in neither, the lists of PREPARED branches are the same
listed_same : (old new : State) → ((xid : Xid) → is_prepared new xid ≡ is_prepared old xid)
    → prepared_xids new ≡ prepared_xids old
listed_same old new same =
    sorted_same (prepared_xids new) (prepared_xids old) (prepared_ascend new) (prepared_ascend old)
    (λ xid. prepared_exactly new xid ∙ same xid ∙ sym (prepared_exactly old xid))

-- ---- what a statement leaves

-- an accepted XA START is of a branch that isn't there
unknown_before : (state : State) (a : Association) (xid at : Xid) → is_refused (table state a (Start xid)) ≡ false
    → at ≡ xid → map.get state.branches at ≡ None
unknown_before state a xid at goes is = none_of _ (ap (is_known state) is ∙ (accepted_start state a xid goes).1)

-- how a branch holds the row, if there is the branch and it holds it
lock_in : List ℕ → Option Branch → Option LockMode
lock_in key found = option_and_then (λ (b : Branch). map.get b.locks key) found

-- once a branch shares a row, it holds each other row as it did
shared_apart : (key other : List ℕ) → eq_by_cmp bytes_cmp key other ≡ false → (b : Branch)
    → map.get (with_lock other b).locks key ≡ map.get b.locks key
shared_apart key other apart b = by (map.contains_key b.locks other)
  where
    by : (c : Bool) → map.get (cond c b.locks (map.insert b.locks other Shared)) key ≡ map.get b.locks key
    by true = refl
    by false = get_inserted_apart bytes_total exact_texts b.locks other Shared key apart

-- once a branch shares a row, it holds each row exclusively or not as it did
shared_seen : (key other : List ℕ) (b : Branch)
    → exclusively (map.get (with_lock other b).locks key) ≡ exclusively (map.get b.locks key)
shared_seen key other b = elim (same_or_apart bytes_total exact_texts key other) [
  | inl is ↦ subst (λ k. exclusively (map.get (with_lock other b).locks k) ≡ exclusively (map.get b.locks k)) (sym is)
      (by (map.get b.locks other) refl)
  | inr apart ↦ ap exclusively (shared_apart key other apart b)
]
  where
    by : (o : Option LockMode) → map.get b.locks other ≡ o
        → exclusively (map.get (cond (map.contains_key b.locks other) b.locks (map.insert b.locks other Shared)) other)
        ≡ exclusively (map.get b.locks other)
    by (Some mode) is =
        ap (λ c. exclusively (map.get (cond c b.locks (map.insert b.locks other Shared)) other)) (ap is_some is)
    by None is =
        ap (λ c. exclusively (map.get (cond c b.locks (map.insert b.locks other Shared)) other)) (ap is_some is)
        ∙ ap exclusively (get-insert bytes_total b.locks other Shared other)
        ∙ ap (λ c. exclusively (cond c (Some Shared) (map.get b.locks other)))
        (same_itself bytes_total exact_texts other)
        ∙ sym (ap exclusively is)

-- a statement that has nothing to do with a row that another one names leaves who holds the row, as far as that bars
-- the other one
bars_after : (state : State) (one : Statement) (session : ℕ) (two : Statement) (key : List ℕ)
    → key_of one ≡ Some key → Spares state one session two → BarsAlike state (after state session two) one key
unfolding branch_after lock_in idle detached
bars_after state one session two key names spares = λ at. elim (outcome state session two) [
  | inl refused ↦ ap (λ (s : State). barring one (lock_at s at key)) refused.1
  | inr done ↦ ap (λ (s : State). barring one (lock_at s at key)) done.1
      ∙ ap bars (effect-branch state session (association_of state session) two at)
      ∙ by at (association_of state session) two done.0 (λ other e. spares.row key other names e)
      (λ e. spares.unheld key at names e)
]
  where
    bars : Option Branch → Option LockMode
    bars found = barring one (lock_in key found)

    gone : (found : Option Branch) → bars found ≡ None → bars None ≡ bars found
    gone found none = none_bars one ∙ sym none

    writes : (at own : Xid) (other : List ℕ) (write : Write) (found : Option Branch)
        → (eq_by_cmp bytes_cmp key other ≡ false) ⊎ ((is_get one ≡ true) × (false ≡ true))
        → bars (cond (same_xid at own) (option_map (with_own_write other write) found) found) ≡ bars found
    writes at own other write found (inl apart) = changed bars at own (with_own_write other write) found
        (λ b. ap (barring one) (get_inserted_apart bytes_total exact_texts b.locks other Exclusive key apart))
    writes at own other write found (inr gets) = absurd (false≢true gets.1)

    shares : (at own : Xid) (other : List ℕ) (found : Option Branch)
        → (eq_by_cmp bytes_cmp key other ≡ false) ⊎ ((is_get one ≡ true) × (true ≡ true))
        → bars (cond (same_xid at own) (option_map (with_lock other) found) found) ≡ bars found
    shares at own other found (inl apart) =
        changed bars at own (with_lock other) found (λ b. ap (barring one) (shared_apart key other apart b))
    shares at own other found (inr gets) = changed bars at own (with_lock other) found
        (λ b. get_bars one (map.get (with_lock other b).locks key) (map.get b.locks key) gets.0
        (shared_seen key other b))

    by : (at : Xid) (a : Association) (s : Statement) → is_refused (table state a s) ≡ false
        → ((other : List ℕ) → key_of s ≡ Some other
        → (eq_by_cmp bytes_cmp key other ≡ false) ⊎ ((is_get one ≡ true) × (is_get s ≡ true)))
        → (EndsIn a s at → bars (map.get state.branches at) ≡ None)
        → bars (branch_after session a s at (map.get state.branches at)) ≡ bars (map.get state.branches at)
    by at a (Start xid) goes row unheld =
        picked (λ o. bars o ≡ bars (map.get state.branches at)) at xid _ _
        (λ is. ap (barring one) (get-empty bytes_cmp key)
        ∙ sym (ap bars (unknown_before state a xid at goes is))) refl
    by at a (End xid) goes row unheld = changed bars at xid idle _ (λ b. refl)
    by at a (Prepare xid) goes row unheld = changed bars at xid detached _ (λ b. refl)
    by at a (Commit xid one_phase) goes row unheld =
        picked (λ o. bars o ≡ bars (map.get state.branches at)) at xid None _ (λ is. gone _ (unheld (sym is))) refl
    by at a (Rollback xid) goes row unheld =
        picked (λ o. bars o ≡ bars (map.get state.branches at)) at xid None _ (λ is. gone _ (unheld (sym is))) refl
    by at a (Recover convert) goes row unheld = refl
    by at a Unsupported goes row unheld = refl
    by at Free (Get other) goes row unheld = refl
    by at (Active own) (Get other) goes row unheld = shares at own other _ (row other refl)
    by at (Idle own) (Get other) goes row unheld = refl
    by at Free (Put other value) goes row unheld = refl
    by at (Active own) (Put other value) goes row unheld = writes at own other (Some value) _ (row other refl)
    by at (Idle own) (Put other value) goes row unheld = refl
    by at Free (Del other) goes row unheld = refl
    by at (Active own) (Del other) goes row unheld = writes at own other None _ (row other refl)
    by at (Idle own) (Del other) goes row unheld = refl
    by at Free Disconnect goes row unheld = refl
    by at (Active own) Disconnect goes row unheld =
        picked (λ o. bars o ≡ bars (map.get state.branches at)) at own None _ (λ is. gone _ (unheld (sym is))) refl
    by at (Idle own) Disconnect goes row unheld =
        picked (λ o. bars o ≡ bars (map.get state.branches at)) at own None _ (λ is. gone _ (unheld (sym is))) refl

-- a statement that leaves the list of PREPARED branches as it is (`IsUnlisted`) leaves each branch PREPARED or not, as
-- it was
unlisted_after : (state : State) (session : ℕ) (statement : Statement) (at : Xid) → IsUnlisted statement
    → is_prepared (after state session statement) at ≡ is_prepared state at
unfolding branch_after idle table
unlisted_after state session statement at unlisted = elim (outcome state session statement) [
  | inl refused ↦ ap (λ (s : State). is_prepared s at) refused.1
  | inr done ↦ ap (λ (s : State). is_prepared s at) done.1
      ∙ ap prepared (effect-branch state session (association_of state session) statement at)
      ∙ by (association_of state session) (open_association state session) statement unlisted done.0
]
  where
    prepared : Option Branch → Bool
    prepared found = option_map_or is_prepared_phase (option_map (λ (b : Branch). b.phase) found) false

    Keeps : Option Branch → Type 0
    Keeps o = prepared o ≡ prepared (map.get state.branches at)

    unprepared : (own : Xid) (phase : Phase) → is_prepared_phase phase ≡ false → phase_at state own ≡ Some phase
        → is_prepared state own ≡ false
    unprepared own phase not is = ap (λ p. option_map_or is_prepared_phase p false) is ∙ not

    never : (b : Bool) → is_refused (refused_if (not b) Nota (Reply.Refused (Rmfail StatePrepared))) ≡ false → ⊥
    never true e = false≢true (sym e)
    never false e = false≢true (sym e)

    one_phase_of : (a : Association) (xid : Xid) (one_phase : Bool) → one_phase ≡ true → IsOpen state a
        → is_refused (table state a (Commit xid one_phase)) ≡ false → is_prepared state xid ≡ false
    one_phase_of a xid false is opened goes = absurd (false≢true is)
    one_phase_of Free xid true is opened goes = absurd (never (is_prepared state xid) goes)
    one_phase_of (Active own) xid true is opened goes = absurd (false≢true (sym goes))
    one_phase_of (Idle own) xid true is opened goes =
        ap (is_prepared state) (own_is xid own _ goes) ∙ unprepared own Phase.Idle refl opened

    ended : (found : Option Branch) → prepared (option_map idle found) ≡ false
    ended None = refl
    ended (Some branch) = refl

    by : (a : Association) → IsOpen state a → (s : Statement) → IsUnlisted s → is_refused (table state a s) ≡ false
        → prepared (branch_after session a s at (map.get state.branches at)) ≡ prepared (map.get state.branches at)
    by a opened (Start xid) un goes =
        picked Keeps at xid _ _ (λ is. sym (ap prepared (unknown_before state a xid at goes is))) refl
    by a opened (End xid) un goes = picked Keeps at xid _ _
        (λ is. ended (map.get state.branches at)
        ∙ sym (ap (is_prepared state) is ∙ accepted_end state a xid opened goes)) refl
    by a opened (Prepare xid) un goes = absurd un
    by a opened (Commit xid one_phase) un goes = picked Keeps at xid None _
        (λ is. sym (ap (is_prepared state) is ∙ one_phase_of a xid one_phase un opened goes)) refl
    by a opened (Rollback xid) un goes = absurd un
    by a opened (Recover convert) un goes = refl
    by a opened Unsupported un goes = refl
    by Free opened (Get key) un goes = refl
    by (Active own) opened (Get key) un goes = changed prepared at own (with_lock key) _ (λ b. refl)
    by (Idle own) opened (Get key) un goes = refl
    by Free opened (Put key value) un goes = refl
    by (Active own) opened (Put key value) un goes =
        changed prepared at own (with_own_write key (Some value)) _ (λ b. refl)
    by (Idle own) opened (Put key value) un goes = refl
    by Free opened (Del key) un goes = refl
    by (Active own) opened (Del key) un goes = changed prepared at own (with_own_write key None) _ (λ b. refl)
    by (Idle own) opened (Del key) un goes = refl
    by Free opened Disconnect un goes = refl
    by (Active own) opened Disconnect un goes = picked Keeps at own None _
        (λ is. sym (ap (is_prepared state) is ∙ unprepared own Phase.Active refl opened)) refl
    by (Idle own) opened Disconnect un goes = picked Keeps at own None _
        (λ is. sym (ap (is_prepared state) is ∙ unprepared own Phase.Idle refl opened)) refl

-- the statement gives the row a value: it names the row and isn't GET, or it commits a branch that holds it exclusively
data Changes (state : State) (statement : Statement) (key : List ℕ) : Type 0 where
  names : key_of statement ≡ Some key → is_get statement ≡ false → Changes state statement key
  commits : (xid : Xid) (one_phase : Bool) → statement ≡ Commit xid one_phase → holds_exclusively state xid key ≡ true
      → Changes state statement key

-- an accepted statement leaves the row's committed value, whatever it is, or it changes it (`Changes`)
keeps_or_changes : (state : State) (a : Association) (statement : Statement) (key : List ℕ) → LockLaw state
    → ((found : Option Text) → written state a statement key found ≡ found) ⊎ Changes state statement key
unfolding written
keeps_or_changes state a (Commit xid one_phase) key law = by (write_at state xid key) refl
  where
    by : (o : Option Write) → write_at state xid key ≡ o
        → ((found : Option Text) → unwrap_or (write_at state xid key) found ≡ found)
        ⊎ Changes state (Commit xid one_phase) key
    by None e = inl (λ found. ap (λ w. unwrap_or w found) e)
    by (Some write) e = inr (commits xid one_phase refl (law.held_writes xid key (ap is_some e)))
keeps_or_changes state Free (Put row value) key law = elim (same_or_apart bytes_total exact_texts key row) [
  | inl is ↦ inr (names (ap Some (sym is)) refl)
  | inr apart ↦ inl (λ found. ap (λ b. cond b (Some value) found) apart)
]
keeps_or_changes state (Active own) (Put row value) key law = inl (λ found. refl)
keeps_or_changes state (Idle own) (Put row value) key law = inl (λ found. refl)
keeps_or_changes state Free (Del row) key law = elim (same_or_apart bytes_total exact_texts key row) [
  | inl is ↦ inr (names (ap Some (sym is)) refl)
  | inr apart ↦ inl (λ found. ap (λ b. cond b None found) apart)
]
keeps_or_changes state (Active own) (Del row) key law = inl (λ found. refl)
keeps_or_changes state (Idle own) (Del row) key law = inl (λ found. refl)
keeps_or_changes state a (Start xid) key law = inl (λ found. refl)
keeps_or_changes state a (End xid) key law = inl (λ found. refl)
keeps_or_changes state a (Prepare xid) key law = inl (λ found. refl)
keeps_or_changes state a (Rollback xid) key law = inl (λ found. refl)
keeps_or_changes state a (Recover convert) key law = inl (λ found. refl)
keeps_or_changes state a Unsupported key law = inl (λ found. refl)
keeps_or_changes state a (Get row) key law = inl (λ found. refl)
keeps_or_changes state a Disconnect key law = inl (λ found. refl)

-- a statement that has nothing to do with a row that another one names doesn't change it
spared_row : (state : State) (one : Statement) (session : ℕ) (two : Statement) (key : List ℕ)
    → Spares state one session two → key_of one ≡ Some key → Changes state two key → ⊥
spared_row state one session two key spares is (names its writes) = elim (spares.row key key is its) [
  | inl apart ↦ false≢true (sym apart ∙ same_itself bytes_total exact_texts key)
  | inr gets ↦ false≢true (sym writes ∙ gets.1)
]
spared_row state one session two key spares is (commits xid one_phase its held) =
    false≢true (sym (unexclusive one (lock_at state xid key)
    (spares.unheld key xid is (subst (λ s. EndsIn (association_of state session) s xid) (sym its) refl))) ∙ held)

-- of two statements that are apart no more than one changes a row
one_changes : (state : State) (session other : ℕ) (one two : Statement) (key : List ℕ) → LockLaw state
    → AreApart state session one other two → Changes state one key → Changes state two key → ⊥
one_changes state session other one two key law apart (names is writes) its =
    spared_row state one other two key apart.0 is its
one_changes state session other one two key law apart (commits xid phase is held) (names its writes) =
    spared_row state two session one key apart.1 its (commits xid phase is held)
one_changes state session other one two key law apart (commits xid phase is held) (commits at other_phase its theirs) =
    false≢true (sym (subst (λ s. Avoids s xid) its (apart.0.avoids xid (ap named_by is)))
    ∙ ap (same_xid xid) (sym (law.one_holder xid at key held (exclusive_some _ theirs))) ∙ itself xid)

-- ---- branches

-- one of two branches is the other, or they differ
is_or_differs : (xid other : Xid) → (Some other ≡ Some xid) ⊎ (same_xid xid other ≡ false)
is_or_differs xid other = elim (same_or_apart xids_total exact_xids xid other) [
  | inl is ↦ inl (ap Some (sym is))
  | inr apart ↦ inr apart
]

-- a statement names the branch, or it doesn't
names_or_avoids : (statement : Statement) (xid : Xid) → (named_by statement ≡ Some xid) ⊎ Avoids statement xid
names_or_avoids (Start other) xid = is_or_differs xid other
names_or_avoids (End other) xid = is_or_differs xid other
names_or_avoids (Prepare other) xid = is_or_differs xid other
names_or_avoids (Commit other one_phase) xid = is_or_differs xid other
names_or_avoids (Rollback other) xid = is_or_differs xid other
names_or_avoids (Recover convert) xid = inr tt
names_or_avoids Unsupported xid = inr tt
names_or_avoids (Get key) xid = inr tt
names_or_avoids (Put key value) xid = inr tt
names_or_avoids (Del key) xid = inr tt
names_or_avoids Disconnect xid = inr tt

-- the statement doesn't name the branch, and its session hasn't it open
abbrev Leaves : State → ℕ → Statement → Xid → Type 0
Leaves state session statement xid = Avoids statement xid × IsBeside (association_of state session) xid

-- of two statements that are apart, one leaves the branch as it is (`Leaves`)
one_leaves : (state : State) (session other : ℕ) (one two : Statement) (xid : Xid) → session ≢ other
    → AreApart state session one other two → Leaves state session one xid ⊎ Leaves state other two xid
one_leaves state session other one two xid differ apart = elim (names_or_avoids one xid) [
  | inl own ↦ inr (apart.0.avoids xid own, apart.0.beside xid own)
  | inr avoids ↦ elim (names_or_avoids two xid) [
    | inl its ↦ inl (avoids, apart.1.beside xid its)
    | inr too ↦ mine avoids too (owns state session xid) refl
  ]
]
  where
    not_both : owns state session xid ≡ true → owns state other xid ≡ true → ⊥
    not_both own its = differ (same_Some session other
        (sym (owned_is (owner_at state xid) session own) ∙ owned_is (owner_at state xid) other its))

    theirs : Avoids two xid → owns state session xid ≡ true → (b : Bool) → owns state other xid ≡ b
        → Leaves state other two xid
    theirs too own true e = absurd (not_both own e)
    theirs too own false e = (too, beside_unowned state other xid e)

    mine : Avoids one xid → Avoids two xid → (b : Bool) → owns state session xid ≡ b
        → Leaves state session one xid ⊎ Leaves state other two xid
    mine avoids too true e = inr (theirs too e (owns state other xid) refl)
    mine avoids too false e = inl (avoids, beside_unowned state session xid e)

-- ---- both orders

-- a statement that has nothing to do with what another session's statement names leaves what that one's reply depends
-- on (`IsAsked`)
spared_asked : (state : State) (session other : ℕ) (one two : Statement) → LockLaw state → session ≢ other
    → Spares state one other two → IsAsked state (after state other two) session one
spared_asked state session other one two law differ spares = record {
  association = leaves.association;
  named = λ xid e. untouched state other two xid (spares.avoids xid e) (spares.beside xid e);
  own = λ xid e. leaves.branch xid (subst (IsOwn state session) e (own_association state session));
  listed = λ convert e. listed_same state (after state other two)
      (λ xid. unlisted_after state other two xid (spares.listed convert e));
  value = λ key e. elim (outcome state other two) [
    | inl refused ↦ ap (λ (s : State). map.get s.rows key) refused.1
    | inr done ↦ ap (λ (s : State). map.get s.rows key) done.1
        ∙ effect-row state other (association_of state other) two key
        ∙ elim (keeps_or_changes state (association_of state other) two key law) [
          | inl keeps ↦ keeps (map.get state.rows key)
          | inr changes ↦ absurd (spared_row state one other two key spares (ap key_of e) changes)
        ]
  ];
  held = λ key e. bars_after state one other two key e spares;
}
  where
    leaves : LeavesSession state (after state other two) session
    leaves = others_left state law other session two (λ e. differ (sym e))

-- the statements of two sessions come in either order to the same replies and the same state
record Commutes (state : State) (session other : ℕ) (one two : Statement) : Type 0 where
  pub first : reply_to (after state other two) session one ≡ reply_to state session one
  pub second : reply_to (after state session one) other two ≡ reply_to state other two
  pub same : after (after state other two) session one ≡ after (after state session one) other two

-- where the lock law holds, statements of two sessions that are apart come to the same in either order (`Commutes`)
apart_commute : (state : State) (session other : ℕ) (one two : Statement) → LockLaw state → session ≢ other
    → AreApart state session one other two → Commutes state session other one two
apart_commute state session other one two law differ apart = record {
  first = first;
  second = second;
  same = by (is_refused (reply_to state session one)) (is_refused (reply_to state other two)) refl refl;
}
  where
    here : State
    here = after state session one

    there : State
    there = after state other two

    a : Association
    a = association_of state session

    b : Association
    b = association_of state other

    asked : IsAsked state there session one
    asked = spared_asked state session other one two law differ apart.0

    its_asked : IsAsked state here other two
    its_asked = spared_asked state other session two one law (λ e. differ (sym e)) apart.1

    first : reply_to there session one ≡ reply_to state session one
    first = reply_same state there session one asked

    second : reply_to here other two ≡ reply_to state other two
    second = reply_same state here other two its_asked

    either : {A : Type 0} (f g : A → A) (x : A) → ((y : A) → f y ≡ y) ⊎ ((y : A) → g y ≡ y) → f (g x) ≡ g (f x)
    either f g x (inl same) = same (g x) ∙ ap g (sym (same x))
    either f g x (inr same) = ap f (same x) ∙ sym (same (f x))

    by : (p q : Bool) → is_refused (reply_to state session one) ≡ p → is_refused (reply_to state other two) ≡ q
        → after there session one ≡ after here other two
    by true q refused e =
        refused_leaves there session one (ap is_refused first ∙ refused)
        ∙ sym (ap (λ s. after s other two) (refused_leaves state session one refused))
    by false true e refused =
        ap (λ s. after s session one) (refused_leaves state other two refused)
        ∙ sym (refused_leaves here other two (ap is_refused second ∙ refused))
    by false false goes its_goes =
        accepted_done there session one (ap is_refused first ∙ goes)
        ∙ ap (λ c. effect there session c one) asked.association
        ∙ same_state (effect there session a one) (effect here other b two)
        (same_map xids_total exact_xids _ _ branch) (same_map bytes_total exact_texts _ _ row)
        ∙ sym (accepted_done here other two (ap is_refused second ∙ its_goes)
        ∙ ap (λ c. effect here other c two) its_asked.association)
      where
        here_is : here ≡ effect state session a one
        here_is = accepted_done state session one goes

        there_is : there ≡ effect state other b two
        there_is = accepted_done state other two its_goes

        branch : (at : Xid) → map.get (effect there session a one).branches at
            ≡ map.get (effect here other b two).branches at
        branch at =
            effect-branch there session a one at
            ∙ ap (branch_after session a one at) (ap (λ (s : State). map.get s.branches at) there_is
            ∙ effect-branch state other b two at)
            ∙ either (branch_after session a one at) (branch_after other b two at) (map.get state.branches at)
            (elim (one_leaves state session other one two at differ apart) [
              | inl left ↦ inl (λ found. branch_kept session a one at found left.0 left.1)
              | inr left ↦ inr (λ found. branch_kept other b two at found left.0 left.1)
            ])
            ∙ sym (effect-branch here other b two at
            ∙ ap (branch_after other b two at) (ap (λ (s : State). map.get s.branches at) here_is
            ∙ effect-branch state session a one at))

        row : (key : List ℕ) → map.get (effect there session a one).rows key
            ≡ map.get (effect here other b two).rows key
        row key =
            effect-row there session a one key
            ∙ written_same state there a one key _ asked.named
            ∙ ap (written state a one key) (ap (λ (s : State). map.get s.rows key) there_is
            ∙ effect-row state other b two key)
            ∙ either (written state a one key) (written state b two key) (map.get state.rows key)
            (one_keeps (keeps_or_changes state a one key law) (keeps_or_changes state b two key law))
            ∙ sym (effect-row here other b two key
            ∙ written_same state here b two key _ its_asked.named
            ∙ ap (written state b two key) (ap (λ (s : State). map.get s.rows key) here_is
            ∙ effect-row state session a one key))
          where
            one_keeps : {X Y : Type 0} → X ⊎ Changes state one key → Y ⊎ Changes state two key → X ⊎ Y
            one_keeps (inl keeps) its = inl keeps
            one_keeps (inr changes) (inl keeps) = inr keeps
            one_keeps (inr changes) (inr its) =
                absurd (one_changes state session other one two key law apart changes its)

-- the requests of two sessions come in either order to the same answers and the same state
record RequestsCommute (state : State) (session other : ℕ) (one two : Request) : Type 0 where
  pub first : answer_to (next_state state other two) session one ≡ answer_to state session one
  pub second : answer_to (next_state state session one) other two ≡ answer_to state other two
  pub same : next_state (next_state state other two) session one ≡ next_state (next_state state session one) other two

-- where the lock law holds, requests of two sessions, whose statements are apart if they are statements, come to the
-- same in either order (`RequestsCommute`)
requests_commute : (state : State) (session other : ℕ) (one two : Request) → LockLaw state → session ≢ other
    → ((mine its : Statement) → one ≡ Given mine → two ≡ Given its → AreApart state session mine other its)
    → RequestsCommute state session other one two
requests_commute state session other (Given one) (Given two) law differ apart =
    let c = apart_commute state session other one two law differ (apart one two refl refl) in
    record { first = ap Answer.Reply c.first; second = ap Answer.Reply c.second; same = c.same }
requests_commute state session other (Given one) Unread law differ apart =
    record { first = refl; second = refl; same = refl }
requests_commute state session other Unread two law differ apart = record { first = refl; second = refl; same = refl }

-- ---- acts

-- what two sessions have open is apart also in a configuration with the same state in which both clients are the same
pub apart_same : (old new : Config) (other session : ℕ) → new.state ≡ old.state
    → slice_get new.clients other ≡ slice_get old.clients other
    → slice_get new.clients session ≡ slice_get old.clients session
    → IsApartAt old other session → IsApartAt new other session
apart_same old new other session state first second apart = λ one two opens its.
    subst (λ s. AreApart s other one session two) (sym state)
    (apart one two (subst (λ c. Opens c one) first opens) (subst (λ c. Opens c two) second its))

-- an act of another session that was before this session's act may come after it, to the same configuration, if what
-- both have open is apart
pub exchanged_apart : (run mid next : Config) (other session : ℕ) (act then : Act) → LockLaw run.state
    → other ≢ session → IsApartAt run other session → effect_of run other act ≡ Some mid
    → effect_of mid session then ≡ Some next
    → (first : Config) × (effect_of run session then ≡ Some first) × (effect_of first other act ≡ Some next)
exchanged_apart run mid next other session act then law differ apart leads follows = (
  first,
  mine.again run (sym at),
  theirs.again first (get_apart run.clients session other _ (λ e. differ (sym e))) ∙ ap Some both,
)
  where
    theirs : ActsAs run other act mid
    theirs = acts_as run mid other act leads

    mine : ActsAs mid session then next
    mine = acts_as mid next session then follows

    at : slice_get mid.clients session ≡ slice_get run.clients session
    at = ap (λ (c : Config). slice_get c.clients session) theirs.is ∙ get_apart run.clients other session _ differ

    made : Config → Config
    made config = record {
      state = next_state config.state session mine.request;
      clients = set config.clients session (mine.client (answer_to config.state session mine.request));
    }

    first : Config
    first = made run

    c : RequestsCommute run.state session other mine.request theirs.request
    c = requests_commute run.state session other mine.request theirs.request law (λ e. differ (sym e))
        (λ one two is its.
        let p = apart two one (theirs.opens two its) (subst (λ client. Opens client one) at (mine.opens one is)) in
        (p.1, p.0))

    make : State → Answer → Answer → Config
    make state answer its = record {
      state = state;
      clients = set (set run.clients session (mine.client answer)) other (theirs.client its);
    }

    both : record {
      state = next_state first.state other theirs.request;
      clients = set first.clients other (theirs.client (answer_to first.state other theirs.request));
    } ≡ next
    both =
        ap (make (next_state first.state other theirs.request) (answer_to run.state session mine.request)) c.second
        ∙ ap (λ s. make s (answer_to run.state session mine.request) (answer_to run.state other theirs.request))
        (sym c.same)
        ∙ ap (λ answer. make (next_state (next_state run.state other theirs.request) session mine.request) answer
        (answer_to run.state other theirs.request)) (sym c.first)
        ∙ ap (λ l. record {
          state = next_state (next_state run.state other theirs.request) session mine.request;
          clients = l;
        })
        (set_apart run.clients session other
        (mine.client (answer_to (next_state run.state other theirs.request) session mine.request))
        (theirs.client (answer_to run.state other theirs.request)) (λ e. differ (sym e)))
        ∙ ap made (sym theirs.is) ∙ sym mine.is

-- ---- what is apart stays so

-- a statement that is to end a branch names it or its session has it open
ends_touches : (a : Association) (statement : Statement) (xid : Xid) → EndsIn a statement xid → Avoids statement xid
    → IsBeside a xid → ⊥
ends_touches a (Commit other one_phase) xid is avoids beside =
    false≢true (sym avoids ∙ ap (same_xid xid) is ∙ itself xid)
ends_touches a (Rollback other) xid is avoids beside = false≢true (sym avoids ∙ ap (same_xid xid) is ∙ itself xid)
ends_touches (Active own) Disconnect xid is avoids beside =
    false≢true (sym beside ∙ ap (same_xid xid) is ∙ itself xid)
ends_touches (Idle own) Disconnect xid is avoids beside =
    false≢true (sym beside ∙ ap (same_xid xid) is ∙ itself xid)
ends_touches Free Disconnect xid is avoids beside = is
ends_touches a (Start other) xid is avoids beside = is
ends_touches a (End other) xid is avoids beside = is
ends_touches a (Prepare other) xid is avoids beside = is
ends_touches a (Recover convert) xid is avoids beside = is
ends_touches a Unsupported xid is avoids beside = is
ends_touches a (Get key) xid is avoids beside = is
ends_touches a (Put key value) xid is avoids beside = is
ends_touches a (Del key) xid is avoids beside = is

-- a statement has nothing to do with what another one names, also in a state in which its session has the same open,
-- if it ends no branch there that holds the row in a way that bars the other one
spares_on : (old new : State) (one : Statement) (session : ℕ) (two : Statement)
    → association_of new session ≡ association_of old session
    → ((key : List ℕ) (xid : Xid) → key_of one ≡ Some key → EndsIn (association_of old session) two xid
    → barring one (lock_at new xid key) ≡ barring one (lock_at old xid key))
    → Spares old one session two → Spares new one session two
spares_on old new one session two same held spares = record {
  avoids = spares.avoids;
  beside = λ xid e. subst (λ a. IsBeside a xid) (sym same) (spares.beside xid e);
  row = spares.row;
  unheld = λ key xid e ends.
      let ended = subst (λ a. EndsIn a two xid) same ends in held key xid e ended ∙ spares.unheld key xid e ended;
  listed = spares.listed;
}

-- what is apart stays so after a statement of a third session that is apart from one of both
apart_later : (state : State) (third other session : ℕ) (that one two : Statement) → LockLaw state → third ≢ session
    → third ≢ other → AreApart state third that session two → AreApart state other one session two
    → AreApart (after state third that) other one session two
unfolding lock_in
apart_later state third other session that one two law differ away beside its = (
  spares_on state (after state third that) one session two (others_left state law third session that differ).association
      (λ key xid e ends. elim (one_leaves state third session that two xid differ beside) [
        | inl left ↦ ap (λ o. barring one (lock_in key o)) (untouched state third that xid left.0 left.1)
        | inr left ↦ absurd (ends_touches (association_of state session) two xid ends left.0 left.1)
      ]) its.0,
  spares_on state (after state third that) two other one (others_left state law third other that away).association
      (λ key xid e ends. bars_after state two third that key e beside.1 xid) its.1,
)

-- a session that owns a branch has it open
owned_open : (state : State) (session : ℕ) (xid : Xid) → LockLaw state → owns state session xid ≡ true
    → EndsIn (association_of state session) Disconnect xid
unfolding is_free
owned_open state session xid law own =
    by (association_of state session) (own_association state session) (owner_associated state session xid law own)
  where
    by : (a : Association) → IsOwn state session a → is_free a ≡ false → EndsIn a Disconnect xid
    by Free its free = absurd (false≢true (sym free))
    by (Active at) its free = law.one_branch session at xid its own
    by (Idle at) its free = law.one_branch session at xid its own

-- a session owns the branch that it has open
open_owned : (state : State) (session : ℕ) (xid : Xid) → EndsIn (association_of state session) Disconnect xid
    → owns state session xid ≡ true
open_owned state session xid ends = by (association_of state session) (own_association state session) ends
  where
    by : (a : Association) → IsOwn state session a → EndsIn a Disconnect xid → owns state session xid ≡ true
    by Free its is = absurd is
    by (Active at) its is = ap (owns state session) (sym is) ∙ its
    by (Idle at) its is = ap (owns state session) (sym is) ∙ its

-- a session that hasn't the branch open, and whose statement doesn't name it, hasn't it open after the statement
still_beside : (state : State) (session : ℕ) (statement : Statement) (xid : Xid) → LockLaw state
    → Leaves state session statement xid → IsBeside (association_of (after state session statement) session) xid
still_beside state session statement xid law left = beside_unowned (after state session statement) session xid
    (ap (λ (o : Option Branch). option_map_or (λ owner. owner == session)
    (option_and_then (λ (b : Branch). b.owner) o) false) (untouched state session statement xid left.0 left.1)
    ∙ by (owns state session xid) refl)
  where
    by : (b : Bool) → owns state session xid ≡ b → owns state session xid ≡ false
    by true own = absurd (ends_touches (association_of state session) Disconnect xid
        (owned_open state session xid law own) tt left.1)
    by false e = e

-- the branch that a session has open after its statement, it had open before; or the branch holds no row
opened_before : (state : State) (session : ℕ) (statement : Statement) (xid : Xid) (key : List ℕ) → LockLaw state
    → EndsIn (association_of (after state session statement) session) Disconnect xid
    → EndsIn (association_of state session) Disconnect xid ⊎ (lock_at (after state session statement) xid key ≡ None)
unfolding is_owned branch_after lock_in
opened_before state session statement xid key law ends =
    let owned = open_owned (after state session statement) session xid ends in
    elim (outcome state session statement) [
      | inl refused ↦ inl (subst (λ s. EndsIn (association_of s session) Disconnect xid) refused.1 ends)
      | inr done ↦ elim (owned_before session session (association_of state session) statement xid
          (map.get state.branches xid)
          (sym (ap (is_owned session) (effect-branch state session (association_of state session) statement xid))
          ∙ sym (ap (λ s. owns s session xid) done.1) ∙ owned)) [
            | inl before ↦ inl (owned_open state session xid law before)
            | inr started ↦ inr (ap (λ (s : State). lock_at s xid key) done.1
                ∙ ap (lock_in key) (effect-branch state session (association_of state session) statement xid
                ∙ ap (λ s. branch_after session (association_of state session) s xid (map.get state.branches xid))
                started.0
                ∙ ap (λ b. cond b (Some (started_by session)) (map.get state.branches xid)) (itself xid))
                ∙ get-empty bytes_cmp key)
          ]
    ]

-- DISCONNECT names nothing that another statement has to do with
pub leaving_spared : (state : State) (session : ℕ) (two : Statement) → Spares state Disconnect session two
leaving_spared state session two = record {
  avoids = λ xid e. absurd (none-some xid e);
  beside = λ xid e. absurd (none-some xid e);
  row = λ key other e f. absurd (none-some key e);
  unheld = λ key xid e f. absurd (none-some key e);
  listed = λ convert e. absurd (not_listing convert e);
}
  where
    not_listing : (convert : Bool) → Disconnect ≡ Recover convert → ⊥
    not_listing convert e = cc

-- a session's DISCONNECT is apart from another session's statement after a statement of its own, if both are before
left_later : (state : State) (third session : ℕ) (that two : Statement) → LockLaw state
    → AreApart state third that session two → AreApart state third Disconnect session two
    → AreApart (after state third that) third Disconnect session two
left_later state third session that two law beside its = (
  leaving_spared (after state third that) session two,
  record {
    avoids = λ xid e. tt;
    beside = λ xid e. still_beside state third that xid law (beside.1.avoids xid e, beside.1.beside xid e);
    row = λ key other e f. absurd (none-some other f);
    unheld = λ key xid e ends. elim (opened_before state third that xid key law ends) [
      | inl before ↦ bars_after state two third that key e beside.1 xid ∙ its.1.unheld key xid e before
      | inr none ↦ ap (barring two) none ∙ none_bars two
    ];
    listed = λ convert e. tt;
  },
)

-- if what two sessions have open is apart, it is after an act of a third one, which may be `other`, if what that one
-- has open is apart from what `session` has
pub still_apart : (old new : Config) (third other session : ℕ) (act : Act) → LockLaw old.state
    → effect_of old third act ≡ Some new → third ≢ session → other ≢ session → IsApartAt old third session
    → IsApartAt old other session → IsApartAt new other session
still_apart old new third other session act law leads differ away beside its = λ one two opens its_opens.
    subst (λ s. AreApart s other one session two) (sym (ap (λ (c : Config). c.state) a.is))
    (elim (same_number third other) [
      | inl is ↦ subst (λ n. AreApart after_it n one session two) is
          (left one two (subst (λ n. HasOpen new n one) (sym is) opens) (before session differ two its_opens))
      | inr apart ↦ other_open one two apart (before other apart one opens) (before session differ two its_opens)
    ])
  where
    a : ActsAs old third act new
    a = acts_as old new third act leads

    after_it : State
    after_it = next_state old.state third a.request

    before : (n : ℕ) → third ≢ n → (statement : Statement) → HasOpen new n statement → HasOpen old n statement
    before n apart statement opens = subst (λ c. Opens c statement)
        (ap (λ (c : Config). slice_get c.clients n) a.is ∙ get_apart old.clients third n _ apart) opens

    other_open : (one two : Statement) → third ≢ other → HasOpen old other one → HasOpen old session two
        → AreApart after_it other one session two
    other_open one two apart opens its_opens = by a.request a.opens
      where
        by : (request : Request) → ((that : Statement) → request ≡ Given that → HasOpen old third that)
            → AreApart (next_state old.state third request) other one session two
        by Unread has = its one two opens its_opens
        by (Given that) has = apart_later old.state third other session that one two law differ apart
            (beside that two (has that refl) its_opens) (its one two opens its_opens)

    now : slice_get new.clients third ≡ Some (a.client (answer_to old.state third a.request))
    now = ap (λ (c : Config). slice_get c.clients third) a.is ∙ get_written old.clients third a.there _ a.found

    left : (one two : Statement) → HasOpen new third one → HasOpen old session two
        → AreApart after_it third one session two
    left one two (inl opens) its_opens =
        absurd (none-some one (sym (a.shut (answer_to old.state third a.request))
        ∙ sym (ap open_statement now) ∙ opens))
    left one two (inr gone) its_opens =
        subst (λ s. AreApart after_it third s session two) (sym gone.1) (by a.request a.opens)
      where
        leaves : HasOpen old third Disconnect
        leaves = inr (a.leaves (answer_to old.state third a.request) (sym (ap is_gone now) ∙ gone.0), refl)

        by : (request : Request) → ((that : Statement) → request ≡ Given that → HasOpen old third that)
            → AreApart (next_state old.state third request) third Disconnect session two
        by Unread has = beside Disconnect two leaves its_opens
        by (Given that) has = left_later old.state third session that two law
            (beside that two (has that refl) its_opens)
            (beside Disconnect two leaves its_opens)
