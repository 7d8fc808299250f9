-- Servers that differ in rows that aren't named answer alike, and stay so.
--     near_next, near_after     a request, a statement leaves near states near
--     near_put, near_del        so does a free session's write of a row that isn't named, on the left alone
--     near_refl, near_sym       a state is near itself;  and near states are so in either order
use Rattle.std.proofs.Common.{◌≡◌, ℕ, List, [], ◌∷◌, refl, ap, sym, ◌∙◌, subst, Bool, true, false, arith, rules}
use Rattle.std.specs.{Prelude.{Option, Some, None, cond}, Option.{option_map_or, unwrap_or}, Ordering.eq_by_cmp}
use Rattle.std.specs.FinMap.{get-insert, get-remove}
use mathlib.Core.Bool.{true≢false}
use Rattle.xa_xid.specs.declared.{xid.Xid.Xid, statement.Statement.{Statement, TheVariants.{Start, End, Prepare}}}
use Rattle.xa_xid.specs.declared.statement.Statement.TheVariants.{Commit, Rollback, Recover, Unsupported, Get, Put, Del}
use Rattle.xa_xid.specs.{declared.statement.Statement.TheVariants.Disconnect, Xid.{Text, bytes_cmp, xid_cmp}}
use Rattle.xa_xid.proofs.Orders.{bytes_total, exact_texts}
use Rattle.xa_server.specs.declared.branch.Phase.TheVariants.{Idle as PhaseIdle, Prepared as PhasePrepared}
use Rattle.xa_server.specs.declared.{reply.Reply.Reply, xa_error.{XaError.XaError, BranchState.TheVariants.NonExisting}}
use Rattle.xa_server.specs.declared.association.Association.{Association, TheVariants.{Free, Active, Idle}}
use Rattle.xa_server.specs.State.{Write, Branch, State, own_xid, association_of, write_at, prepared_xids}
use Rattle.xa_server.specs.{Locks.{is_held_against, is_locked_against}, Replies.{refused_if, table, reply_to}}
use Rattle.xa_server.specs.Step.{with_changed, with_write, with_writes, with_lock, with_own_write, without_branch}
use Rattle.xa_server.specs.Step.{committed, row_written, is_refused, unless_refused, effect, after}
use Rattle.xa_server.proofs.{Maps.{same_or_apart, get_inserted_apart, get_removed_apart}, Steps.same_state}
use Rattle.xa_judge.specs.declared.request.Request.{Request, TheVariants.{Statement as Given, Unread}}
use Rattle.xa_judge.specs.{Explained.{answer_to, next_state}, Near.{AreNear, ReadsNamed}}
use Rattle.std.specs.FinMap as map

-- the committed values of rows, by their keys
abbrev Rows : Type 0
Rows = map.FinMap bytes_cmp Text

-- the branches of a state, by their identifiers
abbrev Branches : Type 0
Branches = map.FinMap xid_cmp Branch

-- a state made of these branches and committed values
abbrev state_at : Branches → Rows → State
state_at branches rows = record { branches = branches; rows = rows }

-- rows that have the same values where they are named
abbrev Agree : (List ℕ → Bool) → Rows → Rows → Type 0
Agree named left right = (key : List ℕ) → named key ≡ true → map.get left key ≡ map.get right key

-- ---- rows

-- one write in both keeps committed values that agree on the named rows agreeing
write_agrees : (named : List ℕ → Bool) (key : List ℕ) (write : Write) (left right : Rows) → Agree named left right
    → Agree named (with_write key write left) (with_write key write right)
write_agrees named key (Some value) left right agree other is =
    get-insert bytes_total left key value other ∙ ap (cond (eq_by_cmp bytes_cmp other key) (Some value))
    (agree other is)
    ∙ sym (get-insert bytes_total right key value other)
write_agrees named key None left right agree other is =
    get-remove bytes_total left key other ∙ ap (cond (eq_by_cmp bytes_cmp other key) None) (agree other is)
    ∙ sym (get-remove bytes_total right key other)

-- several writes in both keep committed values that agree on the named rows agreeing
writes_agree : (named : List ℕ → Bool) (writes : List (List ℕ × Write)) (left right : Rows) → Agree named left right
    → Agree named (with_writes writes left) (with_writes writes right)
writes_agree named [] left right agree = agree
writes_agree named (write ∷ writes) left right agree =
    write_agrees named write.0 write.1 (with_writes writes left) (with_writes writes right)
    (writes_agree named writes left right agree)

-- committed values that agree on the named rows still do once a row that isn't named is written on the left alone
unnamed_agrees : (named : List ℕ → Bool) (key : List ℕ) (write : Write) (left right : Rows) → Agree named left right
    → named key ≡ false
    → Agree named (with_write key write left) right
unnamed_agrees named key write left right agree unnamed other is =
    grind (arith, bytes_total, exact_texts, get_inserted_apart, get_removed_apart, same_or_apart)

-- ---- replies

-- the table answers a statement that reads only named rows alike on the same branches, if these rows agree
table_agrees : (named : List ℕ → Bool) (branches : Branches) (left right : Rows) → Agree named left right
    → (association : Association) (statement : Statement)
    → ReadsNamed named (Given statement) → table (state_at branches left) association statement
    ≡ table (state_at branches right) association statement
unfolding table prepared_xids is_held_against is_locked_against
table_agrees named branches left right agree association statement reads = grind (arith)

-- what a session has open doesn't depend on committed values
association_agrees : (branches : Branches) (left right : Rows) (session : ℕ)
    → association_of (state_at branches left) session ≡ association_of (state_at branches right) session
unfolding association_of own_xid
association_agrees branches left right session = refl

-- a statement that reads only named rows is answered alike by states of the same branches that agree on these rows
reply_agrees : (named : List ℕ → Bool) (branches : Branches) (left right : Rows) → Agree named left right
    → (session : ℕ) (statement : Statement)
    → ReadsNamed named (Given statement) → reply_to (state_at branches left) session statement
    ≡ reply_to (state_at branches right) session statement
unfolding reply_to
reply_agrees named branches left right agree session statement reads = grind (arith, association_agrees, table_agrees)

-- whether `refused_if` refuses depends on its test, not on the value that would be returned
refusal_of_get : (b : Bool) (error : XaError) (left right : Option Text)
    → is_refused (refused_if b error (Reply.Value left)) ≡ is_refused (refused_if b error (Reply.Value right))
refusal_of_get b error left right = grind (arith)

-- no row is named, so that all rows agree
none_named : List ℕ → Bool
none_named key = false

-- any rows agree where none is named
all_agree : (left right : Rows) → Agree none_named left right
unfolding none_named
all_agree left right key is = absurd (true≢false (sym is))

-- whether a statement is refused never depends on committed values
refusal_agrees : (branches : Branches) (left right : Rows) (association : Association) (statement : Statement)
    → is_refused (table (state_at branches left) association statement)
    ≡ is_refused (table (state_at branches right) association statement)
unfolding table is_locked_against
refusal_agrees branches left right association (Start xid) =
    ap is_refused (table_agrees none_named branches left right (all_agree left right) association (Start xid) tt)
refusal_agrees branches left right association (End xid) =
    ap is_refused (table_agrees none_named branches left right (all_agree left right) association (End xid) tt)
refusal_agrees branches left right association (Prepare xid) =
    ap is_refused (table_agrees none_named branches left right (all_agree left right) association (Prepare xid) tt)
refusal_agrees branches left right association (Commit xid one_phase) =
    ap is_refused (table_agrees none_named branches left right (all_agree left right) association
    (Commit xid one_phase) tt)
refusal_agrees branches left right association (Rollback xid) =
    ap is_refused (table_agrees none_named branches left right (all_agree left right) association (Rollback xid) tt)
refusal_agrees branches left right association (Recover convert) =
    ap is_refused (table_agrees none_named branches left right (all_agree left right) association (Recover convert) tt)
refusal_agrees branches left right association Unsupported =
    ap is_refused (table_agrees none_named branches left right (all_agree left right) association Unsupported tt)
refusal_agrees branches left right Free (Get key) = refl
refusal_agrees branches left right (Active own) (Get key) =
    refusal_of_get (is_locked_against (state_at branches left) (Active own) key) XaError.RowLocked
    (unwrap_or (write_at (state_at branches left) own key) (map.get left key))
    (unwrap_or (write_at (state_at branches right) own key) (map.get right key))
refusal_agrees branches left right (Idle own) (Get key) = refl
refusal_agrees branches left right association (Put key value) =
    ap is_refused (table_agrees none_named branches left right (all_agree left right) association (Put key value) tt)
refusal_agrees branches left right association (Del key) =
    ap is_refused (table_agrees none_named branches left right (all_agree left right) association (Del key) tt)
refusal_agrees branches left right association Disconnect =
    ap is_refused (table_agrees none_named branches left right (all_agree left right) association Disconnect tt)

-- ---- what statements do

-- states of the same branches are near if their committed values agree on the named rows
near_at : (named : List ℕ → Bool) (branches : Branches) (left right : Rows) → Agree named left right
    → AreNear named (state_at branches left) (state_at branches right)
near_at named branches left right agree = record { branches = refl; rows = agree }

-- changing the same branch in two near states leaves near states
near_changed : (named : List ℕ → Bool) (branches : Branches) (left right : Rows) → Agree named left right
    → (xid : Xid) (change : Branch → Branch)
    → AreNear named (with_changed (state_at branches left) xid change)
    (with_changed (state_at branches right) xid change)
near_changed named branches left right agree xid change = grind (arith)

-- committing the same branch in two near states leaves near states
near_committed : (named : List ℕ → Bool) (branches : Branches) (left right : Rows) → Agree named left right
    → (xid : Xid)
    → AreNear named (committed (state_at branches left) xid) (committed (state_at branches right) xid)
unfolding committed
near_committed named branches left right agree xid = by (map.get branches xid)
  where
    by : (found : Option Branch) → AreNear named
        (option_map_or (λ branch. record (without_branch (state_at branches left) xid)
        { rows = with_writes (map.entries branch.writes) left })
        found (state_at branches left))
        (option_map_or (λ branch. record (without_branch (state_at branches right) xid)
        { rows = with_writes (map.entries branch.writes) right })
        found (state_at branches right))
    by None = near_at named branches left right agree
    by (Some branch) =
        near_at named (map.remove branches xid) (with_writes (map.entries branch.writes) left)
        (with_writes (map.entries branch.writes) right)
        (writes_agree named (map.entries branch.writes) left right agree)

-- the same write in two near states leaves near states
near_written : (named : List ℕ → Bool) (branches : Branches) (left right : Rows) → Agree named left right
    → (association : Association) (key : List ℕ) (write : Write)
    → AreNear named (row_written (state_at branches left) association key write)
    (row_written (state_at branches right) association key write)
near_written named branches left right agree Free key write =
    near_at named branches (with_write key write left) (with_write key write right)
    (write_agrees named key write left right agree)
near_written named branches left right agree (Active own) key write =
    near_changed named branches left right agree own (with_own_write key write)
near_written named branches left right agree (Idle own) key write = near_at named branches left right agree

-- the effect of a statement on states that agree on the named rows leaves states that do
near_effect : (named : List ℕ → Bool) (branches : Branches) (left right : Rows) → Agree named left right
    → (session : ℕ) (association : Association) (statement : Statement)
    → AreNear named (effect (state_at branches left) session association statement)
    (effect (state_at branches right) session association statement)
unfolding effect
near_effect named branches left right agree session association (Start xid) = near_at named _ left right agree
near_effect named branches left right agree session association (End xid) =
    near_changed named branches left right agree xid (λ branch. record branch { phase = PhaseIdle })
near_effect named branches left right agree session association (Prepare xid) =
    near_changed named branches left right agree xid (λ branch. record branch { phase = PhasePrepared; owner = None })
near_effect named branches left right agree session association (Commit xid one_phase) =
    near_committed named branches left right agree xid
near_effect named branches left right agree session association (Rollback xid) =
    near_at named (map.remove branches xid) left right agree
near_effect named branches left right agree session association (Recover convert) =
    near_at named branches left right agree
near_effect named branches left right agree session association Unsupported = near_at named branches left right agree
near_effect named branches left right agree session Free (Get key) = near_at named branches left right agree
near_effect named branches left right agree session (Active own) (Get key) =
    near_changed named branches left right agree own (with_lock key)
near_effect named branches left right agree session (Idle own) (Get key) = near_at named branches left right agree
near_effect named branches left right agree session association (Put key value) =
    near_written named branches left right agree association key (Some value)
near_effect named branches left right agree session association (Del key) =
    near_written named branches left right agree association key None
near_effect named branches left right agree session Free Disconnect = near_at named branches left right agree
near_effect named branches left right agree session (Active own) Disconnect =
    near_at named (map.remove branches own) left right agree
near_effect named branches left right agree session (Idle own) Disconnect =
    near_at named (map.remove branches own) left right agree

-- after a statement the state is the old one if its reply is a refusal, and else the new one
by_refusal : (reply : Reply) (old new : State) → unless_refused reply old new ≡ cond (is_refused reply) old new
by_refusal reply old new = grind (arith)

-- if the old states are near, and the new ones too, so are those that are left if both or neither is refused
near_either : (named : List ℕ → Bool) (refused : Bool) (old new other other_new : State) → AreNear named old other
    → AreNear named new other_new
    → AreNear named (cond refused old new) (cond refused other other_new)
near_either named refused old new other other_new before later = grind (arith)

-- if the old states are near, and the new ones too, so are those left by two replies, both refusals or neither
near_unless : (named : List ℕ → Bool) (reply other_reply : Reply) (old new other other_new : State)
    → is_refused reply ≡ is_refused other_reply
    → AreNear named old other → AreNear named new other_new
    → AreNear named (unless_refused reply old new) (unless_refused other_reply other other_new)
near_unless named reply other_reply old new other other_new same before later = grind (arith)

-- a statement leaves near states near, whatever it reads: here of states given by branches and rows
after_at : (named : List ℕ → Bool) (branches : Branches) (left right : Rows) → Agree named left right
    → (session : ℕ) (statement : Statement)
    → AreNear named (after (state_at branches left) session statement)
    (after (state_at branches right) session statement)
unfolding after reply_to association_of own_xid
after_at named branches left right agree session statement =
    search (rules, arith, near_at, near_effect, near_unless, refusal_agrees)

-- ---- near states

-- of two near states, the left one's branches with the right one's rows make the right one
right_is : (named : List ℕ → Bool) (left right : State) → AreNear named left right
    → state_at left.branches right.rows ≡ right
right_is named left right near = same_state (state_at left.branches right.rows) right near.branches refl

-- a request that reads only named rows is answered alike by near states
pub near_answer : (named : List ℕ → Bool) (left right : State) (session : ℕ) (request : Request)
    → AreNear named left right → ReadsNamed named request
    → answer_to left session request ≡ answer_to right session request
near_answer named left right session request near reads = grind (arith, reply_agrees)

-- a statement leaves near states near, whatever it reads
pub near_after : (named : List ℕ → Bool) (left right : State) (session : ℕ) (statement : Statement)
    → AreNear named left right
    → AreNear named (after left session statement) (after right session statement)
near_after named left right session statement near =
    let P : State → Type 0 = λ s. AreNear named (after left session statement) (after s session statement) in
    subst P (right_is named left right near)
    (after_at named left.branches left.rows right.rows near.rows session statement)

-- a request leaves near states near, whatever it reads
pub near_next : (named : List ℕ → Bool) (left right : State) (session : ℕ) (request : Request)
    → AreNear named left right
    → AreNear named (next_state left session request) (next_state right session request)
near_next named left right session Unread near = near
near_next named left right session (Given statement) near = near_after named left right session statement near

-- if the state before a write and the one after it are near another state, so is the one that is left, whether the
-- write is refused or done
near_refusable : (named : List ℕ → Bool) (refused : Bool) (old new other : State) → AreNear named old other
    → AreNear named new other
    → AreNear named (unless_refused (refused_if refused XaError.RowLocked Reply.Ok) old new) other
near_refusable named refused old new other before later = grind (arith)

-- the left state with a row written that isn't named is still near the right one
near_unnamed : (named : List ℕ → Bool) (left right : State) (key : List ℕ) (write : Write) → AreNear named left right
    → named key ≡ false
    → AreNear named (record left { rows = with_write key write left.rows }) right
near_unnamed named left right key write near unnamed =
    record { branches = near.branches; rows = unnamed_agrees named key write left.rows right.rows near.rows unnamed }

-- a free session's PUT of a row that isn't named leaves near states, where it is left out on the right
pub near_put : (named : List ℕ → Bool) (left right : State) (session : ℕ) (key : List ℕ) (value : Text)
    → AreNear named left right
    → association_of left session ≡ Free → named key ≡ false → AreNear named (after left session (Put key value)) right
unfolding after reply_to table effect
near_put named left right session key value near free unnamed =
    let P : Association → Type 0 =
    λ a. AreNear named (unless_refused (table left a (Put key value)) left
    (effect left session a (Put key value))) right in
    subst P (sym free)
    (near_refusable named (is_held_against left Free key) left
    (record left { rows = with_write key (Some value) left.rows }) right near
    (near_unnamed named left right key (Some value) near unnamed))

-- a free session's DEL of a row that isn't named leaves near states, where it is left out on the right
pub near_del : (named : List ℕ → Bool) (left right : State) (session : ℕ) (key : List ℕ) → AreNear named left right
    → association_of left session ≡ Free → named key ≡ false → AreNear named (after left session (Del key)) right
unfolding after reply_to table effect
near_del named left right session key near free unnamed =
    let P : Association → Type 0 = λ a. AreNear named (unless_refused (table left a (Del key)) left
    (effect left session a (Del key))) right in
    subst P (sym free)
    (near_refusable named (is_held_against left Free key) left
    (record left { rows = with_write key None left.rows }) right near
    (near_unnamed named left right key None near unnamed))

-- a state is near itself
pub near_refl : (named : List ℕ → Bool) (state : State) → AreNear named state state
near_refl named state = record { branches = refl; rows = λ key is. refl }

-- near states are so in either order
pub near_sym : (named : List ℕ → Bool) (left right : State) → AreNear named left right → AreNear named right left
near_sym named left right near = record { branches = sym near.branches; rows = λ key is. sym (near.rows key is) }

-- a session whose XA END is refused with the state NON-EXISTING has no branch open
pub free_told : (state : State) (session : ℕ) (xid : Xid) (reply : Reply) → reply ≡ reply_to state session (End xid)
    → reply ≡ Reply.Refused (XaError.Rmfail NonExisting)
    → association_of state session ≡ Free
unfolding reply_to table
free_told state session xid reply told is = grind (arith)
