-- A statement that doesn't enter the history changes nothing.
use Rattle.std.{proofs.Common.{◌≡◌, ℕ, refl, ap, sym, ◌∙◌, Bool, true, false}, specs.Prelude.{not, ◌&&◌}}
use mathlib.Core.Bool.{true≢false}
use Rattle.xa_xid.specs.declared.statement.Statement.{Statement}
use Rattle.xa_server.specs.declared.association.Association.{Association, TheVariants.{Free, Active, Idle}}
use Rattle.xa_server.specs.{State.{State, association_of}, Locks.holds, Replies.reply_to}
use Rattle.xa_server.{specs.Step.{effect, is_refused, after, enters, may_enter}, proofs.Accepted.locked_again}
use Rattle.xa_server.proofs.Changes.{refused_leaves, accepted_done}

-- if the negation of a test fails, the test holds
refuted : (b : Bool) → not b ≡ false → b ≡ true
refuted true e = refl
refuted false e = absurd (true≢false e)

-- a statement that isn't logged if it is accepted has no effect
idles : (state : State) (session : ℕ) (association : Association) (statement : Statement)
    → may_enter state association statement ≡ false
    → effect state session association statement ≡ state
unfolding effect may_enter
idles state session association (Statement.Start xid) e = absurd (true≢false e)
idles state session association (Statement.End xid) e = absurd (true≢false e)
idles state session association (Statement.Prepare xid) e = absurd (true≢false e)
idles state session association (Statement.Commit xid one_phase) e = absurd (true≢false e)
idles state session association (Statement.Rollback xid) e = absurd (true≢false e)
idles state session association (Statement.Recover convert) e = refl
idles state session association Statement.Unsupported e = refl
idles state session Free (Statement.Get key) e = refl
idles state session (Active own) (Statement.Get key) e = locked_again state own key (refuted (holds state own key) e)
idles state session (Idle own) (Statement.Get key) e = refl
idles state session association (Statement.Put key value) e = absurd (true≢false e)
idles state session association (Statement.Del key) e = absurd (true≢false e)
idles state session Free Statement.Disconnect e = refl
idles state session (Active own) Statement.Disconnect e = absurd (true≢false e)
idles state session (Idle own) Statement.Disconnect e = absurd (true≢false e)

-- a statement that doesn't enter was refused, or only looks: the state stays
pub unentered_leaves : (state : State) (session : ℕ) (statement : Statement) → enters state session statement ≡ false
    → after state session statement ≡ state
unfolding enters
unentered_leaves state session statement e = by (is_refused (reply_to state session statement)) refl
  where
    by : (b : Bool) → is_refused (reply_to state session statement) ≡ b → after state session statement ≡ state
    by true refused = refused_leaves state session statement refused
    by false accepted = accepted_done state session statement accepted
        ∙ idles state session (association_of state session) statement
        (sym (ap (λ b. not b && may_enter state (association_of state session) statement) accepted) ∙ e)
