use Rattle.std.proofs.{Common.{◌≡◌, ℕ, Bool, true, false, refl, ap, sym, ◌∙◌, rules, tests}, lemmas.Bool.false≢true}
use Rattle.xa_xid.specs.{declared.{xid.Xid.Xid, statement.Statement.TheVariants.{End, Prepare}}, Xid.same_xid}
use Rattle.xa_server.specs.declared.{association.Association.Association, xa_error.XaError.{XaError, TheVariants.Nota}}
use Rattle.xa_server.specs.{State.{State, association_of}, Replies.{table, reply_to, ok_if}, Step.is_refused}
use Rattle.xa_judge.specs.Apart.{IsBeside}
use Rattle.xa_judge.proofs.apart.is_beside.Goals as goal

-- if a reply that accepts only where a test holds is a refusal, the test fails
failed : (b : Bool) (error : XaError) → is_refused (ok_if b error) ≡ true → b ≡ false
failed true error e = absurd (false≢true e)
failed false error e = refl

-- a session for which XA END and XA PREPARE of the branch are refused hasn't the branch open
beside_of : (state : State) (session : ℕ) (xid : Xid) → is_refused (reply_to state session (End xid)) ≡ true
    → is_refused (reply_to state session (Prepare xid)) ≡ true → IsBeside (association_of state session) xid
unfolding reply_to table
beside_of state session xid end prepare = by (association_of state session) end prepare
  where
    by : (a : Association) → is_refused (table state a (End xid)) ≡ true
        → is_refused (table state a (Prepare xid)) ≡ true → IsBeside a xid
    by Association.Free end prepare = tt
    by (Association.Active own) end prepare = failed (same_xid xid own) Nota end
    by (Association.Idle own) end prepare = failed (same_xid xid own) Nota prepare

pub returns : goal.returns
returns c = λ e.
    let state = c.args.server.now in
    let session = c.args.session in
    let first : c.in_ok-is_refused_now.field-0 ≡ true = search (rules, tests) in
    beside_of state session c.args.xid.now
    (ap (λ x. is_refused (reply_to state session (End x))) (sym c.copy.ensures) ∙ sym c.in_ok-is_refused_now.ensures
    ∙ first)
    (ap (λ x. is_refused (reply_to state session (Prepare x))) (sym c.copy-2.ensures) ∙ sym c.in_ok-yes.ensures ∙ e)
