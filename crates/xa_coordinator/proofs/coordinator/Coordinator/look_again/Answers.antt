use Rattle.std.proofs.Common.{◌≡◌, ℕ, List, Option, false, ap, ◌∙◌, subst, inr, ◌<◌, ◌^◌, true}
use Rattle.std.specs.{Prelude.slice_get, List.list_any}
use Rattle.xa_xid.specs.{declared.{xid.Xid.Xid, statement.Statement.TheVariants.Recover}, Xid.{Text, same_xid}}
use Rattle.xa_coordinator.specs.declared.{fault.Cause.TheVariants.Session, branches.OpenBranch.OpenBranch}
use Rattle.xa_coordinator.{specs.{Branch.branch_xid, Told.IsUndone}, proofs.Walk.{at_then, at_weaker}}
use Rattle.xa_coordinator.specs.Recovery.{ListsPrepared, IsClear, IsSettled, IsCutOff, unlisted_again, IsStillPrepared}
use Rattle.xa_coordinator.proofs.Listed.{listed_prepared, none_left_there}
use Rattle.xa_coordinator.proofs.coordinator.Coordinator.look_again.Goals as goal

pub returns-in-Ok-clause-clear : goal.returns-in-Ok-clause-clear
returns-in-Ok-clause-clear g c =
    let me = c.args.self.now in
    at_weaker g.S.Speak.view c.args.store (ListsPrepared c.in-Ok.found.0 c.in-Ok.found.1)
    (IsClear me.name.items c.args.store c.in-Ok.found.1)
    (λ a b is. record {
      xids = c.in-Ok.found.0;
      listed = is;
      none_left = none_left_there me.name.items c.args.store c.in-Ok.found.0 c.in-Ok.found.1 a b is
          (subst (λ (xids : List Xid). (number : ℕ) → number < 2 ^ 64
          → list_any (same_xid (branch_xid me.name.items number c.args.store)) xids ≡ false)
          c.as_slice.ensures
          (subst (λ (name : Text). (number : ℕ) → number < 2 ^ 64
          → list_any (same_xid (branch_xid name.items number c.args.store)) c.as_slice.result.now
          ≡ false) c.in-Ok.ensures.name c.in-None.ensures.none));
    }) me.stores.items c.prepared_in-listed.new.self.stores.items c.in-Ok.ensures.listed

pub returns-in-Some-clause-fails : goal.returns-in-Some-clause-fails
returns-in-Some-clause-fails g c = λ decisions tally marks before count settled.
    let me = c.args.self.now in (
      ap (λ (list : List (Option OpenBranch)). slice_get list c.args.store) c.in-Ok.ensures.marks ∙ c.requires.free,
      at_then g.S.Speak.view c.args.store (IsSettled decisions me.name.items c.args.store tally)
          (ListsPrepared c.in-Ok.found.0 c.in-Ok.found.1)
          (IsStillPrepared decisions me.name.items c.args.store)
          (λ a m b done is. record {
            tally = tally;
            finished = m;
            settled = done;
            xids = c.in-Ok.found.0;
            place = c.in-Ok.found.1;
            listed = is;
            number = c.in-Some._number;
            fits = c.in-Some.ensures.fits;
            prepared = listed_prepared c.in-Ok.found.0 c.in-Ok.found.1 m b is
                (branch_xid me.name.items c.in-Some._number c.args.store)
                ∙ subst (λ (xids : List Xid). list_any (same_xid
                (branch_xid me.name.items c.in-Some._number c.args.store)) xids ≡ true) c.as_slice.ensures
                (subst (λ (name : Text). list_any (same_xid (branch_xid name.items c.in-Some._number c.args.store))
                c.as_slice.result.now ≡ true)
                c.in-Ok.ensures.name c.in-Some.ensures.some);
          }) before me.stores.items c.prepared_in-listed.new.self.stores.items count settled c.in-Ok.ensures.listed,
    )

pub returns-clause-fails : goal.returns-clause-fails
returns-clause-fails g c = λ decisions tally marks before count settled.
    let me = c.args.self.now in
    inr (
      ap (λ (list : List (Option OpenBranch)). slice_get list c.args.store) c.in-Err.ensures.marks ∙ c.requires.free,
      at_then g.S.Speak.view c.args.store (IsSettled decisions me.name.items c.args.store tally)
          (IsUndone (Recover false) (Session c.in-Err.fault))
          (λ a b. IsCutOff decisions me.name.items c.args.store a (Session c.in-Err.fault) b)
          (λ a m b done undone. unlisted_again tally m done c.in-Err.fault b undone) before me.stores.items
          c.prepared_in-listed.new.self.stores.items count settled
          c.in-Err.ensures.undone,
    )
