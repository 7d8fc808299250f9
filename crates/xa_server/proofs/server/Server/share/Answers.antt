use Rattle.std.proofs.Common.{◌≡◌, ℕ, List, ap, ◌∙◌, true, false}
use Rattle.xa_xid.specs.declared.xid.Xid.{Xid}
use Rattle.xa_server.specs.{declared.association.Association.TheVariants.Active, State.{State, is_known}}
use Rattle.xa_server.specs.{Locks.{holds, is_locked_against}, Step.{with_changed, with_lock}}
use Rattle.xa_server.specs.{Tables.{BranchMap, with_record}, Rows.{RowMap, shared_row}, View.{state_of, IsWhole}}
use Rattle.xa_server.proofs.Outcomes.{whichever, on_ok_both, on_err_both}
use Rattle.std.specs.FinMap as map
use Rattle.xa_server.proofs.Holding
use Rattle.xa_server.proofs.server.Server.share.Goals as goal

anew : (branches : BranchMap) (rows : RowMap) (state : State) (own : Xid) (key : List ℕ)
    → state_of branches rows ≡ state → IsWhole branches rows
    → is_known state own ≡ true →
    is_locked_against state (Active own) key ≡ false → holds state own key ≡ false →
    IsWhole (with_record branches own (Holding.longer key)) (map.insert rows key (shared_row own (map.get rows key)))
    × (state_of (with_record branches own (Holding.longer key))
    (map.insert rows key (shared_row own (map.get rows key)))
    ≡ with_changed state own (with_lock key))
anew branches rows state own key is whole known unlocked unheld =
    let result =
    Holding.shared_anew branches rows own key whole (ap (λ s. is_known s own) is ∙ known)
    (ap (λ s. is_locked_against s (Active own) key) is ∙ unlocked)
    (ap (λ s. holds s own key) is ∙ unheld) in
    (result.0, result.1 ∙ ap (λ s. with_changed s own (with_lock key)) is)

-- the records once the key was taken out again
back : (branches listed taken : BranchMap) (own : Xid) (key : List ℕ)
    → listed ≡ with_record branches own (Holding.longer key)
    → taken ≡ with_record listed own Holding.shorter → taken ≡ branches
back branches listed taken own key l t =
    t ∙ ap (λ b. with_record b own Holding.shorter) l ∙ Holding.unlisted branches own key

pub invariant_of-self-2 : goal.invariant_of-self-2
unfolding Holding.longer Holding.shorter
invariant_of-self-2 c =
    whichever c.share-shared.result c.share-shared.ensures.ok c.share-shared.ensures.err c.unlist_refused.ensures.held
    c.unlist_refused.ensures.refused
    (λ ok kept. rw (
      kept ∙ (Holding.changed_as c.self.inside.branches c.list.new.self c.args.own.now c.xid-xid.result.now
          (Holding.longer c.args.key.now) c.xid-xid.ensures c.in_ok-list.ensures.ok),
      ok,
    )
    (anew c.self.inside.branches c.self.inside.rows c.args.self.now c.args.own.now c.args.key.now c.self.view_is
    c.self.invariant c.requires.known
    c.requires.unlocked c.requires.new_lock).0)
    (λ err taken. rw (
      back c.self.inside.branches c.list.new.self c.unlist_refused.new.branches c.args.own.now c.args.key.now
          (Holding.changed_as c.self.inside.branches c.list.new.self c.args.own.now c.xid-xid.result.now
          (Holding.longer c.args.key.now) c.xid-xid.ensures c.in_ok-list.ensures.ok)
          (Holding.changed_as c.list.new.self c.unlist_refused.new.branches c.args.own.now c.xid-xid.result.now
          Holding.shorter c.xid-xid.ensures taken),
      err,
    ) c.self.invariant)

pub returns-clause-err : goal.returns-clause-err
unfolding Holding.longer Holding.shorter
returns-clause-err c =
    on_err_both c.share-shared.result c.share-shared.ensures.err c.unlist_refused.ensures.refused (λ err taken.
    ap (λ b. state_of b c.share-shared.new.self)
    (back c.self.inside.branches c.list.new.self c.unlist_refused.new.branches c.args.own.now c.args.key.now
    (Holding.changed_as c.self.inside.branches c.list.new.self c.args.own.now c.xid-xid.result.now
    (Holding.longer c.args.key.now) c.xid-xid.ensures c.in_ok-list.ensures.ok)
    (Holding.changed_as c.list.new.self c.unlist_refused.new.branches c.args.own.now c.xid-xid.result.now
    Holding.shorter c.xid-xid.ensures taken))
    ∙ ap (state_of c.self.inside.branches) err ∙ c.self.view_is)

pub returns-clause-ok : goal.returns-clause-ok
unfolding Holding.longer
returns-clause-ok c =
    on_ok_both c.share-shared.result c.share-shared.ensures.ok c.unlist_refused.ensures.held (λ ok kept.
    ap (λ b. state_of b c.share-shared.new.self)
    (kept ∙ (Holding.changed_as c.self.inside.branches c.list.new.self c.args.own.now c.xid-xid.result.now
    (Holding.longer c.args.key.now) c.xid-xid.ensures c.in_ok-list.ensures.ok))
    ∙ ap (state_of (with_record c.self.inside.branches c.args.own.now (Holding.longer c.args.key.now))) ok
    ∙ (anew c.self.inside.branches c.self.inside.rows c.args.self.now c.args.own.now c.args.key.now c.self.view_is
    c.self.invariant c.requires.known
    c.requires.unlocked c.requires.new_lock).1)
