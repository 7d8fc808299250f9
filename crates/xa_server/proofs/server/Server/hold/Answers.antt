use Rattle.std.{proofs.Common.{◌≡◌, ℕ, List, ap, sym, ◌∙◌, Bool, true, false, Option}, specs.Prelude.is_some}
use Rattle.std.specs.Option.{option_and_then}
use Rattle.xa_xid.specs.declared.xid.Xid.{Xid}
use Rattle.xa_server.specs.declared.{association.Association.TheVariants.Active, lock.Change.Change}
use Rattle.xa_server.specs.{Recorded.RowRecord, State.{State, is_known}, Locks.is_held_against, Step.with_changed}
use Rattle.xa_server.specs.{Tables.{BranchMap, with_record}, Rows.{RowMap, held_row, with_change, lock_by}}
use Rattle.xa_server.specs.View.{state_of, IsWhole}
use Rattle.xa_server.proofs.Outcomes.{either_way, on_ok, whichever, on_ok_both, on_err_both}
use Rattle.std.specs.FinMap as map
use Rattle.xa_server.proofs.Holding
use Rattle.xa_server.proofs.server.Server.hold.Goals as goal

-- what a row's record says of the branch
lock_in : (rows : RowMap) (own named : Xid) (key : List ℕ) (b : Bool) → named ≡ own
    → b ≡ is_some (option_and_then (lock_by named) (map.get rows key))
    → is_some (option_and_then (lock_by own) (map.get rows key)) ≡ b
lock_in rows own named key b same told =
    ap (λ xid. is_some (option_and_then (lock_by xid) (map.get rows key))) (sym same) ∙ sym told

-- the rows, held by a name of the branch
held_as : (rows new : RowMap) (own holder : Xid) (key : List ℕ) (change : Change) → holder ≡ own
    → new ≡ map.insert rows key (held_row holder change (map.get rows key))
    → new ≡ map.insert rows key (held_row own change (map.get rows key))
held_as rows new own holder key change same is =
    is ∙ ap (λ xid. map.insert rows key (held_row xid change (map.get rows key))) same

again : (branches : BranchMap) (rows : RowMap) (state : State) (own : Xid) (key : List ℕ) (change : Change)
    → state_of branches rows ≡ state
    → IsWhole branches rows → is_known state own ≡ true →
    is_held_against state (Active own) key ≡ false → is_some (option_and_then (lock_by own) (map.get rows key)) ≡ true →
    IsWhole branches (map.insert rows key (held_row own change (map.get rows key)))
    × (state_of branches (map.insert rows key (held_row own change (map.get rows key)))
    ≡ with_changed state own (with_change key change))
again branches rows state own key change is whole known unheld there =
    let result =
    Holding.held_again branches rows own key change whole (ap (λ s. is_known s own) is ∙ known)
    (ap (λ s. is_held_against s (Active own) key) is ∙ unheld) there in
    (result.0, result.1 ∙ ap (λ s. with_changed s own (with_change key change)) is)

anew : (branches : BranchMap) (rows : RowMap) (state : State) (own : Xid) (key : List ℕ) (change : Change)
    → state_of branches rows ≡ state
    → IsWhole branches rows → is_known state own ≡ true →
    is_held_against state (Active own) key ≡ false → is_some (option_and_then (lock_by own) (map.get rows key)) ≡ false
    →
    IsWhole (with_record branches own (Holding.longer key))
    (map.insert rows key (held_row own change (map.get rows key)))
    × (state_of (with_record branches own (Holding.longer key))
    (map.insert rows key (held_row own change (map.get rows key)))
    ≡ with_changed state own (with_change key change))
anew branches rows state own key change is whole known unheld none =
    let result =
    Holding.held_anew branches rows own key change whole (ap (λ s. is_known s own) is ∙ known)
    (ap (λ s. is_held_against s (Active own) key) is ∙ unheld) none in
    (result.0, result.1 ∙ ap (λ s. with_changed s own (with_change key change)) is)

pub invariant_of-self : goal.invariant_of-self
invariant_of-self c =
    either_way c.hold.result c.hold.ensures.ok c.hold.ensures.err
    (λ ok. rw (held_as c.self.inside.rows _ c.args.own.now _ c.args.key.now c.args.change c.in_ok-holder.ensures ok)
    (again c.self.inside.branches c.self.inside.rows c.args.self.now c.args.own.now c.args.key.now c.args.change
    c.self.view_is c.self.invariant
    c.requires.known c.requires.unheld
    (lock_in c.self.inside.rows c.args.own.now c.xid-xid.result.now c.args.key.now _ c.xid-xid.ensures
    c.if-is_held_by.ensures)).0)
    (λ err. rw err c.self.invariant)

pub returns-then-is_held_by-clause-ok : goal.returns-then-is_held_by-clause-ok
returns-then-is_held_by-clause-ok c = on_ok c.hold.result c.hold.ensures.ok (λ ok.
    ap (state_of c.self.inside.branches)
    (held_as c.self.inside.rows _ c.args.own.now _ c.args.key.now c.args.change c.in_ok-holder.ensures ok)
    ∙ (again c.self.inside.branches c.self.inside.rows c.args.self.now c.args.own.now c.args.key.now c.args.change
    c.self.view_is c.self.invariant
    c.requires.known c.requires.unheld
    (lock_in c.self.inside.rows c.args.own.now c.xid-xid.result.now c.args.key.now _ c.xid-xid.ensures
    c.if-is_held_by.ensures)).1)

-- the records once the key was taken out again
back : (branches listed taken : BranchMap) (own : Xid) (key : List ℕ)
    → listed ≡ with_record branches own (Holding.longer key)
    → taken ≡ with_record listed own Holding.shorter → taken ≡ branches
back branches listed taken own key l t =
    t ∙ ap (λ b. with_record b own Holding.shorter) l ∙ Holding.unlisted branches own key

pub invariant_of-self-2 : goal.invariant_of-self-2
unfolding Holding.longer Holding.shorter
invariant_of-self-2 c =
    whichever c.hold-held.result c.hold-held.ensures.ok c.hold-held.ensures.err c.unlist_refused.ensures.held
    c.unlist_refused.ensures.refused
    (λ ok kept. rw (
      kept ∙ (Holding.changed_as c.self.inside.branches c.list.new.self c.args.own.now c.xid-xid.result.now
          (Holding.longer c.args.key.now) c.xid-xid.ensures c.in_ok-list.ensures.ok),
      (held_as c.self.inside.rows _ c.args.own.now _ c.args.key.now c.args.change c.in_ok-holder.ensures ok),
    )
    (anew c.self.inside.branches c.self.inside.rows c.args.self.now c.args.own.now c.args.key.now c.args.change
    c.self.view_is c.self.invariant c.requires.known
    c.requires.unheld
    (lock_in c.self.inside.rows c.args.own.now c.xid-xid.result.now c.args.key.now _ c.xid-xid.ensures
    c.if-is_held_by.ensures)).0)
    (λ err taken. rw (
      back c.self.inside.branches c.list.new.self c.unlist_refused.new.branches c.args.own.now c.args.key.now
          (Holding.changed_as c.self.inside.branches c.list.new.self c.args.own.now c.xid-xid.result.now
          (Holding.longer c.args.key.now) c.xid-xid.ensures c.in_ok-list.ensures.ok)
          (Holding.changed_as c.list.new.self c.unlist_refused.new.branches c.args.own.now c.xid-xid.result.now
          Holding.shorter c.xid-xid.ensures taken),
      err,
    ) c.self.invariant)

pub returns-clause-err : goal.returns-clause-err
unfolding Holding.longer Holding.shorter
returns-clause-err c =
    on_err_both c.hold-held.result c.hold-held.ensures.err c.unlist_refused.ensures.refused (λ err taken.
    ap (λ b. state_of b c.hold-held.new.self)
    (back c.self.inside.branches c.list.new.self c.unlist_refused.new.branches c.args.own.now c.args.key.now
    (Holding.changed_as c.self.inside.branches c.list.new.self c.args.own.now c.xid-xid.result.now
    (Holding.longer c.args.key.now) c.xid-xid.ensures c.in_ok-list.ensures.ok)
    (Holding.changed_as c.list.new.self c.unlist_refused.new.branches c.args.own.now c.xid-xid.result.now
    Holding.shorter c.xid-xid.ensures taken))
    ∙ ap (state_of c.self.inside.branches) err ∙ c.self.view_is)

pub returns-clause-ok : goal.returns-clause-ok
unfolding Holding.longer
returns-clause-ok c = on_ok_both c.hold-held.result c.hold-held.ensures.ok c.unlist_refused.ensures.held (λ ok kept.
    ap (λ b. state_of b c.hold-held.new.self)
    (kept ∙ (Holding.changed_as c.self.inside.branches c.list.new.self c.args.own.now c.xid-xid.result.now
    (Holding.longer c.args.key.now) c.xid-xid.ensures c.in_ok-list.ensures.ok))
    ∙ ap (state_of (with_record c.self.inside.branches c.args.own.now (Holding.longer c.args.key.now)))
    (held_as c.self.inside.rows _ c.args.own.now _ c.args.key.now c.args.change c.in_ok-holder.ensures ok)
    ∙ (anew c.self.inside.branches c.self.inside.rows c.args.self.now c.args.own.now c.args.key.now c.args.change
    c.self.view_is c.self.invariant
    c.requires.known c.requires.unheld
    (lock_in c.self.inside.rows c.args.own.now c.xid-xid.result.now c.args.key.now _ c.xid-xid.ensures
    c.if-is_held_by.ensures)).1)
