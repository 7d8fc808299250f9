use Rattle.std.proofs.Common.{[], ◌∷◌, ◌++◌, ap, sym, ◌∙◌, append-nil}
use Rattle.xa_server.{specs.Tables.prepared_keys, proofs.Sorted.{goes_in, stays_out}}
use Rattle.xa_server.proofs.branch_table.prepared_in.Goals as goal

pub loop-xid-init : goal.loop-xid-init
loop-xid-init c =
    ap (λ xs. xs ++ prepared_keys c.into_iter-xid-iterator.result) c.new-xids.ensures.items
    ∙ ap prepared_keys c.into_iter-xid-iterator.ensures.into_iter_gives.0

pub loop-xid-preserved-in-Continue-1 : goal.loop-xid-preserved-in-Continue-1
loop-xid-preserved-in-Continue-1 c =
    ap (λ xs. xs ++ prepared_keys c.next.new.self) (c.in_ok-push.ensures.items
    ∙ ap (λ x. c.loop-xid.xids.items ++ x ∷ []) c.copy.ensures)
    ∙ goes_in c.loop-xid.xids.items _ c.loop-xid.xid-iterator c.next.new.self c.in-Some.xid.now c.in-Some.branch.now
    c.loop-xid.invariant
    c.in-Some.ensures.steps (sym c.if-is_prepared.ensures)

pub loop-xid-preserved : goal.loop-xid-preserved
loop-xid-preserved c =
    stays_out c.loop-xid.xids.items _ c.loop-xid.xid-iterator c.next.new.self c.in-Some.xid.now c.in-Some.branch.now
    c.loop-xid.invariant
    c.in-Some.ensures.steps (sym c.if-is_prepared.ensures)

pub returns-clause-listed : goal.returns-clause-listed
returns-clause-listed c =
    sym (append-nil c.loop-xid.xids.items) ∙ ap (λ es. c.loop-xid.xids.items ++ prepared_keys es)
    (sym c.in-None.ensures.steps.0) ∙ c.loop-xid.invariant
