use Rattle.std.proofs.Common.{ap, sym, ◌∙◌}
use Rattle.xa_server.{specs.Rows.{with_sharer, shared_row}, proofs.Outcomes.err_value}
use Rattle.xa_server.proofs.Layers.{put_back, shares_known, shares_new}
use Rattle.std.specs.FinMap as map
use Rattle.xa_server.proofs.row_table.RowTable.share.Goals as goal

pub returns-in_err-share_in-clause-err : goal.returns-in_err-share_in-clause-err
returns-in_err-share_in-clause-err c =
    err_value c.from_residual.result
    (put_back c.args.key.now c.self.inside.recent c.share_in.new.recent c.self.inside.runs c.in_err-share_in.ensures.err
    ∙ c.self.view_is)

pub returns-then-branch-clause-ok : goal.returns-then-branch-clause-ok
returns-then-branch-clause-ok c =
    shares_known c.args.xid.now c.args.key.now c.self.inside.recent c.share_in.new.recent c.self.inside.runs
    c.in_ok-share_in.ensures.ok (sym c.in_ok-share_in.ensures.found ∙ c.if-branch.true)
    ∙ ap (λ rows. map.insert rows c.args.key.now (shared_row c.args.xid.now (map.get rows c.args.key.now)))
    c.self.view_is

pub returns-clause-ok : goal.returns-clause-ok
returns-clause-ok c =
    shares_new c.args.xid.now c.args.key.now c.self.inside.recent c.share_in.new.recent c.insert.new.self
    c.self.inside.runs c.share.new.self c.in_ok-share_in.ensures.ok
    (sym c.in_ok-share_in.ensures.found ∙ c.if-branch.false)
    (c.in_ok-share.ensures.ok ∙ ap (with_sharer c.args.xid.now) c.nobodys-lock.ensures)
    (rw (← c.copy.ensures) c.in_ok-insert.ensures.updates)
    ∙ ap (λ rows. map.insert rows c.args.key.now (shared_row c.args.xid.now (map.get rows c.args.key.now)))
    c.self.view_is
