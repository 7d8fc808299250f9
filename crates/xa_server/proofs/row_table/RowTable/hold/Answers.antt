use Rattle.std.proofs.Common.{ap, ◌∙◌}
use Rattle.xa_server.{specs.Rows.held_row, proofs.Layers.{holds_known, holds_new}}
use Rattle.std.specs.FinMap as map
use Rattle.xa_server.proofs.row_table.RowTable.hold.Goals as goal

pub returns-in_default-clause-ok : goal.returns-in_default-clause-ok
returns-in_default-clause-ok c =
    holds_known c.args.key.now c.args.holder c.args.change c.self.inside.recent c.set_lock.new.recent c.self.inside.runs
    c.set_lock.result c.set_lock.ensures.changed c.set_lock.ensures.back c.in_default.is
    ∙ ap (λ rows. map.insert rows c.args.key.now (held_row c.args.holder c.args.change (map.get rows c.args.key.now)))
    c.self.view_is

pub returns-clause-ok : goal.returns-clause-ok
returns-clause-ok c =
    holds_new c.args.key.now c.args.holder c.args.change c.self.inside.recent c.set_lock.new.recent c.insert.new.self
    c.self.inside.runs c.set_lock.result c.in-Some.lock
    c.set_lock.ensures.changed c.set_lock.ensures.back c.in-Some.is
    (rw (← c.copy.ensures) c.in_ok-insert.ensures.updates)
    ∙ ap (λ rows. map.insert rows c.args.key.now (held_row c.args.holder c.args.change (map.get rows c.args.key.now)))
    c.self.view_is
