use Rattle.std.proofs.Common.{ap, ◌∙◌, Some}
use Rattle.xa_server.specs.declared.{lock.Lock.TheVariants.Shared as SharedBy, row.RecentValue.TheVariants.Value}
use Rattle.xa_server.proofs.Layers.{layered_set, row_put}
use Rattle.std.specs.FinMap as map
use Rattle.std.specs.FinSet as set
use Rattle.xa_server.proofs.row_table.RowTable.put.Goals as goal

pub returns-clause-ok : goal.returns-clause-ok
returns-clause-ok c =
    layered_set c.self.inside.recent c.insert.new.self c.args.key.now
    (Some (record { value = Value c.args.value.now; lock = SharedBy set.empty }))
    (Some (record { committed = Some c.args.value.now; lock = SharedBy set.empty })) c.self.inside.runs
    (rw (← c.in_ok-of.ensures, ← c.nobodys.ensures, ← c.copy.ensures) c.in_ok-insert.ensures.updates)
    (row_put c.args.value.now (map.get c.self.inside.runs c.args.key.now))
    ∙ ap (λ m. map.insert m c.args.key.now
    (record { committed = Some c.args.value.now; lock = SharedBy set.empty })) c.self.view_is
