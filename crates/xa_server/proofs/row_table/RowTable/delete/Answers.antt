use Rattle.std.proofs.Common.{ap, ◌∙◌, sym, None, Some}
use Rattle.xa_xid.specs.Xid.{bytes_cmp}
use Rattle.xa_server.specs.declared.{lock.Lock.TheVariants.Shared as SharedBy, row.RecentValue.TheVariants.Gone}
use Rattle.xa_server.{specs.Layers.row_over, proofs.Layers.{layered_set, row_gone, row_nowhere}}
use Rattle.std.specs.FinMap as map
use Rattle.std.specs.FinSet as set
use Rattle.xa_server.proofs.row_table.RowTable.delete.Goals as goal

pub returns-then-is_empty-clause-ok : goal.returns-then-is_empty-clause-ok
returns-then-is_empty-clause-ok c =
    layered_set c.self.inside.recent c.take_out.new.recent c.args.key.now None None c.self.inside.runs
    c.take_out.ensures
    (ap (λ m. row_over None (map.get m c.args.key.now)) (c.is_empty.ensures c.if-is_empty.true)
    ∙ ap (row_over None) (map.get-empty bytes_cmp c.args.key.now) ∙ row_nowhere)
    ∙ ap (λ m. map.remove m c.args.key.now) c.self.view_is

pub returns-clause-ok : goal.returns-clause-ok
returns-clause-ok c =
    layered_set c.self.inside.recent c.insert.new.self c.args.key.now
    (Some (record { value = Gone; lock = SharedBy set.empty })) None c.self.inside.runs
    (rw (← c.nobodys.ensures, ← c.copy.ensures) c.in_ok-insert.ensures.updates)
    (row_gone (map.get c.self.inside.runs c.args.key.now))
    ∙ ap (λ m. map.remove m c.args.key.now) c.self.view_is
