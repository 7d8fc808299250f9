use Rattle.std.{proofs.Common.{ap, sym, ◌∙◌}, specs.{Prelude.is_some, Option.option_and_then}}
use Rattle.xa_xid.specs.Xid.{bytes_cmp}
use Rattle.xa_server.{specs.{Rows.{mode_in, lock_by}, Layers.recent_lock}, proofs.Layers.{row_seen, mode_over}}
use Rattle.std.specs.BTreeMap as tree
use Rattle.std.specs.FinMap as map
use Rattle.xa_server.proofs.row_table.RowTable.is_held_by.Goals as goal

pub returns : goal.returns
returns c =
    c.is_held_by.ensures
    ∙ ap (λ r. is_some (mode_in c.args.own.now (recent_lock r))) c.get.ensures.value
    ∙ sym (ap is_some (mode_over c.args.own.now (tree.get bytes_cmp c.self.inside.recent c.args.key.now)
    (map.get c.self.inside.runs c.args.key.now)))
    ∙ ap (λ row. is_some (option_and_then (lock_by c.args.own.now) row))
    (row_seen c.self.inside.recent c.self.inside.runs c.args.self.now c.args.key.now c.self.view_is)
