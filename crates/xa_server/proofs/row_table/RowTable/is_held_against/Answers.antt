use Rattle.std.proofs.Common.{ap, sym, ◌∙◌}
use Rattle.xa_xid.specs.Xid.{bytes_cmp}
use Rattle.xa_server.{specs.{Rows.{held_against, held_beside}, Layers.recent_lock}, proofs.Layers.{row_seen, held_over}}
use Rattle.std.specs.BTreeMap as tree
use Rattle.std.specs.FinMap as map
use Rattle.xa_server.proofs.row_table.RowTable.is_held_against.Goals as goal

pub returns : goal.returns
returns c =
    c.is_held_against.ensures
    ∙ ap (λ r. held_beside c.args.association.now (recent_lock r)) c.get.ensures.value
    ∙ sym (held_over c.args.association.now (tree.get bytes_cmp c.self.inside.recent c.args.key.now)
    (map.get c.self.inside.runs c.args.key.now))
    ∙ ap (held_against c.args.association.now)
    (row_seen c.self.inside.recent c.self.inside.runs c.args.self.now c.args.key.now c.self.view_is)
