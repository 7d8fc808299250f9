use Rattle.std.{proofs.Common.{ap, sym, ◌∙◌}, specs.Option.unwrap_or}
use Rattle.xa_xid.specs.Xid.{bytes_cmp}
use Rattle.xa_server.{specs.{Rows.committed_of, Layers.change_at}, proofs.Layers.{row_seen, committed_over}}
use Rattle.std.specs.BTreeMap as tree
use Rattle.std.specs.FinMap as map
use Rattle.xa_server.proofs.row_table.RowTable.committed.Goals as goal

pub returns-in-Some : goal.returns-in-Some
returns-in-Some c =
    ap (λ change. unwrap_or change (map.get c.self.inside.runs c.args.key.now))
    (sym c.in-Some.is ∙ c.changed_value.ensures ∙ ap change_at c.get.ensures.value)
    ∙ sym (committed_over (tree.get bytes_cmp c.self.inside.recent c.args.key.now)
    (map.get c.self.inside.runs c.args.key.now))
    ∙ ap committed_of (row_seen c.self.inside.recent c.self.inside.runs c.args.self.now c.args.key.now c.self.view_is)

pub returns-in-None : goal.returns-in-None
returns-in-None c =
    c.get-in-None.ensures
    ∙ ap (λ change. unwrap_or change (map.get c.self.inside.runs c.args.key.now))
    (sym c.in-None.is ∙ c.changed_value.ensures ∙ ap change_at c.get.ensures.value)
    ∙ sym (committed_over (tree.get bytes_cmp c.self.inside.recent c.args.key.now)
    (map.get c.self.inside.runs c.args.key.now))
    ∙ ap committed_of (row_seen c.self.inside.recent c.self.inside.runs c.args.self.now c.args.key.now c.self.view_is)
