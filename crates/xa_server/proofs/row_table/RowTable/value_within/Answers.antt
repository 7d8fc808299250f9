use Rattle.std.{proofs.Common.{ap, sym, ◌∙◌}, specs.Option.unwrap_or}
use Rattle.xa_xid.specs.Xid.{bytes_cmp}
use Rattle.xa_server.specs.{Rows.{committed_of, value_seen, write_in}, Layers.{recent_lock, row_over}}
use Rattle.xa_server.proofs.Layers.{row_seen, value_over}
use Rattle.std.specs.BTreeMap as tree
use Rattle.std.specs.FinMap as map
use Rattle.xa_server.proofs.row_table.RowTable.value_within.Goals as goal

pub returns-in-Some : goal.returns-in-Some
returns-in-Some c =
    ap (λ write. unwrap_or write (committed_of (row_over (tree.get bytes_cmp c.self.inside.recent c.args.key.now)
    (map.get c.self.inside.runs c.args.key.now))))
    (sym c.in-Some.is ∙ c.written_by.ensures ∙ ap (λ r. write_in c.args.own.now (recent_lock r)) c.get.ensures.value)
    ∙ sym (value_over c.args.own.now (tree.get bytes_cmp c.self.inside.recent c.args.key.now)
    (map.get c.self.inside.runs c.args.key.now))
    ∙ ap (value_seen c.args.own.now) (row_seen c.self.inside.recent c.self.inside.runs c.args.self.now c.args.key.now
    c.self.view_is)

pub returns-in-None : goal.returns-in-None
returns-in-None c =
    c.committed.ensures
    ∙ sym (ap committed_of (row_seen c.self.inside.recent c.self.inside.runs c.args.self.now c.args.key.now
    c.self.view_is))
    ∙ ap (λ write. unwrap_or write (committed_of (row_over (tree.get bytes_cmp c.self.inside.recent c.args.key.now)
    (map.get c.self.inside.runs c.args.key.now))))
    (sym c.in-None.is ∙ c.written_by.ensures ∙ ap (λ r. write_in c.args.own.now (recent_lock r)) c.get.ensures.value)
    ∙ sym (value_over c.args.own.now (tree.get bytes_cmp c.self.inside.recent c.args.key.now)
    (map.get c.self.inside.runs c.args.key.now))
    ∙ ap (value_seen c.args.own.now) (row_seen c.self.inside.recent c.self.inside.runs c.args.self.now c.args.key.now
    c.self.view_is)
