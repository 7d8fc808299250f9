use Rattle.std.proofs.Common.{subst, [], ◌∷◌}
use Rattle.xa_server.specs.{Rows.{RowMap, Frees}, Layers.layered}
use Rattle.xa_server.proofs.Layers.{recent_in, frees_kept, frees_dropped}
use Rattle.xa_server.proofs.row_table.RowTable.free.Goals as goal

pub returns-then-not-free_in : goal.returns-then-not-free_in
returns-then-not-free_in c =
    let P : RowMap → Type 0 = λ rows. Frees c.args.commits c.args.xid.now (c.args.key.now ∷ []) rows
    (layered (recent_in c.take_out.new.recent) c.self.inside.runs) in
    subst P c.self.view_is
    (frees_dropped c.args.commits c.args.xid.now c.args.key.now c.self.inside.recent c.free_in.new.recent
    c.take_out.new.recent c.self.inside.runs c.is_empty-is_alone.result c.free_in.result c.is_empty-is_alone.ensures
    c.free_in.ensures.changed c.free_in.ensures.needed c.if-not-free_in.true c.take_out.ensures)

pub returns-else-not-free_in : goal.returns-else-not-free_in
returns-else-not-free_in c =
    let P : RowMap → Type 0 = λ rows. Frees c.args.commits c.args.xid.now (c.args.key.now ∷ []) rows
    (layered (recent_in c.free_in.new.recent) c.self.inside.runs) in
    subst P c.self.view_is
    (frees_kept c.args.commits c.args.xid.now c.args.key.now c.self.inside.recent c.free_in.new.recent
    c.self.inside.runs c.free_in.ensures.changed)
