use Rattle.std.proofs.Common.{sym, ◌∙◌}
use Rattle.xa_server.{specs.Layers.held_as_below, proofs.Layers.put_one}
use Rattle.xa_server.proofs.row_table.add_held.Goals as goal

pub returns : goal.returns
returns c q =
    put_one (held_as_below c.args.row.now) c.in-Some.copy c.args.held.now c.insert.new.self c.args.key.now q
    (sym c.in_ok-copy.ensures ∙ c.in-Some.is) (rw (← c.copy.ensures) c.in_ok-insert.ensures.updates)
