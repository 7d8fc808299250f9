use Rattle.std.proofs.Common.{rules}
use Rattle.xa_server.{specs.Layers.held_as_below, proofs.Layers.{puts_next, all_put}}
use Rattle.xa_server.proofs.row_table.held_records.Goals as goal

pub loop-key-preserved : goal.loop-key-preserved
loop-key-preserved c q =
    puts_next held_as_below c.args.recent.now.entries c.loop-key.held c.add_held.new.held c.in-Some.key.now
    c.in-Some.row.now c.next.new.self c.loop-key.key-iterator q c.in-Some.ensures.steps (c.in_ok-add_held.ensures q)
    (c.loop-key.invariant q)

pub returns-clause-held : goal.returns-clause-held
returns-clause-held c q =
    all_put held_as_below c.args.recent.now c.loop-key.held c.loop-key.key-iterator q (search rules)
    c.in-None.ensures.steps.0 (c.loop-key.invariant q)
