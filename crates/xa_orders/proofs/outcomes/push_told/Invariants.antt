use Rattle.std.proofs.Common.{◌≡◌, ◌++◌, drop}
use Rattle.xa_orders.specs.Orders.{told_text, told_state}
use Rattle.xa_orders.proofs.outcomes.push_told.Given as goal

abbrev pub invariant-loop-line : goal.invariant-loop-line
invariant-loop-line l = record {
  text : l.initial.text.items ++ told_text l.initial.server l.lines ≡ l.text.items
      ++ told_text l.server (drop l.line-index l.lines);
  server : told_state l.initial.server l.lines ≡ told_state l.server (drop l.line-index l.lines);
}
