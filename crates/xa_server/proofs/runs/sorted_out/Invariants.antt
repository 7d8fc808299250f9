use Rattle.std.{proofs.Common.{◌≡◌, length, map}, specs.Vec.Iter.into_iter_items}
use Rattle.xa_server.{specs.Parts.sorted_out, proofs.Parted.joined}
use Rattle.xa_server.proofs.runs.sorted_out.Given as goal

-- the lists so far, and what is left sorted out, are all
abbrev pub invariant-loop-row : goal.invariant-loop-row
invariant-loop-row l = record {
  all : joined (map (λ list. list.items) l.lists.items) (sorted_out 64 0 (into_iter_items l.row-iterator)) ≡ sorted_out 64 0 l.fn.rows.items;
  count : length l.lists.items ≡ 64;
}
