use Rattle.std.{proofs.Common.{◌≡◌, ◌++◌, map}, specs.Vec.Iter.into_iter_items}
use Rattle.xa_server.specs.Parts.{all_rewritten, AllAscend}
use Rattle.xa_server.proofs.runs.all_rewritten.Given as goal

-- the parts so far, and those that are left rewritten, are all
abbrev pub invariant-loop-rows : goal.invariant-loop-rows
invariant-loop-rows l = record {
  all : l.made.items ++ all_rewritten (map (λ list. list.items) (into_iter_items l.rows-iterator)) l.left
      ≡ all_rewritten (map (λ list. list.items) l.fn.lists.items) l.parts;
  ascend : AllAscend (map (λ list. list.items) (into_iter_items l.rows-iterator));
}
