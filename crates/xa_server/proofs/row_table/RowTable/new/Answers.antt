use Rattle.std.{proofs.Common.{ap, sym, ◌∙◌}, specs.FinMap.same_map}
use Rattle.xa_xid.{specs.Xid.bytes_cmp, proofs.Orders.{bytes_total, exact_texts}}
use Rattle.xa_server.{specs.Layers.{layered, row_over}, proofs.Layers.{get-layered, row_nowhere}}
use Rattle.std.specs.FinMap as map
use Rattle.xa_server.proofs.row_table.RowTable.new.Goals as goal

pub returns : goal.returns
returns c =
    (λ i. layered (map.from_entries {R = bytes_cmp} (c.new.ensures.empty i)) (c.new-2.ensures i))
    ∙ same_map bytes_total exact_texts _ _ (λ q.
    get-layered map.empty map.empty q
    ∙ (λ i. row_over (map.get-empty bytes_cmp q i) (map.get-empty bytes_cmp q i))
    ∙ row_nowhere ∙ sym (map.get-empty bytes_cmp q))
