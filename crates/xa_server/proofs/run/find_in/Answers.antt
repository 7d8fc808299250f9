use Rattle.std.proofs.Common.{sym, ap, ◌∙◌}
use Rattle.xa_xid.{specs.Xid.bytes_cmp, proofs.Orders.{bytes_total, exact_texts}}
use Rattle.xa_server.{proofs.Merging.{search_front, search_here, search_back}, specs.Packed.seen}
use Rattle.xa_server.proofs.run.find_in.Goals as goal

pub loop-left-preserved-in-Less : goal.loop-left-preserved-in-Less
loop-left-preserved-in-Less c =
    let found = search_front bytes_total exact_texts c.args.key.now c.loop-left.left _ _ _ (seen c.in-Some.row) _ _
    c.split_at-front.ensures.front c.split_at-front.ensures.back c.in-Some.ensures.0
    c.loop-left.invariant.sorted c.loop-left.invariant.same
    (ap (λ k. bytes_cmp k c.in-Some.row.key.now) (sym c.as_slice.ensures.value) ∙ sym c.in-Less.ensures) in
    record { sorted = found.0; same = found.1 }

pub returns-in-Equal : goal.returns-in-Equal
returns-in-Equal c =
    rw c.copy_of_value.ensures
    (search_here bytes_total exact_texts c.args.key.now c.loop-left.left _ _ _ (seen c.in-Some.row) _ _
    c.split_at-front.ensures.front c.split_at-front.ensures.back c.in-Some.ensures.0
    c.loop-left.invariant.sorted c.loop-left.invariant.same
    (ap (λ k. bytes_cmp k c.in-Some.row.key.now) (sym c.as_slice.ensures.value) ∙ sym c.in-Equal.ensures))

pub loop-left-preserved : goal.loop-left-preserved
loop-left-preserved c =
    let found = search_back bytes_total exact_texts c.args.key.now c.loop-left.left _ _ _ (seen c.in-Some.row) _ _
    c.split_at-front.ensures.front c.split_at-front.ensures.back c.in-Some.ensures.0
    c.loop-left.invariant.sorted c.loop-left.invariant.same
    (ap (λ k. bytes_cmp k c.in-Some.row.key.now) (sym c.as_slice.ensures.value) ∙ sym c.in-Greater.ensures) in
    record { sorted = found.0; same = found.1 }
