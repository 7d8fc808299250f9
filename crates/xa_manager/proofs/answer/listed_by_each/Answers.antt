use Rattle.std.{proofs.Common.{◌∙◌, ◌+◌, ℕ, ap, sym, subst, arith}, specs.Prelude.slice_set}
use Rattle.xa_coordinator.proofs.Walk.{Reached, reached_all}
use Rattle.xa_manager.{specs.Said.IsListed, proofs.Said.listed_more}
use Rattle.xa_manager.proofs.answer.listed_by_each.Goals as goal

pub loop-store-preserved : goal.loop-store-preserved
loop-store-preserved g c =
    let view = g.T.Speak.view in
    let old = c.args.other_clients.now in
    let now = c.loop-store.other_clients in
    let store : ℕ = c.loop-store.store in
    let so_far = c.loop-store.invariant in
    let after = c.reply_from.new.session in
    let more =
    listed_more view c.loop-store.answers.items c.reply_from.result store old now c.index-other_clients-store.result
    after
    (sym c.loop-store.answers.ok.0 ∙ so_far.count) so_far.listed c.index-other_clients-store.is c.reply_from.ensures in
    record {
      listed = subst (λ answers. Reached view (IsListed answers) (store + 1) old (slice_set now store after))
          (sym c.push_reserved.ensures.items) more;
      count = c.push_reserved.ensures.len ∙ ap (λ n. n + 1) so_far.count;
      room = omega (arith, so_far.room, c.push_reserved.ensures.capacity);
    }

pub returns-clause-listed : goal.returns-clause-listed
returns-clause-listed g c =
    reached_all g.T.Speak.view (IsListed c.loop-store.answers.items) c.loop-store.store c.args.other_clients.now
    c.loop-store.other_clients
    c.loop-store.invariant.listed
    (omega (arith, c.loop-store-test.false))
