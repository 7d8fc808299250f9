use Rattle.std.proofs.Common.{◌∙◌, ◌+◌, ℕ, ap, sym, subst, arith}
use Rattle.xa_coordinator.proofs.Walk.{Reached}
use Rattle.xa_manager.{specs.{Beside.within, Said.IsListed}, proofs.Besides.{listed_beside, leaves_next}}
use Rattle.xa_manager.proofs.beside.listed_beside.Goals as goal

pub loop-store-preserved : goal.loop-store-preserved
loop-store-preserved g c =
    let old = c.args.coordinator.now.stores.items in
    let now = c.loop-store.coordinator.stores.items in
    let next = c.execute_other.new.self.stores.items in
    let store : ℕ = c.loop-store.store in
    let so_far = c.loop-store.invariant in
    let said = c.execute_other.ensures in
    let other = within g.S.Beside.other in
    let more =
    listed_beside other c.loop-store.answers.items c.execute_other.result c.reply_in.result store old now next
    (sym c.loop-store.answers.ok.0 ∙ so_far.count) c.reply_in.ensures so_far.listed said.others said.given in
    record {
      name = said.name ∙ so_far.name;
      branches = said.branches ∙ so_far.branches;
      listed = subst (λ answers. Reached other (IsListed answers) (store + 1) old next)
          (sym c.push_reserved.ensures.items) more;
      alone = leaves_next g.S.Speak.view store old now next so_far.listed.count so_far.alone said.others said.alone
          said.left;
      count = c.push_reserved.ensures.len ∙ ap (λ n. n + 1) so_far.count;
      room = omega (arith, so_far.room, c.push_reserved.ensures.capacity);
    }
