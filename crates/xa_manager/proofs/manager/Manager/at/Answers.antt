use Rattle.std.proofs.Common.{[], ap, refl, inr, rules}
use Rattle.xa_coordinator.proofs.Keeping.{at_place, changes_at}
use Rattle.xa_manager.specs.{declared.response.Response.TheVariants.Replied, Said.IsGiven}
use Rattle.xa_manager.proofs.manager.Manager.at.Goals as goal

pub returns : goal.returns
returns g c =
    let was = c.args.self.now in
    let view = g.T.Speak.view in
    let old = c.index_mut.result.now in
    let new = c.reply_from.new.session in
    inr (record {
      answer = c.reply_from.result;
      known = search rules;
      told = ap (λ convert. Replied convert c.reply_from.result) c.converts.ensures;
      replies = at_place view [] (IsGiven c.args.statement.now c.reply_from.result) was.other_clients.items c.args.store
          old new c.index_mut.ensures.value
          c.reply_from.ensures;
      others = changes_at was.other_clients.items c.args.store new;
      stands = refl;
    })
