use Rattle.std.proofs.Common.{◌≡◌, ◌∙◌, vec_len, ap, refl, sym, subst, inr, rules}
use Rattle.xa_coordinator.{specs.Beside.IsAnsweredSo, proofs.Walk.at_weaker}
use Rattle.xa_manager.specs.{declared.response.Response.TheVariants.Replied, Beside.within, Said.IsGiven}
use Rattle.xa_manager.proofs.{States.same_open, Besides.{given_so, leaves_none, leaves_next}}
use Rattle.xa_manager.proofs.beside.Manager+Fused+S+T.at_beside.Goals as goal

pub returns : goal.returns
returns g c =
    let was = c.args.self.now.coordinator.stores in
    let now = c.execute_other.new.self.stores in
    let said = c.execute_other.ensures in
    let statement = c.args.statement.now in
    let count : vec_len now ≡ vec_len was = now.ok.0 ∙ said.others.count ∙ sym was.ok.0 in
    inr (record {
      answer = c.reply_in.result;
      known = search rules;
      told = ap (λ convert. Replied convert c.reply_in.result) c.converts.ensures;
      replies =
          at_weaker (within g.S.Beside.other) c.args.store (IsAnsweredSo statement c.execute_other.result)
          (IsGiven statement c.reply_in.result)
          (λ a b is. subst (λ r. IsGiven statement r a b) (sym c.reply_in.ensures)
          (given_so statement c.execute_other.result a b is)) was.items now.items
          said.given;
      others = said.others;
      alone = leaves_next g.S.Speak.view c.args.store was.items was.items now.items refl
          (leaves_none g.S.Speak.view was.items) said.others said.alone said.left;
      stands = same_open _ _ _ _ _ _ _ _ count said.branches;
    })
