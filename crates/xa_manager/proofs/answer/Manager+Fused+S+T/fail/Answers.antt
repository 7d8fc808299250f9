use Rattle.std.proofs.Common.{◌≡◌, ◌∙◌, vec_len, refl, inr, sym, rules}
use Rattle.xa_manager.proofs.{States.same_open, Said.as_many}
use Rattle.xa_manager.proofs.answer.Manager+Fused+S+T.fail.Goals as goal

pub returns : goal.returns
returns g c =
    let was = c.args.self.now.coordinator.stores in
    let now = c.allow.new.self.stores in
    let count : vec_len now ≡ vec_len was = now.ok.0 ∙ as_many _ _ c.allow.ensures.sessions ∙ sym was.ok.0 in
    inr (record {
      known = search rules;
      told = refl;
      limited = record
          { there = c.allow.ensures.left; others = c.allow.ensures.others; within = c.allow.ensures.sessions };
      stands = same_open _ _ _ _ _ _ _ _ count c.allow.ensures.branches;
    })
