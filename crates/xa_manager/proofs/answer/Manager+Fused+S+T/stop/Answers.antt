use Rattle.std.proofs.Common.{◌≡◌, ◌∙◌, Vec, Global, vec_len, ap, map, refl, sym, rules}
use Rattle.xa_coordinator.specs.declared.fused.Fused.{Fused}
use Rattle.xa_manager.proofs.{States.same_whole, Said.as_many}
use Rattle.xa_manager.proofs.answer.Manager+Fused+S+T.stop.Goals as goal

pub returns : goal.returns
returns g c =
    let was = c.args.self.now.coordinator.stores in
    let now = c.restart.new.self.stores in
    let within =
    ap (λ (stores : Vec (Fused g.row.S.Denot) Global). map
    (λ session. session.inner) stores.items) c.restart.ensures.stores ∙ c.allow_all.ensures.sessions in
    let count : vec_len now ≡ vec_len was = now.ok.0 ∙ as_many _ _ within ∙ sym was.ok.0 in
    record { told = refl; anew = search rules; within = within; stands = same_whole _ _ _ _ _ _ _ _ _ count refl refl }
