use Rattle.std.proofs.Common.{sym}
use Rattle.xa_manager.specs.{declared.response.Response.Response, Beside.PerformsBeside, Managed.whole_of}
use Rattle.xa_manager.{specs.Whole.Performs, proofs.Besides.{performed_beside, if_ok_map}}
use Rattle.xa_manager.proofs.beside.Manager+Fused+S+T.answer_beside.Goals as goal

pub returns-in-At-clause-answers : goal.returns-in-At-clause-answers
returns-in-At-clause-answers g c = rw c.in-At.is c.at_beside.ensures

pub returns-in_default : goal.returns-in_default
returns-in_default g c =
    let view = g.S.Speak.view in
    let other = g.S.Beside.other in
    let nobody = g.T.Speak.view in
    let old = whole_of c.args.self.now in
    let new = whole_of c.answer.new.self in
    let call = c.args.call.now in
    let P : Response → Type 0 = λ response. Performs view nobody old call response new in
    let Q : Response → Type 0 = λ response. PerformsBeside view other nobody old call response new in
    record {
      answers = if_ok_map P Q c.answer.result
          (λ response performs. performed_beside view other g.met.S.Beside.steady nobody old new
          (sym c.args.self.now.coordinator.stores.ok.0)
          (sym c.answer.new.self.coordinator.stores.ok.0) call response
          (λ store statement is. c.in_default.not-At store statement is) c.in_default.not-Show
          performs)
          c.answer.ensures.answers;
      nothing = c.answer.ensures.nothing;
    }
