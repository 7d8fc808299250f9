use Rattle.std.proofs.Common.{◌≡◌, ◌∙◌, ap, sym, refl, inl, inr}
use Rattle.xa_manager.{specs.{Calls.call_of, Texts.answer_text, declared.call.Call.Call}, proofs.Besides.performed_said}
use Rattle.xa_manager.specs.{declared.response.Response.TheVariants.Silent, Managed.whole_of}
use Rattle.xa_manager.proofs.beside_server.BesideServerFusedLineServer.answer.Goals as goal

pub returns-in-Silent : goal.returns-in-Silent
returns-in-Silent g c =
    let said : call_of c.args.line.now ≡ Call.Silent = sym c.read_call-call.ensures.call ∙ c.in-Silent.is in
    rw said
    (inl (
      Silent,
      inr ((refl, refl), refl),
      c.new.ensures,
    ))

pub returns-in-Ok-write_response : goal.returns-in-Ok-write_response
returns-in-Ok-write_response g c =
    let response = c.in-Ok-answer_beside.response in
    let answered = c.in-Ok-answer_beside.is in
    let was = c.in-Ok-answer_beside.ensures in
    inl (
      response,
      performed_said g.S.Speak.view g.S.Beside.other g.T.Speak.view (whole_of c.args.self.now.manager)
          (whole_of c.answer_beside.new.self) c.read_call-call.result (call_of c.args.line.now)
          response c.read_call-call.ensures.call
          was.answers,
      c.in-Ok-write_response.ensures.text ∙ ap (λ decisions. answer_text decisions response) c.decisions.ensures,
    )

pub returns : goal.returns
returns g c =
    let response = c.in-Ok-answer_beside.response in
    let answered = c.in-Ok-answer_beside.is in
    let was = c.in-Ok-answer_beside.ensures in
    inr (record {
      speaks = λ silent. c.in_default.not-Silent (c.read_call-call.ensures.call ∙ silent);
      told = c.refusal-in-Err.ensures;
      stands = inr (
        response,
        c.in-Err.ensures.few,
        performed_said g.S.Speak.view g.S.Beside.other g.T.Speak.view (whole_of c.args.self.now.manager)
            (whole_of c.answer_beside.new.self) c.read_call-call.result (call_of c.args.line.now)
            response c.read_call-call.ensures.call
            was.answers,
      );
    })
