use Rattle.std.proofs.Common.{◌≡◌, ◌∙◌, ap, sym, refl, inl, inr}
use Rattle.xa_manager.specs.{Calls.call_of, Texts.answer_text, declared.call.Call.TheVariants.Silent as SilentCall}
use Rattle.xa_manager.{specs.{declared.response.Response.TheVariants.Silent, Managed.whole_of}, proofs.Said.performed}
use Rattle.xa_manager.proofs.call_server.CallServerFusedLineServer.answer.Goals as goal

pub returns-in-Silent : goal.returns-in-Silent
returns-in-Silent g c =
    let said : call_of c.args.line.now ≡ SilentCall = sym c.read_call-call.ensures.call ∙ c.in-Silent.is in
    rw said
    (inl (
      Silent,
      inr (refl, refl),
      c.new.ensures,
    ))

pub returns-in-Ok-write_response : goal.returns-in-Ok-write_response
returns-in-Ok-write_response g c =
    let response = c.in-Ok-answer.response in
    let answered = c.in-Ok-answer.is in
    let was = c.in-Ok-answer.ensures in
    inl (
      response,
      performed g.S.Speak.view g.T.Speak.view (whole_of c.args.self.now.manager)
          (whole_of c.answer.new.self) c.read_call-call.result (call_of c.args.line.now)
          response c.read_call-call.ensures.call
          was.answers,
      c.in-Ok-write_response.ensures.text ∙ ap (λ decisions. answer_text decisions response) c.decisions.ensures,
    )

pub returns : goal.returns
returns g c =
    let response = c.in-Ok-answer.response in
    let answered = c.in-Ok-answer.is in
    let was = c.in-Ok-answer.ensures in
    inr (record {
      speaks = λ silent. c.in_default.not-Silent (c.read_call-call.ensures.call ∙ silent);
      told = c.refusal-in-Err.ensures;
      stands = inr (
        response,
        c.in-Err.ensures.few,
        performed g.S.Speak.view g.T.Speak.view (whole_of c.args.self.now.manager)
            (whole_of c.answer.new.self) c.read_call-call.result (call_of c.args.line.now)
            response c.read_call-call.ensures.call
            was.answers,
      );
    })
