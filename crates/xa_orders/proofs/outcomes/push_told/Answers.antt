use Rattle.std.proofs.Common.{◌++◌, ◌∙◌, sym, ap, append-nil}
use Rattle.xa_orders.specs.Orders.{told_text, told_state}
use Rattle.xa_orders.proofs.Ends.{told_step, told_state_step, told_text-end, told_state-end}
use Rattle.xa_orders.proofs.outcomes.push_told.Goals as goal

pub loop-line-preserved : goal.loop-line-preserved
loop-line-preserved c =
    let lines = c.args.lines.now in
    let state = c.loop-line.server in
    let new = c.answer_statement.new.server in
    record {
      text =
          told_step state new lines c.loop-line.line-index c.line-item.result c.session-session.result
          c.text-said.result.now
          (c.args.text.now.items ++ told_text c.args.server.now lines) c.loop-line.text.items
          c.in_ok-answer.answer.items c.extend_from_slice.new.self.items
          c.loop-line-test.true c.line-item.is c.session-session.ensures c.text-said.ensures
          c.in_ok-answer.ensures.answer c.in_ok-answer.ensures.after
          (c.in_ok-extend_from_slice.ensures.items ∙ ap (λ t. c.loop-line.text.items ++ t) c.as_slice.ensures.value)
          c.loop-line.invariant.text;
      server =
          told_state_step state state new lines c.loop-line.line-index c.line-item.result c.session-session.result
          c.text-said.result.now
          (told_state c.args.server.now lines) c.loop-line-test.true c.line-item.is c.session-session.ensures
          c.text-said.ensures c.in_ok-answer.ensures.after
          c.loop-line.invariant.server;
    }

pub returns-clause-text : goal.returns-clause-text
returns-clause-text c =
    sym
    (c.loop-line.invariant.text ∙ ap (λ t. c.loop-line.text.items ++ t)
    (told_text-end c.loop-line.server c.args.lines.now c.loop-line.line-index c.loop-line-test.false)
    ∙ append-nil c.loop-line.text.items)

pub returns-clause-server : goal.returns-clause-server
returns-clause-server c =
    sym (c.loop-line.invariant.server ∙ told_state-end c.loop-line.server c.args.lines.now c.loop-line.line-index
    c.loop-line-test.false)
