use Rattle.std.proofs.Common.{◌≡◌, true, length, sym, ◌∙◌, subst, arith}
use Rattle.decision_log.specs.{Calls.IsAdded, declared.known.Known.Known}
use Rattle.xa_server.specs.State.{State}
use Rattle.xa_session.specs.{Answer.entry_of, declared.answer.Answer.Answer}
use Rattle.xa_session.proofs.Answering.{replied, answered_entered, kept_entered}
use Rattle.xa_session.proofs.replica.Replica.attempt.Goals as goal

pub returns-clause-answers : goal.returns-clause-answers
returns-clause-answers g c =
    let Kn = g.L.DecisionLog.known in
    let old : Known = Kn c.args.pass.now in
    let mid : Known = Kn c.observe.new.pass in
    let new : Known = Kn c.add.new.pass in
    let base : State = c.args.base.now in
    let replica = c.observe.new.self in
    let stands = c.observe.ensures.stands.state in
    let session = c.number-session.result in
    let statement = c.args.statement.now in
    let answer : Answer = record { place = c.in_ok-place.place; reply = c.in_ok-reply.reply } in
    let place : answer.place ≡ length mid.seen = c.in_ok-place.ensures.length in
    let is =
    replied base statement answer true mid replica.server session replica.replayed place stands
    c.in_ok-place.ensures.catches_up c.number-session.ensures
    c.in_ok-reply.ensures.reply
    (sym c.if-not-enters.false ∙ c.in_ok-reply.ensures.enters) in (
      answered_entered base statement answer old mid new c.observe.ensures.looked is
          (subst (λ n. IsAdded (entry_of n statement) mid new) c.number-session.ensures c.in_ok-add.ensures.added),
      omega (arith, place, c.in_ok-place.ensures.catches_up, c.add.ensures.folds),
      kept_entered base statement answer (entry_of session statement) mid new c.add.new.self
          replica.server session replica.replayed place stands c.in_ok-place.ensures.catches_up c.number-session.ensures
          c.in_ok-add.ensures.added
          c.in_ok-add.ensures.kept,
    )
