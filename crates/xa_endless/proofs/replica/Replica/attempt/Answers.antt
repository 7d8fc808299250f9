use Rattle.std.proofs.Common.{◌≡◌, true, length, sym, ◌∙◌, subst, arith}
use Rattle.decision_log.specs.{Calls.IsAdded, declared.known.Known.Known}
use Rattle.chain_log.specs.RingPass.{known_of}
use Rattle.xa_server.specs.State.{no_state}
use Rattle.xa_session.specs.{Answer.entry_of, declared.answer.Answer.Answer}
use Rattle.xa_session.proofs.Answering.{replied, answered_entered, kept_entered}
use Rattle.xa_endless.specs.Replicas.{kept_of}
use Rattle.xa_endless.proofs.replica.Replica.attempt.Goals as goal

pub returns-in-Ok-clause-finds : goal.returns-in-Ok-clause-finds
returns-in-Ok-clause-finds c =
    let old : Known = known_of c.args.pass.now in
    let mid : Known = known_of c.observe.new.pass in
    let new : Known = known_of c.add.new.pass in
    let replica = c.observe.new.self in
    let stands = c.observe.ensures.stands.state in
    let session = c.number-session.result in
    let statement = c.args.statement.now in
    let answer : Answer = record { place = c.in_ok-place.place; reply = c.in_ok-reply.reply } in
    let place : answer.place ≡ length mid.seen = c.in_ok-place.ensures.length in
    let is =
    replied no_state statement answer true mid replica.server session replica.replayed place stands
    c.in_ok-place.ensures.catches_up c.number-session.ensures
    c.in_ok-reply.ensures.reply
    (sym c.if-not-enters.false ∙ c.in_ok-reply.ensures.enters) in
    record {
      answered = answered_entered no_state statement answer old mid new c.observe.ensures.looked is
          (subst (λ n. IsAdded (entry_of n statement) mid new) c.number-session.ensures c.in-Ok.ensures.added);
      replayed = omega (arith, place, c.in_ok-place.ensures.catches_up, c.add.ensures.folds);
      kept = kept_entered no_state statement answer (entry_of session statement) mid new (kept_of c.add.new.self)
          replica.server session replica.replayed place stands c.in_ok-place.ensures.catches_up c.number-session.ensures
          c.in-Ok.ensures.added
          c.in-Ok.ensures.kept;
    }
